-- 01, "The torrent", 27 and 28 of the files one by one: the layer found by a root's position is the layer that the value has for the
-- root, and the lowest number of all files is 27, 28 or 0 as the value says.
-- Assumes nothing.
use Rattle.std.specs.Prelude.{◌≡◌, Bool, not, ◌&&◌, ◌||◌, ℕ, ◌+◌, ◌-◌, drop, List, [], ◌∷◌, ◌++◌, Option, Some, None}
use Rattle.std.proofs.Math.Path.{refl, ap}
use Rattle.std.proofs.Common.{sym, ◌∙◌, append-nil, arith, eqb-true, ne_eqb}
use Rattle.std.proofs.Math.Bool.{true, false, cond}
use Rattle.std.proofs.Math.ListN.{length, length-append}
use Rattle.std.proofs.Math.Dec.{eqb}
use Rattle.limits.specs.Limits.{max_levels}
use Rattle.octets.specs.Octets.{cut, zero_hash}
use Rattle.numbers.specs.Numbers.{layers_amiss, layer_differs}
use Rattle.tree.specs.Geometry.{has_layer}
use Rattle.tree.proofs.GeometryLaws.{long_full}
use Rattle.bencode.specs.Grammar.{colon, Value, integer, string, list, dictionary, Entries, decimal, encode_string, encode, Valid}
use Rattle.bencode.specs.Scalar.{read_string}
use Rattle.bencode.specs.Parts.{find_key, Lookup, absent, present, lookup, FoundIs}
use Rattle.bencode.specs.CompleteLaws.{content_start}
use Rattle.bencode.specs.PartsLaws.{part_front, string_is, content_is, find_is}
use Rattle.bencode.specs.declared.part.Part.{Part}
use Rattle.filetree.specs.Tree.{Listed}
use Rattle.layers.specs.Layers.{string_in, layer_at, of_layer, number_by_layer, lower, worst}
use Rattle.meaning.specs.Torrent.{File, layer_fits, layers_fit, layer_bytes, gives_root, layers_give_roots}
use Rattle.joined.specs.Alike.{Alike, AllAlike}

-- a file that is not empty has its root in the bytes
pub alike_root : (s : List ℕ) (f : Listed) (v : File) → Alike s f v → (f.size ≡ 0 → ⊥) → v.root ≡ cut s f.root 32
alike_root s f v a n = a.root ∙ ap (λ (t : Bool). cond t zero_hash (cut s f.root 32)) (ne_eqb f.size 0 n)

-- the number of a file longer than the piece length, by what `piece layers` has for its root
abbrev pub layer_judged : ℕ → File → Lookup → ℕ
layer_judged plen v y = cond (layer_fits plen v y) (cond (gives_root plen v (layer_bytes y)) 0 layer_differs) layers_amiss

-- l are the bytes of `piece layers`
module _ (l : List ℕ) (plen : ℕ) (v : File) where
  -- a string is judged by its content
  judged_string : (a : ℕ) (b rest : List ℕ) → drop a l ≡ encode_string b ++ rest
      → of_layer l plen v.size v.root (read_string a (drop a l)) ≡ layer_judged plen v (present (string b))
  unfolding encode
  judged_string a b rest e =
      let la = length-append (decimal (length b)) (colon ∷ b) in
      let size : a + length (encode_string b) - content_start a b ≡ length b = omega arith in
      let content = content_is l b rest a e in
      let read = string_is (string b) a rest in
      ap (of_layer l plen v.size v.root) (ap (read_string a) e ∙ read) ∙ rw (content, size) refl

  -- and any other value is no layer
  judged_value : (a : ℕ) (u : Value) (rest : List ℕ) → drop a l ≡ encode u ++ rest → of_layer l plen v.size v.root (read_string a (drop a l)) ≡ layer_judged plen v (present u)
  unfolding encode
  judged_value a (integer minus n) rest e = rw (e, string_is (integer minus n) a rest) refl
  judged_value a (string b) rest e = judged_string a b rest e
  judged_value a (list us) rest e = rw (e, string_is (list us) a rest) refl
  judged_value a (dictionary es) rest e = rw (e, string_is (dictionary es) a rest) refl

  -- what is found is judged as what the dictionary has
  judged_found : (x : Option Part) (y : Lookup) → FoundIs l x y → of_layer l plen v.size v.root (string_in l x) ≡ layer_judged plen v y
  judged_found None absent p = refl
  judged_found None (present u) p = absurd p
  judged_found (Some w) absent p = absurd p
  judged_found (Some w) (present u) p = judged_value w.start u (drop (w.end - w.start) (drop w.start l)) (part_front l w.start w.end u p)

-- ---- one file, and all

-- a search in all of `piece layers`
pub find_layer : (l : List ℕ) (ls : Entries) → l ≡ encode (dictionary ls) → Valid (dictionary ls) max_levels → (key : List ℕ) → FoundIs l (find_key key 0 l) (lookup key ls)
find_layer l ls bytes valid key = find_is key l 0 ls [] (bytes ∙ sym (append-nil (encode (dictionary ls)))) valid

module _ (t l : List ℕ) (ls : Entries) (bytes : l ≡ encode (dictionary ls)) (valid : Valid (dictionary ls) max_levels) (plen : ℕ) where
  -- the number of a file by positions is its number by the value
  pub file_number : (f : Listed) (v : File) → Alike t f v → number_by_layer l plen f.size (cut t f.root 32) ≡ cond (has_layer v.size plen) (layer_judged plen v (lookup v.root ls)) 0
  unfolding number_by_layer layer_at
  file_number f v a = rw (sym a.size) (by_length (has_layer v.size plen) refl)
    where
      by_length : (o : Bool) → has_layer v.size plen ≡ o
          → cond o (of_layer l plen v.size (cut t f.root 32) (string_in l (find_key (cut t f.root 32) 0 l))) 0 ≡ cond o (layer_judged plen v (lookup v.root ls)) 0
      by_length false e = refl
      by_length true e =
          rw (sym (alike_root t f v a (λ z. long_full v.size plen e (a.size ∙ z))))
          (judged_found l plen v (find_key v.root 0 l) (lookup v.root ls) (find_layer l ls bytes valid v.root))

  same_both : (o : Bool) → cond o layer_differs layer_differs ≡ layer_differs
  same_both true = refl
  same_both false = refl

  -- what the files leave of the number w: 27 stays; 27 if a layer does not fit, else 28 if one does not give its root
  abbrev left : ℕ → Bool → Bool → ℕ
  left w fits gives = cond (eqb w layers_amiss) layers_amiss (cond fits (cond gives w layer_differs) layers_amiss)

  -- one file more: `long`, whether it has a layer, whether that fits and gives the root; the others fit, and give theirs
  step : (long fits gives others given : Bool) (go : ℕ → ℕ) (w : ℕ) → ((w : ℕ) → go w ≡ left w others given) → (x : ℕ)
      → x ≡ cond long (cond fits (cond gives 0 layer_differs) layers_amiss) 0 → go (lower w x) ≡ left w ((not long || fits) && others) ((not long || gives) && given)
  unfolding lower
  step long fits gives others given go w ih x e = rw e (by_number (eqb w layers_amiss) refl long fits gives)
    where
      by_number : (o : Bool) → eqb w layers_amiss ≡ o → (long fits gives : Bool)
          → go (cond o w (cond (eqb (cond long (cond fits (cond gives 0 layer_differs) layers_amiss) 0) 0) w (cond long (cond fits (cond gives 0 layer_differs) layers_amiss) 0)))
          ≡ cond o layers_amiss (cond ((not long || fits) && others) (cond ((not long || gives) && given) w layer_differs) layers_amiss)
      by_number true q long fits gives = ih w ∙ rw q refl
      by_number false q false fits gives = ih w ∙ rw q refl
      by_number false q true false gives = ih layers_amiss
      by_number false q true true true = ih w ∙ rw q refl
      by_number false q true true false = ih layer_differs ∙ ap (λ (n : ℕ). cond others n layers_amiss) (same_both given)

  -- the lowest number of all files and w
  pub worst_number : (fs : List Listed) (vs : List File) → AllAlike t fs vs → (w : ℕ) → worst t l plen w fs ≡ left w (layers_fit plen ls vs) (layers_give_roots plen ls vs)
  unfolding AllAlike worst layers_fit layers_give_roots
  worst_number [] [] a w = by_number (eqb w layers_amiss) refl
    where
      by_number : (o : Bool) → eqb w layers_amiss ≡ o → w ≡ cond o layers_amiss w
      by_number true q = eqb-true w layers_amiss q
      by_number false q = refl
  worst_number [] (v ∷ vs) a w = absurd a
  worst_number (f ∷ fs) [] a w = absurd a
  worst_number (f ∷ fs) (v ∷ vs) a w =
      step (has_layer v.size plen) (layer_fits plen v (lookup v.root ls)) (gives_root plen v (layer_bytes (lookup v.root ls))) (layers_fit plen ls vs)
      (layers_give_roots plen ls vs) (λ n. worst t l plen n fs) w (worst_number fs vs a.1) (number_by_layer l plen f.size (cut t f.root 32)) (file_number f v a.0)

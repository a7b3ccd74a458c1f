-- The layers that are written: each root has the layer given for it, no other key is there, and keys ascend.
-- Assumes nothing.
use Rattle.std.specs.Prelude.{◌≡◌, refl, Bool, true, false, cond, ◌⊎◌, List, [], ◌∷◌, ℕ}
use Rattle.std.proofs.Common.{sym, ap, ◌∙◌, inl, inr}
use Rattle.std.proofs.lemmas.Bool.{false≢true}
use Rattle.octets.specs.Octets.{same}
use Rattle.octets.specs.OctetsLaws.{same_true, same_false}
use Rattle.bencode.specs.Grammar.{string, Entries, no_entries, entry, precedes, none, Valid, EntriesValid}
use Rattle.bencode.specs.Parts.{absent, present, lookup}
use Rattle.sorting.specs.PrecedesLaws.{precedes_either}
use Rattle.meaning.specs.Counting.{Member}
use Rattle.sorting.specs.SortedBy.{sorted_by}
use Rattle.sorting.specs.PermutedLaws.{permuted_member}
use Rattle.sorting.specs.SortedByLaws.{OrderedFrom, Ordered, sorted_permuted, sorted_member, sorted_ordered}
use Rattle.writer_meaning.specs.Content.{Item, Layer, layer_before, with_layer, layers_given, layer_put, layers_of_all}
use Rattle.writer_meaning.proofs.OrderLaws.{layer_one_way, layer_behind}
use Rattle.writer_meaning.proofs.AnyOrder.{layers_written}

-- ---- what a root has

put_lookup : (r : List ℕ) (l : Layer) (es : Entries) → lookup r (layer_put l es) ≡ cond (same r l.0) (present (string l.1)) (lookup r es)
unfolding lookup layer_put
put_lookup r l no_entries = refl
put_lookup r l (entry k v es) = by_case (same l.0 k) refl
  where
    by_case : (t : Bool) → same l.0 k ≡ t
        → lookup r (cond t (entry k (string l.1) es) (entry l.0 (string l.1) (entry k v es))) ≡ cond (same r l.0) (present (string l.1)) (cond (same r k) (present v) (lookup r es))
    by_case true e = rw (same_true l.0 k e) (by_root (same r k))
      where
        by_root : (u : Bool) → cond u (present (string l.1)) (lookup r es) ≡ cond u (present (string l.1)) (cond u (present v) (lookup r es))
        by_root true = refl
        by_root false = refl
    by_case false e = refl

-- a root with one layer has it
layer_found : (ls : List Layer) (l : Layer) → Member l ls → ((m : Layer) → Member m ls → m.0 ≡ l.0 → m.1 ≡ l.1) → lookup l.0 (layers_of_all ls) ≡ present (string l.1)
unfolding layers_of_all Member
layer_found [] l k one = absurd k
layer_found (m ∷ ls) l k one = put_lookup l.0 m (layers_of_all ls) ∙ by_case (same l.0 m.0) refl k (λ j. layer_found ls l j (λ n i. one n (inr i)))
  where
    by_case : (t : Bool) → same l.0 m.0 ≡ t → (l ≡ m) ⊎ Member l ls → (Member l ls → lookup l.0 (layers_of_all ls) ≡ present (string l.1))
        → cond t (present (string m.1)) (lookup l.0 (layers_of_all ls)) ≡ present (string l.1)
    by_case true e j more = ap (λ (b : List ℕ). present (string b)) (one m (inl refl) (sym (same_true l.0 m.0 e)))
    by_case false e (inl q) more = absurd (same_false l.0 m.0 e (ap (λ (x : Layer). x.0) q))
    by_case false e (inr j) more = more j

-- a key is a root for which a layer was given
layer_given : (ls : List Layer) (r : List ℕ) → (lookup r (layers_of_all ls) ≡ absent → ⊥) → (b : List ℕ) × Member (r, b) ls
unfolding layers_of_all Member lookup
layer_given [] r h = absurd (h refl)
layer_given (m ∷ ls) r h = by_case (same r m.0) refl (layer_given ls r)
  where
    by_case : (t : Bool) → same r m.0 ≡ t → ((lookup r (layers_of_all ls) ≡ absent → ⊥) → (b : List ℕ) × Member (r, b) ls) → (b : List ℕ) × (◌≡◌ {A = Layer} (r, b) m ⊎ Member (r, b) ls)
    by_case true e more = (m.1, inl (ap (λ (x : List ℕ). (x, m.1)) (same_true r m.0 e)))
    by_case false e more = let w = more (λ q. h (put_lookup r m (layers_of_all ls) ∙ rw e q)) in (w.0, inr w.1)

-- ---- keys ascend

-- the first key, behind which the others stand
put_first : (l : Layer) (es : Entries) → (v : Entries) × (layer_put l es ≡ entry l.0 (string l.1) v)
unfolding layer_put
put_first l no_entries = (no_entries, refl)
put_first l (entry k v es) = by_case (same l.0 k) refl
  where
    by_case : (t : Bool) → same l.0 k ≡ t → (w : Entries) × (cond t (entry k (string l.1) es) (entry l.0 (string l.1) (entry k v es)) ≡ entry l.0 (string l.1) w)
    by_case true e = (es, ap (λ (x : List ℕ). entry x (string l.1) es) (sym (same_true l.0 k e)))
    by_case false e = (entry k v es, refl)

-- a layer put before one that does not stand before it
put_valid : (l m : Layer) (es rest : Entries) (n : ℕ) → layer_before m l ≡ false → es ≡ entry m.0 (string m.1) rest → EntriesValid es none n → EntriesValid (layer_put l es) none n
unfolding EntriesValid Valid layer_put
put_valid l m es rest n h q w = rw q (by_case (same l.0 m.0) refl (rw q at w))
  where
    by_case : (t : Bool) → same l.0 m.0 ≡ t → EntriesValid (entry m.0 (string m.1) rest) none n
        → EntriesValid (cond t (entry m.0 (string l.1) rest) (entry l.0 (string l.1) (entry m.0 (string m.1) rest))) none n
    by_case true e u = (refl, tt, u.2)
    by_case false e u = (refl, tt, (before, tt, u.2))
      where
        other : same m.0 l.0 ≡ false
        other = turned (same m.0 l.0) refl
          where
            turned : (t : Bool) → same m.0 l.0 ≡ t → t ≡ false
            turned true z = absurd (same_false l.0 m.0 e (sym (same_true m.0 l.0 z)))
            turned false z = refl

        not_behind : precedes m.0 l.0 ≡ false
        not_behind = rw other at h

        before : precedes l.0 m.0 ≡ true
        before = by_test (precedes l.0 m.0) refl
          where
            by_test : (t : Bool) → precedes l.0 m.0 ≡ t → t ≡ true
            by_test true z = refl
            by_test false z = absurd (same_false l.0 m.0 e (precedes_either l.0 m.0 z not_behind))

layers_valid : (ls : List Layer) (n : ℕ) → Ordered layer_before ls → EntriesValid (layers_of_all ls) none n
unfolding Ordered OrderedFrom layers_of_all
layers_valid [] n o = unfold EntriesValid in tt
layers_valid (l ∷ []) n o = unfold layer_put in unfold EntriesValid in unfold Valid in (refl, tt, tt)
layers_valid (l ∷ m ∷ ls) n o =
    let f = put_first m (layers_of_all ls) in
    put_valid l m (layer_put m (layers_of_all ls)) f.0 n o.0 f.1 (layers_valid (m ∷ ls) n o.1)

-- ---- of a list of files

-- a file's layer is given, if it has one
given_there : (xs : List Item) (x : Item) (b : ℕ) (bs : List ℕ) → Member x xs → x.layer ≡ b ∷ bs → Member (x.root, b ∷ bs) (layers_given xs)
unfolding layers_given Member
given_there [] x b bs m e = absurd m
given_there (y ∷ ys) x b bs (inl q) e = by_layer y.layer (ap (λ (z : Item). z.layer) (sym q) ∙ e) (ap (λ (z : Item). z.root) q)
  where
    by_layer : (l : List ℕ) → l ≡ b ∷ bs → x.root ≡ y.root → Member (x.root, b ∷ bs) (with_layer y l (layers_given ys))
    by_layer l f g = rw (f, g) (inl refl)
given_there (y ∷ ys) x b bs (inr m) e = by_layer y.layer (given_there ys x b bs m e)
  where
    by_layer : (l : List ℕ) → Member (x.root, b ∷ bs) (layers_given ys) → Member (x.root, b ∷ bs) (with_layer y l (layers_given ys))
    by_layer [] k = k
    by_layer (c ∷ cs) k = inr k

-- and a layer given is a file's
pub given_of : (xs : List Item) (l : Layer) → Member l (layers_given xs) → (x : Item) × Member x xs × (x.root ≡ l.0) × (x.layer ≡ l.1) × (l.1 ≡ [] → ⊥)
unfolding layers_given Member
given_of [] l m = absurd m
given_of (y ∷ ys) l m = by_layer y.layer refl m (given_of ys l)
  where
    by_layer : (k : List ℕ) → y.layer ≡ k → Member l (with_layer y k (layers_given ys)) → (Member l (layers_given ys) → (x : Item) × Member x ys × (x.root ≡ l.0) × (x.layer ≡ l.1) × (l.1 ≡ [] → ⊥))
        → (x : Item) × ((x ≡ y) ⊎ Member x ys) × (x.root ≡ l.0) × (x.layer ≡ l.1) × (l.1 ≡ [] → ⊥)
    by_layer [] e n more = let w = more n in (w.0, inr w.1, w.2, w.3, w.4)
    by_layer (c ∷ cs) e (inl q) more = (y, inl refl, sym (ap (λ (z : Layer). z.0) q), e ∙ sym (ap (λ (z : Layer). z.1) q), λ z. some_none c cs (sym (ap (λ (u : Layer). u.1) q) ∙ z))
      where
        some_none : (d : ℕ) (ds : List ℕ) → ◌≡◌ {A = List ℕ} (d ∷ ds) [] → ⊥
        some_none d ds z = false≢true (ap is_none z)
          where
            is_none : List ℕ → Bool
            is_none [] = true
            is_none (u ∷ us) = false
    by_layer (c ∷ cs) e (inr n) more = let w = more n in (w.0, inr w.1, w.2, w.3, w.4)

-- ---- of a list's layers in order

module _ (xs : List Item) where
  pub layers_strict : (n : ℕ) → EntriesValid (layers_written xs) none n
  layers_strict n = layers_valid (sorted_by layer_before (layers_given xs)) n (sorted_ordered layer_before layer_one_way layer_behind (layers_given xs))

  -- a root whose files have one layer has it
  pub layer_written : (x : Item) → Member x xs → (x.layer ≡ [] → ⊥) → ((y : Item) → Member y xs → (y.layer ≡ [] → ⊥) → y.root ≡ x.root → y.layer ≡ x.layer)
      → lookup x.root (layers_written xs) ≡ present (string x.layer)
  layer_written x m h one = by_layer x.layer refl
    where
      by_layer : (b : List ℕ) → x.layer ≡ b → lookup x.root (layers_written xs) ≡ present (string b)
      by_layer [] e = absurd (h e)
      by_layer (c ∷ cs) e =
          layer_found (sorted_by layer_before (layers_given xs)) (x.root, c ∷ cs)
          (permuted_member (layers_given xs) (sorted_by layer_before (layers_given xs)) (x.root, c ∷ cs) (sorted_permuted layer_before (layers_given xs)) (given_there xs x c cs m e))
          (λ n i q. let w = given_of xs n (sorted_member layer_before (layers_given xs) n i) in sym w.3 ∙ one w.0 w.1 (λ z. w.4 (sym w.3 ∙ z)) (w.2 ∙ q) ∙ e)

  -- a root under which something stands has a file with a layer
  pub written_of : (r : List ℕ) → (lookup r (layers_written xs) ≡ absent → ⊥) → (y : Item) × Member y xs × (y.root ≡ r) × (y.layer ≡ [] → ⊥)
  written_of r h =
      let v = layer_given (sorted_by layer_before (layers_given xs)) r h in
      let w = given_of xs (r, v.0) (sorted_member layer_before (layers_given xs) (r, v.0) v.1) in
      (w.0, w.1, w.2, λ z. w.4 (sym w.3 ∙ z))

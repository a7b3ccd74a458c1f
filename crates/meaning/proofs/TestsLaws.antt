-- Each test of a value decides what it is about: true where that is right, false where it is amiss.
-- Assumes nothing.
use Rattle.std.specs.Prelude.{◌≡◌, ◌⊎◌, Bool, ◌&&◌, ◌||◌, length, eqb, leb, List, [], ◌∷◌, ℕ, zero, suc, ◌*◌, ◌<◌}
use Rattle.std.proofs.Math.Path.{refl}
use Rattle.std.proofs.Common.{sym, ap, ◌∙◌, arith, eqb-true, eq-eqb, ne_eqb, leb-true, le-leb}
use Rattle.std.proofs.Math.Logic.{inl, inr}
use Rattle.std.proofs.Math.Bool.{true, false, cond, not, and-eq-true_iff}
use Rattle.std.proofs.lemmas.Bool.{false≢true, eqb-false}
use Rattle.octets.specs.Octets.{same}
use Rattle.octets.specs.OctetsLaws.{same_true, same_false, same_eq}
use Rattle.limits.specs.Limits.{longest_file}
use Rattle.tree.specs.Geometry.{block_count, height, is_piece_length, piece_layer, piece_count, has_layer}
use Rattle.tree.proofs.GeometryLaws.{piece_length_form, piece_length_accepted, has_longer, longer_has, piece_some}
use Rattle.tree.specs.Values.{layer_root}
use Rattle.bencode.specs.Grammar.{Value, integer, string, list, dictionary, Entries, no_entries, entry}
use Rattle.bencode.specs.Parts.{Lookup, absent, present, lookup}
use Rattle.meaning.specs.Keys.{key_info, key_file_tree, key_piece_length, key_meta_version, key_piece_layers, key_length, key_pieces_root}
use Rattle.meaning.specs.Nth.{Nth}
use Rattle.meaning.specs.Torrent.{has_dictionary, has_integer, is_number, number_of, is_natural, info_of, has_keys, root_right, file_right, element_right, node_right, branch_right, nodes_right, tree_right, File, no_other_length, lengths_agree, layer_fits, layers_fit, some_longer, no_others, layer_bytes, gives_root, layers_give_roots, plen_of}
use Rattle.meaning.specs.Amiss.{ADictionary, AnInteger, KeyMissing, info, file_tree, piece_length, meta_version, piece_layers, OtherVersion, PieceLengthOutOfRange, RightFile, empty, full, RightNode, file, directory, RightDirectory, one, more, TwoLengths, LayerOf, LayersRight, LayerDiffers}

-- what isn't 0 is above it
above : (n : ℕ) → (n ≡ 0 → ⊥) → 0 < n
above zero h = absurd (h refl)
above (suc n) h = omega arith

-- ---- 22

dictionary_yes : (x : Lookup) → has_dictionary x ≡ true → ADictionary x
dictionary_yes (present (dictionary es)) e = (es, refl)
dictionary_yes absent e = absurd (false≢true e)
dictionary_yes (present (integer minus n)) e = absurd (false≢true e)
dictionary_yes (present (string b)) e = absurd (false≢true e)
dictionary_yes (present (list vs)) e = absurd (false≢true e)

dictionary_no : (x : Lookup) → has_dictionary x ≡ false → ADictionary x → ⊥
dictionary_no x e d = false≢true (sym e ∙ ap has_dictionary d.1)

integer_yes : (x : Lookup) → has_integer x ≡ true → AnInteger x
integer_yes (present (integer minus n)) e = (minus, n, refl)
integer_yes absent e = absurd (false≢true e)
integer_yes (present (dictionary es)) e = absurd (false≢true e)
integer_yes (present (string b)) e = absurd (false≢true e)
integer_yes (present (list vs)) e = absurd (false≢true e)

integer_no : (x : Lookup) → has_integer x ≡ false → AnInteger x → ⊥
integer_no x e d = false≢true (sym e ∙ ap has_integer d.2)

-- one of five fails
five_false : (a b c d e : Bool) → a && b && c && d && e ≡ false → (a ≡ false) ⊎ ((b ≡ false) ⊎ ((c ≡ false) ⊎ ((d ≡ false) ⊎ (e ≡ false))))
five_false false b c d e q = inl refl
five_false true false c d e q = inr (inl refl)
five_false true true false d e q = inr (inr (inl refl))
five_false true true true false e q = inr (inr (inr (inl refl)))
five_false true true true true e q = inr (inr (inr (inr q)))

-- none fails
five_true : (a b c d e : Bool) → a && b && c && d && e ≡ true → (a ≡ true) × (b ≡ true) × (c ≡ true) × (d ≡ true) × (e ≡ true)
five_true true true true true e q = (refl, refl, refl, refl, q)
five_true false b c d e q = absurd (false≢true q)
five_true true false c d e q = absurd (false≢true q)
five_true true true false d e q = absurd (false≢true q)
five_true true true true false e q = absurd (false≢true q)

module _ (torrent : Entries) where
  -- what the five keys have
  abbrev the_info : Lookup
  the_info = lookup key_info torrent

  abbrev the_tree : Lookup
  the_tree = lookup key_file_tree (info_of torrent)

  abbrev the_piece_length : Lookup
  the_piece_length = lookup key_piece_length (info_of torrent)

  abbrev the_version : Lookup
  the_version = lookup key_meta_version (info_of torrent)

  abbrev the_layers : Lookup
  the_layers = lookup key_piece_layers torrent

  pub keys_amiss : has_keys torrent ≡ false → KeyMissing torrent
  unfolding has_keys
  keys_amiss e =
      elim (five_false (has_dictionary the_info) (has_dictionary the_tree) (has_integer the_piece_length) (has_integer the_version) (has_dictionary the_layers) e) [
        | inl a ↦ info (dictionary_no the_info a)
        | inr f ↦ elim f [
          | inl a ↦ file_tree (dictionary_no the_tree a)
          | inr g ↦ elim g [
            | inl a ↦ piece_length (integer_no the_piece_length a)
            | inr h ↦ elim h [ inl a ↦ meta_version (integer_no the_version a) | inr a ↦ piece_layers (dictionary_no the_layers a) ]
          ]
        ]
      ]

  pub keys_right : has_keys torrent ≡ true → KeyMissing torrent → ⊥
  unfolding has_keys
  keys_right e m = by_key m
    where
      all : (has_dictionary the_info ≡ true) × (has_dictionary the_tree ≡ true) × (has_integer the_piece_length ≡ true) × (has_integer the_version ≡ true) × (has_dictionary the_layers ≡ true)
      all = five_true (has_dictionary the_info) (has_dictionary the_tree) (has_integer the_piece_length) (has_integer the_version) (has_dictionary the_layers) e

      by_key : KeyMissing torrent → ⊥
      by_key (info w) = w (dictionary_yes the_info all.0)
      by_key (file_tree w) = w (dictionary_yes the_tree all.1)
      by_key (piece_length w) = w (integer_yes the_piece_length all.2)
      by_key (meta_version w) = w (integer_yes the_version all.3)
      by_key (piece_layers w) = w (dictionary_yes the_layers all.4)

-- ---- 23

number_yes : (m : ℕ) (x : Lookup) → is_number m x ≡ true → x ≡ present (integer false m)
number_yes m (present (integer false n)) e = ap (λ (z : ℕ). present (integer false z)) (eqb-true n m e)
number_yes m (present (integer true n)) e = absurd (false≢true e)
number_yes m absent e = absurd (false≢true e)
number_yes m (present (dictionary es)) e = absurd (false≢true e)
number_yes m (present (string b)) e = absurd (false≢true e)
number_yes m (present (list vs)) e = absurd (false≢true e)

pub version_amiss : (torrent : Entries) → is_number 2 (lookup key_meta_version (info_of torrent)) ≡ false → OtherVersion torrent
version_amiss torrent e q = false≢true (sym e ∙ ap (is_number 2) q ∙ eq-eqb 2 2 refl)

pub version_right : (torrent : Entries) → is_number 2 (lookup key_meta_version (info_of torrent)) ≡ true → OtherVersion torrent → ⊥
version_right torrent e w = w (number_yes 2 (lookup key_meta_version (info_of torrent)) e)

-- ---- 24

pub piece_amiss : (torrent : Entries) → is_piece_length (plen_of torrent) ≡ false → PieceLengthOutOfRange torrent
piece_amiss torrent e p h q = false≢true (sym e ∙ ap (λ (x : Lookup). is_piece_length (number_of x)) q ∙ piece_length_accepted p h)

-- a number above 0 is written as such
pub above_zero : (x : Lookup) → 0 < number_of x → x ≡ present (integer false (number_of x))
above_zero (present (integer false n)) h = refl
above_zero (present (integer true n)) h = absurd (omega arith)
above_zero absent h = absurd (omega arith)
above_zero (present (dictionary es)) h = absurd (omega arith)
above_zero (present (string b)) h = absurd (omega arith)
above_zero (present (list vs)) h = absurd (omega arith)

pub piece_right : (torrent : Entries) → is_piece_length (plen_of torrent) ≡ true → PieceLengthOutOfRange torrent → ⊥
piece_right torrent e w =
    let f = piece_length_form (plen_of torrent) e in
    w (piece_layer (plen_of torrent)) f.0 (above_zero (lookup key_piece_length (info_of torrent)) (piece_some (plen_of torrent) e) ∙ ap (λ (z : ℕ). present (integer false z)) f.1)

-- ---- 25

pub natural_yes : (x : Lookup) → is_natural x ≡ true → x ≡ present (integer false (number_of x))
natural_yes (present (integer false n)) e = refl
natural_yes (present (integer true n)) e = absurd (false≢true e)
natural_yes absent e = absurd (false≢true e)
natural_yes (present (dictionary es)) e = absurd (false≢true e)
natural_yes (present (string b)) e = absurd (false≢true e)
natural_yes (present (list vs)) e = absurd (false≢true e)

-- an empty file has no root
root_none : (x : Lookup) → root_right true x ≡ true → x ≡ absent
root_none absent e = refl
root_none (present v) e = absurd (false≢true e)

-- another has one of 32 bytes
root_some : (x : Lookup) → root_right false x ≡ true → (root : List ℕ) × (x ≡ present (string root)) × (length root ≡ 32)
root_some (present (string r)) e = (r, refl, eqb-true (length r) 32 e)
root_some absent e = absurd (false≢true e)
root_some (present (integer minus n)) e = absurd (false≢true e)
root_some (present (list vs)) e = absurd (false≢true e)
root_some (present (dictionary es)) e = absurd (false≢true e)

pub file_yes : (v : Value) → file_right v ≡ true → RightFile v
unfolding file_right
file_yes (integer minus n) e = absurd (false≢true e)
file_yes (string b) e = absurd (false≢true e)
file_yes (list vs) e = absurd (false≢true e)
file_yes (dictionary es) e = by_size (eqb (number_of x) 0) refl p.1
  where
    x : Lookup
    x = lookup key_length es

    y : Lookup
    y = lookup key_pieces_root es

    p : (is_natural x && leb (number_of x) longest_file ≡ true) × (root_right (eqb (number_of x) 0) y ≡ true)
    p = (and-eq-true_iff (is_natural x && leb (number_of x) longest_file) (root_right (eqb (number_of x) 0) y)).0 e

    q : (is_natural x ≡ true) × (leb (number_of x) longest_file ≡ true)
    q = (and-eq-true_iff (is_natural x) (leb (number_of x) longest_file)).0 p.0

    by_size : (t : Bool) → eqb (number_of x) 0 ≡ t → root_right t y ≡ true → RightFile (dictionary es)
    by_size true z r = empty es (natural_yes x q.0 ∙ ap (λ (n : ℕ). present (integer false n)) (eqb-true (number_of x) 0 z)) (root_none y r)
    by_size false z r =
        let w = root_some y r in
        let nz = eqb-false (number_of x) 0 z in
        full es (number_of x) w.0 (natural_yes x q.0) (above (number_of x) nz) (leb-true (number_of x) longest_file q.1) w.1 w.2

file_no : (v : Value) → RightFile v → file_right v ≡ true
unfolding file_right
file_no v (empty es l r) = rw (l, r, le-leb 0 longest_file (omega arith)) refl
file_no v (full es n root l above below r size) = rw (l, r, le-leb n longest_file below, ne_eqb n 0 (λ z. omega arith), eq-eqb (length root) 32 size) refl

-- the entries behind one that is right are none or a right directory
abbrev Rest : Entries → Type 0
Rest no_entries = Unit {0}
Rest (entry k v es) = RightDirectory (entry k v es)

first_right : (k : List ℕ) (v : Value) (es : Entries) → element_right k ≡ true → RightNode v → Rest es → RightDirectory (entry k v es)
first_right k v no_entries e n r = one k v e n
first_right k v (entry j u es) e n r = more k v (entry j u es) e n r

-- three tests
pub three_true : (a b c : Bool) → a && (b && c) ≡ true → (a ≡ true) × (b ≡ true) × (c ≡ true)
three_true true true c q = (refl, refl, q)
three_true false b c q = absurd (false≢true q)
three_true true false c q = absurd (false≢true q)

mutual
  unfolding node_right branch_right nodes_right

  node_yes : (v : Value) → node_right v ≡ true → RightNode v
  node_yes (integer minus n) e = absurd (false≢true e)
  node_yes (string b) e = absurd (false≢true e)
  node_yes (list vs) e = absurd (false≢true e)
  node_yes (dictionary es) e = branch_yes es e

  branch_yes : (es : Entries) → branch_right es ≡ true → RightNode (dictionary es)
  branch_yes no_entries e = absurd (false≢true e)
  branch_yes (entry [] v no_entries) e = file v (file_yes v e)
  branch_yes (entry [] v (entry k u es)) e = absurd (false≢true e)
  branch_yes (entry (c ∷ cs) v es) e =
      let p = three_true (element_right (c ∷ cs)) (node_right v) (nodes_right es) e in
      directory (entry (c ∷ cs) v es) (first_right (c ∷ cs) v es p.0 (node_yes v p.1) (nodes_yes es p.2))

  nodes_yes : (es : Entries) → nodes_right es ≡ true → Rest es
  nodes_yes no_entries e = tt
  nodes_yes (entry k v es) e =
      let p = three_true (element_right k) (node_right v) (nodes_right es) e in
      first_right k v es p.0 (node_yes v p.1) (nodes_yes es p.2)

-- a path element is not empty
element_some : (k : List ℕ) → element_right k ≡ true → (v : Value) (es : Entries) → nodes_right (entry k v es) ≡ true → branch_right (entry k v es) ≡ true
unfolding element_right branch_right nodes_right
element_some [] e v es q = absurd (false≢true e)
element_some (c ∷ cs) e v es q = q

first_no : (k : List ℕ) (v : Value) (es : Entries) → element_right k ≡ true → node_right v ≡ true → nodes_right es ≡ true → (nodes_right (entry k v es) ≡ true) × (branch_right (entry k v es) ≡ true)
unfolding nodes_right
first_no k v es e n q = let all : nodes_right (entry k v es) ≡ true = rw (e, n, q) refl in (all, element_some k e v es all)

mutual
  unfolding node_right branch_right nodes_right

  node_no : (v : Value) → RightNode v → node_right v ≡ true
  node_no v (file w f) = file_no w f
  node_no v (directory es d) = (directory_no es d).1

  directory_no : (es : Entries) → RightDirectory es → (nodes_right es ≡ true) × (branch_right es ≡ true)
  directory_no es (one k v e n) = first_no k v no_entries e (node_no v n) refl
  directory_no es (more k v fs e n d) = first_no k v fs e (node_no v n) (directory_no fs d).0

pub tree_yes : (es : Entries) → tree_right es ≡ true → RightDirectory es
unfolding tree_right
tree_yes no_entries e = absurd (false≢true e)
tree_yes (entry k v es) e = nodes_yes (entry k v es) e

pub tree_no : (es : Entries) → RightDirectory es → tree_right es ≡ true
unfolding tree_right
tree_no es (one k v e n) = (directory_no (entry k v no_entries) (one k v e n)).0
tree_no es (more k v fs e n d) = (directory_no (entry k v fs) (more k v fs e n d)).0

-- ---- 26

-- a file of the list with this root and another length
abbrev Having : List ℕ → ℕ → List File → Type 0
Having root n fs = (j : ℕ) × (f : File) × Nth fs j f × (0 < f.size) × (root ≡ f.root) × (n ≡ f.size → ⊥)

some_having : (root : List ℕ) (n : ℕ) (fs : List File) → no_other_length root n fs ≡ false → Having root n fs
unfolding no_other_length Nth
some_having root n [] e = absurd (false≢true (sym e))
some_having root n (f ∷ fs) e = by_first (eqb f.size 0) (same root f.root) (eqb n f.size) refl refl refl e (some_having root n fs)
  where
    later : Having root n fs → Having root n (f ∷ fs)
    later w = (suc w.0, w.1, w.2, w.3, w.4, w.5)

    by_first : (a b c : Bool) → eqb f.size 0 ≡ a → same root f.root ≡ b → eqb n f.size ≡ c → not (not a && b && not c) && no_other_length root n fs ≡ false
        → (no_other_length root n fs ≡ false → Having root n fs) → Having root n (f ∷ fs)
    by_first false true false p q o r ih = (0, f, refl, above f.size (eqb-false f.size 0 p), same_true root f.root q, eqb-false n f.size o)
    by_first false true true p q o r ih = later (ih r)
    by_first true b c p q o r ih = later (ih r)
    by_first false false c p q o r ih = later (ih r)

none_having : (root : List ℕ) (n : ℕ) (fs : List File) → no_other_length root n fs ≡ true → Having root n fs → ⊥
unfolding no_other_length Nth
none_having root n [] e h = h.2
none_having root n (f ∷ fs) e h = by_number h.0 h.2 (none_having root n fs)
  where
    g : File
    g = h.1

    p : (not (not (eqb f.size 0) && same root f.root && not (eqb n f.size)) ≡ true) × (no_other_length root n fs ≡ true)
    p = (and-eq-true_iff (not (not (eqb f.size 0) && same root f.root && not (eqb n f.size))) (no_other_length root n fs)).0 e

    by_number : (i : ℕ) → Nth (f ∷ fs) i g → (no_other_length root n fs ≡ true → Having root n fs → ⊥) → ⊥
    by_number zero q ih =
        let u : g.size ≡ f.size = ap (λ (x : File). x.size) q in
        let z : eqb f.size 0 ≡ false = ne_eqb f.size 0 (λ o. omega (arith, h.3)) in
        let s : same root f.root ≡ true = same_eq root f.root (h.4 ∙ ap (λ (x : File). x.root) q) in
        let t : eqb n f.size ≡ false = ne_eqb n f.size (λ o. h.5 (o ∙ sym u)) in
        false≢true (rw (z, s, t) at p.0)
    by_number (suc i) q ih = ih p.1 (i, g, q, h.3, h.4, h.5)

pub roots_amiss : (fs : List File) → lengths_agree fs ≡ false → TwoLengths fs
unfolding lengths_agree Nth
roots_amiss [] e = absurd (false≢true (sym e))
roots_amiss (f ∷ fs) e = by_first (eqb f.size 0) (no_other_length f.root f.size fs) refl refl e (roots_amiss fs)
  where
    later : TwoLengths fs → TwoLengths (f ∷ fs)
    later w =
        record {
          i = suc w.i;
          j = suc w.j;
          one = w.one;
          other = w.other;
          one_at = w.one_at;
          other_at = w.other_at;
          one_full = w.one_full;
          other_full = w.other_full;
          same_root = w.same_root;
          different = w.different;
        }

    by_first : (a b : Bool) → eqb f.size 0 ≡ a → no_other_length f.root f.size fs ≡ b → (a || b) && lengths_agree fs ≡ false → (lengths_agree fs ≡ false → TwoLengths fs) → TwoLengths (f ∷ fs)
    by_first true b p q r ih = later (ih r)
    by_first false true p q r ih = later (ih r)
    by_first false false p q r ih =
        let w = some_having f.root f.size fs q in
        record {
          i = 0;
          j = suc w.0;
          one = f;
          other = w.1;
          one_at = refl;
          other_at = w.2;
          one_full = above f.size (eqb-false f.size 0 p);
          other_full = w.3;
          same_root = w.4;
          different = w.5;
        }

-- two numbers with one root and different lengths, where lengths agree
agree_no : (fs : List File) → lengths_agree fs ≡ true → (i j : ℕ) (f g : File) → Nth fs i f → Nth fs j g → 0 < f.size → 0 < g.size → f.root ≡ g.root → (f.size ≡ g.size → ⊥) → ⊥
unfolding Nth lengths_agree
agree_no [] e i j f g p q l m r d = p
agree_no (x ∷ xs) e i j f g p q l m r d = by_numbers i j p q (agree_no xs)
  where
    h : (eqb x.size 0 || no_other_length x.root x.size xs ≡ true) × (lengths_agree xs ≡ true)
    h = (and-eq-true_iff (eqb x.size 0 || no_other_length x.root x.size xs) (lengths_agree xs)).0 e

    none : (y : File) → y ≡ x → 0 < y.size → no_other_length y.root y.size xs ≡ true
    none y u v =
        let z : eqb x.size 0 ≡ false = ne_eqb x.size 0 (λ o. let s : y.size ≡ x.size = ap (λ (w : File). w.size) u in omega arith) in
        let t : false || no_other_length x.root x.size xs ≡ true = rw z at h.0 in
        rw u t

    by_numbers : (i j : ℕ) → Nth (x ∷ xs) i f → Nth (x ∷ xs) j g
        → (lengths_agree xs ≡ true → (i j : ℕ) (f g : File) → Nth xs i f → Nth xs j g → 0 < f.size → 0 < g.size → f.root ≡ g.root → (f.size ≡ g.size → ⊥) → ⊥) → ⊥
    by_numbers zero zero p q ih = d (ap (λ (y : File). y.size) (p ∙ sym q))
    by_numbers zero (suc j) p q ih = none_having f.root f.size xs (none f p l) (j, g, q, m, r, d)
    by_numbers (suc i) zero p q ih = none_having g.root g.size xs (none g q m) (i, f, p, l, sym r, λ o. d (sym o))
    by_numbers (suc i) (suc j) p q ih = ih h.1 i j f g p q l m r d

pub roots_right : (fs : List File) → lengths_agree fs ≡ true → TwoLengths fs → ⊥
roots_right fs e w = agree_no fs e w.i w.j w.one w.other w.one_at w.other_at w.one_full w.other_full w.same_root w.different

-- ---- 27

module _ (plen : ℕ) (ls : Entries) where
  fits_yes : (f : File) → plen < f.size → (x : Lookup) → lookup f.root ls ≡ x → layer_fits plen f x ≡ true → (layer : List ℕ) × LayerOf plen ls f layer
  fits_yes f l (present (string b)) q e = (b, record { longer = l; found = q; size = eqb-true (length b) (32 * piece_count f.size plen) e })
  fits_yes f l absent q e = absurd (false≢true e)
  fits_yes f l (present (integer minus n)) q e = absurd (false≢true e)
  fits_yes f l (present (list vs)) q e = absurd (false≢true e)
  fits_yes f l (present (dictionary es)) q e = absurd (false≢true e)

  fits_no : (f : File) (layer : List ℕ) → LayerOf plen ls f layer → layer_fits plen f (lookup f.root ls) ≡ true
  fits_no f layer w = rw (w.found, eq-eqb (length layer) (32 * piece_count f.size plen) w.size) refl

  -- each file longer than the piece length has its layer
  abbrev EachFile : List File → Type 0
  EachFile fs = (n : ℕ) (f : File) → Nth fs n f → plen < f.size → (layer : List ℕ) × LayerOf plen ls f layer

  pub each_file_yes : (fs : List File) → layers_fit plen ls fs ≡ true → EachFile fs
  unfolding layers_fit Nth
  each_file_yes [] e n f q l = absurd q
  each_file_yes (x ∷ xs) e n f q l = by_number n q (each_file_yes xs)
    where
      p : (not (has_layer x.size plen) || layer_fits plen x (lookup x.root ls) ≡ true) × (layers_fit plen ls xs ≡ true)
      p = (and-eq-true_iff (not (has_layer x.size plen) || layer_fits plen x (lookup x.root ls)) (layers_fit plen ls xs)).0 e

      by_number : (n : ℕ) → Nth (x ∷ xs) n f → (layers_fit plen ls xs ≡ true → EachFile xs) → (layer : List ℕ) × LayerOf plen ls f layer
      by_number zero u ih =
          let h : not (has_layer f.size plen) || layer_fits plen f (lookup f.root ls) ≡ true = rw u p.0 in
          let g : not true || layer_fits plen f (lookup f.root ls) ≡ true = rw (longer_has f.size plen l) at h in
          fits_yes f l (lookup f.root ls) refl g
      by_number (suc n) u ih = ih p.1 n f u l

  each_file_no : (fs : List File) → EachFile fs → layers_fit plen ls fs ≡ true
  unfolding layers_fit Nth
  each_file_no [] w = refl
  each_file_no (x ∷ xs) w = by_length (has_layer x.size plen) refl (each_file_no xs (λ n f q l. w (suc n) f q l))
    where
      by_length : (t : Bool) → has_layer x.size plen ≡ t → layers_fit plen ls xs ≡ true → (not t || layer_fits plen x (lookup x.root ls)) && layers_fit plen ls xs ≡ true
      by_length false q r = r
      by_length true q r =
          let y = w 0 x refl (has_longer x.size plen q) in
          rw (fits_no x y.0 y.1, r) refl

  -- a file longer than the piece length with this root
  abbrev Longer : List ℕ → List File → Type 0
  Longer k fs = (n : ℕ) × (f : File) × Nth fs n f × (plen < f.size) × (k ≡ f.root)

  some_longer_yes : (k : List ℕ) (fs : List File) → some_longer plen k fs ≡ true → Longer k fs
  unfolding some_longer Nth
  some_longer_yes k [] e = absurd (false≢true e)
  some_longer_yes k (x ∷ xs) e = by_both (has_layer x.size plen) (same k x.root) refl refl e (some_longer_yes k xs)
    where
      later : Longer k xs → Longer k (x ∷ xs)
      later w = (suc w.0, w.1, w.2, w.3, w.4)

      by_both : (a b : Bool) → has_layer x.size plen ≡ a → same k x.root ≡ b → (a && b) || some_longer plen k xs ≡ true → (some_longer plen k xs ≡ true → Longer k xs) → Longer k (x ∷ xs)
      by_both true true p q r ih = (0, x, refl, has_longer x.size plen p, same_true k x.root q)
      by_both true false p q r ih = later (ih r)
      by_both false b p q r ih = later (ih r)

  or_yes : (a : Bool) → a || true ≡ true
  or_yes true = refl
  or_yes false = refl

  some_longer_no : (k : List ℕ) (fs : List File) → Longer k fs → some_longer plen k fs ≡ true
  unfolding some_longer Nth
  some_longer_no k [] w = absurd w.2
  some_longer_no k (x ∷ xs) w = by_number w.0 w.2 (some_longer_no k xs)
    where
      f : File
      f = w.1

      by_number : (n : ℕ) → Nth (x ∷ xs) n f → (Longer k xs → some_longer plen k xs ≡ true) → (has_layer x.size plen && same k x.root) || some_longer plen k xs ≡ true
      by_number zero u ih =
          let s : has_layer x.size plen ≡ true = longer_has x.size plen (let o : f.size ≡ x.size = ap (λ (z : File). z.size) u in omega (arith, w.3)) in
          let t : same k x.root ≡ true = same_eq k x.root (w.4 ∙ ap (λ (z : File). z.root) u) in
          rw (s, t) refl
      by_number (suc n) u ih = rw (ih (n, f, u, w.3, w.4)) (or_yes (has_layer x.size plen && same k x.root))

module _ (plen : ℕ) (fs : List File) where
  -- each key is the root of a file longer than the piece length
  abbrev EachKey : Entries → Type 0
  EachKey ls = (k : List ℕ) → (lookup k ls ≡ absent → ⊥) → (n : ℕ) × (f : File) × Nth fs n f × (plen < f.size) × (k ≡ f.root)

  each_key_yes : (ls : Entries) → no_others plen fs ls ≡ true → EachKey ls
  unfolding no_others lookup
  each_key_yes no_entries e k h = absurd (h refl)
  each_key_yes (entry j v es) e k h = by_same (same k j) refl h (each_key_yes es)
    where
      p : (some_longer plen j fs ≡ true) × (no_others plen fs es ≡ true)
      p = (and-eq-true_iff (some_longer plen j fs) (no_others plen fs es)).0 e

      by_same : (t : Bool) → same k j ≡ t → (cond t (present v) (lookup k es) ≡ absent → ⊥) → (no_others plen fs es ≡ true → EachKey es)
          → (n : ℕ) × (f : File) × Nth fs n f × (plen < f.size) × (k ≡ f.root)
      by_same true q g ih = let w = some_longer_yes plen no_entries j fs p.0 in (w.0, w.1, w.2, w.3, same_true k j q ∙ w.4)
      by_same false q g ih = ih p.1 k g

  -- something found is not nothing
  present_some : (v : Value) → present v ≡ absent → ⊥
  present_some v e = let z : ◌≡◌ {A = ℕ} 0 1 = cc in omega arith

  each_key_no : (ls : Entries) → EachKey ls → no_others plen fs ls ≡ true
  unfolding no_others lookup
  each_key_no no_entries w = refl
  each_key_no (entry j v es) w =
      let first : some_longer plen j fs ≡ true = some_longer_no plen no_entries j fs (w j (λ q. present_some v (rw (same_eq j j refl) at q))) in
      let others : no_others plen fs es ≡ true = each_key_no es (λ k h. w k (by_same k h (same k j))) in
      rw (first, others) refl
    where
      by_same : (k : List ℕ) → (lookup k es ≡ absent → ⊥) → (t : Bool) → cond t (present v) (lookup k es) ≡ absent → ⊥
      by_same k h true q = present_some v q
      by_same k h false q = h q

pub layers_yes : (plen : ℕ) (ls : Entries) (fs : List File) → layers_fit plen ls fs && no_others plen fs ls ≡ true → LayersRight plen ls fs
layers_yes plen ls fs e =
    let p = (and-eq-true_iff (layers_fit plen ls fs) (no_others plen fs ls)).0 e in
    record { each_file = each_file_yes plen ls fs p.0; each_key = each_key_yes plen fs ls p.1 }

pub layers_no : (plen : ℕ) (ls : Entries) (fs : List File) → LayersRight plen ls fs → layers_fit plen ls fs && no_others plen fs ls ≡ true
layers_no plen ls fs w = rw (each_file_no plen ls fs w.each_file, each_key_no plen fs ls w.each_key) refl

-- ---- 28

module _ (plen : ℕ) (ls : Entries) where
  later_differs : (x : File) (xs : List File) → LayerDiffers plen ls xs → LayerDiffers plen ls (x ∷ xs)
  unfolding Nth
  later_differs x xs w = record { n = suc w.n; file = w.file; file_at = w.file_at; layer = w.layer; is_layer = w.is_layer; differs = w.differs }

  pub gives_amiss : (fs : List File) → layers_fit plen ls fs ≡ true → layers_give_roots plen ls fs ≡ false → LayerDiffers plen ls fs
  unfolding layers_give_roots layers_fit Nth
  gives_amiss [] fit e = absurd (false≢true (sym e))
  gives_amiss (x ∷ xs) fit e = by_both (has_layer x.size plen) (gives_root plen x (layer_bytes (lookup x.root ls))) refl refl e (gives_amiss xs)
    where
      p : (not (has_layer x.size plen) || layer_fits plen x (lookup x.root ls) ≡ true) × (layers_fit plen ls xs ≡ true)
      p = (and-eq-true_iff (not (has_layer x.size plen) || layer_fits plen x (lookup x.root ls)) (layers_fit plen ls xs)).0 fit

      by_both : (a b : Bool) → has_layer x.size plen ≡ a → gives_root plen x (layer_bytes (lookup x.root ls)) ≡ b → (not a || b) && layers_give_roots plen ls xs ≡ false
          → (layers_fit plen ls xs ≡ true → layers_give_roots plen ls xs ≡ false → LayerDiffers plen ls xs) → LayerDiffers plen ls (x ∷ xs)
      by_both false b u v r ih = later_differs x xs (ih p.1 r)
      by_both true true u v r ih = later_differs x xs (ih p.1 r)
      by_both true false u v r ih =
          let g : not true || layer_fits plen x (lookup x.root ls) ≡ true = rw u at p.0 in
          let w = fits_yes plen ls x (has_longer x.size plen u) (lookup x.root ls) refl g in
          let d : gives_root plen x (layer_bytes (present (string w.0))) ≡ false = rw w.1.found at v in
          record { n = 0; file = x; file_at = refl; layer = w.0; is_layer = w.1; differs = same_false (layer_root w.0 (piece_layer plen) (height (block_count x.size))) x.root d }

  pub gives_right : (fs : List File) → layers_give_roots plen ls fs ≡ true → LayerDiffers plen ls fs → ⊥
  gives_right fs e w = nth_gives fs e w.n w.file w.file_at w.layer w.is_layer w.differs
    where
      nth_gives : (fs : List File) → layers_give_roots plen ls fs ≡ true → (n : ℕ) (f : File) → Nth fs n f → (layer : List ℕ) → LayerOf plen ls f layer
          → (layer_root layer (piece_layer plen) (height (block_count f.size)) ≡ f.root → ⊥) → ⊥
      nth_gives [] e n f q layer l d = unfold Nth in q
      nth_gives (x ∷ xs) e zero f q layer l d = first (unfold layers_give_roots in ((and-eq-true_iff (not (has_layer x.size plen) || gives_root plen x (layer_bytes (lookup x.root ls))) (layers_give_roots plen ls xs)).0 e).0) (unfold Nth in q)
        where
          first : not (has_layer x.size plen) || gives_root plen x (layer_bytes (lookup x.root ls)) ≡ true → f ≡ x → ⊥
          first g u =
              let h : not (has_layer f.size plen) || gives_root plen f (layer_bytes (lookup f.root ls)) ≡ true = rw u g in
              let k : not true || gives_root plen f (layer_bytes (present (string layer))) ≡ true = rw (longer_has f.size plen l.longer, l.found) at h in
              d (same_true (layer_root layer (piece_layer plen) (height (block_count f.size))) f.root k)
      nth_gives (x ∷ xs) e (suc n) f q layer l d =
          nth_gives xs (unfold layers_give_roots in ((and-eq-true_iff (not (has_layer x.size plen) || gives_root plen x (layer_bytes (lookup x.root ls))) (layers_give_roots plen ls xs)).0 e).1) n f (unfold Nth in q) layer l d

-- How layered a record and the list are, how the list grows by a file, and what a torrent that gets 0 has.
-- Assumes nothing.
use Rattle.std.specs.Prelude.{◌≡◌, Bool, true, false, cond, ◌&&◌, length, take, drop, get_or, eqb, ltb, List, [], ◌∷◌, ◌++◌, ℕ, zero, suc, ◌+◌, ◌-◌, ◌*◌, ◌≤◌, ◌<◌, Option, Some, None}
use Rattle.std.proofs.Math.Path.{refl, sym, ap₂}
use Rattle.std.proofs.Common.{ap, ◌∙◌, arith, length-append, take_at, le-ltb, lt-ltb, append_assoc, append-nil}
use Rattle.std.proofs.lemmas.Bool.{false≢true, eqb-false}
use Rattle.std.proofs.Math.Decide.{dec_lt}
use Rattle.std.proofs.Math.Seq.{drop-append-add}
use Rattle.limits.specs.Limits.{largest_torrent}
use Rattle.octets.specs.Octets.{cut, zero_hash, be}
use Rattle.octets.specs.OctetsLaws.{cut_length, be_octets, zero_octets}
use Rattle.numbers.specs.Numbers.{wrong_tree, two_lengths, layers_amiss}
use Rattle.bencode.specs.declared.part.Part.{Part}
use Rattle.metainfo.specs.Metainfo.{bytes_in}
use Rattle.filetree.specs.Token.{token_at}
use Rattle.filetree.specs.TokenLaws.{TokenIn, token_in}
use Rattle.filetree.specs.TreeLaws.{directory_ends, tree_below}
use Rattle.filetree.specs.CountLaws.{roots_append}
use Rattle.filetree.specs.declared.token.Token.{Token}
use Rattle.filetree.specs.declared.token.Token.TheVariants.{Opened, Closed, Leaf}
use Rattle.layers.specs.JudgeLaws.{tree_some}
use Rattle.filetree.specs.Tree.{max_elements, Element, Listed, listed_as, down, Files, wrong, files, after, onward, on_token, files_from, files_below, right, listed, files_in, roots_of, file_number}
use Rattle.filetree.specs.Path.{Holds}
use Rattle.filetree.specs.PathLaws.{element_number, holds_element}
use Rattle.filetree.specs.FilesLaws.{AllRight}
use Rattle.filetree.specs.Reading.{read_files}
use Rattle.meaning.specs.Torrent.{lengths_agree}
use Rattle.twins.specs.Twins.{layer_count}
use Rattle.twins.specs.WalkLaws.{layers_roots}
use Rattle.layers.specs.Layers.{keys_wide, layer_keys, worst, root_bytes, layer_string, start_of, size_of}
use Rattle.torrent.specs.Torrent.{Checked, files_number, tree_number}
use Rattle.torrent.specs.CheckLaws.{Whole}
use Rattle.catalogue.specs.Catalogue.{part_bytes, element_bytes, elements_bytes, head_bytes, Parts, record_of, record_size, records_of}
use Rattle.catalogue.specs.Asks.{array_element, array_elements, record_from, parts_with, Listable}
use Rattle.catalogue.specs.declared.record.Listing.{Listing}

-- ---- from an array

element_some : (base : ℕ) (p : List Element) (k : ℕ) → k < length p → element_bytes base p k ≡ part_bytes (base + (element_number p k).start) ((element_number p k).end - (element_number p k).start)
unfolding element_bytes element_number
element_some base [] k h = absurd (omega arith)
element_some base (e ∷ es) zero h = refl
element_some base (e ∷ es) (suc k) h = element_some base es k (omega arith)

pub element_none : (base : ℕ) (p : List Element) (k : ℕ) → length p ≤ k → element_bytes base p k ≡ be 8 0
unfolding element_bytes
element_none base [] k h = refl
element_none base (e ∷ es) zero h = absurd (omega arith)
element_none base (e ∷ es) (suc k) h = element_none base es k (omega arith)

module _ (base : ℕ) (path : List ℕ) (n : ℕ) (p : List Element) (w : Holds path n p) (l : n ≡ length p) where
  same_element : (k : ℕ) → array_element base path n k ≡ element_bytes base p k
  same_element k = by_number (dec_lt k n)
    where
      by_number : Dec (k < n) → array_element base path n k ≡ element_bytes base p k
      by_number (yes h) = let y = holds_element path n p w k h in some h ∙ rw (y.0, y.1) (sym (element_some base p k (omega arith)))
        where
          some : k < n → array_element base path n k ≡ part_bytes (base + get_or path (2 * k) 0) (get_or path (2 * k + 1) 0 - get_or path (2 * k) 0)
          some h = unfold array_element in rw (lt-ltb k n h) refl
      by_number (no h) = none (omega arith) ∙ sym (element_none base p k (omega arith))
        where
          none : n ≤ k → array_element base path n k ≡ be 8 0
          none h = unfold array_element in rw (le-ltb k n h) refl

  same_elements : (m : ℕ) → array_elements base path n m ≡ elements_bytes base p m
  unfolding array_elements elements_bytes
  same_elements zero = refl
  same_elements (suc m) = ap₂ (λ (x y : List ℕ). x ++ y) (same_elements m) (same_element m)

-- the array's record is the file's
pub same_record : (t l path : List ℕ) (k : Listing) (n r d at : ℕ) (p : List Element) → Holds path d p → d ≡ length p
    → record_from t l path (record { list = k; length = n; root = r; elements = d; at = at }) ≡ record_of (parts_with t l k) (listed_as n r p)
unfolding record_from record_of
same_record t l path k n r d at p w e = rw (same_elements k.tree path d p w e max_elements, e) refl

-- ---- lengths

pub part_length : (a b : ℕ) → length (part_bytes a b) ≡ 8
part_length a b = refl

pub element_length : (base : ℕ) (p : List Element) (k : ℕ) → length (element_bytes base p k) ≡ 8
unfolding element_bytes
element_length base [] k = refl
element_length base (e ∷ es) zero = refl
element_length base (e ∷ es) (suc k) = element_length base es k

pub elements_length : (base : ℕ) (p : List Element) (m : ℕ) → length (elements_bytes base p m) ≡ 8 * m
unfolding elements_bytes
elements_length base p zero = refl
elements_length base p (suc m) = length-append (elements_bytes base p m) (element_bytes base p m) ∙ omega (arith, elements_length base p m, element_length base p m)

pub array_element_length : (base : ℕ) (path : List ℕ) (n k : ℕ) → length (array_element base path n k) ≡ 8
unfolding array_element
array_element_length base path n k = by_test (ltb k n)
  where
    by_test : (b : Bool) → length (cond b (part_bytes (base + get_or path (2 * k) 0) (get_or path (2 * k + 1) 0 - get_or path (2 * k) 0)) (be 8 0)) ≡ 8
    by_test true = refl
    by_test false = refl

pub array_length : (base : ℕ) (path : List ℕ) (n m : ℕ) → length (array_elements base path n m) ≡ 8 * m
unfolding array_elements
array_length base path n zero = refl
array_length base path n (suc m) = length-append (array_elements base path n m) (array_element base path n m) ∙ omega (arith, array_length base path n m, array_element_length base path n m)

pub head_length : (base n : ℕ) (root : List ℕ) (layer : Option Part) (elements : ℕ) → length root ≡ 32 → length (head_bytes base n root layer elements) ≡ 56
unfolding head_bytes
head_length base n root layer elements e =
    let a = length-append (be 8 n) root in
    let b = length-append (be 8 n ++ root) (part_bytes (start_of base layer) (size_of layer)) in
    let c = length-append (be 8 n ++ root ++ part_bytes (start_of base layer) (size_of layer)) (be 4 elements) in
    let d = length-append (be 8 n ++ root ++ part_bytes (start_of base layer) (size_of layer) ++ be 4 elements) (be 4 0) in
    let la = (be_octets 8 n).size in
    let lb = part_length (start_of base layer) (size_of layer) in
    let lc = (be_octets 4 elements).size in
    let ld = (be_octets 4 0).size in
    omega arith

pub root_length : (t : List ℕ) (n r : ℕ) → ((n ≡ 0 → ⊥) → r + 32 ≤ length t) → length (root_bytes t n r) ≡ 32
unfolding root_bytes
root_length t n r h = by_size (eqb n 0) refl
  where
    by_size : (b : Bool) → eqb n 0 ≡ b → length (cond b zero_hash (cut t r 32)) ≡ 32
    by_size true q = zero_octets.size
    by_size false q = cut_length t r 32 (h (eqb-false n 0 q))

pub record_length : (p : Parts) (f : Listed) → ((f.size ≡ 0 → ⊥) → f.root + 32 ≤ length p.t) → length (record_of p f) ≡ record_size
unfolding record_of
record_length p f h =
    let root = root_bytes p.t f.size f.root in
    let layer = layer_string p.l p.plen f.size (cut p.t f.root 32) in
    length-append (head_bytes p.layers f.size root layer (length f.path)) (elements_bytes p.tree f.path max_elements)
    ∙ omega (arith, head_length p.layers f.size root layer (length f.path) (root_length p.t f.size f.root h), elements_length p.tree f.path max_elements)

-- ---- the list

pub records_append : (p : Parts) (fs gs : List Listed) → records_of p (fs ++ gs) ≡ records_of p fs ++ records_of p gs
unfolding records_of
records_append p [] gs = refl
records_append p (f ∷ fs) gs = ap (λ (l : List ℕ). record_of p f ++ l) (records_append p fs gs) ∙ sym (append_assoc (record_of p f) (records_of p fs) (records_of p gs))

pub records_one : (p : Parts) (f : Listed) → records_of p (f ∷ []) ≡ record_of p f
unfolding records_of
records_one p f = append-nil (record_of p f)

pub records_length : (p : Parts) (fs : List Listed) → AllRight (length p.t) fs → length (records_of p fs) ≡ record_size * length fs
unfolding records_of
records_length p [] w = refl
records_length p (f ∷ fs) w = length-append (record_of p f) (records_of p fs) ∙ omega (arith, record_length p f w.0.root_within, records_length p fs w.1)

-- the record of file i stands at record_size · i
pub record_at : (p : Parts) (fs : List Listed) → AllRight (length p.t) fs → (i : ℕ) → i < length fs → cut (records_of p fs) (record_size * i) record_size ≡ record_of p (file_number fs i)
unfolding records_of file_number cut
record_at p [] w i h = absurd (omega arith)
record_at p (f ∷ fs) w zero h = take_at (record_of p f) (records_of p fs) record_size (record_length p f w.0.root_within)
record_at p (f ∷ fs) w (suc i) h =
    let l = record_length p f w.0.root_within in
    let e : record_size * suc i ≡ length (record_of p f) + record_size * i = omega arith in
    ap (λ (n : ℕ). take record_size (drop n (record_of p f ++ records_of p fs))) e
    ∙ ap (λ (x : List ℕ). take record_size x) (drop-append-add (record_of p f) (records_of p fs) (record_size * i))
    ∙ record_at p fs w.1 i (omega arith)

-- ---- how many files there can be

-- each file takes a byte, and one that is not empty 64
abbrev Few : ℕ → Files → Type 0
Few at wrong = Unit {0}
Few at (files fs k) = (at + length fs ≤ k) × (at + 64 * length (roots_of fs) ≤ k)

after_few : (at x : ℕ) (fs : List Listed) (w : Files) → at + length fs ≤ x → at + 64 * length (roots_of fs) ≤ x → Few x w → Few at (after fs w)
after_few at x fs wrong h g p = tt
after_few at x fs (files gs k) h g p =
    let a = p.0 in
    let b = p.1 in
    (omega (arith, length-append fs gs), omega (arith, ap length (roots_append fs gs), length-append (roots_of fs) (roots_of gs)))

one_few : (at k n r : ℕ) (p : List Element) → at < k → ((n ≡ 0 → ⊥) → at + 64 ≤ k) → at + 64 * length (roots_of (listed_as n r p ∷ [])) ≤ k
unfolding roots_of
one_few at k n r p h g = by_size (eqb n 0) refl
  where
    by_size : (b : Bool) → eqb n 0 ≡ b → at + 64 * length (cond b [] (r ∷ [])) ≤ k
    by_size true q = omega arith
    by_size false q = let x = g (eqb-false n 0 q) in omega arith

none_few : (at : ℕ) → at + 64 * length (roots_of []) ≤ at + 1
unfolding roots_of
none_few at = omega arith

from_few : (sub : ℕ → List Element → Files) (t : List ℕ) → ((x : ℕ) (p : List Element) → Few x (sub x p)) → (steps at : ℕ) (path : List Element) → Few at (files_from sub steps t at path)
unfolding files_from
from_few sub t hs zero at path = tt
from_few sub t hs (suc n) at path = by_token (token_at t at) (token_in t at) (λ x. from_few sub t hs n x path)
  where
    Later : Type 0
    Later = (x : ℕ) → Few x (files_from sub n t x path)

    by_sub : (b : ℕ) (w : Files) → at < b → Few (b + 1) w → Later → Few at (onward w (λ k. files_from sub n t k path))
    by_sub b wrong h p later = tt
    by_sub b (files fs k) h p later = let g = p.0 in let q = p.1 in after_few at k fs (files_from sub n t k path) (omega arith) (omega arith) (later k)

    by_token : (x : Option Token) → TokenIn at (length t) x → Later → Few at (on_token sub (λ k. files_from sub n t k path) at path x)
    by_token None p later = tt
    by_token (Some Closed) p later = (omega arith, none_few at)
    by_token (Some (Opened a b)) p later = by_sub b (sub (b + 1) (down path a b)) p.0 (hs (b + 1) (down path a b)) later
    by_token (Some (Leaf a b m r k)) p later =
        let g = p.0 in
        after_few at k (listed_as m r (down path a b) ∷ []) (files_from sub n t k path) (omega arith) (one_few at k m r (down path a b) g (λ z. (p.2 z).0)) (later k)

below_few : (l : ℕ) (t : List ℕ) (at : ℕ) (path : List Element) → Few at (files_below l t at path)
unfolding files_below
below_few zero t at path = tt
below_few (suc l) t at path = from_few (files_below l t) t (below_few l t) (suc (length t)) at path

files_few : (t : List ℕ) → right (files_in t) ≡ true → (length (listed (files_in t)) ≤ length t) × (64 * length (roots_of (listed (files_in t))) ≤ length t)
unfolding listed right
files_few t e = by_files (files_in t) refl e (tree_below t (tree_some t e))
  where
    by_files : (x : Files) → files_in t ≡ x → right x ≡ true → files_in t ≡ files_below max_elements t 1 [] → (length (listed x) ≤ length t) × (64 * length (roots_of (listed x)) ≤ length t)
    by_files wrong q f g = absurd (false≢true f)
    by_files (files fs k) q f g =
        let p : Few 1 (files fs k) = rw (sym g ∙ q) at (below_few max_elements t 1 []) in
        let a = p.0 in
        let b = p.1 in
        let d = (directory_ends max_elements t 1 [] fs k (sym g ∙ q)).1 in
        (omega arith, omega arith)

-- ---- what a torrent that gets 0 has

-- 27 is out where a torrent gets 0
tree_keyed : (t l : List ℕ) (plen : ℕ) (fs : Files) → tree_number t l plen fs ≡ 0 → (keys_wide l && eqb (length (layer_keys l)) (layer_count plen (read_files t (listed fs)))) ≡ true
unfolding tree_number files_number
tree_keyed t l plen fs e = by_right (right fs) e
  where
    both : Bool
    both = keys_wide l && eqb (length (layer_keys l)) (layer_count plen (read_files t (listed fs)))

    by_keys : (b : Bool) → both ≡ b → cond b (worst t l plen 0 (listed fs)) layers_amiss ≡ 0 → both ≡ true
    by_keys true q g = q
    by_keys false q g = absurd (omega arith)

    by_roots : (b : Bool) → cond b (cond both (worst t l plen 0 (listed fs)) layers_amiss) two_lengths ≡ 0 → both ≡ true
    by_roots true g = by_keys both refl g
    by_roots false g = absurd (omega arith)

    by_right : (b : Bool) → cond b (cond (lengths_agree (read_files t (listed fs))) (cond both (worst t l plen 0 (listed fs)) layers_amiss) two_lengths) wrong_tree ≡ 0 → both ≡ true
    by_right true g = by_roots (lengths_agree (read_files t (listed fs))) g
    by_right false g = absurd (omega arith)

abbrev pub listing_of : Checked → Listing
listing_of c = record { tree = c.keys.tree.start; layers = c.keys.layers.start; plen = c.keys.plen; count = c.layered }

module _ (s : List ℕ) (c : Checked) (w : Whole s c) where
  abbrev t : List ℕ
  t = bytes_in s c.keys.tree

  abbrev l : List ℕ
  l = bytes_in s c.keys.layers

  tree_inside : c.keys.tree.start + length t ≤ largest_torrent
  tree_inside = let a = w.opened.tree_size in let b = w.opened.tree_forward in let d = w.opened.tree_within in let f = w.opened.small in omega arith

  pub whole_ready : Listable t l (listing_of c)
  whole_ready =
      let a = w.opened.layers_size in
      let b = w.opened.layers_forward in
      let d = w.opened.layers_within in
      let f = w.opened.small in
      let few = (files_few t w.tree_right_lem).1 in
      let most = layers_roots c.keys.plen t (listed (files_in t)) in
      let layered = w.all_layered in
      let inside = tree_inside in
      record {
        tree_within = inside;
        layers_within = omega arith;
        tree_right_lem = w.tree_right_lem;
        opened = w.opened.layers_open;
        keyed = rw layered (tree_keyed t l c.keys.plen (files_in t) w.number_right);
        few_layered = omega arith;
      }

  pub few_files : c.files ≤ largest_torrent
  few_files = let a = (files_few t w.tree_right_lem).0 in let b = w.all_files in let d = tree_inside in omega arith

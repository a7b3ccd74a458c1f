-- How many bytes are written: the paths in tree order and the files' properties each give theirs, so the list's order does not matter,
-- not even where paths repeat.
-- Assumes nothing.
use Rattle.std.specs.Prelude.{◌≡◌, false, List, [], ◌∷◌, ◌++◌, map, ℕ, suc, ◌+◌, ◌-◌, length, drop}
use Rattle.std.proofs.Math.Path.{refl, ap}
use Rattle.std.proofs.Common.{sym, ap₂, ◌∙◌, length-append, arith}
use Rattle.std.proofs.lemmas.List.{length-replicate}
use Rattle.bencode.specs.Grammar.{letter_e, dictionary, encode_string, encode}
use Rattle.sorting.specs.SortedBy.{sorted_by, Permuted, none, keep, swap, then}
use Rattle.sorting.specs.PermutedLaws.{map_permuted}
use Rattle.sorting.specs.SortedByLaws.{map_sorted, Ordered, OrderedFrom, sorted_ordered, sorted_permuted, sorted_same}
use Rattle.writer_meaning.specs.Content.{Item, path_before, item_before, in_tree_order, properties, tree_of_all}
use Rattle.writer_meaning.specs.Written.{shared, opened, closed, tree_bytes}
use Rattle.writer_meaning.proofs.WrittenLaws.{Rising, tree_encoded}
use Rattle.writer_meaning.proofs.OrderLaws.{path_either, path_one_way, path_behind}

module _ {A : Type 0} where
  unfoldable pub sum : (A → ℕ) → List A → ℕ
  sum f [] = 0
  sum f (x ∷ xs) = f x + sum f xs

  pub sum_permuted : (f : A → ℕ) (xs ys : List A) → Permuted xs ys → sum f xs ≡ sum f ys
  unfolding sum
  sum_permuted f xs ys none = refl
  sum_permuted f xs ys (keep x {xs = us} {ys = vs} p) = ap (λ (n : ℕ). f x + n) (sum_permuted f us vs p)
  sum_permuted f xs ys (swap x y zs) = omega arith
  sum_permuted f xs ys (then {ys = ms} p q) = sum_permuted f xs ms p ∙ sum_permuted f ms ys q

abbrev path_of : Item → List (List ℕ)
path_of x = x.path

-- the files in tree order rise
pub rising_from : (x : Item) (xs : List Item) → OrderedFrom item_before x xs → Rising x.path xs
unfolding OrderedFrom Rising
rising_from x [] o = tt
rising_from x (y ∷ ys) o = (o.0, rising_from y ys o.1)

pub rising : (xs : List Item) → Ordered item_before xs → Rising [] xs
unfolding Ordered Rising
rising [] o = tt
rising (x ∷ xs) o = (first x.path, rising_from x xs o)
  where
    first : (p : List (List ℕ)) → path_before p [] ≡ false
    first [] = unfold path_before in refl
    first (e ∷ p) = unfold path_before in refl

pub in_order : (xs : List Item) → Ordered item_before (in_tree_order xs)
in_order xs = sorted_ordered item_before (λ x y. path_one_way x.path y.path) (λ x y z. path_behind x.path y.path z.path) xs

-- ---- the bytes of a tree

-- the bytes of nodes opened and closed
unfoldable pub paths_length : List (List ℕ) → List (List (List ℕ)) → ℕ
paths_length p [] = suc (length p)
paths_length p (q ∷ qs) = length p - shared p q + length (opened (drop (shared p q) q)) + length (encode_string []) + paths_length q qs

abbrev pub properties_length : Item → ℕ
properties_length x = length (encode (properties x))

pub tree_length : (p : List (List ℕ)) (xs : List Item) → length (tree_bytes p xs) ≡ paths_length p (map path_of xs) + sum properties_length xs
unfolding tree_bytes paths_length sum
tree_length p [] = let r = length-replicate {A = ℕ} (suc (length p)) letter_e in omega arith
tree_length p (x ∷ xs) =
    let q = x.path in
    let c = closed (length p - shared p q) in
    let o = opened (drop (shared p q) q) in
    let s = encode_string [] in
    let v = encode (properties x) in
    let a = length-append (c ++ (o ++ (s ++ v))) (tree_bytes q xs) in
    let b = length-append c (o ++ (s ++ v)) in
    let d = length-append o (s ++ v) in
    let e = length-append s v in
    let r = length-replicate {A = ℕ} (length p - shared p q) letter_e in
    let more = tree_length q xs in
    omega arith

-- the tree of a list in any order has as many bytes
pub tree_size : (xs : List Item) → length (encode (dictionary (tree_of_all (in_tree_order xs)))) ≡ suc (paths_length [] (sorted_by path_before (map path_of xs)) + sum properties_length xs)
tree_size xs =
    ap (λ (l : List ℕ). length l) (tree_encoded (in_tree_order xs) (rising (in_tree_order xs) (in_order xs)))
    ∙ ap suc (tree_length [] (in_tree_order xs)
    ∙ ap₂ (λ (n m : ℕ). n + m) (ap (paths_length []) (map_sorted path_of path_before xs)) (sym (sum_permuted properties_length xs (in_tree_order xs) (sorted_permuted item_before xs))))

pub paths_any_order : (xs ys : List Item) → Permuted xs ys → sorted_by path_before (map path_of xs) ≡ sorted_by path_before (map path_of ys)
paths_any_order xs ys p =
    sorted_same path_before path_one_way path_behind (map path_of xs) (map path_of ys) (map_permuted path_of xs ys p) (λ a b m n. path_either a b)

pub tree_size_any_order : (xs ys : List Item) → Permuted xs ys
    → length (encode (dictionary (tree_of_all (in_tree_order xs)))) ≡ length (encode (dictionary (tree_of_all (in_tree_order ys))))
tree_size_any_order xs ys p =
    tree_size xs ∙ ap₂ (λ (ps : List (List (List ℕ))) (n : ℕ). suc (paths_length [] ps + n)) (paths_any_order xs ys p) (sum_permuted properties_length xs ys p) ∙ sym (tree_size ys)

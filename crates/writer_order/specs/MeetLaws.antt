-- Two files of a list in tree order have one path, or one stands in a directory that the other is, only if two neighbours do.
-- Assumes nothing.
use Rattle.std.specs.Prelude.{◌≡◌, refl, Bool, true, false, ◌||◌, ◌&&◌, List, [], ◌∷◌, ℕ}
use Rattle.std.proofs.Common.{sym, ap, ap₂, ◌∙◌, inl, inr}
use Rattle.std.proofs.lemmas.Bool.{false≢true}
use Rattle.std.proofs.Math.Bool.{and-eq-true_iff}
use Rattle.numbers.specs.Tests.{or_one}
use Rattle.octets.specs.Octets.{same}
use Rattle.octets.specs.OctetsLaws.{same_true, same_false, same_eq}
use Rattle.bencode.specs.Grammar.{precedes}
use Rattle.sorting.specs.PrecedesLaws.{precedes_either}
use Rattle.meaning.specs.Counting.{Member}
use Rattle.writer_meaning.specs.Content.{Item, path_before, item_before, in_tree_order}
use Rattle.writer_meaning.specs.Number.{some, begins, one_path, meet}
use Rattle.writer_meaning.proofs.SomeLaws.{or_left, both_ways, some_one}
use Rattle.sorting.specs.SortedByLaws.{Ordered, OrderedFrom, none_before, sorted_ordered, sorted_permuted}
use Rattle.writer_meaning.proofs.OrderLaws.{path_either, path_one_way, path_behind}
use Rattle.writer_meaning.proofs.AnyOrder.{begins_self, meet_permuted}
use Rattle.writer_order.specs.Neighbours.{followed, neighbours, leads}

-- ---- paths

-- a path does not stand before one that begins it
begun_not_before : (p q : List (List ℕ)) → begins p q ≡ true → path_before q p ≡ false
unfolding begins path_before
begun_not_before [] [] e = refl
begun_not_before [] (f ∷ q) e = refl
begun_not_before (e ∷ p) [] h = absurd (false≢true h)
begun_not_before (e ∷ p) (f ∷ q) h =
    let a = (and-eq-true_iff (same e f) (begins p q)).0 h in
    rw (same_eq f e (sym (same_true e f a.0))) (begun_not_before p q a.1)

-- what stands between a path and one that it begins is begun by it too
begins_between : (p q r : List (List ℕ)) → path_before q p ≡ false → path_before r q ≡ false → begins p r ≡ true → begins p q ≡ true
unfolding begins path_before
begins_between [] q r a b h = refl
begins_between (e ∷ p) [] r a b h = absurd (false≢true (sym a))
begins_between (e ∷ p) (f ∷ q) [] a b h = absurd (false≢true h)
begins_between (e ∷ p) (f ∷ q) (g ∷ r) a b h = by_case (same f e) refl (same g f) refl (λ x y. begins_between p q r x y k.1)
  where
    k : (same e g ≡ true) × (begins p r ≡ true)
    k = (and-eq-true_iff (same e g) (begins p r)).0 h

    by_case : (t : Bool) → same f e ≡ t → (u : Bool) → same g f ≡ u → (path_before q p ≡ false → path_before r q ≡ false → begins p q ≡ true)
        → same e f && begins p q ≡ true
    by_case true x true y more =
        let a' : path_before q p ≡ false = rw x at a in
        let b' : path_before r q ≡ false = rw y at b in
        (and-eq-true_iff (same e f) (begins p q)).1 (same_eq e f (sym (same_true f e x)), more a' b')
    by_case true x false y more = absurd (same_false g f y (sym (same_true e g k.0) ∙ sym (same_true f e x)))
    by_case false x true y more = absurd (same_false f e x (sym (same_true g f y) ∙ sym (same_true e g k.0)))
    by_case false x false y more =
        let a' : precedes f e ≡ false = rw x at a in
        let b' : precedes g f ≡ false = rw y at b in
        absurd (same_false f e x (precedes_either f e a' (ap (λ (l : List ℕ). precedes l f) (same_true e g k.0) ∙ b')))

-- ---- the first of a list in order meets another only if it leads to the next

meets_next : (x y : Item) (ys : List Item) → OrderedFrom item_before x (y ∷ ys) → some (one_path x) (y ∷ ys) ≡ leads x y
unfolding some OrderedFrom Member
meets_next x y ys o =
    both_ways (some (one_path x) (y ∷ ys)) (leads x y) there
    (λ e. or_left (one_path x y) (some (one_path x) ys) (or_left (leads x y) (leads y x) e))
  where
    behind : (a b c : Item) → item_before b a ≡ false → item_before c b ≡ false → item_before c a ≡ false
    behind a b c = path_behind a.path b.path c.path

    -- one that x leads to stands behind the next
    led : (w : Item) → Member w (y ∷ ys) → leads x w ≡ true → leads x y ≡ true
    led w (inl e) h = ap (leads x) (sym e) ∙ h
    led w (inr m) h = begins_between x.path y.path w.path o.0 (none_before item_before behind y ys w o.1 m) h

    -- one that leads to x, and does not stand before it, has its path
    turned : (w : Item) → Member w (y ∷ ys) → leads w x ≡ true → leads x w ≡ true
    turned w m h =
        let e = path_either x.path w.path (begun_not_before w.path x.path h) (none_before item_before behind x (y ∷ ys) w o m) in
        ap (begins x.path) (sym e) ∙ begins_self x.path

    there : some (one_path x) (y ∷ ys) ≡ true → leads x y ≡ true
    there e = found (some_one (one_path x) (y ∷ ys) e)
      where
        found : (w : Item) × Member w (y ∷ ys) × (one_path x w ≡ true) → leads x y ≡ true
        found f =
            elim (or_one (leads x f.0) (leads f.0 x) f.2)
            [ inl a ↦ led f.0 f.1 a | inr b ↦ led f.0 f.1 (turned f.0 f.1 b) ]

meet_from : (x : Item) (xs : List Item) → OrderedFrom item_before x xs → meet (x ∷ xs) ≡ followed leads x xs
unfolding meet some followed OrderedFrom
meet_from x [] o = refl
meet_from x (y ∷ ys) o = ap₂ (λ (a b : Bool). a || b) (meets_next x y ys o) (meet_from y ys o.1)

pub meet_neighbours : (xs : List Item) → Ordered item_before xs → meet xs ≡ neighbours leads xs
unfolding neighbours Ordered meet
meet_neighbours [] o = refl
meet_neighbours (x ∷ xs) o = meet_from x xs o

-- so that the neighbours in tree order tell of a list in any order
pub meet_sorted : (xs : List Item) → meet xs ≡ neighbours leads (in_tree_order xs)
meet_sorted xs =
    meet_permuted xs (in_tree_order xs) (sorted_permuted item_before xs)
    ∙ meet_neighbours (in_tree_order xs) (sorted_ordered item_before (λ x y. path_one_way x.path y.path)
    (λ x y z. path_behind x.path y.path z.path) xs)

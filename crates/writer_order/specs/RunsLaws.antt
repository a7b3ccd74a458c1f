-- In runs of one root, all files agree if each agrees with the next, and all are right if the first is.
-- Assumes nothing.
use Rattle.std.specs.Prelude.{◌≡◌, Bool, ℕ, List, [], ◌∷◌}
use Rattle.std.proofs.Math.Path.{refl, ap}
use Rattle.std.proofs.Common.{sym, ◌∙◌}
use Rattle.std.proofs.Math.Bool.{true, false, cond, not}
use Rattle.std.proofs.lemmas.Bool.{false≢true, not-true, not-false}
use Rattle.std.proofs.Math.Logic.{inl, inr}
use Rattle.numbers.specs.Tests.{or_one}
use Rattle.octets.specs.Octets.{same}
use Rattle.octets.specs.OctetsLaws.{same_true, same_false}
use Rattle.bencode.specs.Grammar.{precedes}
use Rattle.sorting.specs.PrecedesLaws.{precedes_self, precedes_either, behind_trans}
use Rattle.meaning.specs.Counting.{Member}
use Rattle.writer_meaning.specs.Content.{Item}
use Rattle.writer_meaning.proofs.SomeLaws.{or_none}
use Rattle.sorting.specs.SortedByLaws.{Ordered, OrderedFrom, none_before}
use Rattle.writer_order.specs.Neighbours.{run_from, runs}

abbrev pub lower_root : Item → Item → Bool
lower_root x y = precedes x.root y.root

module _ (first : Item → Bool) (told : Item → Item → Bool) where
  -- nothing is wrong in a list
  pub record Settled (xs : List Item) : Type 0 where
    pub firsts : (x : Item) → Member x xs → first x ≡ false
    pub agreeing : (x y : Item) → Member x xs → Member y xs → x.root ≡ y.root → told x y ≡ true

  -- one wrong file, or two that do not agree
  pub data Found (xs : List Item) : Type 0 where
    one : (x : Item) → Member x xs → first x ≡ true → Found xs
    two : (x y : Item) → Member x xs → Member y xs → x.root ≡ y.root → told x y ≡ false → Found xs

  -- those that agree are right or wrong together
  abbrev pub Together : List Item → Type 0
  Together xs = (x y : Item) → Member x xs → Member y xs → x.root ≡ y.root → told x y ≡ true → first x ≡ first y

  found_more : (w : Item) (xs : List Item) → Found xs → Found (w ∷ xs)
  unfolding Member
  found_more w xs (one x m e) = one x (inr m) e
  found_more w xs (two x y m n r e) = two x y (inr m) (inr n) r e

  found_from : (x : Item) (xs : List Item) → run_from first (λ (u v : Item). not (told u v)) x xs ≡ true → Found (x ∷ xs)
  unfolding run_from Member
  found_from x [] e = absurd (false≢true e)
  found_from x (y ∷ ys) e =
      elim (or_one (cond (same x.root y.root) (not (told x y)) (first y)) (run_from first (λ (u v : Item). not (told u v)) y ys) e)
      [ inl a ↦ here (same x.root y.root) refl a | inr b ↦ found_more x (y ∷ ys) (found_from y ys b) ]
    where
      here : (t : Bool) → same x.root y.root ≡ t → cond t (not (told x y)) (first y) ≡ true → Found (x ∷ y ∷ ys)
      here true q a = two x y (inl refl) (inr (inl refl)) (same_true x.root y.root q) (not-true (told x y) a)
      here false q a = one y (inr (inl refl)) a

  pub runs_found : (xs : List Item) → runs first (λ (u v : Item). not (told u v)) xs ≡ true → Found xs
  unfolding runs Member
  runs_found [] e = absurd (false≢true e)
  runs_found (x ∷ xs) e =
      elim (or_one (first x) (run_from first (λ (u v : Item). not (told u v)) x xs) e)
      [ inl a ↦ one x (inl refl) a | inr b ↦ found_from x xs b ]

  module _ (told_self : (x : Item) → told x x ≡ true) (told_back : (x y : Item) → told x y ≡ true → told y x ≡ true)
      (told_on : (x y z : Item) → told x y ≡ true → told y z ≡ true → told x z ≡ true) where
    -- a first file put before a list that is settled
    settled_more : (x y : Item) (ys : List Item) → OrderedFrom lower_root x (y ∷ ys) → (x.root ≡ y.root → told x y ≡ true)
        → first x ≡ false → Settled (y ∷ ys) → Settled (x ∷ y ∷ ys)
    unfolding OrderedFrom Member
    settled_more x y ys o near h s = record { firsts = firsts_are; agreeing = agreeing_are }
      where
        behind : (a b c : Item) → lower_root b a ≡ false → lower_root c b ≡ false → lower_root c a ≡ false
        behind a b c = behind_trans a.root b.root c.root

        -- one further on with the root of x: the next has it too
        at_next : (w : Item) → Member w (y ∷ ys) → lower_root w y ≡ false
        at_next w (inl e) = ap (λ (v : Item). lower_root v y) e ∙ precedes_self y.root
        at_next w (inr m) = none_before lower_root behind y ys w o.1 m

        link : (w : Item) → Member w (y ∷ ys) → x.root ≡ w.root → told x w ≡ true
        link w m r =
            let e = precedes_either x.root y.root (ap (λ (l : List ℕ). precedes l y.root) r ∙ at_next w m) o.0 in
            told_on x y w (near e) (s.agreeing y w (inl refl) m (sym e ∙ r))

        firsts_are : (z : Item) → Member z (x ∷ y ∷ ys) → first z ≡ false
        firsts_are z (inl e) = ap first e ∙ h
        firsts_are z (inr m) = s.firsts z m

        agreeing_are : (z w : Item) → Member z (x ∷ y ∷ ys) → Member w (x ∷ y ∷ ys) → z.root ≡ w.root → told z w ≡ true
        agreeing_are z w (inl a) (inl b) r = ap (λ (v : Item). told z v) (b ∙ sym a) ∙ told_self z
        agreeing_are z w (inl a) (inr n) r = ap (λ (v : Item). told v w) a ∙ link w n (ap (λ (v : Item). v.root) (sym a) ∙ r)
        agreeing_are z w (inr m) (inl b) r =
            ap (told z) b ∙ told_back x z (link z m (ap (λ (v : Item). v.root) (sym b) ∙ sym r))
        agreeing_are z w (inr m) (inr n) r = s.agreeing z w m n r

    settled_from : (x : Item) (xs : List Item) → OrderedFrom lower_root x xs → Together (x ∷ xs) → first x ≡ false
        → run_from first (λ (u v : Item). not (told u v)) x xs ≡ false → Settled (x ∷ xs)
    unfolding run_from OrderedFrom Member
    settled_from x [] o t h e = record { firsts = firsts_are; agreeing = agreeing_are }
      where
        firsts_are : (z : Item) → Member z (x ∷ []) → first z ≡ false
        firsts_are z (inl a) = ap first a ∙ h
        firsts_are z (inr n) = absurd n

        agreeing_are : (z w : Item) → Member z (x ∷ []) → Member w (x ∷ []) → z.root ≡ w.root → told z w ≡ true
        agreeing_are z w (inl a) (inl b) r = ap (λ (v : Item). told z v) (b ∙ sym a) ∙ told_self z
        agreeing_are z w (inl a) (inr n) r = absurd n
        agreeing_are z w (inr m) n r = absurd m
    settled_from x (y ∷ ys) o t h e =
        by_root (same x.root y.root) refl split.0 (λ f. settled_from y ys o.1 (λ z w m n. t z w (inr m) (inr n)) f split.1)
      where
        split : (cond (same x.root y.root) (not (told x y)) (first y) ≡ false) ×
            (run_from first (λ (u v : Item). not (told u v)) y ys ≡ false)
        split = or_none (cond (same x.root y.root) (not (told x y)) (first y)) (run_from first (λ (u v : Item). not (told u v)) y ys) e

        by_root : (b : Bool) → same x.root y.root ≡ b → cond b (not (told x y)) (first y) ≡ false
            → (first y ≡ false → Settled (y ∷ ys)) → Settled (x ∷ y ∷ ys)
        by_root true q a more =
            let g = not-false (told x y) a in
            let r = same_true x.root y.root q in
            settled_more x y ys o (λ _. g) h (more (sym (t x y (inl refl) (inr (inl refl)) r g) ∙ h))
        by_root false q a more = settled_more x y ys o (λ r. absurd (same_false x.root y.root q r)) h (more a)

    pub runs_settled : (xs : List Item) → Ordered lower_root xs → Together xs → runs first (λ (u v : Item). not (told u v)) xs ≡ false
        → Settled xs
    unfolding runs Ordered Member
    runs_settled [] o t e = record { firsts = λ z m. absurd m; agreeing = λ z w m n r. absurd m }
    runs_settled (x ∷ xs) o t e =
        let s = or_none (first x) (run_from first (λ (u v : Item). not (told u v)) x xs) e in
        settled_from x xs o t s.0 s.1

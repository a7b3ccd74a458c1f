-- 26 and 28 of files that stand by their roots, and the layers in their order.
-- Assumes nothing.
use Rattle.std.specs.Prelude.{◌≡◌, refl, Bool, false, cond, ◌||◌, ◌&&◌, ◌⊎◌, List, [], ◌∷◌, ℕ, ◌<◌, eqb, ltb}
use Rattle.std.proofs.Common.{sym, ap, ap₂, ◌∙◌, inl, inr, arith, eqb-true, eq-eqb, ltb-true, lt-ltb}
use Rattle.std.proofs.Math.Bool.{true, not, and-eq-true_iff}
use Rattle.std.proofs.lemmas.Bool.{false≢true}
use Rattle.numbers.specs.Tests.{or_one}
use Rattle.octets.specs.Octets.{same}
use Rattle.octets.specs.OctetsLaws.{same_true, same_refl, same_eq}
use Rattle.tree.specs.Geometry.{block_count, height, piece_layer, has_layer}
use Rattle.tree.specs.Values.{layer_root}
use Rattle.bencode.specs.Grammar.{precedes}
use Rattle.sorting.specs.PrecedesLaws.{precedes_self, behind_trans}
use Rattle.meaning.specs.Counting.{Member}
use Rattle.writer_meaning.specs.Content.{Item, layer_before, with_layer, layers_given}
use Rattle.writer_meaning.specs.Number.{some, lengths_clash, gives_other, two_layers}
use Rattle.writer_meaning.specs.Refused.{OneRoot}
use Rattle.writer_meaning.proofs.RefusedLaws.{pair_of}
use Rattle.writer_meaning.proofs.SomeLaws.{or_left, or_right, both_ways, some_there, some_one}
use Rattle.sorting.specs.SortedByLaws.{Ordered, OrderedFrom, ordered_skip}
use Rattle.writer_meaning.proofs.OrderLaws.{layer_one_way, layer_behind}
use Rattle.writer_order.specs.Order.{root_before}
use Rattle.writer_order.specs.Neighbours.{runs, full_ones, agree, first_wrong, clash, clash_by}
use Rattle.writer_order.specs.RunsLaws.{lower_root, Settled, Found, one, two, runs_found, runs_settled}

-- ---- a part of a list in order is in order

skip_first : {A : Type 0} (before : A → A → Bool) (x : A) (xs : List A) → OrderedFrom before x xs → Ordered before xs
unfolding OrderedFrom Ordered
skip_first before x [] o = tt
skip_first before x (y ∷ ys) o = o.1

-- ---- the files that are not empty

full_behind : (a b c : Item) → lower_root b a ≡ false → lower_root c b ≡ false → lower_root c a ≡ false
full_behind a b c = behind_trans a.root b.root c.root

full_from : (x : Item) (xs : List Item) → OrderedFrom lower_root x xs → OrderedFrom lower_root x (full_ones xs)
unfolding full_ones OrderedFrom
full_from x [] o = tt
full_from x (y ∷ ys) o =
    by_size (ltb 0 y.size) (full_from y ys o.1) (full_from x ys (ordered_skip lower_root full_behind x y ys o.0 o.1))
  where
    by_size : (t : Bool) → OrderedFrom lower_root y (full_ones ys) → OrderedFrom lower_root x (full_ones ys)
        → OrderedFrom lower_root x (cond t (y ∷ full_ones ys) (full_ones ys))
    by_size true a b = (o.0, a)
    by_size false a b = b

full_ordered : (xs : List Item) → Ordered lower_root xs → Ordered lower_root (full_ones xs)
unfolding full_ones Ordered
full_ordered [] o = tt
full_ordered (x ∷ xs) o = by_size (ltb 0 x.size) (full_ordered xs (skip_first lower_root x xs o))
  where
    by_size : (t : Bool) → Ordered lower_root (full_ones xs) → Ordered lower_root (cond t (x ∷ full_ones xs) (full_ones xs))
    by_size true a = full_from x xs o
    by_size false a = a

-- by root and layer is by root
root_too : (x y : Item) → root_before y x ≡ false → lower_root y x ≡ false
root_too x y h = by_root (same y.root x.root) refl h
  where
    by_root : (t : Bool) → same y.root x.root ≡ t → cond t (precedes y.layer x.layer) (precedes y.root x.root) ≡ false
        → lower_root y x ≡ false
    by_root true e g = ap (λ (l : List ℕ). precedes l x.root) (same_true y.root x.root e) ∙ precedes_self x.root
    by_root false e g = g

roots_from : (x : Item) (xs : List Item) → OrderedFrom root_before x xs → OrderedFrom lower_root x xs
unfolding OrderedFrom
roots_from x [] o = tt
roots_from x (y ∷ ys) o = (root_too x y o.0, roots_from y ys o.1)

roots_ordered : (xs : List Item) → Ordered root_before xs → Ordered lower_root xs
unfolding Ordered
roots_ordered [] o = tt
roots_ordered (x ∷ xs) o = roots_from x xs o

full_there : (xs : List Item) (z : Item) → Member z xs → 0 < z.size → Member z (full_ones xs)
unfolding full_ones Member
full_there [] z m h = absurd m
full_there (x ∷ xs) z (inl e) h = by_size (ltb 0 x.size) refl
  where
    by_size : (t : Bool) → ltb 0 x.size ≡ t → Member z (cond t (x ∷ full_ones xs) (full_ones xs))
    by_size true q = inl e
    by_size false q = absurd (false≢true (sym q ∙ ap (λ (y : Item). ltb 0 y.size) (sym e) ∙ lt-ltb 0 z.size h))
full_there (x ∷ xs) z (inr m) h = by_size (ltb 0 x.size) (full_there xs z m h)
  where
    by_size : (t : Bool) → Member z (full_ones xs) → Member z (cond t (x ∷ full_ones xs) (full_ones xs))
    by_size true k = inr k
    by_size false k = k

full_of : (xs : List Item) (z : Item) → Member z (full_ones xs) → Member z xs × (0 < z.size)
unfolding full_ones Member
full_of [] z m = absurd m
full_of (x ∷ xs) z m = by_size (ltb 0 x.size) refl (full_of xs z) m
  where
    by_size : (t : Bool) → ltb 0 x.size ≡ t → (Member z (full_ones xs) → Member z xs × (0 < z.size))
        → Member z (cond t (x ∷ full_ones xs) (full_ones xs)) → ((z ≡ x) ⊎ Member z xs) × (0 < z.size)
    by_size true q more (inl e) = (inl e, ltb-true 0 z.size (ap (λ (y : Item). ltb 0 y.size) e ∙ q))
    by_size true q more (inr k) = let w = more k in (inr w.0, w.1)
    by_size false q more k = let w = more k in (inr w.0, w.1)

-- ---- what agreeing is

module _ (layers : Bool) where
  agree_self : (x : Item) → agree layers x x ≡ true
  agree_self x = by_case layers
    where
      by_case : (b : Bool) → agree b x x ≡ true
      by_case true = same_refl x.layer
      by_case false = eq-eqb x.size x.size refl

  agree_back : (x y : Item) → agree layers x y ≡ true → agree layers y x ≡ true
  agree_back x y = by_case layers
    where
      by_case : (b : Bool) → agree b x y ≡ true → agree b y x ≡ true
      by_case true e = same_eq y.layer x.layer (sym (same_true x.layer y.layer e))
      by_case false e = eq-eqb y.size x.size (sym (eqb-true x.size y.size e))

  agree_on : (x y z : Item) → agree layers x y ≡ true → agree layers y z ≡ true → agree layers x z ≡ true
  agree_on x y z = by_case layers
    where
      by_case : (b : Bool) → agree b x y ≡ true → agree b y z ≡ true → agree b x z ≡ true
      by_case true e f = same_eq x.layer z.layer (same_true x.layer y.layer e ∙ same_true y.layer z.layer f)
      by_case false e f = eq-eqb x.size z.size (eqb-true x.size y.size e ∙ eqb-true y.size z.size f)

-- ---- 26

one_root : (xs : List Item) (x y : Item) → Member x (full_ones xs) → Member y (full_ones xs) → x.root ≡ y.root → OneRoot xs x y
one_root xs x y m n r =
    let a = full_of xs x m in
    let b = full_of xs y n in
    record { one = a.0; other = b.0; one_full = a.1; other_full = b.1; same_root = r }

pub lengths_clash_lem : (plen : ℕ) (xs : List Item) → Ordered root_before xs → clash false plen xs ≡ lengths_clash xs
unfolding clash_by
lengths_clash_lem plen xs o =
    both_ways (runs (first_wrong false plen) (λ (x y : Item). not (agree false x y)) (full_ones xs)) (lengths_clash xs)
    (λ e. from (runs_found (first_wrong false plen) (agree false) (full_ones xs) e)) to
  where
    from : Found (first_wrong false plen) (agree false) (full_ones xs) → lengths_clash xs ≡ true
    from (one x m e) = absurd (false≢true e)
    from (two x y m n r e) = (pair_of (agree false) xs).1 (x, y, one_root xs x y m n r, e)

    to : lengths_clash xs ≡ true → runs (first_wrong false plen) (λ (x y : Item). not (agree false x y)) (full_ones xs) ≡ true
    to e = by_case (runs (first_wrong false plen) (λ (x y : Item). not (agree false x y)) (full_ones xs)) refl
      where
        w : (x : Item) × (y : Item) × OneRoot xs x y × (agree false x y ≡ false)
        w = (pair_of (agree false) xs).0 e

        by_case : (t : Bool) → runs (first_wrong false plen) (λ (x y : Item). not (agree false x y)) (full_ones xs) ≡ t → t ≡ true
        by_case true q = refl
        by_case false q =
            let s = runs_settled (first_wrong false plen) (agree false) (agree_self false) (agree_back false) (agree_on false) (full_ones xs)
            (full_ordered xs (roots_ordered xs o)) (λ x y m n r g. refl) q in
            let r = w.2 in
            absurd (false≢true (sym w.3 ∙ s.agreeing w.0 w.1 (full_there xs w.0 r.one r.one_full)
            (full_there xs w.1 r.other r.other_full) r.same_root))

-- ---- 28

-- what is asked of a layer
abbrev gives : ℕ → ℕ → List ℕ → List ℕ → Bool
gives plen n layer root = has_layer n plen && not (same (layer_root layer (piece_layer plen) (height (block_count n))) root)

gives_same : (plen n m : ℕ) (a b r s : List ℕ) → n ≡ m → a ≡ b → r ≡ s → gives plen n a r ≡ gives plen m b s
gives_same plen n m a b r s e f g = rw (e, f, g) refl

module _ (plen : ℕ) (xs : List Item) (o : Ordered root_before xs) (l : lengths_clash xs ≡ false) where
  -- files of one root have one length
  one_length : (x y : Item) → Member x (full_ones xs) → Member y (full_ones xs) → x.root ≡ y.root → x.size ≡ y.size
  one_length x y m n r = by_case (eqb x.size y.size) refl
    where
      by_case : (t : Bool) → eqb x.size y.size ≡ t → x.size ≡ y.size
      by_case true e = eqb-true x.size y.size e
      by_case false e = absurd (false≢true (sym l ∙ (pair_of (agree false) xs).1 (x, y, one_root xs x y m n r, e)))

  together : (x y : Item) → Member x (full_ones xs) → Member y (full_ones xs) → x.root ≡ y.root → agree true x y ≡ true
      → first_wrong true plen x ≡ first_wrong true plen y
  together x y m n r a =
      gives_same plen x.size y.size x.layer y.layer x.root y.root (one_length x y m n r)
      (same_true x.layer y.layer a) r

  -- a file whose layer is asked for is not empty
  asked_full : (x : Item) → gives_other plen x ≡ true → 0 < x.size
  unfolding has_layer
  asked_full x e =
      let h = ltb-true plen x.size ((and-eq-true_iff (ltb plen x.size)
      (not (same (layer_root x.layer (piece_layer plen) (height (block_count x.size))) x.root))).0 e).0 in omega arith

  pub layers_clash : clash true plen xs ≡ some (gives_other plen) xs || two_layers xs
  unfolding clash_by
  layers_clash =
      both_ways (runs (first_wrong true plen) (λ (x y : Item). not (agree true x y)) (full_ones xs))
      (some (gives_other plen) xs || two_layers xs) (λ e. from (runs_found (first_wrong true plen) (agree true) (full_ones xs) e)) to
    where
      from : Found (first_wrong true plen) (agree true) (full_ones xs) → some (gives_other plen) xs || two_layers xs ≡ true
      from (one x m e) = or_left (some (gives_other plen) xs) (two_layers xs) (some_there (gives_other plen) xs x (full_of xs x m).0 e)
      from (two x y m n r e) =
          or_right (some (gives_other plen) xs) (two_layers xs) ((pair_of (agree true) xs).1 (x, y, one_root xs x y m n r, e))

      to : some (gives_other plen) xs || two_layers xs ≡ true
          → runs (first_wrong true plen) (λ (x y : Item). not (agree true x y)) (full_ones xs) ≡ true
      to e = by_case (runs (first_wrong true plen) (λ (x y : Item). not (agree true x y)) (full_ones xs)) refl
        where
          settled : runs (first_wrong true plen) (λ (x y : Item). not (agree true x y)) (full_ones xs) ≡ false
              → Settled (first_wrong true plen) (agree true) (full_ones xs)
          settled q =
              runs_settled (first_wrong true plen) (agree true) (agree_self true) (agree_back true) (agree_on true) (full_ones xs)
              (full_ordered xs (roots_ordered xs o)) together q

          wrong_layer : Settled (first_wrong true plen) (agree true) (full_ones xs) → some (gives_other plen) xs ≡ true → ⊥
          wrong_layer s a =
              let w = some_one (gives_other plen) xs a in
              false≢true (sym (s.firsts w.0 (full_there xs w.0 w.1 (asked_full w.0 w.2))) ∙ w.2)

          wrong_pair : Settled (first_wrong true plen) (agree true) (full_ones xs) → two_layers xs ≡ true → ⊥
          wrong_pair s a =
              let w = (pair_of (agree true) xs).0 a in
              let r = w.2 in
              false≢true (sym w.3 ∙ s.agreeing w.0 w.1 (full_there xs w.0 r.one r.one_full)
              (full_there xs w.1 r.other r.other_full) r.same_root)

          by_case : (t : Bool) → runs (first_wrong true plen) (λ (x y : Item). not (agree true x y)) (full_ones xs) ≡ t → t ≡ true
          by_case true q = refl
          by_case false q =
              elim (or_one (some (gives_other plen) xs) (two_layers xs) e)
              [ inl a ↦ absurd (wrong_layer (settled q) a) | inr b ↦ absurd (wrong_pair (settled q) b) ]

-- ---- by root and layer is an order

pub root_one_way : (x y : Item) → root_before x y ≡ true → root_before y x ≡ false
root_one_way x y = layer_one_way (x.root, x.layer) (y.root, y.layer)

pub root_behind : (x y z : Item) → root_before y x ≡ false → root_before z y ≡ false → root_before z x ≡ false
root_behind x y z = layer_behind (x.root, x.layer) (y.root, y.layer) (z.root, z.layer)

-- ---- the layers stand in their order

given_from : (x : Item) (b : ℕ) (bs : List ℕ) (ys : List Item) → x.layer ≡ b ∷ bs → OrderedFrom root_before x ys
    → OrderedFrom layer_before (x.root, b ∷ bs) (layers_given ys)
unfolding layers_given OrderedFrom
given_from x b bs [] e o = tt
given_from x b bs (y ∷ ys) e o =
    by_layer y.layer refl (given_from x b bs ys e (ordered_skip root_before root_behind x y ys o.0 o.1))
    (λ c cs f. given_from y c cs ys f o.1)
  where
    by_layer : (m : List ℕ) → y.layer ≡ m → OrderedFrom layer_before (x.root, b ∷ bs) (layers_given ys)
        → ((c : ℕ) (cs : List ℕ) → y.layer ≡ c ∷ cs → OrderedFrom layer_before (y.root, c ∷ cs) (layers_given ys))
        → OrderedFrom layer_before (x.root, b ∷ bs) (with_layer y m (layers_given ys))
    by_layer [] f past more = past
    by_layer (c ∷ cs) f past more = (sym (ap₂ (λ (u v : List ℕ). layer_before (y.root, u) (x.root, v)) f e) ∙ o.0, more c cs f)

pub given_ordered : (xs : List Item) → Ordered root_before xs → Ordered layer_before (layers_given xs)
unfolding layers_given Ordered
given_ordered [] o = tt
given_ordered (x ∷ xs) o = by_layer x.layer refl (given_ordered xs (skip_first root_before x xs o))
  where
    by_layer : (m : List ℕ) → x.layer ≡ m → Ordered layer_before (layers_given xs) → Ordered layer_before (with_layer x m (layers_given xs))
    by_layer [] f past = past
    by_layer (b ∷ bs) f past = given_from x b bs xs f o

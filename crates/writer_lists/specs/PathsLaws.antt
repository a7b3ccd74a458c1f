-- Two paths compared from the left: as long as their elements are the same they stand at one position, and what is left says what the
-- whole says.
-- Assumes nothing.
use Rattle.std.specs.Prelude.{◌≡◌, Bool, true, cond, ◌&&◌, List, [], ◌∷◌, ℕ, zero, suc, ◌+◌, ◌-◌, ◌≤◌, ◌<◌, length, take, drop, get_or, leb, ltb}
use Rattle.std.proofs.Math.Path.{refl, ap}
use Rattle.std.proofs.Common.{sym, ap₂, ◌∙◌, subst, arith, length-drop, ext_get_or, get_or-take, get_or-drop, drop-drop, length-take-le, eq-eqb, eqb-true, ne_eqb, leb-true, ltb-true, ltb-false}
use Rattle.std.proofs.Math.Bool.{false, and-eq-true_iff}
use Rattle.octets.specs.Octets.{cut, same, number_at}
use Rattle.octets.specs.OctetsLaws.{number_same, cut_length, same_true, same_eq}
use Rattle.bencode.specs.Grammar.{precedes}
use Rattle.writer_meaning.specs.Content.{path_before}
use Rattle.writer_meaning.specs.Number.{begins}
use Rattle.writer_meaning.proofs.OrderLaws.{path_one_way}
use Rattle.writer_lists.specs.Lists.{element_end, elements_fit, elements_in}
use Rattle.writer_lists.specs.Walk.{PathLeft, Walk}
use Rattle.writer_lists.specs.ListsLaws.{number_there}
use Rattle.bencode.specs.Front.{Front}
use Rattle.bencode.specs.FrontLaws.{front_short, front_both}

-- ---- what is left of one path

pub in_end : (steps : ℕ) (s : List ℕ) → length s ≡ 0 → elements_in steps s ≡ []
unfolding elements_in
in_end zero s e = refl
in_end (suc steps) s e = rw (eq-eqb (length s) 0 e) refl

-- a first element, and the rest in the form
pub record First (steps : ℕ) (s : List ℕ) : Type 0 where
  pub fewer : ℕ
  pub one_step : steps ≡ suc fewer
  pub has_size : 4 ≤ length s
  pub has_bytes : element_end s ≤ length s
  pub rest_fits : elements_fit fewer (drop (element_end s) s) ≡ true
  pub elements : elements_in steps s ≡ cut s 4 (number_at s 0 4) ∷ elements_in fewer (drop (element_end s) s)

first_of : (steps : ℕ) (s : List ℕ) → elements_fit steps s ≡ true → (length s ≡ 0 → ⊥) → First steps s
unfolding elements_fit elements_in
first_of zero s h n = absurd (n (eqb-true (length s) 0 h))
first_of (suc steps) s h n =
    let k : cond false true (leb 4 (length s) && (leb (element_end s) (length s) && elements_fit steps (drop (element_end s) s))) ≡ true = rw
    (ne_eqb (length s) 0 n) at h in
    let a = (and-eq-true_iff (leb 4 (length s)) (leb (element_end s) (length s) && elements_fit steps (drop (element_end s) s))).0 k in
    let b = (and-eq-true_iff (leb (element_end s) (length s)) (elements_fit steps (drop (element_end s) s))).0 a.1 in
    record {
      fewer = steps;
      one_step = refl;
      has_size = leb-true 4 (length s) a.0;
      has_bytes = leb-true (element_end s) (length s) b.0;
      rest_fits = b.1;
      elements = rw (ne_eqb (length s) 0 n) refl;
    }

-- ---- by position

cut_there : (s : List ℕ) (at n : ℕ) → cut (drop at s) 4 n ≡ take n (drop (at + 4) s)
unfolding cut
cut_there s at n = ap (take n) (drop-drop 4 at s)

pub path_start : (s : List ℕ) → elements_fit (length s) s ≡ true → PathLeft s 0
path_start s h = record { within = omega arith; steps = length s; fits = h }

-- the element at a position
pub element_there : (s : List ℕ) (at : ℕ) → PathLeft s at → at < length s → (at + 4 ≤ length s) × (at + 4 + number_at s at 4 ≤ length s)
element_there s at l h =
    let f = first_of l.steps (drop at s) l.fits (λ z. omega (arith, length-drop at s)) in
    (omega (arith, f.has_size, length-drop at s), omega (arith, f.has_bytes, length-drop at s, number_there s at))

rest_is : (s : List ℕ) (at : ℕ) → drop (element_end (drop at s)) (drop at s) ≡ drop (at + 4 + number_at s at 4) s
rest_is s at = drop-drop (element_end (drop at s)) at s ∙ ap (λ (n : ℕ). drop n s) sums
  where
    sums : at + element_end (drop at s) ≡ at + 4 + number_at s at 4
    sums = omega (arith, number_there s at)

pub path_more : (s : List ℕ) (at : ℕ) → PathLeft s at → at < length s → PathLeft s (at + 4 + number_at s at 4)
path_more s at l h =
    let f = first_of l.steps (drop at s) l.fits (λ z. omega (arith, length-drop at s)) in
    record { within = (element_there s at l h).1; steps = f.fewer; fits = ap (elements_fit f.fewer) (sym (rest_is s at)) ∙ f.rest_fits }

-- the path from a position on is its element there and the rest
pub path_elements : (s : List ℕ) (at : ℕ) (l : PathLeft s at) (h : at < length s)
    → elements_in l.steps (drop at s) ≡ take (number_at s at 4) (drop (at + 4) s) ∷ elements_in (path_more s at l h).steps
    (drop (at + 4 + number_at s at 4) s)
unfolding path_more first_of
path_elements s at l h =
    let f = first_of l.steps (drop at s) l.fits (λ z. omega (arith, length-drop at s)) in
    f.elements
    ∙ ap₂ (λ (x : List ℕ) (y : List (List ℕ)). x ∷ y)
    (ap (cut (drop at s) 4) (number_there s at) ∙ cut_there s at (number_at s at 4))
    (ap (elements_in f.fewer) (rest_is s at))

-- ---- both paths at one position

none_left : (s : List ℕ) (at : ℕ) (l : PathLeft s at) → length s ≤ at → elements_in l.steps (drop at s) ≡ []
none_left s at l h = in_end l.steps (drop at s) (length-drop at s ∙ omega arith)

-- the elements as slices
pub element_size : (s : List ℕ) (at : ℕ) → PathLeft s at → at < length s → at + 4 ≤ length s
element_size s at l h = (element_there s at l h).0

pub element_end_lem : (s : List ℕ) (at m : ℕ) → PathLeft s at → at < length s → m ≡ number_at s at 4 → at + 4 + m ≤ length s
element_end_lem s at m l h e = let w = (element_there s at l h).1 in omega arith

slice_is : (s : List ℕ) (at m : ℕ) → m ≡ number_at s at 4 → take (at + 4 + m - (at + 4)) (drop (at + 4) s) ≡ take (number_at s at 4)
    (drop (at + 4) s)
slice_is s at m e = ap (λ (n : ℕ). take n (drop (at + 4) s)) size
  where
    size : at + 4 + m - (at + 4) ≡ number_at s at 4
    size = omega arith

module _ (answer : List (List ℕ) → List (List ℕ) → Bool) where
  pub walk_start : (p q : List ℕ) → elements_fit (length p) p ≡ true → elements_fit (length q) q ≡ true → Walk answer p q 0
  unfolding path_start
  walk_start p q a b = record { left = path_start p a; right = path_start q b; same_answer = refl }

  -- the first is used up
  pub walk_first_end : (p q : List ℕ) (at : ℕ) (b : Walk answer p q at) → length p ≤ at
      → answer (elements_in (length p) p) (elements_in (length q) q) ≡ answer [] (elements_in b.right.steps (drop at q))
  walk_first_end p q at b h =
      b.same_answer ∙ ap (λ (x : List (List ℕ)). answer x (elements_in b.right.steps (drop at q))) (none_left p at b.left h)

  -- the second is used up
  pub walk_second_end : ((e : List ℕ) (p : List (List ℕ)) → answer (e ∷ p) [] ≡ false) → (p q : List ℕ) (at : ℕ) → Walk answer p q at → at <
      length p → length q ≤ at
      → answer (elements_in (length p) p) (elements_in (length q) q) ≡ false
  walk_second_end none p q at b g h =
      b.same_answer ∙ ap₂ answer (path_elements p at b.left g) (none_left q at b.right h) ∙ none
      (take (number_at p at 4) (drop (at + 4) p)) (elements_in (path_more p at b.left g).steps (drop (at + 4 + number_at p at 4) p))

  -- both have an element
  module _ (other : List ℕ → List ℕ → Bool)
      (step : (e f : List ℕ) (p q : List (List ℕ)) → answer (e ∷ p) (f ∷ q) ≡ cond (same e f) (answer p q) (other e f)) (p q : List ℕ)
      (at : ℕ) (b : Walk answer p q at) (g : at < length p) (h : at < length q) where
    next : answer (elements_in (length p) p) (elements_in (length q) q)
        ≡ cond (same (take (number_at p at 4) (drop (at + 4) p)) (take (number_at q at 4) (drop (at + 4) q)))
        (answer (elements_in (path_more p at b.left g).steps (drop (at + 4 + number_at p at 4) p))
        (elements_in (path_more q at b.right h).steps (drop (at + 4 + number_at q at 4) q)))
        (other (take (number_at p at 4) (drop (at + 4) p)) (take (number_at q at 4) (drop (at + 4) q)))
    next =
        b.same_answer
        ∙ ap₂ answer (path_elements p at b.left g) (path_elements q at b.right h)
        ∙ step (take (number_at p at 4) (drop (at + 4) p)) (take (number_at q at 4) (drop (at + 4) q))
        (elements_in (path_more p at b.left g).steps (drop (at + 4 + number_at p at 4) p))
        (elements_in (path_more q at b.right h).steps (drop (at + 4 + number_at q at 4) q))

    -- they differ, and decide
    walk_differ : same (take (number_at p at 4) (drop (at + 4) p)) (take (number_at q at 4) (drop (at + 4) q)) ≡ false
        → other (take (number_at p at 4) (drop (at + 4) p)) (take (number_at q at 4) (drop (at + 4) q)) ≡ answer (elements_in (length p) p)
        (elements_in (length q) q)
    walk_differ d = sym (next ∙ rw d refl)

    -- they are the same, and of one size
    same_size : same (take (number_at p at 4) (drop (at + 4) p)) (take (number_at q at 4) (drop (at + 4) q)) ≡ true → number_at p at 4 ≡
        number_at q at 4
    same_size s =
        let a = cut_length p (at + 4) (number_at p at 4) (element_there p at b.left g).1 in
        let c = cut_length q (at + 4) (number_at q at 4) (element_there q at b.right h).1 in
        sym (length_of_lem p (number_at p at 4) a) ∙ ap (λ (l : List ℕ). length l)
        (same_true (take (number_at p at 4) (drop (at + 4) p)) (take (number_at q at 4) (drop (at + 4) q)) s) ∙ length_of_lem q
        (number_at q at 4) c
      where
        length_of_lem : (s : List ℕ) (n : ℕ) → length (cut s (at + 4) n) ≡ n → length (take n (drop (at + 4) s)) ≡ n
        length_of_lem u n x = unfold cut in x

    walk_more : same (take (number_at p at 4) (drop (at + 4) p)) (take (number_at q at 4) (drop (at + 4) q)) ≡ true → Walk answer p q
        (at + 4 + number_at p at 4)
    walk_more s =
        let z = same_size s in
        let r : PathLeft q (at + 4 + number_at p at 4) = subst (λ (n : ℕ). PathLeft q (at + 4 + n)) (sym z) (path_more q at b.right h) in
        record {
          left = path_more p at b.left g;
          right = record
              { within = r.within; steps = (path_more q at b.right h).steps; fits = fits_there z };
          same_answer = next ∙ rw s
              (ap (λ (n : ℕ). answer (elements_in (path_more p at b.left g).steps (drop (at + 4 + number_at p at 4) p))
              (elements_in (path_more q at b.right h).steps (drop (at + 4 + n) q))) (sym z));
        }
      where
        fits_there : number_at p at 4 ≡ number_at q at 4 → elements_fit (path_more q at b.right h).steps
            (drop (at + 4 + number_at p at 4) q) ≡ true
        fits_there z =
            ap (λ (n : ℕ). elements_fit (path_more q at b.right h).steps (drop (at + 4 + n) q)) z ∙ (path_more q at b.right h).fits

    -- as slices
    module _ (m n : ℕ) (i : m ≡ number_at p at 4) (j : n ≡ number_at q at 4) where
      pub slices_differ : (s r : Bool) → s ≡ same (take (at + 4 + m - (at + 4)) (drop (at + 4) p))
          (take (at + 4 + n - (at + 4)) (drop (at + 4) q)) → s ≡ false
          → r ≡ other (take (at + 4 + m - (at + 4)) (drop (at + 4) p)) (take (at + 4 + n - (at + 4)) (drop (at + 4) q))
          → r ≡ answer (elements_in (length p) p) (elements_in (length q) q)
      slices_differ s r u d w =
          w ∙ ap₂ other (slice_is p at m i) (slice_is q at n j) ∙ walk_differ
          (sym (u ∙ ap₂ same (slice_is p at m i) (slice_is q at n j)) ∙ d)

      pub slices_same : (s : Bool) → s ≡ same (take (at + 4 + m - (at + 4)) (drop (at + 4) p))
          (take (at + 4 + n - (at + 4)) (drop (at + 4) q)) → s ≡ true → Walk answer p q (at + 4 + m)
      slices_same s u d =
          subst (λ (k : ℕ). Walk answer p q (at + 4 + k)) (sym i)
          (walk_more (sym (u ∙ ap₂ same (slice_is p at m i) (slice_is q at n j)) ∙ d))

-- ---- paths whose first bytes are the same

module _ (p q : List ℕ) (at k : ℕ) (f : Front p q k) where
  -- sizes within the front are the same
  size_alike : at + 4 ≤ k → number_at p at 4 ≡ number_at q at 4
  size_alike h = number_same p q at at 4 (λ i l. f.alike (at + i) (omega arith))

  -- and so are elements
  element_alike : (m : ℕ) → at + 4 + m ≤ k → take m (drop (at + 4) p) ≡ take m (drop (at + 4) q)
  element_alike m h =
      ext_get_or 0 (take m (drop (at + 4) p)) (take m (drop (at + 4) q)) (size p f.in_first ∙ sym (size q f.in_second)) bytes
    where
      size : (s : List ℕ) → k ≤ length s → length (take m (drop (at + 4) s)) ≡ m
      size s l = length-take-le m (drop (at + 4) s) (omega (arith, length-drop (at + 4) s))

      bytes : (i : ℕ) → i < length (take m (drop (at + 4) p)) → get_or (take m (drop (at + 4) p)) i 0 ≡ get_or (take m (drop (at + 4) q)) i 0
      bytes i l =
          let z = size p f.in_first in
          get_or-take m (drop (at + 4) p) i 0 (omega arith) ∙ get_or-drop (at + 4) p i 0
          ∙ f.alike (at + 4 + i) (omega arith)
          ∙ sym (get_or-take m (drop (at + 4) q) i 0 (omega arith) ∙ get_or-drop (at + 4) q i 0)

  module _ (answer : List (List ℕ) → List (List ℕ) → Bool) (other : List ℕ → List ℕ → Bool)
      (step : (e g : List ℕ) (u v : List (List ℕ)) → answer (e ∷ u) (g ∷ v) ≡ cond (same e g) (answer u v) (other e g))
      (b : Walk answer p q at) (g : at < length p) (m : ℕ) (i : m ≡ number_at p at 4) where
    -- an element that ends within the front is passed
    pub front_more : at + 4 + m ≤ k → Walk answer p q (at + 4 + m)
    front_more h = subst (λ (n : ℕ). Walk answer p q (at + 4 + n)) (sym i) (walk_more answer other step p q at b g there alike)
      where
        there : at < length q
        there = let l = f.in_second in omega arith

        sizes : number_at q at 4 ≡ m
        sizes = sym (i ∙ size_alike (omega arith))

        alike : same (take (number_at p at 4) (drop (at + 4) p)) (take (number_at q at 4) (drop (at + 4) q)) ≡ true
        alike =
            same_eq (take (number_at p at 4) (drop (at + 4) p)) (take (number_at q at 4) (drop (at + 4) q))
            (ap (λ (n : ℕ). take n (drop (at + 4) p)) (sym i) ∙ element_alike m h ∙ ap (λ (n : ℕ). take n (drop (at + 4) q))
            (sym sizes))

    -- one that the front ends in, behind its size, is as long in the other path
    pub front_inside : at + 4 ≤ k → k < at + 4 + m → k < length q
    front_inside h l =
        let e = i ∙ size_alike h in
        let n = f.in_second in
        omega (arith, (element_there q at b.right (omega arith)).1)

-- ---- whether one stands before the other

pub before_step : (e f : List ℕ) (p q : List (List ℕ)) → path_before (e ∷ p) (f ∷ q) ≡ cond (same e f) (path_before p q) (precedes e f)
unfolding path_before
before_step e f p q = refl

pub before_none : (e : List ℕ) (p : List (List ℕ)) → path_before (e ∷ p) [] ≡ false
unfolding path_before
before_none e p = refl

-- the first is used up: it stands before what is left of the second, if anything is
pub before_first_end : (p q : List ℕ) (at : ℕ) → Walk path_before p q at → length p ≤ at → ltb at (length q) ≡ path_before
    (elements_in (length p) p) (elements_in (length q) q)
before_first_end p q at b h = sym (walk_first_end path_before p q at b h ∙ by_rest (ltb at (length q)) refl)
  where
    by_rest : (t : Bool) → ltb at (length q) ≡ t → path_before [] (elements_in b.right.steps (drop at q)) ≡ t
    by_rest true e = ap (path_before []) (path_elements q at b.right (ltb-true at (length q) e)) ∙ (unfold path_before in refl)
    by_rest false e = ap (path_before []) (none_left q at b.right (ltb-false at (length q) e)) ∙ (unfold path_before in refl)

-- the first byte that differs stands in an element, behind its size, and decides
pub before_inside : (p q : List ℕ) (at k m : ℕ) → Front p q k → Walk path_before p q at → at < length p → m ≡ number_at p at 4 → at + 4 ≤ k
    → k < at + 4 + m → ltb (get_or p k 0) (get_or q k 0) ≡ path_before (elements_in (length p) p) (elements_in (length q) q)
before_inside p q at k m f b g i h l = decides ∙ walk_differ path_before precedes before_step p q at b g there differ
  where
    there : at < length q
    there = let n = f.in_second in omega arith

    sizes : number_at p at 4 ≡ number_at q at 4
    sizes = size_alike p q at k f h

    x : List ℕ
    x = take (number_at p at 4) (drop (at + 4) p)

    y : List ℕ
    y = take (number_at q at 4) (drop (at + 4) q)

    x_size : length x ≡ m
    x_size =
        length-take-le (number_at p at 4) (drop (at + 4) p) (omega (arith, length-drop (at + 4) p, (element_there p at b.left g).1)) ∙ sym
        i

    y_size : length y ≡ m
    y_size =
        length-take-le (number_at q at 4) (drop (at + 4) q) (omega (arith, length-drop (at + 4) q, (element_there q at b.right there).1)) ∙
        sym (i ∙ sizes)

    byte : (s : List ℕ) (n j : ℕ) → j < n → at + 4 + j ≤ k → get_or (take n (drop (at + 4) s)) j 0 ≡ get_or s (at + 4 + j) 0
    byte s n j a c = get_or-take n (drop (at + 4) s) j 0 a ∙ get_or-drop (at + 4) s j 0

    place : at + 4 + (k - (at + 4)) ≡ k
    place = omega arith

    byte_x : get_or x (k - (at + 4)) 0 ≡ get_or p k 0
    byte_x = byte p (number_at p at 4) (k - (at + 4)) (omega arith) (omega arith) ∙ ap (λ (n : ℕ). get_or p n 0) place

    byte_y : get_or y (k - (at + 4)) 0 ≡ get_or q k 0
    byte_y = byte q (number_at q at 4) (k - (at + 4)) (omega (arith, sizes)) (omega arith) ∙ ap (λ (n : ℕ). get_or q n 0) place

    apart : get_or x (k - (at + 4)) 0 ≡ get_or y (k - (at + 4)) 0 → ⊥
    apart e = f.apart (omega (arith, (element_there p at b.left g).1))
        (front_inside p q at k f path_before precedes before_step b g m i h l) (sym byte_x ∙ e ∙ byte_y)

    element_front : Front x y (k - (at + 4))
    element_front =
        record {
          in_first = omega (arith, x_size);
          in_second = omega (arith, y_size);
          alike = λ j c. byte p (number_at p at 4) j (omega arith) (omega arith) ∙ f.alike (at + 4 + j) (omega arith) ∙ sym
              (byte q (number_at q at 4) j (omega (arith, sizes)) (omega arith));
          apart = λ u v. apart;
        }

    decides : ltb (get_or p k 0) (get_or q k 0) ≡ precedes x y
    decides =
        ap₂ ltb (sym byte_x) (sym byte_y) ∙ front_both x y (k - (at + 4)) element_front (omega (arith, y_size)) (omega (arith, x_size))

    differ : same x y ≡ false
    differ = front_short x y (k - (at + 4)) element_front (omega (arith, x_size))

-- a path does not stand before itself
pub before_self : (p : List (List ℕ)) → path_before p p ≡ false
before_self p = by_case (path_before p p) refl
  where
    by_case : (t : Bool) → path_before p p ≡ t → path_before p p ≡ false
    by_case true e = path_one_way p p e
    by_case false e = e

-- ---- whether one begins the other

pub begins_step : (e f : List ℕ) (p q : List (List ℕ)) → begins (e ∷ p) (f ∷ q) ≡ cond (same e f) (begins p q) false
unfolding begins
begins_step e f p q = by_case (same e f)
  where
    by_case : (t : Bool) → t && begins p q ≡ cond t (begins p q) false
    by_case true = refl
    by_case false = refl

pub begins_none : (e : List ℕ) (p : List (List ℕ)) → begins (e ∷ p) [] ≡ false
unfolding begins
begins_none e p = refl

pub begins_first_end : (p q : List ℕ) (at : ℕ) → Walk begins p q at → length p ≤ at → begins (elements_in (length p) p)
    (elements_in (length q) q) ≡ true
begins_first_end p q at b h = walk_first_end begins p q at b h ∙ (unfold begins in refl)

-- What is promised of `kd_place` and `kd_first_piece`: each number exactly when, each call is the other's inverse, and every piece has exactly one place.
-- Assumes nothing.
use Rattle.std.specs.Prelude.{◌≡◌, Bool, true, false, cond, List, ◌↔◌, ℕ, zero, suc, ◌+◌, ◌-◌, ◌≤◌, ◌<◌, ltb}
use Rattle.std.proofs.Math.Path.{refl}
use Rattle.std.proofs.Common.{ap, sym, ◌∙◌, arith, lt-ltb, le-ltb, ltb-true, ltb-false}
use Rattle.std.proofs.Math.Decide.{ℕ_discrete, dec_lt}
use Rattle.numbers.specs.Numbers.{InTable, done, wrong_size, piece_length_out_of_range, no_such_part}
use Rattle.numbers.specs.Chain.{Chain, last, test, decided, exactly_of, in_table_of}
use Rattle.numbers.specs.declared.Answer.{Answer}
use Rattle.tree.specs.Geometry.{is_piece_length}
use Rattle.places.specs.declared.Placed.{Placed}
use Rattle.places.specs.Places.{files_in, list_right, list_number, pieces_of, pieces_before, first_answer, no_place, place_at, place_from, place_answer}
use Rattle.places.proofs.PlacesLaws.{before_more, first_refused, first_past, first_done, place_refused, place_found}

-- piece i of file f is piece number n of the wire: file f is in the list and has that piece, and n counts the pieces of the files before it
pub record At (list : List ℕ) (plen n f i : ℕ) : Type 0 where
  pub there : f < files_in list
  pub inside : i < pieces_of list plen f
  pub counted : pieces_before list plen f + i ≡ n

-- all pieces of the list
abbrev pub all_pieces : List ℕ → ℕ → ℕ
all_pieces list plen = pieces_before list plen (files_in list)

-- ---- files in a row

before_suc : (list : List ℕ) (plen n : ℕ) → pieces_before list plen (suc n) ≡ pieces_before list plen n + pieces_of list plen n
unfolding pieces_before
before_suc list plen n = refl

-- a file begins where those before it end, or later
before_later : (list : List ℕ) (plen f d : ℕ) → pieces_before list plen f + pieces_of list plen f ≤ pieces_before list plen (f + suc d)
before_later list plen f zero = let e : f + 1 ≡ suc f = omega arith in omega (arith, ap (pieces_before list plen) e, before_suc list plen f)
before_later list plen f (suc d) =
    let e : f + suc (suc d) ≡ suc (f + suc d) = omega arith in
    omega (arith, ap (pieces_before list plen) e, before_suc list plen (f + suc d), before_later list plen f d)

before_apart : (list : List ℕ) (plen f g : ℕ) → f < g → pieces_before list plen f + pieces_of list plen f ≤ pieces_before list plen g
before_apart list plen f g l =
    let e : f + suc (g - f - 1) ≡ g = omega arith in
    omega (arith, ap (pieces_before list plen) e, before_later list plen f (g - f - 1))

-- ---- what is found

data Found (list : List ℕ) (plen n c i : ℕ) : Placed → Type 0 where
  nowhere : pieces_before list plen (n + c) ≤ pieces_before list plen n + i → Found list plen n c i (no_place no_such_part)
  here : (f j : ℕ) → f < n + c → j < pieces_of list plen f → pieces_before list plen f + j ≡ pieces_before list plen n + i → Found list plen n c i (place_at f j)

place_none : (list : List ℕ) (plen n i : ℕ) → Found list plen n 0 i (place_from list plen n 0 i)
unfolding place_from
place_none list plen n i = let e : n + 0 ≡ n = omega arith in nowhere (omega (arith, ap (pieces_before list plen) e))

found : (list : List ℕ) (plen n c i : ℕ) → Found list plen n c i (place_from list plen n c i)
found list plen n zero i = place_none list plen n i
found list plen n (suc c) i = by (dec_lt i (pieces_of list plen n)) (found list plen (suc n) c (i - pieces_of list plen n))
  where
    step : (b : Bool) → ltb i (pieces_of list plen n) ≡ b → place_from list plen n (suc c) i ≡ cond b (place_at n i) (place_from list plen (suc n) c (i - pieces_of list plen n))
    step b e = unfold place_from in rw e refl

    moved : pieces_of list plen n ≤ i → (r : Placed) → Found list plen (suc n) c (i - pieces_of list plen n) r → Found list plen n (suc c) i r
    moved l r (nowhere h) =
        let e : n + suc c ≡ suc n + c = omega arith in
        nowhere (omega (arith, ap (pieces_before list plen) e, before_suc list plen n))
    moved l r (here f j a b q) = here f j (omega arith) b (omega (arith, before_suc list plen n))

    by : Dec (i < pieces_of list plen n) → Found list plen (suc n) c (i - pieces_of list plen n) (place_from list plen (suc n) c (i - pieces_of list plen n))
        → Found list plen n (suc c) i (place_from list plen n (suc c) i)
    by (yes l) w = rw (step true (lt-ltb i (pieces_of list plen n) l)) (here n i (omega arith) l refl)
    by (no g) w = rw (step false (le-ltb i (pieces_of list plen n) (omega arith))) (moved (omega arith) _ w)

module _ (list : List ℕ) (plen : ℕ) where
  -- EVERY PIECE HAS AT MOST ONE PLACE,
  pub one_place : (n f g i j : ℕ) → At list plen n f i → At list plen n g j → (f ≡ g) × (i ≡ j)
  one_place n f g i j a b = by (ℕ_discrete f g)
    where
      by : Dec (f ≡ g) → (f ≡ g) × (i ≡ j)
      by (yes e) = (e, omega (arith, a.counted, b.counted, ap (pieces_before list plen) e))
      by (no ne) =
          elim (dec_lt f g) [
            | yes l ↦ (let w : ⊥ = omega (arith, before_apart list plen f g l, a.inside, a.counted, b.counted) in absurd w)
            | no h ↦ (let w : ⊥ = omega (arith, before_apart list plen g f (omega arith), b.inside, a.counted, b.counted) in absurd w)
          ]

  -- a place is one of the pieces of the wire
  pub at_within : (n f i : ℕ) → At list plen n f i → n < all_pieces list plen
  at_within n f i a = omega (arith, before_apart list plen f (files_in list) a.there, a.inside, a.counted)

  module _ (z : list_number list plen ≡ 0) where
    -- where it is found
    placed_cases : (n : ℕ) → Found list plen 0 (files_in list) n (place_answer list plen n)
    placed_cases n = rw (place_found list plen n z) (found list plen 0 (files_in list) n)

    zero_before : pieces_before list plen 0 ≡ 0
    zero_before = unfold pieces_before in refl

    -- AND kd_place GIVES IT: beside 0 the answer is a place of the piece,
    pub place_is : (n : ℕ) → (place_answer list plen n).number ≡ 0 → At list plen n (place_answer list plen n).file (place_answer list plen n).piece
    place_is n e = by (place_answer list plen n) (placed_cases n) e
      where
        by : (r : Placed) → Found list plen 0 (files_in list) n r → r.number ≡ 0 → At list plen n r.file r.piece
        by r (nowhere h) q = absurd (omega arith)
        by r (here f j a b c) q = record { there = omega arith; inside = b; counted = omega (arith, zero_before) }

    -- and a place is answered
    pub is_placed : (n f i : ℕ) → At list plen n f i → place_answer list plen n ≡ place_at f i
    is_placed n f i a = by (place_answer list plen n) (placed_cases n)
      where
        by : (r : Placed) → Found list plen 0 (files_in list) n r → r ≡ place_at f i
        by r (nowhere h) = let e : 0 + files_in list ≡ files_in list = omega arith in let w : ⊥ = omega (arith, ap (pieces_before list plen) e, at_within n f i a, zero_before) in absurd w
        by r (here g j l b c) =
            let o = one_place n g f j i (record { there = omega arith; inside = b; counted = omega (arith, zero_before) }) a in
            rw (o.0, o.1) refl

    -- 29 past the last piece, and else 0
    pub past_last : (n : ℕ) → all_pieces list plen ≤ n → place_answer list plen n ≡ no_place no_such_part
    past_last n l = by (place_answer list plen n) (placed_cases n)
      where
        by : (r : Placed) → Found list plen 0 (files_in list) n r → r ≡ no_place no_such_part
        by r (nowhere h) = refl
        by r (here g j a b c) = let w : ⊥ = omega (arith, at_within n g j (record { there = omega arith; inside = b; counted = omega (arith, zero_before) })) in absurd w

    pub up_to_last : (n : ℕ) → n < all_pieces list plen → (place_answer list plen n).number ≡ 0
    up_to_last n l = by (place_answer list plen n) (placed_cases n)
      where
        by : (r : Placed) → Found list plen 0 (files_in list) n r → r.number ≡ 0
        by r (nowhere h) = let e : 0 + files_in list ≡ files_in list = omega arith in let w : ⊥ = omega (arith, ap (pieces_before list plen) e, zero_before) in absurd w
        by r (here g j a b c) = refl

    -- EACH IS THE OTHER'S INVERSE: the place of a piece leads back to it,
    pub place_then_first : (n : ℕ) → (place_answer list plen n).number ≡ 0
        → ((first_answer list plen (place_answer list plen n).file).number ≡ 0) × ((first_answer list plen (place_answer list plen n).file).count + (place_answer list plen n).piece ≡ n)
    place_then_first n e =
        let a = place_is n e in
        rw (first_done list plen (place_answer list plen n).file z a.there) (refl, a.counted)

    -- and a file's first piece, and those behind it, lead to the file
    pub first_then_place : (f i : ℕ) → (first_answer list plen f).number ≡ 0 → i < pieces_of list plen f → place_answer list plen ((first_answer list plen f).count + i) ≡ place_at f i
    first_then_place f i e l = by (dec_lt f (files_in list))
      where
        by : Dec (f < files_in list) → place_answer list plen ((first_answer list plen f).count + i) ≡ place_at f i
        by (yes h) = rw (first_done list plen f z h) (is_placed (pieces_before list plen f + i) f i (record { there = h; inside = l; counted = refl }))
        by (no g) = let q = ap (λ (a : Answer). a.number) (first_past list plen f z (omega arith)) in let w : ⊥ = omega arith in absurd w

    -- an empty file's first piece is the next file's
    pub empty_next : (f : ℕ) → f + 1 < files_in list → pieces_of list plen f ≡ 0 → first_answer list plen f ≡ first_answer list plen (f + 1)
    empty_next f l e =
        let b : pieces_before list plen f ≡ pieces_before list plen (f + 1) = omega (arith, before_more list plen f) in
        first_done list plen f z (omega arith) ∙ ap (λ (c : ℕ). done c) b ∙ sym (first_done list plen (f + 1) z l)

-- ---- each number exactly when

abbrev pub place_chain : List ℕ → ℕ → ℕ → Chain
place_chain list plen n =
    test (list_right list) wrong_size (test (is_piece_length plen) piece_length_out_of_range (test (ltb n (all_pieces list plen)) no_such_part (last 0)))

abbrev pub first_chain : List ℕ → ℕ → ℕ → Chain
first_chain list plen f =
    test (list_right list) wrong_size (test (is_piece_length plen) piece_length_out_of_range (test (ltb f (files_in list)) no_such_part (last 0)))

number_is : (list : List ℕ) (plen : ℕ) → list_number list plen ≡ cond (list_right list) (cond (is_piece_length plen) 0 piece_length_out_of_range) wrong_size
unfolding list_number
number_is list plen = refl

-- behind 4 and 24 the rest decides
then_rest : (a b : Bool) (x r : ℕ) → x ≡ cond a (cond b 0 piece_length_out_of_range) wrong_size → (y : ℕ) → ((x ≡ 0 → ⊥) → y ≡ x) → (x ≡ 0 → y ≡ r)
    → y ≡ cond a (cond b r piece_length_out_of_range) wrong_size
then_rest true true x r e y f g = g e
then_rest true false x r e y f g = f (λ z. omega arith) ∙ e
then_rest false b x r e y f g = f (λ z. omega arith) ∙ e

pub place_tests : (list : List ℕ) (plen n : ℕ) → (place_answer list plen n).number ≡ decided (place_chain list plen n)
place_tests list plen n =
    then_rest (list_right list) (is_piece_length plen) (list_number list plen) (cond (ltb n (all_pieces list plen)) 0 no_such_part) (number_is list plen) (place_answer list plen n).number
    (λ ne. ap (λ (r : Placed). r.number) (place_refused list plen n ne))
    (λ z. by z (dec_lt n (all_pieces list plen)))
  where
    by : list_number list plen ≡ 0 → Dec (n < all_pieces list plen) → (place_answer list plen n).number ≡ cond (ltb n (all_pieces list plen)) 0 no_such_part
    by z (yes l) = up_to_last list plen z n l ∙ sym (rw (lt-ltb n (all_pieces list plen) l) refl)
    by z (no g) = ap (λ (r : Placed). r.number) (past_last list plen z n (omega arith)) ∙ sym (rw (le-ltb n (all_pieces list plen) (omega arith)) refl)

pub first_tests : (list : List ℕ) (plen f : ℕ) → (first_answer list plen f).number ≡ decided (first_chain list plen f)
first_tests list plen f =
    then_rest (list_right list) (is_piece_length plen) (list_number list plen) (cond (ltb f (files_in list)) 0 no_such_part) (number_is list plen) (first_answer list plen f).number
    (λ ne. ap (λ (a : Answer). a.number) (first_refused list plen f ne))
    (λ z. by z (dec_lt f (files_in list)))
  where
    by : list_number list plen ≡ 0 → Dec (f < files_in list) → (first_answer list plen f).number ≡ cond (ltb f (files_in list)) 0 no_such_part
    by z (yes l) = ap (λ (a : Answer). a.number) (first_done list plen f z l) ∙ sym (rw (lt-ltb f (files_in list) l) refl)
    by z (no g) = ap (λ (a : Answer). a.number) (first_past list plen f z (omega arith)) ∙ sym (rw (le-ltb f (files_in list) (omega arith)) refl)

pub place_in_table : (list : List ℕ) (plen n : ℕ) → InTable (place_answer list plen n).number
place_in_table list plen n = in_table_of (place_chain list plen n) (place_tests list plen n) refl

pub first_in_table : (list : List ℕ) (plen f : ℕ) → InTable (first_answer list plen f).number
first_in_table list plen f = in_table_of (first_chain list plen f) (first_tests list plen f) refl

module _ (list : List ℕ) (plen n : ℕ) where
  pub place_4 : ((place_answer list plen n).number ≡ wrong_size) ↔ (list_right list ≡ false)
  place_4 = exactly_of (place_chain list plen n) wrong_size (place_tests list plen n) refl

  pub place_24 : ((place_answer list plen n).number ≡ piece_length_out_of_range) ↔ ((list_right list ≡ true) × (is_piece_length plen ≡ false))
  place_24 = exactly_of (place_chain list plen n) piece_length_out_of_range (place_tests list plen n) refl

  pub place_29 : ((place_answer list plen n).number ≡ no_such_part) ↔ ((list_number list plen ≡ 0) × (all_pieces list plen ≤ n))
  place_29 = (
    λ e. let w = (exactly_of (place_chain list plen n) no_such_part (place_tests list plen n) refl).0 e in
        (number_is list plen ∙ rw (w.0, w.1.0) refl, ltb-false n (all_pieces list plen) w.1.1),
    λ p. ap (λ (r : Placed). r.number) (past_last list plen p.0 n p.1),
  )

  pub place_0 : ((place_answer list plen n).number ≡ 0) ↔ ((list_number list plen ≡ 0) × (n < all_pieces list plen))
  place_0 = (
    λ e. let w = (exactly_of (place_chain list plen n) 0 (place_tests list plen n) refl).0 e in
        (number_is list plen ∙ rw (w.0, w.1.0) refl, ltb-true n (all_pieces list plen) w.1.1.0),
    λ p. up_to_last list plen p.0 n p.1,
  )

  -- beside a refusal all are zero
  pub place_zeros : ((place_answer list plen n).number ≡ 0 → ⊥) → place_answer list plen n ≡ no_place (place_answer list plen n).number
  place_zeros ne = by (ℕ_discrete (list_number list plen) 0)
    where
      by : Dec (list_number list plen ≡ 0) → place_answer list plen n ≡ no_place (place_answer list plen n).number
      by (no g) = let q = place_refused list plen n g in q ∙ ap no_place (sym (ap (λ (r : Placed). r.number) q))
      by (yes z) =
          elim (dec_lt n (all_pieces list plen)) [
            | yes l ↦ absurd (ne (up_to_last list plen z n l))
            | no g ↦ (let q = past_last list plen z n (omega arith) in q ∙ ap no_place (sym (ap (λ (r : Placed). r.number) q)))
          ]

module _ (list : List ℕ) (plen f : ℕ) where
  pub first_4 : ((first_answer list plen f).number ≡ wrong_size) ↔ (list_right list ≡ false)
  first_4 = exactly_of (first_chain list plen f) wrong_size (first_tests list plen f) refl

  pub first_24 : ((first_answer list plen f).number ≡ piece_length_out_of_range) ↔ ((list_right list ≡ true) × (is_piece_length plen ≡ false))
  first_24 = exactly_of (first_chain list plen f) piece_length_out_of_range (first_tests list plen f) refl

  pub first_29 : ((first_answer list plen f).number ≡ no_such_part) ↔ ((list_number list plen ≡ 0) × (files_in list ≤ f))
  first_29 = (
    λ e. let w = (exactly_of (first_chain list plen f) no_such_part (first_tests list plen f) refl).0 e in
        (number_is list plen ∙ rw (w.0, w.1.0) refl, ltb-false f (files_in list) w.1.1),
    λ p. ap (λ (a : Answer). a.number) (first_past list plen f p.0 p.1),
  )

  pub first_0 : ((first_answer list plen f).number ≡ 0) ↔ ((list_number list plen ≡ 0) × (f < files_in list))
  first_0 = (
    λ e. let w = (exactly_of (first_chain list plen f) 0 (first_tests list plen f) refl).0 e in
        (number_is list plen ∙ rw (w.0, w.1.0) refl, ltb-true f (files_in list) w.1.1.0),
    λ p. ap (λ (a : Answer). a.number) (first_done list plen f p.0 p.1),
  )

  pub first_zeros : ((first_answer list plen f).number ≡ 0 → ⊥) → (first_answer list plen f).count ≡ 0
  first_zeros ne = by (ℕ_discrete (list_number list plen) 0)
    where
      by : Dec (list_number list plen ≡ 0) → (first_answer list plen f).count ≡ 0
      by (no g) = ap (λ (a : Answer). a.count) (first_refused list plen f g)
      by (yes z) =
          elim (dec_lt f (files_in list)) [
            | yes l ↦ absurd (ne (ap (λ (a : Answer). a.number) (first_done list plen f z l)))
            | no g ↦ ap (λ (a : Answer). a.count) (first_past list plen f z (omega arith))
          ]

-- The loops over the records, and which number is given.
-- Assumes nothing.
use Rattle.std.specs.Prelude.{◌≡◌, Bool, true, false, cond, ◌&&◌, List, ℕ, zero, suc, ◌+◌, ◌-◌, ◌*◌, ◌%◌, ◌≤◌, ◌<◌, length, eqb, leb}
use Rattle.std.proofs.Math.Path.{refl}
use Rattle.std.proofs.Common.{ap, sym, ◌∙◌, mul-le-mul_left, mul-one, add-one, arith, eq-eqb, ne_eqb, eqb-true, le-leb, leb-true, lt-ltb, le-ltb}
use Rattle.std.proofs.Math.Bool.{and-eq-true_iff}
use Rattle.std.proofs.lemmas.Bool.{lt-leb}
use Rattle.limits.specs.Limits.{longest_file, largest_torrent}
use Rattle.numbers.specs.Numbers.{refused, done, wrong_size, piece_length_out_of_range, no_such_part}
use Rattle.tree.specs.Geometry.{is_piece_length, piece_count}
use Rattle.tree.proofs.GeometryLaws.{ceil_least, piece_some}
use Rattle.catalogue.specs.Catalogue.{record_size}
use Rattle.places.specs.Places.{files_in, length_of, lengths_right, list_right, list_number, pieces_of, pieces_before, first_answer, no_place, place_at, place_from, place_answer}

-- ---- lengths

lengths_step : (list : List ℕ) (i c : ℕ) → length_of list i ≤ longest_file → lengths_right list i (suc c) ≡ lengths_right list (suc i) c
unfolding lengths_right
lengths_step list i c h = rw (le-leb (length_of list i) longest_file h) refl

lengths_stop : (list : List ℕ) (i c : ℕ) → longest_file < length_of list i → lengths_right list i (suc c) ≡ false
unfolding lengths_right
lengths_stop list i c h = rw (lt-leb (length_of list i) longest_file h) refl

lengths_none : (list : List ℕ) (i : ℕ) → lengths_right list i 0 ≡ true
unfolding lengths_right
lengths_none list i = refl

pub lengths_start : (list : List ℕ) (files : ℕ) → lengths_right list 0 (files - 0) ≡ lengths_right list 0 files
lengths_start list files = let e : files - 0 ≡ files = omega arith in ap (lengths_right list 0) e

pub lengths_more : (list : List ℕ) (i files : ℕ) → i < files → length_of list i ≤ longest_file
    → lengths_right list (i + 1) (files - (i + 1)) ≡ lengths_right list i (files - i)
lengths_more list i files l h =
    let e : files - i ≡ suc (files - (i + 1)) = omega arith in
    sym (ap (lengths_right list i) e ∙ lengths_step list i (files - (i + 1)) h ∙ ap (λ (n : ℕ). lengths_right list n (files - (i + 1))) (sym (add-one i)))

pub lengths_wrong : (list : List ℕ) (i files : ℕ) → i < files → longest_file < length_of list i → lengths_right list i (files - i) ≡ false
lengths_wrong list i files l h =
    let e : files - i ≡ suc (files - (i + 1)) = omega arith in
    ap (lengths_right list i) e ∙ lengths_stop list i (files - (i + 1)) h

pub lengths_done : (list : List ℕ) (i files : ℕ) → files ≤ i → lengths_right list i (files - i) ≡ true
lengths_done list i files l = let e : files - i ≡ 0 = omega arith in ap (lengths_right list i) e ∙ lengths_none list i

-- each length of a right list is in range
length_within : (list : List ℕ) (n c k : ℕ) → lengths_right list n c ≡ true → k < c → length_of list (n + k) ≤ longest_file
unfolding lengths_right
length_within list n zero k e l = absurd (omega arith)
length_within list n (suc c) zero e l =
    let z : n + 0 ≡ n = omega arith in
    let w = leb-true (length_of list n) longest_file ((and-eq-true_iff (leb (length_of list n) longest_file) (lengths_right list (suc n) c)).0 e).0 in
    rw z w
length_within list n (suc c) (suc k) e l =
    let z : n + suc k ≡ suc n + k = omega arith in
    rw z (length_within list (suc n) c k ((and-eq-true_iff (leb (length_of list n) longest_file) (lengths_right list (suc n) c)).0 e).1 (omega arith))

-- ---- the form

pub record ListFormed (list : List ℕ) : Type 0 where
  pub whole : length list % record_size ≡ 0
  pub few : files_in list ≤ largest_torrent
  pub lengths : (n : ℕ) → n < files_in list → length_of list n ≤ longest_file

pub list_parts : (list : List ℕ) → length list % record_size ≡ 0 → files_in list ≤ largest_torrent → list_right list ≡ lengths_right list 0 (files_in list)
unfolding list_right
list_parts list w f = rw (eq-eqb (length list % record_size) 0 w, le-leb (files_in list) largest_torrent f) refl

pub list_not_whole : (list : List ℕ) → (length list % record_size ≡ 0 → ⊥) → list_right list ≡ false
unfolding list_right
list_not_whole list w = rw (ne_eqb (length list % record_size) 0 w) refl

pub list_too_many : (list : List ℕ) → length list % record_size ≡ 0 → largest_torrent < files_in list → list_right list ≡ false
unfolding list_right
list_too_many list w f = rw (eq-eqb (length list % record_size) 0 w, lt-leb (files_in list) largest_torrent f) refl

pub list_formed : (list : List ℕ) → list_right list ≡ true → ListFormed list
unfolding list_right
list_formed list e =
    let p = (and-eq-true_iff (eqb (length list % record_size) 0) (leb (files_in list) largest_torrent && lengths_right list 0 (files_in list))).0 e in
    let q = (and-eq-true_iff (leb (files_in list) largest_torrent) (lengths_right list 0 (files_in list))).0 p.1 in
    record {
      whole = eqb-true (length list % record_size) 0 p.0;
      few = leb-true (files_in list) largest_torrent q.0;
      lengths = λ n l. (let z : 0 + n ≡ n = omega arith in rw z at (length_within list 0 (files_in list) n q.1 l));
    }

-- ---- 4, 24 or 0

pub number_4 : (list : List ℕ) (plen : ℕ) → list_right list ≡ false → list_number list plen ≡ wrong_size
unfolding list_number
number_4 list plen e = rw e refl

pub number_24 : (list : List ℕ) (plen : ℕ) → list_right list ≡ true → is_piece_length plen ≡ false → list_number list plen ≡ piece_length_out_of_range
unfolding list_number
number_24 list plen e f = rw (e, f) refl

pub number_0 : (list : List ℕ) (plen : ℕ) → list_right list ≡ true → is_piece_length plen ≡ true → list_number list plen ≡ 0
unfolding list_number
number_0 list plen e f = rw (e, f) refl

pub number_right : (list : List ℕ) (plen : ℕ) → list_number list plen ≡ 0 → (list_right list ≡ true) × (is_piece_length plen ≡ true)
unfolding list_number
number_right list plen e = by (list_right list) (is_piece_length plen) e
  where
    by : (a b : Bool) → ◌≡◌ {A = ℕ} (cond a (cond b 0 piece_length_out_of_range) wrong_size) 0 → (a ≡ true) × (b ≡ true)
    by true true q = (refl, refl)
    by true false q = absurd (omega arith)
    by false b q = absurd (omega arith)

-- ---- pieces counted

pub record_within : (list : List ℕ) (i : ℕ) → i < files_in list → record_size * (i + 1) ≤ length list
record_within list i l = omega arith

pub pieces_small : (list : List ℕ) (plen n : ℕ) → is_piece_length plen ≡ true → length_of list n ≤ longest_file → pieces_of list plen n ≤ longest_file
unfolding pieces_of piece_count
pieces_small list plen n p l =
    let z = piece_some plen p in
    let m = mul-le-mul_left (length_of list n) z in
    let c = ceil_least (length_of list n) plen (length_of list n) z (omega (arith, mul-one (length_of list n))) in
    omega arith

-- the count of a file's pieces, from the two calls that give it
pub pieces_are : (list : List ℕ) (plen i n c : ℕ) → n ≡ length_of list i → c ≡ piece_count n plen → c ≡ pieces_of list plen i
unfolding pieces_of
pieces_are list plen i n c e f = f ∙ ap (λ (m : ℕ). piece_count m plen) e

pub before_none : (list : List ℕ) (plen : ℕ) → pieces_before list plen 0 ≡ 0
unfolding pieces_before
before_none list plen = refl

pub before_more : (list : List ℕ) (plen n : ℕ) → pieces_before list plen (n + 1) ≡ pieces_before list plen n + pieces_of list plen n
unfolding pieces_before
before_more list plen n = rw (add-one n) refl

pub before_small : (list : List ℕ) (plen n : ℕ) → is_piece_length plen ≡ true → ((k : ℕ) → k < n → length_of list k ≤ longest_file) → pieces_before list plen n ≤ n * longest_file
unfolding pieces_before
before_small list plen zero p f = omega arith
before_small list plen (suc n) p f =
    let a = before_small list plen n p (λ k l. f k (omega arith)) in
    let b = pieces_small list plen n p (f n (omega arith)) in
    omega arith

-- a turn of the sum: it stays a machine's number, and is the sum with one file more
pub sum_fits : (list : List ℕ) (plen i : ℕ) → list_right list ≡ true → is_piece_length plen ≡ true → i < files_in list
    → pieces_before list plen i + pieces_of list plen i ≤ 1048576 * longest_file
sum_fits list plen i e p l =
    let f = list_formed list e in
    let a = before_small list plen i p (λ k h. f.lengths k (omega arith)) in
    let b = pieces_small list plen i p (f.lengths i l) in
    let m = f.few in
    omega arith

-- ---- the first piece of a file

module _ (list : List ℕ) (plen file : ℕ) where
  pub first_refused : (list_number list plen ≡ 0 → ⊥) → first_answer list plen file ≡ refused (list_number list plen)
  unfolding first_answer
  first_refused ne = rw (ne_eqb (list_number list plen) 0 ne) refl

  pub first_past : list_number list plen ≡ 0 → files_in list ≤ file → first_answer list plen file ≡ refused no_such_part
  unfolding first_answer
  first_past z l = rw (z, le-ltb file (files_in list) l) refl

  pub first_done : list_number list plen ≡ 0 → file < files_in list → first_answer list plen file ≡ done (pieces_before list plen file)
  unfolding first_answer
  first_done z l = rw (z, lt-ltb file (files_in list) l) refl

-- ---- the place of a piece

place_in_lem : (list : List ℕ) (plen n c i : ℕ) → i < pieces_of list plen n → place_from list plen n (suc c) i ≡ place_at n i
unfolding place_from
place_in_lem list plen n c i l = rw (lt-ltb i (pieces_of list plen n) l) refl

place_after : (list : List ℕ) (plen n c i : ℕ) → pieces_of list plen n ≤ i → place_from list plen n (suc c) i ≡ place_from list plen (suc n) c (i - pieces_of list plen n)
unfolding place_from
place_after list plen n c i l = rw (le-ltb i (pieces_of list plen n) l) refl

place_nowhere : (list : List ℕ) (plen n i : ℕ) → place_from list plen n 0 i ≡ no_place no_such_part
unfolding place_from
place_nowhere list plen n i = refl

pub place_start : (list : List ℕ) (plen files piece : ℕ) → place_from list plen 0 (files - 0) piece ≡ place_from list plen 0 files piece
place_start list plen files piece = let e : files - 0 ≡ files = omega arith in ap (λ (c : ℕ). place_from list plen 0 c piece) e

pub place_here : (list : List ℕ) (plen i files left : ℕ) → i < files → left < pieces_of list plen i → place_from list plen i (files - i) left ≡ place_at i left
place_here list plen i files left l h =
    let e : files - i ≡ suc (files - (i + 1)) = omega arith in
    ap (λ (c : ℕ). place_from list plen i c left) e ∙ place_in_lem list plen i (files - (i + 1)) left h

pub place_next : (list : List ℕ) (plen i files left : ℕ) → i < files → pieces_of list plen i ≤ left
    → place_from list plen (i + 1) (files - (i + 1)) (left - pieces_of list plen i) ≡ place_from list plen i (files - i) left
place_next list plen i files left l h =
    let e : files - i ≡ suc (files - (i + 1)) = omega arith in
    sym (ap (λ (c : ℕ). place_from list plen i c left) e ∙ place_after list plen i (files - (i + 1)) left h
    ∙ ap (λ (n : ℕ). place_from list plen n (files - (i + 1)) (left - pieces_of list plen i)) (sym (add-one i)))

pub place_none : (list : List ℕ) (plen i files left : ℕ) → files ≤ i → place_from list plen i (files - i) left ≡ no_place no_such_part
place_none list plen i files left l = let e : files - i ≡ 0 = omega arith in ap (λ (c : ℕ). place_from list plen i c left) e ∙ place_nowhere list plen i left

module _ (list : List ℕ) (plen piece : ℕ) where
  pub place_refused : (list_number list plen ≡ 0 → ⊥) → place_answer list plen piece ≡ no_place (list_number list plen)
  unfolding place_answer
  place_refused ne = rw (ne_eqb (list_number list plen) 0 ne) refl

  pub place_found : list_number list plen ≡ 0 → place_answer list plen piece ≡ place_from list plen 0 (files_in list) piece
  unfolding place_answer
  place_found z = rw z refl

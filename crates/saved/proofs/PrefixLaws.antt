-- Bytes of the form are read in one way only, and no bytes of the form begin other bytes of the form: a saved store that was cut short has not
-- the form.
-- Assumes nothing.
use Rattle.std.specs.Prelude.{◌≡◌, true, ◌&&◌, List, ℕ, zero, suc, ◌+◌, ◌-◌, ◌*◌, ◌≤◌, ◌<◌, length, get_or, take, eqb, leb, ltb}
use Rattle.std.proofs.Common.{ap, sym, ◌∙◌, arith, get_or-take, length-take-le, eqb-true, leb-true, ltb-true}
use Rattle.std.proofs.Math.Decide.{ℕ_discrete, dec_lt}
use Rattle.saved.specs.Form.{blocks_in, height_in, mark_count, place_count, block_in, sized, next_block, places_good, mark_good, marks_good, marks_from, formed}
use Rattle.saved.proofs.SoundLaws.{place_at, place_says, both}

-- the kinds of the records, p positions and m marks
pub record Kinds (b : List ℕ) (p m : ℕ) : Type 0 where
  pub places : (k : ℕ) → k < p → get_or b (45 + 41 * k) 0 ≡ 2
  pub marks : (k : ℕ) → k < m → get_or b (45 + 41 * p + 5 * k) 0 ≡ 3
  pub end : get_or b (45 + 41 * p + 5 * m) 0 ≡ 4
  pub size : length b ≡ 50 + 41 * p + 5 * m

-- behind the positions stands a mark or the end
behind_places : (b : List ℕ) (p m : ℕ) → Kinds b p m → get_or b (45 + 41 * p) 0 ≡ 2 → ⊥
behind_places b p zero K e =
    let z : 45 + 41 * p + 5 * 0 ≡ 45 + 41 * p = omega arith in
    let w : get_or b (45 + 41 * p) 0 ≡ 4 = ap (λ (i : ℕ). get_or b i 0) (sym z) ∙ K.end in
    omega arith
behind_places b p (suc m) K e =
    let z : 45 + 41 * p + 5 * 0 ≡ 45 + 41 * p = omega arith in
    let w : get_or b (45 + 41 * p) 0 ≡ 3 = ap (λ (i : ℕ). get_or b i 0) (sym z) ∙ K.marks 0 (omega arith) in
    omega arith

-- of two such strings that agree as far as the shorter goes none is shorter
pub same_counts : (a b : List ℕ) (p m q n : ℕ) → Kinds a p m → Kinds b q n → length a ≤ length b → ((i : ℕ) → i < length a → get_or a i 0 ≡ get_or b i 0) → (p ≡ q) × (m ≡ n)
same_counts a b p m q n A B l f = by (dec_lt p q) (dec_lt q p)
  where
    sa : length a ≡ 50 + 41 * p + 5 * m
    sa = A.size

    sb : length b ≡ 50 + 41 * q + 5 * n
    sb = B.size

    marks : p ≡ q → m ≡ n
    marks e =
        elim (dec_lt m n) [
          | yes y ↦
              let w : get_or b (45 + 41 * q + 5 * m) 0 ≡ 3 = B.marks m y in
              let z : 45 + 41 * p + 5 * m ≡ 45 + 41 * q + 5 * m = omega arith in
              let v = f (45 + 41 * p + 5 * m) (omega arith) in
              let u : get_or b (45 + 41 * p + 5 * m) 0 ≡ 3 = ap (λ (i : ℕ). get_or b i 0) z ∙ w in
              absurd (omega (arith, A.end))
          | no x ↦ omega arith
        ]

    by : Dec (p < q) → Dec (q < p) → (p ≡ q) × (m ≡ n)
    by (yes y) d = absurd (behind_places a p m A (f (45 + 41 * p) (omega arith) ∙ B.places p y))
    by (no x) (yes y) = absurd (behind_places b q n B (sym (f (45 + 41 * q) (omega arith)) ∙ A.places q y))
    by (no x) (no y) = let e : p ≡ q = omega arith in (e, marks e)

-- ---- of the form

pub mark_at : (c : ℕ) (b : List ℕ) (at m : ℕ) → marks_good c b at m ≡ true → (k : ℕ) → k < m → mark_good c b at k ≡ true
unfolding marks_good
mark_at c b at zero g k l = absurd (omega arith)
mark_at c b at (suc m) g k l =
    let w = both (marks_good c b at m) (mark_good c b at m) g in
    elim (ℕ_discrete k m) [ yes e ↦ rw e w.1 | no ne ↦ mark_at c b at m w.0 k (omega arith) ]

pub record MarkIn (c : ℕ) (b : List ℕ) (at k : ℕ) : Type 0 where
  pub kind : get_or b (at + 5 * k) 0 ≡ 3
  pub inside : block_in b at k < c
  pub from : next_block b at k ≤ block_in b at k

pub mark_says : (c : ℕ) (b : List ℕ) (at k : ℕ) → mark_good c b at k ≡ true → MarkIn c b at k
unfolding mark_good
mark_says c b at k g =
    let a = both (eqb (get_or b (at + 5 * k) 0) 3 && ltb (block_in b at k) c) (leb (next_block b at k) (block_in b at k)) g in
    let d = both (eqb (get_or b (at + 5 * k) 0) 3) (ltb (block_in b at k) c) a.0 in
    record { kind = eqb-true (get_or b (at + 5 * k) 0) 3 d.0; inside = ltb-true (block_in b at k) c d.1; from = leb-true (next_block b at k) (block_in b at k) a.1 }

pub record FormIn (b : List ℕ) : Type 0 where
  pub size : length b ≡ 50 + 41 * place_count b + 5 * mark_count b
  pub end : get_or b (length b - 5) 0 ≡ 4
  pub places : places_good (height_in b) b (place_count b) ≡ true
  pub marks : marks_good (blocks_in b) b (marks_from b) (mark_count b) ≡ true

pub form_says : (b : List ℕ) → formed b ≡ true → FormIn b
unfolding formed sized
form_says b g =
    let s = leb 50 (length b) && eqb (get_or b (length b - 5) 0) 4 && eqb (50 + 41 * place_count b + 5 * mark_count b) (length b) in
    let x = both (s && places_good (height_in b) b (place_count b)) (marks_good (blocks_in b) b (marks_from b) (mark_count b)) g in
    let y = both s (places_good (height_in b) b (place_count b)) x.0 in
    let z = both (leb 50 (length b) && eqb (get_or b (length b - 5) 0) 4) (eqb (50 + 41 * place_count b + 5 * mark_count b) (length b)) y.0 in
    let w = both (leb 50 (length b)) (eqb (get_or b (length b - 5) 0) 4) z.0 in
    record {
      size = sym (eqb-true (50 + 41 * place_count b + 5 * mark_count b) (length b) z.1);
      end = eqb-true (get_or b (length b - 5) 0) 4 w.1;
      places = y.1;
      marks = x.1;
    }

pub form_kinds : (b : List ℕ) → FormIn b → Kinds b (place_count b) (mark_count b)
form_kinds b F =
    record {
      places = λ k l. (place_says (height_in b) b k (place_at (height_in b) b (place_count b) F.places k l)).kind;
      marks = λ k l. (mark_says (blocks_in b) b (marks_from b) k (mark_at (blocks_in b) b (marks_from b) (mark_count b) F.marks k l)).kind;
      end = let e : 45 + 41 * place_count b + 5 * mark_count b ≡ length b - 5 = omega (arith, F.size) in ap (λ (i : ℕ). get_or b i 0) e ∙ F.end;
      size = F.size;
    }

-- A SAVE THAT WAS CUT SHORT has not the form
pub cut_short_not_formed : (b : List ℕ) (k : ℕ) → formed b ≡ true → k < length b → formed (take k b) ≡ true → ⊥
cut_short_not_formed b k g l g2 =
    let t = take k b in
    let n : length (take k b) ≡ k = length-take-le k b (omega arith) in
    let F = form_says b g in
    let T = form_says (take k b) g2 in
    let w = same_counts (take k b) b (place_count (take k b)) (mark_count (take k b)) (place_count b) (mark_count b) (form_kinds (take k b) T) (form_kinds b F) (omega arith)
    (λ i a. get_or-take k b i 0 (omega arith)) in
    omega (arith, F.size, T.size, w.0, w.1)

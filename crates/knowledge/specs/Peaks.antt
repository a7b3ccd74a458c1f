-- Which hashes of a store the earlier tree's root is worked out of: the peaks, and no others.
-- Assumes nothing.
use Rattle.std.specs.Prelude.{◌≡◌, List, ◌↔◌, ℕ, zero, suc, ◌+◌, ◌-◌, ◌*◌, ◌/◌, ◌^◌, ◌≤◌, ◌<◌}
use Rattle.std.proofs.Math.Path.{refl, ap}
use Rattle.std.proofs.Common.{ap₂, sym, ◌∙◌, div-lt_iff_lt-mul, pow-add, arith}
use Rattle.std.proofs.Math.Decide.{dec_lt, dec_le}
use Rattle.std.proofs.Math.Nat.{mul_assoc, mul-le-mul_right, pow-succ', add-mul, one-mul}
use Rattle.std.proofs.Math.Pow.{pow_pos, pow-lt}
use Rattle.sha256.specs.declared.Hashed.{Hashed}
use Rattle.tree.specs.Geometry.{block_count, height, covering, Padding}
use Rattle.tree.proofs.GeometryLaws.{padding_from_covering, height_enough, left_start, right_end}
use Rattle.store.specs.Store.{held_answer}
use Rattle.extends.specs.Extends.{whole_blocks, both, earlier, earlier_root}
use Rattle.extends.proofs.ExtendsLaws.{earlier_whole, earlier_past, earlier_last, earlier_pair, both_known, both_says, whole_ends, ends_whole, whole_count}
use Rattle.words.specs.Held.{Holds}
use Rattle.words.specs.Younger.{Peak}

-- kd_held gives them all
abbrev pub PeaksHeld : List ℕ → ℕ → Type 0
PeaksHeld s n = (l i : ℕ) → Peak n l i → (v : List ℕ) × Holds s l i v

abbrev number_of : Hashed → ℕ
number_of x = x.number

module _ (s : List ℕ) (n : ℕ) (last : List ℕ) where
  abbrev at : ℕ → ℕ → ℕ
  at l i = (earlier s n last l i).number

  -- what is not whole ends behind the whole blocks
  behind : (l i : ℕ) → whole_blocks n / 2 ^ l ≤ i → whole_blocks n < (i + 1) * 2 ^ l
  behind l i h = (div-lt_iff_lt-mul (pow_pos l)).0 (omega arith)

  whole_number : (l i : ℕ) → i < whole_blocks n / 2 ^ l → (held_answer s l i).number ≡ at l i
  whole_number l i a = ap number_of (earlier_whole s n last l i a)

  past_number : (l i : ℕ) → whole_blocks n / 2 ^ l ≤ i → covering (block_count n) l ≤ i → at l i ≡ 0
  past_number l i a b = sym (ap number_of (earlier_past s n last l i a b))

  last_number : (i : ℕ) → whole_blocks n / 2 ^ 0 ≤ i → i < covering (block_count n) 0 → at 0 i ≡ 0
  last_number i a b = sym (ap number_of (earlier_last s n last 0 i a b refl))

  pair_is : (l i : ℕ) → whole_blocks n / 2 ^ suc l ≤ i → i < covering (block_count n) (suc l)
      → both (earlier s n last l (2 * i)) (earlier s n last l (2 * i + 1)) ≡ earlier s n last (suc l) i
  pair_is l i a b = let q : suc l - 1 ≡ l = omega arith in rw q at (earlier_pair s n last (suc l) i a b (λ y. omega arith))

  -- ---- the peaks are enough

  -- a child of a position that is not whole is a peak where it is whole
  child_peak : (l i j : ℕ) → j / 2 ≡ i → whole_blocks n / 2 ^ suc l ≤ i → j < whole_blocks n / 2 ^ l → Peak n l j
  child_peak l i j e a b = record { whole = whole_ends (whole_blocks n) l j b; top = rw e (behind (suc l) i a) }

  held_enough : PeaksHeld s n → (l i : ℕ) → (i < whole_blocks n / 2 ^ l → Peak n l i) → at l i ≡ 0
  held_enough P zero i p =
      elim (dec_lt i (whole_blocks n / 2 ^ 0)) [
        | yes a ↦ sym (whole_number 0 i a) ∙ (P 0 i (p a)).1.given
        | no a ↦ elim (dec_lt i (covering (block_count n) 0)) [ yes b ↦ last_number i (omega arith) b | no b ↦ past_number 0 i (omega arith) (omega arith) ]
      ]
  held_enough P (suc l) i p =
      elim (dec_lt i (whole_blocks n / 2 ^ suc l)) [
        | yes a ↦ sym (whole_number (suc l) i a) ∙ (P (suc l) i (p a)).1.given
        | no a ↦ elim (dec_lt i (covering (block_count n) (suc l))) [
          | yes b ↦
              let L = held_enough P l (2 * i) (child_peak l i (2 * i) (omega arith) (omega arith)) in
              let R = held_enough P l (2 * i + 1) (child_peak l i (2 * i + 1) (omega arith) (omega arith)) in
              sym (ap number_of (pair_is l i (omega arith) b)) ∙ ap number_of (both_known (earlier s n last l (2 * i)) (earlier s n last l (2 * i + 1)) L R)
          | no b ↦ past_number (suc l) i (omega arith) (omega arith)
        ]
      ]

  -- the whole blocks lie under the root
  under_root : whole_blocks n ≤ 2 ^ height (block_count n)
  under_root = omega (arith, whole_count n, height_enough (block_count n))

  pub peaks_enough : PeaksHeld s n → (earlier_root s n last).number ≡ 0
  unfolding earlier_root
  peaks_enough P =
      held_enough P (height (block_count n)) 0
      (λ a.
      record {
        whole = whole_ends (whole_blocks n) (height (block_count n)) 0 a;
        top = let z : (0 / 2 + 1) * 2 ^ suc (height (block_count n)) ≡ 2 ^ suc (height (block_count n)) = one-mul (2 ^ suc (height (block_count n))) in
            omega (arith, under_root, pow-succ' 2 (height (block_count n)), pow_pos (height (block_count n)));
      })

  -- ---- and they are needed

  -- above a peak that lies below position i, d layers up, nothing is whole
  not_whole : (m j d i : ℕ) → Peak n m j → j < (i + 1) * 2 ^ suc d → i < whole_blocks n / 2 ^ (m + suc d) → ⊥
  not_whole m j d i p b a =
      let t : (i + 1) * 2 ^ suc d ≡ 2 * ((i + 1) * 2 ^ d) = sym (left_start (i + 1) d) ∙ mul_assoc 2 (i + 1) (2 ^ d) in
      let k : j / 2 + 1 ≤ (i + 1) * 2 ^ d = omega arith in
      let u : (j / 2 + 1) * 2 ^ suc m ≤ (i + 1) * 2 ^ d * 2 ^ suc m = mul-le-mul_right (2 ^ suc m) k in
      let e : (i + 1) * 2 ^ d * 2 ^ suc m ≡ (i + 1) * 2 ^ (m + suc d) = mul_assoc (i + 1) (2 ^ d) (2 ^ suc m) ∙ ap (λ (x : ℕ). (i + 1) * x) (sym (pow-add 2 d (suc m)) ∙ ap (λ (x : ℕ). 2 ^ x) (omega arith)) in
      omega (arith, p.top, whole_ends (whole_blocks n) (m + suc d) i a)

  -- nor is it padding
  not_past : (m j d i : ℕ) → Peak n m j → i * 2 ^ d ≤ j → covering (block_count n) (m + d) ≤ i → ⊥
  unfolding Padding
  not_past m j d i p b a =
      let g : block_count n ≤ i * 2 ^ (m + d) = padding_from_covering (block_count n) (m + d) i a in
      let u : i * 2 ^ d * 2 ^ m ≤ j * 2 ^ m = mul-le-mul_right (2 ^ m) b in
      let e : i * 2 ^ d * 2 ^ m ≡ i * 2 ^ (m + d) = mul_assoc i (2 ^ d) (2 ^ m) ∙ ap (λ (x : ℕ). i * x) (sym (pow-add 2 d m) ∙ ap (λ (x : ℕ). 2 ^ x) (omega arith)) in
      omega (arith, p.whole, whole_count n, add-mul j 1 (2 ^ m), one-mul (2 ^ m), pow_pos m)

  peak_needed : (m j : ℕ) → Peak n m j → (d i : ℕ) → i * 2 ^ d ≤ j → j < (i + 1) * 2 ^ d → at (m + d) i ≡ 0 → (held_answer s m j).number ≡ 0
  peak_needed m j p zero i a b z =
      let e : i ≡ j = omega arith in
      let f : m + 0 ≡ m = omega arith in
      whole_number m j (ends_whole (whole_blocks n) m j p.whole) ∙ sym (ap₂ (λ (x y : ℕ). at x y) f e) ∙ z
  peak_needed m j p (suc d) i a b z =
      let q : m + suc d ≡ suc (m + d) = omega arith in
      elim (dec_lt i (whole_blocks n / 2 ^ (m + suc d))) [
        | yes x ↦ absurd (not_whole m j d i p b x)
        | no x ↦ elim (dec_lt i (covering (block_count n) (m + suc d))) [
          | no y ↦ absurd (not_past m j (suc d) i p a (omega arith))
          | yes y ↦
              let e = pair_is (m + d) i (rw q at (let g : whole_blocks n / 2 ^ (m + suc d) ≤ i = omega arith in g)) (rw q at y) in
              let P = both_says (earlier s n last (m + d) (2 * i)) (earlier s n last (m + d) (2 * i + 1)) (ap number_of e ∙ ap (λ (x : ℕ). at x i) (sym q) ∙ z) in
              elim (dec_lt j ((2 * i + 1) * 2 ^ d)) [
                | yes v ↦ peak_needed m j p d (2 * i) (omega (arith, left_start i d)) v P.left
                | no v ↦ peak_needed m j p d (2 * i + 1) (omega arith) (omega (arith, right_end i d)) P.right
              ]
        ]
      ]

  peaks_needed : (earlier_root s n last).number ≡ 0 → PeaksHeld s n
  unfolding earlier_root
  peaks_needed z m j p =
      let H = height (block_count n) in
      let one : (j + 1) * 2 ^ m ≡ j * 2 ^ m + 2 ^ m = add-mul j 1 (2 ^ m) ∙ ap (λ (x : ℕ). j * 2 ^ m + x) (one-mul (2 ^ m)) in
      let low : m ≤ height (block_count n) = low_enough (dec_le m (height (block_count n))) (omega (arith, p.whole, under_root)) in
      let e : m + (height (block_count n) - m) ≡ height (block_count n) = omega arith in
      let r : j < (0 + 1) * 2 ^ (height (block_count n) - m) = inside (dec_lt j ((0 + 1) * 2 ^ (height (block_count n) - m))) low in
      ((held_answer s m j).hash, record { given = peak_needed m j p (H - m) 0 (omega arith) r (ap (λ (x : ℕ). at x 0) e ∙ z); hash = refl })
    where
      low_enough : Dec (m ≤ height (block_count n)) → 2 ^ m ≤ 2 ^ height (block_count n) → m ≤ height (block_count n)
      low_enough (yes a) b = a
      low_enough (no a) b = let c : 2 ^ height (block_count n) < 2 ^ m = pow-lt (omega arith) in absurd (omega arith)

      inside : Dec (j < (0 + 1) * 2 ^ (height (block_count n) - m)) → m ≤ height (block_count n) → j < (0 + 1) * 2 ^ (height (block_count n) - m)
      inside (yes a) l = a
      inside (no a) l =
          let H = height (block_count n) in
          let o : (0 + 1) * 2 ^ (height (block_count n) - m) ≡ 2 ^ (height (block_count n) - m) = one-mul (2 ^ (height (block_count n) - m)) in
          let u : 2 ^ (height (block_count n) - m) * 2 ^ m ≤ j * 2 ^ m = mul-le-mul_right (2 ^ m) (omega arith) in
          let e : 2 ^ (height (block_count n) - m) * 2 ^ m ≡ 2 ^ height (block_count n) = sym (pow-add 2 (height (block_count n) - m) m) ∙ ap (λ (x : ℕ). 2 ^ x) (omega arith) in
          absurd (omega (arith, p.whole, under_root, add-mul j 1 (2 ^ m), one-mul (2 ^ m), pow_pos m))

  -- THE PEAKS ARE WHAT IS NEEDED
  pub peaks_exactly : ((earlier_root s n last).number ≡ 0) ↔ PeaksHeld s n
  peaks_exactly = (peaks_needed, peaks_enough)

-- What the stores of the padding code leave.
-- Assumes nothing.
use Rattle.std.specs.Prelude.{◌≡◌, refl, List, ◌∷◌, ◌++◌, ℕ, suc, ◌+◌, ◌-◌, ◌*◌, ◌/◌, ◌%◌, ◌^◌, ◌<◌, ◌≤◌, length, take, drop, set, replicate}
use Rattle.std.proofs.Common.{ap, sym, ◌∙◌, append_assoc, arith, length-append, length-take, length-drop, take_at, take_all}
use Rattle.std.proofs.lemmas.List.{length-replicate, replicate-append-replicate, set_at}
use Rattle.std.specs.Int.{to_be_bytes, w64}
use borrow.Rule.Slice.PartMut.{put_mid, post_of, Post-is}
use Rattle.octets.specs.Octets.{be}
use Rattle.octets.specs.OctetsLaws.{zeros_behind}
use Rattle.padding.specs.Padding.{zeros, padding}
use Rattle.padding.specs.PaddingLaws.{length_padding}

-- the count of bits, modulo 2 ^ 64, in the library's bytes
pub count_bytes : (n : ℕ) → to_be_bytes w64 (n * 8 % 2 ^ 64) ≡ be 8 (8 * n)
count_bytes n =
    let b7 : n * 8 % 2 ^ 64 / 256 ^ 7 % 256 ≡ 8 * n / 256 ^ 7 % 256 = omega arith in
    let b6 : n * 8 % 2 ^ 64 / 256 ^ 6 % 256 ≡ 8 * n / 256 ^ 6 % 256 = omega arith in
    let b5 : n * 8 % 2 ^ 64 / 256 ^ 5 % 256 ≡ 8 * n / 256 ^ 5 % 256 = omega arith in
    let b4 : n * 8 % 2 ^ 64 / 256 ^ 4 % 256 ≡ 8 * n / 256 ^ 4 % 256 = omega arith in
    let b3 : n * 8 % 2 ^ 64 / 256 ^ 3 % 256 ≡ 8 * n / 256 ^ 3 % 256 = omega arith in
    let b2 : n * 8 % 2 ^ 64 / 256 ^ 2 % 256 ≡ 8 * n / 256 ^ 2 % 256 = omega arith in
    let b1 : n * 8 % 2 ^ 64 / 256 ^ 1 % 256 ≡ 8 * n / 256 ^ 1 % 256 = omega arith in
    let b0 : n * 8 % 2 ^ 64 % 256 ≡ 8 * n / 256 ^ 0 % 256 = omega arith in
    rw (b7, b6, b5, b4, b3, b2, b1, b0) refl

-- eight bytes over those from `at` on
pub put_eight : (b v w : List ℕ) (at : ℕ) → v ≡ w → put_mid at (at + 8 - at) b v ≡ take at b ++ (w ++ drop (at + 8) b)
put_eight b v w at e =
    ap (λ (l : List ℕ). take at b ++ (l ++ post_of at (at + 8 - at) b)) e
    ∙ ap (λ (l : List ℕ). take at b ++ (w ++ l)) (Post-is at (at + 8) b (omega arith))

-- a copy over zeros
pub copied : (s v : List ℕ) → length s ≤ 128 → v ≡ s → v ++ drop (length s) (replicate 128 0) ≡ take (length s) s ++ replicate (128 - length s) 0
copied s v h e =
    ap (λ (l : List ℕ). l ++ drop (length s) (replicate 128 0)) (e ∙ sym (take_all (length s) s (omega arith)))
    ∙ ap (λ (l : List ℕ). take (length s) s ++ l) (zeros_behind 128 (length s) h)

-- the byte 0x80 after the copy
pub mark : (s : List ℕ) (i : ℕ) → i ≡ length s → i < 128
    → set (take i s ++ replicate (128 - i) 0) i 0x80 ≡ s ++ (0x80 ∷ replicate (127 - i) 0)
mark s i h g =
    let e : 128 - i ≡ suc (127 - i) = omega arith in
    let t : take i s ≡ s = take_all i s (omega arith) in
    rw (e, t) (set_at s 0 (replicate (127 - i) 0) 0x80 i (sym h))

-- the count of bits written at e, where the zeros end
pub pad_law :
    (s : List ℕ) (n e : ℕ)
    → length s < e
    → e ≤ 120
    → zeros n ≡ e - 1 - length s
    → let p = s ++ (0x80 ∷ replicate (127 - length s) 0) in
    take (e + 8) (take e p ++ (be 8 (8 * n) ++ drop (e + 8) p)) ≡ s ++ padding n
unfolding padding
pad_law s n e h g z =
    let q : List ℕ = s ++ (0x80 ∷ replicate (e - 1 - length s) 0) in
    let p : List ℕ = s ++ (0x80 ∷ replicate (127 - length s) 0) in
    let k : 127 - length s ≡ (e - 1 - length s) + (128 - e) = omega arith in
    let r : ◌≡◌ {A = List ℕ} (replicate (127 - length s) 0) (replicate (e - 1 - length s) 0 ++ replicate (128 - e) 0)
    = ap (λ (m : ℕ). replicate m 0) k ∙ sym (replicate-append-replicate (e - 1 - length s) (128 - e) 0) in
    let pq : p ≡ q ++ replicate (128 - e) 0
    = ap (λ (l : List ℕ). s ++ (0x80 ∷ l)) r ∙ sym (append_assoc s (0x80 ∷ replicate (e - 1 - length s) 0) (replicate (128 - e) 0)) in
    let lq : length q ≡ e = simp (length-append, length-replicate) (omega arith) in
    let tq : take e p ≡ q = ap (take e) pq ∙ take_at q (replicate (128 - e) 0) e lq in
    let lb : length (q ++ be 8 (8 * n)) ≡ e + 8 = length-append q (be 8 (8 * n)) ∙ omega (arith, lq) in
    ap (λ (l : List ℕ). take (e + 8) (l ++ (be 8 (8 * n) ++ drop (e + 8) p))) tq
    ∙ ap (take (e + 8)) (sym (append_assoc q (be 8 (8 * n)) (drop (e + 8) p)))
    ∙ take_at (q ++ be 8 (8 * n)) (drop (e + 8) p) (e + 8) lb
    ∙ append_assoc s (0x80 ∷ replicate (e - 1 - length s) 0) (be 8 (8 * n))
    ∙ ap (λ (m : ℕ). s ++ (0x80 ∷ (replicate m 0 ++ be 8 (8 * n)))) (sym z)

-- what the code of `pad` leaves
pub pad_whole :
    (s : List ℕ) (n i e : ℕ) (b last : List ℕ)
    → i ≡ length s
    → b ≡ take i s ++ replicate (128 - i) 0
    → i < e
    → e ≤ 120
    → zeros n ≡ e - 1 - i
    → last ≡ take e (set b i 0x80) ++ (be 8 (8 * n) ++ drop (e + 8) (set b i 0x80))
    → (length last ≡ 128) × (take (length (s ++ padding n)) last ≡ s ++ padding n)
pad_whole s n i e b last hi hb h g z hl =
    let p : List ℕ = s ++ (0x80 ∷ replicate (127 - length s) 0) in
    let m : set b i 0x80 ≡ p = ap (λ (l : List ℕ). set l i 0x80) hb ∙ mark s i hi (omega arith) ∙ ap (λ (j : ℕ). s ++ (0x80 ∷ replicate (127 - j) 0)) hi in
    let hp : last ≡ take e p ++ (be 8 (8 * n) ++ drop (e + 8) p) = hl ∙ ap (λ (l : List ℕ). take e l ++ (be 8 (8 * n) ++ drop (e + 8) l)) m in
    let lp : length p ≡ 128 = simp (length-append, length-replicate) (omega arith) in
    let ll : length (s ++ padding n) ≡ e + 8 = length-append s (padding n) ∙ omega (arith, length_padding n) in (
      ap length hp ∙ shape p (be 8 (8 * n)) e lp refl (omega arith),
      ap (λ (k : ℕ). take k last) ll ∙ ap (take (e + 8)) hp ∙ pad_law s n e (omega arith) g (z ∙ ap (λ (j : ℕ). e - 1 - j) hi),
    )
  where
    shape : (p v : List ℕ) (e : ℕ) → length p ≡ 128 → length v ≡ 8 → e ≤ 120 → length (take e p ++ (v ++ drop (e + 8) p)) ≡ 128
    shape p v e lp lv g = simp (length-append, length-take, length-drop) (omega arith)

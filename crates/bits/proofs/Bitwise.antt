-- Laws of bitwise functions: two that agree on bits agree on numbers.
-- Assumes nothing.
use Rattle.std.proofs.Common.{◌≡◌, ℕ, zero, suc, ◌+◌, ◌-◌, ◌*◌, ◌/◌, ◌%◌, ◌^◌, ◌<◌, sym, refl, ap, ◌∙◌, subst, add-zero, add_assoc, mod-lt, mod-eq_of_lt, mul_assoc, mul_comm, add-mul, add_comm, pow-suc, arith, lit<, pow_pos, pow-add, shr-shr, shr_lt}
use Rattle.std.proofs.Math.Nat.{mul-mod_left, mul-add-mod_self_right, mul-add-div_right}
use Rattle.std.proofs.lemmas.Nat.{mod-pow-add, shl-shr, and_comm, xor_comm, and_shr, xor_shr, and_mod, xor_mod, and_mask, xor_lt, xor_block}
use Rattle.std.proofs.Math.Arith.{digits_lt}
use Rattle.bits.specs.Words.{Ch, Maj, rotr, Σ₀, Σ₁, σ₀, σ₁}
use lib.Bits.{bit_and, bit_or, bit_xor, xor_add_and, or_shifted_r}

-- a function of three numbers that goes bit by bit
pub record Bitwise (F : ℕ → ℕ → ℕ → ℕ) : Type 0 where
  pub halves : (x y z : ℕ) → F x y z / 2 ^ 1 ≡ F (x / 2 ^ 1) (y / 2 ^ 1) (z / 2 ^ 1)
  pub bits : (x y z : ℕ) → F x y z % 2 ^ 1 ≡ F (x % 2 ^ 1) (y % 2 ^ 1) (z % 2 ^ 1)

module _ (F G : ℕ → ℕ → ℕ → ℕ) (f : Bitwise F) (g : Bitwise G)
    (same : (x y z : ℕ) → x < 2 → y < 2 → z < 2 → F x y z ≡ G x y z) where
  pub agree : (k x y z : ℕ) → x < 2 ^ k → y < 2 ^ k → z < 2 ^ k → F x y z ≡ G x y z
  agree zero x y z hx hy hz = same x y z (omega arith) (omega arith) (omega arith)
  agree (suc k) x y z hx hy hz =
      let p : 2 ^ suc k ≡ 2 ^ k * 2 = pow-suc 2 k in
      let i = agree k (x / 2 ^ 1) (y / 2 ^ 1) (z / 2 ^ 1) (omega arith) (omega arith) (omega arith) in
      let s = same (x % 2 ^ 1) (y % 2 ^ 1) (z % 2 ^ 1) (omega arith) (omega arith) (omega arith) in
      let h : F x y z / 2 ^ 1 ≡ G x y z / 2 ^ 1 = f.halves x y z ∙ i ∙ sym (g.halves x y z) in
      let b : F x y z % 2 ^ 1 ≡ G x y z % 2 ^ 1 = f.bits x y z ∙ s ∙ sym (g.bits x y z) in
      omega arith

-- to show a fact of three bits, show it at each of the eight
pub bit_cases :
    (F G : ℕ → ℕ → ℕ → ℕ)
    → F 0 0 0 ≡ G 0 0 0
    → F 0 0 1 ≡ G 0 0 1
    → F 0 1 0 ≡ G 0 1 0
    → F 0 1 1 ≡ G 0 1 1
    → F 1 0 0 ≡ G 1 0 0
    → F 1 0 1 ≡ G 1 0 1
    → F 1 1 0 ≡ G 1 1 0
    → F 1 1 1 ≡ G 1 1 1
    → (x y z : ℕ)
    → x < 2
    → y < 2
    → z < 2
    → F x y z ≡ G x y z
bit_cases F G a b c d e f g h zero zero zero hx hy hz = a
bit_cases F G a b c d e f g h zero zero (suc zero) hx hy hz = b
bit_cases F G a b c d e f g h zero (suc zero) zero hx hy hz = c
bit_cases F G a b c d e f g h zero (suc zero) (suc zero) hx hy hz = d
bit_cases F G a b c d e f g h (suc zero) zero zero hx hy hz = e
bit_cases F G a b c d e f g h (suc zero) zero (suc zero) hx hy hz = f
bit_cases F G a b c d e f g h (suc zero) (suc zero) zero hx hy hz = g
bit_cases F G a b c d e f g h (suc zero) (suc zero) (suc zero) hx hy hz = h
bit_cases F G a b c d e f g h (suc (suc x)) y z hx hy hz = absurd (omega arith)
bit_cases F G a b c d e f g h zero (suc (suc y)) z hx hy hz = absurd (omega arith)
bit_cases F G a b c d e f g h (suc zero) (suc (suc y)) z hx hy hz = absurd (omega arith)
bit_cases F G a b c d e f g h zero zero (suc (suc z)) hx hy hz = absurd (omega arith)
bit_cases F G a b c d e f g h zero (suc zero) (suc (suc z)) hx hy hz = absurd (omega arith)
bit_cases F G a b c d e f g h (suc zero) zero (suc (suc z)) hx hy hz = absurd (omega arith)
bit_cases F G a b c d e f g h (suc zero) (suc zero) (suc (suc z)) hx hy hz = absurd (omega arith)

-- bit_xor and bit_and associate and distribute
pub xor_assoc : (k x y z : ℕ) → x < 2 ^ k → y < 2 ^ k → z < 2 ^ k → bit_xor (bit_xor x y) z ≡ bit_xor x (bit_xor y z)
xor_assoc =
    agree (λ x y z. bit_xor (bit_xor x y) z) (λ x y z. bit_xor x (bit_xor y z))
    (record { halves = λ x y z. simp xor_shr; bits = λ x y z. simp xor_mod })
    (record { halves = λ x y z. simp xor_shr; bits = λ x y z. simp xor_mod })
    (bit_cases (λ x y z. bit_xor (bit_xor x y) z) (λ x y z. bit_xor x (bit_xor y z)) refl refl refl refl refl refl refl refl)

pub and_xor : (k x y z : ℕ) → x < 2 ^ k → y < 2 ^ k → z < 2 ^ k → bit_and (bit_xor x y) z ≡ bit_xor (bit_and x z) (bit_and y z)
and_xor =
    agree (λ x y z. bit_and (bit_xor x y) z) (λ x y z. bit_xor (bit_and x z) (bit_and y z))
    (record { halves = λ x y z. simp (xor_shr, and_shr); bits = λ x y z. simp (xor_mod, and_mod) })
    (record { halves = λ x y z. simp (xor_shr, and_shr); bits = λ x y z. simp (xor_mod, and_mod) })
    (bit_cases (λ x y z. bit_and (bit_xor x y) z) (λ x y z. bit_xor (bit_and x z) (bit_and y z)) refl refl refl refl refl refl refl refl)

-- a choice by three operations, and a majority by four
choice : (k x y z : ℕ) → x < 2 ^ k → y < 2 ^ k → z < 2 ^ k → bit_xor z (bit_and x (bit_xor y z)) ≡ bit_xor (bit_and x y) (bit_xor (bit_and x z) z)
choice =
    agree (λ x y z. bit_xor z (bit_and x (bit_xor y z))) (λ x y z. bit_xor (bit_and x y) (bit_xor (bit_and x z) z))
    (record { halves = λ x y z. simp (xor_shr, and_shr); bits = λ x y z. simp (xor_mod, and_mod) })
    (record { halves = λ x y z. simp (xor_shr, and_shr); bits = λ x y z. simp (xor_mod, and_mod) })
    (bit_cases (λ x y z. bit_xor z (bit_and x (bit_xor y z))) (λ x y z. bit_xor (bit_and x y) (bit_xor (bit_and x z) z)) refl refl refl refl refl refl refl refl)

majority : (k x y z : ℕ) → x < 2 ^ k → y < 2 ^ k → z < 2 ^ k → bit_xor (bit_and (bit_xor x y) (bit_xor y z)) y ≡ bit_xor (bit_xor (bit_and x y) (bit_and x z)) (bit_and y z)
majority =
    agree (λ x y z. bit_xor (bit_and (bit_xor x y) (bit_xor y z)) y) (λ x y z. bit_xor (bit_xor (bit_and x y) (bit_and x z)) (bit_and y z))
    (record { halves = λ x y z. simp (xor_shr, and_shr); bits = λ x y z. simp (xor_mod, and_mod) })
    (record { halves = λ x y z. simp (xor_shr, and_shr); bits = λ x y z. simp (xor_mod, and_mod) })
    (bit_cases (λ x y z. bit_xor (bit_and (bit_xor x y) (bit_xor y z)) y) (λ x y z. bit_xor (bit_xor (bit_and x y) (bit_and x z)) (bit_and y z)) refl refl refl refl refl refl refl refl)

-- the complement is a bit_xor
not_xor : (x : ℕ) → x < 2 ^ 32 → 2 ^ 32 - 1 - x ≡ bit_xor x (2 ^ 32 - 1)
not_xor x h = omega (arith, xor_add_and x (2 ^ 32 - 1), and_mask x 32)

pub Ch_law : (x y z : ℕ) → x < 2 ^ 32 → y < 2 ^ 32 → z < 2 ^ 32 → bit_xor z (bit_and x (bit_xor y z)) ≡ Ch x y z
unfolding Ch
Ch_law x y z hx hy hz =
    let m : bit_and (2 ^ 32 - 1) z ≡ z = and_comm (2 ^ 32 - 1) z ∙ and_mask z 32 ∙ mod-eq_of_lt hz in
    let n : bit_and (2 ^ 32 - 1 - x) z ≡ bit_xor (bit_and x z) z
    = ap (λ (v : ℕ). bit_and v z) (not_xor x hx) ∙ and_xor 32 x (2 ^ 32 - 1) z hx (lit< tt) hz ∙ ap (bit_xor (bit_and x z)) m in
    choice 32 x y z hx hy hz ∙ ap (bit_xor (bit_and x y)) (sym n)

pub Maj_law : (x y z : ℕ) → x < 2 ^ 32 → y < 2 ^ 32 → z < 2 ^ 32 → bit_xor (bit_and (bit_xor x y) (bit_xor y z)) y ≡ Maj x y z
unfolding Maj
Maj_law = majority 32

-- a rotation as a sum of two parts
turned : ℕ → ℕ → ℕ → ℕ
turned n k x = x % 2 ^ n * 2 ^ k + x / 2 ^ n

module _ (n k : ℕ) (e : n + k ≡ 32) where
  short : {x : ℕ} → x < 2 ^ 32 → x / 2 ^ n < 2 ^ k
  short {x} h = shr_lt k n (subst (λ (w : ℕ). x < 2 ^ w) (sym e ∙ add_comm n k) h)

  rotr_turned : (x : ℕ) → x < 2 ^ 32 → rotr n x ≡ turned n k x
  unfolding rotr turned
  rotr_turned x h =
      let j : 32 - n ≡ k = omega arith in
      let m : x * 2 ^ k % 2 ^ 32 ≡ x % 2 ^ n * 2 ^ k
      = ap (λ (w : ℕ). x * 2 ^ k % 2 ^ w) (sym e) ∙ mod-pow-add (x * 2 ^ k) n k
      ∙ rw (shl-shr x k, mul-mod_left x (2 ^ k)) (add-zero (x % 2 ^ n * 2 ^ k)) in
      ap (λ (i : ℕ). bit_or (x / 2 ^ n) (x * 2 ^ i % 2 ^ 32)) j ∙ ap (bit_or (x / 2 ^ n)) m ∙ or_shifted_r (x % 2 ^ n) k (x / 2 ^ n) (short h)

  rotr_lt : (x : ℕ) → x < 2 ^ 32 → rotr n x < 2 ^ 32
  unfolding turned
  rotr_lt x h =
      subst (λ (v : ℕ). v < 2 ^ 32) (sym (rotr_turned x h))
      (subst (λ (v : ℕ). x % 2 ^ n * 2 ^ k + x / 2 ^ n < v) (sym (pow-add 2 n k) ∙ ap (λ (w : ℕ). 2 ^ w) e)
      (digits_lt (mod-lt x (pow_pos n)) (short h)))

  rotr_xor : (x y : ℕ) → x < 2 ^ 32 → y < 2 ^ 32 → rotr n (bit_xor x y) ≡ bit_xor (rotr n x) (rotr n y)
  unfolding turned
  rotr_xor x y hx hy =
      rotr_turned (bit_xor x y) (xor_lt 32 x y hx hy)
      ∙ ap (λ (v : ℕ). v * 2 ^ k + bit_xor x y / 2 ^ n) (xor_mod x y n)
      ∙ ap (λ (v : ℕ). bit_xor (x % 2 ^ n) (y % 2 ^ n) * 2 ^ k + v) (xor_shr x y n)
      ∙ sym (xor_block k (x % 2 ^ n) (y % 2 ^ n) (x / 2 ^ n) (y / 2 ^ n) (short hx) (short hy))
      ∙ cc (rotr_turned x hx, rotr_turned y hy)

regroup : (v w u b c : ℕ) → v * (b * c) + (w * c + u) ≡ (v * b + w) * c + u
regroup v w u b c = ap (λ (m : ℕ). m + (w * c + u)) (sym (mul_assoc v b c)) ∙ sym (add_assoc (v * b * c) (w * c) u) ∙ ap (λ (m : ℕ). m + u) (sym (add-mul (v * b) w c))

-- a rotation after another is one by the sum
turned_turned : (a b c x : ℕ) → turned a (b + c) (turned b (a + c) x) ≡ turned (a + b) c x
unfolding turned
turned_turned a b c x =
    let p : 2 ^ (a + c) ≡ 2 ^ c * 2 ^ a = pow-add 2 a c ∙ mul_comm (2 ^ a) (2 ^ c) in
    let q : 2 ^ (b + c) ≡ 2 ^ b * 2 ^ c = pow-add 2 b c in
    let f : x % 2 ^ b * 2 ^ (a + c) + x / 2 ^ b ≡ x % 2 ^ b * 2 ^ c * 2 ^ a + x / 2 ^ b
    = ap (λ (m : ℕ). m + x / 2 ^ b) (ap (λ (m : ℕ). x % 2 ^ b * m) p ∙ sym (mul_assoc (x % 2 ^ b) (2 ^ c) (2 ^ a))) in
    let m1 : (x % 2 ^ b * 2 ^ (a + c) + x / 2 ^ b) % 2 ^ a ≡ x / 2 ^ b % 2 ^ a
    = ap (λ (m : ℕ). m % 2 ^ a) f ∙ mul-add-mod_self_right (x % 2 ^ b * 2 ^ c) (2 ^ a) (x / 2 ^ b) in
    let d1 : (x % 2 ^ b * 2 ^ (a + c) + x / 2 ^ b) / 2 ^ a ≡ x % 2 ^ b * 2 ^ c + x / 2 ^ b / 2 ^ a
    = ap (λ (m : ℕ). m / 2 ^ a) f ∙ mul-add-div_right (pow_pos a) (x % 2 ^ b * 2 ^ c) (x / 2 ^ b) in
    let r = regroup (x / 2 ^ b % 2 ^ a) (x % 2 ^ b) (x / 2 ^ b / 2 ^ a) (2 ^ b) (2 ^ c) in
    let s = shr-shr x b a in
    let k : b + a ≡ a + b = add_comm b a in
    let n = mod-pow-add x a b in
    cc

rotr_rotr : (a b c x : ℕ) → a + (b + c) ≡ 32 → x < 2 ^ 32 → rotr a (rotr b x) ≡ rotr (a + b) x
rotr_rotr a b c x e h =
    let eb : b + (a + c) ≡ 32 = omega arith in
    let ec : a + b + c ≡ 32 = omega arith in
    rotr_turned a (b + c) e (rotr b x) (rotr_lt b (a + c) eb x h)
    ∙ ap (turned a (b + c)) (rotr_turned b (a + c) eb x h)
    ∙ turned_turned a b c x
    ∙ sym (rotr_turned (a + b) c ec x h)

-- two rotations with a bit_xor between them are two rotations of one number
link : (q p s x : ℕ) → q + (p + s) ≡ 32 → x < 2 ^ 32 → rotr q (bit_xor (rotr p x) x) ≡ bit_xor (rotr (q + p) x) (rotr q x)
link q p s x e h =
    rotr_xor q (p + s) e (rotr p x) x (rotr_lt p (q + s) (omega arith) x h) h
    ∙ ap (λ (v : ℕ). bit_xor v (rotr q x)) (rotr_rotr q p s x e h)

-- three rotations, each after a bit_xor, are three rotations of one number
chain : (r q p s x : ℕ) → r + (q + (p + s)) ≡ 32 → x < 2 ^ 32
    → rotr r (bit_xor (rotr q (bit_xor (rotr p x) x)) x) ≡ bit_xor (bit_xor (rotr r x) (rotr (r + q) x)) (rotr (r + (q + p)) x)
chain r q p s x e h =
    let er : r + (q + (p + s)) ≡ 32 = e in
    let eq : q + (r + (p + s)) ≡ 32 = omega arith in
    let eqp : (q + p) + (r + s) ≡ 32 = omega arith in
    let h2 = rotr_lt q (r + (p + s)) eq x h in
    let h3 = rotr_lt (q + p) (r + s) eqp x h in
    let h4 = rotr_lt r (q + (p + s)) er x h in
    let h5 = rotr_lt (r + q) (p + s) (omega arith) x h in
    let h6 = rotr_lt (r + (q + p)) s (omega arith) x h in
    let a = link q p (r + s) x (omega arith) h in
    let b : rotr r (bit_xor (bit_xor (rotr (q + p) x) (rotr q x)) x) ≡ bit_xor (bit_xor (rotr r (rotr (q + p) x)) (rotr r (rotr q x))) (rotr r x)
    = rotr_xor r (q + (p + s)) er (bit_xor (rotr (q + p) x) (rotr q x)) x (xor_lt 32 (rotr (q + p) x) (rotr q x) h3 h2) h
    ∙ ap (λ (v : ℕ). bit_xor v (rotr r x)) (rotr_xor r (q + (p + s)) er (rotr (q + p) x) (rotr q x) h3 h2) in
    let c1 = rotr_rotr r (q + p) s x (omega arith) h in
    let c2 = rotr_rotr r q (p + s) x er h in
    let d : bit_xor (bit_xor (rotr (r + (q + p)) x) (rotr (r + q) x)) (rotr r x) ≡ bit_xor (bit_xor (rotr r x) (rotr (r + q) x)) (rotr (r + (q + p)) x)
    = xor_comm (bit_xor (rotr (r + (q + p)) x) (rotr (r + q) x)) (rotr r x)
    ∙ ap (bit_xor (rotr r x)) (xor_comm (rotr (r + (q + p)) x) (rotr (r + q) x))
    ∙ sym (xor_assoc 32 (rotr r x) (rotr (r + q) x) (rotr (r + (q + p)) x) h4 h5 h6) in
    ap (λ (v : ℕ). rotr r (bit_xor v x)) a ∙ b ∙ ap (λ (v : ℕ). bit_xor (bit_xor v (rotr r (rotr q x))) (rotr r x)) c1
    ∙ ap (λ (v : ℕ). bit_xor (bit_xor (rotr (r + (q + p)) x) v) (rotr r x)) c2 ∙ d

pub Σ₀_law : (x : ℕ) → x < 2 ^ 32 → rotr 2 (bit_xor (rotr 11 (bit_xor (rotr 9 x) x)) x) ≡ Σ₀ x
unfolding Σ₀
Σ₀_law x h = chain 2 11 9 10 x refl h

pub Σ₁_law : (x : ℕ) → x < 2 ^ 32 → rotr 6 (bit_xor (rotr 5 (bit_xor (rotr 14 x) x)) x) ≡ Σ₁ x
unfolding Σ₁
Σ₁_law x h = chain 6 5 14 7 x refl h

pub σ₀_law : (x : ℕ) → x < 2 ^ 32 → bit_xor (rotr 7 (bit_xor (rotr 11 x) x)) (x / 2 ^ 3) ≡ σ₀ x
unfolding σ₀
σ₀_law x h = ap (λ (v : ℕ). bit_xor v (x / 2 ^ 3)) (link 7 11 14 x refl h ∙ xor_comm (rotr 18 x) (rotr 7 x))

pub σ₁_law : (x : ℕ) → x < 2 ^ 32 → bit_xor (rotr 17 (bit_xor (rotr 2 x) x)) (x / 2 ^ 10) ≡ σ₁ x
unfolding σ₁
σ₁_law x h = ap (λ (v : ℕ). bit_xor v (x / 2 ^ 10)) (link 17 2 13 x refl h ∙ xor_comm (rotr 19 x) (rotr 17 x))

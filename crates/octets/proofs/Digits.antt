-- One turn of the loops that read and write a number's bytes.
-- Assumes nothing.
use Rattle.std.specs.Prelude.{◌≡◌, List, ◌∷◌, ◌++◌, ℕ, suc, ◌+◌, ◌-◌, ◌*◌, ◌/◌, ◌%◌, ◌^◌, ◌<◌, ◌≤◌, length, take, drop, get_or, set}
use Rattle.std.proofs.Common.{ap, ap₂, sym, ◌∙◌, append_assoc, arith, pow-suc, div-one, add-one, take-append-drop, take-suc, length-take-le, lit<}
use Rattle.std.proofs.Math.Nat.{pow-le-pow_right, div-div-eq-div-mul, pow-zero}
use Rattle.std.proofs.Math.Seq.{append_snoc}
use Rattle.std.proofs.lemmas.List.{set_at}
use Rattle.octets.specs.Octets.{be, number_at, pasted}
use Rattle.octets.specs.OctetsLaws.{be_octets}

-- ---- reading

pub digit_below : (x b i : ℕ) → x < 256 ^ i → b < 256 → x * 256 + b < 256 ^ (i + 1)
digit_below x b i h g = rw (add-one i, pow-suc) (omega arith)

pub digit_fits : (x b i k : ℕ) → x < 256 ^ i → b < 256 → i < k → k ≤ 8 → x * 256 + b < 2 ^ 64
digit_fits x b i k h g l m =
    let p : 256 ^ (i + 1) ≤ 256 ^ 8 = pow-le-pow_right {n = 256} (lit< tt) {i = i + 1} {j = 8} (omega arith) in
    omega (arith, digit_below x b i h g)

pub digit_more : (s : List ℕ) (at i x b : ℕ) → x ≡ number_at s at i → b ≡ get_or s (at + i) 0 → x * 256 + b ≡ number_at s at (i + 1)
unfolding number_at
digit_more s at i x b e f = rw (add-one i) (ap₂ (λ (y c : ℕ). y * 256 + c) e f)

-- ---- writing, from the last byte to the first

-- the list with the last k - i bytes of the number written
abbrev pub written : List ℕ → ℕ → ℕ → ℕ → ℕ → List ℕ
written s at k x i = take (at + i) s ++ (be (k - i) x ++ drop (at + k) s)

pub written_none : (s : List ℕ) (at k x : ℕ) → s ≡ written s at k x k
written_none s at k x = let e : k - k ≡ 0 = omega arith in sym (rw e (take-append-drop (at + k) s))

pub rest_none : (k x : ℕ) → x ≡ x / 256 ^ (k - k)
rest_none k x = let e : k - k ≡ 0 = omega arith in sym (rw (e, pow-zero) (div-one x))

one_before : (l r : List ℕ) (m v : ℕ) → m < length l → set (take (suc m) l ++ r) m v ≡ take m l ++ (v ∷ r)
one_before l r m v h =
    ap (λ (p : List ℕ). set (p ++ r) m v) (take-suc l m 0 h) ∙ ap (λ (p : List ℕ). set p m v) (append_snoc (take m l) (get_or l m 0) r)
    ∙ set_at (take m l) (get_or l m 0) r v m (length-take-le m l (omega arith))

pub written_more : (s t : List ℕ) (at k x i rest : ℕ) → 0 < i → i ≤ k → at + k ≤ length s → rest ≡ x / 256 ^ (k - i) → t ≡ written s at k x i
    → set t (at + (i - 1)) (rest % 256) ≡ written s at k x (i - 1)
written_more s t at k x i rest p h l e q =
    let a : at + i ≡ suc (at + (i - 1)) = omega arith in
    let b : k - (i - 1) ≡ suc (k - i) = omega arith in
    ap₂ (λ (w : List ℕ) (v : ℕ). set w (at + (i - 1)) (v % 256)) q e
    ∙ ap (λ (m : ℕ). set (take m s ++ (be (k - i) x ++ drop (at + k) s)) (at + (i - 1)) (x / 256 ^ (k - i) % 256)) a
    ∙ one_before s (be (k - i) x ++ drop (at + k) s) (at + (i - 1)) (x / 256 ^ (k - i) % 256) (omega arith)
    ∙ sym (ap (λ (m : ℕ). take (at + (i - 1)) s ++ (be m x ++ drop (at + k) s)) b)

pub rest_more : (k x i rest : ℕ) → 0 < i → i ≤ k → rest ≡ x / 256 ^ (k - i) → rest / 256 ≡ x / 256 ^ (k - (i - 1))
rest_more k x i rest p h e =
    let b : k - (i - 1) ≡ suc (k - i) = omega arith in
    ap (λ (v : ℕ). v / 256) e ∙ rw (b, pow-suc) (div-div-eq-div-mul x (256 ^ (k - i)) 256)

pub written_all : (s t : List ℕ) (at k x i : ℕ) → i ≡ 0 → t ≡ written s at k x i → t ≡ pasted s at (be k x)
unfolding pasted
written_all s t at k x i z q =
    let a : at + i ≡ at = omega arith in
    let b : k - i ≡ k = omega arith in
    let c : length (be k x) ≡ k = (be_octets k x).size in
    q ∙ rw (a, b) (sym (rw c (append_assoc (take at s) (be k x) (drop (at + k) s))))

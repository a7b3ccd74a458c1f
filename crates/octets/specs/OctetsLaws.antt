-- Laws of cut and paste, of the comparison, and of numbers as bytes, for callers to cite.
-- Assumes nothing.
use Rattle.std.specs.Prelude.{◌≡◌, refl, List, [], ◌∷◌, ◌++◌, Bool, true, false, ◌⊎◌, ℕ, zero, suc, ◌+◌, ◌-◌, ◌*◌, ◌/◌, ◌%◌, ◌^◌, ◌≤◌, ◌<◌, min, length, take, drop, get_or, set, replicate, eqb}
use Rattle.std.proofs.Common.{ap, ap₂, sym, ◌∙◌, append_assoc, append-nil, inl, inr, mod-lt, mod-eq_of_lt, pow-suc, div-one, add-one, arith, length-append, length-take, length-drop, take-append-drop, length-take-le, take_at, drop_at, get_or-take, get_or-drop, get_or-append-add, ext_get_or, take-take, take_all, drop-drop, drop-cons, lit<, eqb-true, eq-eqb}
use Rattle.std.proofs.lemmas.Bool.{false≢true}
use Rattle.std.proofs.Math.Bool.{and-eq-true_iff}
use Rattle.std.proofs.Math.Nat.{pow-zero, div-div-eq-div-mul}
use Rattle.std.proofs.Math.Arith.{mod-mul}
use Rattle.std.proofs.Math.Decide.{dec_lt}
use Rattle.std.proofs.lemmas.List.{length-replicate, replicate-append-replicate, get_or-replicate, take-append-le, drop-append-le, set_split}
use Rattle.std.proofs.Math.ListN.{get_or-append}
use Rattle.std.proofs.Math.Seq.{take-nil, drop-append-add}
use Rattle.octets.specs.Octets.{Octets, cut, pasted, same, be, number_at, zeroed, zero_hash}

pub cut_length : (s : List ℕ) (at n : ℕ) → at + n ≤ length s → length (cut s at n) ≡ n
unfolding cut
cut_length s at n h = simp (length-take, length-drop) (omega arith)

pub get_or_cut : (s : List ℕ) (at n i : ℕ) → i < n → get_or (cut s at n) i 0 ≡ get_or s (at + i) 0
unfolding cut
get_or_cut s at n i h = get_or-take n (drop at s) i 0 h ∙ get_or-drop at s i 0

pub pasted_length : (s : List ℕ) (at : ℕ) (h : List ℕ) → at + length h ≤ length s → length (pasted s at h) ≡ length s
unfolding pasted
pasted_length s at h k = simp (length-append, length-take, length-drop) (omega arith)

-- nothing put anywhere
pub pasted_none : (s : List ℕ) (at : ℕ) → pasted s at [] ≡ s
unfolding pasted
pasted_none s at = let e : at + 0 ≡ at = omega arith in rw e (ap (λ (l : List ℕ). l ++ drop at s) (append-nil (take at s)) ∙ take-append-drop at s)

-- one byte put
pub set_pasted : (s : List ℕ) (at x : ℕ) → at < length s → set s at x ≡ pasted s at (x ∷ [])
unfolding pasted
set_pasted s at x h = set_split s at x h ∙ ap (λ (j : ℕ). take at s ++ x ∷ drop j s) (sym (add-one at)) ∙ sym (append_assoc (take at s) (x ∷ []) (drop (at + 1) s))

-- what is left from an index inside: its element, and what is left behind it
pub drop_step : (s : List ℕ) (i : ℕ) → i < length s → drop i s ≡ get_or s i 0 ∷ drop (i + 1) s
drop_step s i h = rw (add-one i) (drop-cons s i 0 h)

head_length : (s : List ℕ) (at : ℕ) (h : List ℕ) → at + length h ≤ length s → length (take at s ++ h) ≡ at + length h
head_length s at h k = simp (length-append, length-take) (omega arith)

pub get_or_pasted_before : (s : List ℕ) (at : ℕ) (h : List ℕ) → at + length h ≤ length s → (i : ℕ) → i < at
    → get_or (pasted s at h) i 0 ≡ get_or s i 0
unfolding pasted
get_or_pasted_before s at h k i l =
    get_or-append (take at s ++ h) (drop (at + length h) s) 0 i (omega (arith, head_length s at h k))
    ∙ get_or-append (take at s) h 0 i (omega (arith, length-take-le at s (omega arith)))
    ∙ get_or-take at s i 0 l

pub get_or_pasted_after : (s : List ℕ) (at : ℕ) (h : List ℕ) → at + length h ≤ length s → (i : ℕ) → at + length h ≤ i
    → get_or (pasted s at h) i 0 ≡ get_or s i 0
unfolding pasted
get_or_pasted_after s at h k i l =
    let e : length (take at s ++ h) + (i - (at + length h)) ≡ i = omega (arith, head_length s at h k) in
    let e2 : at + length h + (i - (at + length h)) ≡ i = omega arith in
    ap (λ (j : ℕ). get_or (take at s ++ h ++ drop (at + length h) s) j 0) (sym e)
    ∙ get_or-append-add (take at s ++ h) (drop (at + length h) s) (i - (at + length h)) 0
    ∙ get_or-drop (at + length h) s (i - (at + length h)) 0
    ∙ ap (λ (j : ℕ). get_or s j 0) e2

-- a part that lies beside what was replaced is as it was
pub cut_pasted_other : (s : List ℕ) (at : ℕ) (h : List ℕ) → at + length h ≤ length s → (a n : ℕ) → a + n ≤ length s
    → (a + n ≤ at) ⊎ (at + length h ≤ a) → cut (pasted s at h) a n ≡ cut s a n
cut_pasted_other s at h k a n f w =
    let l1 = cut_length (pasted s at h) a n (omega (arith, pasted_length s at h k)) in
    let l2 = cut_length s a n f in
    ext_get_or 0 (cut (pasted s at h) a n) (cut s a n) (l1 ∙ sym l2)
    (λ i b.
    let b' : i < n = omega (arith, l1) in
    get_or_cut (pasted s at h) a n i b'
    ∙ elim w [ inl x ↦ get_or_pasted_before s at h k (a + i) (omega arith) | inr x ↦ get_or_pasted_after s at h k (a + i) (omega arith) ]
    ∙ sym (get_or_cut s a n i b'))

-- and what was put there is there
pub cut_pasted_same : (s : List ℕ) (at : ℕ) (h : List ℕ) (n : ℕ) → length h ≡ n → at + n ≤ length s → cut (pasted s at h) at n ≡ h
unfolding cut pasted
cut_pasted_same s at h n e k =
    let hl : length (take at s) ≡ at = length-take-le at s (omega arith) in
    ap (λ (l : List ℕ). take n (drop at l)) (append_assoc (take at s) h (drop (at + length h) s))
    ∙ ap (λ (l : List ℕ). take n l) (drop_at (take at s) (h ++ drop (at + length h) s) at hl)
    ∙ take_at h (drop (at + length h) s) n e

pub same_true : (a b : List ℕ) → same a b ≡ true → a ≡ b
unfolding same
same_true [] [] e = refl
same_true [] (y ∷ ys) e = absurd (false≢true e)
same_true (x ∷ xs) [] e = absurd (false≢true e)
same_true (x ∷ xs) (y ∷ ys) e =
    let p = (and-eq-true_iff (eqb x y) (same xs ys)).0 e in
    ap₂ (λ (z : ℕ) (zs : List ℕ). z ∷ zs) (eqb-true x y p.0) (same_true xs ys p.1)

pub same_refl : (a : List ℕ) → same a a ≡ true
unfolding same
same_refl [] = refl
same_refl (x ∷ xs) = rw (eq-eqb x x refl, same_refl xs)

pub same_eq : (a b : List ℕ) → a ≡ b → same a b ≡ true
same_eq a b e = ap (λ (l : List ℕ). same a l) (sym e) ∙ same_refl a

pub same_false : (a b : List ℕ) → same a b ≡ false → a ≡ b → ⊥
same_false a b e p = false≢true (sym e ∙ same_eq a b p)

pub same_ne : (a b : List ℕ) → (a ≡ b → ⊥) → same a b ≡ false
same_ne a b n = by_cases (same a b) refl
  where
    by_cases : (t : Bool) → same a b ≡ t → t ≡ false
    by_cases true e = absurd (n (same_true a b e))
    by_cases false e = refl

pub get_or_pasted_in : (s : List ℕ) (at : ℕ) (h : List ℕ) → at + length h ≤ length s → (j : ℕ) → j < length h → get_or (pasted s at h) (at + j) 0 ≡ get_or h j 0
unfolding pasted
get_or_pasted_in s at h k j l =
    let hl : length (take at s) ≡ at = length-take-le at s (omega arith) in
    get_or-append (take at s ++ h) (drop (at + length h) s) 0 (at + j) (omega (arith, head_length s at h k))
    ∙ ap (λ (n : ℕ). get_or (take at s ++ h) (n + j) 0) (sym hl)
    ∙ get_or-append-add (take at s) h j 0

-- ---- strings of bytes

pub append_octets : {n k : ℕ} {a b : List ℕ} → Octets n a → Octets k b → Octets (n + k) (a ++ b)
append_octets {n} {k} {a} {b} p q =
    record {
      size = length-append a b ∙ omega (arith, p.size, q.size);
      bytes = λ i h. by_side i h (dec_lt i n);
    }
  where
    by_side : (i : ℕ) → i < n + k → Dec (i < n) → get_or (a ++ b) i 0 < 256
    by_side i h (yes l) = rw (get_or-append a b 0 i (omega (arith, p.size))) (p.bytes i l)
    by_side i h (no g) =
        let e : length a + (i - n) ≡ i = omega (arith, p.size) in
        let f : get_or (a ++ b) i 0 ≡ get_or b (i - n) 0 = ap (λ (j : ℕ). get_or (a ++ b) j 0) (sym e) ∙ get_or-append-add a b (i - n) 0 in
        rw f (q.bytes (i - n) (omega arith))

pub one_byte : (n : ℕ) → n < 256 → Octets 1 (n ∷ [])
one_byte n h = record { size = refl; bytes = λ i g. let o : i ≡ 0 = omega arith in rw o h }

pub be_octets : (k n : ℕ) → Octets k (be k n)
be_octets k n = record { size = size k; bytes = bytes k }
  where
    size : (k : ℕ) → length (be k n) ≡ k
    size zero = refl
    size (suc k) = ap suc (size k)

    bytes : (k i : ℕ) → i < k → get_or (be k n) i 0 < 256
    bytes zero i h = absurd (omega arith)
    bytes (suc k) zero h = mod-lt (n / 256 ^ k) (lit< tt)
    bytes (suc k) (suc i) h = bytes k i (omega arith)

pub be_size : (k n : ℕ) → length (be k n) ≡ k
be_size k n = (be_octets k n).size

pub zero_octets : Octets 32 zero_hash
unfolding zero_hash
zero_octets = record { size = refl; bytes = λ i h. let e : ◌≡◌ {A = ℕ} (get_or (replicate 32 0) i 0) 0 = get_or-replicate {A = ℕ} 32 i 0 0 h in omega arith }

pub cut_octets : {m : ℕ} {s : List ℕ} (at n : ℕ) → Octets m s → at + n ≤ m → Octets n (cut s at n)
cut_octets {m} {s} at n p h =
    record {
      size = cut_length s at n (omega (arith, p.size));
      bytes = λ i l. rw (get_or_cut s at n i l) (p.bytes (at + i) (omega arith));
    }

-- a part of a part is a part
pub cut_cut : (s : List ℕ) (a m b n : ℕ) → b + n ≤ m → cut (cut s a m) b n ≡ cut s (a + b) n
unfolding cut
cut_cut s a m b n h =
    ap (λ (l : List ℕ). take n l) (drop_take m b (drop a s)) ∙ take-take n (m - b) (drop b (drop a s)) (omega arith) ∙ ap (λ (l : List ℕ). take n l) (drop-drop b a s)
  where
    drop_take : (m b : ℕ) (l : List ℕ) → drop b (take m l) ≡ take (m - b) (drop b l)
    drop_take m zero l = let e : m - 0 ≡ m = omega arith in rw e
    drop_take zero (suc b) l = let e : 0 - suc b ≡ 0 = omega arith in rw e
    drop_take (suc m) (suc b) [] = sym (take-nil (suc m - suc b))
    drop_take (suc m) (suc b) (x ∷ l) = let e : suc m - suc b ≡ m - b = omega arith in rw e (drop_take m b l)

-- a part from the start that is long enough is the whole
pub cut_whole : (s : List ℕ) (n : ℕ) → length s ≤ n → cut s 0 n ≡ s
unfolding cut
cut_whole s n h = take_all n s h

-- how long a part is, wherever it lies
pub cut_size : (s : List ℕ) (at n : ℕ) → length (cut s at n) ≡ min n (length s - at)
unfolding cut
cut_size s at n = simp (length-take, length-drop)

-- asking for more than is left gives what is left
pub cut_short : (s : List ℕ) (at n : ℕ) → cut s at (min n (length s - at)) ≡ cut s at n
unfolding cut
cut_short s at n = by_size (dec_lt (length s - at) n)
  where
    by_size : Dec (length s - at < n) → take (min n (length s - at)) (drop at s) ≡ take n (drop at s)
    by_size (yes l) =
        take_all (min n (length s - at)) (drop at s) (simp length-drop (omega arith)) ∙ sym (take_all n (drop at s) (simp length-drop (omega arith)))
    by_size (no g) = let e : min n (length s - at) ≡ n = omega arith in rw e

-- a part that lies in the first of two lists
pub cut_append_left : (a b : List ℕ) (at n : ℕ) → at + n ≤ length a → cut (a ++ b) at n ≡ cut a at n
unfolding cut
cut_append_left a b at n h =
    ap (λ (l : List ℕ). take n l) (drop-append-le at a b (omega arith)) ∙ take-append-le n (drop at a) b (simp length-drop (omega arith))

-- a part that lies in the second, i behind its start
pub cut_behind : (a b : List ℕ) (at i n : ℕ) → at ≡ length a + i → cut (a ++ b) at n ≡ cut b i n
unfolding cut
cut_behind a b at i n e = ap (λ (l : List ℕ). take n l) (ap (λ (z : ℕ). drop z (a ++ b)) e ∙ drop-append-add a b i)

-- the part that is the second
pub cut_append_right : (a b : List ℕ) (at n : ℕ) → length a ≡ at → length b ≡ n → cut (a ++ b) at n ≡ b
unfolding cut
cut_append_right a b at n e f = ap (λ (l : List ℕ). take n l) (drop_at a b at e) ∙ take_all n b (omega arith)

-- the first k of n zeros, and those behind them
pub zeros_front : (n k : ℕ) → k ≤ n → take {A = ℕ} k (replicate n 0) ≡ replicate k 0
zeros_front n k h =
    let e : k + (n - k) ≡ n = omega arith in
    ap (λ (j : ℕ). take k (replicate {A = ℕ} j 0)) (sym e)
    ∙ ap (take k) (sym (replicate-append-replicate {A = ℕ} k (n - k) 0))
    ∙ take_at (replicate k 0) (replicate (n - k) 0) k (length-replicate {A = ℕ} k 0)

pub zeros_behind : (n k : ℕ) → k ≤ n → drop {A = ℕ} k (replicate n 0) ≡ replicate (n - k) 0
zeros_behind n k h =
    let e : k + (n - k) ≡ n = omega arith in
    ap (λ (j : ℕ). drop k (replicate {A = ℕ} j 0)) (sym e)
    ∙ ap (drop k) (sym (replicate-append-replicate {A = ℕ} k (n - k) 0))
    ∙ drop_at (replicate k 0) (replicate (n - k) 0) k (length-replicate {A = ℕ} k 0)

pub zeroed_length : (s : List ℕ) (n : ℕ) → n ≤ length s → length (zeroed s n) ≡ length s
unfolding zeroed
zeroed_length s n h = simp (length-append, length-replicate, length-drop) (omega arith)

pub zeroed_at : (s : List ℕ) (n i : ℕ) → i < n → get_or (zeroed s n) i 0 ≡ 0
unfolding zeroed
zeroed_at s n i h = get_or-append (replicate n 0) (drop n s) 0 i (omega (arith, length-replicate {A = ℕ} n 0)) ∙ get_or-replicate n i 0 0 h

pub zeroed_past : (s : List ℕ) (n i : ℕ) → n ≤ length s → n ≤ i → get_or (zeroed s n) i 0 ≡ get_or s i 0
unfolding zeroed
zeroed_past s n i l h =
    let z : length {A = ℕ} (replicate n 0) + (i - n) ≡ i = omega (arith, length-replicate {A = ℕ} n 0) in
    let e : n + (i - n) ≡ i = omega arith in
    ap (λ (j : ℕ). get_or (replicate n 0 ++ drop n s) j 0) (sym z) ∙ get_or-append-add (replicate n 0) (drop n s) (i - n) 0
    ∙ get_or-drop n s (i - n) 0 ∙ ap (λ (j : ℕ). get_or s j 0) e

-- ---- numbers

-- a number depends only on its own bytes
pub number_same : (s t : List ℕ) (a b k : ℕ) → ((i : ℕ) → i < k → get_or s (a + i) 0 ≡ get_or t (b + i) 0) → number_at s a k ≡ number_at t b k
unfolding number_at
number_same s t a b zero f = refl
number_same s t a b (suc k) f = ap₂ (λ (x y : ℕ). x * 256 + y) (number_same s t a b k (λ i h. f i (omega arith))) (f k (omega arith))

-- behind the bytes a
pub number_behind : (a b : List ℕ) (at i k : ℕ) → at ≡ length a + i → number_at (a ++ b) at k ≡ number_at b i k
number_behind a b at i k e =
    number_same (a ++ b) b at i k
    (λ j h. let o : at + j ≡ length a + (i + j) = omega arith in ap (λ (z : ℕ). get_or (a ++ b) z 0) o ∙ get_or-append-add a b (i + j) 0)

digit_at : (k i n : ℕ) → i < k → get_or (be k n) i 0 ≡ n / 256 ^ (k - 1 - i) % 256
digit_at zero i n h = absurd (omega arith)
digit_at (suc k) zero n h = let e : suc k - 1 - 0 ≡ k = omega arith in rw e
digit_at (suc k) (suc i) n h = let e : suc k - 1 - suc i ≡ k - 1 - i = omega arith in rw e (digit_at k i n (omega arith))

-- the first i digits of a number of k are the number without its last k - i digits
leading : (k i n : ℕ) → i ≤ k → number_at (be k n) 0 i ≡ n / 256 ^ (k - i) % 256 ^ i
unfolding number_at
leading k zero n h = omega arith
leading k (suc i) n h =
    let e : k - i ≡ suc (k - suc i) = omega arith in
    let d : k - 1 - i ≡ k - suc i = omega arith in
    let q : n / 256 ^ (k - i) ≡ n / 256 ^ (k - suc i) / 256 = rw (e, pow-suc) (sym (div-div-eq-div-mul n (256 ^ (k - suc i)) 256)) in
    let z : 0 + i ≡ i = omega arith in
    let g : get_or (be k n) (0 + i) 0 ≡ n / 256 ^ (k - suc i) % 256 = rw (z, digit_at k i n (omega arith), d) in
    let m = mod-mul (n / 256 ^ (k - suc i)) {m = 256 ^ i} {c = 256} (pos_pow_256 i) (lit< tt) in
    ap₂ (λ (x y : ℕ). x * 256 + y) (leading k i n (omega arith) ∙ ap (λ (x : ℕ). x % 256 ^ i) q) g
    ∙ sym (rw pow-suc m)
  where
    pos_pow_256 : (i : ℕ) → 0 < 256 ^ i
    pos_pow_256 zero = lit< tt
    pos_pow_256 (suc i) = rw pow-suc (omega (arith, pos_pow_256 i))

-- a number that was written is read back
pub number_of_be : (k n : ℕ) → n < 256 ^ k → number_at (be k n) 0 k ≡ n
number_of_be k n h =
    let e : k - k ≡ 0 = omega arith in
    leading k k n (omega arith) ∙ rw (e, pow-zero, div-one) (mod-eq_of_lt h)

-- and so where other bytes stand behind it
pub number_first : (k n : ℕ) (b : List ℕ) → n < 256 ^ k → number_at (be k n ++ b) 0 k ≡ n
number_first k n b h =
    number_same (be k n ++ b) (be k n) 0 0 k (λ j l. get_or-append (be k n) b 0 (0 + j) (omega (arith, be_size k n))) ∙ number_of_be k n h

-- ---- two parts side by side

-- a part put right after another is both put at once
pub pasted_append : (s : List ℕ) (at : ℕ) (a b : List ℕ) → at + length a + length b ≤ length s
    → pasted (pasted s at a) (at + length a) b ≡ pasted s at (a ++ b)
unfolding pasted
pasted_append s at a b h =
    let hl = head_length s at a (omega arith) in
    let e : at + length a + length b ≡ at + length (a ++ b) = simp length-append (omega arith) in
    ap₂ (λ (p q : List ℕ). p ++ b ++ q)
    (take_at (take at s ++ a) (drop (at + length a) s) (at + length a) hl)
    (ap (λ (n : ℕ). drop n (take at s ++ a ++ drop (at + length a) s)) (ap (λ (n : ℕ). n + length b) (sym hl))
    ∙ drop-append-add (take at s ++ a) (drop (at + length a) s) (length b)
    ∙ drop-drop (length b) (at + length a) s
    ∙ ap (λ (n : ℕ). drop n s) e)
    ∙ ap (λ (p : List ℕ). p ++ drop (at + length (a ++ b)) s) (append_assoc (take at s) a b)

-- a number read from a part is the number read from the whole
pub number_cut : (s : List ℕ) (a m b k : ℕ) → b + k ≤ m → number_at (cut s a m) b k ≡ number_at s (a + b) k
number_cut s a m b k h =
    number_same (cut s a m) s b (a + b) k
    (λ i l. let e : a + (b + i) ≡ a + b + i = omega arith in get_or_cut s a m (b + i) (omega arith) ∙ ap (λ (j : ℕ). get_or s j 0) e)

-- The constants keep the rule of FIPS 180-4: the primes are the first primes, each root is the largest.
-- Assumes nothing.
use Rattle.std.specs.Prelude.{◌≡◌, refl, Bool, true, false, cond, List, [], ◌∷◌, map, ℕ, zero, suc, ◌+◌, ◌-◌, ◌*◌, ◌%◌, ◌^◌, ◌<◌, ◌≤◌, length, get_or, take, leb, eqb}
use Rattle.std.proofs.Common.{ap, sym, subst, ◌∙◌, arith, pow-suc, le_of_suc-le-suc, not-suc-le-zero, get_or-take, length-take-le, lit≤, leb-true, leb-false, ne_eqb}
use Rattle.std.proofs.lemmas.Bool.{false≢true, eqb-false}
use Rattle.std.proofs.Math.Decide.{dec_lt, dec_le}
use Rattle.std.proofs.Math.Nat.{pow-le-pow_left}
use Rattle.std.proofs.lemmas.List.{length-map}
use Rattle.constants.specs.Rule.{Prime, FirstPrimes, Largest, RootWord, RootWords}
use Rattle.constants.specs.Constants.{root, indivisible, primes_from, primes, root_word, K, H}

-- ---- a root found a bit at a time is the largest

-- `most` says the same as "largest": one more is too much
bounded : (e n r : ℕ) → r ^ e ≤ n → n < (r + 1) ^ e → Largest e n r
bounded e n r f m = record { fits = f; largest = λ v h. most v h (dec_le v r) }
  where
    most : (v : ℕ) → v ^ e ≤ n → Dec (v ≤ r) → v ≤ r
    most v h (yes l) = l
    most v h (no g) =
        let l : r + 1 ≤ v = omega arith in
        absurd (omega (arith, pow-le-pow_left l e))

root_largest : (e n b from : ℕ) → from ^ e ≤ n → n < (from + 2 ^ b) ^ e → Largest e n (root e n b from)
unfolding root
root_largest e n zero from h g = bounded e n from h g
root_largest e n (suc b) from h g = by (leb ((from + 2 ^ b) ^ e) n) refl (λ f. root_largest e n b f)
  where
    by :
        (t : Bool)
        → leb ((from + 2 ^ b) ^ e) n ≡ t
        → ((f : ℕ) → f ^ e ≤ n → n < (f + 2 ^ b) ^ e → Largest e n (root e n b f))
        → Largest e n (root e n b (cond t (from + 2 ^ b) from))
    by true q i =
        i (from + 2 ^ b) (leb-true _ _ q)
        (subst (λ (k : ℕ). n < k ^ e) (let p : 2 ^ suc b ≡ 2 ^ b * 2 = pow-suc 2 b in omega arith) g)
    by false q i = i from h (leb-false _ _ q)

-- ---- the primes are the first primes

-- a false test is what a true `cond` leaves
kept : (t x : Bool) → cond t false x ≡ true → (t ≡ false) × (x ≡ true)
kept true x e = absurd (false≢true e)
kept false x e = (refl, e)

undivided : (n d : ℕ) → indivisible n d ≡ true → (e : ℕ) → 2 ≤ e → e ≤ d → n % e ≡ 0 → ⊥
unfolding indivisible
undivided n zero t e l h z = omega arith
undivided n (suc zero) t e l h z = omega arith
undivided n (suc (suc d)) t e l h z =
    let k = kept (eqb (n % suc (suc d)) 0) (indivisible n (suc d)) t in
    by (dec_le e (suc d)) k.0 (undivided n (suc d) k.1 e l)
  where
    by : Dec (e ≤ suc d) → eqb (n % suc (suc d)) 0 ≡ false → (e ≤ suc d → n % e ≡ 0 → ⊥) → ⊥
    by (yes s) f i = i s z
    by (no g) f i =
        let q : e ≡ suc (suc d) = omega arith in
        eqb-false (n % suc (suc d)) 0 f (subst (λ (x : ℕ). n % x ≡ 0) q z)

prime_yes : (n : ℕ) → 2 ≤ n → indivisible n (n - 1) ≡ true → Prime n
prime_yes n l t = record { from_two = l; undivided = λ d h g. undivided n (n - 1) t d h (omega arith) }

-- what divides is found
divided : (n d : ℕ) → ((e : ℕ) → 2 ≤ e → e ≤ d → n % e ≡ 0 → ⊥) → indivisible n d ≡ true
unfolding indivisible
divided n zero f = refl
divided n (suc zero) f = refl
divided n (suc (suc d)) f =
    rw (ne_eqb (n % suc (suc d)) 0 (f (suc (suc d)) (omega arith) (omega arith)))
    (divided n (suc d) (λ e l h. f e l (omega arith)))

prime_test : (n : ℕ) → Prime n → indivisible n (n - 1) ≡ true
prime_test n p = divided n (n - 1) (λ e l h. p.undivided e l (omega (arith, p.from_two)))

-- an entry of the list of the primes among the k numbers from n on
abbrev Entry : ℕ → ℕ → ℕ → Type 0
Entry k n x = (n ≤ x) × (x < n + k) × Prime x

entry : (k n i : ℕ) → 2 ≤ n → i < length (primes_from k n) → Entry k n (get_or (primes_from k n) i 0)
unfolding primes_from
entry zero n i l h = absurd (not-suc-le-zero h)
entry (suc k) n i l h = by (indivisible n (n - 1)) refl i h (λ j. entry k (suc n) j (omega arith))
  where
    by :
        (t : Bool)
        → indivisible n (n - 1) ≡ t
        → (j : ℕ)
        → j < length (cond t (n ∷ primes_from k (suc n)) (primes_from k (suc n)))
        → ((m : ℕ) → m < length (primes_from k (suc n)) → Entry k (suc n) (get_or (primes_from k (suc n)) m 0))
        → Entry (suc k) n (get_or (cond t (n ∷ primes_from k (suc n)) (primes_from k (suc n))) j 0)
    by true q zero g r = (omega arith, omega arith, prime_yes n l q)
    by true q (suc j) g r = let s = r j (le_of_suc-le-suc g) in (omega arith, omega arith, s.2)
    by false q j g r = let s = r j g in (omega arith, omega arith, s.2)

rises : (k n i : ℕ) → 2 ≤ n → suc i < length (primes_from k n) → get_or (primes_from k n) i 0 < get_or (primes_from k n) (suc i) 0
unfolding primes_from
rises zero n i l h = absurd (not-suc-le-zero h)
rises (suc k) n i l h = by (indivisible n (n - 1)) i h (λ j. rises k (suc n) j (omega arith)) (λ j g. (entry k (suc n) j (omega arith) g).0)
  where
    by :
        (t : Bool) (j : ℕ)
        → suc j < length (cond t (n ∷ primes_from k (suc n)) (primes_from k (suc n)))
        → ((m : ℕ) → suc m < length (primes_from k (suc n)) → get_or (primes_from k (suc n)) m 0 < get_or (primes_from k (suc n)) (suc m) 0)
        → ((m : ℕ) → m < length (primes_from k (suc n)) → suc n ≤ get_or (primes_from k (suc n)) m 0)
        → get_or (cond t (n ∷ primes_from k (suc n)) (primes_from k (suc n))) j 0
        < get_or (cond t (n ∷ primes_from k (suc n)) (primes_from k (suc n))) (suc j) 0
    by true zero g r f = f zero (le_of_suc-le-suc g)
    by true (suc j) g r f = r j (le_of_suc-le-suc g)
    by false j g r f = r j g

-- every prime in reach is listed
listed : (k n q : ℕ) → n ≤ q → q < n + k → Prime q → (j : ℕ) × (j < length (primes_from k n)) × (get_or (primes_from k n) j 0 ≡ q)
unfolding primes_from
listed zero n q l h p = let w : ⊥ = omega arith in absurd w
listed (suc k) n q l h p = by (indivisible n (n - 1)) refl (dec_lt n q) (λ g. listed k (suc n) q g (omega arith) p)
  where
    by :
        (t : Bool)
        → indivisible n (n - 1) ≡ t
        → Dec (n < q)
        → (n < q → (j : ℕ) × (j < length (primes_from k (suc n))) × (get_or (primes_from k (suc n)) j 0 ≡ q))
        → (j : ℕ) × (j < length (cond t (n ∷ primes_from k (suc n)) (primes_from k (suc n))))
        × (get_or (cond t (n ∷ primes_from k (suc n)) (primes_from k (suc n))) j 0 ≡ q)
    by true e (yes g) r = let s = r g in (suc s.0, suc_lt s.1, s.2)
      where
        suc_lt : {a b : ℕ} → a < b → suc a < suc b
        suc_lt h = omega arith
    by true e (no g) r = let z : n ≡ q = omega arith in (zero, omega arith, z)
    by false e (yes g) r = r g
    by false e (no g) r = absurd (false≢true (sym e ∙ prime_test n (subst Prime (let z : q ≡ n = omega arith in z) p)))

rises_far : (ps : List ℕ) → ((i : ℕ) → suc i < length ps → get_or ps i 0 < get_or ps (suc i) 0) → (i d : ℕ) → i + d < length ps → get_or ps i 0 ≤ get_or ps (i + d) 0
rises_far ps r i zero h = let e : i + 0 ≡ i = omega arith in rw e (omega arith)
rises_far ps r i (suc d) h =
    let e : i + suc d ≡ suc (i + d) = omega arith in
    rw e (omega (arith, rises_far ps r i d (omega arith), r (i + d) (omega arith)))

first : (k : ℕ) → FirstPrimes (primes_from k 2)
first k =
    record {
      rising = λ i. rises k 2 i (omega arith);
      prime = λ i h. (entry k 2 i (omega arith) h).2;
      none_left_out = left;
    }
  where
    ps : List ℕ
    ps = primes_from k 2

    before : (i q : ℕ) → i < length ps → q < get_or ps i 0 → (j : ℕ) × (j < length ps) × (get_or ps j 0 ≡ q) → (j : ℕ) × (j < i) × (get_or ps j 0 ≡ q)
    before i q h g s = by (dec_lt s.0 i)
      where
        by : Dec (s.0 < i) → (j : ℕ) × (j < i) × (get_or ps j 0 ≡ q)
        by (yes l) = (s.0, l, s.2)
        by (no n) =
            let e : i + (s.0 - i) ≡ s.0 = omega arith in
            let f : get_or ps i 0 ≤ get_or ps (i + (s.0 - i)) 0 = rises_far ps (λ m. rises k 2 m (omega arith)) i (s.0 - i) (omega (arith, s.1)) in
            let w : ⊥ = omega (arith, s.2, ap (λ (j : ℕ). get_or ps j 0) e) in
            absurd w

    left : (i q : ℕ) → i < length ps → Prime q → q < get_or ps i 0 → (j : ℕ) × (j < i) × (get_or ps j 0 ≡ q)
    left i q h p g = before i q h g (listed k 2 q p.from_two (omega (arith, (entry k 2 i (omega arith) h).1)) p)

-- ---- the words

word_of : (e p : ℕ) → p * 2 ^ (32 * e) < (2 ^ 38) ^ e → 0 ^ e ≤ 0 → RootWord e p (root_word e p)
unfolding root_word
word_of e p h z =
    record {
      root = root e (p * 2 ^ (32 * e)) 38 0;
      is_root = root_largest e (p * 2 ^ (32 * e)) 38 0 (omega arith) h;
      word = refl;
    }

words_of : (e : ℕ) (ps : List ℕ) (i : ℕ) → i < length (map (root_word e) ps) → get_or (map (root_word e) ps) i 0 ≡ root_word e (get_or ps i 0)
words_of e [] i h = absurd (not-suc-le-zero h)
words_of e (p ∷ ps) zero h = refl
words_of e (p ∷ ps) (suc i) h = words_of e ps i (le_of_suc-le-suc h)

-- the first few of the first primes are the first primes
first_few : (n : ℕ) (ps : List ℕ) → n ≤ length ps → FirstPrimes ps → FirstPrimes (take n ps)
first_few n ps l f =
    let k : length (take n ps) ≡ n = length-take-le n ps l in
    let at : (i : ℕ) → i < n → get_or (take n ps) i 0 ≡ get_or ps i 0 = λ i. get_or-take n ps i 0 in
    record {
      rising = λ i h. rw (at i (omega arith), at (suc i) (omega arith)) (f.rising i (omega arith));
      prime = λ i h. rw (at i (omega arith)) (f.prime i (omega arith));
      none_left_out = λ i q h p g.
          let s = f.none_left_out i q (omega arith) p (rw (at i (omega arith)) at g) in
          (s.0, s.1, at s.0 (omega (arith, s.1)) ∙ s.2);
    }

root_words : (e : ℕ) (ps : List ℕ) → 0 ^ e ≤ 0 → ((i : ℕ) → i < length ps → get_or ps i 0 * 2 ^ (32 * e) < (2 ^ 38) ^ e) → FirstPrimes ps
    → RootWords e ps (map (root_word e) ps)
root_words e ps z b f =
    let l : length (map (root_word e) ps) ≡ length ps = length-map ps (root_word e) in
    record {
      first_primes = f;
      one_each = l;
      words = λ i h. subst (RootWord e (get_or ps i 0)) (sym (words_of e ps i h)) (word_of e (get_or ps i 0) (b i (omega arith)) z);
    }

first_primes : FirstPrimes primes
unfolding primes
first_primes = first 310

sixty_four : length primes ≡ 64
unfolding primes primes_from indivisible
sixty_four = refl

small : (i : ℕ) → i < length primes → get_or primes i 0 < 312
unfolding primes
small i h = (entry 310 2 i (omega arith) h).1

-- the round words are the cube words of the first 64 primes
pub round_words_rule : (length K ≡ 64) × RootWords 3 primes K
unfolding K
round_words_rule = (length-map primes (root_word 3) ∙ sixty_four, root_words 3 primes (lit≤ tt) (λ i h. omega (arith, small i h)) first_primes)

-- the start words are the square words of the first eight
pub start_words_rule : (length H ≡ 8) × RootWords 2 (take 8 primes) H
unfolding H
start_words_rule =
    let l : length (take 8 primes) ≡ 8 = length-take-le 8 primes (omega (arith, sixty_four)) in (
      length-map (take 8 primes) (root_word 2) ∙ l,
      root_words 2 (take 8 primes) (lit≤ tt)
          (λ i h. omega (arith, small i (omega (arith, sixty_four)), get_or-take 8 primes i 0 (omega arith)))
          (first_few 8 primes (omega (arith, sixty_four)) first_primes),
    )

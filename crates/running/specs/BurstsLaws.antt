-- Laws of SHA-256 in bursts: from the state of xs a burst ys leads to the state of both, and the end is the hash.
-- Assumes nothing.
use Rattle.std.specs.Prelude.{◌≡◌, refl, Bool, true, false, cond, List, ◌++◌, ℕ, suc, ◌+◌, ◌-◌, ◌%◌, ◌≤◌, ◌<◌, length, take, replicate, ltb, eqb}
use Rattle.std.proofs.Common.{ap, ◌∙◌, arith, length-append, take_at, length-take-le, lt-ltb, le-ltb, eq-eqb, ltb-true, eqb-true}
use Rattle.std.proofs.Math.Bool.{and-eq-true_iff}
use Rattle.octets.specs.Octets.{zero_hash}
use Rattle.numbers.specs.Numbers.{wrong_size, unusable}
use Rattle.limits.specs.Limits.{longest_hashed}
use Rattle.constants.specs.Constants.{K}
use Rattle.padding.specs.Running.{Running, tail_array, running_of, running_more, running_end}
use Rattle.padding.specs.RunningLaws.{past_size, past_below, running_more_lem, running_twice, running_end_lem}
use Rattle.rounds.specs.Block.{compress}
use Rattle.rounds.specs.declared.State.{State}
use Rattle.sha256.specs.Sha256.{start, digest, sha256}
use Rattle.running.specs.Bursts.{to_words, from_words, said_by, saying, state_of, possible, absorbed, hash_of, more_answer, end_answer}
use Rattle.running.specs.declared.Hashing.{Hashing}
use Rattle.running.specs.declared.HashingAnswer.{HashingAnswer}

words_again : (s : State) → from_words (to_words s) ≡ s
unfolding from_words to_words
words_again s = refl

-- what a state of ours says is what it was made to say
pub said_back : (r : Running State) → said_by (saying r) ≡ r
unfolding said_by saying tail_array
said_back r = rw (words_again r.words, take_at r.tail (replicate (64 - length r.tail) 0) (length r.tail) refl)

-- from the state of xs, a burst ys leads to the state of both
pub absorbed_more : (xs ys : List ℕ) → absorbed (state_of xs) ys ≡ state_of (xs ++ ys)
unfolding absorbed state_of
absorbed_more xs ys =
    ap (λ (r : Running State). saying (running_more (compress K) r ys)) (said_back (running_of (compress K) start xs))
    ∙ ap saying (running_more_lem (compress K) start xs ys)

-- two bursts one after the other are one, from any state
pub absorbed_twice : (s : Hashing) (xs ys : List ℕ) → absorbed (absorbed s xs) ys ≡ absorbed s (xs ++ ys)
unfolding absorbed
absorbed_twice s xs ys =
    ap (λ (r : Running State). saying (running_more (compress K) r ys)) (said_back (running_more (compress K) (said_by s) xs))
    ∙ ap saying (running_twice (compress K) (said_by s) xs ys)

-- the end of the state of xs is the hash of xs
pub hash_of_state : (xs : List ℕ) → hash_of (state_of xs) ≡ sha256 xs
unfolding hash_of state_of sha256
hash_of_state xs =
    ap (λ (r : Running State). digest (running_end (compress K) r)) (said_back (running_of (compress K) start xs))
    ∙ ap digest (running_end_lem (compress K) start xs)

-- its counts
pub state_total : (xs : List ℕ) → (state_of xs).total ≡ length xs
unfolding state_of saying running_of
state_total xs = refl

pub state_tail : (xs : List ℕ) → (state_of xs).tail_size ≡ length xs % 64
unfolding state_of saying running_of
state_tail xs = past_size xs

-- the counts after any burst
pub absorbed_total : (s : Hashing) (ys : List ℕ) → (absorbed s ys).total ≡ s.total + length ys
unfolding absorbed saying said_by running_more
absorbed_total s ys = refl

pub absorbed_tail : (s : Hashing) (ys : List ℕ) → (absorbed s ys).tail_size < 64
unfolding absorbed saying said_by running_more
absorbed_tail s ys = past_below (take s.tail_size s.tail ++ ys)

-- and go on to agree
pub absorbed_counts : (s : Hashing) (ys : List ℕ) → length s.tail ≡ 64 → s.tail_size ≡ s.total % 64 → (absorbed s ys).tail_size ≡ (absorbed s ys).total % 64
unfolding absorbed saying said_by running_more
absorbed_counts s ys l e =
    past_size (take s.tail_size s.tail ++ ys)
    ∙ omega (arith, length-append (take s.tail_size s.tail) ys, length-take-le s.tail_size s.tail (omega (arith, l, e)), e)

-- counts of strings that SHA-256 takes are possible
pub state_possible : (xs : List ℕ) → length xs < suc longest_hashed → possible (state_of xs).tail_size (state_of xs).total ≡ true
unfolding possible
state_possible xs l =
    rw (state_total xs, state_tail xs)
    ((and-eq-true_iff (ltb (length xs) (suc longest_hashed)) (eqb (length xs % 64) (length xs % 64))).1 (lt-ltb (length xs) (suc longest_hashed) l, eq-eqb (length xs % 64) (length xs % 64) refl))

-- what a state says decides what a burst makes of it, and its end
pub same_said : (s t : Hashing) (ys : List ℕ) → said_by s ≡ said_by t → (absorbed s ys ≡ absorbed t ys) × (hash_of s ≡ hash_of t)
unfolding absorbed hash_of
same_said s t ys e =
    (ap (λ (r : Running State). saying (running_more (compress K) r ys)) e, ap (λ (r : Running State). digest (running_end (compress K) r)) e)

-- ---- which number is given

-- what possible counts are
pub possible_says : (n total : ℕ) → possible n total ≡ true → (total < suc longest_hashed) × (n ≡ total % 64)
unfolding possible
possible_says n total e =
    let b = (and-eq-true_iff (ltb total (suc longest_hashed)) (eqb n (total % 64))).0 e in
    (ltb-true total (suc longest_hashed) b.0, eqb-true n (total % 64) b.1)

pub more_impossible : (h : Hashing) (s : List ℕ) → possible h.tail_size h.total ≡ false → record { number = unusable; hashing = h } ≡ more_answer h s
unfolding more_answer
more_impossible h s e = rw e

pub more_long : (h : Hashing) (s : List ℕ) → possible h.tail_size h.total ≡ true → suc longest_hashed ≤ h.total + length s
    → record { number = wrong_size; hashing = h } ≡ more_answer h s
unfolding more_answer
more_long h s e l = rw (e, le-ltb (h.total + length s) (suc longest_hashed) l)

pub more_done : (h r : Hashing) (s : List ℕ) → possible h.tail_size h.total ≡ true → h.total + length s < suc longest_hashed → r ≡ absorbed h s
    → record { number = 0; hashing = r } ≡ more_answer h s
unfolding more_answer
more_done h r s e l d = rw (e, lt-ltb (h.total + length s) (suc longest_hashed) l) (ap (λ (x : Hashing). record { number = 0; hashing = x }) d)

-- the answer by its two tests: the number alone, and what stands beside 0
abbrev by_tests : Hashing → List ℕ → Bool → Bool → HashingAnswer
by_tests h s b t = cond b (cond t (record { number = 0; hashing = absorbed h s }) (record { number = wrong_size; hashing = h })) (record { number = unusable; hashing = h })

tests_number : (h : Hashing) (s : List ℕ) (b t : Bool) → (by_tests h s b t).number ≡ cond b (cond t 0 wrong_size) unusable
tests_number h s true true = refl
tests_number h s true false = refl
tests_number h s false t = refl

tests_taken : (h : Hashing) (s : List ℕ) (b t : Bool) → (by_tests h s b t).number ≡ 0 → by_tests h s b t ≡ record { number = 0; hashing = absorbed h s }
tests_taken h s true true q = refl
tests_taken h s true false q = absurd (omega (arith, q))
tests_taken h s false t q = absurd (omega (arith, q))

pub more_number : (h : Hashing) (s : List ℕ)
    → (more_answer h s).number ≡ cond (possible h.tail_size h.total) (cond (ltb (h.total + length s) (suc longest_hashed)) 0 wrong_size) unusable
unfolding more_answer
more_number h s = tests_number h s (possible h.tail_size h.total) (ltb (h.total + length s) (suc longest_hashed))

pub more_taken : (h : Hashing) (s : List ℕ) → (more_answer h s).number ≡ 0 → more_answer h s ≡ record { number = 0; hashing = absorbed h s }
unfolding more_answer
more_taken h s z = tests_taken h s (possible h.tail_size h.total) (ltb (h.total + length s) (suc longest_hashed)) z

pub end_impossible : (h : Hashing) → possible h.tail_size h.total ≡ false → record { number = unusable; hash = zero_hash } ≡ end_answer h
unfolding end_answer
end_impossible h e = rw e

pub end_is : (h : Hashing) → end_answer h ≡ cond (possible h.tail_size h.total) (record { number = 0; hash = hash_of h }) (record { number = unusable; hash = zero_hash })
unfolding end_answer
end_is h = refl

pub end_done : (h : Hashing) (r : List ℕ) → possible h.tail_size h.total ≡ true → r ≡ hash_of h → record { number = 0; hash = r } ≡ end_answer h
unfolding end_answer
end_done h r e d = rw e (ap (λ (x : List ℕ). record { number = 0; hash = x }) d)

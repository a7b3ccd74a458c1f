-- 02, request 1, as theorems: however a string is cut into bursts, empty ones included, none of them refused, the end is its hash; and bytes
-- behind the tail never matter.
-- Assumes nothing.
use Rattle.std.specs.Prelude.{◌≡◌, Bool, cond, List, [], ◌∷◌, ◌++◌, ℕ, suc, ◌+◌, ◌≤◌, ◌<◌, length, take, ltb}
use Rattle.std.proofs.Common.{ap, ap₂, sym, ◌∙◌, append_assoc, append-nil, arith, length-append}
use Rattle.std.proofs.Math.Decide.{dec_lt}
use Rattle.octets.specs.Octets.{zero_hash}
use Rattle.numbers.specs.Numbers.{wrong_size, unusable}
use Rattle.limits.specs.Limits.{longest_hashed}
use Rattle.sha256.specs.Sha256.{sha256}
use Rattle.sha256.specs.declared.Hashed.{Hashed}
use Rattle.running.specs.Bursts.{said_by, state_of, possible, more_answer, end_answer}
use Rattle.running.specs.BurstsLaws.{absorbed_more, hash_of_state, state_possible, state_total, same_said, more_number, more_taken, more_done, more_long, end_is, end_done}
use Rattle.running.specs.declared.Hashing.{Hashing}
use Rattle.running.specs.declared.HashingAnswer.{HashingAnswer}

-- the bursts one after the other, as one string
unfoldable pub joined : List (List ℕ) → List ℕ
joined [] = []
joined (b ∷ bs) = b ++ joined bs

-- the state after all of them, each given what the one before handed back
unfoldable pub after_all : Hashing → List (List ℕ) → Hashing
after_all s [] = s
after_all s (b ∷ bs) = after_all (more_answer s b).hashing bs

-- none of them is refused
unfoldable pub AllTaken : Hashing → List (List ℕ) → Type 0
AllTaken s [] = Unit
AllTaken s (b ∷ bs) = ((more_answer s b).number ≡ 0) × AllTaken (more_answer s b).hashing bs

-- a burst from the state of xs
pub taken_from : (xs b : List ℕ) → length xs + length b < suc longest_hashed → more_answer (state_of xs) b ≡ record { number = 0; hashing = state_of (xs ++ b) }
taken_from xs b l = sym (more_done (state_of xs) (state_of (xs ++ b)) b (state_possible xs (omega arith)) (omega (arith, state_total xs)) (sym (absorbed_more xs b)))

-- 4 exactly past the longest string that has a hash, and the state as it was given
pub refused_from : (xs b : List ℕ) → length xs < suc longest_hashed → suc longest_hashed ≤ length xs + length b → more_answer (state_of xs) b ≡ record { number = wrong_size; hashing = state_of xs }
refused_from xs b k l = sym (more_long (state_of xs) b (state_possible xs k) (omega (arith, state_total xs)))

-- from the state of xs, bursts none of which is refused lead to the state of all
pub after_all_lem : (xs : List ℕ) (bs : List (List ℕ)) → length xs < suc longest_hashed → AllTaken (state_of xs) bs
    → (after_all (state_of xs) bs ≡ state_of (xs ++ joined bs)) × (length (xs ++ joined bs) < suc longest_hashed)
unfolding after_all AllTaken joined
after_all_lem xs [] l t = (ap state_of (sym (append-nil xs)), rw append-nil l)
after_all_lem xs (b ∷ bs) l t = by_size (dec_lt (length xs + length b) (suc longest_hashed)) (after_all_lem (xs ++ b) bs)
  where
    by_size : Dec (length xs + length b < suc longest_hashed)
        → (length (xs ++ b) < suc longest_hashed → AllTaken (state_of (xs ++ b)) bs → (after_all (state_of (xs ++ b)) bs ≡ state_of ((xs ++ b) ++ joined bs)) × (length ((xs ++ b) ++ joined bs) < suc longest_hashed))
        → (after_all (more_answer (state_of xs) b).hashing bs ≡ state_of (xs ++ (b ++ joined bs))) × (length (xs ++ (b ++ joined bs)) < suc longest_hashed)
    by_size (yes k) go =
        let e = taken_from xs b k in
        let s : (more_answer (state_of xs) b).hashing ≡ state_of (xs ++ b) = ap (λ (a : HashingAnswer). a.hashing) e in
        let r = go (omega (arith, length-append xs b)) (rw s at t.1) in
        (ap (λ (h : Hashing). after_all h bs) s ∙ r.0 ∙ ap state_of (append_assoc xs b (joined bs)), rw (← append_assoc) r.1)
    by_size (no g) go =
        let e : (more_answer (state_of xs) b).number ≡ wrong_size = ap (λ (a : HashingAnswer). a.number) (refused_from xs b l (omega arith)) in
        absurd (omega (arith, e, t.0))

-- the end is the hash of all
pub any_cutting : (bs : List (List ℕ)) → AllTaken (state_of []) bs → end_answer (after_all (state_of []) bs) ≡ record { number = 0; hash = sha256 (joined bs) }
any_cutting bs t =
    let r = after_all_lem [] bs (omega arith) t in
    ap end_answer r.0 ∙ sym (end_done (state_of (joined bs)) (sha256 (joined bs)) (state_possible (joined bs) r.1) (sym (hash_of_state (joined bs))))

-- no burst is refused while all of them together are a string that SHA-256 takes
pub all_taken : (xs : List ℕ) (bs : List (List ℕ)) → length (xs ++ joined bs) < suc longest_hashed → AllTaken (state_of xs) bs
unfolding AllTaken joined
all_taken xs [] l = tt
all_taken xs (b ∷ bs) l =
    let k : length xs + length b < suc longest_hashed = omega (arith, length-append xs (b ++ joined bs), length-append b (joined bs)) in
    let e = taken_from xs b k in
    let s : (more_answer (state_of xs) b).hashing ≡ state_of (xs ++ b) = ap (λ (a : HashingAnswer). a.hashing) e in
    (ap (λ (a : HashingAnswer). a.number) e, rw s (all_taken (xs ++ b) bs (rw append_assoc l)))

-- so a string that SHA-256 takes may be given in any bursts, and the end is its hash
pub all_hashed : (bs : List (List ℕ)) → length (joined bs) < suc longest_hashed
    → AllTaken (state_of []) bs × (end_answer (after_all (state_of []) bs) ≡ record { number = 0; hash = sha256 (joined bs) })
all_hashed bs l = let t = all_taken [] bs l in (t, any_cutting bs t)

-- two states that differ in bytes of the tail behind its length alone
pub record SameButBehind (s t : Hashing) : Type 0 where
  pub same_words : s.words ≡ t.words
  pub same_size : s.tail_size ≡ t.tail_size
  pub same_total : s.total ≡ t.total
  pub same_tail : take s.tail_size s.tail ≡ take t.tail_size t.tail

pub same_says : (s t : Hashing) → SameButBehind s t → said_by s ≡ said_by t
unfolding said_by
same_says s t e = cc (e.same_words, e.same_total, e.same_tail)

-- bytes of the tail behind its length never matter: both states get the same number, beside 0 the same state, and the same answer at the end
pub behind_the_tail : (s t : Hashing) (ys : List ℕ) → SameButBehind s t
    → ((more_answer s ys).number ≡ (more_answer t ys).number) × ((more_answer s ys).number ≡ 0 → more_answer s ys ≡ more_answer t ys) × (end_answer s ≡ end_answer t)
behind_the_tail s t ys e = (numbers_same, states_same, ends_same)
  where
    said : said_by s ≡ said_by t
    said = same_says s t e

    counts : possible s.tail_size s.total ≡ possible t.tail_size t.total
    counts = ap₂ possible e.same_size e.same_total

    numbers_same : (more_answer s ys).number ≡ (more_answer t ys).number
    numbers_same = more_number s ys ∙ ap₂ (λ (b : Bool) (n : ℕ). cond {A = ℕ} b (cond (ltb (n + length ys) (suc longest_hashed)) 0 wrong_size) unusable) counts e.same_total ∙ sym (more_number t ys)

    states_same : (more_answer s ys).number ≡ 0 → more_answer s ys ≡ more_answer t ys
    states_same z = more_taken s ys z ∙ ap (λ (h : Hashing). record { number = 0; hashing = h }) (same_said s t ys said).0 ∙ sym (more_taken t ys (sym numbers_same ∙ z))

    ends_same : end_answer s ≡ end_answer t
    ends_same = end_is s ∙ ap₂ (λ (b : Bool) (h : List ℕ). cond {A = Hashed} b (record { number = 0; hash = h }) (record { number = unusable; hash = zero_hash })) counts (same_said s t ys said).1 ∙ sym (end_is t)

-- Laws of the message schedule, of its sums with the round words, and of the rounds.
-- Assumes nothing.
use Rattle.std.specs.Prelude.{◌≡◌, List, length, get_or, set, ℕ, zero, suc, ◌+◌, ◌-◌, ◌%◌, ◌^◌, ◌<◌}
use Rattle.std.proofs.Math.Path.{ap}
use Rattle.std.proofs.Common.{sym, subst, ◌∙◌, length-append, take_all, take-suc-set, get_or-take, arith}
use Rattle.std.proofs.Math.Numerals.{add-one}
use Rattle.std.proofs.Math.ListN.{take, length-set}
use Rattle.rounds.specs.declared.State.{State}
use Rattle.bits.specs.Parsing.{words}
use Rattle.bits.specs.ParsingLaws.{length_words}
use Rattle.rounds.specs.Block.{next, schedule, round}
use Rattle.rounds.specs.Sums.{sums, rounds_by}
use Rattle.rounds.specs.Stage.{Stage}

pub length_schedule : (n : ℕ) (m : List ℕ) → length (schedule n m) ≡ 16 + n
unfolding schedule
length_schedule zero m = length_words 16 m
length_schedule (suc n) m = simp (length-append, length_schedule n m) (omega arith)

module _ (m w : List ℕ) (i : ℕ) (st : Stage m i w) where
  -- a word that is there already is the schedule's
  there : (j : ℕ) → j < 16 + i → get_or w j 0 ≡ get_or (schedule i m) j 0
  there j h = sym (get_or-take (16 + i) w j 0 h) ∙ ap (λ (l : List ℕ). get_or l j 0) st.filled

  next_there : next w (i + 16) ≡ next (schedule i m) (16 + i)
  unfolding next
  next_there =
      let e : i + 16 ≡ 16 + i = omega arith in
      rw (e, there (16 + i - 2) (omega arith), there (16 + i - 7) (omega arith), there (16 + i - 15) (omega arith), there (16 + i - 16) (omega arith))

  grown : i < 48 → Stage m (i + 1) (set w (i + 16) (next w (i + 16)))
  unfolding schedule
  grown h =
      let e : 16 + (i + 1) ≡ suc (i + 16) = omega arith in
      let e' : i + 16 ≡ 16 + i = omega arith in
      let t : take (i + 16) w ≡ schedule i m = ap (λ (n : ℕ). take n w) e' ∙ st.filled in
      record {
        size = length-set w (i + 16) (next w (i + 16)) ∙ st.size;
        filled = rw (e, add-one i) (take-suc-set w (i + 16) (next w (i + 16)) (omega (arith, st.size)) ∙ rw (t, next_there));
      }

-- a list v with one word more than w
pub stage_step :
    {m w v : List ℕ} {i : ℕ} (j : ℕ)
    → Stage m i w
    → v ≡ set w (i + 16) (next w (i + 16))
    → i < 48
    → i + 1 ≡ j
    → Stage m j v
stage_step {m} {w} {v} {i} j st e h f = rw (e, sym f) (grown m w i st h)

pub stage_at : {m w : List ℕ} {i : ℕ} (j : ℕ) → Stage m i w → i ≡ j → Stage m j w
stage_at {m} {w} j st e = subst (λ (n : ℕ). Stage m n w) e st

-- the stage with the block's own words
pub stage_first : (m w : List ℕ) → length w ≡ 64 → take 16 w ≡ words 16 m → Stage m 0 w
unfolding schedule
stage_first m w l e = record { size = l; filled = e }

-- the stage with all words
pub stage_last : (m w : List ℕ) → Stage m 48 w → w ≡ schedule 48 m
stage_last m w st = sym (take_all 64 w (omega (arith, st.size))) ∙ st.filled

-- to one word more its round word, where those from i on are as they were
pub sums_more :
    (ks v w : List ℕ) (i : ℕ)
    → i < length w
    → take i w ≡ sums i ks v
    → get_or w i 0 ≡ get_or v i 0
    → take (i + 1) (set w i ((get_or ks i 0 + get_or w i 0) % 2 ^ 32)) ≡ sums (i + 1) ks v
unfolding sums
sums_more ks v w i h e f = rw (add-one i) (take-suc-set w i _ h ∙ cc)

-- one round more
pub rounds_by_more : (xs : List ℕ) (z s : State) (i : ℕ) → s ≡ rounds_by xs i z → round s (get_or xs i 0) 0 ≡ rounds_by xs (i + 1) z
unfolding rounds_by
rounds_by_more xs z s i e = rw (add-one i) (cc)

pub rounds_by_at : {s : State} (xs : List ℕ) (z : State) (i j : ℕ) → s ≡ rounds_by xs i z → i ≡ j → s ≡ rounds_by xs j z
rounds_by_at {s} xs z i j h e = subst (λ (n : ℕ). s ≡ rounds_by xs n z) e h

-- the round behind k of them, counted from i
pub rounds_by_next : {s : State} (xs : List ℕ) (z : State) (i k : ℕ) → s ≡ rounds_by xs (i + k + 1) z → s ≡ rounds_by xs (i + (k + 1)) z
rounds_by_next xs z i k h = rounds_by_at xs z (i + k + 1) (i + (k + 1)) h (omega arith)

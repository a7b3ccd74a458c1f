-- Laws of SHA-1's message schedule and of its rounds.
-- Assumes nothing.
use Rattle.std.specs.Prelude.{◌≡◌, List, length, get_or, set, ℕ, suc, ◌+◌, ◌-◌, ◌<◌, ◌≤◌}
use Rattle.std.proofs.Math.Path.{refl, ap}
use Rattle.std.proofs.Common.{sym, subst, ◌∙◌, take_all, take-suc-set, get_or-take, arith, lt-ltb, le-ltb}
use Rattle.std.proofs.Math.Numerals.{add-one}
use Rattle.std.proofs.Math.ListN.{take, length-set}
use Rattle.bits.specs.Words.{Ch, Maj}
use Rattle.bits.specs.Parsing.{words}
use Rattle.rounds1.specs.declared.Five.{Five}
use Rattle.bits.specs.Words.{Parity}
use Rattle.rounds1.specs.Words.{f, K}
use Rattle.rounds1.specs.Block.{next, schedule, turn, rounds}
use Rattle.rounds1.specs.Stage.{Stage, By, ByParity}

-- ---- the schedule

module _ (m w : List ℕ) (i : ℕ) (st : Stage m i w) where
  -- a word that is there already is the schedule's
  there : (j : ℕ) → j < 16 + i → get_or w j 0 ≡ get_or (schedule i m) j 0
  there j h = sym (get_or-take (16 + i) w j 0 h) ∙ ap (λ (l : List ℕ). get_or l j 0) st.filled

  next_there : next w (i + 16) ≡ next (schedule i m) (16 + i)
  unfolding next
  next_there =
      let e : i + 16 ≡ 16 + i = omega arith in
      rw (e, there (16 + i - 3) (omega arith), there (16 + i - 8) (omega arith), there (16 + i - 14) (omega arith), there (16 + i - 16) (omega arith))

  grown : i < 64 → Stage m (i + 1) (set w (i + 16) (next w (i + 16)))
  unfolding schedule
  grown h =
      let e : 16 + (i + 1) ≡ suc (i + 16) = omega arith in
      let e' : i + 16 ≡ 16 + i = omega arith in
      let t : take (i + 16) w ≡ schedule i m = ap (λ (n : ℕ). take n w) e' ∙ st.filled in
      record {
        size = length-set w (i + 16) (next w (i + 16)) ∙ st.size;
        filled = rw (e, add-one i) (take-suc-set w (i + 16) (next w (i + 16)) (omega (arith, st.size)) ∙ rw (t, next_there));
      }

-- a list v with one word more than w
pub stage_step : {m w v : List ℕ} {i : ℕ} (j : ℕ) → Stage m i w → v ≡ set w (i + 16) (next w (i + 16)) → i < 64 → i + 1 ≡ j → Stage m j v
stage_step {m} {w} {v} {i} j st e h q = rw (e, sym q) (grown m w i st h)

pub stage_at : {m w : List ℕ} {i : ℕ} (j : ℕ) → Stage m i w → i ≡ j → Stage m j w
stage_at {m} {w} j st e = subst (λ (n : ℕ). Stage m n w) e st

-- the stage with the block's own words
pub stage_first : (m w : List ℕ) → length w ≡ 80 → take 16 w ≡ words 16 m → Stage m 0 w
unfolding schedule
stage_first m w l e = record { size = l; filled = e }

-- the stage with all words
pub stage_last : (m w : List ℕ) → Stage m 64 w → w ≡ schedule 64 m
stage_last m w st = sym (take_all 80 w (omega (arith, st.size))) ∙ st.filled

-- ---- the rounds, by what f is

-- one round more, where f_i has the value x and K_i is k
round_more : (ws : List ℕ) (z s : Five) (i x k : ℕ) → s ≡ rounds ws i z → x ≡ f i s.b s.c s.d → k ≡ K i → turn s x k (get_or ws i 0) ≡ rounds ws (i + 1) z
unfolding rounds
round_more ws z s i x k e ex ek = rw (add-one i) (cc)

pub round_by : (ws : List ℕ) (z s : Five) (P : ℕ → ℕ → ℕ → ℕ → Type 0) (i x k : ℕ) → By P i k → s ≡ rounds ws i z → P s.b s.c s.d x → turn s x k (get_or ws i 0) ≡ rounds ws (i + 1) z
round_by ws z s P i x k p e q = round_more ws z s i x k e (p.value s.b s.c s.d x q) p.word

-- from 0 to 19, from 20 to 39, from 40 to 59, and from 60 on
pub f_choice : (i x y z : ℕ) → i < 20 → Ch x y z ≡ f i x y z
unfolding f
f_choice i x y z h = rw (lt-ltb i 20 h) refl

pub f_parity : (i x y z : ℕ) → 20 ≤ i → i < 40 → Parity x y z ≡ f i x y z
unfolding f
f_parity i x y z g h = rw (le-ltb i 20 g, lt-ltb i 40 h) refl

pub f_majority : (i x y z : ℕ) → 40 ≤ i → i < 60 → Maj x y z ≡ f i x y z
unfolding f
f_majority i x y z g h = rw (le-ltb i 20 (omega arith), le-ltb i 40 g, lt-ltb i 60 h) refl

pub f_last : (i x y z : ℕ) → 60 ≤ i → Parity x y z ≡ f i x y z
unfolding f
f_last i x y z g = rw (le-ltb i 20 (omega arith), le-ltb i 40 (omega arith), le-ltb i 60 g) refl

pub word_choice : (i : ℕ) → i < 20 → 0x5a82_7999 ≡ K i
unfolding K
word_choice i h = rw (lt-ltb i 20 h) refl

pub word_parity : (i : ℕ) → 20 ≤ i → i < 40 → 0x6ed9_eba1 ≡ K i
unfolding K
word_parity i g h = rw (le-ltb i 20 g, lt-ltb i 40 h) refl

pub word_majority : (i : ℕ) → 40 ≤ i → i < 60 → 0x8f1b_bcdc ≡ K i
unfolding K
word_majority i g h = rw (le-ltb i 20 (omega arith), le-ltb i 40 g, lt-ltb i 60 h) refl

pub word_last : (i : ℕ) → 60 ≤ i → 0xca62_c1d6 ≡ K i
unfolding K
word_last i g = rw (le-ltb i 20 (omega arith), le-ltb i 40 (omega arith), le-ltb i 60 g) refl

-- ---- a round of each kind

pub round_choice : (ws : List ℕ) (z s : Five) (i : ℕ) → i < 20 → s ≡ rounds ws i z → turn s (Ch s.b s.c s.d) 0x5a82_7999 (get_or ws i 0) ≡ rounds ws (i + 1) z
round_choice ws z s i h e = round_more ws z s i (Ch s.b s.c s.d) 0x5a82_7999 e (f_choice i s.b s.c s.d h) (word_choice i h)

pub round_majority : (ws : List ℕ) (z s : Five) (i : ℕ) → 40 ≤ i → i < 60 → s ≡ rounds ws i z → turn s (Maj s.b s.c s.d) 0x8f1b_bcdc (get_or ws i 0) ≡ rounds ws (i + 1) z
round_majority ws z s i g h e = round_more ws z s i (Maj s.b s.c s.d) 0x8f1b_bcdc e (f_majority i s.b s.c s.d g h) (word_majority i g h)

pub round_parity : (ws : List ℕ) (z s : Five) (i k : ℕ) → ByParity i k → s ≡ rounds ws i z → turn s (Parity s.b s.c s.d) k (get_or ws i 0) ≡ rounds ws (i + 1) z
round_parity ws z s i k p e = round_more ws z s i (Parity s.b s.c s.d) k e (sym (p.parity s.b s.c s.d)) (sym p.word)

-- from 20 to 39, and from 60 on
pub parity_before : (i : ℕ) → 20 ≤ i → i < 40 → ByParity i 0x6ed9_eba1
parity_before i g h = record { parity = λ x y z. sym (f_parity i x y z g h); word = sym (word_parity i g h) }

pub parity_behind : (i : ℕ) → 60 ≤ i → ByParity i 0xca62_c1d6
parity_behind i g = record { parity = λ x y z. sym (f_last i x y z g); word = sym (word_last i g) }

pub no_rounds : (ws : List ℕ) (z : Five) → z ≡ rounds ws 0 z
unfolding rounds
no_rounds ws z = refl

pub rounds_at : {s : Five} (ws : List ℕ) (z : Five) (i j : ℕ) → s ≡ rounds ws i z → i ≡ j → s ≡ rounds ws j z
rounds_at {s} ws z i j h e = subst (λ (n : ℕ). s ≡ rounds ws n z) e h

-- Laws of a session: what reading a piece uses up, and that pieces of any size give the lines of the whole.
-- Assumes nothing.
use Rattle.std.specs.Prelude.{◌≡◌, refl, true, false, List, [], ◌∷◌, ◌++◌, ℕ, suc, ◌+◌, ◌-◌, ◌≤◌, ◌<◌, length, take, drop, Option, Some, None}
use Rattle.std.proofs.Common.{ap, ◌∙◌, arith, length-take, length-drop}
use Rattle.numbers.specs.declared.Answer.{Answer}
use Rattle.session.specs.declared.Progress.{Progress}
use Rattle.session.specs.declared.Part.{Part}
use Rattle.session.specs.Session.{Session, Reading, next, silent, line_of, printed, further, reading, seen, started, Due, Reads}

-- ---- at the start nothing is gathered

pub started_due : (q : Progress) → q ≡ started → Due q.phase q.at
started_due q e = rw e (omega arith)

-- ---- one byte more of a reading

module _ (x : Session) (b : ℕ) (rest : List ℕ) where
  pub reading_on : silent (next x b).line ≡ true → reading x (b ∷ rest) ≡ further 1 (reading (next x b).session rest)
  unfolding reading
  reading_on e = rw e

  pub reading_said : silent (next x b).line ≡ false → reading x (b ∷ rest) ≡ record { session = (next x b).session; used = 1; line = (next x b).line }
  unfolding reading
  reading_said e = rw e

pub reading_none : (x : Session) → reading x [] ≡ record { session = x; used = 0; line = None }
unfolding reading
reading_none x = refl

-- ---- a piece's bytes and no others are used, and at least one if there is one

within_by : (x : Session) (b : ℕ) (rest : List ℕ) (l : Option Answer) → (next x b).line ≡ l → (reading (next x b).session rest).used ≤ length rest → (reading x (b ∷ rest)).used ≤ length (b ∷ rest)
within_by x b rest None e h = rw (reading_on x b rest (ap silent e)) (omega arith)
within_by x b rest (Some a) e h = rw (reading_said x b rest (ap silent e)) (omega arith)

pub reading_within : (x : Session) (piece : List ℕ) → (reading x piece).used ≤ length piece
reading_within x [] = rw reading_none (omega arith)
reading_within x (b ∷ rest) = within_by x b rest (next x b).line refl (reading_within (next x b).session rest)

some_by : (x : Session) (b : ℕ) (rest : List ℕ) (l : Option Answer) → (next x b).line ≡ l → 1 ≤ (reading x (b ∷ rest)).used
some_by x b rest None e = rw (reading_on x b rest (ap silent e)) (omega arith)
some_by x b rest (Some a) e = rw (reading_said x b rest (ap silent e)) (omega arith)

pub reading_some : (x : Session) (piece : List ℕ) → 1 ≤ length piece → 1 ≤ (reading x piece).used
reading_some x [] h = absurd (none h)
  where
    none : 1 ≤ 0 → ⊥
    none l = omega arith
reading_some x (b ∷ rest) h = some_by x b rest (next x b).line refl

-- how many bytes are used of the rest of a piece
pub rest_used : (x : Session) (piece : List ℕ) (at u : ℕ) → at < length piece → u ≡ (reading x (take (length piece - at) (drop at piece))).used → (at + u ≤ length piece) × (1 ≤ u)
rest_used x piece at u l e =
    let n : length (take (length piece - at) (drop at piece)) ≡ length piece - at = simp (length-take, length-drop) (omega arith) in
    let w = reading_within x (take (length piece - at) (drop at piece)) in
    let v = reading_some x (take (length piece - at) (drop at piece)) (omega arith) in
    (omega arith, omega arith)

-- ---- the lines of the whole are the piece's line, if there is one, and those of what the piece left with all that follows

drop_one : (n b : ℕ) (l : List ℕ) → drop (1 + n) (b ∷ l) ≡ drop n l
drop_one n b l = let e : 1 + n ≡ suc n = omega arith in rw e

abbrev pub left_over : List ℕ → List ℕ → Reading → List Answer
left_over piece rest r = line_of r.line ++ printed r.session (drop r.used piece ++ rest)

printed_by : (x : Session) (b : ℕ) (piece rest : List ℕ) (l : Option Answer) → (next x b).line ≡ l
    → printed (next x b).session (piece ++ rest) ≡ left_over piece rest (reading (next x b).session piece)
    → printed x (b ∷ (piece ++ rest)) ≡ left_over (b ∷ piece) rest (reading x (b ∷ piece))
unfolding printed
printed_by x b piece rest None e h = rw (reading_on x b piece (ap silent e), e, drop_one) h
printed_by x b piece rest (Some a) e h = rw (reading_said x b piece (ap silent e), e) refl

pub reading_printed : (x : Session) (piece rest : List ℕ) → printed x (piece ++ rest) ≡ left_over piece rest (reading x piece)
reading_printed x [] rest = rw reading_none refl
reading_printed x (b ∷ piece) rest = printed_by x b piece rest (next x b).line refl (reading_printed (next x b).session piece rest)

-- so does the code: what it answers for a piece, with what its session prints for all that follows, are the lines of the session before
pub reads_printed : (x : Session) (piece rest : List ℕ) (r : Part) (s room : List ℕ) → Reads (reading x piece) r s room
    → printed x (piece ++ rest) ≡ line_of r.line ++ printed (seen r.progress s room) (drop r.used piece ++ rest)
reads_printed x piece rest r s room R = reading_printed x piece rest ∙ rw (R.session, R.used, R.line) refl

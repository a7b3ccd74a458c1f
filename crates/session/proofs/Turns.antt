-- The turns of the loop over a piece.
-- Assumes nothing.
use Rattle.std.specs.Prelude.{◌≡◌, refl, true, false, List, ◌∷◌, ℕ, suc, ◌+◌, ◌≤◌, ◌<◌, length, take, drop, get_or, Option, Some, None, Bool, is_some, not}
use Rattle.std.proofs.Common.{ap, sym, ◌∙◌, arith, add-one, drop_of_length-le, drop-cons}
use Rattle.numbers.specs.declared.Answer.{Answer}
use Rattle.session.specs.declared.Progress.{Progress}
use Rattle.session.specs.declared.Stepped.{Stepped}
use Rattle.session.specs.declared.Part.{Part}
use Rattle.session.specs.SessionLaws.{reading_on, reading_said, reading_none}
use Rattle.session.specs.Session.{Session, Reading, step, next, silent, further, reading, seen, Due, Follows, Reads}

-- ---- a reading with another count

abbrev sized : Session → ℕ → Option Answer → Reading
sized y n l = record { session = y; used = n; line = l }

used_as : (y : Session) (n m : ℕ) (l : Option Answer) → n ≡ m → sized y n l ≡ sized y m l
used_as y n m l e = ap (λ (k : ℕ). sized y k l) e

-- ---- what holds at each turn: i bytes are read, and none of them gave a line

pub record Reached (x : Session) (piece : List ℕ) (ls lr : ℕ) (s room : List ℕ) (q : Progress) (i : ℕ) : Type 0 where
  pub within : i ≤ length piece
  pub due : Due q.phase q.at
  pub store_kept : length s ≡ ls
  pub room_kept : length room ≡ lr
  pub read : reading x piece ≡ further i (reading (seen q s room) (drop i piece))

further_none : (r : Reading) → r ≡ further 0 r
further_none r = used_as r.session r.used (0 + r.used) r.line (omega arith)

pub reached_start : (piece s room : List ℕ) (q : Progress) → Due q.phase q.at → Reached (seen q s room) piece (length s) (length room) s room q 0
reached_start piece s room q d = record { within = omega arith; due = d; store_kept = refl; room_kept = refl; read = further_none (reading (seen q s room) piece) }

module _ (x : Session) (piece : List ℕ) (ls lr : ℕ) (s room : List ℕ) (q : Progress) (i : ℕ) (R : Reached x piece ls lr s room q i) where
  pub reached_end : length piece ≤ i → (r : Part) → r ≡ record { progress = q; used = i; line = None } → Reads (reading x piece) r s room
  reached_end l r er =
      let e : reading x piece ≡ record { session = seen q s room; used = i; line = None } =
      R.read ∙ ap (λ (z : List ℕ). further i (reading (seen q s room) z)) (drop_of_length-le piece {i = i} l) ∙ ap (further i) (reading_none (seen q s room))
      ∙ used_as (seen q s room) (i + 0) i None (omega arith) in
      rw (er, e) (record { session = refl; used = refl; line = refl; due = R.due })

  module _ (b : ℕ) (f : Stepped) (s' room' : List ℕ) (l : i < length piece) (eb : b ≡ get_or piece i 0)
      (F : Follows (step q.phase (take q.at room) s b) f s' room') where
    here : drop i piece ≡ b ∷ drop (i + 1) piece
    here = drop-cons piece i 0 l ∙ ap (λ (z : ℕ). z ∷ drop (suc i) piece) (sym eb) ∙ ap (λ (j : ℕ). b ∷ drop j piece) (sym (add-one i))

    pub reached_next : silent f.line ≡ true → length s' ≡ length s → length room' ≡ length room → Reached x piece ls lr s' room' f.progress (i + 1)
    reached_next e ks kr =
        let e' : silent (next (seen q s room) b).line ≡ true = ap silent (sym F.line) ∙ e in
        let z = reading (seen f.progress s' room') (drop (i + 1) piece) in
        record {
          within = omega arith;
          due = F.due;
          store_kept = ks ∙ R.store_kept;
          room_kept = kr ∙ R.room_kept;
          read = R.read ∙ ap (λ (z : List ℕ). further i (reading (seen q s room) z)) here ∙ ap (further i) (reading_on (seen q s room) b (drop (i + 1) piece) e')
              ∙ ap (λ (y : Session). further i (further 1 (reading y (drop (i + 1) piece)))) (sym F.session)
              ∙ used_as z.session (i + (1 + z.used)) (i + 1 + z.used) z.line (omega arith);
        }

    pub reached_said : silent f.line ≡ false → (r : Part) → r ≡ record { progress = f.progress; used = i + 1; line = f.line } → Reads (reading x piece) r s' room'
    reached_said e r er =
        let e' : silent (next (seen q s room) b).line ≡ false = ap silent (sym F.line) ∙ e in
        let k : reading x piece ≡ record { session = (next (seen q s room) b).session; used = i + 1; line = (next (seen q s room) b).line } =
        R.read ∙ ap (λ (z : List ℕ). further i (reading (seen q s room) z)) here ∙ ap (further i) (reading_said (seen q s room) b (drop (i + 1) piece) e') in
        rw (er, k) (record { session = F.session; used = refl; line = F.line; due = F.due })

-- ---- whether there is a line, as the code asks it

pub silent_not : (l : Option Answer) (t : Bool) → is_some l ≡ t → silent l ≡ not t
silent_not None t e = ap not e
silent_not (Some a) t e = ap not e

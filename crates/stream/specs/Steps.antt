-- What the code does in one step: a byte of the prefix, or a run of the frame's bytes.
-- Assumes nothing.
use Rattle.std.specs.Prelude.{◌≡◌, List, [], cond, ℕ, ◌-◌, ◌≤◌, ◌<◌, min, length, take, drop, get_or, eqb}
use Rattle.numbers.specs.Numbers.{no_message, no_room}
use Rattle.stream.specs.Reading.{storing, skipping_unknown, skipping_wrong, mode_at, kept, quiet, Stepped, between, prefixed, prefix_byte, progressed, Call, further, stopped, hears, no_event, message_event, answer_of}
use Rattle.stream.specs.Standing.{Going}
use Rattle.stream.specs.declared.Stream.{Stream}
use Rattle.stream.specs.declared.Heard.{Heard}

-- a number, bytes used and the state then, and nothing is heard
abbrev pub without_event : ℕ → ℕ → Stream → Heard
without_event number used next = record { number = number; event = no_event; used = used; size = 0; state = next }

-- what is given at the end of a frame of l bytes, n of which came now
unfoldable pub end_answer : ℕ → ℕ → ℕ → Heard
end_answer l m n =
    cond (eqb m storing) (record { number = 0; event = message_event; used = n; size = l; state = between })
    (cond (eqb m skipping_unknown) (without_event 0 n between)
    (cond (eqb m skipping_wrong) (without_event no_message n between) (without_event no_room n between)))

-- at the prefix's last byte, whatever the room: the prefix says l
unfoldable pub prefixed_answer : ℕ → Heard
prefixed_answer l = answer_of (stopped 1 (prefixed l []))

-- at a byte of the prefix, whatever the room
unfoldable pub prefix_answer : Stream → ℕ → Heard
prefix_answer s b = answer_of (stopped 1 (prefix_byte s [] b))

-- how many of n bytes belong to a frame of l with r read
abbrev pub run_size : ℕ → ℕ → ℕ → ℕ
run_size l r n = min (l - r) n

unfoldable pub frame_run : ℕ → ℕ → ℕ → List ℕ → List ℕ → Stepped
frame_run l r m room bs = progressed l r (run_size l r (length bs)) m (kept m room r (take (run_size l r (length bs)) bs))

-- the step's bytes and what follows
unfoldable pub onward : ℕ → Stepped → List ℕ → Call
onward n t bs = cond (quiet t.said) (further n (hears t.state t.room bs)) (stopped n t)

-- a run of the frame's bytes
unfoldable pub frame_step : Stream → List ℕ → List ℕ → Stepped
frame_step t room bs = frame_run t.length t.read (mode_at t (length room) (get_or bs 0 0)) room bs

unfoldable pub frame_answer_of : Stream → List ℕ → List ℕ → Heard
frame_answer_of t room bs = answer_of (stopped (run_size t.length t.read (length bs)) (frame_step t room bs))

-- an answer r to some of the bytes bs, with the room then: either it is the call's, or nothing was heard and the rest follows
pub record Stepping (t : Stream) (room bs : List ℕ) (r : Heard) (room' : List ℕ) : Type 0 where
  pub some : 0 < r.used
  pub most : r.used ≤ length bs
  pub same_room : length room' ≡ length room
  pub loud : ((r.number ≡ 0) × (r.event ≡ 0) → ⊥) → (r ≡ answer_of (hears t room bs)) × (room' ≡ (hears t room bs).room)
  pub silent : r.number ≡ 0 → r.event ≡ 0 → (hears t room bs ≡ further r.used (hears r.state room' (drop r.used bs))) × Going r.state (length room')

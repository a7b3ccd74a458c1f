-- 02, request 9: frames read byte by byte. What one byte makes of a state and a room, and what is heard at it; what a call hears, and answers.
-- Assumes nothing.
use Rattle.std.specs.Prelude.{List, [], ◌∷◌, Bool, true, false, cond, ◌&&◌, ℕ, ◌+◌, ◌*◌, ◌^◌, length, take, eqb, ltb, leb}
use Rattle.octets.specs.Octets.{pasted}
use Rattle.numbers.specs.Numbers.{no_message, unusable, no_room, frame_too_long}
use Rattle.limits.specs.Limits.{longest_frame}
use Rattle.frames.specs.Frames.{known, right}
use Rattle.stream.specs.declared.Stream.{Stream}
use Rattle.stream.specs.declared.Heard.{Heard}

-- ---- what is done with a frame: its mode

-- put into the room
abbrev pub storing : ℕ
storing = 0

-- skipped: its id is unknown
abbrev pub skipping_unknown : ℕ
skipping_unknown = 1

-- skipped: of a wrong size for its id; at its end the answer is 1
abbrev pub skipping_wrong : ℕ
skipping_wrong = 2

-- skipped: larger than the room; at its end the answer is 11
abbrev pub skipping_large : ℕ
skipping_large = 3

-- the stream is refused: the answer is 30
abbrev pub refusing : ℕ
refusing = 4

-- by its id and its length
unfoldable pub mode_of : ℕ → ℕ → ℕ
mode_of i l = cond (known i) (cond (right i l) storing skipping_wrong) skipping_unknown

-- only a frame not longer than the room is stored
unfoldable pub fitting : ℕ → ℕ → ℕ → ℕ
fitting l n m = cond (eqb m storing) (cond (ltb n l) skipping_large storing) m

-- from its next byte b on, in a room of n bytes: the first byte is the id
unfoldable pub mode_at : Stream → ℕ → ℕ → ℕ
mode_at s n b = fitting s.length n (cond (eqb s.read 0) (mode_of b s.length) s.mode)

-- the room with bytes of the frame put from `at` on, if it is stored
unfoldable pub kept : ℕ → List ℕ → ℕ → List ℕ → List ℕ
kept m room at bs = cond (eqb m storing) (pasted room at bs) room

-- ---- one byte

-- what is heard: nothing; a message; a keep-alive; the end of a frame skipped with 1, with 11; 30; and of a call also 9
pub data Said : Type 0 where
  nothing : Said
  message : List ℕ → Said
  keep_alive : Said
  wrong_skipped : Said
  large_skipped : Said
  refused_now : Said
  bad_state : Said

abbrev pub quiet : Said → Bool
quiet nothing = true
quiet (message m) = false
quiet keep_alive = false
quiet wrong_skipped = false
quiet large_skipped = false
quiet refused_now = false
quiet bad_state = false

pub record Stepped : Type 0 where
  pub said : Said
  pub state : Stream
  pub room : List ℕ

abbrev pub says : Said → Stream → List ℕ → Stepped
says h s room = record { said = h; state = s; room = room }

abbrev pub standing : ℕ → ℕ → ℕ → ℕ → Stream
standing l k r m = record { length = l; length_size = k; read = r; mode = m }

-- before the first frame and between two
abbrev pub between : Stream
between = standing 0 0 0 storing

-- refused by a prefix that says l
abbrev pub refused_by : ℕ → Stream
refused_by l = standing l 4 0 refusing

-- the prefix is whole and says l
unfoldable pub prefixed : ℕ → List ℕ → Stepped
prefixed l room =
    cond (ltb longest_frame l) (says refused_now (refused_by l) room) (cond (eqb l 0) (says keep_alive between room) (says nothing (standing l 4 0 storing) room))

-- a byte of the prefix
unfoldable pub prefix_byte : Stream → List ℕ → ℕ → Stepped
prefix_byte s room b =
    cond (eqb s.length_size 3) (prefixed (s.length * 256 + b) room)
    (says nothing (standing (s.length * 256 + b) (s.length_size + 1) 0 storing) room)

-- what is heard at the end of a frame of l bytes
unfoldable pub said_at_end : ℕ → ℕ → List ℕ → Said
said_at_end l m room =
    cond (eqb m storing) (message (take l room)) (cond (eqb m skipping_unknown) nothing (cond (eqb m skipping_wrong) wrong_skipped large_skipped))

-- n bytes of a frame of l, r of them read before, have been dealt with
unfoldable pub progressed : ℕ → ℕ → ℕ → ℕ → List ℕ → Stepped
progressed l r n m room = cond (eqb (r + n) l) (says (said_at_end l m room) between room) (says nothing (standing l 4 (r + n) m) room)

-- a byte of the frame
unfoldable pub frame_byte : ℕ → ℕ → ℕ → List ℕ → ℕ → Stepped
frame_byte l r m room b = progressed l r 1 m (kept m room r (b ∷ []))

unfoldable pub byte : Stream → List ℕ → ℕ → Stepped
byte s room b = cond (ltb s.length_size 4) (prefix_byte s room b) (frame_byte s.length s.read (mode_at s (length room) b) room b)

-- ---- a call

pub record Call : Type 0 where
  pub said : Said
  pub used : ℕ
  pub state : Stream
  pub room : List ℕ

abbrev pub further : ℕ → Call → Call
further n c = record { said = c.said; used = n + c.used; state = c.state; room = c.room }

abbrev pub stopped : ℕ → Stepped → Call
stopped n t = record { said = t.said; used = n; state = t.state; room = t.room }

-- nothing is used, state and room stay
abbrev pub unmoved : Said → Stream → List ℕ → Call
unmoved h s room = record { said = h; used = 0; state = s; room = room }

-- up to the first byte at which something is heard, or to the end
unfoldable pub hears : Stream → List ℕ → List ℕ → Call
hears s room [] = unmoved nothing s room
hears s room (b ∷ bs) =
    cond (quiet (byte s room b).said) (further 1 (hears (byte s room b).state (byte s room b).room bs)) (stopped 1 (byte s room b))

-- whether some bytes give such a state in some room, and what it has stored is not more than a room of n bytes has:
-- in the prefix
unfoldable pub usable_prefix : Stream → Bool
usable_prefix s = eqb s.read 0 && eqb s.mode storing && ltb s.length (256 ^ s.length_size)

-- in a frame
unfoldable pub usable_frame : Stream → ℕ → Bool
usable_frame s n =
    leb s.length longest_frame && ltb s.read s.length
    && cond (eqb s.mode storing) (leb s.read n) (ltb 0 s.read && ltb s.mode refusing)

unfoldable pub usable : Stream → ℕ → Bool
usable s n =
    cond (ltb s.length_size 4) (usable_prefix s)
    (eqb s.length_size 4 && cond (eqb s.mode refusing) (eqb s.read 0 && ltb longest_frame s.length) (usable_frame s n))

-- 9; 30 again; or what the bytes say
unfoldable pub called : Stream → List ℕ → List ℕ → Call
called s room bs =
    cond (usable s (length room))
    (cond (eqb s.mode refusing) (unmoved refused_now s room) (hears s room bs))
    (unmoved bad_state s room)

-- ---- the answer

abbrev pub number_of : Said → ℕ
number_of nothing = 0
number_of (message m) = 0
number_of keep_alive = 0
number_of wrong_skipped = no_message
number_of large_skipped = no_room
number_of refused_now = frame_too_long
number_of bad_state = unusable

-- events: none, a message, a keep-alive
abbrev pub no_event : ℕ
no_event = 0

abbrev pub message_event : ℕ
message_event = 1

abbrev pub keep_alive_event : ℕ
keep_alive_event = 2

abbrev pub event_of : Said → ℕ
event_of nothing = no_event
event_of (message m) = message_event
event_of keep_alive = keep_alive_event
event_of wrong_skipped = no_event
event_of large_skipped = no_event
event_of refused_now = no_event
event_of bad_state = no_event

abbrev pub size_of : Said → ℕ
size_of nothing = 0
size_of (message m) = length m
size_of keep_alive = 0
size_of wrong_skipped = 0
size_of large_skipped = 0
size_of refused_now = 0
size_of bad_state = 0

unfoldable pub answer_of : Call → Heard
answer_of c = record { number = number_of c.said; event = event_of c.said; used = c.used; size = size_of c.said; state = c.state }

-- what the reader answers, and the room then
unfoldable pub hear_answer : Stream → List ℕ → List ℕ → Heard
hear_answer s room bs = answer_of (called s room bs)

unfoldable pub hear_room : Stream → List ℕ → List ℕ → List ℕ
hear_room s room bs = (called s room bs).room

-- how many bytes of a frame stand in the room after a call: a message's, or those of the frame under way if it is stored
unfoldable pub stored_by : Said → Stream → ℕ
stored_by (message m) s = length m
stored_by nothing s = cond (eqb s.mode storing) s.read 0
stored_by keep_alive s = 0
stored_by wrong_skipped s = 0
stored_by large_skipped s = 0
stored_by refused_now s = 0
stored_by bad_state s = 0

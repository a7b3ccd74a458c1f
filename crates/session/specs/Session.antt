-- 01, "The replay program", byte by byte: where a session stands, what the next byte makes of it, and the line that it prints.
-- Assumes nothing.
use Rattle.std.specs.Prelude.{List, [], ◌∷◌, ◌++◌, Bool, true, false, cond, ◌&&◌, ◌≡◌, ℕ, ◌+◌, ◌-◌, ◌*◌, ◌≤◌, ◌<◌, length, take, leb, eqb, Option, Some, None}
use Rattle.octets.specs.Octets.{cut, number_at}
use Rattle.numbers.specs.Numbers.{refused, done, no_message, facts_out_of_range}
use Rattle.numbers.specs.declared.Answer.{Answer}
use Rattle.tree.specs.Geometry.{block_length, block_count}
use Rattle.store.specs.Store.{facts_in_range, store_size, opened}
use Rattle.header.specs.Header.{header_size, hashes_id}
use Rattle.messages.specs.Take.{take_answer, take_after}
use Rattle.session.specs.declared.Phase.{Phase}
use Rattle.session.specs.declared.Phase.TheVariants.{Fresh, Open, Opening, Inside, Body, Stopped}
use Rattle.session.specs.declared.Progress.{Progress}
use Rattle.session.specs.declared.Stepped.{Stepped}
use Rattle.session.specs.declared.Part.{Part}

-- the replay's own limits: the blocks of a file, and the hashes of a message
abbrev pub max_blocks : ℕ
max_blocks = 512

abbrev pub max_hashes : ℕ
max_hashes = 528

-- the bytes of a message with as many hashes
abbrev pub max_message : ℕ
max_message = header_size + 32 * max_hashes

-- the bytes of a store for as many blocks: the replay lends them
abbrev pub max_store : ℕ
max_store = store_size (block_length * max_blocks)

-- ---- where a session stands: its phase, the bytes of the opening or message gathered so far, the store's bytes

pub record Session : Type 0 where
  pub phase : Phase
  pub got : List ℕ
  pub store : List ℕ

-- and what a byte makes of it
pub record Outcome : Type 0 where
  pub session : Session
  pub line : Option Answer

abbrev pub goes : Phase → List ℕ → List ℕ → Outcome
goes x got s = record { session = record { phase = x; got = got; store = s }; line = None }

abbrev pub says : Phase → Answer → List ℕ → Outcome
says x a s = record { session = record { phase = x; got = []; store = s }; line = Some a }

-- a stop: the stream is broken, or an opening is refused
abbrev pub broken : List ℕ → Outcome
broken s = says Stopped (refused no_message) s

abbrev pub shut : List ℕ → Outcome
shut s = says Stopped (refused facts_out_of_range) s

-- ---- the kind byte of a record; a body's bytes to come after the next one are counted in the phase

-- outside a message: an opening, or a header if a store is open; the message's first byte is its id
unfoldable pub outside : Bool → List ℕ → ℕ → Outcome
outside opened s k =
    cond (eqb k 1) (goes (Opening 43) [] s) (cond opened (cond (eqb k 2) (goes (Body 47) (hashes_id ∷ []) s) (broken s)) (broken s))

-- inside a message: one more hash, if it may have more, or the end
unfoldable pub inside : List ℕ → List ℕ → ℕ → Outcome
inside got s k =
    cond (eqb k 3) (cond (leb (length got + 32) max_message) (goes (Body 31) got s) (broken s))
    (cond (eqb k 4) (says Open (take_answer s got) (take_after s got)) (broken s))

-- ---- the bytes of a body

-- the facts of an opening
abbrev pub length_in : List ℕ → ℕ
length_in o = number_at o 0 8

abbrev pub piece_in : List ℕ → ℕ
piece_in o = number_at o 8 4

abbrev pub root_in : List ℕ → List ℕ
root_in o = cut o 12 32

-- the replay opens files in range, if they have no more blocks than it takes
abbrev pub opens : List ℕ → Bool
opens o = leb (block_count (length_in o)) max_blocks && facts_in_range (length_in o) (piece_in o)

-- a whole opening
unfoldable pub opening : List ℕ → List ℕ → Outcome
opening o s = cond (opens o) (says Open (done 1) (opened s (length_in o) (piece_in o) (root_in o))) (shut s)

unfoldable pub opening_byte : ℕ → List ℕ → List ℕ → Outcome
opening_byte left got s = cond (eqb left 0) (opening got s) (goes (Opening (left - 1)) got s)

unfoldable pub body_byte : ℕ → List ℕ → List ℕ → Outcome
body_byte left got s = cond (eqb left 0) (goes Inside got s) (goes (Body (left - 1)) got s)

-- ---- any byte

abbrev pub step : Phase → List ℕ → List ℕ → ℕ → Outcome
step Fresh got s b = outside false s b
step Open got s b = outside true s b
step (Opening left) got s b = opening_byte left (got ++ (b ∷ [])) s
step Inside got s b = inside got s b
step (Body left) got s b = body_byte left (got ++ (b ∷ [])) s
step Stopped got s b = goes Stopped [] s

-- the end of the input: it may not come inside a record or a message
abbrev pub ending : Phase → Option Answer
ending Fresh = None
ending Open = None
ending (Opening left) = Some (refused no_message)
ending Inside = Some (refused no_message)
ending (Body left) = Some (refused no_message)
ending Stopped = None

-- ---- the lines printed for what is left of the input

abbrev pub line_of : Option Answer → List Answer
line_of None = []
line_of (Some a) = a ∷ []

abbrev pub silent : Option Answer → Bool
silent None = true
silent (Some a) = false

abbrev pub next : Session → ℕ → Outcome
next x b = step x.phase x.got x.store b

unfoldable pub printed : Session → List ℕ → List Answer
printed x [] = line_of (ending x.phase)
printed x (b ∷ rest) = line_of (next x b).line ++ printed (next x b).session rest

-- a session over a store's lent bytes, before any input
abbrev pub begun : List ℕ → Session
begun lent = record { phase = Fresh; got = []; store = lent }

-- ---- a piece of the input: its bytes up to the first line, how many they are, and that line

pub record Reading : Type 0 where
  pub session : Session
  pub used : ℕ
  pub line : Option Answer

abbrev pub further : ℕ → Reading → Reading
further n r = record { session = r.session; used = n + r.used; line = r.line }

unfoldable pub reading : Session → List ℕ → Reading
reading x [] = record { session = x; used = 0; line = None }
reading x (b ∷ rest) =
    cond (silent (next x b).line) (further 1 (reading (next x b).session rest)) (record { session = (next x b).session; used = 1; line = (next x b).line })

-- ---- the session as the code holds it: the gathered bytes stand at the front of a lent room

abbrev pub seen : Progress → List ℕ → List ℕ → Session
seen p s room = record { phase = p.phase; got = take p.at room; store = s }

-- the same two outcomes, as the code answers them
abbrev pub goes_at : Phase → ℕ → Stepped
goes_at x at = record { progress = record { phase = x; at = at }; line = None }

abbrev pub says_at : Phase → Answer → Stepped
says_at x a = record { progress = record { phase = x; at = 0 }; line = Some a }

-- what is gathered, with what is due, fits
abbrev pub Due : Phase → ℕ → Type 0
Due Fresh at = at ≤ max_message
Due Open at = at ≤ max_message
Due (Opening left) at = at + left ≡ 43
Due Inside at = at ≤ max_message
Due (Body left) at = at + left < max_message
Due Stopped at = at ≤ max_message

-- a store of ls bytes and a room of lr bytes are lent: enough for every file and message that the replay takes
pub record Lent (p : Progress) (ls lr : ℕ) : Type 0 where
  pub store : max_store ≤ ls
  pub room : max_message ≤ lr
  pub due : Due p.phase p.at

-- the code's step is the session's
pub record Follows (o : Outcome) (r : Stepped) (s room : List ℕ) : Type 0 where
  pub session : seen r.progress s room ≡ o.session
  pub line : r.line ≡ o.line
  pub due : Due r.progress.phase r.progress.at

-- and its reading of a piece
pub record Reads (o : Reading) (r : Part) (s room : List ℕ) : Type 0 where
  pub session : seen r.progress s room ≡ o.session
  pub used : r.used ≡ o.used
  pub line : r.line ≡ o.line
  pub due : Due r.progress.phase r.progress.at

abbrev pub started : Progress
started = record { phase = Fresh; at = 0 }

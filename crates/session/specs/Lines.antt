-- 01, "The replay program", record by record: the lines that a whole input prints, before the last line, `end`.
-- Assumes nothing.
use Rattle.std.specs.Prelude.{List, [], ◌∷◌, ◌++◌, Bool, true, false, cond, ◌&&◌, ℕ, zero, suc, ◌+◌, length, take, drop, leb, eqb}
use Rattle.numbers.specs.Numbers.{refused, done, no_message, facts_out_of_range}
use Rattle.numbers.specs.declared.Answer.{Answer}
use Rattle.store.specs.Store as St
use Rattle.header.specs.Header.{hashes_id}
use Rattle.messages.specs.Take.{take_answer, take_after}
use Rattle.session.specs.Session.{max_message, length_in, piece_in, root_in, opens}

-- ---- records: a kind byte, then a body whose length the kind fixes

pub data Kind : Type 0 where
  opening : Kind
  header : Kind
  hash : Kind
  finish : Kind
  unknown : Kind

unfoldable pub kind_of : ℕ → Kind
kind_of k = cond (eqb k 1) opening (cond (eqb k 2) header (cond (eqb k 3) hash (cond (eqb k 4) finish unknown)))

abbrev pub body_size : Kind → ℕ
body_size opening = 44
body_size header = 48
body_size hash = 32
body_size finish = 0
body_size unknown = 0

-- ---- between two records: nothing is opened yet, a store is open, a message is under way, or the replay has stopped

pub data Turn : Type 0 where
  fresh : (store : List ℕ) → Turn
  ready : (store : List ℕ) → Turn
  inside : (store message : List ℕ) → Turn
  stopped : (store : List ℕ) → Turn

abbrev pub store_of : Turn → List ℕ
store_of (fresh s) = s
store_of (ready s) = s
store_of (inside s m) = s
store_of (stopped s) = s

-- whether a record of that kind may stand there: a message has no more hashes than the replay takes
abbrev pub in_turn : Turn → Kind → Bool
in_turn (fresh s) opening = true
in_turn (fresh s) header = false
in_turn (fresh s) hash = false
in_turn (fresh s) finish = false
in_turn (fresh s) unknown = false
in_turn (ready s) opening = true
in_turn (ready s) header = true
in_turn (ready s) hash = false
in_turn (ready s) finish = false
in_turn (ready s) unknown = false
in_turn (inside s m) opening = false
in_turn (inside s m) header = false
in_turn (inside s m) hash = leb (length m + 32) max_message
in_turn (inside s m) finish = true
in_turn (inside s m) unknown = false
in_turn (stopped s) κ = false

-- ---- what a record prints, and what it leads to

pub record Told : Type 0 where
  pub lines : List Answer
  pub turn : Turn

-- a stop: `1 0` or `10 0`
abbrev pub stops : ℕ → List ℕ → Told
stops number s = record { lines = refused number ∷ []; turn = stopped s }

-- an opening
unfoldable pub opened : List ℕ → List ℕ → Told
opened s o =
    cond (opens o) (record { lines = done 1 ∷ []; turn = ready (St.opened s (length_in o) (piece_in o) (root_in o)) }) (stops facts_out_of_range s)

-- the bytes of a message are gathered from its id on
abbrev pub gathered : Turn → List ℕ
gathered (inside s m) = m
gathered (fresh s) = []
gathered (ready s) = []
gathered (stopped s) = []

-- a whole record in its turn
abbrev pub taken : Turn → Kind → List ℕ → Told
taken t opening body = opened (store_of t) body
taken t header body = record { lines = []; turn = inside (store_of t) (hashes_id ∷ body) }
taken t hash body = record { lines = []; turn = inside (store_of t) (gathered t ++ body) }
taken t finish body =
    record { lines = take_answer (store_of t) (gathered t) ∷ []; turn = ready (take_after (store_of t) (gathered t)) }
taken t unknown body = stops no_message (store_of t)

-- any other is a stop
abbrev pub in_order : Turn → Kind → List ℕ → Told
in_order t κ rest = cond (in_turn t κ && leb (body_size κ) (length rest)) (taken t κ (take (body_size κ) rest)) (stops no_message (store_of t))

-- after a stop nothing more is told
unfoldable pub told : Turn → Kind → List ℕ → Told
told (fresh s) κ rest = in_order (fresh s) κ rest
told (ready s) κ rest = in_order (ready s) κ rest
told (inside s m) κ rest = in_order (inside s m) κ rest
told (stopped s) κ rest = record { lines = []; turn = stopped s }

-- ---- the lines of an input: it may not end inside a message

abbrev pub at_end : Turn → List Answer
at_end (fresh s) = []
at_end (ready s) = []
at_end (inside s m) = refused no_message ∷ []
at_end (stopped s) = []

-- of at most n records more
unfoldable pub lines_from : ℕ → Turn → List ℕ → List Answer
lines_from zero t rest = at_end t
lines_from (suc n) t [] = at_end t
lines_from (suc n) t (k ∷ rest) =
    (told t (kind_of k) rest).lines ++ lines_from n (told t (kind_of k) rest).turn (drop (body_size (kind_of k)) rest)

-- an input has no more records than bytes; the store's bytes are lent
unfoldable pub lines : List ℕ → List ℕ → List Answer
lines lent input = lines_from (length input) (fresh lent) input

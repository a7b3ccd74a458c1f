-- 02, request 9 (BEP 3): the known ids and the sizes of their messages; the frame of a message, and what the writer answers and leaves.
-- Assumes nothing.
use Rattle.std.specs.Prelude.{◌≡◌, List, [], ◌∷◌, ◌++◌, Bool, true, cond, ◌&&◌, ℕ, ◌+◌, ◌<◌, length, eqb, ltb, leb, Option, Some, None, is_some, Result, Ok, Err}
use Rattle.octets.specs.Octets.{pasted, be}
use Rattle.numbers.specs.Numbers.{no_message, no_room, frame_too_long, refused, done}
use Rattle.numbers.specs.declared.Answer.{Answer}
use Rattle.limits.specs.Limits.{longest_frame}
use Rattle.frames.specs.declared.Id.{Id}
use Rattle.frames.specs.declared.Id.TheVariants.{Choke, Unchoke, Interested, NotInterested, Have, Bitfield, Request, Piece, Cancel, Extended, HashRequest, Hashes, HashReject}
use Rattle.frames.specs.declared.UnknownId.{UnknownId}
use Rattle.frames.specs.declared.Sizes.{Sizes}
use Rattle.frames.specs.declared.Sizes.TheVariants.{Exactly, AtLeast}

-- strings of bytes
unfoldable pub Bytes : List ℕ → Type 0
Bytes [] = Unit
Bytes (b ∷ bs) = (b < 256) × Bytes bs

-- ---- the known ids

abbrev pub choke_id : ℕ
choke_id = 0

abbrev pub unchoke_id : ℕ
unchoke_id = 1

abbrev pub interested_id : ℕ
interested_id = 2

abbrev pub not_interested_id : ℕ
not_interested_id = 3

abbrev pub have_id : ℕ
have_id = 4

abbrev pub bitfield_id : ℕ
bitfield_id = 5

abbrev pub request_id : ℕ
request_id = 6

abbrev pub piece_id : ℕ
piece_id = 7

abbrev pub cancel_id : ℕ
cancel_id = 8

abbrev pub extended_id : ℕ
extended_id = 20

abbrev pub hash_request_id : ℕ
hash_request_id = 21

abbrev pub hashes_id : ℕ
hashes_id = 22

abbrev pub hash_reject_id : ℕ
hash_reject_id = 23

-- by its name in the code
abbrev pub number_of : Id → ℕ
number_of Choke = choke_id
number_of Unchoke = unchoke_id
number_of Interested = interested_id
number_of NotInterested = not_interested_id
number_of Have = have_id
number_of Bitfield = bitfield_id
number_of Request = request_id
number_of Piece = piece_id
number_of Cancel = cancel_id
number_of Extended = extended_id
number_of HashRequest = hash_request_id
number_of Hashes = hashes_id
number_of HashReject = hash_reject_id

-- ---- the table: each known id with the sizes of its messages in bytes, the id among them: exactly so many, or at least

pub record Kind : Type 0 where
  pub id : ℕ
  pub sizes : Sizes

abbrev pub exactly : ℕ → ℕ → Kind
exactly i n = record { id = i; sizes = Exactly n }

abbrev pub at_least : ℕ → ℕ → Kind
at_least i n = record { id = i; sizes = AtLeast n }

unfoldable pub table : List Kind
table =
    exactly choke_id 1 ∷ exactly unchoke_id 1 ∷ exactly interested_id 1 ∷ exactly not_interested_id 1 ∷ exactly have_id 5 ∷ at_least bitfield_id 2
    ∷ exactly request_id 13 ∷ at_least piece_id 9 ∷ exactly cancel_id 13 ∷ at_least extended_id 2 ∷ exactly hash_request_id 49 ∷ at_least hashes_id 49
    ∷ exactly hash_reject_id 49 ∷ []

-- an id that does not stand there has no size
unfoldable pub sizes_in : List Kind → ℕ → Option Sizes
sizes_in [] i = None
sizes_in (k ∷ ks) i = cond (eqb i k.id) (Some k.sizes) (sizes_in ks i)

unfoldable pub sizes_of : ℕ → Option Sizes
sizes_of i = sizes_in table i

-- whether n bytes are right for these sizes
unfoldable pub right_for : Sizes → ℕ → Bool
right_for (Exactly m) n = eqb n m
right_for (AtLeast m) n = leb m n

unfoldable pub known : ℕ → Bool
known i = is_some (sizes_of i)

-- of an id without sizes: no message is without its id
abbrev pub right_in : Option Sizes → ℕ → Bool
right_in (Some z) n = right_for z n
right_in None n = eqb n 0

-- whether n bytes are a right size for the id i
unfoldable pub right : ℕ → ℕ → Bool
right i n = right_in (sizes_of i) n

-- a number read as an id: the id's own, or one that is not known
abbrev pub Read : ℕ → Result Id UnknownId → Type 0
Read n (Ok id) = n ≡ number_of id
Read n (Err _) = sizes_of n ≡ None

-- ---- the writer

-- the frame of a message; no bytes make the keep-alive
unfoldable pub frame_of : List ℕ → List ℕ
frame_of m = be 4 (length m) ++ m

-- whether a message may be framed: it has no bytes, or a known id and a right size
unfoldable pub sendable : List ℕ → Bool
sendable [] = true
sendable (i ∷ m) = known i && right i (length (i ∷ m))

-- 30, 1, 11 or 0, for an output of n bytes
unfoldable pub frame_number : List ℕ → ℕ → ℕ
frame_number m n = cond (ltb longest_frame (length m)) frame_too_long (cond (sendable m) (cond (ltb n (4 + length m)) no_room 0) no_message)

unfoldable pub frame_answer : List ℕ → List ℕ → Answer
frame_answer m out = cond (eqb (frame_number m (length out)) 0) (done (4 + length m)) (refused (frame_number m (length out)))

unfoldable pub frame_after : List ℕ → List ℕ → List ℕ
frame_after m out = cond (eqb (frame_number m (length out)) 0) (pasted out 0 (frame_of m)) out

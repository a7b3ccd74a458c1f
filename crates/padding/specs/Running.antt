-- 02, request 1: a message that comes in bursts. The bytes past the last whole block wait in a tail.
-- Stated over any block function f, for SHA-256 and SHA-1 alike.
-- Assumes nothing.
use Rattle.std.specs.Prelude.{List, ◌++◌, ℕ, ◌+◌, ◌-◌, ◌*◌, ◌/◌, length, drop, replicate}
use Rattle.padding.specs.Padding.{padding}
use Rattle.padding.specs.Cutting.{over_blocks}

-- the words after the whole blocks so far, the bytes past those, and the count of all bytes
pub record Running (S : Type 0) : Type 0 where
  pub words : S
  pub tail : List ℕ
  pub total : ℕ

-- the words after the whole blocks of m
unfoldable pub whole_blocks : {S : Type 0} → (S → List ℕ → S) → S → List ℕ → S
whole_blocks f s m = over_blocks f (length m / 64) s m

-- the bytes of m past its whole blocks
unfoldable pub past_blocks : List ℕ → List ℕ
past_blocks m = drop (64 * (length m / 64)) m

-- the bytes t of a tail as an array of 64: zero behind them
unfoldable pub tail_array : List ℕ → List ℕ
tail_array t = t ++ replicate (64 - length t) 0

-- what the string xs leads to, from the start words z
unfoldable pub running_of : {S : Type 0} → (S → List ℕ → S) → S → List ℕ → Running S
running_of f z xs = record { words = whole_blocks f z xs; tail = past_blocks xs; total = length xs }

-- what a burst ys leads to: it goes behind the tail
unfoldable pub running_more : {S : Type 0} → (S → List ℕ → S) → Running S → List ℕ → Running S
running_more f r ys =
    record { words = whole_blocks f r.words (r.tail ++ ys); tail = past_blocks (r.tail ++ ys); total = r.total + length ys }

-- the words at the end: the padding of all bytes goes behind the tail
unfoldable pub running_end : {S : Type 0} → (S → List ℕ → S) → Running S → S
running_end f r = whole_blocks f r.words (r.tail ++ padding r.total)

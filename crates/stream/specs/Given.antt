-- 02, request 9: a state that some bytes give, in some room.
-- Assumes nothing.
use Rattle.std.specs.Prelude.{◌≡◌, List, ℕ, ◌≤◌, length}
use Rattle.frames.specs.Frames.{Bytes}
use Rattle.stream.specs.Reading.{storing, between}
use Rattle.stream.specs.Cuttings.{streamed}
use Rattle.stream.specs.declared.Stream.{Stream}

-- the bytes, from the beginning on, and the size of the room
pub record Given (s : Stream) : Type 0 where
  pub bytes : List ℕ
  pub are : Bytes bytes
  pub size : ℕ
  pub gives : (room : List ℕ) → length room ≡ size → (streamed between room bytes).state ≡ s

-- and what it has stored is not more than a room of n bytes has
pub record GivenIn (s : Stream) (n : ℕ) : Type 0 where
  pub given : Given s
  pub stored : s.mode ≡ storing → s.read ≤ n

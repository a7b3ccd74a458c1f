-- What hosts need: the bytes that kd_piece_hashes gives of a piece, and when a piece was taught to a store.
-- Assumes nothing.
use Rattle.std.specs.Prelude.{◌≡◌, cond, List, ℕ, ◌+◌, ◌*◌, ◌^◌, eqb}
use Rattle.octets.specs.Octets.{cut}
use Rattle.header.specs.Header.{header_size}
use Rattle.messages.specs.Take.{take_after}
use Rattle.pieces.specs.Pieces.{piece_height}
use Rattle.leaves.specs.Leaves.{leaves_answer, leaves_after}
use Rattle.words.specs.History.{Steps}

-- the size of the message: a header and a hash for each leaf under the piece's node; nothing where that is a leaf itself
abbrev pub told_size : List ℕ → ℕ
told_size s = cond (eqb (piece_height s) 0) 0 (header_size + 32 * 2 ^ piece_height s)

-- the bytes of the output that the answer counts
abbrev pub told : List ℕ → ℕ → List ℕ → List ℕ → List ℕ
told s i piece out = cut (leaves_after s i piece out) 0 (leaves_answer s i piece out).count

-- piece i was taught on the way to t: on a store before it some bytes were answered 0, what was given of them was offered to kd_take, and a history
-- went on from there to t
pub record Taught (i : ℕ) (t : List ℕ) : Type 0 where
  pub s : List ℕ
  pub piece : List ℕ
  pub out : List ℕ
  pub right : (leaves_answer s i piece out).number ≡ 0
  pub since : Steps (take_after s (told s i piece out)) t

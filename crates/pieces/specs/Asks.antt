-- What the functions below the entry points ask for.
-- Assumes nothing.
use Rattle.std.specs.Prelude.{List, ℕ, ◌-◌, ◌^◌, ◌≤◌, ◌<◌}
use Rattle.store.specs.Store.{height_of, Facts}
use Rattle.pieces.specs.Pieces.{layer_of_pieces, piece_height}

-- a store of a file that has a piece layer: its root stands above layer p
pub record Layered (s : List ℕ) : Type 0 where
  pub facts : Facts s
  pub above : layer_of_pieces s < height_of s

-- a store, and the node of piece i in its tree
pub record PieceIn (s : List ℕ) (i : ℕ) : Type 0 where
  pub facts : Facts s
  pub layer : piece_height s ≤ height_of s
  pub inside : i < 2 ^ (height_of s - piece_height s)

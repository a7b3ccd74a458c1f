-- How far the schedule of a block m has come in 64 words w. Only private functions' contracts cite it.
-- Assumes nothing.
use Rattle.std.specs.Prelude.{◌≡◌, List, ℕ, ◌+◌, length, take}
use Rattle.rounds.specs.Block.{schedule}

pub record Stage (m : List ℕ) (i : ℕ) (w : List ℕ) : Type 0 where
  pub size : length w ≡ 64
  pub filled : take (16 + i) w ≡ schedule i m

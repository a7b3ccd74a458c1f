-- How far the schedule of a block m has come in 80 words w, and which round is next. Only private functions' contracts cite it.
-- Assumes nothing.
use Rattle.std.specs.Prelude.{◌≡◌, List, ℕ, ◌+◌, length, take}
use Rattle.bits.specs.Words.{Parity}
use Rattle.rounds1.specs.Words.{f, K}
use Rattle.rounds1.specs.Block.{schedule}

pub record Stage (m : List ℕ) (i : ℕ) (w : List ℕ) : Type 0 where
  pub size : length w ≡ 80
  pub filled : take (16 + i) w ≡ schedule i m

-- round i is one of those by the function that gives what P says of it, with the word k
pub record By (P : ℕ → ℕ → ℕ → ℕ → Type 0) (i k : ℕ) : Type 0 where
  pub value : (x y z r : ℕ) → P x y z r → r ≡ f i x y z
  pub word : k ≡ K i

-- round i is one of those by Parity, with the word k
pub record ByParity (i k : ℕ) : Type 0 where
  pub parity : (x y z : ℕ) → f i x y z ≡ Parity x y z
  pub word : K i ≡ k

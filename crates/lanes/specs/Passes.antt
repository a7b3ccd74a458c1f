-- What holds between the steps of a block, in one lane and in all of them. Only contracts within this crate cite it.
-- Assumes nothing.
use Rattle.std.specs.Prelude.{◌≡◌, List, ℕ, ◌<◌, ◌≤◌, length, take}
use Rattle.bits.specs.Parsing.{words}
use Rattle.rounds.specs.Stage.{Stage}
use Rattle.rounds.specs.Sums.{rounds_by}
use Rattle.rounds.specs.declared.State.{State}
use Rattle.lanes.specs.Lanes.{lane, state_of, state_in}

-- w' has the size of w, and in every lane but j what w has
pub record Beside (n j : ℕ) (w w' : List ℕ) : Type 0 where
  pub size : length w' ≡ length w
  pub others : (x : ℕ) → x < 8 → (x ≡ j → ⊥) → lane n w' x ≡ lane n w x

-- how far a pass over the lanes has come, from w₀ to w: each lane below j stands to what it was as F asks, the others are as before
pub record LanesPassed (n : ℕ) (F : ℕ → List ℕ → List ℕ → Type 0) (j : ℕ) (w₀ w : List ℕ) : Type 0 where
  pub size : length w ≡ length w₀
  pub done : (x : ℕ) → x < j → F x (lane n w₀ x) (lane n w x)
  pub left : (x : ℕ) → j ≤ x → x < 8 → lane n w x ≡ lane n w₀ x

-- lane x has the words of block m x
unfoldable pub Loading : (ℕ → List ℕ) → ℕ → List ℕ → List ℕ → Type 0
Loading m x w w' = take 16 w' ≡ words 16 (m x)

-- of any block, the schedule's words from i to k are made
unfoldable pub Growing : ℕ → ℕ → List ℕ → List ℕ → Type 0
Growing i k w w' = (m : List ℕ) → Stage m i w → Stage m k w'

-- from any state, the rounds from i to k by the sums xs are done
unfoldable pub Stepping : List ℕ → ℕ → ℕ → State → State → Type 0
Stepping xs i k s s' = (z : State) → s ≡ rounds_by xs i z → s' ≡ rounds_by xs k z

-- from any state of lane x, the rounds from i to k by its sums, xs x, are done
unfoldable pub Rounding : (ℕ → List ℕ) → ℕ → ℕ → ℕ → List ℕ → List ℕ → Type 0
Rounding xs i k x l l' = Stepping (xs x) i k (state_of l) (state_of l')

-- every lane's block m x has its schedule's first 16 + i words
pub record Grown (m : ℕ → List ℕ) (i : ℕ) (w : List ℕ) : Type 0 where
  pub room : length w ≡ 512
  pub stage : (x : ℕ) → x < 8 → Stage (m x) i (lane 64 w x)

-- every lane has done i rounds by its sums, begun at the states in z
pub record Rounded (xs : ℕ → List ℕ) (z : List ℕ) (i : ℕ) (t : List ℕ) : Type 0 where
  pub size : length t ≡ 64
  pub done : (x : ℕ) → x < 8 → state_in t x ≡ rounds_by (xs x) i (state_in z x)

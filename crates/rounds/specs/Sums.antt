-- The rounds by the sums K_t + W_t: a round takes its two words by their sum alone. SumsLaws shows that these are the standard's rounds.
-- Assumes nothing.
use Rattle.std.specs.Prelude.{List, [], ◌∷◌, ◌++◌, ℕ, zero, suc, ◌+◌, ◌%◌, ◌^◌, get_or}
use Rattle.rounds.specs.declared.State.{State}
use Rattle.rounds.specs.Block.{round}

-- the first n sums of the words of two lists
unfoldable pub sums : ℕ → List ℕ → List ℕ → List ℕ
sums zero ks ws = []
sums (suc n) ks ws = sums n ks ws ++ ((get_or ks n 0 + get_or ws n 0) % 2 ^ 32 ∷ [])

-- the first n rounds, each with its sum of xs
unfoldable pub rounds_by : List ℕ → ℕ → State → State
rounds_by xs zero s = s
rounds_by xs (suc n) s = round (rounds_by xs n s) (get_or xs n 0) 0

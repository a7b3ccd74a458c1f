-- Eight blocks side by side. A list of words in rows of eight: lane j has the word j of each row.
-- Assumes nothing.
use Rattle.std.specs.Prelude.{List, [], ◌∷◌, ◌++◌, ℕ, zero, suc, ◌+◌, ◌*◌, get_or}
use Rattle.rounds.specs.declared.State.{State}

-- lane j of the first n rows
unfoldable pub lane : ℕ → List ℕ → ℕ → List ℕ
lane zero w j = []
lane (suc n) w j = lane n w j ++ (get_or w (n * 8 + j) 0 ∷ [])

-- eight words as a state
unfoldable pub state_of : List ℕ → State
state_of l =
    record { a = get_or l 0 0; b = get_or l 1 0; c = get_or l 2 0; d = get_or l 3 0; e = get_or l 4 0; f = get_or l 5 0; g = get_or l 6 0; h = get_or l 7 0 }

-- the state of lane j, of eight states side by side
unfoldable pub state_in : List ℕ → ℕ → State
state_in t j = state_of (lane 8 t j)

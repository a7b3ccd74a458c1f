-- 26 to 28: what the files of one root, and the layers, have wrong.
-- Assumes nothing.
use Rattle.std.specs.Prelude.{cond, ◌||◌, List, ℕ, Result, Ok, Err, ⊤}
use Rattle.numbers.specs.Refusals.{number_of}
use Rattle.numbers.specs.declared.Refused.{Refused}
use Rattle.numbers.specs.Numbers.{two_lengths, layers_amiss, layer_differs}
use Rattle.writer_meaning.specs.Content.{Item}
use Rattle.writer_meaning.specs.Number.{some, lengths_clash, misfit, gives_other, two_layers}

-- the lowest of them that holds, or 0
abbrev pub root_number : ℕ → List Item → ℕ
root_number plen xs =
    cond (lengths_clash xs) two_lengths
    (cond (some (misfit plen) xs) layers_amiss
    (cond (some (gives_other plen) xs || two_layers xs) layer_differs
    0))

-- the number of a refusal, or else the number given
abbrev pub number_or : Result ⊤ Refused → ℕ → ℕ
number_or (Ok _) n = n
number_or (Err why) n = number_of why

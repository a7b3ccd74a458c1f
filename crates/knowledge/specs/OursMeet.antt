-- A store that only this build has written meets the four clauses.
-- Assumes nothing.
use Rattle.std.specs.Prelude.{List, ℕ}
use Rattle.words.specs.History.{OurStore}
use Rattle.words.specs.FourClauses.{FourClauses}
use Rattle.knowledge.specs.FourClauses.{four_clauses_exactly}
use Rattle.knowledge.specs.OwnBytes.{ours_have}

-- EVERY STORE THAT ONLY THIS BUILD HAS WRITTEN meets the four clauses
pub ours_meet : {s : List ℕ} → OurStore s → FourClauses s
ours_meet {s} w = (four_clauses_exactly s).1 (ours_have w)

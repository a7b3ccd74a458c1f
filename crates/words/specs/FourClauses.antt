-- What a store that only this build has written knows, as kd_held answers.
-- Assumes nothing.
use Rattle.std.specs.Prelude.{List, ℕ}
use Rattle.store.specs.Store.{facts_root, blocks_of, height_of}
use Rattle.saved.specs.Clauses.{Clauses}
use Rattle.words.specs.Held.{Holds}

-- the clauses (crates/saved, file Clauses), of what the store holds: the root is held with the facts' value; beside every other held position
-- its sibling; above two held children their parent, with the hash of the two; and padding with its layer's padding value. 02, request 13, asks
-- the same of what saved bytes name: it is one definition.
abbrev pub FourClauses : List ℕ → Type 0
FourClauses s = Clauses (height_of s) (blocks_of s) (facts_root s) (Holds s)

-- FIPS 180-4, sections 5.2.1 and 6: a message is cut into blocks of 64 bytes, and each is taken in turn.
-- Stated over any block function f, for SHA-256, SHA-1 and their running forms alike.
-- Assumes nothing.
use Rattle.std.specs.Prelude.{List, ℕ, zero, suc, ◌*◌, ◌/◌, length, take, drop}
use Rattle.padding.specs.Padding.{padded}

-- the first n blocks of m, taken by f one after the other from the state s on
unfoldable pub over_blocks : {S : Type 0} → (S → List ℕ → S) → ℕ → S → List ℕ → S
over_blocks f zero s m = s
over_blocks f (suc n) s m = f (over_blocks f n s m) (take 64 (drop (64 * n) m))

-- all blocks of the padded message
unfoldable pub over_message : {S : Type 0} → (S → List ℕ → S) → S → List ℕ → S
over_message f s m = over_blocks f (length (padded m) / 64) s (padded m)

-- FIPS 180-4, sections 5.3.3 and 6.2: SHA-256 over strings of bytes.
-- Assumes nothing.
use Rattle.std.specs.Prelude.{List, ◌++◌, ℕ, get_or}
use Rattle.octets.specs.Octets.{be}
use Rattle.constants.specs.Constants.{K, H}
use Rattle.padding.specs.Cutting.{over_message}
use Rattle.rounds.specs.Block.{compress}
use Rattle.rounds.specs.declared.State.{State}

-- the start words
unfoldable pub start : State
start =
    record { a = get_or H 0 0; b = get_or H 1 0; c = get_or H 2 0; d = get_or H 3 0; e = get_or H 4 0; f = get_or H 5 0; g = get_or H 6 0; h = get_or H 7 0 }

unfoldable pub digest : State → List ℕ
digest s = be 4 s.a ++ (be 4 s.b ++ (be 4 s.c ++ (be 4 s.d ++ (be 4 s.e ++ (be 4 s.f ++ (be 4 s.g ++ be 4 s.h))))))

unfoldable pub sha256 : List ℕ → List ℕ
sha256 m = digest (over_message (compress K) start m)

-- the hash of two hashes, left then right
unfoldable pub pair_hash : List ℕ → List ℕ → List ℕ
pair_hash l r = sha256 (l ++ r)

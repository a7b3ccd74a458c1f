-- The replay's limits are numbers of its own, whatever those of the store are: 512 blocks, and 528 hashes.
-- Assumes nothing.
use Rattle.std.specs.Prelude.{◌≡◌, refl, List, ℕ, ◌+◌, ◌*◌, ◌<◌, length}
use Rattle.std.proofs.Common.{arith}
use Rattle.std.proofs.lemmas.Bool.{lt-leb}
use Rattle.numbers.specs.Numbers.{no_message, facts_out_of_range}
use Rattle.tree.specs.Geometry.{block_count}
use Rattle.session.specs.Session.{max_blocks, max_message, length_in}
use Rattle.session.specs.Lines.{inside, hash, stops, told, opened}

-- a message of 528 hashes takes no other: the next hash record stops the replay with `1 0`, whatever length the header has
pub hash_529_stops : (s m rest : List ℕ) → length m ≡ 49 + 32 * 528 → told (inside s m) hash rest ≡ stops no_message s
unfolding told
hash_529_stops s m rest e = rw (lt-leb (length m + 32) max_message (omega (arith, e))) refl

-- a file of more than 512 blocks is not opened: `10 0`, though the store may be
pub block_513_stops : (s o : List ℕ) → 512 < block_count (length_in o) → opened s o ≡ stops facts_out_of_range s
unfolding opened
block_513_stops s o l = rw (lt-leb (block_count (length_in o)) max_blocks (omega (arith, l))) refl

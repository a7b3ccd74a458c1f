-- The lent store has room for every file that the replay takes, so that an opening of such a file is refused for its facts alone, with 10.
-- Assumes nothing.
use Rattle.std.specs.Prelude.{◌≡◌, refl, cond, List, ℕ, ◌*◌, ◌≤◌, length}
use Rattle.std.proofs.Common.{arith, le-leb}
use Rattle.numbers.specs.Numbers.{refused, done, facts_out_of_range}
use Rattle.tree.specs.Geometry.{block_length, block_count, ceil_div, height, height_from}
use Rattle.store.specs.Store.{facts_in_range, store_size, positions, open_answer}
use Rattle.store.specs.StoreLaws.{store_size_grows}
use Rattle.session.specs.Session.{max_blocks, max_store}

-- the store's bytes, counted
pub max_store_lem : max_store ≡ 34335
unfolding store_size positions height height_from block_count ceil_div
max_store_lem = refl

most_blocks : block_count (block_length * max_blocks) ≡ max_blocks
unfolding block_count ceil_div
most_blocks = refl

-- no file that the replay takes needs more
pub store_room : (n : ℕ) → block_count n ≤ max_blocks → store_size n ≤ max_store
store_room n b = store_size_grows n (block_length * max_blocks) (omega (arith, most_blocks))

pub open_with_room : (s : List ℕ) (n plen : ℕ) → max_store ≤ length s → block_count n ≤ max_blocks
    → open_answer s n plen ≡ cond (facts_in_range n plen) (done 1) (refused facts_out_of_range)
unfolding open_answer
open_with_room s n plen l b = rw (le-leb (store_size n) (length s) (omega (arith, store_room n b))) refl

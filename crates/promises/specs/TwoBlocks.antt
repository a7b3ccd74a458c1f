-- A store for a file of two blocks, just opened: its facts, and what it holds.
-- Assumes nothing.
use Rattle.std.specs.Prelude.{◌≡◌, refl, true, List, ℕ, ◌≤◌, ◌<◌, length, eqb}
use Rattle.std.proofs.Common.{◌∙◌, le-leb}
use Rattle.tree.specs.Geometry.{ceil_div, block_count, height_from, height, piece_layer, is_piece_length}
use Rattle.cells.specs.Cells.{held_at, hash_at}
use Rattle.store.specs.Store.{usable, file_length, piece_length, facts_root, blocks_of, height_of, positions, facts_in_range, store_size, Facts, open_answer, open_after, opened}
use Rattle.store.specs.StoreLaws.{opened_file, opened_piece, opened_facts_root, opened_blocks, opened_height, opened_facts, opened_usable, opened_held, opened_hash}

pub range : facts_in_range 32768 16384 ≡ true
unfolding facts_in_range is_piece_length piece_layer height height_from
range = refl

pub one_high : height (block_count 32768) ≡ 1
unfolding height height_from block_count ceil_div
one_high = refl

-- the opening is answered 0,
pub opens : (buffer : List ℕ) → store_size 32768 ≤ length buffer → (open_answer buffer 32768 16384).number ≡ 0
unfolding open_answer
opens buffer fits = rw (range, le-leb (store_size 32768) (length buffer) fits)

-- and leaves an opened store
pub open_is : (buffer root : List ℕ) → store_size 32768 ≤ length buffer → open_after buffer 32768 16384 root ≡ opened buffer 32768 16384 root
unfolding open_after
open_is buffer root fits = rw (range, le-leb (store_size 32768) (length buffer) fits)

module _ (buffer root : List ℕ) (fits : store_size 32768 ≤ length buffer) (size : length root ≡ 32) where
  pub high : height_of (opened buffer 32768 16384 root) ≡ 1
  high = opened_height buffer 32768 16384 root range fits size ∙ one_high

  pub blocks : blocks_of (opened buffer 32768 16384 root) ≡ 2
  unfolding block_count ceil_div
  blocks = opened_blocks buffer 32768 16384 root range fits size

  pub store : usable (opened buffer 32768 16384 root) ≡ true
  store = opened_usable buffer 32768 16384 root range fits size

  pub facts : Facts (opened buffer 32768 16384 root)
  facts = opened_facts buffer 32768 16384 root range fits size

  pub file : file_length (opened buffer 32768 16384 root) ≡ 32768
  file = opened_file buffer 32768 16384 root range fits size

  pub piece : piece_length (opened buffer 32768 16384 root) ≡ 16384
  piece = opened_piece buffer 32768 16384 root range fits size

  pub root_is : facts_root (opened buffer 32768 16384 root) ≡ root
  root_is = opened_facts_root buffer 32768 16384 root range fits size

  -- the root alone is held, with this hash
  pub held : (q : ℕ) → 1 ≤ q → q < 4 → held_at (opened buffer 32768 16384 root) q ≡ eqb q 1
  unfolding positions
  held q x y = opened_held buffer 32768 16384 root range fits size q x (rw one_high y)

  pub hash : hash_at (opened buffer 32768 16384 root) 1 ≡ root
  hash = opened_hash buffer 32768 16384 root range fits size

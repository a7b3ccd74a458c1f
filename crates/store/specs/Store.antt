-- 01, "The store", and docs/LAYOUT.md: the facts, whether a buffer is a store, its size, opening one, asking for a held hash.
-- Assumes nothing.
use Rattle.std.specs.Prelude.{List, Result, Ok, Err, ◌++◌, Bool, true, cond, ◌&&◌, ◌≡◌, ℕ, ◌+◌, ◌-◌, ◌*◌, ◌^◌, ◌≤◌, length, leb, ltb}
use Rattle.octets.specs.Octets.{cut, pasted, be, number_at, zeroed, zero_hash}
use Rattle.numbers.specs.Numbers.{refused, done, rule_broken, no_anchor, unusable, facts_out_of_range}
use Rattle.numbers.specs.declared.Answer.{Answer}
use Rattle.numbers.specs.declared.Refused.{Refused}
use Rattle.numbers.specs.Refusals.{number_of}
use Rattle.sha256.specs.declared.Hashed.{Hashed}
use Rattle.tree.specs.Geometry.{block_count, height, node_number, is_piece_length}
use Rattle.cells.specs.Cells.{Room, held_at, hash_at, put}
use Rattle.limits.specs.Limits.{longest_file}

-- the facts, in the first 64 bytes: the file's length N, the piece length, the pieces root; 20 bytes are spare
unfoldable pub file_length : List ℕ → ℕ
file_length s = number_at s 0 8

unfoldable pub piece_length : List ℕ → ℕ
piece_length s = number_at s 8 4

unfoldable pub facts_root : List ℕ → List ℕ
facts_root s = cut s 12 32

-- B and h of the file
unfoldable pub blocks_of : List ℕ → ℕ
blocks_of s = block_count (file_length s)

unfoldable pub height_of : List ℕ → ℕ
height_of s = height (blocks_of s)

-- a tree of height h has 2·2^h - 1 positions; their numbers go from 1 to that, so they are below this
unfoldable pub positions : ℕ → ℕ
positions h = 2 * 2 ^ h

unfoldable pub facts_in_range : ℕ → ℕ → Bool
facts_in_range n plen = leb 1 n && leb n longest_file && is_piece_length plen

-- the bytes that a store for a file of n bytes uses: the facts, a cell for each position, a mark for each leaf
unfoldable pub store_size : ℕ → ℕ
store_size n = 33 * (positions (height (block_count n)) - 1) + 64 + 2 ^ height (block_count n)

-- a buffer names such facts and has that room; nothing else makes it unusable
unfoldable pub usable : List ℕ → Bool
usable s = leb 64 (length s) && facts_in_range (file_length s) (piece_length s) && leb (store_size (file_length s)) (length s)

-- what a usable store is sure of: facts in range, the store's size, and in it a cell for every position
pub record Facts (s : List ℕ) : Type 0 where
  pub long : 64 ≤ length s
  pub some : 1 ≤ file_length s
  pub most : file_length s ≤ longest_file
  pub piece : is_piece_length (piece_length s) ≡ true
  pub size : store_size (file_length s) ≤ length s
  pub room : Room (positions (height_of s)) s

-- the bytes that hold the facts
abbrev pub fact_bytes : List ℕ → List ℕ
fact_bytes s = cut s 0 64

-- t names the facts that s names
pub record SameFacts (s t : List ℕ) : Type 0 where
  pub file : file_length t ≡ file_length s
  pub piece : piece_length t ≡ piece_length s
  pub root : facts_root t ≡ facts_root s
  pub blocks : blocks_of t ≡ blocks_of s
  pub layers : height_of t ≡ height_of s

-- ---- the size that a host has to lend

unfoldable pub size_answer : ℕ → ℕ → Answer
size_answer n plen = cond (facts_in_range n plen) (done (store_size n)) (refused facts_out_of_range)

-- ---- opening

-- every one of the store's bytes is set, zero where nothing is known; the root alone is held
unfoldable pub opened : List ℕ → ℕ → ℕ → List ℕ → List ℕ
opened s n plen root = put (pasted (zeroed s (store_size n)) 0 (be 8 n ++ (be 4 plen ++ root))) 1 root

unfoldable pub open_answer : List ℕ → ℕ → ℕ → Answer
open_answer s n plen = cond (facts_in_range n plen) (cond (leb (store_size n) (length s)) (done 1) (refused unusable)) (refused facts_out_of_range)

unfoldable pub open_after : List ℕ → ℕ → ℕ → List ℕ → List ℕ
open_after s n plen root = cond (facts_in_range n plen && leb (store_size n) (length s)) (opened s n plen root) s

-- ---- a held hash, by layer and index

-- the tree has that position
unfoldable pub in_tree : ℕ → ℕ → ℕ → Bool
in_tree h l i = leb l h && ltb i (2 ^ (h - l))

abbrev pub no_hash : ℕ → Hashed
no_hash n = record { number = n; hash = zero_hash }

unfoldable pub held_answer : List ℕ → ℕ → ℕ → Hashed
held_answer s l i =
    cond (usable s)
    (cond (in_tree (height_of s) l i)
    (cond (held_at s (node_number (height_of s) l i)) (record { number = 0; hash = hash_at s (node_number (height_of s) l i) }) (no_hash no_anchor))
    (no_hash rule_broken))
    (no_hash unusable)

-- what a search gives, as C gets it
abbrev pub hashed_of : Result (List ℕ) Refused → Hashed
hashed_of (Ok h) = record { number = 0; hash = h }
hashed_of (Err why) = no_hash (number_of why)

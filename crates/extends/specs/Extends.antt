-- 00: "can a battery get younger between two messages?" Whether a file begins with an earlier one: by the hashes of the file that a store
-- holds, the earlier file's length n and pieces root, and the file's block over the earlier end, if that lies inside a block. A position of a
-- tree covers the same blocks in both trees; so the earlier tree is worked out of the hashes that the store holds over whole blocks of it, as
-- a transparency log's consistency proof does (RFC 6962), but on BEP 52's tree.
-- Assumes nothing.
use Rattle.std.specs.Prelude.{List, Bool, cond, ◌&&◌, ◌||◌, ℕ, zero, suc, ◌+◌, ◌*◌, ◌/◌, ◌%◌, ◌^◌, length, eqb, leb, ltb}
use Rattle.octets.specs.Octets.{cut, same}
use Rattle.numbers.specs.Numbers.{refused, done, rule_broken, wrong_size, no_anchor, differs, unusable}
use Rattle.numbers.specs.declared.Answer.{Answer}
use Rattle.sha256.specs.Sha256.{sha256, pair_hash}
use Rattle.sha256.specs.declared.Hashed.{Hashed}
use Rattle.tree.specs.Geometry.{block_length, block_count, height, covering, block_size}
use Rattle.tree.specs.Values.{pad_value}
use Rattle.store.specs.Store.{usable, file_length, held_answer}

-- ---- the earlier tree

-- the whole blocks of a file of n bytes, and the bytes after them
abbrev pub whole_blocks : ℕ → ℕ
whole_blocks n = n / block_length

abbrev pub rest_size : ℕ → ℕ
rest_size n = n % block_length

abbrev pub known : List ℕ → Hashed
known h = record { number = 0; hash = h }

-- the hash of two, or the number of the first that there isn't
unfoldable pub both : Hashed → Hashed → Hashed
both x y = cond (eqb x.number 0) (cond (eqb y.number 0) (known (pair_hash x.hash y.hash)) y) x

-- position i of layer l in the earlier tree: what kd_held gives of the store where it covers whole blocks alone, which the first w / 2^l
-- positions do; the padding value where it covers no block; any other value comes from below
unfoldable pub placed : List ℕ → ℕ → ℕ → ℕ → Hashed → Hashed
placed s n l i below = cond (ltb i (whole_blocks n / 2 ^ l)) (held_answer s l i) (cond (leb (covering (block_count n) l) i) (known (pad_value l)) below)

-- from below: the hash of the earlier file's last block, if that is shorter, or of the two children
unfoldable pub earlier : List ℕ → ℕ → List ℕ → ℕ → ℕ → Hashed
earlier s n last zero i = placed s n 0 i (known last)
earlier s n last (suc l) i = placed s n (suc l) i (both (earlier s n last l (2 * i)) (earlier s n last l (2 * i + 1)))

-- its root
unfoldable pub earlier_root : List ℕ → ℕ → List ℕ → Hashed
earlier_root s n last = earlier s n last (height (block_count n)) 0

-- ---- the block over the earlier end

-- its size: that of block w of a file of N bytes, or none where the earlier file ends with a block
abbrev pub over_size : ℕ → ℕ → ℕ
over_size N n = cond (eqb (rest_size n) 0) 0 (block_size N (whole_blocks n))

-- its first bytes are the earlier file's last ones
abbrev pub last_hash : ℕ → List ℕ → List ℕ
last_hash n block = sha256 (cut block 0 (rest_size n))

-- leaf w, against which it is held
unfoldable pub leaf_held : List ℕ → ℕ → Bool
leaf_held s n = eqb (rest_size n) 0 || eqb (held_answer s 0 (whole_blocks n)).number 0

unfoldable pub block_held : List ℕ → ℕ → List ℕ → Bool
block_held s n block = eqb (rest_size n) 0 || same (held_answer s 0 (whole_blocks n)).hash (sha256 block)

-- ---- the answer

-- 6 where leaf w or a hash over whole blocks is missing; 7 where the block isn't the one held, or the root is another
unfoldable pub extends_number : List ℕ → ℕ → List ℕ → List ℕ → ℕ
extends_number s n root block =
    cond (usable s)
    (cond (ltb 0 n && leb n (file_length s))
    (cond (eqb (length block) (over_size (file_length s) n))
    (cond (leaf_held s n && eqb (earlier_root s n (last_hash n block)).number 0)
    (cond (block_held s n block && same (earlier_root s n (last_hash n block)).hash root)
    0
    differs)
    no_anchor)
    wrong_size)
    rule_broken)
    unusable

-- the count is the earlier file's length; nothing is written
unfoldable pub extends_answer : List ℕ → ℕ → List ℕ → List ℕ → Answer
extends_answer s n root block = cond (eqb (extends_number s n root block) 0) (done n) (refused (extends_number s n root block))

-- What the pass over the families works out ahead: the padding values, and the hashes of the records, two by two, eight pairs at a time.
-- Assumes nothing.
use Rattle.std.specs.Prelude.{List, ◌≡◌, ℕ, ◌+◌, ◌-◌, ◌*◌, ◌%◌, ◌≤◌, ◌<◌, length}
use Rattle.octets.specs.Octets.{cut}
use Rattle.sha256.specs.Sha256.{pair_hash}
use Rattle.lanes.specs.Hashes.{Filled}
use Rattle.tree.specs.Values.{pad_value}
use Rattle.saved.specs.Form.{hash_in}

-- the padding values of the layers up to h, in a room for those of the tallest tree: 21 hashes
abbrev pub Padded : ℕ → List ℕ → Type 0
Padded h pads = Filled pad_value 672 (h + 1) pads

-- the hash of pair n: records 2 n and 2 n + 1
unfoldable pub pair_in : List ℕ → ℕ → List ℕ
pair_in b n = pair_hash (hash_in b (2 * n)) (hash_in b (2 * n + 1))

-- a room that has the hashes of the eight pairs which pair n is one of, if the first p records have all of them
pub record Ready (b : List ℕ) (p n : ℕ) (room : List ℕ) : Type 0 where
  pub size : length room ≡ 256
  pub hashes : 2 * (n - n % 8) + 16 ≤ p → (x : ℕ) → x < 8 → cut room (32 * x) 32 ≡ pair_in b (n - n % 8 + x)

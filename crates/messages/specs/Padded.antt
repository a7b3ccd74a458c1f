-- 01, number 5: a given hash at a padding position has that layer's padding value.
-- Assumes nothing.
use Rattle.std.specs.Prelude.{List, Bool, true, cond, ◌&&◌, ℕ, zero, suc, ◌+◌, ◌-◌, ◌*◌, ◌/◌, leb}
use Rattle.octets.specs.Octets.{cut, same}
use Rattle.tree.specs.Geometry.{covering}
use Rattle.tree.specs.Values.{pad_value}
use Rattle.settling.specs.Path.{sibling, uncle}

-- the hashes from number `from` on, of the first n of a string, are all v
unfoldable pub all_from : List ℕ → List ℕ → ℕ → ℕ → Bool
all_from run v from zero = true
all_from run v from (suc n) = all_from run v from n && cond (leb from n) (same (cut run (32 * n) 32) v) true

-- the base run: positions from `index` on of layer `base`, of a file of b blocks
unfoldable pub run_padded : List ℕ → ℕ → ℕ → ℕ → ℕ → Bool
run_padded run b base index len = all_from run (pad_value base) (covering b base - index) len

-- uncle number i stands beside the path's position, which is x in layer l
unfoldable pub uncle_padded : List ℕ → ℕ → ℕ → ℕ → ℕ → Bool
uncle_padded hashes b i l x = cond (leb (covering b l) (sibling x)) (same (uncle hashes i) (pad_value l)) true

-- the uncles from number i on, u of them
unfoldable pub uncles_padded : List ℕ → ℕ → ℕ → ℕ → ℕ → ℕ → Bool
uncles_padded hashes b i zero l x = true
uncles_padded hashes b i (suc u) l x = uncle_padded hashes b i l x && uncles_padded hashes b (i + 1) u (suc l) (x / 2)

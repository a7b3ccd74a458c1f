-- 01, "The hash messages": the way from the top of a run to the anchor. At each layer the next uncle stands beside the path's
-- position, and their parent is worked out.
-- Assumes nothing.
use Rattle.std.specs.Prelude.{List, [], ◌++◌, cond, ℕ, zero, suc, ◌+◌, ◌-◌, ◌*◌, ◌/◌, ◌%◌, eqb}
use Rattle.octets.specs.Octets.{cut}
use Rattle.sha256.specs.Sha256.{pair_hash}
use Rattle.cells.specs.Entries.{Entry, one}

-- the position beside n, under the same parent
unfoldable pub sibling : ℕ → ℕ
sibling n = cond (eqb (n % 2) 0) (n + 1) (n - 1)

-- the parent's value, of v at n and w beside it: left child then right child
unfoldable pub parent_value : ℕ → List ℕ → List ℕ → List ℕ
parent_value n v w = cond (eqb (n % 2) 0) (pair_hash v w) (pair_hash w v)

-- uncle number i of a string of hashes
unfoldable pub uncle : List ℕ → ℕ → List ℕ
uncle hashes i = cut hashes (32 * i) 32

-- the position u layers above n
unfoldable pub ancestor : ℕ → ℕ → ℕ
ancestor zero n = n
ancestor (suc u) n = ancestor u (n / 2)

-- the value worked out u layers above n, whose value is v, by the uncles from number i on
unfoldable pub risen : List ℕ → ℕ → ℕ → ℕ → List ℕ → List ℕ
risen hashes i zero n v = v
risen hashes i (suc u) n v = risen hashes (i + 1) u (n / 2) (parent_value n v (uncle hashes i))

-- what that settles: uncles and parents
unfoldable pub path : List ℕ → ℕ → ℕ → ℕ → List ℕ → List Entry
path hashes i zero n v = []
path hashes i (suc u) n v =
    one (sibling n) (uncle hashes i) ++ one (n / 2) (parent_value n v (uncle hashes i)) ++ path hashes (i + 1) u (n / 2) (parent_value n v (uncle hashes i))

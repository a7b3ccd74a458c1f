-- 01, "SHA-256" and the table: the hash of any string, or 4 for one that the standard has no hash for.
-- Assumes nothing.
use Rattle.std.specs.Prelude.{List, cond, ℕ, suc, length, ltb}
use Rattle.octets.specs.Octets.{zero_hash}
use Rattle.numbers.specs.Numbers.{wrong_size}
use Rattle.limits.specs.Limits.{longest_hashed}
use Rattle.sha256.specs.Sha256.{sha256}
use Rattle.sha256.specs.declared.Hashed.{Hashed}

-- a string above the longest that has a hash, 2^61 - 1 bytes, is answered 4, with a zero hash
unfoldable pub hashed_of : List ℕ → Hashed
hashed_of m = cond (ltb (length m) (suc longest_hashed)) (record { number = 0; hash = sha256 m }) (record { number = wrong_size; hash = zero_hash })

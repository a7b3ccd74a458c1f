-- 02, request 12: SHA-1 of any string, or 4 for one that the standard has no hash for.
-- Assumes nothing.
use Rattle.std.specs.Prelude.{List, cond, ℕ, suc, length, replicate, ltb}
use Rattle.numbers.specs.Numbers.{wrong_size}
use Rattle.limits.specs.Limits.{longest_hashed}
use Rattle.sha_1.specs.Sha1.{sha1}
use Rattle.sha_1.specs.declared.Sha1Answer.{Sha1Answer}

-- 20 zero bytes
unfoldable pub zero_sha1 : List ℕ
zero_sha1 = replicate 20 0

-- a string above the longest that has a hash, 2^61 - 1 bytes, is answered 4, with a zero hash
unfoldable pub sha1_of : List ℕ → Sha1Answer
sha1_of m = cond (ltb (length m) (suc longest_hashed)) (record { number = 0; hash = sha1 m }) (record { number = wrong_size; hash = zero_sha1 })

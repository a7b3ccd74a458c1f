-- FIPS 180-4, section 5.1.1, in bytes: the padding that SHA-1 and SHA-256 share.
-- Assumes nothing.
use Rattle.std.specs.Prelude.{List, ◌∷◌, ◌++◌, ℕ, ◌-◌, ◌*◌, ◌%◌, length, replicate}
use Rattle.octets.specs.Octets.{be}

-- the number of zero bytes after the byte 0x80: the least that brings the length to 56 modulo 64
unfoldable pub zeros : ℕ → ℕ
zeros n = (119 - n % 64) % 64

-- what follows a message of n bytes: a one bit, zeros, and the count of bits as 64 bits
-- (a message longer than 2^61 - 1 bytes has no hash in the standard; here its count is taken modulo 2^64)
unfoldable pub padding : ℕ → List ℕ
padding n = 0x80 ∷ (replicate (zeros n) 0 ++ be 8 (8 * n))

unfoldable pub padded : List ℕ → List ℕ
padded m = m ++ padding (length m)

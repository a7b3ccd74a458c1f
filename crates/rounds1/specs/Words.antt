-- FIPS 180-4, sections 4.1.1 and 4.2.1: SHA-1's functions and round words.
-- Assumes nothing.
use Rattle.std.specs.Prelude.{cond, ℕ, ltb}
use Rattle.bits.specs.Words.{Ch, Parity, Maj}

-- f_t: Ch from 0 to 19, Parity to 39, Maj to 59, Parity to 79
unfoldable pub f : ℕ → ℕ → ℕ → ℕ → ℕ
f t x y z = cond (ltb t 20) (Ch x y z) (cond (ltb t 40) (Parity x y z) (cond (ltb t 60) (Maj x y z) (Parity x y z)))

-- K_t
unfoldable pub K : ℕ → ℕ
K t = cond (ltb t 20) 0x5a82_7999 (cond (ltb t 40) 0x6ed9_eba1 (cond (ltb t 60) 0x8f1b_bcdc 0xca62_c1d6))

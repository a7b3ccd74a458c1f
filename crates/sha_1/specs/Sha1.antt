-- FIPS 180-4, sections 5.3.1 and 6.1: SHA-1 over strings of bytes. Padding and cutting are SHA-256's.
-- Assumes nothing.
use Rattle.std.specs.Prelude.{List, ◌++◌, ℕ}
use Rattle.octets.specs.Octets.{be}
use Rattle.padding.specs.Cutting.{over_message}
use Rattle.rounds1.specs.Block.{compress}
use Rattle.rounds1.specs.declared.Five.{Five}

-- the start words
unfoldable pub start : Five
start = record { a = 0x6745_2301; b = 0xefcd_ab89; c = 0x98ba_dcfe; d = 0x1032_5476; e = 0xc3d2_e1f0 }

unfoldable pub digest : Five → List ℕ
digest s = be 4 s.a ++ (be 4 s.b ++ (be 4 s.c ++ (be 4 s.d ++ be 4 s.e)))

unfoldable pub sha1 : List ℕ → List ℕ
sha1 m = digest (over_message compress start m)

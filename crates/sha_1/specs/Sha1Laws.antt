-- A SHA-1 is a string of 20 bytes.
-- Assumes nothing.
use Rattle.std.specs.Prelude.{List, ℕ}
use Rattle.octets.specs.Octets.{Octets}
use Rattle.octets.specs.OctetsLaws.{append_octets, be_octets}
use Rattle.padding.specs.Cutting.{over_message}
use Rattle.rounds1.specs.Block.{compress}
use Rattle.rounds1.specs.declared.Five.{Five}
use Rattle.sha_1.specs.Sha1.{start, digest, sha1}

digest_octets : (s : Five) → Octets 20 (digest s)
unfolding digest
digest_octets s =
    append_octets (be_octets 4 s.a)
    (append_octets (be_octets 4 s.b) (append_octets (be_octets 4 s.c) (append_octets (be_octets 4 s.d) (be_octets 4 s.e))))

pub sha1_octets : (m : List ℕ) → Octets 20 (sha1 m)
unfolding sha1
sha1_octets m = digest_octets (over_message compress start m)

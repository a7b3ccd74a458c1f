-- A hash is a string of 32 bytes.
-- Assumes nothing.
use Rattle.std.specs.Prelude.{List, ◌++◌, ℕ}
use Rattle.octets.specs.Octets.{Octets}
use Rattle.octets.specs.OctetsLaws.{append_octets, be_octets}
use Rattle.constants.specs.Constants.{K}
use Rattle.padding.specs.Cutting.{over_message}
use Rattle.rounds.specs.Block.{compress}
use Rattle.rounds.specs.declared.State.{State}
use Rattle.sha256.specs.Sha256.{start, digest, sha256, pair_hash}

digest_octets : (s : State) → Octets 32 (digest s)
unfolding digest
digest_octets s =
    append_octets (be_octets 4 s.a)
    (append_octets (be_octets 4 s.b)
    (append_octets (be_octets 4 s.c)
    (append_octets (be_octets 4 s.d)
    (append_octets (be_octets 4 s.e) (append_octets (be_octets 4 s.f) (append_octets (be_octets 4 s.g) (be_octets 4 s.h)))))))

pub sha256_octets : (m : List ℕ) → Octets 32 (sha256 m)
unfolding sha256
sha256_octets m = digest_octets (over_message (compress K) start m)

pub pair_octets : (l r : List ℕ) → Octets 32 (pair_hash l r)
unfolding pair_hash
pair_octets l r = sha256_octets (l ++ r)

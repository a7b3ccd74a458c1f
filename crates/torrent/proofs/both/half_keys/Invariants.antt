use Rattle.std.proofs.Common.{◌-◌}
use Rattle.torrent.specs.KeysLaws.{Sought}
use Rattle.halves.specs.V1Keys.{key_files, key_name, key_pieces}
use Rattle.meaning.specs.Keys.{key_length}
use lib.ListN as L
use Rattle.torrent.proofs.both.half_keys.Given as goal

abbrev pub invariant-loop-start : goal.invariant-loop-start
invariant-loop-start l = (Sought key_files l.bytes l.at l.files) × (Sought key_length l.bytes l.at l.length) × (Sought key_name l.bytes l.at l.name) × (Sought key_pieces l.bytes l.at l.pieces)

abbrev pub decreases-loop-start : goal.decreases-loop-start
decreases-loop-start l = L.length l.bytes - l.at

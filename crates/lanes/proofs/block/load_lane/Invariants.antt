use Rattle.std.proofs.Common.{take, ◌≡◌}
use Rattle.octets.specs.Octets.{cut}
use Rattle.bits.specs.Parsing.{words}
use Rattle.lanes.specs.Lanes.{lane}
use Rattle.lanes.specs.Passes.{Beside}
use Rattle.lanes.proofs.block.load_lane.Given as goal

abbrev pub invariant-loop-i : goal.invariant-loop-i
invariant-loop-i l = (take l.i (lane 64 l.w l.j) ≡ words l.i (cut l.bytes l.at 64)) × Beside 64 l.j l.initial.w l.w

use Rattle.std.proofs.Common.{length, take, drop, ◌≡◌}
use Rattle.bits.specs.Parsing.{words}
use Rattle.rounds.proofs.load.Given as goal

abbrev pub invariant-loop-i : goal.invariant-loop-i
invariant-loop-i l = (length l.w ≡ 64) × (take l.i l.w ≡ words l.i (take 64 (drop l.at l.bytes)))

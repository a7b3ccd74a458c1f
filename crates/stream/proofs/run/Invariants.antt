use Rattle.std.proofs.Common.{◌-◌, ◌≤◌, length, drop, ◌≡◌}
use Rattle.stream.specs.Reading.{further, hears}
use Rattle.stream.specs.Standing.{Going}
use Rattle.stream.proofs.run.Given as goal

-- What all bytes say from the start is what was used so far, in silence, and what the rest says from the state and room now.
abbrev pub invariant-loop-at : goal.invariant-loop-at
invariant-loop-at l = (l.at ≤ length l.bytes) × Going l.t (length l.room) × (length l.room ≡ length l.initial.room) × (hears l.initial.t l.initial.room l.bytes ≡ further l.at (hears l.t l.room (drop l.at l.bytes)))

abbrev pub decreases-loop-at : goal.decreases-loop-at
decreases-loop-at l = length l.bytes - l.at

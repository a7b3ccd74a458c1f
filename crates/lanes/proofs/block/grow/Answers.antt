-- What is read and stored are words of the lane, so the sum is the schedule's next.
-- Assumes nothing.
use Rattle.std.proofs.Common.{◌+◌, ◌≡◌}
use Rattle.rounds.specs.Block.{next}
use Rattle.lanes.specs.Lanes.{lane}
use Rattle.lanes.specs.LanesLaws.{next_in_lane, grown_lane, beside_set}
use Rattle.lanes.proofs.block.grow.Goals as goal

pub returns : goal.returns
returns c = let a = c.args in
    let p = c.requires in
    let v = c.add-3.result in
    let e : v ≡ next (lane 64 a.w.now a.j) (a.i + 16) = cc (next_in_lane a.w.now a.i a.j p.0) in
    (grown_lane a.w.now a.i a.j v p.0 p.2 p.1 e, beside_set 64 a.w.now (a.i + 16) a.j v p.1)

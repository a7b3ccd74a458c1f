-- The loop's invariant: in every lane the schedule has its first 16 + i words.
-- Assumes nothing.
use Rattle.std.proofs.Common.{arith, ℕ, ◌+◌, ◌*◌, ◌≡◌}
use Rattle.octets.specs.Octets.{cut}
use Rattle.lanes.specs.LanesLaws.{grown_first, grown_on, grown_last}
use Rattle.lanes.proofs.block.fill.Goals as goal

pub load-requires : goal.load-requires
load-requires c = (c.requires.0, c.requires.1)

pub loop-i-init : goal.loop-i-init
loop-i-init c = grown_first (λ (x : ℕ). cut c.args.bytes.now (c.args.at + x * c.args.stride) 64) _ _ c.requires.1 c.load.ensures

pub grow_all-requires : goal.grow_all-requires
grow_all-requires c = (omega arith, c.loop-i.invariant.room)

pub loop-i-preserved : goal.loop-i-preserved
loop-i-preserved c = let e : 4 * (c.loop-i.i + 1) ≡ 4 * c.loop-i.i + 4 = omega arith in
    rw e (grown_on (λ (x : ℕ). cut c.args.bytes.now (c.args.at + x * c.args.stride) 64) (4 * c.loop-i.i) c.loop-i.w _ c.loop-i.invariant c.grow_all.ensures)

pub returns : goal.returns
returns c = grown_last (λ (x : ℕ). cut c.args.bytes.now (c.args.at + x * c.args.stride) 64) (4 * c.loop-i.i) c.loop-i.w (omega arith) c.loop-i.invariant

-- The loop's invariant: every lane has taken the first i blocks of its message.
-- Assumes nothing.
use Rattle.std.proofs.Common.{arith, ◌/◌, ◌≡◌, refl}
use Rattle.padding.specs.Cutting.{over_blocks}
use Rattle.lanes.proofs.Messages.{message_more}
use Rattle.lanes.specs.Lanes.{state_in}
use Rattle.lanes.proofs.hashes.whole_blocks8.Goals as goal

pub loop-i-init : goal.loop-i-init
unfolding over_blocks
loop-i-init c = (c.well_formed.0.1.0.1, λ x h. refl)

pub loop-i-preserved : goal.loop-i-preserved
loop-i-preserved c = let a = c.args in
    let l = c.loop-i in (
      c.compress8-next.ensures.0,
      λ x h. message_more a.k.now a.bytes.now (state_in a.st x) (state_in l.t x) (state_in c.compress8-next.result x) a.n l.i x (omega arith) (l.invariant.1 x h) (c.compress8-next.ensures.1 x h),
    )

pub returns : goal.returns
returns c = let e : c.loop-i.i ≡ c.args.n / 64 = omega arith in (c.loop-i.invariant.0, λ x h. rw e at (c.loop-i.invariant.1 x h))

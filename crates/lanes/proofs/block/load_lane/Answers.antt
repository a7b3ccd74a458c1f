-- The loop's invariant: the lane's first i words are the block's, and the other lanes are as they were.
-- Assumes nothing.
use Rattle.std.proofs.Common.{arith, length, ◌≡◌, refl, ◌∙◌}
use Rattle.lanes.specs.LanesLaws.{beside_none, beside_set, beside_then, load_more}
use Rattle.bits.specs.Parsing.{words}
use Rattle.lanes.proofs.block.load_lane.Goals as goal

pub loop-i-init : goal.loop-i-init
unfolding words
loop-i-init c = (refl, beside_none 64 c.args.j c.args.w.now)

pub loop-i-preserved : goal.loop-i-preserved
loop-i-preserved c = let a = c.args in
    let l = c.loop-i in
    let n : length l.w ≡ 512 = l.invariant.1.size ∙ c.requires.2 in (
      load_more a.bytes.now l.w a.at l.i a.j c.word.result (omega arith) c.requires.0 n l.invariant.0 c.word.ensures,
      beside_then l.invariant.1 (beside_set 64 l.w l.i a.j c.word.result c.requires.0),
    )

pub returns : goal.returns
returns c = let e : c.loop-i.i ≡ 16 = omega arith in (rw e at c.loop-i.invariant.0, c.loop-i.invariant.1)

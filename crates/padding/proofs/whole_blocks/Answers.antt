use Rattle.std.proofs.Common.{◌*◌, take, drop, refl, ap, ◌∙◌}
use Rattle.padding.specs.Cutting.{over_blocks}
use Rattle.padding.specs.CuttingLaws.{blocks_more}
use Rattle.padding.proofs.whole_blocks.Goals as goal

pub loop-i-init : goal.loop-i-init
unfolding over_blocks
loop-i-init g c = refl

pub loop-i-preserved : goal.loop-i-preserved
loop-i-preserved g c = let f = g.H.Rounds.taken c.args.rounds.now in
    let s = c.args.bytes.now in
    c.take-t.ensures ∙ ap (λ t. f t (take 64 (drop (64 * c.loop-i.i) s))) c.loop-i.invariant ∙ blocks_more f s c.args.state c.loop-i.i

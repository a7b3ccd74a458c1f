use Rattle.std.proofs.Common.{arith, ◌+◌, length, ◌≡◌, refl, ap, ◌∙◌}
use Rattle.lanes.proofs.Filling.{filled_none, filled_one}
use Rattle.tree.proofs.Steps.{pad_first, pad_next}
use Rattle.tree.specs.Values.{pad_value}
use Rattle.saved.proofs.Pairs.{pad_length}
use Rattle.saved.proofs.chain.pad_values.Goals as goal

pub loop-l-init : goal.loop-l-init
loop-l-init c = (pad_first, filled_none _ 672 _ refl)

pub loop-l-preserved : goal.loop-l-preserved
loop-l-preserved c = let l = c.loop-l in
    let n : length l.v ≡ 32 = ap length l.invariant.0 ∙ pad_length l.l in
    (pad_next _ _ l.l l.invariant.0 c.pair-w.ensures, filled_one pad_value 672 l.l l.pads _ l.v l.invariant.1 (omega (arith, c.loop-l-test.true, c.requires)) n l.invariant.0 c.put_hash.ensures)

pub returns : goal.returns
returns c = let e : c.loop-l.l ≡ c.args.height + 1 = omega arith in rw e at c.loop-l.invariant.1

use Rattle.std.proofs.Common.{arith, ◌≡◌, ap, ◌∙◌}
use Rattle.octets.specs.Octets.{zero_hash}
use Rattle.history.proofs.LastLaws.{zero_pad}
use Rattle.history.proofs.Steps.{above_none, above_more, half_more}
use Rattle.tree.proofs.Steps.{pad_next}
use Rattle.history.specs.Growing.{node_at, open_above}
use Rattle.history.proofs.open_above.Goals as goal

pub loop-l-init : goal.loop-l-init
unfolding zero_hash
loop-l-init c = (above_none c.args.nodes.now c.args.leaf c.args.i, zero_pad, omega arith)

pub loop-l-preserved : goal.loop-l-preserved
unfolding node_at
loop-l-preserved c = let a = c.args in
    let L = c.loop-l in (
      above_more a.nodes.now a.leaf c.hash_at-left.result L.child L.pad c.parent-up.result a.i L.j L.l L.invariant.0 L.invariant.1 L.invariant.2 c.hash_at-left.ensures c.parent-up.ensures,
      pad_next L.pad c.pair-wider.result L.l L.invariant.1 c.pair-wider.ensures,
      half_more a.i L.j L.l L.invariant.2,
    )

pub returns : goal.returns
returns c = let e : c.loop-l.l ≡ c.args.k = omega (arith, c.loop-l-test.false) in c.loop-l.invariant.0 ∙ ap (open_above c.args.nodes.now c.args.leaf c.args.i) e

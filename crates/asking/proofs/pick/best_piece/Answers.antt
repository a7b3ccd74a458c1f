-- By the loop: the choice so far is that among the first i pieces.
use Rattle.std.proofs.Common.{arith, ◌+◌, length, ◌≡◌, ap, sym, ◌∙◌}
use Rattle.asking.specs.declared.pick.Choice.{Choice}
use Rattle.asking.proofs.PickingLaws.{best_none, best_more, best_low}
use Rattle.asking.specs.Picking.{best_of, chosen}
use Rattle.asking.proofs.pick.best_piece.Goals as goal

pub loop-i-init : goal.loop-i-init
loop-i-init c = let a = c.args in (sym (best_none a.store.now a.counts.now), omega arith)

pub with_piece-next-requires : goal.with_piece-next-requires
with_piece-next-requires c = let p = c.requires in
    (p.0, c.disk_of-d.ensures, p.1, c.loop-i-test.true, omega (arith, c.loop-i.invariant.1, c.loop-i-test.true))

pub loop-i-preserved : goal.loop-i-preserved
loop-i-preserved c = let i = c.loop-i.i in
    let a = c.args in
    let e = c.with_piece-next.ensures ∙ ap (chosen a.store.now a.counts.now i) c.loop-i.invariant.0 ∙ best_more a.store.now a.counts.now i in
    (e, omega (arith, ap (λ (y : Choice). y.piece) e, best_low a.store.now a.counts.now (i + 1)))

pub returns : goal.returns
returns c = let a = c.args in
    let e : c.loop-i.i ≡ length a.counts.now = omega arith in
    c.loop-i.invariant.0 ∙ ap (best_of a.store.now a.counts.now) e

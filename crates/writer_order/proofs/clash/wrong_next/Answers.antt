use Rattle.std.proofs.Common.{rules}
use Rattle.writer_order.specs.LayerLaws.{other_run, same_run}
use Rattle.writer_order.proofs.clash.wrong_next.Goals as goal

pub overflow_add-p : goal.overflow_add-p
overflow_add-p g c = let w = (c.requires.0 c.in-Some.p c.in-Some.is).0 in search rules

pub overflow_add-p-2 : goal.overflow_add-p-2
overflow_add-p-2 g c = let w = (c.requires.0 c.in-Some.p c.in-Some.is).0 in search rules

pub slice_bounds-same-end : goal.slice_bounds-same-end
slice_bounds-same-end g c = let w = (c.requires.0 c.in-Some.p c.in-Some.is).0 in search rules

pub returns-then-not-same : goal.returns-then-not-same
returns-then-not-same g c = λ alone beside told agreed. rw c.in-Some.is
    (other_run c.args.list.now c.args.text.now alone beside c.in-Some.p c.args.q _ c.same.ensures c.if-not-same.true _
    (told _ _ c.requires.1 c.wrong-then-not-same.ensures))

pub returns : goal.returns
returns g c = λ alone beside told agreed. rw c.in-Some.is
    (same_run c.args.list.now c.args.text.now alone beside c.in-Some.p c.args.q _ c.same.ensures c.if-not-same.false _
    (agreed _ _ _ (c.requires.0 c.in-Some.p c.in-Some.is) c.requires.1 c.agrees.ensures))

use Rattle.std.proofs.Common.{arith, refl, ap, sym, ◌∙◌}
use Rattle.bencode.specs.EndsLaws.{string_ends}
use Rattle.halves.specs.V1Half.{names_full}
use Rattle.hybrid.specs.EntryLaws.{items_ended, items_inside, name_none, name_some}
use Rattle.hybrid.proofs.names_full.Goals as goal

pub loop-i-init : goal.loop-i-init
loop-i-init c = λ vs rest e. (vs, e, refl)

pub returns-then-ends_here : goal.returns-then-ends_here
unfolding names_full
returns-then-ends_here c = λ vs rest e. let u = c.loop-i.invariant vs rest e in sym (u.2 ∙ ap names_full (items_ended c.args.bytes.now c.loop-i.i u.0 rest u.1 (sym c.ends_here.ensures ∙ c.if-ends_here.true)))

pub returns-in-None : goal.returns-in-None
returns-in-None c = λ vs rest e. let u = c.loop-i.invariant vs rest e in sym (u.2 ∙ name_none _ _ u.0 rest u.1 (sym c.ends_here.ensures ∙ c.if-ends_here.false) (sym c.in-None.ensures))

pub returns-then-start-end : goal.returns-then-start-end
returns-then-start-end c = λ vs rest e.
    let u = c.loop-i.invariant vs rest e in
    let w = name_some _ _ _ _ u.0 rest u.1 (sym c.ends_here.ensures ∙ c.if-ends_here.false) (sym c.in-Some.ensures) in
    sym (u.2 ∙ w.2 c.if-start-end.true)

pub loop-i-smaller : goal.loop-i-smaller
loop-i-smaller c = let e = string_ends _ _ _ _ (sym c.in-Some.ensures) in omega (arith, e.0, e.1, e.2)

pub loop-i-preserved : goal.loop-i-preserved
loop-i-preserved c = λ vs rest e.
    let u = c.loop-i.invariant vs rest e in
    let w = name_some _ _ _ _ u.0 rest u.1 (sym c.ends_here.ensures ∙ c.if-ends_here.false) (sym c.in-Some.ensures) in
    (w.0, w.1, u.2 ∙ w.3 c.if-start-end.false)

pub returns : goal.returns
returns c = λ vs rest e. let u = c.loop-i.invariant vs rest e in absurd (items_inside c.args.bytes.now c.loop-i.i u.0 rest u.1 (omega arith))

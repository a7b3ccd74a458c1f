use Rattle.std.proofs.Common.{eq-eqb, ne_eqb, arith, refl, sym, ◌∙◌, rules}
use Rattle.hybrid.specs.EntryLaws.{without_step, without_none}
use Rattle.halves.specs.V1Half.{letter_p}
use Rattle.hybrid.proofs.without_p.Goals as goal

pub loop-i-init : goal.loop-i-init
loop-i-init c = (search rules, search rules, refl)

pub returns-then-bytes-i-eq112 : goal.returns-then-bytes-i-eq112
returns-then-bytes-i-eq112 c = sym (c.loop-i.invariant.2 ∙ without_step _ c.loop-i.i _ letter_p (omega arith) (omega arith) ∙ rw (eq-eqb _ letter_p c.if-bytes-i-eq112.true) refl)

pub loop-i-preserved : goal.loop-i-preserved
loop-i-preserved c = (omega arith, omega arith, c.loop-i.invariant.2 ∙ without_step _ c.loop-i.i _ letter_p (omega arith) (omega arith) ∙ rw (ne_eqb _ letter_p c.if-bytes-i-eq112.false) refl)

pub returns : goal.returns
returns c = sym (c.loop-i.invariant.2 ∙ without_none _ c.loop-i.i _ letter_p (omega arith))

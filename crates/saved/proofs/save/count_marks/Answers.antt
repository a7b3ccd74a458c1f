use Rattle.std.proofs.Common.{arith, ℕ, length, ◌≡◌, ap, ◌∙◌}
use Rattle.saved.proofs.Saving.{marks_start_lem, marks_turn}
use Rattle.saved.specs.Save.{marked_below}
use Rattle.saved.proofs.save.count_marks.Goals as goal

pub loop-i-init : goal.loop-i-init
loop-i-init c = (marks_start_lem _, omega arith)

pub mark_at-set-requires : goal.mark_at-set-requires
mark_at-set-requires c = (c.requires.0, c.marks_start-start.ensures, omega (arith, c.requires.1, c.loop-i-test.true))

pub loop-i-preserved : goal.loop-i-preserved
loop-i-preserved c = let v = marks_turn _ _ _ _ _ c.loop-i.invariant.0 c.loop-i.invariant.1 c.mark_at-set.ensures c.one_more-m.ensures in (v.0, v.1)

pub returns : goal.returns
returns c = let e : c.loop-i.i ≡ c.args.n = omega (arith, c.loop-i-test.false) in (c.loop-i.invariant.0 ∙ ap (λ (k : ℕ). length (marked_below c.args.store.now k)) e, omega (arith, c.loop-i.invariant.1))

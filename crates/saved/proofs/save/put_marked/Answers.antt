use Rattle.std.proofs.Common.{arith, ℕ, ◌+◌, ◌*◌, length, ◌≡◌, refl, ap, ◌∙◌}
use Rattle.saved.specs.Form.{marks_bytes}
use Rattle.saved.proofs.Saving.{marks_begin, marks_put_lem, marks_grow}
use Rattle.octets.specs.Octets.{pasted}
use Rattle.saved.specs.Save.{marked_below}
use Rattle.saved.proofs.save.put_marked.Goals as goal

pub loop-i-init : goal.loop-i-init
loop-i-init c = let v = marks_begin _ _ _ in (v.0, v.1, refl)

pub put_mark-here-requires : goal.put_mark-here-requires
put_mark-here-requires c = (c.requires.0, c.marks_start-start.ensures, omega (arith, c.requires.1, c.loop-i-test.true), omega (arith, c.requires.2, c.loop-i.invariant.0, c.loop-i.invariant.2, marks_grow c.args.store.now c.loop-i.i c.args.n c.loop-i-test.true))

pub loop-i-preserved : goal.loop-i-preserved
loop-i-preserved c = let v = marks_put_lem _ _ _ _ _ _ _ _ _ c.loop-i-test.true c.requires.2 c.loop-i.invariant.0 c.loop-i.invariant.1 c.put_mark-here.ensures.0 c.put_mark-here.ensures.1 in (v.0, v.1, c.put_mark-here.auto.out ∙ c.loop-i.invariant.2)

pub shape_of-out : goal.shape_of-out
shape_of-out c = c.loop-i.invariant.2

pub returns : goal.returns
returns c = let e : c.loop-i.i ≡ c.args.n = omega (arith, c.loop-i-test.false) in (c.loop-i.invariant.0 ∙ ap (λ (k : ℕ). c.args.at + 5 * length (marked_below c.args.store.now k)) e, c.loop-i.invariant.1 ∙ ap (λ (k : ℕ). pasted c.args.out.now c.args.at (marks_bytes (marked_below c.args.store.now k))) e)

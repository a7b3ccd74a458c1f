-- Each return is one law of rounding up.
use Rattle.std.proofs.Common.{div-le_self, arith, ℕ, ◌-◌, ap, sym, ◌∙◌}
use Rattle.tree.specs.Geometry.{ceil_div}
use Rattle.tree.proofs.GeometryLaws.{ceil_by_zero, ceil_of_zero, ceil_step}
use Rattle.tree.proofs.geometry.ceil_div.Goals as goal

pub returns-then-d-eq0 : goal.returns-then-d-eq0
returns-then-d-eq0 c = sym (ap (ceil_div c.args.a) c.if-d-eq0.true ∙ ceil_by_zero c.args.a)

pub returns-then-a-eq0 : goal.returns-then-a-eq0
returns-then-a-eq0 c = sym (ap (λ (x : ℕ). ceil_div x c.args.d) c.if-a-eq0.true ∙ ceil_of_zero c.args.d)

pub overflow_add-result : goal.overflow_add-result
overflow_add-result c = omega (arith, div-le_self (c.args.a - 1) c.args.d)

pub returns : goal.returns
returns c = sym (ceil_step c.args.a c.args.d c.if-a-eq0.false c.if-d-eq0.false)

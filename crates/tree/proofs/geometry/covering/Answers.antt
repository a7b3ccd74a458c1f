-- A shift by l divides by 2^l; from layer 64 on one position covers every block that a number can count.
use Rattle.std.proofs.Common.{div-le_self, pow_mono, arith, ℕ, ◌-◌, ◌≤◌, ◌^◌, ap, sym, ◌∙◌}
use Rattle.tree.proofs.GeometryLaws.{covering_none, covering_one, covering_step}
use Rattle.tree.specs.Geometry.{covering}
use Rattle.tree.proofs.geometry.covering.Goals as goal

pub returns-then-blocks-eq0 : goal.returns-then-blocks-eq0
returns-then-blocks-eq0 c = sym (ap (λ (x : ℕ). covering x c.args.layer) c.if-blocks-eq0.true ∙ covering_none c.args.layer)

pub returns-then-layer-ge64 : goal.returns-then-layer-ge64
returns-then-layer-ge64 c = let w : 2 ^ 64 ≤ 2 ^ c.args.layer = pow_mono {i = 64} {j = c.args.layer} c.if-layer-ge64.true in
    sym (covering_one c.args.blocks c.args.layer c.if-blocks-eq0.false (omega arith))

pub overflow_add-result : goal.overflow_add-result
overflow_add-result c = omega (arith, div-le_self (c.args.blocks - 1) (2 ^ c.args.layer))

pub returns : goal.returns
returns c = sym (covering_step c.args.blocks c.args.layer c.if-blocks-eq0.false)

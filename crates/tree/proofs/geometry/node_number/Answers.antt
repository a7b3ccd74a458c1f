-- The shift gives 2^(h - l), which with an index below it stays below 2^64.
use Rattle.std.proofs.Common.{pow_mono, arith, ℕ, ◌+◌, ◌-◌, ◌≤◌, ◌^◌, ap}
use Rattle.tree.proofs.GeometryLaws.{shifted_one}
use Rattle.tree.specs.Geometry.{node_number}
use Rattle.tree.proofs.geometry.node_number.Goals as goal

pub overflow_add-result : goal.overflow_add-result
overflow_add-result c = let small : 2 ^ (c.args.height - c.args.layer) ≤ 2 ^ 63 = pow_mono {i = c.args.height - c.args.layer} {j = 63} (omega arith) in
    omega (arith, shifted_one (c.args.height - c.args.layer) (omega arith))

pub returns : goal.returns
unfolding node_number
returns c = ap (λ (x : ℕ). x + c.args.index) (shifted_one (c.args.height - c.args.layer) (omega arith))

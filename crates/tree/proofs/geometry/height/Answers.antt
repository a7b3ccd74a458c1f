-- Halving and rounding up takes the height down by one. Invariant: what is left has the height that is still to be counted.
use Rattle.std.proofs.Common.{arith}
use Rattle.tree.proofs.Steps.{height_turn, height_done}
use Rattle.tree.proofs.GeometryLaws.{height_fits}
use Rattle.tree.proofs.geometry.height.Goals as goal

pub loop-rest-init : goal.loop-rest-init
loop-rest-init c = (omega arith, omega arith)

pub overflow_add-h : goal.overflow_add-h
overflow_add-h c = omega (arith, height_fits c.args.blocks (omega arith), height_turn c.args.blocks c.loop-rest.rest c.loop-rest.h c.loop-rest.invariant.1 (omega arith))

pub loop-rest-preserved : goal.loop-rest-preserved
loop-rest-preserved c = (omega arith, height_turn _ _ _ c.loop-rest.invariant.1 (omega arith))

pub returns : goal.returns
returns c = height_done _ c.loop-rest.rest _ c.loop-rest.invariant.1 (omega arith)

-- The smaller of the limit and the whole layer.
use Rattle.std.proofs.Common.{arith, ◌-◌}
use Rattle.tree.proofs.GeometryLaws.{shifted_one}
use Rattle.asking.specs.Asking.{run_length}
use Rattle.asking.proofs.next.run_length.Goals as goal

pub returns : goal.returns
unfolding run_length
returns c = omega (arith, c.min.ensures, shifted_one (c.args.height - c.args.layer) (omega (arith, c.requires.1)))

-- A piece that the file has starts within it, so neither the product nor the difference wraps.
use Rattle.std.proofs.Common.{arith, sym, rules}
use Rattle.tree.proofs.GeometryLaws.{piece_size_past, piece_starts}
use Rattle.tree.specs.Geometry.{piece_size}
use Rattle.tree.proofs.geometry.piece_size.Goals as goal

pub returns-then-piece-c : goal.returns-then-piece-c
returns-then-piece-c c = sym (piece_size_past c.args.length c.args.plen c.args.piece (omega arith))

pub overflow_mul-left : goal.overflow_mul-left
overflow_mul-left c = omega (arith, piece_starts c.args.length c.args.plen c.args.piece (omega arith))

pub overflow_sub-left : goal.overflow_sub-left
overflow_sub-left c = omega (arith, piece_starts c.args.length c.args.plen c.args.piece (omega arith))

pub returns-then-left-plen : goal.returns-then-left-plen
unfolding piece_size
returns-then-left-plen c = search rules

pub returns-else-left-plen : goal.returns-else-left-plen
unfolding piece_size
returns-else-left-plen c = search rules

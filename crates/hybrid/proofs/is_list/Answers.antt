use Rattle.std.proofs.Common.{arith, drop_of_length-le, refl, sym}
use Rattle.octets.specs.OctetsLaws.{drop_step}
use Rattle.hybrid.specs.Entry.{is_list}
use Rattle.hybrid.proofs.is_list.Goals as goal

pub returns-then-bytes-at : goal.returns-then-bytes-at
unfolding is_list
returns-then-bytes-at c = sym (rw (drop_of_length-le c.args.bytes.now {i = c.args.at} c.if-bytes-at.true) refl)

pub returns : goal.returns
unfolding is_list
returns c = sym (rw (drop_step c.args.bytes.now c.args.at (omega arith)) refl)

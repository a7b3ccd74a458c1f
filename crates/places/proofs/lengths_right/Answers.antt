-- By the loop: the answer is that of the records from i on.
use Rattle.std.proofs.Common.{arith, sym, ◌∙◌}
use Rattle.places.proofs.PlacesLaws.{lengths_start, lengths_more, lengths_wrong, lengths_done}
use Rattle.places.proofs.lengths_right.Goals as goal

pub loop-i-init : goal.loop-i-init
loop-i-init c = lengths_start c.args.list.now c.args.files

pub length_of-n-requires : goal.length_of-n-requires
length_of-n-requires c = omega (arith, c.requires, c.loop-i-test.true)

pub returns-then-n-gt-LONGEST_FILE : goal.returns-then-n-gt-LONGEST_FILE
returns-then-n-gt-LONGEST_FILE c = sym (sym c.loop-i.invariant ∙ lengths_wrong _ c.loop-i.i _ c.loop-i-test.true (omega (arith, c.if-n-gt-LONGEST_FILE.true, c.length_of-n.ensures)))

pub loop-i-preserved : goal.loop-i-preserved
loop-i-preserved c = (lengths_more _ c.loop-i.i _ c.loop-i-test.true (omega (arith, c.if-n-gt-LONGEST_FILE.false, c.length_of-n.ensures)) ∙ c.loop-i.invariant)

pub returns : goal.returns
returns c = sym (sym c.loop-i.invariant ∙ lengths_done _ c.loop-i.i _ (omega arith))

use Rattle.std.proofs.Common.{arith, ap, sym}
use Rattle.filetree.specs.File.{length_of}
use Rattle.filetree.proofs.Reading.{length_minus, length_fits, length_long}
use Rattle.filetree.proofs.file.length_here.Goals as goal

pub returns-then-minus : goal.returns-then-minus
returns-then-minus c = sym (length_minus _ _ _ _ (sym c.in-Some.ensures) c.if-minus.true)

pub returns-then-size-le-LONGEST_FILE : goal.returns-then-size-le-LONGEST_FILE
returns-then-size-le-LONGEST_FILE c = sym (length_fits _ _ _ _ (sym c.in-Some.ensures) c.if-minus.false (omega (arith, c.if-size-le-LONGEST_FILE.true)))

pub returns-in-None : goal.returns-in-None
returns-in-None c = sym (ap length_of (sym c.in-None.ensures))

pub returns-else-size-le-LONGEST_FILE : goal.returns-else-size-le-LONGEST_FILE
returns-else-size-le-LONGEST_FILE c = sym (length_long _ _ _ _ (sym c.in-Some.ensures) c.if-minus.false c.if-size-le-LONGEST_FILE.false)

use Rattle.std.proofs.Common.{arith}
use Rattle.marks.specs.MarksLaws.{field_length}
use Rattle.marks.proofs.Answers.{field_turn}
use Rattle.octets.proofs.Turn.{whole}
use Rattle.marks.proofs.write_field.Goals as goal

pub loop-i-preserved : goal.loop-i-preserved
loop-i-preserved c = (field_turn _ _ _ _ _ _ c.loop-i.invariant (omega arith) c.requires.1 c.field_byte-x.ensures)

pub returns : goal.returns
returns c = whole _ _ _ _ c.loop-i.i c.args.n c.loop-i.invariant (field_length _ _) (omega (arith, c.loop-i-test.false))

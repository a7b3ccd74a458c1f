use Rattle.std.proofs.Common.{arith, refl, ◌+◌}
use Rattle.marks.specs.MarksLaws.{one_small}
use Rattle.marks.proofs.Answers.{bits_turn, bits_low}
use Rattle.marks.specs.Marks.{field_bits, piece_marked}
use Rattle.marks.proofs.field_byte.Goals as goal

pub loop-i-init : goal.loop-i-init
unfolding field_bits
loop-i-init c = (refl)

pub overflow_mul-x : goal.overflow_mul-x
overflow_mul-x c = omega (arith, bits_low _ _ _ _ c.loop-i.invariant c.loop-i-test.true)

pub overflow_add-x : goal.overflow_add-x
overflow_add-x c = omega (arith, bits_low _ _ _ _ c.loop-i.invariant c.loop-i-test.true, c.piece_bit-bit.ensures, one_small (piece_marked c.args.store.now (c.args.piece + c.loop-i.i)))

pub loop-i-preserved : goal.loop-i-preserved
loop-i-preserved c = (bits_turn _ _ _ _ _ c.loop-i.invariant c.piece_bit-bit.ensures)

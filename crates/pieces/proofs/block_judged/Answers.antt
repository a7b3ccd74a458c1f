-- On 0 the block is one of the file's, so that it has a mark.
use Rattle.std.proofs.Common.{rules, refl, sym}
use Rattle.numbers.specs.Refusals.{refused_is_some}
use Rattle.pieces.proofs.PiecesLaws.{block_right}
use Rattle.pieces.proofs.MarkedLaws.{block_fits}
use Rattle.pieces.proofs.Marking.{block_marked, block_left}
use Rattle.pieces.proofs.block_judged.Goals as goal

pub put_marks-requires : goal.put_marks-requires
put_marks-requires c = ((block_right _ _ _ (sym c.in_ok-block_number.ensures)).store, block_fits _ _ _ (sym c.in_ok-block_number.ensures))

pub returns-in_err-block_number : goal.returns-in_err-block_number
returns-in_err-block_number c =
    let w = block_left _ _ _ _ c.in_err-block_number.ensures (refused_is_some _) _ refl in
    record { answer = search (rules, w); left = w.1 }

pub returns : goal.returns
returns c =
    let w = block_marked _ _ _ _ c.in_ok-block_number.ensures refl _ c.put_marks.ensures _ refl in
    record { answer = w.0; left = w.1 }

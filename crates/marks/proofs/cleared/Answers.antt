use Rattle.std.proofs.Common.{rules, arith, sym, refl}
use Rattle.numbers.specs.Refusals.{refused_is_some}
use Rattle.marks.specs.MarksLaws.{there_says, there_fits}
use Rattle.marks.proofs.Answers.{clear_done, clear_refused}
use Rattle.marks.proofs.cleared.Goals as goal

pub put_marks-requires : goal.put_marks-requires
put_marks-requires c = ((there_says _ _ (sym c.in_ok-block_there.ensures)).0, omega (arith, there_fits _ _ (sym c.in_ok-block_there.ensures)))

pub returns-in_err-block_there-clause-answer : goal.returns-in_err-block_there-clause-answer
returns-in_err-block_there-clause-answer c = let w = clear_refused _ _ _ c.in_err-block_there.ensures (refused_is_some _) _ refl in search (rules, w)

pub returns-in_err-block_there-clause-left : goal.returns-in_err-block_there-clause-left
returns-in_err-block_there-clause-left c = (clear_refused _ _ _ c.in_err-block_there.ensures (refused_is_some _) _ refl).1

pub returns : goal.returns
returns c =
    let w = clear_done _ _ _ c.in_ok-block_there.ensures refl _ c.put_marks.ensures _ refl in
    record { answer = w.0; left = w.1 }

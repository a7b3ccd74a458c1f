use Rattle.std.proofs.Common.{rules, sym, refl, ap}
use Rattle.numbers.specs.Numbers.{done}
use Rattle.numbers.specs.Refusals.{refused_is_some}
use Rattle.marks.specs.MarksLaws.{there_says, there_fits}
use Rattle.marks.proofs.Answers.{marked_done, marked_refused}
use Rattle.marks.proofs.marked.Goals as goal

pub is_marked-set-requires : goal.is_marked-set-requires
is_marked-set-requires c = ((there_says _ _ (sym c.in_ok-block_there.ensures)).0, there_fits _ _ (sym c.in_ok-block_there.ensures))

pub returns-in_err-block_there : goal.returns-in_err-block_there
returns-in_err-block_there c = let w = marked_refused _ _ _ c.in_err-block_there.ensures (refused_is_some _) _ refl in search (rules, w)

pub returns : goal.returns
returns c = marked_done _ _ _ c.in_ok-block_there.ensures refl _ (sym c.is_marked-set.ensures) _ (ap done c.from.ensures)

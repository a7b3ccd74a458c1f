-- The number, and beside 0 the earlier file's length.
use Rattle.std.proofs.Common.{rules, refl}
use Rattle.numbers.specs.Refusals.{refused_is_some}
use Rattle.extends.proofs.Ways.{answer_0, answer_n}
use Rattle.extends.proofs.extended.Goals as goal

pub returns-in_err-begins_with : goal.returns-in_err-begins_with
returns-in_err-begins_with c = let w = answer_n _ _ _ _ _ c.in_err-begins_with.ensures (refused_is_some _) _ refl in search (rules, w)

pub returns : goal.returns
returns c = answer_0 _ _ _ _ _ c.in_ok-begins_with.ensures refl _ refl

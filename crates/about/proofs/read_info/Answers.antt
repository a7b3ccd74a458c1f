-- The part ends behind its start, since `info` was found; each return is one case of the definition.
use Rattle.std.proofs.Common.{rules, refl}
use Rattle.numbers.specs.Refusals.{refused_is_some}
use Rattle.about.proofs.AboutLaws.{info_order, info_done, info_refused}
use Rattle.about.proofs.read_info.Goals as goal

pub overflow_sub-result : goal.overflow_sub-result
overflow_sub-result c = info_order _ _ c.in_ok-c.ensures refl

pub returns-in_err-c : goal.returns-in_err-c
returns-in_err-c c = let w = info_refused _ _ c.in_err-c.ensures (refused_is_some _) in search (rules, w)

pub returns : goal.returns
returns c = info_done _ _ c.in_ok-c.ensures refl

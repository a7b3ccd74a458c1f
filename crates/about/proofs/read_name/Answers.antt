-- By what was found: no string is 29, and a string's content ends behind its start.
use Rattle.std.proofs.Common.{rules, refl}
use Rattle.numbers.specs.Refusals.{refused_is_some}
use Rattle.about.proofs.AboutLaws.{name_order, name_done, name_refused}
use Rattle.about.proofs.read_name.Goals as goal

pub overflow_sub-result : goal.overflow_sub-result
overflow_sub-result c = (name_order _ _ _ _ _ c.name_from.ensures c.in-Some.is).0

pub returns-in_err-c : goal.returns-in_err-c
returns-in_err-c c = let w = name_refused _ _ c.in_err-c.ensures (refused_is_some _) in search (rules, w)

pub returns-in-None : goal.returns-in-None
returns-in-None c = name_done _ _ c.in_ok-c.ensures refl _ _ c.name_from.ensures c.in-None.is

pub returns-in-Some : goal.returns-in-Some
returns-in-Some c = name_done _ _ c.in_ok-c.ensures refl _ _ c.name_from.ensures c.in-Some.is

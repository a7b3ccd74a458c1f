-- The first three tests, then the rules.
use Rattle.std.proofs.Common.{rules, refl}
use Rattle.numbers.specs.Refusals.{refused_is_some}
use Rattle.messages.specs.TakeLaws.{first_refused, first_passed, rules_broken, rules_done}
use Rattle.messages.proofs.take.check_header.Goals as goal

pub returns-in_err-check_first : goal.returns-in_err-check_first
returns-in_err-check_first c = let w = first_refused _ _ _ _ c.in_err-check_first.ensures (refused_is_some _) in search (rules, w)

pub header_of-requires : goal.header_of-requires
header_of-requires c = c.requires (first_passed _ _ _ _ c.in_ok-check_first.ensures refl).1

pub rules_in-requires : goal.rules_in-requires
rules_in-requires c = ((first_passed _ _ _ _ c.in_ok-check_first.ensures refl).0, c.header_of.ensures.1)

pub returns-then-not-rules_in : goal.returns-then-not-rules_in
returns-then-not-rules_in c = rules_broken _ _ _ _ c.in_ok-check_first.ensures refl _ _ c.header_of.ensures.0 c.rules_in.ensures c.if-not-rules_in.true

pub returns : goal.returns
returns c = rules_done _ _ _ _ c.in_ok-check_first.ensures refl _ _ c.header_of.ensures.0 c.rules_in.ensures c.if-not-rules_in.false

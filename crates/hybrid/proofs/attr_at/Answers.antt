use Rattle.std.proofs.Common.{sym}
use Rattle.hybrid.specs.EntryLaws.{attr_none, attr_plain, attr_padding}
use Rattle.bencode.specs.EndsLaws.{string_ends}
use Rattle.hybrid.proofs.attr_at.Goals as goal

pub without_p-requires : goal.without_p-requires
without_p-requires c = let e = string_ends _ _ _ _ (sym c.in-Some.ensures) in (e.1, e.2)

pub returns-then-without_p : goal.returns-then-without_p
returns-then-without_p c = λ x s. attr_plain _ _ _ _ (sym c.in-Some.ensures) _ c.without_p.ensures c.if-without_p.true x s

pub returns-in-None : goal.returns-in-None
returns-in-None c = λ x s. attr_none _ _ (sym c.in-None.ensures) x s

pub returns-else-without_p : goal.returns-else-without_p
returns-else-without_p c = λ x s. attr_padding _ _ _ _ (sym c.in-Some.ensures) _ c.without_p.ensures c.if-without_p.false x s

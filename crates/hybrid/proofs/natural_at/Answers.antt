use Rattle.std.proofs.Common.{sym}
use Rattle.hybrid.specs.EntryLaws.{natural_none, natural_minus, natural_plus}
use Rattle.hybrid.proofs.natural_at.Goals as goal

pub returns-then-minus : goal.returns-then-minus
returns-then-minus c = λ x s. natural_minus _ _ _ _ _ (sym c.in-Some.ensures) c.if-minus.true x s

pub returns-in-None : goal.returns-in-None
returns-in-None c = λ x s. natural_none _ _ (sym c.in-None.ensures) x s

pub returns-else-minus : goal.returns-else-minus
returns-else-minus c = λ x s. natural_plus _ _ _ _ _ (sym c.in-Some.ensures) c.if-minus.false x s

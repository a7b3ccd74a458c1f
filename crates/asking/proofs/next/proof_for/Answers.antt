-- None without uncles; else the layers below the run's top that can be worked out, and one for each uncle.
use Rattle.std.proofs.Common.{sym}
use Rattle.asking.proofs.AskingLaws.{proof_none_at, proof_some}
use Rattle.asking.proofs.next.proof_for.Goals as goal

pub returns-then-u-eq0 : goal.returns-then-u-eq0
returns-then-u-eq0 c = sym (proof_none_at _ _ c.if-u-eq0.true)

pub returns : goal.returns
returns c = sym (proof_some _ _ c.if-u-eq0.false)

use Rattle.std.proofs.Common.{sym, ◌∙◌}
use Rattle.v1.specs.ReadLaws.{among_never, among_is}
use Rattle.v1.proofs.read.among.Goals as goal

pub returns-in-None : goal.returns-in-None
returns-in-None c = λ vs f b. absurd (among_never _ _ c.args.file vs f b (sym c.in-None.is ∙ c.tally.ensures vs f.encoded))

pub returns-in-Some : goal.returns-in-Some
returns-in-Some c = λ vs f b. among_is _ _ _ vs f b _ _ (c.in-Some.ensures vs f.encoded) _ (c.file_at-f.ensures vs f)

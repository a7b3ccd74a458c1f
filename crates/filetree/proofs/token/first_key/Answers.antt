use Rattle.std.proofs.Common.{ap, sym, ◌∙◌}
use Rattle.filetree.specs.Token.{first_key}
use Rattle.filetree.proofs.Reading.{key_empty, key_full}
use Rattle.filetree.proofs.token.first_key.Goals as goal

pub returns-then-a-b : goal.returns-then-a-b
returns-then-a-b c = c.file_token.ensures ∙ sym (key_empty _ _ _ _ _ _ (sym c.in-Some.ensures) c.if-a-b.true)

pub returns-in-None : goal.returns-in-None
returns-in-None c = sym (ap (first_key c.args.tree.now c.args.start c.args.end) (sym c.in-None.ensures))

pub returns-else-a-b : goal.returns-else-a-b
returns-else-a-b c = sym (key_full _ _ _ _ _ _ (sym c.in-Some.ensures) c.if-a-b.false)

use Rattle.std.proofs.Common.{◌∙◌}
use Rattle.padding.specs.CuttingLaws.{message_parts}
use Rattle.padding.proofs.over.Goals as goal

pub returns : goal.returns
returns g c = c.finish.ensures ∙ message_parts (g.H.Rounds.taken c.args.rounds.now) c.args.bytes.now c.args.start c.whole_blocks-t.result c.whole_blocks-t.ensures

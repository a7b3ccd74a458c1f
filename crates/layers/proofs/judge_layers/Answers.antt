use Rattle.std.proofs.Common.{ap, sym, ◌∙◌}
use Rattle.tree.specs.Values.{pad_value}
use Rattle.layers.specs.Layers.{number_if}
use Rattle.layers.specs.JudgeLaws.{tree_judged, tree_never}
use Rattle.layers.proofs.judge_layers.Goals as goal

pub judge_directory-requires : goal.judge_directory-requires
judge_directory-requires c = (c.requires.0, c.requires.1, c.pad_value-pad.ensures ∙ ap pad_value c.piece_layer.ensures)

pub returns-in-None : goal.returns-in-None
returns-in-None c = tree_never _ _ _ c.requires.2 c.in-None.ensures _

pub returns-in-Some-worst : goal.returns-in-Some-worst
returns-in-Some-worst c = ap number_if (sym c.in-Some-worst.is) ∙ tree_judged _ _ _ c.requires.2 _ c.in-Some.ensures

pub returns-in-None-worst : goal.returns-in-None-worst
returns-in-None-worst c = ap number_if (sym c.in-None-worst.is) ∙ tree_judged _ _ _ c.requires.2 _ c.in-Some.ensures

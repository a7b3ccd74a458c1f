use Rattle.std.proofs.Common.{ap, ◌∙◌}
use Rattle.tree.specs.Values.{pad_value}
use Rattle.writer_order.proofs.clash.gives_root.Goals as goal

pub gives_root-requires : goal.gives_root-requires
gives_root-requires c = let p = c.requires in (p.0, p.1, p.2, c.pad_value-pad.ensures ∙ ap pad_value c.piece_layer.ensures)

pub returns : goal.returns
returns c = c.gives_root.ensures

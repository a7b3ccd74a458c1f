use Rattle.writer_order.specs.LayerLaws.{lengths_agree_lem}
use Rattle.writer_order.proofs.clash.one_length.Goals as goal

pub returns : goal.returns
returns c = lengths_agree_lem c.args.list.now c.args.text.now c.args.p c.args.q _ _ c.number_at.ensures.0 c.number_at-2.ensures.0

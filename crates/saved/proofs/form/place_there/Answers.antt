use Rattle.saved.proofs.Answers.{there_kind, there_high, there_in}
use Rattle.saved.proofs.form.place_there.Goals as goal

pub returns-then-bytes-place-ne2 : goal.returns-then-bytes-place-ne2
returns-then-bytes-place-ne2 c = there_kind c.args.bytes.now c.args.height c.args.place c.if-bytes-place-ne2.true

pub returns-then-l-height : goal.returns-then-l-height
returns-then-l-height c = there_high _ _ _ _ c.if-bytes-place-ne2.false c.layer_in-l.ensures c.if-l-height.true

pub returns : goal.returns
returns c = there_in _ _ _ _ _ c.if-bytes-place-ne2.false c.layer_in-l.ensures c.index_in-i.ensures c.requires.0 c.if-l-height.false

use Rattle.std.proofs.Common.{arith}
use Rattle.writer.specs.StepsLaws.{info_room, rest_room, whole_bytes}
use Rattle.writer.proofs.put_torrent.Goals as goal

pub put_info-behind-requires : goal.put_info-behind-requires
put_info-behind-requires c = (
  c.requires.1.placed,
  let r = info_room
      c.args.list.now
      c.args.text.now
      c.requires.0.form
      c.args.plen
      c.args.name.now _ _
      c.requires.1
      c.requires.3 in omega arith,
)

pub put_rest-requires : goal.put_rest-requires
put_rest-requires c = (
  c.order_for_rest.ensures.placed,
  let r = rest_room c.args.list.now
      c.args.text.now c.requires.0.form c.args.plen c.args.name.now _ _ c.requires.1
      c.order_for_rest.ensures c.requires.2 _ _
      c.put_info-behind.ensures.behind c.requires.3 in omega arith,
)

pub returns : goal.returns
returns c = whole_bytes c.args.list.now c.args.text.now
    c.requires.0.form c.args.plen
    c.args.name.now _ _ c.requires.1
    c.order_for_rest.ensures
    c.requires.2 _ _ _ _ _ c.put_info-behind.ensures
    c.put_rest.ensures c.put_info-behind.auto.out
    c.requires.3

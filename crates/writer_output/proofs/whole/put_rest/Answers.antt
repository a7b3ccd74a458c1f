use Rattle.std.proofs.Common.{map, arith}
use Rattle.writer_lists.specs.Lists.{item_at}
use Rattle.writer_output.specs.WholeLaws.{rest_length, put_both}
use Rattle.writer_output.proofs.whole.put_rest.Goals as goal

pub put_layers-end-requires : goal.put_layers-end-requires
put_layers-end-requires c = (
  c.requires.0,
  omega (
    arith,
    rest_length (map (item_at c.args.list.now
        c.args.text.now) c.args.order.now),
    c.requires.1,
  ),
)

pub put_byte-requires : goal.put_byte-requires
put_byte-requires c = let e = c.put_layers-end.ensures.behind in omega (
  arith,
  rest_length (map (item_at c.args.list.now
      c.args.text.now)
      c.args.order.now),
  c.requires.1,
)

pub returns : goal.returns
returns c = put_both (map (item_at c.args.list.now c.args.text.now)
    c.args.order.now) _ _ _ _ _ _ c.put_layers-end.ensures
    c.put_byte.ensures c.put_layers-end.auto.out

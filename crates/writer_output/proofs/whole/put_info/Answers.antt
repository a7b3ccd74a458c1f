-- Seven parts one behind the other: the place behind each is known, and there is room for what is still to come.
use Rattle.std.proofs.Common.{map, arith}
use Rattle.writer_lists.specs.Lists.{item_at}
use Rattle.writer_output.specs.WholeLaws.{info_room, put_seven}
use Rattle.writer_output.proofs.whole.put_info.Goals as goal

pub put_bytes-tree-requires : goal.put_bytes-tree-requires
put_bytes-tree-requires c = omega (arith, info_room _ _ _ _ _ c.requires.1)

pub put_tree-version-requires : goal.put_tree-version-requires
put_tree-version-requires c = (c.requires.0, omega (arith, info_room _ _ _ _ _ c.requires.1, c.put_bytes-tree.ensures.behind))

pub put_bytes-value-requires : goal.put_bytes-value-requires
put_bytes-value-requires c = omega (arith, info_room _ _ _ _ _ c.requires.1, c.put_bytes-tree.ensures.behind, c.put_tree-version.ensures.behind)

pub put_string-key-requires : goal.put_string-key-requires
put_string-key-requires c = omega (
  arith,
  info_room _ _ _ _ _ c.requires.1,
  c.put_bytes-tree.ensures.behind,
  c.put_tree-version.ensures.behind,
  c.put_bytes-value.ensures.behind,
)

pub put_bytes-number-requires : goal.put_bytes-number-requires
put_bytes-number-requires c = omega (
  arith,
  info_room _ _ _ _ _ c.requires.1,
  c.put_bytes-tree.ensures.behind,
  c.put_tree-version.ensures.behind,
  c.put_bytes-value.ensures.behind,
  c.put_string-key.ensures.behind,
)

pub put_decimal-end-requires : goal.put_decimal-end-requires
put_decimal-end-requires c = omega (
  arith,
  info_room _ _ _ _ _ c.requires.1,
  c.put_bytes-tree.ensures.behind,
  c.put_tree-version.ensures.behind,
  c.put_bytes-value.ensures.behind,
  c.put_string-key.ensures.behind,
  c.put_bytes-number.ensures.behind,
)

pub put_bytes-requires : goal.put_bytes-requires
put_bytes-requires c = omega (
  arith,
  info_room _ _ _ _ _ c.requires.1,
  c.put_bytes-tree.ensures.behind,
  c.put_tree-version.ensures.behind,
  c.put_bytes-value.ensures.behind,
  c.put_string-key.ensures.behind,
  c.put_bytes-number.ensures.behind,
  c.put_decimal-end.ensures.behind,
)

pub returns : goal.returns
returns c = let args = c.args in
    put_seven args.plen args.name.now (map (item_at args.list.now args.text.now) args.order.now) _ _ _ _ _ _ _ _ _ _ _ _ _ _ _ _
    c.put_bytes-tree.ensures c.put_tree-version.ensures c.put_bytes-value.ensures c.put_string-key.ensures
    c.put_bytes-number.ensures c.put_decimal-end.ensures c.put_bytes.ensures c.put_bytes-tree.auto.out c.put_tree-version.auto.out
    c.put_bytes-value.auto.out c.put_string-key.auto.out c.put_bytes-number.auto.out c.put_decimal-end.auto.out

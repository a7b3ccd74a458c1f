use Rattle.std.proofs.Common.{arith, sym, ◌∙◌, rules}
use Rattle.numbers.specs.Refusals.{refused_is_some}
use Rattle.writer.specs.StepsLaws.{answer_number, answer_room, answer_done}
use Rattle.writer.proofs.write_in.Goals as goal

pub returns-in_err-size : goal.returns-in_err-size
returns-in_err-size c =
    let w = answer_number c.args.list.now c.args.text.now c.args.plen c.args.name.now c.args.out.now c.requires.form _
    c.in_err-size.ensures.number_is (refused_is_some _) in
    search (rules, w)

pub returns-then-out-size : goal.returns-then-out-size
returns-then-out-size c = let size = c.measure.ensures.size_is _ c.in_ok-size.was in
    answer_room c.args.list.now c.args.text.now c.args.plen c.args.name.now c.args.out.now c.requires.form
    (sym c.in_ok-size.ensures.number_is) (omega (arith, size, c.if-out-size.true))

pub put_torrent-requires : goal.put_torrent-requires
put_torrent-requires c = let size = c.measure.ensures.size_is _ c.in_ok-size.was in (
  record {
    form = c.requires.form;
    few = c.requires.few;
    at_size = c.measure.auto.at ∙ c.requires.at_size;
    room_size = c.measure.auto.room ∙ c.requires.room_size;
  },
  c.measure.ensures.tree_order,
  sym c.in_ok-size.ensures.number_is,
  omega (arith, size, c.if-out-size.false),
)

pub returns : goal.returns
returns c = let size = c.measure.ensures.size_is _ c.in_ok-size.was in
    answer_done c.args.list.now c.args.text.now c.args.plen c.args.name.now c.args.out.now c.requires.form
    (sym c.in_ok-size.ensures.number_is) _ _ size (omega (arith, size, c.if-out-size.false)) c.put_torrent.ensures

-- The positions are placed, sorted by root and sorted by path: `at` is in each order where it is read.
use Rattle.std.proofs.Common.{arith, sym, ◌∙◌, ◌≡◌, rules, ℕ, Ok}
use Rattle.std.specs.Prelude.{Result}
use Rattle.writer_meaning.specs.Content.{item_before}
use Rattle.writer_order.specs.Order.{InOrder, root_before}
use Rattle.writer.specs.StepsLaws.{places, roots_right, tree_right_lem, whole_size, met}
use Rattle.numbers.specs.declared.Refused.{Refused}
use Rattle.writer.proofs.measure.Goals as goal

ok_is : {a b : ℕ} → ◌≡◌ {A = Result ℕ Refused} (Ok a) (Ok b) → b ≡ a
ok_is e = cc

pub sort-requires : goal.sort-requires
sort-requires c = (
  places c.args.list.now c.args.text.now c.requires.form _ _ c.requires.at_size c.place.ensures,
  c.requires.room_size ∙ sym c.requires.at_size ∙ sym c.place.auto.at,
)

pub rest_size-rest-requires : goal.rest_size-rest-requires
rest_size-rest-requires c = (
  (let it : InOrder root_before c.args.list.now c.args.text.now c.sort.new.at = roots_right c.args.list.now c.args.text.now c.requires.form _ _ _ c.requires.at_size
      c.place.ensures c.sort.ensures.0 in it).placed,
  omega (arith, c.sort.auto.at, c.place.auto.at, c.requires.at_size, c.requires.few),
)

pub root_number-roots-requires : goal.root_number-roots-requires
root_number-roots-requires c = (
  c.requires.form,
  (let it : InOrder root_before c.args.list.now c.args.text.now c.sort.new.at = roots_right c.args.list.now c.args.text.now c.requires.form _ _ _ c.requires.at_size
      c.place.ensures c.sort.ensures.0 in it),
)

pub sort-requires-2 : goal.sort-requires-2
sort-requires-2 c = (
  (let it : InOrder root_before c.args.list.now c.args.text.now c.sort.new.at = roots_right c.args.list.now c.args.text.now c.requires.form _ _ _ c.requires.at_size
      c.place.ensures c.sort.ensures.0 in it).placed,
  c.sort.auto.room ∙ c.requires.room_size ∙ sym c.requires.at_size ∙ sym (c.sort.auto.at ∙ c.place.auto.at),
)

pub info_size-info-requires : goal.info_size-info-requires
info_size-info-requires c = (
  (let it : InOrder item_before c.args.list.now c.args.text.now c.sort-2.new.at = tree_right_lem c.args.list.now c.args.text.now c.requires.form _ _ ((let it : InOrder root_before c.args.list.now c.args.text.now c.sort.new.at = roots_right c.args.list.now c.args.text.now c.requires.form _ _ _ c.requires.at_size
      c.place.ensures c.sort.ensures.0 in it)) c.sort-2.ensures.0 in it).placed,
  omega (
    arith,
    c.sort-2.auto.at,
    c.sort.auto.at,
    c.place.auto.at,
    c.requires.at_size,
    c.requires.few,
  ),
)

pub meets-meet-requires : goal.meets-meet-requires
meets-meet-requires c = (let it : InOrder item_before c.args.list.now c.args.text.now c.sort-2.new.at = tree_right_lem c.args.list.now c.args.text.now c.requires.form _ _ ((let it : InOrder root_before c.args.list.now c.args.text.now c.sort.new.at = roots_right c.args.list.now c.args.text.now c.requires.form _ _ _ c.requires.at_size
    c.place.ensures c.sort.ensures.0 in it)) c.sort-2.ensures.0 in it).placed

pub overflow_add-size : goal.overflow_add-size
overflow_add-size c = let a = c.info_size-info.ensures.1 in let b = c.rest_size-rest.ensures.1 in search rules

pub check_content-requires : goal.check_content-requires
check_content-requires c = (
  c.requires.form,
  met c.args.list.now c.args.text.now c.requires.form _ _ ((let it : InOrder item_before c.args.list.now c.args.text.now c.sort-2.new.at = tree_right_lem c.args.list.now c.args.text.now c.requires.form _ _ ((let it : InOrder root_before c.args.list.now c.args.text.now c.sort.new.at = roots_right c.args.list.now c.args.text.now c.requires.form _ _ _ c.requires.at_size
      c.place.ensures c.sort.ensures.0 in it)) c.sort-2.ensures.0 in it)) c.meets-meet.ensures,
  λ k p.
      c.root_number-roots.ensures (omega (arith, k)) p,
)

pub returns-in_err-check_content : goal.returns-in_err-check_content
returns-in_err-check_content c =
    let roots : InOrder root_before c.args.list.now c.args.text.now c.sort.new.at = roots_right c.args.list.now c.args.text.now c.requires.form _ _ _ c.requires.at_size c.place.ensures c.sort.ensures.0 in
    let tree : InOrder item_before c.args.list.now c.args.text.now c.sort-2.new.at = tree_right_lem c.args.list.now c.args.text.now c.requires.form _ _ roots c.sort-2.ensures.0 in
    let size = whole_size c.args.list.now c.args.text.now c.requires.form c.args.plen c.args.name.now _ _ tree roots _ _
    c.info_size-info.ensures.0 c.rest_size-rest.ensures.0 in
    let number = c.in_err-check_content.ensures c.args.name.now size in
    record { tree_order = tree; number_is = search (rules, number); size_is = λ n e. search rules }

pub returns : goal.returns
returns c =
    let roots : InOrder root_before c.args.list.now c.args.text.now c.sort.new.at = roots_right c.args.list.now c.args.text.now c.requires.form _ _ _ c.requires.at_size c.place.ensures c.sort.ensures.0 in
    let tree : InOrder item_before c.args.list.now c.args.text.now c.sort-2.new.at = tree_right_lem c.args.list.now c.args.text.now c.requires.form _ _ roots c.sort-2.ensures.0 in
    let size = whole_size c.args.list.now c.args.text.now c.requires.form c.args.plen c.args.name.now _ _ tree roots _ _
    c.info_size-info.ensures.0 c.rest_size-rest.ensures.0 in
    record { tree_order = tree; number_is = c.in_ok-check_content.ensures c.args.name.now size; size_is = λ n e. ok_is e ∙ size }

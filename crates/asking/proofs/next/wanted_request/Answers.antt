-- A refusal hands its number on. Behind it the wanted positions are looked at in order: all are held, or the first that is not names its run.
use Rattle.std.proofs.Common.{rules, refl}
use Rattle.numbers.specs.Refusals.{refused_is_some}
use Rattle.asking.proofs.Answers.{usable_long, next_refused, next_usable, next_node, front_room, next_nothing, length_asks, length_some, in_layer, next_request_is}
use Rattle.asking.proofs.next.wanted_request.Goals as goal

pub returns-in_err-next_number : goal.returns-in_err-next_number
returns-in_err-next_number c = let w = next_refused c.args.store.now c.args.layer _ _ c.in_err-next_number.ensures (refused_is_some _) refl in search (rules, w)

pub height_of-h-requires : goal.height_of-h-requires
height_of-h-requires c = usable_long _ (next_usable _ _ _ c.in_ok-next_number.ensures refl)

pub blocks_of-b-requires : goal.blocks_of-b-requires
blocks_of-b-requires c = usable_long _ (next_usable _ _ _ c.in_ok-next_number.ensures refl)

pub node_number-first-requires : goal.node_number-first-requires
node_number-first-requires c = next_node _ _ _ c.in_ok-next_number.ensures refl _ c.height_of-h.ensures

pub held_front-i-requires : goal.held_front-i-requires
held_front-i-requires c = front_room _ _ _ c.in_ok-next_number.ensures refl _ c.height_of-h.ensures _ _ _ c.blocks_of-b.ensures c.covering-c.ensures c.node_number-first.ensures

pub run_length-len-requires : goal.run_length-len-requires
run_length-len-requires c = length_asks _ _ _ c.in_ok-next_number.ensures refl _ c.height_of-h.ensures _ _ _ c.blocks_of-b.ensures c.covering-c.ensures c.node_number-first.ensures _ c.held_front-i.ensures c.if-i-c.false

pub nonzero_div-j : goal.nonzero_div-j
nonzero_div-j c = length_some _ _ _ c.in_ok-next_number.ensures refl _ c.height_of-h.ensures _ _ _ c.blocks_of-b.ensures c.covering-c.ensures c.node_number-first.ensures
    _ c.held_front-i.ensures c.if-i-c.false _ c.run_length-len.ensures

pub run_header-x-requires : goal.run_header-x-requires
run_header-x-requires c = (
  next_usable _ _ _ c.in_ok-next_number.ensures refl,
  c.height_of-h.ensures,
  in_layer _ _ _ c.in_ok-next_number.ensures refl _ c.height_of-h.ensures _ _ _ c.blocks_of-b.ensures c.covering-c.ensures c.node_number-first.ensures _ c.held_front-i.ensures c.if-i-c.false _ c.run_length-len.ensures,
)

pub facts_root-root-requires : goal.facts_root-root-requires
facts_root-root-requires c = usable_long _ (next_usable _ _ _ c.in_ok-next_number.ensures refl)

pub returns-then-i-c : goal.returns-then-i-c
returns-then-i-c c = next_nothing _ _ _ c.in_ok-next_number.ensures refl _ c.height_of-h.ensures _ _ _ c.blocks_of-b.ensures c.covering-c.ensures c.node_number-first.ensures _ c.held_front-i.ensures _ c.if-i-c.true refl

pub returns : goal.returns
returns c = next_request_is _ _ _ c.in_ok-next_number.ensures refl _ c.height_of-h.ensures _ _ _ c.blocks_of-b.ensures c.covering-c.ensures c.node_number-first.ensures _ c.held_front-i.ensures c.if-i-c.false _ c.run_length-len.ensures
    _ _ _ c.run_header-x.ensures.0 c.facts_root-root.ensures c.request_for.ensures

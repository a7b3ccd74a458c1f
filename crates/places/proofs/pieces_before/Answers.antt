-- The sum is that of the files before i; a list in its form keeps it far below 2^64.
use Rattle.std.proofs.Common.{arith, ◌≡◌, ap, sym, ◌∙◌}
use Rattle.places.specs.Places.{pieces_before}
use Rattle.places.proofs.PlacesLaws.{record_within, before_none, before_more, sum_fits, pieces_are}
use Rattle.places.proofs.pieces_before.Goals as goal

pub loop-i-init : goal.loop-i-init
loop-i-init c = sym (before_none _ _)

pub length_of-n-requires : goal.length_of-n-requires
length_of-n-requires c = record_within c.args.list.now c.loop-i.i (omega (arith, c.requires.2, c.loop-i-test.true))

pub overflow_add-sum : goal.overflow_add-sum
overflow_add-sum c = let a = c.args in
    let pre = c.requires in
    let w = sum_fits a.list.now a.plen c.loop-i.i pre.0 pre.1 (omega (arith, pre.2, c.loop-i-test.true)) in
    let e = pieces_are a.list.now a.plen c.loop-i.i c.length_of-n.result c.piece_count-c.result c.length_of-n.ensures c.piece_count-c.ensures in
    omega (arith, c.loop-i.invariant, e)

pub loop-i-preserved : goal.loop-i-preserved
loop-i-preserved c = let a = c.args in
    let e = pieces_are a.list.now a.plen c.loop-i.i c.length_of-n.result c.piece_count-c.result c.length_of-n.ensures c.piece_count-c.ensures in
    omega (arith, c.loop-i.invariant, e, before_more a.list.now a.plen c.loop-i.i)

pub returns : goal.returns
returns c = let a = c.args in
    let e : c.loop-i.i ≡ a.file = omega arith in
    c.loop-i.invariant ∙ ap (pieces_before a.list.now a.plen) e

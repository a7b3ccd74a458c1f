-- By the loop: the piece is looked for in the files from i on, as so many pieces are left.
use Rattle.std.proofs.Common.{arith, ℕ, ◌+◌, ◌-◌, ap, sym, ◌∙◌}
use Rattle.places.specs.Places.{place_from}
use Rattle.places.proofs.PlacesLaws.{place_start, place_here, place_next, place_none, pieces_are}
use Rattle.places.proofs.find_place.Goals as goal

pub loop-i-init : goal.loop-i-init
loop-i-init c = let a = c.args in place_start a.list.now a.plen a.files a.piece

pub length_of-n-requires : goal.length_of-n-requires
length_of-n-requires c = omega (arith, c.requires, c.loop-i-test.true)

pub returns-then-left-c : goal.returns-then-left-c
returns-then-left-c c = let a = c.args in
    let e = pieces_are a.list.now a.plen c.loop-i.i c.length_of-n.result c.piece_count-c.result c.length_of-n.ensures c.piece_count-c.ensures in
    sym (sym c.loop-i.invariant ∙ place_here a.list.now a.plen c.loop-i.i a.files c.loop-i.left c.loop-i-test.true (omega (arith, c.if-left-c.true, e)))

pub loop-i-preserved : goal.loop-i-preserved
loop-i-preserved c = let a = c.args in
    let i = c.loop-i.i in
    let e = pieces_are a.list.now a.plen i c.length_of-n.result c.piece_count-c.result c.length_of-n.ensures c.piece_count-c.ensures in
    (ap (λ (n : ℕ). place_from a.list.now a.plen (i + 1) (a.files - (i + 1)) (c.loop-i.left - n)) e
    ∙ place_next a.list.now a.plen i a.files c.loop-i.left c.loop-i-test.true (omega (arith, c.if-left-c.false, e))
    ∙ c.loop-i.invariant)

pub returns : goal.returns
returns c = let a = c.args in
    sym (sym c.loop-i.invariant ∙ place_none a.list.now a.plen c.loop-i.i a.files c.loop-i.left (omega arith))

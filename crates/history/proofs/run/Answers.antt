-- The loop's invariant: the state and the layer are those of the bytes before `at`, so what is left makes of them what the burst makes of the first.
-- Assumes nothing.
use Rattle.std.proofs.Common.{[], arith, ◌+◌, ◌≤◌, ◌<◌, length, drop, drop_of_length-le, ◌≡◌, refl, sym, ◌∙◌}
use Rattle.history.proofs.DecidingLaws.{part_length}
use Rattle.history.proofs.Steps.{grown_turn, noted_turn, grown_none, noted_end}
use Rattle.history.proofs.Eights.{part_of, due_at}
use Rattle.history.proofs.run.Goals as goal

pub loop-at-init : goal.loop-at-init
loop-at-init c = (omega arith, refl, omega arith, c.requires.0.inside, c.requires.0.tail, refl, refl, refl)

pub overflow_add-end : goal.overflow_add-end
overflow_add-end c = omega (arith, c.part_size-n.ensures.most)

pub slice_bounds-take_part-end : goal.slice_bounds-take_part-end
slice_bounds-take_part-end c = omega (arith, c.part_size-n.ensures.most)

pub take_part-later-requires : goal.take_part-later-requires
take_part-later-requires c = let L = c.loop-at in
    let n = c.part_size-n.result in
    let s = c.part_size-n.ensures in
    let on : L.at < length c.args.burst.now = c.loop-at-test.true in
    let within : L.at + n ≤ length c.args.burst.now = omega (arith, s.most) in
    let l = part_length c.args.burst.now L.at n within in
    let q = s.some (omega arith) in (
      omega (arith, l, q),
      omega (arith, l, L.invariant.2, c.requires.1),
      part_of L.t _ n _ s l L.invariant.3 L.invariant.4,
      due_at c.args.history L.t (length c.args.burst.now) (length c.args.layer.now) _ _ c.requires.0 c.requires.2 L.invariant.1 (omega (arith, L.invariant.2)) (omega (arith, L.invariant.2, l)) L.invariant.5,
    )

pub loop-at-smaller : goal.loop-at-smaller
loop-at-smaller c = omega (arith, c.part_size-n.ensures.some (omega arith), c.part_size-n.ensures.most)

pub loop-at-preserved : goal.loop-at-preserved
loop-at-preserved c = let L = c.loop-at in
    let n = c.part_size-n.result in
    let s = c.part_size-n.ensures in
    let on : L.at < length c.args.burst.now = c.loop-at-test.true in
    let within : L.at + n ≤ length c.args.burst.now = omega (arith, s.most) in
    let l = part_length c.args.burst.now L.at n within in
    let g = c.take_part-later.ensures in
    let e = L.at + n in
    let up : L.at ≤ L.at + n = omega arith in (
      within,
      g.kept ∙ L.invariant.1,
      omega (arith, g.length_then, l, L.invariant.2),
      g.inside,
      g.tail,
      c.take_part-later.auto.layer ∙ L.invariant.5,
      grown_turn c.args.history L.t c.take_part-later.result c.args.burst.now L.at e up L.invariant.6 g.state,
      noted_turn c.args.history L.t c.take_part-later.result c.args.burst.now c.args.layer.now L.layer c.take_part-later.new.layer L.at e up L.invariant.7 g.state g.noted,
    )

pub shape_of-layer : goal.shape_of-layer
shape_of-layer c = c.loop-at.invariant.5

pub returns : goal.returns
returns c = let L = c.loop-at in
    let d : drop L.at c.args.burst.now ≡ [] = drop_of_length-le c.args.burst.now {i = L.at} c.loop-at-test.false in
    (sym (grown_none L.t (drop L.at c.args.burst.now) d) ∙ L.invariant.6, sym (noted_end L.t L.layer (drop L.at c.args.burst.now) d) ∙ L.invariant.7)

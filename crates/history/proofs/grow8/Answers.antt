-- The loop's invariant: x of the eight blocks are taken.
-- Assumes nothing.
use Rattle.std.proofs.Common.{arith, ◌∙◌}
use Rattle.history.proofs.Eights.{eights_none, eights_due, eights_more, eights_last}
use Rattle.history.proofs.grow8.Goals as goal

pub loop-x-init : goal.loop-x-init
loop-x-init c = eights_none _ _ _ c.requires.2

pub note-requires : goal.note-requires
note-requires c = let l = c.loop-x in eights_due c.args.history l.t c.args.part.now c.args.layer.now l.layer l.x l.invariant (omega arith) c.requires.0 c.requires.3

pub grow_block-later-requires : goal.grow_block-later-requires
grow_block-later-requires c = omega (arith, c.loop-x.invariant.length_then, c.requires.0, c.requires.1)

pub loop-x-preserved : goal.loop-x-preserved
loop-x-preserved c = let a = c.args in
    let p = c.requires in
    let l = c.loop-x in
    let e = c.note in
    eights_more a.history l.t c.grow_block-later.result a.part.now a.layer.now l.layer _ c.hash_at-leaf.result l.x l.invariant (omega arith) p.0 p.3.pieces
    (c.hash_at-leaf.ensures ∙ c.hash8-leaves.ensures.hashes l.x (omega arith)) e.ensures e.auto.layer c.grow_block-later.ensures

pub shape_of-layer : goal.shape_of-layer
shape_of-layer c = c.loop-x.invariant.room

pub returns : goal.returns
returns c = eights_last _ c.loop-x.t c.args.part.now _ c.loop-x.layer c.loop-x.x c.loop-x.invariant (omega arith) c.requires.0

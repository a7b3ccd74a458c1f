-- More than a block is eight of them; else the piece that is run past is written, and the bytes taken.
-- Assumes nothing.
use Rattle.std.proofs.Common.{arith, sym, ◌∙◌}
use Rattle.history.proofs.Steps.{note_law}
use Rattle.history.proofs.take_part.Goals as goal

pub grow8-requires : goal.grow8-requires
grow8-requires c = let p = c.requires in let q = p.2.eight c.if-part-gt16384.true in (q.0, p.1, q.1, p.3)

pub returns-then-part-gt16384 : goal.returns-then-part-gt16384
returns-then-part-gt16384 c = c.grow8.ensures

pub grow-later-requires : goal.grow-later-requires
grow-later-requires c = let p = c.requires in (p.0, p.2.within c.if-part-gt16384.false, p.1, p.2.inside, p.2.tail)

pub note-requires : goal.note-requires
note-requires c = let p = c.requires in let h = c.args.history in (p.3.pieces, λ n e. p.3.places h.length (omega arith) (omega (arith, p.0)) n e)

pub returns : goal.returns
returns c = let a = c.args in
    let p = c.requires in
    let g = c.grow-later.ensures in
    record {
      state = g.0;
      noted = c.note.ensures ∙ sym (note_law a.history a.layer.now a.part.now p.3.pieces p.0 (p.2.within c.if-part-gt16384.false));
      kept = g.1;
      length_then = g.2;
      inside = g.3;
      tail = g.4;
    }

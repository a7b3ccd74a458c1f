use Rattle.std.proofs.Common.{arith, sym}
use Rattle.layers.proofs.Finding.{pieces_few, of_size, of_root, of_other}
use Rattle.layers.proofs.of_layer.Goals as goal

pub overflow_sub-end : goal.overflow_sub-end
overflow_sub-end c = (rw c.in-Some.is at c.requires.4).0

pub overflow_mul-pieces : goal.overflow_mul-pieces
overflow_mul-pieces c = let x = pieces_few _ _ c.requires.0 c.requires.1 c.requires.2 in let y = c.piece_count-pieces.ensures in omega arith

pub slice_bounds-gives_root-count : goal.slice_bounds-gives_root-count
slice_bounds-gives_root-count c = (rw c.in-Some.is at c.requires.4).0

pub slice_bounds-gives_root-start : goal.slice_bounds-gives_root-start
slice_bounds-gives_root-start c = (rw c.in-Some.is at c.requires.4).0

pub slice_bounds-gives_root-end : goal.slice_bounds-gives_root-end
slice_bounds-gives_root-end c = (rw c.in-Some.is at c.requires.4).1

pub returns-then-gives_root : goal.returns-then-gives_root
returns-then-gives_root c = sym (of_root _ _ _ _ _ _ _ c.in-Some.is _ c.piece_count-pieces.ensures c.if-end-start.true _ c.gives_root.ensures c.if-gives_root.true)

pub returns-then-end-start : goal.returns-then-end-start
returns-then-end-start c = sym (of_other _ _ _ _ _ _ _ c.in-Some.is _ c.piece_count-pieces.ensures c.if-end-start.true _ c.gives_root.ensures c.if-gives_root.false)

pub returns-else-end-start : goal.returns-else-end-start
returns-else-end-start c = sym (of_size _ _ _ _ _ _ _ c.in-Some.is _ c.piece_count-pieces.ensures c.if-end-start.false)

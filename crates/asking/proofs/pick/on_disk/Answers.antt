-- The blocks that a piece of the file covers have marks, and the piece is on disk where all of them are set.
use Rattle.std.proofs.Common.{arith}
use Rattle.tree.specs.Geometry.{piece_size}
use Rattle.store.specs.StoreLaws.{usable_facts}
use Rattle.asking.proofs.Picks.{first_small, covered, piece_is}
use Rattle.asking.proofs.pick.on_disk.Goals as goal

pub overflow_mul-first : goal.overflow_mul-first
overflow_mul-first c = let p = c.requires in
    omega (arith, first_small _ (usable_facts _ p.0) _ _ _ p.1.each p.1.blocks p.2)

pub all_marked-requires : goal.all_marked-requires
unfolding piece_size
all_marked-requires c = let p = c.requires in
    let w = c.piece_size-n.ensures in
    (p.0, p.1.start, covered _ (usable_facts _ p.0) _ _ _ p.1.each p.1.blocks p.2 _ (omega (arith, w)) (omega (arith, w)))

pub returns : goal.returns
returns c = let p = c.requires in
    piece_is _ (usable_facts _ p.0) _ _ _ p.1.each p.1.blocks p.2 _ c.piece_size-n.ensures _ c.all_marked.ensures

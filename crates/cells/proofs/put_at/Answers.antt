use Rattle.std.proofs.Common.{suc, length-set, arith, ◌+◌, ◌*◌, ◌≡◌, ◌∙◌}
use Rattle.cells.proofs.Marking.{mark_then_hash}
use Rattle.cells.specs.Cells.{put}
use Rattle.cells.proofs.put_at.Goals as goal

pub put_hash-requires : goal.put_hash-requires
put_hash-requires c = simp length-set (omega arith)

pub shape_of-store : goal.shape_of-store
shape_of-store c = c.put_hash.auto.bytes ∙ simp length-set

pub returns : goal.returns
unfolding put
returns c = let n = c.args.node in
    let e : 32 + 33 * n ≡ suc (31 + 33 * n) = omega arith in
    c.put_hash.ensures ∙ rw e (mark_then_hash c.args.store.now (31 + 33 * n) c.args.hash (omega (arith, c.requires)))

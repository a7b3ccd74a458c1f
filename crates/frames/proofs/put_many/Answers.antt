use Rattle.std.proofs.Common.{arith, ◌+◌, ◌-◌, ◌*◌, length, inr}
use Rattle.frames.specs.PutLaws.{copied_none, copied_part, copied_whole}
use Rattle.frames.proofs.put_many.Goals as goal

pub loop-k-init : goal.loop-k-init
loop-k-init c = copied_none c.args.room.now c.args.at c.args.bytes.now

pub loop-k-preserved : goal.loop-k-preserved
loop-k-preserved c = let taken = c.loop-k-test.true in
    let i = 64 * c.loop-k.k in
    let one = copied_part c.args.room.now c.args.at c.args.bytes.now i c.loop-k.room i 32 (i + 32) c.put_part.new.room c.loop-k.invariant (omega arith) (omega (arith, taken)) c.requires.1 (inr (omega arith)) c.put_part.ensures in
    copied_part c.args.room.now c.args.at c.args.bytes.now (i + 32) c.put_part.new.room (i + 32) 32 _ c.put_part-in-loop-k.new.room one (omega arith) (omega (arith, taken)) c.requires.1 (inr (omega arith)) c.put_part-in-loop-k.ensures

pub returns : goal.returns
returns c = let n = length c.args.bytes.now in
    let left = c.loop-k-test.false in
    let one = copied_part c.args.room.now c.args.at c.args.bytes.now (64 * c.loop-k.k) c.loop-k.room (n - 64) 32 (n - 32) c.put_part-2.new.room c.loop-k.invariant (omega (arith, left)) (omega (arith, c.requires.0)) c.requires.1 (inr (omega (arith, c.requires.0))) c.put_part-2.ensures in
    copied_whole c.args.room.now c.args.at c.args.bytes.now c.put_part-3.new.room
    (copied_part c.args.room.now c.args.at c.args.bytes.now (n - 32) c.put_part-2.new.room (n - 32) 32 n c.put_part-3.new.room one (omega arith) (omega (arith, c.requires.0)) c.requires.1 (inr (omega (arith, c.requires.0))) c.put_part-3.ensures)
    c.requires.1

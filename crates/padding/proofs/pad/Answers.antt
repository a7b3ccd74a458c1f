use Rattle.std.proofs.Common.{arith, refl, length}
use Rattle.padding.proofs.Pads.{pad_whole, copied}
use Rattle.padding.specs.PaddingLaws.{zeros_short, zeros_long}
use Rattle.padding.proofs.pad.Goals as goal

pub returns-then-i-lt56 : goal.returns-then-i-lt56
returns-then-i-lt56 c = let s = c.args.tail.now in
    pad_whole s c.args.total (length s) 56 _ c.put_bits.new.b refl (copied s c.copy_from_slice.new.self (omega arith) c.copy_from_slice.ensures.after) (omega arith) (omega arith)
    (zeros_short (length s) c.args.total (omega arith) (omega arith)) c.put_bits.ensures

pub returns : goal.returns
returns c = let s = c.args.tail.now in
    pad_whole s c.args.total (length s) 120 _ c.put_bits-2.new.b refl (copied s c.copy_from_slice.new.self (omega arith) c.copy_from_slice.ensures.after) (omega arith) (omega arith)
    (zeros_long (length s) c.args.total (omega arith) (omega arith)) c.put_bits-2.ensures

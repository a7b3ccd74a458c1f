use Rattle.std.proofs.Common.{arith}
use Rattle.writer_output.specs.BoundLaws.{info_most}
use Rattle.writer_output.proofs.whole.info_size.Goals as goal

pub put_info-requires : goal.put_info-requires
put_info-requires c = (
  c.requires.0,
  let m = info_most c.args.list.now
      c.args.text.now
      (λ i. omega (arith, c.shared_slice_known-1.given i))
      c.args.plen c.args.name.now
      c.args.order.now c.requires.0
      c.requires.1 (omega (arith, c.ranges.plen))
      (omega arith) in omega arith,
)

pub returns : goal.returns
returns c = let e = c.put_info.ensures.behind in let m = info_most
    c.args.list.now
    c.args.text.now
    (λ i. omega (arith, c.shared_slice_known-1.given i))
    c.args.plen
    c.args.name.now
    c.args.order.now
    c.requires.0
    c.requires.1
    (omega (arith, c.ranges.plen)) (omega arith) in (omega arith, omega arith)

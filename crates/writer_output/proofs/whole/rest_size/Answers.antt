use Rattle.std.proofs.Common.{arith}
use Rattle.writer_output.specs.BoundLaws.{rest_most}
use Rattle.writer_output.proofs.whole.rest_size.Goals as goal

pub put_rest-requires : goal.put_rest-requires
put_rest-requires c = (
  c.requires.0,
  let m = rest_most c.args.list.now
      c.args.text.now (λ i. omega (arith, c.shared_slice_known-1.given i))
      c.args.order.now c.requires.1 in omega arith,
)

pub returns : goal.returns
returns c = let e = c.put_rest.ensures.behind in let m = rest_most c.args.list.now
    c.args.text.now
    (λ i. omega (arith, c.shared_slice_known-1.given i))
    c.args.order.now c.requires.1 in
    (omega arith, omega arith)

use Rattle.std.proofs.Common.{arith}
use Rattle.writer_output.specs.PutLaws.{string_length, put_three}
use Rattle.writer_output.proofs.plain.put_string.Goals as goal

pub put_decimal-colon-requires : goal.put_decimal-colon-requires
put_decimal-colon-requires c = omega (arith, string_length c.args.bytes.now, c.requires)

pub put_byte-start-requires : goal.put_byte-start-requires
put_byte-start-requires c = let e = c.put_decimal-colon.ensures.behind in omega (
  arith,
  string_length c.args.bytes.now,
  c.requires,
)

pub put_bytes-requires : goal.put_bytes-requires
put_bytes-requires c = let e = c.put_decimal-colon.ensures.behind in let f =
    c.put_byte-start.ensures.behind in omega (
      arith,
      string_length c.args.bytes.now,
      c.requires,
    )

pub returns : goal.returns
returns c = put_three _ _ _ _ _ _ _ _ _ _ _ c.put_decimal-colon.ensures c.put_byte-start.ensures
    c.put_bytes.ensures c.put_decimal-colon.auto.out
    c.put_byte-start.auto.out

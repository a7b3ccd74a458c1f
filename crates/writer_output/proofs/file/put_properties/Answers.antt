use Rattle.std.proofs.Common.{arith}
use Rattle.writer_output.specs.FilesLaws.{properties_least, full_length, put_empty, put_full}
use Rattle.writer_output.proofs.file.put_properties.Goals as goal

pub put_bytes-number-requires : goal.put_bytes-number-requires
put_bytes-number-requires c = omega (
  arith,
  properties_least c.args.size c.args.root.now,
  c.requires,
)

pub put_decimal-behind-requires : goal.put_decimal-behind-requires
put_decimal-behind-requires c = let e = c.put_bytes-number.ensures.behind in omega (
  arith,
  properties_least c.args.size
      c.args.root.now,
  c.requires,
)

pub put_bytes-requires : goal.put_bytes-requires
put_bytes-requires c = let e = c.put_bytes-number.ensures.behind in let f =
    c.put_decimal-behind.ensures.behind in omega (
      arith,
      properties_least c.args.size c.args.root.now,
      c.requires,
    )

pub returns-then-size-eq0 : goal.returns-then-size-eq0
returns-then-size-eq0 c = put_empty _ _ _ _ _ _ _ _ c.args.size
    c.args.root.now
    c.if-size-eq0.true c.put_bytes-number.ensures
    c.put_decimal-behind.ensures c.put_bytes.ensures
    c.put_bytes-number.auto.out c.put_decimal-behind.auto.out

pub put_bytes-value-requires : goal.put_bytes-value-requires
put_bytes-value-requires c = let e = c.put_bytes-number.ensures.behind in let f =
    c.put_decimal-behind.ensures.behind in omega (
      arith,
      full_length c.args.size c.args.root.now
          c.if-size-eq0.false,
      c.requires,
    )

pub put_string-end-requires : goal.put_string-end-requires
put_string-end-requires c = let e = c.put_bytes-number.ensures.behind in let f =
    c.put_decimal-behind.ensures.behind in let g =
    c.put_bytes-value.ensures.behind in omega (
      arith,
      full_length c.args.size
          c.args.root.now
          c.if-size-eq0.false,
      c.requires,
    )

pub put_byte-requires : goal.put_byte-requires
put_byte-requires c = let e = c.put_bytes-number.ensures.behind in let f =
    c.put_decimal-behind.ensures.behind in let g =
    c.put_bytes-value.ensures.behind in let h =
    c.put_string-end.ensures.behind in omega (
      arith,
      full_length c.args.size c.args.root.now c.if-size-eq0.false,
      c.requires,
    )

pub returns : goal.returns
returns c = put_full _ _ _ _ _ _ _ _ _ _ _ _ c.args.size
    c.args.root.now c.if-size-eq0.false
    c.put_bytes-number.ensures c.put_decimal-behind.ensures c.put_bytes-value.ensures
    c.put_string-end.ensures c.put_byte.ensures
    c.put_bytes-number.auto.out c.put_decimal-behind.auto.out c.put_bytes-value.auto.out
    c.put_string-end.auto.out

use Rattle.std.proofs.Common.{List, arith, length, ap, ℕ, ◌≤◌}
use Rattle.writer_output.specs.PutLaws.{decimal_one, put_digit, digits_room, put_digits}
use Rattle.writer_output.proofs.plain.+put_decimal.Goals as goal

pub put_byte-requires : goal.put_byte-requires
put_byte-requires t c = let e = ap (λ (l : List ℕ). length l) (decimal_one c.args.number c.if-number-lt10.true) in omega
    (arith, c.requires)

pub returns-then-number-lt10 : goal.returns-then-number-lt10
returns-then-number-lt10 t c = put_digit _ _ _ _ _ c.if-number-lt10.true c.put_byte.ensures

pub put_decimal-last-requires : goal.put_decimal-last-requires
put_decimal-last-requires t c = let h : 10 ≤ c.args.number = c.if-number-lt10.false in let e = c.decreases in (
  omega arith,
  (digits_room c.args.at c.args.number _ h
      c.requires).0,
)

pub put_byte-requires-2 : goal.put_byte-requires-2
put_byte-requires-2 t c = let e = c.put_decimal-last.ensures.behind in let g = (digits_room
    c.args.at
    c.args.number _ c.if-number-lt10.false
    c.requires).1 in omega arith

pub returns : goal.returns
returns t c = put_digits _ _ _ _ _ _ _ c.if-number-lt10.false
    c.put_decimal-last.ensures c.put_byte-2.ensures
    c.put_decimal-last.auto.out

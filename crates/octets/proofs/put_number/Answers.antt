use Rattle.std.proofs.Common.{arith, ◌<◌}
use Rattle.octets.proofs.Digits.{written_none, rest_none, written_more, rest_more, written_all}
use Rattle.octets.proofs.put_number.Goals as goal

pub loop-i-init : goal.loop-i-init
loop-i-init c = let a = c.args in
    (rest_none a.size a.number, written_none a.bytes.now a.at a.size a.number)

pub loop-i-preserved : goal.loop-i-preserved
loop-i-preserved c = let a = c.args in
    let l = c.loop-i in
    let p : 0 < l.i = omega arith in (
      rest_more a.size a.number l.i l.rest p (omega arith) l.invariant.0,
      written_more a.bytes.now l.bytes a.at a.size a.number l.i l.rest p (omega arith) c.requires.0 l.invariant.0 l.invariant.1,
    )

pub returns : goal.returns
returns c = let a = c.args in
    let l = c.loop-i in
    written_all a.bytes.now l.bytes a.at a.size a.number l.i (omega arith) l.invariant.1

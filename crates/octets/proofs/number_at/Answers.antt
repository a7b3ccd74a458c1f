use Rattle.std.proofs.Common.{arith, ◌≡◌, rules}
use Rattle.octets.proofs.Digits.{digit_below, digit_fits, digit_more}
use Rattle.octets.specs.Octets.{number_at}
use Rattle.octets.proofs.number_at.Goals as goal

pub loop-i-init : goal.loop-i-init
unfolding number_at
loop-i-init c = search rules

pub overflow_mul-x : goal.overflow_mul-x
overflow_mul-x c = let l = c.loop-i in
    let w = c.wide-b in
    let k = c.args.size in
    record { fits = omega (arith, digit_fits l.x w.result l.i k l.invariant.1 w.ensures.1 (omega arith) (omega arith)) }

pub overflow_add-x : goal.overflow_add-x
overflow_add-x c = let l = c.loop-i in
    let w = c.wide-b in
    let k = c.args.size in
    record { fits = digit_fits l.x w.result l.i k l.invariant.1 w.ensures.1 (omega arith) (omega arith) }

pub loop-i-preserved : goal.loop-i-preserved
loop-i-preserved c = let l = c.loop-i in
    let w = c.wide-b in
    let a = c.args in
    (digit_more a.bytes.now a.at l.i l.x w.result l.invariant.0 w.ensures.0, digit_below l.x w.result l.i l.invariant.1 w.ensures.1)

pub returns : goal.returns
returns c = let l = c.loop-i in
    let e : l.i ≡ c.args.size = omega arith in
    (rw e at l.invariant.0, rw e at l.invariant.1)

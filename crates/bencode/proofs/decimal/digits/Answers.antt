-- The digits passed are in n: what is left, read with n before it, gives what the whole gives. Once n is past a tenth of 2^63 one digit more passes the bound, and no further digit brings the number back.
use Rattle.std.proofs.Common.{le-leb, arith, refl, ap, sym, ◌∙◌}
use Rattle.bencode.proofs.Reading.{digits_end, digits_over, digits_stop, digits_low, digits_high, digits_more}
use Rattle.std.proofs.lemmas.Bool.{lt-leb}
use Rattle.bencode.specs.Scalar.{bounded}
use Rattle.bencode.proofs.decimal.digits.Goals as goal

pub loop-i-init : goal.loop-i-init
loop-i-init c = refl

pub returns-then-n-le-BOUND : goal.returns-then-n-le-BOUND
returns-then-n-le-BOUND c = sym (ap bounded (c.loop-i.invariant ∙ digits_stop _ _ _ _ c.loop-i-test.true c.if-c-stop.true) ∙ simp (le-leb _ _ c.if-n-le-BOUND.true))

pub returns-then-c-stop : goal.returns-then-c-stop
returns-then-c-stop c = sym (ap bounded (c.loop-i.invariant ∙ digits_stop _ _ _ _ c.loop-i-test.true c.if-c-stop.true) ∙ simp (lt-leb _ _ c.if-n-le-BOUND.false))

pub returns-then-c-lt48 : goal.returns-then-c-lt48
returns-then-c-lt48 c = sym (ap bounded (c.loop-i.invariant ∙ digits_low _ _ _ _ c.loop-i-test.true c.if-c-stop.false c.if-c-lt48.true))

pub returns-then-c-gt57 : goal.returns-then-c-gt57
returns-then-c-gt57 c = sym (ap bounded (c.loop-i.invariant ∙ digits_high _ _ _ _ c.loop-i-test.true c.if-c-stop.false c.if-c-lt48.false c.if-c-gt57.true))

pub returns-then-n-gt-TENTH : goal.returns-then-n-gt-TENTH
returns-then-n-gt-TENTH c = sym
    (ap bounded (c.loop-i.invariant ∙ digits_more _ _ _ _ c.loop-i-test.true c.if-c-stop.false c.if-c-lt48.false c.if-c-gt57.false)
    ∙ digits_over _ _ _ _ (omega arith))

pub overflow_sub-n : goal.overflow_sub-n
overflow_sub-n c = omega arith

pub overflow_add-n : goal.overflow_add-n
overflow_add-n c = omega arith

pub loop-i-preserved : goal.loop-i-preserved
loop-i-preserved c = c.loop-i.invariant ∙ digits_more _ _ _ _ c.loop-i-test.true c.if-c-stop.false c.if-c-lt48.false c.if-c-gt57.false ∙ cc

pub returns : goal.returns
returns c = sym (ap bounded (c.loop-i.invariant ∙ digits_end _ _ _ _ c.loop-i-test.false))

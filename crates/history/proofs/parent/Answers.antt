use Rattle.std.proofs.Common.{eq-eqb, ne_eqb, ◌%◌, sym}
use Rattle.history.proofs.parent.Goals as goal

pub returns-then-i-eq1 : goal.returns-then-i-eq1
returns-then-i-eq1 c = sym (rw (eq-eqb (c.args.i % 2) 1 c.if-i-eq1.true) (sym c.pair.ensures))

pub returns : goal.returns
returns c = sym (rw (ne_eqb (c.args.i % 2) 1 c.if-i-eq1.false) (sym c.pair-2.ensures))

use Rattle.std.proofs.Common.{eq-eqb, ne_eqb, lt-ltb, le-ltb}
use Rattle.stream.specs.Reading.{fitting}
use Rattle.stream.proofs.fitting.Goals as goal

pub returns-then-n-l : goal.returns-then-n-l
unfolding fitting
returns-then-n-l c = rw (eq-eqb c.args.chosen 0 c.if-chosen-eq-STORING.true, lt-ltb c.args.n c.args.l c.if-n-l.true)

pub returns-then-chosen-eq-STORING : goal.returns-then-chosen-eq-STORING
unfolding fitting
returns-then-chosen-eq-STORING c = rw (eq-eqb c.args.chosen 0 c.if-chosen-eq-STORING.true, le-ltb c.args.n c.args.l c.if-n-l.false)

pub returns : goal.returns
unfolding fitting
returns c = rw (ne_eqb c.args.chosen 0 c.if-chosen-eq-STORING.false)

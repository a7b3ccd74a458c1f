use Rattle.std.proofs.Common.{eq-eqb, ne_eqb}
use Rattle.stream.specs.Reading.{usable_prefix}
use Rattle.stream.proofs.usable_prefix.Goals as goal

pub returns-then-before-ne0 : goal.returns-then-before-ne0
unfolding usable_prefix
returns-then-before-ne0 c = rw (ne_eqb c.args.before.read 0 c.if-before-ne0.true)

pub returns-then-before-ne-STORING : goal.returns-then-before-ne-STORING
unfolding usable_prefix
returns-then-before-ne-STORING c = rw (eq-eqb c.args.before.read 0 c.if-before-ne0.false, ne_eqb c.args.before.mode 0 c.if-before-ne-STORING.true)

pub returns : goal.returns
unfolding usable_prefix
returns c = rw (eq-eqb c.args.before.read 0 c.if-before-ne0.false, eq-eqb c.args.before.mode 0 c.if-before-ne-STORING.false) c.within.ensures

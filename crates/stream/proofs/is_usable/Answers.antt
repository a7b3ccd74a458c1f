use Rattle.std.proofs.Common.{eq-eqb, ne_eqb, lt-ltb, le-ltb}
use Rattle.stream.specs.Reading.{usable}
use Rattle.stream.proofs.is_usable.Goals as goal

pub returns-then-before-lt4 : goal.returns-then-before-lt4
unfolding usable
returns-then-before-lt4 c = rw (lt-ltb c.args.before.length_size 4 c.if-before-lt4.true) c.usable_prefix.ensures

pub returns-then-before-ne4 : goal.returns-then-before-ne4
unfolding usable
returns-then-before-ne4 c = rw (le-ltb c.args.before.length_size 4 c.if-before-lt4.false, ne_eqb c.args.before.length_size 4 c.if-before-ne4.true)

pub returns-then-before-ne0 : goal.returns-then-before-ne0
unfolding usable
returns-then-before-ne0 c = rw
    (le-ltb c.args.before.length_size 4 c.if-before-lt4.false, eq-eqb c.args.before.length_size 4 c.if-before-ne4.false, eq-eqb c.args.before.mode 4 c.if-before-eq-REFUSING.true, ne_eqb c.args.before.read 0 c.if-before-ne0.true)

pub returns-then-before-eq-REFUSING : goal.returns-then-before-eq-REFUSING
unfolding usable
returns-then-before-eq-REFUSING c = rw
    (le-ltb c.args.before.length_size 4 c.if-before-lt4.false, eq-eqb c.args.before.length_size 4 c.if-before-ne4.false, eq-eqb c.args.before.mode 4 c.if-before-eq-REFUSING.true, eq-eqb c.args.before.read 0 c.if-before-ne0.false)

pub returns : goal.returns
unfolding usable
returns c = rw
    (le-ltb c.args.before.length_size 4 c.if-before-lt4.false, eq-eqb c.args.before.length_size 4 c.if-before-ne4.false, ne_eqb c.args.before.mode 4 c.if-before-eq-REFUSING.false)
    c.usable_frame.ensures

use Rattle.std.proofs.Common.{eq-eqb, ne_eqb, lt-ltb, le-ltb, le-leb, arith}
use Rattle.std.proofs.lemmas.Bool.{lt-leb}
use Rattle.stream.specs.Reading.{usable_frame}
use Rattle.stream.proofs.usable_frame.Goals as goal

pub returns-then-before-gt-LONGEST_FRAME : goal.returns-then-before-gt-LONGEST_FRAME
unfolding usable_frame
returns-then-before-gt-LONGEST_FRAME c = rw (lt-leb c.args.before.length 300000 c.if-before-gt-LONGEST_FRAME.true)

pub returns-then-before : goal.returns-then-before
unfolding usable_frame
returns-then-before c = rw
    (le-leb c.args.before.length 300000 c.if-before-gt-LONGEST_FRAME.false, le-ltb c.args.before.read c.args.before.length c.if-before.true)

pub returns-then-before-eq-STORING : goal.returns-then-before-eq-STORING
unfolding usable_frame
returns-then-before-eq-STORING c = rw
    (le-leb c.args.before.length 300000 c.if-before-gt-LONGEST_FRAME.false, lt-ltb c.args.before.read c.args.before.length c.if-before.false, eq-eqb c.args.before.mode 0 c.if-before-eq-STORING.true)

pub returns-then-before-eq0 : goal.returns-then-before-eq0
unfolding usable_frame
returns-then-before-eq0 c = rw
    (le-leb c.args.before.length 300000 c.if-before-gt-LONGEST_FRAME.false, lt-ltb c.args.before.read c.args.before.length c.if-before.false, ne_eqb c.args.before.mode 0 c.if-before-eq-STORING.false, le-ltb 0 c.args.before.read (omega (arith, c.if-before-eq0.true)))

pub returns : goal.returns
unfolding usable_frame
returns c = rw
    (le-leb c.args.before.length 300000 c.if-before-gt-LONGEST_FRAME.false, lt-ltb c.args.before.read c.args.before.length c.if-before.false, ne_eqb c.args.before.mode 0 c.if-before-eq-STORING.false, lt-ltb 0 c.args.before.read (let g = c.if-before-eq0.false in omega (arith, g)))

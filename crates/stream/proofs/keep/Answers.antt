use Rattle.std.proofs.Common.{eq-eqb, ne_eqb}
use Rattle.stream.specs.Reading.{kept}
use Rattle.stream.proofs.keep.Goals as goal

pub put_bytes-requires : goal.put_bytes-requires
put_bytes-requires c = c.requires c.if-mode-eq-STORING.true

pub returns-then-mode-eq-STORING : goal.returns-then-mode-eq-STORING
unfolding kept
returns-then-mode-eq-STORING c = rw (eq-eqb c.args.mode 0 c.if-mode-eq-STORING.true) c.put_bytes.ensures

pub returns-else-mode-eq-STORING : goal.returns-else-mode-eq-STORING
unfolding kept
returns-else-mode-eq-STORING c = rw (ne_eqb c.args.mode 0 c.if-mode-eq-STORING.false)

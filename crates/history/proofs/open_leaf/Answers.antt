use Rattle.std.proofs.Common.{eq-eqb, ne_eqb, ◌%◌, sym}
use Rattle.tree.specs.Geometry.{block_length}
use Rattle.octets.specs.Octets.{zero_hash}
use Rattle.history.specs.Growing.{open_leaf}
use Rattle.history.proofs.open_leaf.Goals as goal

pub returns-then-history-eq0 : goal.returns-then-history-eq0
unfolding open_leaf zero_hash
returns-then-history-eq0 c = sym (rw (eq-eqb (c.args.history.length % block_length) 0 c.if-history-eq0.true))

pub returns : goal.returns
unfolding open_leaf
returns c = sym (rw (ne_eqb (c.args.history.length % block_length) 0 c.if-history-eq0.false) (sym c.hash_of.ensures))

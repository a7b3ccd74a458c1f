-- Before the end of the run the hash is read, after it the given value is taken.
-- Assumes nothing.
use Rattle.std.proofs.Common.{arith, ◌*◌, length, ap, sym, ◌∙◌}
use Rattle.octets.specs.OctetsLaws.{cut_length}
use Rattle.heaps.proofs.leaf_in.Goals as goal

pub returns-then-i-c : goal.returns-then-i-c
returns-then-i-c c = (c.well_formed.1.0.1.0.1, λ leaf o. sym (o.beyond c.args.i c.if-i-c.true))

pub returns : goal.returns
returns c = let a = c.args in (
  ap length c.hash_at.ensures ∙ cut_length a.run.now (32 * a.i) 32 (omega arith),
  λ leaf o. c.hash_at.ensures ∙ sym (o.within a.i (omega arith)),
)

use Rattle.std.proofs.Common.{sym, ◌∙◌}
use Rattle.octets.specs.Octets.{zero_hash}
use Rattle.running.specs.BurstsLaws.{possible_says, end_impossible, end_done}
use Rattle.running.proofs.end.Goals as goal

pub hash_of-hash-requires : goal.hash_of-hash-requires
hash_of-hash-requires c = (possible_says c.args.hashing.tail_size c.args.hashing.total (sym c.is_possible.ensures ∙ c.if-is_possible.true)).1

pub returns-then-is_possible : goal.returns-then-is_possible
returns-then-is_possible c = end_done c.args.hashing c.hash_of-hash.result (sym c.is_possible.ensures ∙ c.if-is_possible.true) c.hash_of-hash.ensures

pub returns : goal.returns
unfolding zero_hash
returns c = end_impossible c.args.hashing (sym c.is_possible.ensures ∙ c.if-is_possible.false)

-- The table is the rule's.
-- Assumes nothing.
use Rattle.sha256.proofs.PairTable.{pair_table, pair_table_rule}
use Rattle.sha256.proofs.pair_sums.Goals as goal

pub returns : goal.returns
unfolding pair_table
returns c = pair_table_rule

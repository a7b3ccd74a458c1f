-- The table is the rule's.
-- Assumes nothing.
use Rattle.constants.proofs.Table.{start_table, start_table_rule}
use Rattle.constants.proofs.start_words.Goals as goal

pub returns : goal.returns
unfolding start_table
returns c = start_table_rule

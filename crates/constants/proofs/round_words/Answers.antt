-- The table is the rule's.
-- Assumes nothing.
use Rattle.constants.proofs.Table.{round_table, round_table_rule}
use Rattle.constants.proofs.round_words.Goals as goal

pub returns : goal.returns
unfolding round_table
returns c = round_table_rule

-- Each test that returns is one conjunct of the definition that fails; the last call decides the last one.
use Rattle.std.proofs.Common.{arith, ◌∙◌}
use Rattle.store.specs.StoreLaws.{range_none, range_long, range_piece}
use Rattle.store.proofs.facts_in_range.Goals as goal

pub returns-then-length-lt1 : goal.returns-then-length-lt1
returns-then-length-lt1 c = range_none _ _ c.if-length-lt1.true

pub returns-then-length-gt-LONGEST_FILE : goal.returns-then-length-gt-LONGEST_FILE
returns-then-length-gt-LONGEST_FILE c = range_long _ _ (omega arith) (omega (arith, c.if-length-gt-LONGEST_FILE.true))

pub returns : goal.returns
returns c = c.is_piece_length.ensures ∙ range_piece _ _ (omega arith) c.if-length-gt-LONGEST_FILE.false

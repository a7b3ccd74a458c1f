use Rattle.std.proofs.Common.{sym, ◌∙◌}
use Rattle.history.proofs.DecidingLaws.{bad_pieces, too_long, other_total, tail_decides}
use Rattle.history.proofs.is_possible.Goals as goal

pub returns-then-n-gt-LONGEST_FILE : goal.returns-then-n-gt-LONGEST_FILE
returns-then-n-gt-LONGEST_FILE c = too_long c.args.history (sym c.is_piece_length.ensures ∙ c.if-is_piece_length.true) c.if-n-gt-LONGEST_FILE.true

pub returns-then-block-n : goal.returns-then-block-n
returns-then-block-n c = other_total c.args.history (sym c.is_piece_length.ensures ∙ c.if-is_piece_length.true) c.if-n-gt-LONGEST_FILE.false c.if-block-n.true

pub returns-then-is_piece_length : goal.returns-then-is_piece_length
returns-then-is_piece_length c = tail_decides c.args.history (sym c.is_piece_length.ensures ∙ c.if-is_piece_length.true) c.if-n-gt-LONGEST_FILE.false c.if-block-n.false

pub returns : goal.returns
returns c = bad_pieces c.args.history (sym c.is_piece_length.ensures ∙ c.if-is_piece_length.false)

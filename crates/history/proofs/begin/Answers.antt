use Rattle.std.proofs.Common.{ℕ, sym, ap, ◌∙◌}
use Rattle.history.specs.Answers.{no_history}
use Rattle.history.specs.declared.HistoryAnswer.{HistoryAnswer}
use Rattle.history.proofs.AnswersLaws.{begin_done, begin_refused}
use Rattle.history.proofs.begin.Goals as goal

pub returns-then-is_piece_length : goal.returns-then-is_piece_length
returns-then-is_piece_length c = begin_done c.args.plen c.begin.result (sym c.is_piece_length.ensures ∙ c.if-is_piece_length.true) c.begin.ensures

numbered : ℕ → HistoryAnswer
numbered n = record { number = n; history = no_history }

pub returns : goal.returns
unfolding no_history numbered
returns c = ap numbered c.from.ensures ∙ begin_refused c.args.plen (sym c.is_piece_length.ensures ∙ c.if-is_piece_length.false)

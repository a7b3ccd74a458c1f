-- The schedule, the round words added, and the rounds by these sums are the standard's block.
-- Assumes nothing.
use Rattle.std.proofs.Common.{List, ℕ, length, take, drop, ap, ◌∙◌}
use Rattle.rounds.specs.SumsLaws.{compress_by_sums}
use Rattle.rounds.specs.Sums.{sums, rounds_by}
use Rattle.rounds.specs.Block.{plus}
use Rattle.rounds.specs.StageLaws.{length_schedule}
use Rattle.rounds.proofs.compress.Goals as goal

pub add_round_words-requires : goal.add_round_words-requires
add_round_words-requires c = ap length c.fill.ensures ∙ length_schedule 48 (take 64 (drop c.args.at c.args.bytes.now))

pub returns : goal.returns
returns c = let a = c.args in
    let m = take 64 (drop a.at a.bytes.now) in
    c.compress_sums.ensures
    ∙ ap (λ (xs : List ℕ). plus a.state (rounds_by xs 64 a.state)) (c.add_round_words.ensures ∙ ap (sums 64 a.k.now) c.fill.ensures)
    ∙ compress_by_sums a.k.now m a.state

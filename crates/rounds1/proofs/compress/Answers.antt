use Rattle.std.proofs.Common.{List, arith, ℕ, ap, ◌∙◌}
use Rattle.rounds1.specs.Block.{plus, rounds, compress}
use Rattle.rounds1.specs.StageLaws.{no_rounds, f_choice, f_parity, f_majority, f_last, word_choice, word_parity, word_majority, word_last}
use Rattle.rounds1.proofs.compress.Goals as goal

pub twenty-t20-requires-clause-by : goal.twenty-t20-requires-clause-by
twenty-t20-requires-clause-by c = (omega arith, λ j g h. record { value = λ x y z r e. e ∙ f_choice j x y z h; word = word_choice j h })

pub twenty-t40-requires-clause-by : goal.twenty-t40-requires-clause-by
twenty-t40-requires-clause-by c = (omega arith, λ j g h. record { value = λ x y z r e. e ∙ f_parity j x y z g h; word = word_parity j g h })

pub twenty-t60-requires-clause-by : goal.twenty-t60-requires-clause-by
twenty-t60-requires-clause-by c = (omega arith, λ j g h. record { value = λ x y z r e. e ∙ f_majority j x y z g h; word = word_majority j g h })

pub twenty-t80-requires-clause-by : goal.twenty-t80-requires-clause-by
twenty-t80-requires-clause-by c = (omega arith, λ j g h. record { value = λ x y z r e. e ∙ f_last j x y z g; word = word_last j g })

pub returns : goal.returns
unfolding compress
returns c = let st = c.args.state in
    let h20 = c.twenty-t20.ensures st (no_rounds _ st) in
    let h40 = c.twenty-t40.ensures st h20 in
    let h60 = c.twenty-t60.ensures st h40 in
    let h80 = c.twenty-t80.ensures st h60 in
    c.sum.ensures ∙ ap (plus st) (h80 ∙ ap (λ (w : List ℕ). rounds w 80 st) c.fill.ensures)

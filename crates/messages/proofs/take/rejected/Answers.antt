use Rattle.std.proofs.Common.{Bool, rules, arith, ap, sym, ◌∙◌}
use Rattle.numbers.specs.Numbers.{refused}
use Rattle.messages.specs.Take.{reject_answer, header_number}
use Rattle.messages.specs.TakeLaws.{reject_form}
use Rattle.messages.proofs.take.rejected.Goals as goal

pub check_header-requires : goal.check_header-requires
check_header-requires c = λ e. omega (arith, reject_form c.args.message.now (sym c.is_reject-form.ensures ∙ e))

pub returns-in_err-check_header : goal.returns-in_err-check_header
unfolding reject_answer
returns-in_err-check_header c = let a = c.args in
    let w = ap refused (c.in_err-check_header.ensures ∙ ap (λ (t : Bool). header_number t a.store.now a.message.now) c.is_reject-form.ensures) in
    search (rules, w)

pub returns : goal.returns
unfolding reject_answer
returns c = let a = c.args in
    ap refused (c.in_ok-check_header.ensures ∙ ap (λ (t : Bool). header_number t a.store.now a.message.now) c.is_reject-form.ensures)

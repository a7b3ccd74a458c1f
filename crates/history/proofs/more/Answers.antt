use Rattle.std.proofs.Common.{length, ◌≡◌, sym, ◌∙◌}
use Rattle.numbers.specs.Refusals.{refused_is_some}
use Rattle.history.proofs.DecidingLaws.{number_says, more_taken, layer_taken, more_refused, layer_refused}
use Rattle.history.proofs.more.Goals as goal

pub run-requires : goal.run-requires
run-requires c = number_says c.args.before (length c.args.burst.now) (length c.args.layer.now) (sym c.in-Ok.ensures)

pub returns-in-Ok : goal.returns-in-Ok
returns-in-Ok c = let a = c.args in
    (more_taken a.before c.run.result a.burst.now a.layer.now c.in-Ok.ensures c.run.ensures.0, layer_taken a.before a.burst.now a.layer.now c.run.new.layer c.in-Ok.ensures c.run.ensures.1)

pub returns-in-Err : goal.returns-in-Err
returns-in-Err c = let a = c.args in
    let e = c.from.ensures ∙ c.in-Err.ensures in
    let some : c.from.result ≡ 0 → ⊥ = λ z. refused_is_some c.in-Err.why (sym c.from.ensures ∙ z) in
    (more_refused a.before a.burst.now a.layer.now c.from.result e some, layer_refused a.before a.burst.now a.layer.now c.from.result e some)

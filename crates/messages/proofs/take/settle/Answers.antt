use Rattle.std.proofs.Common.{rules, refl, ◌∙◌}
use Rattle.numbers.specs.Refusals.{refused_is_some}
use Rattle.messages.specs.Take.{settled}
use Rattle.messages.specs.Asks.{compared}
use Rattle.messages.proofs.Taking.{answer_refused, answer_done}
use Rattle.messages.proofs.take.settle.Goals as goal

pub compare-requires : goal.compare-requires
compare-requires c = c.requires

pub returns-in_err-compare : goal.returns-in_err-compare
returns-in_err-compare c = let a = c.args in
    let w = answer_refused (compared a.store.now a.message.now a.place a.a) a.store.now (settled a.message.now a.place) _ c.in_err-compare.ensures.0 (refused_is_some _) in
    search (rules, w)

pub write-c-requires : goal.write-c-requires
write-c-requires c = (c.requires.0, c.compare.auto.room ∙ c.requires.2, c.in_ok-compare.ensures.1)

pub returns : goal.returns
returns c = let a = c.args in
    answer_done (compared a.store.now a.message.now a.place a.a) a.store.now (settled a.message.now a.place) 0 _ _ c.in_ok-compare.ensures.0 refl c.write-c.ensures

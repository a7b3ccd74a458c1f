use Rattle.std.proofs.Common.{arith, length, refl, rules}
use Rattle.messages.specs.Take.{settled, anchor, anchored}
use Rattle.messages.specs.Asks.{compared}
use Rattle.numbers.specs.Numbers.{no_anchor}
use Rattle.messages.proofs.Taking.{ready_anchor, anchor_lacks, anchor_there, answer_refused, answer_same}
use Rattle.messages.proofs.take.take_anchored.Goals as goal

pub held-requires : goal.held-requires
held-requires c = let a = c.args in
    ready_anchor (length a.store.now) a.message.now a.header a.place c.requires _ c.ancestor-a.ensures

pub returns-then-not-held : goal.returns-then-not-held
returns-then-not-held c = let a = c.args in
    let e = anchor_lacks a.store.now a.message.now a.place _ c.ancestor-a.ensures _ c.held.ensures c.if-not-held.true in
    answer_refused (anchored a.store.now a.message.now a.place) a.store.now (settled a.message.now a.place) no_anchor e (λ z. omega arith)

pub settle-requires : goal.settle-requires
unfolding anchor
settle-requires c = search rules

pub returns : goal.returns
returns c = let a = c.args in
    let n = compared a.store.now a.message.now a.place c.ancestor-a.result in
    let e = anchor_there a.store.now a.message.now a.place _ c.ancestor-a.ensures _ c.held.ensures n c.if-not-held.false refl in
    answer_same (anchored a.store.now a.message.now a.place) a.store.now (settled a.message.now a.place) n _ _ e c.settle.ensures

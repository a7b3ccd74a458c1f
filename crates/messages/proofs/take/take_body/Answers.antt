use Rattle.std.proofs.Common.{arith, refl}
use Rattle.messages.specs.Take.{settled, anchored, body_number}
use Rattle.numbers.specs.Numbers.{wrong_size, wrong_padding}
use Rattle.messages.proofs.Taking.{body_4, body_5, body_judged, answer_refused, answer_same}
use Rattle.messages.proofs.take.take_body.Goals as goal

pub returns-then-message-header : goal.returns-then-message-header
returns-then-message-header c = let a = c.args in
    let e = body_4 a.store.now a.message.now a.header a.place c.requires.0 c.if-message-header.true in
    answer_refused (body_number a.store.now a.message.now a.header a.place) a.store.now (settled a.message.now a.place) wrong_size e (λ z. omega arith)

pub returns-then-not-is_padded : goal.returns-then-not-is_padded
returns-then-not-is_padded c = let a = c.args in
    let q = c.requires in
    let e = body_5 a.store.now a.message.now a.header a.place q.0 c.if-message-header.false a.blocks q.2 _ c.is_padded.ensures c.if-not-is_padded.true in
    answer_refused (body_number a.store.now a.message.now a.header a.place) a.store.now (settled a.message.now a.place) wrong_padding e (λ z. omega arith)

pub returns : goal.returns
returns c = let a = c.args in
    let q = c.requires in
    let n = anchored a.store.now a.message.now a.place in
    let e = body_judged a.store.now a.message.now a.header a.place q.0 c.if-message-header.false a.blocks q.2 _ c.is_padded.ensures n c.if-not-is_padded.false refl in
    answer_same (body_number a.store.now a.message.now a.header a.place) a.store.now (settled a.message.now a.place) n _ _ e c.take_anchored.ensures

-- The range test, then the room, decide which case of the two definitions holds; a refusal leaves the bytes.
use Rattle.std.proofs.Common.{rules, arith, refl}
use Rattle.numbers.specs.Refusals.{refused_is_some}
use Rattle.store.proofs.Answers.{open_by, open_short_by, open_size, open_refused}
use Rattle.store.specs.StoreLaws.{store_size_some}
use Rattle.store.proofs.opened.Goals as goal

pub returns-in_err-size-clause-answer : goal.returns-in_err-size-clause-answer
returns-in_err-size-clause-answer c = let w = (open_refused c.args.store.now _ _ c.args.root _ c.in_err-size.ensures (refused_is_some _)).0 in search (rules, w)

pub returns-in_err-size-clause-left : goal.returns-in_err-size-clause-left
returns-in_err-size-clause-left c = (open_refused _ _ _ _ _ c.in_err-size.ensures (refused_is_some _)).1

pub returns-then-store-size-clause-answer : goal.returns-then-store-size-clause-answer
returns-then-store-size-clause-answer c =
    let w = open_size _ _ _ c.in_ok-size.ensures in
    (open_short_by c.args.store.now _ _ _ c.args.root _ w.0 w.1 c.if-store-size.true refl).0

pub returns-then-store-size-clause-left : goal.returns-then-store-size-clause-left
returns-then-store-size-clause-left c =
    let w = open_size _ _ _ c.in_ok-size.ensures in
    (open_short_by c.args.store.now _ _ _ c.args.root _ w.0 w.1 c.if-store-size.true refl).1

pub set_bytes-requires : goal.set_bytes-requires
set_bytes-requires c =
    (omega (arith, (open_size _ _ _ c.in_ok-size.ensures).1, store_size_some c.args.length), c.if-store-size.false)

pub returns : goal.returns
returns c =
    let w = open_size _ _ _ c.in_ok-size.ensures in
    let d = open_by _ _ _ _ _ c.args.root _ w.0 w.1 c.if-store-size.false c.set_bytes.ensures refl in
    record { answer = d.0; left = d.1 }

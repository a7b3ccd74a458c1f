use Rattle.std.proofs.Common.{rules, ◌≡◌, refl, ap, sym, ◌∙◌}
use Rattle.numbers.specs.Refusals.{refused_is_some}
use Rattle.messages.specs.Take.{body_number, place_in}
use Rattle.store.specs.Store.{height_of}
use Rattle.header.specs.Header.{place_of}
use Rattle.header.specs.declared.Header.{Header}
use Rattle.store.specs.StoreLaws.{usable_facts}
use Rattle.messages.proofs.Taking.{took_header, took_body, took}
use Rattle.messages.specs.TakenLaws.{take_refused}
use Rattle.messages.specs.TakeLaws.{hashes_form, placed, passed}
use Rattle.messages.proofs.take.taken.Goals as goal

pub check_header-requires : goal.check_header-requires
check_header-requires c = λ e. hashes_form c.args.message.now (sym c.is_hashes-form.ensures ∙ e)

pub returns-in_err-check_header-clause-answer : goal.returns-in_err-check_header-clause-answer
returns-in_err-check_header-clause-answer c =
    let w = (take_refused c.args.store.now c.args.message.now _ (took_header _ _ _ _ c.is_hashes-form.ensures c.in_err-check_header.ensures (refused_is_some _)) (refused_is_some _)).0 in
    search (rules, w)

pub returns-in_err-check_header-clause-left : goal.returns-in_err-check_header-clause-left
returns-in_err-check_header-clause-left c =
    (take_refused c.args.store.now c.args.message.now _ (took_header _ _ _ _ c.is_hashes-form.ensures c.in_err-check_header.ensures (refused_is_some _)) (refused_is_some _)).1

pub header_of-header-requires : goal.header_of-header-requires
header_of-header-requires c = hashes_form c.args.message.now (sym c.is_hashes-form.ensures ∙ (passed _ _ _ (sym c.in_ok-check_header.ensures)).formed)

pub place_in-place-requires : goal.place_in-place-requires
place_in-place-requires c =
    let P = passed _ _ _ (sym c.in_ok-check_header.ensures) in
    (P.store, c.header_of-header.ensures.1, rw c.header_of-header.ensures.0 P.rules)

pub blocks_of-blocks-requires : goal.blocks_of-blocks-requires
blocks_of-blocks-requires c = (usable_facts _ (passed _ _ _ (sym c.in_ok-check_header.ensures)).store).long

pub take_body-requires : goal.take_body-requires
take_body-requires c =
    let P = passed c.is_hashes-form.result c.args.store.now c.args.message.now (sym c.in_ok-check_header.ensures) in
    let ep : c.place_in-place.result ≡ place_in c.args.store.now c.args.message.now = c.place_in-place.ensures ∙ ap (λ (y : Header). place_of y (height_of c.args.store.now)) c.header_of-header.ensures.0 in (
      rw (c.header_of-header.ensures.0, ep) (placed c.is_hashes-form.result c.args.store.now c.args.message.now P),
      (usable_facts c.args.store.now P.store).room,
      c.blocks_of-blocks.ensures,
    )

pub returns : goal.returns
returns c = let s = c.args.store.now in
    let m = c.args.message.now in
    let form = c.is_hashes-form in
    let x = c.header_of-header in
    let p = c.place_in-place in
    let ep : p.result ≡ place_in s m = p.ensures ∙ ap (λ (y : Header). place_of y (height_of s)) x.ensures.0 in
    let n = body_number s m x.result p.result in
    let d = took s m _ n _ p.result (took_body s m form.result 0 form.ensures c.in_ok-check_header.ensures n x.result p.result refl x.ensures.0 ep refl) ep c.take_body.ensures in
    record { answer = d.0; left = d.1 }

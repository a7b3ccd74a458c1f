-- The root, the rules, then what is held.
use Rattle.std.proofs.Common.{◌≡◌, ap, sym, ◌∙◌, arith}
use Rattle.store.specs.Store.{height_of}
use Rattle.store.specs.StoreLaws.{usable_facts}
use Rattle.header.specs.Header.{place_of}
use Rattle.header.specs.declared.Header.{Header}
use Rattle.messages.specs.Take.{place_in}
use Rattle.messages.specs.TakeLaws.{request_form}
use Rattle.serve.proofs.Answers.{place_reach, number_other_root, number_rule_broken, number_passed, number_held, number_not_held}
use Rattle.serve.proofs.asked.Goals as goal

pub facts_root-requires : goal.facts_root-requires
facts_root-requires c = (usable_facts _ c.requires.0).long

pub hash_at-requires : goal.hash_at-requires
hash_at-requires c = omega (arith, request_form _ c.requires.1)

pub returns-then-not-same : goal.returns-then-not-same
returns-then-not-same c = number_other_root _ _ c.requires.0 c.requires.1 _ _ _ c.facts_root.ensures c.hash_at.ensures c.same.ensures c.if-not-same.true

pub header_of-header-requires : goal.header_of-header-requires
header_of-header-requires c = omega (arith, request_form _ c.requires.1)

pub rules_in-requires : goal.rules_in-requires
rules_in-requires c = (c.requires.0, c.header_of-header.ensures.1)

pub returns-then-not-rules_in : goal.returns-then-not-rules_in
returns-then-not-rules_in c =
    number_rule_broken _ _ c.requires.0 c.requires.1 _ _ _ c.facts_root.ensures c.hash_at.ensures c.same.ensures c.if-not-same.false
    _ _ c.header_of-header.ensures.0 c.rules_in.ensures c.if-not-rules_in.true

pub place_in-place-requires : goal.place_in-place-requires
place_in-place-requires c = (c.requires.0, c.header_of-header.ensures.1, sym c.rules_in.ensures ∙ c.if-not-rules_in.false)

pub all_held-requires : goal.all_held-requires
all_held-requires c =
    let z = number_passed _ _ c.requires.0 c.requires.1 _ _ _ c.facts_root.ensures c.hash_at.ensures c.same.ensures c.if-not-same.false
    _ _ c.header_of-header.ensures.0 c.rules_in.ensures c.if-not-rules_in.false in
    place_reach _ _ z _ (c.place_in-place.ensures ∙ ap (λ (y : Header). place_of y (height_of c.args.store.now)) c.header_of-header.ensures.0)

pub returns-then-not-all_held : goal.returns-then-not-all_held
returns-then-not-all_held c =
    let ep : c.place_in-place.result ≡ place_in c.args.store.now c.args.message.now = c.place_in-place.ensures ∙ ap (λ (y : Header). place_of y (height_of c.args.store.now)) c.header_of-header.ensures.0 in
    number_not_held _ _ c.requires.0 c.requires.1 _ _ _ c.facts_root.ensures c.hash_at.ensures c.same.ensures c.if-not-same.false
    _ _ c.header_of-header.ensures.0 c.rules_in.ensures c.if-not-rules_in.false _ _ ep c.all_held.ensures c.if-not-all_held.true

pub returns : goal.returns
returns c =
    let ep : c.place_in-place.result ≡ place_in c.args.store.now c.args.message.now = c.place_in-place.ensures ∙ ap (λ (y : Header). place_of y (height_of c.args.store.now)) c.header_of-header.ensures.0 in (
      number_held _ _ c.requires.0 c.requires.1 _ _ _ c.facts_root.ensures c.hash_at.ensures c.same.ensures c.if-not-same.false
          _ _ c.header_of-header.ensures.0 c.rules_in.ensures c.if-not-rules_in.false _ _ ep c.all_held.ensures c.if-not-all_held.false,
      ep,
    )

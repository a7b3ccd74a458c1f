-- Each way out is one test of the definition.
use Rattle.std.proofs.Common.{arith}
use Rattle.messages.proofs.Numbers.{first_9, first_1, first_2, first_0}
use Rattle.store.specs.StoreLaws.{usable_long}
use Rattle.messages.proofs.take.check_first.Goals as goal

pub returns-then-not-is_usable : goal.returns-then-not-is_usable
returns-then-not-is_usable c = first_9 _ _ _ _ c.is_usable.ensures c.if-not-is_usable.true

pub returns-then-not-form : goal.returns-then-not-form
returns-then-not-form c = first_1 _ _ c.args.message.now _ c.is_usable.ensures c.if-not-is_usable.false c.if-not-form.true

pub facts_root-requires : goal.facts_root-requires
facts_root-requires c = usable_long _ _ c.is_usable.ensures c.if-not-is_usable.false

pub hash_at-requires : goal.hash_at-requires
hash_at-requires c = omega (arith, c.requires (c.if-not-form.false))

pub returns-then-not-same : goal.returns-then-not-same
returns-then-not-same c =
    first_2 _ _ _ _ c.is_usable.ensures c.if-not-is_usable.false c.if-not-form.false _ _ _ c.facts_root.ensures c.hash_at.ensures c.same.ensures c.if-not-same.true

pub returns : goal.returns
returns c =
    first_0 _ _ _ _ c.is_usable.ensures c.if-not-is_usable.false c.if-not-form.false _ _ _ c.facts_root.ensures c.hash_at.ensures c.same.ensures c.if-not-same.false

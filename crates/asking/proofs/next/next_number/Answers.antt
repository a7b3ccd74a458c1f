-- Each test that fails gives its number; behind all of them it is 0.
use Rattle.std.proofs.Common.{sym, ◌∙◌}
use Rattle.asking.proofs.Answers.{root_room}
use Rattle.asking.proofs.AskingLaws.{number_9, number_3, number_6, says_number}
use Rattle.asking.proofs.next.next_number.Goals as goal

pub returns-then-not-is_usable : goal.returns-then-not-is_usable
returns-then-not-is_usable c = sym (number_9 _ _ (sym c.is_usable.ensures ∙ c.if-not-is_usable.true))

pub layer_asked-requires : goal.layer_asked-requires
layer_asked-requires c = sym c.is_usable.ensures ∙ c.if-not-is_usable.false

pub returns-then-not-layer_asked : goal.returns-then-not-layer_asked
returns-then-not-layer_asked c = sym (number_3 _ _ (sym c.is_usable.ensures ∙ c.if-not-is_usable.false) (sym c.layer_asked.ensures ∙ c.if-not-layer_asked.true))

pub held-requires : goal.held-requires
held-requires c = root_room _ (sym c.is_usable.ensures ∙ c.if-not-is_usable.false)

pub returns-then-not-held : goal.returns-then-not-held
returns-then-not-held c = sym (number_6 _ _ (sym c.is_usable.ensures ∙ c.if-not-is_usable.false) (sym c.layer_asked.ensures ∙ c.if-not-layer_asked.false) (sym c.held.ensures ∙ c.if-not-held.true))

pub returns : goal.returns
returns c = sym (says_number _ _ (sym c.is_usable.ensures ∙ c.if-not-is_usable.false) (sym c.layer_asked.ensures ∙ c.if-not-layer_asked.false) (sym c.held.ensures ∙ c.if-not-held.false))

use Rattle.std.proofs.Common.{sym, ◌∙◌}
use Rattle.filetree.proofs.Reading.{key_inside, token_closed, token_key, token_other, token_node}
use Rattle.filetree.proofs.token.read_token.Goals as goal

pub returns-then-ends_here : goal.returns-then-ends_here
returns-then-ends_here c = sym (token_closed _ _ (sym c.ends_here.ensures ∙ c.if-ends_here.true))

pub overflow_sub-end : goal.overflow_sub-end
overflow_sub-end c = (key_inside _ _ _ _ (sym c.in-Some.ensures)).0

pub element_right-requires : goal.element_right-requires
element_right-requires c = (key_inside _ _ _ _ (sym c.in-Some.ensures)).1

pub returns-then-element_right : goal.returns-then-element_right
returns-then-element_right c = c.node_token.ensures ∙ sym (token_node _ _ (sym c.ends_here.ensures ∙ c.if-ends_here.false) _ _ (sym c.in-Some.ensures) (sym c.element_right.ensures ∙ c.if-element_right.true))

pub returns-in-None : goal.returns-in-None
returns-in-None c = sym (token_key _ _ (sym c.ends_here.ensures ∙ c.if-ends_here.false) _ (sym c.in-None.ensures))

pub returns-else-element_right : goal.returns-else-element_right
returns-else-element_right c = sym (token_other _ _ (sym c.ends_here.ensures ∙ c.if-ends_here.false) _ _ (sym c.in-Some.ensures) (sym c.element_right.ensures ∙ c.if-element_right.false))

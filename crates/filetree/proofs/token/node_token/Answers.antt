use Rattle.std.proofs.Common.{arith, ◌<◌, length, sym, ◌∙◌}
use Rattle.bencode.proofs.Finding.{dictionary_within}
use Rattle.filetree.proofs.Reading.{node_other, node_empty, node_full}
use Rattle.filetree.proofs.token.node_token.Goals as goal

pub overflow_add-at : goal.overflow_add-at
overflow_add-at c = let below : c.args.end < length c.args.tree.now = dictionary_within _ _ (sym c.is_dictionary.ensures ∙ c.if-is_dictionary.true) in omega arith

pub returns-then-ends_here : goal.returns-then-ends_here
returns-then-ends_here c = sym (node_empty _ _ _ (sym c.is_dictionary.ensures ∙ c.if-is_dictionary.true) (sym c.ends_here.ensures ∙ c.if-ends_here.true))

pub returns-then-is_dictionary : goal.returns-then-is_dictionary
returns-then-is_dictionary c = c.first_key.ensures ∙ sym (node_full _ _ _ (sym c.is_dictionary.ensures ∙ c.if-is_dictionary.true) (sym c.ends_here.ensures ∙ c.if-ends_here.false))

pub returns : goal.returns
returns c = sym (node_other _ _ _ (sym c.is_dictionary.ensures ∙ c.if-is_dictionary.false))

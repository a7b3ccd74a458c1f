-- A usable store has the bytes of its facts; each return is one case of the definition.
use Rattle.std.proofs.Common.{sym}
use Rattle.store.specs.StoreLaws.{usable_facts}
use Rattle.facts.specs.FactsLaws.{facts_read, facts_refused}
use Rattle.facts.proofs.read_facts.Goals as goal

pub returns-then-not-is_usable : goal.returns-then-not-is_usable
returns-then-not-is_usable c = sym (facts_refused _ (sym c.if-not-is_usable.ensures))

pub file_length-length-requires : goal.file_length-length-requires
file_length-length-requires c = (usable_facts _ (sym c.if-not-is_usable.ensures)).long

pub piece_length_of-plen-requires : goal.piece_length_of-plen-requires
piece_length_of-plen-requires c = (usable_facts _ (sym c.if-not-is_usable.ensures)).long

pub facts_root-root-requires : goal.facts_root-root-requires
facts_root-root-requires c = (usable_facts _ (sym c.if-not-is_usable.ensures)).long

pub returns : goal.returns
returns c = facts_read _ _ _ _ (sym c.if-not-is_usable.ensures) c.file_length-length.ensures c.piece_length_of-plen.ensures c.facts_root-root.ensures

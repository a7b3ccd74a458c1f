use Rattle.std.proofs.Common.{sym, ◌∙◌}
use Rattle.hybrid.specs.EntryLaws.{path_outside, path_no_list, path_empty, path_names_lem}
use Rattle.hybrid.proofs.path_at.Goals as goal

pub returns-then-bytes-at : goal.returns-then-bytes-at
returns-then-bytes-at c = λ x s. absurd (path_outside _ _ c.if-bytes-at.true x s)

pub returns-then-not-is_list : goal.returns-then-not-is_list
returns-then-not-is_list c = λ x s. path_no_list _ _ (sym c.is_list.ensures ∙ c.if-not-is_list.true) x s

pub returns-then-ends_here : goal.returns-then-ends_here
returns-then-ends_here c = λ x s. path_empty _ _ (sym c.is_list.ensures ∙ c.if-not-is_list.false) (sym c.ends_here.ensures ∙ c.if-ends_here.true) x s

pub returns-then-names_full : goal.returns-then-names_full
returns-then-names_full c = λ x s. (path_names_lem _ _ _ (sym c.is_list.ensures ∙ c.if-not-is_list.false) (sym c.ends_here.ensures ∙ c.if-ends_here.false) c.names_full.ensures x s).0 c.if-names_full.true

pub returns : goal.returns
returns c = λ x s. (path_names_lem _ _ _ (sym c.is_list.ensures ∙ c.if-not-is_list.false) (sym c.ends_here.ensures ∙ c.if-ends_here.false) c.names_full.ensures x s).1 c.if-names_full.false

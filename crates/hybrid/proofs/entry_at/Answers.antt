use Rattle.std.proofs.Common.{true, false, ap, sym, ◌∙◌, Some}
use Rattle.hybrid.specs.EntryLaws.{is_malformed, no_length, bad_attr, entry_reads}
use Rattle.hybrid.proofs.entry_at.Goals as goal

pub returns-in_err-length : goal.returns-in_err-length
returns-in_err-length c = rw (is_malformed _ c.from_residual.ensures.0) (no_length _ _ _ (λ es s. sym c.in_err-length.ensures.ok_part ∙ c.length_of.ensures es s))

pub returns-in_err-attr : goal.returns-in_err-attr
returns-in_err-attr c = rw (is_malformed _ c.from_residual-in_err-attr.ensures.0)
    (bad_attr _ _ _ _ (λ es s. sym c.in_ok-length.ensures.ok_part ∙ c.length_of.ensures es s) (λ es s. sym c.in_err-attr.ensures.ok_part ∙ c.attr_of.ensures es s))

pub returns-in-Plain : goal.returns-in-Plain
returns-in-Plain c = entry_reads _ _ _ _ false c.path_of.result _ (λ es s. sym c.in_ok-length.ensures.ok_part ∙ c.length_of.ensures es s)
    (λ es s. sym (c.in_ok-attr.ensures.ok_part ∙ ap (λ a. Some a) c.in-Plain.is) ∙ c.attr_of.ensures es s) c.path_of.ensures c.with_path.ensures

pub returns-in-Padding : goal.returns-in-Padding
returns-in-Padding c = entry_reads _ _ _ _ true c.path_of-in-Padding.result _ (λ es s. sym c.in_ok-length.ensures.ok_part ∙ c.length_of.ensures es s)
    (λ es s. sym (c.in_ok-attr.ensures.ok_part ∙ ap (λ a. Some a) c.in-Padding.is) ∙ c.attr_of.ensures es s) c.path_of-in-Padding.ensures c.with_path-in-Padding.ensures

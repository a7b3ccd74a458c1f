use Rattle.std.proofs.Common.{arith, ℕ, ◌≡◌, sym, ◌∙◌}
use Rattle.bencode.specs.EndsLaws.{value_ends}
use Rattle.hybrid.specs.EntryLaws.{reads_ended, reads_other, reads_broken, reads_entry}
use Rattle.hybrid.proofs.read_v1.Goals as goal

pub returns-then-ends_here : goal.returns-then-ends_here
returns-then-ends_here c = reads_ended _ _ (sym c.ends_here.ensures ∙ c.if-ends_here.true)

pub returns-then-not-is_dictionary : goal.returns-then-not-is_dictionary
returns-then-not-is_dictionary c = reads_other _ _ (sym c.ends_here.ensures ∙ c.if-ends_here.false) (sym c.is_dictionary.ensures ∙ c.if-not-is_dictionary.true)

pub returns-in-Err : goal.returns-in-Err
returns-in-Err c = reads_broken _ _ (sym c.ends_here.ensures ∙ c.if-ends_here.false) _ (sym c.in-Err.ensures) (λ k e. let z : ◌≡◌ {A = ℕ} 0 1 = cc in omega arith)

pub returns-in-Ok : goal.returns-in-Ok
returns-in-Ok c = let w = sym c.in-Ok.ensures in
    reads_entry _ _ (sym c.ends_here.ensures ∙ c.if-ends_here.false) (sym c.is_dictionary.ensures ∙ c.if-not-is_dictionary.false) _ w (value_ends _ _ _ _ w) _ c.entry_at.ensures

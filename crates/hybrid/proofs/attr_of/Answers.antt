use Rattle.std.proofs.Common.{ap, sym, ◌∙◌}
use Rattle.halves.specs.V1Keys.{key_attr}
use Rattle.hybrid.specs.Entry.{attr_in}
use Rattle.hybrid.specs.EntryLaws.{found_here, found_missing, found_part}
use Rattle.hybrid.proofs.attr_of.Goals as goal

pub returns-in-None : goal.returns-in-None
returns-in-None c = λ es s. ap attr_in (sym (found_missing _ _ _ (found_here _ key_attr _ es s) (sym c.in-None.ensures)))

pub returns-in-Some : goal.returns-in-Some
returns-in-Some c = λ es s.
    let w = found_part _ _ _ _ _ (found_here _ key_attr _ es s) (sym c.in-Some.ensures) in
    c.attr_at.ensures w.0 w.2 ∙ ap attr_in (sym w.1)

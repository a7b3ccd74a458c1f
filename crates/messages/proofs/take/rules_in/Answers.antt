use Rattle.std.proofs.Common.{arith, refl, ◌∙◌}
use Rattle.store.specs.StoreLaws.{usable_facts, facts_height}
use Rattle.messages.proofs.take.rules_in.Goals as goal

pub height_of-requires : goal.height_of-requires
height_of-requires c = (usable_facts c.args.store.now c.requires.0).long

pub keeps_rules-requires : goal.keeps_rules-requires
keeps_rules-requires c = let s = c.args.store.now in
    let pre = c.requires in
    (pre.1, omega (arith, facts_height s (usable_facts s pre.0), c.height_of.ensures))

pub returns : goal.returns
returns c = c.keeps_rules.ensures ∙ rw c.height_of.ensures refl

use Rattle.std.proofs.Common.{arith, ℕ, ap, ◌∙◌}
use Rattle.header.specs.Header.{place_of}
use Rattle.store.specs.StoreLaws.{usable_facts, facts_height}
use Rattle.messages.proofs.take.place_in.Goals as goal

pub height_of-requires : goal.height_of-requires
height_of-requires c = (usable_facts c.args.store.now c.requires.0).long

pub place_of-requires : goal.place_of-requires
place_of-requires c = let f = usable_facts c.args.store.now c.requires.0 in (
  c.requires.1,
  omega (arith, facts_height c.args.store.now f, c.height_of.ensures),
  rw c.height_of.ensures c.requires.2,
)

pub returns : goal.returns
returns c = c.place_of.ensures ∙ ap (λ (h : ℕ). place_of c.args.header h) c.height_of.ensures

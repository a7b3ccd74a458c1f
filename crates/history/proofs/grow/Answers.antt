use Rattle.std.proofs.Common.{[], arith, ℕ, ◌%◌, refl, ap, sym, ◌∙◌}
use Rattle.running.specs.declared.Hashing.{Hashing}
use Rattle.running.specs.BurstsLaws.{state_total, state_tail, absorbed_total}
use Rattle.history.proofs.Steps.{grow_whole, grow_within}
use Rattle.history.proofs.grow.Goals as goal

pub returns-then-now_length-eq0 : goal.returns-then-now_length-eq0
returns-then-now_length-eq0 c = (
  grow_whole c.args.history c.args.part.now c.absorb-block.result c.begin.result c.hash_of-leaf.result c.finish.new.nodes c.requires.0 c.requires.1 c.if-now_length-eq0.true c.absorb-block.ensures.0 c.hash_of-leaf.ensures c.finish.ensures c.begin.ensures,
  refl,
  refl,
  ap (λ (s : Hashing). s.total) c.begin.ensures ∙ state_total [] ∙ sym c.if-now_length-eq0.true,
  ap (λ (s : Hashing). s.tail_size) c.begin.ensures ∙ state_tail [] ∙ sym (ap (λ (s : Hashing). s.total % 64) c.begin.ensures ∙ ap (λ (n : ℕ). n % 64) (state_total [])),
)

pub returns : goal.returns
returns c = (
  grow_within c.args.history c.args.part.now c.absorb-block.result c.requires.0 c.requires.1 c.if-now_length-eq0.false c.absorb-block.ensures.0,
  refl,
  refl,
  ap (λ (s : Hashing). s.total) c.absorb-block.ensures.0 ∙ absorbed_total c.args.history.block c.args.part.now ∙ omega (arith, c.requires.1, c.requires.3, c.if-now_length-eq0.false),
  c.absorb-block.ensures.1,
)

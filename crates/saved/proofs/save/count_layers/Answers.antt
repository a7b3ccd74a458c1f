use Rattle.std.proofs.Common.{arith, ℕ, length, ◌≡◌, ap, ◌∙◌}
use Rattle.saved.proofs.Saving.{layers_start, layers_turn, width_is}
use Rattle.saved.specs.Save.{held_below}
use Rattle.saved.proofs.save.count_layers.Goals as goal

pub loop-l-init : goal.loop-l-init
loop-l-init c = (layers_start _ _, omega arith)

pub overflow_sub-d : goal.overflow_sub-d
overflow_sub-d c = omega (arith, c.requires.1, c.loop-l-test.true)

pub overflow_shl-w : goal.overflow_shl-w
overflow_shl-w c = omega (arith, c.requires.0)

pub count_layer-more-requires : goal.count_layer-more-requires
count_layer-more-requires c = (c.requires.0, omega (arith, c.requires.1, c.loop-l-test.true), omega (arith, width_is c.args.height c.loop-l.l c.requires.0), c.requires.2)

pub overflow_add-n : goal.overflow_add-n
overflow_add-n c = omega (arith, c.loop-l.invariant.1, c.count_layer-more.ensures.1, width_is c.args.height c.loop-l.l c.requires.0, c.requires.0, c.requires.1, c.loop-l-test.true)

pub loop-l-preserved : goal.loop-l-preserved
loop-l-preserved c = let v = layers_turn c.args.store.now c.args.height c.loop-l.l _ _ _ c.requires.0 (width_is c.args.height c.loop-l.l c.requires.0).0 c.loop-l.invariant.0 c.loop-l.invariant.1 c.count_layer-more.ensures.0 c.count_layer-more.ensures.1 in (v.0, v.1)

pub returns : goal.returns
returns c = let e : c.loop-l.l ≡ c.args.upto = omega (arith, c.loop-l-test.false) in (c.loop-l.invariant.0 ∙ ap (λ (k : ℕ). length (held_below c.args.store.now c.args.height k)) e, omega (arith, c.loop-l.invariant.1))

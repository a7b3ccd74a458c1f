use Rattle.std.proofs.Common.{arith, ℕ, length, ◌≡◌, ap, ◌∙◌}
use Rattle.saved.proofs.Saving.{count_start, count_turn}
use Rattle.saved.specs.Save.{layer_held}
use Rattle.saved.proofs.save.count_layer.Goals as goal

pub loop-i-init : goal.loop-i-init
loop-i-init c = (count_start _ _ _, omega arith)

pub held_in-held-requires : goal.held_in-held-requires
held_in-held-requires c = (c.requires.0, c.requires.1, omega (arith, c.requires.2, c.loop-i-test.true), c.requires.3)

pub loop-i-preserved : goal.loop-i-preserved
loop-i-preserved c = let v = count_turn _ _ _ _ _ _ _ c.loop-i.invariant.0 c.loop-i.invariant.1 c.held_in-held.ensures c.one_more-n.ensures in (v.0, v.1)

pub returns : goal.returns
returns c = let e : c.loop-i.i ≡ c.args.w = omega (arith, c.loop-i-test.false) in (c.loop-i.invariant.0 ∙ ap (λ (k : ℕ). length (layer_held c.args.store.now c.args.height c.args.layer k)) e, omega (arith, c.loop-i.invariant.1))

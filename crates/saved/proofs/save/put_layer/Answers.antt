use Rattle.std.proofs.Common.{arith, ℕ, ◌+◌, ◌*◌, length, ◌≡◌, refl, ap, ◌∙◌}
use Rattle.saved.specs.Form.{places_bytes}
use Rattle.saved.proofs.Saving.{layer_begin, layer_turn, layer_grows}
use Rattle.octets.specs.Octets.{pasted}
use Rattle.saved.specs.Save.{layer_held}
use Rattle.saved.proofs.save.put_layer.Goals as goal

pub loop-i-init : goal.loop-i-init
loop-i-init c = let v = layer_begin _ _ _ _ _ in (v.0, v.1, refl)

pub put_held-here-requires : goal.put_held-here-requires
put_held-here-requires c = (c.requires.0, c.requires.1, omega (arith, c.requires.2, c.loop-i-test.true), c.requires.3, omega (arith, c.requires.4, c.loop-i.invariant.0, c.loop-i.invariant.2, layer_grows c.args.store.now c.args.height c.args.layer c.loop-i.i c.args.w c.loop-i-test.true))

pub loop-i-preserved : goal.loop-i-preserved
loop-i-preserved c = let v = layer_turn _ _ _ _ _ _ _ _ _ _ _ c.requires.3 c.requires.2 c.loop-i-test.true c.requires.4 c.loop-i.invariant.0 c.loop-i.invariant.1 c.put_held-here.ensures.0 c.put_held-here.ensures.1 in (v.0, v.1, c.put_held-here.auto.out ∙ c.loop-i.invariant.2)

pub shape_of-out : goal.shape_of-out
shape_of-out c = c.loop-i.invariant.2

pub returns : goal.returns
returns c = let e : c.loop-i.i ≡ c.args.w = omega (arith, c.loop-i-test.false) in (c.loop-i.invariant.0 ∙ ap (λ (k : ℕ). c.args.at + 41 * length (layer_held c.args.store.now c.args.height c.args.layer k)) e, c.loop-i.invariant.1 ∙ ap (λ (k : ℕ). pasted c.args.out.now c.args.at (places_bytes (layer_held c.args.store.now c.args.height c.args.layer k))) e)

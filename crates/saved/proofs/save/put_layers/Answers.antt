use Rattle.std.proofs.Common.{arith, ℕ, ◌+◌, ◌-◌, ◌*◌, ◌%◌, ◌^◌, length, ◌≡◌, refl, ap, ◌∙◌}
use Rattle.saved.specs.Form.{places_bytes}
use Rattle.saved.proofs.Saving.{layers_begin, layers_put, below_grows, width_is}
use Rattle.octets.specs.Octets.{pasted}
use Rattle.saved.specs.Save.{held_below, layer_held}
use Rattle.saved.proofs.save.put_layers.Goals as goal

pub loop-l-init : goal.loop-l-init
loop-l-init c = let v = layers_begin _ _ _ _ in (v.0, v.1, refl)

pub overflow_sub-d : goal.overflow_sub-d
overflow_sub-d c = omega (arith, c.requires.1, c.loop-l-test.true)

pub overflow_shl-w : goal.overflow_shl-w
overflow_shl-w c = omega (arith, c.requires.0)

pub put_layer-here-requires : goal.put_layer-here-requires
put_layer-here-requires c = let w = width_is c.args.height c.loop-l.l c.requires.0 in (c.requires.0, omega (arith, c.requires.1, c.loop-l-test.true), omega (arith, w.0), c.requires.2, (let m : length (layer_held c.args.store.now c.args.height c.loop-l.l ((1 * 2 ^ (c.args.height - c.loop-l.l)) % 18446744073709551616)) ≡ length (layer_held c.args.store.now c.args.height c.loop-l.l (2 ^ (c.args.height - c.loop-l.l))) = ap (λ (k : ℕ). length (layer_held c.args.store.now c.args.height c.loop-l.l k)) w.0 in omega (arith, c.requires.3, c.loop-l.invariant.0, c.loop-l.invariant.2, below_grows c.args.store.now c.args.height c.loop-l.l c.args.upto c.loop-l-test.true)))

pub loop-l-preserved : goal.loop-l-preserved
loop-l-preserved c = let v = layers_put _ _ _ _ _ _ _ _ _ _ _ c.requires.2 c.loop-l-test.true c.requires.3 (width_is c.args.height c.loop-l.l c.requires.0).0 c.loop-l.invariant.0 c.loop-l.invariant.1 c.put_layer-here.ensures.0 c.put_layer-here.ensures.1 in (v.0, v.1, c.put_layer-here.auto.out ∙ c.loop-l.invariant.2)

pub shape_of-out : goal.shape_of-out
shape_of-out c = c.loop-l.invariant.2

pub returns : goal.returns
returns c = let e : c.loop-l.l ≡ c.args.upto = omega (arith, c.loop-l-test.false) in (c.loop-l.invariant.0 ∙ ap (λ (k : ℕ). c.args.at + 41 * length (held_below c.args.store.now c.args.height k)) e, c.loop-l.invariant.1 ∙ ap (λ (k : ℕ). pasted c.args.out.now c.args.at (places_bytes (held_below c.args.store.now c.args.height k))) e)

use Rattle.std.proofs.Common.{arith, ◌≡◌, refl, sym, ◌∙◌}
use Rattle.saved.proofs.Answers.{place_in_tree, put_turn, put_ends}
use Rattle.saved.proofs.LoadLaws.{put_none}
use Rattle.saved.proofs.load.put_places.Goals as goal

pub loop-k-init : goal.loop-k-init
loop-k-init c = (sym (put_none _ _ _), refl)

pub put_place-requires : goal.put_place-requires
put_place-requires c = (c.requires.0, omega (arith, c.requires.1, c.loop-k-test.true), place_in_tree _ _ _ _ c.requires.2 c.loop-k-test.true, omega (arith, c.requires.3, c.loop-k.invariant.1))

pub loop-k-preserved : goal.loop-k-preserved
loop-k-preserved c = (put_turn _ _ _ _ _ _ c.loop-k.invariant.0 c.put_place.ensures, c.put_place.auto.store ∙ c.loop-k.invariant.1)

pub shape_of-store : goal.shape_of-store
shape_of-store c = c.loop-k.invariant.1

pub returns : goal.returns
returns c = put_ends _ _ _ _ _ _ c.loop-k.invariant.0 (let e : c.loop-k.k ≡ c.args.places = omega (arith, c.loop-k-test.false) in e)

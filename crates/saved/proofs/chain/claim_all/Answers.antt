use Rattle.std.proofs.Common.{arith, ◌≡◌, ap, sym, ◌∙◌}
use Rattle.saved.proofs.Answers.{claimed_start}
use Rattle.saved.proofs.Pairs.{claim_turn}
use Rattle.saved.specs.Saved.{claimed}
use Rattle.saved.proofs.chain.claim_all.Goals as goal

pub loop-j-init : goal.loop-j-init
loop-j-init c = (claimed_start _ _ _, omega arith, omega arith, c.requires.4)

pub family_at-two-requires : goal.family_at-two-requires
family_at-two-requires c = (c.requires.0, c.requires.1, c.requires.2, c.loop-j.invariant.1, c.loop-j-test.true, c.requires.3, c.loop-j.invariant.3)

pub claim-n-requires : goal.claim-n-requires
claim-n-requires c = (c.loop-j.invariant.3, omega (arith, c.loop-j.invariant.1, c.loop-j-test.true), c.requires.1)

pub loop-j-preserved : goal.loop-j-preserved
loop-j-preserved c = let w = claim_turn _ _ _ _ _ _ _ c.loop-j.invariant.0 c.loop-j.invariant.1 c.family_at-two.ensures c.claim-n.ensures.0 in (w.0, w.1, omega (arith, c.loop-j-test.true), c.claim-n.ensures.1)

pub shape_of-room : goal.shape_of-room
shape_of-room c = c.loop-j.invariant.3.size ∙ sym c.requires.4.size

pub returns : goal.returns
returns c = let e : c.loop-j.j ≡ c.args.places = omega (arith, c.loop-j-test.false, c.loop-j.invariant.2) in (c.loop-j.invariant.0 ∙ ap (claimed _ _ _) e, omega (arith, c.loop-j.invariant.1, c.loop-j.invariant.2))

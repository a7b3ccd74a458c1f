use Rattle.std.proofs.Common.{arith, ◌≡◌, ap, sym, ◌∙◌}
use Rattle.saved.proofs.Answers.{places_none, places_there, places_rank, places_next, there_in_tree, pow_small}
use Rattle.saved.specs.Form.{places_good}
use Rattle.saved.proofs.form.places_good.Goals as goal

pub loop-k-init : goal.loop-k-init
loop-k-init c = let w = places_none _ _ in (w.0, w.1)

pub place_there-ok-requires : goal.place_there-ok-requires
place_there-ok-requires c = (c.requires.0, omega (arith, c.requires.1))

pub returns-then-not-ok : goal.returns-then-not-ok
returns-then-not-ok c = places_there _ _ _ _ _ c.loop-k-test.true c.place_there-ok.ensures (c.if-not-ok.true)

pub rank_in-rank-requires : goal.rank_in-rank-requires
rank_in-rank-requires c = (c.requires.0, omega (arith, c.requires.1, c.loop-k-test.true), there_in_tree _ _ _ _ c.place_there-ok.ensures (c.if-not-ok.false))

pub returns-then-rank-next : goal.returns-then-rank-next
returns-then-rank-next c = places_rank _ _ _ _ _ _ c.loop-k-test.true c.rank_in-rank.ensures.0 c.loop-k.invariant.1 c.if-rank-next.true

pub overflow_add-next : goal.overflow_add-next
overflow_add-next c = omega (arith, c.rank_in-rank.ensures.1, pow_small _ c.requires.0)

pub loop-k-preserved : goal.loop-k-preserved
loop-k-preserved c = let w = places_next _ _ _ _ _ _ c.loop-k.invariant.0 c.place_there-ok.ensures (c.if-not-ok.false) c.rank_in-rank.ensures.0 c.loop-k.invariant.1 c.if-rank-next.false in (w.0, w.1)

pub returns : goal.returns
returns c = let e : c.loop-k.k ≡ c.args.places = omega (arith, c.loop-k-test.false) in sym (ap (places_good _ _) (sym e) ∙ c.loop-k.invariant.0)

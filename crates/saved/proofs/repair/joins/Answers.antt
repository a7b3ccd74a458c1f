use Rattle.std.proofs.Common.{arith}
use Rattle.store.specs.StoreLaws.{tree_says}
use Rattle.saved.proofs.Answers.{joins_apart, joins_unheld, joins_left, joins_right, joins_made}
use Rattle.saved.proofs.repair.joins.Goals as goal

pub returns-then-not-near : goal.returns-then-not-near
returns-then-not-near c = joins_apart _ _ _ _ _ _ c.neighbours-near.ensures (c.if-not-near.true)

pub returns-then-not-held : goal.returns-then-not-held
returns-then-not-held c = joins_unheld _ _ _ _ _ _ c.neighbours-near.ensures (c.if-not-near.false) _ c.parent_in-up.ensures.0 _ c.held-held.ensures (c.if-not-held.true)

pub pad_right-left-requires : goal.pad_right-left-requires
pad_right-left-requires c = (omega (arith, c.requires.1), c.requires.0, (tree_says _ _ _ c.requires.2).0, c.requires.5)

pub returns-then-not-left : goal.returns-then-not-left
returns-then-not-left c = joins_left _ _ _ _ _ _ c.neighbours-near.ensures (c.if-not-near.false) _ c.parent_in-up.ensures.0 _ c.held-held.ensures (c.if-not-held.false) _ c.pad_right-left.ensures (c.if-not-left.true)

pub pad_right-right-requires : goal.pad_right-right-requires
pad_right-right-requires c = (omega (arith, c.requires.1), c.requires.0, (tree_says _ _ _ c.requires.3).0, c.requires.5)

pub returns-then-not-right : goal.returns-then-not-right
returns-then-not-right c = joins_right _ _ _ _ _ _ c.neighbours-near.ensures (c.if-not-near.false) _ c.parent_in-up.ensures.0 _ c.held-held.ensures (c.if-not-held.false) _ c.pad_right-left.ensures (c.if-not-left.false) _ c.pad_right-right.ensures (c.if-not-right.true)

pub returns : goal.returns
returns c = joins_made _ _ _ _ _ _ c.neighbours-near.ensures (c.if-not-near.false) _ c.parent_in-up.ensures.0 _ c.held-held.ensures (c.if-not-held.false) _ c.pad_right-left.ensures (c.if-not-left.false) _ c.pad_right-right.ensures (c.if-not-right.false) _ _ _ _ _ c.hash_in-x.ensures c.hash_in-y.ensures c.pair-v.ensures c.hash_of-w.ensures c.same.ensures

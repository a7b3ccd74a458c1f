use Rattle.std.proofs.Common.{arith}
use Rattle.saved.proofs.Answers.{family_behind, family_far, family_left, family_right, family_made}
use Rattle.saved.proofs.Pairs.{place_low}
use Rattle.saved.proofs.chain.family_at.Goals as goal

pub returns-then-k-j : goal.returns-then-k-j
returns-then-k-j c = family_behind _ _ _ _ _ c.if-k-j.true

pub returns-then-not-near : goal.returns-then-not-near
returns-then-not-near c = family_far _ _ _ _ _ c.if-k-j.false _ c.children_of-near.ensures (c.if-not-near.true)

pub pad_right-left-requires : goal.pad_right-left-requires
pad_right-left-requires c = (omega (arith, c.requires.1, c.requires.4, c.if-k-j.false), c.requires.0, place_low _ _ _ _ c.requires.2 (omega (arith, c.requires.4, c.if-k-j.false)), c.requires.5)

pub returns-then-not-left : goal.returns-then-not-left
returns-then-not-left c = family_left _ _ _ _ _ c.if-k-j.false _ c.children_of-near.ensures (c.if-not-near.false) _ c.pad_right-left.ensures (c.if-not-left.true)

pub pad_right-right-requires : goal.pad_right-right-requires
pad_right-right-requires c = (omega (arith, c.requires.1, c.requires.4, c.if-k-j.false), c.requires.0, place_low _ _ _ _ c.requires.2 (omega (arith, c.requires.4, c.if-k-j.false)), c.requires.5)

pub returns-then-not-right : goal.returns-then-not-right
returns-then-not-right c = family_right _ _ _ _ _ c.if-k-j.false _ c.children_of-near.ensures (c.if-not-near.false) _ c.pad_right-left.ensures (c.if-not-left.false) _ c.pad_right-right.ensures (c.if-not-right.true)

pub made_by-requires : goal.made_by-requires
made_by-requires c = (c.requires.6, omega (arith, c.if-k-j.false), c.requires.4, c.requires.1)

pub returns : goal.returns
returns c = family_made _ _ _ _ _ c.if-k-j.false _ c.children_of-near.ensures (c.if-not-near.false) _ c.pad_right-left.ensures (c.if-not-left.false) _ c.pad_right-right.ensures (c.if-not-right.false) _ c.made_by.ensures

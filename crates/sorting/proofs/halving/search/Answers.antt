-- What stands before `low` or from `high` on is not the string that is looked for, `Narrowed`.
use Rattle.std.proofs.Common.{arith, ◌+◌, ◌-◌, ◌/◌}
use Rattle.sorting.proofs.Narrowing.{narrowed_start, narrowed_none, narrowed_found, narrowed_up, narrowed_down}
use Rattle.sorting.proofs.Telling.{told_before, told_behind}
use Rattle.sorting.proofs.halving.search.Goals as goal

pub loop-low-init : goal.loop-low-init
loop-low-init c = narrowed_start _ _ _ _

pub precedes_key-requires : goal.precedes_key-requires
precedes_key-requires c = let fit = c.requires.1 (c.loop-low.low + (c.loop-low.high - c.loop-low.low) / 2) (omega arith) in
    omega (arith, c.index-p.ensures, fit)

pub loop-low-preserved-then-precedes_key : goal.loop-low-preserved-then-precedes_key
loop-low-preserved-then-precedes_key c = let l = c.loop-low in
    narrowed_up _ _ _ _ _ _ l.invariant (l.low + (l.high - l.low) / 2) (omega arith) (omega (arith, c.loop-low-test.true)) c.requires.2
    (told_before _ _ _ _ _ _ c.index-p.ensures c.precedes_key.ensures c.if-precedes_key.true)

pub follows_key-requires : goal.follows_key-requires
follows_key-requires c = let fit = c.requires.1 (c.loop-low.low + (c.loop-low.high - c.loop-low.low) / 2) (omega arith) in
    omega (arith, c.index-p.ensures, fit)

pub loop-low-preserved : goal.loop-low-preserved
loop-low-preserved c = let l = c.loop-low in
    narrowed_down _ _ _ _ _ _ l.invariant (l.low + (l.high - l.low) / 2) (omega arith) (omega (arith, c.loop-low-test.true)) c.requires.2
    (told_behind _ _ _ _ _ _ c.index-p.ensures c.follows_key.ensures c.if-follows_key.true)

pub returns-else-follows_key : goal.returns-else-follows_key
returns-else-follows_key c = let l = c.loop-low in
    narrowed_found _ _ _ _ _ _ l.invariant (l.low + (l.high - l.low) / 2) (omega arith) (omega (arith, c.loop-low-test.true))
    (told_before _ _ _ _ _ _ c.index-p.ensures c.precedes_key.ensures c.if-precedes_key.false)
    (told_behind _ _ _ _ _ _ c.index-p.ensures c.follows_key.ensures c.if-follows_key.false)

pub returns : goal.returns
returns c = narrowed_none _ _ _ _ _ _ c.loop-low.invariant c.loop-low-test.false

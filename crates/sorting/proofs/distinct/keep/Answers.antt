use Rattle.std.proofs.Common.{arith, ◌-◌}
use Rattle.sorting.proofs.Telling.{told}
use Rattle.sorting.proofs.Thinning.{kept_one, kept_none}
use Rattle.sorting.proofs.distinct.keep.Goals as goal

pub before-requires : goal.before-requires
before-requires c = let n = c.args.i in
    let k = c.args.kept in
    let some = c.requires.1 in
    let order = c.requires.2 in
    let inside = c.requires.3 in
    let low = c.requires.0 (k - 1) (omega arith) in
    let high = c.requires.0 n inside in
    (omega (arith, c.index-p.ensures, low), omega (arith, c.index-q.ensures, high))

pub returns-then-before : goal.returns-then-before
returns-then-before c = kept_one _ c.args.at.now _ _ _ (told _ _ _ _ _ _ _ c.index-p.ensures c.index-q.ensures c.before-2.ensures c.if-before.true)

pub returns : goal.returns
returns c = kept_none _ c.args.at.now _ _ _ (told _ _ _ _ _ _ _ c.index-p.ensures c.index-q.ensures c.before-2.ensures c.if-before.false)

use Rattle.std.proofs.Common.{arith, length, ◌≡◌, refl, ap, ◌∙◌, rules}
use Rattle.lanes.proofs.Filling.{filled_none, filled_one}
use Rattle.saved.proofs.Pairs.{hash_length}
use Rattle.saved.proofs.chain.gathered.Goals as goal

pub loop-x-init : goal.loop-x-init
loop-x-init c = (filled_none _ 512 _ refl)

pub overflow_add-place : goal.overflow_add-place
overflow_add-place c = let w = c.requires in search rules

pub hash_in-hash-requires : goal.hash_in-hash-requires
hash_in-hash-requires c = omega (arith, c.requires, c.loop-x-test.true)

pub loop-x-preserved : goal.loop-x-preserved
loop-x-preserved c = let l = c.loop-x in
    let e = c.hash_in-hash.ensures in
    let n = ap length e ∙ hash_length _ _ (omega (arith, c.requires, c.loop-x-test.true)) in
    (filled_one _ 512 l.x l.row _ _ l.invariant (omega (arith, c.loop-x-test.true)) n e c.put_hash.ensures)

pub returns : goal.returns
returns c = let e : c.loop-x.x ≡ 16 = omega (arith, c.loop-x-test.false) in rw e at c.loop-x.invariant

use Rattle.std.proofs.Common.{arith, refl}
use Rattle.settling.specs.PathLaws.{way_beside, way_on, climbed_zero, climbed_up}
use Rattle.settling.proofs.+climb.Goals as goal

pub returns-then-count-eq0 : goal.returns-then-count-eq0
returns-then-count-eq0 t c = let a = c.args in climbed_zero a.store.now a.hashes.now a.number a.count a.node a.value c.if-count-eq0.true

pub overflow_add-i2 : goal.overflow_add-i2
overflow_add-i2 t c = omega (arith, c.requires.room, c.requires.uncles)

pub overflow_mul-number : goal.overflow_mul-number
overflow_mul-number t c = omega (arith, c.requires.room, c.requires.uncles)

pub hash_at-w-requires : goal.hash_at-w-requires
hash_at-w-requires t c = omega (arith, c.requires.room, c.requires.uncles)

pub sibling-x-requires : goal.sibling-x-requires
sibling-x-requires t c = omega (arith, c.requires.room, c.requires.uncles)

pub agrees_at-o1-requires : goal.agrees_at-o1-requires
agrees_at-o1-requires t c = omega (arith, c.sibling-x.ensures, way_beside c.requires)

pub agrees_at-o2-requires : goal.agrees_at-o2-requires
agrees_at-o2-requires t c = omega (arith, c.requires.room, c.requires.uncles)

pub climb-r-requires : goal.climb-r-requires
climb-r-requires t c = (omega arith, way_on c.requires _ refl c.if-count-eq0.false)

pub returns : goal.returns
returns t c = let a = c.args in
    climbed_up a.store.now a.hashes.now a.number a.count a.node c.sibling-x.result a.value c.hash_at-w.result c.above-v2.result
    c.agrees_at-o1.result c.agrees_at-o2.result c.climb-r.result.hash c.climb-r.result.agrees c.all_three-all.result
    c.if-count-eq0.false c.hash_at-w.ensures c.sibling-x.ensures c.above-v2.ensures c.agrees_at-o1.ensures c.agrees_at-o2.ensures c.climb-r.ensures c.all_three-all.ensures

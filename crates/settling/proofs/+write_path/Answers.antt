use Rattle.std.proofs.Common.{arith, ◌∙◌, ◌+◌, ◌-◌, ◌/◌}
use Rattle.cells.specs.EntriesLaws.{lacks_small}
use Rattle.settling.specs.PathLaws.{way_beside, way_on, path_small, rose_zero, rose_up}
use Rattle.settling.proofs.+write_path.Goals as goal

pub returns-then-count-eq0 : goal.returns-then-count-eq0
returns-then-count-eq0 t c = let a = c.args in rose_zero a.store.now a.hashes.now a.number a.count a.node a.value c.if-count-eq0.true

pub overflow_add-i2 : goal.overflow_add-i2
overflow_add-i2 t c = omega (arith, c.requires.room, c.requires.uncles)

pub overflow_mul-number : goal.overflow_mul-number
overflow_mul-number t c = omega (arith, c.requires.room, c.requires.uncles)

pub hash_at-w-requires : goal.hash_at-w-requires
hash_at-w-requires t c = omega (arith, c.requires.room, c.requires.uncles)

pub sibling-x-requires : goal.sibling-x-requires
sibling-x-requires t c = omega (arith, c.requires.room, c.requires.uncles)

pub add_at-a1-requires : goal.add_at-a1-requires
add_at-a1-requires t c = omega (arith, c.sibling-x.ensures, way_beside c.requires)

pub add_at-a2-requires : goal.add_at-a2-requires
add_at-a2-requires t c = omega (arith, c.requires.room, c.requires.uncles, c.add_at-a1.auto.store)

pub write_path-a-requires : goal.write_path-a-requires
write_path-a-requires t c = (omega arith, way_on c.requires _ (c.add_at-a2.auto.store ∙ c.add_at-a1.auto.store) c.if-count-eq0.false)

pub overflow_add-result : goal.overflow_add-result
overflow_add-result t c = let a = c.args in
    let l = path_small c.add_at-a2.new.store a.hashes.now (a.number + 1) (a.count - 1) (a.node / 2) c.above-v2.result in
    omega (arith, c.requires.uncles, c.well_formed.1.0.0, c.write_path-a.ensures.0, c.add_at-a1.ensures.0, c.add_at-a2.ensures.0, lacks_small a.store.now c.sibling-x.result, lacks_small c.add_at-a1.new.store (a.node / 2))

pub overflow_add-result-2 : goal.overflow_add-result-2
overflow_add-result-2 t c = let a = c.args in
    let l = path_small c.add_at-a2.new.store a.hashes.now (a.number + 1) (a.count - 1) (a.node / 2) c.above-v2.result in
    omega (arith, c.requires.uncles, c.well_formed.1.0.0, c.write_path-a.ensures.0, c.add_at-a1.ensures.0, c.add_at-a2.ensures.0, lacks_small a.store.now c.sibling-x.result, lacks_small c.add_at-a1.new.store (a.node / 2))

pub shape_of-store : goal.shape_of-store
shape_of-store t c = c.write_path-a.auto.store ∙ c.add_at-a2.auto.store ∙ c.add_at-a1.auto.store

pub returns : goal.returns
returns t c = let a = c.args in
    rose_up a.store.now a.hashes.now a.number a.count a.node c.sibling-x.result a.value c.hash_at-w.result c.above-v2.result
    c.add_at-a1.result c.add_at-a1.new.store c.add_at-a2.result c.add_at-a2.new.store c.write_path-a.result c.write_path-a.new.store
    c.if-count-eq0.false c.hash_at-w.ensures c.sibling-x.ensures c.above-v2.ensures c.add_at-a1.ensures.0 c.add_at-a1.ensures.1 c.add_at-a2.ensures.0 c.add_at-a2.ensures.1 c.write_path-a.ensures

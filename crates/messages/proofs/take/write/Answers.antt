use Rattle.std.proofs.Common.{◌+◌, ◌*◌, length, refl}
use Rattle.octets.specs.Octets.{zero_hash}
use Rattle.messages.proofs.Taking.{run_part, uncles_part, heaped_run, wrote_by, ready_fit, ready_way, ready_sum}
use Rattle.header.specs.Header.{header_size}
use Rattle.messages.proofs.take.write.Goals as goal

pub write_looked-low-requires : goal.write_looked-low-requires
unfolding zero_hash
write_looked-low-requires c = let a = c.args in
    let p = c.requires in
    let e = header_size + 32 * a.header.len in (
      ready_fit (length a.store.now) a.message.now a.header a.place p.0,
      p.1,
      heaped_run a.message.now a.header a.place p.0.carried.power _ _ _ (run_part a.message.now a.header.len e refl) refl
          (uncles_part a.message.now a.header.len a.place.u e (e + 32 * a.place.u) refl refl) _ p.2,
    )

pub write_path-c-requires : goal.write_path-c-requires
write_path-c-requires c = let a = c.args in
    let r = c.requires.0 in
    let e = header_size + 32 * a.header.len in
    ready_way (length a.store.now) a.message.now a.header a.place r _ c.write_looked-low.auto.store _ (uncles_part a.message.now a.header.len a.place.u e (e + 32 * a.place.u) refl refl)

pub overflow_add-result : goal.overflow_add-result
overflow_add-result c = let a = c.args in
    let low = c.write_looked-low in
    record { fits = ready_sum (length a.store.now) a.message.now a.header a.place c.requires.0 a.store.now _ _ _ _ _ low.result.new c.write_path-c.result low.ensures.1.0 c.write_path-c.ensures.0 }

pub returns : goal.returns
unfolding zero_hash
returns c = let a = c.args in
    let r = c.requires.0 in
    let e = header_size + 32 * a.header.len in
    let low = c.write_looked-low in
    wrote_by a.message.now a.header a.place r.carried.power _ _ _ (run_part a.message.now a.header.len e refl) refl (uncles_part a.message.now a.header.len a.place.u e (e + 32 * a.place.u) refl refl) a.store.now low.result.hash low.result.new _ c.write_path-c.result _
    low.ensures.0 low.ensures.1.0 low.ensures.1.1 c.write_path-c.ensures.0 c.write_path-c.ensures.1

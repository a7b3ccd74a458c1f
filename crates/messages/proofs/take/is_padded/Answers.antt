use Rattle.std.proofs.Common.{arith, ◌+◌, ◌*◌, length, refl, ap}
use Rattle.messages.proofs.Taking.{run_part, uncles_part, padded_yes, padded_no, quotient_small}
use Rattle.messages.specs.TakenLaws.{uncles_length}
use Rattle.header.specs.Header.{header_size}
use Rattle.messages.proofs.take.is_padded.Goals as goal

pub uncles_padded-requires : goal.uncles_padded-requires
uncles_padded-requires c = let a = c.args in
    let q = c.requires in
    let e = header_size + 32 * a.header.len in
    let h = uncles_part a.message.now a.header.len a.place.u e (e + 32 * a.place.u) refl refl in
    let l = uncles_length a.message.now a.header a.place q in
    (omega (arith, ap length h), omega (arith, q.layers), quotient_small a.header.index a.header.len q.index, c.pad_value-v.ensures)

pub returns-then-right : goal.returns-then-right
returns-then-right c = let a = c.args in
    let q = c.requires in
    let e = header_size + 32 * a.header.len in
    padded_yes a.message.now a.header a.place a.blocks _ c.run_padded-right.result (run_part a.message.now a.header.len e refl) c.run_padded-right.ensures _ c.uncles_padded.result
    c.if-right.true (uncles_part a.message.now a.header.len a.place.u e (e + 32 * a.place.u) refl refl) c.uncles_padded.ensures

pub returns : goal.returns
returns c = let a = c.args in
    let q = c.requires in
    let e = header_size + 32 * a.header.len in
    padded_no a.message.now a.header a.place a.blocks _ c.run_padded-right.result (run_part a.message.now a.header.len e refl) c.run_padded-right.ensures c.if-right.false

use Rattle.std.proofs.Common.{arith}
use Rattle.messages.proofs.Padding.{uncles_none, uncles_wrong, uncles_right}
use Rattle.tree.proofs.Steps.{pad_next}
use Rattle.messages.proofs.padded.+uncles_padded.Goals as goal

pub returns-then-count-eq0 : goal.returns-then-count-eq0
returns-then-count-eq0 t c = uncles_none c.args.hashes.now c.args.blocks c.args.number c.args.count c.args.layer c.args.index c.if-count-eq0.true

pub uncle_padded-right-requires : goal.uncle_padded-right-requires
uncle_padded-right-requires t c = let q = c.requires in
    (omega arith, q.2, q.3)

pub uncles_padded-requires : goal.uncles_padded-requires
uncles_padded-requires t c = let a = c.args in
    let q = c.requires in
    (omega arith, (omega arith, omega arith, omega arith, pad_next a.pad c.pair-v2.result a.layer q.3 c.pair-v2.ensures))

pub returns-then-right : goal.returns-then-right
returns-then-right t c = uncles_right c.args.hashes.now c.args.blocks c.args.number c.args.count c.args.layer c.args.index c.uncle_padded-right.result c.uncles_padded.result c.if-count-eq0.false c.uncle_padded-right.ensures c.if-right.true c.uncles_padded.ensures

pub returns : goal.returns
returns t c = uncles_wrong c.args.hashes.now c.args.blocks c.args.number c.args.count c.args.layer c.args.index c.uncle_padded-right.result c.if-count-eq0.false c.uncle_padded-right.ensures c.if-right.false

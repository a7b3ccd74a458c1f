use Rattle.std.proofs.Common.{arith}
use Rattle.header.proofs.Rules.{place_by}
use Rattle.header.specs.HeaderLaws.{rules_kept_lem, top_inside}
use Rattle.header.proofs.place_of.Goals as goal

pub overflow_add-l : goal.overflow_add-l
overflow_add-l c = let a = c.args in
    let K = rules_kept_lem a.header a.height c.requires.2 in
    omega (arith, K.within, c.log2-k.ensures)

pub nonzero_div-i : goal.nonzero_div-i
nonzero_div-i c = let a = c.args in
    let K = rules_kept_lem a.header a.height c.requires.2 in
    omega (arith, K.two)

pub node_number-top-requires : goal.node_number-top-requires
node_number-top-requires c = let a = c.args in
    let K = rules_kept_lem a.header a.height c.requires.2 in
    let e = c.log2-k.ensures in
    (omega (arith, K.within, e), omega arith, rw e (top_inside a.header a.height K))

pub returns : goal.returns
returns c = let a = c.args in
    let K = rules_kept_lem a.header a.height c.requires.2 in
    let k = c.log2-k in
    place_by a.header a.height k.result _ c.node_number-top.result K.two k.ensures (λ g. omega arith, λ g. omega arith) c.node_number-top.ensures

-- Each number of the header is the callee's; that the run is one of the layer's makes all of them small and its top a position of the tree.
use Rattle.std.proofs.Common.{arith}
use Rattle.asking.proofs.Answers.{up_there, up_small, top_there, index_small, top_room, few_layers, header_is}
use Rattle.asking.proofs.next.run_header.Goals as goal

pub run_length-len-requires : goal.run_length-len-requires
run_length-len-requires c = (omega (arith, c.requires.2.below), c.requires.2.tall)

pub overflow_add-up : goal.overflow_add-up
overflow_add-up c = let p = c.requires in
    omega (arith, up_small _ _ _ _ p.0 p.1 p.2 _ _ c.run_length-len.ensures c.log2-k.ensures)

pub overflow_sub-t : goal.overflow_sub-t
overflow_sub-t c = let p = c.requires in
    up_there _ _ _ _ p.0 p.1 p.2 _ _ c.run_length-len.ensures c.log2-k.ensures

pub node_number-top-requires : goal.node_number-top-requires
node_number-top-requires c = let p = c.requires in
    top_there _ _ _ _ p.0 p.1 p.2 _ _ c.run_length-len.ensures c.log2-k.ensures

pub uncles_needed-u-requires : goal.uncles_needed-u-requires
uncles_needed-u-requires c = let p = c.requires in
    top_room _ _ _ _ p.0 p.1 p.2 _ _ c.run_length-len.ensures c.log2-k.ensures _ c.node_number-top.ensures

pub proof_for-proof-requires : goal.proof_for-proof-requires
proof_for-proof-requires c = let p = c.requires in
    few_layers _ _ _ _ p.0 p.1 p.2 _ _ c.run_length-len.ensures c.log2-k.ensures _ c.node_number-top.ensures _ c.uncles_needed-u.ensures

pub overflow_mul-index : goal.overflow_mul-index
overflow_mul-index c = let p = c.requires in
    omega (arith, index_small _ _ _ _ p.0 p.1 p.2 _ _ c.run_length-len.ensures c.log2-k.ensures)

pub returns : goal.returns
returns c = let p = c.requires in
    header_is _ _ _ _ p.0 p.1 p.2 _ _ c.run_length-len.ensures c.log2-k.ensures _ c.node_number-top.ensures _ c.uncles_needed-u.ensures _ c.proof_for-proof.ensures

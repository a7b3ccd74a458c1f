-- The piece's node and all below it lie in the tree, so the subtree fits the store.
use Rattle.pieces.proofs.Ways.{node_inside, node_fit, node_judged}
use Rattle.pieces.proofs.judge_node.Goals as goal

pub node_number-q-requires : goal.node_number-q-requires
node_number-q-requires c = node_inside _ _ _ _ c.requires c.height_of-h.ensures c.piece_height-k.ensures

pub judge_data-requires : goal.judge_data-requires
judge_data-requires c = node_fit _ _ _ _ c.requires c.height_of-h.ensures c.piece_height-k.ensures _ c.node_number-q.ensures

pub returns : goal.returns
returns c = node_judged _ _ _ _ c.requires c.height_of-h.ensures c.piece_height-k.ensures _ c.node_number-q.ensures _ _ c.judge_data.ensures

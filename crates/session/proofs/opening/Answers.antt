-- The facts are read from the front of the room; too many blocks, a refusal, an open store.
-- Assumes nothing.
use Rattle.std.proofs.Common.{arith, ◌≤◌, ◌<◌}
use Rattle.tree.specs.Geometry.{block_count}
use Rattle.session.specs.Session.{max_blocks}
use Rattle.session.proofs.Steps.{opening_large, opening_done, opening_refused}
use Rattle.session.proofs.opening.Goals as goal

pub returns-then-answer-eq0 : goal.returns-then-answer-eq0
returns-then-answer-eq0 c = let a = c.args in let few : block_count c.number_at-n.result ≤ max_blocks = omega (arith, c.block_count-blocks.ensures, c.if-blocks-le-MAX_BLOCKS.true) in opening_done a.store.now a.room.now c.number_at-n.result c.says.result c.number_at-n.ensures.0 c.number_at-plen.result c.hash_at-root.result _ c.open-answer.result few c.requires.1 c.number_at-plen.ensures.0 c.hash_at-root.ensures c.open-answer.ensures.0 c.open-answer.ensures.1 c.if-answer-eq0.true c.says.ensures

pub returns-then-blocks-le-MAX_BLOCKS : goal.returns-then-blocks-le-MAX_BLOCKS
returns-then-blocks-le-MAX_BLOCKS c = let a = c.args in let few : block_count c.number_at-n.result ≤ max_blocks = omega (arith, c.block_count-blocks.ensures, c.if-blocks-le-MAX_BLOCKS.true) in opening_refused a.store.now a.room.now c.number_at-n.result c.stops.result c.number_at-n.ensures.0 c.number_at-plen.result c.hash_at-root.result _ c.open-answer.result few c.requires.1 c.number_at-plen.ensures.0 c.hash_at-root.ensures c.open-answer.ensures.0 c.open-answer.ensures.1 c.if-answer-eq0.false c.stops.ensures

pub returns : goal.returns
returns c = let a = c.args in let many : max_blocks < block_count c.number_at-n.result = omega (arith, c.block_count-blocks.ensures, c.if-blocks-le-MAX_BLOCKS.false) in opening_large a.store.now a.room.now c.number_at-n.result c.stops-2.result c.number_at-n.ensures.0 many c.stops-2.ensures

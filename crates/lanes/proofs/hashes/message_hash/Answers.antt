-- The whole blocks, and the last bytes with the padding, are the message.
-- Assumes nothing.
use Rattle.std.proofs.Common.{arith, ap, ◌∙◌}
use Rattle.sha256.specs.Sha256.{digest}
use Rattle.lanes.proofs.Messages.{message_law}
use Rattle.lanes.specs.LanesLaws.{reach}
use Rattle.lanes.proofs.hashes.message_hash.Goals as goal

pub overflow_mul-to : goal.overflow_mul-to
overflow_mul-to c = omega (arith, reach c.args.j c.args.n c.requires.0)

pub overflow_add-to : goal.overflow_add-to
overflow_add-to c = omega (arith, reach c.args.j c.args.n c.requires.0)

pub slice_bounds-rest-end : goal.slice_bounds-rest-end
slice_bounds-rest-end c = omega (arith, reach c.args.j c.args.n c.requires.0)

pub returns : goal.returns
returns c = λ z e.
    c.digest.ensures
    ∙ ap digest (c.finish.ensures ∙ message_law c.args.k.now c.args.bytes.now z c.lane_of-state.result c.args.n c.args.j c.requires.1 c.requires.0 (c.lane_of-state.ensures ∙ e))

-- Eight stores are the state put into the lane, row by row; no other lane has a word in those places.
-- Assumes nothing.
use Rattle.lanes.specs.LanesLaws.{put_stores, state_put, beside_put, words_of}
use Rattle.lanes.proofs.block.put_lane.Goals as goal

pub returns : goal.returns
returns c = let a = c.args in
    rw (put_stores a.states.now a.lane a.state) (state_put a.states.now a.lane a.state c.requires.0 c.requires.1, beside_put 8 8 a.states.now a.lane (words_of a.state) c.requires.0)

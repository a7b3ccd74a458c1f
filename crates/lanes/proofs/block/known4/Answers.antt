-- Four rounds in a row, from the state taken out of the lane to the state put back.
-- Assumes nothing.
use Rattle.lanes.specs.LanesLaws.{four_steppings}
use Rattle.lanes.proofs.block.known4.Goals as goal

pub returns : goal.returns
returns c = let a = c.args in
    let s₀ = c.lane_of-s0 in
    let s₁ = c.known_round-s1 in
    let s₂ = c.known_round-s2 in
    let s₃ = c.known_round-s3 in
    let s₄ = c.known_round-s4 in (
      rw (c.put_lane.ensures.0, ← s₀.ensures)
          (four_steppings a.x.now s₀.result s₁.result s₂.result s₃.result s₄.result a.i s₁.ensures s₂.ensures s₃.ensures s₄.ensures),
      c.put_lane.ensures.1,
    )

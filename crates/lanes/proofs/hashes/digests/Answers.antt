-- The loop's invariant: the first j digests are written.
-- Assumes nothing.
use Rattle.std.proofs.Common.{arith, ℕ, length, ◌≡◌, refl, ap, ◌∙◌}
use Rattle.sha256.specs.Sha256.{digest}
use Rattle.lanes.proofs.Messages.{length_digest}
use Rattle.lanes.proofs.Filling.{filled_none, filled_one}
use Rattle.lanes.specs.Lanes.{state_in}
use Rattle.lanes.proofs.hashes.digests.Goals as goal

pub loop-j-init : goal.loop-j-init
loop-j-init c = (filled_none _ 256 _ refl)

pub loop-j-preserved : goal.loop-j-preserved
loop-j-preserved c = let t = c.args.t in
    let l = c.loop-j in
    let h = c.digest-h.result in
    let e : h ≡ digest (state_in t l.j) = c.digest-h.ensures ∙ ap digest c.lane_of.ensures in
    let n : length h ≡ 32 = ap length e ∙ length_digest (state_in t l.j) in
    (filled_one (λ (x : ℕ). digest (state_in t x)) 256 l.j l.r _ h l.invariant (omega arith) n e c.put_hash.ensures)

pub returns : goal.returns
returns c = let e : c.loop-j.j ≡ 8 = omega arith in rw e at c.loop-j.invariant

-- The loop's invariant: the first x hashes are copied.
-- Assumes nothing.
use Rattle.std.proofs.Common.{List, length-take-le, arith, ℕ, ◌+◌, ◌*◌, length, take, ◌≡◌, ap, ◌∙◌}
use Rattle.octets.specs.OctetsLaws.{pasted_length}
use Rattle.octets.specs.Octets.{pasted}
use Rattle.lanes.proofs.Filling.{copied_none, copied_more, copied_all}
use Rattle.lanes.proofs.hashes.put8.Goals as goal

pub loop-x-init : goal.loop-x-init
loop-x-init c = (copied_none c.args.out.now c.args.hashes c.args.at)

pub put_hash-requires : goal.put_hash-requires
put_hash-requires c = omega (
  arith,
  (let it : length c.loop-x.out ≡ length c.args.out.now = let r = c.args.hashes in
      let n : length r ≡ 256 = c.well_formed.1.1.0.1.0.1 in
      let k : length (take (32 * c.loop-x.x) r) ≡ 32 * c.loop-x.x = length-take-le (32 * c.loop-x.x) r (omega arith) in
      ap length c.loop-x.invariant ∙ pasted_length c.args.out.now c.args.at (take (32 * c.loop-x.x) r) (omega (arith, c.requires)) in it),
)

pub loop-x-preserved : goal.loop-x-preserved
loop-x-preserved c = (c.put_hash.ensures
    ∙ ap (λ (h : List ℕ). pasted c.loop-x.out (c.args.at + 32 * c.loop-x.x) h) c.hash_at-h.ensures
    ∙ copied_more c.args.out.now c.loop-x.out c.args.hashes c.args.at c.loop-x.x c.requires c.well_formed.1.1.0.1.0.1 (omega arith) c.loop-x.invariant
    )

pub shape_of-out : goal.shape_of-out
shape_of-out c = (let it : length c.loop-x.out ≡ length c.args.out.now = let r = c.args.hashes in
    let n : length r ≡ 256 = c.well_formed.1.1.0.1.0.1 in
    let k : length (take (32 * c.loop-x.x) r) ≡ 32 * c.loop-x.x = length-take-le (32 * c.loop-x.x) r (omega arith) in
    ap length c.loop-x.invariant ∙ pasted_length c.args.out.now c.args.at (take (32 * c.loop-x.x) r) (omega (arith, c.requires)) in it)

pub returns : goal.returns
returns c = copied_all c.args.out.now c.loop-x.out c.args.hashes c.args.at c.loop-x.x c.well_formed.1.1.0.1.0.1 (omega arith) c.loop-x.invariant

-- By the loop: the first 8 e leaves are there.
use Rattle.std.proofs.Common.{arith, ℕ, ◌≡◌, ◌+◌, ◌-◌, ◌*◌, ◌/◌, refl, ap, ◌∙◌}
use Rattle.octets.specs.Octets.{pasted}
use Rattle.tree.specs.Values.{leaf_of}
use Rattle.leaves.specs.Leaves.{leaf_run}
use Rattle.leaves.proofs.Writing.{leaf_none, leaf_more}
use Rattle.settling.specs.HeapLaws.{eight_leaves}
use Rattle.leaves.proofs.put_eights.Goals as goal

pub loop-e-init : goal.loop-e-init
loop-e-init c = let a = c.args in (refl, leaf_none a.bytes.now a.out.now a.at)

pub shape_of-out-then-blocks-i : goal.shape_of-out-then-blocks-i
shape_of-out-then-blocks-i c = c.loop-e.invariant.0

pub returns-then-blocks-i : goal.returns-then-blocks-i
returns-then-blocks-i c = (omega arith, c.loop-e.invariant.1)

pub put8-requires : goal.put8-requires
put8-requires c = omega (arith, c.loop-e.invariant.0)

pub loop-e-preserved : goal.loop-e-preserved
loop-e-preserved c = let a = c.args in
    let l = c.loop-e in
    let h = c.hash8-p in
    let i = 8 * l.e in
    let z : 8 * l.e + 8 ≡ 8 * (l.e + 1) = omega arith in (
      c.put8.auto.out ∙ l.invariant.0,
      leaf_more a.bytes.now a.out.now l.out _ h.result a.at i 8 (omega arith) h.ensures.size
          (λ x g. h.ensures.hashes x g ∙ eight_leaves a.bytes.now i x (16384 * i + 131072 - 16384 * i) g (omega arith) (omega (arith, c.if-blocks-i.false)))
          l.invariant.1 c.put8.ensures
          ∙ ap (λ (k : ℕ). pasted a.out.now a.at (leaf_run (leaf_of a.bytes.now) k)) z,
    )

pub shape_of-out : goal.shape_of-out
shape_of-out c = c.loop-e.invariant.0

pub returns : goal.returns
returns c = let a = c.args in
    let e : c.loop-e.e ≡ a.c / 8 = omega arith in
    (omega arith, c.loop-e.invariant.1 ∙ ap (λ (k : ℕ). pasted a.out.now a.at (leaf_run (leaf_of a.bytes.now) (8 * k))) e)

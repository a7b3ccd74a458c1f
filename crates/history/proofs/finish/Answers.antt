use Rattle.std.proofs.Common.{List, arith, ℕ, ◌+◌, ◌-◌, ◌/◌, refl, ap, sym, ◌∙◌, ap₂}
use Rattle.sha256.specs.Sha256.{pair_hash}
use Rattle.history.proofs.Steps.{finishing_turn, finishing_end, halved}
use Rattle.history.specs.Growing.{node_count, node_at, finishing}
use Rattle.limits.specs.Limits.{tallest_tree}
use Rattle.history.proofs.finish.Goals as goal

pub loop-j-init : goal.loop-j-init
loop-j-init c = (omega arith, c.requires.1, c.requires.0, refl)

pub put_hash-requires : goal.put_hash-requires
put_hash-requires c = omega (arith, c.loop-j.invariant)

pub loop-j-preserved : goal.loop-j-preserved
unfolding node_at
loop-j-preserved c = let L = c.loop-j in
    let h = halved tallest_tree L.k L.j L.invariant.0 L.invariant.1 c.loop-j-test.true in (
      omega (arith, h.0),
      h.1,
      c.put_hash.auto.bytes ∙ L.invariant.2,
      ap₂ (λ (a b : List ℕ). finishing (node_count - (L.k + 1)) a (L.k + 1) (L.j / 2) b) c.put_hash.ensures (c.pair-parent.ensures ∙ ap (λ (x : List ℕ). pair_hash x L.hash) c.hash_at-left.ensures)
          ∙ sym (finishing_turn node_count L.k L.j L.nodes L.hash (omega arith) c.loop-j-test.true) ∙ L.invariant.3,
    )

pub shape_of-nodes : goal.shape_of-nodes
shape_of-nodes c = c.put_hash-2.auto.bytes ∙ c.loop-j.invariant.2 ∙ sym c.requires.0

pub returns : goal.returns
returns c = let L = c.loop-j in
    c.put_hash-2.ensures ∙ sym (finishing_end node_count L.k L.j L.nodes L.hash (omega arith) c.loop-j-test.false) ∙ L.invariant.3

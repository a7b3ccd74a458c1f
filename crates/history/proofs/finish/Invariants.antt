use Rattle.std.proofs.Common.{◌-◌, ◌*◌, ◌≤◌, ◌<◌, ◌^◌, length, ◌≡◌}
use Rattle.history.specs.Growing.{node_count, finishing}
use Rattle.limits.specs.Limits.{tallest_tree}
use Rattle.history.proofs.finish.Given as goal

abbrev pub invariant-loop-j : goal.invariant-loop-j
invariant-loop-j l = (l.k ≤ tallest_tree) × (l.j < 2 ^ (tallest_tree - l.k)) × (length l.nodes ≡ 32 * node_count) × (finishing (node_count - l.k) l.nodes l.k l.j l.hash ≡ finishing node_count l.initial.nodes 0 l.i l.initial.hash)

abbrev pub decreases-loop-j : goal.decreases-loop-j
decreases-loop-j l = l.j

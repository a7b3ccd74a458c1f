-- What a subtree over given leaves settles: every position of it, with the value worked out from the leaves.
-- The leaves are the base run of a message, the piece layer, or the blocks of a piece.
-- Assumes nothing.
use Rattle.std.specs.Prelude.{◌≡◌, List, ◌++◌, cond, ℕ, zero, suc, ◌+◌, ◌*◌, ◌/◌, ◌^◌, ◌≤◌, ◌<◌, length, take, ltb}
use Rattle.octets.specs.Octets.{cut}
use Rattle.tree.specs.Values.{node}
use Rattle.heaps.specs.Heaps.{Worked}
use Rattle.cells.specs.Entries.{Entry, one}
use Rattle.settling.specs.Span.{room_layers}

-- the subtree of height k whose top is position n; it is number j of its height, counted over the leaves
unfoldable pub subtree : (ℕ → List ℕ) → ℕ → ℕ → ℕ → List Entry
subtree leaf zero n j = one n (leaf j)
subtree leaf (suc k) n j = subtree leaf k (2 * n) (2 * j) ++ subtree leaf k (2 * n + 1) (2 * j + 1) ++ one n (node leaf (suc k) j)

-- leaf i of a string of hashes, and a given value past them
unfoldable pub run_leaf : List ℕ → List ℕ → ℕ → List ℕ
run_leaf run past i = cond (ltb i (length run / 32)) (cut run (32 * i) 32) past

-- a heap that has the first c of its m leaves, which are those from number `from` on. Only private functions' contracts cite it
pub record Loaded (leaf : ℕ → List ℕ) (m from c : ℕ) (heap : List ℕ) : Type 0 where
  pub size : length heap ≡ 64 * m
  pub most : c ≤ m
  pub leaves : (y : ℕ) → y < c → cut heap (32 * (m + y)) 32 ≡ leaf (from + y)

-- a room in which the subtree of height k was worked out, number j of its height: if it is not too high, its heap stands at the start
pub record Heaped (leaf : ℕ → List ℕ) (k j : ℕ) (room : List ℕ) : Type 0 where
  pub heap : k ≤ room_layers → Worked leaf (2 ^ k) j (take (64 * 2 ^ k) room)

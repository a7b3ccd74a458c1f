-- 02, request 13: when a set of positions with hashes may be loaded, and the largest part of a set that may be.
-- Assumes nothing.
use Rattle.std.specs.Prelude.{◌≡◌, List, ◌⊎◌, ℕ, suc, ◌+◌, ◌-◌, ◌*◌, ◌^◌, ◌≤◌, ◌<◌}
use Rattle.sha256.specs.Sha256.{pair_hash}
use Rattle.tree.specs.Geometry.{Padding}
use Rattle.tree.specs.Values.{pad_value}
use Rattle.settling.specs.Path.{sibling}

-- hashes at the positions of a tree, by layer and index
abbrev pub Hashes : Type 1
Hashes = ℕ → ℕ → List ℕ → Type 0

-- "the root is held with the opening's value, every other held position has its sibling and parent held and hashing right, and every held
-- padding position has its value": in a tree of height h over b blocks
pub record Clauses (h b : ℕ) (value : List ℕ) (R : Hashes) : Type 0 where
  pub root : R h 0 value
  pub beside : (l i : ℕ) (x : List ℕ) → l < h → R l i x → (y : List ℕ) × R l (sibling i) y
  pub above : (l i : ℕ) (x y : List ℕ) → l < h → R l (2 * i) x → R l (2 * i + 1) y → R (suc l) i (pair_hash x y)
  pub padding : (l i : ℕ) (v : List ℕ) → R l i v → Padding b l i → v ≡ pad_value l

-- a set in the tree, with one hash for each of its positions
pub record InTree (h : ℕ) (R : Hashes) : Type 0 where
  pub low : (l i : ℕ) (v : List ℕ) → R l i v → l ≤ h
  pub inside : (l i : ℕ) (v : List ℕ) → R l i v → i < 2 ^ (h - l)
  pub one : (l i : ℕ) (v w : List ℕ) → R l i v → R l i w → v ≡ w

-- a part of a set
abbrev pub Within : Hashes → Hashes → Type 0
Within S R = (l i : ℕ) (v : List ℕ) → S l i v → R l i v

-- the two children of position i of layer l + 1 are in the set, and each has its padding value if it is padding
pub record Children (b : ℕ) (R : Hashes) (l i : ℕ) (x y : List ℕ) : Type 0 where
  pub left : R l (2 * i) x
  pub right : R l (2 * i + 1) y
  pub left_pads : Padding b l (2 * i) → x ≡ pad_value l
  pub right_pads : Padding b l (2 * i + 1) → y ≡ pad_value l

-- what the repair keeps of a set, from the root down: the root, if it is there with the opening's value; and the two children of a position
-- that is kept, if both are there, hash to it and are right where they are padding
pub data Kept (h b : ℕ) (root : List ℕ) (R : Hashes) : ℕ → ℕ → List ℕ → Type 0 where
  top : {l j : ℕ} {v : List ℕ} → l ≡ h → j ≡ 0 → v ≡ root → R h 0 root → Kept h b root R l j v
  child : {l j : ℕ} {v : List ℕ} (i : ℕ) (x y : List ℕ) → l < h → Children b R l i x y → Kept h b root R (suc l) i (pair_hash x y)
      → ((j ≡ 2 * i) × (v ≡ x)) ⊎ ((j ≡ 2 * i + 1) × (v ≡ y)) → Kept h b root R l j v

-- The nodes that are not finished, worked out from the state of x, are those of x's tree; so is the pieces root.
-- Assumes nothing.
use Rattle.std.specs.Prelude.{◌≡◌, refl, cond, List, ℕ, zero, suc, ◌+◌, ◌-◌, ◌*◌, ◌/◌, ◌%◌, ◌^◌, ◌≤◌, ◌<◌, length, drop, eqb}
use Rattle.std.proofs.Common.{ap, ap₂, sym, ◌∙◌, one-mul, add-mul, zero-mul, div-lt_iff_lt-mul, div-add-mod', mod-lt, pow-suc, arith, length-drop, take_all, pow_pos, eq-eqb, ne_eqb}
use Rattle.std.proofs.Math.Nat.{div-div-eq-div-mul, one-le-mul}
use Rattle.std.proofs.Math.Decide.{ℕ_discrete}
use Rattle.octets.specs.Octets.{cut, zero_hash}
use Rattle.limits.specs.Limits.{longest_file, tallest_tree}
use Rattle.sha256.specs.Sha256.{sha256, pair_hash}
use Rattle.running.specs.Bursts.{state_of}
use Rattle.running.specs.BurstsLaws.{hash_of_state}
use Rattle.tree.specs.Geometry.{block_length, ceil_div, block_count, height, Padding, piece_count}
use Rattle.tree.proofs.GeometryLaws.{ceil_least, ceil_enough, below_ceil, block_within, block_outside, block_count_some, covering_top, pieces_covering, height_least, height_zero}
use Rattle.tree.specs.Values.{node, pad_value, block_of, leaf_of, pieces_root}
use Rattle.tree.proofs.ValuesLaws.{leaf_block, leaf_padding, leaf_octets, padding_value}
use Rattle.history.specs.Growing.{node_count, node_at, open_leaf, open_above, open_node, last_node, root_of}
use Rattle.history.specs.HistoryOf.{last_of, open_block, history_of}
use Rattle.history.proofs.NodesLaws.{nodes_at, last_some}

-- the fields of the state of x
pub history_nodes : (plen : ℕ) (x : List ℕ) (k : ℕ) → k < node_count → node_at (history_of plen x).nodes k ≡ last_of (leaf_of x) k (length x / block_length / 2 ^ k)
unfolding history_of
history_nodes plen x k l = nodes_at (leaf_of x) (leaf_octets x) (length x / block_length) node_count k l

pub history_length : (plen : ℕ) (x : List ℕ) → (history_of plen x).length ≡ length x
unfolding history_of
history_length plen x = refl

pub history_pieces : (plen : ℕ) (x : List ℕ) → (history_of plen x).piece_length ≡ plen
unfolding history_of
history_pieces plen x = refl

pub history_block : (plen : ℕ) (x : List ℕ) → (history_of plen x).block ≡ state_of (open_block x)
unfolding history_of
history_block plen x = refl

-- ---- the open node of each layer

-- padding in the lowest layer is 32 zero bytes
pub zero_pad : zero_hash ≡ pad_value 0
unfolding pad_value
zero_pad = refl

padding_at : (b k i : ℕ) → b ≤ i * 2 ^ k → Padding b k i
unfolding Padding
padding_at b k i l = l

-- the block under way is the file's last one, at its own length
open_leaf_lem : (x : List ℕ) → (length x % block_length ≡ 0 → ⊥) → sha256 (open_block x) ≡ leaf_of x (length x / block_length)
unfolding open_block block_of cut
open_leaf_lem x n =
    ap sha256 (sym (take_all block_length (drop (block_length * (length x / block_length)) x) (omega (arith, length-drop (block_length * (length x / block_length)) x))))
    ∙ sym (leaf_block x (length x / block_length) (block_within (length x) (length x / block_length) (omega (arith, n))))

pub open_node_lem : (plen : ℕ) (x : List ℕ) (k : ℕ) → k ≤ node_count → open_node (history_of plen x) k ≡ node (leaf_of x) k (length x / block_length / 2 ^ k)
unfolding open_node open_above open_leaf node history_of
open_node_lem plen x zero l = rw (history_length plen x, history_block plen x, hash_of_state (open_block x)) (by_case (ℕ_discrete (length x % block_length) 0))
  where
    one : length x / block_length / 2 ^ 0 ≡ length x / block_length
    one = omega arith

    by_case : Dec (length x % block_length ≡ 0) → cond (eqb (length x % block_length) 0) zero_hash (sha256 (open_block x)) ≡ leaf_of x (length x / block_length / 2 ^ 0)
    by_case (yes e) =
        rw (eq-eqb (length x % block_length) 0 e, one)
        (zero_pad ∙ sym (leaf_padding x (length x / block_length) (block_outside (length x) (length x / block_length) (omega (arith, e)))))
    by_case (no n) = rw (ne_eqb (length x % block_length) 0 n, one) (open_leaf_lem x n)
open_node_lem plen x (suc k) l = by_case (ℕ_discrete (length x / block_length / 2 ^ k % 2) 1) (open_node_lem plen x k (omega arith))
  where
    c : ℕ
    c = length x / block_length / 2 ^ k

    up : length x / block_length / 2 ^ suc k ≡ length x / block_length / 2 ^ k / 2
    up = rw pow-suc (sym (div-div-eq-div-mul (length x / block_length) (2 ^ k) 2))

    -- what follows the open node is padding
    padding_next : node (leaf_of x) k (length x / block_length / 2 ^ k + 1) ≡ pad_value k
    padding_next = padding_value x k (length x / block_length / 2 ^ k + 1) is_padding
      where
        is_padding : Padding (block_count (length x)) k (length x / block_length / 2 ^ k + 1)
        is_padding =
            let below : length x / block_length < (length x / block_length / 2 ^ k + 1) * 2 ^ k = (div-lt_iff_lt-mul (pow_pos k)).0 (omega arith) in
            let few : block_count (length x) ≤ length x / block_length + 1 = block_outside (length x) (length x / block_length + 1) (omega arith) in
            padding_at (block_count (length x)) k (length x / block_length / 2 ^ k + 1) (omega arith)

    by_case : Dec (length x / block_length / 2 ^ k % 2 ≡ 1) → open_node (history_of plen x) k ≡ node (leaf_of x) k (length x / block_length / 2 ^ k)
        → cond (eqb ((history_of plen x).length / block_length / 2 ^ k % 2) 1) (pair_hash (node_at (history_of plen x).nodes k) (open_node (history_of plen x) k)) (pair_hash (open_node (history_of plen x) k) (pad_value k))
        ≡ pair_hash (node (leaf_of x) k (2 * (length x / block_length / 2 ^ suc k))) (node (leaf_of x) k (2 * (length x / block_length / 2 ^ suc k) + 1))
    by_case (yes o) r =
        let two : 2 * (length x / block_length / 2 ^ k / 2) ≡ length x / block_length / 2 ^ k - 1 = omega (arith, o) in
        let odd : 2 * (length x / block_length / 2 ^ k / 2) + 1 ≡ length x / block_length / 2 ^ k = omega (arith, o) in
        rw (history_length plen x, eq-eqb (length x / block_length / 2 ^ k % 2) 1 o, up)
        (ap₂ (λ (a b : List ℕ). pair_hash a b)
        (history_nodes plen x k (omega arith) ∙ last_some (leaf_of x) (leaf_octets x) k (length x / block_length / 2 ^ k) (omega (arith, o)) ∙ ap (node (leaf_of x) k) (sym two))
        (r ∙ ap (node (leaf_of x) k) (sym odd)))
    by_case (no n) r =
        let two : 2 * (length x / block_length / 2 ^ k / 2) ≡ length x / block_length / 2 ^ k = omega (arith, n) in
        let odd : 2 * (length x / block_length / 2 ^ k / 2) + 1 ≡ length x / block_length / 2 ^ k + 1 = omega (arith, n) in
        rw (history_length plen x, ne_eqb (length x / block_length / 2 ^ k % 2) 1 n, up)
        (ap₂ (λ (a b : List ℕ). pair_hash a b) (r ∙ ap (node (leaf_of x) k) (sym two)) (sym padding_next ∙ ap (node (leaf_of x) k) (sym odd)))

-- ---- the node over the last byte

-- which node of layer k that is
quotients : (n k : ℕ) → n / block_length / 2 ^ k ≡ n / (block_length * 2 ^ k)
quotients n k = div-div-eq-div-mul n block_length (2 ^ k)

-- rounding up does nothing to a whole quotient
pub ceil_whole : (n d : ℕ) → 0 < d → n % d ≡ 0 → ceil_div n d ≡ n / d
ceil_whole n d p e =
    let most = ceil_least n d (n / d) p (omega (arith, div-add-mod' n d)) in
    let enough = ceil_enough n d (ceil_div n d) p (omega arith) in
    let least : n / d < ceil_div n d + 1 = (div-lt_iff_lt-mul p).1 (omega (arith, add-mul (ceil_div n d) 1 d, one-mul d)) in
    omega arith

-- and any other goes up
pub ceil_above : (n d : ℕ) → 0 < d → (n % d ≡ 0 → ⊥) → ceil_div n d ≡ n / d + 1
ceil_above n d p g =
    let most = ceil_least n d (n / d + 1) p (omega (arith, div-add-mod' n d, mod-lt n p, add-mul (n / d) 1 d, one-mul d)) in
    let some = below_ceil n d (n / d) p (omega (arith, div-add-mod' n d, g)) in
    omega arith

-- the node of layer k over the last byte of x
pub last_node_lem : (plen : ℕ) (x : List ℕ) (k : ℕ) → k < node_count → 0 < length x
    → last_node (history_of plen x) k ≡ node (leaf_of x) k (piece_count (length x) (block_length * 2 ^ k) - 1)
unfolding last_node piece_count history_of
last_node_lem plen x k l some = rw (history_length plen x) (by_case (ℕ_discrete (length x % (block_length * 2 ^ k)) 0))
  where
    pos : 0 < block_length * 2 ^ k
    pos = one-le-mul (omega arith) (pow_pos k)

    by_case : Dec (length x % (block_length * 2 ^ k) ≡ 0)
        → cond (eqb (length x % (block_length * 2 ^ k)) 0) (node_at (history_of plen x).nodes k) (open_node (history_of plen x) k)
        ≡ node (leaf_of x) k (ceil_div (length x) (block_length * 2 ^ k) - 1)
    by_case (yes e) =
        let c = ceil_whole (length x) (block_length * 2 ^ k) pos e in
        let q = quotients (length x) k in
        let s : 0 < length x / (block_length * 2 ^ k) = one_at_least (length x / (block_length * 2 ^ k)) refl in
        rw (eq-eqb (length x % (block_length * 2 ^ k)) 0 e)
        (history_nodes plen x k l ∙ ap (last_of (leaf_of x) k) q
        ∙ last_some (leaf_of x) (leaf_octets x) k (length x / (block_length * 2 ^ k)) s
        ∙ ap (λ (m : ℕ). node (leaf_of x) k (m - 1)) (sym c))
      where
        one_at_least : (m : ℕ) → length x / (block_length * 2 ^ k) ≡ m → 0 < length x / (block_length * 2 ^ k)
        one_at_least zero z =
            let d : length x / (block_length * 2 ^ k) * (block_length * 2 ^ k) ≡ 0 = rw z (zero-mul (block_length * 2 ^ k)) in
            absurd (omega (arith, some, e, d, div-add-mod' (length x) (block_length * 2 ^ k)))
        one_at_least (suc m) z = omega (arith, z)
    by_case (no n) =
        let c = ceil_above (length x) (block_length * 2 ^ k) pos n in
        let i : ceil_div (length x) (block_length * 2 ^ k) - 1 ≡ length x / block_length / 2 ^ k = omega (arith, c, quotients (length x) k) in
        rw (ne_eqb (length x % (block_length * 2 ^ k)) 0 n, i) (open_node_lem plen x k (omega arith))

-- ---- the root

-- a file that is not too long has a tree that is not too tall
pub tall_enough : (n : ℕ) → n ≤ longest_file → height (block_count n) < node_count
tall_enough n l =
    let h = height_least (block_count n) tallest_tree (block_outside n (2 ^ tallest_tree) (omega arith)) in
    omega arith

-- the root from the state alone
pub root_of_history : (plen : ℕ) (x : List ℕ) → length x ≤ longest_file → root_of (history_of plen x) ≡ pieces_root x
unfolding root_of pieces_root history_of
root_of_history plen x l = rw (history_length plen x) (by_case (ℕ_discrete (length x) 0))
  where
    by_case : Dec (length x ≡ 0)
        → cond (eqb (length x) 0) zero_hash (last_node (history_of plen x) (height (block_count (length x)))) ≡ node (leaf_of x) (height (block_count (length x))) 0
    by_case (yes e) =
        let b : block_count (length x) ≡ 0 = few_blocks in
        rw (eq-eqb (length x) 0 e) (empty_root ∙ sym (padding_value x (height (block_count (length x))) 0 no_block) ∙ refl)
      where
        few_blocks : block_count (length x) ≡ 0
        few_blocks = let w = block_outside (length x) 0 (omega (arith, e)) in omega arith

        no_block : Padding (block_count (length x)) (height (block_count (length x))) 0
        no_block = padding_at (block_count (length x)) (height (block_count (length x))) 0 (omega (arith, few_blocks))

        empty_root : zero_hash ≡ pad_value (height (block_count (length x)))
        empty_root = zero_pad ∙ ap pad_value (sym (ap height few_blocks ∙ height_zero))
    by_case (no n) =
        let h : ℕ = height (block_count (length x)) in
        let one : piece_count (length x) (block_length * 2 ^ height (block_count (length x))) - 1 ≡ 0 =
        omega (arith, pieces_covering (length x) (height (block_count (length x))), covering_top (block_count (length x)) (block_count_some (length x) (omega (arith, n)))) in
        rw (ne_eqb (length x) 0 n)
        (last_node_lem plen x (height (block_count (length x))) (tall_enough (length x) l) (omega (arith, n)) ∙ ap (node (leaf_of x) (height (block_count (length x)))) one)

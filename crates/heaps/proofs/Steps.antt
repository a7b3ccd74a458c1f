-- What the code's turns and returns give, over plain variables: one law for each.
-- Assumes nothing.
use Rattle.std.specs.Prelude.{◌≡◌, refl, Bool, true, List, ℕ, zero, suc, ◌+◌, ◌-◌, ◌*◌, ◌/◌, ◌%◌, ◌^◌, ◌≤◌, ◌<◌, length}
use Rattle.std.proofs.Common.{ap, sym, ◌∙◌, inl, add-mul, one-mul, le-mul_of_pos_right, add-one, arith, take_all, pow_mono, pow_pos, ltb-true}
use Rattle.std.proofs.Math.Decide.{ℕ_discrete, dec_lt}
use Rattle.octets.specs.Octets.{cut, pasted, same}
use Rattle.octets.specs.OctetsLaws.{cut_pasted_same, cut_pasted_other}
use Rattle.sha256.specs.Sha256.{pair_hash}
use Rattle.lanes.specs.Hashes.{Heap}
use Rattle.tree.specs.Geometry.{Padding, block_length, ceil_div, block_count, covering, height, is_piece_length, piece_layer, has_layer}
use Rattle.tree.proofs.GeometryLaws.{ceil_least, height_least, padding_from_covering, right_end, shifted_one, piece_length_form, long_file_height}
use Rattle.tree.specs.Values.{node, layer_leaf, layer_root}
use Rattle.heaps.specs.Heaps.{Over, Worked, raised}
use Rattle.heaps.specs.HeapsLaws.{node_beyond}

-- one leaf more
pub loaded_more : (leaf : ℕ → List ℕ) (heap heap' h : List ℕ) (m from y : ℕ) → length heap ≡ 64 * m → y < m → length h ≡ 32 → h ≡ leaf (from + y)
    → heap' ≡ pasted heap (32 * (m + y)) h → ((z : ℕ) → z < y → cut heap (32 * (m + z)) 32 ≡ leaf (from + z))
    → (z : ℕ) → z < y + 1 → cut heap' (32 * (m + z)) 32 ≡ leaf (from + z)
loaded_more leaf heap heap' h m from y l b n e p f z g = ap (λ (v : List ℕ). cut v (32 * (m + z)) 32) p ∙ by_place (ℕ_discrete z y)
  where
    by_place : Dec (z ≡ y) → cut (pasted heap (32 * (m + y)) h) (32 * (m + z)) 32 ≡ leaf (from + z)
    by_place (yes d) = rw d (cut_pasted_same heap (32 * (m + y)) h 32 n (omega arith) ∙ e)
    by_place (no d) =
        cut_pasted_other heap (32 * (m + y)) h (omega arith) (32 * (m + z)) 32 (omega arith) (inl (omega arith)) ∙ f z (omega arith)

-- the leaves loaded and the others worked out from them
pub worked : (leaf : ℕ → List ℕ) (m j : ℕ) (heap heap' : List ℕ) → Heap 1 m heap heap'
    → ((y : ℕ) → y < m → cut heap (32 * (m + y)) 32 ≡ leaf (j * m + y)) → Worked leaf m j heap'
worked leaf m j heap heap' p f =
    record { size = p.size; parents = p.parents; leaves = λ y h. p.leaves (m + y) (omega arith) (omega arith) ∙ f y h }

pub raised_more : (v h above : List ℕ) (i : ℕ) → h ≡ raised v i → above ≡ pair_hash h h → above ≡ raised v (i + 1)
unfolding raised
raised_more v h above i e f = rw add-one (f ∙ ap (λ (x : List ℕ). pair_hash x x) e)

-- past the run a node is raised from the value there
pub node_past : (run past h : List ℕ) (k j c : ℕ) → c ≡ covering (length run / 32) k → c ≤ j → h ≡ raised past k
    → (leaf : ℕ → List ℕ) → Over run past leaf → h ≡ node leaf k j
unfolding Padding
node_past run past h k j c e l g leaf o = g ∙ sym (node_beyond leaf past (length run / 32) o.beyond k j (padding_from_covering (length run / 32) k j (omega arith)))

-- ---- run_node's sizes

-- a heap over 2^k leaves, from number j · 2^k on, has its place in a room for 2^e
pub heap_fits : (l e k j : ℕ) → l ≡ 64 * 2 ^ e → k ≤ e → (j + 1) * 2 ^ k < 2 ^ 64
    → (k ≤ 63) × ((1 * 2 ^ k) % 2 ^ 64 ≡ 2 ^ k) × (1 ≤ 2 ^ k) × (64 * 2 ^ k ≤ l) × (j * 2 ^ k + 2 ^ k < 2 ^ 64)
heap_fits l e k j r h b =
    let d = add-mul j 1 (2 ^ k) in
    let o = one-mul (2 ^ k) in
    let w : 2 ^ k < 2 ^ 64 = omega arith in
    let n : k ≤ 63 = small w (dec_lt k 64) in
    (n, shifted_one k n, pow_pos k, omega (arith, pow_mono {i = k} {j = e} h), omega arith)
  where
    small : 2 ^ k < 2 ^ 64 → Dec (k < 64) → k ≤ 63
    small w (yes s) = omega arith
    small w (no s) = absurd (omega (arith, pow_mono {i = 64} {j = k} (omega arith)))

-- both children have their places too
pub halves_fit : (k j : ℕ) → 0 < k → (j + 1) * 2 ^ k < 2 ^ 64
    → (2 * j + 1 < 2 ^ 64) × ((2 * j + 1) * 2 ^ (k - 1) < 2 ^ 64) × ((2 * j + 1 + 1) * 2 ^ (k - 1) < 2 ^ 64)
halves_fit zero j p b = absurd (omega arith)
halves_fit (suc k) j p b =
    let e : suc k - 1 ≡ k = omega arith in
    let w : 2 * j + 1 + 1 ≤ (2 * j + 1 + 1) * 2 ^ k = le-mul_of_pos_right (2 * j + 1 + 1) (pow_pos k) in
    let d = add-mul (2 * j + 1) 1 (2 ^ k) in
    let r = right_end j k in
    rw e (omega arith, omega arith, omega arith)

-- ---- a piece layer's root

-- a file longer than the piece length has its layer below its root
pub layer_under : (plen n : ℕ) → is_piece_length plen ≡ true → has_layer n plen ≡ true → (q b h : ℕ) → q ≡ piece_layer plen → b ≡ block_count n
    → h ≡ height b → q ≤ h
unfolding has_layer
layer_under plen n p l q b h eq eb eh = rw (eq, eh, eb) below
  where
    below : piece_layer plen ≤ height (block_count n)
    below =
        let f = piece_length_form plen p in
        let g : block_length * 2 ^ piece_layer plen < n = rw f.1 at (ltb-true plen n l) in
        omega (arith, long_file_height n (piece_layer plen) g)

-- the leaves of a layer's tree can be counted
pub leaves_few : (n q b h : ℕ) → n < 2 ^ 64 → b ≡ block_count n → h ≡ height b → (0 + 1) * 2 ^ (h - q) < 2 ^ 64
unfolding block_count
leaves_few n q b h l eb eh =
    let c : ceil_div n block_length ≤ 2 ^ 50 = ceil_least n block_length (2 ^ 50) (omega arith) (omega arith) in
    let t : h ≤ 50 = omega (arith, eh, height_least b 50 (omega (arith, eb, c))) in
    omega (arith, pow_mono {i = h - q} {j = 50} (omega arith))

-- the root that is worked out, as the code does it
pub root_worked : (root layer : List ℕ) (plen n q b h : ℕ) (worked mine : List ℕ) (r : Bool) → q ≡ piece_layer plen → b ≡ block_count n → h ≡ height b
    → worked ≡ node (layer_leaf layer q) (h - q) 0 → length root ≡ 32 → mine ≡ cut root 0 32 → r ≡ same worked mine
    → r ≡ same (layer_root layer (piece_layer plen) (height (block_count n))) root
unfolding layer_root
root_worked root layer plen n q b h worked mine r eq eb eh ew l em er = er ∙ rw (ew, em ∙ whole, eh, eb, eq) refl
  where
    whole : cut root 0 32 ≡ root
    whole = unfold cut in take_all 32 root (omega arith)

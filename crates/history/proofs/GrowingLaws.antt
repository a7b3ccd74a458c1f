-- From the state of x, a byte y leads to the state of both; so does any burst. The node over the last byte is the tree's own.
-- Assumes nothing.
use Rattle.std.specs.Prelude.{◌≡◌, refl, cond, List, [], ◌∷◌, ◌++◌, ℕ, ◌+◌, ◌-◌, ◌*◌, ◌/◌, ◌%◌, ◌^◌, ◌≤◌, ◌<◌, length, drop, eqb}
use Rattle.std.proofs.Common.{ap, sym, ◌∙◌, append_assoc, append-nil, div-add-mod', arith, length-append, length-drop, drop_of_length-le, take_all, eq-eqb, ne_eqb}
use Rattle.std.proofs.Math.Decide.{ℕ_discrete}
use Rattle.std.proofs.lemmas.List.{drop-append-le}
use Rattle.octets.specs.Octets.{cut, zero_hash}
use Rattle.octets.specs.OctetsLaws.{cut_append_left}
use Rattle.sha256.specs.Sha256.{sha256}
use Rattle.running.specs.Bursts.{state_of, absorbed, hash_of}
use Rattle.running.specs.BurstsLaws.{absorbed_more, hash_of_state}
use Rattle.tree.specs.Geometry.{block_length}
use Rattle.tree.proofs.GeometryLaws.{block_within}
use Rattle.tree.specs.Values.{node, block_of, leaf_of}
use Rattle.tree.proofs.ValuesLaws.{node_same, leaf_block, leaf_octets}
use Rattle.history.specs.Growing.{node_count, finishing, grown, grown_by}
use Rattle.history.specs.HistoryOf.{last_of, nodes_of, open_block, history_of}
use Rattle.history.proofs.NodesLaws.{nodes_same, nodes_length, nodes_at, finishing_law}
use Rattle.history.specs.declared.History.{History}

-- ---- finished blocks stay

-- a block that x has in full is that of any longer string
pub block_stays : (x ys : List ℕ) (i : ℕ) → i < length x / block_length → block_of (x ++ ys) i ≡ block_of x i
unfolding block_of
block_stays x ys i l = cut_append_left x ys (block_length * i) block_length (omega arith)

-- and so is its leaf
pub leaf_stays : (x ys : List ℕ) (i : ℕ) → i < length x / block_length → leaf_of (x ++ ys) i ≡ leaf_of x i
leaf_stays x ys i l =
    leaf_block (x ++ ys) i (block_within (length (x ++ ys)) i (omega (arith, length-append x ys)))
    ∙ ap sha256 (block_stays x ys i l)
    ∙ sym (leaf_block x i (block_within (length x) i (omega arith)))

-- and each finished node
pub node_stays : (x ys : List ℕ) (k j : ℕ) → (j + 1) * 2 ^ k ≤ length x / block_length → node (leaf_of (x ++ ys)) k j ≡ node (leaf_of x) k j
node_stays x ys k j l = node_same (leaf_of (x ++ ys)) (leaf_of x) k j (λ i a b. leaf_stays x ys i (omega arith))

-- the last finished node of each layer, after b blocks
pub last_stays : (x ys : List ℕ) (k : ℕ) → last_of (leaf_of (x ++ ys)) k (length x / block_length / 2 ^ k) ≡ last_of (leaf_of x) k (length x / block_length / 2 ^ k)
unfolding last_of
last_stays x ys k = by_case (ℕ_discrete (length x / block_length / 2 ^ k) 0)
  where
    c : ℕ
    c = length x / block_length / 2 ^ k

    by_case : Dec (length x / block_length / 2 ^ k ≡ 0)
        → cond (eqb (length x / block_length / 2 ^ k) 0) zero_hash (node (leaf_of (x ++ ys)) k (length x / block_length / 2 ^ k - 1))
        ≡ cond (eqb (length x / block_length / 2 ^ k) 0) zero_hash (node (leaf_of x) k (length x / block_length / 2 ^ k - 1))
    by_case (yes e) = rw (eq-eqb (length x / block_length / 2 ^ k) 0 e)
    by_case (no n) =
        let s : length x / block_length / 2 ^ k - 1 + 1 ≡ length x / block_length / 2 ^ k = omega (arith, n) in
        let le : (length x / block_length / 2 ^ k - 1 + 1) * 2 ^ k ≤ length x / block_length = rw s (omega (arith, div-add-mod' (length x / block_length) (2 ^ k))) in
        rw (ne_eqb (length x / block_length / 2 ^ k) 0 n) (node_stays x ys k (length x / block_length / 2 ^ k - 1) le)

-- ---- a byte more

leaf_is_node : (leaf : ℕ → List ℕ) (i : ℕ) → leaf i ≡ node leaf 0 i
unfolding node
leaf_is_node leaf i = refl

-- the block under way, one byte on
open_within : (x : List ℕ) (y : ℕ) → length (x ++ (y ∷ [])) / block_length ≡ length x / block_length → open_block (x ++ (y ∷ [])) ≡ open_block x ++ (y ∷ [])
unfolding open_block
open_within x y e =
    ap (λ (k : ℕ). drop (block_length * k) (x ++ (y ∷ []))) e ∙ drop-append-le (block_length * (length x / block_length)) x (y ∷ []) (omega arith)

-- the byte does not end a block
grown_within : (plen : ℕ) (x : List ℕ) (y : ℕ) → ((length x + 1) % block_length ≡ 0 → ⊥) → grown (history_of plen x) y ≡ history_of plen (x ++ (y ∷ []))
unfolding grown history_of
grown_within plen x y n =
    let l : length (x ++ (y ∷ [])) ≡ length x + 1 = length-append x (y ∷ []) in
    let b : length (x ++ (y ∷ [])) / block_length ≡ length x / block_length = omega (arith, n) in
    let blk : absorbed (state_of (open_block x)) (y ∷ []) ≡ state_of (open_block (x ++ (y ∷ []))) =
    absorbed_more (open_block x) (y ∷ []) ∙ ap state_of (sym (open_within x y b)) in
    let nds : nodes_of (leaf_of x) (length x / block_length) node_count ≡ nodes_of (leaf_of (x ++ (y ∷ []))) (length (x ++ (y ∷ [])) / block_length) node_count =
    nodes_same node_count (nodes_of (leaf_of x) (length x / block_length) node_count) (nodes_of (leaf_of (x ++ (y ∷ []))) (length (x ++ (y ∷ [])) / block_length) node_count)
    (nodes_length (leaf_of x) (leaf_octets x) (length x / block_length) node_count)
    (nodes_length (leaf_of (x ++ (y ∷ []))) (leaf_octets (x ++ (y ∷ []))) (length (x ++ (y ∷ [])) / block_length) node_count)
    (λ k m.
    nodes_at (leaf_of x) (leaf_octets x) (length x / block_length) node_count k m
    ∙ sym (last_stays x (y ∷ []) k)
    ∙ ap (λ (c : ℕ). last_of (leaf_of (x ++ (y ∷ []))) k (c / 2 ^ k)) (sym b)
    ∙ sym (nodes_at (leaf_of (x ++ (y ∷ []))) (leaf_octets (x ++ (y ∷ []))) (length (x ++ (y ∷ [])) / block_length) node_count k m)) in
    rw (ne_eqb ((length x + 1) % block_length) 0 n) (cc (l, blk, nds))

-- the byte ends block b: its leaf
last_leaf : (x : List ℕ) (y : ℕ) → (length x + 1) % block_length ≡ 0 → sha256 (open_block x ++ (y ∷ [])) ≡ leaf_of (x ++ (y ∷ [])) (length x / block_length)
unfolding open_block block_of cut
last_leaf x y e =
    let l : length (x ++ (y ∷ [])) ≡ length x + 1 = length-append x (y ∷ []) in
    let d : drop (block_length * (length x / block_length)) (x ++ (y ∷ [])) ≡ drop (block_length * (length x / block_length)) x ++ (y ∷ []) =
    drop-append-le (block_length * (length x / block_length)) x (y ∷ []) (omega arith) in
    let k : length (drop (block_length * (length x / block_length)) (x ++ (y ∷ []))) ≤ block_length =
    omega (arith, length-drop (block_length * (length x / block_length)) (x ++ (y ∷ []))) in
    ap sha256 (sym d ∙ sym (take_all block_length (drop (block_length * (length x / block_length)) (x ++ (y ∷ []))) k))
    ∙ sym (leaf_block (x ++ (y ∷ [])) (length x / block_length) (block_within (length (x ++ (y ∷ []))) (length x / block_length) (omega arith)))

-- and no block is under way
open_none : (x : List ℕ) → length x % block_length ≡ 0 → open_block x ≡ []
unfolding open_block
open_none x e = drop_of_length-le x {i = block_length * (length x / block_length)} (omega arith)

grown_whole : (plen : ℕ) (x : List ℕ) (y : ℕ) → (length x + 1) % block_length ≡ 0 → grown (history_of plen x) y ≡ history_of plen (x ++ (y ∷ []))
unfolding grown history_of
grown_whole plen x y e =
    let l : length (x ++ (y ∷ [])) ≡ length x + 1 = length-append x (y ∷ []) in
    let b : length (x ++ (y ∷ [])) / block_length ≡ length x / block_length + 1 = omega (arith, e) in
    let o : open_block (x ++ (y ∷ [])) ≡ [] = open_none (x ++ (y ∷ [])) (omega (arith, e)) in
    let nds = finished_nodes x y (hash_of (absorbed (state_of (open_block x)) (y ∷ [])))
    (ap hash_of (absorbed_more (open_block x) (y ∷ [])) ∙ hash_of_state (open_block x ++ (y ∷ [])) ∙ last_leaf x y e) b in
    rw (eq-eqb ((length x + 1) % block_length) 0 e) (cc (l, o, nds))
  where
    finished_nodes : (x : List ℕ) (y : ℕ) (hash : List ℕ) → hash ≡ leaf_of (x ++ (y ∷ [])) (length x / block_length)
        → length (x ++ (y ∷ [])) / block_length ≡ length x / block_length + 1
        → finishing node_count (nodes_of (leaf_of x) (length x / block_length) node_count) 0 (length x / block_length) hash
        ≡ nodes_of (leaf_of (x ++ (y ∷ []))) (length (x ++ (y ∷ [])) / block_length) node_count
    finished_nodes x y hash eh b =
        let r = finishing_law (leaf_of (x ++ (y ∷ []))) (leaf_octets (x ++ (y ∷ []))) node_count 0 (length x / block_length) (length x / block_length)
        (nodes_of (leaf_of x) (length x / block_length) node_count) hash
        (nodes_length (leaf_of x) (leaf_octets x) (length x / block_length) node_count ∙ omega arith)
        (omega arith)
        (eh ∙ leaf_is_node (leaf_of (x ++ (y ∷ []))) (length x / block_length))
        (λ j m. absurd (omega arith))
        (λ j m h. nodes_at (leaf_of x) (leaf_octets x) (length x / block_length) node_count j (omega arith) ∙ sym (last_stays x (y ∷ []) j)) in
        nodes_same node_count (finishing node_count (nodes_of (leaf_of x) (length x / block_length) node_count) 0 (length x / block_length) hash)
        (nodes_of (leaf_of (x ++ (y ∷ []))) (length (x ++ (y ∷ [])) / block_length) node_count)
        (r.0 ∙ omega arith)
        (nodes_length (leaf_of (x ++ (y ∷ []))) (leaf_octets (x ++ (y ∷ []))) (length (x ++ (y ∷ [])) / block_length) node_count)
        (λ k m.
        r.1 k (omega arith)
        ∙ ap (λ (c : ℕ). last_of (leaf_of (x ++ (y ∷ []))) k (c / 2 ^ k)) (sym b)
        ∙ sym (nodes_at (leaf_of (x ++ (y ∷ []))) (leaf_octets (x ++ (y ∷ []))) (length (x ++ (y ∷ [])) / block_length) node_count k m))

-- from the state of x, a byte y leads to the state of both
pub grown_more : (plen : ℕ) (x : List ℕ) (y : ℕ) → grown (history_of plen x) y ≡ history_of plen (x ++ (y ∷ []))
grown_more plen x y = by_case (ℕ_discrete ((length x + 1) % block_length) 0)
  where
    by_case : Dec ((length x + 1) % block_length ≡ 0) → grown (history_of plen x) y ≡ history_of plen (x ++ (y ∷ []))
    by_case (yes e) = grown_whole plen x y e
    by_case (no n) = grown_within plen x y n

-- and so does a burst
pub grown_by_lem : (plen : ℕ) (x ys : List ℕ) → grown_by (history_of plen x) ys ≡ history_of plen (x ++ ys)
unfolding grown_by
grown_by_lem plen x [] = ap (history_of plen) (sym (append-nil x))
grown_by_lem plen x (y ∷ ys) =
    ap (λ (s : History). grown_by s ys) (grown_more plen x y) ∙ grown_by_lem plen (x ++ (y ∷ [])) ys ∙ ap (history_of plen) (append_assoc x (y ∷ []) ys)

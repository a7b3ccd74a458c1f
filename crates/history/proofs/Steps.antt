-- One turn of each loop, and what a part of a burst leads to, as the code takes it.
-- Assumes nothing.
use Rattle.std.specs.Prelude.{◌≡◌, refl, true, cond, List, [], ◌∷◌, ◌++◌, ℕ, zero, suc, ◌+◌, ◌-◌, ◌*◌, ◌/◌, ◌%◌, ◌^◌, ◌≤◌, ◌<◌, length, take, drop, eqb, ltb}
use Rattle.std.proofs.Common.{ap, ap₂, sym, ◌∙◌, mul_assoc, mul_comm, zero-mul, div-add-mod', pow-suc, mod-eq_of_lt, arith, take-append-drop, drop-drop, pow_pos, pow_mono, eq-eqb, ne_eqb, lt-ltb, le-ltb}
use Rattle.std.proofs.Math.Bool.{and-false}
use Rattle.std.proofs.Math.Nat.{pow-succ', div-div-eq-div-mul}
use Rattle.octets.specs.Octets.{pasted}
use Rattle.limits.specs.Limits.{tallest_tree}
use Rattle.sha256.specs.Sha256.{pair_hash}
use Rattle.running.specs.Bursts.{state_of, absorbed, hash_of}
use Rattle.running.specs.BurstsLaws.{absorbed_twice}
use Rattle.running.specs.declared.Hashing.{Hashing}
use Rattle.tree.specs.Geometry.{block_length, block_count, height, piece_layer, is_piece_length}
use Rattle.tree.proofs.GeometryLaws.{piece_length_form}
use Rattle.tree.specs.Values.{pad_value}
use Rattle.history.specs.Growing.{node_count, node_at, finishing, grown, grown_by, noted, noted_by, open_leaf, open_above, open_node, last_node, root_of}
use Rattle.history.specs.declared.History.{History}

-- ---- a leaf is finished

-- a right child: its parent is finished too
pub finishing_turn : (n k i : ℕ) (nodes hash : List ℕ) → k < n → i % 2 ≡ 1
    → finishing (n - k) nodes k i hash ≡ finishing (n - (k + 1)) (pasted nodes (32 * k) hash) (k + 1) (i / 2) (pair_hash (node_at nodes k) hash)
unfolding finishing
finishing_turn n k i nodes hash l o =
    let e : n - k ≡ suc (n - (k + 1)) = omega arith in
    let s : suc k ≡ k + 1 = omega arith in
    rw (e, eq-eqb (i % 2) 1 o, s)

-- a left one: it is kept
pub finishing_end : (n k i : ℕ) (nodes hash : List ℕ) → k < n → (i % 2 ≡ 1 → ⊥) → finishing (n - k) nodes k i hash ≡ pasted nodes (32 * k) hash
unfolding finishing
finishing_end n k i nodes hash l o =
    let e : n - k ≡ suc (n - (k + 1)) = omega arith in
    rw (e, ne_eqb (i % 2) 1 o)

-- a node's number halves as the layers above it do
pub halved : (t k i : ℕ) → k ≤ t → i < 2 ^ (t - k) → i % 2 ≡ 1 → (k < t) × (i / 2 < 2 ^ (t - (k + 1)))
halved t k i l b o = (below (t - k) refl, half (t - k) refl)
  where
    below : (d : ℕ) → t - k ≡ d → k < t
    below zero e = let q : 2 ^ (t - k) ≡ 1 = rw e refl in absurd (omega (arith, q))
    below (suc d) e = omega (arith, e)

    half : (d : ℕ) → t - k ≡ d → i / 2 < 2 ^ (t - (k + 1))
    half zero e = let q : 2 ^ (t - k) ≡ 1 = rw e refl in absurd (omega (arith, q))
    half (suc d) e =
        let f : t - (k + 1) ≡ d = omega (arith, e) in
        let g : 2 ^ (t - k) ≡ 2 * 2 ^ d = rw e (pow-succ' 2 d) in
        rw f (omega (arith, g))

-- ---- a part of a burst

-- what a part that stays within a block leads to, or ends it
unfoldable pub grown_part : History → List ℕ → History
grown_part s ys =
    cond (eqb ((s.length + length ys) % block_length) 0)
    (record {
      piece_length = s.piece_length;
      length = s.length + length ys;
      block = state_of [];
      nodes = finishing node_count s.nodes 0 (s.length / block_length) (hash_of (absorbed s.block ys));
    })
    (record { piece_length = s.piece_length; length = s.length + length ys; block = absorbed s.block ys; nodes = s.nodes })

-- a byte within a block
grown_inside : (s : History) (y : ℕ) → ((s.length + 1) % block_length ≡ 0 → ⊥)
    → grown s y ≡ record { piece_length = s.piece_length; length = s.length + 1; block = absorbed s.block (y ∷ []); nodes = s.nodes }
unfolding grown
grown_inside s y n = rw (ne_eqb ((s.length + 1) % block_length) 0 n)

-- a part is its bytes one after the other
pub grown_part_lem : (y : ℕ) (ys : List ℕ) (s : History) → s.length % block_length + length (y ∷ ys) ≤ block_length → grown_by s (y ∷ ys) ≡ grown_part s (y ∷ ys)
unfolding grown_by grown grown_part
grown_part_lem y [] s l = refl
grown_part_lem y (z ∷ ys) s l =
    let n : (s.length + 1) % block_length ≡ 0 → ⊥ = λ e. omega (arith, e, l) in
    let t : History = record { piece_length = s.piece_length; length = s.length + 1; block = absorbed s.block (y ∷ []); nodes = s.nodes } in
    let q : (s.length + 1) / block_length ≡ s.length / block_length = omega (arith, l) in
    let m : s.length + 1 + length (z ∷ ys) ≡ s.length + length (y ∷ z ∷ ys) = omega arith in
    ap (λ (u : History). grown_by u (z ∷ ys)) (grown_inside s y n)
    ∙ grown_part_lem z ys (record { piece_length = s.piece_length; length = s.length + 1; block = absorbed s.block (y ∷ []); nodes = s.nodes }) (omega (arith, l))
    ∙ rw (q, m, absorbed_twice s.block (y ∷ []) (z ∷ ys))

-- the rest of a burst behind a part
pub grown_rest : (s : History) (xs ys : List ℕ) → grown_by s (xs ++ ys) ≡ grown_by (grown_by s xs) ys
unfolding grown_by
grown_rest s [] ys = refl
grown_rest s (x ∷ xs) ys = grown_rest (grown s x) xs ys

pub noted_rest : (s : History) (layer xs ys : List ℕ) → noted_by s layer (xs ++ ys) ≡ noted_by (grown_by s xs) (noted_by s layer xs) ys
unfolding grown_by noted_by
noted_rest s layer [] ys = refl
noted_rest s layer (x ∷ xs) ys = noted_rest (grown s x) _ xs ys

-- a history that ends within a piece passes none
pub noted_not : (s : History) (layer : List ℕ) → (s.length % s.piece_length ≡ 0 → ⊥) → noted s layer ≡ layer
unfolding noted
noted_not s layer n = rw (ne_eqb (s.length % s.piece_length) 0 n, and-false (ltb 0 s.length))

-- and so does one that has bytes of a block under way
pub noted_inside : (s : History) (layer : List ℕ) → is_piece_length s.piece_length ≡ true → (s.length % block_length ≡ 0 → ⊥) → noted s layer ≡ layer
noted_inside s layer good n =
    let g : s.length % s.piece_length ≡ 0 → ⊥ = λ e.
    n (whole_pieces s.length s.piece_length (2 ^ piece_layer s.piece_length) (piece_length_form s.piece_length good).1 e) in
    noted_not s layer g
  where
    whole_pieces : (n plen m : ℕ) → plen ≡ block_length * m → n % plen ≡ 0 → n % block_length ≡ 0
    whole_pieces n plen m f e =
        let d : n / plen * plen ≡ block_length * (m * (n / plen)) = ap (λ (x : ℕ). n / plen * x) f ∙ mul_comm (n / plen) (block_length * m) ∙ mul_assoc block_length m (n / plen) in
        omega (arith, e, d, div-add-mod' n plen)

-- so a part writes what its first byte does
pub noted_part : (y : ℕ) (ys : List ℕ) (s : History) (layer : List ℕ) → is_piece_length s.piece_length ≡ true → s.length % block_length + length (y ∷ ys) ≤ block_length
    → noted_by s layer (y ∷ ys) ≡ noted s layer
unfolding noted_by
noted_part y [] s layer good l = refl
noted_part y (z ∷ ys) s layer good l =
    let n : (s.length + 1) % block_length ≡ 0 → ⊥ = λ e. omega (arith, e, l) in
    ap (λ (u : History). noted_by u (noted s layer) (z ∷ ys)) (grown_inside s y n)
    ∙ noted_part z ys (record { piece_length = s.piece_length; length = s.length + 1; block = absorbed s.block (y ∷ []); nodes = s.nodes }) (noted s layer) good (omega (arith, l))
    ∙ noted_inside (record { piece_length = s.piece_length; length = s.length + 1; block = absorbed s.block (y ∷ []); nodes = s.nodes }) (noted s layer) good n

-- ---- a piece that is run past

-- each layer that may be the piece layer has its node
pub piece_layer_below : (plen : ℕ) → is_piece_length plen ≡ true → piece_layer plen < node_count
piece_layer_below plen good = omega (arith, (piece_length_form plen good).0)

pub noted_none : (s : History) (layer : List ℕ) → s.length ≡ 0 → noted s layer ≡ layer
unfolding noted
noted_none s layer e = rw (le-ltb 0 s.length (omega (arith, e)))

pub noted_yes : (s : History) (layer : List ℕ) → (s.length ≡ 0 → ⊥) → s.length % s.piece_length ≡ 0
    → noted s layer ≡ pasted layer (32 * (s.length / s.piece_length - 1)) (node_at s.nodes (piece_layer s.piece_length))
unfolding noted
noted_yes s layer n e = rw (lt-ltb 0 s.length (omega (arith, n)), eq-eqb (s.length % s.piece_length) 0 e)

-- a number that is a whole multiple and not 0 is at least once that
pub quotient_some : (n d : ℕ) → (n ≡ 0 → ⊥) → n % d ≡ 0 → 1 ≤ n / d
quotient_some n d g e = by_case (n / d) refl
  where
    by_case : (q : ℕ) → n / d ≡ q → 1 ≤ n / d
    by_case zero z = let w : n / d * d ≡ 0 = rw z (zero-mul d) in absurd (g (omega (arith, e, w, div-add-mod' n d)))
    by_case (suc q) z = omega (arith, z)

-- ---- a part as the code takes it

part_law : (s : History) (part : List ℕ) → 0 < length part → s.length % block_length + length part ≤ block_length → grown_by s part ≡ grown_part s part
part_law s [] p l = absurd (omega (arith, p))
part_law s (y ∷ ys) p l = grown_part_lem y ys s l

pub note_law : (s : History) (layer part : List ℕ) → is_piece_length s.piece_length ≡ true → 0 < length part → s.length % block_length + length part ≤ block_length
    → noted_by s layer part ≡ noted s layer
note_law s layer [] good p l = absurd (omega (arith, p))
note_law s layer (y ∷ ys) good p l = noted_part y ys s layer good l

part_whole : (s : History) (part : List ℕ) (block begun : Hashing) (leaf nodes : List ℕ) → (s.length + length part) % block_length ≡ 0
    → block ≡ absorbed s.block part → leaf ≡ hash_of block → nodes ≡ finishing node_count s.nodes 0 (s.length / block_length) leaf → begun ≡ state_of []
    → record { piece_length = s.piece_length; length = s.length + length part; block = begun; nodes = nodes } ≡ grown_part s part
unfolding grown_part
part_whole s part block begun leaf nodes e eb el en es = rw (eq-eqb ((s.length + length part) % block_length) 0 e) (cc (eb, el, en, es))

part_within : (s : History) (part : List ℕ) (block : Hashing) → ((s.length + length part) % block_length ≡ 0 → ⊥) → block ≡ absorbed s.block part
    → record { piece_length = s.piece_length; length = s.length + length part; block = block; nodes = s.nodes } ≡ grown_part s part
unfolding grown_part
part_within s part block n eb = rw (ne_eqb ((s.length + length part) % block_length) 0 n) (cc eb)

pub grow_whole : (s : History) (part : List ℕ) (block begun : Hashing) (leaf nodes : List ℕ) → 0 < length part → s.length % block_length + length part ≤ block_length
    → (s.length + length part) % block_length ≡ 0
    → block ≡ absorbed s.block part
    → leaf ≡ hash_of block
    → nodes ≡ finishing node_count s.nodes 0 (s.length / block_length) leaf
    → begun ≡ state_of []
    → record { piece_length = s.piece_length; length = s.length + length part; block = begun; nodes = nodes } ≡ grown_by s part
grow_whole s part block begun leaf nodes p l e eb el en es = part_whole s part block begun leaf nodes e eb el en es ∙ sym (part_law s part p l)

pub grow_within : (s : History) (part : List ℕ) (block : Hashing) → 0 < length part → s.length % block_length + length part ≤ block_length
    → ((s.length + length part) % block_length ≡ 0 → ⊥)
    → block ≡ absorbed s.block part
    → record { piece_length = s.piece_length; length = s.length + length part; block = block; nodes = s.nodes } ≡ grown_by s part
grow_within s part block p l n eb = part_within s part block n eb ∙ sym (part_law s part p l)

-- ---- the whole burst

-- what is left behind a part
pub left_behind : (l : List ℕ) (a e : ℕ) → a ≤ e → drop a l ≡ take (e - a) (drop a l) ++ drop e l
left_behind l a e h =
    let s : a + (e - a) ≡ e = omega arith in
    sym (ap (λ (t : List ℕ). take (e - a) (drop a l) ++ t) (sym (drop-drop (e - a) a l ∙ ap (λ (k : ℕ). drop k l) s)) ∙ take-append-drop (e - a) (drop a l))

pub grown_turn : (s t u : History) (burst : List ℕ) (a e : ℕ) → a ≤ e → grown_by t (drop a burst) ≡ grown_by s burst → u ≡ grown_by t (take (e - a) (drop a burst))
    → grown_by u (drop e burst) ≡ grown_by s burst
grown_turn s t u burst a e h i d =
    ap (λ (x : History). grown_by x (drop e burst)) d
    ∙ sym (grown_rest t (take (e - a) (drop a burst)) (drop e burst))
    ∙ ap (grown_by t) (sym (left_behind burst a e h))
    ∙ i

pub noted_turn : (s t u : History) (burst layer₀ layer after : List ℕ) (a e : ℕ) → a ≤ e → noted_by t layer (drop a burst) ≡ noted_by s layer₀ burst
    → u ≡ grown_by t (take (e - a) (drop a burst)) → after ≡ noted_by t layer (take (e - a) (drop a burst))
    → noted_by u after (drop e burst) ≡ noted_by s layer₀ burst
noted_turn s t u burst layer₀ layer after a e h i d n =
    ap₂ (λ (x : History) (y : List ℕ). noted_by x y (drop e burst)) d n
    ∙ sym (noted_rest t layer (take (e - a) (drop a burst)) (drop e burst))
    ∙ ap (noted_by t layer) (sym (left_behind burst a e h))
    ∙ i

pub grown_none : (s : History) (l : List ℕ) → l ≡ [] → grown_by s l ≡ s
unfolding grown_by
grown_none s l e = rw e

pub noted_end : (s : History) (layer l : List ℕ) → l ≡ [] → noted_by s layer l ≡ layer
unfolding noted_by
noted_end s layer l e = rw e

-- ---- the node under way

pub above_more : (nodes leaf left child pad up : List ℕ) (i j l : ℕ) → child ≡ open_above nodes leaf i l → pad ≡ pad_value l → j ≡ i / 2 ^ l → left ≡ node_at nodes l
    → up ≡ cond (eqb (j % 2) 1) (pair_hash left child) (pair_hash child pad)
    → up ≡ open_above nodes leaf i (l + 1)
unfolding open_above
above_more nodes leaf left child pad up i j l ec ep ej el eu =
    let s : l + 1 ≡ suc l = omega arith in
    eu ∙ rw (s, ← ec, ← ep, ← ej, ← el)

pub half_more : (i j l : ℕ) → j ≡ i / 2 ^ l → j / 2 ≡ i / 2 ^ (l + 1)
half_more i j l e = let s : l + 1 ≡ suc l = omega arith in rw (s, e, pow-suc) (div-div-eq-div-mul i (2 ^ l) 2)

pub above_none : (nodes leaf : List ℕ) (i : ℕ) → leaf ≡ open_above nodes leaf i 0
unfolding open_above
above_none nodes leaf i = refl

-- ---- the node over the last byte

-- the blocks under a node of layer k, in bytes, as code shifts them
pub shifted_block : (k : ℕ) → k < node_count → (16384 * 2 ^ k) % 2 ^ 64 ≡ block_length * 2 ^ k
shifted_block k l =
    let w : 2 ^ k ≤ 2 ^ tallest_tree = pow_mono {i = k} {j = tallest_tree} (omega arith) in
    mod-eq_of_lt (omega (arith, w))

pub shifted_some : (k : ℕ) → k < node_count → 0 < (16384 * 2 ^ k) % 2 ^ 64
shifted_some k l = omega (arith, shifted_block k l, pow_pos k)

pub last_whole : (s : History) (hash : List ℕ) (k size : ℕ) → size ≡ block_length * 2 ^ k → s.length % size ≡ 0 → hash ≡ node_at s.nodes k → hash ≡ last_node s k
unfolding last_node
last_whole s hash k size z e h = rw (eq-eqb (s.length % (block_length * 2 ^ k)) 0 (rw z at e)) h

pub last_open : (s : History) (hash leaf : List ℕ) (k size : ℕ) → size ≡ block_length * 2 ^ k → (s.length % size ≡ 0 → ⊥) → leaf ≡ open_leaf s
    → hash ≡ open_above s.nodes leaf (s.length / block_length) k → hash ≡ last_node s k
unfolding last_node open_node
last_open s hash leaf k size z n e h =
    rw (ne_eqb (s.length % (block_length * 2 ^ k)) 0 (rw z at n)) (h ∙ ap (λ (l : List ℕ). open_above s.nodes l (s.length / block_length) k) e)

pub root_some : (s : History) (hash : List ℕ) (b k : ℕ) → (s.length ≡ 0 → ⊥) → b ≡ block_count s.length → k ≡ height b → hash ≡ last_node s k → hash ≡ root_of s
unfolding root_of
root_some s hash b k n eb ek h = rw (ne_eqb s.length 0 n) (h ∙ ap (last_node s) (ek ∙ ap height eb))

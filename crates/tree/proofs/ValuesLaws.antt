-- What follows from the definitions of Values: padding has its value everywhere, any layer gives the same root, a piece is judged by its own bytes.
-- Nothing here looks into `sha256` or `pair_hash`: all but the sizes holds for any of them. Assumes nothing.
use Rattle.std.specs.Prelude.{◌≡◌, refl, List, ◌++◌, ℕ, zero, suc, ◌+◌, ◌-◌, ◌*◌, ◌/◌, ◌^◌, ◌≤◌, ◌<◌, length}
use Rattle.std.proofs.Common.{ap, ap₂, sym, ◌∙◌, subst, add-mul, one-mul, mul_assoc, mul_comm, add-suc, add-zero, arith, lt-ltb, le-ltb}
use Rattle.std.proofs.Math.Decide.{dec_lt}
use Rattle.octets.specs.Octets.{Octets, cut}
use Rattle.octets.specs.OctetsLaws.{cut_cut, cut_size, cut_whole, cut_append_left, cut_append_right, append_octets, zero_octets}
use Rattle.sha256.specs.Sha256Laws.{sha256_octets, pair_octets}
use Rattle.sha256.specs.Sha256.{sha256, pair_hash}
use Rattle.tree.specs.Geometry.{block_length, block_count, height, Padding, covering, block_size, piece_size}
use Rattle.tree.proofs.GeometryLaws.{padding_from_covering, block_past, block_starts, block_within, block_outside, left_start, right_start, right_end}
use Rattle.tree.specs.Values.{node, pad_value, block_of, leaf_of, pieces_root, piece_of, layer_of, whole_layer, layer_leaf, layer_root}

-- ---- nodes over any leaves

-- a node depends only on the leaves below it
pub node_same : (f g : ℕ → List ℕ) (k j : ℕ) → ((i : ℕ) → j * 2 ^ k ≤ i → i < (j + 1) * 2 ^ k → f i ≡ g i) → node f k j ≡ node g k j
unfolding node
node_same f g zero j h = h j (omega arith) (omega arith)
node_same f g (suc k) j h =
    ap₂ (λ (l r : List ℕ). pair_hash l r)
    (node_same f g k (2 * j) (λ i a b. h i (omega (arith, left_start j k)) (omega (arith, right_start j k, right_end j k, add-mul (2 * j + 1) 1 (2 ^ k), one-mul (2 ^ k)))))
    (node_same f g k (2 * j + 1) (λ i a b. h i (omega (arith, left_start j k, right_start j k)) (omega (arith, right_end j k))))

-- a node k layers above layer p is the node k layers above leaves that are the nodes of layer p
pub node_up : (leaf : ℕ → List ℕ) (p k j : ℕ) → node leaf (p + k) j ≡ node (λ i. node leaf p i) k j
unfolding node
node_up leaf p zero j = ap (λ (x : ℕ). node leaf x j) (add-zero p)
node_up leaf p (suc k) j =
    ap (λ (x : ℕ). node leaf x j) (add-suc p k) ∙ ap₂ (λ (l r : List ℕ). pair_hash l r) (node_up leaf p k (2 * j)) (node_up leaf p k (2 * j + 1))

-- number a + m of layer k is number m over the leaves from the first one below number a on
pub node_shift : (leaf : ℕ → List ℕ) (k a m : ℕ) → node (λ x. leaf (a * 2 ^ k + x)) k m ≡ node leaf k (a + m)
unfolding node
node_shift leaf zero a m = let e : a * 2 ^ 0 ≡ a = omega arith in ap (λ (x : ℕ). leaf (x + m)) e
node_shift leaf (suc k) a m =
    let l : 2 * a + 2 * m ≡ 2 * (a + m) = omega arith in
    let r : 2 * a + (2 * m + 1) ≡ 2 * (a + m) + 1 = omega arith in
    ap (λ (y : ℕ). pair_hash (node (λ x. leaf (y + x)) k (2 * m)) (node (λ x. leaf (y + x)) k (2 * m + 1))) (sym (left_start a k))
    ∙ ap₂ (λ (l r : List ℕ). pair_hash l r) (node_shift leaf k (2 * a) (2 * m) ∙ ap (node leaf k) l) (node_shift leaf k (2 * a) (2 * m + 1) ∙ ap (node leaf k) r)

-- padding's parent is padding, and has the padding value: where the leaves from `from` on are layer p's padding, so are the nodes above them
pub node_padding : (leaf : ℕ → List ℕ) (p from : ℕ) → ((i : ℕ) → from ≤ i → leaf i ≡ pad_value p) → (k j : ℕ) → from ≤ j * 2 ^ k → node leaf k j ≡ pad_value (p + k)
unfolding node pad_value
node_padding leaf p from h zero j l = h j (omega arith) ∙ ap pad_value (sym (add-zero p))
node_padding leaf p from h (suc k) j l =
    ap₂ (λ (a b : List ℕ). pair_hash a b)
    (node_padding leaf p from h k (2 * j) (omega (arith, left_start j k)))
    (node_padding leaf p from h k (2 * j + 1) (omega (arith, left_start j k, right_start j k)))
    ∙ ap pad_value (sym (add-suc p k))

-- ---- the leaves of a file

-- a block has just the bytes that the file has for it: the last one is never filled up
pub block_bytes : (file : List ℕ) (i : ℕ) → length (block_of file i) ≡ block_size (length file) i
unfolding block_of block_size
block_bytes file i = cut_size file (block_length * i) block_length

-- the leaves of the blocks are the hashes of the blocks
pub leaf_block : (file : List ℕ) (i : ℕ) → i < block_count (length file) → leaf_of file i ≡ sha256 (block_of file i)
unfolding leaf_of
leaf_block file i h = rw (lt-ltb i (block_count (length file)) h)

-- the leaves after them are 32 zero bytes
pub leaf_padding : (file : List ℕ) (i : ℕ) → block_count (length file) ≤ i → leaf_of file i ≡ pad_value 0
unfolding leaf_of pad_value
leaf_padding file i h = rw (le-ltb i (block_count (length file)) h)

-- a padding position of a file's tree has the padding value of its layer
pub padding_value : (file : List ℕ) (l i : ℕ) → Padding (block_count (length file)) l i → node (leaf_of file) l i ≡ pad_value l
unfolding Padding
padding_value file l i h =
    node_padding (leaf_of file) 0 (block_count (length file)) (leaf_padding file) l i h
    ∙ (let e : 0 + l ≡ l = omega arith in ap pad_value e)

-- ---- every value is a string of 32 bytes

-- a node over leaves of 32 bytes is one
pub node_octets : (leaf : ℕ → List ℕ) → ((i : ℕ) → Octets 32 (leaf i)) → (k j : ℕ) → Octets 32 (node leaf k j)
unfolding node
node_octets leaf h zero j = h j
node_octets leaf h (suc k) j = pair_octets (node leaf k (2 * j)) (node leaf k (2 * j + 1))

-- a padding value
pub pad_octets : (l : ℕ) → Octets 32 (pad_value l)
unfolding pad_value
pad_octets zero = zero_octets
pad_octets (suc l) = pair_octets (pad_value l) (pad_value l)

-- a leaf of a file
pub leaf_octets : (file : List ℕ) (i : ℕ) → Octets 32 (leaf_of file i)
leaf_octets file i = by_side (dec_lt i (block_count (length file)))
  where
    by_side : Dec (i < block_count (length file)) → Octets 32 (leaf_of file i)
    by_side (yes l) = rw (leaf_block file i l) (sha256_octets (block_of file i))
    by_side (no g) = rw (leaf_padding file i (omega arith)) (pad_octets 0)

-- a node of a file
pub file_octets : (file : List ℕ) (k j : ℕ) → Octets 32 (node (leaf_of file) k j)
file_octets file = node_octets (leaf_of file) (leaf_octets file)

-- its pieces root
pub root_octets : (file : List ℕ) → Octets 32 (pieces_root file)
unfolding pieces_root
root_octets file = file_octets file (height (block_count (length file))) 0

-- and c hashes of a layer are 32 times c
pub layer_octets : (file : List ℕ) (p c : ℕ) → Octets (32 * c) (layer_of file p c)
unfolding layer_of
layer_octets file p zero = record { size = refl; bytes = λ i h. absurd (omega arith) }
layer_octets file p (suc c) =
    let e : 32 * c + 32 ≡ 32 * suc c = omega arith in
    subst (λ (n : ℕ). Octets n (layer_of file p c ++ node (leaf_of file) p c)) e (append_octets (layer_octets file p c) (file_octets file p c))

-- ---- any layer gives the root

-- hash i of a layer's string is node i of the layer
pub layer_cut : (file : List ℕ) (p c i : ℕ) → i < c → cut (layer_of file p c) (32 * i) 32 ≡ node (leaf_of file) p i
unfolding layer_of
layer_cut file p zero i h = absurd (omega arith)
layer_cut file p (suc c) i h = by_side (dec_lt i c) (layer_cut file p c i)
  where
    by_side : Dec (i < c) → (i < c → cut (layer_of file p c) (32 * i) 32 ≡ node (leaf_of file) p i)
        → cut (layer_of file p c ++ node (leaf_of file) p c) (32 * i) 32 ≡ node (leaf_of file) p i
    by_side (yes l) r = cut_append_left (layer_of file p c) (node (leaf_of file) p c) (32 * i) 32 (omega (arith, (layer_octets file p c).size)) ∙ r l
    by_side (no g) r =
        let e : i ≡ c = omega arith in
        cut_append_right (layer_of file p c) (node (leaf_of file) p c) (32 * i) 32 (omega (arith, (layer_octets file p c).size)) (file_octets file p c).size
        ∙ ap (node (leaf_of file) p) (sym e)

-- the leaves over a layer's string are its hashes
pub layer_leaf_in : (layer : List ℕ) (p c i : ℕ) → length layer ≡ 32 * c → i < c → layer_leaf layer p i ≡ cut layer (32 * i) 32
unfolding layer_leaf
layer_leaf_in layer p c i e h = rw (lt-ltb i (length layer / 32) (omega arith))

-- and after them the padding value
pub layer_leaf_past : (layer : List ℕ) (p c i : ℕ) → length layer ≡ 32 * c → c ≤ i → layer_leaf layer p i ≡ pad_value p
unfolding layer_leaf
layer_leaf_past layer p c i e h = rw (le-ltb i (length layer / 32) (omega arith))

-- the nodes above a layer, worked out from the string of its hashes that aren't padding, are the nodes of the file
pub node_of_layer : (file layer : List ℕ) (p : ℕ) → length layer ≡ 32 * covering (block_count (length file)) p
    → ((i : ℕ) → i < covering (block_count (length file)) p → cut layer (32 * i) 32 ≡ node (leaf_of file) p i)
    → (k j : ℕ) → node (layer_leaf layer p) k j ≡ node (leaf_of file) (p + k) j
node_of_layer file layer p e h k j =
    node_same (layer_leaf layer p) (λ i. node (leaf_of file) p i) k j (λ i a b. by_side i (dec_lt i (covering (block_count (length file)) p)))
    ∙ sym (node_up (leaf_of file) p k j)
  where
    by_side : (i : ℕ) → Dec (i < covering (block_count (length file)) p) → layer_leaf layer p i ≡ node (leaf_of file) p i
    by_side i (yes l) = layer_leaf_in layer p (covering (block_count (length file)) p) i e l ∙ h i l
    by_side i (no g) =
        layer_leaf_past layer p (covering (block_count (length file)) p) i e (omega arith)
        ∙ sym (padding_value file p i (padding_from_covering (block_count (length file)) p i (omega arith)))

-- a layer padded with its padding value gives the same root as the leaves padded with zeros, whichever layer it is
pub root_of_layer : (file layer : List ℕ) (p : ℕ) → p ≤ height (block_count (length file))
    → length layer ≡ 32 * covering (block_count (length file)) p
    → ((i : ℕ) → i < covering (block_count (length file)) p → cut layer (32 * i) 32 ≡ node (leaf_of file) p i)
    → layer_root layer p (height (block_count (length file))) ≡ pieces_root file
unfolding layer_root pieces_root
root_of_layer file layer p l e h =
    let s : p + (height (block_count (length file)) - p) ≡ height (block_count (length file)) = omega arith in
    node_of_layer file layer p e h (height (block_count (length file)) - p) 0
    ∙ ap (λ (x : ℕ). node (leaf_of file) x 0) s

-- so the root doesn't depend on the piece length
pub root_of_whole_layer : (file : List ℕ) (p : ℕ) → p ≤ height (block_count (length file))
    → layer_root (whole_layer file p) p (height (block_count (length file))) ≡ pieces_root file
unfolding whole_layer
root_of_whole_layer file p l =
    root_of_layer file (layer_of file p (covering (block_count (length file)) p)) p l
    (layer_octets file p (covering (block_count (length file)) p)).size
    (layer_cut file p (covering (block_count (length file)) p))

-- ---- a piece by its own bytes

-- a piece too has just its own bytes
pub piece_bytes : (file : List ℕ) (p i : ℕ) → length (piece_of file p i) ≡ piece_size (length file) (block_length * 2 ^ p) i
unfolding piece_of piece_size
piece_bytes file p i = cut_size file (block_length * 2 ^ p * i) (block_length * 2 ^ p)

-- block x of piece i is block i·2^p + x of the file
pub block_of_piece : (file : List ℕ) (p i x : ℕ) → x < 2 ^ p → block_of (piece_of file p i) x ≡ block_of file (i * 2 ^ p + x)
unfolding block_of piece_of
block_of_piece file p i x h =
    cut_cut file (block_length * 2 ^ p * i) (block_length * 2 ^ p) (block_length * x) block_length (omega arith)
    ∙ ap (λ (y : ℕ). cut file y block_length) (omega (arith, mul_assoc block_length (2 ^ p) i, mul_comm (2 ^ p) i))

-- leaf x of piece i is leaf i·2^p + x of the file
pub leaf_of_piece : (file : List ℕ) (p i x : ℕ) → x < 2 ^ p → leaf_of (piece_of file p i) x ≡ leaf_of file (i * 2 ^ p + x)
unfolding piece_size
leaf_of_piece file p i x h = by_side (dec_lt (i * 2 ^ p + x) (block_count (length file)))
  where
    start : block_length * 2 ^ p * i ≡ block_length * (i * 2 ^ p)
    start = mul_assoc block_length (2 ^ p) i ∙ ap (λ (y : ℕ). block_length * y) (mul_comm (2 ^ p) i)

    by_side : Dec (i * 2 ^ p + x < block_count (length file)) → leaf_of (piece_of file p i) x ≡ leaf_of file (i * 2 ^ p + x)
    by_side (yes l) =
        leaf_block (piece_of file p i) x (block_within (length (piece_of file p i)) x (omega (arith, piece_bytes file p i, start, block_starts (length file) (i * 2 ^ p + x) l)))
        ∙ ap sha256 (block_of_piece file p i x h)
        ∙ sym (leaf_block file (i * 2 ^ p + x) l)
    by_side (no g) =
        leaf_padding (piece_of file p i) x (block_outside (length (piece_of file p i)) x (omega (arith, piece_bytes file p i, start, block_past (length file) (i * 2 ^ p + x) (omega arith))))
        ∙ sym (leaf_padding file (i * 2 ^ p + x) (omega arith))

-- a file that isn't longer than the piece length is its one piece
pub one_piece : (file : List ℕ) (p : ℕ) → length file ≤ block_length * 2 ^ p → piece_of file p 0 ≡ file
unfolding piece_of
one_piece file p h = let e : block_length * 2 ^ p * 0 ≡ 0 = omega arith in rw e (cut_whole file (block_length * 2 ^ p) h)

-- ---- a node as code meets it: a leaf, or the hash of two

pub node_leaf : (leaf : ℕ → List ℕ) (h : List ℕ) (k j : ℕ) → k ≡ 0 → h ≡ leaf j → h ≡ node leaf k j
unfolding node
node_leaf leaf h k j z e = rw z e

pub node_pair : (leaf : ℕ → List ℕ) (h l r : List ℕ) (k j : ℕ) → (k ≡ 0 → ⊥) → l ≡ node leaf (k - 1) (2 * j)
    → r ≡ node leaf (k - 1) (2 * j + 1) → h ≡ pair_hash l r → h ≡ node leaf k j
unfolding node
node_pair leaf h l r zero j n e f g = absurd (n refl)
node_pair leaf h l r (suc k) j n e f g =
    let q : suc k - 1 ≡ k = omega arith in
    g ∙ ap₂ (λ (x y : List ℕ). pair_hash x y) (e ∙ ap (λ (d : ℕ). node leaf d (2 * j)) q) (f ∙ ap (λ (d : ℕ). node leaf d (2 * j + 1)) q)

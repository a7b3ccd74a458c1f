-- What follows from the definitions of Pieces: where a layer and a piece lie in the tree, what each number says, what loading a layer leaves.
-- Assumes nothing.
use Rattle.std.specs.Prelude.{◌≡◌, refl, List, Bool, true, ◌⊎◌, ℕ, ◌+◌, ◌-◌, ◌*◌, ◌^◌, ◌≤◌, ◌<◌, length, eqb, ltb}
use Rattle.std.proofs.Common.{ap, sym, ◌∙◌, inl, inr, mul_assoc, pow_mono, pow-add, arith, ltb-true, ltb-false, eqb-true, lt-ltb, eq-eqb, ne_eqb}
use Rattle.std.proofs.Math.Path.{ap₂}
use Rattle.std.proofs.Math.Bool.{false}
use Rattle.std.proofs.Math.Nat.{one-mul}
use Rattle.std.proofs.Math.Pow.{pow_pos}
use Rattle.tree.specs.Geometry.{block_length, Padding, covering, node_number, has_layer, piece_count, block_size, piece_size}
use Rattle.tree.proofs.GeometryLaws.{ceil_least, covering_most, covering_within, covering_until_padding, long_file_height, node_number_root, node_number_layer, piece_length_form}
use Rattle.tree.specs.Values.{node, pad_value, leaf_of, layer_leaf}
use Rattle.tree.proofs.ValuesLaws.{pad_octets, node_padding, layer_leaf_past}
use Rattle.cells.specs.Cells.{Room, held_at, hash_at}
use Rattle.cells.specs.Entries.{Entry, agrees, put_all}
use Rattle.cells.specs.EntriesLaws.{Sound, Hold, keeps, newly_none, In, Has, has_same, Apart, apart_consistent, entries_held, held_or_entry, FromRoot, from_root_in}
use Rattle.octets.specs.Octets.{same}
use Rattle.octets.specs.OctetsLaws.{same_true, same_eq}
use Rattle.sha256.specs.Sha256.{sha256}
use Rattle.numbers.specs.Numbers.{refused, rule_broken, wrong_size, unusable}
use Rattle.numbers.specs.NumbersLaws.{let_through, judged_zero}
use Rattle.store.specs.Store.{usable, file_length, piece_length, blocks_of, height_of, positions, Facts, SameFacts}
use Rattle.store.specs.StoreLaws.{usable_facts, facts_blocks_most, put_all_same_facts, put_all_facts}
use Rattle.settling.specs.Span.{Within}
use Rattle.settling.specs.Subtree.{subtree, run_leaf}
use Rattle.settling.specs.SubtreeLaws.{run_leaf_length, within_tree, subtree_sound, subtree_apart, subtree_value, subtree_has, FamilyIn, subtree_family}
use Rattle.limits.specs.Limits.{tallest_tree}
use Rattle.pieces.specs.Asks.{Layered, PieceIn}
use Rattle.pieces.specs.Pieces.{judged_at, layer_of_pieces, layer_settled, layer_number, layer_after, layer_answer, block_number, piece_height, piece_number}

-- ---- where a layer and a piece lie

module _ (s : List ℕ) (f : Facts s) where
  -- a piece is 2^p blocks
  pub piece_length_by_layer : piece_length s ≡ block_length * 2 ^ layer_of_pieces s
  unfolding layer_of_pieces
  piece_length_by_layer = (piece_length_form (piece_length s) f.piece).1

  -- the pieces are the positions of layer p that aren't padding
  pub pieces_are : piece_count (file_length s) (piece_length s) ≡ covering (blocks_of s) (layer_of_pieces s)
  unfolding layer_of_pieces
  pieces_are = Rattle.marks.specs.MarksLaws.pieces_are s f

  -- so there are no more than the tallest tree has leaves
  pub pieces_few : piece_count (file_length s) (piece_length s) ≤ 2 ^ tallest_tree
  pieces_few = omega (arith, pieces_are, covering_most (blocks_of s) (layer_of_pieces s), facts_blocks_most s f)

  -- a file longer than the piece length has a root above layer p
  pub layered : has_layer (file_length s) (piece_length s) ≡ true → Layered s
  layered t = record { facts = f; above = higher (ltb-true (piece_length s) (file_length s) (unfold has_layer in t)) }
    where
      higher : piece_length s < file_length s → layer_of_pieces s < height_of s
      higher l = unfold height_of blocks_of in long_file_height (file_length s) (layer_of_pieces s) (omega (arith, piece_length_by_layer))

  -- where there is a piece layer, a piece's node is in it
  pub height_layer : has_layer (file_length s) (piece_length s) ≡ true → piece_height s ≡ layer_of_pieces s
  unfolding piece_height
  height_layer t = rw t

  -- else it is the root
  pub height_root : has_layer (file_length s) (piece_length s) ≡ false → piece_height s ≡ height_of s
  unfolding piece_height
  height_root t = rw t

  -- and there is one piece
  pub one_piece_only : has_layer (file_length s) (piece_length s) ≡ false → piece_count (file_length s) (piece_length s) ≤ 1
  unfolding piece_count has_layer
  one_piece_only t =
      ceil_least (file_length s) (piece_length s) 1 (omega (arith, piece_length_by_layer, pow_pos (layer_of_pieces s)))
      (omega (arith, ltb-false (piece_length s) (file_length s) t, one-mul (piece_length s)))

  -- every piece of the file has its node in the tree
  pub piece_in_lem : (i : ℕ) → i < piece_count (file_length s) (piece_length s) → PieceIn s i
  piece_in_lem i l = by_layer (has_layer (file_length s) (piece_length s)) refl
    where
      by_layer : (t : Bool) → has_layer (file_length s) (piece_length s) ≡ t → PieceIn s i
      by_layer true t =
          let e = height_layer t in
          let a = (layered t).above in
          record {
            facts = f;
            layer = omega arith;
            inside = rw e (omega (arith, pieces_are, most a));
          }
        where
          most : layer_of_pieces s < height_of s → covering (blocks_of s) (layer_of_pieces s) ≤ 2 ^ (height_of s - layer_of_pieces s)
          most a = unfold height_of in covering_within (blocks_of s) (layer_of_pieces s) (omega arith)
      by_layer false t =
          let e = height_root t in
          let z : height_of s - height_of s ≡ 0 = omega arith in
          record {
            facts = f;
            layer = omega arith;
            inside = rw (e, z) (omega (arith, one_piece_only t));
          }

-- ---- what is looked at and written lies in the store

-- the layers from p up lie in the store
pub layer_within : (s : List ℕ) → Layered s → Within (positions (height_of s)) (height_of s - layer_of_pieces s) 1
unfolding positions
layer_within s f =
    let z : height_of s - height_of s ≡ 0 = omega arith in
    rw (← node_number_root (height_of s)) (within_tree (height_of s) (height_of s) 0 (height_of s - layer_of_pieces s) (omega arith) (rw z (omega arith)) (omega arith))

-- so does what lies below a piece's node
pub piece_within : (s : List ℕ) (i : ℕ) → PieceIn s i → Within (positions (height_of s)) (piece_height s) (node_number (height_of s) (piece_height s) i)
unfolding positions
piece_within s i p = within_tree (height_of s) (piece_height s) i (piece_height s) p.layer p.inside (omega arith)

-- a run with layer p's padding value past it is that layer
pub run_leaves : (run : List ℕ) (p : ℕ) → run_leaf run (pad_value p) ≡ layer_leaf run p
unfolding run_leaf layer_leaf
run_leaves run p = refl

-- a layer's leaves have 32 bytes
pub layer_leaf_length : (layer : List ℕ) (p i : ℕ) → length (layer_leaf layer p i) ≡ 32
layer_leaf_length layer p i = rw (← run_leaves layer p) (run_leaf_length layer (pad_value p) (pad_octets p).size i)

-- every entry of a layer is a hash, at a position of the tree
pub layer_sound : (s layer : List ℕ) → Layered s → Sound (positions (height_of s)) (layer_settled s layer)
unfolding layer_settled
layer_sound s layer f =
    subtree_sound (layer_leaf layer (layer_of_pieces s)) (layer_leaf_length layer (layer_of_pieces s)) (positions (height_of s)) (height_of s - layer_of_pieces s) 1 0 (layer_within s f)

-- ---- what the number 0 is sure of

-- position n is held with the value worked out from the leaves, and no held position below it differs
pub record Judged (s : List ℕ) (leaf : ℕ → List ℕ) (k n : ℕ) : Type 0 where
  pub held : held_at s n ≡ true
  pub alike : hash_at s n ≡ node leaf k 0
  pub agree : agrees s (subtree leaf k n 0) ≡ true

-- of the tests of a position, 0 says this
pub judged_says : (s : List ℕ) (leaf : ℕ → List ℕ) (k n : ℕ) → judged_at s leaf k n ≡ 0 → Judged s leaf k n
unfolding judged_at
judged_says s leaf k n e =
    let w = judged_zero (held_at s n) (same (hash_at s n) (node leaf k 0)) (agrees s (subtree leaf k n 0)) e in
    record { held = w.0; alike = same_true (hash_at s n) (node leaf k 0) w.1; agree = w.2 }

-- and where it is so they give 0
pub judged_enough : (s : List ℕ) (leaf : ℕ → List ℕ) (k n : ℕ) → Judged s leaf k n → judged_at s leaf k n ≡ 0
unfolding judged_at
judged_enough s leaf k n j = rw (j.held, same_eq (hash_at s n) (node leaf k 0) j.alike, j.agree)

-- a layer answered 0: of the right size, and it gives the held root
pub record Loads (s layer : List ℕ) : Type 0 where
  pub store : usable s ≡ true
  pub longer : has_layer (file_length s) (piece_length s) ≡ true
  pub size : length layer ≡ 32 * piece_count (file_length s) (piece_length s)
  pub root : Judged s (layer_leaf layer (layer_of_pieces s)) (height_of s - layer_of_pieces s) 1

-- of a layer, 0 says this
pub layer_loads : (s layer : List ℕ) → layer_number s layer ≡ 0 → Loads s layer
unfolding layer_number
layer_loads s layer e =
    let a = let_through (usable s) _ unusable (λ z. omega arith) e in
    let b = let_through (has_layer (file_length s) (piece_length s)) _ rule_broken (λ z. omega arith) a.1 in
    let c = let_through (eqb (length layer) (32 * piece_count (file_length s) (piece_length s))) _ wrong_size (λ z. omega arith) b.1 in
    record {
      store = a.0;
      longer = b.0;
      size = eqb-true (length layer) (32 * piece_count (file_length s) (piece_length s)) c.0;
      root = judged_says s (layer_leaf layer (layer_of_pieces s)) (height_of s - layer_of_pieces s) 1 c.1;
    }

-- so it lies in the store
pub loads_layered : (s layer : List ℕ) → Loads s layer → Layered s
loads_layered s layer l = layered s (usable_facts s l.store) l.longer

-- and a layer that is all this is answered 0
pub loads_answered : (s layer : List ℕ) → Loads s layer → layer_number s layer ≡ 0
unfolding layer_number
loads_answered s layer l =
    rw (l.store, l.longer, eq-eqb (length layer) (32 * piece_count (file_length s) (piece_length s)) l.size)
    (judged_enough s (layer_leaf layer (layer_of_pieces s)) (height_of s - layer_of_pieces s) 1 l.root)

-- a block answered 0: one of the file's, of its size, and its hash is the held leaf
pub record RightBlock (s : List ℕ) (i : ℕ) (block : List ℕ) : Type 0 where
  pub store : usable s ≡ true
  pub inside : i < blocks_of s
  pub size : length block ≡ block_size (file_length s) i
  pub held : held_at s (node_number (height_of s) 0 i) ≡ true
  pub alike : hash_at s (node_number (height_of s) 0 i) ≡ sha256 block

-- of a block, 0 says this
pub block_right : (s : List ℕ) (i : ℕ) (block : List ℕ) → block_number s i block ≡ 0 → RightBlock s i block
unfolding block_number
block_right s i block e =
    let n = node_number (height_of s) 0 i in
    let a = let_through (usable s) _ unusable (λ z. omega arith) e in
    let b = let_through (ltb i (blocks_of s)) _ rule_broken (λ z. omega arith) a.1 in
    let c = let_through (eqb (length block) (block_size (file_length s) i)) _ wrong_size (λ z. omega arith) b.1 in
    let d = judged_zero (held_at s n) (same (hash_at s n) (sha256 block)) true c.1 in
    record {
      store = a.0;
      inside = ltb-true i (blocks_of s) b.0;
      size = eqb-true (length block) (block_size (file_length s) i) c.0;
      held = d.0;
      alike = same_true (hash_at s n) (sha256 block) d.1;
    }

-- and such a block is answered 0
pub right_block : (s : List ℕ) (i : ℕ) (block : List ℕ) → RightBlock s i block → block_number s i block ≡ 0
unfolding block_number
right_block s i block r =
    let n = node_number (height_of s) 0 i in
    rw (r.store, lt-ltb i (blocks_of s) r.inside, eq-eqb (length block) (block_size (file_length s) i) r.size, r.held, same_eq (hash_at s n) (sha256 block) r.alike)

-- a piece answered 0: one of the file's, of its size, and its blocks give the held node, with no held position below it different
pub record RightPiece (s : List ℕ) (i : ℕ) (piece : List ℕ) : Type 0 where
  pub store : usable s ≡ true
  pub inside : i < piece_count (file_length s) (piece_length s)
  pub size : length piece ≡ piece_size (file_length s) (piece_length s) i
  pub node : Judged s (leaf_of piece) (piece_height s) (node_number (height_of s) (piece_height s) i)

-- of a piece, 0 says this
pub piece_right : (s : List ℕ) (i : ℕ) (piece : List ℕ) → piece_number s i piece ≡ 0 → RightPiece s i piece
unfolding piece_number
piece_right s i piece e =
    let a = let_through (usable s) _ unusable (λ z. omega arith) e in
    let b = let_through (ltb i (piece_count (file_length s) (piece_length s))) _ rule_broken (λ z. omega arith) a.1 in
    let c = let_through (eqb (length piece) (piece_size (file_length s) (piece_length s) i)) _ wrong_size (λ z. omega arith) b.1 in
    record {
      store = a.0;
      inside = ltb-true i (piece_count (file_length s) (piece_length s)) b.0;
      size = eqb-true (length piece) (piece_size (file_length s) (piece_length s) i) c.0;
      node = judged_says s (leaf_of piece) (piece_height s) (node_number (height_of s) (piece_height s) i) c.1;
    }

-- and such a piece is answered 0
pub right_piece : (s : List ℕ) (i : ℕ) (piece : List ℕ) → RightPiece s i piece → piece_number s i piece ≡ 0
unfolding piece_number
right_piece s i piece r =
    rw (r.store, lt-ltb i (piece_count (file_length s) (piece_length s)) r.inside, eq-eqb (length piece) (piece_size (file_length s) (piece_length s) i) r.size)
    (judged_enough s (leaf_of piece) (piece_height s) (node_number (height_of s) (piece_height s) i) r.node)

-- ---- a piece's node in the tree

module _ (s : List ℕ) (f : Facts s) (i : ℕ) (l : i < piece_count (file_length s) (piece_length s)) where
  -- else the file has the one piece 0, and its node is the root
  pub piece_at_root : has_layer (file_length s) (piece_length s) ≡ false → (i ≡ 0) × (node_number (height_of s) (piece_height s) i ≡ 1)
  piece_at_root t =
      let z : i ≡ 0 = omega (arith, one_piece_only s f t) in
      (z, ap₂ (λ (x y : ℕ). node_number (height_of s) x y) (height_root s f t) z ∙ node_number_root (height_of s))

-- ---- the positions that a layer settles

-- e is a position of layer p or above it, with the value worked out from the layer
pub record InLayers (s layer : List ℕ) (e : Entry) : Type 0 where
  pub l : ℕ
  pub i : ℕ
  pub from : layer_of_pieces s ≤ l
  pub upto : l ≤ height_of s
  pub inside : i < 2 ^ (height_of s - l)
  pub position : e.at ≡ node_number (height_of s) l i
  pub value : e.hash ≡ node (layer_leaf layer (layer_of_pieces s)) (l - layer_of_pieces s) i

module _ (s layer : List ℕ) (f : Layered s) where
  -- every entry is one of these
  pub settled_in_layers : (e : Entry) → In e (layer_settled s layer) → InLayers s layer e
  unfolding layer_settled node_number
  settled_in_layers e x =
      let leaf = layer_leaf layer (layer_of_pieces s) in
      let P = subtree_value leaf (height_of s - layer_of_pieces s) 1 0 e x in
      let r : P.layers ≤ height_of s - layer_of_pieces s = P.reach in
      let d : height_of s - (height_of s - P.layers) ≡ P.layers = omega (arith, f.above) in
      let u : height_of s - layer_of_pieces s - P.layers ≡ height_of s - P.layers - layer_of_pieces s = omega arith in
      let j : 0 * 2 ^ P.layers + P.offset ≡ P.offset = omega arith in
      record {
        l = height_of s - P.layers;
        i = P.offset;
        from = omega (arith, f.above);
        upto = omega arith;
        inside = rw d P.inside;
        position = P.position ∙ rw d (omega (arith, one-mul (2 ^ P.layers)));
        value = P.value ∙ ap₂ (λ (a b : ℕ). node leaf a b) u j;
      }

  -- and every position of these layers is an entry
  pub layers_in_settled : (l i : ℕ) → layer_of_pieces s ≤ l → l ≤ height_of s → i < 2 ^ (height_of s - l)
      → Has (node_number (height_of s) l i) (node (layer_leaf layer (layer_of_pieces s)) (l - layer_of_pieces s) i) (layer_settled s layer)
  unfolding layer_settled node_number
  layers_in_settled l i a b c =
      let leaf = layer_leaf layer (layer_of_pieces s) in
      let k = height_of s - layer_of_pieces s in
      let u : k - (height_of s - l) ≡ l - layer_of_pieces s = omega arith in
      let j : 0 * 2 ^ (height_of s - l) + i ≡ i = omega arith in
      let q : 1 * 2 ^ (height_of s - l) + i ≡ 2 ^ (height_of s - l) + i = omega arith in
      has_same (subtree leaf k 1 0) (1 * 2 ^ (height_of s - l) + i) (2 ^ (height_of s - l) + i)
      (node leaf (k - (height_of s - l)) (0 * 2 ^ (height_of s - l) + i)) (node leaf (l - layer_of_pieces s) i)
      q (ap₂ (λ (a b : ℕ). node leaf a b) u j) (subtree_has leaf k 1 0 (height_of s - l) i (omega arith) c)

  -- by their numbers: those from 1 up to 2·2^(h - p)
  pub settled_numbers : (e : Entry) → In e (layer_settled s layer) → (1 ≤ e.at) × (e.at < 2 * 2 ^ (height_of s - layer_of_pieces s))
  settled_numbers e x =
      let w = settled_in_layers e x in
      let g : 2 ^ (height_of s - w.l) ≤ 2 ^ (height_of s - layer_of_pieces s) = pow_mono (omega (arith, w.from)) in
      let n = node_number_layer (height_of s) w.l w.i w.inside in
      (omega (arith, w.position, pow_pos (height_of s - w.l)), omega (arith, w.position))

  -- none of them twice
  pub settled_apart : Apart (layer_settled s layer)
  unfolding layer_settled
  settled_apart = subtree_apart (layer_leaf layer (layer_of_pieces s)) (height_of s - layer_of_pieces s) 1 0 (omega arith)

  -- and all from the root's on
  pub settled_from_root : FromRoot (layer_settled s layer)
  settled_from_root = from_root_in (layer_settled s layer) (λ e x. (settled_numbers e x).0)

-- ---- a layer's entries keep the tree's rules

-- each entry is the root, or its sibling and their parent are entries too, the parent with the hash of the two
pub settled_family : (s layer : List ℕ) (e : Entry) → In e (layer_settled s layer) → (e.at ≡ 1) ⊎ FamilyIn (layer_settled s layer) e.at
unfolding layer_settled
settled_family s layer e x =
    elim (subtree_family (layer_leaf layer (layer_of_pieces s)) (height_of s - layer_of_pieces s) 1 0 e x) [ inl t ↦ inl t.0 | inr w ↦ inr w ]

-- a padding position has the padding value of its layer
pub settled_padding : (s layer : List ℕ) → Loads s layer → (l i : ℕ) → layer_of_pieces s ≤ l → Padding (blocks_of s) l i
    → node (layer_leaf layer (layer_of_pieces s)) (l - layer_of_pieces s) i ≡ pad_value l
unfolding Padding
settled_padding s layer w l i a b =
    let p = layer_of_pieces s in
    let c = covering (blocks_of s) p in
    let e : length layer ≡ 32 * c = w.size ∙ ap (λ (x : ℕ). 32 * x) (pieces_are s (usable_facts s w.store)) in
    let u : l - p + p ≡ l = omega arith in
    let v : p + (l - p) ≡ l = omega arith in
    let m : i * 2 ^ (l - p) * 2 ^ p ≡ i * 2 ^ l = mul_assoc i (2 ^ (l - p)) (2 ^ p) ∙ ap (λ (x : ℕ). i * x) (sym (pow-add 2 (l - p) p) ∙ ap (λ (x : ℕ). 2 ^ x) u) in
    node_padding (layer_leaf layer p) p c (λ j h. layer_leaf_past layer p c j e h) (l - p) i
    (covering_until_padding (blocks_of s) p (i * 2 ^ (l - p)) (omega arith))
    ∙ ap pad_value v

-- ---- what a layer leaves

-- a refusal leaves the store
pub layer_refused : (s layer : List ℕ) → (layer_number s layer ≡ 0 → ⊥) → layer_after s layer ≡ s
unfolding layer_after
layer_refused s layer ne = rw (ne_eqb (layer_number s layer) 0 ne)

-- and counts nothing
pub layer_refused_count : (s layer : List ℕ) → (layer_number s layer ≡ 0 → ⊥) → layer_answer s layer ≡ refused (layer_number s layer)
unfolding layer_answer
layer_refused_count s layer ne = rw (layer_refused s layer ne, newly_none (positions (height_of s)) s)

module _ (s layer : List ℕ) (z : layer_number s layer ≡ 0) where
  loaded : Loads s layer
  loaded = layer_loads s layer z

  layers : Layered s
  layers = loads_layered s layer loaded

  room : Room (positions (height_of s)) s
  room = layers.facts.room

  sound : Sound (positions (height_of s)) (layer_settled s layer)
  sound = layer_sound s layer layers

  agreed : agrees s (layer_settled s layer) ≡ true
  unfolding layer_settled
  agreed = loaded.root.agree

  -- on 0 all settled positions are held
  pub layer_taken : layer_after s layer ≡ put_all s (layer_settled s layer)
  unfolding layer_after
  layer_taken = rw (eq-eqb (layer_number s layer) 0 z)

  -- the facts stay
  pub layer_same_facts : SameFacts s (layer_after s layer)
  layer_same_facts = rw layer_taken (put_all_same_facts s layers.facts (layer_settled s layer) sound (settled_from_root s layer layers))

  -- the store stays usable
  pub layer_facts : Facts (layer_after s layer)
  layer_facts = rw layer_taken (put_all_facts s layers.facts (layer_settled s layer) sound (settled_from_root s layer layers))

  -- every position of layer p and above is held, with the value worked out from the layer
  pub layer_held : (l i : ℕ) → layer_of_pieces s ≤ l → l ≤ height_of s → i < 2 ^ (height_of s - l)
      → Hold (layer_after s layer) (node_number (height_of s) l i) (node (layer_leaf layer (layer_of_pieces s)) (l - layer_of_pieces s) i)
  layer_held l i a b c =
      rw layer_taken (entries_held (positions (height_of s)) (layer_settled s layer) s room sound (apart_consistent (layer_settled s layer) (settled_apart s layer layers))
      (record { at = node_number (height_of s) l i; hash = node (layer_leaf layer (layer_of_pieces s)) (l - layer_of_pieces s) i }) (layers_in_settled s layer layers l i a b c))

  -- what was held stays held with the same bytes
  pub layer_keeps : (q : ℕ) → q < positions (height_of s) → held_at s q ≡ true → (held_at (layer_after s layer) q ≡ true) × (hash_at (layer_after s layer) q ≡ hash_at s q)
  layer_keeps q b h = rw layer_taken (keeps (positions (height_of s)) (layer_settled s layer) s room sound agreed q b h)

  -- so what is held then was held before, or is in layer p or above
  pub layer_only : (q : ℕ) → held_at (layer_after s layer) q ≡ true → (held_at s q ≡ true) ⊎ ((1 ≤ q) × (q < 2 * 2 ^ (height_of s - layer_of_pieces s)))
  layer_only q h =
      elim (held_or_entry (positions (height_of s)) (layer_settled s layer) s room sound q (rw layer_taken at h)) [
        | inl x ↦ inl x
        | inr o ↦ inr (settled_numbers s layer layers (record { at = q; hash = o.0 }) o.1)
      ]

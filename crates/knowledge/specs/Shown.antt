-- 01, "The store": when two different 64-byte strings with one SHA-256 are *shown*, by layer and index.
-- Assumes nothing.
use Rattle.std.specs.Prelude.{◌≡◌, refl, List, ℕ, zero, suc, ◌+◌, ◌-◌, ◌*◌, ◌^◌, ◌≤◌, ◌<◌, length}
use Rattle.std.proofs.Common.{ap, sym, ◌∙◌, subst, arith, pow_pos}
use Rattle.tree.specs.Geometry.{block_count, height, node_number}
use Rattle.tree.proofs.GeometryLaws.{node_number_covers, node_number_left, node_number_right, node_number_root, longer_has, layer_doubles}
use Rattle.tree.specs.Values.{node, leaf_of, layer_leaf}
use Rattle.cells.specs.EntriesLaws.{Has}
use Rattle.store.specs.Store.{file_length, piece_length, height_of, positions, Facts}
use Rattle.store.specs.StoreLaws.{usable_facts}
use Rattle.settling.specs.Subtree.{subtree}
use Rattle.pieces.specs.Pieces.{layer_of_pieces, layer_settled, piece_height}
use Rattle.pieces.proofs.PiecesLaws.{layered, piece_in_lem}
use Rattle.words.specs.Held.{Holds}
use Rattle.words.specs.Shown.{Source, held_by, by_message, by_layer, by_piece, of_file, Gives, Shown}
use Rattle.words.specs.File.{For}
use Rattle.words.specs.Pieces.{LayerFormed, LayerSettles, PieceFormed, PieceSettles}
use Rattle.knowledge.specs.ReadBack.{holds_at}
use Rattle.knowledge.specs.Conflict.{GivesAt, ShownAt}
use Rattle.knowledge.specs.RootToBlock.{same_height, tree_has, tree_whole}
use Rattle.knowledge.specs.Over.{found_at, entry_over}
use Rattle.knowledge.specs.Positions.{settles_exactly}
use Rattle.knowledge.specs.TakenWhen.{Formed}

-- ---- from one pair to another

-- a pair that is shown is shown by all that gives as much,
pub shown_too : {h : ℕ} {x y z : Source} → ((l i : ℕ) (v : List ℕ) → Gives y l i v → Gives z l i v) → Shown h x y → Shown h x z
shown_too f S =
    record {
      layer = S.layer;
      index = S.index;
      low = S.low;
      inside = S.inside;
      l = S.l;
      r = S.r;
      l' = S.l';
      r' = S.r';
      left = S.left;
      right = S.right;
      left' = f S.layer (2 * S.index) S.l' S.left';
      right' = f S.layer (2 * S.index + 1) S.r' S.right';
      bytes = S.bytes;
      bytes' = S.bytes';
      differ = S.differ;
      alike = S.alike;
    }

-- and the other way round
pub shown_turned : {h : ℕ} {x y : Source} → Shown h x y → Shown h y x
shown_turned S =
    record {
      layer = S.layer;
      index = S.index;
      low = S.low;
      inside = S.inside;
      l = S.l';
      r = S.r';
      l' = S.l;
      r' = S.r;
      left = S.left';
      right = S.right';
      left' = S.left;
      right' = S.right;
      bytes = S.bytes';
      bytes' = S.bytes;
      differ = λ e. S.differ (sym e);
      alike = sym S.alike;
    }

-- ---- from numbers

-- what the source has at a position's number, it has at the position
abbrev pub Positioned : ℕ → Source → Type 0
Positioned h x = (l i : ℕ) (v : List ℕ) → l ≤ h → i < 2 ^ (h - l) → GivesAt x (node_number h l i) v → Gives x l i v

-- no leaf has children
leaf_childless : (h n i : ℕ) → 2 * n + 1 < positions h → n ≡ node_number h 0 i → ⊥
unfolding positions node_number
leaf_childless h n i a e = let z : h - 0 ≡ h = omega arith in let f : n ≡ 2 ^ h + i = rw z at e in omega arith

-- a pair shown at a number is shown at its position
pub shown : (h : ℕ) (x y : Source) → Positioned h x → Positioned h y → ShownAt h x y → Shown h x y
unfolding positions
shown h x y rx ry S =
    let small : S.at < 2 * 2 ^ h = omega (arith, S.high) in
    let c = node_number_covers h S.at S.low small in
    by c.0 c.1 c.2 c.3 c.4
  where
    by : (a i : ℕ) → a ≤ h → i < 2 ^ (h - a) → S.at ≡ node_number h a i → Shown h x y
    by zero i p q e = absurd (leaf_childless h S.at i S.high e)
    by (suc a) i p q e =
        let d = layer_doubles h a (omega arith) in
        let left_at : 2 * S.at ≡ node_number h a (2 * i) = ap (λ (n : ℕ). 2 * n) e ∙ sym (node_number_left h a i (omega arith)) in
        let right_at : 2 * S.at + 1 ≡ node_number h a (2 * i + 1) = ap (λ (n : ℕ). 2 * n + 1) e ∙ sym (node_number_right h a i (omega arith)) in
        let lin : 2 * i < 2 ^ (h - a) = omega arith in
        let rin : 2 * i + 1 < 2 ^ (h - a) = omega arith in
        let low : a ≤ h = omega arith in
        record {
          layer = a;
          index = i;
          low = p;
          inside = q;
          l = S.l;
          r = S.r;
          l' = S.l';
          r' = S.r';
          left = rx a (2 * i) S.l low lin (subst (λ (n : ℕ). GivesAt x n S.l) left_at S.left);
          right = rx a (2 * i + 1) S.r low rin (subst (λ (n : ℕ). GivesAt x n S.r) right_at S.right);
          left' = ry a (2 * i) S.l' low lin (subst (λ (n : ℕ). GivesAt y n S.l') left_at S.left');
          right' = ry a (2 * i + 1) S.r' low rin (subst (λ (n : ℕ). GivesAt y n S.r') right_at S.right');
          bytes = S.bytes;
          bytes' = S.bytes';
          differ = S.differ;
          alike = S.alike;
        }

-- a store
pub reads_held : (s : List ℕ) → Facts s → Positioned (height_of s) (held_by s)
unfolding Gives GivesAt
reads_held s f l i v a b g = subst (Holds s l i) g.1 (holds_at s l i f a b g.0)

-- a message
pub reads_message : (s m : List ℕ) → Formed s m → Positioned (height_of s) (by_message s m)
unfolding Gives GivesAt
reads_message s m W l i v a b x = (settles_exactly s m W l i v).1 (record { low = a; inside = b; has = x })

-- a layer
pub reads_layer : (s layer : List ℕ) → LayerFormed s layer → Positioned (height_of s) (by_layer s layer)
unfolding Gives GivesAt layer_settled
reads_layer s layer F l i v a b x =
    let p = layer_of_pieces s in
    let up = (layered s (usable_facts s F.store) (longer_has (file_length s) (piece_length s) F.longer)).above in
    let e : layer_of_pieces s + (height_of s - layer_of_pieces s) ≡ height_of s = omega (arith, up) in
    let n : node_number (height_of s) (layer_of_pieces s + (height_of s - layer_of_pieces s)) 0 ≡ 1 = ap (λ (y : ℕ). node_number (height_of s) y 0) e ∙ node_number_root (height_of s) in
    found_at (height_of s) (LayerSettles s layer) l i v a b
    (entry_over (layer_leaf layer p) (height_of s) p 0 (height_of s - p) (omega (arith, e)) (pow_pos (height_of s - (p + (height_of s - p))))
    (record { at = node_number (height_of s) l i; hash = v }) (rw n x))

-- a piece
pub reads_piece : (s : List ℕ) (j : ℕ) (piece : List ℕ) → PieceFormed s j piece → Positioned (height_of s) (by_piece s j piece)
unfolding Gives GivesAt
reads_piece s j piece F l i v a b x =
    let P = piece_in_lem s (usable_facts s F.store) j F.inside in
    let e : 0 + piece_height s ≡ piece_height s = omega arith in
    found_at (height_of s) (PieceSettles s j piece) l i v a b
    (entry_over (leaf_of piece) (height_of s) 0 j (piece_height s) (omega (arith, P.layer)) (rw e P.inside) (record { at = node_number (height_of s) l i; hash = v }) (rw e x))

tree_of_store : (file s : List ℕ) → For file s → (n : ℕ) (v : List ℕ) → Has n v (subtree (leaf_of file) (height (block_count (length file))) 1 0)
    → Has n v (subtree (leaf_of file) (height_of s) 1 0)
tree_of_store file s w n v x = rw (same_height file s w) x

-- a file
pub reads_file : (file s : List ℕ) → For file s → Positioned (height_of s) (of_file file)
unfolding Gives GivesAt
reads_file file s w l i v a b x =
    let e = same_height file s w in
    record {
      low = rw e at a;
      inside = rw e at b;
      value = (tree_whole file (height_of s)).alone (record { at = node_number (height_of s) l i; hash = v }) (record { at = node_number (height_of s) l i; hash = node (leaf_of file) l i }) (tree_of_store file s w (node_number (height_of s) l i) v x) (tree_has file s w l i a b) refl;
    }

-- 01, "The store": when two different 64-byte strings with one SHA-256 are *shown*.
-- Assumes nothing.
use Rattle.std.specs.Prelude.{◌≡◌, List, ◌++◌, ℕ, suc, ◌+◌, ◌-◌, ◌*◌, ◌^◌, ◌≤◌, ◌<◌, length}
use Rattle.octets.specs.Octets.{Octets}
use Rattle.sha256.specs.Sha256.{sha256}
use Rattle.tree.specs.Geometry.{block_count, height}
use Rattle.tree.specs.Values.{node, leaf_of}
use Rattle.words.specs.Held.{Holds}
use Rattle.words.specs.Messages.{Settles}
use Rattle.words.specs.Pieces.{LayerSettles, PieceSettles}

-- where a position's hash is taken from: held by a store, or given or worked out by a message, a layer or a piece that is offered to
-- store s; or a file's own tree
pub data Source : Type 0 where
  held_by : (s : List ℕ) → Source
  by_message : (s m : List ℕ) → Source
  by_layer : (s layer : List ℕ) → Source
  by_piece : (s : List ℕ) (i : ℕ) (piece : List ℕ) → Source
  of_file : (file : List ℕ) → Source

-- position i of layer l is in the file's tree, and v is its node there
pub record InTree (file : List ℕ) (l i : ℕ) (v : List ℕ) : Type 0 where
  pub low : l ≤ height (block_count (length file))
  pub inside : i < 2 ^ (height (block_count (length file)) - l)
  pub value : v ≡ node (leaf_of file) l i

-- the source has hash v at position i of layer l: a store holds it, a message, layer or piece gives it or works it out; or it is the file's
unfoldable pub Gives : Source → ℕ → ℕ → List ℕ → Type 0
Gives (held_by s) l i v = Holds s l i v
Gives (by_message s m) l i v = Settles m l i v
Gives (by_layer s layer) l i v = LayerSettles s layer l i v
Gives (by_piece s j piece) l i v = PieceSettles s j piece l i v
Gives (of_file file) l i v = InTree file l i v

-- SHOWN: two different strings of 64 bytes with one SHA-256, both left child then right child of one and the same position, which is
-- number `index` of the layer above `layer` in a tree of height h; one as x and one as y has them
pub record Shown (h : ℕ) (x y : Source) : Type 0 where
  pub layer : ℕ
  pub index : ℕ
  pub low : suc layer ≤ h
  pub inside : index < 2 ^ (h - suc layer)
  pub l : List ℕ
  pub r : List ℕ
  pub l' : List ℕ
  pub r' : List ℕ
  pub left : Gives x layer (2 * index) l
  pub right : Gives x layer (2 * index + 1) r
  pub left' : Gives y layer (2 * index) l'
  pub right' : Gives y layer (2 * index + 1) r'
  pub bytes : Octets 64 (l ++ r)
  pub bytes' : Octets 64 (l' ++ r')
  pub differ : l ++ r ≡ l' ++ r' → ⊥
  pub alike : sha256 (l ++ r) ≡ sha256 (l' ++ r')

-- two different strings of n bytes with one SHA-256, without a position: two blocks
pub record OneHash (n : ℕ) (a b : List ℕ) : Type 0 where
  pub bytes : Octets n a
  pub bytes' : Octets n b
  pub differ : a ≡ b → ⊥
  pub alike : sha256 a ≡ sha256 b

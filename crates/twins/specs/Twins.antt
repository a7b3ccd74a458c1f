-- 02, request 2: files with one root. Files that are not empty and have one root have one length; files longer than the piece length
-- that have one root share one layer.
-- Assumes nothing.
use Rattle.std.specs.Prelude.{◌≡◌, ◌⊎◌, Bool, true, cond, not, ◌&&◌, List, [], ◌∷◌, ℕ, ◌+◌, ◌≤◌, ◌<◌, length, get_or, set, eqb, Option, Some, None}
use Rattle.octets.specs.Octets.{cut, same}
use Rattle.tree.specs.Geometry.{has_layer}
use Rattle.meaning.specs.Torrent.{File, lengths_agree}
use Rattle.sorting.specs.Sorting.{Ascending, Stands}
use Rattle.filetree.specs.Token.{token_at}
use Rattle.filetree.specs.Tree.{Listed, listed, files_in}
use Rattle.filetree.specs.declared.token.Token.{Token}
use Rattle.filetree.specs.declared.token.Token.TheVariants.{Opened, Closed, Leaf}

-- ---- the layers that there are

-- the roots of the files longer than the piece length
unfoldable pub long_roots : ℕ → List File → List (List ℕ)
long_roots plen [] = []
long_roots plen (v ∷ vs) = cond (has_layer v.size plen) (v.root ∷ long_roots plen vs) (long_roots plen vs)

-- none of the strings is x
unfoldable pub none_same : List ℕ → List (List ℕ) → Bool
none_same x [] = true
none_same x (y ∷ ys) = not (same x y) && none_same x ys

-- each of the strings once
unfoldable pub once_each : List (List ℕ) → List (List ℕ)
once_each [] = []
once_each (x ∷ xs) = cond (none_same x xs) (x ∷ once_each xs) (once_each xs)

-- how many layers the files have
unfoldable pub layer_count : ℕ → List File → ℕ
layer_count plen vs = length (once_each (long_roots plen vs))

-- what is answered of the files: how many layers they have, or that two with one root have different lengths
unfoldable pub compared_of : ℕ → List File → Option ℕ
compared_of plen vs = cond (lengths_agree vs) (Some (layer_count plen vs)) None

-- ---- what a walk over the files knows of a root

-- the length of the first file with the root x that is not empty; 0 where there is none
unfoldable pub length_known : List ℕ → List File → ℕ
length_known x [] = 0
length_known x (v ∷ vs) = cond (not (eqb v.size 0) && same x v.root) v.size (length_known x vs)

-- whether a file of n bytes has another length than the one that is known of its root
abbrev pub differs : ℕ → ℕ → Bool
differs known n = not (eqb known 0) && not (eqb known n)

abbrev pub token_size : Option Token → ℕ
token_size None = 0
token_size (Some Closed) = 0
token_size (Some (Opened a b)) = 0
token_size (Some (Leaf a b n r k)) = n

-- the length of the file that stands at p of the tree; 0 at 0, where none stands
unfoldable pub size_noted : List ℕ → ℕ → ℕ
size_noted t p = cond (eqb p 0) 0 (token_size (token_at t p))

-- each file that is not empty has its root among the first `count` positions
unfoldable pub RootsStand : List ℕ → List ℕ → ℕ → List Listed → Type 0
RootsStand t roots count [] = Unit {0}
RootsStand t roots count (f ∷ fs) = ((f.size ≡ 0 → ⊥) → Stands t roots count (cut t f.root 32)) × RootsStand t roots count fs

-- the first `count` of `roots` are positions of the tree t whose strings ascend, and the roots of its files are among them
pub record Rooted (t roots : List ℕ) (count : ℕ) : Type 0 where
  pub room : count ≤ length roots
  pub fit : (i : ℕ) → i < count → get_or roots i 0 + 32 ≤ length t
  pub ascending : Ascending t roots count
  pub stand : RootsStand t roots count (listed (files_in t))

-- a file of n bytes with its root at r, which stands at i, is met: r' is the length known of its root before, and the file is noted at the
-- root's place
abbrev pub Meets : List ℕ → List ℕ → ℕ → List ℕ → List ℕ → ℕ → ℕ → ℕ → ℕ → Type 0
Meets t roots count room room' i n r r' =
    ((n ≡ 0) × (r' ≡ 0) × (room' ≡ room))
    ⊎ ((n ≡ 0 → ⊥) × ((j : ℕ) × (j < count) × (cut t (get_or roots j 0) 32 ≡ cut t r 32) × (r' ≡ size_noted t (get_or room j 0)) × (room' ≡ set room j i)))

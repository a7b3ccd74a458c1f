-- 00: "can a battery get younger between two messages?" A file G, which a store is of, and an earlier one F: what it is that G begins with F,
-- which hashes of G say it, what each number of kd_extends says, and files that follow each other by its answers.
-- Assumes nothing.
use Rattle.std.specs.Prelude.{◌≡◌, true, List, ◌++◌, ℕ, suc, ◌+◌, ◌/◌, ◌*◌, ◌^◌, ◌≤◌, ◌<◌, length}
use Rattle.octets.specs.Octets.{cut}
use Rattle.numbers.specs.Numbers.{done, rule_broken, wrong_size, no_anchor, differs, unusable}
use Rattle.sha256.specs.Sha256.{sha256}
use Rattle.tree.specs.Geometry.{block_length, block_count, height, block_size}
use Rattle.tree.specs.Values.{block_of, pieces_root}
use Rattle.store.specs.Store.{usable, file_length, height_of}
use Rattle.extends.specs.Extends.{whole_blocks, rest_size, earlier_root, over_size, last_hash, extends_answer}
use Rattle.words.specs.Held.{Holds}
use Rattle.words.specs.History.{Bytes, OurStore}
use Rattle.words.specs.Shown.{held_by, of_file, Shown, OneHash}
use Rattle.words.specs.File.{For}

-- the first n bytes of a file
abbrev pub first_bytes : List ℕ → ℕ → List ℕ
first_bytes file n = cut file 0 n

-- G begins with F: it is F and then more bytes, or none
pub record BeginsWith (G F : List ℕ) : Type 0 where
  pub more : List ℕ
  pub whole : G ≡ F ++ more

-- the file's block over the end of its first n bytes, at its own length; none where they end with a block
abbrev pub over_end : List ℕ → ℕ → List ℕ
over_end file n = cut file (block_length * whole_blocks n) (over_size (length file) n)

-- two different strings with one SHA-256, found in comparing F with a store's file G by a block that was lent: the store and G's tree show them;
-- or the block and G's in its place are two of that size; or the tree of G's first bytes and F's tree show them; or two blocks of these do
pub data TwoStrings (F G s block : List ℕ) : Type 0 where
  store_shows : Shown (height_of s) (held_by s) (of_file G) → TwoStrings F G s block
  lent_shows : OneHash (block_size (file_length s) (whole_blocks (length F))) block (block_of G (whole_blocks (length F))) → TwoStrings F G s block
  tree_shows : Shown (height (block_count (length F))) (of_file (first_bytes G (length F))) (of_file F) → TwoStrings F G s block
  block_shows : (x : ℕ) → OneHash (block_size (length F) x) (block_of (first_bytes G (length F)) x) (block_of F x) → TwoStrings F G s block

-- ---- the hashes needed

-- a peak: a position that covers only whole blocks of a file of n bytes, while the one above it doesn't
pub record Peak (n l i : ℕ) : Type 0 where
  pub whole : (i + 1) * 2 ^ l ≤ whole_blocks n
  pub top : whole_blocks n < (i / 2 + 1) * 2 ^ suc l

-- kd_held gives every peak, and leaf w if the earlier file ends inside block w
pub record Needed (s : List ℕ) (n : ℕ) : Type 0 where
  pub leaf : (rest_size n ≡ 0 → ⊥) → (v : List ℕ) × Holds s 0 (whole_blocks n) v
  pub peaks : (l i : ℕ) → Peak n l i → (v : List ℕ) × Holds s l i v

-- ---- the numbers

-- those that are given
pub data ExtendsGives : ℕ → Type 0 where
  is_9 : ExtendsGives unusable
  is_3 : ExtendsGives rule_broken
  is_4 : ExtendsGives wrong_size
  is_6 : ExtendsGives no_anchor
  is_7 : ExtendsGives differs
  is_0 : ExtendsGives 0

-- the earlier file has bytes, and not more than the store's
abbrev pub InRange : List ℕ → ℕ → Type 0
InRange s n = (0 < n) × (n ≤ file_length s)

-- it passes 9, 3 and 4: the store is usable, the length is in range, and the block has its size
pub record Comparable (s : List ℕ) (n : ℕ) (block : List ℕ) : Type 0 where
  pub store : usable s ≡ true
  pub range : InRange s n
  pub size : length block ≡ over_size (file_length s) n

-- the block is the one held, if there is one, and the root that the held hashes and its first bytes lead to is this one
pub record Leads (s : List ℕ) (n : ℕ) (root block : List ℕ) : Type 0 where
  pub held : (rest_size n ≡ 0 → ⊥) → Holds s 0 (whole_blocks n) (sha256 block)
  pub value : (earlier_root s n (last_hash n block)).hash ≡ root

-- ---- one file after the other

-- H was found to go on from F, through any number of such answers, each by a store that only this build has written, for the later of the two
pub data Follows (F : List ℕ) : List ℕ → Type 0 where
  same : Follows F F
  grew : {G : List ℕ} → Follows F G → Bytes G → (H s block : List ℕ) → OurStore s → For H s → Bytes H → Bytes block
      → extends_answer s (length G) (pieces_root G) block ≡ done (length G) → Follows F H

-- at one of them two different strings with one SHA-256 are shown
pub data ShownAmong {F : List ℕ} : (H : List ℕ) → Follows F H → Type 0 where
  here : {G H s block : List ℕ} {c : Follows F G} {g : Bytes G} {o : OurStore s} {w : For H s} {h : Bytes H} {b : Bytes block}
      {e : extends_answer s (length G) (pieces_root G) block ≡ done (length G)} → TwoStrings G H s block → ShownAmong H (grew c g H s block o w h b e)
  before : {G H s block : List ℕ} {c : Follows F G} {g : Bytes G} {o : OurStore s} {w : For H s} {h : Bytes H} {b : Bytes block}
      {e : extends_answer s (length G) (pieces_root G) block ≡ done (length G)} → ShownAmong G c → ShownAmong H (grew c g H s block o w h b e)

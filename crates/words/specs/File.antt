-- A file, and what of it a store is told.
-- Assumes nothing.
use Rattle.std.specs.Prelude.{◌≡◌, List, ℕ, ◌+◌, ◌/◌, ◌^◌, ◌<◌, length}
use Rattle.tree.specs.Geometry.{block_size}
use Rattle.tree.specs.Values.{node, leaf_of, block_of, piece_of, whole_layer, pieces_root}
use Rattle.store.specs.Store.{file_length, facts_root, height_of}
use Rattle.settling.specs.Path.{sibling}
use Rattle.header.specs.Header.{header_of}
use Rattle.pieces.specs.Pieces.{layer_of_pieces}
use Rattle.words.specs.Messages.{uncles_in, hash_in, top_layer, top_index, WellFormed}
use Rattle.words.specs.Shown.{held_by, by_piece, of_file, Shown, OneHash}

-- s was opened with the file's own length and pieces root
pub record For (file s : List ℕ) : Type 0 where
  pub long : file_length s ≡ length file
  pub root : facts_root s ≡ pieces_root file

-- the file's piece i, for the store's piece length
abbrev pub piece_for : List ℕ → List ℕ → ℕ → List ℕ
piece_for file s i = piece_of file (layer_of_pieces s) i

-- the string of the file's piece layer, for the store's piece length
abbrev pub layer_for : List ℕ → List ℕ → List ℕ
layer_for file s = whole_layer file (layer_of_pieces s)

-- a message with the file's own hashes: well-formed for s, each hash of its run the file's at position index + j of the base layer, and
-- each uncle the file's beside the path in its layer
pub record TrueHashes (file s m : List ℕ) : Type 0 where
  pub formed : WellFormed s m
  pub run : (j : ℕ) → j < (header_of m).len → hash_in m j ≡ node (leaf_of file) (header_of m).base ((header_of m).index + j)
  pub uncles : (j : ℕ) → j < uncles_in m → hash_in m ((header_of m).len + j) ≡ node (leaf_of file) (top_layer m + j) (sibling (top_index m / 2 ^ j))

-- what a piece answered 0 is: the file's own piece; or the store and the file's tree show a pair; or the piece and the file's tree do;
-- or a block of it and the file's are two different strings of that block's size with one SHA-256
pub data PieceIs (file s : List ℕ) (i : ℕ) (piece : List ℕ) : Type 0 where
  the_files : piece ≡ piece_for file s i → PieceIs file s i piece
  store_shows : Shown (height_of s) (held_by s) (of_file file) → PieceIs file s i piece
  piece_shows : Shown (height_of s) (by_piece s i piece) (of_file file) → PieceIs file s i piece
  block_shows : (x : ℕ) → OneHash (block_size (length piece) x) (block_of piece x) (block_of (piece_for file s i) x) → PieceIs file s i piece

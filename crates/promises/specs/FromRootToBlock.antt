-- 00: "when does a gateway believe a block? When its hash chains up to the file's pieces root." A store of ours, opened with a file's own
-- length and pieces root (`For`), believes the file's hashes, blocks and pieces and no others, unless two strings with one SHA-256 are
-- shown. "Held" is what kd_held answers. Its words: crates/words, file File. The length is among the premises: with a wrong N a parent's
-- 64 bytes can pass for a block.
-- Assumes nothing.
use Rattle.std.specs.Prelude.{◌≡◌, List, ◌⊎◌, ℕ, ◌<◌}
use Rattle.numbers.specs.Numbers.{no_anchor}
use Rattle.tree.specs.Geometry.{block_size, piece_count}
use Rattle.tree.specs.Values.{node, leaf_of, block_of}
use Rattle.store.specs.Store.{file_length, piece_length, blocks_of, height_of, held_answer}
use Rattle.messages.specs.Take.{take_answer}
use Rattle.pieces.specs.Pieces.{layer_answer, block_answer, piece_height, piece_answer}
use Rattle.pieces.specs.Hybrid.{V1Agrees, hybrid_answer}
use Rattle.words.specs.Held.{Holds}
use Rattle.words.specs.Messages.{anchor_layer, anchor_index}
use Rattle.words.specs.History.{Bytes, OurStore}
use Rattle.words.specs.Shown.{held_by, of_file, Shown, OneHash}
use Rattle.words.specs.File.{For, piece_for, layer_for, TrueHashes, PieceIs}

-- the file's own hashes are 6 as long as kd_held does not give their anchor, padding or not
pub true_hashes_wait : (file s m : List ℕ) → For file s → TrueHashes file s m → ((held_answer s (anchor_layer m) (anchor_index m)).number ≡ 0 → ⊥)
    → (take_answer s m).number ≡ no_anchor
unfolding take_answer
true_hashes_wait = Rattle.knowledge.specs.Known.known_message_waits

module _ {s : List ℕ} (file : List ℕ) (o : OurStore s) (w : For file s) where
  -- every hash that kd_held gives is the file's
  pub held_is_the_files : (l i : ℕ) (v : List ℕ) → Holds s l i v → Shown (height_of s) (held_by s) (of_file file) ⊎ (v ≡ node (leaf_of file) l i)
  held_is_the_files = Rattle.knowledge.specs.Known.known_is_the_files file o w

  -- a block answered 0 is the file's, or the two are different strings of the block's size with one SHA-256
  pub block_is_the_files : (i : ℕ) (block : List ℕ) → Bytes file → Bytes block → (block_answer s i block).number ≡ 0
      → Shown (height_of s) (held_by s) (of_file file) ⊎ (OneHash (block_size (file_length s) i) block (block_of file i) ⊎ (block ≡ block_of file i))
  unfolding block_answer
  block_is_the_files = Rattle.knowledge.specs.Known.block_is_the_files file o w

  -- so is a piece
  pub piece_is_the_files : (i : ℕ) (piece : List ℕ) → Bytes file → Bytes piece → (piece_answer s i piece).number ≡ 0 → PieceIs file s i piece
  unfolding piece_answer
  piece_is_the_files = Rattle.knowledge.specs.Known.piece_is_the_files file o w

  -- and a hybrid's, of which the v1 half agrees too
  pub hybrid_piece_is_the_files : (i : ℕ) (piece v1 : List ℕ) (zeros : ℕ) → Bytes file → Bytes piece → (hybrid_answer s i piece v1 zeros).number ≡ 0
      → PieceIs file s i piece × V1Agrees s piece v1 zeros
  unfolding hybrid_answer
  hybrid_piece_is_the_files = Rattle.knowledge.specs.Known.hybrid_piece_is_the_files file o w

  -- the file's own hashes, where kd_held gives their anchor, are taken,
  pub true_hashes_taken : (m : List ℕ) → TrueHashes file s m → (held_answer s (anchor_layer m) (anchor_index m)).number ≡ 0
      → Shown (height_of s) (held_by s) (of_file file) ⊎ ((take_answer s m).number ≡ 0)
  unfolding take_answer
  true_hashes_taken = Rattle.knowledge.specs.Known.known_message file o w

  -- its own piece layer is loaded,
  pub true_layer_loaded : piece_length s < file_length s → Shown (height_of s) (held_by s) (of_file file) ⊎ ((layer_answer s (layer_for file s)).number ≡ 0)
  unfolding layer_answer
  true_layer_loaded = Rattle.knowledge.specs.Known.known_layer file o w

  -- its own block, where kd_held gives the leaf, is believed,
  pub true_block_believed : (i : ℕ) (v : List ℕ) → i < blocks_of s → Holds s 0 i v → Shown (height_of s) (held_by s) (of_file file) ⊎ ((block_answer s i (block_of file i)).number ≡ 0)
  unfolding block_answer
  true_block_believed = Rattle.knowledge.specs.Known.known_block file o w

  -- and its own piece, where kd_held gives the node
  pub true_piece_believed : (i : ℕ) (v : List ℕ) → i < piece_count (file_length s) (piece_length s) → Holds s (piece_height s) i v
      → Shown (height_of s) (held_by s) (of_file file) ⊎ ((piece_answer s i (piece_for file s i)).number ≡ 0)
  unfolding piece_answer
  true_piece_believed = Rattle.knowledge.specs.Known.known_piece file o w

  -- by both halves too, where the v1 half agrees
  pub true_hybrid_piece_believed : (i : ℕ) (v v1 : List ℕ) (zeros : ℕ) → i < piece_count (file_length s) (piece_length s) → Holds s (piece_height s) i v
      → V1Agrees s (piece_for file s i) v1 zeros → Shown (height_of s) (held_by s) (of_file file) ⊎ ((hybrid_answer s i (piece_for file s i) v1 zeros).number ≡ 0)
  unfolding hybrid_answer
  true_hybrid_piece_believed = Rattle.knowledge.specs.Known.known_hybrid_piece file o w

-- Demand 2, from the root to the block: a store of ours, opened with a file's own length and pieces root, believes the file's hashes,
-- blocks and pieces and no others, unless two strings with one SHA-256 are shown. "Held" is what kd_held answers.
-- Assumes nothing.
use Rattle.std.specs.Prelude.{◌≡◌, refl, Bool, true, false, List, ◌⊎◌, ℕ, ◌+◌, ◌-◌, ◌*◌, ◌/◌, ◌^◌, ◌≤◌, ◌<◌}
use Rattle.std.proofs.Math.Path.{sym}
use Rattle.std.proofs.Common.{◌∙◌, inl, inr, arith}
use Rattle.numbers.specs.Numbers.{no_anchor}
use Rattle.tree.specs.Geometry.{height, node_number, block_size, piece_count}
use Rattle.tree.proofs.GeometryLaws.{longer_has}
use Rattle.tree.specs.Values.{node, leaf_of, block_of}
use Rattle.cells.specs.Cells.{held_at}
use Rattle.cells.specs.EntriesLaws.{Has, has_same}
use Rattle.store.specs.Store.{file_length, piece_length, blocks_of, height_of, held_answer}
use Rattle.store.specs.StoreLaws.{tree_says}
use Rattle.settling.specs.Subtree.{subtree}
use Rattle.settling.specs.Path.{sibling, uncle, ancestor}
use Rattle.header.specs.Header.{header_of, is_hashes, place_of, Kept}
use Rattle.header.specs.HeaderLaws.{rules_kept_lem}
use Rattle.messages.specs.Take.{given, uncles_of, anchor, place_in, take_number}
use Rattle.messages.specs.Asks.{RulesPassed}
use Rattle.messages.specs.TakeLaws.{passed}
use Rattle.pieces.specs.Pieces.{block_number, piece_height, piece_number, layer_number}
use Rattle.pieces.specs.Hybrid.{V1Agrees, hybrid_number}
use Rattle.pieces.proofs.HybridLaws.{hybrid_0}
use Rattle.words.specs.Held.{Holds}
use Rattle.words.specs.History.{Bytes, OurStore}
use Rattle.words.specs.Messages.{top_layer, top_index, anchor_layer, anchor_index}
use Rattle.words.specs.Shown.{held_by, by_piece, of_file, OneHash, Shown}
use Rattle.words.specs.File.{For, piece_for, layer_for, TrueHashes, PieceIs, the_files, store_shows, piece_shows, block_shows}
use Rattle.knowledge.specs.Again.{what_is_held}
use Rattle.knowledge.specs.ReadBack.{run_number, run_in_layer, uncle_layer, uncle_number, uncle_in_layer}
use Rattle.knowledge.specs.OwnBytes.{ours_have}
use Rattle.knowledge.specs.Conflict.{ShownAt}
use Rattle.knowledge.specs.RootToBlock.{tree_of, same_height, tree_has, held_is_the_files_at, block_is_the_files_at, true_block, true_piece}
use Rattle.knowledge.specs.PieceIsTheFiles.{PieceIsAt, the_files_at, store_shows_at, piece_shows_at, block_shows_at, piece_is_the_files_at}
use Rattle.knowledge.specs.TrueMessage.{Tells, true_message, true_message_waits}
use Rattle.knowledge.specs.TrueLayer.{true_layer}
use Rattle.knowledge.specs.AnchorHeld.{asked_held, held_asked}
use Rattle.knowledge.specs.JudgedWhen.{piece_0}
use Rattle.knowledge.specs.Positions.{given_is, uncle_is}
use Rattle.knowledge.specs.Shown.{shown, reads_piece, reads_file}
use Rattle.knowledge.specs.ConflictShows.{ours_reads}
use Rattle.knowledge.specs.TakenWhen.{Formed}
use Rattle.knowledge.specs.FormedWhen.{well_formed}

module _ (file s m : List ℕ) (w : For file s) (T : TrueHashes file s m) where
  formed : Formed s m
  formed = (well_formed s m).0 T.formed

  P : RulesPassed (is_hashes m) s m
  P = passed (is_hashes m) s m formed.header

  kept : Kept (header_of m) (height_of s)
  kept = rules_kept_lem (header_of m) (height_of s) P.rules

  in_tree : (n l i : ℕ) (v : List ℕ) → l ≤ height_of s → i < 2 ^ (height_of s - l) → node_number (height_of s) l i ≡ n → node (leaf_of file) l i ≡ v → Has n v (tree_of file)
  in_tree n l i v a b e q =
      rw (← same_height file s w) (has_same (subtree (leaf_of file) (height_of s) 1 0) (node_number (height_of s) l i) n (node (leaf_of file) l i) v e q (tree_has file s w l i a b))

  run_told : (j : ℕ) → j < 2 ^ (place_in s m).k → Has ((place_in s m).top * 2 ^ (place_in s m).k + j) (given m (place_in s m).k j) (tree_of file)
  unfolding place_of
  run_told j l =
      let X = header_of m in
      let c : j < (header_of m).len = omega (arith, kept.power) in
      in_tree ((place_of X (height_of s)).top * 2 ^ height X.len + j) X.base (X.index + j) (given m (height X.len) j) (omega (arith, kept.within))
      (run_in_layer X (height_of s) kept j l) (sym (run_number X (height_of s) kept j l)) (sym (T.run j c) ∙ sym (given_is s m formed j l))

  uncle_told : (i : ℕ) → i < (place_in s m).u
      → Has (sibling (ancestor i (place_in s m).top)) (uncle (uncles_of m (2 ^ (place_in s m).k) (place_in s m).u) i) (tree_of file)
  unfolding place_of
  uncle_told i l =
      let X = header_of m in
      let b = uncle_layer X (height_of s) kept i l in
      in_tree (sibling (ancestor i (place_in s m).top)) (top_layer m + i) (sibling (top_index m / 2 ^ i)) (uncle (uncles_of m (2 ^ (place_in s m).k) (place_in s m).u) i) (omega arith)
      (uncle_in_layer X (height_of s) kept i l) (sym (uncle_number X (height_of s) kept i l))
      (sym (T.uncles i l) ∙ sym (uncle_is s m formed i l))

  tells : Tells file s m
  tells = record { header = formed.header; size = formed.size; run = run_told; uncles = uncle_told }

  -- THE FILE'S OWN HASHES, where kd_held does not give their anchor, are 6
  pub known_message_waits : ((held_answer s (anchor_layer m) (anchor_index m)).number ≡ 0 → ⊥) → take_number s m ≡ no_anchor
  known_message_waits n = true_message_waits file s m w tells (by (held_at s (anchor (place_in s m))) refl)
    where
      by : (b : Bool) → held_at s (anchor (place_in s m)) ≡ b → held_at s (anchor (place_in s m)) ≡ false
      by true e = absurd (n (held_asked (is_hashes m) s m P e))
      by false e = e

module _ {s : List ℕ} (file : List ℕ) (o : OurStore s) (w : For file s) where
  store_shows_lem : ShownAt (height_of s) (held_by s) (of_file file) → Shown (height_of s) (held_by s) (of_file file)
  store_shows_lem = shown (height_of s) (held_by s) (of_file file) (ours_reads o) (reads_file file s w)

  or_shown : {A : Type 0} → ShownAt (height_of s) (held_by s) (of_file file) ⊎ A → Shown (height_of s) (held_by s) (of_file file) ⊎ A
  or_shown (inl x) = inl (store_shows_lem x)
  or_shown (inr a) = inr a

  -- EVERY HASH THAT kd_held GIVES is the file's, or a pair is shown
  pub known_is_the_files : (l i : ℕ) (v : List ℕ) → Holds s l i v → Shown (height_of s) (held_by s) (of_file file) ⊎ (v ≡ node (leaf_of file) l i)
  known_is_the_files l i v h =
      let k = what_is_held s l i v (ours_have o).chained.facts h in
      let t = tree_says (height_of s) l i k.0 in
      elim (held_is_the_files_at file o w) [ inl x ↦ inl (store_shows_lem x) | inr f ↦ inr (sym k.2 ∙ f l i t.0 t.1 k.1) ]

  -- A BLOCK ANSWERED 0 IS THE FILE'S, or a pair is shown, or the block and the file's block are two different strings of the block's size
  -- with one SHA-256
  pub block_is_the_files : (i : ℕ) (block : List ℕ) → Bytes file → Bytes block → block_number s i block ≡ 0
      → Shown (height_of s) (held_by s) (of_file file) ⊎ (OneHash (block_size (file_length s) i) block (block_of file i) ⊎ (block ≡ block_of file i))
  block_is_the_files i block bf bb z = or_shown (block_is_the_files_at file i block o w bf bb z)

  -- A PIECE ANSWERED 0 IS THE FILE'S, or a pair is shown, or two blocks are different strings with one SHA-256
  pub piece_is_the_files : (i : ℕ) (piece : List ℕ) → Bytes file → Bytes piece → piece_number s i piece ≡ 0 → PieceIs file s i piece
  piece_is_the_files i piece bf bp z = by (piece_is_the_files_at file i piece o w bf bp z)
    where
      by : PieceIsAt file s i piece → PieceIs file s i piece
      by (the_files_at e) = the_files e
      by (store_shows_at x) = store_shows (store_shows_lem x)
      by (piece_shows_at x) = piece_shows (shown (height_of s) (by_piece s i piece) (of_file file) (reads_piece s i piece ((piece_0 s i piece).0 z).0) (reads_file file s w) x)
      by (block_shows_at x c) = block_shows x c

  -- so is a hybrid's, and its v1 half agrees
  pub hybrid_piece_is_the_files : (i : ℕ) (piece v1 : List ℕ) (zeros : ℕ) → Bytes file → Bytes piece → hybrid_number s i piece v1 zeros ≡ 0
      → PieceIs file s i piece × V1Agrees s piece v1 zeros
  hybrid_piece_is_the_files i piece v1 zeros bf bp z = let x = (hybrid_0 s i piece v1 zeros).0 z in (piece_is_the_files i piece bf bp x.0, x.1)

  -- THE FILE'S OWN HASHES, where kd_held gives their anchor, are taken, or a pair is shown
  pub known_message : (m : List ℕ) → TrueHashes file s m → (held_answer s (anchor_layer m) (anchor_index m)).number ≡ 0
      → Shown (height_of s) (held_by s) (of_file file) ⊎ (take_number s m ≡ 0)
  known_message m T h = or_shown (true_message file m o w (tells file s m w T) (asked_held (is_hashes m) s m (P file s m w T) h))

  -- its own piece layer too,
  pub known_layer : piece_length s < file_length s → Shown (height_of s) (held_by s) (of_file file) ⊎ (layer_number s (layer_for file s) ≡ 0)
  known_layer longer = or_shown (true_layer file o w (longer_has (file_length s) (piece_length s) longer))

  -- its own block, where kd_held gives the leaf,
  pub known_block : (i : ℕ) (v : List ℕ) → i < blocks_of s → Holds s 0 i v → Shown (height_of s) (held_by s) (of_file file) ⊎ (block_number s i (block_of file i) ≡ 0)
  known_block i v l h = or_shown (true_block file i o w l (what_is_held s 0 i v (ours_have o).chained.facts h).1)

  -- and its own piece, where kd_held gives the node
  pub known_piece : (i : ℕ) (v : List ℕ) → i < piece_count (file_length s) (piece_length s) → Holds s (piece_height s) i v
      → Shown (height_of s) (held_by s) (of_file file) ⊎ (piece_number s i (piece_for file s i) ≡ 0)
  known_piece i v l h = or_shown (true_piece file i o w l (what_is_held s (piece_height s) i v (ours_have o).chained.facts h).1)

  -- by both halves too, where the v1 half agrees
  pub known_hybrid_piece : (i : ℕ) (v v1 : List ℕ) (zeros : ℕ) → i < piece_count (file_length s) (piece_length s) → Holds s (piece_height s) i v
      → V1Agrees s (piece_for file s i) v1 zeros → Shown (height_of s) (held_by s) (of_file file) ⊎ (hybrid_number s i (piece_for file s i) v1 zeros ≡ 0)
  known_hybrid_piece i v v1 zeros l h a = elim (known_piece i v l h) [ inl x ↦ inl x | inr z ↦ inr ((hybrid_0 s i (piece_for file s i) v1 zeros).1 (z, a)) ]

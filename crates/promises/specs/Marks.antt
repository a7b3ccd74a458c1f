-- 02, request 7: when a block is marked, what a mark promises, the bitfield; and that marks decide nothing about hashes. Its words: crates/words,
-- file Marks. Demand 3 (Demand3) is about histories with these calls in them; that a refusal changes no byte of a store, marks included, is
-- `refusal_leaves_store` (Demand1); each number of the calls is in EachNumber.
-- Assumes nothing.
use Rattle.std.specs.Prelude.{◌≡◌, true, false, List, ◌↔◌, ◌⊎◌, ℕ, ◌-◌, ◌*◌, ◌^◌, ◌≤◌, ◌<◌, length, get_or}
use Rattle.octets.specs.Octets.{Octets}
use Rattle.numbers.specs.Numbers.{done}
use Rattle.tree.specs.Geometry.{piece_count, block_size}
use Rattle.tree.specs.Values.{block_of}
use Rattle.store.specs.Store.{usable, file_length, piece_length, blocks_of, height_of, open_answer, open_after}
use Rattle.store.specs.StoreLaws.{usable_facts}
use Rattle.marks.specs.Marks.{marks_start, marked_at, marked_answer, first_block, field_bytes, field_size, field_answer, field_after}
use Rattle.pieces.specs.Hybrid.{V1Agrees}
use Rattle.words.specs.History.{Bytes, Send, Call, judge_block, judge_piece, judge_hybrid_piece, number, answer, after, sent_to, Opening, Steps, Begins}
use Rattle.words.specs.Shown.{held_by, of_file, OneHash, Shown}
use Rattle.words.specs.File.{For, piece_for, PieceIs}
use Rattle.words.specs.Marks.{Covers, piece_bit, SameButMarks, SendsHashes, AboutHashes, Judges, Clears, JudgedBy, JudgedRight, Uncleared, RightFor}

-- ---- when a block is marked

-- over any history of our store kd_marked answers 1 for a block exactly if since the opening the block, or a piece that covers it, was
-- answered 0, and it was not cleared after that (since a load and a repair: Saved)
pub marked_exactly : (b : List ℕ) (n plen : ℕ) (root : List ℕ) → Octets 32 root → (open_answer b n plen).number ≡ 0 → {t : List ℕ} (h : Steps (open_after b n plen root) t)
    → (j : ℕ) → (marked_answer t j ≡ done 1) ↔ JudgedRight j h
marked_exactly b n plen root o z h = Rattle.knowledge.specs.MarksSince.marked_exactly b n plen root o.size z h

-- the bytes of blocks past the file's are never set
pub past_never_marked : {s t : List ℕ} → Begins s → Steps s t → (j : ℕ) → blocks_of t ≤ j → j < 2 ^ height_of t → marked_at t j ≡ false
past_never_marked = Rattle.knowledge.specs.LoadedMarks.past_never

-- over any history of any usable store, one that was loaded too: exactly if judged right and not cleared after that, or marked at first and not
-- cleared since
pub marked_since : (s : List ℕ) → usable s ≡ true → {t : List ℕ} (h : Steps s t) (j : ℕ)
    → (marked_answer t j ≡ done 1) ↔ (JudgedRight j h ⊎ ((marked_answer s j ≡ done 1) × Uncleared j t h))
marked_since = Rattle.knowledge.specs.MarksSince.marked_since

-- "the marks may go back, but only by that call", and by an opening: of any usable store
pub goes_back_only : (s : List ℕ) → usable s ≡ true → (c : Call) (j : ℕ) → marked_answer s j ≡ done 1 → (marked_answer (after c s) j ≡ done 1 → ⊥)
    → (Clears j c ⊎ Opening c) × (number c s ≡ 0)
goes_back_only = Rattle.knowledge.specs.MarksSince.back_only

-- one call, on any usable store: a block is marked afterwards exactly if the call judged it right, or it was marked and not cleared by the call
pub marked_after : (s : List ℕ) → usable s ≡ true → (c : Call) → (Opening c → number c s ≡ 0 → ⊥) → (j : ℕ)
    → (marked_answer (after c s) j ≡ done 1) ↔ ((Judges s j c × (number c s ≡ 0)) ⊎ ((marked_answer s j ≡ done 1) × (Clears j c → number c s ≡ 0 → ⊥)))
marked_after = Rattle.knowledge.specs.MarksSince.after_call

-- ---- what a mark promises

-- the bytes that were judged had the block's length and the held leaf's hash, or the piece's length and its node's, and by both halves of a hybrid
-- the v1 hash too: then,
pub right_then : {j : ℕ} {c : Call} {u s t : List ℕ} {h : Steps s t} → JudgedBy j c u t h → RightFor u j c
right_then = Rattle.knowledge.specs.MarksSince.right_then

-- and by what the store holds at last
pub right_still : {s t : List ℕ} → usable s ≡ true → {h : Steps s t} {j : ℕ} {c : Call} {u : List ℕ} → JudgedBy j c u t h → RightFor t j c
right_still {s} us = Rattle.knowledge.specs.MarksSince.right_still (usable_facts s us)

module _ {s t : List ℕ} (begun : Begins s) (h : Steps s t) where
  -- from the root to the mark: in a store for a file the block that was judged is the file's, or a pair is shown,
  pub marked_block_is_the_files : (file : List ℕ) → For file t → Bytes file → {j : ℕ} {u : List ℕ} (i : ℕ) (block : List ℕ) (bb : Bytes block)
      → JudgedBy j (judge_block i block bb) u t h
      → Shown (height_of u) (held_by u) (of_file file) ⊎ (OneHash (block_size (file_length u) i) block (block_of file i) ⊎ (block ≡ block_of file i))
  marked_block_is_the_files = Rattle.knowledge.specs.MarkedIsTheFiles.marked_by_block begun h

  -- and so is the piece,
  pub marked_piece_is_the_files : (file : List ℕ) → For file t → Bytes file → {j : ℕ} {u : List ℕ} (i : ℕ) (piece : List ℕ) (bp : Bytes piece)
      → JudgedBy j (judge_piece i piece bp) u t h → PieceIs file u i piece
  marked_piece_is_the_files = Rattle.knowledge.specs.MarkedIsTheFiles.marked_by_piece begun h

  -- by both halves of a hybrid too, and the v1 half agreed,
  pub marked_hybrid_piece_is_the_files : (file : List ℕ) → For file t → Bytes file → {j : ℕ} {u : List ℕ} (i : ℕ) (piece v1 : List ℕ) (zeros : ℕ) (bp : Bytes piece) (o : Octets 20 v1)
      → JudgedBy j (judge_hybrid_piece i piece v1 zeros bp o) u t h → PieceIs file u i piece × V1Agrees u piece v1 zeros
  marked_hybrid_piece_is_the_files = Rattle.knowledge.specs.MarkedIsTheFiles.marked_by_both begun h

-- in which the file's block stands at its place
pub block_in_piece : (file s : List ℕ) → usable s ≡ true → (i j : ℕ) → i < piece_count (file_length s) (piece_length s) → Covers s i j
    → block_of (piece_for file s i) (j - first_block s i) ≡ block_of file j
block_in_piece file s u = Rattle.knowledge.specs.MarkedIsTheFiles.block_in_piece file s (usable_facts s u)

-- ---- marks decide nothing about hashes

-- of two stores that differ in marks only, every call about hashes answers the same,
pub marks_decide_nothing : {s t : List ℕ} → SameButMarks s t → (c : Call) → AboutHashes c → answer c t ≡ answer c s
marks_decide_nothing {s} {t} = Rattle.knowledge.specs.Independence.answers_same s t

-- sends the same bytes,
pub same_bytes_sent : {s t : List ℕ} → SameButMarks s t → (k : Send) → SendsHashes k → (out : List ℕ) → sent_to k t out ≡ sent_to k s out
same_bytes_sent {s} {t} = Rattle.knowledge.specs.Independence.sends_same s t

-- and leaves the same facts and cells
pub same_cells_left : {s t : List ℕ} → SameButMarks s t → (c : Call) → AboutHashes c → (j : ℕ) → j < marks_start s → get_or (after c t) j 0 ≡ get_or (after c s) j 0
same_cells_left {s} {t} = Rattle.knowledge.specs.Independence.cells_left s t

-- so that they differ in marks only again
pub same_but_marks_left : {s t : List ℕ} → SameButMarks s t → (c : Call) → AboutHashes c → SameButMarks (after c s) (after c t)
same_but_marks_left {s} {t} = Rattle.knowledge.specs.Independence.still_same s t

-- ---- the bitfield

-- the bitfield's bit of a piece is set exactly if all blocks that the piece covers are marked
pub bit_exactly : (s : List ℕ) → usable s ≡ true → (i : ℕ) → i < piece_count (file_length s) (piece_length s)
    → (piece_bit (field_bytes s (field_size s)) i ≡ 1) ↔ ((j : ℕ) → Covers s i j → marked_at s j ≡ true)
bit_exactly s u = Rattle.knowledge.specs.Bitfield.bit_exactly s (usable_facts s u)

-- of the answers: the bit in the bytes that kd_bitfield leaves, and kd_marked's 1 for every block that the piece covers;
module _ (s out : List ℕ) (z : (field_answer s out).number ≡ 0) where
  pub bit_answered : (i : ℕ) → i < piece_count (file_length s) (piece_length s) → (piece_bit (field_after s out) i ≡ 1) ↔ ((j : ℕ) → Covers s i j → marked_answer s j ≡ done 1)
  bit_answered = Rattle.knowledge.specs.MarkedWhen.bit_answered s out z

  -- spare bits are zero,
  pub spare_bits_zero : (i : ℕ) → piece_count (file_length s) (piece_length s) ≤ i → i < 8 * field_size s → piece_bit (field_after s out) i ≡ 0
  spare_bits_zero = Rattle.knowledge.specs.MarkedWhen.spare_zero s out z

  -- the count is the bitfield's size, a byte for eight pieces,
  pub field_counts : (field_answer s out).count ≡ field_size s
  field_counts = Rattle.knowledge.specs.MarkedWhen.field_counts s out z

  -- and the bytes behind it stay
  pub field_behind_stays : (length (field_after s out) ≡ length out) × ((k : ℕ) → field_size s ≤ k → get_or (field_after s out) k 0 ≡ get_or out k 0)
  field_behind_stays = (Rattle.knowledge.specs.MarkedWhen.field_same_length s out z, Rattle.knowledge.specs.MarkedWhen.field_behind s out z)

-- a refusal leaves every byte of the output
pub field_refused : (s out : List ℕ) → ((field_answer s out).number ≡ 0 → ⊥) → field_after s out ≡ out
field_refused = Rattle.knowledge.specs.MarkedWhen.field_refused

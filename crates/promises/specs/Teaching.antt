-- What hosts need: a piece's block hashes as the hashes message that teaches them, so that a store that learnt from a layer or from its own data comes to
-- hold its leaves. The call is lent the store as `&`. Its words: crates/words, files Teaching, Pieces, Messages. "Held" is what kd_held answers.
-- Assumes nothing.
use Rattle.std.specs.Prelude.{◌≡◌, true, false, List, ◌↔◌, ◌⊎◌, ℕ, ◌+◌, ◌*◌, ◌^◌, ◌≤◌, ◌<◌, length, get_or}
use Rattle.std.proofs.Common.{inl, inr, arith}
use Rattle.numbers.specs.Numbers.{rule_broken, wrong_size, no_anchor, differs, conflict, unusable, no_room}
use Rattle.tree.specs.Geometry.{block_length, piece_count, piece_size}
use Rattle.tree.specs.Values.{leaf_of}
use Rattle.store.specs.Store.{usable, file_length, piece_length, height_of}
use Rattle.store.specs.StoreLaws.{usable_facts}
use Rattle.header.specs.Header.{header_of}
use Rattle.messages.specs.Take.{take_answer, take_after}
use Rattle.pieces.specs.Pieces.{piece_height}
use Rattle.asking.specs.Asking.{no_request, next_answer}
use Rattle.leaves.specs.Leaves.{run_over, leaves_answer, leaves_after}
use Rattle.words.specs.Held.{Holds, Lacks, Fits, Misfits, Clashes}
use Rattle.words.specs.Messages.{hash_in, WellFormed}
use Rattle.words.specs.Pieces.{PieceFormed, PieceSettles}
use Rattle.words.specs.File.{For, piece_for, TrueHashes, PieceIs}
use Rattle.words.specs.History.{Bytes, OurStore}
use Rattle.words.specs.Shown.{held_by, of_file, Shown}
use Rattle.words.specs.Teaching.{told_size, told, Taught}
use Rattle.knowledge.specs.LeavesNumbers as N
use Rattle.knowledge.specs.LeavesTaught as T
use Rattle.knowledge.specs.JudgedWhen.{piece_9, piece_3, piece_4, piece_6, piece_7, piece_8, piece_0}

-- where A holds exactly if B does, and B exactly if C, A holds exactly if C does
on : {A B C : Type 0} → A ↔ B → B ↔ C → A ↔ C
on p q = (λ a. q.0 (p.0 a), λ c. p.1 (q.1 c))

module _ (s : List ℕ) (i : ℕ) (piece out : List ℕ) where
  -- ---- 9, 3, 4, 6, 7, 8 as kd_judge_piece has them; then 11; 0

  pub leaves_9 : ((leaves_answer s i piece out).number ≡ unusable) ↔ (usable s ≡ false)
  leaves_9 = on (N.leaves_on s i piece out unusable (λ e. omega arith) (λ e. omega arith)) (piece_9 s i piece)

  -- piece number past the file
  pub leaves_3 : ((leaves_answer s i piece out).number ≡ rule_broken) ↔ ((usable s ≡ true) × (piece_count (file_length s) (piece_length s) ≤ i))
  leaves_3 = on (N.leaves_on s i piece out rule_broken (λ e. omega arith) (λ e. omega arith)) (piece_3 s i piece)

  pub leaves_4 : ((leaves_answer s i piece out).number ≡ wrong_size)
      ↔ ((usable s ≡ true) × (i < piece_count (file_length s) (piece_length s)) × (length piece ≡ piece_size (file_length s) (piece_length s) i → ⊥))
  leaves_4 = on (N.leaves_on s i piece out wrong_size (λ e. omega arith) (λ e. omega arith)) (piece_4 s i piece)

  -- piece node not held
  pub leaves_6 : ((leaves_answer s i piece out).number ≡ no_anchor) ↔ (PieceFormed s i piece × Lacks s (piece_height s) i)
  leaves_6 = on (N.leaves_on s i piece out no_anchor (λ e. omega arith) (λ e. omega arith)) (piece_6 s i piece)

  pub leaves_7 : ((leaves_answer s i piece out).number ≡ differs) ↔ (PieceFormed s i piece × Misfits s (PieceSettles s i piece) (piece_height s) i)
  leaves_7 = on (N.leaves_on s i piece out differs (λ e. omega arith) (λ e. omega arith)) (piece_7 s i piece)

  pub leaves_8 : ((leaves_answer s i piece out).number ≡ conflict) ↔ (PieceFormed s i piece × Clashes s (PieceSettles s i piece) (piece_height s) i)
  leaves_8 = on (N.leaves_on s i piece out conflict (λ e. omega arith) (λ e. omega arith)) (piece_8 s i piece)

  -- the piece is right, and the output is shorter than the message
  pub leaves_11 : ((leaves_answer s i piece out).number ≡ no_room) ↔ ((PieceFormed s i piece × Fits s (PieceSettles s i piece) (piece_height s) i) × (length out < told_size s))
  leaves_11 = (
    λ e. (let t = (N.leaves_11 s i piece out).0 e in ((piece_0 s i piece).0 t.0, (let l = T.told_length s i piece t.0 in omega (arith, t.1)))),
    λ t. (let z = (piece_0 s i piece).1 t.0 in (N.leaves_11 s i piece out).1 (z, (let l = T.told_length s i piece z in omega (arith, t.1)))),
  )

  -- the piece is right, and there is room
  pub leaves_0 : ((leaves_answer s i piece out).number ≡ 0) ↔ ((PieceFormed s i piece × Fits s (PieceSettles s i piece) (piece_height s) i) × (told_size s ≤ length out))
  leaves_0 = (
    λ e. (let t = (N.leaves_0 s i piece out).0 e in ((piece_0 s i piece).0 t.0, (let l = T.told_length s i piece t.0 in omega (arith, t.1)))),
    λ t. (let z = (piece_0 s i piece).1 t.0 in (N.leaves_0 s i piece out).1 (z, (let l = T.told_length s i piece z in omega (arith, t.1)))),
  )

  -- a refusal leaves every byte of the output
  pub told_refused : ((leaves_answer s i piece out).number ≡ 0 → ⊥) → leaves_after s i piece out ≡ out
  told_refused ne = (N.leaves_leave s i piece out ne).0

  module _ (z : (leaves_answer s i piece out).number ≡ 0) where
    -- ---- beside 0 the size is the message's,
    pub told_size_lem : (leaves_answer s i piece out).count ≡ told_size s
    told_size_lem = T.told_size_lem s i piece out z

    -- 0 exactly where pieces have one block, or the file has one;
    pub told_nothing : ((leaves_answer s i piece out).count ≡ 0) ↔ ((piece_length s ≡ block_length) ⊎ (file_length s ≤ block_length))
    told_nothing = on (T.told_nothing s i piece out z) (T.one_leaf s (usable_facts s (leaves_0.0 z).0.0.store))

    -- bytes of the output behind it stay, and so does its length
    pub told_behind : (k : ℕ) → (leaves_answer s i piece out).count ≤ k → get_or (leaves_after s i piece out) k 0 ≡ get_or out k 0
    told_behind = T.told_behind s i piece out z

    pub told_same_length : length (leaves_after s i piece out) ≡ length out
    told_same_length = T.told_same_length s i piece out z

    -- ---- a size above 0: kd_take of these bytes on this store is 0,
    module _ (some : (leaves_answer s i piece out).count ≡ 0 → ⊥) where
      pub told_taken : (take_answer s (told s i piece out)).number ≡ 0
      unfolding take_answer
      told_taken = T.told_taken s i piece out z some

      -- they are a well-formed message,
      pub told_formed : WellFormed s (told s i piece out)
      told_formed = T.told_formed s i piece out z some

      -- of base layer 0, proof layers 0, and all leaves under the piece's node,
      pub told_header : header_of (told s i piece out) ≡ run_over (i * 2 ^ piece_height s) (2 ^ piece_height s)
      told_header = T.told_header s i piece out z some

      -- and what they say is the piece's own: hash j is its leaf j, which past its blocks is padding;
      pub told_hash : (j : ℕ) → j < 2 ^ piece_height s → hash_in (told s i piece out) j ≡ leaf_of piece j
      told_hash = T.told_hash s i piece out z some

      -- where the piece is the file's, so is every hash
      pub told_true : (file : List ℕ) → For file s → piece ≡ piece_for file s i → TrueHashes file s (told s i piece out)
      told_true = T.told_true s i piece out z some

    -- that the piece is the file's, from the root to the block, or a pair is shown, or two blocks have one SHA-256
    pub told_is_the_files : (file : List ℕ) → OurStore s → For file s → Bytes file → Bytes piece → PieceIs file s i piece
    told_is_the_files file o w bf bp = Rattle.knowledge.specs.Known.piece_is_the_files file o w i piece bf bp ((N.leaves_0 s i piece out).0 z).0

    -- ---- once they were offered to kd_take, every leaf of the piece is held, also where the size is 0
    pub told_holds : (j : ℕ) → j < 2 ^ piece_height s → Holds (take_after s (told s i piece out)) 0 (i * 2 ^ piece_height s + j) (leaf_of piece j)
    told_holds = T.told_holds s i piece out z

-- the file's own piece is told, where kd_held gives its node and there is room, unless a pair is shown
pub true_piece_told : {s : List ℕ} (file : List ℕ) → OurStore s → For file s → (i : ℕ) (v : List ℕ) → i < piece_count (file_length s) (piece_length s) → Holds s (piece_height s) i v
    → (out : List ℕ) → told_size s ≤ length out → Shown (height_of s) (held_by s) (of_file file) ⊎ ((leaves_answer s i (piece_for file s i) out).number ≡ 0)
true_piece_told {s} file o w i v l h out room =
    elim (Rattle.knowledge.specs.Known.known_piece file o w i v l h) [
      | inl x ↦ inl x
      | inr z ↦ inr ((leaves_0 s i (piece_for file s i) out).1 ((piece_0 s i (piece_for file s i)).0 z, room))
    ]

-- so that once every piece was taught, whatever else happened, layer 0 is "nothing to ask"
pub all_taught : (t : List ℕ) → (next_answer t 0).number ≡ 0 → ((i : ℕ) → i < piece_count (file_length t) (piece_length t) → Taught i t) → next_answer t 0 ≡ no_request 0
all_taught = T.all_taught

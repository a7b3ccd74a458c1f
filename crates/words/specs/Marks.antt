-- 02, request 7: which blocks a piece covers, the bit of a piece in a bitfield, stores that differ in marks only; over a history, when a block
-- was judged right, and by which bytes.
-- Assumes nothing.
use Prim.{Unit}
use Rattle.std.specs.Prelude.{◌≡◌, true, List, ℕ, zero, suc, ◌+◌, ◌-◌, ◌*◌, ◌/◌, ◌%◌, ◌≤◌, ◌<◌, length, get_or}
use Rattle.octets.specs.Octets.{Octets, cut}
use Rattle.sha256.specs.Sha256.{sha256}
use Rattle.tree.specs.Geometry.{block_length}
use Rattle.store.specs.Store.{usable, file_length, piece_length, blocks_of, store_size}
use Rattle.marks.specs.Marks.{marks_start}
use Rattle.pieces.specs.Pieces.{piece_height}
use Rattle.pieces.specs.Hybrid.{V1Agrees}
use Rattle.words.specs.Held.{Holds}
use Rattle.words.specs.Pieces.{BlockFormed, PieceFormed, PieceSettles}
use Rattle.words.specs.History.{Bytes, Ask, held, take_reject, is_marked, next_request, pick_piece, the_facts, begins_with, Send, serve, bitfield, Look, ask, send, Call, take, load_layer, judge_block, judge_piece, judge_hybrid_piece, clear, reopen, look, number, after, Opening, SameStore, call, lent, Steps, next, save, piece_hashes, load, repair, begin}

-- block j is one of the file's, and its first byte lies in piece i
pub record Covers (s : List ℕ) (i j : ℕ) : Type 0 where
  pub inside : j < blocks_of s
  pub from : piece_length s * i ≤ block_length * j
  pub upto : block_length * j < piece_length s * (i + 1)

-- the bit of x that stands for 2^n
abbrev pub bit_of : ℕ → ℕ → ℕ
bit_of zero x = x % 2
bit_of (suc n) x = bit_of n (x / 2)

-- the bit of piece i in a bitfield: eight to a byte, the first in the highest
abbrev pub piece_bit : List ℕ → ℕ → ℕ
piece_bit field i = bit_of (7 - i % 8) (get_or field (i / 8) 0)

-- s is usable, t has its room and its bytes up to the marks: they differ in marks, and behind the store
pub record SameButMarks (s t : List ℕ) : Type 0 where
  pub store : usable s ≡ true
  pub room : store_size (file_length s) ≤ length t
  pub bytes : cut t 0 (marks_start s) ≡ cut s 0 (marks_start s)

-- a call about hashes or facts: all but those about marks, a save, which has the marks in it, and an opening, loading and repairing included
abbrev pub AsksHashes : Ask → Type 0
AsksHashes (held l i) = Unit {0}
AsksHashes (take_reject m b) = Unit {0}
AsksHashes (is_marked i) = ⊥
AsksHashes (next_request l) = Unit {0}
AsksHashes (pick_piece counts) = ⊥
AsksHashes (begins_with n root block o b) = Unit {0}
AsksHashes the_facts = Unit {0}

abbrev pub SendsHashes : Send → Type 0
SendsHashes (serve m b) = Unit {0}
SendsHashes bitfield = ⊥
SendsHashes save = ⊥
SendsHashes (piece_hashes i d b) = Unit {0}

abbrev pub LooksAtHashes : Look → Type 0
LooksAtHashes (ask k) = AsksHashes k
LooksAtHashes (send k out b) = SendsHashes k

abbrev pub AboutHashes : Call → Type 0
AboutHashes (take m b) = Unit {0}
AboutHashes (load_layer l b) = Unit {0}
AboutHashes (judge_block i d b) = Unit {0}
AboutHashes (judge_piece i d b) = Unit {0}
AboutHashes (judge_hybrid_piece i d v z b o) = Unit {0}
AboutHashes (clear i) = ⊥
AboutHashes (reopen n plen root o) = ⊥
AboutHashes (load b x) = ⊥
AboutHashes (repair b x) = ⊥
AboutHashes (look k) = LooksAtHashes k

-- ---- marks over a history

-- the call is given block j's data: the block, or a piece that covers it
abbrev pub Judges : List ℕ → ℕ → Call → Type 0
Judges s j (take m b) = ⊥
Judges s j (load_layer l b) = ⊥
Judges s j (judge_block i d b) = i ≡ j
Judges s j (judge_piece i d b) = Covers s i j
Judges s j (judge_hybrid_piece i d v z b o) = Covers s i j
Judges s j (clear i) = ⊥
Judges s j (reopen n plen root o) = ⊥
Judges s j (load b x) = ⊥
Judges s j (repair b x) = ⊥
Judges s j (look k) = ⊥

-- the call is to clear block j
abbrev pub Clears : ℕ → Call → Type 0
Clears j (take m b) = ⊥
Clears j (load_layer l b) = ⊥
Clears j (judge_block i d b) = ⊥
Clears j (judge_piece i d b) = ⊥
Clears j (judge_hybrid_piece i d v z b o) = ⊥
Clears j (clear i) = i ≡ j
Clears j (reopen n plen root o) = ⊥
Clears j (load b x) = ⊥
Clears j (repair b x) = ⊥
Clears j (look k) = ⊥

-- in a history, the call c on the bytes u judged block j right, and block j was not cleared after that: c was the last step, given block j's
-- data and answered 0; or it came before the last step, which was no clearing of block j answered 0, or changed bytes behind the store
pub data JudgedBy (j : ℕ) (c : Call) (u : List ℕ) {s : List ℕ} : (t : List ℕ) → Steps s t → Type 0 where
  last : (h : Steps s u) (x : Opening c → number c u ≡ 0 → ⊥) → Judges u j c → number c u ≡ 0 → JudgedBy j c u (after c u) (next h (call c x))
  before : {t : List ℕ} {h : Steps s t} (d : Call) (x : Opening d → number d t ≡ 0 → ⊥) → JudgedBy j c u t h → (Clears j d → number d t ≡ 0 → ⊥)
      → JudgedBy j c u (after d t) (next h (call d x))
  behind : {t : List ℕ} {h : Steps s t} (v : List ℕ) (b : Bytes v) (e : SameStore t v) → JudgedBy j c u t h → JudgedBy j c u v (next h (lent v b e))

-- some call did
pub record JudgedRight (j : ℕ) {s t : List ℕ} (h : Steps s t) : Type 0 where
  pub c : Call
  pub u : List ℕ
  pub by : JudgedBy j c u t h

-- in a history block j was not cleared
pub data Uncleared (j : ℕ) {s : List ℕ} : (t : List ℕ) → Steps s t → Type 0 where
  at_first : Uncleared j s begin
  by_call : {t : List ℕ} {h : Steps s t} (d : Call) (x : Opening d → number d t ≡ 0 → ⊥) → Uncleared j t h → (Clears j d → number d t ≡ 0 → ⊥)
      → Uncleared j (after d t) (next h (call d x))
  by_lending : {t : List ℕ} {h : Steps s t} (v : List ℕ) (b : Bytes v) (e : SameStore t v) → Uncleared j t h → Uncleared j v (next h (lent v b e))

-- the bytes that a call was given are right for block j in the store t: a block has the block's length, and its SHA-256 is the hash that
-- kd_held gives for leaf j; a piece that covers it has the piece's length, and what its blocks make is the hash that kd_held gives for its node;
-- and of a hybrid's piece, judged by both halves, the v1 half agrees too
pub data RightFor (t : List ℕ) (j : ℕ) : Call → Type 0 where
  as_block : (block : List ℕ) (b : Bytes block) → BlockFormed t j block → Holds t 0 j (sha256 block) → RightFor t j (judge_block j block b)
  in_piece : (i : ℕ) (piece : List ℕ) (b : Bytes piece) → Covers t i j → PieceFormed t i piece → (w : List ℕ) → Holds t (piece_height t) i w
      → PieceSettles t i piece (piece_height t) i w → RightFor t j (judge_piece i piece b)
  in_hybrid_piece : (i : ℕ) (piece v1 : List ℕ) (zeros : ℕ) (b : Bytes piece) (o : Octets 20 v1) → RightFor t j (judge_piece i piece b) → V1Agrees t piece v1 zeros
      → RightFor t j (judge_hybrid_piece i piece v1 zeros b o)

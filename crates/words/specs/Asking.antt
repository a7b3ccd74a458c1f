-- 02, request 11: what is said of the next request and of the piece to fetch, by layer and index and as kd_held and kd_marked answer; histories
-- in which the requests named for a layer are answered, and those in which the pieces picked are judged right.
-- Assumes nothing.
use Rattle.std.specs.Prelude.{◌≡◌, Bool, true, not, List, ◌⊎◌, ℕ, zero, suc, ◌+◌, ◌^◌, ◌≤◌, ◌<◌, length, get_or}
use Rattle.octets.specs.Octets.{cut}
use Rattle.numbers.specs.Numbers.{done}
use Rattle.tree.specs.Geometry.{Padding, piece_layer, piece_count}
use Rattle.cells.specs.Entries.{one_if}
use Rattle.store.specs.Store.{usable, file_length, piece_length, blocks_of, height_of, store_size, fact_bytes}
use Rattle.marks.specs.Marks.{marks_start, marked_answer, piece_marked}
use Rattle.header.specs.Header.{header_of}
use Rattle.messages.specs.Take.{take_answer, take_after}
use Rattle.pieces.specs.Pieces.{piece_answer, piece_after}
use Rattle.pieces.specs.Hybrid.{hybrid_answer, hybrid_after}
use Rattle.asking.specs.declared.next.Request.{Request}
use Rattle.asking.specs.Asking.{next_answer}
use Rattle.asking.specs.Picking.{no_piece, this_piece, pick_answer}
use Rattle.words.specs.Held.{Holds, Lacks, Position}
use Rattle.words.specs.History.{Bytes, Call, Opening, number, after, SameStore, Step, Steps, call, lent, begin, next}
use Rattle.words.specs.Marks.{Covers, Clears}

-- ---- the next request

-- layer l may be asked for: it is 0, or it is p and the file, longer than a piece, has a piece layer
abbrev pub MayAsk : List ℕ → ℕ → Type 0
MayAsk s l = (l ≡ 0) ⊎ ((l ≡ piece_layer (piece_length s)) × (piece_length s < file_length s))

-- position i of layer l is wanted: the tree has it, and it isn't padding
pub record Wanted (s : List ℕ) (l i : ℕ) : Type 0 where
  pub position : Position (height_of s) l i
  pub full : Padding (blocks_of s) l i → ⊥

-- i is the lowest wanted position of layer l that isn't held
pub record LowestLacking (s : List ℕ) (l i : ℕ) : Type 0 where
  pub wanted : Wanted s l i
  pub lacks : Lacks s l i
  pub before : (j : ℕ) → j < i → (v : List ℕ) × Holds s l j v

-- a message has a request's base, index, length and proof layers
pub record HeaderOf (r : Request) (m : List ℕ) : Type 0 where
  pub base : (header_of m).base ≡ r.base
  pub index : (header_of m).index ≡ r.index
  pub len : (header_of m).len ≡ r.len
  pub proof : (header_of m).proof ≡ r.proof

-- from s to t n requests that kd_next_request named for layer l, one after the other, were each answered by a message that was taken. Any
-- other step may come at any time, also between a request and its reply.
pub data Answered (l : ℕ) (s : List ℕ) : ℕ → List ℕ → Type 0 where
  unasked : Answered l s 0 s
  meanwhile : {n : ℕ} {t u : List ℕ} → Answered l s n t → Step t u → Answered l s n u
  reply : {n : ℕ} {t u : List ℕ} (m : List ℕ) → Answered l s n t → (next_answer t l).asks ≡ 1 → Steps t u → HeaderOf (next_answer t l) m
      → (take_answer u m).number ≡ 0 → Answered l s (suc n) (take_after u m)

-- s holds layer l and all above it
abbrev pub HoldsFrom : List ℕ → ℕ → Type 0
HoldsFrom s l = (k i : ℕ) → l ≤ k → Position (height_of s) k i → (v : List ℕ) × Holds s k i v

-- ---- the piece to fetch

-- a count for each piece of a usable store's file
pub record CountEach (s counts : List ℕ) : Type 0 where
  pub store : usable s ≡ true
  pub size : length counts ≡ piece_count (file_length s) (piece_length s)

-- piece i is on disk: every block that it covers is marked
abbrev pub OnDisk : List ℕ → ℕ → Type 0
OnDisk s i = (j : ℕ) → Covers s i j → marked_answer s j ≡ done 1

-- piece i is one to fetch: a piece of the file whose count is above zero, and that is not on disk
pub record ToFetch (s counts : List ℕ) (i : ℕ) : Type 0 where
  pub in_file : i < piece_count (file_length s) (piece_length s)
  pub some : 0 < get_or counts i 0
  pub lacking : OnDisk s i → ⊥

-- of those to fetch none has a smaller count, and none before it the same
pub record Rarest (s counts : List ℕ) (i : ℕ) : Type 0 where
  pub fetch : ToFetch s counts i
  pub least : (j : ℕ) → ToFetch s counts j → get_or counts i 0 ≤ get_or counts j 0
  pub lowest : (j : ℕ) → j < i → ToFetch s counts j → get_or counts i 0 < get_or counts j 0

-- what is picked: nothing, and then there is no piece to fetch; or the rarest
pub data Picked (s counts : List ℕ) : Type 0 where
  nothing_left : pick_answer s counts ≡ no_piece 0 → ((i : ℕ) → ToFetch s counts i → ⊥) → Picked s counts
  rarest : (i : ℕ) → pick_answer s counts ≡ this_piece i → Rarest s counts i → Picked s counts

-- how many numbers below n pass a test
unfoldable pub count_below : (ℕ → Bool) → ℕ → ℕ
count_below f zero = 0
count_below f (suc n) = count_below f n + one_if (f n)

-- how many pieces of the file are not on disk
abbrev pub not_on_disk : List ℕ → ℕ
not_on_disk s = count_below (λ i. not (piece_marked s i)) (piece_count (file_length s) (piece_length s))

-- a history without a clearing that is answered 0: no mark goes back in it
pub data KeepsMarks {s : List ℕ} : (t : List ℕ) → Steps s t → Type 0 where
  unmoved : KeepsMarks s begin
  called : {t : List ℕ} {h : Steps s t} (c : Call) (x : Opening c → number c t ≡ 0 → ⊥) → KeepsMarks t h → ((j : ℕ) → Clears j c → number c t ≡ 0 → ⊥)
      → KeepsMarks (after c t) (next h (call c x))
  relent : {t : List ℕ} {h : Steps s t} (v : List ℕ) (b : Bytes v) (e : SameStore t v) → KeepsMarks t h → KeepsMarks v (next h (lent v b e))

-- from s to t n pieces were picked, one after the other and by whatever counts, and each was then judged right, by the v2 hash or by both of a
-- hybrid; no mark was cleared
pub data Fetched (s : List ℕ) : ℕ → List ℕ → Type 0 where
  unpicked : Fetched s 0 s
  between : {n : ℕ} {t u : List ℕ} {h : Steps t u} → Fetched s n t → KeepsMarks u h → Fetched s n u
  judged_right : {n : ℕ} {t u : List ℕ} {h : Steps t u} (counts : List ℕ) (i : ℕ) (piece : List ℕ) → Bytes piece → Fetched s n t → CountEach t counts
      → pick_answer t counts ≡ this_piece i → KeepsMarks u h → (piece_answer u i piece).number ≡ 0 → Fetched s (suc n) (piece_after u i piece)
  judged_by_both : {n : ℕ} {t u : List ℕ} {h : Steps t u} (counts : List ℕ) (i : ℕ) (piece v1 : List ℕ) (zeros : ℕ) → Bytes piece → Fetched s n t → CountEach t counts
      → pick_answer t counts ≡ this_piece i → KeepsMarks u h → (hybrid_answer u i piece v1 zeros).number ≡ 0 → Fetched s (suc n) (hybrid_after u i piece v1 zeros)

-- s is usable, t has its room, its facts and its marks: they differ in hashes, and behind the store
pub record SameButHashes (s t : List ℕ) : Type 0 where
  pub store : usable s ≡ true
  pub room : store_size (file_length s) ≤ length t
  pub facts : fact_bytes t ≡ fact_bytes s
  pub marks : cut t (marks_start s) (2 ^ height_of s) ≡ cut s (marks_start s) (2 ^ height_of s)

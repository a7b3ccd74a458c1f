-- 00, demand 3: what happens to one store "from one opening to the next, through any messages and layer loads and with no other
-- hand in its bytes". 02, request 13: loading a save and repairing one count as openings.
-- Assumes nothing.
use Prim.{Unit}
use Rattle.std.specs.Prelude.{◌≡◌, true, List, ℕ, length}
use Rattle.octets.specs.Octets.{Octets, cut}
use Rattle.numbers.specs.declared.Answer.{Answer}
use Rattle.sha256.specs.declared.Hashed.{Hashed}
use Rattle.store.specs.Store.{file_length, store_size, usable, open_answer, open_after, held_answer}
use Rattle.facts.specs.Facts.{FactsRead}
use Rattle.facts.specs.Facts.{facts_answer}
use Rattle.messages.specs.Take.{take_answer, take_after, reject_answer}
use Rattle.serve.specs.Serve.{serve_answer, serve_after}
use Rattle.pieces.specs.Pieces.{layer_answer, layer_after, block_answer, block_after, piece_answer, piece_after}
use Rattle.pieces.specs.Hybrid.{hybrid_answer, hybrid_after}
use Rattle.asking.specs.declared.next.Request.{Request}
use Rattle.asking.specs.declared.pick.Choice.{Choice}
use Rattle.asking.specs.Asking.{next_answer}
use Rattle.asking.specs.Picking.{pick_answer}
use Rattle.extends.specs.Extends.{extends_answer}
use Rattle.marks.specs.Marks.{clear_answer, clear_after, marked_answer, field_answer, field_after}
use Rattle.leaves.specs.Leaves.{leaves_answer, leaves_after}
use Rattle.saved.specs.Save.{save_answer, save_after}
use Rattle.saved.specs.Saved.{load_answer, load_after, repair_answer, repair_after}
use Rattle.saved.specs.declared.repair.Repaired.{Repaired}

-- a string of bytes, of whatever length
abbrev pub Bytes : List ℕ → Type 0
Bytes l = Octets (length l) l

-- ---- the calls

-- calls that only look at a store and fill no other memory, each with what else it is given
pub data Ask : Type 0 where
  -- kd_held: a layer and an index
  held : (l i : ℕ) → Ask
  -- kd_take_reject: a reject that came in
  take_reject : (m : List ℕ) → Bytes m → Ask
  -- kd_marked: a block's number
  is_marked : (i : ℕ) → Ask
  -- kd_next_request: a layer; kd_pick_piece: a count for each piece
  next_request : (l : ℕ) → Ask
  pick_piece : (counts : List ℕ) → Ask
  -- kd_extends: an earlier file's length and pieces root, and the block over its end
  begins_with : (n : ℕ) (root block : List ℕ) → Octets 32 root → Bytes block → Ask
  -- kd_facts
  the_facts : Ask

-- calls that only look at a store, and fill an output apart from it
pub data Send : Type 0 where
  -- kd_serve: a request
  serve : (m : List ℕ) → Bytes m → Send
  -- kd_bitfield
  bitfield : Send
  -- kd_save
  save : Send
  -- kd_piece_hashes: a piece and its number
  piece_hashes : (i : ℕ) (piece : List ℕ) → Bytes piece → Send

-- calls that only look at a store: they are lent it as `&`
pub data Look : Type 0 where
  ask : Ask → Look
  send : Send → (out : List ℕ) → Bytes out → Look

-- the calls of the interface that take a store
pub data Call : Type 0 where
  -- kd_take: a hashes message
  take : (m : List ℕ) → Bytes m → Call
  -- kd_load_layer: a piece layer
  load_layer : (layer : List ℕ) → Bytes layer → Call
  -- kd_judge_block, kd_judge_piece: a block or a piece and its number
  judge_block : (i : ℕ) (block : List ℕ) → Bytes block → Call
  judge_piece : (i : ℕ) (piece : List ℕ) → Bytes piece → Call
  -- kd_judge_hybrid_piece: a piece and its number, its v1 hash, and how many zeros behind it that hash covers
  judge_hybrid_piece : (i : ℕ) (piece v1 : List ℕ) (zeros : ℕ) → Bytes piece → Octets 20 v1 → Call
  -- kd_clear: a block's number
  clear : (i : ℕ) → Call
  -- kd_open, of bytes that may be a store already: a file's length, a piece length and a pieces root
  reopen : (n plen : ℕ) (root : List ℕ) → Octets 32 root → Call
  -- kd_load, kd_repair, into bytes that may be a store already: saved bytes
  load : (saved : List ℕ) → Bytes saved → Call
  repair : (saved : List ℕ) → Bytes saved → Call
  -- one that only looks
  look : Look → Call

-- what a call answers: a number with a count or a size, with a hash, with a request, with a piece's number, with the two counts of a repair,
-- with a store's facts
pub data Reply : Type 0 where
  with_count : Answer → Reply
  with_hash : Hashed → Reply
  with_request : Request → Reply
  with_piece : Choice → Reply
  with_counts : Repaired → Reply
  with_facts : FactsRead → Reply

abbrev pub reply_number : Reply → ℕ
reply_number (with_count a) = a.number
reply_number (with_hash h) = h.number
reply_number (with_request r) = r.number
reply_number (with_piece c) = c.number
reply_number (with_counts r) = r.number
reply_number (with_facts f) = f.number

-- what a call answers that takes the bytes s as its store
abbrev pub asked : Ask → List ℕ → Reply
asked (held l i) s = with_hash (held_answer s l i)
asked (take_reject m b) s = with_count (reject_answer s m)
asked (is_marked i) s = with_count (marked_answer s i)
asked (next_request l) s = with_request (next_answer s l)
asked (pick_piece counts) s = with_piece (pick_answer s counts)
asked (begins_with n root block o b) s = with_count (extends_answer s n root block)
asked the_facts s = with_facts (facts_answer s)

abbrev pub send_reply : Send → List ℕ → List ℕ → Reply
send_reply (serve m b) s out = with_count (serve_answer s m out)
send_reply bitfield s out = with_count (field_answer s out)
send_reply save s out = with_count (save_answer s out)
send_reply (piece_hashes i d b) s out = with_count (leaves_answer s i d out)

abbrev pub looked : Look → List ℕ → Reply
looked (ask k) s = asked k s
looked (send k out b) s = send_reply k s out

abbrev pub answer : Call → List ℕ → Reply
answer (take m b) s = with_count (take_answer s m)
answer (load_layer l b) s = with_count (layer_answer s l)
answer (judge_block i d b) s = with_count (block_answer s i d)
answer (judge_piece i d b) s = with_count (piece_answer s i d)
answer (judge_hybrid_piece i d v z b o) s = with_count (hybrid_answer s i d v z)
answer (clear i) s = with_count (clear_answer s i)
answer (reopen n plen root o) s = with_count (open_answer s n plen)
answer (load b x) s = with_count (load_answer s b)
answer (repair b x) s = with_counts (repair_answer s b)
answer (look k) s = looked k s

abbrev pub number : Call → List ℕ → ℕ
number c s = reply_number (answer c s)

-- what it leaves in those bytes
abbrev pub after : Call → List ℕ → List ℕ
after (take m b) s = take_after s m
after (load_layer l b) s = layer_after s l
after (judge_block i d b) s = block_after s i d
after (judge_piece i d b) s = piece_after s i d
after (judge_hybrid_piece i d v z b o) s = hybrid_after s i d v z
after (clear i) s = clear_after s i
after (reopen n plen root o) s = open_after s n plen root
after (load b x) s = load_after s b
after (repair b x) s = repair_after s b
after (look k) s = s

-- and in the output that it fills
abbrev pub sent_to : Send → List ℕ → List ℕ → List ℕ
sent_to (serve m b) s out = serve_after s m out
sent_to bitfield s out = field_after s out
sent_to save s out = save_after s out
sent_to (piece_hashes i d b) s out = leaves_after s i d out

-- it is an opening: loading and repairing count as one
abbrev pub Opening : Call → Type 0
Opening (take m b) = ⊥
Opening (load_layer l b) = ⊥
Opening (judge_block i d b) = ⊥
Opening (judge_piece i d b) = ⊥
Opening (judge_hybrid_piece i d v z b o) = ⊥
Opening (clear i) = ⊥
Opening (reopen n plen root o) = Unit {0}
Opening (load b x) = Unit {0}
Opening (repair b x) = Unit {0}
Opening (look k) = ⊥

-- it can make a hash held: a hashes message, a layer, an opening
abbrev pub Teaches : Call → Type 0
Teaches (take m b) = Unit {0}
Teaches (load_layer l b) = Unit {0}
Teaches (judge_block i d b) = ⊥
Teaches (judge_piece i d b) = ⊥
Teaches (judge_hybrid_piece i d v z b o) = ⊥
Teaches (clear i) = ⊥
Teaches (reopen n plen root o) = Unit {0}
Teaches (load b x) = Unit {0}
Teaches (repair b x) = Unit {0}
Teaches (look k) = ⊥

-- ---- histories

-- s and t are the same store: s is usable, and t has its bytes up to the store's size
pub record SameStore (s t : List ℕ) : Type 0 where
  pub store : usable s ≡ true
  pub bytes : cut t 0 (store_size (file_length s)) ≡ cut s 0 (store_size (file_length s))

-- one step from the bytes s to the bytes t
pub data Step (s : List ℕ) : List ℕ → Type 0 where
  -- any call, whatever it answers; only an opening that is answered 0 begins another history
  call : (c : Call) → (Opening c → number c s ≡ 0 → ⊥) → Step s (after c s)
  -- a store is its own bytes only: the host may change the bytes behind them, or lend a longer or a shorter memory at the next call
  lent : (t : List ℕ) → Bytes t → SameStore s t → Step s t

-- any number of steps from s to t
pub data Steps (s : List ℕ) : List ℕ → Type 0 where
  begin : Steps s s
  next : {t u : List ℕ} → Steps s t → Step t u → Steps s u

-- what an opening, a load or a repair leaves that is answered 0, whatever the buffer held before
pub data Begins : List ℕ → Type 0 where
  by_opening : (b : List ℕ) (n plen : ℕ) (root : List ℕ) → Bytes b → Octets 32 root → (open_answer b n plen).number ≡ 0 → Begins (open_after b n plen root)
  by_loading : (b saved : List ℕ) → Bytes b → Bytes saved → (load_answer b saved).number ≡ 0 → Begins (load_after b saved)
  by_repairing : (b saved : List ℕ) → Bytes b → Bytes saved → (repair_answer b saved).number ≡ 0 → Begins (repair_after b saved)

-- the bytes of a store that only this build has written: begun by us, and changed since by our calls that take it as their store. It is a
-- statement about what happened: filling it as an output is no step.
pub data OurStore (t : List ℕ) : Type 0 where
  ours : {s : List ℕ} → Begins s → Steps s t → OurStore t

-- each call of a history is one of these calls
pub data Each (C : Call → Type 0) {s : List ℕ} : (t : List ℕ) → Steps s t → Type 0 where
  nothing : Each C s begin
  called : {t : List ℕ} {h : Steps s t} (c : Call) (x : Opening c → number c t ≡ 0 → ⊥) → Each C t h → C c → Each C (after c t) (next h (call c x))
  between : {t : List ℕ} {h : Steps s t} (v : List ℕ) (b : Bytes v) (e : SameStore t v) → Each C t h → Each C v (next h (lent v b e))

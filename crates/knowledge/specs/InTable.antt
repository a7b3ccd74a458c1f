-- Demand 1: each number is in the table; a refusal leaves every byte of the store, and beside it every count, size and value is zero.
-- Assumes nothing.
use Rattle.std.specs.Prelude.{◌≡◌, refl, Bool, true, cond, List, ◌⊎◌, ℕ, suc, length, eqb, leb, ltb}
use Rattle.std.proofs.Common.{ap, sym, subst, inl, inr, arith, ne_eqb}
use Rattle.std.proofs.Math.Bool.{false}
use Rattle.std.proofs.Math.Decide.{ℕ_discrete}
use Rattle.octets.specs.Octets.{zero_hash}
use Rattle.numbers.specs.Numbers.{table, InTable, refused, done}
use Rattle.numbers.specs.Chain.{listed_in, in_table_of}
use Rattle.limits.specs.Limits.{longest_hashed}
use Rattle.numbers.specs.declared.Answer.{Answer}
use Rattle.sha256.specs.Sha256.{sha256}
use Rattle.sha256.specs.Answer.{hashed_of}
use Rattle.sha256.specs.declared.Hashed.{Hashed}
use Rattle.tree.specs.Geometry.{node_number}
use Rattle.cells.specs.Cells.{held_at, hash_at}
use Rattle.store.specs.Store.{usable, height_of, facts_in_range, store_size, in_tree, no_hash, size_answer, held_answer}
use Rattle.messages.specs.Take.{take_answer, reject_answer}
use Rattle.serve.specs.Serve.{serve_answer}
use Rattle.pieces.specs.Pieces.{layer_answer, block_answer, piece_answer}
use Rattle.pieces.proofs.MarkedLaws.{block_stays, piece_stays}
use Rattle.pieces.specs.Hybrid.{hybrid_answer}
use Rattle.pieces.proofs.HybridLaws.{hybrid_in_table, hybrid_stays}
use Rattle.facts.specs.FactsLaws.{facts_in_table, facts_zeros}
use Rattle.marks.specs.Marks.{block_there, clear_answer, marked_answer, field_size, field_answer}
use Rattle.saved.specs.Form.{saved_bytes}
use Rattle.saved.specs.Save.{saved_of, save_answer}
use Rattle.saved.specs.Saved.{sound, rooted, load_number, load_answer, repair_number, repair_answer}
use Rattle.knowledge.specs.Through.{clear_stays, load_stays, repair_stays}
use Rattle.words.specs.Held.{Holds}
use Rattle.words.specs.Messages.{Rejected}
use Rattle.words.specs.History.{Bytes, Ask, held, take_reject, is_marked, next_request, pick_piece, the_facts, begins_with, Send, serve, bitfield, Look, ask, send, Call, take, load_layer, judge_block, judge_piece, judge_hybrid_piece, clear, reopen, look, with_count, reply_number, asked, send_reply, looked, answer, number, after, Opening, call, begin, next, save, piece_hashes, load, repair}
use Rattle.words.specs.Answers.{ServeOutcome, replied, rejected, untouched, Zeros, Beside, reject, zeros}
use Rattle.knowledge.specs.Again.{knowledge_only_grows}
use Rattle.knowledge.specs.Refusals.{opening_refused, message_refused, layer_not_loaded, served}
use Rattle.knowledge.specs.YoungerNumbers.{extends_in_table, extends_beside}
use Rattle.knowledge.specs.LeavesNumbers.{leaves_in_table, leaves_leave}
use Rattle.knowledge.specs.AskingNumbers.{next_in_table, next_beside, pick_in_table, pick_beside}
use Rattle.knowledge.specs.NumberChains.{hash_chain, hash_tests, size_chain, size_tests, open_chain, open_tests, held_chain, held_tests, take_chain, take_tests, reject_chain, reject_tests, layer_chain, layer_tests, block_chain, block_tests, piece_chain, piece_tests, there_chain, there_tests, field_chain, field_tests, save_chain, save_tests, saved_chain, load_tests, repair_tests}

-- ---- the number of each entry point is in the table

-- kd_sha256
pub hash_in_table : (m : List ℕ) → InTable (hashed_of m).number
hash_in_table m = in_table_of (hash_chain m) (hash_tests m) refl

-- kd_store_size
pub size_in_table : (n plen : ℕ) → InTable (size_answer n plen).number
size_in_table n plen = in_table_of (size_chain n plen) (size_tests n plen) refl

-- kd_take
take_in_table : (s m : List ℕ) → InTable (take_answer s m).number
unfolding take_answer
take_in_table s m = in_table_of (take_chain s m) (take_tests s m) refl

-- kd_serve
serve_in_table : (s m out : List ℕ) → InTable (serve_answer s m out).number
serve_in_table s m out = by (served s m out)
  where
    rejected_in : (n : ℕ) → Rejected n → InTable n
    rejected_in n (inl e) = rw e (listed_in 2 table refl)
    rejected_in n (inr (inl e)) = rw e (listed_in 3 table refl)
    rejected_in n (inr (inr e)) = rw e (listed_in 12 table refl)

    silent_in : (n : ℕ) → (n ≡ 9) ⊎ ((n ≡ 1) ⊎ (n ≡ 11)) → InTable n
    silent_in n (inl e) = rw e (listed_in 9 table refl)
    silent_in n (inr (inl e)) = rw e (listed_in 1 table refl)
    silent_in n (inr (inr e)) = rw e (listed_in 11 table refl)

    by : ServeOutcome s m out → InTable (serve_answer s m out).number
    by (replied e a) = rw e (listed_in 0 table refl)
    by (rejected n c e a) = rw e (rejected_in n c)
    by (untouched n c e a) = rw e (silent_in n c)

-- kd_load_layer, kd_judge_block, kd_judge_piece, kd_judge_hybrid_piece
layer_in_table : (s layer : List ℕ) → InTable (layer_answer s layer).number
unfolding layer_answer
layer_in_table s layer = in_table_of (layer_chain s layer) (layer_tests s layer) refl

block_in_table : (s : List ℕ) (i : ℕ) (block : List ℕ) → InTable (block_answer s i block).number
unfolding block_answer
block_in_table s i block = in_table_of (block_chain s i block) (block_tests s i block) refl

piece_in_table : (s : List ℕ) (i : ℕ) (piece : List ℕ) → InTable (piece_answer s i piece).number
unfolding piece_answer
piece_in_table s i piece = in_table_of (piece_chain s i piece) (piece_tests s i piece) refl

both_in_table : (s : List ℕ) (i : ℕ) (piece v1 : List ℕ) (z : ℕ) → InTable (hybrid_answer s i piece v1 z).number
unfolding piece_answer hybrid_answer
both_in_table s i piece v1 z = hybrid_in_table s i piece v1 z (piece_in_table s i piece)

-- kd_clear, kd_marked
there_in_table : (s : List ℕ) (i : ℕ) → InTable (block_there s i)
there_in_table s i = in_table_of (there_chain s i) (there_tests s i) refl

-- ---- beside a refusal every value is zero

-- kd_marked: the count is 0
no_mark : (s : List ℕ) (i : ℕ) → ((marked_answer s i).number ≡ 0 → ⊥) → (marked_answer s i).count ≡ 0
unfolding marked_answer
no_mark s i ne = rw (ne_eqb (block_there s i) 0 ne)

-- kd_bitfield: the size is 0
no_field : (s out : List ℕ) → ((field_answer s out).number ≡ 0 → ⊥) → (field_answer s out).count ≡ 0
unfolding field_answer
no_field s out = by (usable s) (leb (field_size s) (length out)) (field_size s)
  where
    by : (a b : Bool) (n : ℕ) → ((cond a (cond b (done n) (refused 11)) (refused 9)).number ≡ 0 → ⊥) → (cond a (cond b (done n) (refused 11)) (refused 9)).count ≡ 0
    by true true n ne = absurd (ne refl)
    by true false n ne = refl
    by false b n ne = refl

-- kd_save: the size is 0
no_save : (s out : List ℕ) → ((save_answer s out).number ≡ 0 → ⊥) → (save_answer s out).count ≡ 0
unfolding save_answer
no_save s out = by (usable s) (leb (length (saved_bytes (saved_of s))) (length out)) (length (saved_bytes (saved_of s)))
  where
    by : (a b : Bool) (n : ℕ) → ((cond a (cond b (done n) (refused 11)) (refused 9)).number ≡ 0 → ⊥) → (cond a (cond b (done n) (refused 11)) (refused 9)).count ≡ 0
    by true true n ne = absurd (ne refl)
    by true false n ne = refl
    by false b n ne = refl

-- kd_load: the count is 0
no_load : (s b : List ℕ) → ((load_answer s b).number ≡ 0 → ⊥) → (load_answer s b).count ≡ 0
no_load s b ne = by (eqb (load_number s b) 0) refl
  where
    by : (x : Bool) → eqb (load_number s b) 0 ≡ x → (load_answer s b).count ≡ 0
    by true e = absurd (ne (unfold load_answer in rw e))
    by false e = unfold load_answer in rw e

-- kd_repair: both counts are 0
no_repair : (s b : List ℕ) → ((repair_answer s b).number ≡ 0 → ⊥) → ((repair_answer s b).dropped ≡ 0) × ((repair_answer s b).held ≡ 0)
no_repair s b ne = by (eqb (repair_number s b) 0) refl
  where
    by : (x : Bool) → eqb (repair_number s b) 0 ≡ x → ((repair_answer s b).dropped ≡ 0) × ((repair_answer s b).held ≡ 0)
    by true e = absurd (ne (unfold repair_answer in rw e))
    by false e = unfold repair_answer in rw e (refl, refl)

-- kd_sha256: the hash is 32 zero bytes
pub no_hash_beside_4 : (m : List ℕ) → ((hashed_of m).number ≡ 0 → ⊥) → (hashed_of m).hash ≡ zero_hash
unfolding hashed_of
no_hash_beside_4 m = by (ltb (length m) (suc longest_hashed))
  where
    by : (b : Bool) → ((cond {A = Hashed} b (record { number = 0; hash = sha256 m }) (record { number = 4; hash = zero_hash })).number ≡ 0 → ⊥)
        → (cond {A = Hashed} b (record { number = 0; hash = sha256 m }) (record { number = 4; hash = zero_hash })).hash ≡ zero_hash
    by true ne = absurd (ne refl)
    by false ne = refl

-- kd_store_size: the size is 0
pub no_size_beside_10 : (n plen : ℕ) → ((size_answer n plen).number ≡ 0 → ⊥) → (size_answer n plen).count ≡ 0
unfolding size_answer
no_size_beside_10 n plen = by (facts_in_range n plen)
  where
    by : (b : Bool) → ((cond b (record { number = 0; count = store_size n }) (refused 10)).number ≡ 0 → ⊥) → (cond b (record { number = 0; count = store_size n }) (refused 10)).count ≡ 0
    by true ne = absurd (ne refl)
    by false ne = refl

-- kd_held: the hash is 32 zero bytes
no_hash_lem : (s : List ℕ) (l i : ℕ) → ((held_answer s l i).number ≡ 0 → ⊥) → (held_answer s l i).hash ≡ zero_hash
unfolding held_answer
no_hash_lem s l i = by (usable s) (in_tree (height_of s) l i) (held_at s (node_number (height_of s) l i)) (hash_at s (node_number (height_of s) l i))
  where
    by : (a b c : Bool) (v : List ℕ) → ((cond {A = Hashed} a (cond b (cond c (record { number = 0; hash = v }) (no_hash 6)) (no_hash 3)) (no_hash 9)).number ≡ 0 → ⊥)
        → (cond {A = Hashed} a (cond b (cond c (record { number = 0; hash = v }) (no_hash 6)) (no_hash 3)) (no_hash 9)).hash ≡ zero_hash
    by true true true v ne = absurd (ne refl)
    by true true false v ne = refl
    by true false c v ne = refl
    by false b c v ne = refl

-- ---- by call

-- every call's number is in the table
asked_in_table : (k : Ask) (s : List ℕ) → InTable (reply_number (asked k s))
unfolding marked_answer
asked_in_table (held l i) s = in_table_of (held_chain s l i) (held_tests s l i) refl
asked_in_table (take_reject m b) s = in_table_of (reject_chain s m) (reject_tests s m) refl
asked_in_table (is_marked i) s = there_in_table s i
asked_in_table (next_request l) s = next_in_table s l
asked_in_table (pick_piece counts) s = pick_in_table s counts
asked_in_table (begins_with n root block o b) s = extends_in_table s n root block
asked_in_table the_facts s = facts_in_table s

send_in_table : (k : Send) (s out : List ℕ) → InTable (reply_number (send_reply k s out))
send_in_table (serve m b) s out = serve_in_table s m out
send_in_table bitfield s out = in_table_of (field_chain s out) (field_tests s out) refl
send_in_table save s out = in_table_of (save_chain s out) (save_tests s out) refl
send_in_table (piece_hashes i d b) s out = leaves_in_table s i d out

look_in_table : (k : Look) (s : List ℕ) → InTable (reply_number (looked k s))
look_in_table (ask k) s = asked_in_table k s
look_in_table (send k out b) s = send_in_table k s out

pub call_in_table : (c : Call) (s : List ℕ) → InTable (number c s)
unfolding clear_answer
call_in_table (take m b) s = take_in_table s m
call_in_table (load_layer l b) s = layer_in_table s l
call_in_table (judge_block i d b) s = block_in_table s i d
call_in_table (judge_piece i d b) s = piece_in_table s i d
call_in_table (judge_hybrid_piece i d v z b o) s = both_in_table s i d v z
call_in_table (clear i) s = there_in_table s i
call_in_table (reopen n plen root o) s = in_table_of (open_chain s n plen) (open_tests s n plen) refl
call_in_table (load b x) s = in_table_of (saved_chain (sound b) s b) (load_tests s b) refl
call_in_table (repair b x) s = in_table_of (saved_chain (rooted b) s b) (repair_tests s b) refl
call_in_table (look k) s = look_in_table k s

-- a refusal leaves every byte of the store
pub refused_leaves : (c : Call) (s : List ℕ) → (number c s ≡ 0 → ⊥) → after c s ≡ s
unfolding block_answer piece_answer hybrid_answer clear_answer
refused_leaves (take m b) s ne = (message_refused s m ne).0
refused_leaves (load_layer l b) s ne = (layer_not_loaded s l ne).0
refused_leaves (judge_block i d b) s ne = block_stays s i d ne
refused_leaves (judge_piece i d b) s ne = piece_stays s i d ne
refused_leaves (judge_hybrid_piece i d v z b o) s ne = hybrid_stays s i d v z ne
refused_leaves (clear i) s ne = clear_stays s i ne
refused_leaves (reopen n plen root o) s ne = (opening_refused s n plen root ne).0
refused_leaves (load b x) s ne = load_stays s b ne
refused_leaves (repair b x) s ne = repair_stays s b ne
refused_leaves (look k) s ne = refl

-- 9, 1 and 11 are given without a reject
no_reject : (n : ℕ) → (n ≡ 9) ⊎ ((n ≡ 1) ⊎ (n ≡ 11)) → Rejected n → ⊥
no_reject n (inl p) (inl q) = omega arith
no_reject n (inl p) (inr (inl q)) = omega arith
no_reject n (inl p) (inr (inr q)) = omega arith
no_reject n (inr (inl p)) (inl q) = omega arith
no_reject n (inr (inl p)) (inr (inl q)) = omega arith
no_reject n (inr (inl p)) (inr (inr q)) = omega arith
no_reject n (inr (inr p)) (inl q) = omega arith
no_reject n (inr (inr p)) (inr (inl q)) = omega arith
no_reject n (inr (inr p)) (inr (inr q)) = omega arith

-- and beside it every count, size and value is zero, but for a reject's
asked_zeros : (k : Ask) (s : List ℕ) → (reply_number (asked k s) ≡ 0 → ⊥) → Zeros (asked k s)
unfolding reject_answer
asked_zeros (held l i) s ne = no_hash_lem s l i ne
asked_zeros (take_reject m b) s ne = refl
asked_zeros (is_marked i) s ne = no_mark s i ne
asked_zeros (next_request l) s ne = next_beside s l ne
asked_zeros (pick_piece counts) s ne = pick_beside s counts ne
asked_zeros (begins_with n root block o b) s ne = extends_beside s n root block ne
asked_zeros the_facts s ne = facts_zeros s ne

send_beside : (k : Send) (s out : List ℕ) (y : Bytes out) → (reply_number (send_reply k s out) ≡ 0 → ⊥) → Beside (look (send k out y)) (send_reply k s out)
send_beside (serve m b) s out y ne = by (served s m out)
  where
    by : ServeOutcome s m out → Beside (look (send (serve m b) out y)) (with_count (serve_answer s m out))
    by (replied e a) = absurd (ne (ap (λ (x : Answer). x.number) e))
    by (rejected n r e a) = reject {c = look (send (serve m b) out y)} {a = serve_answer s m out} (rw e r) (ap (λ (x : Answer). x.count) e)
    by (untouched n r e a) = zeros (λ w. no_reject n r (subst Rejected (ap (λ (x : Answer). x.number) e) w)) (ap (λ (x : Answer). x.count) e)
send_beside bitfield s out y ne = zeros (λ w. w) (no_field s out ne)
send_beside save s out y ne = zeros (λ w. w) (no_save s out ne)
send_beside (piece_hashes i d b) s out y ne = zeros (λ w. w) (leaves_leave s i d out ne).1

pub beside_refusal : (c : Call) (s : List ℕ) → (number c s ≡ 0 → ⊥) → Beside c (answer c s)
unfolding block_answer piece_answer hybrid_answer clear_answer
beside_refusal (take m b) s ne = zeros (λ w. w) (message_refused s m ne).1
beside_refusal (load_layer l b) s ne = zeros (λ w. w) (layer_not_loaded s l ne).1
beside_refusal (judge_block i d b) s ne = zeros (λ w. w) refl
beside_refusal (judge_piece i d b) s ne = zeros (λ w. w) refl
beside_refusal (judge_hybrid_piece i d v z b o) s ne = zeros (λ w. w) refl
beside_refusal (clear i) s ne = zeros (λ w. w) refl
beside_refusal (reopen n plen root o) s ne = zeros (λ w. w) (opening_refused s n plen root ne).1
beside_refusal (load b x) s ne = zeros (λ w. w) (no_load s b ne)
beside_refusal (repair b x) s ne = zeros (λ w. w) (no_repair s b ne)
beside_refusal (look (ask k)) s ne = zeros (λ w. w) (asked_zeros k s ne)
beside_refusal (look (send k out b)) s ne = send_beside k s out b ne

-- ---- what is lost

-- A HELD HASH IS LOST only by an opening, a load or a repair that is answered 0
pub lost_only : (s : List ℕ) (c : Call) (l i : ℕ) (v : List ℕ) → Holds s l i v → (Holds (after c s) l i v → ⊥) → Opening c × (number c s ≡ 0)
lost_only s c l i v h gone =
    elim (ℕ_discrete (number c s) 0) [
      | no ne ↦ absurd (gone (subst (λ (t : List ℕ). Holds t l i v) (sym (refused_leaves c s ne)) h))
      | yes z ↦ (by c gone, z)
    ]
  where
    stays : (c : Call) → (Opening c → ⊥) → Holds (after c s) l i v
    stays c x = knowledge_only_grows (next begin (call c (λ o z. x o))) l i v h

    by : (c : Call) → (Holds (after c s) l i v → ⊥) → Opening c
    by (take a b) k = absurd (k (stays (take a b) (λ x. x)))
    by (load_layer d b) k = absurd (k (stays (load_layer d b) (λ x. x)))
    by (judge_block i d b) k = absurd (k (stays (judge_block i d b) (λ x. x)))
    by (judge_piece i d b) k = absurd (k (stays (judge_piece i d b) (λ x. x)))
    by (judge_hybrid_piece i d v z b o) k = absurd (k (stays (judge_hybrid_piece i d v z b o) (λ x. x)))
    by (clear i) k = absurd (k (stays (clear i) (λ x. x)))
    by (reopen n plen root o) k = tt
    by (load b o) k = tt
    by (repair b o) k = tt
    by (look d) k = absurd (k (stays (look d) (λ x. x)))

-- 00, demand 1, sentence by sentence. Its words: crates/words, files History (the calls), Answers (the table).
-- (The torrent calls: crates/calls and crates/writer_promises. The calls that take bursts: Running.)
-- Assumes nothing.
use Rattle.std.specs.Prelude.{◌≡◌, true, false, List, ◌↔◌, ℕ, ◌≤◌, get_or}
use Rattle.octets.specs.Octets.{zero_hash}
use Rattle.numbers.specs.Numbers.{unusable, InTable}
use Rattle.sha256.specs.Answer.{hashed_of}
use Rattle.store.specs.Store.{usable, file_length, store_size, size_answer}
use Rattle.words.specs.History.{Ask, held, take_reject, is_marked, next_request, pick_piece, begins_with, the_facts, Send, serve, bitfield, save, piece_hashes, ask, send, Call, take, load_layer, judge_block, judge_piece, judge_hybrid_piece, clear, reopen, load, repair, look, reply_number, asked, send_reply, answer, number, after, sent_to, Opening, SameStore}
use Rattle.words.specs.Answers.{Beside, ServeOutcome}
use Rattle.promises.specs.EachNumber.{facts_9, held_9, take_9, reject_9, serve_9, layer_9, block_9, piece_9, hybrid_9, clear_9, marked_9, field_9}
use Rattle.promises.specs.Asking.{next_9, pick_9}
use Rattle.promises.specs.Saved.{save_9}
use Rattle.promises.specs.Teaching.{leaves_9}
use Rattle.promises.specs.Younger.{extends_9}

-- "Any bytes may come in, as torrent, message, block or store." The theorems are about any lists and any numbers, and so are the contracts
-- of crates/kombudeva.

-- "Every entry point answers with a number from the table,": every call that takes a store,
pub calls_in_table : (c : Call) (s : List ℕ) → InTable (number c s)
calls_in_table = Rattle.knowledge.specs.InTable.call_in_table

-- kd_sha256,
pub sha256_in_table : (m : List ℕ) → InTable (hashed_of m).number
sha256_in_table = Rattle.knowledge.specs.InTable.hash_in_table

-- and kd_store_size
pub size_in_table : (n plen : ℕ) → InTable (size_answer n plen).number
size_in_table = Rattle.knowledge.specs.InTable.size_in_table

-- "asks nothing of its caller,": crates/contracts, read from the contracts.

-- "and on a refusal changes no byte it was lent,": of the store,
pub refusal_leaves_store : (c : Call) (s : List ℕ) → (number c s ≡ 0 → ⊥) → after c s ≡ s
refusal_leaves_store = Rattle.knowledge.specs.InTable.refused_leaves

-- "save for the reject message that a refused request gets.": of kd_serve's output. It has the reply; or the reject beside 2, 3 or 12; or
-- stays as it is. (The other outputs lent to a call on a store are kd_bitfield's, kd_save's and kd_piece_hashes': `field_refused`
-- in Marks, `save_refused` in Saved, `told_refused` in Teaching.)
pub request_answered : (s m out : List ℕ) → ServeOutcome s m out
request_answered = Rattle.knowledge.specs.Refusals.served

-- 01: "Beside a refusal every count, size and value is zero; beside a reject the size is 49."
pub beside_refusal : (c : Call) (s : List ℕ) → (number c s ≡ 0 → ⊥) → Beside c (answer c s)
beside_refusal = Rattle.knowledge.specs.InTable.beside_refusal

pub beside_sha256 : (m : List ℕ) → ((hashed_of m).number ≡ 0 → ⊥) → (hashed_of m).hash ≡ zero_hash
beside_sha256 = Rattle.knowledge.specs.InTable.no_hash_beside_4

pub beside_size : (n plen : ℕ) → ((size_answer n plen).number ≡ 0 → ⊥) → (size_answer n plen).count ≡ 0
beside_size = Rattle.knowledge.specs.InTable.no_size_beside_10

-- 9 of a call that only looks at a store,
asked_9 : (k : Ask) (s : List ℕ) → (reply_number (asked k s) ≡ unusable) ↔ (usable s ≡ false)
asked_9 (held l i) s = held_9 s l i
asked_9 (take_reject m b) s = reject_9 s m
asked_9 (is_marked i) s = marked_9 s i
asked_9 (next_request l) s = next_9 s l
asked_9 (pick_piece counts) s = pick_9 s counts
asked_9 (begins_with n root block o b) s = extends_9 s n root block
asked_9 the_facts s = facts_9 s

-- and of one that fills an output beside it
sent_9 : (k : Send) (s out : List ℕ) → (reply_number (send_reply k s out) ≡ unusable) ↔ (usable s ≡ false)
sent_9 (serve m b) s out = serve_9 s m out
sent_9 bitfield s out = field_9 s out
sent_9 save s out = save_9 s out
sent_9 (piece_hashes i d b) s out = leaves_9 s i d out

-- 01: "Any buffer, ours or not, either names such facts and has that room, or is answered 9 (opening asks only for the room). Nothing else makes a store
-- unusable.": of every call but an opening, a load and a repair. (Which buffers do: EachNumber.usable-exactly. Those three: EachNumber.open-9,
-- Saved.load-9 and Saved.repair-9.)
pub nine_exactly : (c : Call) → (Opening c → ⊥) → (s : List ℕ) → (number c s ≡ unusable) ↔ (usable s ≡ false)
nine_exactly (take m b) h s = take_9 s m
nine_exactly (load_layer l b) h s = layer_9 s l
nine_exactly (judge_block i d b) h s = block_9 s i d
nine_exactly (judge_piece i d b) h s = piece_9 s i d
nine_exactly (judge_hybrid_piece i d v z b o) h s = hybrid_9 s i d v z
nine_exactly (clear i) h s = clear_9 s i
nine_exactly (reopen n plen root o) h s = absurd (h tt)
nine_exactly (load b x) h s = absurd (h tt)
nine_exactly (repair b x) h s = absurd (h tt)
nine_exactly (look (ask k)) h s = asked_9 k s
nine_exactly (look (send k out b)) h s = sent_9 k s out

-- 01: a store "uses exactly the first 33·(2·2^h − 1) + 64 bytes", and with the marks 2^h more (the size: EachNumber.size-0): of two memories
-- that agree up to there both are usable, and every call but an opening answers the same, leaves the same store and sends the same bytes;
pub usable_there : {s t : List ℕ} → SameStore s t → usable t ≡ true
usable_there {s} {t} = Rattle.knowledge.specs.SameStore.usable_there s t

pub behind_decides_nothing : {s t : List ℕ} → SameStore s t → (c : Call) → (Opening c → ⊥) → answer c t ≡ answer c s
behind_decides_nothing {s} {t} = Rattle.knowledge.specs.SameStore.answers_alike s t

pub same_store_left : {s t : List ℕ} → SameStore s t → (c : Call) → (Opening c → ⊥) → SameStore (after c s) (after c t)
same_store_left {s} {t} = Rattle.knowledge.specs.SameStore.leaves_same s t

pub same_bytes_sent : {s t : List ℕ} → SameStore s t → (k : Send) (out : List ℕ) → sent_to k t out ≡ sent_to k s out
same_bytes_sent {s} {t} = Rattle.knowledge.specs.SameStore.sends_alike s t

-- and the bytes behind stay
pub behind_stays : (s : List ℕ) → usable s ≡ true → (c : Call) → (Opening c → ⊥) → (i : ℕ) → store_size (file_length s) ≤ i → get_or (after c s) i 0 ≡ get_or s i 0
behind_stays = Rattle.knowledge.specs.SameStore.behind_stays

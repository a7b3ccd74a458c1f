-- 00, demand 1, over all entry points at once. Its words: Entries (the calls, what they are lent), and crates/words, file Answers (the table).
-- By groups of entry points: crates/promises, files Demand1, Marks and Running; crates/calls and crates/writer_promises.
-- Assumes nothing.
use Rattle.std.specs.Prelude.{◌≡◌, refl, List, [], ◌∷◌, ◌⊎◌, ℕ, zero, suc, ◌+◌, ◌≤◌, ◌<◌, length}
use Rattle.std.proofs.Common.{ap, ap₂, inl, inr, arith}
use Rattle.std.proofs.Math.Decide.{ℕ_discrete}
use Rattle.octets.specs.Octets.{pasted}
use Rattle.numbers.specs.Numbers.{rule_broken, wrong_size, no_room, halves_differ, table, Listed, first, later, InTable}
use Rattle.numbers.specs.Chain.{listed_in}
use Rattle.numbers.specs.declared.Answer.{Answer}
use Rattle.frames.specs.WriterLaws.{frame_in_table, answer_number, frame_refusal}
use Rattle.frames.specs.FramesLaws.{bytes_of}
use Rattle.stream.specs.AnswerLaws.{hear_in_table, hear_refusal, refusal_leaves_room}
use Rattle.sha_1.specs.AnswerLaws.{sha1_in_table, beside_sha1}
use Rattle.header.specs.Header.{header_size, request_id}
use Rattle.serve.specs.Serve.{serve_answer, serve_after, reject_to}
use Rattle.serve.specs.ServeLaws.{reject_length}
use Rattle.torrent.specs.Torrent.{PartRead, FileRead, Torrent, read_of, file_read, path_read, no_torrent, no_file_read, no_part_read}
use Rattle.catalogue.specs.Catalogue.{list_answer, list_after}
use Rattle.writer.specs.Write.{write_answer, write_after}
use Rattle.calls.specs.Calls.{OfTorrent, ReadOutcome, done as read_done, bad_torrent as read_refused, FileOutcome, done as file_done, bad_torrent as file_refused, no_file, PathOutcome, done as path_done, bad_torrent as path_refused, no_element, ListOutcome, done as list_done, bad_torrent as list_refused, too_short}
use Rattle.calls.specs.CallsLaws.{read_outcome, file_outcome, path_outcome, list_outcome, list_refused_lem}
use Rattle.about.specs.About.{info_read, name_read}
use Rattle.about.proofs.AboutMeans.{info_outcome, name_outcome}
use Rattle.v1.specs.V1.{HybridRead, V1Piece, V1Part, no_hybrid, hybrid_of, no_piece, v1_piece_of, no_part, v1_pieces_of}
use Rattle.v1.specs.EachNumber.{HybridOutcome, done as hybrid_done, bad_torrent as hybrid_refused, hybrid_outcome, PieceOutcome, done as v1_piece_done, bad_torrent as v1_piece_refused, no_file as v1_piece_no_file, not_there as v1_piece_not_there, piece_outcome, PiecesOutcome, done as v1_pieces_done, bad_torrent as v1_pieces_refused, no_file as v1_pieces_no_file, not_there as v1_pieces_not_there, pieces_outcome}
use Rattle.places.proofs.Where.{place_in_table, first_in_table, place_zeros, first_zeros}
use Rattle.writer_promises.specs.Published.{WriteNumber, is_4, is_11, is_19, is_21, is_24_to_28, WriteOutcome, put, left as nothing_put}
use Rattle.writer_promises.specs.Promised.{write_outcome, write_refused}
use Rattle.words.specs.Messages.{Form, Rejected}
use Rattle.words.specs.History.{Bytes, Send, serve, bitfield, save, piece_hashes, ask, send, Call, take, load_layer, judge_block, judge_piece, judge_hybrid_piece, clear, reopen, load, repair, look, reply_number, send_reply, number as store_number, sent_to}
use Rattle.words.specs.Answers.{ServeOutcome, replied, rejected, untouched}
use Rattle.promises.specs.Demand1.{calls_in_table, sha256_in_table, size_in_table, refusal_leaves_store, request_answered, beside_refusal, beside_sha256, beside_size}
use Rattle.promises.specs.EachNumber.{serve_2, serve_3, serve_12}
use Rattle.promises.specs.Marks.{field_refused}
use Rattle.promises.specs.Saved.{save_refused}
use Rattle.promises.specs.Teaching.{told_refused}
use Rattle.promises.specs.Running as Running
use Rattle.contracts.specs.Entries.{AnyCall, on_store, version, sha256, sha1, store_size, hashing_begin, hashing_more, hashing_end, history_begin, history_more, history_end, stream_begin, stream_hear, frame, torrent_read, torrent_file, torrent_path, torrent_list, torrent_info, torrent_name, torrent_hybrid, torrent_v1_piece, torrent_v1_pieces, torrent_write, place, first_piece, FromTable, Refused, Silent, said, output, output_after, lent, left, RejectSent, request, ValuesZero}

-- ---- the torrent calls' numbers are in the table

-- k numbers from m on, and then others
abbrev from : ℕ → ℕ → List ℕ → List ℕ
from m zero others = others
from m (suc k) others = m ∷ from (suc m) k others

among : (k m n : ℕ) (others : List ℕ) → m ≤ n → n < m + k → Listed n (from m k others)
among zero m n others l h = let w : ⊥ = omega arith in absurd w
among (suc k) m n others l h = elim (ℕ_discrete m n) [ yes e ↦ rw e first | no d ↦ later (among k (suc m) n others (omega (arith, d)) (omega arith)) ]

-- 0, 3, 4, 11
zero_in : InTable 0
zero_in = listed_in 0 table refl

rule_broken_in : InTable rule_broken
rule_broken_in = listed_in rule_broken table refl

wrong_size_in : InTable wrong_size
wrong_size_in = listed_in wrong_size table refl

no_room_in : InTable no_room
no_room_in = listed_in no_room table refl

-- 19 to 29
torrent_in_lem : (n : ℕ) → 19 ≤ n → n ≤ 29 → InTable n
torrent_in_lem n l h = later (later (later (later (later (later (later (later (later (later (later (later (later (among 11 19 n _ l (omega arith))))))))))))))

-- the numbers of a torrent that is refused: these without 29, and 31
refused_in : (n : ℕ) → OfTorrent n → InTable n
refused_in n (inl p) = torrent_in_lem n p.0 (omega (arith, p.1))
refused_in n (inr e) = rw e (listed_in halves_differ table refl)

read_in : (r : Torrent) → ReadOutcome r → InTable r.number
read_in r (read_done q e) = rw e zero_in
read_in r (read_refused n p) = refused_in n p

file_in : (r : FileRead) → FileOutcome r → InTable r.number
file_in r (file_done q e) = rw e zero_in
file_in r (file_refused n p) = refused_in n p
file_in r no_file = torrent_in_lem 29 (omega arith) (omega arith)

path_in : (r : PartRead) → PathOutcome r → InTable r.number
path_in r (path_done q e) = rw e zero_in
path_in r (path_refused n p) = refused_in n p
path_in r no_element = torrent_in_lem 29 (omega arith) (omega arith)

hybrid_in : (r : HybridRead) → HybridOutcome r → InTable r.number
hybrid_in r (hybrid_done q e) = rw e zero_in
hybrid_in r (hybrid_refused n p) = refused_in n p

v1_piece_in : (r : V1Piece) → PieceOutcome r → InTable r.number
v1_piece_in r (v1_piece_done q e) = rw e zero_in
v1_piece_in r (v1_piece_refused n p) = refused_in n p
v1_piece_in r v1_piece_no_file = torrent_in_lem 29 (omega arith) (omega arith)
v1_piece_in r v1_piece_not_there = rule_broken_in

v1_pieces_in : (r : V1Part) → PiecesOutcome r → InTable r.number
v1_pieces_in r (v1_pieces_done q e) = rw e zero_in
v1_pieces_in r (v1_pieces_refused n p) = refused_in n p
v1_pieces_in r v1_pieces_no_file = torrent_in_lem 29 (omega arith) (omega arith)
v1_pieces_in r v1_pieces_not_there = rule_broken_in

list_in : (out : List ℕ) (a : Answer) (after : List ℕ) → ListOutcome out a after → InTable a.number
list_in out a after (list_done q t e) = rw e zero_in
list_in out a after (list_refused n p) = refused_in n p
list_in out a after too_short = no_room_in

write_number_in : (n : ℕ) → WriteNumber n → InTable n
write_number_in n (is_4 q) = rw q wrong_size_in
write_number_in n (is_11 q) = rw q no_room_in
write_number_in n (is_19 q) = torrent_in_lem n (omega arith) (omega arith)
write_number_in n (is_21 q) = torrent_in_lem n (omega arith) (omega arith)
write_number_in n (is_24_to_28 l h) = torrent_in_lem n (omega arith) (omega arith)

write_in : (out : List ℕ) (a : Answer) (after : List ℕ) → WriteOutcome out a after → InTable a.number
write_in out a after (put bytes l e p) = rw e zero_in
write_in out a after (nothing_put n w e p) = rw e (write_number_in n w)

-- ---- a refused call on a store leaves the output lent beside it

serve_leaves : (s m out : List ℕ) (x : Bytes m) (y : Bytes out) → ((serve_answer s m out).number ≡ 0 → ⊥)
    → (RejectSent (on_store (look (send (serve m x) out y)) s) → ⊥) → serve_after s m out ≡ out
serve_leaves s m out x y ne nr = by (request_answered s m out)
  where
    by : ServeOutcome s m out → serve_after s m out ≡ out
    by (replied e p) = absurd (ne (ap (λ (a : Answer). a.number) e))
    by (rejected n r e p) = absurd (nr (request (rw e r)))
    by (untouched n w e p) = p

sent_leaves : (k : Send) (s out : List ℕ) (y : Bytes out) → (reply_number (send_reply k s out) ≡ 0 → ⊥) → (RejectSent (on_store (look (send k out y)) s) → ⊥)
    → sent_to k s out ≡ out
sent_leaves (serve m x) s out y ne nr = serve_leaves s m out x y ne nr
sent_leaves bitfield s out y ne nr = field_refused s out ne
sent_leaves save s out y ne nr = save_refused s out ne
sent_leaves (piece_hashes i d b) s out y ne nr = told_refused s i d out ne

output_stays : (c : Call) (s : List ℕ) → (store_number c s ≡ 0 → ⊥) → (RejectSent (on_store c s) → ⊥) → output_after c s ≡ output c
output_stays (take m b) s ne nr = refl
output_stays (load_layer l b) s ne nr = refl
output_stays (judge_block i d b) s ne nr = refl
output_stays (judge_piece i d b) s ne nr = refl
output_stays (judge_hybrid_piece i d v z b o) s ne nr = refl
output_stays (clear i) s ne nr = refl
output_stays (reopen n plen root o) s ne nr = refl
output_stays (load b x) s ne nr = refl
output_stays (repair b x) s ne nr = refl
output_stays (look (ask k)) s ne nr = refl
output_stays (look (send k out b)) s ne nr = ap (λ (o : List ℕ). o ∷ []) (sent_leaves k s out b ne nr)

-- ---- the torrent calls' refusals stand beside zeros

read_zeros : (r : Torrent) → ReadOutcome r → (r.number ≡ 0 → ⊥) → r ≡ no_torrent r.number
read_zeros r (read_done q e) ne = absurd (ne e)
read_zeros r (read_refused n p) ne = refl

file_zeros : (r : FileRead) → FileOutcome r → (r.number ≡ 0 → ⊥) → r ≡ no_file_read r.number
file_zeros r (file_done q e) ne = absurd (ne e)
file_zeros r (file_refused n p) ne = refl
file_zeros r no_file ne = refl

path_zeros : (r : PartRead) → PathOutcome r → (r.number ≡ 0 → ⊥) → r ≡ no_part_read r.number
path_zeros r (path_done q e) ne = absurd (ne e)
path_zeros r (path_refused n p) ne = refl
path_zeros r no_element ne = refl

hybrid_zeros : (r : HybridRead) → HybridOutcome r → (r.number ≡ 0 → ⊥) → r ≡ no_hybrid r.number
hybrid_zeros r (hybrid_done q e) ne = absurd (ne e)
hybrid_zeros r (hybrid_refused n p) ne = refl

v1_piece_zeros : (r : V1Piece) → PieceOutcome r → (r.number ≡ 0 → ⊥) → r ≡ no_piece r.number
v1_piece_zeros r (v1_piece_done q e) ne = absurd (ne e)
v1_piece_zeros r (v1_piece_refused n p) ne = refl
v1_piece_zeros r v1_piece_no_file ne = refl
v1_piece_zeros r v1_piece_not_there ne = refl

v1_pieces_zeros : (r : V1Part) → PiecesOutcome r → (r.number ≡ 0 → ⊥) → r ≡ no_part r.number
v1_pieces_zeros r (v1_pieces_done q e) ne = absurd (ne e)
v1_pieces_zeros r (v1_pieces_refused n p) ne = refl
v1_pieces_zeros r v1_pieces_no_file ne = refl
v1_pieces_zeros r v1_pieces_not_there ne = refl

-- ---- the demand

-- "Any bytes may come in, as torrent, message, block or store. Every entry point answers with a number from the table,
-- asks nothing of its caller,": (the latter: OneOutcome)
pub every_number_in_table : (a : AnyCall) → FromTable (said a)
every_number_in_table (on_store c s) = calls_in_table c s
every_number_in_table (sha256 m) = sha256_in_table m
every_number_in_table (sha1 m) = sha1_in_table m
every_number_in_table (store_size k plen) = size_in_table k plen
every_number_in_table hashing_begin = tt
every_number_in_table (hashing_more h burst) = Running.hashing_more_in_table h burst
every_number_in_table (hashing_end h) = Running.hashing_end_in_table h
every_number_in_table (history_begin plen) = Running.history_begin_in_table plen
every_number_in_table (history_more h burst layer) = Running.history_more_in_table h burst layer
every_number_in_table (history_end h layer) = Running.history_end_in_table h layer
every_number_in_table version = tt
every_number_in_table stream_begin = tt
every_number_in_table (stream_hear s bytes room b) = hear_in_table s room bytes
every_number_in_table (frame m out) = rw (answer_number m out) (frame_in_table m (length out))
every_number_in_table (torrent_read t) = read_in (read_of t) (read_outcome t)
every_number_in_table (torrent_file t file) = file_in (file_read t file) (file_outcome t file)
every_number_in_table (torrent_path t file element) = path_in (path_read t file element) (path_outcome t file element)
every_number_in_table (torrent_list t out) = list_in out (list_answer t out) (list_after t out) (list_outcome t out)
every_number_in_table (torrent_info t) = path_in (info_read t) (info_outcome t)
every_number_in_table (torrent_name t) = path_in (name_read t) (name_outcome t)
every_number_in_table (torrent_hybrid t) = hybrid_in (hybrid_of t) (hybrid_outcome t)
every_number_in_table (torrent_v1_piece t file piece) = v1_piece_in (v1_piece_of t file piece) (piece_outcome t file piece)
every_number_in_table (torrent_v1_pieces t file) = v1_pieces_in (v1_pieces_of t file) (pieces_outcome t file)
every_number_in_table (place list plen piece) = place_in_table list plen piece
every_number_in_table (first_piece list plen file) = first_in_table list plen file
every_number_in_table (torrent_write list text plen name out) =
    write_in out (write_answer list text plen name out) (write_after list text plen name out) (write_outcome list text plen name out)

-- a call that says none was lent nothing: there is no byte that it could change
pub silent_lent_nothing : (a : AnyCall) → Silent (said a) → lent a ≡ []
silent_lent_nothing hashing_begin e = refl
silent_lent_nothing (on_store c s) e = absurd e
silent_lent_nothing (sha256 m) e = refl
silent_lent_nothing (sha1 m) e = refl
silent_lent_nothing (store_size k plen) e = refl
silent_lent_nothing (hashing_more h burst) e = refl
silent_lent_nothing (hashing_end h) e = refl
silent_lent_nothing (history_begin plen) e = refl
silent_lent_nothing (history_more h burst layer) e = absurd e
silent_lent_nothing (history_end h layer) e = absurd e
silent_lent_nothing version e = refl
silent_lent_nothing stream_begin e = refl
silent_lent_nothing (stream_hear s bytes room b) e = absurd e
silent_lent_nothing (frame m out) e = absurd e
silent_lent_nothing (torrent_read t) e = refl
silent_lent_nothing (torrent_file t file) e = refl
silent_lent_nothing (torrent_path t file element) e = refl
silent_lent_nothing (torrent_list t out) e = absurd e
silent_lent_nothing (torrent_info t) e = refl
silent_lent_nothing (torrent_name t) e = refl
silent_lent_nothing (torrent_hybrid t) e = refl
silent_lent_nothing (torrent_v1_piece t file piece) e = refl
silent_lent_nothing (torrent_v1_pieces t file) e = refl
silent_lent_nothing (torrent_write list text plen name out) e = absurd e
silent_lent_nothing (place list plen piece) e = refl
silent_lent_nothing (first_piece list plen file) e = refl

-- "and on a refusal changes no byte it was lent, save for the reject message that a refused request gets."
pub every_refusal_leaves : (a : AnyCall) → Refused (said a) → (RejectSent a → ⊥) → left a ≡ lent a
every_refusal_leaves (on_store c s) ne nr = ap₂ (λ (t : List ℕ) (o : List (List ℕ)). t ∷ o) (refusal_leaves_store c s ne) (output_stays c s ne nr)
every_refusal_leaves (sha256 m) ne nr = refl
every_refusal_leaves (sha1 m) ne nr = refl
every_refusal_leaves (store_size n plen) ne nr = refl
every_refusal_leaves hashing_begin ne nr = refl
every_refusal_leaves (hashing_more h burst) ne nr = refl
every_refusal_leaves (hashing_end h) ne nr = refl
every_refusal_leaves (history_begin plen) ne nr = refl
every_refusal_leaves (history_more h burst layer) ne nr = ap (λ (o : List ℕ). o ∷ []) (Running.history_more_refused h burst layer ne).1
every_refusal_leaves (history_end h layer) ne nr = ap (λ (o : List ℕ). o ∷ []) (Running.history_end_refused h layer ne)
every_refusal_leaves version ne nr = refl
every_refusal_leaves stream_begin ne nr = refl
every_refusal_leaves (stream_hear s bytes room b) ne nr = ap (λ (o : List ℕ). o ∷ []) (refusal_leaves_room s room bytes (bytes_of bytes b) ne)
every_refusal_leaves (frame m out) ne nr = ap (λ (o : List ℕ). o ∷ []) (frame_refusal m out ne).1
every_refusal_leaves (torrent_read t) ne nr = refl
every_refusal_leaves (torrent_file t file) ne nr = refl
every_refusal_leaves (torrent_path t file element) ne nr = refl
every_refusal_leaves (torrent_list t out) ne nr = ap (λ (o : List ℕ). o ∷ []) (list_refused_lem t out ne).1
every_refusal_leaves (torrent_info t) ne nr = refl
every_refusal_leaves (torrent_name t) ne nr = refl
every_refusal_leaves (torrent_hybrid t) ne nr = refl
every_refusal_leaves (torrent_v1_piece t file piece) ne nr = refl
every_refusal_leaves (torrent_v1_pieces t file) ne nr = refl
every_refusal_leaves (place list plen piece) ne nr = refl
every_refusal_leaves (first_piece list plen file) ne nr = refl
every_refusal_leaves (torrent_write list text plen name out) ne nr = ap (λ (o : List ℕ). o ∷ []) (write_refused list text plen name out ne).1

-- 0, 9, 1 and 11 bring no reject
not_rejected : (n : ℕ) → (n ≡ 0) ⊎ ((n ≡ 9) ⊎ ((n ≡ 1) ⊎ (n ≡ 11))) → Rejected n → ⊥
not_rejected n w (inl r) = elim w [ inl a ↦ omega arith | inr b ↦ elim b [ inl a ↦ omega arith | inr c ↦ elim c [ inl a ↦ omega arith | inr a ↦ omega arith ] ] ]
not_rejected n w (inr (inl r)) = elim w [ inl a ↦ omega arith | inr b ↦ elim b [ inl a ↦ omega arith | inr c ↦ elim c [ inl a ↦ omega arith | inr a ↦ omega arith ] ] ]
not_rejected n w (inr (inr r)) = elim w [ inl a ↦ omega arith | inr b ↦ elim b [ inl a ↦ omega arith | inr c ↦ elim c [ inl a ↦ omega arith | inr a ↦ omega arith ] ] ]

-- such a request was one by its form, and there is room for the reject
rejected_form : (s m out : List ℕ) → Rejected (serve_answer s m out).number → Form request_id m × (header_size ≤ length out)
rejected_form s m out (inl e) = let w = (serve_2 s m out).0 e in (w.0.1, w.1)
rejected_form s m out (inr (inl e)) = let w = (serve_3 s m out).0 e in (w.0.1, w.1)
rejected_form s m out (inr (inr e)) = let w = (serve_12 s m out).0 e in (w.0.0.form, w.1)

-- the reject: the store stays, the first 49 bytes of the output are the reject's, and all others stay
pub reject_alone : (s m out : List ℕ) (x : Bytes m) (y : Bytes out) → RejectSent (on_store (look (send (serve m x) out y)) s)
    → (left (on_store (look (send (serve m x) out y)) s) ≡ s ∷ pasted out 0 (reject_to m) ∷ []) × (length (reject_to m) ≡ header_size) × (header_size ≤ length out)
reject_alone s m out x y (request r) = (ap (λ (o : List ℕ). s ∷ o ∷ []) (by (request_answered s m out)), reject_length m (rejected_form s m out r).0.size, (rejected_form s m out r).1)
  where
    by : ServeOutcome s m out → serve_after s m out ≡ pasted out 0 (reject_to m)
    by (replied e p) = absurd (not_rejected 0 (inl refl) (rw e at r))
    by (rejected n w e p) = p
    by (untouched n w e p) = absurd (not_rejected n (inr w) (rw e at r))

-- 01: "Beside a refusal every count, size and value is zero; beside a reject the size is 49."
pub every_value_zero : (a : AnyCall) → Refused (said a) → ValuesZero a
every_value_zero (on_store c s) ne = beside_refusal c s ne
every_value_zero (sha256 m) ne = beside_sha256 m ne
every_value_zero (sha1 m) ne = beside_sha1 m ne
every_value_zero (store_size n plen) ne = beside_size n plen ne
every_value_zero hashing_begin ne = absurd ne
every_value_zero (hashing_more h burst) ne = Running.hashing_more_refused h burst ne
every_value_zero (hashing_end h) ne = Running.beside_hashing_end h ne
every_value_zero (history_begin plen) ne = Running.beside_history_begin plen ne
every_value_zero (history_more h burst layer) ne = (Running.history_more_refused h burst layer ne).0
every_value_zero (history_end h layer) ne = Running.beside_history_end h layer ne
every_value_zero version ne = absurd ne
every_value_zero stream_begin ne = absurd ne
every_value_zero (stream_hear s bytes room b) ne = hear_refusal s room bytes ne
every_value_zero (frame m out) ne = (frame_refusal m out ne).0
every_value_zero (torrent_read t) ne = read_zeros (read_of t) (read_outcome t) ne
every_value_zero (torrent_file t file) ne = file_zeros (file_read t file) (file_outcome t file) ne
every_value_zero (torrent_path t file element) ne = path_zeros (path_read t file element) (path_outcome t file element) ne
every_value_zero (torrent_list t out) ne = (list_refused_lem t out ne).0
every_value_zero (torrent_info t) ne = path_zeros (info_read t) (info_outcome t) ne
every_value_zero (torrent_name t) ne = path_zeros (name_read t) (name_outcome t) ne
every_value_zero (torrent_hybrid t) ne = hybrid_zeros (hybrid_of t) (hybrid_outcome t) ne
every_value_zero (torrent_v1_piece t file piece) ne = v1_piece_zeros (v1_piece_of t file piece) (piece_outcome t file piece) ne
every_value_zero (torrent_v1_pieces t file) ne = v1_pieces_zeros (v1_pieces_of t file) (pieces_outcome t file) ne
every_value_zero (place list plen piece) ne = place_zeros list plen piece ne
every_value_zero (first_piece list plen file) ne = first_zeros list plen file ne
every_value_zero (torrent_write list text plen name out) ne = (write_refused list text plen name out ne).0

-- 00, demand 1, of the contracts of crates/kombudeva themselves: the calls of Entries, their numbers and the memories lent to them are the
-- contracts', so that what Demand1 says of numbers and memories holds of every outcome that a contract leaves. (The values beside a number: Says.)
-- Assumes nothing.
use Rattle.std.specs.Prelude.{◌≡◌, refl, List, [], ◌∷◌, ℕ}
use Rattle.std.proofs.Common.{ap, sym, ◌∙◌}
use contract.Lifetimes.{Lfts}
use borrow.Fn.Kinds.{Dens, res_t, ended_of}
use denote.Triple.Clauses.{AtExit}
use Rattle.octets.specs.Octets.{Octets}
use Rattle.stream.specs.declared.Heard.{Heard}
use Rattle.asking.specs.declared.next.Request.{Request}
use Rattle.asking.specs.declared.pick.Choice.{Choice}
use Rattle.running.specs.declared.HashingAnswer.{HashingAnswer}
use Rattle.sha_1.specs.declared.Sha1Answer.{Sha1Answer}
use Rattle.history.specs.declared.HistoryAnswer.{HistoryAnswer}
use Rattle.history.specs.declared.HistoryEnd.{HistoryEnd}
use Rattle.saved.specs.declared.repair.Repaired.{Repaired}
use Rattle.kombudeva.specs.declared.CountAnswer.{CountAnswer}
use Rattle.kombudeva.specs.declared.HashAnswer.{HashAnswer}
use Rattle.places.specs.declared.Placed.{Placed}
use Rattle.kombudeva.specs.declared.FactsAnswer.{FactsAnswer}
use Rattle.kombudeva.specs.declared.TorrentAnswer.{TorrentAnswer}
use Rattle.kombudeva.specs.declared.FileAnswer.{FileAnswer}
use Rattle.kombudeva.specs.declared.PartAnswer.{PartAnswer}
use Rattle.kombudeva.specs.declared.HybridAnswer.{HybridAnswer}
use Rattle.kombudeva.specs.declared.V1PieceAnswer.{V1PieceAnswer}
use Rattle.kombudeva.specs.declared.V1PartAnswer.{V1PartAnswer}
use Rattle.kombudeva.specs.Boundary.{count_answer, hash_answer, facts_struct, torrent_answer, file_answer, part_answer, hybrid_answer, v1_piece_answer, v1_part_answer}
use Rattle.words.specs.History.{Bytes, held, take_reject, is_marked, next_request, pick_piece, the_facts, begins_with, serve, bitfield, ask, send, take, load_layer, judge_block, judge_piece, judge_hybrid_piece, clear, reopen, look, save, piece_hashes, load, repair}
use Rattle.contracts.specs.Entries.{AnyCall, on_store, version, sha256, sha1, store_size, hashing_begin, hashing_more, hashing_end, history_begin, history_more, history_end, stream_begin, stream_hear, frame, torrent_read, torrent_file, torrent_path, torrent_list, torrent_info, torrent_name, torrent_hybrid, torrent_v1_piece, torrent_v1_pieces, torrent_write, place, first_piece, Said, number, none, FromTable, Refused, said, lent, left, RejectSent}
use Rattle.contracts.specs.Demand1.{every_number_in_table, every_refusal_leaves}
use Rattle.kombudeva.proofs.kd_sha256 as kd_sha256
use Rattle.kombudeva.proofs.kd_sha1 as kd_sha1
use Rattle.kombudeva.proofs.kd_hashing_begin as kd_hashing_begin
use Rattle.kombudeva.proofs.kd_hashing_more as kd_hashing_more
use Rattle.kombudeva.proofs.kd_hashing_end as kd_hashing_end
use Rattle.kombudeva.proofs.kd_history_begin as kd_history_begin
use Rattle.kombudeva.proofs.kd_history_more as kd_history_more
use Rattle.kombudeva.proofs.kd_history_end as kd_history_end
use Rattle.kombudeva.proofs.kd_store_size as kd_store_size
use Rattle.kombudeva.proofs.kd_open as kd_open
use Rattle.kombudeva.proofs.kd_held as kd_held
use Rattle.kombudeva.proofs.kd_take as kd_take
use Rattle.kombudeva.proofs.kd_take_reject as kd_take_reject
use Rattle.kombudeva.proofs.kd_serve as kd_serve
use Rattle.kombudeva.proofs.kd_load_layer as kd_load_layer
use Rattle.kombudeva.proofs.kd_judge_block as kd_judge_block
use Rattle.kombudeva.proofs.kd_judge_piece as kd_judge_piece
use Rattle.kombudeva.proofs.kd_judge_hybrid_piece as kd_judge_hybrid_piece
use Rattle.kombudeva.proofs.kd_clear as kd_clear
use Rattle.kombudeva.proofs.kd_marked as kd_marked
use Rattle.kombudeva.proofs.kd_next_request as kd_next_request
use Rattle.kombudeva.proofs.kd_pick_piece as kd_pick_piece
use Rattle.kombudeva.proofs.kd_extends as kd_extends
use Rattle.kombudeva.proofs.kd_bitfield as kd_bitfield
use Rattle.kombudeva.proofs.kd_piece_hashes as kd_piece_hashes
use Rattle.kombudeva.proofs.kd_stream_begin as kd_stream_begin
use Rattle.kombudeva.proofs.kd_version as kd_version
use Rattle.kombudeva.proofs.kd_stream_hear as kd_stream_hear
use Rattle.kombudeva.proofs.kd_frame as kd_frame
use Rattle.kombudeva.proofs.kd_save as kd_save
use Rattle.kombudeva.proofs.kd_load as kd_load
use Rattle.kombudeva.proofs.kd_repair as kd_repair
use Rattle.kombudeva.proofs.kd_torrent_read as kd_torrent_read
use Rattle.kombudeva.proofs.kd_torrent_file as kd_torrent_file
use Rattle.kombudeva.proofs.kd_torrent_path as kd_torrent_path
use Rattle.kombudeva.proofs.kd_torrent_list as kd_torrent_list
use Rattle.kombudeva.proofs.kd_torrent_write as kd_torrent_write
use Rattle.kombudeva.proofs.kd_facts as kd_facts
use Rattle.kombudeva.proofs.kd_torrent_info as kd_torrent_info
use Rattle.kombudeva.proofs.kd_torrent_name as kd_torrent_name
use Rattle.kombudeva.proofs.kd_torrent_hybrid as kd_torrent_hybrid
use Rattle.kombudeva.proofs.kd_torrent_v1_piece as kd_torrent_v1_piece
use Rattle.kombudeva.proofs.kd_torrent_v1_pieces as kd_torrent_v1_pieces
use Rattle.kombudeva.proofs.kd_place as kd_place
use Rattle.kombudeva.proofs.kd_first_piece as kd_first_piece

-- a call, the number it was answered with, and the memories lent to it, before and after, as a contract leaves them: `a` are the arguments, in
-- order, `r` the answer, `e` the arguments at exit. What is lent as `&` can't be written: a store lent so is as it was.
-- `x` and `y` say that what a call on a store carries is bytes, as all that is lent is.
pub data Outcome : AnyCall → Said → List (List ℕ) → List (List ℕ) → Type 0 where
  -- kd_sha256
  by_kd_sha256 : (κs : Lfts 1) (a : Dens κs kd_sha256.Kinds.ps) (r : (res_t kd_sha256.Kinds.r κs).Denot) (e : AtExit (ended_of 1 kd_sha256.Kinds.ps kd_sha256.Kinds.r) κs) → kd_sha256.Reads.Learnt κs a r e
      → Outcome (sha256 a.0.now) (number r.number) [] []
  -- kd_sha1
  by_kd_sha1 : (κs : Lfts 1) (a : Dens κs kd_sha1.Kinds.ps) (r : (res_t kd_sha1.Kinds.r κs).Denot) (e : AtExit (ended_of 1 kd_sha1.Kinds.ps kd_sha1.Kinds.r) κs) → kd_sha1.Reads.Learnt κs a r e
      → Outcome (sha1 a.0.now) (number r.number) [] []
  -- kd_hashing_begin
  by_kd_hashing_begin : (κs : Lfts 0) (a : Dens κs kd_hashing_begin.Kinds.ps) (r : (res_t kd_hashing_begin.Kinds.r κs).Denot) (e : AtExit (ended_of 0 kd_hashing_begin.Kinds.ps kd_hashing_begin.Kinds.r) κs) → kd_hashing_begin.Reads.Learnt κs a r e
      → Outcome hashing_begin none [] []
  -- kd_hashing_more
  by_kd_hashing_more : (κs : Lfts 1) (a : Dens κs kd_hashing_more.Kinds.ps) (r : (res_t kd_hashing_more.Kinds.r κs).Denot) (e : AtExit (ended_of 1 kd_hashing_more.Kinds.ps kd_hashing_more.Kinds.r) κs) → kd_hashing_more.Reads.Learnt κs a r e
      → Outcome (hashing_more a.0 a.1.0.now) (number r.number) [] []
  -- kd_hashing_end
  by_kd_hashing_end : (κs : Lfts 0) (a : Dens κs kd_hashing_end.Kinds.ps) (r : (res_t kd_hashing_end.Kinds.r κs).Denot) (e : AtExit (ended_of 0 kd_hashing_end.Kinds.ps kd_hashing_end.Kinds.r) κs) → kd_hashing_end.Reads.Learnt κs a r e
      → Outcome (hashing_end a.0) (number r.number) [] []
  -- kd_history_begin
  by_kd_history_begin : (κs : Lfts 0) (a : Dens κs kd_history_begin.Kinds.ps) (r : (res_t kd_history_begin.Kinds.r κs).Denot) (e : AtExit (ended_of 0 kd_history_begin.Kinds.ps kd_history_begin.Kinds.r) κs) → kd_history_begin.Reads.Learnt κs a r e
      → Outcome (history_begin a.0) (number r.number) [] []
  -- kd_history_more
  by_kd_history_more : (κs : Lfts 2) (a : Dens κs kd_history_more.Kinds.ps) (r : (res_t kd_history_more.Kinds.r κs).Denot) (e : AtExit (ended_of 2 kd_history_more.Kinds.ps kd_history_more.Kinds.r) κs) → kd_history_more.Reads.Learnt κs a r e
      → Outcome (history_more a.0 a.1.0.now a.1.1.0.now) (number r.number) (a.1.1.0.now ∷ []) (e.1.1.0.now ∷ [])
  -- kd_history_end
  by_kd_history_end : (κs : Lfts 1) (a : Dens κs kd_history_end.Kinds.ps) (r : (res_t kd_history_end.Kinds.r κs).Denot) (e : AtExit (ended_of 1 kd_history_end.Kinds.ps kd_history_end.Kinds.r) κs) → kd_history_end.Reads.Learnt κs a r e
      → Outcome (history_end a.0 a.1.0.now) (number r.number) (a.1.0.now ∷ []) (e.1.0.now ∷ [])
  -- kd_store_size
  by_kd_store_size : (κs : Lfts 0) (a : Dens κs kd_store_size.Kinds.ps) (r : (res_t kd_store_size.Kinds.r κs).Denot) (e : AtExit (ended_of 0 kd_store_size.Kinds.ps kd_store_size.Kinds.r) κs) → kd_store_size.Reads.Learnt κs a r e
      → Outcome (store_size a.0 a.1.0) (number r.number) [] []
  -- kd_open
  by_kd_open : (κs : Lfts 1) (a : Dens κs kd_open.Kinds.ps) (r : (res_t kd_open.Kinds.r κs).Denot) (e : AtExit (ended_of 1 kd_open.Kinds.ps kd_open.Kinds.r) κs) → kd_open.Reads.Learnt κs a r e
      → (x : Octets 32 a.1.1.1.0.bytes) → Outcome (on_store (reopen a.1.0 a.1.1.0 a.1.1.1.0.bytes x) a.0.now) (number r.number) (a.0.now ∷ []) (e.0.now ∷ [])
  -- kd_held
  by_kd_held : (κs : Lfts 1) (a : Dens κs kd_held.Kinds.ps) (r : (res_t kd_held.Kinds.r κs).Denot) (e : AtExit (ended_of 1 kd_held.Kinds.ps kd_held.Kinds.r) κs) → kd_held.Reads.Learnt κs a r e
      → Outcome (on_store (look (ask (held a.1.0 a.1.1.0))) a.0.now) (number r.number) (a.0.now ∷ []) (a.0.now ∷ [])
  -- kd_take
  by_kd_take : (κs : Lfts 2) (a : Dens κs kd_take.Kinds.ps) (r : (res_t kd_take.Kinds.r κs).Denot) (e : AtExit (ended_of 2 kd_take.Kinds.ps kd_take.Kinds.r) κs) → kd_take.Reads.Learnt κs a r e
      → (x : Bytes a.1.0.now) → Outcome (on_store (take a.1.0.now x) a.0.now) (number r.number) (a.0.now ∷ []) (e.0.now ∷ [])
  -- kd_take_reject
  by_kd_take_reject : (κs : Lfts 2) (a : Dens κs kd_take_reject.Kinds.ps) (r : (res_t kd_take_reject.Kinds.r κs).Denot) (e : AtExit (ended_of 2 kd_take_reject.Kinds.ps kd_take_reject.Kinds.r) κs) → kd_take_reject.Reads.Learnt κs a r e
      → (x : Bytes a.1.0.now) → Outcome (on_store (look (ask (take_reject a.1.0.now x))) a.0.now) (number r.number) (a.0.now ∷ []) (a.0.now ∷ [])
  -- kd_serve
  by_kd_serve : (κs : Lfts 3) (a : Dens κs kd_serve.Kinds.ps) (r : (res_t kd_serve.Kinds.r κs).Denot) (e : AtExit (ended_of 3 kd_serve.Kinds.ps kd_serve.Kinds.r) κs) → kd_serve.Reads.Learnt κs a r e
      → (x : Bytes a.1.0.now) (y : Bytes a.1.1.0.now) → Outcome (on_store (look (send (serve a.1.0.now x) a.1.1.0.now y)) a.0.now) (number r.number) (a.0.now ∷ a.1.1.0.now ∷ []) (a.0.now ∷ e.1.1.0.now ∷ [])
  -- kd_load_layer
  by_kd_load_layer : (κs : Lfts 2) (a : Dens κs kd_load_layer.Kinds.ps) (r : (res_t kd_load_layer.Kinds.r κs).Denot) (e : AtExit (ended_of 2 kd_load_layer.Kinds.ps kd_load_layer.Kinds.r) κs) → kd_load_layer.Reads.Learnt κs a r e
      → (x : Bytes a.1.0.now) → Outcome (on_store (load_layer a.1.0.now x) a.0.now) (number r.number) (a.0.now ∷ []) (e.0.now ∷ [])
  -- kd_judge_block
  by_kd_judge_block : (κs : Lfts 2) (a : Dens κs kd_judge_block.Kinds.ps) (r : (res_t kd_judge_block.Kinds.r κs).Denot) (e : AtExit (ended_of 2 kd_judge_block.Kinds.ps kd_judge_block.Kinds.r) κs) → kd_judge_block.Reads.Learnt κs a r e
      → (x : Bytes a.1.1.0.now) → Outcome (on_store (judge_block a.1.0 a.1.1.0.now x) a.0.now) (number r.number) (a.0.now ∷ []) (e.0.now ∷ [])
  -- kd_judge_piece
  by_kd_judge_piece : (κs : Lfts 2) (a : Dens κs kd_judge_piece.Kinds.ps) (r : (res_t kd_judge_piece.Kinds.r κs).Denot) (e : AtExit (ended_of 2 kd_judge_piece.Kinds.ps kd_judge_piece.Kinds.r) κs) → kd_judge_piece.Reads.Learnt κs a r e
      → (x : Bytes a.1.1.0.now) → Outcome (on_store (judge_piece a.1.0 a.1.1.0.now x) a.0.now) (number r.number) (a.0.now ∷ []) (e.0.now ∷ [])
  -- kd_judge_hybrid_piece
  by_kd_judge_hybrid_piece : (κs : Lfts 2) (a : Dens κs kd_judge_hybrid_piece.Kinds.ps) (r : (res_t kd_judge_hybrid_piece.Kinds.r κs).Denot) (e : AtExit (ended_of 2 kd_judge_hybrid_piece.Kinds.ps kd_judge_hybrid_piece.Kinds.r) κs) → kd_judge_hybrid_piece.Reads.Learnt κs a r e
      → (x : Bytes a.1.1.0.now) (y : Octets 20 a.1.1.1.0.bytes) → Outcome (on_store (judge_hybrid_piece a.1.0 a.1.1.0.now a.1.1.1.0.bytes a.1.1.1.1.0 x y) a.0.now) (number r.number) (a.0.now ∷ []) (e.0.now ∷ [])
  -- kd_clear
  by_kd_clear : (κs : Lfts 1) (a : Dens κs kd_clear.Kinds.ps) (r : (res_t kd_clear.Kinds.r κs).Denot) (e : AtExit (ended_of 1 kd_clear.Kinds.ps kd_clear.Kinds.r) κs) → kd_clear.Reads.Learnt κs a r e
      → Outcome (on_store (clear a.1.0) a.0.now) (number r.number) (a.0.now ∷ []) (e.0.now ∷ [])
  -- kd_marked
  by_kd_marked : (κs : Lfts 1) (a : Dens κs kd_marked.Kinds.ps) (r : (res_t kd_marked.Kinds.r κs).Denot) (e : AtExit (ended_of 1 kd_marked.Kinds.ps kd_marked.Kinds.r) κs) → kd_marked.Reads.Learnt κs a r e
      → Outcome (on_store (look (ask (is_marked a.1.0))) a.0.now) (number r.number) (a.0.now ∷ []) (a.0.now ∷ [])
  -- kd_next_request
  by_next : (κs : Lfts 1) (a : Dens κs kd_next_request.Kinds.ps) (r : (res_t kd_next_request.Kinds.r κs).Denot) (e : AtExit (ended_of 1 kd_next_request.Kinds.ps kd_next_request.Kinds.r) κs) → kd_next_request.Reads.Learnt κs a r e
      → Outcome (on_store (look (ask (next_request a.1.0))) a.0.now) (number r.number) (a.0.now ∷ []) (a.0.now ∷ [])
  -- kd_pick_piece
  by_pick : (κs : Lfts 2) (a : Dens κs kd_pick_piece.Kinds.ps) (r : (res_t kd_pick_piece.Kinds.r κs).Denot) (e : AtExit (ended_of 2 kd_pick_piece.Kinds.ps kd_pick_piece.Kinds.r) κs) → kd_pick_piece.Reads.Learnt κs a r e
      → Outcome (on_store (look (ask (pick_piece a.1.0.now))) a.0.now) (number r.number) (a.0.now ∷ []) (a.0.now ∷ [])
  -- kd_extends
  by_kd_extends : (κs : Lfts 2) (a : Dens κs kd_extends.Kinds.ps) (r : (res_t kd_extends.Kinds.r κs).Denot) (e : AtExit (ended_of 2 kd_extends.Kinds.ps kd_extends.Kinds.r) κs) → kd_extends.Reads.Learnt κs a r e
      → (x : Octets 32 a.1.1.0.bytes) (y : Bytes a.1.1.1.0.now) → Outcome (on_store (look (ask (begins_with a.1.0 a.1.1.0.bytes a.1.1.1.0.now x y))) a.0.now) (number r.number) (a.0.now ∷ []) (a.0.now ∷ [])
  -- kd_facts
  by_facts : (κs : Lfts 1) (a : Dens κs kd_facts.Kinds.ps) (r : (res_t kd_facts.Kinds.r κs).Denot) (e : AtExit (ended_of 1 kd_facts.Kinds.ps kd_facts.Kinds.r) κs) → kd_facts.Reads.Learnt κs a r e
      → Outcome (on_store (look (ask the_facts)) a.0.now) (number r.number) (a.0.now ∷ []) (a.0.now ∷ [])
  -- kd_piece_hashes
  by_kd_piece_hashes : (κs : Lfts 3) (a : Dens κs kd_piece_hashes.Kinds.ps) (r : (res_t kd_piece_hashes.Kinds.r κs).Denot) (e : AtExit (ended_of 3 kd_piece_hashes.Kinds.ps kd_piece_hashes.Kinds.r) κs) → kd_piece_hashes.Reads.Learnt κs a r e
      → (x : Bytes a.1.1.0.now) (y : Bytes a.1.1.1.0.now) → Outcome (on_store (look (send (piece_hashes a.1.0 a.1.1.0.now x) a.1.1.1.0.now y)) a.0.now) (number r.number) (a.0.now ∷ a.1.1.1.0.now ∷ []) (a.0.now ∷ e.1.1.1.0.now ∷ [])
  -- kd_bitfield
  by_kd_bitfield : (κs : Lfts 2) (a : Dens κs kd_bitfield.Kinds.ps) (r : (res_t kd_bitfield.Kinds.r κs).Denot) (e : AtExit (ended_of 2 kd_bitfield.Kinds.ps kd_bitfield.Kinds.r) κs) → kd_bitfield.Reads.Learnt κs a r e
      → (x : Bytes a.1.0.now) → Outcome (on_store (look (send bitfield a.1.0.now x)) a.0.now) (number r.number) (a.0.now ∷ a.1.0.now ∷ []) (a.0.now ∷ e.1.0.now ∷ [])
  -- kd_version
  by_version : (κs : Lfts 0) (a : Dens κs kd_version.Kinds.ps) (r : (res_t kd_version.Kinds.r κs).Denot) (e : AtExit (ended_of 0 kd_version.Kinds.ps kd_version.Kinds.r) κs) → kd_version.Reads.Learnt κs a r e
      → Outcome version none [] []
  -- kd_stream_begin
  by_kd_stream_begin : (κs : Lfts 0) (a : Dens κs kd_stream_begin.Kinds.ps) (r : (res_t kd_stream_begin.Kinds.r κs).Denot) (e : AtExit (ended_of 0 kd_stream_begin.Kinds.ps kd_stream_begin.Kinds.r) κs) → kd_stream_begin.Reads.Learnt κs a r e
      → Outcome stream_begin none [] []
  -- kd_stream_hear
  by_kd_stream_hear : (κs : Lfts 2) (a : Dens κs kd_stream_hear.Kinds.ps) (r : (res_t kd_stream_hear.Kinds.r κs).Denot) (e : AtExit (ended_of 2 kd_stream_hear.Kinds.ps kd_stream_hear.Kinds.r) κs) → kd_stream_hear.Reads.Learnt κs a r e
      → (x : Bytes a.1.0.now) → Outcome (stream_hear a.0 a.1.0.now a.1.1.0.now x) (number r.number) (a.1.1.0.now ∷ []) (e.1.1.0.now ∷ [])
  -- kd_frame
  by_kd_frame : (κs : Lfts 2) (a : Dens κs kd_frame.Kinds.ps) (r : (res_t kd_frame.Kinds.r κs).Denot) (e : AtExit (ended_of 2 kd_frame.Kinds.ps kd_frame.Kinds.r) κs) → kd_frame.Reads.Learnt κs a r e
      → Outcome (frame a.0.now a.1.0.now) (number r.number) (a.1.0.now ∷ []) (e.1.0.now ∷ [])
  -- kd_save
  by_kd_save : (κs : Lfts 2) (a : Dens κs kd_save.Kinds.ps) (r : (res_t kd_save.Kinds.r κs).Denot) (e : AtExit (ended_of 2 kd_save.Kinds.ps kd_save.Kinds.r) κs) → kd_save.Reads.Learnt κs a r e
      → (x : Bytes a.1.0.now) → Outcome (on_store (look (send save a.1.0.now x)) a.0.now) (number r.number) (a.0.now ∷ a.1.0.now ∷ []) (a.0.now ∷ e.1.0.now ∷ [])
  -- kd_load
  by_kd_load : (κs : Lfts 2) (a : Dens κs kd_load.Kinds.ps) (r : (res_t kd_load.Kinds.r κs).Denot) (e : AtExit (ended_of 2 kd_load.Kinds.ps kd_load.Kinds.r) κs) → kd_load.Reads.Learnt κs a r e
      → (x : Bytes a.1.0.now) → Outcome (on_store (load a.1.0.now x) a.0.now) (number r.number) (a.0.now ∷ []) (e.0.now ∷ [])
  -- kd_repair
  by_kd_repair : (κs : Lfts 2) (a : Dens κs kd_repair.Kinds.ps) (r : (res_t kd_repair.Kinds.r κs).Denot) (e : AtExit (ended_of 2 kd_repair.Kinds.ps kd_repair.Kinds.r) κs) → kd_repair.Reads.Learnt κs a r e
      → (x : Bytes a.1.0.now) → Outcome (on_store (repair a.1.0.now x) a.0.now) (number r.number) (a.0.now ∷ []) (e.0.now ∷ [])
  -- kd_torrent_read
  by_kd_torrent_read : (κs : Lfts 1) (a : Dens κs kd_torrent_read.Kinds.ps) (r : (res_t kd_torrent_read.Kinds.r κs).Denot) (e : AtExit (ended_of 1 kd_torrent_read.Kinds.ps kd_torrent_read.Kinds.r) κs) → kd_torrent_read.Reads.Learnt κs a r e
      → Outcome (torrent_read a.0.now) (number r.number) [] []
  -- kd_torrent_file
  by_kd_torrent_file : (κs : Lfts 1) (a : Dens κs kd_torrent_file.Kinds.ps) (r : (res_t kd_torrent_file.Kinds.r κs).Denot) (e : AtExit (ended_of 1 kd_torrent_file.Kinds.ps kd_torrent_file.Kinds.r) κs) → kd_torrent_file.Reads.Learnt κs a r e
      → Outcome (torrent_file a.0.now a.1.0) (number r.number) [] []
  -- kd_torrent_path
  by_kd_torrent_path : (κs : Lfts 1) (a : Dens κs kd_torrent_path.Kinds.ps) (r : (res_t kd_torrent_path.Kinds.r κs).Denot) (e : AtExit (ended_of 1 kd_torrent_path.Kinds.ps kd_torrent_path.Kinds.r) κs) → kd_torrent_path.Reads.Learnt κs a r e
      → Outcome (torrent_path a.0.now a.1.0 a.1.1.0) (number r.number) [] []
  -- kd_torrent_list
  by_kd_torrent_list : (κs : Lfts 2) (a : Dens κs kd_torrent_list.Kinds.ps) (r : (res_t kd_torrent_list.Kinds.r κs).Denot) (e : AtExit (ended_of 2 kd_torrent_list.Kinds.ps kd_torrent_list.Kinds.r) κs) → kd_torrent_list.Reads.Learnt κs a r e
      → Outcome (torrent_list a.0.now a.1.0.now) (number r.number) (a.1.0.now ∷ []) (e.1.0.now ∷ [])
  -- kd_torrent_info
  by_kd_torrent_info : (κs : Lfts 1) (a : Dens κs kd_torrent_info.Kinds.ps) (r : (res_t kd_torrent_info.Kinds.r κs).Denot) (e : AtExit (ended_of 1 kd_torrent_info.Kinds.ps kd_torrent_info.Kinds.r) κs) → kd_torrent_info.Reads.Learnt κs a r e
      → Outcome (torrent_info a.0.now) (number r.number) [] []
  -- kd_torrent_name
  by_name : (κs : Lfts 1) (a : Dens κs kd_torrent_name.Kinds.ps) (r : (res_t kd_torrent_name.Kinds.r κs).Denot) (e : AtExit (ended_of 1 kd_torrent_name.Kinds.ps kd_torrent_name.Kinds.r) κs) → kd_torrent_name.Reads.Learnt κs a r e
      → Outcome (torrent_name a.0.now) (number r.number) [] []
  -- kd_torrent_hybrid
  by_kd_torrent_hybrid : (κs : Lfts 1) (a : Dens κs kd_torrent_hybrid.Kinds.ps) (r : (res_t kd_torrent_hybrid.Kinds.r κs).Denot) (e : AtExit (ended_of 1 kd_torrent_hybrid.Kinds.ps kd_torrent_hybrid.Kinds.r) κs) → kd_torrent_hybrid.Reads.Learnt κs a r e
      → Outcome (torrent_hybrid a.0.now) (number r.number) [] []
  -- kd_torrent_v1_piece
  by_kd_torrent_v1_piece : (κs : Lfts 1) (a : Dens κs kd_torrent_v1_piece.Kinds.ps) (r : (res_t kd_torrent_v1_piece.Kinds.r κs).Denot) (e : AtExit (ended_of 1 kd_torrent_v1_piece.Kinds.ps kd_torrent_v1_piece.Kinds.r) κs) → kd_torrent_v1_piece.Reads.Learnt κs a r e
      → Outcome (torrent_v1_piece a.0.now a.1.0 a.1.1.0) (number r.number) [] []
  -- kd_torrent_v1_pieces
  by_kd_torrent_v1_pieces : (κs : Lfts 1) (a : Dens κs kd_torrent_v1_pieces.Kinds.ps) (r : (res_t kd_torrent_v1_pieces.Kinds.r κs).Denot) (e : AtExit (ended_of 1 kd_torrent_v1_pieces.Kinds.ps kd_torrent_v1_pieces.Kinds.r) κs) → kd_torrent_v1_pieces.Reads.Learnt κs a r e
      → Outcome (torrent_v1_pieces a.0.now a.1.0) (number r.number) [] []
  -- kd_place
  by_kd_place : (κs : Lfts 1) (a : Dens κs kd_place.Kinds.ps) (r : (res_t kd_place.Kinds.r κs).Denot) (e : AtExit (ended_of 1 kd_place.Kinds.ps kd_place.Kinds.r) κs) → kd_place.Reads.Learnt κs a r e
      → Outcome (place a.0.now a.1.0 a.1.1.0) (number r.number) [] []
  -- kd_first_piece
  by_kd_first_piece : (κs : Lfts 1) (a : Dens κs kd_first_piece.Kinds.ps) (r : (res_t kd_first_piece.Kinds.r κs).Denot) (e : AtExit (ended_of 1 kd_first_piece.Kinds.ps kd_first_piece.Kinds.r) κs) → kd_first_piece.Reads.Learnt κs a r e
      → Outcome (first_piece a.0.now a.1.0 a.1.1.0) (number r.number) [] []
  -- kd_torrent_write
  by_kd_torrent_write : (κs : Lfts 4) (a : Dens κs kd_torrent_write.Kinds.ps) (r : (res_t kd_torrent_write.Kinds.r κs).Denot) (e : AtExit (ended_of 4 kd_torrent_write.Kinds.ps kd_torrent_write.Kinds.r) κs) → kd_torrent_write.Reads.Learnt κs a r e
      → Outcome (torrent_write a.0.now a.1.0.now a.1.1.0 a.1.1.1.0.now a.1.1.1.1.0.now) (number r.number) (a.1.1.1.1.0.now ∷ []) (e.1.1.1.1.0.now ∷ [])

-- they are those of Entries
pub outcome_is : {c : AnyCall} {n : Said} {before after : List (List ℕ)} → Outcome c n before after → (n ≡ said c) × (before ≡ lent c) × (after ≡ left c)
unfolding count_answer hash_answer facts_struct torrent_answer file_answer part_answer hybrid_answer v1_piece_answer v1_part_answer
outcome_is (by_kd_sha256 κs a r e p) = (ap (λ (s : HashAnswer). number s.number) p, refl, refl)
outcome_is (by_kd_sha1 κs a r e p) = (ap (λ (s : Sha1Answer). number s.number) p, refl, refl)
outcome_is (by_kd_hashing_begin κs a r e p) = (refl, refl, refl)
outcome_is (by_kd_hashing_more κs a r e p) = (ap (λ (s : HashingAnswer). number s.number) p, refl, refl)
outcome_is (by_kd_hashing_end κs a r e p) = (ap (λ (s : HashAnswer). number s.number) p, refl, refl)
outcome_is (by_kd_history_begin κs a r e p) = (ap (λ (s : HistoryAnswer). number s.number) p, refl, refl)
outcome_is (by_kd_history_more κs a r e p) = (ap (λ (s : HistoryAnswer). number s.number) p.0, refl, ap (λ (o : List ℕ). o ∷ []) p.1)
outcome_is (by_kd_history_end κs a r e p) = (ap (λ (s : HistoryEnd). number s.number) p.0, refl, ap (λ (o : List ℕ). o ∷ []) p.1)
outcome_is (by_kd_store_size κs a r e p) = (ap (λ (s : CountAnswer). number s.number) p, refl, refl)
outcome_is (by_kd_open κs a r e p x) = (ap (λ (s : CountAnswer). number s.number) p.0, refl, ap (λ (o : List ℕ). o ∷ []) p.1)
outcome_is (by_kd_held κs a r e p) = (ap (λ (s : HashAnswer). number s.number) p, refl, refl)
outcome_is (by_kd_take κs a r e p x) = (ap (λ (s : CountAnswer). number s.number) p.0, refl, ap (λ (o : List ℕ). o ∷ []) p.1)
outcome_is (by_kd_take_reject κs a r e p x) = (ap (λ (s : CountAnswer). number s.number) p, refl, refl)
outcome_is (by_kd_serve κs a r e p x y) = (ap (λ (s : CountAnswer). number s.number) p.0, refl, ap (λ (o : List ℕ). a.0.now ∷ o ∷ []) p.1)
outcome_is (by_kd_load_layer κs a r e p x) = (ap (λ (s : CountAnswer). number s.number) p.0, refl, ap (λ (o : List ℕ). o ∷ []) p.1)
outcome_is (by_kd_judge_block κs a r e p x) = (ap (λ (s : CountAnswer). number s.number) p.0, refl, ap (λ (o : List ℕ). o ∷ []) p.1)
outcome_is (by_kd_judge_piece κs a r e p x) = (ap (λ (s : CountAnswer). number s.number) p.0, refl, ap (λ (o : List ℕ). o ∷ []) p.1)
outcome_is (by_kd_judge_hybrid_piece κs a r e p x y) = (ap (λ (s : CountAnswer). number s.number) p.0, refl, ap (λ (o : List ℕ). o ∷ []) p.1)
outcome_is (by_kd_clear κs a r e p) = (ap (λ (s : CountAnswer). number s.number) p.0, refl, ap (λ (o : List ℕ). o ∷ []) p.1)
outcome_is (by_kd_marked κs a r e p) = (ap (λ (s : CountAnswer). number s.number) p, refl, refl)
outcome_is (by_next κs a r e p) = (ap (λ (s : Request). number s.number) p, refl, refl)
outcome_is (by_pick κs a r e p) = (ap (λ (s : Choice). number s.number) p, refl, refl)
outcome_is (by_kd_extends κs a r e p x y) = (ap (λ (s : CountAnswer). number s.number) p, refl, refl)
outcome_is (by_facts κs a r e p) = (ap (λ (s : FactsAnswer). number s.number) p, refl, refl)
outcome_is (by_kd_piece_hashes κs a r e p x y) = (ap (λ (s : CountAnswer). number s.number) p.0, refl, ap (λ (o : List ℕ). a.0.now ∷ o ∷ []) p.1)
outcome_is (by_kd_bitfield κs a r e p x) = (ap (λ (s : CountAnswer). number s.number) p.0, refl, ap (λ (o : List ℕ). a.0.now ∷ o ∷ []) p.1)
outcome_is (by_version κs a r e p) = (refl, refl, refl)
outcome_is (by_kd_stream_begin κs a r e p) = (refl, refl, refl)
outcome_is (by_kd_stream_hear κs a r e p x) = (ap (λ (s : Heard). number s.number) p.0, refl, ap (λ (o : List ℕ). o ∷ []) p.1)
outcome_is (by_kd_frame κs a r e p) = (ap (λ (s : CountAnswer). number s.number) p.0, refl, ap (λ (o : List ℕ). o ∷ []) p.1)
outcome_is (by_kd_save κs a r e p x) = (ap (λ (s : CountAnswer). number s.number) p.0, refl, ap (λ (o : List ℕ). a.0.now ∷ o ∷ []) p.1)
outcome_is (by_kd_load κs a r e p x) = (ap (λ (s : CountAnswer). number s.number) p.0, refl, ap (λ (o : List ℕ). o ∷ []) p.1)
outcome_is (by_kd_repair κs a r e p x) = (ap (λ (s : Repaired). number s.number) p.0, refl, ap (λ (o : List ℕ). o ∷ []) p.1)
outcome_is (by_kd_torrent_read κs a r e p) = (ap (λ (s : TorrentAnswer). number s.number) p, refl, refl)
outcome_is (by_kd_torrent_file κs a r e p) = (ap (λ (s : FileAnswer). number s.number) p, refl, refl)
outcome_is (by_kd_torrent_path κs a r e p) = (ap (λ (s : PartAnswer). number s.number) p, refl, refl)
outcome_is (by_kd_torrent_list κs a r e p) = (ap (λ (s : CountAnswer). number s.number) p.0, refl, ap (λ (o : List ℕ). o ∷ []) p.1)
outcome_is (by_kd_torrent_info κs a r e p) = (ap (λ (s : PartAnswer). number s.number) p, refl, refl)
outcome_is (by_name κs a r e p) = (ap (λ (s : PartAnswer). number s.number) p, refl, refl)
outcome_is (by_kd_torrent_hybrid κs a r e p) = (ap (λ (s : HybridAnswer). number s.number) p, refl, refl)
outcome_is (by_kd_torrent_v1_piece κs a r e p) = (ap (λ (s : V1PieceAnswer). number s.number) p, refl, refl)
outcome_is (by_kd_torrent_v1_pieces κs a r e p) = (ap (λ (s : V1PartAnswer). number s.number) p, refl, refl)
outcome_is (by_kd_place κs a r e p) = (ap (λ (s : Placed). number s.number) p, refl, refl)
outcome_is (by_kd_first_piece κs a r e p) = (ap (λ (s : CountAnswer). number s.number) p, refl, refl)
outcome_is (by_kd_torrent_write κs a r e p) = (ap (λ (s : CountAnswer). number s.number) p.0, refl, ap (λ (o : List ℕ). o ∷ []) p.1)

-- "Every entry point answers with a number from the table,"
pub outcome_in_table : {c : AnyCall} {n : Said} {before after : List (List ℕ)} → Outcome c n before after → FromTable n
outcome_in_table {c} o = rw (outcome_is o).0 (every_number_in_table c)

-- "and on a refusal changes no byte it was lent, save for the reject message that a refused request gets."
pub refusal_changes_nothing : {c : AnyCall} {n : Said} {before after : List (List ℕ)} → Outcome c n before after → Refused n → (RejectSent c → ⊥) → after ≡ before
refusal_changes_nothing {c} o ne nr = let w = outcome_is o in w.2 ∙ every_refusal_leaves c (rw w.0 at ne) nr ∙ sym w.1

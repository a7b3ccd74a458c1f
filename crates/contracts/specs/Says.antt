-- The contracts of crates/kombudeva, as they are read by a caller, are equations to the definitions that the promises are about: the answer,
-- as the C struct, and the bytes left. `a` are the arguments, in order, `r` the answer, `e` the arguments at exit.
-- Assumes nothing.
use Rattle.std.specs.Prelude.{◌≡◌, []}
use contract.Lifetimes.{Lfts}
use borrow.Fn.Kinds.{Dens, res_t, ended_of}
use denote.Triple.Clauses.{AtExit}
use Rattle.frames.specs.Frames.{frame_answer, frame_after}
use Rattle.stream.specs.Reading.{between, hear_answer, hear_room}
use Rattle.sha256.specs.Answer.{hashed_of}
use Rattle.sha_1.specs.Answer.{sha1_of}
use Rattle.running.specs.Bursts as B
use Rattle.history.specs.Answers as W
use Rattle.store.specs.Store.{size_answer, open_answer, open_after, held_answer}
use Rattle.messages.specs.Take.{take_answer, take_after, reject_answer}
use Rattle.serve.specs.Serve.{serve_answer, serve_after}
use Rattle.asking.specs.Asking.{next_answer}
use Rattle.asking.specs.Picking.{pick_answer}
use Rattle.extends.specs.Extends.{extends_answer}
use Rattle.marks.specs.Marks.{clear_answer, clear_after, marked_answer, field_answer, field_after}
use Rattle.pieces.specs.Pieces.{layer_answer, layer_after, block_answer, block_after, piece_answer, piece_after}
use Rattle.pieces.specs.Hybrid as Both
use Rattle.leaves.specs.Leaves.{leaves_answer, leaves_after}
use Rattle.saved.specs.Save.{save_answer, save_after}
use Rattle.saved.specs.Saved.{load_answer, load_after, repair_answer, repair_after}
use Rattle.torrent.specs.Torrent.{read_of, file_read, path_read}
use Rattle.catalogue.specs.Catalogue.{list_answer, list_after}
use Rattle.facts.specs.Facts.{facts_answer}
use Rattle.about.specs.About.{info_read, name_read}
use Rattle.v1.specs.V1.{hybrid_of, v1_piece_of, v1_pieces_of}
use Rattle.places.specs.Places.{place_answer, first_answer}
use Rattle.writer.specs.Write.{write_answer, write_after}
use Rattle.kombudeva.specs.Boundary.{count_answer, hash_answer, facts_struct, torrent_answer, file_answer, part_answer, hybrid_answer, v1_piece_answer, v1_part_answer}
use Rattle.kombudeva.specs.Version.{version}
use Rattle.kombudeva.proofs.kd_sha256 as kd_sha256
use Rattle.kombudeva.proofs.kd_sha1 as kd_sha1
use Rattle.kombudeva.proofs.kd_hashing_begin as kd_hashing_begin
use Rattle.kombudeva.proofs.kd_hashing_more as kd_hashing_more
use Rattle.kombudeva.proofs.kd_hashing_end as kd_hashing_end
use Rattle.kombudeva.proofs.kd_history_begin as kd_history_begin
use Rattle.kombudeva.proofs.kd_history_more as kd_history_more
use Rattle.kombudeva.proofs.kd_history_end as kd_history_end
use Rattle.kombudeva.proofs.kd_store_size as kd_store_size
use Rattle.kombudeva.proofs.kd_open as kd_open
use Rattle.kombudeva.proofs.kd_held as kd_held
use Rattle.kombudeva.proofs.kd_take as kd_take
use Rattle.kombudeva.proofs.kd_take_reject as kd_take_reject
use Rattle.kombudeva.proofs.kd_serve as kd_serve
use Rattle.kombudeva.proofs.kd_load_layer as kd_load_layer
use Rattle.kombudeva.proofs.kd_judge_block as kd_judge_block
use Rattle.kombudeva.proofs.kd_judge_piece as kd_judge_piece
use Rattle.kombudeva.proofs.kd_judge_hybrid_piece as kd_judge_hybrid_piece
use Rattle.kombudeva.proofs.kd_clear as kd_clear
use Rattle.kombudeva.proofs.kd_marked as kd_marked
use Rattle.kombudeva.proofs.kd_next_request as kd_next_request
use Rattle.kombudeva.proofs.kd_pick_piece as kd_pick_piece
use Rattle.kombudeva.proofs.kd_extends as kd_extends
use Rattle.kombudeva.proofs.kd_bitfield as kd_bitfield
use Rattle.kombudeva.proofs.kd_stream_begin as kd_stream_begin
use Rattle.kombudeva.proofs.kd_version as kd_version
use Rattle.kombudeva.proofs.kd_stream_hear as kd_stream_hear
use Rattle.kombudeva.proofs.kd_frame as kd_frame
use Rattle.kombudeva.proofs.kd_save as kd_save
use Rattle.kombudeva.proofs.kd_load as kd_load
use Rattle.kombudeva.proofs.kd_repair as kd_repair
use Rattle.kombudeva.proofs.kd_torrent_read as kd_torrent_read
use Rattle.kombudeva.proofs.kd_torrent_file as kd_torrent_file
use Rattle.kombudeva.proofs.kd_torrent_path as kd_torrent_path
use Rattle.kombudeva.proofs.kd_torrent_list as kd_torrent_list
use Rattle.kombudeva.proofs.kd_torrent_write as kd_torrent_write
use Rattle.kombudeva.proofs.kd_facts as kd_facts
use Rattle.kombudeva.proofs.kd_torrent_info as kd_torrent_info
use Rattle.kombudeva.proofs.kd_torrent_name as kd_torrent_name
use Rattle.kombudeva.proofs.kd_torrent_hybrid as kd_torrent_hybrid
use Rattle.kombudeva.proofs.kd_torrent_v1_piece as kd_torrent_v1_piece
use Rattle.kombudeva.proofs.kd_torrent_v1_pieces as kd_torrent_v1_pieces
use Rattle.kombudeva.proofs.kd_place as kd_place
use Rattle.kombudeva.proofs.kd_first_piece as kd_first_piece
use Rattle.kombudeva.proofs.kd_piece_hashes as kd_piece_hashes

-- kd_sha256
pub kd_sha256_says : (κs : Lfts 1) (a : Dens κs kd_sha256.Kinds.ps) (r : (res_t kd_sha256.Kinds.r κs).Denot) (e : AtExit (ended_of 1 kd_sha256.Kinds.ps kd_sha256.Kinds.r) κs) → kd_sha256.Reads.Learnt κs a r e
    → r ≡ hash_answer (hashed_of a.0.now)
kd_sha256_says κs a r e p = p

-- kd_sha1
pub kd_sha1_says : (κs : Lfts 1) (a : Dens κs kd_sha1.Kinds.ps) (r : (res_t kd_sha1.Kinds.r κs).Denot) (e : AtExit (ended_of 1 kd_sha1.Kinds.ps kd_sha1.Kinds.r) κs) → kd_sha1.Reads.Learnt κs a r e
    → r ≡ sha1_of a.0.now
kd_sha1_says κs a r e p = p

-- kd_hashing_begin
pub kd_hashing_begin_says : (κs : Lfts 0) (a : Dens κs kd_hashing_begin.Kinds.ps) (r : (res_t kd_hashing_begin.Kinds.r κs).Denot) (e : AtExit (ended_of 0 kd_hashing_begin.Kinds.ps kd_hashing_begin.Kinds.r) κs) → kd_hashing_begin.Reads.Learnt κs a r e
    → r ≡ B.state_of []
kd_hashing_begin_says κs a r e p = p

-- kd_hashing_more
pub kd_hashing_more_says : (κs : Lfts 1) (a : Dens κs kd_hashing_more.Kinds.ps) (r : (res_t kd_hashing_more.Kinds.r κs).Denot) (e : AtExit (ended_of 1 kd_hashing_more.Kinds.ps kd_hashing_more.Kinds.r) κs) → kd_hashing_more.Reads.Learnt κs a r e
    → r ≡ B.more_answer a.0 a.1.0.now
kd_hashing_more_says κs a r e p = p

-- kd_hashing_end
pub kd_hashing_end_says : (κs : Lfts 0) (a : Dens κs kd_hashing_end.Kinds.ps) (r : (res_t kd_hashing_end.Kinds.r κs).Denot) (e : AtExit (ended_of 0 kd_hashing_end.Kinds.ps kd_hashing_end.Kinds.r) κs) → kd_hashing_end.Reads.Learnt κs a r e
    → r ≡ hash_answer (B.end_answer a.0)
kd_hashing_end_says κs a r e p = p

-- kd_history_begin
pub kd_history_begin_says : (κs : Lfts 0) (a : Dens κs kd_history_begin.Kinds.ps) (r : (res_t kd_history_begin.Kinds.r κs).Denot) (e : AtExit (ended_of 0 kd_history_begin.Kinds.ps kd_history_begin.Kinds.r) κs) → kd_history_begin.Reads.Learnt κs a r e
    → r ≡ W.begin_answer a.0
kd_history_begin_says κs a r e p = p

-- kd_history_more
pub kd_history_more_says : (κs : Lfts 2) (a : Dens κs kd_history_more.Kinds.ps) (r : (res_t kd_history_more.Kinds.r κs).Denot) (e : AtExit (ended_of 2 kd_history_more.Kinds.ps kd_history_more.Kinds.r) κs) → kd_history_more.Reads.Learnt κs a r e
    → (r ≡ W.more_answer a.0 a.1.0.now a.1.1.0.now) × (e.1.1.0.now ≡ W.more_layer a.0 a.1.0.now a.1.1.0.now)
kd_history_more_says κs a r e p = p

-- kd_history_end
pub kd_history_end_says : (κs : Lfts 1) (a : Dens κs kd_history_end.Kinds.ps) (r : (res_t kd_history_end.Kinds.r κs).Denot) (e : AtExit (ended_of 1 kd_history_end.Kinds.ps kd_history_end.Kinds.r) κs) → kd_history_end.Reads.Learnt κs a r e
    → (r ≡ W.end_answer a.0 a.1.0.now) × (e.1.0.now ≡ W.end_layer a.0 a.1.0.now)
kd_history_end_says κs a r e p = p

-- kd_store_size
pub kd_store_size_says : (κs : Lfts 0) (a : Dens κs kd_store_size.Kinds.ps) (r : (res_t kd_store_size.Kinds.r κs).Denot) (e : AtExit (ended_of 0 kd_store_size.Kinds.ps kd_store_size.Kinds.r) κs) → kd_store_size.Reads.Learnt κs a r e
    → r ≡ count_answer (size_answer a.0 a.1.0)
kd_store_size_says κs a r e p = p

-- kd_open
pub kd_open_says : (κs : Lfts 1) (a : Dens κs kd_open.Kinds.ps) (r : (res_t kd_open.Kinds.r κs).Denot) (e : AtExit (ended_of 1 kd_open.Kinds.ps kd_open.Kinds.r) κs) → kd_open.Reads.Learnt κs a r e
    → (r ≡ count_answer (open_answer a.0.now a.1.0 a.1.1.0)) × (e.0.now ≡ open_after a.0.now a.1.0 a.1.1.0 a.1.1.1.0.bytes)
kd_open_says κs a r e p = p

-- kd_held
pub kd_held_says : (κs : Lfts 1) (a : Dens κs kd_held.Kinds.ps) (r : (res_t kd_held.Kinds.r κs).Denot) (e : AtExit (ended_of 1 kd_held.Kinds.ps kd_held.Kinds.r) κs) → kd_held.Reads.Learnt κs a r e
    → r ≡ hash_answer (held_answer a.0.now a.1.0 a.1.1.0)
kd_held_says κs a r e p = p

-- kd_take
pub kd_take_says : (κs : Lfts 2) (a : Dens κs kd_take.Kinds.ps) (r : (res_t kd_take.Kinds.r κs).Denot) (e : AtExit (ended_of 2 kd_take.Kinds.ps kd_take.Kinds.r) κs) → kd_take.Reads.Learnt κs a r e
    → (r ≡ count_answer (take_answer a.0.now a.1.0.now)) × (e.0.now ≡ take_after a.0.now a.1.0.now)
kd_take_says κs a r e p = p

-- kd_take_reject
pub kd_take_reject_says : (κs : Lfts 2) (a : Dens κs kd_take_reject.Kinds.ps) (r : (res_t kd_take_reject.Kinds.r κs).Denot) (e : AtExit (ended_of 2 kd_take_reject.Kinds.ps kd_take_reject.Kinds.r) κs) → kd_take_reject.Reads.Learnt κs a r e
    → r ≡ count_answer (reject_answer a.0.now a.1.0.now)
kd_take_reject_says κs a r e p = p

-- kd_serve
pub kd_serve_says : (κs : Lfts 3) (a : Dens κs kd_serve.Kinds.ps) (r : (res_t kd_serve.Kinds.r κs).Denot) (e : AtExit (ended_of 3 kd_serve.Kinds.ps kd_serve.Kinds.r) κs) → kd_serve.Reads.Learnt κs a r e
    → (r ≡ count_answer (serve_answer a.0.now a.1.0.now a.1.1.0.now)) × (e.1.1.0.now ≡ serve_after a.0.now a.1.0.now a.1.1.0.now)
kd_serve_says κs a r e p = p

-- kd_load_layer
pub kd_load_layer_says : (κs : Lfts 2) (a : Dens κs kd_load_layer.Kinds.ps) (r : (res_t kd_load_layer.Kinds.r κs).Denot) (e : AtExit (ended_of 2 kd_load_layer.Kinds.ps kd_load_layer.Kinds.r) κs) → kd_load_layer.Reads.Learnt κs a r e
    → (r ≡ count_answer (layer_answer a.0.now a.1.0.now)) × (e.0.now ≡ layer_after a.0.now a.1.0.now)
kd_load_layer_says κs a r e p = p

-- kd_judge_block
pub kd_judge_block_says : (κs : Lfts 2) (a : Dens κs kd_judge_block.Kinds.ps) (r : (res_t kd_judge_block.Kinds.r κs).Denot) (e : AtExit (ended_of 2 kd_judge_block.Kinds.ps kd_judge_block.Kinds.r) κs) → kd_judge_block.Reads.Learnt κs a r e
    → (r ≡ count_answer (block_answer a.0.now a.1.0 a.1.1.0.now)) × (e.0.now ≡ block_after a.0.now a.1.0 a.1.1.0.now)
kd_judge_block_says κs a r e p = p

-- kd_judge_piece
pub kd_judge_piece_says : (κs : Lfts 2) (a : Dens κs kd_judge_piece.Kinds.ps) (r : (res_t kd_judge_piece.Kinds.r κs).Denot) (e : AtExit (ended_of 2 kd_judge_piece.Kinds.ps kd_judge_piece.Kinds.r) κs) → kd_judge_piece.Reads.Learnt κs a r e
    → (r ≡ count_answer (piece_answer a.0.now a.1.0 a.1.1.0.now)) × (e.0.now ≡ piece_after a.0.now a.1.0 a.1.1.0.now)
kd_judge_piece_says κs a r e p = p

-- kd_judge_hybrid_piece
pub kd_judge_hybrid_piece_says : (κs : Lfts 2) (a : Dens κs kd_judge_hybrid_piece.Kinds.ps) (r : (res_t kd_judge_hybrid_piece.Kinds.r κs).Denot) (e : AtExit (ended_of 2 kd_judge_hybrid_piece.Kinds.ps kd_judge_hybrid_piece.Kinds.r) κs) → kd_judge_hybrid_piece.Reads.Learnt κs a r e
    → (r ≡ count_answer (Both.hybrid_answer a.0.now a.1.0 a.1.1.0.now a.1.1.1.0.bytes a.1.1.1.1.0))
    × (e.0.now ≡ Both.hybrid_after a.0.now a.1.0 a.1.1.0.now a.1.1.1.0.bytes a.1.1.1.1.0)
kd_judge_hybrid_piece_says κs a r e p = p

-- kd_clear
pub kd_clear_says : (κs : Lfts 1) (a : Dens κs kd_clear.Kinds.ps) (r : (res_t kd_clear.Kinds.r κs).Denot) (e : AtExit (ended_of 1 kd_clear.Kinds.ps kd_clear.Kinds.r) κs) → kd_clear.Reads.Learnt κs a r e
    → (r ≡ count_answer (clear_answer a.0.now a.1.0)) × (e.0.now ≡ clear_after a.0.now a.1.0)
kd_clear_says κs a r e p = p

-- kd_marked
pub kd_marked_says : (κs : Lfts 1) (a : Dens κs kd_marked.Kinds.ps) (r : (res_t kd_marked.Kinds.r κs).Denot) (e : AtExit (ended_of 1 kd_marked.Kinds.ps kd_marked.Kinds.r) κs) → kd_marked.Reads.Learnt κs a r e
    → r ≡ count_answer (marked_answer a.0.now a.1.0)
kd_marked_says κs a r e p = p

-- kd_next_request
pub kd_next_request_says : (κs : Lfts 1) (a : Dens κs kd_next_request.Kinds.ps) (r : (res_t kd_next_request.Kinds.r κs).Denot) (e : AtExit (ended_of 1 kd_next_request.Kinds.ps kd_next_request.Kinds.r) κs) → kd_next_request.Reads.Learnt κs a r e
    → r ≡ next_answer a.0.now a.1.0
kd_next_request_says κs a r e p = p

-- kd_pick_piece
pub kd_pick_piece_says : (κs : Lfts 2) (a : Dens κs kd_pick_piece.Kinds.ps) (r : (res_t kd_pick_piece.Kinds.r κs).Denot) (e : AtExit (ended_of 2 kd_pick_piece.Kinds.ps kd_pick_piece.Kinds.r) κs) → kd_pick_piece.Reads.Learnt κs a r e
    → r ≡ pick_answer a.0.now a.1.0.now
kd_pick_piece_says κs a r e p = p

-- kd_extends
pub kd_extends_says : (κs : Lfts 2) (a : Dens κs kd_extends.Kinds.ps) (r : (res_t kd_extends.Kinds.r κs).Denot) (e : AtExit (ended_of 2 kd_extends.Kinds.ps kd_extends.Kinds.r) κs) → kd_extends.Reads.Learnt κs a r e
    → r ≡ count_answer (extends_answer a.0.now a.1.0 a.1.1.0.bytes a.1.1.1.0.now)
kd_extends_says κs a r e p = p

-- kd_piece_hashes
pub kd_piece_hashes_says : (κs : Lfts 3) (a : Dens κs kd_piece_hashes.Kinds.ps) (r : (res_t kd_piece_hashes.Kinds.r κs).Denot) (e : AtExit (ended_of 3 kd_piece_hashes.Kinds.ps kd_piece_hashes.Kinds.r) κs) → kd_piece_hashes.Reads.Learnt κs a r e
    → (r ≡ count_answer (leaves_answer a.0.now a.1.0 a.1.1.0.now a.1.1.1.0.now)) × (e.1.1.1.0.now ≡ leaves_after a.0.now a.1.0 a.1.1.0.now a.1.1.1.0.now)
kd_piece_hashes_says κs a r e p = p

-- kd_bitfield
pub kd_bitfield_says : (κs : Lfts 2) (a : Dens κs kd_bitfield.Kinds.ps) (r : (res_t kd_bitfield.Kinds.r κs).Denot) (e : AtExit (ended_of 2 kd_bitfield.Kinds.ps kd_bitfield.Kinds.r) κs) → kd_bitfield.Reads.Learnt κs a r e
    → (r ≡ count_answer (field_answer a.0.now a.1.0.now)) × (e.1.0.now ≡ field_after a.0.now a.1.0.now)
kd_bitfield_says κs a r e p = p

-- kd_version
pub kd_version_says : (κs : Lfts 0) (a : Dens κs kd_version.Kinds.ps) (r : (res_t kd_version.Kinds.r κs).Denot) (e : AtExit (ended_of 0 kd_version.Kinds.ps kd_version.Kinds.r) κs) → kd_version.Reads.Learnt κs a r e
    → r ≡ version
kd_version_says κs a r e p = p

-- kd_stream_begin
pub kd_stream_begin_says : (κs : Lfts 0) (a : Dens κs kd_stream_begin.Kinds.ps) (r : (res_t kd_stream_begin.Kinds.r κs).Denot) (e : AtExit (ended_of 0 kd_stream_begin.Kinds.ps kd_stream_begin.Kinds.r) κs) → kd_stream_begin.Reads.Learnt κs a r e
    → r ≡ between
kd_stream_begin_says κs a r e p = p

-- kd_stream_hear
pub kd_stream_hear_says : (κs : Lfts 2) (a : Dens κs kd_stream_hear.Kinds.ps) (r : (res_t kd_stream_hear.Kinds.r κs).Denot) (e : AtExit (ended_of 2 kd_stream_hear.Kinds.ps kd_stream_hear.Kinds.r) κs) → kd_stream_hear.Reads.Learnt κs a r e
    → (r ≡ hear_answer a.0 a.1.1.0.now a.1.0.now) × (e.1.1.0.now ≡ hear_room a.0 a.1.1.0.now a.1.0.now)
kd_stream_hear_says κs a r e p = p

-- kd_frame
pub kd_frame_says : (κs : Lfts 2) (a : Dens κs kd_frame.Kinds.ps) (r : (res_t kd_frame.Kinds.r κs).Denot) (e : AtExit (ended_of 2 kd_frame.Kinds.ps kd_frame.Kinds.r) κs) → kd_frame.Reads.Learnt κs a r e
    → (r ≡ count_answer (frame_answer a.0.now a.1.0.now)) × (e.1.0.now ≡ frame_after a.0.now a.1.0.now)
kd_frame_says κs a r e p = p

-- kd_save
pub kd_save_says : (κs : Lfts 2) (a : Dens κs kd_save.Kinds.ps) (r : (res_t kd_save.Kinds.r κs).Denot) (e : AtExit (ended_of 2 kd_save.Kinds.ps kd_save.Kinds.r) κs) → kd_save.Reads.Learnt κs a r e
    → (r ≡ count_answer (save_answer a.0.now a.1.0.now)) × (e.1.0.now ≡ save_after a.0.now a.1.0.now)
kd_save_says κs a r e p = p

-- kd_load
pub kd_load_says : (κs : Lfts 2) (a : Dens κs kd_load.Kinds.ps) (r : (res_t kd_load.Kinds.r κs).Denot) (e : AtExit (ended_of 2 kd_load.Kinds.ps kd_load.Kinds.r) κs) → kd_load.Reads.Learnt κs a r e
    → (r ≡ count_answer (load_answer a.0.now a.1.0.now)) × (e.0.now ≡ load_after a.0.now a.1.0.now)
kd_load_says κs a r e p = p

-- kd_repair
pub kd_repair_says : (κs : Lfts 2) (a : Dens κs kd_repair.Kinds.ps) (r : (res_t kd_repair.Kinds.r κs).Denot) (e : AtExit (ended_of 2 kd_repair.Kinds.ps kd_repair.Kinds.r) κs) → kd_repair.Reads.Learnt κs a r e
    → (r ≡ repair_answer a.0.now a.1.0.now) × (e.0.now ≡ repair_after a.0.now a.1.0.now)
kd_repair_says κs a r e p = p

-- kd_torrent_read
pub kd_torrent_read_says : (κs : Lfts 1) (a : Dens κs kd_torrent_read.Kinds.ps) (r : (res_t kd_torrent_read.Kinds.r κs).Denot) (e : AtExit (ended_of 1 kd_torrent_read.Kinds.ps kd_torrent_read.Kinds.r) κs) → kd_torrent_read.Reads.Learnt κs a r e
    → r ≡ torrent_answer (read_of a.0.now)
kd_torrent_read_says κs a r e p = p

-- kd_torrent_file
pub kd_torrent_file_says : (κs : Lfts 1) (a : Dens κs kd_torrent_file.Kinds.ps) (r : (res_t kd_torrent_file.Kinds.r κs).Denot) (e : AtExit (ended_of 1 kd_torrent_file.Kinds.ps kd_torrent_file.Kinds.r) κs) → kd_torrent_file.Reads.Learnt κs a r e
    → r ≡ file_answer (file_read a.0.now a.1.0)
kd_torrent_file_says κs a r e p = p

-- kd_torrent_path
pub kd_torrent_path_says : (κs : Lfts 1) (a : Dens κs kd_torrent_path.Kinds.ps) (r : (res_t kd_torrent_path.Kinds.r κs).Denot) (e : AtExit (ended_of 1 kd_torrent_path.Kinds.ps kd_torrent_path.Kinds.r) κs) → kd_torrent_path.Reads.Learnt κs a r e
    → r ≡ part_answer (path_read a.0.now a.1.0 a.1.1.0)
kd_torrent_path_says κs a r e p = p

-- kd_torrent_list
pub kd_torrent_list_says : (κs : Lfts 2) (a : Dens κs kd_torrent_list.Kinds.ps) (r : (res_t kd_torrent_list.Kinds.r κs).Denot) (e : AtExit (ended_of 2 kd_torrent_list.Kinds.ps kd_torrent_list.Kinds.r) κs) → kd_torrent_list.Reads.Learnt κs a r e
    → (r ≡ count_answer (list_answer a.0.now a.1.0.now)) × (e.1.0.now ≡ list_after a.0.now a.1.0.now)
kd_torrent_list_says κs a r e p = p

-- kd_facts
pub kd_facts_says : (κs : Lfts 1) (a : Dens κs kd_facts.Kinds.ps) (r : (res_t kd_facts.Kinds.r κs).Denot) (e : AtExit (ended_of 1 kd_facts.Kinds.ps kd_facts.Kinds.r) κs) → kd_facts.Reads.Learnt κs a r e
    → r ≡ facts_struct (facts_answer a.0.now)
kd_facts_says κs a r e p = p

-- kd_torrent_info
pub kd_torrent_info_says : (κs : Lfts 1) (a : Dens κs kd_torrent_info.Kinds.ps) (r : (res_t kd_torrent_info.Kinds.r κs).Denot) (e : AtExit (ended_of 1 kd_torrent_info.Kinds.ps kd_torrent_info.Kinds.r) κs) → kd_torrent_info.Reads.Learnt κs a r e
    → r ≡ part_answer (info_read a.0.now)
kd_torrent_info_says κs a r e p = p

-- kd_torrent_name
pub kd_torrent_name_says : (κs : Lfts 1) (a : Dens κs kd_torrent_name.Kinds.ps) (r : (res_t kd_torrent_name.Kinds.r κs).Denot) (e : AtExit (ended_of 1 kd_torrent_name.Kinds.ps kd_torrent_name.Kinds.r) κs) → kd_torrent_name.Reads.Learnt κs a r e
    → r ≡ part_answer (name_read a.0.now)
kd_torrent_name_says κs a r e p = p

-- kd_torrent_hybrid
pub kd_torrent_hybrid_says : (κs : Lfts 1) (a : Dens κs kd_torrent_hybrid.Kinds.ps) (r : (res_t kd_torrent_hybrid.Kinds.r κs).Denot) (e : AtExit (ended_of 1 kd_torrent_hybrid.Kinds.ps kd_torrent_hybrid.Kinds.r) κs) → kd_torrent_hybrid.Reads.Learnt κs a r e
    → r ≡ hybrid_answer (hybrid_of a.0.now)
kd_torrent_hybrid_says κs a r e p = p

-- kd_torrent_v1_piece
pub kd_torrent_v1_piece_says : (κs : Lfts 1) (a : Dens κs kd_torrent_v1_piece.Kinds.ps) (r : (res_t kd_torrent_v1_piece.Kinds.r κs).Denot) (e : AtExit (ended_of 1 kd_torrent_v1_piece.Kinds.ps kd_torrent_v1_piece.Kinds.r) κs) → kd_torrent_v1_piece.Reads.Learnt κs a r e
    → r ≡ v1_piece_answer (v1_piece_of a.0.now a.1.0 a.1.1.0)
kd_torrent_v1_piece_says κs a r e p = p

-- kd_torrent_v1_pieces
pub kd_torrent_v1_pieces_says : (κs : Lfts 1) (a : Dens κs kd_torrent_v1_pieces.Kinds.ps) (r : (res_t kd_torrent_v1_pieces.Kinds.r κs).Denot) (e : AtExit (ended_of 1 kd_torrent_v1_pieces.Kinds.ps kd_torrent_v1_pieces.Kinds.r) κs) → kd_torrent_v1_pieces.Reads.Learnt κs a r e
    → r ≡ v1_part_answer (v1_pieces_of a.0.now a.1.0)
kd_torrent_v1_pieces_says κs a r e p = p

-- kd_place
pub kd_place_says : (κs : Lfts 1) (a : Dens κs kd_place.Kinds.ps) (r : (res_t kd_place.Kinds.r κs).Denot) (e : AtExit (ended_of 1 kd_place.Kinds.ps kd_place.Kinds.r) κs) → kd_place.Reads.Learnt κs a r e
    → r ≡ place_answer a.0.now a.1.0 a.1.1.0
kd_place_says κs a r e p = p

-- kd_first_piece
pub kd_first_piece_says : (κs : Lfts 1) (a : Dens κs kd_first_piece.Kinds.ps) (r : (res_t kd_first_piece.Kinds.r κs).Denot) (e : AtExit (ended_of 1 kd_first_piece.Kinds.ps kd_first_piece.Kinds.r) κs) → kd_first_piece.Reads.Learnt κs a r e
    → r ≡ count_answer (first_answer a.0.now a.1.0 a.1.1.0)
kd_first_piece_says κs a r e p = p

-- kd_torrent_write
pub kd_torrent_write_says : (κs : Lfts 4) (a : Dens κs kd_torrent_write.Kinds.ps) (r : (res_t kd_torrent_write.Kinds.r κs).Denot) (e : AtExit (ended_of 4 kd_torrent_write.Kinds.ps kd_torrent_write.Kinds.r) κs) → kd_torrent_write.Reads.Learnt κs a r e
    → (r ≡ count_answer (write_answer a.0.now a.1.0.now a.1.1.0 a.1.1.1.0.now a.1.1.1.1.0.now)) × (e.1.1.1.1.0.now ≡ write_after a.0.now a.1.0.now a.1.1.0 a.1.1.1.0.now a.1.1.1.1.0.now)
kd_torrent_write_says κs a r e p = p

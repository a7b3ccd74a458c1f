-- 00, demand 1, and 01, "How much each contract says", of the contracts of crates/kombudeva themselves. `Asked` is what a caller has to
-- show, `Learnt` what it then knows of the answer and of the memory that it lent: both are read from the contract. A contract that asks
-- something, or says less than the answer and every byte left, is refused here.
-- Assumes nothing.
use Rattle.std.specs.Prelude.{ℕ, ◌≡◌, List}
use Rattle.std.proofs.Common.{sym, ◌∙◌}
use contract.Lifetimes.{Lfts}
use borrow.Fn.Kinds.{ParamKind, ResultKind, Dens, res_t, ended_of, In, Out}
use denote.Triple.Clauses.{AtExit}
use Rattle.kombudeva.proofs.kd_sha256 as kd_sha256
use Rattle.kombudeva.proofs.kd_sha1 as kd_sha1
use Rattle.kombudeva.proofs.kd_hashing_begin as kd_hashing_begin
use Rattle.kombudeva.proofs.kd_hashing_more as kd_hashing_more
use Rattle.kombudeva.proofs.kd_hashing_end as kd_hashing_end
use Rattle.kombudeva.proofs.kd_history_begin as kd_history_begin
use Rattle.kombudeva.proofs.kd_history_more as kd_history_more
use Rattle.kombudeva.proofs.kd_history_end as kd_history_end
use Rattle.kombudeva.proofs.kd_store_size as kd_store_size
use Rattle.kombudeva.proofs.kd_open as kd_open
use Rattle.kombudeva.proofs.kd_held as kd_held
use Rattle.kombudeva.proofs.kd_take as kd_take
use Rattle.kombudeva.proofs.kd_take_reject as kd_take_reject
use Rattle.kombudeva.proofs.kd_serve as kd_serve
use Rattle.kombudeva.proofs.kd_load_layer as kd_load_layer
use Rattle.kombudeva.proofs.kd_judge_block as kd_judge_block
use Rattle.kombudeva.proofs.kd_judge_piece as kd_judge_piece
use Rattle.kombudeva.proofs.kd_judge_hybrid_piece as kd_judge_hybrid_piece
use Rattle.kombudeva.proofs.kd_clear as kd_clear
use Rattle.kombudeva.proofs.kd_marked as kd_marked
use Rattle.kombudeva.proofs.kd_next_request as kd_next_request
use Rattle.kombudeva.proofs.kd_pick_piece as kd_pick_piece
use Rattle.kombudeva.proofs.kd_extends as kd_extends
use Rattle.kombudeva.proofs.kd_bitfield as kd_bitfield
use Rattle.kombudeva.proofs.kd_stream_begin as kd_stream_begin
use Rattle.kombudeva.proofs.kd_version as kd_version
use Rattle.kombudeva.proofs.kd_stream_hear as kd_stream_hear
use Rattle.kombudeva.proofs.kd_frame as kd_frame
use Rattle.kombudeva.proofs.kd_save as kd_save
use Rattle.kombudeva.proofs.kd_load as kd_load
use Rattle.kombudeva.proofs.kd_repair as kd_repair
use Rattle.kombudeva.proofs.kd_torrent_read as kd_torrent_read
use Rattle.kombudeva.proofs.kd_torrent_file as kd_torrent_file
use Rattle.kombudeva.proofs.kd_torrent_path as kd_torrent_path
use Rattle.kombudeva.proofs.kd_torrent_list as kd_torrent_list
use Rattle.kombudeva.proofs.kd_torrent_write as kd_torrent_write
use Rattle.kombudeva.proofs.kd_facts as kd_facts
use Rattle.kombudeva.proofs.kd_torrent_info as kd_torrent_info
use Rattle.kombudeva.proofs.kd_torrent_name as kd_torrent_name
use Rattle.kombudeva.proofs.kd_torrent_hybrid as kd_torrent_hybrid
use Rattle.kombudeva.proofs.kd_torrent_v1_piece as kd_torrent_v1_piece
use Rattle.kombudeva.proofs.kd_torrent_v1_pieces as kd_torrent_v1_pieces
use Rattle.kombudeva.proofs.kd_place as kd_place
use Rattle.kombudeva.proofs.kd_first_piece as kd_first_piece
use Rattle.kombudeva.proofs.kd_piece_hashes as kd_piece_hashes

-- nothing is asked of the caller, whatever the arguments are
abbrev pub AsksNothing : (n : ℕ) (ps : List (ParamKind n)) → In n ps → Type 0
AsksNothing n ps asked = (κs : Lfts n) (a : Dens κs ps) → asked κs a

-- two answers that satisfy the contract on the same arguments are the same
abbrev pub OneAnswer : (n : ℕ) (ps : List (ParamKind n)) (r : ResultKind n) → Out n ps r → Type 0
OneAnswer n ps r learnt = (κs : Lfts n) (a : Dens κs ps) (x y : (res_t r κs).Denot) (t u : AtExit (ended_of n ps r) κs) → learnt κs a x t → learnt κs a y u → x ≡ y

-- ---- every entry point "asks nothing of its caller"

-- kd_sha256
pub kd_sha256_asks_nothing : AsksNothing 1 kd_sha256.Kinds.ps kd_sha256.Reads.Asked
kd_sha256_asks_nothing κs a = tt

-- kd_sha1
pub kd_sha1_asks_nothing : AsksNothing 1 kd_sha1.Kinds.ps kd_sha1.Reads.Asked
kd_sha1_asks_nothing κs a = tt

-- kd_hashing_begin
pub kd_hashing_begin_asks_nothing : AsksNothing 0 kd_hashing_begin.Kinds.ps kd_hashing_begin.Reads.Asked
kd_hashing_begin_asks_nothing κs a = tt

-- kd_hashing_more
pub kd_hashing_more_asks_nothing : AsksNothing 1 kd_hashing_more.Kinds.ps kd_hashing_more.Reads.Asked
kd_hashing_more_asks_nothing κs a = tt

-- kd_hashing_end
pub kd_hashing_end_asks_nothing : AsksNothing 0 kd_hashing_end.Kinds.ps kd_hashing_end.Reads.Asked
kd_hashing_end_asks_nothing κs a = tt

-- kd_history_begin
pub kd_history_begin_asks_nothing : AsksNothing 0 kd_history_begin.Kinds.ps kd_history_begin.Reads.Asked
kd_history_begin_asks_nothing κs a = tt

-- kd_history_more
pub kd_history_more_asks_nothing : AsksNothing 2 kd_history_more.Kinds.ps kd_history_more.Reads.Asked
kd_history_more_asks_nothing κs a = tt

-- kd_history_end
pub kd_history_end_asks_nothing : AsksNothing 1 kd_history_end.Kinds.ps kd_history_end.Reads.Asked
kd_history_end_asks_nothing κs a = tt

-- kd_store_size
pub kd_store_size_asks_nothing : AsksNothing 0 kd_store_size.Kinds.ps kd_store_size.Reads.Asked
kd_store_size_asks_nothing κs a = tt

-- kd_open
pub kd_open_asks_nothing : AsksNothing 1 kd_open.Kinds.ps kd_open.Reads.Asked
kd_open_asks_nothing κs a = tt

-- kd_held
pub kd_held_asks_nothing : AsksNothing 1 kd_held.Kinds.ps kd_held.Reads.Asked
kd_held_asks_nothing κs a = tt

-- kd_take
pub kd_take_asks_nothing : AsksNothing 2 kd_take.Kinds.ps kd_take.Reads.Asked
kd_take_asks_nothing κs a = tt

-- kd_take_reject
pub kd_take_reject_asks_nothing : AsksNothing 2 kd_take_reject.Kinds.ps kd_take_reject.Reads.Asked
kd_take_reject_asks_nothing κs a = tt

-- kd_serve
pub kd_serve_asks_nothing : AsksNothing 3 kd_serve.Kinds.ps kd_serve.Reads.Asked
kd_serve_asks_nothing κs a = tt

-- kd_load_layer
pub kd_load_layer_asks_nothing : AsksNothing 2 kd_load_layer.Kinds.ps kd_load_layer.Reads.Asked
kd_load_layer_asks_nothing κs a = tt

-- kd_judge_block
pub kd_judge_block_asks_nothing : AsksNothing 2 kd_judge_block.Kinds.ps kd_judge_block.Reads.Asked
kd_judge_block_asks_nothing κs a = tt

-- kd_judge_piece
pub kd_judge_piece_asks_nothing : AsksNothing 2 kd_judge_piece.Kinds.ps kd_judge_piece.Reads.Asked
kd_judge_piece_asks_nothing κs a = tt

-- kd_judge_hybrid_piece
pub kd_judge_hybrid_piece_asks_nothing : AsksNothing 2 kd_judge_hybrid_piece.Kinds.ps kd_judge_hybrid_piece.Reads.Asked
kd_judge_hybrid_piece_asks_nothing κs a = tt

-- kd_clear
pub kd_clear_asks_nothing : AsksNothing 1 kd_clear.Kinds.ps kd_clear.Reads.Asked
kd_clear_asks_nothing κs a = tt

-- kd_marked
pub kd_marked_asks_nothing : AsksNothing 1 kd_marked.Kinds.ps kd_marked.Reads.Asked
kd_marked_asks_nothing κs a = tt

-- kd_next_request
pub kd_next_request_asks_nothing : AsksNothing 1 kd_next_request.Kinds.ps kd_next_request.Reads.Asked
kd_next_request_asks_nothing κs a = tt

-- kd_pick_piece
pub kd_pick_piece_asks_nothing : AsksNothing 2 kd_pick_piece.Kinds.ps kd_pick_piece.Reads.Asked
kd_pick_piece_asks_nothing κs a = tt

-- kd_extends
pub kd_extends_asks_nothing : AsksNothing 2 kd_extends.Kinds.ps kd_extends.Reads.Asked
kd_extends_asks_nothing κs a = tt

-- kd_piece_hashes
pub kd_piece_hashes_asks_nothing : AsksNothing 3 kd_piece_hashes.Kinds.ps kd_piece_hashes.Reads.Asked
kd_piece_hashes_asks_nothing κs a = tt

-- kd_bitfield
pub kd_bitfield_asks_nothing : AsksNothing 2 kd_bitfield.Kinds.ps kd_bitfield.Reads.Asked
kd_bitfield_asks_nothing κs a = tt

-- kd_version
pub kd_version_asks_nothing : AsksNothing 0 kd_version.Kinds.ps kd_version.Reads.Asked
kd_version_asks_nothing κs a = tt

-- kd_stream_begin
pub kd_stream_begin_asks_nothing : AsksNothing 0 kd_stream_begin.Kinds.ps kd_stream_begin.Reads.Asked
kd_stream_begin_asks_nothing κs a = tt

-- kd_stream_hear
pub kd_stream_hear_asks_nothing : AsksNothing 2 kd_stream_hear.Kinds.ps kd_stream_hear.Reads.Asked
kd_stream_hear_asks_nothing κs a = tt

-- kd_frame
pub kd_frame_asks_nothing : AsksNothing 2 kd_frame.Kinds.ps kd_frame.Reads.Asked
kd_frame_asks_nothing κs a = tt

-- kd_save, kd_load, kd_repair
pub kd_save_asks_nothing : AsksNothing 2 kd_save.Kinds.ps kd_save.Reads.Asked
kd_save_asks_nothing κs a = tt

pub kd_load_asks_nothing : AsksNothing 2 kd_load.Kinds.ps kd_load.Reads.Asked
kd_load_asks_nothing κs a = tt

pub kd_repair_asks_nothing : AsksNothing 2 kd_repair.Kinds.ps kd_repair.Reads.Asked
kd_repair_asks_nothing κs a = tt

-- kd_torrent_read
pub kd_torrent_read_asks_nothing : AsksNothing 1 kd_torrent_read.Kinds.ps kd_torrent_read.Reads.Asked
kd_torrent_read_asks_nothing κs a = tt

-- kd_torrent_file
pub kd_torrent_file_asks_nothing : AsksNothing 1 kd_torrent_file.Kinds.ps kd_torrent_file.Reads.Asked
kd_torrent_file_asks_nothing κs a = tt

-- kd_torrent_path
pub kd_torrent_path_asks_nothing : AsksNothing 1 kd_torrent_path.Kinds.ps kd_torrent_path.Reads.Asked
kd_torrent_path_asks_nothing κs a = tt

-- kd_torrent_list
pub kd_torrent_list_asks_nothing : AsksNothing 2 kd_torrent_list.Kinds.ps kd_torrent_list.Reads.Asked
kd_torrent_list_asks_nothing κs a = tt

-- kd_facts
pub kd_facts_asks_nothing : AsksNothing 1 kd_facts.Kinds.ps kd_facts.Reads.Asked
kd_facts_asks_nothing κs a = tt

-- kd_torrent_info
pub kd_torrent_info_asks_nothing : AsksNothing 1 kd_torrent_info.Kinds.ps kd_torrent_info.Reads.Asked
kd_torrent_info_asks_nothing κs a = tt

-- kd_torrent_name
pub kd_torrent_name_asks_nothing : AsksNothing 1 kd_torrent_name.Kinds.ps kd_torrent_name.Reads.Asked
kd_torrent_name_asks_nothing κs a = tt

-- kd_torrent_hybrid
pub kd_torrent_hybrid_asks_nothing : AsksNothing 1 kd_torrent_hybrid.Kinds.ps kd_torrent_hybrid.Reads.Asked
kd_torrent_hybrid_asks_nothing κs a = tt

-- kd_torrent_v1_piece
pub kd_torrent_v1_piece_asks_nothing : AsksNothing 1 kd_torrent_v1_piece.Kinds.ps kd_torrent_v1_piece.Reads.Asked
kd_torrent_v1_piece_asks_nothing κs a = tt

-- kd_torrent_v1_pieces
pub kd_torrent_v1_pieces_asks_nothing : AsksNothing 1 kd_torrent_v1_pieces.Kinds.ps kd_torrent_v1_pieces.Reads.Asked
kd_torrent_v1_pieces_asks_nothing κs a = tt

-- kd_place
pub kd_place_asks_nothing : AsksNothing 1 kd_place.Kinds.ps kd_place.Reads.Asked
kd_place_asks_nothing κs a = tt

-- kd_first_piece
pub kd_first_piece_asks_nothing : AsksNothing 1 kd_first_piece.Kinds.ps kd_first_piece.Reads.Asked
kd_first_piece_asks_nothing κs a = tt

-- kd_torrent_write
pub kd_torrent_write_asks_nothing : AsksNothing 4 kd_torrent_write.Kinds.ps kd_torrent_write.Reads.Asked
kd_torrent_write_asks_nothing κs a = tt

-- ---- "no second outcome satisfies it": the answer, and every byte left of what was lent to be written

-- kd_sha256
pub one_kd_sha256 : OneAnswer 1 kd_sha256.Kinds.ps kd_sha256.Kinds.r kd_sha256.Reads.Learnt
one_kd_sha256 κs a x y t u p q = p ∙ sym q

-- kd_sha1
pub one_kd_sha1 : OneAnswer 1 kd_sha1.Kinds.ps kd_sha1.Kinds.r kd_sha1.Reads.Learnt
one_kd_sha1 κs a x y t u p q = p ∙ sym q

-- kd_hashing_begin
pub one_kd_hashing_begin : OneAnswer 0 kd_hashing_begin.Kinds.ps kd_hashing_begin.Kinds.r kd_hashing_begin.Reads.Learnt
one_kd_hashing_begin κs a x y t u p q = p ∙ sym q

-- kd_hashing_more
pub one_kd_hashing_more : OneAnswer 1 kd_hashing_more.Kinds.ps kd_hashing_more.Kinds.r kd_hashing_more.Reads.Learnt
one_kd_hashing_more κs a x y t u p q = p ∙ sym q

-- kd_hashing_end
pub one_kd_hashing_end : OneAnswer 0 kd_hashing_end.Kinds.ps kd_hashing_end.Kinds.r kd_hashing_end.Reads.Learnt
one_kd_hashing_end κs a x y t u p q = p ∙ sym q

-- kd_history_begin
pub one_kd_history_begin : OneAnswer 0 kd_history_begin.Kinds.ps kd_history_begin.Kinds.r kd_history_begin.Reads.Learnt
one_kd_history_begin κs a x y t u p q = p ∙ sym q

-- kd_history_more: the answer, and the layer's bytes
pub one_kd_history_more : (κs : Lfts 2) (a : Dens κs kd_history_more.Kinds.ps) (x y : (res_t kd_history_more.Kinds.r κs).Denot) (t u : AtExit (ended_of 2 kd_history_more.Kinds.ps kd_history_more.Kinds.r) κs)
    → kd_history_more.Reads.Learnt κs a x t → kd_history_more.Reads.Learnt κs a y u → (x ≡ y) × (t.1.1.0.now ≡ u.1.1.0.now)
one_kd_history_more κs a x y t u p q = (p.0 ∙ sym q.0, p.1 ∙ sym q.1)

-- kd_history_end: the answer, and the layer's bytes
pub one_kd_history_end : (κs : Lfts 1) (a : Dens κs kd_history_end.Kinds.ps) (x y : (res_t kd_history_end.Kinds.r κs).Denot) (t u : AtExit (ended_of 1 kd_history_end.Kinds.ps kd_history_end.Kinds.r) κs)
    → kd_history_end.Reads.Learnt κs a x t → kd_history_end.Reads.Learnt κs a y u → (x ≡ y) × (t.1.0.now ≡ u.1.0.now)
one_kd_history_end κs a x y t u p q = (p.0 ∙ sym q.0, p.1 ∙ sym q.1)

-- kd_store_size
pub one_kd_store_size : OneAnswer 0 kd_store_size.Kinds.ps kd_store_size.Kinds.r kd_store_size.Reads.Learnt
one_kd_store_size κs a x y t u p q = p ∙ sym q

-- kd_open: the answer, and the store's bytes
pub one_kd_open : (κs : Lfts 1) (a : Dens κs kd_open.Kinds.ps) (x y : (res_t kd_open.Kinds.r κs).Denot) (t u : AtExit (ended_of 1 kd_open.Kinds.ps kd_open.Kinds.r) κs)
    → kd_open.Reads.Learnt κs a x t → kd_open.Reads.Learnt κs a y u → (x ≡ y) × (t.0.now ≡ u.0.now)
one_kd_open κs a x y t u p q = (p.0 ∙ sym q.0, p.1 ∙ sym q.1)

-- kd_held
pub one_kd_held : OneAnswer 1 kd_held.Kinds.ps kd_held.Kinds.r kd_held.Reads.Learnt
one_kd_held κs a x y t u p q = p ∙ sym q

-- kd_take: the answer, and the store's bytes
pub one_kd_take : (κs : Lfts 2) (a : Dens κs kd_take.Kinds.ps) (x y : (res_t kd_take.Kinds.r κs).Denot) (t u : AtExit (ended_of 2 kd_take.Kinds.ps kd_take.Kinds.r) κs)
    → kd_take.Reads.Learnt κs a x t → kd_take.Reads.Learnt κs a y u → (x ≡ y) × (t.0.now ≡ u.0.now)
one_kd_take κs a x y t u p q = (p.0 ∙ sym q.0, p.1 ∙ sym q.1)

-- kd_take_reject
pub one_kd_take_reject : OneAnswer 2 kd_take_reject.Kinds.ps kd_take_reject.Kinds.r kd_take_reject.Reads.Learnt
one_kd_take_reject κs a x y t u p q = p ∙ sym q

-- kd_serve: the answer, and the output's bytes
pub one_kd_serve : (κs : Lfts 3) (a : Dens κs kd_serve.Kinds.ps) (x y : (res_t kd_serve.Kinds.r κs).Denot) (t u : AtExit (ended_of 3 kd_serve.Kinds.ps kd_serve.Kinds.r) κs)
    → kd_serve.Reads.Learnt κs a x t → kd_serve.Reads.Learnt κs a y u → (x ≡ y) × (t.1.1.0.now ≡ u.1.1.0.now)
one_kd_serve κs a x y t u p q = (p.0 ∙ sym q.0, p.1 ∙ sym q.1)

-- kd_load_layer: the answer, and the store's bytes
pub one_kd_load_layer : (κs : Lfts 2) (a : Dens κs kd_load_layer.Kinds.ps) (x y : (res_t kd_load_layer.Kinds.r κs).Denot) (t u : AtExit (ended_of 2 kd_load_layer.Kinds.ps kd_load_layer.Kinds.r) κs)
    → kd_load_layer.Reads.Learnt κs a x t → kd_load_layer.Reads.Learnt κs a y u → (x ≡ y) × (t.0.now ≡ u.0.now)
one_kd_load_layer κs a x y t u p q = (p.0 ∙ sym q.0, p.1 ∙ sym q.1)

-- kd_judge_block: the answer, and the store's bytes
pub one_kd_judge_block : (κs : Lfts 2) (a : Dens κs kd_judge_block.Kinds.ps) (x y : (res_t kd_judge_block.Kinds.r κs).Denot) (t u : AtExit (ended_of 2 kd_judge_block.Kinds.ps kd_judge_block.Kinds.r) κs)
    → kd_judge_block.Reads.Learnt κs a x t → kd_judge_block.Reads.Learnt κs a y u → (x ≡ y) × (t.0.now ≡ u.0.now)
one_kd_judge_block κs a x y t u p q = (p.0 ∙ sym q.0, p.1 ∙ sym q.1)

-- kd_judge_piece: the answer, and the store's bytes
pub one_kd_judge_piece : (κs : Lfts 2) (a : Dens κs kd_judge_piece.Kinds.ps) (x y : (res_t kd_judge_piece.Kinds.r κs).Denot) (t u : AtExit (ended_of 2 kd_judge_piece.Kinds.ps kd_judge_piece.Kinds.r) κs)
    → kd_judge_piece.Reads.Learnt κs a x t → kd_judge_piece.Reads.Learnt κs a y u → (x ≡ y) × (t.0.now ≡ u.0.now)
one_kd_judge_piece κs a x y t u p q = (p.0 ∙ sym q.0, p.1 ∙ sym q.1)

-- kd_judge_hybrid_piece: the answer, and the store's bytes
pub one_kd_judge_hybrid_piece : (κs : Lfts 2) (a : Dens κs kd_judge_hybrid_piece.Kinds.ps) (x y : (res_t kd_judge_hybrid_piece.Kinds.r κs).Denot) (t u : AtExit (ended_of 2 kd_judge_hybrid_piece.Kinds.ps kd_judge_hybrid_piece.Kinds.r) κs)
    → kd_judge_hybrid_piece.Reads.Learnt κs a x t → kd_judge_hybrid_piece.Reads.Learnt κs a y u → (x ≡ y) × (t.0.now ≡ u.0.now)
one_kd_judge_hybrid_piece κs a x y t u p q = (p.0 ∙ sym q.0, p.1 ∙ sym q.1)

-- kd_clear: the answer, and the store's bytes
pub one_kd_clear : (κs : Lfts 1) (a : Dens κs kd_clear.Kinds.ps) (x y : (res_t kd_clear.Kinds.r κs).Denot) (t u : AtExit (ended_of 1 kd_clear.Kinds.ps kd_clear.Kinds.r) κs)
    → kd_clear.Reads.Learnt κs a x t → kd_clear.Reads.Learnt κs a y u → (x ≡ y) × (t.0.now ≡ u.0.now)
one_kd_clear κs a x y t u p q = (p.0 ∙ sym q.0, p.1 ∙ sym q.1)

-- kd_marked
pub one_kd_marked : OneAnswer 1 kd_marked.Kinds.ps kd_marked.Kinds.r kd_marked.Reads.Learnt
one_kd_marked κs a x y t u p q = p ∙ sym q

-- kd_next_request
pub one_kd_next_request : OneAnswer 1 kd_next_request.Kinds.ps kd_next_request.Kinds.r kd_next_request.Reads.Learnt
one_kd_next_request κs a x y t u p q = p ∙ sym q

-- kd_pick_piece
pub one_kd_pick_piece : OneAnswer 2 kd_pick_piece.Kinds.ps kd_pick_piece.Kinds.r kd_pick_piece.Reads.Learnt
one_kd_pick_piece κs a x y t u p q = p ∙ sym q

-- kd_extends
pub one_kd_extends : OneAnswer 2 kd_extends.Kinds.ps kd_extends.Kinds.r kd_extends.Reads.Learnt
one_kd_extends κs a x y t u p q = p ∙ sym q

-- kd_piece_hashes: the answer, and the output's bytes
pub one_kd_piece_hashes : (κs : Lfts 3) (a : Dens κs kd_piece_hashes.Kinds.ps) (x y : (res_t kd_piece_hashes.Kinds.r κs).Denot) (t u : AtExit (ended_of 3 kd_piece_hashes.Kinds.ps kd_piece_hashes.Kinds.r) κs)
    → kd_piece_hashes.Reads.Learnt κs a x t → kd_piece_hashes.Reads.Learnt κs a y u → (x ≡ y) × (t.1.1.1.0.now ≡ u.1.1.1.0.now)
one_kd_piece_hashes κs a x y t u p q = (p.0 ∙ sym q.0, p.1 ∙ sym q.1)

-- kd_bitfield: the answer, and the output's bytes
pub one_kd_bitfield : (κs : Lfts 2) (a : Dens κs kd_bitfield.Kinds.ps) (x y : (res_t kd_bitfield.Kinds.r κs).Denot) (t u : AtExit (ended_of 2 kd_bitfield.Kinds.ps kd_bitfield.Kinds.r) κs)
    → kd_bitfield.Reads.Learnt κs a x t → kd_bitfield.Reads.Learnt κs a y u → (x ≡ y) × (t.1.0.now ≡ u.1.0.now)
one_kd_bitfield κs a x y t u p q = (p.0 ∙ sym q.0, p.1 ∙ sym q.1)

-- kd_version
pub one_kd_version : OneAnswer 0 kd_version.Kinds.ps kd_version.Kinds.r kd_version.Reads.Learnt
one_kd_version κs a x y t u p q = p ∙ sym q

-- kd_stream_begin
pub one_kd_stream_begin : OneAnswer 0 kd_stream_begin.Kinds.ps kd_stream_begin.Kinds.r kd_stream_begin.Reads.Learnt
one_kd_stream_begin κs a x y t u p q = p ∙ sym q

-- kd_stream_hear: the answer, and the room's bytes
pub one_kd_stream_hear : (κs : Lfts 2) (a : Dens κs kd_stream_hear.Kinds.ps) (x y : (res_t kd_stream_hear.Kinds.r κs).Denot) (t u : AtExit (ended_of 2 kd_stream_hear.Kinds.ps kd_stream_hear.Kinds.r) κs)
    → kd_stream_hear.Reads.Learnt κs a x t → kd_stream_hear.Reads.Learnt κs a y u → (x ≡ y) × (t.1.1.0.now ≡ u.1.1.0.now)
one_kd_stream_hear κs a x y t u p q = (p.0 ∙ sym q.0, p.1 ∙ sym q.1)

-- kd_frame: the answer, and the output's bytes
pub one_kd_frame : (κs : Lfts 2) (a : Dens κs kd_frame.Kinds.ps) (x y : (res_t kd_frame.Kinds.r κs).Denot) (t u : AtExit (ended_of 2 kd_frame.Kinds.ps kd_frame.Kinds.r) κs)
    → kd_frame.Reads.Learnt κs a x t → kd_frame.Reads.Learnt κs a y u → (x ≡ y) × (t.1.0.now ≡ u.1.0.now)
one_kd_frame κs a x y t u p q = (p.0 ∙ sym q.0, p.1 ∙ sym q.1)

-- kd_save: the answer, and the output's bytes
pub one_kd_save : (κs : Lfts 2) (a : Dens κs kd_save.Kinds.ps) (x y : (res_t kd_save.Kinds.r κs).Denot) (t u : AtExit (ended_of 2 kd_save.Kinds.ps kd_save.Kinds.r) κs)
    → kd_save.Reads.Learnt κs a x t → kd_save.Reads.Learnt κs a y u → (x ≡ y) × (t.1.0.now ≡ u.1.0.now)
one_kd_save κs a x y t u p q = (p.0 ∙ sym q.0, p.1 ∙ sym q.1)

-- kd_load, kd_repair: the answer, and the store's bytes
pub one_kd_load : (κs : Lfts 2) (a : Dens κs kd_load.Kinds.ps) (x y : (res_t kd_load.Kinds.r κs).Denot) (t u : AtExit (ended_of 2 kd_load.Kinds.ps kd_load.Kinds.r) κs)
    → kd_load.Reads.Learnt κs a x t → kd_load.Reads.Learnt κs a y u → (x ≡ y) × (t.0.now ≡ u.0.now)
one_kd_load κs a x y t u p q = (p.0 ∙ sym q.0, p.1 ∙ sym q.1)

pub one_kd_repair : (κs : Lfts 2) (a : Dens κs kd_repair.Kinds.ps) (x y : (res_t kd_repair.Kinds.r κs).Denot) (t u : AtExit (ended_of 2 kd_repair.Kinds.ps kd_repair.Kinds.r) κs)
    → kd_repair.Reads.Learnt κs a x t → kd_repair.Reads.Learnt κs a y u → (x ≡ y) × (t.0.now ≡ u.0.now)
one_kd_repair κs a x y t u p q = (p.0 ∙ sym q.0, p.1 ∙ sym q.1)

-- kd_torrent_read
pub one_kd_torrent_read : OneAnswer 1 kd_torrent_read.Kinds.ps kd_torrent_read.Kinds.r kd_torrent_read.Reads.Learnt
one_kd_torrent_read κs a x y t u p q = p ∙ sym q

-- kd_torrent_file
pub one_kd_torrent_file : OneAnswer 1 kd_torrent_file.Kinds.ps kd_torrent_file.Kinds.r kd_torrent_file.Reads.Learnt
one_kd_torrent_file κs a x y t u p q = p ∙ sym q

-- kd_torrent_path
pub one_kd_torrent_path : OneAnswer 1 kd_torrent_path.Kinds.ps kd_torrent_path.Kinds.r kd_torrent_path.Reads.Learnt
one_kd_torrent_path κs a x y t u p q = p ∙ sym q

-- kd_torrent_list: the answer, and the output's bytes
pub one_kd_torrent_list : (κs : Lfts 2) (a : Dens κs kd_torrent_list.Kinds.ps) (x y : (res_t kd_torrent_list.Kinds.r κs).Denot) (t u : AtExit (ended_of 2 kd_torrent_list.Kinds.ps kd_torrent_list.Kinds.r) κs)
    → kd_torrent_list.Reads.Learnt κs a x t → kd_torrent_list.Reads.Learnt κs a y u → (x ≡ y) × (t.1.0.now ≡ u.1.0.now)
one_kd_torrent_list κs a x y t u p q = (p.0 ∙ sym q.0, p.1 ∙ sym q.1)

-- kd_facts
pub one_kd_facts : OneAnswer 1 kd_facts.Kinds.ps kd_facts.Kinds.r kd_facts.Reads.Learnt
one_kd_facts κs a x y t u p q = p ∙ sym q

-- kd_torrent_info
pub one_kd_torrent_info : OneAnswer 1 kd_torrent_info.Kinds.ps kd_torrent_info.Kinds.r kd_torrent_info.Reads.Learnt
one_kd_torrent_info κs a x y t u p q = p ∙ sym q

-- kd_torrent_name
pub one_kd_torrent_name : OneAnswer 1 kd_torrent_name.Kinds.ps kd_torrent_name.Kinds.r kd_torrent_name.Reads.Learnt
one_kd_torrent_name κs a x y t u p q = p ∙ sym q

-- kd_torrent_hybrid
pub one_kd_torrent_hybrid : OneAnswer 1 kd_torrent_hybrid.Kinds.ps kd_torrent_hybrid.Kinds.r kd_torrent_hybrid.Reads.Learnt
one_kd_torrent_hybrid κs a x y t u p q = p ∙ sym q

-- kd_torrent_v1_piece
pub one_kd_torrent_v1_piece : OneAnswer 1 kd_torrent_v1_piece.Kinds.ps kd_torrent_v1_piece.Kinds.r kd_torrent_v1_piece.Reads.Learnt
one_kd_torrent_v1_piece κs a x y t u p q = p ∙ sym q

-- kd_torrent_v1_pieces
pub one_kd_torrent_v1_pieces : OneAnswer 1 kd_torrent_v1_pieces.Kinds.ps kd_torrent_v1_pieces.Kinds.r kd_torrent_v1_pieces.Reads.Learnt
one_kd_torrent_v1_pieces κs a x y t u p q = p ∙ sym q

-- kd_place
pub one_kd_place : OneAnswer 1 kd_place.Kinds.ps kd_place.Kinds.r kd_place.Reads.Learnt
one_kd_place κs a x y t u p q = p ∙ sym q

-- kd_first_piece
pub one_kd_first_piece : OneAnswer 1 kd_first_piece.Kinds.ps kd_first_piece.Kinds.r kd_first_piece.Reads.Learnt
one_kd_first_piece κs a x y t u p q = p ∙ sym q

-- kd_torrent_write: the answer, and the output's bytes
pub one_kd_torrent_write : (κs : Lfts 4) (a : Dens κs kd_torrent_write.Kinds.ps) (x y : (res_t kd_torrent_write.Kinds.r κs).Denot) (t u : AtExit (ended_of 4 kd_torrent_write.Kinds.ps kd_torrent_write.Kinds.r) κs)
    → kd_torrent_write.Reads.Learnt κs a x t → kd_torrent_write.Reads.Learnt κs a y u → (x ≡ y) × (t.1.1.1.1.0.now ≡ u.1.1.1.1.0.now)
one_kd_torrent_write κs a x y t u p q = (p.0 ∙ sym q.0, p.1 ∙ sym q.1)

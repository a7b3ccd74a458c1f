-- 00, demand 1, says "every entry point": here are all of them, as one type. What each is asked, the number it answers with, and the memories
-- that it was lent, before and after: the definitions that the contracts of crates/kombudeva are equations to (Says).
-- Assumes nothing.
use Prim.{Unit}
use Rattle.std.specs.Prelude.{◌≡◌, List, [], ◌∷◌, ℕ}
use Rattle.octets.specs.Octets.{zero_hash}
use Rattle.numbers.specs.Numbers.{InTable}
use Rattle.frames.specs.Frames.{frame_answer, frame_after}
use Rattle.stream.specs.Reading.{no_event, hear_answer, hear_room}
use Rattle.stream.specs.declared.Stream.{Stream}
use Rattle.sha256.specs.Answer.{hashed_of}
use Rattle.sha_1.specs.Answer.{zero_sha1, sha1_of}
use Rattle.running.specs.Bursts as Bursts
use Rattle.running.specs.declared.Hashing.{Hashing}
use Rattle.history.specs.Answers as Histories
use Rattle.history.specs.declared.History.{History}
use Rattle.store.specs.Store.{size_answer}
use Rattle.serve.specs.Serve.{serve_answer}
use Rattle.torrent.specs.Torrent.{read_of, file_read, path_read, no_torrent, no_file_read, no_part_read}
use Rattle.catalogue.specs.Catalogue.{list_answer, list_after}
use Rattle.about.specs.About.{info_read, name_read}
use Rattle.v1.specs.V1.{no_hybrid, hybrid_of, no_piece, v1_piece_of, no_part, v1_pieces_of}
use Rattle.places.specs.Places.{first_answer, no_place, place_answer}
use Rattle.writer.specs.Write.{write_answer, write_after}
use Rattle.words.specs.Messages.{Rejected}
use Rattle.words.specs.History.{Bytes, serve, ask, send, Call, take, load_layer, judge_block, judge_piece, judge_hybrid_piece, clear, reopen, load, repair, look, answer, number as store_number, after, sent_to}
use Rattle.words.specs.Answers.{Beside}

-- a call of any entry point
pub data AnyCall : Type 0 where
  -- kd_open, kd_held, kd_take, kd_take_reject, kd_serve, kd_load_layer, kd_judge_block, kd_judge_piece, kd_judge_hybrid_piece, kd_clear, kd_marked, kd_bitfield,
  -- kd_next_request, kd_pick_piece, kd_save, kd_load, kd_repair, kd_extends, kd_facts, kd_piece_hashes, and the bytes lent as their store
  on_store : (c : Call) (s : List ℕ) → AnyCall
  -- kd_version
  version : AnyCall
  -- kd_sha256, kd_sha1, kd_store_size
  sha256 : (m : List ℕ) → AnyCall
  sha1 : (m : List ℕ) → AnyCall
  store_size : (n plen : ℕ) → AnyCall
  -- kd_hashing_begin, kd_hashing_more, kd_hashing_end: a state, a burst
  hashing_begin : AnyCall
  hashing_more : (h : Hashing) (burst : List ℕ) → AnyCall
  hashing_end : (h : Hashing) → AnyCall
  -- kd_history_begin, kd_history_more, kd_history_end: a state, a burst, the memory lent for the layer
  history_begin : (plen : ℕ) → AnyCall
  history_more : (h : History) (burst layer : List ℕ) → AnyCall
  history_end : (h : History) (layer : List ℕ) → AnyCall
  -- kd_stream_begin, kd_stream_hear: a state, bytes that came, the room; kd_frame: a message, the output
  stream_begin : AnyCall
  stream_hear : (s : Stream) (bytes room : List ℕ) → Bytes bytes → AnyCall
  frame : (m out : List ℕ) → AnyCall
  -- kd_torrent_read, kd_torrent_file, kd_torrent_path, kd_torrent_list, kd_torrent_info, kd_torrent_name, kd_torrent_write: `out` is the output
  torrent_read : (t : List ℕ) → AnyCall
  torrent_file : (t : List ℕ) (file : ℕ) → AnyCall
  torrent_path : (t : List ℕ) (file element : ℕ) → AnyCall
  torrent_list : (t out : List ℕ) → AnyCall
  torrent_info : (t : List ℕ) → AnyCall
  torrent_name : (t : List ℕ) → AnyCall
  torrent_write : (list text : List ℕ) (plen : ℕ) (name out : List ℕ) → AnyCall
  -- kd_torrent_hybrid, kd_torrent_v1_piece, kd_torrent_v1_pieces
  torrent_hybrid : (t : List ℕ) → AnyCall
  torrent_v1_piece : (t : List ℕ) (file piece : ℕ) → AnyCall
  torrent_v1_pieces : (t : List ℕ) (file : ℕ) → AnyCall
  -- kd_place, kd_first_piece: a list, a piece length, a piece of the wire or a file
  place : (list : List ℕ) (plen piece : ℕ) → AnyCall
  first_piece : (list : List ℕ) (plen file : ℕ) → AnyCall

-- what a call says: a number; or none, if there is nothing that it could be refused for
pub data Said : Type 0 where
  number : ℕ → Said
  none : Said

-- it is from the table, if it is a number
abbrev pub FromTable : Said → Type 0
FromTable (number n) = InTable n
FromTable none = Unit {0}

-- it is a refusal: a number other than 0
abbrev pub Refused : Said → Type 0
Refused (number n) = n ≡ 0 → ⊥
Refused none = ⊥

abbrev pub Silent : Said → Type 0
Silent (number n) = ⊥
Silent none = Unit {0}

-- the number that it is answered with
abbrev pub said : AnyCall → Said
said (on_store c s) = number (store_number c s)
said (sha256 m) = number (hashed_of m).number
said (sha1 m) = number (sha1_of m).number
said (store_size n plen) = number (size_answer n plen).number
said hashing_begin = none
said (hashing_more h burst) = number (Bursts.more_answer h burst).number
said (hashing_end h) = number (Bursts.end_answer h).number
said (history_begin plen) = number (Histories.begin_answer plen).number
said (history_more h burst layer) = number (Histories.more_answer h burst layer).number
said (history_end h layer) = number (Histories.end_answer h layer).number
said version = none
said stream_begin = none
said (stream_hear s bytes room b) = number (hear_answer s room bytes).number
said (frame m out) = number (frame_answer m out).number
said (torrent_read t) = number (read_of t).number
said (torrent_file t file) = number (file_read t file).number
said (torrent_path t file element) = number (path_read t file element).number
said (torrent_list t out) = number (list_answer t out).number
said (torrent_info t) = number (info_read t).number
said (torrent_name t) = number (name_read t).number
said (torrent_hybrid t) = number (hybrid_of t).number
said (torrent_v1_piece t file piece) = number (v1_piece_of t file piece).number
said (torrent_v1_pieces t file) = number (v1_pieces_of t file).number
said (torrent_write list text plen name out) = number (write_answer list text plen name out).number
said (place list plen piece) = number (place_answer list plen piece).number
said (first_piece list plen file) = number (first_answer list plen file).number

-- the output that a call on a store is lent beside it, if any, and what is left there
abbrev pub output : Call → List (List ℕ)
output (take m b) = []
output (load_layer l b) = []
output (judge_block i d b) = []
output (judge_piece i d b) = []
output (judge_hybrid_piece i d v z b o) = []
output (clear i) = []
output (reopen n plen root o) = []
output (load b x) = []
output (repair b x) = []
output (look (ask k)) = []
output (look (send k out b)) = out ∷ []

abbrev pub output_after : Call → List ℕ → List (List ℕ)
output_after (take m b) s = []
output_after (load_layer l b) s = []
output_after (judge_block i d b) s = []
output_after (judge_piece i d b) s = []
output_after (judge_hybrid_piece i d v z b o) s = []
output_after (clear i) s = []
output_after (reopen n plen root o) s = []
output_after (load b x) s = []
output_after (repair b x) s = []
output_after (look (ask k)) s = []
output_after (look (send k out b)) s = sent_to k s out ∷ []

-- the memories lent to it, store, output, a history's layer or a stream's room, before the call; what is only read, besides a store, is not among them
abbrev pub lent : AnyCall → List (List ℕ)
lent (on_store c s) = s ∷ output c
lent (sha256 m) = []
lent (sha1 m) = []
lent (store_size n plen) = []
lent hashing_begin = []
lent (hashing_more h burst) = []
lent (hashing_end h) = []
lent (history_begin plen) = []
lent (history_more h burst layer) = layer ∷ []
lent (history_end h layer) = layer ∷ []
lent version = []
lent stream_begin = []
lent (stream_hear s bytes room b) = room ∷ []
lent (frame m out) = out ∷ []
lent (torrent_read t) = []
lent (torrent_file t file) = []
lent (torrent_path t file element) = []
lent (torrent_list t out) = out ∷ []
lent (torrent_info t) = []
lent (torrent_name t) = []
lent (torrent_hybrid t) = []
lent (torrent_v1_piece t file piece) = []
lent (torrent_v1_pieces t file) = []
lent (torrent_write list text plen name out) = out ∷ []
lent (place list plen piece) = []
lent (first_piece list plen file) = []

-- and after it
abbrev pub left : AnyCall → List (List ℕ)
left (on_store c s) = after c s ∷ output_after c s
left (sha256 m) = []
left (sha1 m) = []
left (store_size n plen) = []
left hashing_begin = []
left (hashing_more h burst) = []
left (hashing_end h) = []
left (history_begin plen) = []
left (history_more h burst layer) = Histories.more_layer h burst layer ∷ []
left (history_end h layer) = Histories.end_layer h layer ∷ []
left version = []
left stream_begin = []
left (stream_hear s bytes room b) = hear_room s room bytes ∷ []
left (frame m out) = frame_after m out ∷ []
left (torrent_read t) = []
left (torrent_file t file) = []
left (torrent_path t file element) = []
left (torrent_list t out) = list_after t out ∷ []
left (torrent_info t) = []
left (torrent_name t) = []
left (torrent_hybrid t) = []
left (torrent_v1_piece t file piece) = []
left (torrent_v1_pieces t file) = []
left (torrent_write list text plen name out) = write_after list text plen name out ∷ []
left (place list plen piece) = []
left (first_piece list plen file) = []

-- it is a request that is refused with 2, 3 or 12, and so gets a reject
pub data RejectSent : AnyCall → Type 0 where
  request : {s m out : List ℕ} {x : Bytes m} {y : Bytes out} → Rejected (serve_answer s m out).number → RejectSent (on_store (look (send (serve m x) out y)) s)

-- 01: "Beside a refusal every count, size and value is zero; beside a reject the size is 49." A state that a burst was to go on from comes
-- back as it was given. A stream's moves on beside 1, 11 and 30, and the bytes used are counted: how, exactly, is said in crates/stream (AnswerLaws).
abbrev pub ValuesZero : AnyCall → Type 0
ValuesZero (on_store c s) = Beside c (answer c s)
ValuesZero (sha256 m) = (hashed_of m).hash ≡ zero_hash
ValuesZero (sha1 m) = (sha1_of m).hash ≡ zero_sha1
ValuesZero (store_size n plen) = (size_answer n plen).count ≡ 0
ValuesZero hashing_begin = ⊥
ValuesZero (hashing_more h burst) = (Bursts.more_answer h burst).hashing ≡ h
ValuesZero (hashing_end h) = (Bursts.end_answer h).hash ≡ zero_hash
ValuesZero (history_begin plen) = (Histories.begin_answer plen).history ≡ Histories.no_history
ValuesZero (history_more h burst layer) = (Histories.more_answer h burst layer).history ≡ h
ValuesZero (history_end h layer) =
    ((Histories.end_answer h layer).length ≡ 0) × ((Histories.end_answer h layer).root ≡ zero_hash) × ((Histories.end_answer h layer).layer_size ≡ 0)
ValuesZero version = ⊥
ValuesZero stream_begin = ⊥
ValuesZero (stream_hear s bytes room b) = ((hear_answer s room bytes).event ≡ no_event) × ((hear_answer s room bytes).size ≡ 0)
ValuesZero (frame m out) = (frame_answer m out).count ≡ 0
ValuesZero (torrent_read t) = read_of t ≡ no_torrent (read_of t).number
ValuesZero (torrent_file t file) = file_read t file ≡ no_file_read (file_read t file).number
ValuesZero (torrent_path t file element) = path_read t file element ≡ no_part_read (path_read t file element).number
ValuesZero (torrent_list t out) = (list_answer t out).count ≡ 0
ValuesZero (torrent_info t) = info_read t ≡ no_part_read (info_read t).number
ValuesZero (torrent_name t) = name_read t ≡ no_part_read (name_read t).number
ValuesZero (torrent_hybrid t) = hybrid_of t ≡ no_hybrid (hybrid_of t).number
ValuesZero (torrent_v1_piece t file piece) = v1_piece_of t file piece ≡ no_piece (v1_piece_of t file piece).number
ValuesZero (torrent_v1_pieces t file) = v1_pieces_of t file ≡ no_part (v1_pieces_of t file).number
ValuesZero (torrent_write list text plen name out) = (write_answer list text plen name out).count ≡ 0
ValuesZero (place list plen piece) = place_answer list plen piece ≡ no_place (place_answer list plen piece).number
ValuesZero (first_piece list plen file) = (first_answer list plen file).count ≡ 0

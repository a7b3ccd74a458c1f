-- 02, request 12, of two calls together: the hash and the zeros that kd_torrent_v1_piece answers of a file's piece are those with which
-- kd_judge_hybrid_piece gives 0 to the file's own piece.
-- Assumes nothing.
use Rattle.std.specs.Prelude.{◌≡◌, ◌⊎◌, List, ◌++◌, ℕ, ◌+◌, ◌-◌, ◌*◌, ◌<◌, length, replicate}
use Rattle.std.proofs.Common.{ap, sym, ◌∙◌, subst}
use Rattle.octets.specs.Octets.{cut}
use Rattle.limits.specs.Limits.{max_levels}
use Rattle.sha_1.specs.Sha1.{sha1}
use Rattle.tree.specs.Geometry.{piece_count}
use Rattle.store.specs.Store.{file_length, piece_length, height_of}
use Rattle.bencode.specs.Grammar.{dictionary, Entries, encode, Valid}
use Rattle.meaning.specs.Nth.{Nth}
use Rattle.meaning.specs.Torrent.{File, plen_of, files_of}
use Rattle.halves.specs.V1Half.{total, entries_of_half}
use Rattle.halves.specs.Halves.{Hybrid}
use Rattle.halves.specs.Stream.{StreamOf, file_start, zeros_behind, HashesAre}
use Rattle.pieces.specs.Pieces.{piece_height}
use Rattle.pieces.specs.Hybrid.{hybrid_answer}
use Rattle.torrent.specs.Torrent.{read_of}
use Rattle.v1.specs.V1.{pieces_in, v1_piece_of}
use Rattle.v1.specs.V1Means.{content_size, piece_is, piece_covers}
use Rattle.words.specs.Held.{Holds}
use Rattle.words.specs.History.{OurStore}
use Rattle.words.specs.Shown.{held_by, of_file, Shown}
use Rattle.words.specs.File.{For, piece_for}
use Rattle.promises.specs.Hybrid.{the_files_piece_right}

-- a hybrid that gets 0, whose `pieces` has the hashes of the bytes of its v1 half; file n of it, with its content; and a store of ours that was
-- opened for it, with the torrent's piece length
module _ (torrent : List ℕ) (es : Entries) (start : torrent ≡ encode (dictionary es)) (valid : Valid (dictionary es) max_levels) (taken : (read_of torrent).number ≡ 0) (hybrid : Hybrid es)
    (cs : List (List ℕ)) (bytes : List ℕ) (stream : StreamOf (entries_of_half es) cs bytes) (hashes : HashesAre (plen_of es) (pieces_in es) bytes)
    (n : ℕ) (v : File) (at : Nth (files_of es) n v) (file : List ℕ) (its : Nth cs n file)
    (s : List ℕ) (ours : OurStore s) (told : For file s) (plen : piece_length s ≡ plen_of es) where
  abbrev hash : ℕ → List ℕ
  hash i = (v1_piece_of torrent n i).hash

  abbrev zeros : ℕ → ℕ
  zeros i = (v1_piece_of torrent n i).zeros

  size : length file ≡ v.size
  size = content_size torrent es start valid taken hybrid n v at cs bytes stream file its

  -- the file's own piece, where kd_held gives its node, is right by both halves, or a pair is shown
  pub judged_with_what_is_answered : (i : ℕ) → i < piece_count (file_length s) (piece_length s) → (x : List ℕ) → Holds s (piece_height s) i x
      → Shown (height_of s) (held_by s) (of_file file) ⊎ ((hybrid_answer s i (piece_for file s i) (hash i) (zeros i)).number ≡ 0)
  judged_with_what_is_answered i l x held =
      subst (λ (z : ℕ). Shown (height_of s) (held_by s) (of_file file) ⊎ ((hybrid_answer s i (piece_for file s i) (hash i) z).number ≡ 0)) (sym same_zeros)
      (the_files_piece_right file s told i (total (entries_of_half es)) place l ours x (hash i) held covers)
    where
      place : ℕ
      place = file_start (entries_of_half es) n + i * plen_of es

      inside : i < piece_count v.size (plen_of es)
      inside = subst (λ (m : ℕ). i < piece_count m (plen_of es)) (told.long ∙ size) (subst (λ (p : ℕ). i < piece_count (file_length s) p) plen l)

      same_zeros : zeros i ≡ zeros_behind (piece_length s) (total (entries_of_half es)) place (length file - i * piece_length s)
      same_zeros =
          (piece_is torrent es start valid taken hybrid n v at i inside).zeros
          ∙ ap (λ (m : ℕ). zeros_behind (plen_of es) (total (entries_of_half es)) place (m - i * plen_of es)) (sym size)
          ∙ ap (λ (p : ℕ). zeros_behind p (total (entries_of_half es)) place (length file - i * p)) (sym plen)

      covers : hash i ≡ sha1 (cut file (i * piece_length s) (piece_length s) ++ replicate (zeros_behind (piece_length s) (total (entries_of_half es)) place (length file - i * piece_length s)) 0)
      covers =
          piece_covers torrent es start valid taken hybrid n v at cs bytes stream hashes file its i inside
          ∙ ap (λ (z : ℕ). sha1 (cut file (i * plen_of es) (plen_of es) ++ replicate z 0)) same_zeros
          ∙ ap (λ (p : ℕ). sha1 (cut file (i * p) p ++ replicate (zeros_behind (piece_length s) (total (entries_of_half es)) place (length file - i * piece_length s)) 0)) (sym plen)

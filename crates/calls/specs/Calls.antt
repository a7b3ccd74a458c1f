-- 01, "Numbers given back", for the calls that read a torrent: which answers there are, and what a record of the list carries. The
-- numbers 19 to 29, 31 and 11 are in the table; `torrent`'s Answers says when each of 19 to 28 and 31 is given.
-- Assumes nothing.
use Rattle.std.specs.Prelude.{◌≡◌, ◌⊎◌, List, ℕ, ◌+◌, ◌*◌, ◌≤◌, ◌<◌, length}
use Rattle.octets.specs.Octets.{cut, number_at}
use Rattle.numbers.specs.Numbers.{no_room, no_such_part, halves_differ, refused}
use Rattle.numbers.specs.declared.Answer.{Answer}
use Rattle.filetree.specs.Tree.{max_elements}
use Rattle.torrent.specs.Torrent.{PartRead, FileRead, Torrent, no_torrent, no_file_read, no_part_read}

-- the numbers of a torrent that is refused: 19 to 28, or 31
abbrev pub OfTorrent : ℕ → Type 0
OfTorrent n = ((19 ≤ n) × (n ≤ 28)) ⊎ (n ≡ halves_differ)

-- kd_torrent_read: done, or such a number beside zeros
pub data ReadOutcome : Torrent → Type 0 where
  done : (r : Torrent) → r.number ≡ 0 → ReadOutcome r
  bad_torrent : (n : ℕ) → OfTorrent n → ReadOutcome (no_torrent n)

-- kd_torrent_file: done, such a number, or 29, beside zeros
pub data FileOutcome : FileRead → Type 0 where
  done : (r : FileRead) → r.number ≡ 0 → FileOutcome r
  bad_torrent : (n : ℕ) → OfTorrent n → FileOutcome (no_file_read n)
  no_file : FileOutcome (no_file_read no_such_part)

-- kd_torrent_path: the same
pub data PathOutcome : PartRead → Type 0 where
  done : (r : PartRead) → r.number ≡ 0 → PathOutcome r
  bad_torrent : (n : ℕ) → OfTorrent n → PathOutcome (no_part_read n)
  no_element : PathOutcome (no_part_read no_such_part)

-- kd_torrent_list, with the output before and after: done; or such a number or 11, beside zero, and the output as it was
pub data ListOutcome (out : List ℕ) : Answer → List ℕ → Type 0 where
  done : (a : Answer) (after : List ℕ) → a.number ≡ 0 → ListOutcome out a after
  bad_torrent : (n : ℕ) → OfTorrent n → ListOutcome out (refused n) out
  too_short : ListOutcome out (refused no_room) out

-- the bytes of a record, read as numbers, say what `kd_torrent_file` says of the file and `kd_torrent_path` of each path element;
-- places behind the last element are zero
pub record RecordIs (bytes : List ℕ) (file : FileRead) (part : ℕ → PartRead) : Type 0 where
  pub all : length bytes ≡ 56 + 8 * max_elements
  pub length_is : number_at bytes 0 8 ≡ file.length
  pub root : cut bytes 8 32 ≡ file.root
  pub layer_start : number_at bytes 40 4 ≡ file.start
  pub layer_size : number_at bytes 44 4 ≡ file.size
  pub elements : number_at bytes 48 4 ≡ file.elements
  pub zero : number_at bytes 52 4 ≡ 0
  pub few : file.elements ≤ max_elements
  pub element_start : (k : ℕ) → k < file.elements → number_at bytes (56 + 8 * k) 4 ≡ (part k).start
  pub element_size : (k : ℕ) → k < file.elements → number_at bytes (60 + 8 * k) 4 ≡ (part k).size
  pub behind : (k : ℕ) → file.elements ≤ k → k < max_elements → number_at bytes (56 + 8 * k) 8 ≡ 0

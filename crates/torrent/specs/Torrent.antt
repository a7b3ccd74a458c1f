-- 01, "The torrent": what is answered of a torrent s, by its parts: t is the part that `file tree` is, l the part that `piece layers`
-- is. A position that is answered is the part's start and the position in it.
-- Assumes nothing.
use Rattle.std.specs.Prelude.{cond, not, ◌&&◌, ◌||◌, List, [], ◌∷◌, ℕ, zero, suc, ◌+◌, ◌-◌, length, eqb, ltb, Result, Ok, Err}
use Rattle.octets.specs.Octets.{cut, zero_hash}
use Rattle.numbers.specs.Refusals.{number_of}
use Rattle.numbers.specs.declared.Refused.{Refused}
use Rattle.numbers.specs.Numbers.{wrong_tree, two_lengths, layers_amiss, no_such_part, halves_differ}
use Rattle.sha256.specs.Sha256.{sha256}
use Rattle.bencode.specs.Grammar.{Entries}
use Rattle.meaning.specs.Torrent.{lengths_agree}
use Rattle.halves.specs.Decoded.{torrent_in}
use Rattle.halves.specs.V1Half.{is_hybrid, halves_fit}
use Rattle.metainfo.specs.Metainfo.{Keys, bytes_in, no_keys, found_keys, metainfo_of}
use Rattle.filetree.specs.Tree.{Element, Listed, Files, right, listed, files_in, file_number}
use Rattle.filetree.specs.Reading.{read_files}
use Rattle.twins.specs.Twins.{layer_count}
use Rattle.layers.specs.Layers.{keys_wide, layer_keys, worst, root_bytes, layer_string, start_of, size_of}
use Rattle.torrent.specs.declared.check.Judged.{Judged as JudgedFound}
use Rattle.torrent.specs.declared.check.Checked.{Checked as CheckedFound}
use Rattle.torrent.specs.declared.read.Torrent.{Torrent as TorrentFound}
use Rattle.torrent.specs.declared.read.FileRead.{FileRead as FileFound}
use Rattle.torrent.specs.declared.read.PartRead.{PartRead as PartFound}

-- ---- what is answered: 0 and what was found, or a number beside zeros

-- how many files, and how many layers
pub record Judged : Type 0 where
  pub number : ℕ
  pub files : ℕ
  pub layered : ℕ

-- the keys with the number, and the same counts
pub record Checked : Type 0 where
  pub keys : Keys
  pub files : ℕ
  pub layered : ℕ

-- the info hash, the piece length and how many files
pub record Torrent : Type 0 where
  pub number : ℕ
  pub hash : List ℕ
  pub plen : ℕ
  pub files : ℕ

-- a file: its length, its root, how many path elements, and its layer's part
pub record FileRead : Type 0 where
  pub number : ℕ
  pub length : ℕ
  pub root : List ℕ
  pub elements : ℕ
  pub start : ℕ
  pub size : ℕ

-- a part of the torrent
pub record PartRead : Type 0 where
  pub number : ℕ
  pub start : ℕ
  pub size : ℕ

-- ---- 25 to 28, the lowest

unfoldable pub files_number : List ℕ → List ℕ → ℕ → List Listed → ℕ
files_number t l plen fs =
    cond (lengths_agree (read_files t fs))
    (cond (keys_wide l && eqb (length (layer_keys l)) (layer_count plen (read_files t fs))) (worst t l plen 0 fs) layers_amiss)
    two_lengths

unfoldable pub tree_number : List ℕ → List ℕ → ℕ → Files → ℕ
tree_number t l plen fs = cond (right fs) (files_number t l plen (listed fs)) wrong_tree

abbrev pub as_judged : Result JudgedFound Refused → Judged
as_judged (Ok j) = record { number = 0; files = j.files; layered = j.layered }
as_judged (Err why) = record { number = number_of why; files = 0; layered = 0 }

-- beside a refusal the counts are zero
abbrev pub judged_as : ℕ → ℕ → ℕ → Judged
judged_as zero files layered = record { number = 0; files = files; layered = layered }
judged_as (suc n) files layered = record { number = suc n; files = 0; layered = 0 }

unfoldable pub judged_of : List ℕ → List ℕ → ℕ → Judged
judged_of t l plen = judged_as (tree_number t l plen (files_in t)) (length (listed (files_in t))) (layer_count plen (read_files t (listed (files_in t))))

-- ---- 19 to 28, by the v2 half alone

abbrev pub unread : ℕ → Checked
unread n = record { keys = no_keys n; files = 0; layered = 0 }

abbrev pub as_checked : Result CheckedFound Refused → Checked
as_checked (Ok c) = record { keys = found_keys c.keys; files = c.files; layered = c.layered }
as_checked (Err why) = unread (number_of why)

abbrev pub with_judged : Keys → Judged → Checked
with_judged k j = cond (eqb j.number 0) (record { keys = k; files = j.files; layered = j.layered }) (unread j.number)

abbrev pub with_keys : List ℕ → Keys → Checked
with_keys s k =
    cond (eqb k.number 0)
    (with_judged k (judged_of (bytes_in s k.tree) (bytes_in s k.layers) k.plen))
    (unread k.number)

unfoldable pub v2_checked_of : List ℕ → Checked
v2_checked_of s = with_keys s (metainfo_of s)

-- ---- then 31, by both

-- what the v1 half of a torrent makes of what its v2 half is found to be
abbrev pub with_half : Entries → Checked → Checked
with_half torrent c = cond (eqb c.keys.number 0) (cond (not (is_hybrid torrent) || halves_fit torrent) c (unread halves_differ)) c

unfoldable pub checked_of : List ℕ → Checked
checked_of s = with_half (torrent_in s) (v2_checked_of s)

-- ---- the torrent itself

-- beside a refusal all are zero
abbrev pub no_torrent : ℕ → Torrent
no_torrent n = record { number = n; hash = zero_hash; plen = 0; files = 0 }

abbrev pub as_torrent : Result TorrentFound Refused → Torrent
as_torrent (Ok t) = record { number = 0; hash = t.hash; plen = t.plen; files = t.files }
as_torrent (Err why) = no_torrent (number_of why)

-- the info hash is that of the value of `info` as it stands
abbrev pub with_checked : List ℕ → Checked → Torrent
with_checked s c =
    cond (eqb c.keys.number 0)
    (record { number = 0; hash = sha256 (bytes_in s c.keys.info); plen = c.keys.plen; files = c.files })
    (no_torrent c.keys.number)

unfoldable pub read_of : List ℕ → Torrent
read_of s = with_checked s (checked_of s)

-- ---- file n

abbrev pub no_file_read : ℕ → FileRead
no_file_read n = record { number = n; length = 0; root = zero_hash; elements = 0; start = 0; size = 0 }

-- a file that was read
abbrev pub found_file : FileFound → FileRead
found_file f = record { number = 0; length = f.length; root = f.root; elements = f.elements; start = f.start; size = f.size }

abbrev pub as_file : Result FileFound Refused → FileRead
as_file (Ok f) = found_file f
as_file (Err why) = no_file_read (number_of why)

-- the file f; l begins at `base`
abbrev pub file_answer : List ℕ → List ℕ → ℕ → ℕ → Listed → FileRead
file_answer t l base plen f =
    record {
      number = 0;
      length = f.size;
      root = root_bytes t f.size f.root;
      elements = length f.path;
      start = start_of base (layer_string l plen f.size (cut t f.root 32));
      size = size_of (layer_string l plen f.size (cut t f.root 32));
    }

-- 29 comes after all of 19 to 28 and 31
abbrev pub file_in : List ℕ → ℕ → Checked → FileRead
file_in s n c =
    cond (eqb c.keys.number 0)
    (cond (ltb n c.files)
    (file_answer (bytes_in s c.keys.tree) (bytes_in s c.keys.layers) c.keys.layers.start c.keys.plen (file_number (listed (files_in (bytes_in s c.keys.tree))) n))
    (no_file_read no_such_part))
    (no_file_read c.keys.number)

unfoldable pub file_read : List ℕ → ℕ → FileRead
file_read s n = file_in s n (checked_of s)

-- ---- element k of its path

abbrev pub no_part_read : ℕ → PartRead
no_part_read n = record { number = n; start = 0; size = 0 }

abbrev pub as_part : Result PartFound Refused → PartRead
as_part (Ok p) = record { number = 0; start = p.start; size = p.size }
as_part (Err why) = no_part_read (number_of why)

-- t begins at `base`
unfoldable pub element_in : ℕ → List Element → ℕ → PartRead
element_in base [] k = no_part_read no_such_part
element_in base (e ∷ es) zero = record { number = 0; start = base + e.start; size = e.end - e.start }
element_in base (e ∷ es) (suc k) = element_in base es k

abbrev pub path_in : List ℕ → ℕ → ℕ → Checked → PartRead
path_in s n k c =
    cond (eqb c.keys.number 0)
    (cond (ltb n c.files)
    (element_in c.keys.tree.start (file_number (listed (files_in (bytes_in s c.keys.tree))) n).path k)
    (no_part_read no_such_part))
    (no_part_read c.keys.number)

unfoldable pub path_read : List ℕ → ℕ → ℕ → PartRead
path_read s n k = path_in s n k (checked_of s)

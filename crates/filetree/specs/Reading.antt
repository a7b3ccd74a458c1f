-- A file as the bytes t of a tree have it, from the positions that were noted of it.
-- Assumes nothing.
use Rattle.std.specs.Prelude.{cond, List, map, ℕ, ◌-◌, eqb}
use Rattle.octets.specs.Octets.{cut, zero_hash}
use Rattle.filetree.specs.Tree.{Element, Listed}
use Rattle.meaning.specs.Torrent.{File}

-- a path element: the bytes from its start to its end
abbrev pub element : List ℕ → Element → List ℕ
element t e = cut t e.start (e.end - e.start)

abbrev pub elements : List ℕ → List Element → List (List ℕ)
elements t path = map (element t) path

-- the root's 32 bytes; an empty file has the root of 32 zero bytes
abbrev pub root_read : List ℕ → ℕ → ℕ → List ℕ
root_read t size root = cond (eqb size 0) zero_hash (cut t root 32)

unfoldable pub read_file : List ℕ → Listed → File
read_file t f = record { size = f.size; root = root_read t f.size f.root; path = elements t f.path }

abbrev pub read_files : List ℕ → List Listed → List File
read_files t fs = map (read_file t) fs

-- 02, request 12: the files of `files` and those of the tree side by side. The tree's walk drives: at each of its files the next entry of
-- `files` that is no padding has to be that file.
-- Assumes nothing.
use Rattle.std.specs.Prelude.{Bool, cond, ◌&&◌, List, [], ◌∷◌, eqb}
use Rattle.bencode.specs.Grammar.{Items, no_items, item}
use Rattle.meaning.specs.Torrent.{File}
use Rattle.halves.specs.V1Half.{V1Entry, entry_of, same_path}

-- the next file, padding passed over, and what stands behind it
pub data Next : Type 0 where
  no_file : Next
  file : V1Entry → Items → Next

unfoldable pub next_file : Items → Next
next_file no_items = no_file
next_file (item x vs) = cond (entry_of x).padding (next_file vs) (file (entry_of x) vs)

-- what is left behind the files that were met, or that one differs
pub data Left : Type 0 where
  differ : Left
  left : Items → Left

abbrev pub meets : V1Entry → File → Bool
meets e f = eqb e.size f.size && same_path e.path f.path

abbrev pub after_next : Next → File → Left
after_next no_file f = differ
after_next (file e vs) f = cond (meets e f) (left vs) differ

abbrev pub on_left : Left → (Items → Left) → Left
on_left differ go = differ
on_left (left vs) go = go vs

unfoldable pub after_files : Items → List File → Left
after_files vs [] = left vs
after_files vs (f ∷ fs) = on_left (after_next (next_file vs) f) (λ us. after_files us fs)

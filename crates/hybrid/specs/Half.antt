-- 02, request 12: the v1 half beside the files gs of the tree: the bytes of all entries, or that it does not fit.
-- Assumes nothing.
use Rattle.std.specs.Prelude.{Bool, false, cond, ◌&&◌, List, ℕ, leb, Option, Some, None}
use Rattle.bencode.specs.Parts.{Lookup}
use Rattle.bencode.specs.Grammar.{Items}
use Rattle.meaning.specs.Torrent.{File}
use Rattle.halves.specs.V1Half.{V1Entry, items_fit, entries_in, files_among, same_files, on_boundary, total, pieces_fit}
use Rattle.hybrid.specs.Tally.{most_bytes}

unfoldable pub half_of : ℕ → Bool → List V1Entry → List File → Option ℕ
half_of plen ok es gs = cond (ok && (same_files (files_among es) gs && (on_boundary plen 0 es && leb (total es) most_bytes))) (Some (total es)) None

-- of the entries of `files`
abbrev pub several_of : ℕ → Items → List File → Option ℕ
several_of plen vs gs = half_of plen (items_fit vs) (entries_in vs) gs

-- with `pieces`
abbrev pub fits_with : ℕ → Lookup → Option ℕ → Bool
fits_with plen x None = false
fits_with plen x (Some n) = pieces_fit plen n x

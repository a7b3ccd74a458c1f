-- 02, request 12: what is counted of the entries of `files`, one by one.
-- Assumes nothing.
use Rattle.std.specs.Prelude.{◌≡◌, cond, ◌&&◌, ◌||◌, List, ℕ, ◌+◌, ◌-◌, ◌%◌, eqb, leb, Option, Some, None}
use Rattle.limits.specs.Limits.{max_levels}
use Rattle.bencode.specs.Grammar.{list, Items, no_items, item, encode, Valid}
use Rattle.halves.specs.V1Half.{entry_fits, entry_of}
use Rattle.hybrid.specs.declared.Tallied.{Tallied}

-- v is the encoding of a list
pub record Encodes (v : List ℕ) (vs : Items) : Type 0 where
  pub bytes : v ≡ encode (list vs)
  pub valid : Valid (list vs) max_levels

-- above 52,428 pieces of 16 MiB, which are all that 1 MiB of hashes names
abbrev pub most_bytes : ℕ
most_bytes = 0x100_0000_0000

-- so many files, and so many bytes of all entries
abbrev pub sums : ℕ → ℕ → Option Tallied
sums files total = Some (record { files = files; total = total })

-- with so many files and bytes before
unfoldable pub tallied_from : ℕ → ℕ → ℕ → Items → Option Tallied
tallied_from plen files total no_items = sums files total
tallied_from plen files total (item x vs) =
    cond (entry_fits x && (((entry_of x).padding || eqb (total % plen) 0) && leb (entry_of x).size (most_bytes - total)))
    (tallied_from plen (cond (entry_of x).padding files (files + 1)) (total + (entry_of x).size) vs)
    None

abbrev pub tallied_of : ℕ → Items → Option Tallied
tallied_of plen vs = tallied_from plen 0 0 vs

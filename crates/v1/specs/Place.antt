-- 02, request 12: file n of the entries of `files`: where it begins among the bytes of all entries, and its length.
-- Assumes nothing.
use Rattle.std.specs.Prelude.{◌≡◌, Bool, true, cond, not, ◌&&◌, List, [], ◌∷◌, ℕ, zero, suc, ◌+◌, ◌-◌, ◌≤◌, eqb}
use Rattle.bencode.specs.Grammar.{Items}
use Rattle.halves.specs.V1Half.{V1Entry, items_fit, entries_in, total}
use Rattle.halves.specs.Stream.{file_start}
use Rattle.hybrid.specs.Ahead.{Ahead}
use Rattle.hybrid.specs.Tally.{Encodes, most_bytes}
use Rattle.v1.specs.declared.place.Spot.{Spot}

-- the length of file n, padding not counted; 0 where there is none
unfoldable pub file_size : List V1Entry → ℕ → ℕ
file_size [] n = 0
file_size (e ∷ es) zero = cond e.padding (file_size es zero) e.size
file_size (e ∷ es) (suc n) = file_size es (cond e.padding (suc n) n)

abbrev pub spot_of : List V1Entry → ℕ → Spot
spot_of es n = record { start = file_start es n; length = file_size es n }

-- v is the encoding of the items vs, all of them well formed, and not too long for any `pieces`
pub record Fitting (v : List ℕ) (vs : Items) : Type 0 where
  pub encoded : Encodes v vs
  pub fit : items_fit vs ≡ true
  pub few : total (entries_in vs) ≤ most_bytes

-- whether an entry is the file sought, with so many files still to pass
abbrev pub is_sought : Bool → ℕ → Bool
is_sought padding left = not padding && eqb left 0

-- how many files are still to pass behind it
abbrev pub left_behind : Bool → ℕ → ℕ
left_behind padding left = cond padding left (left - 1)

-- how far a walk to file n has come: the items us are next, at i, `start` bytes from the first, and file n is file `left` of them
pub record Walking (v : List ℕ) (n i left start : ℕ) (vs : Items) : Type 0 where
  pub us : Items
  pub ahead : Ahead v i us
  pub starts : file_start (entries_in vs) n ≡ start + file_start (entries_in us) left
  pub sizes : file_size (entries_in vs) n ≡ file_size (entries_in us) left
  pub bytes : start + total (entries_in us) ≡ total (entries_in vs)

-- 02, request 12: an entry of `files` by its position in the part v that `files` is, said of the value that stands there.
-- Assumes nothing.
use Prim.{Unit}
use Rattle.std.specs.Prelude.{◌≡◌, Bool, true, false, cond, List, [], ◌∷◌, ◌++◌, ℕ, ◌+◌, ◌≤◌, ◌<◌, length, drop, eqb, Option, Some, None, Result, Ok, Err}
use Rattle.limits.specs.Limits.{max_levels}
use Rattle.bencode.specs.Grammar.{letter_l, Value, integer, string, list, dictionary, Items, Entries, encode, Valid}
use Rattle.bencode.specs.Parts.{Lookup, absent, present}
use Rattle.meaning.specs.Torrent.{without}
use Rattle.halves.specs.V1Half.{V1Entry, letter_p, names_full, names_of, path_full, entry_fits, entry_of}
use Rattle.filetree.specs.Token.{ends_here}
use Rattle.hybrid.specs.declared.EntryRead.{EntryRead}
use Rattle.hybrid.specs.declared.Malformed.{Malformed}
use Rattle.hybrid.specs.declared.Attr.{Attr}
use Rattle.hybrid.specs.declared.Attr.TheVariants.{Plain, Padding}

-- what is read: something malformed, the end of the list, or an entry of n bytes whose path stands at p, up to k
abbrev pub malformed : {A : Type 0} → Result A Malformed
malformed = Err (record {})

abbrev pub ended : Result (Option EntryRead) Malformed
ended = Ok None

abbrev pub entry_read : Bool → ℕ → ℕ → ℕ → Result (Option EntryRead) Malformed
entry_read padding n p k = Ok (Some (record { padding = padding; length = n; path = p; next = k }))

-- the value x stands at `at`
pub record StandsAt (v : List ℕ) (at : ℕ) (x : Value) : Type 0 where
  pub behind : List ℕ
  pub bytes : drop at v ≡ encode x ++ behind
  pub valid : Valid x max_levels

-- a number that is not negative
abbrev pub natural_in : Lookup → Option ℕ
natural_in (present (integer false n)) = Some n
natural_in (present (integer true n)) = None
natural_in absent = None
natural_in (present (string b)) = None
natural_in (present (list vs)) = None
natural_in (present (dictionary es)) = None

abbrev pub attr_in : Lookup → Option Attr
attr_in absent = (Some Plain)
attr_in (present (string b)) = cond (without letter_p b) (Some Plain) (Some Padding)
attr_in (present (integer minus n)) = None
attr_in (present (list vs)) = None
attr_in (present (dictionary es)) = None

-- a `path`: where its list stands
abbrev pub PathFoundIs : List ℕ → Lookup → Result (Option ℕ) Malformed → Type 0
PathFoundIs v x (Ok (Some a)) = (ws : Items) × (x ≡ present (list ws)) × (path_full x ≡ true) × StandsAt v a (list ws)
PathFoundIs v x (Ok None) = x ≡ absent
PathFoundIs v x (Err _) = (x ≡ absent → ⊥) × (path_full x ≡ false)

-- whether a list begins here
unfoldable pub is_list : List ℕ → Bool
is_list [] = false
is_list (c ∷ cs) = eqb c letter_l

-- the path of a file stands at p; where padding has one does not matter
abbrev pub PathStands : List ℕ → ℕ → V1Entry → Type 0
PathStands v p e = e.padding ≡ false → (ws : Items) × StandsAt v p (list ws) × (names_full ws ≡ true) × (names_of ws ≡ e.path)

-- what is read of the value x at `at`
pub record TokenIs (v : List ℕ) (at : ℕ) (x : Value) (r : Result (Option EntryRead) Malformed) : Type 0 where
  pub fits : entry_fits x ≡ true → (p : ℕ) × (r ≡ entry_read (entry_of x).padding (entry_of x).size p (at + length (encode x))) × PathStands v p (entry_of x)
  pub amiss : entry_fits x ≡ false → r ≡ malformed

abbrev pub EndsAt : ℕ → Result (Option EntryRead) Malformed → Type 0
EndsAt k (Ok None) = Unit {0}
EndsAt k (Err _) = Unit {0}
EndsAt k (Ok (Some w)) = w.next ≡ k

-- an entry with this path: padding may do without one
abbrev pub with_path : Result (Option ℕ) Malformed → Bool → ℕ → ℕ → Result (Option EntryRead) Malformed
with_path (Err _) padding n k = malformed
with_path (Ok (Some p)) padding n k = entry_read padding n p k
with_path (Ok None) padding n k = cond padding (entry_read padding n 0 k) malformed

-- what is read of the dictionary es at `at`, which ends at k
pub record EntryReads (v : List ℕ) (at k : ℕ) (r : Result (Option EntryRead) Malformed) : Type 0 where
  pub same_end : EndsAt k r
  pub entry : (es : Entries) → StandsAt v at (dictionary es) → k ≡ at + length (encode (dictionary es)) → TokenIs v at (dictionary es) r

-- the next position lies behind, within the bytes
abbrev pub TokenIn : ℕ → ℕ → Result (Option EntryRead) Malformed → Type 0
TokenIn at end (Ok None) = Unit {0}
TokenIn at end (Err _) = Unit {0}
TokenIn at end (Ok (Some w)) = (at < w.next) × (w.next ≤ end)

pub record Reads (v : List ℕ) (at : ℕ) (r : Result (Option EntryRead) Malformed) : Type 0 where
  pub ends : TokenIn at (length v) r
  pub closed : ends_here (drop at v) ≡ true → r ≡ ended
  pub item : (x : Value) → StandsAt v at x → TokenIs v at x r

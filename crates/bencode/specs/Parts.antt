-- 01, "The torrent": the value of a key is the part of the torrent bytes it stands in. Parts by their positions; `at` is where the
-- bytes `xs` stand in the whole input.
-- Assumes nothing.
use Rattle.bencode.specs.declared.walk.Amiss.{Amiss}
use Rattle.bencode.specs.Scalar.{part}
use Rattle.std.specs.Prelude.{◌≡◌, Bool, false, cond, List, [], ◌∷◌, ℕ, zero, suc, ◌+◌, ◌-◌, length, drop, eqb, Option, Some, None, Err, Ok, Result}
use Rattle.limits.specs.Limits.{max_levels}
use Rattle.octets.specs.Octets.{same, cut}
use Rattle.bencode.specs.Grammar.{letter_d, Value, Entries, no_entries, entry, encode}
use Rattle.bencode.specs.Scalar.{read_string}
use Rattle.bencode.specs.Walk.{between, walk_value}
use Rattle.bencode.specs.declared.part.Part.{Part}
use Rattle.bencode.specs.declared.parts.Entry.{Entry}

-- the entry with key a to b, and value b to k
abbrev pub keyed : ℕ → ℕ → ℕ → Option Entry
keyed a b k = Some (record { start = a; value = b; end = k })

-- whether a dictionary begins here
unfoldable pub is_dictionary : List ℕ → Bool
is_dictionary [] = false
is_dictionary (c ∷ cs) = eqb c letter_d

-- the entry with key a to b, whose value the walk went over
abbrev pub entry_to : ℕ → ℕ → Result ℕ Amiss → Option Entry
entry_to a b (Err e) = None
entry_to a b (Ok k) = keyed a b k

-- the entry with this key
abbrev pub entry_with : ℕ → List ℕ → Option Part → Option Entry
entry_with at xs None = None
entry_with at xs (Some w) = entry_to w.start w.end (walk_value max_levels w.end (drop (w.end - at) xs))

-- the entry of a dictionary that begins here: key a to b, value b to k; none at the `e`
unfoldable pub read_entry : ℕ → List ℕ → Option Entry
read_entry at xs = entry_with at xs (read_string at xs)

-- what follows from an entry, if there is one
abbrev pub from_entry : Option Entry → (ℕ → ℕ → ℕ → Option Part) → Option Part
from_entry None go = None
from_entry (Some w) go = go w.start w.value w.end

-- the value of the first entry with this key; each entry takes a byte, so that more steps than bytes are enough
unfoldable pub find_in : List ℕ → ℕ → ℕ → List ℕ → Option Part
find_in key zero at xs = None
find_in key (suc steps) at xs =
    from_entry (read_entry at xs)
    (λ a b k. cond (same key (between at xs a b)) (part b k) (find_in key steps k (drop (k - at) xs)))

-- the value of a key in the dictionary that begins here
unfoldable pub find_key : List ℕ → ℕ → List ℕ → Option Part
find_key key at xs = cond (is_dictionary xs) (find_in key (suc (length (drop 1 xs))) (at + 1) (drop 1 xs)) None

-- what a dictionary has for a key
pub data Lookup : Type 0 where
  absent : Lookup
  present : Value → Lookup

unfoldable pub lookup : List ℕ → Entries → Lookup
lookup key no_entries = absent
lookup key (entry k v es) = cond (same key k) (present v) (lookup key es)

-- the part of s that was found is what the dictionary has
abbrev pub FoundIs : List ℕ → Option Part → Lookup → Type 0
FoundIs s None absent = Unit {0}
FoundIs s None (present v) = ⊥
FoundIs s (Some w) absent = ⊥
FoundIs s (Some w) (present v) = cut s w.start (w.end - w.start) ≡ encode v

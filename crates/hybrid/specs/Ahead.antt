-- 02, request 12: the entries of `files` that lie ahead of a walk, and the next file among them; a path by the tree's positions.
-- Assumes nothing.
use Prim.{Unit}
use Rattle.std.specs.Prelude.{◌≡◌, true, false, List, [], ◌∷◌, ℕ, ◌-◌, ◌≤◌, length, Option, Result}
use Rattle.limits.specs.Limits.{max_levels}
use Rattle.bencode.specs.Grammar.{Items, ItemsValid}
use Rattle.filetree.specs.Tree.{Element}
use Rattle.halves.specs.V1Half.{items_fit}
use Rattle.hybrid.specs.declared.EntryRead.{EntryRead}
use Rattle.hybrid.specs.declared.Malformed.{Malformed}
use Rattle.hybrid.specs.Entry.{PathStands, TokenIn, ended, entry_read}
use Rattle.hybrid.specs.EntryLaws.{ItemsAt}
use Rattle.hybrid.specs.Meet.{Next, no_file, file, next_file}

-- the items us, all of them well formed, are what is left of the list v from i on
pub record Ahead (v : List ℕ) (i : ℕ) (us : Items) : Type 0 where
  pub items : ItemsAt v i us []
  pub valid : ItemsValid us (max_levels - 1)
  pub fit : items_fit us ≡ true

-- what is read of the next file
abbrev pub NextIs : List ℕ → Next → Result (Option EntryRead) Malformed → Type 0
NextIs v no_file r = r ≡ ended
NextIs v (file e us) r = (p : ℕ) × (k : ℕ) × (r ≡ entry_read false e.size p k) × (e.padding ≡ false) × PathStands v p e × Ahead v k us

pub record NextReads (v : List ℕ) (at : ℕ) (r : Result (Option EntryRead) Malformed) : Type 0 where
  pub ends : TokenIn at (length v) r
  pub next : (us : Items) → Ahead v at us → NextIs v (next_file us) r

-- each element of a path stands within n bytes
unfoldable pub AllInside : ℕ → List Element → Type 0
AllInside n [] = Unit {0}
AllInside n (e ∷ es) = (e.start ≤ e.end) × (e.end ≤ n) × AllInside n es

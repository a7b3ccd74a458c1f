use Rattle.std.proofs.Common.{◌≡◌, Bool, true, false, List, ℕ, not, sym, rules}
use Rattle.cells.specs.Cells.{held_at}
use Rattle.cells.specs.Entries.{lacks, one_if}
use Rattle.cells.specs.EntriesLaws.{lacks_held, lacks_free}
use Rattle.cells.proofs.add_at.Goals as goal

counted : (s : List ℕ) (n : ℕ) (t : Bool) → t ≡ held_at s n → one_if (not t) ≡ lacks s n
counted s n true e = sym (lacks_held s n (sym e))
counted s n false e = sym (lacks_free s n (sym e))

pub returns : goal.returns
returns c = let w = counted _ _ _ c.held-was.ensures in search (rules, w)

use Rattle.std.proofs.Common.{sym}
use Rattle.halves.specs.V1Keys.{key_path}
use Rattle.hybrid.specs.EntryLaws.{found_here, found_missing, found_part}
use Rattle.hybrid.proofs.path_of.Goals as goal

pub returns-in-None : goal.returns-in-None
returns-in-None c = λ es s. found_missing _ _ _ (found_here _ key_path _ es s) (sym c.in-None.ensures)

pub returns-in-Some : goal.returns-in-Some
returns-in-Some c = λ es s.
    let w = found_part _ _ _ _ _ (found_here _ key_path _ es s) (sym c.in-Some.ensures) in
    rw w.1 (c.path_at.ensures w.0 w.2)

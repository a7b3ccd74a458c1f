use Rattle.hybrid.specs.PathLaws.{Comparing}
use Rattle.hybrid.proofs.same_path.Given as goal

abbrev pub invariant-loop-k : goal.invariant-loop-k
invariant-loop-k l = Comparing l.tree l.path l.depth l.bytes l.at l.i l.k

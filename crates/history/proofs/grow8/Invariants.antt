use Rattle.history.proofs.Eights.{Eights}
use Rattle.history.proofs.grow8.Given as goal

abbrev pub invariant-loop-x : goal.invariant-loop-x
invariant-loop-x l = Eights l.initial.t l.part l.initial.layer l.x l.t l.layer

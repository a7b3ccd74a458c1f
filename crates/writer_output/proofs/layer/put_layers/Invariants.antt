use Rattle.writer_output.specs.LayersLaws.{Listing}
use Rattle.writer_output.proofs.layer.put_layers.Given as goal

abbrev pub invariant-loop-i : goal.invariant-loop-i
invariant-loop-i l = Listing l.initial.out l.at l.list l.text l.order l.out l.to l.last l.i

use Rattle.writer_output.specs.FilesLaws.{Growing}
use Rattle.writer_output.proofs.file.put_tree.Given as goal

abbrev pub invariant-loop-i : goal.invariant-loop-i
invariant-loop-i l = Growing l.initial.out l.at l.list l.text l.order l.out l.to l.start l.size l.i

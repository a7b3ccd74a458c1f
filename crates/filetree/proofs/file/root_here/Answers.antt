use Rattle.std.proofs.Common.{ap, sym}
use Rattle.bencode.specs.EndsLaws.{string_ends}
use Rattle.filetree.specs.File.{root_of}
use Rattle.filetree.proofs.Reading.{root_right, root_wrong}
use Rattle.filetree.proofs.file.root_here.Goals as goal

pub overflow_sub-end : goal.overflow_sub-end
overflow_sub-end c = (string_ends _ _ _ _ (sym c.in-Some.ensures)).1

pub returns-in-None : goal.returns-in-None
returns-in-None c = sym (ap root_of (sym c.in-None.ensures))

pub returns-then-end-start-eq-ROOT_SIZE : goal.returns-then-end-start-eq-ROOT_SIZE
returns-then-end-start-eq-ROOT_SIZE c = sym (root_right _ _ _ (sym c.in-Some.ensures) c.if-end-start-eq-ROOT_SIZE.true)

pub returns-else-end-start-eq-ROOT_SIZE : goal.returns-else-end-start-eq-ROOT_SIZE
returns-else-end-start-eq-ROOT_SIZE c = sym (root_wrong _ _ _ (sym c.in-Some.ensures) c.if-end-start-eq-ROOT_SIZE.false)

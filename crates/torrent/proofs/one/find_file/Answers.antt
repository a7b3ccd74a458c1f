use Rattle.torrent.specs.FindLaws.{tree_found, never_past, never_wrong}
use Rattle.torrent.proofs.one.find_file.Goals as goal

pub returns-in-Here : goal.returns-in-Here
returns-in-Here c = tree_found _ _ _ _ c.requires.0 c.requires.1 _ (rw c.in-Here.is at c.find_in.ensures)

pub returns-in-Past : goal.returns-in-Past
returns-in-Past c = never_past _ _ _ _ c.requires.0 c.requires.1 _ _ (rw c.in-Past.is at c.find_in.ensures)

pub returns-in-WrongTree : goal.returns-in-WrongTree
returns-in-WrongTree c = never_wrong _ _ _ _ c.requires.0 c.requires.1 (rw c.in-WrongTree.is at c.find_in.ensures)

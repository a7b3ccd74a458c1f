use Rattle.std.proofs.Common.{ℕ, ◌∙◌}
use Rattle.filetree.specs.Path.{path_size}
use Rattle.torrent.specs.FindLaws.{found_path, found_element}
use Rattle.std.proofs.lemmas.List.{length-replicate}
use Rattle.torrent.proofs.read.one_element.Goals as goal

pub element_of-requires : goal.element_of-requires
element_of-requires c = found_path _ _ c.requires.1 _ _ c.find_file-f.ensures (c.find_file-f.auto.path ∙ length-replicate {A = ℕ} path_size 0) _ c.requires.2

pub returns : goal.returns
returns c = found_element _ _ c.requires.1 _ _ c.find_file-f.ensures _ _ _ c.element_of.ensures

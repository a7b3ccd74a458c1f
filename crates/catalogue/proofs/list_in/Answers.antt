use Rattle.std.proofs.Common.{arith, ℕ, refl}
use Rattle.filetree.specs.Path.{path_size}
use Rattle.catalogue.proofs.PutLaws.{tree_written}
use Rattle.catalogue.proofs.Filling.{keys_indexed, first_spot}
use Rattle.std.proofs.lemmas.List.{length-replicate}
use Rattle.catalogue.proofs.list_in.Goals as goal

pub index-requires : goal.index-requires
index-requires c = (c.requires.0.opened.small, let x = c.requires.0.few_layered in let y = c.requires.1 in omega arith)

pub put_directory-requires : goal.put_directory-requires
put_directory-requires c = (keys_indexed _ _ _ c.requires.0 c.args.keys.now _ c.requires.1 c.index.auto.keys _ c.index.ensures.0 c.index.ensures.1, first_spot _ _ _ c.requires.0 _ c.args.out.now (length-replicate {A = ℕ} path_size 0))

pub returns : goal.returns
returns c = tree_written _ _ _ _ _ _ _ _ refl refl refl c.requires.0.tree_right_lem c.requires.2 c.put_directory.ensures

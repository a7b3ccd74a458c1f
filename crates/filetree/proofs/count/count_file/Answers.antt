use Rattle.filetree.proofs.Counting.{one_counted}
use Rattle.filetree.proofs.count.count_file.Goals as goal

pub returns : goal.returns
returns c = (one_counted _ _ _ c.keep_root-full.ensures.0, c.keep_root-full.ensures.1)

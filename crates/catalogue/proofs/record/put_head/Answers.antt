use Rattle.std.proofs.Common.{length, ◌≡◌, rules}
use Rattle.catalogue.proofs.Writing.{head_written}
use Rattle.catalogue.proofs.record.put_head.Goals as goal

pub returns : goal.returns
returns c = let r : length c.args.root ≡ 32 = search rules in head_written _ _ _ _ _ _ _ r c.requires.0 _ c.put_number.ensures _ c.put_hash.ensures _ c.put_layer.ensures _ c.put_number-2.ensures _ c.put_number-3.ensures

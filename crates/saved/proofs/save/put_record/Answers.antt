use Rattle.std.proofs.Common.{arith, length, set, length-set, ◌≡◌, refl, ◌∙◌, rules}
use Rattle.saved.proofs.Saving.{fits_after, record_put}
use Rattle.saved.proofs.save.put_record.Goals as goal

pub put_number-requires : goal.put_number-requires
put_number-requires c = (fits_after c.args.out.now (set c.args.out.now c.args.at 2) c.args.at 2 1 4 refl c.requires (omega arith), omega arith)

pub put_number-requires-2 : goal.put_number-requires-2
put_number-requires-2 c = (fits_after c.args.out.now c.put_number.new.bytes c.args.at 2 5 4 c.put_number.auto.bytes c.requires (omega arith), omega arith)

pub put_hash-requires : goal.put_hash-requires
put_hash-requires c = (omega arith, fits_after c.args.out.now c.put_number-2.new.bytes c.args.at 2 9 32 (c.put_number-2.auto.bytes ∙ c.put_number.auto.bytes) c.requires (omega arith))

pub shape_of-out : goal.shape_of-out
shape_of-out c = c.put_hash.auto.bytes ∙ c.put_number-2.auto.bytes ∙ c.put_number.auto.bytes ∙ length-set c.args.out.now c.args.at 2

pub returns : goal.returns
returns c = record_put _ _ _ _ _ _ _ _ _ c.requires ((let it : length c.args.hash ≡ 32 = search rules in it)) refl c.put_number.ensures c.put_number-2.ensures c.put_hash.ensures

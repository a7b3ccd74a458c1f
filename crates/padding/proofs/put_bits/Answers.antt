use Rattle.std.proofs.Common.{◌∙◌}
use Rattle.padding.proofs.Pads.{put_eight, count_bytes}
use Rattle.padding.proofs.put_bits.Goals as goal

pub returns : goal.returns
returns c = put_eight c.args.b.now _ _ c.args.at (c.copy_from_slice.ensures.after ∙ c.to_be_bytes.ensures ∙ count_bytes c.args.n)

use Rattle.std.proofs.Common.{length, refl, arith}
use Rattle.std.proofs.lemmas.Slice.{put_mid-paste}
use Rattle.octets.proofs.Turn.{whole}
use Rattle.padding.proofs.put.Goals as goal

pub returns : goal.returns
returns c = let s = c.args.bytes.now in
    whole _ _ c.args.at s (length s) (length s) (put_mid-paste c.args.at _ c.args.b.now c.copy_from_slice.new.self s (length s) c.copy_from_slice.ensures.after (omega arith) refl) refl refl

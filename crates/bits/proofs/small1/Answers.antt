use Rattle.bits.proofs.Bitwise.{σ₁_law}
use Rattle.bits.proofs.small1.Goals as goal

pub returns : goal.returns
returns c = cc (σ₁_law c.args.x c.ranges.x.fits)

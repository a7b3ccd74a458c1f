use Rattle.bits.proofs.Bitwise.{Σ₁_law}
use Rattle.bits.proofs.big1.Goals as goal

pub returns : goal.returns
returns c = cc (Σ₁_law c.args.x c.ranges.x.fits)

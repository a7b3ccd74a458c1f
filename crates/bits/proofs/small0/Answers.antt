use Rattle.bits.proofs.Bitwise.{σ₀_law}
use Rattle.bits.proofs.small0.Goals as goal

pub returns : goal.returns
returns c = cc (σ₀_law c.args.x c.ranges.x.fits)

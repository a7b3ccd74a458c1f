use Rattle.bits.proofs.Bitwise.{Σ₀_law}
use Rattle.bits.proofs.big0.Goals as goal

pub returns : goal.returns
returns c = cc (Σ₀_law c.args.x c.ranges.x.fits)

use Rattle.bits.proofs.Bitwise.{Maj_law}
use Rattle.bits.proofs.maj.Goals as goal

pub returns : goal.returns
returns c = Maj_law c.args.x c.args.y c.args.z c.ranges.x.fits c.ranges.y.fits c.ranges.z.fits

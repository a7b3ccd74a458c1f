use Rattle.bits.proofs.Bitwise.{Ch_law}
use Rattle.bits.proofs.ch.Goals as goal

pub returns : goal.returns
returns c = Ch_law c.args.x c.args.y c.args.z c.ranges.x.fits c.ranges.y.fits c.ranges.z.fits

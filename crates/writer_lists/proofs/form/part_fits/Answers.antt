use Rattle.std.proofs.Common.{refl}
use Rattle.writer_lists.proofs.form.part_fits.Goals as goal

pub returns : goal.returns
returns c = rw (c.number_at-start.ensures.0, c.number_at-size.ensures.0) refl

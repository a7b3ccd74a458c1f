use Rattle.std.proofs.Common.{rules}
use Rattle.saved.specs.Form.{mark_count}
use Rattle.saved.proofs.form.mark_count.Goals as goal

pub returns : goal.returns
unfolding mark_count
returns c = search rules

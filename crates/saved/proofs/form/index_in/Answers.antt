use Rattle.std.proofs.Common.{rules}
use Rattle.saved.specs.Form.{index_in}
use Rattle.saved.proofs.form.index_in.Goals as goal

pub returns : goal.returns
unfolding index_in
returns c = search rules

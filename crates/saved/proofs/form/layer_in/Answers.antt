use Rattle.std.proofs.Common.{rules}
use Rattle.saved.specs.Form.{layer_in}
use Rattle.saved.proofs.form.layer_in.Goals as goal

pub returns : goal.returns
unfolding layer_in
returns c = search rules

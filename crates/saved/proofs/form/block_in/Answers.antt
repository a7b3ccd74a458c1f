use Rattle.std.proofs.Common.{rules}
use Rattle.saved.specs.Form.{block_in}
use Rattle.saved.proofs.form.block_in.Goals as goal

pub returns : goal.returns
unfolding block_in
returns c = search rules

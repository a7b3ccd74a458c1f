use Rattle.std.proofs.Common.{rules}
use Rattle.saved.specs.Form.{hash_in}
use Rattle.saved.proofs.form.hash_in.Goals as goal

pub returns : goal.returns
unfolding hash_in
returns c = search rules

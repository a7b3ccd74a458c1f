use Rattle.std.proofs.Common.{◌*◌, ◌≤◌, ◌≡◌}
use Rattle.saved.specs.Ahead.{Ready}
use Rattle.saved.specs.Saved.{claimed}
use Rattle.saved.proofs.chain.claim_all.Given as goal

abbrev pub invariant-loop-j : goal.invariant-loop-j
invariant-loop-j l = (2 * l.n ≡ claimed l.height l.blocks l.bytes l.j) × (2 * l.n ≤ l.j) × (l.j ≤ l.places) × Ready l.bytes l.places l.n l.room

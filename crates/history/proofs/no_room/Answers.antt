use Rattle.std.proofs.Common.{ltb, arith, ℕ, ◌/◌, ap, ◌∙◌}
use Rattle.history.proofs.DecidingLaws.{room_due, none_due}
use Rattle.history.proofs.no_room.Goals as goal

pub returns-then-before-after : goal.returns-then-before-after
returns-then-before-after c = ap (λ (x : ℕ). ltb (c.args.m / 32) x) c.passed-after.ensures ∙ room_due c.args.history c.args.k c.args.m (omega (arith, c.passed-before.ensures, c.passed-after.ensures, c.if-before-after.true))

pub returns : goal.returns
returns c = none_due c.args.history c.args.k c.args.m (omega (arith, c.passed-before.ensures, c.passed-after.ensures, c.if-before-after.false))

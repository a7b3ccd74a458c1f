use Rattle.std.proofs.Common.{arith}
use Rattle.saved.proofs.Saving.{mark_passed, mark_room, mark_put}
use Rattle.saved.proofs.save.put_mark.Goals as goal

pub returns-then-not-set : goal.returns-then-not-set
returns-then-not-set c = mark_passed _ _ _ _ _ c.mark_at-set.ensures (c.if-not-set.true)

pub put_short-requires : goal.put_short-requires
put_short-requires c = omega (arith, c.requires.3, mark_room _ _ _ c.mark_at-set.ensures (c.if-not-set.false))

pub returns : goal.returns
returns c = mark_put _ _ _ _ _ _ c.mark_at-set.ensures (c.if-not-set.false) c.put_short.ensures

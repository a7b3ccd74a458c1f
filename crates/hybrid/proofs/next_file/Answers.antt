use Rattle.std.proofs.Common.{arith}
use Rattle.hybrid.specs.EntryLaws.{is_malformed}
use Rattle.hybrid.specs.AheadLaws.{seek_start, seek_bad, seek_ended, seek_file, seek_more}
use Rattle.hybrid.proofs.next_file.Goals as goal

pub loop-entry-init : goal.loop-entry-init
loop-entry-init c = seek_start _ _

pub returns-in_err-entry : goal.returns-in_err-entry
returns-in_err-entry c = rw (is_malformed _ c.from_residual.ensures.0) (seek_bad _ _ _ c.loop-entry.invariant c.in_err-entry.ensures)

pub returns-then-not-padding : goal.returns-then-not-padding
returns-then-not-padding c = seek_file _ _ _ c.loop-entry.invariant _ _ _ _ (rw c.in-Some.is at c.in_ok-entry.ensures) c.if-not-padding.true

pub loop-entry-smaller : goal.loop-entry-smaller
loop-entry-smaller c = let r = rw c.in-Some.is at c.in_ok-entry.ensures in let x = r.ends in omega (arith, x.0, x.1)

pub loop-entry-preserved : goal.loop-entry-preserved
loop-entry-preserved c = seek_more _ _ _ c.loop-entry.invariant _ _ _ _ (rw c.in-Some.is at c.in_ok-entry.ensures) c.if-not-padding.false

pub returns : goal.returns
returns c = seek_ended _ _ _ c.loop-entry.invariant (rw c.in_default.is at c.in_ok-entry.ensures)

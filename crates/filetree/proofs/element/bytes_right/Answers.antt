use Rattle.std.proofs.Common.{refl, sym, ◌∙◌}
use Rattle.filetree.proofs.Reading.{bytes_start, bytes_end, bytes_stop, bytes_on}
use Rattle.filetree.proofs.element.bytes_right.Goals as goal

pub loop-i-init : goal.loop-i-init
loop-i-init c = bytes_start _ _ _ _ refl

pub returns-then-forbidden : goal.returns-then-forbidden
returns-then-forbidden c = sym (c.loop-i.invariant ∙ bytes_stop _ _ _ _ c.requires c.loop-i-test.true (sym c.forbidden.ensures ∙ c.if-forbidden.true))

pub loop-i-preserved : goal.loop-i-preserved
loop-i-preserved c = c.loop-i.invariant ∙ bytes_on _ _ _ _ c.requires c.loop-i-test.true (sym c.forbidden.ensures ∙ c.if-forbidden.false)

pub returns : goal.returns
returns c = sym (c.loop-i.invariant ∙ bytes_end _ _ _ _ c.loop-i-test.false)

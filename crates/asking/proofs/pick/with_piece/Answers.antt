-- The piece is passed over where no neighbour has it, where it does not go before the choice so far, or where it is on disk; else it is the choice.
use Rattle.std.proofs.Common.{arith, sym, ◌∙◌}
use Rattle.asking.proofs.PickingLaws.{not_wanted, not_rarer, not_lacking, is_rarer}
use Rattle.asking.proofs.pick.with_piece.Goals as goal

pub returns-then-count-eq0 : goal.returns-then-count-eq0
returns-then-count-eq0 c = let a = c.args in not_wanted a.store.now _ _ _ c.if-count-eq0.true

pub returns-then-not-rarer : goal.returns-then-not-rarer
returns-then-not-rarer c = let a = c.args in
    not_rarer a.store.now _ _ _ (sym c.goes_before-rarer.ensures ∙ c.if-not-rarer.true)

pub on_disk-whole-requires : goal.on_disk-whole-requires
on_disk-whole-requires c = let p = c.requires in
    (p.0, p.1, omega (arith, p.2, p.3))

pub returns-then-whole : goal.returns-then-whole
returns-then-whole c = not_lacking _ _ _ _ _ c.on_disk-whole.ensures c.if-whole.true

pub returns : goal.returns
returns c = is_rarer _ _ _ _ _ c.on_disk-whole.ensures c.if-whole.false c.if-count-eq0.false (sym c.goes_before-rarer.ensures ∙ c.if-not-rarer.false)

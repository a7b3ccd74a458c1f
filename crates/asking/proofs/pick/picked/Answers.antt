-- 9 and 4 by their tests; behind them the choice among all pieces.
use Rattle.std.proofs.Common.{refl, sym, ◌∙◌}
use Rattle.store.specs.StoreLaws.{usable_facts}
use Rattle.asking.proofs.Picks.{pick_9, pick_4, pick_0, counted}
use Rattle.asking.proofs.pick.picked.Goals as goal

pub returns-then-not-is_usable : goal.returns-then-not-is_usable
returns-then-not-is_usable c = pick_9 _ _ _ (sym c.is_usable.ensures ∙ c.if-not-is_usable.true) refl

pub file_length-size-requires : goal.file_length-size-requires
file_length-size-requires c = (usable_facts _ (sym c.is_usable.ensures ∙ c.if-not-is_usable.false)).long

pub piece_length_of-plen-requires : goal.piece_length_of-plen-requires
piece_length_of-plen-requires c = (usable_facts _ (sym c.is_usable.ensures ∙ c.if-not-is_usable.false)).long

pub returns-then-counts-c : goal.returns-then-counts-c
returns-then-counts-c c = pick_4 _ _ _ _ _ (sym c.is_usable.ensures ∙ c.if-not-is_usable.false) c.file_length-size.ensures c.piece_length_of-plen.ensures c.piece_count-c.ensures
    _ c.if-counts-c.true refl

pub best_piece-requires : goal.best_piece-requires
best_piece-requires c = let u = sym c.is_usable.ensures ∙ c.if-not-is_usable.false in
    (u, c.if-counts-c.false ∙ counted _ _ _ _ c.file_length-size.ensures c.piece_length_of-plen.ensures c.piece_count-c.ensures)

pub returns : goal.returns
returns c = pick_0 _ _ _ _ _ (sym c.is_usable.ensures ∙ c.if-not-is_usable.false) c.file_length-size.ensures c.piece_length_of-plen.ensures c.piece_count-c.ensures
    _ c.if-counts-c.false c.best_piece.ensures

use Rattle.std.proofs.Common.{sym, ◌∙◌}
use Rattle.metainfo.proofs.Finding.{keys_minus, keys_version, keys_below, keys_right, keys_wrong}
use Rattle.metainfo.proofs.right_keys.Goals as goal

pub returns-then-minus : goal.returns-then-minus
returns-then-minus c = sym (keys_minus _ _ _ _ c.if-minus.true)

pub returns-then-version-ne-VERSION : goal.returns-then-version-ne-VERSION
returns-then-version-ne-VERSION c = sym (keys_version _ _ _ _ c.if-minus.false c.if-version-ne-VERSION.true)

pub returns-then-below : goal.returns-then-below
returns-then-below c = sym (keys_below _ _ _ _ c.if-minus.false c.if-version-ne-VERSION.false c.if-below.true)

pub returns-then-is_piece_length : goal.returns-then-is_piece_length
returns-then-is_piece_length c = sym (keys_right _ _ _ _ c.if-minus.false c.if-version-ne-VERSION.false c.if-below.false (sym c.is_piece_length.ensures ∙ c.if-is_piece_length.true))

pub returns : goal.returns
returns c = sym (keys_wrong _ _ _ _ c.if-minus.false c.if-version-ne-VERSION.false c.if-below.false (sym c.is_piece_length.ensures ∙ c.if-is_piece_length.false))

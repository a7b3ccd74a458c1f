use Rattle.std.proofs.Common.{arith, sym, ◌∙◌}
use Rattle.places.proofs.PlacesLaws.{list_parts, list_not_whole, list_too_many}
use Rattle.places.proofs.list_right.Goals as goal

pub returns-then-list-ne0 : goal.returns-then-list-ne0
returns-then-list-ne0 c = sym (list_not_whole _ c.if-list-ne0.true)

pub returns-then-files-gt-LARGEST_TORRENT : goal.returns-then-files-gt-LARGEST_TORRENT
returns-then-files-gt-LARGEST_TORRENT c = sym (list_too_many _ c.if-list-ne0.false c.if-files-gt-LARGEST_TORRENT.true)

pub lengths_right-requires : goal.lengths_right-requires
lengths_right-requires c = omega arith

pub returns : goal.returns
returns c = c.lengths_right.ensures ∙ sym (list_parts _ c.if-list-ne0.false (omega (arith, c.if-files-gt-LARGEST_TORRENT.false)))

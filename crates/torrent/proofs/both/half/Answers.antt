use Rattle.std.proofs.Common.{sym}
use Rattle.meaning.specs.Keys.{key_length}
use Rattle.torrent.specs.KeyStringLaws.{not_there}
use Rattle.torrent.specs.HalvesFitLaws.{files_inside, files_small, half_both, half_name, half_no_list, half_several}
use Rattle.torrent.proofs.both.half.Goals as goal

pub returns-then-is_there : goal.returns-then-is_there
returns-then-is_there c = half_both _ _ c.requires.4 _ _ c.in-Some.is _ _ _ (c.is_there.ensures _ key_length c.requires.5) c.if-is_there.true

pub returns-then-not-name_fits : goal.returns-then-not-name_fits
returns-then-not-name_fits c = half_name _ _ c.requires.4 _ _ c.in-Some.is _ _ _ c.name_fits.ensures (c.if-not-name_fits.true)

pub returns-then-not-is_list : goal.returns-then-not-is_list
returns-then-not-is_list c = half_no_list _ _ c.requires.4 _ _ c.in-Some.is _ _ _ c.is_list.ensures (c.if-not-is_list.true)

pub slice_bounds-several-count : goal.slice_bounds-several-count
slice_bounds-several-count c = (files_inside _ _ c.requires.4 _ _ c.in-Some.is).0

pub slice_bounds-several-start : goal.slice_bounds-several-start
slice_bounds-several-start c = (files_inside _ _ c.requires.4 _ _ c.in-Some.is).0

pub slice_bounds-several-end : goal.slice_bounds-several-end
slice_bounds-several-end c = (files_inside _ _ c.requires.4 _ _ c.in-Some.is).1

pub several-requires : goal.several-requires
several-requires c = (c.requires.0, files_small _ _ c.requires.4 _ _ c.in-Some.is c.requires.1)

pub returns-in-None : goal.returns-in-None
returns-in-None c = λ info s. c.single.ensures info s (sym (not_there _ _ _ c.requires.4 c.in-None.is info s)) _ c.requires.0

pub returns-else-not-is_list : goal.returns-else-not-is_list
returns-else-not-is_list c = half_several _ _ c.requires.4 _ _ c.in-Some.is _ c.requires.2 _ c.requires.3 _ _ c.several.ensures _ _ _ (c.is_there.ensures _ key_length c.requires.5) c.if-is_there.false c.name_fits.ensures (c.if-not-name_fits.false) c.is_list.ensures (c.if-not-is_list.false)

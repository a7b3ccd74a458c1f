use Rattle.v1.specs.ReadLaws.{files_part, part_small, single_never, single_is, several_is}
use Rattle.v1.proofs.read.v1_file.Goals as goal

pub slice_bounds-among-count : goal.slice_bounds-among-count
slice_bounds-among-count c = (files_part _ _ _ c.find.ensures _ _ c.in-Some.is).0

pub slice_bounds-among-start : goal.slice_bounds-among-start
slice_bounds-among-start c = (files_part _ _ _ c.find.ensures _ _ c.in-Some.is).0

pub slice_bounds-among-end : goal.slice_bounds-among-end
slice_bounds-among-end c = (files_part _ _ _ c.find.ensures _ _ c.in-Some.is).1

pub among-requires : goal.among-requires
among-requires c = (c.requires.0, part_small c.args.torrent.now c.in-Some.list.start c.in-Some.list.end _ c.requires.1)

pub returns-in-None-length_of : goal.returns-in-None-length_of
returns-in-None-length_of c = λ info st f. absurd (single_never _ _ _ c.find.ensures _ _ info st f c.in-None.is _ (c.length_of.ensures info st) c.in-None-length_of.is)

pub returns-in-Some-length_of : goal.returns-in-Some-length_of
returns-in-Some-length_of c = λ info st f. single_is _ _ _ c.find.ensures _ _ info st f c.in-None.is _ (c.length_of.ensures info st) _ c.in-Some-length_of.is

pub returns-in-Some : goal.returns-in-Some
returns-in-Some c = λ info st f. several_is _ _ _ c.find.ensures _ _ info st f _ _ c.in-Some.is _ c.among.ensures

use Rattle.std.proofs.Common.{rules, refl}
use Rattle.numbers.specs.Refusals.{refused_is_some}
use Rattle.torrent.proofs.Answering.{whole, file_asked, file_done, file_past, file_refused}
use Rattle.torrent.proofs.read.read_file.Goals as goal

pub slice_bounds-one_file-count : goal.slice_bounds-one_file-count
slice_bounds-one_file-count c = (whole _ _ c.in_ok-c.ensures refl).opened.tree_forward

pub slice_bounds-one_file-start : goal.slice_bounds-one_file-start
slice_bounds-one_file-start c = (whole _ _ c.in_ok-c.ensures refl).opened.tree_forward

pub slice_bounds-one_file-end : goal.slice_bounds-one_file-end
slice_bounds-one_file-end c = (whole _ _ c.in_ok-c.ensures refl).opened.tree_within

pub slice_bounds-one_file-count-2 : goal.slice_bounds-one_file-count-2
slice_bounds-one_file-count-2 c = (whole _ _ c.in_ok-c.ensures refl).opened.layers_forward

pub slice_bounds-one_file-start-2 : goal.slice_bounds-one_file-start-2
slice_bounds-one_file-start-2 c = (whole _ _ c.in_ok-c.ensures refl).opened.layers_forward

pub slice_bounds-one_file-end-2 : goal.slice_bounds-one_file-end-2
slice_bounds-one_file-end-2 c = (whole _ _ c.in_ok-c.ensures refl).opened.layers_within

pub one_file-requires : goal.one_file-requires
one_file-requires c = file_asked _ _ c.in_ok-c.ensures refl _ c.if-file-c.false

pub returns : goal.returns
returns c = file_done _ _ c.in_ok-c.ensures refl _ c.if-file-c.false _ c.one_file.ensures

pub returns-in_err-c : goal.returns-in_err-c
returns-in_err-c c = let w = file_refused _ _ c.in_err-c.ensures c.args.file (refused_is_some _) in search (rules, w)

pub returns-then-file-c : goal.returns-then-file-c
returns-then-file-c c = file_past _ _ c.in_ok-c.ensures refl _ c.if-file-c.true

use Rattle.std.proofs.Common.{rules, refl}
use Rattle.numbers.specs.Refusals.{refused_is_some}
use Rattle.torrent.proofs.Answering.{whole, path_asked, path_done, path_past, path_refused}
use Rattle.torrent.proofs.read.read_path.Goals as goal

pub slice_bounds-one_element-count : goal.slice_bounds-one_element-count
slice_bounds-one_element-count c = (whole _ _ c.in_ok-c.ensures refl).opened.tree_forward

pub slice_bounds-one_element-start : goal.slice_bounds-one_element-start
slice_bounds-one_element-start c = (whole _ _ c.in_ok-c.ensures refl).opened.tree_forward

pub slice_bounds-one_element-end : goal.slice_bounds-one_element-end
slice_bounds-one_element-end c = (whole _ _ c.in_ok-c.ensures refl).opened.tree_within

pub one_element-requires : goal.one_element-requires
one_element-requires c = path_asked _ _ c.in_ok-c.ensures refl _ c.if-file-c.false

pub returns : goal.returns
returns c = path_done _ _ c.in_ok-c.ensures refl _ c.if-file-c.false _ _ c.one_element.ensures

pub returns-in_err-c : goal.returns-in_err-c
returns-in_err-c c = let w = path_refused _ _ c.in_err-c.ensures c.args.file c.args.element (refused_is_some _) in search (rules, w)

pub returns-then-file-c : goal.returns-then-file-c
returns-then-file-c c = path_past _ _ c.in_ok-c.ensures refl _ _ c.if-file-c.true

use Rattle.std.proofs.Common.{rules, refl, arith}
use Rattle.numbers.specs.Refusals.{refused_is_some}
use Rattle.torrent.proofs.Answering.{whole, tree_inside, read_done, read_refused}
use Rattle.torrent.proofs.read.read.Goals as goal

-- these bounds hold of a part from `file tree` to the end of `info` too: a wrong start is refused at the hash
pub slice_bounds-hash-count : goal.slice_bounds-hash-count
slice_bounds-hash-count c = let o = (whole _ _ c.in_ok-c.ensures refl).opened in omega (arith, o.info_forward, o.tree_forward, tree_inside _ _ c.in_ok-c.ensures refl)

pub slice_bounds-hash-start : goal.slice_bounds-hash-start
slice_bounds-hash-start c = let o = (whole _ _ c.in_ok-c.ensures refl).opened in omega (arith, o.info_forward, o.tree_forward, tree_inside _ _ c.in_ok-c.ensures refl)

pub slice_bounds-hash-end : goal.slice_bounds-hash-end
slice_bounds-hash-end c = (whole _ _ c.in_ok-c.ensures refl).opened.info_within

pub returns-in_err-c : goal.returns-in_err-c
returns-in_err-c c = let w = read_refused _ _ c.in_err-c.ensures (refused_is_some _) in search (rules, w)

pub returns : goal.returns
returns c = read_done _ _ c.in_ok-c.ensures refl _ c.hash-hash.ensures

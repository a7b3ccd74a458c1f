use Rattle.std.proofs.Common.{rules, refl}
use Rattle.numbers.specs.Refusals.{refused_is_some}
use Rattle.torrent.proofs.Checking.{half_refused, whole, info_small, half_tree, halves_right, halves_wrong}
use Rattle.torrent.proofs.check.check.Goals as goal

pub returns-in_err-c : goal.returns-in_err-c
returns-in_err-c c = let w = half_refused _ _ c.in_err-c.ensures (refused_is_some _) in search (rules, w)

pub slice_bounds-halves_fit-count : goal.slice_bounds-halves_fit-count
slice_bounds-halves_fit-count c = (whole _ _ c.in_ok-c.ensures refl).opened.info_forward

pub slice_bounds-halves_fit-start : goal.slice_bounds-halves_fit-start
slice_bounds-halves_fit-start c = (whole _ _ c.in_ok-c.ensures refl).opened.info_forward

pub slice_bounds-halves_fit-end : goal.slice_bounds-halves_fit-end
slice_bounds-halves_fit-end c = (whole _ _ c.in_ok-c.ensures refl).opened.info_within

pub slice_bounds-halves_fit-count-2 : goal.slice_bounds-halves_fit-count-2
slice_bounds-halves_fit-count-2 c = (whole _ _ c.in_ok-c.ensures refl).opened.tree_forward

pub slice_bounds-halves_fit-start-2 : goal.slice_bounds-halves_fit-start-2
slice_bounds-halves_fit-start-2 c = (whole _ _ c.in_ok-c.ensures refl).opened.tree_forward

pub slice_bounds-halves_fit-end-2 : goal.slice_bounds-halves_fit-end-2
slice_bounds-halves_fit-end-2 c = (whole _ _ c.in_ok-c.ensures refl).opened.tree_within

pub halves_fit-requires : goal.halves_fit-requires
halves_fit-requires c = ((whole _ _ c.in_ok-c.ensures refl).opened.piece_length_lem, info_small _ _ c.in_ok-c.ensures refl, (half_tree _ _ c.in_ok-c.ensures refl).0, (half_tree _ _ c.in_ok-c.ensures refl).1)

pub returns-then-halves_fit : goal.returns-then-halves_fit
returns-then-halves_fit c = halves_right _ _ c.in_ok-c.ensures refl _ c.halves_fit.ensures c.if-halves_fit.true

pub returns : goal.returns
returns c = halves_wrong _ _ c.in_ok-c.ensures refl _ c.halves_fit.ensures c.if-halves_fit.false

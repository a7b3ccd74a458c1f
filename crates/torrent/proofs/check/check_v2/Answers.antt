use Rattle.std.proofs.Common.{rules, refl}
use Rattle.numbers.specs.Refusals.{refused_is_some}
use Rattle.torrent.proofs.Checking.{opened, keys_refused, number_refused, number_done, tree_small, layers_open}
use Rattle.torrent.proofs.check.check_v2.Goals as goal

pub slice_bounds-judge-count : goal.slice_bounds-judge-count
slice_bounds-judge-count c = (opened _ _ c.in_ok-keys.ensures refl).tree_forward

pub slice_bounds-judge-start : goal.slice_bounds-judge-start
slice_bounds-judge-start c = (opened _ _ c.in_ok-keys.ensures refl).tree_forward

pub slice_bounds-judge-end : goal.slice_bounds-judge-end
slice_bounds-judge-end c = (opened _ _ c.in_ok-keys.ensures refl).tree_within

pub slice_bounds-judge-count-2 : goal.slice_bounds-judge-count-2
slice_bounds-judge-count-2 c = (opened _ _ c.in_ok-keys.ensures refl).layers_forward

pub slice_bounds-judge-start-2 : goal.slice_bounds-judge-start-2
slice_bounds-judge-start-2 c = (opened _ _ c.in_ok-keys.ensures refl).layers_forward

pub slice_bounds-judge-end-2 : goal.slice_bounds-judge-end-2
slice_bounds-judge-end-2 c = (opened _ _ c.in_ok-keys.ensures refl).layers_within

pub judge-requires : goal.judge-requires
judge-requires c = (tree_small _ _ c.in_ok-keys.ensures refl, (opened _ _ c.in_ok-keys.ensures refl).piece_length_lem, layers_open _ _ c.in_ok-keys.ensures refl)

pub returns-in_err-keys : goal.returns-in_err-keys
returns-in_err-keys c = let w = keys_refused _ _ c.in_err-keys.ensures (refused_is_some _) in search (rules, w)

pub returns-in_err-judged : goal.returns-in_err-judged
returns-in_err-judged c = let w = number_refused _ _ c.in_ok-keys.ensures refl _ c.in_err-judged.ensures (refused_is_some _) in search (rules, w)

pub returns : goal.returns
returns c = number_done _ _ c.in_ok-keys.ensures refl _ c.in_ok-judged.ensures refl

use Rattle.std.proofs.Common.{[], rules, arith, ◌∙◌}
use Rattle.numbers.specs.Refusals.{refused_is_some}
use Rattle.torrent.proofs.Checking.{judged_wrong, counted_right, full_fits, full_within, once_inside, roots_once, long_fits, judged_same, judged_amiss, judged_number, judged_refused, keys_indexed}
use Rattle.torrent.proofs.check.judge_in.Goals as goal

pub once_each-count-requires : goal.once_each-count-requires
once_each-count-requires c = let x = full_fits _ [] 0 _ _ _ _ c.in-Some.ensures (c.count_files.auto.roots ∙ c.requires.3) in let y = (c.count_files.auto.roots ∙ c.requires.3) in let z = c.requires.4 in (omega arith, omega arith, full_within _ [] 0 _ _ _ _ c.in-Some.ensures (c.count_files.auto.roots ∙ c.requires.3))

pub compare-requires : goal.compare-requires
compare-requires c = let a = once_inside _ [] 0 _ _ _ _ c.in-Some.ensures (c.count_files.auto.roots ∙ c.requires.3) _ c.once_each-count.ensures.0 _ c.once_each-count.ensures.1 in let b = c.once_each-count.auto.at in let d = (c.count_files.auto.roots ∙ c.requires.3) in let e = c.once_each-count.auto.room in let g = c.requires.4 in (roots_once _ [] 0 _ _ _ _ c.in-Some.ensures (c.count_files.auto.roots ∙ c.requires.3) _ c.once_each-count.ensures.0 _ c.once_each-count.ensures.1, counted_right _ [] 0 _ _ _ _ c.in-Some.ensures (c.count_files.auto.roots ∙ c.requires.3), omega arith, c.requires.0)

pub index-requires : goal.index-requires
index-requires c = let a = long_fits _ [] _ _ _ _ _ c.in-Some.ensures (c.count_files.auto.roots ∙ c.requires.3) _ c.in-Some-compare.ensures in let b = c.once_each-count.auto.at in let d = (c.count_files.auto.roots ∙ c.requires.3) in (c.requires.2.small, omega arith)

pub judge_layers-requires : goal.judge_layers-requires
judge_layers-requires c = (keys_indexed _ _ _ _ _ _ _ c.in-Some.ensures (c.count_files.auto.roots ∙ c.requires.3) _ c.in-Some-compare.ensures _ c.index.ensures.0 c.if-index.true _ (c.index.auto.keys ∙ c.once_each-count.auto.at ∙ (c.count_files.auto.roots ∙ c.requires.3)) c.index.ensures.1 c.requires.2, c.requires.1, counted_right _ [] 0 _ _ _ _ c.in-Some.ensures (c.count_files.auto.roots ∙ c.requires.3))

pub shape_of-roots-then-index : goal.shape_of-roots-then-index
shape_of-roots-then-index c = c.index.auto.keys ∙ c.once_each-count.auto.at ∙ c.count_files.auto.roots

pub returns-then-index : goal.returns-then-index
returns-then-index c = judged_number _ _ _ _ _ _ _ c.in-Some.ensures (c.count_files.auto.roots ∙ c.requires.3) _ c.in-Some-compare.ensures _ c.index.ensures.0 c.if-index.true _ c.in_ok-judge_layers-in-Some-compare.ensures

pub returns-in_err-judge_layers-in-Some-compare : goal.returns-in_err-judge_layers-in-Some-compare
returns-in_err-judge_layers-in-Some-compare c =
    let w = judged_refused _ _ _ (refused_is_some _) ∙ judged_number _ _ _ _ _ _ _ c.in-Some.ensures (c.count_files.auto.roots ∙ c.requires.3) _ c.in-Some-compare.ensures _ c.index.ensures.0 c.if-index.true _ c.in_err-judge_layers-in-Some-compare.ensures in
    search (rules, w)

pub shape_of-roots-in_err-judge_layers-in-Some-compare : goal.shape_of-roots-in_err-judge_layers-in-Some-compare
shape_of-roots-in_err-judge_layers-in-Some-compare c = c.index.auto.keys ∙ c.once_each-count.auto.at ∙ c.count_files.auto.roots

pub returns-in-None : goal.returns-in-None
returns-in-None c = judged_wrong _ _ _ c.in-None.ensures.0

pub returns-in-None-compare : goal.returns-in-None-compare
returns-in-None-compare c = judged_same _ _ _ _ _ _ _ c.in-Some.ensures (c.count_files.auto.roots ∙ c.requires.3) c.in-None-compare.ensures

pub returns-else-index : goal.returns-else-index
returns-else-index c = judged_amiss _ _ _ _ _ _ _ c.in-Some.ensures (c.count_files.auto.roots ∙ c.requires.3) _ c.in-Some-compare.ensures _ c.index.ensures.0 c.if-index.false

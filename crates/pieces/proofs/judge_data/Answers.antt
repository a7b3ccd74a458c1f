-- Not held is 6; else the number is by what look_data worked out.
use Rattle.std.proofs.Common.{rules}
use Rattle.numbers.specs.Refusals.{refused_is_some}
use Rattle.tree.specs.Values.{leaf_of}
use Rattle.pieces.proofs.Ways.{judged_held, judged_6}
use Rattle.pieces.proofs.judge_data.Goals as goal

pub returns-in_err-anchored : goal.returns-in_err-anchored
returns-in_err-anchored c = let w = judged_6 c.args.store.now c.args.top (leaf_of c.args.bytes.now) c.args.height _ c.in_err-anchored.ensures (refused_is_some _) in search (rules, w)

pub returns : goal.returns
returns c = judged_held _ _ _ _ c.in_ok-anchored.ensures _ _ _ c.look_data-seen.ensures c.judge_seen.ensures

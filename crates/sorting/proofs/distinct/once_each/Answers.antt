-- Sorted, the positions are the same ones, and those of one string stand side by side; the first of each is kept.
use Rattle.std.proofs.Common.{length-take-le, length, take, arith, ap, sym, ℕ, cond, ltb, ◌-◌, ◌≡◌, ◌∙◌}
use Rattle.sorting.specs.SortedBy.{sorted_by}
use Rattle.sorting.specs.Sorting.{lower}
use Rattle.sorting.specs.SortingLaws.{fit_member}
use Rattle.sorting.proofs.Thinning.{first_fit, sorted_fit, thinned_back, room_back}
use Rattle.sorting.proofs.distinct.once_each.Goals as goal

pub sort-requires : goal.sort-requires
sort-requires c = let z : c.args.count - 0 ≡ c.args.count = omega arith in (
  fit_member _ _ (first_fit _ c.args.at.now (c.args.count - 0) c.args.count z c.requires.2),
  length-take-le (c.args.count - 0) c.args.room.now (omega arith) ∙ sym (length-take-le (c.args.count - 0) c.args.at.now (omega arith)),
)

pub thin-requires : goal.thin-requires
thin-requires c = let sorted = c.sort in
    let z : c.args.count - 0 ≡ c.args.count = omega arith in
    sorted_fit _ c.args.at.now (c.args.count - 0) c.args.count z c.requires.0 sorted.new.at sorted.ensures.0 _ c.requires.2

pub returns : goal.returns
returns c = let sorted = c.sort in
    let thinned = c.thin in
    let z : c.args.count - 0 ≡ c.args.count = omega arith in
    let back = thinned_back _ c.args.at.now (c.args.count - 0) c.args.count z c.requires.0 sorted.new.at sorted.ensures.0 _ thinned.new.at thinned.ensures in
    let long : length (take (c.args.count - 0) c.args.at.now) ≡ c.args.count =
    length-take-le (c.args.count - 0) c.args.at.now (omega arith) ∙ z in
    let shown = sorted.ensures.1 ∙ ap (λ (n : ℕ). cond (ltb n 2) (take (c.args.count - 0) c.args.room.now)
    (sorted_by (lower c.args.bytes.now) (take (c.args.count - 0) c.args.at.now))) long in
    (back.0, back.1, room_back _ c.args.at.now c.args.room.now (c.args.count - 0) c.args.count z sorted.new.room shown)

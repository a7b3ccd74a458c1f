use Rattle.std.proofs.Common.{List, [], arith, ℕ, length, refl, ap, sym, ◌∙◌, rules}
use Rattle.writer_order.specs.ItemLaws.{passed_start, passed_end, passed_more, length_more}
use Rattle.writer_lists.specs.PathsLaws.{element_size}
use Rattle.writer_order.proofs.items.depth.Goals as goal

pub loop-at-init : goal.loop-at-init
loop-at-init c = ([], passed_start c.args.path.now c.requires, refl)

pub number_at-m-requires : goal.number_at-m-requires
number_at-m-requires c = (
  element_size c.args.path.now c.loop-at.at c.loop-at.invariant.1.left c.loop-at-test.true,
  omega arith,
)

pub overflow_add-n : goal.overflow_add-n
overflow_add-n c = let f = c.loop-at.invariant.1.few in let n = c.loop-at.invariant.2 in search rules

pub loop-at-preserved : goal.loop-at-preserved
loop-at-preserved c = let s = c.args.path.now in let l = c.loop-at in (
  _,
  passed_more s l.at l.invariant.0 l.invariant.1 c.loop-at-test.true _ c.number_at-m.ensures.0,
  length_more
      l.invariant.0 _ l.n l.invariant.2,
)

pub returns : goal.returns
returns c = let s = c.args.path.now in let l = c.loop-at in let e = passed_end s l.at l.invariant.0 l.invariant.1
    c.loop-at-test.false in (
      l.invariant.2 ∙ ap (λ (x : List (List ℕ)). length x) (sym e),
      omega
          (arith, l.invariant.1.few, l.invariant.1.left.within, l.invariant.2),
    )

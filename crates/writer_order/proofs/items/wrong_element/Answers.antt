use Rattle.std.proofs.Common.{not, List, [], arith, ℕ, refl, ap, sym, ◌∙◌}
use Rattle.writer_order.specs.ItemLaws.{passed_start, passed_end, passed_here, passed_more, some_last, some_in}
use Rattle.writer_lists.specs.PathsLaws.{element_size, element_end_lem}
use Rattle.writer_meaning.specs.Number.{some}
use Rattle.meaning.specs.Torrent.{element_right}
use Rattle.writer_order.proofs.items.wrong_element.Goals as goal

pub loop-at-init : goal.loop-at-init
unfolding some
loop-at-init c = ([], passed_start c.args.path.now c.requires, refl)

pub number_at-m-requires : goal.number_at-m-requires
number_at-m-requires c = (
  element_size c.args.path.now c.loop-at.at c.loop-at.invariant.1.left c.loop-at-test.true,
  omega arith,
)

pub element_right-requires : goal.element_right-requires
element_right-requires c = element_end_lem c.args.path.now c.loop-at.at _ c.loop-at.invariant.1.left
    c.loop-at-test.true c.number_at-m.ensures.0

pub returns-then-not-element_right : goal.returns-then-not-element_right
returns-then-not-element_right c = let s = c.args.path.now in let l = c.loop-at in let w =
    passed_here s l.at l.invariant.0 l.invariant.1 c.loop-at-test.true _
    c.number_at-m.ensures.0 in sym
    (ap (some (λ (e : List ℕ). not (element_right e))) w.1 ∙ some_in (λ (e : List ℕ). not (element_right e)) l.invariant.0 _ w.0
    (ap not (sym c.element_right.ensures ∙ c.if-not-element_right.true)))

pub loop-at-preserved : goal.loop-at-preserved
loop-at-preserved c = let s = c.args.path.now in let l = c.loop-at in (
  _,
  passed_more s l.at l.invariant.0 l.invariant.1 c.loop-at-test.true _
      c.number_at-m.ensures.0,
  some_last (λ (e : List ℕ). not (element_right e)) l.invariant.0 _ l.invariant.2
      (ap not (sym c.element_right.ensures ∙ c.if-not-element_right.false)),
)

pub returns : goal.returns
returns c = let s = c.args.path.now in let l = c.loop-at in sym
    (ap (some (λ (e : List ℕ). not (element_right e))) (passed_end s l.at l.invariant.0 l.invariant.1 c.loop-at-test.false) ∙ l.invariant.2)

use Rattle.std.proofs.Common.{sym, ◌∙◌, subst, ℕ, ◌≡◌, Some}
use Rattle.writer_order.specs.Order.{InForm}
use Rattle.writer_order.specs.OrderLaws.{placed_index}
use Rattle.writer_order.specs.StepsLaws.{clashing_start, clashing_end, clashing_empty, clashing_stop, clashing_on}
use Rattle.writer_order.proofs.clash.clashes.Goals.{then-is_full+else-wrong_next, else-is_full}
use Rattle.writer_order.proofs.clash.clashes.Goals as goal

some_is : {p q : ℕ} → Some p ≡ Some q → p ≡ q
some_is e = cc

pub loop-place-init : goal.loop-place-init
loop-place-init g c = (λ p e. cc, λ alone beside told agreed. clashing_start _ _ alone beside _)

pub is_full-requires : goal.is_full-requires
is_full-requires g c = (placed_index _ c.args.text.now _ _ _ c.requires.0 c.loop-place-test.true c.index-p.ensures).0

pub wrong_next-requires : goal.wrong_next-requires
wrong_next-requires g c = (
  c.loop-place.invariant.0,
  placed_index _ _ _ _ _ c.requires.0 c.loop-place-test.true c.index-p.ensures,
  c.requires.1,
  c.requires.2,
)

pub returns-then-wrong_next : goal.returns-then-wrong_next
returns-then-wrong_next g c = let k = c.args in let l = c.loop-place in
    λ alone beside told agreed. sym
    (clashing_stop k.list.now k.text.now alone beside k.at.now l.last l.place-index (l.invariant.1 alone beside told agreed)
    c.loop-place-test.true _ c.index-p.ensures
    (sym c.is_full.ensures ∙ c.if-is_full.true)
    (sym (c.wrong_next.ensures alone beside told agreed) ∙ c.if-wrong_next.true))

pub loop-place-preserved : goal.loop-place-preserved
loop-place-preserved g c = let k = c.args in let l = c.loop-place in
    elim c.if-is_full.branch [
      | then-is_full+else-wrong_next w ↦ rw w.last-is (
        λ p e. subst (InForm k.list.now k.text.now) (some_is e) (placed_index _ _ _ _ _ c.requires.0 c.loop-place-test.true c.index-p.ensures),
        λ alone beside told agreed. clashing_on k.list.now k.text.now alone beside k.at.now l.last l.place-index
            (l.invariant.1 alone beside told agreed) c.loop-place-test.true _ c.index-p.ensures
            (sym c.is_full.ensures ∙ w.if-is_full.true) (sym (w.wrong_next.ensures alone beside told agreed) ∙ w.if-wrong_next.false),
      )
      | else-is_full w ↦ rw w.last-is (
        l.invariant.0,
        λ alone beside told agreed. clashing_empty k.list.now k.text.now alone beside k.at.now l.last l.place-index
            (l.invariant.1 alone beside told agreed) c.loop-place-test.true _ c.index-p.ensures
            (sym c.is_full.ensures ∙ w.if-is_full.false),
      )
    ]

pub returns : goal.returns
returns g c = let k = c.args in let l = c.loop-place in
    λ alone beside told agreed. sym
    (clashing_end k.list.now k.text.now alone beside k.at.now l.last l.place-index (l.invariant.1 alone beside told agreed)
    c.loop-place-test.false)

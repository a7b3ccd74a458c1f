use Rattle.std.proofs.Common.{arith, refl, sym, ap, ◌∙◌, ◌≡◌, ◌≤◌, ◌<◌, ◌+◌, ◌-◌, ℕ, List, map, drop, get_or, length, true, false}
use Rattle.writer_meaning.specs.Content.{Item}
use Rattle.writer_lists.specs.Lists.{item_at}
use Rattle.writer_order.specs.Neighbours.{neighbours, leads}
use Rattle.writer_order.specs.OrderLaws.{placed_index}
use Rattle.writer_order.specs.StepsLaws.{neighbours_end, neighbours_stop, neighbours_on}
use Rattle.writer_order.proofs.meet.meets.Goals as goal

-- the two neighbours that end at i
module _ (f : ℕ → Item) (at : List ℕ) (i : ℕ) (some : 1 ≤ i)
    (whole : neighbours leads (map f at) ≡ neighbours leads (map f (drop (i - 1) at))) where
  back : i - 1 + 1 ≡ i
  back = omega arith

  pub none_met : length at ≤ i → neighbours leads (map f at) ≡ false
  none_met h = whole ∙ neighbours_end leads f at (i - 1) (omega arith)

  module _ (h : i < length at) (p q : ℕ) (ep : p ≡ get_or at (i - 1) 0) (eq : q ≡ get_or at i 0) where
    second : q ≡ get_or at (i - 1 + 1) 0
    second = eq ∙ ap (λ (n : ℕ). get_or at n 0) (sym back)

    pub met : leads (f p) (f q) ≡ true → neighbours leads (map f at) ≡ true
    met e = neighbours_stop leads f at (i - 1) (omega arith) p q ep second whole e

    pub met_on : leads (f p) (f q) ≡ false → neighbours leads (map f at) ≡ neighbours leads (map f (drop (i + 1 - 1) at))
    met_on e =
        let next : i - 1 + 1 ≡ i + 1 - 1 = omega arith in
        neighbours_on leads f at (i - 1) (omega arith) p q ep second whole e
        ∙ ap (λ (n : ℕ). neighbours leads (map f (drop n at))) next

pub loop-i-init : goal.loop-i-init
loop-i-init c = refl

pub leads-requires : goal.leads-requires
leads-requires c = let x = placed_index c.args.list.now c.args.text.now c.args.at.now _ _ c.requires (omega (arith, c.loop-i-test.true))
    c.index-p.ensures in let y = placed_index c.args.list.now c.args.text.now c.args.at.now _ _
    c.requires c.loop-i-test.true c.index-q.ensures in (x.0, y.0, x.1, y.1)

pub returns-then-leads : goal.returns-then-leads
returns-then-leads c = sym (met (item_at c.args.list.now c.args.text.now) c.args.at.now c.loop-i.i (omega arith)
    c.loop-i.invariant c.loop-i-test.true _ _ c.index-p.ensures c.index-q.ensures (sym c.leads.ensures ∙ c.if-leads.true))

pub loop-i-preserved : goal.loop-i-preserved
loop-i-preserved c = met_on (item_at c.args.list.now c.args.text.now) c.args.at.now c.loop-i.i (omega arith)
    c.loop-i.invariant c.loop-i-test.true _ _ c.index-p.ensures c.index-q.ensures (sym c.leads.ensures ∙ c.if-leads.false)

pub returns : goal.returns
returns c = sym (none_met (item_at c.args.list.now c.args.text.now) c.args.at.now c.loop-i.i (omega arith)
    c.loop-i.invariant c.loop-i-test.false)

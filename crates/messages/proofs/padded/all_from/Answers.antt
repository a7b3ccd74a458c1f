use Rattle.std.proofs.Common.{List, arith, ℕ, ap, sym, ◌∙◌}
use Rattle.octets.specs.Octets.{same}
use Rattle.messages.proofs.Padding.{all_none, all_more, all_done, all_fails}
use Rattle.messages.proofs.padded.all_from.Goals as goal

pub loop-i-init : goal.loop-i-init
loop-i-init c = let a = c.args in
    (omega arith, all_none a.run.now a.v a.from a.from (omega arith))

pub returns-then-not-alike : goal.returns-then-not-alike
returns-then-not-alike c = let a = c.args in
    let l = c.loop-i in
    all_fails a.run.now a.v a.from a.n l.i l.invariant.0 c.loop-i-test.true
    (ap (λ (h : List ℕ). same h a.v) (sym c.hash_at-h.ensures) ∙ sym c.same-alike.ensures ∙ c.if-not-alike.true)

pub loop-i-preserved : goal.loop-i-preserved
loop-i-preserved c = let a = c.args in
    let l = c.loop-i in (
      omega arith,
      all_more a.run.now a.v a.from l.i l.invariant.0 l.invariant.1
          (ap (λ (h : List ℕ). same h a.v) (sym c.hash_at-h.ensures) ∙ sym c.same-alike.ensures ∙ c.if-not-alike.false),
    )

pub returns : goal.returns
returns c = let a = c.args in
    let l = c.loop-i in
    all_done a.run.now a.v a.from a.n l.i c.loop-i-test.false l.invariant.1

-- The first i words have their round words added, and those from i on are as they were.
-- Assumes nothing.
use Rattle.std.proofs.Common.{get_or-set_other, take_all, arith, ℕ, ◌+◌, set, take, length-set, ◌≡◌, refl, ap, sym, ◌∙◌}
use Rattle.rounds.specs.StageLaws.{sums_more}
use Rattle.rounds.specs.Sums.{sums}
use Rattle.rounds.proofs.add_round_words.Goals as goal

pub loop-i-init : goal.loop-i-init
unfolding sums
loop-i-init c = (c.requires, refl, λ j h. refl)

pub loop-i-preserved : goal.loop-i-preserved
loop-i-preserved c = let l = c.loop-i in
    let w₀ = c.args.w.now in
    let ks = c.args.k.now in (
      length-set l.w l.i c.add.result ∙ l.invariant.0,
      ap (λ (x : ℕ). take (l.i + 1) (set l.w l.i x)) c.add.ensures
          ∙ sums_more ks w₀ l.w l.i (omega arith) l.invariant.1 (l.invariant.2 l.i (omega arith)),
      λ j h. get_or-set_other l.w l.i j c.add.result 0 (λ e. omega arith) ∙ l.invariant.2 j (omega arith),
    )

pub returns : goal.returns
returns c = let l = c.loop-i in
    let e : l.i ≡ 64 = omega arith in
    sym (take_all 64 l.w (omega (arith, l.invariant.0))) ∙ rw e at l.invariant.1

use Rattle.std.proofs.Common.{List, arith, ℕ, ◌*◌, take, drop, replicate, ◌≡◌, refl, ap, sym, ◌∙◌}
use Rattle.padding.specs.ZerosLaws.{zero_block}
use Rattle.padding.specs.CuttingLaws.{blocks_more}
use Rattle.padding.specs.Cutting.{over_blocks}
use Rattle.rounds1.specs.declared.Five.{Five}
use Rattle.rounds1.specs.Block.{compress}
use Rattle.sha_1.proofs.zero_blocks.Goals as goal

pub loop-i-init : goal.loop-i-init
unfolding over_blocks
loop-i-init c = refl

pub loop-i-preserved : goal.loop-i-preserved
loop-i-preserved c = let a = c.args in
    let l = c.loop-i in
    let block : take {A = ℕ} 64 (drop 0 (replicate 64 0)) ≡ take 64 (drop (64 * l._i) (replicate a.zeros 0)) = zero_block 64 0 (omega arith) ∙ sym (zero_block a.zeros (64 * l._i) (omega arith)) in
    c.compress-t.ensures
    ∙ ap (λ (b : List ℕ). compress l.t b) block
    ∙ ap (λ (t : Five). compress t (take 64 (drop (64 * l._i) (replicate a.zeros 0)))) l.invariant
    ∙ blocks_more compress (replicate a.zeros 0) a.state l._i

use Rattle.rounds.specs.Block.{round, T₁, T₂}
use Rattle.bits.specs.Words.{Ch, Σ₁}
use Rattle.rounds.proofs.Laws.{sum_t1}
use Rattle.rounds.proofs.round.Goals as goal

pub returns : goal.returns
unfolding round T₁ T₂
returns c = let s = c.args.state in
    cc (sum_t1 s.h c.args.sum (Ch s.e s.f s.g) (Σ₁ s.e))

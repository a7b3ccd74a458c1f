use Rattle.rounds1.proofs.Laws.{sum5}
use Rattle.bits.specs.Words.{rotl}
use Rattle.rounds1.specs.Block.{turn}
use Rattle.rounds1.proofs.turn.Goals as goal

pub returns : goal.returns
unfolding turn
returns c = let a = c.args in
    cc (sum5 a.k a.w a.s.e a.x (rotl 5 a.s.a))

use Rattle.std.proofs.Common.{arith, rules}
use Rattle.saved.proofs.Answers.{pad_real, pad_past}
use Rattle.saved.proofs.Pairs.{pad_found}
use Rattle.saved.proofs.chain.pad_right.Goals as goal

pub returns-then-i-real : goal.returns-then-i-real
returns-then-i-real c = pad_real _ _ _ _ _ _ c.layer_in-l.ensures c.index_in-i.ensures c.covering-real.ensures c.if-i-real.true

pub overflow_mul-l : goal.overflow_mul-l
overflow_mul-l c = let w = c.layer_in-l.ensures in let u = c.requires in search rules

pub hash_at-v-requires : goal.hash_at-v-requires
hash_at-v-requires c = omega (arith, c.layer_in-l.ensures, c.requires.2, c.requires.1, c.requires.3.size)

pub returns : goal.returns
returns c = pad_past _ _ _ _ _ _ c.layer_in-l.ensures c.index_in-i.ensures c.covering-real.ensures _ _ _ c.if-i-real.false c.hash_in-mine.ensures (pad_found _ _ _ _ c.requires.3 (omega (arith, c.layer_in-l.ensures, c.requires.2)) c.hash_at-v.ensures) c.same.ensures

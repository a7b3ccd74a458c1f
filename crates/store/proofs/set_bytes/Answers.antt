-- Three parts put side by side into zeros are one part put there; the root's cell comes last.
use Rattle.std.proofs.Common.{arith}
use Rattle.store.proofs.Answers.{opened_by}
use Rattle.store.proofs.set_bytes.Goals as goal

pub returns : goal.returns
returns c = opened_by _ _ _ _ _ _ _ _ _ _ c.requires.0 c.requires.1 (omega arith) c.clear.ensures c.put_number.ensures c.put_number-2.ensures c.put_hash.ensures c.put_at.ensures

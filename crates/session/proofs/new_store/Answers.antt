-- The array is as long as the store of the largest file that the replay takes.
-- Assumes nothing.
use Rattle.std.proofs.Common.{arith, replicate, ℕ, ap, sym}
use Rattle.session.specs.RoomLaws.{max_store_lem}
use Rattle.std.proofs.lemmas.List.{length-replicate}
use Rattle.session.proofs.new_store.Goals as goal

pub returns : goal.returns
returns c = (ap (λ (k : ℕ). replicate {A = ℕ} k 0) (sym max_store_lem), simp length-replicate (omega (arith, max_store_lem)))

-- Its bytes are the callee's; the four numbers fit in 32 bits.
use Rattle.std.proofs.Common.{List, ℕ, ap}
use Rattle.asking.proofs.next.request_for.Goals as goal

pub returns : goal.returns
returns c = let x = c.args.header in
    ap (λ (y : List ℕ). record { number = 0; asks = 1; base = x.base; index = x.index; len = x.len; proof = x.proof; message = y }) c.request_bytes-message.ensures

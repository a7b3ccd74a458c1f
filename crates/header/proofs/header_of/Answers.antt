use Rattle.header.specs.Header.{header_of}
use Rattle.header.proofs.header_of.Goals as goal

pub returns : goal.returns
unfolding header_of
returns c = let x1 = c.number_at-base in
    let x2 = c.number_at-index in
    let x3 = c.number_at-len in
    let x4 = c.number_at-proof in
    (cc (x1.ensures.0, x2.ensures.0, x3.ensures.0, x4.ensures.0), record { base = x1.ensures.1; index = x2.ensures.1; len = x3.ensures.1; proof = x4.ensures.1 })

use Rattle.std.proofs.Common.{lt-ltb, le-ltb, List, arith, ℕ, suc, length, ap, sym}
use Rattle.octets.specs.Octets.{zero_hash}
use Rattle.sha256.specs.Answer.{hashed_of}
use Rattle.limits.specs.Limits.{longest_hashed}
use Rattle.sha256.proofs.sha256.Goals as goal

pub returns-then-bytes-le-LONGEST_HASHED : goal.returns-then-bytes-le-LONGEST_HASHED
unfolding hashed_of
returns-then-bytes-le-LONGEST_HASHED c = let m = c.args.bytes.now in
    sym (rw (lt-ltb (length m) (suc longest_hashed) (omega (arith, c.if-bytes-le-LONGEST_HASHED.true))) (ap (λ (h : List ℕ). record { number = 0; hash = h }) (sym c.hash-h.ensures)))

pub returns : goal.returns
unfolding hashed_of zero_hash
returns c = let m = c.args.bytes.now in
    sym (rw (le-ltb (length m) (suc longest_hashed) (omega (arith, c.if-bytes-le-LONGEST_HASHED.false))))

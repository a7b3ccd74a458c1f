use Rattle.std.proofs.Common.{List, lt-ltb, le-ltb, arith, ℕ, suc, length, ap, sym}
use Rattle.sha_1.specs.Answer.{sha1_of, zero_sha1}
use Rattle.limits.specs.Limits.{longest_hashed}
use Rattle.sha_1.proofs.sha1.Goals as goal

pub returns-then-bytes-le-LONGEST_HASHED : goal.returns-then-bytes-le-LONGEST_HASHED
unfolding sha1_of
returns-then-bytes-le-LONGEST_HASHED c = let m = c.args.bytes.now in
    sym (rw (lt-ltb (length m) (suc longest_hashed) (omega (arith, c.if-bytes-le-LONGEST_HASHED.true))) (ap (λ (h : List ℕ). record { number = 0; hash = h }) (sym c.hash-hash.ensures)))

pub returns : goal.returns
unfolding sha1_of zero_sha1
returns c = let m = c.args.bytes.now in
    sym (rw (le-ltb (length m) (suc longest_hashed) (omega (arith, c.if-bytes-le-LONGEST_HASHED.false))))

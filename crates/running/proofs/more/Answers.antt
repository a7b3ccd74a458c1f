use Rattle.std.proofs.Common.{arith, sym, ◌∙◌}
use Rattle.running.specs.BurstsLaws.{possible_says, more_impossible, more_long, more_done}
use Rattle.running.proofs.more.Goals as goal

pub overflow_sub-left : goal.overflow_sub-left
overflow_sub-left c = let p = possible_says c.args.hashing.tail_size c.args.hashing.total (sym c.is_possible.ensures ∙ c.if-is_possible.true) in omega arith

pub absorb-requires : goal.absorb-requires
absorb-requires c = let p = possible_says c.args.hashing.tail_size c.args.hashing.total (sym c.is_possible.ensures ∙ c.if-is_possible.true) in (p.1, omega arith)

pub returns-then-burst-left : goal.returns-then-burst-left
returns-then-burst-left c = let h = c.args.hashing in
    let e = sym c.is_possible.ensures ∙ c.if-is_possible.true in
    let p = possible_says h.tail_size h.total e in
    more_done h c.absorb.result c.args.burst.now e (omega arith) c.absorb.ensures.0

pub returns-then-is_possible : goal.returns-then-is_possible
returns-then-is_possible c = more_long c.args.hashing c.args.burst.now (sym c.is_possible.ensures ∙ c.if-is_possible.true) (omega arith)

pub returns : goal.returns
returns c = more_impossible c.args.hashing c.args.burst.now (sym c.is_possible.ensures ∙ c.if-is_possible.false)

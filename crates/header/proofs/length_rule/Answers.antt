use Rattle.std.proofs.Common.{arith}
use Rattle.header.proofs.Rules.{length_small, length_large, length_middle, log_small}
use Rattle.header.proofs.length_rule.Goals as goal

pub returns-then-len-lt2 : goal.returns-then-len-lt2
returns-then-len-lt2 c = length_small c.args.len c.if-len-lt2.true

pub returns-then-len-gt-LONGEST_RUN : goal.returns-then-len-gt-LONGEST_RUN
returns-then-len-gt-LONGEST_RUN c = length_large c.args.len (omega (arith, c.if-len-gt-LONGEST_RUN.true))

pub overflow_shl-result : goal.overflow_shl-result
overflow_shl-result c = omega (arith, c.log2-k.ensures, log_small c.args.len (omega (arith, c.if-len-gt-LONGEST_RUN.false)))

pub returns : goal.returns
returns c = length_middle c.args.len c.log2-k.result c.if-len-lt2.false c.if-len-gt-LONGEST_RUN.false c.log2-k.ensures

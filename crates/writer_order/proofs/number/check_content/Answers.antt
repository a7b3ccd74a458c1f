use Rattle.std.proofs.Common.{rules}
use Rattle.numbers.specs.Refusals.{code_of}
use Rattle.writer_order.proofs.number.check_content.Goals as goal

pub returns-in_err-alone : goal.returns-in_err-alone
returns-in_err-alone c = λ name e. let w = c.in_err-alone.ensures name (code_of c.args.roots) e c.requires.2 in search (rules, w)

pub returns : goal.returns
returns c = λ name e. c.in_ok-alone.ensures name (code_of c.args.roots) e c.requires.2

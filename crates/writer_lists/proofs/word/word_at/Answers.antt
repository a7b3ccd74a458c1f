use Rattle.std.proofs.Common.{arith}
use Rattle.writer_lists.specs.ListsLaws.{four_bytes}
use Rattle.writer_lists.proofs.word.word_at.Goals as goal

pub returns : goal.returns
returns c = let s = c.args.bytes.now in let e = four_bytes s
    c.args.at in (
      omega (
        arith,
        e,
        c.wide-a.ensures.0,
        c.wide-b.ensures.0,
        c.wide-c.ensures.0,
        c.wide-d.ensures.0,
      ),
      omega (
        arith,
        c.wide-a.ensures.1,
        c.wide-b.ensures.1,
        c.wide-c.ensures.1,
        c.wide-d.ensures.1,
      ),
    )

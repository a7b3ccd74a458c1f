use Rattle.std.proofs.Common.{length-set, arith, take, drop, ◌≡◌, refl, ◌∙◌}
use Rattle.bits.specs.ParsingLaws.{words_more, word_in}
use Rattle.bits.specs.Parsing.{words}
use Rattle.rounds.proofs.load.Goals as goal

pub loop-i-init : goal.loop-i-init
unfolding words
loop-i-init c = (c.requires.1, refl)

pub loop-i-preserved : goal.loop-i-preserved
loop-i-preserved c = let l = c.loop-i in
    let s = c.args.bytes.now in
    let at = c.args.at in (
      length-set l.w l.i c.word.result ∙ l.invariant.0,
      words_more (take 64 (drop at s)) l.w l.i c.word.result (omega arith) l.invariant.1
          (c.word.ensures ∙ word_in s at l.i (omega arith)),
    )

pub returns : goal.returns
returns c = let e : c.loop-i.i ≡ 16 = omega arith in
    (c.loop-i.invariant.0, rw e at c.loop-i.invariant.1)

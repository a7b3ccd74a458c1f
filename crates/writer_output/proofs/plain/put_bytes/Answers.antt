use Rattle.std.proofs.Common.{arith, length, ◌≡◌, refl, ap, ◌∙◌}
use Rattle.writer_output.specs.PutLaws.{put_outside}
use Rattle.std.proofs.Math.Seq.{paste-zero}
use Rattle.std.proofs.lemmas.List.Edits.{length-paste}
use Rattle.octets.proofs.Turn.{turn, whole}
use Rattle.writer_output.proofs.plain.put_bytes.Goals as goal

pub returns-then-out-end : goal.returns-then-out-end
returns-then-out-end c = put_outside c.args.out.now c.args.at c.args.bytes.now c.if-out-end.true

pub loop-i-init : goal.loop-i-init
loop-i-init c = (paste-zero c.args.out.now c.args.at c.args.bytes.now)

pub bounds-out-at : goal.bounds-out-at
bounds-out-at c = omega (
  arith,
  (let it : length c.loop-i.out ≡ length c.args.out.now = ap length c.loop-i.invariant ∙ length-paste c.args.out.now c.args.at
      c.args.bytes.now c.loop-i.i (omega arith) (omega arith) in it),
)

pub loop-i-preserved : goal.loop-i-preserved
loop-i-preserved c = (turn _ _ _ _ _ c.loop-i.invariant (omega arith) (omega arith))

pub shape_of-out : goal.shape_of-out
shape_of-out c = (let it : length c.loop-i.out ≡ length c.args.out.now = ap length c.loop-i.invariant ∙ length-paste c.args.out.now c.args.at
    c.args.bytes.now c.loop-i.i (omega arith) (omega arith) in it)

pub returns : goal.returns
returns c = record { behind = refl; there = λ h. whole _ _ _ _ c.loop-i.i _ c.loop-i.invariant refl (omega arith) }

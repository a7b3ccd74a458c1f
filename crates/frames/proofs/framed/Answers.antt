use Rattle.std.proofs.Common.{arith, refl, sym, ◌∙◌}
use Rattle.frames.specs.WriterLaws.{frame_refused, frame_done, number_long, number_wrong, number_short}
use Rattle.frames.proofs.framed.Goals as goal

pub returns-then-n-gt-LONGEST_FRAME : goal.returns-then-n-gt-LONGEST_FRAME
returns-then-n-gt-LONGEST_FRAME c =
    let w = frame_refused c.args.message.now c.args.out.now 30 _ (λ e. omega arith) (number_long c.args.message.now _ c.if-n-gt-LONGEST_FRAME.true) refl in
    record { answer = w.0; left = w.1 }

pub returns-then-not-is_sendable : goal.returns-then-not-is_sendable
returns-then-not-is_sendable c =
    let w = frame_refused c.args.message.now c.args.out.now 1 _ (λ e. omega arith) (number_wrong c.args.message.now _ c.if-n-gt-LONGEST_FRAME.false (sym c.is_sendable.ensures ∙ c.if-not-is_sendable.true)) refl in
    record { answer = w.0; left = w.1 }

pub returns-then-out-size : goal.returns-then-out-size
returns-then-out-size c =
    let w = frame_refused c.args.message.now c.args.out.now 11 _ (λ e. omega arith) (number_short c.args.message.now _ c.if-n-gt-LONGEST_FRAME.false (sym c.is_sendable.ensures ∙ c.if-not-is_sendable.false) c.if-out-size.true) refl in
    record { answer = w.0; left = w.1 }

pub returns : goal.returns
returns c =
    let w = frame_done c.args.message.now c.args.out.now c.put_number.new.bytes c.put_bytes.new.room _ c.if-n-gt-LONGEST_FRAME.false (sym c.is_sendable.ensures ∙ c.if-not-is_sendable.false) c.if-out-size.false c.put_number.ensures c.put_bytes.ensures refl in
    record { answer = w.0; left = w.1 }

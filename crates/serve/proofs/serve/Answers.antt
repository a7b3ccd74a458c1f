-- Each way out is one case of the definition; a request that is answered has its header's bytes.
use Rattle.std.proofs.Common.{refl, sym, ◌∙◌}
use Rattle.numbers.specs.Refusals.{refused_is_some}
use Rattle.messages.specs.TakeLaws.{request_form}
use Rattle.serve.specs.ServeLaws.{request_passes}
use Rattle.serve.proofs.Answers.{quiet_9, quiet_1, loud, serve_9, serve_1, serve_reply, serve_reject}
use Rattle.serve.proofs.serve.Goals as goal

pub returns-then-not-is_usable : goal.returns-then-not-is_usable
returns-then-not-is_usable c = serve_9 _ _ _ _ (quiet_9 _ _ (sym c.if-not-is_usable.ensures)) _ refl c.refusal.ensures

pub returns-then-not-is_request : goal.returns-then-not-is_request
returns-then-not-is_request c = serve_1 _ _ _ _ (quiet_1 _ _ (sym c.if-not-is_usable.ensures) (sym c.if-not-is_request.ensures)) _ refl c.refusal-then-not-is_request.ensures

pub send_reply-requires : goal.send_reply-requires
send_reply-requires c = (request_passes _ _ c.in-Ok.ensures.0, c.in-Ok.ensures.1)

pub returns-in-Ok : goal.returns-in-Ok
returns-in-Ok c = serve_reply _ _ _ 0 (sym c.in-Ok.ensures.0) _ _ refl c.send_reply.ensures

pub send_reject-requires : goal.send_reject-requires
send_reject-requires c = request_form _ (sym c.if-not-is_request.ensures)

pub returns-in-Err : goal.returns-in-Err
returns-in-Err c =
    let l = loud _ _ (sym c.if-not-is_usable.ensures) (sym c.if-not-is_request.ensures) in
    let e = c.in-Err.ensures in
    serve_reject _ _ _ _ e (λ z. l.0 (sym e ∙ z)) (λ z. l.1 (sym e ∙ z)) _ _ (refused_is_some _) c.send_reject.ensures

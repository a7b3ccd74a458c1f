use Rattle.std.proofs.Common.{length, ◌≡◌, sym, ◌∙◌}
use Rattle.octets.specs.Octets.{zero_hash}
use Rattle.numbers.specs.Refusals.{refused_is_some}
use Rattle.history.proofs.DecidingLaws.{end_says, end_taken, end_layer_lem, end_refused, end_left}
use Rattle.history.proofs.end.Goals as goal

pub put_last-requires : goal.put_last-requires
put_last-requires c = end_says c.args.history (length c.args.layer.now) (sym c.in-Ok.ensures)

pub layer_size-size-requires : goal.layer_size-size-requires
layer_size-size-requires c = (end_says c.args.history (length c.args.layer.now) (sym c.in-Ok.ensures)).0.short

pub root_of-requires : goal.root_of-requires
root_of-requires c = let w = (end_says c.args.history (length c.args.layer.now) (sym c.in-Ok.ensures)).0 in (w.tail, w.short)

pub returns-in-Ok : goal.returns-in-Ok
returns-in-Ok c = let a = c.args in
    let z = c.in-Ok.ensures in
    (end_taken a.history a.layer.now c.root_of.result c.layer_size-size.result z c.root_of.ensures c.layer_size-size.ensures, end_layer_lem a.history a.layer.now c.put_last.new.layer z c.put_last.ensures)

pub returns-in-Err : goal.returns-in-Err
unfolding zero_hash
returns-in-Err c = let a = c.args in
    let e = c.from.ensures ∙ c.in-Err.ensures in
    let some : c.from.result ≡ 0 → ⊥ = λ z. refused_is_some c.in-Err.why (sym c.from.ensures ∙ z) in
    (end_refused a.history a.layer.now c.from.result e some, end_left a.history a.layer.now c.from.result e some)

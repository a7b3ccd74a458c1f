-- A number of 0 means that the layer fits the store, and what write_layer counts are the positions newly held; any other number leaves the store.
use Rattle.std.proofs.Common.{rules, refl, sym}
use Rattle.numbers.specs.Refusals.{refused_is_some}
use Rattle.pieces.proofs.PiecesLaws.{layer_loads, loads_layered}
use Rattle.pieces.proofs.Ways.{load_done, load_refused}
use Rattle.pieces.proofs.loaded.Goals as goal

pub write_layer-new-requires : goal.write_layer-new-requires
write_layer-new-requires c = loads_layered _ _ (layer_loads _ _ (sym c.in_ok-layer_number.ensures))

pub returns-in_err-layer_number : goal.returns-in_err-layer_number
returns-in_err-layer_number c =
    let w = load_refused _ _ _ c.in_err-layer_number.ensures (refused_is_some _) _ refl in
    record { answer = search (rules, w); left = w.1 }

pub returns : goal.returns
returns c =
    let w = load_done _ _ _ c.in_ok-layer_number.ensures refl (loads_layered _ _ (layer_loads _ _ (sym c.in_ok-layer_number.ensures))) _ _ c.write_layer-new.ensures _ refl in
    record { answer = w.0; left = w.1 }

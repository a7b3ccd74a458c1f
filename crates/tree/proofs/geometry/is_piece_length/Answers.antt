-- Up to 16 MiB the piece layer is at most 10, so the shift loses nothing.
use Rattle.std.proofs.Common.{eqb, arith, ℕ, ◌*◌, ◌≤◌, ◌^◌, ap, sym, ◌∙◌}
use Rattle.tree.proofs.Steps.{shifted_block}
use Rattle.tree.proofs.GeometryLaws.{piece_length_large, piece_length_small, piece_layer_small}
use Rattle.tree.proofs.geometry.is_piece_length.Goals as goal

pub returns-then-plen-gt16777216 : goal.returns-then-plen-gt16777216
returns-then-plen-gt16777216 c = sym (piece_length_large c.args.plen c.if-plen-gt16777216.true)

pub overflow_shl-result : goal.overflow_shl-result
overflow_shl-result c = omega (arith, piece_layer_small c.args.plen (omega arith))

pub returns : goal.returns
returns c = let small : c.piece_layer-p.result ≤ 10 = omega (arith, piece_layer_small c.args.plen (omega arith)) in
    ap (λ (x : ℕ). eqb x c.args.plen) (shifted_block c.piece_layer-p.result small ∙ ap (λ (p : ℕ). 16384 * 2 ^ p) c.piece_layer-p.ensures)
    ∙ sym (piece_length_small c.args.plen (omega arith))

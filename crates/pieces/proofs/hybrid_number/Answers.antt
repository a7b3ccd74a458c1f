-- The v1 half is asked only behind a v2 answer of 0, where the piece is at most the piece length.
use Rattle.std.proofs.Common.{rules, refl, sym}
use Rattle.numbers.specs.Refusals.{refused_is_some}
use Rattle.pieces.proofs.PiecesLaws.{piece_right}
use Rattle.pieces.proofs.HybridLaws.{piece_short}
use Rattle.pieces.proofs.Halves.{v1_behind, v2_alone}
use Rattle.store.specs.StoreLaws.{usable_long}
use Rattle.pieces.proofs.hybrid_number.Goals as goal

pub v1_number-requires : goal.v1_number-requires
v1_number-requires c = let z = sym c.in_ok-piece_number.ensures in (usable_long _ _ refl (piece_right _ _ _ z).store, piece_short _ _ _ z)

pub returns-in_err-piece_number : goal.returns-in_err-piece_number
returns-in_err-piece_number c = let w = v2_alone _ _ c.args.bytes.now c.args.v1 c.args.zeros _ c.in_err-piece_number.ensures (refused_is_some _) in search (rules, w)

pub returns : goal.returns
returns c = v1_behind _ _ _ _ _ _ c.in_ok-piece_number.ensures refl _ c.v1_number.ensures

use Rattle.std.proofs.Common.{refl}
use Rattle.std.proofs.lemmas.Result.{err_from_is_err_and}
use Rattle.v1.specs.KnownLaws.{known_so, file_fits, file_stands}
use Rattle.v1.specs.ReadLaws.{seek_refused, piece_no_file, piece_no_hybrid, piece_is, part_no_file, part_no_hybrid, part_is}
use Rattle.v1.proofs.read.seek.Goals as goal

pub returns-in_err-c : goal.returns-in_err-c
returns-in_err-c c = let p = err_from_is_err_and _ c.from_residual.ensures.1 in seek_refused _ _ _ _ _ p.1 p.2 c.in_err-c.ensures

pub returns-then-file-c : goal.returns-then-file-c
returns-then-file-c c = (λ i. piece_no_file _ _ c.in_ok-c.ensures refl _ i c.if-file-c.true, part_no_file _ _ c.in_ok-c.ensures refl _ c.if-file-c.true)

pub returns-in-None : goal.returns-in-None
returns-in-None c =
    (λ i. piece_no_hybrid _ _ c.in_ok-c.ensures refl _ c.pieces_from.ensures c.in-None.is _ i c.if-file-c.false, part_no_hybrid _ _ c.in_ok-c.ensures refl _ c.pieces_from.ensures c.in-None.is _ c.if-file-c.false)

pub v1_file-requires : goal.v1_file-requires
v1_file-requires c = let k = known_so _ _ c.in_ok-c.ensures refl in (k.plen_some, k.small)

pub returns-in-Some : goal.returns-in-Some
returns-in-Some c =
    let k = known_so _ _ c.in_ok-c.ensures refl in
    let f = file_fits _ _ k _ _ _ c.pieces_from.ensures c.in-Some.is _ c.if-file-c.false in
    let e = c.v1_file.ensures _ k.info_stands f in (
      file_stands _ _ k _ _ _ c.pieces_from.ensures c.in-Some.is _ _ e,
      λ i r g. piece_is _ _ c.in_ok-c.ensures refl _ c.pieces_from.ensures _ _ c.in-Some.is _ i c.if-file-c.false _ e r g,
      λ r g. part_is _ _ c.in_ok-c.ensures refl _ c.pieces_from.ensures _ _ c.in-Some.is _ c.if-file-c.false _ e r g,
    )

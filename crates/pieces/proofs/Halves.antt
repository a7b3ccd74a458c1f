-- One law for each way out of the functions that give a number by the v1 half, and by both.
-- Assumes nothing.
use Rattle.std.specs.Prelude.{◌≡◌, List, ◌++◌, Bool, true, false, ℕ, ◌+◌, ◌-◌, ◌≤◌, ◌<◌, length, replicate}
use Rattle.std.proofs.Common.{ap, sym, ◌∙◌, arith, le-leb}
use Rattle.std.proofs.lemmas.Bool.{lt-leb}
use Rattle.octets.specs.Octets.{same}
use Rattle.numbers.specs.Numbers.{wrong_size, differs}
use Rattle.sha_1.specs.Sha1.{sha1}
use Rattle.store.specs.Store.{piece_length}
use Rattle.pieces.specs.Pieces.{piece_number}
use Rattle.pieces.specs.Hybrid.{v1_number, hybrid_number}
use Rattle.pieces.proofs.HybridLaws.{hybrid_0, hybrid_first}

module _ (s piece v1 : List ℕ) (zeros plen : ℕ) (ep : plen ≡ piece_length s) (short : length piece ≤ piece_length s) where
  pub v1_too_long : plen - length piece < zeros → wrong_size ≡ v1_number s piece v1 zeros
  unfolding v1_number
  v1_too_long l = sym (rw (lt-leb (length piece + zeros) (piece_length s) (omega arith)))

  module _ (l : zeros ≤ plen - length piece) (hash : List ℕ) (eh : hash ≡ sha1 (piece ++ replicate zeros 0)) (alike : Bool) (ea : alike ≡ same hash v1) where
    compared : same (sha1 (piece ++ replicate zeros 0)) v1 ≡ alike
    compared = sym (ea ∙ ap (λ (h : List ℕ). same h v1) eh)

    pub v1_right : alike ≡ true → 0 ≡ v1_number s piece v1 zeros
    unfolding v1_number
    v1_right t = sym (rw (le-leb (length piece + zeros) (piece_length s) (omega arith), compared, t))

    pub v1_other : alike ≡ false → differs ≡ v1_number s piece v1 zeros
    unfolding v1_number
    v1_other f = sym (rw (le-leb (length piece + zeros) (piece_length s) (omega arith), compared, f))

module _ (s : List ℕ) (i : ℕ) (piece v1 : List ℕ) (zeros n : ℕ) (e : n ≡ piece_number s i piece) where
  pub v1_behind : n ≡ 0 → (r : ℕ) → r ≡ v1_number s piece v1 zeros → r ≡ hybrid_number s i piece v1 zeros
  unfolding hybrid_number
  v1_behind z r q = q ∙ sym (rw (sym e ∙ z))

  pub v2_alone : (n ≡ 0 → ⊥) → n ≡ hybrid_number s i piece v1 zeros
  v2_alone ne = e ∙ sym (hybrid_first s i piece v1 zeros (λ w. ne (e ∙ w)))

-- a piece that both halves give 0 has 0 of the v2 half
pub hybrid_piece : (s : List ℕ) (i : ℕ) (piece v1 : List ℕ) (zeros n : ℕ) → n ≡ hybrid_number s i piece v1 zeros → n ≡ 0 → piece_number s i piece ≡ 0
hybrid_piece s i piece v1 zeros n e z = ((hybrid_0 s i piece v1 zeros).0 (sym e ∙ z)).0

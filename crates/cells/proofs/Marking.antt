-- The mark and then the hash are the cell.
-- Assumes nothing.
use Rattle.std.specs.Prelude.{◌≡◌, List, ◌∷◌, ◌++◌, ℕ, suc, ◌+◌, ◌<◌, length, take, drop, set}
use Rattle.std.proofs.Common.{ap₂, ◌∙◌, arith, take-suc-set, drop-set-lt}
use Rattle.std.proofs.Math.Seq.{append_snoc}
use Rattle.octets.specs.Octets.{pasted}

pub mark_then_hash : (s : List ℕ) (a : ℕ) (h : List ℕ) → a < length s → pasted (set s a 1) (suc a) h ≡ pasted s a (1 ∷ h)
unfolding pasted
mark_then_hash s a h l =
    let e : suc a + length h ≡ a + length (1 ∷ h) = omega arith in
    ap₂ (λ (p q : List ℕ). p ++ h ++ q) (take-suc-set s a 1 l) (drop-set-lt (suc a + length h) s a 1 (omega arith))
    ∙ ap₂ (λ (p : List ℕ) (n : ℕ). p ++ drop n s) (append_snoc (take a s) 1 h) e

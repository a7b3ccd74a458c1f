-- The tail array from its two copies.
-- Assumes nothing.
use Rattle.std.specs.Prelude.{◌≡◌, List, ◌++◌, ℕ, ◌+◌, ◌-◌, ◌≤◌, length, take, replicate}
use Rattle.std.proofs.Common.{ap, ap₂, sym, ◌∙◌, arith, length-append, length-take-le}
use Rattle.std.proofs.lemmas.List.{length-replicate}
use Rattle.octets.specs.Octets.{pasted}
use Rattle.octets.specs.OctetsLaws.{pasted_append, zeros_behind}
use Rattle.padding.specs.Running.{tail_array}

pub filled_law : (t s b c : List ℕ) (n : ℕ) → length t ≡ 64 → n + length s ≤ 64
    → b ≡ pasted (replicate 64 0) 0 (take n t) → c ≡ pasted b n s → c ≡ tail_array (take n t ++ s)
filled_law t s b c n lt h eb ec =
    let lz : length {A = ℕ} (replicate 64 0) ≡ 64 = length-replicate {A = ℕ} 64 0 in
    let ln : length (take n t) ≡ n = length-take-le n t (omega arith) in
    let e : 0 + length (take n t) ≡ n = omega arith in
    ec ∙ ap₂ (λ (x : List ℕ) (k : ℕ). pasted x k s) eb (sym e)
    ∙ pasted_append (replicate 64 0) 0 (take n t) s (omega arith)
    ∙ front (take n t ++ s) (omega (arith, length-append (take n t) s))
  where
    front : (u : List ℕ) → length u ≤ 64 → pasted (replicate 64 0) 0 u ≡ tail_array u
    front u g = unfold pasted tail_array in ap (λ (x : List ℕ). u ++ x) (zeros_behind 64 (0 + length u) (omega arith) ∙ (let z : 64 - (0 + length u) ≡ 64 - length u = omega arith in ap (λ (k : ℕ). replicate k 0) z))

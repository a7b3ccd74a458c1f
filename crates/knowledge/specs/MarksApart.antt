-- Marks stand apart from the cells: writing them leaves every held position and every hash.
-- Assumes nothing.
use Rattle.std.specs.Prelude.{◌≡◌, List, ℕ, ◌+◌, ◌*◌, ◌^◌, ◌≤◌, ◌<◌, replicate}
use Rattle.std.proofs.Math.Path.{ap}
use Rattle.std.proofs.Common.{inl, arith}
use Rattle.std.proofs.Math.ListN.{length-replicate}
use Rattle.std.proofs.Math.Dec.{eqb}
use Rattle.octets.specs.OctetsLaws.{cut_pasted_other}
use Rattle.cells.specs.Cells.{held_at, hash_at}
use Rattle.store.specs.Store.{height_of, positions, Facts}
use Rattle.marks.specs.Marks.{marks_start, marks_put}
use Rattle.marks.specs.MarksLaws.{mark_in, marks_before}

-- the cells stand before the marks
pub cell_before : (s : List ℕ) (q : ℕ) → q < positions (height_of s) → 31 + 33 * q + 33 ≤ marks_start s
unfolding marks_start
cell_before s q l = omega arith

module _ (s : List ℕ) (f : Facts s) (i n x : ℕ) (fits : i + n ≤ 2 ^ height_of s) where
  pub marks_held : (q : ℕ) → q < positions (height_of s) → held_at (marks_put s i n x) q ≡ held_at s q
  unfolding held_at
  marks_held q l = ap (λ (v : ℕ). eqb v 1) (marks_before s f i n x fits (31 + 33 * q) (omega (arith, cell_before s q l)))

  pub marks_hash : (q : ℕ) → q < positions (height_of s) → hash_at (marks_put s i n x) q ≡ hash_at s q
  unfolding hash_at marks_put
  marks_hash q l =
      let c = cell_before s q l in
      cut_pasted_other s (marks_start s + i) (replicate n x) (omega (arith, mark_in s f, length-replicate {A = ℕ} n x)) (32 + 33 * q) 32 (omega (arith, mark_in s f)) (inl (omega arith))

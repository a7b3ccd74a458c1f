-- A sum of five words, its carries dropped at each step.
-- Assumes nothing.
use Rattle.std.specs.Prelude.{◌≡◌, ℕ, ◌+◌, ◌%◌, ◌^◌}
use Rattle.std.proofs.Common.{arith}

pub sum5 : (k w e x a : ℕ) → ((((k + w) % 2 ^ 32 + e) % 2 ^ 32 + x) % 2 ^ 32 + a) % 2 ^ 32 ≡ (a + x + e + k + w) % 2 ^ 32
sum5 k w e x a = omega arith

-- kd_sha1: each number exactly when, that it is in the table, and the zeros beside 4.
-- Assumes nothing.
use Rattle.std.specs.Prelude.{◌≡◌, Bool, List, ◌↔◌, ℕ, suc, ◌<◌, ◌≤◌, length, ltb}
use Rattle.std.proofs.Math.Path.{refl}
use Rattle.std.proofs.Math.Bool.{true, false, cond}
use Rattle.std.proofs.Math.Logic.{inl, inr}
use Rattle.std.proofs.Common.{arith, lt-ltb, le-ltb, ltb-false}
use Rattle.numbers.specs.Numbers.{wrong_size, InTable}
use Rattle.numbers.specs.Tests.{either}
use Rattle.numbers.specs.Chain.{Chain, last, test, decided, in_table_of}
use Rattle.limits.specs.Limits.{longest_hashed}
use Rattle.sha_1.specs.Sha1.{sha1}
use Rattle.sha_1.specs.Answer.{zero_sha1, sha1_of}
use Rattle.sha_1.specs.declared.Sha1Answer.{Sha1Answer}

module _ (m : List ℕ) where
  pub sha1_4 : ((sha1_of m).number ≡ wrong_size) ↔ (suc longest_hashed ≤ length m)
  unfolding sha1_of
  sha1_4 = (
    λ e. elim (either (ltb (length m) (suc longest_hashed))) [ inl t ↦ (let w : ⊥ = omega (arith, rw t at e) in absurd w) | inr f ↦ ltb-false (length m) (suc longest_hashed) f ],
    λ l. rw (le-ltb (length m) (suc longest_hashed) l),
  )

  pub sha1_0 : length m < suc longest_hashed → sha1_of m ≡ record { number = 0; hash = sha1 m }
  unfolding sha1_of
  sha1_0 l = rw (lt-ltb (length m) (suc longest_hashed) l)

  abbrev sha1_chain : Chain
  sha1_chain = test (ltb (length m) (suc longest_hashed)) wrong_size (last 0)

  sha1_tests : (sha1_of m).number ≡ decided sha1_chain
  unfolding sha1_of
  sha1_tests = by (ltb (length m) (suc longest_hashed))
    where
      by : (b : Bool) → (cond {A = Sha1Answer} b (record { number = 0; hash = sha1 m }) (record { number = wrong_size; hash = zero_sha1 })).number ≡ cond b 0 wrong_size
      by true = refl
      by false = refl

  pub sha1_in_table : InTable (sha1_of m).number
  sha1_in_table = in_table_of sha1_chain sha1_tests refl

  pub beside_sha1 : ((sha1_of m).number ≡ 0 → ⊥) → (sha1_of m).hash ≡ zero_sha1
  unfolding sha1_of
  beside_sha1 = by (ltb (length m) (suc longest_hashed))
    where
      by : (b : Bool) → ((cond {A = Sha1Answer} b (record { number = 0; hash = sha1 m }) (record { number = wrong_size; hash = zero_sha1 })).number ≡ 0 → ⊥)
          → (cond {A = Sha1Answer} b (record { number = 0; hash = sha1 m }) (record { number = wrong_size; hash = zero_sha1 })).hash ≡ zero_sha1
      by true ne = absurd (ne refl)
      by false ne = refl

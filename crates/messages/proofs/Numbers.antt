-- One law for each way out of the tests before the header is read.
-- Assumes nothing.
use Rattle.std.specs.Prelude.{◌≡◌, Bool, true, false, List, ℕ}
use Rattle.std.proofs.Common.{ap₂, sym, ◌∙◌}
use Rattle.octets.specs.Octets.{cut, same}
use Rattle.numbers.specs.Numbers.{no_message, other_root, unusable}
use Rattle.store.specs.Store.{usable, facts_root}
use Rattle.header.specs.Header.{message_root}
use Rattle.messages.specs.Asks.{first_number}

-- ---- 9, 1, 2

module _ (form : Bool) (s m : List ℕ) (t : Bool) (a : t ≡ usable s) where
  pub first_9 : t ≡ false → unusable ≡ first_number form s m
  unfolding first_number
  first_9 b = sym (rw (← a, b))

  module _ (b : t ≡ true) where
    pub first_1 : form ≡ false → no_message ≡ first_number form s m
    unfolding first_number
    first_1 f = sym (rw (← a, b, f))

    module _ (f : form ≡ true) (mine theirs : List ℕ) (v : Bool) (p : mine ≡ facts_root s) (q : theirs ≡ cut m 1 32) (w : v ≡ same mine theirs) where
      roots : v ≡ same (facts_root s) (message_root m)
      unfolding message_root
      roots = w ∙ ap₂ (λ (x y : List ℕ). same x y) p q

      pub first_2 : v ≡ false → other_root ≡ first_number form s m
      unfolding first_number
      first_2 z = sym (rw (← a, b, f, ← roots, z))

      pub first_0 : v ≡ true → 0 ≡ first_number form s m
      unfolding first_number
      first_0 z = sym (rw (← a, b, f, ← roots, z))

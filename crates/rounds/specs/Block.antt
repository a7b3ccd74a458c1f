-- FIPS 180-4, section 6.2.2: the message schedule and the rounds of one block of 64 bytes.
-- Assumes nothing.
use Rattle.std.specs.Prelude.{List, [], ◌∷◌, ◌++◌, ℕ, zero, suc, ◌+◌, ◌-◌, ◌%◌, ◌^◌, get_or}
use Rattle.bits.specs.Parsing.{words}
use Rattle.bits.specs.Words.{Ch, Maj, Σ₀, Σ₁, σ₀, σ₁}
use Rattle.rounds.specs.declared.State.{State}

-- W_t from the words before it
unfoldable pub next : List ℕ → ℕ → ℕ
next w t = (σ₁ (get_or w (t - 2) 0) + get_or w (t - 7) 0 + σ₀ (get_or w (t - 15) 0) + get_or w (t - 16) 0) % 2 ^ 32

-- the message schedule, its first 16 + n words
unfoldable pub schedule : ℕ → List ℕ → List ℕ
schedule zero m = words 16 m
schedule (suc n) m = schedule n m ++ (next (schedule n m) (16 + n) ∷ [])

unfoldable pub T₁ : State → ℕ → ℕ → ℕ
T₁ s k w = (s.h + Σ₁ s.e + Ch s.e s.f s.g + k + w) % 2 ^ 32

unfoldable pub T₂ : State → ℕ
T₂ s = (Σ₀ s.a + Maj s.a s.b s.c) % 2 ^ 32

-- one round, with the words K_t and W_t
unfoldable pub round : State → ℕ → ℕ → State
round s k w =
    record { a = (T₁ s k w + T₂ s) % 2 ^ 32; b = s.a; c = s.b; d = s.c; e = (s.d + T₁ s k w) % 2 ^ 32; f = s.e; g = s.f; h = s.g }

-- the first n rounds
unfoldable pub rounds : List ℕ → List ℕ → ℕ → State → State
rounds ks ws zero s = s
rounds ks ws (suc n) s = round (rounds ks ws n s) (get_or ks n 0) (get_or ws n 0)

unfoldable pub plus : State → State → State
plus s t =
    record {
      a = (s.a + t.a) % 2 ^ 32;
      b = (s.b + t.b) % 2 ^ 32;
      c = (s.c + t.c) % 2 ^ 32;
      d = (s.d + t.d) % 2 ^ 32;
      e = (s.e + t.e) % 2 ^ 32;
      f = (s.f + t.f) % 2 ^ 32;
      g = (s.g + t.g) % 2 ^ 32;
      h = (s.h + t.h) % 2 ^ 32;
    }

-- one block, with the round words ks
unfoldable pub compress : List ℕ → State → List ℕ → State
compress ks s m = plus s (rounds ks (schedule 48 m) 64 s)

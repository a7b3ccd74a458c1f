-- FIPS 180-4, section 6.1.2: SHA-1's message schedule and the rounds of one block of 64 bytes.
-- Assumes nothing.
use Rattle.std.specs.Prelude.{List, [], ◌∷◌, ◌++◌, ℕ, zero, suc, ◌+◌, ◌-◌, ◌%◌, ◌^◌, get_or}
use Rattle.std.specs.Int.Bits.{bit_xor}
use Rattle.bits.specs.Parsing.{words}
use Rattle.bits.specs.Words.{rotl}
use Rattle.rounds1.specs.Words.{f, K}
use Rattle.rounds1.specs.declared.Five.{Five}

-- W_t from the words before it
unfoldable pub next : List ℕ → ℕ → ℕ
next w t = rotl 1 (bit_xor (bit_xor (bit_xor (get_or w (t - 3) 0) (get_or w (t - 8) 0)) (get_or w (t - 14) 0)) (get_or w (t - 16) 0))

-- the message schedule, its first 16 + n words
unfoldable pub schedule : ℕ → List ℕ → List ℕ
schedule zero m = words 16 m
schedule (suc n) m = schedule n m ++ (next (schedule n m) (16 + n) ∷ [])

-- one round, with the value x of f_t and the words K_t and W_t
unfoldable pub turn : Five → ℕ → ℕ → ℕ → Five
turn s x k w = record { a = (rotl 5 s.a + x + s.e + k + w) % 2 ^ 32; b = s.a; c = rotl 30 s.b; d = s.c; e = s.d }

-- the first n rounds, with the words ws
unfoldable pub rounds : List ℕ → ℕ → Five → Five
rounds ws zero s = s
rounds ws (suc n) s = turn (rounds ws n s) (f n (rounds ws n s).b (rounds ws n s).c (rounds ws n s).d) (K n) (get_or ws n 0)

unfoldable pub plus : Five → Five → Five
plus s t =
    record {
      a = (s.a + t.a) % 2 ^ 32;
      b = (s.b + t.b) % 2 ^ 32;
      c = (s.c + t.c) % 2 ^ 32;
      d = (s.d + t.d) % 2 ^ 32;
      e = (s.e + t.e) % 2 ^ 32;
    }

-- one block
unfoldable pub compress : Five → List ℕ → Five
compress s m = plus s (rounds (schedule 64 m) 80 s)

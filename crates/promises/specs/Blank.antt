-- Memory for a store with every byte said: zero bytes, as many as a store for a file of n bytes uses.
-- Assumes nothing.
use Rattle.std.specs.Prelude.{◌≡◌, refl, true, List, ℕ, zero, suc, ◌≤◌, ◌<◌, length, get_or, replicate}
use Rattle.std.proofs.Common.{arith, lit<, le-leb}
use Rattle.std.proofs.lemmas.List.{length-replicate}
use Rattle.store.specs.Store.{facts_in_range, store_size, open_answer}
use Rattle.words.specs.History.{Bytes}

abbrev pub blank : ℕ → List ℕ
blank n = replicate (store_size n) 0

-- it has the room,
pub blank_room : (n : ℕ) → store_size n ≤ length {A = ℕ} (blank n)
blank_room n = omega (arith, length-replicate {A = ℕ} (store_size n) 0)

-- and is a string of bytes,
zeros : (n i : ℕ) → get_or (replicate n 0) i 0 < 256
zeros zero i = lit< tt
zeros (suc n) zero = lit< tt
zeros (suc n) (suc i) = zeros n i

pub zero_bytes : (n : ℕ) → Bytes (replicate n 0)
zero_bytes n = record { size = refl; bytes = λ i l. zeros n i }

pub blank_bytes : (n : ℕ) → Bytes (blank n)
blank_bytes n = zero_bytes (store_size n)

-- and with facts in range it is opened
pub blank_opens : (n plen : ℕ) → facts_in_range n plen ≡ true → (open_answer (blank n) n plen).number ≡ 0
unfolding open_answer
blank_opens n plen r = rw (r, le-leb (store_size n) (length {A = ℕ} (blank n)) (blank_room n))

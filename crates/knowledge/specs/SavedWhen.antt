-- Each number of saving exactly when, and what a load and a repair that are answered 0 say of the saved bytes and leave.
-- Assumes nothing.
use Rattle.std.specs.Prelude.{◌≡◌, Bool, List, ◌↔◌, ℕ, ◌≤◌, ◌<◌, length}
use Rattle.std.proofs.Math.Path.{refl}
use Rattle.std.proofs.Math.Bool.{true, false}
use Rattle.std.proofs.Math.Dec.{leb}
use Rattle.std.proofs.Common.{le-leb, leb-true, leb-false}
use Rattle.std.proofs.lemmas.Bool.{lt-leb}
use Rattle.octets.specs.Octets.{pasted}
use Rattle.numbers.specs.Numbers.{done, unusable, no_room}
use Rattle.numbers.specs.Chain.{exactly_of}
use Rattle.numbers.specs.Tests.{through}
use Rattle.store.specs.Store.{usable, facts_in_range, store_size}
use Rattle.saved.specs.Form.{length_in, piece_length_in, saved_bytes, opens}
use Rattle.saved.specs.Save.{saved_of, save_answer, save_after}
use Rattle.saved.specs.Saved.{opening_number, sound, loaded, load_answer, load_after, rooted, repaired, repair_answer, repair_after}
use Rattle.knowledge.specs.NumberChains.{save_chain, save_tests, saved_chain, load_tests, repair_tests}

-- ---- kd_save

module _ (s out : List ℕ) where
  -- 9 EXACTLY WHEN the store is unusable
  pub save_9 : ((save_answer s out).number ≡ unusable) ↔ (usable s ≡ false)
  save_9 = exactly_of (save_chain s out) unusable (save_tests s out) refl

  -- 11 EXACTLY WHEN it is usable and the output is shorter than the save
  pub save_11 : ((save_answer s out).number ≡ no_room) ↔ ((usable s ≡ true) × (length out < length (saved_bytes (saved_of s))))
  save_11 =
      through (exactly_of (save_chain s out) no_room (save_tests s out) refl)
      (λ u. (leb-false (length (saved_bytes (saved_of s))) (length out), lt-leb (length (saved_bytes (saved_of s))) (length out)))

  -- 0 EXACTLY WHEN it is usable and has the room
  pub save_0 : ((save_answer s out).number ≡ 0) ↔ ((usable s ≡ true) × (length (saved_bytes (saved_of s)) ≤ length out))
  save_0 =
      through (exactly_of (save_chain s out) 0 (save_tests s out) refl)
      (λ u. (λ t. leb-true (length (saved_bytes (saved_of s))) (length out) t.0, λ l. (le-leb (length (saved_bytes (saved_of s))) (length out) l, refl)))

  -- a refusal leaves every byte of the output
  pub save_refused : ((save_answer s out).number ≡ 0 → ⊥) → save_after s out ≡ out
  unfolding save_answer save_after
  save_refused ne = by (usable s) (leb (length (saved_bytes (saved_of s))) (length out)) refl refl
    where
      by : (a b : Bool) → usable s ≡ a → leb (length (saved_bytes (saved_of s))) (length out) ≡ b → save_after s out ≡ out
      by true true x y = absurd (ne (unfold save_answer in rw (x, y)))
      by true false x y = unfold save_after in rw (x, y)
      by false b x y = unfold save_after in rw x

  saved_given : usable s ≡ true → leb (length (saved_bytes (saved_of s))) (length out) ≡ true
      → (save_answer s out ≡ done (length (saved_bytes (saved_of s)))) × (save_after s out ≡ pasted out 0 (saved_bytes (saved_of s)))
  unfolding save_answer save_after
  saved_given u l = rw (u, l) (refl, refl)

  -- beside 0 stands the save's size, and the save at the front of the output
  pub save_counts : (save_answer s out).number ≡ 0 → (save_answer s out ≡ done (length (saved_bytes (saved_of s)))) × (save_after s out ≡ pasted out 0 (saved_bytes (saved_of s)))
  save_counts z = let w = save_0.0 z in saved_given w.0 (le-leb (length (saved_bytes (saved_of s))) (length out) w.1)

-- ---- kd_load, kd_repair

opening_of : (s b : List ℕ) → opens b ≡ true → facts_in_range (length_in b) (piece_length_in b) ≡ true → leb (store_size (length_in b)) (length s) ≡ true → opening_number (length s) b ≡ 0
unfolding opening_number
opening_of s b x y z = rw (x, y, z)

load_leaves : (s b : List ℕ) → opening_number (length s) b ≡ 0 → sound b ≡ true → load_after s b ≡ loaded s b
unfolding load_after
load_leaves s b o g = rw (o, g)

repair_leaves : (s b : List ℕ) → opening_number (length s) b ≡ 0 → rooted b ≡ true → repair_after s b ≡ repaired s b
unfolding repair_after
repair_leaves s b o g = rw (o, g)

pub load_0 : (s b : List ℕ) → (load_answer s b).number ≡ 0 → (opening_number (length s) b ≡ 0) × (sound b ≡ true) × (load_after s b ≡ loaded s b)
load_0 s b z =
    let t = (exactly_of (saved_chain (sound b) s b) 0 (load_tests s b) refl).0 z in
    let o = opening_of s b t.0 t.1.0 t.1.1.0 in
    (o, t.1.1.1.0, load_leaves s b o t.1.1.1.0)

pub repair_0 : (s b : List ℕ) → (repair_answer s b).number ≡ 0 → (opening_number (length s) b ≡ 0) × (rooted b ≡ true) × (repair_after s b ≡ repaired s b)
repair_0 s b z =
    let t = (exactly_of (saved_chain (rooted b) s b) 0 (repair_tests s b) refl).0 z in
    let o = opening_of s b t.0 t.1.0 t.1.1.0 in
    (o, t.1.1.1.0, repair_leaves s b o t.1.1.1.0)

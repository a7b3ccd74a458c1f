-- Saved bytes are bytes.
-- Assumes nothing.
use Rattle.std.specs.Prelude.{refl, List, [], ◌∷◌, ◌++◌, ℕ, ◌+◌, ◌<◌, length, get_or}
use Rattle.std.proofs.Common.{arith}
use Rattle.std.proofs.Math.Decide.{dec_lt}
use Rattle.std.proofs.Math.ListN.{get_or-eq_default}
use Rattle.octets.specs.Octets.{be}
use Rattle.octets.specs.OctetsLaws.{append_octets, be_octets, one_byte}
use Rattle.saved.specs.Form.{Place, Saved, opening_bytes, place_bytes, mark_bytes, end_bytes, places_bytes, marks_bytes, saved_bytes, Rising, none, more, Ordered}
use Rattle.words.specs.History.{Bytes}
use Rattle.knowledge.specs.Conflict.{sized_bytes}

-- a string of bytes has a byte everywhere, as it is read
pub every_byte : (s : List ℕ) → Bytes s → (i : ℕ) → get_or s i 0 < 256
every_byte s b i =
    elim (dec_lt i (length s)) [
      | yes l ↦ b.bytes i l
      | no n ↦ let e = get_or-eq_default s 0 {n = i} (omega arith) in omega (arith, e)
    ]

joined : {a b : List ℕ} → Bytes a → Bytes b → Bytes (a ++ b)
joined {a} {b} x y = sized_bytes (length a + length b) (a ++ b) (append_octets x y)

kinded : (n : ℕ) → n < 256 → {a : List ℕ} → Bytes a → Bytes (n ∷ a)
kinded n l {a} x = joined (sized_bytes 1 (n ∷ []) (one_byte n l)) x

number_bytes : (k n : ℕ) → Bytes (be k n)
number_bytes k n = sized_bytes k (be k n) (be_octets k n)

places_are : {h r : ℕ} {L : List Place} → Rising h r L → Bytes (places_bytes L)
unfolding places_bytes place_bytes
places_are none = record { size = refl; bytes = λ i l. absurd (omega arith) }
places_are (more {x = x} a b o l R) =
    joined (kinded 2 (omega arith) (joined (number_bytes 4 x.layer) (joined (number_bytes 4 x.index) (sized_bytes 32 x.hash o)))) (places_are R)

marks_are : (L : List ℕ) → Bytes (marks_bytes L)
unfolding marks_bytes mark_bytes
marks_are [] = record { size = refl; bytes = λ i l. absurd (omega arith) }
marks_are (j ∷ L) = joined (kinded 3 (omega arith) (number_bytes 4 j)) (marks_are L)

-- THE BYTES OF A VALUE in order
pub ordered_bytes : (v : Saved) → Ordered v → Bytes (saved_bytes v)
unfolding saved_bytes opening_bytes end_bytes
ordered_bytes v O =
    joined (kinded 1 (omega arith) (joined (number_bytes 8 v.n) (joined (number_bytes 4 v.plen) (sized_bytes 32 v.root O.root))))
    (joined (places_are O.places) (joined (marks_are v.marks) (kinded 4 (omega arith) (number_bytes 4 (length v.marks)))))

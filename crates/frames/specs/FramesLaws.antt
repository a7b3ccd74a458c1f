-- Laws of bytes, of the table of known ids, and of the frame of a message.
-- Assumes nothing.
use Rattle.std.specs.Prelude.{◌≡◌, refl, List, [], ◌∷◌, ◌++◌, true, false, ℕ, suc, ◌+◌, length, Some, None}
use Rattle.std.proofs.Common.{length-append, arith}
use Rattle.octets.specs.Octets.{Octets, be}
use Rattle.octets.specs.OctetsLaws.{be_octets}
use Rattle.frames.specs.Frames.{Bytes, sizes_of, right_for, known, right, frame_of}
use Rattle.frames.specs.declared.Sizes.{Sizes}

-- ---- bytes

pub bytes_front : (p q : List ℕ) → Bytes (p ++ q) → Bytes p
unfolding Bytes
bytes_front [] q y = tt
bytes_front (b ∷ p) q y = (y.0, bytes_front p q y.1)

pub bytes_rest : (p q : List ℕ) → Bytes (p ++ q) → Bytes q
unfolding Bytes
bytes_rest [] q y = y
bytes_rest (b ∷ p) q y = bytes_rest p q y.1

pub bytes_both : (p q : List ℕ) → Bytes p → Bytes q → Bytes (p ++ q)
unfolding Bytes
bytes_both [] q x y = y
bytes_both (b ∷ p) q x y = (x.0, bytes_both p q x.1 y)

-- as octets has them
pub bytes_of : (l : List ℕ) → Octets (length l) l → Bytes l
unfolding Bytes
bytes_of [] o = tt
bytes_of (b ∷ bs) o = (o.bytes 0 (omega arith), bytes_of bs (record { size = refl; bytes = λ i h. o.bytes (suc i) (omega arith) }))

-- ---- the table

pub known_no : (i : ℕ) → None ≡ sizes_of i → known i ≡ false
unfolding known
known_no i e = rw (← e) refl

pub known_yes : (i : ℕ) (z : Sizes) → Some z ≡ sizes_of i → known i ≡ true
unfolding known
known_yes i z e = rw (← e) refl

pub right_is : (i n : ℕ) (z : Sizes) → Some z ≡ sizes_of i → right_for z n ≡ right i n
unfolding right
right_is i n z e = rw (← e) refl

-- ---- the frame

pub frame_length : (m : List ℕ) → length (frame_of m) ≡ 4 + length m
unfolding frame_of
frame_length m = let a = length-append (be 4 (length m)) m in let b = (be_octets 4 (length m)).size in omega (arith, a, b)

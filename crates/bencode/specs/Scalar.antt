-- Numbers, strings and integers as they are read, from the left. `at` is where the bytes `xs` stand in the whole input.
-- Assumes nothing.
use Rattle.std.specs.Prelude.{Bool, ◌≤◌, true, false, cond, List, [], ◌∷◌, ℕ, ◌+◌, ◌-◌, ◌*◌, ◌^◌, length, leb, ltb, eqb, Option, Some, None}
use Rattle.bencode.specs.Grammar.{minus_sign, digit_zero, digit_nine, colon, letter_e, letter_i}
use Rattle.bencode.specs.declared.decimal.Number.{Number}
use Rattle.bencode.specs.declared.part.Part.{Part}
use Rattle.bencode.specs.declared.scalar.Integer.{Integer}

-- the number n, with the position past the byte that stops it
abbrev pub is : ℕ → ℕ → Option Number
is n k = Some (record { value = n; next = k })

-- the part from a up to b
abbrev pub part : ℕ → ℕ → Option Part
part a b = Some (record { start = a; end = b })

-- the part, if there is one, lies within n bytes
abbrev pub Within : ℕ → Option Part → Type 0
Within n None = Unit {0}
Within n (Some p) = (p.start ≤ p.end) × (p.end ≤ n)

-- the integer of size n with its sign, and the position past it
abbrev pub whole : Bool → ℕ → ℕ → Option Integer
whole below n k = Some (record { minus = below; size = n; next = k })

-- digits up to the byte `stop`, with n what the digits before them say
unfoldable pub read_digits : ℕ → ℕ → ℕ → List ℕ → Option Number
read_digits stop n at [] = None
read_digits stop n at (c ∷ cs) =
    cond (eqb c stop) (is n (at + 1))
    (cond (ltb c digit_zero) None
    (cond (ltb digit_nine c) None (read_digits stop (n * 10 + (c - digit_zero)) (at + 1) cs)))

-- `stop`, right after a first digit 0
unfoldable pub read_zero : ℕ → ℕ → List ℕ → Option Number
read_zero stop at [] = None
read_zero stop at (c ∷ cs) = cond (eqb c stop) (is 0 (at + 1)) None

-- a number with no leading zero, up to `stop`
unfoldable pub read_number : ℕ → ℕ → List ℕ → Option Number
read_number stop at [] = None
read_number stop at (c ∷ cs) =
    cond (eqb c digit_zero) (read_zero stop (at + 1) cs) (cond (eqb c stop) None (read_digits stop 0 at (c ∷ cs)))

-- a number above 2^63 is none: no integer's size is above it, and no length of a slice
abbrev pub bounded : Option Number → Option Number
bounded None = None
bounded (Some w) = cond (leb w.value (2 ^ 63)) (Some w) None

-- n bytes, of those before `end`
abbrev pub content_in : ℕ → Option Number → Option Part
content_in end None = None
content_in end (Some w) = cond (leb w.value (end - w.next)) (part w.next (w.next + w.value)) None

-- a string: its length, a colon, and that many bytes
abbrev pub read_string : ℕ → List ℕ → Option Part
read_string at xs = content_in (at + length xs) (read_number colon at xs)

-- a number behind a minus
abbrev pub negative : Option Number → Option Integer
negative None = None
negative (Some w) = cond (eqb w.value 0) None (whole true w.value w.next)

-- a number without one
abbrev pub positive : Option Number → Option Integer
positive None = None
positive (Some w) = cond (ltb w.value (2 ^ 63)) (whole false w.value w.next) None

-- an integer past its `i`: of signed 64 bits, and not minus zero
unfoldable pub read_signed : ℕ → List ℕ → Option Integer
read_signed at [] = None
read_signed at (c ∷ cs) =
    cond (eqb c minus_sign) (negative (bounded (read_number letter_e (at + 1) cs))) (positive (bounded (read_number letter_e at (c ∷ cs))))

-- an integer
unfoldable pub read_integer : ℕ → List ℕ → Option Integer
read_integer at [] = None
read_integer at (c ∷ cs) = cond (eqb c letter_i) (read_signed (at + 1) cs) None

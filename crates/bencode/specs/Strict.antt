-- 01, "The torrent", and the numbers 20 and 21: one dictionary in strict bencoding and nothing after it. What the numbers mean is
-- said by `Encoded` and `TooDeepFirst`, from the grammar alone; `strictness` is how the number is found, by the walk.
-- Assumes nothing.
use Rattle.bencode.specs.declared.walk.Amiss.{Amiss}
use Rattle.bencode.specs.declared.walk.Amiss.TheVariants.{Broken, TooDeep}
use Rattle.std.specs.Prelude.{◌≡◌, cond, List, [], ◌∷◌, ◌++◌, ℕ, length, eqb, Err, Ok, Result}
use Rattle.limits.specs.Limits.{max_levels}
use Rattle.octets.specs.Octets.{Octets}
use Rattle.numbers.specs.Numbers.{not_strict, nested_too_deeply}
use Rattle.bencode.specs.Grammar.{letter_d, Entries, dictionary, encode, Valid}
use Rattle.bencode.specs.Walk.{walk_value}

-- s is the encoding of a dictionary that is valid with so many levels
abbrev pub Encoded : ℕ → List ℕ → Type 0
Encoded levels s = (es : Entries) × Valid (dictionary es) levels × (s ≡ encode (dictionary es))

-- such an encoding begins with p: there are bytes with which p is one
abbrev pub CanGoOn : ℕ → List ℕ → Type 0
CanGoOn levels p = (rest : List ℕ) × Octets (length rest) rest × Encoded levels (p ++ rest)

-- at the first byte at which no strict encoding can go on, one can that is strict apart from the depth rule
pub record TooDeepFirst (s : List ℕ) : Type 0 where
  pub begun : List ℕ
  pub byte : ℕ
  pub rest : List ℕ
  pub bytes : s ≡ begun ++ byte ∷ rest
  pub strict_before : CanGoOn max_levels begun
  pub not_with_it : CanGoOn max_levels (begun ++ byte ∷ []) → ⊥
  pub levels : ℕ
  pub deeper_can : CanGoOn levels (begun ++ byte ∷ [])

-- the number, from what the walk says of so many bytes
abbrev pub whole_walk : ℕ → Result ℕ Amiss → ℕ
whole_walk size (Err Broken) = not_strict
whole_walk size (Err TooDeep) = nested_too_deeply
whole_walk size (Ok k) = cond (eqb k size) 0 not_strict

-- the walk over a dictionary has to end where the bytes end
unfoldable pub strictness : List ℕ → ℕ
strictness [] = not_strict
strictness (c ∷ cs) = cond (eqb c letter_d) (whole_walk (length (c ∷ cs)) (walk_value max_levels 0 (c ∷ cs))) not_strict

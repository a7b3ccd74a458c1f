-- 02, request 1: SHA-256 of bytes that come in bursts. A state is a value: it goes in, and comes back beside the number.
-- Assumes nothing.
use Rattle.std.specs.Prelude.{List, [], ◌∷◌, Bool, cond, ◌&&◌, ℕ, suc, ◌+◌, ◌%◌, length, take, get_or, eqb, ltb}
use Rattle.octets.specs.Octets.{zero_hash}
use Rattle.numbers.specs.Numbers.{wrong_size, unusable}
use Rattle.limits.specs.Limits.{longest_hashed}
use Rattle.constants.specs.Constants.{K}
use Rattle.padding.specs.Running.{Running, tail_array, running_of, running_more, running_end}
use Rattle.rounds.specs.Block.{compress}
use Rattle.rounds.specs.declared.State.{State}
use Rattle.sha256.specs.Sha256.{start, digest}
use Rattle.sha256.specs.declared.Hashed.{Hashed}
use Rattle.running.specs.declared.Hashing.{Hashing}
use Rattle.running.specs.declared.HashingAnswer.{HashingAnswer}

-- the eight words of a state in a row, and back
unfoldable pub to_words : State → List ℕ
to_words s = s.a ∷ s.b ∷ s.c ∷ s.d ∷ s.e ∷ s.f ∷ s.g ∷ s.h ∷ []

unfoldable pub from_words : List ℕ → State
from_words w =
    record { a = get_or w 0 0; b = get_or w 1 0; c = get_or w 2 0; d = get_or w 3 0; e = get_or w 4 0; f = get_or w 5 0; g = get_or w 6 0; h = get_or w 7 0 }

-- what a state says: bytes of the tail behind its length never matter
unfoldable pub said_by : Hashing → Running State
said_by s = record { words = from_words s.words; tail = take s.tail_size s.tail; total = s.total }

-- the state that says it
unfoldable pub saying : Running State → Hashing
saying r = record { words = to_words r.words; tail = tail_array r.tail; tail_size = length r.tail; total = r.total }

-- the state after the bytes xs
unfoldable pub state_of : List ℕ → Hashing
state_of xs = saying (running_of (compress K) start xs)

-- whether some bursts give these counts: the tail's length, and the total
unfoldable pub possible : ℕ → ℕ → Bool
possible n total = ltb total (suc longest_hashed) && eqb n (total % 64)

-- the state after a burst ys
unfoldable pub absorbed : Hashing → List ℕ → Hashing
absorbed s ys = saying (running_more (compress K) (said_by s) ys)

-- the hash of the bytes so far
unfoldable pub hash_of : Hashing → List ℕ
hash_of s = digest (running_end (compress K) (said_by s))

-- 9: counts that no bursts give; 4: past the longest string that has a hash; the state is handed back as it was given
unfoldable pub more_answer : Hashing → List ℕ → HashingAnswer
more_answer s ys =
    cond (possible s.tail_size s.total)
    (cond (ltb (s.total + length ys) (suc longest_hashed)) (record { number = 0; hashing = absorbed s ys }) (record { number = wrong_size; hashing = s }))
    (record { number = unusable; hashing = s })

unfoldable pub end_answer : Hashing → Hashed
end_answer s = cond (possible s.tail_size s.total) (record { number = 0; hash = hash_of s }) (record { number = unusable; hash = zero_hash })

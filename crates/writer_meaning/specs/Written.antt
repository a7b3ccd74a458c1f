-- The same tree as it is written from left to right: between two files that follow each other the nodes that only the first is in are
-- closed, and those that only the second is in are opened.
-- Assumes nothing.
use Rattle.std.specs.Prelude.{cond, List, [], ◌∷◌, ◌++◌, ℕ, suc, ◌-◌, length, drop, replicate}
use Rattle.octets.specs.Octets.{same}
use Rattle.bencode.specs.Grammar.{letter_d, letter_e, Value, encode_string, encode}
use Rattle.writer_meaning.specs.Content.{Item, properties}

-- how many elements two paths have in common from the start
unfoldable pub shared : List (List ℕ) → List (List ℕ) → ℕ
shared [] q = 0
shared (e ∷ p) [] = 0
shared (e ∷ p) (f ∷ q) = cond (same e f) (suc (shared p q)) 0

unfoldable pub opened : List (List ℕ) → List ℕ
opened [] = []
opened (e ∷ p) = encode_string e ++ letter_d ∷ opened p

abbrev pub closed : ℕ → List ℕ
closed n = replicate n letter_e

-- a file with path q behind one with path p
abbrev pub file_bytes : List (List ℕ) → List (List ℕ) → Value → List ℕ
file_bytes p q v = closed (length p - shared p q) ++ (opened (drop (shared p q) q) ++ (encode_string [] ++ encode v))

-- files in tree order behind one with path p
unfoldable pub tree_bytes : List (List ℕ) → List Item → List ℕ
tree_bytes p [] = closed (suc (length p))
tree_bytes p (x ∷ xs) = file_bytes p x.path (properties x) ++ tree_bytes x.path xs

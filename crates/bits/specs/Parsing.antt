-- FIPS 180-4, sections 3.1 and 5.2.1: bytes as words, the most significant byte first. SHA-1 and SHA-256 read their blocks so.
-- Assumes nothing.
use Rattle.std.specs.Prelude.{ℕ, zero, suc, ◌+◌, ◌*◌, ◌^◌, List, [], ◌∷◌, ◌++◌, slice_index}

-- a word of a block
unfoldable pub word_at : List ℕ → ℕ → ℕ
word_at m i = slice_index m i * 2 ^ 24 + slice_index m (i + 1) * 2 ^ 16 + slice_index m (i + 2) * 2 ^ 8 + slice_index m (i + 3)

-- the first n words of a block
unfoldable pub words : ℕ → List ℕ → List ℕ
words zero m = []
words (suc n) m = words n m ++ (word_at m (4 * n) ∷ [])

-- Laws of bytes as words: a block inside a longer string, and one word more of it.
-- Assumes nothing.
use Rattle.std.specs.Prelude.{◌≡◌, ℕ, zero, suc, ◌+◌, ◌*◌, ◌<◌, List, length, take, drop, slice_index, slice_set, refl}
use Rattle.std.proofs.Common.{◌∙◌, arith, add-one, length-append, take-suc-set, get_or-take, get_or-drop}
use Rattle.bits.specs.Parsing.{word_at, words}

pub length_words : (n : ℕ) (m : List ℕ) → length (words n m) ≡ n
unfolding words
length_words zero m = refl
length_words (suc n) m = simp (length-append, length_words n m) (omega arith)

-- a byte, and a word, of a block that lies in a longer list
pub byte_in : (s : List ℕ) (at j : ℕ) → j < 64 → slice_index (take 64 (drop at s)) j ≡ slice_index s (at + j)
byte_in s at j h = get_or-take 64 (drop at s) j 0 h ∙ get_or-drop at s j 0

pub word_in : (s : List ℕ) (at i : ℕ) → i < 16 → word_at s (at + i * 4) ≡ word_at (take 64 (drop at s)) (4 * i)
unfolding word_at
word_in s at i h =
    let e0 : at + i * 4 ≡ at + 4 * i = omega arith in
    let e1 : at + i * 4 + 1 ≡ at + (4 * i + 1) = omega arith in
    let e2 : at + i * 4 + 2 ≡ at + (4 * i + 2) = omega arith in
    let e3 : at + i * 4 + 3 ≡ at + (4 * i + 3) = omega arith in
    let b0 = byte_in s at (4 * i) (omega arith) in
    let b1 = byte_in s at (4 * i + 1) (omega arith) in
    let b2 = byte_in s at (4 * i + 2) (omega arith) in
    let b3 = byte_in s at (4 * i + 3) (omega arith) in
    cc

pub words_more :
    (m w : List ℕ) (i v : ℕ)
    → i < length w
    → take i w ≡ words i m
    → v ≡ word_at m (4 * i)
    → take (i + 1) (slice_set w i v) ≡ words (i + 1) m
unfolding words
words_more m w i v h e f = rw (add-one i) (take-suc-set w i v h ∙ cc)

-- Four bytes of a longer list, the most significant first, are its word.
-- Assumes nothing.
use Rattle.std.specs.Prelude.{◌≡◌, ℕ, ◌+◌, List, take, drop, slice_index}
use Rattle.std.specs.Int.{from_be_bytes, w32}
use Rattle.std.proofs.Common.{refl, ap, ◌∙◌, add-zero, get_or-take, get_or-drop, arith}
use Rattle.bits.specs.Parsing.{word_at}

pub be_word : (s : List ℕ) (at : ℕ) → from_be_bytes w32 (take 4 (drop at s)) ≡ word_at s at
unfolding word_at
be_word s at =
    let b0 : slice_index (take 4 (drop at s)) 0 ≡ slice_index s at
    = get_or-take 4 (drop at s) 0 0 (omega arith) ∙ get_or-drop at s 0 0 ∙ ap (λ (n : ℕ). slice_index s n) (add-zero at) in
    let b1 : slice_index (take 4 (drop at s)) 1 ≡ slice_index s (at + 1) = get_or-take 4 (drop at s) 1 0 (omega arith) ∙ get_or-drop at s 1 0 in
    let b2 : slice_index (take 4 (drop at s)) 2 ≡ slice_index s (at + 2) = get_or-take 4 (drop at s) 2 0 (omega arith) ∙ get_or-drop at s 2 0 in
    let b3 : slice_index (take 4 (drop at s)) 3 ≡ slice_index s (at + 3) = get_or-take 4 (drop at s) 3 0 (omega arith) ∙ get_or-drop at s 3 0 in
    rw (b0, b1, b2, b3) refl

-- One turn of a copying loop, at the code's i + 1, and what the whole copy is.
use Rattle.std.specs.Prelude.{◌≡◌, List, ◌++◌, ℕ, ◌+◌, ◌<◌, length, take, drop, get_or, set}
use Rattle.std.proofs.Common.{ap, sym, ◌∙◌, add-one, zero-add, arith, take_all, append-nil}
use Rattle.std.proofs.Math.ListN.{length-drop, drop_of_length-le}
use Rattle.std.proofs.Math.Seq.{paste, paste-suc, get_or-drop}
use Rattle.octets.specs.Octets.{cut, pasted}

pub turn : (d d' : List ℕ) (at : ℕ) (s : List ℕ) (j : ℕ) → d' ≡ paste d at s j → at + j < length d → j < length s
    → set d' (at + j) (get_or s j 0) ≡ paste d at s (j + 1)
turn d d' at s j e hd hs = rw (e, add-one) (paste-suc d at s j 0 hd hs)

-- a copy of n bytes, all that s has
pub whole : (d d' : List ℕ) (at : ℕ) (s : List ℕ) (j n : ℕ) → d' ≡ paste d at s j → length s ≡ n → j ≡ n → d' ≡ pasted d at s
unfolding pasted
whole d d' at s j n e l k = rw (e, k, ← l) (ap (λ (t : List ℕ). take at d ++ t ++ drop (at + length s) d) (take_all (length s) s (omega arith)))

-- a turn of a loop that reads s from `at` on into a list of n, from its front
pub turn_read : (d d' s : List ℕ) (at j : ℕ) → d' ≡ paste d 0 (drop at s) j → j < length d → at + j < length s
    → set d' j (get_or s (at + j) 0) ≡ paste d 0 (drop at s) (j + 1)
turn_read d d' s at j e hd hs =
    ap (λ (v : ℕ). set d' j v) (sym (get_or-drop at s j 0))
    ∙ ap (λ (k : ℕ). set d' k (get_or (drop at s) j 0)) (sym (zero-add j))
    ∙ turn d d' 0 (drop at s) j e (omega arith) (simp length-drop (omega arith))

pub whole_read : (d d' s : List ℕ) (at j n : ℕ) → d' ≡ paste d 0 (drop at s) j → length d ≡ n → j ≡ n → d' ≡ cut s at n
unfolding cut
whole_read d d' s at j n e l k =
    e ∙ ap (λ (m : ℕ). take m (drop at s) ++ drop (0 + m) d) k
    ∙ ap (λ (t : List ℕ). take n (drop at s) ++ t) (drop_of_length-le d {i = 0 + n} (omega arith))
    ∙ append-nil (take n (drop at s))

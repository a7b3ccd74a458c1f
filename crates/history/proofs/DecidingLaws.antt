-- Which number: each case of the answers as the code meets it, and the room for each hash that is due.
-- Assumes nothing.
use Rattle.std.specs.Prelude.{◌≡◌, refl, Bool, true, false, List, ℕ, zero, suc, ◌+◌, ◌-◌, ◌*◌, ◌/◌, ◌%◌, ◌≤◌, ◌<◌, length, take, drop, eqb, ltb}
use Rattle.std.proofs.Common.{ap, sym, ◌∙◌, mul-one, zero-mul, mul-le-mul_left, arith, length-drop, length-take-le, eq-eqb, ne_eqb, lt-ltb, le-ltb, le-leb, ltb-true}
use Rattle.std.proofs.lemmas.Bool.{false≢true, lt-leb}
use Rattle.std.proofs.Math.Decide.{dec_lt, dec_le}
use Rattle.octets.specs.Octets.{pasted, zero_hash}
use Rattle.numbers.specs.Numbers.{unusable, facts_out_of_range, no_room}
use Rattle.limits.specs.Limits.{longest_file}
use Rattle.tree.specs.Geometry.{block_length, is_piece_length, piece_layer, has_layer, piece_count}
use Rattle.tree.proofs.GeometryLaws.{ceil_least, below_ceil, ceil_by_zero}
use Rattle.history.specs.Growing.{grown_by, noted_by, last_node, root_of}
use Rattle.history.specs.Answers.{possible_counts, passed, no_room_for, more_number, more_answer, more_layer, layer_bytes, layer_size, end_number, end_answer, with_last, end_layer, Possible}
use Rattle.history.proofs.AnswersLaws.{possible_says}
use Rattle.history.proofs.LayerLaws.{passed_at, passed_grows, pieces_some}
use Rattle.history.specs.declared.History.{History}

-- ---- the counts

pub bad_pieces : (s : History) → is_piece_length s.piece_length ≡ false → false ≡ possible_counts s
unfolding possible_counts
bad_pieces s e = rw e

pub too_long : (s : History) → is_piece_length s.piece_length ≡ true → longest_file < s.length → false ≡ possible_counts s
unfolding possible_counts
too_long s e l = rw (e, lt-leb s.length longest_file l)

pub other_total : (s : History) → is_piece_length s.piece_length ≡ true → s.length ≤ longest_file → (s.block.total ≡ s.length % block_length → ⊥) → false ≡ possible_counts s
unfolding possible_counts
other_total s e l n = rw (e, le-leb s.length longest_file l, ne_eqb s.block.total (s.length % block_length) n)

pub tail_decides : (s : History) → is_piece_length s.piece_length ≡ true → s.length ≤ longest_file → s.block.total ≡ s.length % block_length
    → eqb s.block.tail_size (s.block.total % 64) ≡ possible_counts s
unfolding possible_counts
tail_decides s e l t = rw (e, le-leb s.length longest_file l, eq-eqb s.block.total (s.length % block_length) t)

-- ---- a burst

pub room_due : (s : History) (k m : ℕ) → passed s.length s.piece_length < passed (s.length + k) s.piece_length
    → ltb (m / 32) (passed (s.length + k) s.piece_length) ≡ no_room_for s k m
unfolding no_room_for
room_due s k m l = rw (lt-ltb (passed s.length s.piece_length) (passed (s.length + k) s.piece_length) l) (by_size (dec_lt m (32 * passed (s.length + k) s.piece_length)))
  where
    by_size : Dec (m < 32 * passed (s.length + k) s.piece_length)
        → ltb (m / 32) (passed (s.length + k) s.piece_length) ≡ ltb m (32 * passed (s.length + k) s.piece_length)
    by_size (yes b) = rw (lt-ltb m (32 * passed (s.length + k) s.piece_length) b) (lt-ltb (m / 32) (passed (s.length + k) s.piece_length) (omega arith))
    by_size (no g) =
        rw (le-ltb m (32 * passed (s.length + k) s.piece_length) (omega arith)) (le-ltb (m / 32) (passed (s.length + k) s.piece_length) (omega arith))

pub none_due : (s : History) (k m : ℕ) → passed (s.length + k) s.piece_length ≤ passed s.length s.piece_length → false ≡ no_room_for s k m
unfolding no_room_for
none_due s k m l = rw (le-ltb (passed s.length s.piece_length) (passed (s.length + k) s.piece_length) l)

pub number_impossible : (s : History) (k m : ℕ) → possible_counts s ≡ false → unusable ≡ more_number s k m
unfolding more_number
number_impossible s k m e = rw e

pub number_long : (s : History) (k m : ℕ) → possible_counts s ≡ true → longest_file < s.length + k → facts_out_of_range ≡ more_number s k m
unfolding more_number
number_long s k m e l = rw (e, lt-leb (s.length + k) longest_file l)

pub number_room : (s : History) (k m : ℕ) → possible_counts s ≡ true → s.length + k ≤ longest_file → no_room_for s k m ≡ true → no_room ≡ more_number s k m
unfolding more_number
number_room s k m e l r = rw (e, le-leb (s.length + k) longest_file l, r)

pub number_done : (s : History) (k m : ℕ) → possible_counts s ≡ true → s.length + k ≤ longest_file → no_room_for s k m ≡ false → 0 ≡ more_number s k m
unfolding more_number
number_done s k m e l r = rw (e, le-leb (s.length + k) longest_file l, r)

-- 0 is given only where all this holds
pub number_says : (s : History) (k m : ℕ) → more_number s k m ≡ 0 → Possible s × (s.length + k ≤ longest_file) × (no_room_for s k m ≡ false)
number_says s k m e = by_counts (possible_counts s) refl
  where
    by_room : possible_counts s ≡ true → s.length + k ≤ longest_file → (r : Bool) → no_room_for s k m ≡ r → r ≡ false
    by_room p l false r = refl
    by_room p l true r = let w = number_room s k m p l r in absurd (omega (arith, w, e))

    by_length : possible_counts s ≡ true → Dec (s.length + k ≤ longest_file) → Possible s × (s.length + k ≤ longest_file) × (no_room_for s k m ≡ false)
    by_length p (yes l) = (possible_says s p, l, by_room p l (no_room_for s k m) refl)
    by_length p (no g) = let w = number_long s k m p (omega arith) in absurd (omega (arith, w, e))

    by_counts : (b : Bool) → possible_counts s ≡ b → Possible s × (s.length + k ≤ longest_file) × (no_room_for s k m ≡ false)
    by_counts false p = let w = number_impossible s k m p in absurd (omega (arith, w, e))
    by_counts true p = by_length p (dec_le (s.length + k) longest_file)

-- the hash of each piece that the burst runs past fits
pub fits : (s : History) (k m n : ℕ) → Possible s → no_room_for s k m ≡ false → s.length ≤ n → n < s.length + k → 0 < n → n % s.piece_length ≡ 0
    → 32 * (n / s.piece_length) ≤ m
unfolding no_room_for
fits s k m n w f a b p e =
    let some = pieces_some s.piece_length w.pieces in
    let at = passed_at n s.piece_length some p e in
    let one = passed_grows s.length n s.piece_length some a in
    let two = passed_grows (n + 1) (s.length + k) s.piece_length some (omega arith) in
    let t = lt-ltb (passed s.length s.piece_length) (passed (s.length + k) s.piece_length) (omega (arith, at.0, at.1, at.2)) in
    by_size (dec_lt m (32 * passed (s.length + k) s.piece_length)) (rw t at f)
  where
    by_size : Dec (m < 32 * passed (s.length + k) s.piece_length) → ltb m (32 * passed (s.length + k) s.piece_length) ≡ false → 32 * (n / s.piece_length) ≤ m
    by_size (yes l) g = absurd (true_is_false (sym (lt-ltb m (32 * passed (s.length + k) s.piece_length) l) ∙ g))
      where
        true_is_false : true ≡ false → ⊥
        true_is_false q = false≢true (sym q)
    by_size (no l) g =
        let some = pieces_some s.piece_length w.pieces in
        let at = passed_at n s.piece_length some p e in
        let two = passed_grows (n + 1) (s.length + k) s.piece_length some (omega arith) in
        omega (arith, at.1)

pub more_taken : (s r : History) (ys layer : List ℕ) → 0 ≡ more_number s (length ys) (length layer) → r ≡ grown_by s ys → record { number = 0; history = r } ≡ more_answer s ys layer
unfolding more_answer
more_taken s r ys layer e d = rw (← e) (ap (λ (x : History). record { number = 0; history = x }) d)

pub layer_taken : (s : History) (ys layer after : List ℕ) → 0 ≡ more_number s (length ys) (length layer) → after ≡ noted_by s layer ys → after ≡ more_layer s ys layer
unfolding more_layer
layer_taken s ys layer after e d = rw (← e) d

pub more_refused : (s : History) (ys layer : List ℕ) (n : ℕ) → n ≡ more_number s (length ys) (length layer) → (n ≡ 0 → ⊥) → record { number = n; history = s } ≡ more_answer s ys layer
unfolding more_answer
more_refused s ys layer n e g = rw (← e, ne_eqb n 0 g)

pub layer_refused : (s : History) (ys layer : List ℕ) (n : ℕ) → n ≡ more_number s (length ys) (length layer) → (n ≡ 0 → ⊥) → layer ≡ more_layer s ys layer
unfolding more_layer
layer_refused s ys layer n e g = rw (← e, ne_eqb n 0 g)

-- ---- the end

pub pieces_most : (n plen : ℕ) → piece_count n plen ≤ n
unfolding piece_count
pieces_most n zero = omega (arith, ceil_by_zero n)
pieces_most n (suc d) =
    let one : 1 ≤ suc d = omega arith in
    ceil_least n (suc d) n (omega arith) (omega (arith, mul-le-mul_left n one, mul-one n))

pub bytes_some : (n plen : ℕ) → has_layer n plen ≡ true → 32 * piece_count n plen ≡ layer_bytes n plen
unfolding layer_bytes
bytes_some n plen e = rw e

pub bytes_none : (n plen : ℕ) → has_layer n plen ≡ false → 0 ≡ layer_bytes n plen
unfolding layer_bytes
bytes_none n plen e = rw e

pub end_impossible : (s : History) (m : ℕ) → possible_counts s ≡ false → unusable ≡ end_number s m
unfolding end_number
end_impossible s m e = rw e

pub end_room : (s : History) (m : ℕ) → possible_counts s ≡ true → m < layer_bytes s.length s.piece_length → no_room ≡ end_number s m
unfolding end_number layer_size
end_room s m e l = rw (e, lt-ltb m (layer_bytes s.length s.piece_length) l)

pub end_done : (s : History) (m : ℕ) → possible_counts s ≡ true → layer_bytes s.length s.piece_length ≤ m → 0 ≡ end_number s m
unfolding end_number layer_size
end_done s m e l = rw (e, le-ltb m (layer_bytes s.length s.piece_length) l)

pub end_says : (s : History) (m : ℕ) → end_number s m ≡ 0 → Possible s × (layer_size s ≤ m)
unfolding layer_size
end_says s m e = by_counts (possible_counts s) refl
  where
    by_size : possible_counts s ≡ true → Dec (layer_bytes s.length s.piece_length ≤ m) → Possible s × (layer_bytes s.length s.piece_length ≤ m)
    by_size p (yes l) = (possible_says s p, l)
    by_size p (no g) = let w = end_room s m p (omega arith) in absurd (omega (arith, w, e))

    by_counts : (b : Bool) → possible_counts s ≡ b → Possible s × (layer_bytes s.length s.piece_length ≤ m)
    by_counts false p = let w = end_impossible s m p in absurd (omega (arith, w, e))
    by_counts true p = by_size p (dec_le (layer_bytes s.length s.piece_length) m)

-- ---- a part of the burst

pub part_length : (l : List ℕ) (a r : ℕ) → a + r ≤ length l → length (take (a + r - a) (drop a l)) ≡ r
part_length l a r h =
    let e : a + r - a ≡ r = omega arith in
    rw e (length-take-le r (drop a l) (omega (arith, length-drop a l)))

-- ---- the answers at the end

pub end_taken : (s : History) (layer root : List ℕ) (size : ℕ) → 0 ≡ end_number s (length layer) → root ≡ root_of s → size ≡ layer_bytes s.length s.piece_length
    → record { number = 0; length = s.length; root = root; layer_size = size } ≡ end_answer s layer
unfolding end_answer layer_size
end_taken s layer root size e r z = rw (← e) (cc (r, z))

pub end_layer_lem : (s : History) (layer after : List ℕ) → 0 ≡ end_number s (length layer) → after ≡ with_last s layer → after ≡ end_layer s layer
unfolding end_layer
end_layer_lem s layer after e d = rw (← e) d

pub end_refused : (s : History) (layer : List ℕ) (n : ℕ) → n ≡ end_number s (length layer) → (n ≡ 0 → ⊥)
    → record { number = n; length = 0; root = zero_hash; layer_size = 0 } ≡ end_answer s layer
unfolding end_answer
end_refused s layer n e g = rw (← e, ne_eqb n 0 g)

pub end_left : (s : History) (layer : List ℕ) (n : ℕ) → n ≡ end_number s (length layer) → (n ≡ 0 → ⊥) → layer ≡ end_layer s layer
unfolding end_layer
end_left s layer n e g = rw (← e, ne_eqb n 0 g)

pub last_put : (s : History) (layer after hash : List ℕ) (p at : ℕ) → has_layer s.length s.piece_length ≡ true → p ≡ piece_layer s.piece_length
    → hash ≡ last_node s p → at ≡ layer_bytes s.length s.piece_length → after ≡ pasted layer (at - 32) hash → after ≡ with_last s layer
unfolding with_last layer_size
last_put s layer after hash p at t ep eh ea e = rw t (cc (ep, eh, ea, e))

pub last_none : (s : History) (layer : List ℕ) → has_layer s.length s.piece_length ≡ false → layer ≡ with_last s layer
unfolding with_last
last_none s layer t = rw t

-- a file with a layer has a piece
pub layer_some : (s : History) → has_layer s.length s.piece_length ≡ true → Possible s → 32 ≤ layer_bytes s.length s.piece_length
unfolding has_layer piece_count
layer_some s t w =
    let b = below_ceil s.length s.piece_length 0 (pieces_some s.piece_length w.pieces) (omega (arith, ltb-true s.piece_length s.length t, zero-mul s.piece_length)) in
    omega (arith, b, bytes_some s.length s.piece_length t)

-- What follows from the definitions of Geometry: rounding up, the height, padding, piece lengths, sizes, node numbers.
-- Assumes nothing.
use Rattle.std.specs.Prelude.{◌≡◌, refl, true, false, cond, ℕ, zero, suc, ◌+◌, ◌-◌, ◌*◌, ◌/◌, ◌%◌, ◌^◌, ◌≤◌, ◌<◌, leb, eqb}
use Rattle.std.proofs.Common.{ap, sym, ◌∙◌, add-mul, one-mul, mul-one, zero-mul, mul_assoc, mul_comm, div-lt_iff_lt-mul, mul-le-mul_left, le_antisymm, pow_pos, pow_mono, pow-add, shl_exact, le-leb, leb-true, eqb-true, eq-eqb, ltb-true, lt-ltb, arith}
use Rattle.std.proofs.Math.Bool.{and-true, and-false, and-eq-true_iff}
use Rattle.std.proofs.Math.Nat.{add-div_right, pow-succ', div-zero, mul-div_cancel_left, one-le-mul}
use Rattle.std.proofs.Math.Decide.{dec_le, dec_lt}
use Rattle.std.proofs.Math.Pow.{pow-lt}
use Rattle.std.proofs.lemmas.Bool.{lt-leb}
use Rattle.tree.specs.Geometry.{block_length, ceil_div, block_count, height_from, height, Padding, covering, node_number, piece_layer, is_piece_length, piece_count, block_size, piece_size, has_layer}

-- ---- division rounded up

-- a / d rounded up is at most i where i times d is at least a
pub ceil_least : (a d i : ℕ) → 0 < d → a ≤ i * d → ceil_div a d ≤ i
unfolding ceil_div
ceil_least a d i p h =
    let e : (i + 1) * d ≡ i * d + d = add-mul i 1 d ∙ ap (λ (x : ℕ). i * d + x) (one-mul d) in
    let g : (a + (d - 1)) / d < i + 1 = (div-lt_iff_lt-mul p).1 (omega arith) in
    omega arith

-- and only there
pub ceil_enough : (a d i : ℕ) → 0 < d → ceil_div a d ≤ i → a ≤ i * d
unfolding ceil_div
ceil_enough a d i p h =
    let e : (i + 1) * d ≡ i * d + d = add-mul i 1 d ∙ ap (λ (x : ℕ). i * d + x) (one-mul d) in
    let l : (a + (d - 1)) / d < i + 1 = omega arith in
    let g : a + (d - 1) < (i + 1) * d = (div-lt_iff_lt-mul p).0 l in
    omega arith

-- a position that begins before the end is below the count
pub below_ceil : (a d i : ℕ) → 0 < d → i * d < a → i < ceil_div a d
below_ceil a d i p h = by_size (dec_lt i (ceil_div a d))
  where
    by_size : Dec (i < ceil_div a d) → i < ceil_div a d
    by_size (yes l) = l
    by_size (no g) = let c = ceil_enough a d i p (omega arith) in absurd (omega arith)

-- and back
pub ceil_below : (a d i : ℕ) → 0 < d → i < ceil_div a d → i * d < a
ceil_below a d i p h = by_size (dec_lt (i * d) a)
  where
    by_size : Dec (i * d < a) → i * d < a
    by_size (yes l) = l
    by_size (no g) = let c = ceil_least a d i p (omega arith) in absurd (omega arith)

-- rounding up twice is rounding up once
pub ceil_ceil : (a d e : ℕ) → 0 < d → 0 < e → ceil_div (ceil_div a d) e ≡ ceil_div a (e * d)
ceil_ceil a d e p q =
    let once : ceil_div a (e * d) ≤ ceil_div (ceil_div a d) e =
    ceil_least a (e * d) (ceil_div (ceil_div a d) e) (one-le-mul q p)
    (rw (← mul_assoc) (ceil_enough a d (ceil_div (ceil_div a d) e * e) p (ceil_enough (ceil_div a d) e (ceil_div (ceil_div a d) e) q (omega arith)))) in
    let twice : ceil_div (ceil_div a d) e ≤ ceil_div a (e * d) =
    ceil_least (ceil_div a d) e (ceil_div a (e * d)) q
    (ceil_least a d (ceil_div a (e * d) * e) p (rw mul_assoc (ceil_enough a (e * d) (ceil_div a (e * d)) (one-le-mul q p) (omega arith)))) in
    le_antisymm twice once

-- dividing by nothing gives 0
pub ceil_by_zero : (a : ℕ) → ceil_div a 0 ≡ 0
unfolding ceil_div
ceil_by_zero a = div-zero (a + (0 - 1))

-- nothing, rounded up, is nothing
pub ceil_of_zero : (d : ℕ) → ceil_div 0 d ≡ 0
ceil_of_zero zero = ceil_by_zero 0
ceil_of_zero (suc d) = let l = ceil_least 0 (suc d) 0 (omega arith) (omega arith) in omega arith

-- rounding up without a sum that could wrap
pub ceil_step : (a d : ℕ) → (a ≡ 0 → ⊥) → (d ≡ 0 → ⊥) → ceil_div a d ≡ (a - 1) / d + 1
unfolding ceil_div
ceil_step a d p q = let e : a + (d - 1) ≡ a - 1 + d = omega arith in rw e (add-div_right (a - 1) (omega arith))

-- ---- the height

self_below_pow : (n : ℕ) → n < 2 ^ n
self_below_pow zero = omega (arith, pow_pos 0)
self_below_pow (suc n) = omega (arith, self_below_pow n, pow-succ' 2 n)

height_from_enough : (f k b : ℕ) → b ≤ 2 ^ (k + f) → b ≤ 2 ^ height_from f k b
unfolding height_from
height_from_enough zero k b h = let e : k + 0 ≡ k = omega arith in rw e at h
height_from_enough (suc f) k b h =
    let e : k + suc f ≡ suc k + f = omega arith in
    by_size (dec_le b (2 ^ k)) (height_from_enough f (suc k) b (rw e at h))
  where
    by_size : Dec (b ≤ 2 ^ k) → b ≤ 2 ^ height_from f (suc k) b → b ≤ 2 ^ (cond (leb b (2 ^ k)) k (height_from f (suc k) b))
    by_size (yes l) r = rw (le-leb b (2 ^ k) l) l
    by_size (no g) r = rw (lt-leb b (2 ^ k) (omega arith)) r

height_from_least : (f k b m : ℕ) → k ≤ m → b ≤ 2 ^ m → height_from f k b ≤ m
unfolding height_from
height_from_least zero k b m l h = l
height_from_least (suc f) k b m l h = by_size (dec_le b (2 ^ k)) (λ g. height_from_least f (suc k) b m g h)
  where
    by_size : Dec (b ≤ 2 ^ k) → (suc k ≤ m → height_from f (suc k) b ≤ m) → cond (leb b (2 ^ k)) k (height_from f (suc k) b) ≤ m
    by_size (yes s) r = rw (le-leb b (2 ^ k) s) l
    by_size (no g) r = rw (lt-leb b (2 ^ k) (omega arith)) (r (above (dec_le m k)))
      where
        above : Dec (m ≤ k) → suc k ≤ m
        above (yes s) = let w : 2 ^ m ≤ 2 ^ k = pow_mono s in absurd (omega arith)
        above (no g) = omega arith

-- 2 to the height is at least b
pub height_enough : (b : ℕ) → b ≤ 2 ^ height b
unfolding height
height_enough b = height_from_enough b 0 b (let e : 0 + b ≡ b = omega arith in rw e (omega (arith, self_below_pow b)))

-- and the height is the least such number
pub height_least : (b k : ℕ) → b ≤ 2 ^ k → height b ≤ k
unfolding height
height_least b k h = height_from_least b 0 b k (omega arith) h

-- an empty file's tree has height 0
pub height_zero : height 0 ≡ 0
height_zero = let l = height_least 0 0 (omega arith) in omega arith

-- of a power of two it is the exponent
pub height_pow : (k : ℕ) → height (2 ^ k) ≡ k
height_pow k = le_antisymm (height_least (2 ^ k) k (omega arith)) (at_least (dec_lt (height (2 ^ k)) k))
  where
    at_least : Dec (height (2 ^ k) < k) → k ≤ height (2 ^ k)
    at_least (yes l) = let w : 2 ^ height (2 ^ k) < 2 ^ k = pow-lt l in absurd (omega (arith, height_enough (2 ^ k)))
    at_least (no g) = omega arith

-- more blocks, no less height
pub height_grows : (a b : ℕ) → a ≤ b → height a ≤ height b
height_grows a b l = height_least a (height b) (omega (arith, height_enough b))

-- halving the blocks, rounded up, takes the height down by one
pub height_halves : (b : ℕ) → 1 < b → height b ≡ suc (height (ceil_div b 2))
height_halves b l = le_antisymm most (least (height b) refl)
  where
    most : height b ≤ suc (height (ceil_div b 2))
    most = height_least b (suc (height (ceil_div b 2)))
        (omega (arith, ceil_enough b 2 (2 ^ height (ceil_div b 2)) (omega arith) (height_enough (ceil_div b 2)), pow-succ' 2 (height (ceil_div b 2))))

    least : (m : ℕ) → height b ≡ m → suc (height (ceil_div b 2)) ≤ height b
    least zero e = absurd (omega (arith, height_enough b, ap (λ (x : ℕ). 2 ^ x) e))
    least (suc m) e =
        let enough : b ≤ 2 * 2 ^ m = omega (arith, height_enough b, ap (λ (x : ℕ). 2 ^ x) e, pow-succ' 2 m) in
        let w = height_least (ceil_div b 2) m (ceil_least b 2 (2 ^ m) (omega arith) (omega arith)) in
        omega arith

-- a number of 64 bits has a height of at most 64
pub height_fits : (b : ℕ) → b < 2 ^ 64 → height b ≤ 64
height_fits b l = height_least b 64 (omega arith)

-- ---- padding

-- a position is padding exactly from the covering count on
pub padding_from_covering : (b l i : ℕ) → covering b l ≤ i → Padding b l i
unfolding covering Padding
padding_from_covering b l i h = ceil_enough b (2 ^ l) i (pow_pos l) h

-- and back
pub covering_until_padding : (b l i : ℕ) → Padding b l i → covering b l ≤ i
unfolding covering Padding
covering_until_padding b l i h = ceil_least b (2 ^ l) i (pow_pos l) h

-- so the positions before it aren't padding
pub covering_not_padding : (b l i : ℕ) → i < covering b l → Padding b l i → ⊥
covering_not_padding b l i h p = omega (arith, covering_until_padding b l i p)

-- the top position alone isn't padding
pub covering_top : (b : ℕ) → 1 ≤ b → covering b (height b) ≡ 1
unfolding covering
covering_top b l =
    let most = ceil_least b (2 ^ height b) 1 (pow_pos (height b)) (omega (arith, height_enough b)) in
    let some = below_ceil b (2 ^ height b) 0 (pow_pos (height b)) (omega (arith, zero-mul (2 ^ height b))) in
    omega arith

-- every layer has at least one such position
pub covering_some : (b l : ℕ) → 1 ≤ b → 1 ≤ covering b l
unfolding covering
covering_some b l h = below_ceil b (2 ^ l) 0 (pow_pos l) (omega (arith, zero-mul (2 ^ l)))

-- without blocks every position is padding
pub covering_none : (l : ℕ) → covering 0 l ≡ 0
unfolding covering
covering_none l = ceil_of_zero (2 ^ l)

-- a layer whose positions are large enough for all blocks has one
pub covering_one : (b l : ℕ) → (b ≡ 0 → ⊥) → b ≤ 2 ^ l → covering b l ≡ 1
unfolding covering
covering_one b l p h =
    let most = ceil_least b (2 ^ l) 1 (pow_pos l) (omega arith) in
    let some = covering_some b l (omega arith) in
    omega arith

-- the count without a sum that could wrap
pub covering_step : (b l : ℕ) → (b ≡ 0 → ⊥) → covering b l ≡ (b - 1) / 2 ^ l + 1
unfolding covering
covering_step b l p = ceil_step b (2 ^ l) p (λ e. omega (arith, pow_pos l))

-- no layer has more than the blocks
pub covering_most : (b l : ℕ) → covering b l ≤ b
unfolding covering
covering_most b l = ceil_least b (2 ^ l) b (pow_pos l) (omega (arith, mul-le-mul_left b (pow_pos l), mul-one b))

-- the positions that aren't padding lie within the layer
pub covering_within : (b l : ℕ) → l ≤ height b → covering b l ≤ 2 ^ (height b - l)
unfolding covering
covering_within b l h =
    let e : height b - l + l ≡ height b = omega arith in
    ceil_least b (2 ^ l) (2 ^ (height b - l)) (pow_pos l)
    (rw (← pow-add) (rw e (height_enough b)))

-- the blocks of a position are those of its two children: the left one starts where it starts
pub left_start : (i l : ℕ) → (2 * i) * 2 ^ l ≡ i * 2 ^ suc l
left_start i l = ap (λ (x : ℕ). x * 2 ^ l) (mul_comm 2 i) ∙ mul_assoc i 2 (2 ^ l) ∙ ap (λ (x : ℕ). i * x) (sym (pow-succ' 2 l))

-- the right one starts 2^l blocks later
pub right_start : (i l : ℕ) → (2 * i + 1) * 2 ^ l ≡ (2 * i) * 2 ^ l + 2 ^ l
right_start i l = add-mul (2 * i) 1 (2 ^ l) ∙ ap (λ (x : ℕ). (2 * i) * 2 ^ l + x) (one-mul (2 ^ l))

-- and ends where its parent does
pub right_end : (i l : ℕ) → (2 * i + 1 + 1) * 2 ^ l ≡ (i + 1) * 2 ^ suc l
right_end i l = let e : 2 * i + 1 + 1 ≡ 2 * (i + 1) = omega arith in rw e (left_start (i + 1) l)

-- and both children of padding are padding
pub padding_left : (b l i : ℕ) → Padding b (suc l) i → Padding b l (2 * i)
unfolding Padding
padding_left b l i h = omega (arith, left_start i l)

-- the right one too
pub padding_right : (b l i : ℕ) → Padding b (suc l) i → Padding b l (2 * i + 1)
unfolding Padding
padding_right b l i h = omega (arith, left_start i l, right_start i l)

-- everything to the right of padding is padding
pub padding_on : (b l i j : ℕ) → i ≤ j → Padding b l i → Padding b l j
padding_on b l i j h p = padding_from_covering b l j (omega (arith, covering_until_padding b l i p))

-- ---- piece lengths

-- the piece layer of a piece length of 16384·2^p is layer p
pub piece_layer_pow : (p : ℕ) → piece_layer (block_length * 2 ^ p) ≡ p
unfolding piece_layer
piece_layer_pow p = ap height (mul-div_cancel_left (2 ^ p) (omega arith)) ∙ height_pow p

-- a piece length that is accepted is 16384·2^p for its own piece layer p, which is at most 10
pub piece_length_form : (plen : ℕ) → is_piece_length plen ≡ true → (piece_layer plen ≤ 10) × (plen ≡ block_length * 2 ^ piece_layer plen)
unfolding is_piece_length
piece_length_form plen t = (small (dec_le (piece_layer plen) 10), sym form)
  where
    both : (eqb (block_length * 2 ^ piece_layer plen) plen ≡ true) × (leb plen 16777216 ≡ true)
    both = (and-eq-true_iff (eqb (block_length * 2 ^ piece_layer plen) plen) (leb plen 16777216)).0 t

    form : block_length * 2 ^ piece_layer plen ≡ plen
    form = eqb-true (block_length * 2 ^ piece_layer plen) plen both.0

    small : Dec (piece_layer plen ≤ 10) → piece_layer plen ≤ 10
    small (yes l) = l
    small (no g) =
        let w : 2 ^ 11 ≤ 2 ^ piece_layer plen = pow_mono {i = 11} {j = piece_layer plen} (omega arith) in
        absurd (omega (arith, form, leb-true plen 16777216 both.1))

-- and each of these is accepted
pub piece_length_accepted : (p : ℕ) → p ≤ 10 → is_piece_length (block_length * 2 ^ p) ≡ true
unfolding is_piece_length
piece_length_accepted p l =
    let w : 2 ^ p ≤ 2 ^ 10 = pow_mono {i = p} {j = 10} l in
    (and-eq-true_iff (eqb (block_length * 2 ^ piece_layer (block_length * 2 ^ p)) (block_length * 2 ^ p)) (leb (block_length * 2 ^ p) 16777216)).1 (
      eq-eqb (block_length * 2 ^ piece_layer (block_length * 2 ^ p)) (block_length * 2 ^ p) (ap (λ (x : ℕ). block_length * 2 ^ x) (piece_layer_pow p)),
      le-leb (block_length * 2 ^ p) 16777216 (omega arith),
    )

-- a file has a piece layer exactly if it is longer than the piece length
pub has_longer : (n plen : ℕ) → has_layer n plen ≡ true → plen < n
unfolding has_layer
has_longer n plen t = ltb-true plen n t

pub longer_has : (n plen : ℕ) → plen < n → has_layer n plen ≡ true
unfolding has_layer
longer_has n plen t = lt-ltb plen n t

-- such a file is not empty
pub long_full : (n plen : ℕ) → has_layer n plen ≡ true → n ≡ 0 → ⊥
long_full n plen t e = let h = has_longer n plen t in omega arith

-- a piece has a byte
pub piece_some : (plen : ℕ) → is_piece_length plen ≡ true → 0 < plen
piece_some plen good =
    let w : 0 < block_length * 2 ^ piece_layer plen = one-le-mul (omega arith) (pow_pos (piece_layer plen)) in
    omega (arith, (piece_length_form plen good).1)

-- above 16 MiB there is no piece length
pub piece_length_large : (plen : ℕ) → 16777216 < plen → is_piece_length plen ≡ false
unfolding is_piece_length
piece_length_large plen l = rw (lt-leb plen 16777216 l) (and-false (eqb (block_length * 2 ^ piece_layer plen) plen))

-- up to it, the power of two decides
pub piece_length_small : (plen : ℕ) → plen ≤ 16777216 → is_piece_length plen ≡ eqb (block_length * 2 ^ piece_layer plen) plen
unfolding is_piece_length
piece_length_small plen l = rw (le-leb plen 16777216 l) (and-true (eqb (block_length * 2 ^ piece_layer plen) plen))

-- and the layer is at most 10
pub piece_layer_small : (plen : ℕ) → plen ≤ 16777216 → piece_layer plen ≤ 10
unfolding piece_layer
piece_layer_small plen l = height_least (plen / block_length) 10 (omega arith)

-- ---- blocks and pieces

-- a file has a piece only for a piece length that isn't 0, and the piece starts within the file
pub piece_starts : (n plen i : ℕ) → i < piece_count n plen → plen * i < n
unfolding piece_count
piece_starts n zero i h = absurd (omega (arith, ceil_by_zero n))
piece_starts n (suc d) i h = omega (arith, ceil_below n (suc d) i (omega arith) h, mul_comm i (suc d))

-- none is longer than the piece length
pub piece_size_most : (n plen i : ℕ) → piece_size n plen i ≤ plen
unfolding piece_size
piece_size_most n plen i = omega arith

-- past the file a piece is empty
pub piece_size_past : (n plen i : ℕ) → piece_count n plen ≤ i → piece_size n plen i ≡ 0
unfolding piece_count piece_size
piece_size_past n zero i h = omega arith
piece_size_past n (suc d) i h = omega (arith, ceil_enough n (suc d) i (omega arith) h, mul_comm i (suc d))

-- none is longer than 16 KiB
pub block_size_most : (n i : ℕ) → block_size n i ≤ block_length
unfolding block_size
block_size_most n i = omega arith

-- a file that has a byte has a block
pub block_count_some : (n : ℕ) → 1 ≤ n → 1 ≤ block_count n
unfolding block_count ceil_div
block_count_some n h = omega arith

-- block i starts within the file
pub block_starts : (n i : ℕ) → i < block_count n → block_length * i < n
unfolding block_count ceil_div
block_starts n i h = omega arith

-- what isn't one of its blocks starts past it
pub block_past : (n i : ℕ) → block_count n ≤ i → n ≤ block_length * i
unfolding block_count ceil_div
block_past n i h = omega arith

-- a block that starts within the file is one of its blocks
pub block_within : (n i : ℕ) → block_length * i < n → i < block_count n
unfolding block_count ceil_div
block_within n i h = omega arith

-- and any other isn't
pub block_outside : (n i : ℕ) → n ≤ block_length * i → block_count n ≤ i
unfolding block_count ceil_div
block_outside n i h = omega arith

-- the pieces are the positions of the piece layer that aren't padding
pub pieces_covering : (n p : ℕ) → piece_count n (block_length * 2 ^ p) ≡ covering (block_count n) p
unfolding piece_count covering block_count
pieces_covering n p = ap (λ (x : ℕ). ceil_div n x) (mul_comm block_length (2 ^ p)) ∙ sym (ceil_ceil n block_length (2 ^ p) (omega arith) (pow_pos p))

-- a file longer than a piece of 16384·2^p bytes is higher than layer p
pub long_file_height : (n p : ℕ) → block_length * 2 ^ p < n → p < height (block_count n)
long_file_height n p h = by_height (dec_lt p (height (block_count n)))
  where
    by_height : Dec (p < height (block_count n)) → p < height (block_count n)
    by_height (yes l) = l
    by_height (no g) =
        let w : 2 ^ height (block_count n) ≤ 2 ^ p = pow_mono (omega arith) in
        absurd (omega (arith, block_within n (2 ^ p) h, height_enough (block_count n)))

-- and any other isn't
pub short_file_height : (n p : ℕ) → n ≤ block_length * 2 ^ p → height (block_count n) ≤ p
short_file_height n p h = height_least (block_count n) p (block_outside n (2 ^ p) h)

-- ---- node numbers

-- the root is number 1
pub node_number_root : (h : ℕ) → node_number h h 0 ≡ 1
unfolding node_number
node_number_root h = let e : h - h ≡ 0 = omega arith in rw e

-- one layer down there are twice as many positions
pub layer_doubles : (h l : ℕ) → l < h → 2 ^ (h - l) ≡ 2 * 2 ^ (h - suc l)
layer_doubles h l k = let e : h - l ≡ suc (h - suc l) = omega arith in rw e (pow-succ' 2 (h - suc l))

-- the numbers of layer l are those from 2^(h - l) up to twice that
pub node_number_layer : (h l i : ℕ) → i < 2 ^ (h - l) → (2 ^ (h - l) ≤ node_number h l i) × (node_number h l i < 2 * 2 ^ (h - l))
unfolding node_number
node_number_layer h l i b = (omega arith, omega arith)

-- all numbers are from 1 up to 2·2^h
pub node_number_range : (h l i : ℕ) → i < 2 ^ (h - l) → (1 ≤ node_number h l i) × (node_number h l i < 2 * 2 ^ h)
node_number_range h l i b =
    let w = node_number_layer h l i b in
    let g : 2 ^ (h - l) ≤ 2 ^ h = pow_mono (omega arith) in
    (omega (arith, pow_pos (h - l)), omega arith)

-- two positions of one number are one position
pub node_number_distinct : (h l i m j : ℕ) → l ≤ h → m ≤ h → i < 2 ^ (h - l) → j < 2 ^ (h - m) → node_number h l i ≡ node_number h m j → (l ≡ m) × (i ≡ j)
node_number_distinct h l i m j lh mh ib jb e = by_layer (dec_lt l m) (dec_lt m l)
  where
    -- a lower layer has larger numbers
    apart : (l i m j : ℕ) → m ≤ h → l < m → i < 2 ^ (h - l) → j < 2 ^ (h - m) → node_number h m j < node_number h l i
    apart l i m j mh k ib jb =
        let g : 2 ^ suc (h - m) ≤ 2 ^ (h - l) = pow_mono (omega arith) in
        omega (arith, node_number_layer h l i ib, node_number_layer h m j jb, pow-succ' 2 (h - m))

    same_layer : l ≡ m → node_number h m i ≡ node_number h m j → i ≡ j
    same_layer q f = unfold node_number in omega arith

    by_layer : Dec (l < m) → Dec (m < l) → (l ≡ m) × (i ≡ j)
    by_layer (yes k) d = absurd (omega (arith, apart l i m j mh k ib jb))
    by_layer (no k) (yes k2) = absurd (omega (arith, apart m j l i lh k2 jb ib))
    by_layer (no k) (no k2) =
        let q : l ≡ m = omega arith in
        (q, same_layer q (ap (λ (x : ℕ). node_number h x i) (sym q) ∙ e))

-- every number from 1 up to 2·2^h is that of a position
pub node_number_covers : (h n : ℕ) → 1 ≤ n → n < 2 * 2 ^ h → (l : ℕ) × (i : ℕ) × (l ≤ h) × (i < 2 ^ (h - l)) × (n ≡ node_number h l i)
unfolding node_number
node_number_covers zero n a b = (0, n - 1, omega arith, omega arith, omega arith)
node_number_covers (suc h) n a b = by_layer (dec_lt n (2 * 2 ^ h)) (λ c. node_number_covers h n a c)
  where
    by_layer : Dec (n < 2 * 2 ^ h)
        → (n < 2 * 2 ^ h → (l : ℕ) × (i : ℕ) × (l ≤ h) × (i < 2 ^ (h - l)) × (n ≡ 2 ^ (h - l) + i))
        → (l : ℕ) × (i : ℕ) × (l ≤ suc h) × (i < 2 ^ (suc h - l)) × (n ≡ 2 ^ (suc h - l) + i)
    by_layer (yes c) r =
        let w = r c in
        let e : suc h - suc w.0 ≡ h - w.0 = omega arith in
        (suc w.0, w.1, omega arith, rw e w.3, rw e w.4)
    by_layer (no g) r =
        let e : suc h - 0 ≡ suc h = omega arith in
        (0, n - 2 ^ suc h, omega arith, rw e (omega (arith, pow-succ' 2 h)), rw e (omega (arith, pow-succ' 2 h)))

-- the parent of node n is n / 2
pub node_number_parent : (h l i : ℕ) → l < h → node_number h (suc l) (i / 2) ≡ node_number h l i / 2
unfolding node_number
node_number_parent h l i k = omega (arith, layer_doubles h l k)

-- its left child is 2n
pub node_number_left : (h l i : ℕ) → l < h → node_number h l (2 * i) ≡ 2 * node_number h (suc l) i
unfolding node_number
node_number_left h l i k = omega (arith, layer_doubles h l k)

-- and its right one 2n + 1
pub node_number_right : (h l i : ℕ) → l < h → node_number h l (2 * i + 1) ≡ 2 * node_number h (suc l) i + 1
unfolding node_number
node_number_right h l i k = omega (arith, layer_doubles h l k)

-- a power of two as code shifts it
pub shifted_one : (d : ℕ) → d ≤ 63 → (1 * 2 ^ d) % 2 ^ 64 ≡ 2 ^ d
shifted_one d l = shl_exact {a = 1} 1 d 64 (omega arith) (omega arith) ∙ one-mul (2 ^ d)

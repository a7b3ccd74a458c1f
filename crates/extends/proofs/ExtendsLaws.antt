-- What follows from the definitions of Extends: each case of the walk, when it gives a hash, and that it gives the nodes of any file whose
-- nodes over whole blocks are those that the store holds.
-- Assumes nothing.
use Rattle.std.specs.Prelude.{◌≡◌, refl, length, List, ℕ, zero, suc, ◌+◌, ◌-◌, ◌*◌, ◌/◌, ◌^◌, ◌≤◌, ◌<◌}
use Rattle.std.proofs.Math.Path.{ap, ap₂, sym}
use Rattle.std.proofs.Common.{◌∙◌, div-lt_iff_lt-mul, pow_pos, arith, eq-eqb, ne_eqb, lt-ltb, le-ltb, le-leb}
use Rattle.std.proofs.Math.Decide.{dec_lt, dec_le, ℕ_discrete}
use Rattle.std.proofs.lemmas.Bool.{lt-leb}
use Rattle.octets.specs.Octets.{cut}
use Rattle.sha256.specs.Sha256.{sha256, pair_hash}
use Rattle.sha256.specs.declared.Hashed.{Hashed}
use Rattle.tree.specs.Geometry.{block_length, block_count, height, covering, Padding}
use Rattle.tree.proofs.GeometryLaws.{padding_from_covering, covering_until_padding, ceil_below, below_ceil, left_start, right_end}
use Rattle.tree.specs.Values.{node, pad_value, block_of, leaf_of, pieces_root}
use Rattle.tree.proofs.ValuesLaws.{padding_value, leaf_block}
use Rattle.store.specs.Store.{usable, file_length, held_answer}
use Rattle.extends.specs.Asks.{Mixed}
use Rattle.extends.specs.Extends.{whole_blocks, rest_size, known, both, placed, earlier, earlier_root, last_hash, leaf_held, block_held, extends_number, extends_answer}

-- ---- each case

module _ (s : List ℕ) (n : ℕ) (last : List ℕ) where
  pub earlier_whole : (l i : ℕ) → i < whole_blocks n / 2 ^ l → held_answer s l i ≡ earlier s n last l i
  unfolding earlier placed
  earlier_whole zero i h = sym (simp (lt-ltb i (whole_blocks n / 2 ^ 0) h))
  earlier_whole (suc l) i h = sym (simp (lt-ltb i (whole_blocks n / 2 ^ suc l) h))

  pub earlier_past : (l i : ℕ) → whole_blocks n / 2 ^ l ≤ i → covering (block_count n) l ≤ i → known (pad_value l) ≡ earlier s n last l i
  unfolding earlier placed
  earlier_past zero i h g = sym (simp (le-ltb i (whole_blocks n / 2 ^ 0) h, le-leb (covering (block_count n) 0) i g))
  earlier_past (suc l) i h g = sym (simp (le-ltb i (whole_blocks n / 2 ^ suc l) h, le-leb (covering (block_count n) (suc l)) i g))

  pub earlier_last : (l i : ℕ) → whole_blocks n / 2 ^ l ≤ i → i < covering (block_count n) l → l ≡ 0 → known last ≡ earlier s n last l i
  unfolding earlier placed
  earlier_last zero i h g z = sym (simp (le-ltb i (whole_blocks n / 2 ^ 0) h, lt-leb (covering (block_count n) 0) i g))
  earlier_last (suc l) i h g z = absurd (omega arith)

  pub earlier_pair : (l i : ℕ) → whole_blocks n / 2 ^ l ≤ i → i < covering (block_count n) l → (l ≡ 0 → ⊥)
      → both (earlier s n last (l - 1) (2 * i)) (earlier s n last (l - 1) (2 * i + 1)) ≡ earlier s n last l i
  unfolding earlier placed
  earlier_pair zero i h g z = absurd (z refl)
  earlier_pair (suc l) i h g z =
      let e : suc l - 1 ≡ l = omega arith in
      rw e (sym (simp (le-ltb i (whole_blocks n / 2 ^ suc l) h, lt-leb (covering (block_count n) (suc l)) i g)))

-- ---- the hash of two

pub both_known : (x y : Hashed) → x.number ≡ 0 → y.number ≡ 0 → both x y ≡ known (pair_hash x.hash y.hash)
unfolding both
both_known x y a b = simp (eq-eqb x.number 0 a, eq-eqb y.number 0 b)

pub both_right : (x y : Hashed) → x.number ≡ 0 → (y.number ≡ 0 → ⊥) → both x y ≡ y
unfolding both
both_right x y a b = simp (eq-eqb x.number 0 a, ne_eqb y.number 0 b)

pub both_left : (x y : Hashed) → (x.number ≡ 0 → ⊥) → both x y ≡ x
unfolding both
both_left x y a = simp (ne_eqb x.number 0 a)

-- a hash there is only if there are both
pub record Pair (x y : Hashed) : Type 0 where
  pub left : x.number ≡ 0
  pub right : y.number ≡ 0
  pub hash : (both x y).hash ≡ pair_hash x.hash y.hash

pub both_says : (x y : Hashed) → (both x y).number ≡ 0 → Pair x y
both_says x y z =
    elim (ℕ_discrete x.number 0) [
      | yes a ↦ elim (ℕ_discrete y.number 0) [
        | yes b ↦ record { left = a; right = b; hash = ap (λ (r : Hashed). r.hash) (both_known x y a b) }
        | no b ↦ absurd (b (sym (ap (λ (r : Hashed). r.number) (both_right x y a b)) ∙ z))
      ]
      | no a ↦ absurd (a (sym (ap (λ (r : Hashed). r.number) (both_left x y a)) ∙ z))
    ]

-- ---- where a position lies

-- one of the first w / 2^l positions of layer l ends within w blocks
pub whole_ends : (w l i : ℕ) → i < w / 2 ^ l → (i + 1) * 2 ^ l ≤ w
whole_ends w l i h = by (dec_le ((i + 1) * 2 ^ l) w)
  where
    by : Dec ((i + 1) * 2 ^ l ≤ w) → (i + 1) * 2 ^ l ≤ w
    by (yes a) = a
    by (no a) = let g : w / 2 ^ l < i + 1 = (div-lt_iff_lt-mul (pow_pos l)).1 (omega arith) in absurd (omega arith)

-- and only such a one
pub ends_whole : (w l i : ℕ) → (i + 1) * 2 ^ l ≤ w → i < w / 2 ^ l
ends_whole w l i h = by (dec_lt i (w / 2 ^ l))
  where
    by : Dec (i < w / 2 ^ l) → i < w / 2 ^ l
    by (yes a) = a
    by (no a) = let g : w < (i + 1) * 2 ^ l = (div-lt_iff_lt-mul (pow_pos l)).0 (omega arith) in absurd (omega arith)

-- whole blocks are blocks
pub whole_count : (n : ℕ) → whole_blocks n ≤ block_count n
unfolding block_count Rattle.tree.specs.Geometry.ceil_div
whole_count n = omega arith

-- in layer 0 what is neither a whole block nor padding is the shorter one
pub last_block : (n i : ℕ) → whole_blocks n / 2 ^ 0 ≤ i → i < covering (block_count n) 0 → (i ≡ whole_blocks n) × (i < block_count n)
unfolding block_count covering Rattle.tree.specs.Geometry.ceil_div
last_block n i h g = (omega arith, omega arith)

one_more : (n : ℕ) → block_count n ≤ whole_blocks n + 1
unfolding block_count Rattle.tree.specs.Geometry.ceil_div
one_more n = omega arith

module _ (n d i : ℕ) (M : Mixed n (suc d) i) where
  -- its right child is not whole
  right_behind : whole_blocks n / 2 ^ d ≤ 2 * i + 1
  right_behind =
      let a : whole_blocks n < (i + 1) * 2 ^ suc d = (div-lt_iff_lt-mul (pow_pos (suc d))).0 (let b = M.behind in omega arith) in
      let c : whole_blocks n / 2 ^ d < 2 * i + 1 + 1 = (div-lt_iff_lt-mul (pow_pos d)).1 (omega (arith, right_end i d)) in
      omega arith

  -- its left child is not padding
  left_some : 2 * i < covering (block_count n) d
  unfolding covering
  left_some = below_ceil (block_count n) (2 ^ d) (2 * i) (pow_pos d) (omega (arith, left_start i d, ceil_below (block_count n) (2 ^ suc d) i (pow_pos (suc d)) M.some))

  -- and where the left one is not whole the right one is padding
  right_past : whole_blocks n / 2 ^ d ≤ 2 * i → covering (block_count n) d ≤ 2 * i + 1
  unfolding Padding
  right_past h =
      let a : whole_blocks n < (2 * i + 1) * 2 ^ d = (div-lt_iff_lt-mul (pow_pos d)).0 (omega arith) in
      covering_until_padding (block_count n) d (2 * i + 1) (omega (arith, one_more n))

module _ (n l i : ℕ) (M : Mixed n l i) (z : l ≡ 0 → ⊥) where
  down : suc (l - 1) ≡ l
  down = by l z
    where
      by : (l : ℕ) → (l ≡ 0 → ⊥) → suc (l - 1) ≡ l
      by zero z = absurd (z refl)
      by (suc l) z = omega arith

  M' : Mixed n (suc (l - 1)) i
  M' = rw down M

  pub mixed_left : whole_blocks n / 2 ^ (l - 1) ≤ 2 * i → Mixed n (l - 1) (2 * i)
  mixed_left h = record { behind = h; some = left_some n (l - 1) i M' }

  pub mixed_right : 2 * i + 1 < covering (block_count n) (l - 1) → Mixed n (l - 1) (2 * i + 1)
  mixed_right h = record { behind = right_behind n (l - 1) i M'; some = h }

  -- the right child's value where it is padding
  pub past_left : (s last : List ℕ) → whole_blocks n / 2 ^ (l - 1) ≤ 2 * i → known (pad_value (l - 1)) ≡ earlier s n last (l - 1) (2 * i + 1)
  past_left s last h = earlier_past s n last (l - 1) (2 * i + 1) (right_behind n (l - 1) i M') (right_past n (l - 1) i M' h)

  pub past_right : (s last : List ℕ) → covering (block_count n) (l - 1) ≤ 2 * i + 1 → known (pad_value (l - 1)) ≡ earlier s n last (l - 1) (2 * i + 1)
  past_right s last h = earlier_past s n last (l - 1) (2 * i + 1) (right_behind n (l - 1) i M') h

  pub pad_up : pair_hash (pad_value (l - 1)) (pad_value (l - 1)) ≡ pad_value l
  unfolding pad_value
  pad_up = ap pad_value down

-- ---- the nodes that it gives

-- the bytes after a file's whole blocks
abbrev pub last_bytes : List ℕ → List ℕ
last_bytes file = cut file (block_length * whole_blocks (length file)) block_length

-- every hash that the store holds over whole blocks of the file is the file's
abbrev pub HeldOf : List ℕ → List ℕ → Type 0
HeldOf s file = (l i : ℕ) → (i + 1) * 2 ^ l ≤ whole_blocks (length file) → (held_answer s l i).number ≡ 0 → (held_answer s l i).hash ≡ node (leaf_of file) l i

module _ (s file : List ℕ) (H : HeldOf s file) where
  abbrev worked : ℕ → ℕ → Hashed
  worked l i = earlier s (length file) (sha256 (last_bytes file)) l i

  at_whole : (l i : ℕ) → i < whole_blocks (length file) / 2 ^ l → (worked l i).number ≡ 0 → (worked l i).hash ≡ node (leaf_of file) l i
  at_whole l i h z =
      let e = earlier_whole s (length file) (sha256 (last_bytes file)) l i h in
      sym (ap (λ (r : Hashed). r.hash) e) ∙ H l i (whole_ends (whole_blocks (length file)) l i h) (ap (λ (r : Hashed). r.number) e ∙ z)

  at_padding : (l i : ℕ) → whole_blocks (length file) / 2 ^ l ≤ i → covering (block_count (length file)) l ≤ i → (worked l i).hash ≡ node (leaf_of file) l i
  at_padding l i h g =
      sym (ap (λ (r : Hashed). r.hash) (earlier_past s (length file) (sha256 (last_bytes file)) l i h g))
      ∙ sym (padding_value file l i (padding_from_covering (block_count (length file)) l i g))

  at_last : (i : ℕ) → whole_blocks (length file) / 2 ^ 0 ≤ i → i < covering (block_count (length file)) 0 → (worked 0 i).hash ≡ node (leaf_of file) 0 i
  unfolding node block_of
  at_last i h g =
      let b = last_block (length file) i h g in
      sym (ap (λ (r : Hashed). r.hash) (earlier_last s (length file) (sha256 (last_bytes file)) 0 i h g refl))
      ∙ ap (λ (x : ℕ). sha256 (cut file (block_length * x) block_length)) (sym b.0)
      ∙ sym (leaf_block file i b.1)

  at_pair : (l i : ℕ) → whole_blocks (length file) / 2 ^ suc l ≤ i → i < covering (block_count (length file)) (suc l)
      → ((worked l (2 * i)).number ≡ 0 → (worked l (2 * i)).hash ≡ node (leaf_of file) l (2 * i))
      → ((worked l (2 * i + 1)).number ≡ 0 → (worked l (2 * i + 1)).hash ≡ node (leaf_of file) l (2 * i + 1))
      → (worked (suc l) i).number ≡ 0 → (worked (suc l) i).hash ≡ node (leaf_of file) (suc l) i
  unfolding node
  at_pair l i h g L R z =
      let q : suc l - 1 ≡ l = omega arith in
      let e : both (worked l (2 * i)) (worked l (2 * i + 1)) ≡ worked (suc l) i = rw q at (earlier_pair s (length file) (sha256 (last_bytes file)) (suc l) i h g (λ y. omega arith)) in
      let P = both_says (worked l (2 * i)) (worked l (2 * i + 1)) (ap (λ (r : Hashed). r.number) e ∙ z) in
      sym (ap (λ (r : Hashed). r.hash) e) ∙ P.hash ∙ ap₂ (λ (x y : List ℕ). pair_hash x y) (L P.left) (R P.right)

  -- where there is a hash, it is the file's node
  pub earlier_node : (l i : ℕ) → (earlier s (length file) (sha256 (last_bytes file)) l i).number ≡ 0
      → (earlier s (length file) (sha256 (last_bytes file)) l i).hash ≡ node (leaf_of file) l i
  earlier_node zero i z =
      elim (dec_lt i (whole_blocks (length file) / 2 ^ 0)) [
        | yes a ↦ at_whole 0 i a z
        | no a ↦ elim (dec_lt i (covering (block_count (length file)) 0)) [ yes b ↦ at_last i (omega arith) b | no b ↦ at_padding 0 i (omega arith) (omega arith) ]
      ]
  earlier_node (suc l) i z =
      elim (dec_lt i (whole_blocks (length file) / 2 ^ suc l)) [
        | yes a ↦ at_whole (suc l) i a z
        | no a ↦ elim (dec_lt i (covering (block_count (length file)) (suc l))) [
          | yes b ↦ at_pair l i (omega arith) b (earlier_node l (2 * i)) (earlier_node l (2 * i + 1)) z
          | no b ↦ at_padding (suc l) i (omega arith) (omega arith)
        ]
      ]

  -- and the root is the file's
  pub earlier_root_lem : (earlier_root s (length file) (sha256 (last_bytes file))).number ≡ 0 → (earlier_root s (length file) (sha256 (last_bytes file))).hash ≡ pieces_root file
  unfolding earlier_root pieces_root
  earlier_root_lem z = earlier_node (height (block_count (length file))) 0 z

-- ---- what doesn't matter

-- the last block's hash, where the earlier file ends with a block
module _ (s : List ℕ) (n : ℕ) (x y : List ℕ) (r : rest_size n ≡ 0) where
  no_last : (i : ℕ) → whole_blocks n / 2 ^ 0 ≤ i → i < covering (block_count n) 0 → ⊥
  unfolding block_count covering Rattle.tree.specs.Geometry.ceil_div
  no_last i h g = omega (arith, r)

  last_up : (l i : ℕ) → earlier s n x l (2 * i) ≡ earlier s n y l (2 * i) → earlier s n x l (2 * i + 1) ≡ earlier s n y l (2 * i + 1)
      → earlier s n x (suc l) i ≡ earlier s n y (suc l) i
  unfolding earlier
  last_up l i a b = ap₂ (λ (u v : Hashed). placed s n (suc l) i (both u v)) a b

  last_unused : (l i : ℕ) → earlier s n x l i ≡ earlier s n y l i
  last_unused zero i =
      elim (dec_lt i (whole_blocks n / 2 ^ 0)) [
        | yes a ↦ sym (earlier_whole s n x 0 i a) ∙ earlier_whole s n y 0 i a
        | no a ↦ elim (dec_lt i (covering (block_count n) 0)) [
          | yes b ↦ absurd (no_last i (omega arith) b)
          | no b ↦ sym (earlier_past s n x 0 i (omega arith) (omega arith)) ∙ earlier_past s n y 0 i (omega arith) (omega arith)
        ]
      ]
  last_unused (suc l) i = last_up l i (last_unused l (2 * i)) (last_unused l (2 * i + 1))

  pub root_unused : earlier_root s n x ≡ earlier_root s n y
  unfolding earlier_root
  root_unused = last_unused (height (block_count n)) 0

-- all of the store but its facts and what kd_held gives of it
module _ (s t : List ℕ) (u : usable t ≡ usable s) (f : file_length t ≡ file_length s) (g : (l i : ℕ) → held_answer t l i ≡ held_answer s l i) where
  earlier_alike : (n : ℕ) (last : List ℕ) (l i : ℕ) → earlier t n last l i ≡ earlier s n last l i
  unfolding earlier placed
  earlier_alike n last zero i = rw (g 0 i)
  earlier_alike n last (suc l) i = rw (g (suc l) i, earlier_alike n last l (2 * i), earlier_alike n last l (2 * i + 1))

  number_alike : (n : ℕ) (root block : List ℕ) → extends_number t n root block ≡ extends_number s n root block
  unfolding extends_number earlier_root leaf_held block_held
  number_alike n root block = rw (u, f, g 0 (whole_blocks n), earlier_alike n (last_hash n block) (height (block_count n)) 0)

  pub extends_alike : (n : ℕ) (root block : List ℕ) → extends_answer t n root block ≡ extends_answer s n root block
  unfolding extends_answer
  extends_alike n root block = rw (number_alike n root block)

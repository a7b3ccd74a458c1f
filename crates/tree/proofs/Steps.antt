-- What the code's turns and returns give, over plain variables: one law for each.
-- Assumes nothing.
use Rattle.std.specs.Prelude.{◌≡◌, refl, List, ℕ, ◌+◌, ◌-◌, ◌*◌, ◌/◌, ◌%◌, ◌^◌, ◌≤◌, ◌<◌, min, length, take, drop, replicate}
use Rattle.std.proofs.Common.{ap, sym, ◌∙◌, add-one, arith, shl_exact}
use Rattle.octets.specs.Octets.{cut, zero_hash}
use Rattle.octets.specs.OctetsLaws.{cut_short}
use Rattle.sha256.specs.Sha256.{sha256, pair_hash}
use Rattle.tree.specs.Geometry.{block_length, ceil_div, block_count, height, block_size}
use Rattle.tree.proofs.GeometryLaws.{height_halves, height_least}
use Rattle.tree.specs.Values.{pad_value, block_of, leaf_of}
use Rattle.tree.proofs.ValuesLaws.{leaf_block, leaf_padding}

-- ---- height

-- one turn of halving, rounding up, raises the height found so far by one
pub height_turn : (b c h : ℕ) → height b ≡ h + height c → 1 < c → height b ≡ h + 1 + height (c / 2 + c % 2)
height_turn b c h e l =
    let s : ceil_div c 2 ≡ c / 2 + c % 2 = unfold ceil_div in omega arith in
    omega (arith, height_halves c l, ap height s)

-- at 1 there is nothing left to count
pub height_done : (b c h : ℕ) → height b ≡ h + height c → c ≤ 1 → h ≡ height b
height_done b c h e l = omega (arith, height_least c 0 l)

-- ---- shifts that lose nothing

pub shifted_block : (d : ℕ) → d ≤ 10 → (16384 * 2 ^ d) % 18446744073709551616 ≡ 16384 * 2 ^ d
shifted_block d l = shl_exact {a = 16384} 15 d 64 (omega arith) (omega arith)

-- ---- pad_value

pub pad_first : ◌≡◌ {A = List ℕ} (replicate 32 0) (pad_value 0)
unfolding pad_value zero_hash
pad_first = refl

pub pad_next : (v w : List ℕ) (i : ℕ) → v ≡ pad_value i → w ≡ pair_hash v v → w ≡ pad_value (i + 1)
unfolding pad_value
pad_next v w i e f = rw add-one (f ∙ ap (λ (x : List ℕ). pair_hash x x) e)

-- ---- leaf_of

-- the part that is lent to the hash is the block
pub leaf_hashed : (file h : List ℕ) (i s : ℕ) → i < block_count (length file) → s ≡ block_size (length file) i
    → h ≡ sha256 (take (block_length * i + s - block_length * i) (drop (block_length * i) file)) → h ≡ leaf_of file i
unfolding block_size block_of cut
leaf_hashed file h i s l e f =
    let q : block_length * i + s - block_length * i ≡ min block_length (length file - block_length * i) = omega arith in
    f ∙ ap (λ (n : ℕ). sha256 (take n (drop (block_length * i) file))) q
    ∙ ap sha256 (cut_short file (block_length * i) block_length)
    ∙ sym (leaf_block file i l)

pub leaf_past : (file h : List ℕ) (i : ℕ) → block_count (length file) ≤ i → h ≡ pad_value 0 → h ≡ leaf_of file i
leaf_past file h i l e = e ∙ sym (leaf_padding file i l)

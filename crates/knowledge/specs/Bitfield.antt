-- The bitfield's bit of a piece is set exactly if all blocks that the piece covers are marked.
-- Assumes nothing.
use Rattle.std.specs.Prelude.{◌≡◌, Bool, true, false, List, ◌↔◌, ℕ, zero, suc, ◌+◌, ◌-◌, ◌*◌, ◌/◌, ◌%◌, ◌≤◌, ◌<◌, min}
use Rattle.std.proofs.Math.Path.{refl, ap}
use Rattle.std.proofs.Common.{sym, ◌∙◌, mul_assoc, le-ltb, lt-ltb, arith}
use Rattle.tree.specs.Geometry.{block_length, piece_count}
use Rattle.tree.proofs.GeometryLaws.{below_ceil, piece_length_form}
use Rattle.cells.specs.Entries.{one_if}
use Rattle.store.specs.Store.{file_length, piece_length, blocks_of, Facts}
use Rattle.marks.specs.Marks.{marked_at, each_piece, first_block, blocks_in, all_marked, piece_marked, field_bits, field_bytes, field_size}
use Rattle.marks.specs.MarksLaws.{all_marked_each, all_marked_says, field_byte_at, one_small}
use Rattle.words.specs.Marks.{Covers, bit_of, piece_bit}

-- the bit of piece a + k among those from a on, with n more behind it
field_bit : (s : List ℕ) (a k n : ℕ) → bit_of n (field_bits s a (suc k + n)) ≡ one_if (piece_marked s (a + k))
unfolding field_bits
field_bit s a k zero =
    let e : suc k + 0 ≡ suc k = omega arith in
    let w = one_small (piece_marked s (a + k)) in
    let v : (field_bits s a k * 2 + one_if (piece_marked s (a + k))) % 2 ≡ one_if (piece_marked s (a + k)) = omega arith in
    ap (λ (x : ℕ). field_bits s a x % 2) e ∙ v
field_bit s a k (suc n) =
    let e : suc k + suc n ≡ suc (suc k + n) = omega arith in
    let w = one_small (piece_marked s (a + (suc k + n))) in
    let v : (field_bits s a (suc k + n) * 2 + one_if (piece_marked s (a + (suc k + n)))) / 2 ≡ field_bits s a (suc k + n) = omega arith in
    ap (λ (x : ℕ). bit_of n (field_bits s a x / 2)) e ∙ ap (bit_of n) v ∙ field_bit s a k n

pub one_true : (b : Bool) → one_if b ≡ 1 → b ≡ true
one_true true e = refl
one_true false e = let w : ⊥ = omega (arith, e) in absurd w

times_out : (p e i : ℕ) → p ≡ block_length * e → p * i ≡ block_length * (e * i)
times_out p e i q = ap (λ (x : ℕ). x * i) q ∙ mul_assoc block_length e i

-- the bit of piece i in a bitfield that has its byte
pub bit_at : (s : List ℕ) (i : ℕ) → i / 8 < field_size s → piece_bit (field_bytes s (field_size s)) i ≡ one_if (piece_marked s i)
bit_at s i l =
    let e : suc (i % 8) + (7 - i % 8) ≡ 8 = omega arith in
    let q : 8 * (i / 8) + i % 8 ≡ i = omega arith in
    ap (bit_of (7 - i % 8)) (field_byte_at s (field_size s) (i / 8) l ∙ ap (field_bits s (8 * (i / 8))) (sym e))
    ∙ field_bit s (8 * (i / 8)) (i % 8) (7 - i % 8)
    ∙ ap (λ (k : ℕ). one_if (piece_marked s k)) q

-- past the file's pieces it is zero
pub spare_unmarked : (s : List ℕ) (i : ℕ) → piece_count (file_length s) (piece_length s) ≤ i → one_if (piece_marked s i) ≡ 0
unfolding piece_marked
spare_unmarked s i l = rw (le-ltb i (piece_count (file_length s) (piece_length s)) l)

module _ (s : List ℕ) (f : Facts s) (i : ℕ) (b : i < piece_count (file_length s) (piece_length s)) where
  -- a piece of the file has its byte
  pub byte_there : i / 8 < field_size s
  unfolding field_size
  byte_there = below_ceil (piece_count (file_length s) (piece_length s)) 8 (i / 8) (omega arith) (omega arith)

  bit_is : piece_bit (field_bytes s (field_size s)) i ≡ one_if (piece_marked s i)
  bit_is = bit_at s i byte_there

  length_is : piece_length s ≡ block_length * each_piece s
  unfolding each_piece
  length_is = (piece_length_form (piece_length s) f.piece).1

  start_is : piece_length s * i ≡ block_length * first_block s i
  unfolding first_block
  start_is = times_out (piece_length s) (each_piece s) i length_is

  end_is : piece_length s * (i + 1) ≡ block_length * (first_block s i + each_piece s)
  unfolding first_block
  end_is =
      let e : each_piece s * (i + 1) ≡ each_piece s * i + each_piece s = omega arith in
      times_out (piece_length s) (each_piece s) (i + 1) length_is ∙ ap (λ (x : ℕ). block_length * x) e

  blocks_are : blocks_in s i ≡ min (each_piece s) (blocks_of s - first_block s i)
  unfolding first_block blocks_in
  blocks_are = refl

  -- the blocks from its first on are those that it covers
  pub covered_in : (j : ℕ) → first_block s i ≤ j → j < first_block s i + blocks_in s i → Covers s i j
  covered_in j a c =
      record { inside = omega (arith, blocks_are); from = omega (arith, start_is); upto = omega (arith, end_is, blocks_are) }

  pub in_covered : (j : ℕ) → Covers s i j → (first_block s i ≤ j) × (j < first_block s i + blocks_in s i)
  in_covered j c =
      (omega (arith, start_is, c.from), omega (arith, start_is, end_is, blocks_are, c.inside, c.from, c.upto))

  pub all_of_piece : piece_marked s i ≡ all_marked s (first_block s i) (blocks_in s i)
  unfolding piece_marked
  all_of_piece = rw (lt-ltb i (piece_count (file_length s) (piece_length s)) b)

  -- THE BIT OF A PIECE is set exactly if all blocks that the piece covers are marked
  pub bit_exactly : (piece_bit (field_bytes s (field_size s)) i ≡ 1) ↔ ((j : ℕ) → Covers s i j → marked_at s j ≡ true)
  bit_exactly = (
    λ e j c.
        let w = in_covered j c in
        all_marked_says s (first_block s i) (blocks_in s i) (sym all_of_piece ∙ one_true (piece_marked s i) (sym bit_is ∙ e)) j w.0 w.1,
    λ g. bit_is ∙ ap one_if (all_of_piece ∙ all_marked_each s (first_block s i) (blocks_in s i) (λ j a c. g j (covered_in j a c))),
  )

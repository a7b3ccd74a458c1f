-- Bytes behind the store decide nothing about its marks: two memories that agree up to its size have the same marks and bitfield, and the
-- same marks written into both leave the same store.
-- Assumes nothing.
use Rattle.std.specs.Prelude.{◌≡◌, Bool, ◌&&◌, List, length, replicate, ℕ, zero, suc, ◌+◌, ◌-◌, ◌*◌, ◌^◌, ◌≤◌, ◌<◌, min}
use Rattle.std.proofs.Math.Path.{refl, ap, ap₂}
use Rattle.std.proofs.Common.{sym, ◌∙◌, arith, ltb-true, ne_eqb}
use Rattle.std.proofs.Math.Bool.{true, false}
use Rattle.std.proofs.Math.Decide.{ℕ_discrete, dec_lt}
use Rattle.std.proofs.Math.ListN.{get_or, length-replicate}
use Rattle.std.proofs.Math.Dec.{ltb}
use Rattle.octets.specs.Octets.{cut, pasted}
use Rattle.octets.specs.OctetsLaws.{get_or_pasted_before, get_or_pasted_in, get_or_pasted_after}
use Rattle.tree.specs.Geometry.{piece_layer, piece_count, ceil_div}
use Rattle.store.specs.Store.{file_length, piece_length, height_of, store_size, Facts}
use Rattle.store.specs.StoreLaws.{facts_usable, used_same, used_facts, byte_same}
use Rattle.marks.specs.Marks.{marks_start, marked_at, marks_put, block_there, marked_answer, each_piece, first_block, blocks_in, all_marked, piece_marked, field_bits, field_bytes, field_size, field_answer, field_after}
use Rattle.marks.specs.MarksLaws.{same_mark, same_start, marks_end, mark_in, there_fits, covered_fits}

-- the same row written at the same place of two lists
row_same : (s t : List ℕ) (at : ℕ) (h : List ℕ) → at + length h ≤ length s → at + length h ≤ length t → (j : ℕ) → get_or t j 0 ≡ get_or s j 0
    → get_or (pasted t at h) j 0 ≡ get_or (pasted s at h) j 0
row_same s t at h ls lt j e =
    elim (dec_lt j at) [
      | yes a ↦ get_or_pasted_before t at h lt j a ∙ e ∙ sym (get_or_pasted_before s at h ls j a)
      | no a ↦
          elim (dec_lt j (at + length h)) [
            | yes b ↦
                let q : at + (j - at) ≡ j = omega arith in
                rw (← q) (get_or_pasted_in t at h lt (j - at) (omega arith) ∙ sym (get_or_pasted_in s at h ls (j - at) (omega arith)))
            | no b ↦ get_or_pasted_after t at h lt j (omega arith) ∙ e ∙ sym (get_or_pasted_after s at h ls j (omega arith))
          ]
    ]

module _ (s t : List ℕ) (f : Facts s) (e : cut t 0 (store_size (file_length s)) ≡ cut s 0 (store_size (file_length s))) where
  start_used : marks_start t ≡ marks_start s
  start_used = same_start (used_same s t f e)

  -- a block is there in both or in neither
  pub there_beyond : (i : ℕ) → block_there t i ≡ block_there s i
  unfolding block_there
  there_beyond i = rw (facts_usable t (used_facts s t f e), facts_usable s f, (used_same s t f e).blocks)

  -- a mark is the same in both,
  pub mark_used : (i : ℕ) → i < 2 ^ height_of s → marked_at t i ≡ marked_at s i
  mark_used i l = same_mark s t (used_same s t f e) i (byte_same s t f e (marks_start s + i) (omega (arith, marks_end s)))

  -- and so is the answer about it,
  pub marked_beyond : (i : ℕ) → marked_answer t i ≡ marked_answer s i
  unfolding marked_answer
  marked_beyond i =
      elim (ℕ_discrete (block_there s i) 0) [
        | yes z ↦ rw (there_beyond i, z, mark_used i (there_fits s i z))
        | no ne ↦ rw (there_beyond i, ne_eqb (block_there s i) 0 ne)
      ]

  each_used : each_piece t ≡ each_piece s
  unfolding each_piece
  each_used = ap (λ (p : ℕ). 2 ^ piece_layer p) (used_same s t f e).piece

  first_used : (i : ℕ) → first_block t i ≡ first_block s i
  unfolding first_block
  first_used i = ap (λ (k : ℕ). k * i) each_used

  blocks_used : (i : ℕ) → blocks_in t i ≡ blocks_in s i
  unfolding blocks_in
  blocks_used i = ap₂ (λ (k b : ℕ). min k (b - k * i)) each_used (used_same s t f e).blocks

  all_used : (i n : ℕ) → i + n ≤ 2 ^ height_of s → all_marked t i n ≡ all_marked s i n
  unfolding all_marked
  all_used i zero l = refl
  all_used i (suc n) l = rw (all_used i n (omega arith), mark_used (i + n) (omega arith))

  count_used : piece_count (file_length t) (piece_length t) ≡ piece_count (file_length s) (piece_length s)
  count_used = ap₂ piece_count (used_same s t f e).file (used_same s t f e).piece

  piece_used : (i : ℕ) → piece_marked t i ≡ piece_marked s i
  unfolding piece_marked
  piece_used i = rw (count_used, first_used i, blocks_used i) (by (ltb i (piece_count (file_length s) (piece_length s))) refl)
    where
      by : (b : Bool) → ltb i (piece_count (file_length s) (piece_length s)) ≡ b
          → (ltb i (piece_count (file_length s) (piece_length s)) && all_marked t (first_block s i) (blocks_in s i))
          ≡ (ltb i (piece_count (file_length s) (piece_length s)) && all_marked s (first_block s i) (blocks_in s i))
      by false x = rw x
      by true x = rw (all_used (first_block s i) (blocks_in s i) (covered_fits s f i (ltb-true i (piece_count (file_length s) (piece_length s)) x)))

  bits_used : (i n : ℕ) → field_bits t i n ≡ field_bits s i n
  unfolding field_bits
  bits_used i zero = refl
  bits_used i (suc n) = rw (bits_used i n, piece_used (i + n))

  bytes_used : (n : ℕ) → field_bytes t n ≡ field_bytes s n
  unfolding field_bytes
  bytes_used zero = refl
  bytes_used (suc n) = rw (bytes_used n, bits_used (8 * n) 8)

  size_used : field_size t ≡ field_size s
  unfolding field_size
  size_used = ap (λ (k : ℕ). ceil_div k 8) count_used

  -- and the bitfield is the same
  pub field_beyond : (out : List ℕ) → (field_answer t out ≡ field_answer s out) × (field_after t out ≡ field_after s out)
  unfolding field_answer field_after
  field_beyond out =
      (rw (facts_usable t (used_facts s t f e), facts_usable s f, size_used), rw (facts_usable t (used_facts s t f e), facts_usable s f, size_used, bytes_used (field_size s)))

  -- the blocks of a piece are the same
  pub covered_beyond : (i : ℕ) → (first_block t i ≡ first_block s i) × (blocks_in t i ≡ blocks_in s i)
  covered_beyond i = (first_used i, blocks_used i)

  -- the same marks written leave the same bytes
  pub marks_beyond : (i n x : ℕ) → i + n ≤ 2 ^ height_of s → (j : ℕ) → j < store_size (file_length s) → get_or (marks_put t i n x) j 0 ≡ get_or (marks_put s i n x) j 0
  unfolding marks_put
  marks_beyond i n x l j b =
      let r = length-replicate {A = ℕ} n x in
      let h : 2 ^ height_of t ≡ 2 ^ height_of s = ap (λ (k : ℕ). 2 ^ k) (used_same s t f e).layers in
      let at = mark_in t (used_facts s t f e) in
      ap (λ (k : ℕ). get_or (pasted t (k + i) (replicate n x)) j 0) start_used
      ∙ row_same s t (marks_start s + i) (replicate n x) (omega (arith, mark_in s f)) (omega (arith, start_used)) j (byte_same s t f e j b)

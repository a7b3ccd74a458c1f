-- What kd_clear, kd_marked and kd_bitfield answer, each number exactly when; and what kd_bitfield leaves in its output.
-- Assumes nothing.
use Rattle.std.specs.Prelude.{◌≡◌, refl, Bool, true, false, List, ◌↔◌, ℕ, ◌+◌, ◌-◌, ◌*◌, ◌/◌, ◌%◌, ◌≤◌, ◌<◌, length, get_or}
use Rattle.std.proofs.Common.{ap, sym, ◌∙◌, arith, le-ltb, ltb-false, le-leb, leb-true, leb-false}
use Rattle.std.proofs.Math.Decide.{dec_le}
use Rattle.std.proofs.lemmas.Bool.{lt-leb}
use Rattle.octets.specs.Octets.{pasted}
use Rattle.octets.specs.OctetsLaws.{get_or_pasted_in, get_or_pasted_after, pasted_length}
use Rattle.numbers.specs.Numbers.{refused, done, rule_broken, unusable, no_room}
use Rattle.numbers.specs.Chain.{exactly_of}
use Rattle.numbers.specs.declared.Answer.{Answer}
use Rattle.tree.specs.Geometry.{piece_count}
use Rattle.store.specs.Store.{usable, file_length, piece_length, blocks_of}
use Rattle.store.specs.StoreLaws.{usable_facts}
use Rattle.marks.specs.Marks.{block_there, marked_answer, field_bytes, field_size, field_answer, field_after}
use Rattle.marks.specs.MarksLaws.{field_done, field_length, field_short, field_unusable, there_inside, there_says}
use Rattle.words.specs.Marks.{Covers, bit_of, piece_bit}
use Rattle.numbers.specs.Tests.{through}
use Rattle.knowledge.specs.NumberChains.{there_chain, there_tests, field_chain, field_tests}
use Rattle.knowledge.specs.Bitfield.{bit_at, bit_exactly, spare_unmarked}
use Rattle.knowledge.specs.MarksSince.{marked_says}

-- ---- a block, for kd_clear and kd_marked

module _ (s : List ℕ) (i : ℕ) where
  -- 9 EXACTLY WHEN the store is unusable
  pub there_9 : (block_there s i ≡ unusable) ↔ (usable s ≡ false)
  there_9 = exactly_of (there_chain s i) unusable (there_tests s i) refl

  -- 3 EXACTLY WHEN it is usable and the file has no such block
  pub there_3 : (block_there s i ≡ rule_broken) ↔ ((usable s ≡ true) × (blocks_of s ≤ i))
  there_3 = through (exactly_of (there_chain s i) rule_broken (there_tests s i) refl) (λ u. (ltb-false i (blocks_of s), le-ltb i (blocks_of s)))

  -- 0 EXACTLY WHEN it has
  pub there_0 : (block_there s i ≡ 0) ↔ ((usable s ≡ true) × (i < blocks_of s))
  there_0 = (there_says s i, λ w. sym (there_inside s i w.0 w.1))

-- ---- a bitfield

module _ (s out : List ℕ) where
  given : usable s ≡ true → field_size s ≤ length out → (field_answer s out ≡ done (field_size s)) × (field_after s out ≡ pasted out 0 (field_bytes s (field_size s)))
  given u l = let w = field_done s out u l in (sym w.0, sym w.1)

  short : usable s ≡ true → length out < field_size s → (field_answer s out ≡ refused no_room) × (field_after s out ≡ out)
  short u l = let w = field_short s out u l in (sym w.0, sym w.1)

  none : usable s ≡ false → (field_answer s out ≡ refused unusable) × (field_after s out ≡ out)
  none u = let w = field_unusable s out u in (sym w.0, sym w.1)

  num : {a b : Answer} → a ≡ b → a.number ≡ b.number
  num e = ap (λ (a : Answer). a.number) e

  -- 9 EXACTLY WHEN the store is unusable
  pub field_9 : ((field_answer s out).number ≡ unusable) ↔ (usable s ≡ false)
  field_9 = exactly_of (field_chain s out) unusable (field_tests s out) refl

  -- 11 EXACTLY WHEN it is usable and the output is shorter than the bitfield
  pub field_11 : ((field_answer s out).number ≡ no_room) ↔ ((usable s ≡ true) × (length out < field_size s))
  field_11 = through (exactly_of (field_chain s out) no_room (field_tests s out) refl) (λ u. (leb-false (field_size s) (length out), lt-leb (field_size s) (length out)))

  -- 0 EXACTLY WHEN it is usable and has the room
  pub field_0 : ((field_answer s out).number ≡ 0) ↔ ((usable s ≡ true) × (field_size s ≤ length out))
  field_0 =
      through (exactly_of (field_chain s out) 0 (field_tests s out) refl) (λ u. (λ t. leb-true (field_size s) (length out) t.0, λ l. (le-leb (field_size s) (length out) l, refl)))

  -- a refusal leaves every byte of the output
  pub field_refused : ((field_answer s out).number ≡ 0 → ⊥) → field_after s out ≡ out
  field_refused ne = by (usable s) refl
    where
      by : (b : Bool) → usable s ≡ b → field_after s out ≡ out
      by false u = (none u).1
      by true u =
          elim (dec_le (field_size s) (length out)) [
            | yes l ↦ absurd (ne (num (given u l).0))
            | no l ↦ (short u (omega arith)).1
          ]

  module _ (z : (field_answer s out).number ≡ 0) where
    u : usable s ≡ true
    u = (field_0.0 z).0

    room : field_size s ≤ length out
    room = (field_0.0 z).1

    fits : 0 + length (field_bytes s (field_size s)) ≤ length out
    fits = omega (arith, field_length s (field_size s), room)

    -- the count is the bitfield's size,
    pub field_counts : (field_answer s out).count ≡ field_size s
    field_counts = ap (λ (a : Answer). a.count) (given u room).0

    -- the bytes behind it stay,
    pub field_behind : (k : ℕ) → field_size s ≤ k → get_or (field_after s out) k 0 ≡ get_or out k 0
    field_behind k l = rw (given u room).1 (get_or_pasted_after out 0 (field_bytes s (field_size s)) fits k (omega (arith, field_length s (field_size s))))

    -- and so does the length
    pub field_same_length : length (field_after s out) ≡ length out
    field_same_length = rw (given u room).1 (pasted_length out 0 (field_bytes s (field_size s)) fits)

    left_bit : (i : ℕ) → i / 8 < field_size s → piece_bit (field_after s out) i ≡ piece_bit (field_bytes s (field_size s)) i
    left_bit i l =
        let e : 0 + i / 8 ≡ i / 8 = omega arith in
        ap (bit_of (7 - i % 8))
        (rw (given u room).1
        (ap (λ (k : ℕ). get_or (pasted out 0 (field_bytes s (field_size s))) k 0) (sym e)
        ∙ get_or_pasted_in out 0 (field_bytes s (field_size s)) fits (i / 8) (omega (arith, field_length s (field_size s)))))

    -- THE BIT OF A PIECE is set exactly if kd_marked answers 1 for every block that the piece covers
    pub bit_answered : (i : ℕ) → i < piece_count (file_length s) (piece_length s) → (piece_bit (field_after s out) i ≡ 1) ↔ ((j : ℕ) → Covers s i j → marked_answer s j ≡ done 1)
    bit_answered i b =
        let f = usable_facts s u in
        let w = bit_exactly s f i b in
        let e = left_bit i (Rattle.knowledge.specs.Bitfield.byte_there s f i b) in (
          λ x j c. (marked_says s f j).1 (c.inside, w.0 (sym e ∙ x) j c),
          λ g. e ∙ w.1 (λ j c. ((marked_says s f j).0 (g j c)).1),
        )

    -- a bit past the file's pieces is zero
    pub spare_zero : (i : ℕ) → piece_count (file_length s) (piece_length s) ≤ i → i < 8 * field_size s → piece_bit (field_after s out) i ≡ 0
    spare_zero i a l = let k : i / 8 < field_size s = omega arith in left_bit i k ∙ bit_at s i k ∙ spare_unmarked s i a

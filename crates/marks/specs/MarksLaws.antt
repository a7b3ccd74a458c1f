-- What follows from the definitions of Marks: a mark's write changes no cell and no fact, which blocks are marked after it, which blocks
-- a piece covers, and what each byte of a bitfield is.
-- Assumes nothing.
use Rattle.std.specs.Prelude.{◌≡◌, List, [], ◌∷◌, ◌++◌, Bool, ◌&&◌, ◌⊎◌, ℕ, zero, suc, ◌+◌, ◌-◌, ◌*◌, ◌^◌, ◌≤◌, ◌<◌, length, get_or, replicate}
use Rattle.std.proofs.Math.Path.{refl, ap, sym}
use Rattle.std.proofs.Common.{◌∙◌, inl, inr, length-append, get_or-append-add, pow_pos, pow_mono, arith, lt-ltb, le-ltb, le-leb, ltb-true}
use Rattle.std.proofs.Math.Bool.{true, false, and-eq-true_iff}
use Rattle.std.proofs.Math.Decide.{ℕ_discrete}
use Rattle.std.proofs.Math.ListN.{length-replicate, get_or-replicate, get_or-append}
use Rattle.std.proofs.Math.Dec.{eqb, ltb}
use Rattle.std.proofs.lemmas.Bool.{lt-leb}
use Rattle.octets.specs.Octets.{cut, pasted}
use Rattle.octets.specs.OctetsLaws.{cut_pasted_other, get_or_pasted_in, get_or_pasted_before, get_or_pasted_after, pasted_length}
use Rattle.numbers.specs.Numbers.{refused, done, rule_broken, unusable, no_room}
use Rattle.tree.specs.Geometry.{covering, piece_layer, piece_count}
use Rattle.tree.proofs.GeometryLaws.{ceil_least, covering_most, ceil_below, piece_length_form, pieces_covering}
use Rattle.cells.specs.Entries.{one_if}
use Rattle.limits.specs.Limits.{tallest_tree}
use Rattle.store.specs.Store.{usable, file_length, piece_length, blocks_of, height_of, positions, store_size, Facts, SameFacts, fact_bytes}
use Rattle.store.specs.StoreLaws.{facts_blocks_most, facts_height, facts_leaves, facts_positions, facts_same, own_marks, positions_some, same_facts, usable_facts}
use Rattle.marks.specs.Marks.{marks_start, marked_at, marks_put, block_there, each_piece, first_block, blocks_in, all_marked, piece_marked, field_bits, field_bytes, field_size, field_answer, field_after}

-- ---- where the marks stand

-- a mark for each leaf, up to the store's size
pub marks_end : (s : List ℕ) → marks_start s + 2 ^ height_of s ≡ store_size (file_length s)
unfolding marks_start
marks_end s = own_marks s

-- behind the facts and the root's cell
pub marks_start_some : (s : List ℕ) → 97 ≤ marks_start s
unfolding marks_start
marks_start_some s = omega (arith, positions_some (height_of s))

-- every mark stands in the store
pub mark_in : (s : List ℕ) → Facts s → marks_start s + 2 ^ height_of s ≤ length s
mark_in s f = omega (arith, marks_end s, f.size)

-- and none stands far behind
pub marks_small : (s : List ℕ) → Facts s → marks_start s + 2 ^ height_of s ≤ 31 + 67 * 2 ^ tallest_tree
unfolding marks_start
marks_small s f =
    let w : 2 ^ height_of s ≤ 2 ^ tallest_tree = pow_mono {i = height_of s} {j = tallest_tree} (facts_height s f) in
    omega (arith, facts_positions s f)

-- they stand where the facts say,
pub same_start : {s t : List ℕ} → SameFacts s t → marks_start t ≡ marks_start s
unfolding marks_start
same_start e = ap (λ (h : ℕ). 31 + 33 * positions h) e.layers

-- so with the same facts the same byte is the same mark
pub same_mark : (s t : List ℕ) → SameFacts s t → (j : ℕ) → get_or t (marks_start s + j) 0 ≡ get_or s (marks_start s + j) 0 → marked_at t j ≡ marked_at s j
unfolding marked_at
same_mark s t e j b = ap (λ (k : ℕ). eqb (get_or t (k + j) 0) 1) (same_start e) ∙ ap (λ (x : ℕ). eqb x 1) b

-- ---- marks are written

module _ (s : List ℕ) (f : Facts s) (i n x : ℕ) (fits : i + n ≤ 2 ^ height_of s) where
  row_fits : marks_start s + i + length (replicate n x) ≤ length s
  row_fits = omega (arith, mark_in s f, length-replicate {A = ℕ} n x)

  -- the length stays
  pub marks_length : length (marks_put s i n x) ≡ length s
  unfolding marks_put
  marks_length = pasted_length s (marks_start s + i) (replicate n x) row_fits

  -- so does every byte before the marks,
  pub marks_before : (j : ℕ) → j < marks_start s + i → get_or (marks_put s i n x) j 0 ≡ get_or s j 0
  unfolding marks_put
  marks_before j l = get_or_pasted_before s (marks_start s + i) (replicate n x) row_fits j l

  -- and every byte behind those written
  pub marks_behind : (j : ℕ) → marks_start s + i + n ≤ j → get_or (marks_put s i n x) j 0 ≡ get_or s j 0
  unfolding marks_put
  marks_behind j l = get_or_pasted_after s (marks_start s + i) (replicate n x) row_fits j (omega (arith, length-replicate {A = ℕ} n x))

  -- all cells stay
  pub marks_cells : cut (marks_put s i n x) 0 (marks_start s) ≡ cut s 0 (marks_start s)
  unfolding marks_put
  marks_cells = cut_pasted_other s (marks_start s + i) (replicate n x) row_fits 0 (marks_start s) (omega (arith, row_fits)) (inl (omega arith))

  -- and the facts
  pub marks_fact_bytes : fact_bytes (marks_put s i n x) ≡ fact_bytes s
  unfolding marks_put
  marks_fact_bytes = cut_pasted_other s (marks_start s + i) (replicate n x) row_fits 0 64 (omega (arith, f.long)) (inl (omega (arith, marks_start_some s)))

  pub marks_same_facts : SameFacts s (marks_put s i n x)
  marks_same_facts = same_facts s (marks_put s i n x) marks_fact_bytes

  pub marks_facts : Facts (marks_put s i n x)
  marks_facts = facts_same s (marks_put s i n x) marks_fact_bytes f (omega (arith, marks_length, f.size))

  byte_in : (k : ℕ) → k < n → get_or (marks_put s i n x) (marks_start s + i + k) 0 ≡ x
  unfolding marks_put
  byte_in k l =
      get_or_pasted_in s (marks_start s + i) (replicate n x) row_fits k (omega (arith, length-replicate {A = ℕ} n x)) ∙ get_or-replicate {A = ℕ} n k x 0 l

  byte_out : (j : ℕ) → (j < i) ⊎ (i + n ≤ j) → get_or (marks_put s i n x) (marks_start s + j) 0 ≡ get_or s (marks_start s + j) 0
  byte_out j (inl a) = marks_before (marks_start s + j) (omega arith)
  byte_out j (inr a) = marks_behind (marks_start s + j) (omega arith)

  -- a block whose mark is written has it
  pub marked_in : (j : ℕ) → i ≤ j → j < i + n → marked_at (marks_put s i n x) j ≡ eqb x 1
  unfolding marked_at
  marked_in j a b =
      let e : marks_start s + j ≡ marks_start s + i + (j - i) = omega arith in
      ap (λ (k : ℕ). eqb (get_or (marks_put s i n x) (k + j) 0) 1) (same_start marks_same_facts)
      ∙ ap (λ (k : ℕ). eqb (get_or (marks_put s i n x) k 0) 1) e
      ∙ ap (λ (k : ℕ). eqb k 1) (byte_in (j - i) (omega arith))

  -- every other keeps its own
  pub marked_out : (j : ℕ) → (j < i) ⊎ (i + n ≤ j) → marked_at (marks_put s i n x) j ≡ marked_at s j
  marked_out j w = same_mark s (marks_put s i n x) marks_same_facts j (byte_out j w)

-- ---- a block of the file

module _ (s : List ℕ) (i : ℕ) where
  pub there_unusable : usable s ≡ false → unusable ≡ block_there s i
  unfolding block_there
  there_unusable a = sym (rw a)

  pub there_outside : usable s ≡ true → blocks_of s ≤ i → rule_broken ≡ block_there s i
  unfolding block_there
  there_outside a b = sym (rw (a, le-ltb i (blocks_of s) b))

  pub there_inside : usable s ≡ true → i < blocks_of s → 0 ≡ block_there s i
  unfolding block_there
  there_inside a b = sym (rw (a, lt-ltb i (blocks_of s) b))

  -- 0 says that the store is usable and the file has the block
  pub there_says : block_there s i ≡ 0 → (usable s ≡ true) × (i < blocks_of s)
  unfolding block_there
  there_says z = by (usable s) (ltb i (blocks_of s)) refl refl
    where
      by : (a b : Bool) → usable s ≡ a → ltb i (blocks_of s) ≡ b → (usable s ≡ true) × (i < blocks_of s)
      by true true p q = (p, ltb-true i (blocks_of s) q)
      by true false p q = let w : rule_broken ≡ 0 = sym (rw (p, q)) ∙ z in absurd (omega (arith, w))
      by false b p q = let w : unusable ≡ 0 = sym (rw p) ∙ z in absurd (omega (arith, w))

  -- the file's blocks have marks
  pub there_fits : block_there s i ≡ 0 → i < 2 ^ height_of s
  there_fits z = omega (arith, (there_says z).1, facts_leaves s (usable_facts s (there_says z).0))

-- ---- the blocks of a piece

covered_below : (b l i : ℕ) → i < covering b l → i * 2 ^ l < b
unfolding covering
covered_below b l i c = ceil_below b (2 ^ l) i (pow_pos l) c

-- the pieces are as many as the positions of layer p that cover blocks
pub pieces_are : (s : List ℕ) → Facts s → piece_count (file_length s) (piece_length s) ≡ covering (blocks_of s) (piece_layer (piece_length s))
unfolding blocks_of
pieces_are s f = ap (piece_count (file_length s)) (piece_length_form (piece_length s) f.piece).1 ∙ pieces_covering (file_length s) (piece_layer (piece_length s))

module _ (s : List ℕ) (f : Facts s) (i : ℕ) (b : i < piece_count (file_length s) (piece_length s)) where
  -- its first block is one of the file's
  pub first_inside : first_block s i < blocks_of s
  unfolding first_block each_piece
  first_inside =
      let c : i < covering (blocks_of s) (piece_layer (piece_length s)) = omega (arith, pieces_are s f) in
      omega (arith, covered_below (blocks_of s) (piece_layer (piece_length s)) i c)

  -- and all that it covers
  pub covered_inside : first_block s i + blocks_in s i ≤ blocks_of s
  covered_inside = by first_inside
    where
      by : first_block s i < blocks_of s → first_block s i + blocks_in s i ≤ blocks_of s
      by l = unfold first_block blocks_in in omega arith

  -- so they have marks
  pub covered_fits : first_block s i + blocks_in s i ≤ 2 ^ height_of s
  covered_fits = omega (arith, covered_inside, facts_leaves s f)

-- ---- all of some blocks are marked

-- one that isn't is enough to say no
pub all_marked_not : (s : List ℕ) (i n j : ℕ) → j < n → marked_at s (i + j) ≡ false → all_marked s i n ≡ false
unfolding all_marked
all_marked_not s i zero j l e = absurd (omega arith)
all_marked_not s i (suc n) j l e =
    elim (ℕ_discrete j n) [
      | yes q ↦ rw (← q) (rw e (never (all_marked s i j)))
      | no ne ↦ rw (all_marked_not s i n j (omega arith) e)
    ]
  where
    never : (b : Bool) → (b && false) ≡ false
    never true = refl
    never false = refl

-- and one more that is keeps yes
pub all_marked_more : (s : List ℕ) (i n : ℕ) → all_marked s i n ≡ true → marked_at s (i + n) ≡ true → all_marked s i (n + 1) ≡ true
all_marked_more s i n a b = let e : n + 1 ≡ suc n = omega arith in ap (all_marked s i) e ∙ (unfold all_marked in rw (a, b))

-- what it says: each of them is marked
pub all_marked_says : (s : List ℕ) (i n : ℕ) → all_marked s i n ≡ true → (j : ℕ) → i ≤ j → j < i + n → marked_at s j ≡ true
unfolding all_marked
all_marked_says s i zero t j a b = absurd (omega arith)
all_marked_says s i (suc n) t j a b =
    let w = (and-eq-true_iff (all_marked s i n) (marked_at s (i + n))).0 t in
    elim (ℕ_discrete j (i + n)) [
      | yes q ↦ ap (marked_at s) q ∙ w.1
      | no ne ↦ all_marked_says s i n w.0 j a (omega arith)
    ]

pub all_marked_each : (s : List ℕ) (i n : ℕ) → ((j : ℕ) → i ≤ j → j < i + n → marked_at s j ≡ true) → all_marked s i n ≡ true
unfolding all_marked
all_marked_each s i zero g = refl
all_marked_each s i (suc n) g = rw (all_marked_each s i n (λ j a b. g j a (omega arith)), g (i + n) (omega arith) (omega arith))

-- ---- the bitfield

-- a bit is 0 or 1
pub one_small : (b : Bool) → one_if b ≤ 1
one_small true = omega arith
one_small false = omega arith

-- behind n bits comes that of piece i + n
pub field_bits_more : (s : List ℕ) (i n : ℕ) → field_bits s i n * 2 + one_if (piece_marked s (i + n)) ≡ field_bits s i (n + 1)
field_bits_more s i n = let e : n + 1 ≡ suc n = omega arith in sym (ap (field_bits s i) e ∙ (unfold field_bits in refl))

-- n bits write a number below 2^n
pub field_bits_small : (s : List ℕ) (i n : ℕ) → field_bits s i n < 2 ^ n
unfolding field_bits
field_bits_small s i zero = omega arith
field_bits_small s i (suc n) = omega (arith, field_bits_small s i n, one_small (piece_marked s (i + n)))

pub field_length : (s : List ℕ) (n : ℕ) → length (field_bytes s n) ≡ n
unfolding field_bytes
field_length s zero = refl
field_length s (suc n) = omega (arith, field_length s n, length-append (field_bytes s n) (field_bits s (8 * n) 8 ∷ []))

-- byte j has the bits of the eight pieces from 8·j on
pub field_byte_at : (s : List ℕ) (n j : ℕ) → j < n → get_or (field_bytes s n) j 0 ≡ field_bits s (8 * j) 8
unfolding field_bytes
field_byte_at s zero j l = absurd (omega arith)
field_byte_at s (suc n) j l =
    elim (ℕ_discrete j n) [
      | yes q ↦
          let z : j ≡ length (field_bytes s n) + 0 = omega (arith, field_length s n) in
          ap (λ (k : ℕ). get_or (field_bytes s n ++ (field_bits s (8 * n) 8 ∷ [])) k 0) z
          ∙ get_or-append-add (field_bytes s n) (field_bits s (8 * n) 8 ∷ []) 0 0
          ∙ ap (λ (k : ℕ). field_bits s (8 * k) 8) (sym q)
      | no ne ↦ get_or-append (field_bytes s n) (field_bits s (8 * n) 8 ∷ []) 0 j (omega (arith, field_length s n)) ∙ field_byte_at s n j (omega arith)
    ]

-- no bitfield has more bytes than the tallest tree has leaves
pub field_size_most : (s : List ℕ) → Facts s → field_size s ≤ 2 ^ tallest_tree
unfolding field_size
field_size_most s f =
    let c = covering_most (blocks_of s) (piece_layer (piece_length s)) in
    omega (arith, ceil_least (piece_count (file_length s) (piece_length s)) 8 (piece_count (file_length s) (piece_length s)) (omega arith) (omega arith), pieces_are s f, facts_blocks_most s f)

module _ (s out : List ℕ) where
  pub field_unusable : usable s ≡ false → (refused unusable ≡ field_answer s out) × (out ≡ field_after s out)
  unfolding field_answer field_after
  field_unusable a = (sym (rw a), sym (rw a))

  pub field_short : usable s ≡ true → length out < field_size s → (refused no_room ≡ field_answer s out) × (out ≡ field_after s out)
  unfolding field_answer field_after
  field_short a b = (sym (rw (a, lt-leb (field_size s) (length out) b)), sym (rw (a, lt-leb (field_size s) (length out) b)))

  pub field_done : usable s ≡ true → field_size s ≤ length out → (done (field_size s) ≡ field_answer s out) × (pasted out 0 (field_bytes s (field_size s)) ≡ field_after s out)
  unfolding field_answer field_after
  field_done a b = (sym (rw (a, le-leb (field_size s) (length out) b)), sym (rw (a, le-leb (field_size s) (length out) b)))

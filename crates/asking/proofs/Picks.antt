-- What the functions of the picking ask for and answer.
-- Assumes nothing.
use Rattle.std.proofs.Math.Decide.{dec_le}
use Rattle.std.proofs.Common.{add-mul, one-mul, mul_comm, mul-le-mul_right, pow-add, pow_mono, pow_pos, ap, sym, ◌∙◌, arith, eq-eqb, ne_eqb, lt-ltb}
use Rattle.std.specs.Prelude.{◌≡◌, Bool, true, false, List, ℕ, ◌+◌, ◌-◌, ◌*◌, ◌^◌, ◌≤◌, ◌<◌, length, get_or, ltb}
use Rattle.limits.specs.Limits.{tallest_tree}
use Rattle.numbers.specs.Numbers.{wrong_size, unusable}
use Rattle.tree.specs.Geometry.{piece_count, piece_size, piece_layer, covering}
use Rattle.tree.proofs.GeometryLaws.{ceil_least, covering_within}
use Rattle.store.specs.Store.{usable, file_length, piece_length, blocks_of, height_of, Facts}
use Rattle.store.specs.StoreLaws.{facts_blocks_most, facts_leaves}
use Rattle.marks.specs.Marks.{each_piece, first_block, blocks_in, all_marked, piece_marked}
use Rattle.marks.specs.MarksLaws.{first_inside, pieces_are}
use Rattle.asking.specs.declared.pick.Choice.{Choice}
use Rattle.asking.specs.Picking.{before, no_piece, best_of, pick_answer}

-- ---- a piece

module _ (s : List ℕ) (f : Facts s) (each blocks i : ℕ) (e : each ≡ each_piece s) (b : blocks ≡ blocks_of s) (l : i < piece_count (file_length s) (piece_length s)) where
  first_is : each * i ≡ first_block s i
  unfolding first_block
  first_is = ap (λ (k : ℕ). k * i) e

  -- its first block is one of the file's
  pub first_small : each * i < 2 ^ tallest_tree
  first_small = omega (arith, first_is, first_inside s f i l, facts_blocks_most s f)

  -- as many blocks as a piece may cover, and as the file has, have marks from there on
  pub covered : (n : ℕ) → n ≤ each → n ≤ blocks → each * i + n ≤ 2 ^ height_of s
  unfolding covering each_piece height_of
  covered n x y = by (dec_le a h)
    where
      a : ℕ
      a = piece_layer (piece_length s)

      h : ℕ
      h = height_of s

      few : i < covering (blocks_of s) a
      few = omega (arith, pieces_are s f)

      leaves : blocks_of s ≤ 2 ^ h
      leaves = facts_leaves s f

      by : Dec (a ≤ h) → each * i + n ≤ 2 ^ h
      by (yes q) =
          let m : covering (blocks_of s) a ≤ 2 ^ (h - a) = covering_within (blocks_of s) a q in
          let p : 2 ^ (h - a) * 2 ^ a ≡ 2 ^ h = sym (pow-add 2 (h - a) a) ∙ ap (λ (k : ℕ). 2 ^ k) (omega arith) in
          let o : (i + 1) * 2 ^ a ≤ 2 ^ (h - a) * 2 ^ a = mul-le-mul_right (2 ^ a) (omega (arith, few, m)) in
          let d : (i + 1) * 2 ^ a ≡ i * 2 ^ a + 2 ^ a = add-mul i 1 (2 ^ a) ∙ ap (λ (k : ℕ). i * 2 ^ a + k) (one-mul (2 ^ a)) in
          let g : each * i ≡ i * 2 ^ a = ap (λ (k : ℕ). k * i) e ∙ mul_comm (2 ^ a) i in
          omega (arith, e)
      by (no q) =
          let o : covering (blocks_of s) a ≤ 1 = ceil_least (blocks_of s) (2 ^ a) 1 (pow_pos a) (omega (arith, one-mul (2 ^ a), leaves, pow_mono {i = h} {j = a} (omega (arith, q)))) in
          let z : i ≡ 0 = omega (arith, few, o) in
          rw z (omega (arith, b, y, leaves))

  module _ (n : ℕ) (w : n ≡ piece_size blocks each i) where
    in_is : n ≡ blocks_in s i
    unfolding blocks_in piece_size
    in_is = rw (← e, ← b) w

    pub piece_is : (r : Bool) → r ≡ all_marked s (each * i) n → r ≡ piece_marked s i
    unfolding piece_marked
    piece_is r q = q ∙ rw (first_is, in_is, lt-ltb i (piece_count (file_length s) (piece_length s)) l)

-- ---- the choice

pub before_none : (counts : List ℕ) (x : ℕ) (best : Choice) → best.found ≡ 0 → true ≡ before counts x best
unfolding before
before_none counts x best e = rw e

pub before_some : (counts : List ℕ) (x : ℕ) (best : Choice) → (best.found ≡ 0 → ⊥) → ltb x (get_or counts best.piece 0) ≡ before counts x best
unfolding before
before_some counts x best e = rw (ne_eqb best.found 0 e)

-- ---- the whole answer

pub pick_9 : (s counts : List ℕ) (r : Choice) → usable s ≡ false → r ≡ no_piece unusable → r ≡ pick_answer s counts
unfolding pick_answer
pick_9 s counts r e q = q ∙ sym (rw e)

pub counted : (s : List ℕ) (c n plen : ℕ) → n ≡ file_length s → plen ≡ piece_length s → c ≡ piece_count n plen → c ≡ piece_count (file_length s) (piece_length s)
counted s c n plen a b d = d ∙ rw (a, b)

module _ (s counts : List ℕ) (c n plen : ℕ) (u : usable s ≡ true) (a : n ≡ file_length s) (b : plen ≡ piece_length s) (d : c ≡ piece_count n plen) where
  pub pick_4 : (r : Choice) → (length counts ≡ c → ⊥) → r ≡ no_piece wrong_size → r ≡ pick_answer s counts
  unfolding pick_answer
  pick_4 r ne q = q ∙ sym (rw (u, ne_eqb (length counts) (piece_count (file_length s) (piece_length s)) (λ z. ne (z ∙ sym (counted s c n plen a b d)))))

  pub pick_0 : (r : Choice) → length counts ≡ c → r ≡ best_of s counts (length counts) → r ≡ pick_answer s counts
  unfolding pick_answer
  pick_0 r e q = q ∙ sym (rw (u, eq-eqb (length counts) (piece_count (file_length s) (piece_length s)) (e ∙ counted s c n plen a b d)))

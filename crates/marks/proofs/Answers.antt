-- What each function answers, from what its callees ensure and the tests it took.
-- Assumes nothing.
use Rattle.std.specs.Prelude.{◌≡◌, List, Bool, true, false, ℕ, ◌+◌, ◌*◌, ◌%◌, ◌^◌, ◌≤◌, ◌<◌, length, take, drop, get_or, set, replicate, eqb}
use Rattle.std.proofs.Common.{refl, ap, ap₂, sym, ◌∙◌, add-one, zero-add, length-take-le, length-drop, arith, pow_mono, eq-eqb, ne_eqb, le-ltb, lt-ltb}
use Rattle.std.proofs.Math.Seq.{paste, paste-suc}
use Rattle.std.proofs.lemmas.Slice.{put_mid-paste}
use borrow.Rule.Slice.PartMut.{put_mid}
use Rattle.std.proofs.lemmas.List.{length-replicate}
use Rattle.octets.specs.Octets.{pasted}
use Rattle.octets.proofs.Turn.{whole}
use Rattle.numbers.specs.Numbers.{refused, done}
use Rattle.numbers.specs.declared.Answer.{Answer}
use Rattle.tree.specs.Geometry.{ceil_div, piece_layer, piece_count, piece_size}
use Rattle.tree.proofs.GeometryLaws.{piece_length_form, shifted_one}
use Rattle.cells.specs.Entries.{one_if}
use Rattle.store.specs.Store.{usable, file_length, piece_length, blocks_of, Facts}
use Rattle.marks.specs.Marks.{marks_start, marked_at, marks_put, cleared, block_there, clear_answer, clear_after, marked_answer, each_piece, first_block, blocks_in, all_marked, piece_marked, field_bits, field_bytes, field_size, field_answer, field_after}
use Rattle.marks.specs.MarksLaws.{field_bits_more, field_bits_small, field_byte_at, field_done, field_length}

-- ---- a row of bytes written

-- one turn of a loop that writes the bytes of a list
pub row_turn : (d d' : List ℕ) (at : ℕ) (l : List ℕ) (j x : ℕ) → d' ≡ paste d at l j → at + j < length d → j < length l → x ≡ get_or l j 0
    → set d' (at + j) x ≡ paste d at l (j + 1)
row_turn d d' at l j x e a b q = rw (e, q, add-one) (paste-suc d at l j 0 a b)

-- n bytes of the store from `at` on that became x
pub part_filled : (s t : List ℕ) (at k n x : ℕ) → k ≡ n → at + n ≤ length s → t ≡ replicate (length (take k (drop at s))) x → put_mid at k s t ≡ pasted s at (replicate n x)
part_filled s t at k n x e l q =
    let w : length (take k (drop at s)) ≡ n = length-take-le k (drop at s) (omega (arith, length-drop at s)) ∙ e in
    whole s (put_mid at k s t) at (replicate n x) n n (put_mid-paste at k s t (replicate n x) n (q ∙ ap (λ (m : ℕ). replicate m x) w) (sym e) (sym (length-replicate n x))) (length-replicate n x) refl

-- ---- a mark

pub put_by : (s t : List ℕ) (start i n x : ℕ) → start ≡ marks_start s → t ≡ pasted s (start + i) (replicate n x) → t ≡ marks_put s i n x
unfolding marks_put
put_by s t start i n x e q = q ∙ ap (λ (k : ℕ). pasted s (k + i) (replicate n x)) e

pub marked_by : (s : List ℕ) (start i : ℕ) → start ≡ marks_start s → eqb (get_or s (start + i) 0) 1 ≡ marked_at s i
unfolding marked_at
marked_by s start i e = ap (λ (k : ℕ). eqb (get_or s (k + i) 0) 1) e

-- a byte of the marks that is 1, and one that is not
pub marked_one : (s : List ℕ) (start i j : ℕ) → start ≡ marks_start s → get_or s (start + i + j) 0 ≡ 1 → marked_at s (i + j) ≡ true
marked_one s start i j e q =
    let z : start + (i + j) ≡ start + i + j = omega arith in
    sym (marked_by s start (i + j) e) ∙ eq-eqb (get_or s (start + (i + j)) 0) 1 (ap (λ (k : ℕ). get_or s k 0) z ∙ q)

pub marked_none : (s : List ℕ) (start i j : ℕ) → start ≡ marks_start s → (get_or s (start + i + j) 0 ≡ 1 → ⊥) → marked_at s (i + j) ≡ false
marked_none s start i j e q =
    let z : start + (i + j) ≡ start + i + j = omega arith in
    sym (marked_by s start (i + j) e) ∙ ne_eqb (get_or s (start + (i + j)) 0) 1 (λ w. q (ap (λ (k : ℕ). get_or s k 0) (sym z) ∙ w))

module _ (s : List ℕ) (i d : ℕ) (e : d ≡ block_there s i) where
  pub clear_done : d ≡ 0 → (t : List ℕ) → t ≡ marks_put s i 1 cleared → (r : Answer) → r ≡ done 0 → (r ≡ clear_answer s i) × (t ≡ clear_after s i)
  unfolding clear_answer clear_after
  clear_done z t w r q =
      let k : block_there s i ≡ 0 = sym e ∙ z in
      (q ∙ sym (rw k), w ∙ sym (rw k))

  pub clear_refused : (d ≡ 0 → ⊥) → (r : Answer) → r ≡ refused d → (r ≡ clear_answer s i) × (s ≡ clear_after s i)
  unfolding clear_answer clear_after
  clear_refused z r q =
      (q ∙ ap (λ (x : ℕ). record { number = x; count = 0 }) e, sym (rw (ne_eqb (block_there s i) 0 (λ w. z (e ∙ w)))))

  pub marked_done : d ≡ 0 → (b : Bool) → marked_at s i ≡ b → (r : Answer) → r ≡ done (one_if b) → r ≡ marked_answer s i
  unfolding marked_answer
  marked_done z b m r q =
      let k : block_there s i ≡ 0 = sym e ∙ z in
      q ∙ sym (rw (k, m))

  pub marked_refused : (d ≡ 0 → ⊥) → (r : Answer) → r ≡ refused d → r ≡ marked_answer s i
  unfolding marked_answer
  marked_refused z r q = q ∙ ap (λ (x : ℕ). record { number = x; count = 0 }) e ∙ sym (rw (ne_eqb (block_there s i) 0 (λ w. z (e ∙ w))))

-- ---- a piece's blocks

module _ (s : List ℕ) (f : Facts s) (plen p : ℕ) (e : plen ≡ piece_length s) (q : p ≡ piece_layer plen) where
  pub each_low : p ≤ 10
  each_low = omega (arith, q ∙ ap piece_layer e, (piece_length_form (piece_length s) f.piece).0)

  pub each_by : (1 * 2 ^ p) % 18446744073709551616 ≡ each_piece s
  unfolding each_piece
  each_by = shifted_one p (omega (arith, each_low)) ∙ ap (λ (k : ℕ). 2 ^ k) (q ∙ ap piece_layer e)

pub first_by : (s : List ℕ) (each i : ℕ) → each ≡ each_piece s → each * i ≡ first_block s i
unfolding first_block
first_by s each i e = ap (λ (k : ℕ). k * i) e

pub blocks_by : (s : List ℕ) (each b i r : ℕ) → each ≡ each_piece s → b ≡ blocks_of s → r ≡ piece_size b each i → r ≡ blocks_in s i
unfolding blocks_in piece_size
blocks_by s each b i r e q w = rw (← e, ← q) w

pub counted : (s : List ℕ) (c n plen : ℕ) → n ≡ file_length s → plen ≡ piece_length s → c ≡ piece_count n plen → c ≡ piece_count (file_length s) (piece_length s)
counted s c n plen e q w = w ∙ ap₂ piece_count e q

-- ---- a bit, a byte

pub bit_past : (s : List ℕ) (i : ℕ) → piece_count (file_length s) (piece_length s) ≤ i → 0 ≡ one_if (piece_marked s i)
unfolding piece_marked
bit_past s i l = sym (rw (le-ltb i (piece_count (file_length s) (piece_length s)) l))

pub bit_by : (s : List ℕ) (i k n : ℕ) (all b : Bool) → i < piece_count (file_length s) (piece_length s) → k ≡ first_block s i → n ≡ blocks_in s i → all ≡ all_marked s k n → all ≡ b
    → one_if b ≡ one_if (piece_marked s i)
unfolding piece_marked
bit_by s i k n all b l e q w v =
    let u : all_marked s (first_block s i) (blocks_in s i) ≡ b = ap₂ (all_marked s) (sym e) (sym q) ∙ sym w ∙ v in
    sym (rw (lt-ltb i (piece_count (file_length s) (piece_length s)) l, u))

pub bits_turn : (s : List ℕ) (p i x v : ℕ) → x ≡ field_bits s p i → v ≡ one_if (piece_marked s (p + i)) → x * 2 + v ≡ field_bits s p (i + 1)
bits_turn s p i x v e q = ap₂ (λ (a b : ℕ). a * 2 + b) e q ∙ field_bits_more s p i

-- seven bits and one more are a byte
pub bits_low : (s : List ℕ) (p i x : ℕ) → x ≡ field_bits s p i → i < 8 → x ≤ 127
bits_low s p i x e l =
    let w : 2 ^ i ≤ 2 ^ 7 = pow_mono {i = i} {j = 7} (omega arith) in
    omega (arith, field_bits_small s p i)

-- ---- the bytes of a bitfield

pub field_turn : (s d d' : List ℕ) (n j x : ℕ) → d' ≡ paste d 0 (field_bytes s n) j → j < n → n ≤ length d → x ≡ field_bits s (8 * j) 8
    → set d' j x ≡ paste d 0 (field_bytes s n) (j + 1)
field_turn s d d' n j x e l k q =
    ap (λ (i : ℕ). set d' i x) (sym (zero-add j))
    ∙ row_turn d d' 0 (field_bytes s n) j x e (omega arith) (omega (arith, field_length s n)) (q ∙ sym (field_byte_at s n j l))

pub field_sized : (s : List ℕ) (c n plen z : ℕ) → n ≡ file_length s → plen ≡ piece_length s → c ≡ piece_count n plen → z ≡ ceil_div c 8 → z ≡ field_size s
unfolding field_size
field_sized s c n plen z e q w v = v ∙ ap (λ (k : ℕ). ceil_div k 8) (counted s c n plen e q w)

pub field_given : (s out t : List ℕ) (z : ℕ) → usable s ≡ true → z ≡ field_size s → z ≤ length out → t ≡ pasted out 0 (field_bytes s z) → (r : Answer) → r ≡ done z
    → (r ≡ field_answer s out) × (t ≡ field_after s out)
field_given s out t z u e l w r q =
    let d = field_done s out u (omega (arith, e)) in
    (q ∙ ap done e ∙ d.0, w ∙ ap (λ (k : ℕ). pasted out 0 (field_bytes s k)) e ∙ d.1)

-- WHAT IS WRITTEN IS READ: the bytes of an ordered value have the form, and say that value.
-- Assumes nothing.
use Rattle.std.specs.Prelude.{◌≡◌, true, ◌&&◌, ℕ, suc, ◌+◌, ◌-◌, ◌*◌, ◌^◌, ◌≤◌, ◌<◌, take, leb, ltb, List, [], ◌∷◌, ◌++◌}
use Rattle.std.proofs.Math.Path.{refl, ap, ap₂, sym}
use Rattle.std.proofs.Common.{◌∙◌, get_or-append-add, pow_mono, append_assoc, append-nil, arith, eq-eqb, le-leb, lt-ltb}
use Rattle.std.proofs.Math.Bool.{and-eq-true_iff}
use Rattle.std.proofs.Math.ListN.{length, get_or, length-append}
use Rattle.std.proofs.Math.Seq.{take-append_seam}
use Rattle.std.proofs.Math.Dec.{eqb}
use Rattle.limits.specs.Limits.{tallest_tree}
use Rattle.octets.specs.Octets.{cut, be, number_at}
use Rattle.octets.specs.OctetsLaws.{number_behind, cut_behind, be_size, number_first}
use Rattle.tree.specs.Geometry.{block_count, height}
use Rattle.store.specs.Store.{in_tree}
use Rattle.saved.specs.Form.{Place, Saved, opening_bytes, place_bytes, mark_bytes, end_bytes, places_bytes, marks_bytes, saved_bytes, rank, Rising, none, more, RisingBlocks, Ordered, length_in, piece_length_in, root_in, blocks_in, height_in, mark_count, place_count, layer_in, index_in, hash_in, block_in, rank_in, opens, sized, next_rank, place_good, places_good, next_block, mark_good, marks_good, marks_from, formed, place_in, places_to, marks_to, value_in}
use Rattle.saved.proofs.RankLaws.{rank_after}

-- ---- numbers among other bytes

byte_behind : (a b : List ℕ) (at i : ℕ) → at ≡ length a + i → get_or (a ++ b) at 0 ≡ get_or b i 0
byte_behind a b at i e = ap (λ (z : ℕ). get_or (a ++ b) z 0) e ∙ get_or-append-add a b i 0

cut_front : (a b : List ℕ) (n : ℕ) → length a ≡ n → cut (a ++ b) 0 n ≡ a
unfolding cut
cut_front a b n e = ap (λ (k : ℕ). take k (a ++ b)) (sym e) ∙ take-append_seam a b

-- one byte, then others
number_one : (x : ℕ) (b : List ℕ) (at i k : ℕ) → at ≡ 1 + i → number_at (x ∷ b) at k ≡ number_at b i k
number_one x b at i k e = number_behind (x ∷ []) b at i k e

cut_one_behind : (x : ℕ) (b : List ℕ) (at i k : ℕ) → at ≡ 1 + i → cut (x ∷ b) at k ≡ cut b i k
cut_one_behind x b at i k e = cut_behind (x ∷ []) b at i k e

-- ---- one record of a position

module _ (A Z : List ℕ) (j : ℕ) (x : Place) (size : length A ≡ 45 + 41 * j) (hash : length x.hash ≡ 32) (low : x.layer < 256 ^ 4) (inside : x.index < 256 ^ 4) where
  abbrev whole : List ℕ
  whole = A ++ (place_bytes x ++ Z)

  place_size : length (place_bytes x) ≡ 41
  unfolding place_bytes
  place_size = simp length-append (omega (arith, be_size 4 x.layer, be_size 4 x.index))

  spread : place_bytes x ++ Z ≡ 2 ∷ (be 4 x.layer ++ (be 4 x.index ++ (x.hash ++ Z)))
  unfolding place_bytes
  spread =
      ap (λ (l : List ℕ). 2 ∷ l)
      (append_assoc (be 4 x.layer) (be 4 x.index ++ x.hash) Z ∙ ap (λ (l : List ℕ). be 4 x.layer ++ l) (append_assoc (be 4 x.index) x.hash Z))

  read_kind : get_or whole (45 + 41 * j) 0 ≡ 2
  read_kind = byte_behind A (place_bytes x ++ Z) (45 + 41 * j) 0 (omega arith) ∙ ap (λ (l : List ℕ). get_or l 0 0) spread

  read_layer : layer_in whole j ≡ x.layer
  unfolding layer_in
  read_layer =
      number_behind A (place_bytes x ++ Z) (46 + 41 * j) 1 4 (omega arith)
      ∙ ap (λ (l : List ℕ). number_at l 1 4) spread
      ∙ number_one 2 (be 4 x.layer ++ (be 4 x.index ++ (x.hash ++ Z))) 1 0 4 (omega arith)
      ∙ number_first 4 x.layer (be 4 x.index ++ (x.hash ++ Z)) low

  read_index : index_in whole j ≡ x.index
  unfolding index_in
  read_index =
      number_behind A (place_bytes x ++ Z) (50 + 41 * j) 5 4 (omega arith)
      ∙ ap (λ (l : List ℕ). number_at l 5 4) spread
      ∙ number_one 2 (be 4 x.layer ++ (be 4 x.index ++ (x.hash ++ Z))) 5 4 4 (omega arith)
      ∙ number_behind (be 4 x.layer) (be 4 x.index ++ (x.hash ++ Z)) 4 0 4 (omega (arith, be_size 4 x.layer))
      ∙ number_first 4 x.index (x.hash ++ Z) inside

  read_hash : hash_in whole j ≡ x.hash
  unfolding hash_in
  read_hash =
      cut_behind A (place_bytes x ++ Z) (54 + 41 * j) 9 32 (omega arith)
      ∙ ap (λ (l : List ℕ). cut l 9 32) spread
      ∙ cut_one_behind 2 (be 4 x.layer ++ (be 4 x.index ++ (x.hash ++ Z))) 9 8 32 (omega arith)
      ∙ cut_behind (be 4 x.layer) (be 4 x.index ++ (x.hash ++ Z)) 8 4 32 (omega (arith, be_size 4 x.layer))
      ∙ cut_behind (be 4 x.index) (x.hash ++ Z) 4 0 32 (omega (arith, be_size 4 x.index))
      ∙ cut_front x.hash Z 32 hash

-- ---- all of them

-- the bytes from the j-th position on are those of L and then Z
record From (b : List ℕ) (j : ℕ) (L : List Place) (Z : List ℕ) : Type 0 where
  A : List ℕ
  size : length A ≡ 45 + 41 * j
  bytes : b ≡ A ++ (places_bytes L ++ Z)

cons_bytes : (x : Place) (L : List Place) → places_bytes (x ∷ L) ≡ place_bytes x ++ places_bytes L
unfolding places_bytes
cons_bytes x L = refl

places_next : (b : List ℕ) (k : ℕ) → places_to b (suc k) ≡ places_to b k ++ (place_in b k ∷ [])
unfolding places_to
places_next b k = refl

good_next : (h : ℕ) (b : List ℕ) (k : ℕ) → places_good h b k ≡ true → place_good h b k ≡ true → places_good h b (suc k) ≡ true
unfolding places_good
good_next h b k x y = (and-eq-true_iff (places_good h b k) (place_good h b k)).1 (x, y)

place_from : (h : ℕ) (b : List ℕ) (k : ℕ) (x : Place) → get_or b (45 + 41 * k) 0 ≡ 2 → layer_in b k ≡ x.layer → index_in b k ≡ x.index → x.layer ≤ h → x.index < 2 ^ (h - x.layer)
    → next_rank h b k ≤ rank h x.layer x.index → place_good h b k ≡ true
unfolding place_good in_tree
place_from h b k x e l i lh ib r =
    let t : (leb (layer_in b k) h && ltb (index_in b k) (2 ^ (h - layer_in b k))) ≡ true = rw (l, i) ((and-eq-true_iff (leb x.layer h) (ltb x.index (2 ^ (h - x.layer)))).1 (le-leb x.layer h lh, lt-ltb x.index (2 ^ (h - x.layer)) ib)) in
    let w : leb (next_rank h b k) (rank_in h b k) ≡ true = le-leb (next_rank h b k) (rank_in h b k) (rw (l, i) r) in
    rw (e, t, w)

places_read : (h : ℕ) (b : List ℕ) → h ≤ tallest_tree → (L : List Place) (j : ℕ) (Z : List ℕ) (r : ℕ) → From b j L Z → Rising h r L → next_rank h b j ≤ r → places_good h b j ≡ true
    → (places_good h b (j + length L) ≡ true) × (places_to b (j + length L) ≡ places_to b j ++ L)
places_read h b h20 [] j Z r F none le g =
    let e : j + 0 ≡ j = omega arith in
    rw e (g, sym (append-nil (places_to b j)))
places_read h b h20 (x ∷ L) j Z r F (more lh ib o lr R) le g =
    let A = F.A in
    let w : 2 ^ (h - x.layer) ≤ 2 ^ 20 = pow_mono {i = h - x.layer} {j = 20} (omega arith) in
    let low : x.layer < 256 ^ 4 = omega arith in
    let inside : x.index < 256 ^ 4 = omega arith in
    let e : b ≡ F.A ++ (place_bytes x ++ (places_bytes L ++ Z)) =
    F.bytes ∙ ap (λ (l : List ℕ). F.A ++ l) (ap (λ (l : List ℕ). l ++ Z) (cons_bytes x L) ∙ append_assoc (place_bytes x) (places_bytes L) Z) in
    let k0 = ap (λ (l : List ℕ). get_or l (45 + 41 * j) 0) e ∙ read_kind F.A (places_bytes L ++ Z) j x F.size o.size low inside in
    let k1 = ap (λ (l : List ℕ). layer_in l j) e ∙ read_layer F.A (places_bytes L ++ Z) j x F.size o.size low inside in
    let k2 = ap (λ (l : List ℕ). index_in l j) e ∙ read_index F.A (places_bytes L ++ Z) j x F.size o.size low inside in
    let k3 = ap (λ (l : List ℕ). hash_in l j) e ∙ read_hash F.A (places_bytes L ++ Z) j x F.size o.size low inside in
    let good = place_from h b j x k0 k1 k2 lh ib (omega arith) in
    let rk : rank_in h b j ≡ rank h x.layer x.index = ap₂ (λ (u v : ℕ). rank h u v) k1 k2 in
    let G : From b (suc j) L Z =
    record {
      A = F.A ++ place_bytes x;
      size = simp length-append (omega (arith, F.size, place_size F.A (places_bytes L ++ Z) j x F.size o.size low inside));
      bytes = e ∙ sym (append_assoc F.A (place_bytes x) (places_bytes L ++ Z));
    } in
    let q = places_read h b h20 L (suc j) Z (suc (rank h x.layer x.index)) G R (omega (arith, rank_after h b j)) (good_next h b j g good) in
    let n : j + length (x ∷ L) ≡ suc j + length L = omega arith in
    let here : place_in b j ≡ x = same_place b j x k1 k2 k3 in
    rw n (q.0, q.1 ∙ ap (λ (l : List Place). l ++ L) (places_next b j ∙ ap (λ (y : Place). places_to b j ++ (y ∷ [])) here) ∙ append_assoc (places_to b j) (x ∷ []) L)
  where
    same_place : (b : List ℕ) (j : ℕ) (x : Place) → layer_in b j ≡ x.layer → index_in b j ≡ x.index → hash_in b j ≡ x.hash → place_in b j ≡ x
    same_place b j x e f g = rw (e, f, g)

places_size : (h r : ℕ) (L : List Place) → Rising h r L → length (places_bytes L) ≡ 41 * length L
unfolding places_bytes
places_size h r [] none = refl
places_size h r (x ∷ L) (more lh ib o lr R) = simp length-append (omega (arith, one_size x o.size, places_size h (suc (rank h x.layer x.index)) L R))
  where
    one_size : (x : Place) → length x.hash ≡ 32 → length (place_bytes x) ≡ 41
    one_size x s = unfold place_bytes in simp length-append (omega (arith, be_size 4 x.layer, be_size 4 x.index))

-- ---- the marks

mark_size : (i : ℕ) → length (mark_bytes i) ≡ 5
unfolding mark_bytes
mark_size i = omega (arith, be_size 4 i)

pub marks_size : (L : List ℕ) → length (marks_bytes L) ≡ 5 * length L
unfolding marks_bytes
marks_size [] = refl
marks_size (i ∷ L) = simp length-append (omega (arith, mark_size i, marks_size L))

record FromMark (b : List ℕ) (at j : ℕ) (L : List ℕ) (Z : List ℕ) : Type 0 where
  A : List ℕ
  size : length A ≡ at + 5 * j
  bytes : b ≡ A ++ (marks_bytes L ++ Z)

cons_marks : (i : ℕ) (L : List ℕ) → marks_bytes (i ∷ L) ≡ mark_bytes i ++ marks_bytes L
unfolding marks_bytes
cons_marks i L = refl

marks_next : (b : List ℕ) (at k : ℕ) → marks_to b at (suc k) ≡ marks_to b at k ++ (block_in b at k ∷ [])
unfolding marks_to
marks_next b at k = refl

marked_next : (c : ℕ) (b : List ℕ) (at k : ℕ) → marks_good c b at k ≡ true → mark_good c b at k ≡ true → marks_good c b at (suc k) ≡ true
unfolding marks_good
marked_next c b at k x y = (and-eq-true_iff (marks_good c b at k) (mark_good c b at k)).1 (x, y)

block_after : (b : List ℕ) (at k : ℕ) → next_block b at (suc k) ≡ suc (block_in b at k)
unfolding next_block
block_after b at k = refl

mark_from : (c : ℕ) (b : List ℕ) (at k i : ℕ) → get_or b (at + 5 * k) 0 ≡ 3 → block_in b at k ≡ i → i < c → next_block b at k ≤ i → mark_good c b at k ≡ true
unfolding mark_good
mark_from c b at k i e f l r =
    let t : ltb (block_in b at k) c ≡ true = lt-ltb (block_in b at k) c (rw f l) in
    let w : leb (next_block b at k) (block_in b at k) ≡ true = le-leb (next_block b at k) (block_in b at k) (rw f r) in
    rw (e, t, w)

module _ (A Z : List ℕ) (at j i : ℕ) (size : length A ≡ at + 5 * j) (small : i < 256 ^ 4) where
  spread_mark : mark_bytes i ++ Z ≡ 3 ∷ (be 4 i ++ Z)
  unfolding mark_bytes
  spread_mark = refl

  read_mark : get_or (A ++ (mark_bytes i ++ Z)) (at + 5 * j) 0 ≡ 3
  read_mark = byte_behind A (mark_bytes i ++ Z) (at + 5 * j) 0 (omega arith) ∙ ap (λ (l : List ℕ). get_or l 0 0) spread_mark

  read_block : block_in (A ++ (mark_bytes i ++ Z)) at j ≡ i
  unfolding block_in
  read_block =
      number_behind A (mark_bytes i ++ Z) (at + 1 + 5 * j) 1 4 (omega arith)
      ∙ ap (λ (l : List ℕ). number_at l 1 4) spread_mark
      ∙ number_one 3 (be 4 i ++ Z) 1 0 4 (omega arith)
      ∙ number_first 4 i Z small

marks_read : (c : ℕ) (b : List ℕ) (at : ℕ) → c ≤ 2 ^ tallest_tree → (L : List ℕ) (j : ℕ) (Z : List ℕ) (r : ℕ) → FromMark b at j L Z → RisingBlocks c r L → next_block b at j ≤ r → marks_good c b at j ≡ true
    → (marks_good c b at (j + length L) ≡ true) × (marks_to b at (j + length L) ≡ marks_to b at j ++ L)
marks_read c b at small [] j Z r F none le g =
    let e : j + 0 ≡ j = omega arith in
    rw e (g, sym (append-nil (marks_to b at j)))
marks_read c b at small (i ∷ L) j Z r F (more lr lc R) le g =
    let si : i < 256 ^ 4 = omega arith in
    let e : b ≡ F.A ++ (mark_bytes i ++ (marks_bytes L ++ Z)) =
    F.bytes ∙ ap (λ (l : List ℕ). F.A ++ l) (ap (λ (l : List ℕ). l ++ Z) (cons_marks i L) ∙ append_assoc (mark_bytes i) (marks_bytes L) Z) in
    let k0 = ap (λ (l : List ℕ). get_or l (at + 5 * j) 0) e ∙ read_mark F.A (marks_bytes L ++ Z) at j i F.size si in
    let k1 = ap (λ (l : List ℕ). block_in l at j) e ∙ read_block F.A (marks_bytes L ++ Z) at j i F.size si in
    let good = mark_from c b at j i k0 k1 lc (omega arith) in
    let G : FromMark b at (suc j) L Z =
    record {
      A = F.A ++ mark_bytes i;
      size = simp length-append (omega (arith, F.size, mark_size i));
      bytes = e ∙ sym (append_assoc F.A (mark_bytes i) (marks_bytes L ++ Z));
    } in
    let q = marks_read c b at small L (suc j) Z (suc i) G R (omega (arith, block_after b at j)) (marked_next c b at j g good) in
    let n : j + length (i ∷ L) ≡ suc j + length L = omega arith in
    rw n (q.0, q.1 ∙ ap (λ (l : List ℕ). l ++ L) (marks_next b at j ∙ ap (λ (y : ℕ). marks_to b at j ++ (y ∷ [])) k1) ∙ append_assoc (marks_to b at j) (i ∷ []) L)

-- blocks that rise are no more than there are
marks_few : (c r : ℕ) (L : List ℕ) → r ≤ c → RisingBlocks c r L → r + length L ≤ c
marks_few c r [] l none = omega arith
marks_few c r (i ∷ L) l (more lr lc R) = omega (arith, marks_few c (suc i) L (omega arith) R)

-- ---- the whole

module _ (v : Saved) (O : Ordered v) (most : block_count v.n ≤ 2 ^ tallest_tree) (low : height (block_count v.n) ≤ tallest_tree) (wide : v.n < 256 ^ 8) (narrow : v.plen < 256 ^ 4) where
  p : ℕ
  p = length v.places

  m : ℕ
  m = length v.marks

  b : List ℕ
  b = saved_bytes v

  P : List ℕ
  P = places_bytes v.places

  M : List ℕ
  M = marks_bytes v.marks

  E : List ℕ
  E = end_bytes (length v.marks)

  head : List ℕ
  head = opening_bytes v.n v.plen v.root

  b_is : b ≡ head ++ (P ++ (M ++ E))
  unfolding b saved_bytes head P M E
  b_is = refl

  head_size : length head ≡ 45
  unfolding head opening_bytes
  head_size = simp length-append (omega (arith, be_size 8 v.n, be_size 4 v.plen, O.root.size))

  p_size : length P ≡ 41 * p
  unfolding P p
  p_size = places_size (height (block_count v.n)) 0 v.places O.places

  m_size : length M ≡ 5 * m
  unfolding M m
  m_size = marks_size v.marks

  e_size : length E ≡ 5
  unfolding E end_bytes
  e_size = omega (arith, be_size 4 (length v.marks))

  b_size : length b ≡ 50 + 41 * p + 5 * m
  b_size = ap length b_is ∙ simp length-append (omega (arith, head_size, p_size, m_size, e_size))

  m_small : m < 256 ^ 4
  unfolding m
  m_small = omega (arith, marks_few (block_count v.n) 0 v.marks (omega arith) O.marks)

  -- the end
  front : List ℕ
  front = head ++ (P ++ M)

  front_is : b ≡ front ++ E
  unfolding front
  front_is = b_is ∙ sym (append_assoc head (P ++ M) E ∙ ap (λ (l : List ℕ). head ++ l) (append_assoc P M E))

  front_size : length front ≡ 45 + 41 * p + 5 * m
  unfolding front
  front_size = simp length-append (omega (arith, head_size, p_size, m_size))

  end_is : E ≡ 4 ∷ (be 4 m ++ [])
  unfolding E end_bytes m
  end_is = ap (λ (l : List ℕ). 4 ∷ l) (sym (append-nil (be 4 (length v.marks))))

  read_end : get_or b (length b - 5) 0 ≡ 4
  read_end = ap (λ (l : List ℕ). get_or l (length b - 5) 0) front_is ∙ byte_behind front E (length b - 5) 0 (omega (arith, b_size, front_size)) ∙ ap (λ (l : List ℕ). get_or l 0 0) end_is

  read_count : mark_count b ≡ m
  unfolding mark_count
  read_count =
      ap (λ (l : List ℕ). number_at l (length b - 4) 4) front_is
      ∙ number_behind front E (length b - 4) 1 4 (omega (arith, b_size, front_size))
      ∙ ap (λ (l : List ℕ). number_at l 1 4) end_is
      ∙ number_one 4 (be 4 m ++ []) 1 0 4 (omega arith)
      ∙ number_first 4 m [] m_small

  read_places : place_count b ≡ p
  unfolding place_count
  read_places = omega (arith, b_size, read_count)

  -- the opening
  head_is : b ≡ 1 ∷ (be 8 v.n ++ (be 4 v.plen ++ (v.root ++ (P ++ (M ++ E)))))
  unfolding head opening_bytes
  head_is =
      b_is
      ∙ ap (λ (l : List ℕ). 1 ∷ l)
      (append_assoc (be 8 v.n) (be 4 v.plen ++ v.root) (P ++ (M ++ E)) ∙ ap (λ (l : List ℕ). be 8 v.n ++ l) (append_assoc (be 4 v.plen) v.root (P ++ (M ++ E))))

  read_length : length_in b ≡ v.n
  unfolding length_in
  read_length =
      ap (λ (l : List ℕ). number_at l 1 8) head_is
      ∙ number_one 1 (be 8 v.n ++ (be 4 v.plen ++ (v.root ++ (P ++ (M ++ E))))) 1 0 8 (omega arith)
      ∙ number_first 8 v.n (be 4 v.plen ++ (v.root ++ (P ++ (M ++ E)))) wide

  read_piece : piece_length_in b ≡ v.plen
  unfolding piece_length_in
  read_piece =
      ap (λ (l : List ℕ). number_at l 9 4) head_is
      ∙ number_one 1 (be 8 v.n ++ (be 4 v.plen ++ (v.root ++ (P ++ (M ++ E))))) 9 8 4 (omega arith)
      ∙ number_behind (be 8 v.n) (be 4 v.plen ++ (v.root ++ (P ++ (M ++ E)))) 8 0 4 (omega (arith, be_size 8 v.n))
      ∙ number_first 4 v.plen (v.root ++ (P ++ (M ++ E))) narrow

  read_root : root_in b ≡ v.root
  unfolding root_in
  read_root =
      ap (λ (l : List ℕ). cut l 13 32) head_is
      ∙ cut_one_behind 1 (be 8 v.n ++ (be 4 v.plen ++ (v.root ++ (P ++ (M ++ E))))) 13 12 32 (omega arith)
      ∙ cut_behind (be 8 v.n) (be 4 v.plen ++ (v.root ++ (P ++ (M ++ E)))) 12 4 32 (omega (arith, be_size 8 v.n))
      ∙ cut_behind (be 4 v.plen) (v.root ++ (P ++ (M ++ E))) 4 0 32 (omega (arith, be_size 4 v.plen))
      ∙ cut_front v.root (P ++ (M ++ E)) 32 O.root.size

  read_blocks : blocks_in b ≡ block_count v.n
  read_blocks = ap block_count read_length

  read_height : height_in b ≡ height (block_count v.n)
  read_height = ap height read_blocks

  places_here : From b 0 v.places (M ++ E)
  places_here = record { A = head; size = omega (arith, head_size); bytes = unfold P in b_is }

  none_good : (h : ℕ) → (places_good h b 0 ≡ true) × (next_rank h b 0 ≡ 0) × (places_to b 0 ≡ [])
  unfolding places_good next_rank places_to
  none_good h = (refl, refl, refl)

  marks_here : FromMark b (45 + 41 * p) 0 v.marks E
  marks_here =
      record {
        A = head ++ P;
        size = simp length-append (omega (arith, head_size, p_size));
        bytes = unfold M in b_is ∙ sym (append_assoc head P (M ++ E));
      }

  none_marked : (c at : ℕ) → (marks_good c b at 0 ≡ true) × (next_block b at 0 ≡ 0) × (marks_to b at 0 ≡ [])
  unfolding marks_good next_block marks_to
  none_marked c at = (refl, refl, refl)

  all_placed : (places_good (height (block_count v.n)) b p ≡ true) × (places_to b p ≡ v.places)
  unfolding p
  all_placed =
      let n = none_good (height (block_count v.n)) in
      let q = places_read (height (block_count v.n)) b low v.places 0 (M ++ E) 0 places_here O.places (omega (arith, n.1)) n.0 in
      let z : 0 + length v.places ≡ length v.places = omega arith in
      (ap (places_good (height (block_count v.n)) b) (sym z) ∙ q.0, ap (places_to b) (sym z) ∙ q.1 ∙ ap (λ (l : List Place). l ++ v.places) n.2)

  all_marked : (marks_good (block_count v.n) b (45 + 41 * p) m ≡ true) × (marks_to b (45 + 41 * p) m ≡ v.marks)
  unfolding m
  all_marked =
      let n = none_marked (block_count v.n) (45 + 41 * p) in
      let q = marks_read (block_count v.n) b (45 + 41 * p) most v.marks 0 E 0 marks_here O.marks (omega (arith, n.1)) n.0 in
      let z : 0 + length v.marks ≡ length v.marks = omega arith in
      (ap (marks_good (block_count v.n) b (45 + 41 * p)) (sym z) ∙ q.0, ap (marks_to b (45 + 41 * p)) (sym z) ∙ q.1 ∙ ap (λ (l : List ℕ). l ++ v.marks) n.2)

  opens_b : opens b ≡ true
  unfolding opens
  opens_b =
      (and-eq-true_iff (leb 45 (length b)) (eqb (get_or b 0 0) 1)).1
      (le-leb 45 (length b) (omega (arith, b_size)), eq-eqb (get_or b 0 0) 1 (ap (λ (l : List ℕ). get_or l 0 0) head_is))

  sized_b : sized b ≡ true
  unfolding sized
  sized_b =
      (and-eq-true_iff (leb 50 (length b) && eqb (get_or b (length b - 5) 0) 4) (eqb (50 + 41 * place_count b + 5 * mark_count b) (length b))).1 (
        (and-eq-true_iff (leb 50 (length b)) (eqb (get_or b (length b - 5) 0) 4)).1 (le-leb 50 (length b) (omega (arith, b_size)), eq-eqb (get_or b (length b - 5) 0) 4 read_end),
        eq-eqb (50 + 41 * place_count b + 5 * mark_count b) (length b) (omega (arith, b_size, read_count, read_places)),
      )

  formed_b : formed b ≡ true
  unfolding formed
  formed_b =
      (and-eq-true_iff (sized b && places_good (height_in b) b (place_count b)) (marks_good (blocks_in b) b (marks_from b) (mark_count b))).1 (
        (and-eq-true_iff (sized b) (places_good (height_in b) b (place_count b))).1 (sized_b, ap₂ (λ (x y : ℕ). places_good x b y) read_height read_places ∙ all_placed.0),
        ap₂ (λ (x y : ℕ). marks_good x b (45 + 41 * y) (mark_count b)) read_blocks read_places ∙ ap (marks_good (block_count v.n) b (45 + 41 * p)) read_count ∙ all_marked.0,
      )

  value_b : value_in b ≡ v
  unfolding value_in
  value_b =
      let x : places_to b (place_count b) ≡ v.places = ap (places_to b) read_places ∙ all_placed.1 in
      let y : marks_to b (marks_from b) (mark_count b) ≡ v.marks = ap₂ (λ (k j : ℕ). marks_to b (45 + 41 * k) j) read_places read_count ∙ all_marked.1 in
      rw (read_length, read_piece, read_root, x, y)

-- READ BACK
pub read_back : (v : Saved) → Ordered v → block_count v.n ≤ 2 ^ tallest_tree → height (block_count v.n) ≤ tallest_tree → v.n < 256 ^ 8 → v.plen < 256 ^ 4
    → (opens (saved_bytes v) ≡ true) × (formed (saved_bytes v) ≡ true) × (value_in (saved_bytes v) ≡ v)
unfolding b
read_back v O most low wide narrow = (opens_b v O most low wide narrow, formed_b v O most low wide narrow, value_b v O most low wide narrow)

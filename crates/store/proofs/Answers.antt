-- What each function answers, from what its callees ensure and the tests it took: every answer is one case of the definition.
use Rattle.std.specs.Prelude.{◌≡◌, refl, cond, List, ◌++◌, Bool, true, false, ℕ, ◌+◌, ◌-◌, ◌*◌, ◌%◌, ◌^◌, ◌≤◌, ◌<◌, length, leb, ltb}
use Rattle.std.proofs.Common.{ap, ap₂, sym, ◌∙◌, append_assoc, arith, shl_exact, pow_mono, le-leb}
use Rattle.octets.specs.Octets.{pasted, be, zeroed}
use Rattle.octets.specs.OctetsLaws.{pasted_append, zeroed_length}
use Rattle.numbers.specs.Numbers.{refused, done, rule_broken, no_anchor, unusable, facts_out_of_range}
use Rattle.numbers.specs.declared.Answer.{Answer}
use Rattle.sha256.specs.declared.Hashed.{Hashed}
use Rattle.tree.specs.Geometry.{block_count, height, node_number}
use Rattle.tree.proofs.GeometryLaws.{shifted_one}
use Rattle.cells.specs.Cells.{Room, held_at, hash_at, put}
use Rattle.limits.specs.Limits.{longest_file, tallest_tree}
use Rattle.store.specs.Store.{file_length, piece_length, height_of, positions, facts_in_range, store_size, usable, opened, size_answer, open_answer, open_after, in_tree, no_hash, held_answer, Facts}
use Rattle.store.specs.StoreLaws.{usable_facts, facts_cell, open_facts, height_most, held_given, held_not, held_outside, open_done, open_short, positions_most, positions_some, tree_number_lem, usable_not, usable_room}

-- ---- the size

-- 2 shifted by a height, as the machine does it
pub shifted_two : (h : ℕ) → h ≤ 62 → (2 * 2 ^ h) % 18446744073709551616 ≡ 2 * 2 ^ h
shifted_two h l = shl_exact {a = 2} 2 h 64 (omega arith) (omega arith)

module _ (n b h : ℕ) (most : n ≤ longest_file) (blocks : b ≡ block_count n) (layers : h ≡ height b) where
  -- the height is small,
  pub size_height : h ≤ tallest_tree
  size_height = let e : height b ≡ height (block_count n) = ap height blocks in omega (arith, height_most n most)

  -- so the shift loses nothing,
  pub size_positions : (2 * 2 ^ h) % 18446744073709551616 ≡ positions h
  unfolding positions
  size_positions = shifted_two h (omega (arith, size_height))

  -- and what it gives is small
  pub size_small : (positions h ≤ 2 * 2 ^ tallest_tree) × (2 ≤ positions h)
  size_small = (positions_most h size_height, positions_some h)

  -- so does the other,
  pub size_leaves : (1 * 2 ^ h) % 18446744073709551616 ≡ 2 ^ h
  size_leaves = shifted_one h (omega (arith, size_height))

  -- which gives no more,
  pub size_leaves_small : 2 ^ h ≤ 2 ^ tallest_tree
  size_leaves_small = pow_mono {i = h} {j = tallest_tree} size_height

  -- and together they give the size
  pub size_worked : (p m : ℕ) → p ≡ positions h → m ≡ 2 ^ h → 33 * (p - 1) + 64 + m ≡ store_size n
  unfolding store_size
  size_worked p m e d =
      let g : positions h ≡ positions (height (block_count n)) = ap positions (layers ∙ ap height blocks) in
      let k : 2 ^ h ≡ 2 ^ height (block_count n) = ap (λ (x : ℕ). 2 ^ x) (layers ∙ ap height blocks) in
      omega arith

-- ---- usable

-- with facts in range the room decides
pub usable_by : (s : List ℕ) (n p z : ℕ) (t : Bool) → 64 ≤ length s → n ≡ file_length s → p ≡ piece_length s → t ≡ facts_in_range n p → t ≡ true → z ≡ store_size n
    → leb z (length s) ≡ usable s
usable_by s n p z t l e f g y k =
    ap (λ (x : ℕ). leb x (length s)) (k ∙ ap store_size e) ∙ usable_room s l (ap₂ facts_in_range (sym e) (sym f) ∙ sym g ∙ y)

-- without, the buffer is unusable
pub unusable_by : (s : List ℕ) (n p : ℕ) (t : Bool) → n ≡ file_length s → p ≡ piece_length s → t ≡ facts_in_range n p → t ≡ false → false ≡ usable s
unusable_by s n p t e f g y = usable_not s (ap₂ facts_in_range (sym e) (sym f) ∙ sym g ∙ y)

-- ---- opening

-- the facts and the root's cell, written one after the other, are an opened store
pub opened_by : (s s1 s2 s3 s4 s5 : List ℕ) (size n plen : ℕ) (root : List ℕ) → 97 ≤ size → size ≤ length s → length root ≡ 32
    → s1 ≡ zeroed s size → s2 ≡ pasted s1 0 (be 8 n) → s3 ≡ pasted s2 8 (be 4 plen) → s4 ≡ pasted s3 12 root → s5 ≡ put s4 1 root
    → s5 ≡ put (pasted (zeroed s size) 0 (be 8 n ++ (be 4 plen ++ root))) 1 root
opened_by s s1 s2 s3 s4 s5 size n plen root a l r e1 e2 e3 e4 e5 =
    let z = zeroed_length s size l in
    let p : pasted (pasted (zeroed s size) 0 (be 8 n)) 8 (be 4 plen) ≡ pasted (zeroed s size) 0 (be 8 n ++ be 4 plen) =
    pasted_append (zeroed s size) 0 (be 8 n) (be 4 plen) (omega arith) in
    let q : pasted (pasted (zeroed s size) 0 (be 8 n ++ be 4 plen)) 12 root ≡ pasted (zeroed s size) 0 (be 8 n ++ be 4 plen ++ root) =
    pasted_append (zeroed s size) 0 (be 8 n ++ be 4 plen) root (omega arith) in
    let g : be 8 n ++ be 4 plen ++ root ≡ be 8 n ++ (be 4 plen ++ root) = append_assoc (be 8 n) (be 4 plen) root in
    e5 ∙ ap (λ (t : List ℕ). put t 1 root) (e4 ∙ ap (λ (t : List ℕ). pasted t 12 root) (e3 ∙ ap (λ (t : List ℕ). pasted t 8 (be 4 plen)) (e2 ∙ ap (λ (t : List ℕ). pasted t 0 (be 8 n)) e1) ∙ p) ∙ q ∙ ap (λ (t : List ℕ). pasted (zeroed s size) 0 t) g)

-- where the size is answered, the facts are in range, and it is the store's
pub open_size : (n plen z : ℕ) → done z ≡ size_answer n plen → (facts_in_range n plen ≡ true) × (z ≡ store_size n)
unfolding size_answer
open_size n plen z e = by (facts_in_range n plen) e
  where
    by : (b : Bool) → done z ≡ cond b (done (store_size n)) (refused facts_out_of_range) → (b ≡ true) × (z ≡ store_size n)
    by true e = (refl, ap (λ (r : Answer). r.count) e)
    by false e = let w : 0 ≡ facts_out_of_range = ap (λ (r : Answer). r.number) e in absurd (omega (arith, w))

-- where it is refused, opening is refused the same, and leaves the bytes
pub open_refused : (s : List ℕ) (n plen : ℕ) (root : List ℕ) (k : ℕ) → refused k ≡ size_answer n plen → (k ≡ 0 → ⊥)
    → (refused k ≡ open_answer s n plen) × (s ≡ open_after s n plen root)
unfolding size_answer
open_refused s n plen root k e z = by (facts_in_range n plen) refl e
  where
    by : (b : Bool) → facts_in_range n plen ≡ b → refused k ≡ cond b (done (store_size n)) (refused facts_out_of_range) → (refused k ≡ open_answer s n plen) × (s ≡ open_after s n plen root)
    by true f e = absurd (z (ap (λ (r : Answer). r.number) e))
    by false f e = let p = open_facts s n plen root f in (e ∙ p.0, p.1)

-- done, with the count 1
pub open_by : (s s' : List ℕ) (n plen z : ℕ) (root : List ℕ) (r : Answer) → facts_in_range n plen ≡ true → z ≡ store_size n → z ≤ length s
    → s' ≡ put (pasted (zeroed s z) 0 (be 8 n ++ (be 4 plen ++ root))) 1 root → r ≡ done 1
    → (r ≡ open_answer s n plen) × (s' ≡ open_after s n plen root)
open_by s s' n plen z root r a e l w q =
    let k : store_size n ≤ length s = omega arith in
    let d = open_done s n plen root a k in
    let o : s' ≡ opened s n plen root = unfold opened in w ∙ ap (λ (x : ℕ). put (pasted (zeroed s x) 0 (be 8 n ++ (be 4 plen ++ root))) 1 root) e in
    (q ∙ d.0, o ∙ d.1)

-- too little room
pub open_short_by : (s : List ℕ) (n plen z : ℕ) (root : List ℕ) (r : Answer) → facts_in_range n plen ≡ true → z ≡ store_size n → length s < z → r ≡ refused unusable
    → (r ≡ open_answer s n plen) × (s ≡ open_after s n plen root)
open_short_by s n plen z root r a e l q =
    let k : length s < store_size n = omega arith in
    let d = open_short s n plen root a k in
    (q ∙ d.0, d.1)

-- ---- a held hash

module _ (h l i : ℕ) where
  pub tree_index : h ≤ 63 → l ≤ h → ltb i ((1 * 2 ^ (h - l)) % 18446744073709551616) ≡ in_tree h l i
  unfolding in_tree
  tree_index a b = rw (le-leb l h b, shifted_one (h - l) (omega arith))

module _ (s : List ℕ) (l i h : ℕ) (u t : Bool) (e : u ≡ usable s) (y : u ≡ true) (f : h ≡ height_of s) (g : t ≡ in_tree h l i) where
  well : usable s ≡ true
  well = sym e ∙ y

  facts : Facts s
  facts = usable_facts s well

  there : (b : Bool) → t ≡ b → in_tree (height_of s) l i ≡ b
  there b x = ap (λ (k : ℕ). in_tree k l i) (sym f) ∙ sym g ∙ x

  pub outside_by : (r : Hashed) → t ≡ false → r ≡ no_hash rule_broken → r ≡ held_answer s l i
  outside_by r n q = q ∙ held_outside s l i well (there false n)

  module _ (z : t ≡ true) (q : ℕ) (k : q ≡ node_number h l i) where
    number : q ≡ node_number (height_of s) l i
    number = k ∙ ap (λ (x : ℕ). node_number x l i) f

    -- the position's cell lies in the store
    pub cell_by : Room (q + 1) s
    cell_by = facts_cell s facts q (omega (arith, number, tree_number_lem (height_of s) l i (there true z)))

    module _ (d : Bool) (j : d ≡ held_at s q) where
      held : (b : Bool) → d ≡ b → held_at s (node_number (height_of s) l i) ≡ b
      held b x = ap (held_at s) (sym number) ∙ sym j ∙ x

      pub not_held_by : (r : Hashed) → d ≡ false → r ≡ no_hash no_anchor → r ≡ held_answer s l i
      not_held_by r n w = w ∙ held_not s l i well (there true z) (held false n)

      pub held_by : (v : List ℕ) → d ≡ true → v ≡ hash_at s q → record { number = 0; hash = v } ≡ held_answer s l i
      held_by v n w =
          ap (λ (x : List ℕ). record { number = 0; hash = x }) (w ∙ ap (hash_at s) number) ∙ held_given s l i well (there true z) (held true n)

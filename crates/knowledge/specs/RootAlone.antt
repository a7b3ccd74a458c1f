-- 01, "The store": which buffer is usable, how large a store is, what an opening answers, each number exactly when, and that afterwards
-- the root alone is held.
-- Assumes nothing.
use Rattle.std.specs.Prelude.{◌≡◌, refl, true, ◌&&◌, List, ◌↔◌, ℕ, ◌+◌, ◌-◌, ◌*◌, ◌^◌, ◌≤◌, ◌<◌, length, eqb, leb}
use Rattle.std.proofs.Common.{ap, sym, ◌∙◌, subst, arith, pow_pos, ne_eqb, le-leb, leb-true, leb-false}
use Rattle.std.proofs.Math.Bool.{and-eq-true_iff}
use Rattle.std.proofs.lemmas.Bool.{false≢true, lt-leb}
use Rattle.std.proofs.Math.Decide.{ℕ_discrete}
use Rattle.numbers.specs.Numbers.{done, refused, unusable, facts_out_of_range}
use Rattle.numbers.specs.Chain.{exactly_of}
use Rattle.limits.specs.Limits.{longest_file}
use Rattle.tree.specs.Geometry.{block_count, height, node_number, piece_layer}
use Rattle.tree.proofs.GeometryLaws.{piece_length_form, piece_length_accepted, node_number_root, node_number_distinct}
use Rattle.cells.specs.Cells.{held_at, hash_at}
use Rattle.store.specs.Store.{usable, file_length, piece_length, size_answer, height_of, positions, facts_in_range, store_size, open_answer, open_after, opened}
use Rattle.store.specs.StoreLaws.{opened_facts, opened_height, opened_held, opened_hash, tree_says, tree_number_lem, positions_some, range_says, store_size_some}
use Rattle.words.specs.Held.{Holds}
use Rattle.words.specs.Answers.{InRange}
use Rattle.knowledge.specs.Again.{what_is_held}
use Rattle.numbers.specs.Tests.{says_not, in_turn}
use Rattle.knowledge.specs.NumberChains.{open_chain, open_tests}
use Rattle.knowledge.specs.ReadBack.{holds_at}

-- the range test says this
pub range_exactly : (n plen : ℕ) → (facts_in_range n plen ≡ true) ↔ InRange n plen
unfolding facts_in_range
range_exactly n plen = (
  λ t.
      (let r = range_says n plen t in
      let f = piece_length_form plen r.2 in
      record { some = r.0; most = r.1; p = piece_layer plen; small = f.0; power = f.1 }),
  λ r. rw (le-leb 1 n r.some, le-leb n longest_file r.most, r.power) (piece_length_accepted r.p r.small),
)

module _ (s : List ℕ) (n plen : ℕ) where
  -- 10 EXACTLY WHEN the facts are out of range
  pub opening_10 : ((open_answer s n plen).number ≡ facts_out_of_range) ↔ (InRange n plen → ⊥)
  opening_10 = in_turn (exactly_of (open_chain s n plen) facts_out_of_range (open_tests s n plen) refl) (says_not (range_exactly n plen))

  -- 9 EXACTLY WHEN they are in range and the buffer has not the store's size
  pub opening_9 : ((open_answer s n plen).number ≡ unusable) ↔ (InRange n plen × (length s < store_size n))
  opening_9 =
      let c = exactly_of (open_chain s n plen) unusable (open_tests s n plen) refl in (
        λ e. (let t = c.0 e in ((range_exactly n plen).0 t.0, leb-false (store_size n) (length s) t.1)),
        λ t. c.1 ((range_exactly n plen).1 t.0, lt-leb (store_size n) (length s) t.1),
      )

  -- 0 EXACTLY WHEN they are in range and it has
  pub opening_0 : ((open_answer s n plen).number ≡ 0) ↔ (InRange n plen × (store_size n ≤ length s))
  opening_0 =
      let c = exactly_of (open_chain s n plen) 0 (open_tests s n plen) refl in (
        λ e. (let t = c.0 e in ((range_exactly n plen).0 t.0, leb-true (store_size n) (length s) t.1.0)),
        λ t. c.1 ((range_exactly n plen).1 t.0, (le-leb (store_size n) (length s) t.1, refl)),
      )

-- the count of an opening is 1
pub opening_counts_one : (s : List ℕ) (n plen : ℕ) → (open_answer s n plen).number ≡ 0 → (open_answer s n plen).count ≡ 1
unfolding open_answer
opening_counts_one s n plen z =
    let t = (opening_0 s n plen).0 (unfold open_answer in z) in
    rw ((range_exactly n plen).1 t.0, le-leb (store_size n) (length s) t.1)

-- beside 0 an opening leaves this
pub opening_leaves : (s : List ℕ) (n plen : ℕ) (root : List ℕ) → (open_answer s n plen).number ≡ 0 → open_after s n plen root ≡ opened s n plen root
unfolding open_after
opening_leaves s n plen root z = let t = (opening_0 s n plen).0 z in rw ((range_exactly n plen).1 t.0, le-leb (store_size n) (length s) t.1)

-- A BUFFER IS USABLE EXACTLY WHEN it names facts in range and has their room; nothing else makes it unusable
pub usable_exactly : (s : List ℕ) → (usable s ≡ true) ↔ (InRange (file_length s) (piece_length s) × (store_size (file_length s) ≤ length s))
unfolding usable
usable_exactly s = (
  λ u.
      (let a = (and-eq-true_iff (leb 64 (length s) && facts_in_range (file_length s) (piece_length s)) (leb (store_size (file_length s)) (length s))).0 u in
      let b = (and-eq-true_iff (leb 64 (length s)) (facts_in_range (file_length s) (piece_length s))).0 a.0 in
      ((range_exactly (file_length s) (piece_length s)).0 b.1, leb-true (store_size (file_length s)) (length s) a.1)),
  λ t.
      rw (le-leb 64 (length s) (omega (arith, store_size_some (file_length s))), (range_exactly (file_length s) (piece_length s)).1 t.0, le-leb (store_size (file_length s)) (length s) t.1),
)

module _ (n plen : ℕ) where
  -- THE SIZE OF A STORE is 33·(2·2^h − 1) + 64 + 2^h where the facts are in range,
  pub size_is : InRange n plen → size_answer n plen ≡ done (33 * (2 * 2 ^ height (block_count n) - 1) + 64 + 2 ^ height (block_count n))
  unfolding size_answer store_size positions
  size_is r = rw ((range_exactly n plen).1 r)

  -- and 10, with the size 0, where they are not
  pub size_is_10 : (InRange n plen → ⊥) → size_answer n plen ≡ refused facts_out_of_range
  unfolding size_answer
  size_is_10 k = rw ((says_not (range_exactly n plen)).1 k)

module _ (s : List ℕ) (n plen : ℕ) (root : List ℕ) (size : length root ≡ 32) (z : (open_answer s n plen).number ≡ 0) where
  ok : facts_in_range n plen ≡ true
  ok = (range_exactly n plen).1 ((opening_0 s n plen).0 z).0

  fits : store_size n ≤ length s
  fits = ((opening_0 s n plen).0 z).1

  after : open_after s n plen root ≡ opened s n plen root
  after = opening_leaves s n plen root z

  high : height_of (opened s n plen root) ≡ height (block_count n)
  high = opened_height s n plen root ok fits size

  held_then : (l i : ℕ) (v : List ℕ) → Holds (opened s n plen root) l i v → (l ≡ height (block_count n)) × (i ≡ 0) × (v ≡ root)
  held_then l i v h =
      let t = opened s n plen root in
      let k = what_is_held t l i v (opened_facts s n plen root ok fits size) h in
      let a = tree_says (height_of t) l i k.0 in
      let b = tree_number_lem (height_of t) l i k.0 in
      elim (ℕ_discrete (node_number (height_of t) l i) 1) [
        | no ne ↦
            let f : held_at t (node_number (height_of t) l i) ≡ eqb (node_number (height_of t) l i) 1 = opened_held s n plen root ok fits size (node_number (height_of t) l i) b.0 (subst (λ (h : ℕ). node_number (height_of t) l i < positions h) high b.1) in
            absurd (false≢true (sym (ne_eqb (node_number (height_of t) l i) 1 ne) ∙ sym f ∙ k.1))
        | yes e ↦
            let d = node_number_distinct (height_of t) l i (height_of t) 0 a.0 (omega arith) a.1 (pow_pos (height_of t - height_of t)) (e ∙ sym (node_number_root (height_of t))) in
            (d.0 ∙ high, d.1, sym k.2 ∙ ap (hash_at t) e ∙ opened_hash s n plen root ok fits size)
      ]

  root_held : Holds (opened s n plen root) (height (block_count n)) 0 root
  root_held =
      let t = opened s n plen root in
      let e = node_number_root (height_of t) in
      let one : 1 < positions (height (block_count n)) = positions_some (height (block_count n)) in
      let m : held_at t (node_number (height_of t) (height_of t) 0) ≡ true = ap (held_at t) e ∙ opened_held s n plen root ok fits size 1 (omega arith) one in
      let h = holds_at t (height_of t) 0 (opened_facts s n plen root ok fits size) (omega arith) (pow_pos (height_of t - height_of t)) m in
      subst (λ (y : ℕ). Holds t y 0 root) high (subst (Holds t (height_of t) 0) (ap (hash_at t) e ∙ opened_hash s n plen root ok fits size) h)

  -- THE ROOT ALONE IS HELD after an opening answered 0, whatever the buffer held before: kd_held gives the root at layer h, and no other
  -- position
  pub root_alone : (l i : ℕ) (v : List ℕ) → Holds (open_after s n plen root) l i v ↔ ((l ≡ height (block_count n)) × (i ≡ 0) × (v ≡ root))
  root_alone l i v = rw after (held_then l i v, λ t. rw (t.0, t.1, t.2) root_held)

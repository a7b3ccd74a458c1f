-- The hashes of a worked-out heap are the nodes of the tree over its leaves.
-- Nothing here looks into `pair_hash`. Assumes nothing.
use Rattle.std.specs.Prelude.{◌≡◌, List, length, take, drop, ℕ, zero, suc, ◌+◌, ◌-◌, ◌*◌, ◌/◌, ◌^◌, ◌≤◌, ◌<◌}
use Rattle.std.proofs.Math.Path.{refl, ap₂}
use Rattle.std.proofs.Common.{ap, sym, ◌∙◌, add-mul, one-mul, mul_assoc, mul-le-mul_right, le-mul_of_pos_right, pow-add, pow_pos, length-take-le, lt-ltb, le-ltb, arith}
use Rattle.octets.specs.Octets.{cut}
use Rattle.sha256.specs.Sha256.{pair_hash}
use Rattle.lanes.specs.Hashes.{parent_of}
use Rattle.tree.proofs.GeometryLaws.{left_start, right_start, right_end}
use Rattle.tree.specs.Values.{node, pad_value, layer_leaf}
use Rattle.tree.proofs.ValuesLaws.{node_same, node_shift}
use Rattle.heaps.specs.Heaps.{hash_in, Parents, Over, Worked, raised}

-- the front of a room
pub front_length : (room : List ℕ) (n : ℕ) → n ≤ length room → length (take (n - 0) (drop 0 room)) ≡ n
front_length room n h = let e : n - 0 ≡ n = omega arith in ap (λ (k : ℕ). length (take k room)) e ∙ length-take-le n room h

-- where the leaves under x are in a heap, so are those under its children
pub children_in : (l k x : ℕ) → 0 < k → 32 * ((x + 1) * 2 ^ k) ≤ l
    → (64 * x + 64 ≤ l) × (32 * ((2 * x + 1) * 2 ^ (k - 1)) ≤ l) × (32 * ((2 * x + 1 + 1) * 2 ^ (k - 1)) ≤ l)
children_in l zero x p b = absurd (omega arith)
children_in l (suc i) x p b =
    let c : suc i - 1 ≡ i = omega arith in
    let e = right_end x i in
    let d = add-mul (2 * x + 1) 1 (2 ^ i) in
    let o = one-mul (2 ^ i) in
    let w : 2 * x + 1 + 1 ≤ (2 * x + 1 + 1) * 2 ^ i = le-mul_of_pos_right (2 * x + 1 + 1) (pow_pos i) in
    rw c (omega arith, omega arith, omega arith)

module _ (heap : List ℕ) (above : Parents heap) where
  parent_hash : (x : ℕ) → 1 ≤ x → 64 * x + 64 ≤ length heap → hash_in heap x ≡ pair_hash (hash_in heap (2 * x)) (hash_in heap (2 * x + 1))
  unfolding parent_of
  parent_hash x a b =
      let l : 64 * x ≡ 32 * (2 * x) = omega arith in
      let r : 64 * x + 32 ≡ 32 * (2 * x + 1) = omega arith in
      above.each x a b ∙ ap₂ pair_hash (ap (λ (n : ℕ). cut heap n 32) l) (ap (λ (n : ℕ). cut heap n 32) r)

  -- each hash is the node over the hashes that stand i layers below it
  pub hash_over : (i x : ℕ) → 1 ≤ x → 32 * ((x + 1) * 2 ^ i) ≤ length heap → hash_in heap x ≡ node (hash_in heap) i x
  unfolding node
  hash_over zero x a b = refl
  hash_over (suc i) x a b =
      let q = children_in (length heap) (suc i) x (omega arith) b in
      let e : suc i - 1 ≡ i = omega arith in
      parent_hash x a q.0
      ∙ ap₂ pair_hash (hash_over i (2 * x) (omega arith) (rw e at q.1)) (hash_over i (2 * x + 1) (omega arith) (rw e at q.2))

pub worked_parents : (leaf : ℕ → List ℕ) (m j : ℕ) (heap : List ℕ) → Worked leaf m j heap → Parents heap
worked_parents leaf m j heap w = record { each = λ x a b. w.parents x a (omega (arith, w.size)) }

-- 2^k as 2^(k - i) of 2^i
pow_parts : (k i : ℕ) → i ≤ k → 2 ^ k ≡ 2 ^ (k - i) * 2 ^ i
pow_parts k i h = let e : k ≡ k - i + i = omega arith in ap (λ (n : ℕ). 2 ^ n) e ∙ pow-add 2 (k - i) i

-- in a heap over 2^k leaves the hash 2^(k - i) + y is the node i layers above them, number y
pub heap_node : (leaf : ℕ → List ℕ) (k j : ℕ) (heap : List ℕ) → Worked leaf (2 ^ k) j heap → (i y : ℕ) → i ≤ k → y < 2 ^ (k - i)
    → hash_in heap (2 ^ (k - i) + y) ≡ node leaf i (j * 2 ^ (k - i) + y)
heap_node leaf k j heap w i y h b =
    let a : ℕ = 2 ^ (k - i) in
    let m : ℕ = 2 ^ k in
    let e : m ≡ a * 2 ^ i = pow_parts k i h in
    let p : 0 < a = pow_pos (k - i) in
    let u : (a + y + 1) * 2 ^ i ≤ 2 * a * 2 ^ i = mul-le-mul_right (2 ^ i) (omega arith) in
    let v : 2 * a * 2 ^ i ≡ 2 * (a * 2 ^ i) = mul_assoc 2 a (2 ^ i) in
    let l : (y + 1) * 2 ^ i ≤ a * 2 ^ i = mul-le-mul_right (2 ^ i) (omega arith) in
    let t : j * m ≡ j * a * 2 ^ i = ap (λ (n : ℕ). j * n) e ∙ sym (mul_assoc j a (2 ^ i)) in
    hash_over heap (worked_parents leaf m j heap w) i (a + y) (omega arith) (omega (arith, w.size))
    ∙ sym (node_shift (hash_in heap) i a y)
    ∙ node_same (λ x. hash_in heap (a * 2 ^ i + x)) (λ x. leaf (j * a * 2 ^ i + x)) i y
    (λ x c d.
    ap (λ (n : ℕ). hash_in heap (n + x)) (sym e) ∙ w.leaves x (omega arith) ∙ ap (λ (n : ℕ). leaf (n + x)) t)
    ∙ node_shift leaf i (j * a) y

-- its first hash is the node above all of them
pub heap_top : (leaf : ℕ → List ℕ) (k j : ℕ) (heap : List ℕ) → Worked leaf (2 ^ k) j heap → cut heap 32 32 ≡ node leaf k j
heap_top leaf k j heap w =
    let z : k - k ≡ 0 = omega arith in
    let q = heap_node leaf k j heap w k 0 (omega arith) (omega (arith, pow_pos (k - k))) in
    let o : 2 ^ (k - k) ≡ 1 = ap (λ (n : ℕ). 2 ^ n) z in
    let x : 2 ^ (k - k) + 0 ≡ 1 = omega arith in
    let y : j * 2 ^ (k - k) + 0 ≡ j = ap (λ (n : ℕ). j * n + 0) o ∙ omega arith in
    sym (ap (λ (n : ℕ). hash_in heap n) x) ∙ q ∙ ap (node leaf k) y

-- ---- leaves past the run

pub node_beyond : (leaf : ℕ → List ℕ) (v : List ℕ) (from : ℕ) → ((i : ℕ) → from ≤ i → leaf i ≡ v) → (k j : ℕ) → from ≤ j * 2 ^ k → node leaf k j ≡ raised v k
unfolding node raised
node_beyond leaf v from h zero j l = h j (omega arith)
node_beyond leaf v from h (suc k) j l =
    ap₂ (λ (a b : List ℕ). pair_hash a b)
    (node_beyond leaf v from h k (2 * j) (omega (arith, left_start j k)))
    (node_beyond leaf v from h k (2 * j + 1) (omega (arith, left_start j k, right_start j k)))

-- ---- what the leaves may be

pub over_layer : (layer past : List ℕ) (p : ℕ) → past ≡ pad_value p → Over layer past (layer_leaf layer p)
unfolding layer_leaf
over_layer layer past p e =
    record {
      within = λ i h. rw (lt-ltb i (length layer / 32) h) refl;
      beyond = λ i h. rw (le-ltb i (length layer / 32) h) (sym e);
    }

-- the same of any subtree: a node depends only on the leaves below it, wherever they are counted from
pub node_moved : (f g : ℕ → List ℕ) (k a c : ℕ) → ((y : ℕ) → y < 2 ^ k → f (a * 2 ^ k + y) ≡ g (c * 2 ^ k + y)) → node f k a ≡ node g k c
node_moved f g k a c h =
    let z : a ≡ a + 0 = omega arith in
    let z' : c + 0 ≡ c = omega arith in
    ap (node f k) z ∙ sym (node_shift f k a 0) ∙ node_same (λ x. f (a * 2 ^ k + x)) (λ x. g (c * 2 ^ k + x)) k 0 (λ x l u. h x (omega (arith, one-mul (2 ^ k))))
    ∙ node_shift g k c 0 ∙ ap (node g k) z'

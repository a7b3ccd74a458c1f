-- Laws of the finished nodes: one more leaf makes them those of one more block.
-- Assumes nothing.
use Rattle.std.specs.Prelude.{◌≡◌, cond, List, ◌++◌, ◌⊎◌, get_or, eqb, ℕ, zero, suc, ◌+◌, ◌-◌, ◌*◌, ◌/◌, ◌%◌, ◌^◌, ◌≤◌, ◌<◌}
use Rattle.std.proofs.Math.Path.{refl, ap, ap₂}
use Rattle.std.proofs.Common.{sym, subst, ◌∙◌, inl, inr, add-mul, one-mul, mul_assoc, mul_comm, div-lt_iff_lt-mul, le-div_iff_mul-le, ext_get_or, pow_pos, pow-add, eq-eqb, ne_eqb, arith}
use Rattle.std.proofs.Math.Nat.{pow-succ', div-div-eq-div-mul, mul-div_cancel_left}
use Rattle.std.proofs.Math.Decide.{dec_lt, ℕ_discrete}
use Rattle.std.proofs.Math.ListN.{length, length-append}
use Rattle.octets.specs.Octets.{Octets, cut, pasted, zero_hash}
use Rattle.octets.specs.OctetsLaws.{get_or_cut, pasted_length, cut_pasted_other, cut_pasted_same, cut_append_left, cut_append_right, zero_octets}
use Rattle.sha256.specs.Sha256.{pair_hash}
use Rattle.tree.specs.Values.{node}
use Rattle.tree.proofs.ValuesLaws.{node_octets}
use Rattle.history.specs.Growing.{node_at, finishing}
use Rattle.history.specs.HistoryOf.{last_of, nodes_of}

-- ---- a row of nodes

-- a row is known by its nodes
pub nodes_same : (n : ℕ) (a b : List ℕ) → length a ≡ 32 * n → length b ≡ 32 * n → ((k : ℕ) → k < n → node_at a k ≡ node_at b k) → a ≡ b
unfolding node_at
nodes_same n a b la lb h =
    ext_get_or 0 a b (la ∙ sym lb)
    (λ i l.
    let e : 32 * (i / 32) + i % 32 ≡ i = omega arith in
    ap (λ (j : ℕ). get_or a j 0) (sym e)
    ∙ sym (get_or_cut a (32 * (i / 32)) 32 (i % 32) (omega arith))
    ∙ ap (λ (s : List ℕ). get_or s (i % 32) 0) (h (i / 32) (omega arith))
    ∙ get_or_cut b (32 * (i / 32)) 32 (i % 32) (omega arith)
    ∙ ap (λ (j : ℕ). get_or b j 0) e)

-- the node that was put
pub node_put : (a h : List ℕ) (k : ℕ) → length h ≡ 32 → 32 * k + 32 ≤ length a → node_at (pasted a (32 * k) h) k ≡ h
unfolding node_at
node_put a h k lh l = cut_pasted_same a (32 * k) h 32 lh l

-- the others stay
pub node_other : (a h : List ℕ) (k j : ℕ) → length h ≡ 32 → 32 * k + 32 ≤ length a → 32 * j + 32 ≤ length a → (j < k) ⊎ (k < j) → node_at (pasted a (32 * k) h) j ≡ node_at a j
unfolding node_at
node_other a h k j lh l m w =
    cut_pasted_other a (32 * k) h (omega arith) (32 * j) 32 m (elim w [ inl x ↦ inl (omega arith) | inr x ↦ inr (omega arith) ])

module _ (leaf : ℕ → List ℕ) (each : (i : ℕ) → Octets 32 (leaf i)) where
  pub last_octets : (k c : ℕ) → Octets 32 (last_of leaf k c)
  unfolding last_of
  last_octets k c = by_case (ℕ_discrete c 0)
    where
      by_case : Dec (c ≡ 0) → Octets 32 (cond (eqb c 0) zero_hash (node leaf k (c - 1)))
      by_case (yes e) = rw (eq-eqb c 0 e) zero_octets
      by_case (no n) = rw (ne_eqb c 0 n) (node_octets leaf each k (c - 1))

  pub nodes_length : (b n : ℕ) → length (nodes_of leaf b n) ≡ 32 * n
  unfolding nodes_of
  nodes_length b zero = refl
  nodes_length b (suc n) =
      length-append (nodes_of leaf b n) (last_of leaf n (b / 2 ^ n)) ∙ omega (arith, nodes_length b n, (last_octets n (b / 2 ^ n)).size)

  -- each of them
  pub nodes_at : (b n k : ℕ) → k < n → node_at (nodes_of leaf b n) k ≡ last_of leaf k (b / 2 ^ k)
  unfolding nodes_of node_at
  nodes_at b zero k l = absurd (omega arith)
  nodes_at b (suc n) k l = by_side (dec_lt k n) (nodes_at b n k)
    where
      by_side : Dec (k < n) → (k < n → cut (nodes_of leaf b n) (32 * k) 32 ≡ last_of leaf k (b / 2 ^ k))
          → cut (nodes_of leaf b n ++ last_of leaf n (b / 2 ^ n)) (32 * k) 32 ≡ last_of leaf k (b / 2 ^ k)
      by_side (yes m) r = cut_append_left (nodes_of leaf b n) (last_of leaf n (b / 2 ^ n)) (32 * k) 32 (omega (arith, nodes_length b n)) ∙ r m
      by_side (no g) r =
          let e : n ≡ k = omega arith in
          cut_append_right (nodes_of leaf b n) (last_of leaf n (b / 2 ^ n)) (32 * k) 32 (omega (arith, nodes_length b n)) (last_octets n (b / 2 ^ n)).size
          ∙ ap (λ (m : ℕ). last_of leaf m (b / 2 ^ m)) e

  -- where there is a finished node, it is the last one
  pub last_some : (k c : ℕ) → 0 < c → last_of leaf k c ≡ node leaf k (c - 1)
  unfolding last_of
  last_some k c l = rw (ne_eqb c 0 (λ e. omega arith))

  -- ---- one leaf more

  -- a right child and its left sibling give the parent
  pub parent_of : (k i : ℕ) → i % 2 ≡ 1 → pair_hash (node leaf k (i - 1)) (node leaf k i) ≡ node leaf (suc k) (i / 2)
  unfolding node
  parent_of k i e =
      let l : i - 1 ≡ 2 * (i / 2) = omega arith in
      let r : i ≡ 2 * (i / 2) + 1 = omega arith in
      ap₂ (λ (x y : ℕ). pair_hash (node leaf k x) (node leaf k y)) l r

  -- what one leaf more does from layer k on, where it finishes node i there: b + 1 = (i + 1)·2^k
  pub finishing_law : (f k b i : ℕ) (nodes hash : List ℕ) → length nodes ≡ 32 * (k + f) → b + 1 ≡ (i + 1) * 2 ^ k → hash ≡ node leaf k i
      → ((j : ℕ) → j < k → node_at nodes j ≡ last_of leaf j ((b + 1) / 2 ^ j))
      → ((j : ℕ) → k ≤ j → j < k + f → node_at nodes j ≡ last_of leaf j (b / 2 ^ j))
      → (length (finishing f nodes k i hash) ≡ 32 * (k + f)) × ((j : ℕ) → j < k + f → node_at (finishing f nodes k i hash) j ≡ last_of leaf j ((b + 1) / 2 ^ j))
  unfolding finishing
  finishing_law zero k b i nodes hash ln eb eh below above = (ln, λ j l. below j (omega arith))
  finishing_law (suc f) k b i nodes hash ln eb eh below above =
      by_side (ℕ_discrete (i % 2) 1)
      (finishing_law f (suc k) b (i / 2) (pasted nodes (32 * k) hash) (pair_hash (node_at nodes k) hash))
    where
      lh : length hash ≡ 32
      lh = ap length eh ∙ (node_octets leaf each k i).size

      room : 32 * k + 32 ≤ length nodes
      room = omega (arith, ln)

      len : length (pasted nodes (32 * k) hash) ≡ 32 * (k + suc f)
      len = pasted_length nodes (32 * k) hash (omega (arith, lh, room)) ∙ ln

      i_is : b / 2 ^ k ≡ i
      i_is =
          let lower : i ≤ b / 2 ^ k = (le-div_iff_mul-le (pow_pos k)).1 (omega (arith, eb, add-mul i 1 (2 ^ k), one-mul (2 ^ k), pow_pos k)) in
          let upper : b / 2 ^ k < i + 1 = (div-lt_iff_lt-mul (pow_pos k)).1 (omega (arith, eb)) in
          omega arith

      next_is : (b + 1) / 2 ^ k ≡ i + 1
      next_is = ap (λ (x : ℕ). x / 2 ^ k) (eb ∙ mul_comm (i + 1) (2 ^ k)) ∙ mul-div_cancel_left (i + 1) (pow_pos k)

      here : node_at (pasted nodes (32 * k) hash) k ≡ last_of leaf k ((b + 1) / 2 ^ k)
      here =
          node_put nodes hash k lh room ∙ eh
          ∙ sym (ap (last_of leaf k) next_is ∙ last_some k (i + 1) (omega arith) ∙ (let e : i + 1 - 1 ≡ i = omega arith in ap (node leaf k) e))

      lower_ones : (j : ℕ) → j < suc k → node_at (pasted nodes (32 * k) hash) j ≡ last_of leaf j ((b + 1) / 2 ^ j)
      lower_ones j l = by_place (dec_lt j k)
        where
          by_place : Dec (j < k) → node_at (pasted nodes (32 * k) hash) j ≡ last_of leaf j ((b + 1) / 2 ^ j)
          by_place (yes m) = node_other nodes hash k j lh room (omega (arith, ln)) (inl m) ∙ below j m
          by_place (no g) =
              let e : k ≡ j = omega arith in
              subst (λ (x : ℕ). node_at (pasted nodes (32 * k) hash) x ≡ last_of leaf x ((b + 1) / 2 ^ x)) e here

      upper_ones : (j : ℕ) → suc k ≤ j → j < k + suc f → node_at (pasted nodes (32 * k) hash) j ≡ last_of leaf j (b / 2 ^ j)
      upper_ones j l m = node_other nodes hash k j lh room (omega (arith, ln)) (inr (omega arith)) ∙ above j (omega arith) m

      by_side : Dec (i % 2 ≡ 1)
          → (length (pasted nodes (32 * k) hash) ≡ 32 * (suc k + f) → b + 1 ≡ (i / 2 + 1) * 2 ^ suc k → pair_hash (node_at nodes k) hash ≡ node leaf (suc k) (i / 2)
          → ((j : ℕ) → j < suc k → node_at (pasted nodes (32 * k) hash) j ≡ last_of leaf j ((b + 1) / 2 ^ j))
          → ((j : ℕ) → suc k ≤ j → j < suc k + f → node_at (pasted nodes (32 * k) hash) j ≡ last_of leaf j (b / 2 ^ j))
          → (length (finishing f (pasted nodes (32 * k) hash) (suc k) (i / 2) (pair_hash (node_at nodes k) hash)) ≡ 32 * (suc k + f))
          × ((j : ℕ) → j < suc k + f → node_at (finishing f (pasted nodes (32 * k) hash) (suc k) (i / 2) (pair_hash (node_at nodes k) hash)) j ≡ last_of leaf j ((b + 1) / 2 ^ j)))
          → (length (cond (eqb (i % 2) 1) (finishing f (pasted nodes (32 * k) hash) (suc k) (i / 2) (pair_hash (node_at nodes k) hash)) (pasted nodes (32 * k) hash)) ≡ 32 * (k + suc f))
          × ((j : ℕ) → j < k + suc f → node_at (cond (eqb (i % 2) 1) (finishing f (pasted nodes (32 * k) hash) (suc k) (i / 2) (pair_hash (node_at nodes k) hash)) (pasted nodes (32 * k) hash)) j ≡ last_of leaf j ((b + 1) / 2 ^ j))
      by_side (yes o) go =
          let s : suc k + f ≡ k + suc f = omega arith in
          let left : node_at nodes k ≡ node leaf k (i - 1) = above k (omega arith) (omega arith) ∙ ap (last_of leaf k) i_is ∙ last_some k i (omega arith) in
          let two : i + 1 ≡ 2 * (i / 2 + 1) = omega arith in
          let up : b + 1 ≡ (i / 2 + 1) * 2 ^ suc k =
          eb ∙ ap (λ (x : ℕ). x * 2 ^ k) (two ∙ mul_comm 2 (i / 2 + 1)) ∙ mul_assoc (i / 2 + 1) 2 (2 ^ k) ∙ ap (λ (x : ℕ). (i / 2 + 1) * x) (sym (pow-succ' 2 k)) in
          let r = go (len ∙ ap (λ (x : ℕ). 32 * x) (sym s)) up
          (ap₂ (λ (x y : List ℕ). pair_hash x y) left eh ∙ parent_of k i o)
          lower_ones
          (λ j l m. upper_ones j l (omega arith)) in
          rw (eq-eqb (i % 2) 1 o) (r.0 ∙ ap (λ (x : ℕ). 32 * x) s, λ j l. r.1 j (omega arith))
      by_side (no n) go =
          rw (ne_eqb (i % 2) 1 n) (len, λ j l. by_place j l (dec_lt j (suc k)))
        where
          even : i % 2 ≡ 0
          even = omega (arith, n)

          by_place : (j : ℕ) → j < k + suc f → Dec (j < suc k) → node_at (pasted nodes (32 * k) hash) j ≡ last_of leaf j ((b + 1) / 2 ^ j)
          by_place j l (yes m) = lower_ones j m
          by_place j l (no g) = upper_ones j (omega arith) l ∙ ap (last_of leaf j) (sym (same_above j (omega arith)))
            where
              same_above : (j : ℕ) → suc k ≤ j → (b + 1) / 2 ^ j ≡ b / 2 ^ j
              same_above j m =
                  let d : k + (1 + (j - suc k)) ≡ j = omega arith in
                  let t : 2 ^ j ≡ 2 ^ k * (2 * 2 ^ (j - suc k)) =
                  ap (λ (x : ℕ). 2 ^ x) (sym d) ∙ pow-add 2 k (1 + (j - suc k)) ∙ ap (λ (x : ℕ). 2 ^ k * x) (pow-add 2 1 (j - suc k)) in
                  let q : (n : ℕ) → n / 2 ^ j ≡ n / 2 ^ k / 2 / 2 ^ (j - suc k) = λ n.
                  ap (λ (x : ℕ). n / x) t ∙ sym (div-div-eq-div-mul n (2 ^ k) (2 * 2 ^ (j - suc k))) ∙ sym (div-div-eq-div-mul (n / 2 ^ k) 2 (2 ^ (j - suc k))) in
                  let h : (i + 1) / 2 ≡ i / 2 = omega arith in
                  q (b + 1) ∙ ap (λ (x : ℕ). x / 2 / 2 ^ (j - suc k)) next_is ∙ ap (λ (x : ℕ). x / 2 ^ (j - suc k)) h
                  ∙ sym (q b ∙ ap (λ (x : ℕ). x / 2 / 2 ^ (j - suc k)) i_is)

-- 5 tests the given hashes only; this is enough: where they are right at padding positions, so is every settled one.
-- Assumes nothing.
use Rattle.std.specs.Prelude.{◌≡◌, refl, true, cond, List, ℕ, zero, suc, ◌+◌, ◌-◌, ◌*◌, ◌/◌, ◌%◌, ◌^◌, ◌≤◌, ◌<◌, leb}
use Rattle.std.proofs.Common.{ap, ap₂, sym, ◌∙◌, inl, inr, arith, add-mul, one-mul, mul_assoc, mul-le-mul_right, div-add-mod', pow-add, le-leb}
use Rattle.std.proofs.Math.Bool.{and-eq-true_iff}
use Rattle.std.proofs.Math.Decide.{ℕ_discrete, dec_lt}
use Rattle.std.proofs.Math.ListN.{length}
use Rattle.octets.specs.Octets.{cut, same, zero_hash}
use Rattle.octets.specs.OctetsLaws.{same_true, cut_length}
use Rattle.sha256.specs.Sha256.{pair_hash}
use Rattle.tree.specs.Geometry.{Padding, covering, height, node_number}
use Rattle.tree.proofs.GeometryLaws.{covering_until_padding, padding_left, padding_right, node_number_distinct, node_number_parent, layer_doubles}
use Rattle.tree.specs.Values.{node, pad_value}
use Rattle.cells.specs.Entries.{Entry}
use Rattle.cells.specs.EntriesLaws.{In, in_cases, no_entry}
use Rattle.store.specs.Store.{blocks_of, height_of}
use Rattle.settling.specs.Subtree.{subtree, run_leaf}
use Rattle.settling.specs.SubtreeLaws.{run_leaf_in, run_leaf_past, subtree_value, subtree_top, subtree_same, number_below, spot_padding}
use Rattle.settling.specs.Path.{sibling, parent_value, uncle, path}
use Rattle.settling.specs.PathLaws.{sibling_even, sibling_odd, sibling_below, parent_even, parent_odd, path_cases}
use Rattle.header.specs.Header.{header_size, header_of, is_hashes, place_of, message_size}
use Rattle.header.specs.HeaderLaws.{rules_kept_lem, log_some, top_inside}
use Rattle.messages.specs.Padded.{all_from, run_padded, uncle_padded, uncles_padded}
use Rattle.messages.specs.Take.{run_of, uncles_of, given, settled, padded, place_in}
use Rattle.messages.specs.Asks.{RulesPassed}

-- in a tree of height h over b blocks: where position n is padding, v is its layer's padding value
abbrev pub Pads : ℕ → ℕ → ℕ → List ℕ → Type 0
Pads h b n v = (l i : ℕ) → l ≤ h → i < 2 ^ (h - l) → n ≡ node_number h l i → Padding b l i → v ≡ pad_value l

-- ---- a run

all_from_at : (run v : List ℕ) (from n : ℕ) → all_from run v from n ≡ true → (j : ℕ) → from ≤ j → j < n → cut run (32 * j) 32 ≡ v
unfolding all_from
all_from_at run v from zero a j l b = absurd (omega arith)
all_from_at run v from (suc n) a j l b =
    let w = (and-eq-true_iff (all_from run v from n) (cond (leb from n) (same (cut run (32 * n) 32) v) true)).0 a in
    elim (ℕ_discrete j n) [
      | yes e ↦
          let t : from ≤ n = omega arith in
          let q : same (cut run (32 * n) 32) v ≡ true = rw (le-leb from n t) at w.1 in
          rw e (same_true (cut run (32 * n) 32) v q)
      | no ne ↦ all_from_at run v from n w.0 j l (omega arith)
    ]

-- the first position d layers below a padding position is padding
shift : (b base l i d : ℕ) → l ≡ d + base → Padding b l i → Padding b base (i * 2 ^ d)
unfolding Padding
shift b base l i d e pd =
    let pw : 2 ^ l ≡ 2 ^ d * 2 ^ base = ap (λ (z : ℕ). 2 ^ z) e ∙ pow-add 2 d base in
    let m : i * 2 ^ l ≡ i * 2 ^ d * 2 ^ base = ap (λ (z : ℕ). i * z) pw ∙ sym (mul_assoc i (2 ^ d) (2 ^ base)) in
    omega arith

-- a run is as long as its hashes
pub run_size : (m : List ℕ) (c : ℕ) → header_size + 32 * c ≤ length m → length (run_of m c) ≡ 32 * c
unfolding run_of
run_size m c h = cut_length m header_size (32 * c) h

module _ (run : List ℕ) (h b base k y : ℕ) (size : length run ≡ 32 * 2 ^ k) (high : base + k ≤ h) (inside : y < 2 ^ (h - (base + k)))
    (right : run_padded run b base (y * 2 ^ k) (2 ^ k) ≡ true) where
  count : length run / 32 ≡ 2 ^ k
  count = omega arith

  leaf_right : (j : ℕ) → covering b base - y * 2 ^ k ≤ j → run_leaf run (pad_value base) j ≡ pad_value base
  unfolding run_padded
  leaf_right j l =
      elim (dec_lt j (2 ^ k)) [
        | yes c ↦
            let q : j < length run / 32 = omega (arith, count) in
            run_leaf_in run (pad_value base) j q ∙ all_from_at run (pad_value base) (covering b base - y * 2 ^ k) (2 ^ k) right j l c
        | no g ↦ run_leaf_past run (pad_value base) j (omega (arith, count))
      ]

  same_run : subtree (run_leaf run zero_hash) k (node_number h (base + k) y) 0 ≡ subtree (run_leaf run (pad_value base)) k (node_number h (base + k) y) 0
  same_run =
      subtree_same (run_leaf run zero_hash) (run_leaf run (pad_value base)) k (node_number h (base + k) y) 0
      (λ i a c.
      let q : i < length run / 32 = omega (arith, count, one-mul (2 ^ k)) in
      run_leaf_in run zero_hash i q ∙ sym (run_leaf_in run (pad_value base) i q))

  -- every position of the run's subtree
  pub run_pads : (e : Entry) → In e (subtree (run_leaf run zero_hash) k (node_number h (base + k) y) 0) → Pads h b e.at e.hash
  run_pads e x l i lh ib q pd =
      let leaf = run_leaf run (pad_value base) in
      let n = node_number h (base + k) y in
      let P = subtree_value leaf k n 0 e (rw same_run at x) in
      let d : ℕ = P.layers in
      let o : ℕ = P.offset in
      let r : P.layers ≤ k = P.reach in
      let nb = number_below h (base + k) y P.layers P.offset high (omega arith) in
      let ex : h - (base + k) + P.layers ≡ h - (base + k - P.layers) = omega arith in
      let pw : 2 ^ (h - (base + k)) * 2 ^ P.layers ≡ 2 ^ (h - (base + k - P.layers)) = sym (pow-add 2 (h - (base + k)) P.layers) ∙ ap (λ (z : ℕ). 2 ^ z) ex in
      let up : (y + 1) * 2 ^ P.layers ≤ 2 ^ (h - (base + k)) * 2 ^ P.layers = mul-le-mul_right (2 ^ P.layers) (omega arith) in
      let ib2 : y * 2 ^ P.layers + P.offset < 2 ^ (h - (base + k - P.layers)) = omega (arith, P.inside, add-mul y 1 (2 ^ P.layers), one-mul (2 ^ P.layers)) in
      let D = node_number_distinct h l i (base + k - P.layers) (y * 2 ^ P.layers + P.offset) lh (omega arith) ib ib2 (sym q ∙ P.position ∙ nb) in
      let le : l ≡ base + (k - P.layers) = omega (arith, D.0) in
      let cv = covering_until_padding b base (i * 2 ^ (k - P.layers)) (shift b base l i (k - P.layers) (omega arith) pd) in
      let e1 : i * 2 ^ (k - P.layers) ≡ y * 2 ^ k + P.offset * 2 ^ (k - P.layers) =
      ap (λ (z : ℕ). z * 2 ^ (k - P.layers)) D.1 ∙ split P.layers P.offset P.reach in
      let e2 : (0 * 2 ^ P.layers + P.offset) * 2 ^ (k - P.layers) ≡ P.offset * 2 ^ (k - P.layers) = ap (λ (z : ℕ). z * 2 ^ (k - P.layers)) (zeros P.layers P.offset) in
      spot_padding leaf base (covering b base - y * 2 ^ k) leaf_right k n 0 e P (omega arith) ∙ ap pad_value (sym le)
    where
      zeros : (d o : ℕ) → 0 * 2 ^ d + o ≡ o
      zeros d o = omega arith

      split : (d o : ℕ) → d ≤ k → (y * 2 ^ d + o) * 2 ^ (k - d) ≡ y * 2 ^ k + o * 2 ^ (k - d)
      split d o r =
          let ex : d + (k - d) ≡ k = omega arith in
          add-mul (y * 2 ^ d) o (2 ^ (k - d))
          ∙ ap (λ (z : ℕ). z + o * 2 ^ (k - d)) (mul_assoc y (2 ^ d) (2 ^ (k - d)) ∙ ap (λ (z : ℕ). y * z) (sym (pow-add 2 d (k - d)) ∙ ap (λ (z : ℕ). 2 ^ z) ex))

-- ---- a path

-- beside number x of a layer stands the number beside x
pub sibling_number : (h l x : ℕ) → l < h → sibling (node_number h l x) ≡ node_number h l (sibling x)
unfolding node_number
sibling_number h l x k =
    let d = layer_doubles h l k in
    elim (ℕ_discrete (x % 2) 0) [
      | yes z ↦
          let w : (2 ^ (h - l) + x) % 2 ≡ 0 = omega arith in
          omega (arith, sibling_even x z, sibling_even (2 ^ (h - l) + x) w)
      | no z ↦
          let w : (2 ^ (h - l) + x) % 2 ≡ 0 → ⊥ = λ q. omega arith in
          omega (arith, sibling_odd x z, sibling_odd (2 ^ (h - l) + x) w)
    ]

-- below a padding position both are
padding_both : (b l x : ℕ) → Padding b (suc l) (x / 2) → Padding b l x × Padding b l (sibling x)
padding_both b l x p =
    let a = padding_left b l (x / 2) p in
    let c = padding_right b l (x / 2) p in
    elim (ℕ_discrete (x % 2) 0) [
      | yes z ↦
          let ex : 2 * (x / 2) ≡ x = omega arith in
          let es : 2 * (x / 2) + 1 ≡ sibling x = omega (arith, sibling_even x z) in
          (rw ex at a, rw es at c)
      | no z ↦
          let ex : 2 * (x / 2) + 1 ≡ x = omega arith in
          let es : 2 * (x / 2) ≡ sibling x = omega (arith, sibling_odd x z) in
          (rw ex at c, rw es at a)
    ]

parent_pads : (n l : ℕ) (v w : List ℕ) → v ≡ pad_value l → w ≡ pad_value l → parent_value n v w ≡ pad_value (suc l)
unfolding pad_value
parent_pads n l v w p q =
    elim (ℕ_discrete (n % 2) 0) [
      | yes z ↦ parent_even n v w z ∙ ap₂ pair_hash p q
      | no z ↦ parent_odd n v w z ∙ ap₂ pair_hash q p
    ]

uncle_right : (hashes : List ℕ) (b i l x : ℕ) → uncle_padded hashes b i l x ≡ true → Padding b l (sibling x) → uncle hashes i ≡ pad_value l
unfolding uncle_padded
uncle_right hashes b i l x t p =
    let c = covering_until_padding b l (sibling x) p in
    let q : same (uncle hashes i) (pad_value l) ≡ true = rw (le-leb (covering b l) (sibling x) c) at t in
    same_true (uncle hashes i) (pad_value l) q

-- one position with its value, where its own padding is right
pub at_place : (h b l x : ℕ) (v : List ℕ) → l ≤ h → x < 2 ^ (h - l) → (Padding b l x → v ≡ pad_value l) → Pads h b (node_number h l x) v
at_place h b l x v lh xb f m j mh jb q pd =
    let D = node_number_distinct h l x m j lh mh xb jb q in
    f (rw (D.0, D.1) pd) ∙ ap pad_value D.0

-- every position of a path of uncles, if its start is right
pub path_pads : (h b : ℕ) (hashes : List ℕ) (i u l x : ℕ) (v : List ℕ) → l + u ≤ h → x < 2 ^ (h - l) → uncles_padded hashes b i u l x ≡ true
    → (Padding b l x → v ≡ pad_value l) → (e : Entry) → In e (path hashes i u (node_number h l x) v) → Pads h b e.at e.hash
unfolding uncles_padded path
path_pads h b hashes i zero l x v lh xb t f e k = absurd (no_entry k)
path_pads h b hashes i (suc u) l x v lh xb t f e k =
    let n = node_number h l x in
    let w = uncle hashes i in
    let lt : l < h = omega arith in
    let d = layer_doubles h l lt in
    let T = (and-eq-true_iff (uncle_padded hashes b i l x) (uncles_padded hashes b (i + 1) u (suc l) (x / 2))).0 t in
    let half : x / 2 < 2 ^ (h - suc l) = omega arith in
    let pp : Padding b (suc l) (x / 2) → parent_value (node_number h l x) v (uncle hashes i) ≡ pad_value (suc l) =
    λ p. (let B = padding_both b l x p in parent_pads (node_number h l x) l v (uncle hashes i) (f B.0) (uncle_right hashes b i l x T.0 B.1)) in
    elim (path_cases hashes i u (node_number h l x) v e k) [
      | inl a ↦
          rw (a.0, a.1, sibling_number h l x lt)
          (at_place h b l (sibling x) (uncle hashes i) (omega arith) (sibling_below x (2 ^ (h - l)) xb (omega arith)) (uncle_right hashes b i l x T.0))
      | inr r ↦ elim r [
        | inl a ↦
            rw (a.0, a.1, ← node_number_parent h l x lt)
            (at_place h b (suc l) (x / 2) (parent_value (node_number h l x) v (uncle hashes i)) (omega arith) half pp)
        | inr z ↦
            path_pads h b hashes (i + 1) u (suc l) (x / 2) (parent_value (node_number h l x) v (uncle hashes i)) (omega arith) half T.1 pp e
            (rw (node_number_parent h l x lt) z)
      ]
    ]

-- ---- a message

-- a well-formed message with its given padding right settles every padding position with its padding value
pub settled_pads : (s m : List ℕ) → RulesPassed (is_hashes m) s m → length m ≡ message_size (header_of m) → padded m (header_of m) (place_in s m) (blocks_of s) ≡ true
    → (e : Entry) → In e (settled m (place_in s m)) → Pads (height_of s) (blocks_of s) e.at e.hash
unfolding settled padded place_of given message_size
settled_pads s m P size pd e x =
    let X = header_of m in
    let b = blocks_of s in
    let h = height_of s in
    let K = rules_kept_lem X h P.rules in
    let k = height X.len in
    let y = X.index / X.len in
    let u = X.proof - (height X.len - 1) in
    let pw : 2 ^ height X.len ≡ X.len = K.power in
    let one : 1 ≤ height X.len = log_some X.len K.two in
    let ix : y * 2 ^ height X.len ≡ X.index = ap (λ (z : ℕ). y * z) pw ∙ exact X.index X.len K.multiple in
    let W = (and-eq-true_iff (run_padded (run_of m X.len) b X.base X.index X.len) (uncles_padded (uncles_of m X.len u) b 0 u (X.base + height X.len) y)).0 pd in
    let rl : length (run_of m (2 ^ height X.len)) ≡ 32 * 2 ^ height X.len = run_size m (2 ^ height X.len) (omega arith) in
    let rp : run_padded (run_of m (2 ^ height X.len)) b X.base (y * 2 ^ height X.len) (2 ^ height X.len) ≡ true =
    ap₂ (λ (z j : ℕ). run_padded (run_of m z) b X.base j z) pw ix ∙ W.0 in
    let up : uncles_padded (uncles_of m (2 ^ height X.len) u) b 0 u (X.base + height X.len) y ≡ true =
    ap (λ (z : ℕ). uncles_padded (uncles_of m z u) b 0 u (X.base + height X.len) y) pw ∙ W.1 in
    let ins = top_inside X h K in
    let leaf = run_leaf (run_of m (2 ^ height X.len)) zero_hash in
    let n = node_number h (X.base + height X.len) y in
    let v = node leaf (height X.len) 0 in
    let RP = run_pads (run_of m (2 ^ height X.len)) h b X.base (height X.len) y rl K.within ins rp in
    elim (in_cases (subtree leaf (height X.len) n 0) (path (uncles_of m (2 ^ height X.len) u) 0 u n v) x) [
      | inl a ↦ RP e a
      | inr c ↦
          path_pads h b (uncles_of m (2 ^ height X.len) u) 0 u (X.base + height X.len) y v (omega (arith, K.within, K.above)) ins up
          (λ q. RP _ (subtree_top leaf (height X.len) n 0) (X.base + height X.len) y K.within ins refl q) e c
    ]
  where
    exact : (i d : ℕ) → i % d ≡ 0 → i / d * d ≡ i
    exact i d z = omega (arith, div-add-mod' i d)

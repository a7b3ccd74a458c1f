-- What a message settles, by layer and index, are the positions which the contracts speak of.
-- Assumes nothing.
use Rattle.std.specs.Prelude.{◌≡◌, List, ◌⊎◌, ◌↔◌, ℕ, zero, suc, ◌+◌, ◌-◌, ◌*◌, ◌/◌, ◌%◌, ◌^◌, ◌≤◌, ◌<◌}
use Rattle.std.proofs.Math.Path.{refl, ap}
use Rattle.std.proofs.Common.{sym, ◌∙◌, subst, div-add-mod', arith}
use Rattle.std.proofs.Math.Logic.{inl, inr}
use Rattle.std.proofs.Math.Nat.{pow-succ', pow-zero, div-div-eq-div-mul}
use Rattle.std.proofs.Math.Decide.{ℕ_discrete}
use Rattle.std.proofs.Math.ListN.{length}
use Rattle.octets.specs.Octets.{cut, zero_hash}
use Rattle.octets.specs.OctetsLaws.{cut_cut, cut_length}
use Rattle.tree.specs.Geometry.{height, node_number}
use Rattle.tree.proofs.GeometryLaws.{node_number_parent}
use Rattle.tree.specs.Values.{node}
use Rattle.cells.specs.Entries.{Entry}
use Rattle.cells.specs.EntriesLaws.{In, here, there, Has, has_same, in_left, in_right, in_cases, no_entry, Consistent}
use Rattle.store.specs.Store.{height_of}
use Rattle.store.specs.StoreLaws.{tree_says}
use Rattle.settling.specs.Subtree.{subtree}
use Rattle.settling.specs.SubtreeLaws.{FamilyIn, subtree_has, run_leaf_in}
use Rattle.settling.specs.Path.{sibling, uncle, ancestor, parent_value, path}
use Rattle.settling.specs.PathLaws.{path_cases, sibling_even, sibling_odd, sibling_below, parent_even, parent_odd}
use Rattle.settling.specs.SettledLaws.{settled_consistent, settled_family}
use Rattle.header.specs.Header.{header_size, header_of, is_hashes, place_of, Kept}
use Rattle.header.specs.HeaderLaws.{rules_kept_lem, log_some, top_inside}
use Rattle.messages.specs.Take.{run_of, given, uncles_of, settled, anchor, worked, place_in}
use Rattle.messages.specs.Asks.{RulesPassed}
use Rattle.messages.specs.TakeLaws.{passed, placed}
use Rattle.words.specs.Messages.{uncles_in, hash_in, top_layer, top_index, anchor_layer, anchor_index, Settles, in_run, as_uncle, parent}
use Rattle.knowledge.specs.Chains.{Chain, worked_chains, chain_is_worked}
use Rattle.knowledge.specs.RightPadding.{sibling_number}
use Rattle.knowledge.specs.Conflict.{anchor_has}
use Rattle.knowledge.specs.ReadBack.{uncle_cut, run_number, run_in_layer, uncle_layer, uncle_number, uncle_in_layer}
use Rattle.knowledge.specs.Over.{Entered, Found, entered_parent, found_at, top_over, subtree_found}
use Rattle.knowledge.specs.AnchorHeld.{anchor_number, anchor_in_tree}
use Rattle.knowledge.specs.TakenWhen.{Formed}

-- ---- each of these is an entry

-- each uncle stands in the path, beside it
path_uncle : (hashes : List ℕ) (a u n : ℕ) (v : List ℕ) (i : ℕ) → i < u → Has (sibling (ancestor i n)) (uncle hashes (a + i)) (path hashes a u n v)
unfolding path ancestor
path_uncle hashes a zero n v i l = let w : ⊥ = omega arith in absurd w
path_uncle hashes a (suc u) n v zero l =
    has_same (path hashes a (suc u) n v) (sibling n) (sibling n) (uncle hashes a) (uncle hashes (a + 0)) refl (let q : a ≡ a + 0 = omega arith in ap (uncle hashes) q) here
path_uncle hashes a (suc u) n v (suc i) l =
    let q : a + 1 + i ≡ a + suc i = omega arith in
    there (there (has_same (path hashes (a + 1) u (n / 2) (parent_value n v (uncle hashes a))) (sibling (ancestor i (n / 2))) (sibling (ancestor i (n / 2))) (uncle hashes (a + 1 + i)) (uncle hashes (a + suc i)) refl (ap (uncle hashes) q)
    (path_uncle hashes (a + 1) u (n / 2) (parent_value n v (uncle hashes a)) i (omega arith))))

module _ (s m : List ℕ) (W : Formed s m) where
  P : RulesPassed (is_hashes m) s m
  P = passed (is_hashes m) s m W.header

  kept : Kept (header_of m) (height_of s)
  kept = rules_kept_lem (header_of m) (height_of s) P.rules

  k_is : (place_in s m).k ≡ height (header_of m).len
  unfolding place_of
  k_is = refl

  -- the uncles, and the run's top, as 01 has them
  pub u_is : (place_in s m).u ≡ uncles_in m
  unfolding place_of
  u_is = refl

  pub top_is : (place_in s m).top ≡ node_number (height_of s) (top_layer m) (top_index m)
  unfolding place_of
  top_is = refl

  -- hash j of the base run, and uncle j, are the message's hashes in their order
  pub given_is : (j : ℕ) → j < 2 ^ (place_in s m).k → given m (place_in s m).k j ≡ hash_in m j
  unfolding given run_of
  given_is j l =
      let q = placed (is_hashes m) s m P in
      let long : length (cut m header_size (32 * 2 ^ (place_in s m).k)) ≡ 32 * 2 ^ (place_in s m).k = cut_length m header_size (32 * 2 ^ (place_in s m).k) (omega (arith, q.size, W.size)) in
      run_leaf_in (cut m header_size (32 * 2 ^ (place_in s m).k)) zero_hash j (omega (arith, long)) ∙ cut_cut m header_size (32 * 2 ^ (place_in s m).k) (32 * j) 32 (omega arith)

  pub uncle_is : (j : ℕ) → j < (place_in s m).u → uncle (uncles_of m (2 ^ (place_in s m).k) (place_in s m).u) j ≡ hash_in m ((header_of m).len + j)
  uncle_is j l =
      let q = placed (is_hashes m) s m P in
      uncle_cut m (2 ^ (place_in s m).k) (place_in s m).u j l ∙ ap (λ (y : ℕ). hash_in m (y + j)) q.power

  -- each hash of the run, and each uncle, is an entry
  pub run_entry : (j : ℕ) → j < 2 ^ (place_in s m).k → Has ((place_in s m).top * 2 ^ (place_in s m).k + j) (given m (place_in s m).k j) (settled m (place_in s m))
  unfolding settled node
  run_entry j l =
      let p = place_in s m in
      let leaf = given m p.k in
      let A = subtree leaf p.k p.top 0 in
      let e : p.k - p.k ≡ 0 = omega arith in
      let q : 0 * 2 ^ p.k + j ≡ j = omega arith in
      in_left A (path (uncles_of m (2 ^ p.k) p.u) 0 p.u p.top (node leaf p.k 0))
      (has_same A (p.top * 2 ^ p.k + j) (p.top * 2 ^ p.k + j) (node leaf (p.k - p.k) (0 * 2 ^ p.k + j)) (leaf j) refl
      (ap (λ (y : ℕ). node leaf y (0 * 2 ^ p.k + j)) e ∙ ap leaf q) (subtree_has leaf p.k p.top 0 p.k j (omega arith) l))

  pub uncle_entry : (i : ℕ) → i < (place_in s m).u
      → Has (sibling (ancestor i (place_in s m).top)) (uncle (uncles_of m (2 ^ (place_in s m).k) (place_in s m).u) i) (settled m (place_in s m))
  unfolding settled
  uncle_entry i l =
      let p = place_in s m in
      let us = uncles_of m (2 ^ p.k) p.u in
      let q : 0 + i ≡ i = omega arith in
      let B = path us 0 p.u p.top (node (given m p.k) p.k 0) in
      in_right (subtree (given m p.k) p.k p.top 0) B
      (has_same B (sibling (ancestor i p.top)) (sibling (ancestor i p.top)) (uncle us (0 + i)) (uncle us i) refl (ap (uncle us) q)
      (path_uncle us 0 p.u p.top (node (given m p.k) p.k 0) i l))

  consistent : Consistent (settled m (place_in s m))
  unfolding settled
  consistent =
      let p = place_in s m in
      settled_consistent (given m p.k) (uncles_of m (2 ^ p.k) p.u) p.k p.top 0 0 p.u (node (given m p.k) p.k 0) (placed (is_hashes m) s m P).anchor

  families : (e : Entry) → In e (settled m (place_in s m)) → (e.at ≡ ancestor (place_in s m).u (place_in s m).top) ⊎ FamilyIn (settled m (place_in s m)) e.at
  unfolding settled
  families =
      let p = place_in s m in
      settled_family (given m p.k) (uncles_of m (2 ^ p.k) p.u) p.k p.top 0 0 p.u (placed (is_hashes m) s m P).anchor

  -- what the message settles are entries, at positions of the tree
  pub settles_entered : (l i : ℕ) (v : List ℕ) → Settles m l i v → Entered (height_of s) (settled m (place_in s m)) l i v
  settles_entered l i v (in_run j a) =
      let X = header_of m in
      let a' : j < 2 ^ height (header_of m).len = omega (arith, kept.power) in
      let w : j < 2 ^ (place_in s m).k = rw k_is a' in
      record {
        low = omega (arith, kept.within);
        inside = run_in_layer (header_of m) (height_of s) kept j a';
        has =
            has_same (settled m (place_in s m)) ((place_in s m).top * 2 ^ (place_in s m).k + j) (node_number (height_of s) X.base (X.index + j)) (given m (place_in s m).k j) (hash_in m j)
            (run_number (header_of m) (height_of s) kept j a') (given_is j w) (run_entry j w);
      }
  settles_entered l i v (as_uncle j a) =
      let X = header_of m in
      let a' : j < (place_in s m).u = rw u_is a in
      let lay = uncle_layer (header_of m) (height_of s) kept j a' in
      record {
        low = omega arith;
        inside = uncle_in_layer (header_of m) (height_of s) kept j a';
        has =
            has_same (settled m (place_in s m)) (sibling (ancestor j (place_in s m).top)) (node_number (height_of s) (top_layer m + j) (sibling (top_index m / 2 ^ j))) (uncle (uncles_of m (2 ^ (place_in s m).k) (place_in s m).u) j) (hash_in m (X.len + j))
            (uncle_number (header_of m) (height_of s) kept j a') (uncle_is j a') (uncle_entry j a');
      }
  settles_entered l i v (parent b c x y p q) =
      entered_parent (height_of s) (ancestor (place_in s m).u (place_in s m).top) (settled m (place_in s m)) consistent families b c x y
      (settles_entered b (2 * c) x p) (settles_entered b (2 * c + 1) y q)

-- ---- and each entry is one of these

-- beside an even number stands the next, beside an odd one the one before
beside : (m : List ℕ) (l x n : ℕ) (v w : List ℕ) → n % 2 ≡ x % 2 → Settles m l x v → Settles m l (sibling x) w → Settles m (suc l) (x / 2) (parent_value n v w)
beside m l x n v w e p q =
    elim (ℕ_discrete (x % 2) 0) [
      | yes z ↦
          let a : x ≡ 2 * (x / 2) = omega arith in
          let b : sibling x ≡ 2 * (x / 2) + 1 = omega (arith, sibling_even x z) in
          let z' : n % 2 ≡ 0 = e ∙ z in
          rw (parent_even n v w z') (parent l (x / 2) v w (subst (λ (y : ℕ). Settles m l y v) a p) (subst (λ (y : ℕ). Settles m l y w) b q))
      | no z ↦
          let a : x ≡ 2 * (x / 2) + 1 = omega arith in
          let b : sibling x ≡ 2 * (x / 2) = omega (arith, sibling_odd x z) in
          let z' : n % 2 ≡ 0 → ⊥ = λ y. z (sym e ∙ y) in
          rw (parent_odd n v w z') (parent l (x / 2) w v (subst (λ (y : ℕ). Settles m l y w) b q) (subst (λ (y : ℕ). Settles m l y v) a p))
    ]

-- a number of the tree is position i of layer l, and the message settles it with v
abbrev pub SettlesNumber : ℕ → List ℕ → ℕ → List ℕ → Type 0
SettlesNumber h m = Found h (Settles m)

-- below the root a position's number is even exactly if its index is
pub even_number : (h l x : ℕ) → l < h → node_number h l x % 2 ≡ x % 2
unfolding node_number
even_number h l x k =
    let d : h - l ≡ suc (h - suc l) = omega arith in
    let w : 2 ^ (h - l) ≡ 2 * 2 ^ (h - suc l) = ap (λ (z : ℕ). 2 ^ z) d ∙ pow-succ' 2 (h - suc l) in
    omega arith

halved : (x j : ℕ) → x / 2 / 2 ^ j ≡ x / 2 ^ suc j
halved x j = div-div-eq-div-mul x 2 (2 ^ j) ∙ ap (λ (y : ℕ). x / y) (sym (pow-succ' 2 j))

-- the entries of a path that begins at a settled position
path_settled : (h : ℕ) (m hashes : List ℕ) (a u l x : ℕ) (v : List ℕ) → l + u ≤ h → x < 2 ^ (h - l) → Settles m l x v
    → ((j : ℕ) → j < u → Settles m (l + j) (sibling (x / 2 ^ j)) (uncle hashes (a + j)))
    → (e : Entry) → In e (path hashes a u (node_number h l x) v) → SettlesNumber h m e.at e.hash
unfolding path
path_settled h m hashes a zero l x v lh xb p f e k = absurd (no_entry k)
path_settled h m hashes a (suc u) l x v lh xb p f e k =
    let lt : l < h = omega arith in
    let d : h - l ≡ suc (h - suc l) = omega arith in
    let w : 2 ^ (h - l) ≡ 2 * 2 ^ (h - suc l) = ap (λ (z : ℕ). 2 ^ z) d ∙ pow-succ' 2 (h - suc l) in
    let half : x / 2 < 2 ^ (h - suc l) = omega arith in
    let n = node_number h l x in
    let z0 : l + 0 ≡ l = omega arith in
    let z1 : a + 0 ≡ a = omega arith in
    let z2 : x / 2 ^ 0 ≡ x = ap (λ (y : ℕ). x / y) (pow-zero 2) ∙ omega arith in
    let q : Settles m l (sibling x) (uncle hashes a) = rw (z0, z1, z2) at (f 0 (omega arith)) in
    let up : Settles m (suc l) (x / 2) (parent_value (node_number h l x) v (uncle hashes a)) = beside m l x (node_number h l x) v (uncle hashes a) (even_number h l x lt) p q in
    let on : (j : ℕ) → j < u → Settles m (suc l + j) (sibling (x / 2 / 2 ^ j)) (uncle hashes (a + 1 + j)) =
    λ j g.
    (let y0 : l + suc j ≡ suc l + j = omega arith in
    let y1 : a + suc j ≡ a + 1 + j = omega arith in
    rw (y0, y1, ← halved x j) at (f (suc j) (omega arith))) in
    elim (path_cases hashes a u (node_number h l x) v e k) [
      | inl c ↦
          record { l = l; i = sibling x; low = omega arith; inside = sibling_below x (2 ^ (h - l)) xb (omega arith); number = c.0 ∙ sibling_number h l x lt; settles = rw c.1 q }
      | inr r ↦ elim r [
        | inl c ↦
            record { l = suc l; i = x / 2; low = omega arith; inside = half; number = c.0 ∙ sym (node_number_parent h l x lt); settles = rw c.1 up }
        | inr z ↦
            path_settled h m hashes (a + 1) u (suc l) (x / 2) (parent_value (node_number h l x) v (uncle hashes a)) (omega arith) half up on e
            (rw (node_number_parent h l x lt) z)
      ]
    ]

module _ (s m : List ℕ) (W : Formed s m) where
  leaves_settled : (j : ℕ) → j < 2 ^ (place_in s m).k → Settles m (header_of m).base (top_index m * 2 ^ (place_in s m).k + j) (given m (place_in s m).k j)
  leaves_settled j l =
      let K = kept s m W in
      let q = placed (is_hashes m) s m (P s m W) in
      let e : top_index m * 2 ^ (place_in s m).k ≡ (header_of m).index = ap (λ (y : ℕ). top_index m * y) q.power ∙ omega (arith, div-add-mod' (header_of m).index (header_of m).len, K.multiple) in
      rw (e, given_is s m W j l) (in_run j (omega (arith, q.power)))

  top_settled : Settles m (top_layer m) (top_index m) (node (given m (place_in s m).k) (place_in s m).k 0)
  top_settled =
      subst (λ (y : ℕ). Settles m ((header_of m).base + y) (top_index m) (node (given m (place_in s m).k) (place_in s m).k 0)) (k_is s m W)
      (top_over (Settles m) parent (given m (place_in s m).k) (header_of m).base (top_index m) (place_in s m).k leaves_settled)

  run_settled : (e : Entry) → In e (subtree (given m (place_in s m).k) (place_in s m).k (place_in s m).top 0) → SettlesNumber (height_of s) m e.at e.hash
  run_settled e x =
      let K = kept s m W in
      let wi : (header_of m).base + (place_in s m).k ≤ height_of s = rw (k_is s m W) K.within in
      let ti = top_inside (header_of m) (height_of s) K in
      let ti' : top_index m < 2 ^ (height_of s - ((header_of m).base + (place_in s m).k)) = rw (k_is s m W) ti in
      let tp : (place_in s m).top ≡ node_number (height_of s) ((header_of m).base + (place_in s m).k) (top_index m) = rw (k_is s m W) (top_is s m W) in
      subtree_found (Settles m) parent (given m (place_in s m).k) (header_of m).base (top_index m) (place_in s m).k leaves_settled (height_of s) wi ti' e (rw tp at x)

  -- every entry of a message is a position that it settles
  pub entry_settled : (e : Entry) → In e (settled m (place_in s m)) → SettlesNumber (height_of s) m e.at e.hash
  unfolding settled
  entry_settled e x =
      let K = kept s m W in
      let p = place_in s m in
      let us = uncles_of m (2 ^ p.k) p.u in
      let v = node (given m p.k) p.k 0 in
      let ti = top_inside (header_of m) (height_of s) K in
      let uw : (place_in s m).u ≡ (header_of m).proof - (height (header_of m).len - 1) = u_is s m W in
      let one = log_some (header_of m).len K.two in
      elim (in_cases (subtree (given m p.k) p.k p.top 0) (path us 0 p.u p.top v) x) [
        | inl a ↦ run_settled e a
        | inr c ↦
            path_settled (height_of s) m us 0 p.u (top_layer m) (top_index m) v (omega (arith, K.within, K.above)) ti top_settled
            (λ j l.
            let z : 0 + j ≡ j = omega arith in
            rw (z, uncle_is s m W j l) (as_uncle j (rw (u_is s m W) at l))) e (rw (top_is s m W) at c)
      ]

  -- A MESSAGE SETTLES exactly the positions of its entries, which are positions of the tree
  pub settles_exactly : (l i : ℕ) (v : List ℕ) → Settles m l i v ↔ Entered (height_of s) (settled m (place_in s m)) l i v
  settles_exactly l i v = (settles_entered s m W l i v, back)
    where
      back : Entered (height_of s) (settled m (place_in s m)) l i v → Settles m l i v
      back e = found_at (height_of s) (Settles m) l i v e.low e.inside (entry_settled (record { at = node_number (height_of s) l i; hash = v }) e.has)

  -- none with two hashes
  pub settles_once : (l i : ℕ) (v w : List ℕ) → Settles m l i v → Settles m l i w → v ≡ w
  settles_once l i v w a b =
      consistent s m W (record { at = node_number (height_of s) l i; hash = v }) (record { at = node_number (height_of s) l i; hash = w })
      (settles_entered s m W l i v a).has (settles_entered s m W l i w b).has refl

  anchor_worked : Settles m (anchor_layer m) (anchor_index m) (worked m (place_in s m))
  anchor_worked =
      let t = tree_says (height_of s) (anchor_layer m) (anchor_index m) (anchor_in_tree (is_hashes m) s m (P s m W)) in
      (settles_exactly (anchor_layer m) (anchor_index m) (worked m (place_in s m))).1
      (record { low = t.0; inside = t.1; has = rw (anchor_number (is_hashes m) s m (P s m W)) at (anchor_has m s) })

  -- ITS ANCHOR is settled with the hash that its hashes chain to
  pub anchor_settled : (w : List ℕ) → Settles m (anchor_layer m) (anchor_index m) w ↔ Chain m (place_in s m) w
  anchor_settled w = (
    λ a. (let e = settles_once (anchor_layer m) (anchor_index m) w (worked m (place_in s m)) a anchor_worked in rw e (worked_chains m (place_in s m))),
    λ c. (let e = chain_is_worked m (place_in s m) w c in rw e anchor_worked),
  )

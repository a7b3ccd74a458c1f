-- Demand 3: a reply built from another store of ours, its anchor held here, is taken, or the two stores show a pair;
-- and a store of ours takes its own reply and learns nothing from it.
-- Assumes nothing.
use Rattle.std.specs.Prelude.{◌≡◌, refl, Bool, true, false, cond, not, ◌&&◌, List, ◌⊎◌, length, leb, ℕ, zero, suc, ◌+◌, ◌-◌, ◌*◌, ◌/◌, ◌%◌, ◌^◌, ◌≤◌, ◌<◌}
use Rattle.std.proofs.Math.Path.{ap, ap₂, sym}
use Rattle.std.proofs.Common.{◌∙◌, add-mul, one-mul, mul-le-mul_right, div-add-mod', pow-add, leb-true, arith}
use Rattle.std.proofs.lemmas.Bool.{false≢true}
use Rattle.std.proofs.Math.Logic.{inl, inr}
use Rattle.std.proofs.Math.Nat.{pow-succ'}
use Rattle.std.proofs.Math.Decide.{ℕ_discrete}
use Rattle.octets.specs.Octets.{Octets, same, zero_hash}
use Rattle.octets.specs.OctetsLaws.{same_eq}
use Rattle.sha256.specs.Sha256.{pair_hash}
use Rattle.numbers.specs.Numbers.{done}
use Rattle.tree.specs.Geometry.{block_count, covering, height, node_number}
use Rattle.tree.proofs.GeometryLaws.{left_start, right_start, padding_from_covering, node_number_parent, layer_doubles}
use Rattle.tree.specs.Values.{node, pad_value}
use Rattle.cells.specs.Cells.{held_at, hash_at}
use Rattle.cells.specs.Entries.{Entry, agrees, put_all, one_if, newly}
use Rattle.cells.specs.EntriesLaws.{Hold, In, in_cases, one_is, no_entry, sound_in, held_or_entry}
use Rattle.store.specs.Store.{file_length, facts_root, blocks_of, height_of, positions}
use Rattle.store.specs.StoreLaws.{facts_usable, positions_even}
use Rattle.settling.specs.Span.{Within}
use Rattle.settling.specs.Subtree.{subtree, run_leaf}
use Rattle.settling.specs.SubtreeLaws.{within_left, within_right, within_self, run_leaf_in, subtree_cases, number_below}
use Rattle.settling.specs.Path.{sibling, parent_value, uncle, ancestor, risen, path}
use Rattle.settling.specs.PathLaws.{sibling_below, path_cases}
use Rattle.settling.specs.AncestorLaws.{ancestor_le, ancestor_parent}
use Rattle.header.specs.Header.{header_of, is_hashes, is_request, place_of, message_size}
use Rattle.header.specs.HeaderLaws.{rules_kept_lem, log_some, top_inside}
use Rattle.messages.specs.Padded.{run_padded, uncle_padded, uncles_padded}
use Rattle.messages.specs.Take.{header_number, run_of, uncles_of, given, settled, anchor, worked, padded, place_in, take_number, take_after, take_answer}
use Rattle.messages.specs.TakeLaws.{passed, passes}
use Rattle.serve.specs.Serve.{reply_to, request_number}
use Rattle.serve.specs.ServeLaws.{request_passes, reply_root, reply_header, reply_own_size, reply_form, reply_given, reply_uncle, run_held, uncle_held}
use Rattle.words.specs.History.{Bytes, OurStore}
use Rattle.words.specs.Shown.{held_by}
use Rattle.leaves.specs.Taught.{all_from_lem}
use Rattle.knowledge.specs.TakenWhen.{Right, right_then_taken}
use Rattle.knowledge.specs.Again.{held_agrees}
use Rattle.knowledge.specs.RightPadding.{Pads, sibling_number, run_size}
use Rattle.knowledge.specs.Invariant.{Chained, Ours, Pair, family_pair, Whole, message_whole}
use Rattle.knowledge.specs.OwnBytes.{ours_have, ours_bytes}
use Rattle.knowledge.specs.Conflict.{GivesAt, ShownAt, same_or_shown, hash_octets, agrees_or_shown, well_ready, anchor_has}

-- ---- two stores

module _ (s t : List ℕ) (cs : Chained s) (ct : Chained t) (bs : Bytes s) (bt : Bytes t)
    (layers : height_of s ≡ height_of t) (roots : facts_root s ≡ facts_root t) where
  -- what both hold is the same in both, or they show a pair
  pub alike_or_shown : (d q : ℕ) → q ≤ d → 1 ≤ q → q < positions (height_of t) → held_at t q ≡ true → held_at s q ≡ true
      → ShownAt (height_of t) (held_by t) (held_by s) ⊎ (hash_at t q ≡ hash_at s q)
  unfolding GivesAt
  alike_or_shown zero q l a b ht hs = let z : ⊥ = omega arith in absurd z
  alike_or_shown (suc d) q l a b ht hs =
      elim (ℕ_discrete q 1) [
        | yes e ↦ inr (ap (hash_at t) e ∙ ct.root.1 ∙ sym roots ∙ sym cs.root.1 ∙ ap (hash_at s) (sym e))
        | no ne ↦
            let p : ℕ = q / 2 in
            let even = positions_even (height_of t) in
            let two : 2 ≤ q = omega arith in
            let high : 2 * (q / 2) + 1 < positions (height_of t) = omega arith in
            let bs2 : q < positions (height_of s) = rw layers b in
            let T = family_pair t q ht (ct.family q two b ht) in
            let S = family_pair s q hs (cs.family q two bs2 hs) in
            elim (alike_or_shown d (q / 2) (omega arith) (omega arith) (omega arith) T.top S.top) [
              | inl x ↦ inl x
              | inr k ↦
                  elim (same_or_shown (height_of t) (held_by t) (held_by s) (q / 2) (omega arith) high
                  (hash_at t (2 * (q / 2))) (hash_at t (2 * (q / 2) + 1)) (hash_at s (2 * (q / 2))) (hash_at s (2 * (q / 2) + 1))
                  (T.left, refl) (T.right, refl) (S.left, refl) (S.right, refl)
                  (hash_octets t (2 * (q / 2)) ct.facts bt (omega arith)) (hash_octets t (2 * (q / 2) + 1) ct.facts bt high)
                  (hash_octets s (2 * (q / 2)) cs.facts bs (rw layers (omega arith))) (hash_octets s (2 * (q / 2) + 1) cs.facts bs (rw layers high))
                  (sym T.made ∙ k ∙ S.made)) [
                    | inl x ↦ inl x
                    | inr o ↦ elim (ℕ_discrete (q % 2) 0) [
                      | yes z ↦
                          let n : q ≡ 2 * (q / 2) = omega arith in
                          inr (ap (hash_at t) n ∙ o.0 ∙ ap (hash_at s) (sym n))
                      | no z ↦
                          let n : q ≡ 2 * (q / 2) + 1 = omega arith in
                          inr (ap (hash_at t) n ∙ o.1 ∙ ap (hash_at s) (sym n))
                    ]
                  ]
            ]
      ]

-- ---- what a store that chains holds with a run and its uncles

module _ (s : List ℕ) (c : Chained s) where
  parent_held : (p : ℕ) (l r : List ℕ) → 1 ≤ p → 2 * p + 1 < positions (height_of s) → Hold s (2 * p) l → Hold s (2 * p + 1) r → Hold s p (pair_hash l r)
  parent_held p l r a b hl hr =
      let P = family_pair s (2 * p) hl.0 (c.family (2 * p) (omega arith) (omega arith) hl.0) in
      let e : 2 * p / 2 ≡ p = omega arith in
      let Q : Pair s p = rw e at P in
      (Q.top, Q.made ∙ ap₂ pair_hash hl.1 hr.1)

  -- all of a subtree, whose leaves it holds
  subtree_held : (leaf : ℕ → List ℕ) (k n j : ℕ) → 1 ≤ n → Within (positions (height_of s)) k n
      → ((i : ℕ) → i < 2 ^ k → Hold s (n * 2 ^ k + i) (leaf (j * 2 ^ k + i)))
      → Hold s n (node leaf k j) × ((e : Entry) → In e (subtree leaf k n j) → Hold s e.at e.hash)
  unfolding node subtree
  subtree_held leaf zero n j a w f =
      let en : n * 2 ^ 0 + 0 ≡ n = omega arith in
      let ej : j * 2 ^ 0 + 0 ≡ j = omega arith in
      let h : Hold s n (leaf j) = rw (en, ej) at (f 0 (omega arith)) in
      (h, λ e x. (let o = one_is n (leaf j) x in rw (o.0, o.1) h))
  subtree_held leaf (suc k) n j a w f =
      let d = pow-succ' 2 k in
      let L = subtree_held leaf k (2 * n) (2 * j) (omega arith) (within_left (positions (height_of s)) k n w)
      (λ i l.
      let q : n * 2 ^ suc k + i ≡ 2 * n * 2 ^ k + i = omega (arith, left_start n k) in
      let v : j * 2 ^ suc k + i ≡ 2 * j * 2 ^ k + i = omega (arith, left_start j k) in
      let h = f i (omega arith) in
      (rw q at h.0, ap (hash_at s) (sym q) ∙ h.1 ∙ ap leaf v)) in
      let R = subtree_held leaf k (2 * n + 1) (2 * j + 1) (omega arith) (within_right (positions (height_of s)) k n w)
      (λ i l.
      let q : n * 2 ^ suc k + (2 ^ k + i) ≡ (2 * n + 1) * 2 ^ k + i = omega (arith, left_start n k, right_start n k) in
      let v : j * 2 ^ suc k + (2 ^ k + i) ≡ (2 * j + 1) * 2 ^ k + i = omega (arith, left_start j k, right_start j k) in
      let h = f (2 ^ k + i) (omega arith) in
      (rw q at h.0, ap (hash_at s) (sym q) ∙ h.1 ∙ ap leaf v)) in
      let top = parent_held n (node leaf k (2 * j)) (node leaf k (2 * j + 1)) a (within_self (positions (height_of s)) k (2 * n + 1) (within_right (positions (height_of s)) k n w)) L.0 R.0 in (
        top,
        λ e x. elim (subtree_cases leaf k n j e x) [
          | inl y ↦ L.1 e y
          | inr r ↦ elim r [ inl y ↦ R.1 e y | inr o ↦ rw (o.0, o.1) top ]
        ],
      )

  -- all of a path, whose start and uncles it holds
  path_held : (hashes : List ℕ) (i u n : ℕ) (v : List ℕ) → 1 ≤ ancestor u n → n < positions (height_of s) → Hold s n v
      → ((j : ℕ) → j < u → Hold s (sibling (ancestor j n)) (uncle hashes (i + j)))
      → Hold s (ancestor u n) (risen hashes i u n v) × ((e : Entry) → In e (path hashes i u n v) → Hold s e.at e.hash)
  unfolding ancestor risen path
  path_held hashes i zero n v a b h f = (h, λ e x. absurd (no_entry x))
  path_held hashes i (suc u) n v a b h f =
      let w = uncle hashes i in
      let z : i + 0 ≡ i = omega arith in
      let hs : Hold s (sibling n) (uncle hashes i) = rw z at (f 0 (omega arith)) in
      let half : 1 ≤ n / 2 = ancestor_parent u n a in
      let F = c.family n (omega arith) b h.0 in
      let up : Hold s (n / 2) (parent_value n v (uncle hashes i)) = (F.above, F.hash ∙ ap₂ (parent_value n) h.1 hs.1) in
      let R = path_held hashes (i + 1) u (n / 2) (parent_value n v (uncle hashes i)) a (omega arith) up
      (λ j l.
      let q : i + suc j ≡ i + 1 + j = omega arith in
      rw q at (f (suc j) (omega arith))) in (
        R.0,
        λ e x. elim (path_cases hashes i u n v e x) [
          | inl o ↦ rw (o.0, o.1) hs
          | inr r ↦ elim r [ inl o ↦ rw (o.0, o.1) up | inr y ↦ R.1 e y ]
        ],
      )

-- ---- a message that carries what a store holds

-- well-formed for s, and each given hash is held by s at its position
pub record Carries (s r : List ℕ) : Type 0 where
  pub header : header_number (is_hashes r) s r ≡ 0
  pub size : length r ≡ message_size (header_of r)
  pub run : (j : ℕ) → j < 2 ^ (place_in s r).k → Hold s ((place_in s r).top * 2 ^ (place_in s r).k + j) (given r (place_in s r).k j)
  pub uncles : (i : ℕ) → i < (place_in s r).u → Hold s (sibling (ancestor i (place_in s r).top)) (uncle (uncles_of r (2 ^ (place_in s r).k) (place_in s r).u) i)

-- a reply does
pub reply_carries : (s m : List ℕ) → request_number s m ≡ 0 → Carries s (reply_to s m)
reply_carries s m z =
    let e = request_passes s m z in
    let r = reply_to s m in
    let P = passed (is_request m) s m e in
    let hd = reply_header s m e in
    let pl : place_in s (reply_to s m) ≡ place_in s m = ap (λ (x : Rattle.header.specs.declared.Header.Header). place_of x (height_of s)) hd in
    record {
      header =
          passes (is_hashes (reply_to s m)) s (reply_to s m)
          (record { store = P.store; formed = reply_form s m e; root = rw (reply_root s m e) P.root; rules = rw hd P.rules });
      size = reply_own_size s m e;
      run = rw pl (λ j l. (run_held s m z j l, sym (reply_given s m e j l)));
      uncles = rw pl (λ i l. (uncle_held s m z i l, sym (reply_uncle s m e i l)));
    }

-- so the store holds all that the message settles, and the anchor with the value worked out
pub carried_held : (s r : List ℕ) → Chained s → Carries s r
    → Hold s (anchor (place_in s r)) (worked r (place_in s r)) × ((e : Entry) → In e (settled r (place_in s r)) → Hold s e.at e.hash)
unfolding anchor worked settled
carried_held s r c w =
    let p = place_in s r in
    let rd = well_ready s r w.header w.size in
    let leaf = given r p.k in
    let us = uncles_of r (2 ^ p.k) p.u in
    let S = subtree_held s c leaf p.k p.top 0 (omega (arith, rd.anchor, ancestor_le p.u p.top)) rd.top
    (λ i l.
    let z : i ≡ 0 * 2 ^ p.k + i = omega arith in
    let h = w.run i l in
    (h.0, h.1 ∙ ap leaf z)) in
    let Q = path_held s c us 0 p.u p.top (node leaf p.k 0) rd.anchor (within_self (positions (height_of s)) p.k p.top rd.top) S.0
    (λ j l.
    let z : j ≡ 0 + j = omega arith in
    let h = w.uncles j l in
    (h.0, h.1 ∙ ap (uncle us) z)) in (
      Q.0,
      λ e x. elim (in_cases (subtree leaf p.k p.top 0) (path us 0 p.u p.top (node leaf p.k 0)) x) [ inl a ↦ S.1 e a | inr b ↦ Q.1 e b ],
    )

-- ---- its padding is right

uncles_right : (h b : ℕ) (hashes : List ℕ) (i u l x : ℕ) → l + u ≤ h → x < 2 ^ (h - l)
    → ((j : ℕ) → j < u → Pads h b (sibling (ancestor j (node_number h l x))) (uncle hashes (i + j)))
    → uncles_padded hashes b i u l x ≡ true
unfolding uncles_padded uncle_padded ancestor
uncles_right h b hashes i zero l x a c f = refl
uncles_right h b hashes i (suc u) l x a c f =
    let lt : l < h = omega arith in
    let d = layer_doubles h l lt in
    let half : x / 2 < 2 ^ (h - suc l) = omega arith in
    let z : i + 0 ≡ i = omega arith in
    let hs : Pads h b (node_number h l (sibling x)) (uncle hashes i) = rw (z, sibling_number h l x lt) at (f 0 (omega arith)) in
    ap₂ (λ (p q : Bool). p && q) (by hs (sibling_below x (2 ^ (h - l)) c (omega arith)) (leb (covering b l) (sibling x)) refl)
    (uncles_right h b hashes (i + 1) u (suc l) (x / 2) (omega arith) half
    (λ j k.
    let q : i + suc j ≡ i + 1 + j = omega arith in
    rw (node_number_parent h l x lt) (rw q at (f (suc j) (omega arith)))))
  where
    by : Pads h b (node_number h l (sibling x)) (uncle hashes i) → sibling x < 2 ^ (h - l) → (t : Bool) → leb (covering b l) (sibling x) ≡ t
        → cond (leb (covering b l) (sibling x)) (same (uncle hashes i) (pad_value l)) true ≡ true
    by hs in2 true e =
        let pd = padding_from_covering b l (sibling x) (leb-true (covering b l) (sibling x) e) in
        rw e (same_eq (uncle hashes i) (pad_value l) (hs l (sibling x) (omega arith) in2 refl pd))
    by hs in2 false e = rw e

exact : (i d : ℕ) → i % d ≡ 0 → i / d * d ≡ i
exact i d z = omega (arith, div-add-mod' i d)

run_right : (h b : ℕ) (run : List ℕ) (base k y : ℕ) → length run ≡ 32 * 2 ^ k → base + k ≤ h → y < 2 ^ (h - (base + k))
    → ((j : ℕ) → j < 2 ^ k → Pads h b (node_number h (base + k) y * 2 ^ k + j) (run_leaf run zero_hash j))
    → run_padded run b base (y * 2 ^ k) (2 ^ k) ≡ true
unfolding run_padded
run_right h b run base k y size high inside f =
    all_from_lem run (pad_value base) (covering b base - y * 2 ^ k) (2 ^ k)
    (λ j a c.
    let e : base + k - k ≡ base = omega arith in
    let q : node_number h (base + k) y * 2 ^ k + j ≡ node_number h base (y * 2 ^ k + j) =
    number_below h (base + k) y k j high (omega arith) ∙ ap (λ (l : ℕ). node_number h l (y * 2 ^ k + j)) e in
    let ex : h - (base + k) + k ≡ h - base = omega arith in
    let pw : 2 ^ (h - (base + k)) * 2 ^ k ≡ 2 ^ (h - base) = sym (pow-add 2 (h - (base + k)) k) ∙ ap (λ (z : ℕ). 2 ^ z) ex in
    let up : (y + 1) * 2 ^ k ≤ 2 ^ (h - (base + k)) * 2 ^ k = mul-le-mul_right (2 ^ k) (omega arith) in
    let ib : y * 2 ^ k + j < 2 ^ (h - base) = omega (arith, add-mul y 1 (2 ^ k), one-mul (2 ^ k)) in
    let pd = padding_from_covering b base (y * 2 ^ k + j) (omega arith) in
    let lt : j < length run / 32 = omega arith in
    sym (run_leaf_in run zero_hash j lt) ∙ f j c base (y * 2 ^ k + j) (omega arith) ib q pd)

-- a well-formed message whose given hashes are right where they are padding passes 5
pub padded_when : (s r : List ℕ) → header_number (is_hashes r) s r ≡ 0 → length r ≡ message_size (header_of r)
    → ((j : ℕ) → j < 2 ^ (place_in s r).k → Pads (height_of s) (blocks_of s) ((place_in s r).top * 2 ^ (place_in s r).k + j) (given r (place_in s r).k j))
    → ((i : ℕ) → i < (place_in s r).u → Pads (height_of s) (blocks_of s) (sibling (ancestor i (place_in s r).top)) (uncle (uncles_of r (2 ^ (place_in s r).k) (place_in s r).u) i))
    → padded r (header_of r) (place_in s r) (blocks_of s) ≡ true
unfolding padded
padded_when s r header sz run uncles =
    let X = header_of r in
    let h = height_of s in
    let P = passed (is_hashes r) s r header in
    let K = rules_kept_lem X h P.rules in
    let y = X.index / X.len in
    let pw : 2 ^ height X.len ≡ X.len = K.power in
    let one : 1 ≤ height X.len = log_some X.len K.two in
    let ix : y * 2 ^ height X.len ≡ X.index = ap (λ (z : ℕ). y * z) pw ∙ exact X.index X.len K.multiple in
    let ins = top_inside X h K in
    parts run uncles pw ix K.within K.above one ins sz
  where
    parts :
        ((j : ℕ) → j < 2 ^ (place_in s r).k → Pads (height_of s) (blocks_of s) ((place_in s r).top * 2 ^ (place_in s r).k + j) (given r (place_in s r).k j))
        → ((i : ℕ) → i < (place_in s r).u → Pads (height_of s) (blocks_of s) (sibling (ancestor i (place_in s r).top)) (uncle (uncles_of r (2 ^ (place_in s r).k) (place_in s r).u) i))
        → 2 ^ height (header_of r).len ≡ (header_of r).len
        → (header_of r).index / (header_of r).len * 2 ^ height (header_of r).len ≡ (header_of r).index
        → (header_of r).base + height (header_of r).len ≤ height_of s
        → (header_of r).base + (header_of r).proof < height_of s
        → 1 ≤ height (header_of r).len
        → (header_of r).index / (header_of r).len < 2 ^ (height_of s - ((header_of r).base + height (header_of r).len))
        → length r ≡ message_size (header_of r)
        → (run_padded (run_of r (header_of r).len) (blocks_of s) (header_of r).base (header_of r).index (header_of r).len
        && uncles_padded (uncles_of r (header_of r).len (place_in s r).u) (blocks_of s) 0 (place_in s r).u ((header_of r).base + (place_in s r).k) ((header_of r).index / (header_of r).len)) ≡ true
    parts run uncles pw ix within above one ins sz = unfold place_of message_size given in
        let X = header_of r in
        let k = height X.len in
        let y = X.index / X.len in
        let u = X.proof - (height X.len - 1) in
        let rr = run_right (height_of s) (blocks_of s) (run_of r (2 ^ height X.len)) X.base (height X.len) y (run_size r (2 ^ height X.len) (omega arith)) within ins run in
        let ur = uncles_right (height_of s) (blocks_of s) (uncles_of r (2 ^ height X.len) u) 0 u (X.base + height X.len) y (omega arith) ins
        (λ j l.
        let z : 0 + j ≡ j = omega arith in
        rw z (uncles j l)) in
        ap₂ (λ (p q : Bool). p && q)
        (sym (ap₂ (λ (z j : ℕ). run_padded (run_of r z) (blocks_of s) X.base j z) pw ix) ∙ rr)
        (sym (ap (λ (z : ℕ). uncles_padded (uncles_of r z u) (blocks_of s) 0 u (X.base + height X.len) y) pw) ∙ ur)

hold_pads : (s : List ℕ) (n : ℕ) (v : List ℕ) → Ours s → Hold s n v → Pads (height_of s) (blocks_of s) n v
hold_pads s n v o h l i lh ib q pd = sym h.1 ∙ ap (hash_at s) q ∙ o.padding l i lh ib pd (rw q at h.0)

-- a message that carries what a store of ours holds has its padding right
pub carried_padded : (s r : List ℕ) → Ours s → Carries s r → padded r (header_of r) (place_in s r) (blocks_of s) ≡ true
carried_padded s r o w = padded_when s r w.header w.size (λ j l. hold_pads s _ _ o (w.run j l)) (λ i l. hold_pads s _ _ o (w.uncles i l))

-- ---- a store's own reply

newly_nothing : (N : ℕ) (s t : List ℕ) → ((q : ℕ) → held_at t q ≡ true → held_at s q ≡ true) → newly N s t ≡ 0
unfolding newly
newly_nothing zero s t f = refl
newly_nothing (suc zero) s t f = refl
newly_nothing (suc (suc n)) s t f = omega (arith, newly_nothing (suc n) s t f, by (held_at t (suc n)) (held_at s (suc n)) (f (suc n)))
  where
    by : (x y : Bool) → (x ≡ true → y ≡ true) → one_if (x && not y) ≡ 0
    by false y g = refl
    by true true g = refl
    by true false g = absurd (false≢true (g refl))

carried_right : (s r : List ℕ) → Ours s → Carries s r → Right s r
carried_right s r o w =
    let H = carried_held s r o.chained w in
    record { padding = carried_padded s r o w; held = H.0.0; chains = H.0.1; agree = held_agrees s (settled r (place_in s r)) H.1 }

-- a message that carries what a store of ours holds is taken there, and no position is newly held
pub carried_own : (s r : List ℕ) → Ours s → Carries s r → take_answer s r ≡ done 0
unfolding take_answer take_after
carried_own s r o w =
    let z = right_then_taken s r (record { header = w.header; size = w.size }) (carried_right s r o w) in
    let H = carried_held s r o.chained w in
    let rd = well_ready s r w.header w.size in
    let n : newly (positions (height_of s)) s (put_all s (settled r (place_in s r))) ≡ 0 =
    newly_nothing (positions (height_of s)) s (put_all s (settled r (place_in s r)))
    (λ q h.
    elim (held_or_entry (positions (height_of s)) (settled r (place_in s r)) s o.chained.facts.room (message_whole s r rd).sound q h)
    [ inl x ↦ x | inr e ↦ (H.1 (record { at = q; hash = e.0 }) e.1).0 ]) in
    rw (z, n)

-- OWN REPLY: a store that only this build has written, offered its own reply, answers 0 with count 0
pub own_reply : {s : List ℕ} (m : List ℕ) → OurStore s → request_number s m ≡ 0 → take_answer s (reply_to s m) ≡ done 0
own_reply {s} m o z = carried_own s (reply_to s m) (ours_have o) (reply_carries s m z)

-- ---- another store's reply

module _ (s t r : List ℕ) (os : Ours s) (ot : Ours t) (bs : Bytes s) (bt : Bytes t)
    (files : file_length s ≡ file_length t) (roots : facts_root s ≡ facts_root t) (w : Carries s r) where
  blocks : blocks_of s ≡ blocks_of t
  unfolding blocks_of
  blocks = ap block_count files

  layers : height_of s ≡ height_of t
  unfolding height_of
  layers = ap height blocks

  -- the header passes here as it does there
  pub header_here : header_number (is_hashes r) t r ≡ 0
  header_here = sym same_header ∙ w.header
    where
      same_header : header_number (is_hashes r) s r ≡ header_number (is_hashes r) t r
      same_header = unfold header_number in rw (facts_usable s os.chained.facts, facts_usable t ot.chained.facts, roots, layers)

  place : place_in s r ≡ place_in t r
  place = ap (place_of (header_of r)) layers

  held_there : Hold s (anchor (place_in t r)) (worked r (place_in t r)) × ((e : Entry) → In e (settled r (place_in t r)) → Hold s e.at e.hash)
  held_there = rw place at (carried_held s r os.chained w)

  padded_here : padded r (header_of r) (place_in t r) (blocks_of t) ≡ true
  padded_here = rw (place, blocks) at (carried_padded s r os w)

  whole : Whole (positions (height_of t)) (anchor (place_in t r)) (settled r (place_in t r))
  whole = message_whole t r (well_ready t r header_here w.size)

  octets_there : (e : Entry) → In e (settled r (place_in t r)) → Octets 32 e.hash
  octets_there e i = rw (← (held_there.1 e i).1) (hash_octets s e.at os.chained.facts bs (rw layers (sound_in (settled r (place_in t r)) whole.sound i).0))

  agreed_here : held_at t (anchor (place_in t r)) ≡ true → hash_at t (anchor (place_in t r)) ≡ worked r (place_in t r)
      → ShownAt (height_of t) (held_by t) (held_by s) ⊎ (agrees t (settled r (place_in t r)) ≡ true)
  unfolding GivesAt
  agreed_here h v =
      agrees_or_shown t (held_by s) (settled r (place_in t r)) (anchor (place_in t r)) (worked r (place_in t r)) ot.chained bt whole
      (λ n u x. held_there.1 (record { at = n; hash = u }) x) octets_there (anchor_has r t) h v

  -- a message that carries what s holds, its anchor held in t, is taken by t, or the two show a pair
  pub carried_taken : held_at t (anchor (place_in t r)) ≡ true → ShownAt (height_of t) (held_by t) (held_by s) ⊎ (take_number t r ≡ 0)
  carried_taken h =
      let a = anchor (place_in t r) in
      let top = anchor_has r t in
      let low = whole.from _ top in
      let high = (sound_in (settled r (place_in t r)) whole.sound top).0 in
      elim (alike_or_shown s t os.chained ot.chained bs bt layers roots a a (omega arith) low high h held_there.0.0) [
        | inl x ↦ inl x
        | inr k ↦
            let v : hash_at t (anchor (place_in t r)) ≡ worked r (place_in t r) = k ∙ held_there.0.1 in
            elim (agreed_here h v) [
              | inl x ↦ inl x
              | inr g ↦ inr (right_then_taken t r (record { header = header_here; size = w.size }) (record { padding = padded_here; held = h; chains = v; agree = g }))
            ]
      ]

-- ANOTHER STORE'S REPLY: served with 0 by a store that only this build has written, its anchor held in another such store of the same
-- length and root (piece lengths may differ), it is taken there, or the two stores show two different 64-byte strings with one SHA-256
pub other_store_reply : {s t : List ℕ} (m : List ℕ) → OurStore s → OurStore t → file_length s ≡ file_length t → facts_root s ≡ facts_root t
    → request_number s m ≡ 0 → held_at t (anchor (place_in t (reply_to s m))) ≡ true
    → ShownAt (height_of t) (held_by t) (held_by s) ⊎ (take_number t (reply_to s m) ≡ 0)
other_store_reply {s} {t} m os ot files roots z h =
    carried_taken s t (reply_to s m) (ours_have os) (ours_have ot) (ours_bytes os) (ours_bytes ot) files roots (reply_carries s m z) h

-- Demand 2: our replies are read back as what was held.
-- Assumes nothing.
use Rattle.std.specs.Prelude.{◌≡◌, true, List, ℕ, suc, ◌+◌, ◌-◌, ◌*◌, ◌/◌, ◌%◌, ◌^◌, ◌≤◌, ◌<◌, length}
use Rattle.std.proofs.Math.Path.{refl, ap, ap₂, sym, subst}
use Rattle.std.proofs.Common.{◌∙◌, div-add-mod', pow-suc, shr_lt, le-leb, lt-ltb, arith}
use Rattle.octets.specs.Octets.{cut}
use Rattle.octets.specs.OctetsLaws.{cut_cut}
use Rattle.tree.specs.Geometry.{height, node_number}
use Rattle.cells.specs.Cells.{held_at, hash_at}
use Rattle.store.specs.Store.{height_of, in_tree, Facts}
use Rattle.store.specs.StoreLaws.{usable_facts, facts_usable, held_given}
use Rattle.sha256.specs.declared.Hashed.{Hashed}
use Rattle.settling.specs.Path.{sibling, uncle, ancestor}
use Rattle.settling.specs.PathLaws.{sibling_below}
use Rattle.settling.specs.AncestorLaws.{ancestor_number}
use Rattle.settling.specs.SubtreeLaws.{number_below}
use Rattle.header.specs.declared.Header.{Header}
use Rattle.header.specs.Header.{header_size, header_of, message_root, is_request, is_hashes, place_of, message_size, Kept}
use Rattle.header.specs.HeaderLaws.{rules_kept_lem, top_inside, log_some}
use Rattle.messages.specs.Take.{place_in, uncles_of}
use Rattle.messages.specs.Asks.{RulesPassed}
use Rattle.messages.specs.TakeLaws.{passed}
use Rattle.serve.specs.Serve.{request_number, reply_to}
use Rattle.serve.specs.ServeLaws.{request_passes, run_held, uncle_held, reply_hash, reply_uncle, reply_header, reply_root, reply_form, reply_own_size}
use Rattle.words.specs.Held.{Holds}
use Rattle.words.specs.Messages.{uncles_in, hash_in, top_layer, top_index}
use Rattle.knowledge.specs.RightPadding.{sibling_number}

-- what a cell holds is what kd_held answers
pub holds_at : (s : List ℕ) (l i : ℕ) → Facts s → l ≤ height_of s → i < 2 ^ (height_of s - l) → held_at s (node_number (height_of s) l i) ≡ true
    → Holds s l i (hash_at s (node_number (height_of s) l i))
unfolding in_tree
holds_at s l i f a b h =
    let t : in_tree (height_of s) l i ≡ true = rw (le-leb l (height_of s) a, lt-ltb i (2 ^ (height_of s - l)) b) in
    let g = held_given s l i (facts_usable s f) t h in
    record { given = sym (ap (λ (r : Hashed). r.number) g); hash = sym (ap (λ (r : Hashed). r.hash) g) }

-- uncle j is the message's hash behind its run
pub uncle_cut : (m : List ℕ) (c u j : ℕ) → j < u → uncle (uncles_of m c u) j ≡ hash_in m (c + j)
unfolding uncle uncles_of
uncle_cut m c u j l =
    let e : header_size + 32 * c + 32 * j ≡ header_size + 32 * (c + j) = omega arith in
    cut_cut m (header_size + 32 * c) (32 * u) (32 * j) 32 (omega arith) ∙ ap (λ (y : ℕ). cut m y 32) e

-- ---- the positions that a header names, by layer and index, and their numbers in a tree of height h

module _ (x : Header) (h : ℕ) (K : Kept x h) where
  inside : x.index / x.len < 2 ^ (h - (x.base + height x.len))
  inside = top_inside x h K

  whole : x.index / x.len * 2 ^ height x.len ≡ x.index
  whole = ap (λ (y : ℕ). x.index / x.len * y) K.power ∙ omega (arith, div-add-mod' x.index x.len, K.multiple)

  -- hash j of the run is position index + j of the base layer,
  pub run_number : (j : ℕ) → j < 2 ^ height x.len → (place_of x h).top * 2 ^ (place_of x h).k + j ≡ node_number h x.base (x.index + j)
  unfolding place_of
  run_number j l =
      let k = height x.len in
      number_below h (x.base + k) (x.index / x.len) k j K.within (omega arith)
      ∙ ap₂ (λ (a c : ℕ). node_number h a (c + j)) (let q : x.base + k - k ≡ x.base = omega arith in q) whole

  -- which the layer has,
  pub run_in_layer : (j : ℕ) → j < 2 ^ height x.len → x.index + j < 2 ^ (h - x.base)
  run_in_layer j l = omega (arith, K.inside, K.power)

  -- and uncle i stands beside the path in its layer
  pub uncle_layer : (i : ℕ) → i < (place_of x h).u → x.base + height x.len + i < h
  unfolding place_of
  uncle_layer i l = omega (arith, K.within, K.above, log_some x.len K.two)

  pub uncle_number : (i : ℕ) → i < (place_of x h).u
      → sibling (ancestor i (place_of x h).top) ≡ node_number h (x.base + height x.len + i) (sibling (x.index / x.len / 2 ^ i))
  unfolding place_of
  uncle_number i l =
      let k = height x.len in
      let below = uncle_layer i l in
      ap sibling (ancestor_number h (x.base + k) (x.index / x.len) i (omega arith)) ∙ sibling_number h (x.base + k + i) (x.index / x.len / 2 ^ i) below

  pub uncle_in_layer : (i : ℕ) → i < (place_of x h).u → sibling (x.index / x.len / 2 ^ i) < 2 ^ (h - (x.base + height x.len + i))
  uncle_in_layer i l =
      let k = height x.len in
      let y = x.index / x.len / 2 ^ i in
      let below = uncle_layer i l in
      let e : h - (x.base + k + i) + i ≡ h - (x.base + k) = omega arith in
      let c : y < 2 ^ (h - (x.base + k + i)) = shr_lt (h - (x.base + k + i)) i (rw e inside) in
      let f : h - (x.base + k + i) ≡ suc (h - (x.base + k + i) - 1) = omega arith in
      let even : 2 ^ (h - (x.base + k + i)) % 2 ≡ 0 =
      (let p : 2 ^ (h - (x.base + k + i)) ≡ 2 ^ (h - (x.base + k + i) - 1) * 2 = ap (λ (v : ℕ). 2 ^ v) f ∙ pow-suc 2 (h - (x.base + k + i) - 1) in omega arith) in
      sibling_below y (2 ^ (h - (x.base + k + i))) c even

-- ---- what a request is answered with

module _ (s m : List ℕ) (z : request_number s m ≡ 0) where
  P : RulesPassed (is_request m) s m
  P = passed (is_request m) s m (request_passes s m z)

  facts : Facts s
  facts = usable_facts s P.store

  kept : Kept (header_of m) (height_of s)
  kept = rules_kept_lem (header_of m) (height_of s) P.rules

  -- the reply has the request's header
  pub reply_has_header : (is_hashes (reply_to s m) ≡ true) × (message_root (reply_to s m) ≡ message_root m) × (header_of (reply_to s m) ≡ header_of m)
      × (length (reply_to s m) ≡ message_size (header_of (reply_to s m)))
  reply_has_header = let e = request_passes s m z in (reply_form s m e, reply_root s m e, reply_header s m e, reply_own_size s m e)

  -- and at hash j of its run, the hash that was held at position index + j of the base layer
  pub run_reads_back : (j : ℕ) → j < (header_of m).len → Holds s (header_of m).base ((header_of m).index + j) (hash_in (reply_to s m) j)
  run_reads_back j l =
      let x = header_of m in
      let l' : j < 2 ^ height (header_of m).len = omega (arith, kept.power) in
      let n = run_number (header_of m) (height_of s) kept j l' in
      let b = run_in_layer (header_of m) (height_of s) kept j l' in
      subst (Holds s x.base (x.index + j)) (ap (hash_at s) (sym n) ∙ sym (reply_hash s m (request_passes s m z) j (rw k_is l')))
      (holds_at s x.base (x.index + j) facts (omega (arith, kept.within)) b (rw (← n) (run_held s m z j (rw k_is l'))))
    where
      k_is : (place_in s m).k ≡ height (header_of m).len
      k_is = unfold place_of in refl

  -- and at uncle i, the hash that was held beside the path in its layer
  pub uncle_reads_back : (i : ℕ) → i < uncles_in m → Holds s (top_layer m + i) (sibling (top_index m / 2 ^ i)) (hash_in (reply_to s m) ((header_of m).len + i))
  unfolding place_of
  uncle_reads_back i l =
      let c = 2 ^ height (header_of m).len in
      let n = uncle_number (header_of m) (height_of s) kept i l in
      let b = uncle_in_layer (header_of m) (height_of s) kept i l in
      let a = uncle_layer (header_of m) (height_of s) kept i l in
      let e : uncle (uncles_of (reply_to s m) (2 ^ height (header_of m).len) (uncles_in m)) i ≡ hash_in (reply_to s m) ((header_of m).len + i) =
      uncle_cut (reply_to s m) c (uncles_in m) i l ∙ ap (λ (y : ℕ). hash_in (reply_to s m) (y + i)) kept.power in
      subst (Holds s (top_layer m + i) (sibling (top_index m / 2 ^ i))) (ap (hash_at s) (sym n) ∙ sym (reply_uncle s m (request_passes s m z) i l) ∙ e)
      (holds_at s (top_layer m + i) (sibling (top_index m / 2 ^ i)) facts (omega arith) b (rw (← n) (uncle_held s m z i l)))

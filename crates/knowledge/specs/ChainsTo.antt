-- Demand 2: "its hashes chain to its anchor", of the message's bytes alone: no store and no position's number. It is the chain that the
-- contracts speak of, and the hash that the message settles its anchor with.
-- Assumes nothing.
use Rattle.std.specs.Prelude.{◌≡◌, List, ◌↔◌, ℕ, suc, ◌+◌, ◌/◌, ◌%◌, ◌^◌, ◌≤◌, ◌<◌}
use Rattle.std.proofs.Common.{ap, sym, ◌∙◌, arith}
use Rattle.sha256.specs.Sha256.{pair_hash}
use Rattle.tree.specs.Geometry.{node_number}
use Rattle.tree.proofs.GeometryLaws.{node_number_parent}
use Rattle.store.specs.Store.{height_of}
use Rattle.settling.specs.Path.{uncle}
use Rattle.header.specs.Header.{header_of, is_hashes, Kept}
use Rattle.header.specs.HeaderLaws.{rules_kept_lem, log_some}
use Rattle.messages.specs.Take.{given, uncles_of, place_in}
use Rattle.messages.specs.Asks.{RulesPassed}
use Rattle.messages.specs.TakeLaws.{passed, placed}
use Rattle.words.specs.Messages.{Makes, alone, pair, Climbs, there, left, right, hash_in, top_layer, top_index, anchor_layer, anchor_index, Settles, ChainsTo}
use Rattle.knowledge.specs.Chains.{Chain}
use Rattle.knowledge.specs.Positions.{even_number, given_is, uncle_is, u_is, top_is, anchor_settled}
use Rattle.knowledge.specs.TakenWhen.{Formed}

-- what leaves make depends on those leaves alone
makes_same : (f g : ℕ → List ℕ) (b a c : ℕ) (v : List ℕ) → ((j : ℕ) → j < b → f j ≡ g j) → Makes f a c v → a + c ≤ b → Makes g a c v
makes_same f g b a c v e (alone d) l = rw (e d (omega arith)) (alone d)
makes_same f g b a c v e (pair d k x y p q) l = pair d k x y (makes_same f g b d k x e p (omega arith)) (makes_same f g b (d + k) k y e q (omega arith))

-- a path by numbers is the path by indices
climbs_down : (f g : ℕ → List ℕ) (b h l i u n x : ℕ) (v w : List ℕ) → ((j : ℕ) → j < b → f j ≡ g j) → i + u ≤ b → l + u ≤ h → n ≡ node_number h l x
    → Climbs f i u n v w → Climbs g i u x v w
climbs_down f g b h l i u n x v w e a c q (there d k z) = there d x z
climbs_down f g b h l i u n x v w e a c q (left d k y z t o r) =
    let lt : l < h = omega arith in
    let nx : node_number h l x % 2 ≡ x % 2 = even_number h l x lt in
    let hp : y / 2 ≡ node_number h (suc l) (x / 2) = ap (λ (p : ℕ). p / 2) q ∙ sym (node_number_parent h l x lt) in
    let r2 = climbs_down f g b h (suc l) (d + 1) k (y / 2) (x / 2) (pair_hash z (f d)) t e (omega arith) (omega arith) hp r in
    left d k x z t (sym nx ∙ ap (λ (p : ℕ). p % 2) (sym q) ∙ o) (rw (e d (omega arith)) at r2)
climbs_down f g b h l i u n x v w e a c q (right d k y z t o r) =
    let lt : l < h = omega arith in
    let nx : node_number h l x % 2 ≡ x % 2 = even_number h l x lt in
    let hp : y / 2 ≡ node_number h (suc l) (x / 2) = ap (λ (p : ℕ). p / 2) q ∙ sym (node_number_parent h l x lt) in
    let r2 = climbs_down f g b h (suc l) (d + 1) k (y / 2) (x / 2) (pair_hash (f d) z) t e (omega arith) (omega arith) hp r in
    right d k x z t (sym nx ∙ ap (λ (p : ℕ). p % 2) (sym q) ∙ o) (rw (e d (omega arith)) at r2)

climbs_up : (f g : ℕ → List ℕ) (b h l i u n x : ℕ) (v w : List ℕ) → ((j : ℕ) → j < b → g j ≡ f j) → i + u ≤ b → l + u ≤ h → n ≡ node_number h l x
    → Climbs g i u x v w → Climbs f i u n v w
climbs_up f g b h l i u n x v w e a c q (there d k z) = there d n z
climbs_up f g b h l i u n x v w e a c q (left d k y z t o r) =
    let lt : l < h = omega arith in
    let nx : node_number h l x % 2 ≡ x % 2 = even_number h l x lt in
    let hp : n / 2 ≡ node_number h (suc l) (x / 2) = ap (λ (p : ℕ). p / 2) q ∙ sym (node_number_parent h l x lt) in
    let r2 = climbs_up f g b h (suc l) (d + 1) k (n / 2) (x / 2) (pair_hash z (g d)) t e (omega arith) (omega arith) hp r in
    left d k n z t (ap (λ (p : ℕ). p % 2) q ∙ nx ∙ o) (rw (e d (omega arith)) at r2)
climbs_up f g b h l i u n x v w e a c q (right d k y z t o r) =
    let lt : l < h = omega arith in
    let nx : node_number h l x % 2 ≡ x % 2 = even_number h l x lt in
    let hp : n / 2 ≡ node_number h (suc l) (x / 2) = ap (λ (p : ℕ). p / 2) q ∙ sym (node_number_parent h l x lt) in
    let r2 = climbs_up f g b h (suc l) (d + 1) k (n / 2) (x / 2) (pair_hash (g d) z) t e (omega arith) (omega arith) hp r in
    right d k n z t (ap (λ (p : ℕ). p % 2) q ∙ nx ∙ o) (rw (e d (omega arith)) at r2)

module _ (s m : List ℕ) (W : Formed s m) where
  P : RulesPassed (is_hashes m) s m
  P = passed (is_hashes m) s m W.header

  kept : Kept (header_of m) (height_of s)
  kept = rules_kept_lem (header_of m) (height_of s) P.rules

  length_is : 2 ^ (place_in s m).k ≡ (header_of m).len
  length_is = (placed (is_hashes m) s m P).power

  high : top_layer m + (place_in s m).u ≤ height_of s
  high = let one = log_some (header_of m).len kept.two in omega (arith, u_is s m W, kept.within, kept.above)

  run_to : (v : List ℕ) → Makes (given m (place_in s m).k) 0 (2 ^ (place_in s m).k) v → Makes (hash_in m) 0 (header_of m).len v
  run_to v r = rw length_is at (makes_same (given m (place_in s m).k) (hash_in m) (2 ^ (place_in s m).k) 0 (2 ^ (place_in s m).k) v (given_is s m W) r (omega arith))

  to_run : (v : List ℕ) → Makes (hash_in m) 0 (header_of m).len v → Makes (given m (place_in s m).k) 0 (2 ^ (place_in s m).k) v
  to_run v r = makes_same (hash_in m) (given m (place_in s m).k) (2 ^ (place_in s m).k) 0 (2 ^ (place_in s m).k) v (λ j l. sym (given_is s m W j l)) (rw length_is r) (omega arith)

  -- THE CHAIN by the message's bytes alone is the chain in the store's tree
  pub chains_exactly : (w : List ℕ) → ChainsTo m w ↔ Chain m (place_in s m) w
  chains_exactly w = (
    λ c. record {
      top = c.top;
      run = to_run c.top c.run;
      climb =
          climbs_up (uncle (uncles_of m (2 ^ (place_in s m).k) (place_in s m).u)) (λ j. hash_in m ((header_of m).len + j)) (place_in s m).u (height_of s) (top_layer m) 0 (place_in s m).u (place_in s m).top (top_index m) c.top w
          (λ j l. sym (uncle_is s m W j l)) (omega arith) high (top_is s m W) (rw (u_is s m W) c.climb);
    },
    λ c. record {
      top = c.top;
      run = run_to c.top c.run;
      climb =
          rw (u_is s m W) at (climbs_down (uncle (uncles_of m (2 ^ (place_in s m).k) (place_in s m).u)) (λ j. hash_in m ((header_of m).len + j)) (place_in s m).u (height_of s) (top_layer m) 0 (place_in s m).u (place_in s m).top (top_index m) c.top w
          (uncle_is s m W) (omega arith) high (top_is s m W) c.climb);
    },
  )

  -- and the hash that the message settles its anchor with
  pub chain_settles : (w : List ℕ) → ChainsTo m w ↔ Settles m (anchor_layer m) (anchor_index m) w
  chain_settles w = (λ c. (anchor_settled s m W w).1 ((chains_exactly w).0 c), λ x. (chains_exactly w).1 ((anchor_settled s m W w).0 x))

-- Demand 2: "its hashes chain to its anchor", as a relation on hashes: there is one hash that they lead to, the one worked out.
-- Assumes nothing.
use Rattle.std.specs.Prelude.{◌≡◌, refl, List, ℕ, zero, suc, ◌+◌, ◌*◌, ◌/◌, ◌%◌, ◌^◌}
use Rattle.std.proofs.Common.{ap, ap₂, ◌∙◌, arith, pow-suc}
use Rattle.std.proofs.Math.Nat.{pow-zero}
use Rattle.std.proofs.Math.Decide.{ℕ_discrete}
use Rattle.sha256.specs.Sha256.{pair_hash}
use Rattle.tree.proofs.GeometryLaws.{left_start, right_start}
use Rattle.tree.specs.Values.{node}
use Rattle.settling.specs.Path.{uncle, risen, parent_value}
use Rattle.settling.specs.PathLaws.{parent_even, parent_odd}
use Rattle.header.specs.declared.Place.{Place}
use Rattle.messages.specs.Take.{given, uncles_of, worked}
use Rattle.words.specs.Messages.{Makes, alone, pair, Climbs, there, left, right}

-- the base run makes a hash that leads to w by the message's uncles
pub record Chain (m : List ℕ) (p : Place) (w : List ℕ) : Type 0 where
  pub top : List ℕ
  pub run : Makes (given m p.k) 0 (2 ^ p.k) top
  pub climb : Climbs (uncle (uncles_of m (2 ^ p.k) p.u)) 0 p.u p.top top w

-- ---- there is one such hash, the one worked out

node_makes : (leaf : ℕ → List ℕ) (k j a c : ℕ) → a ≡ j * 2 ^ k → c ≡ 2 ^ k → Makes leaf a c (node leaf k j)
unfolding node
node_makes leaf zero j a c e f =
    let ea : j ≡ a = omega (arith, pow-zero 2) in
    let ec : c ≡ 1 = f ∙ pow-zero 2 in
    rw (ec, ea) (alone a)
node_makes leaf (suc k) j a c e f =
    let h : c ≡ 2 ^ k + 2 ^ k = omega (arith, pow-suc 2 k) in
    let l : a ≡ 2 * j * 2 ^ k = omega (arith, left_start j k) in
    let r : a + 2 ^ k ≡ (2 * j + 1) * 2 ^ k = omega (arith, right_start j k) in
    rw h (pair a (2 ^ k) (node leaf k (2 * j)) (node leaf k (2 * j + 1)) (node_makes leaf k (2 * j) a (2 ^ k) l refl) (node_makes leaf k (2 * j + 1) (a + 2 ^ k) (2 ^ k) r refl))

makes_node : (leaf : ℕ → List ℕ) (a c : ℕ) (v : List ℕ) → Makes leaf a c v → (k j : ℕ) → a ≡ j * 2 ^ k → c ≡ 2 ^ k → v ≡ node leaf k j
unfolding node
makes_node leaf a c v (alone b) zero j e f = ap leaf (let q : b ≡ j = omega (arith, pow-zero 2) in q)
makes_node leaf a c v (alone b) (suc k) j e f = let w : ⊥ = omega (arith, pow-suc 2 k) in absurd w
makes_node leaf a c v (pair b d x y p q) zero j e f = let w : ⊥ = omega (arith, pow-zero 2) in absurd w
makes_node leaf a c v (pair b d x y p q) (suc k) j e f =
    let h : d ≡ 2 ^ k = omega (arith, pow-suc 2 k) in
    let l : b ≡ 2 * j * 2 ^ k = omega (arith, left_start j k) in
    let r : b + d ≡ (2 * j + 1) * 2 ^ k = omega (arith, right_start j k) in
    ap₂ pair_hash (makes_node leaf b d x p k (2 * j) l h) (makes_node leaf (b + d) d y q k (2 * j + 1) r h)

risen_climbs : (hashes : List ℕ) (i u n : ℕ) (v : List ℕ) → Climbs (uncle hashes) i u n v (risen hashes i u n v)
unfolding risen
risen_climbs hashes i zero n v = there i n v
risen_climbs hashes i (suc u) n v =
    elim (ℕ_discrete (n % 2) 0) [
      | yes z ↦ left i u n v (risen hashes (i + 1) u (n / 2) (parent_value n v (uncle hashes i))) z (rw (parent_even n v (uncle hashes i) z) (risen_climbs hashes (i + 1) u (n / 2) (pair_hash v (uncle hashes i))))
      | no z ↦ right i u n v (risen hashes (i + 1) u (n / 2) (parent_value n v (uncle hashes i))) (omega arith) (rw (parent_odd n v (uncle hashes i) z) (risen_climbs hashes (i + 1) u (n / 2) (pair_hash (uncle hashes i) v)))
    ]

climbs_risen : (hashes : List ℕ) (i u n : ℕ) (v w : List ℕ) → Climbs (uncle hashes) i u n v w → w ≡ risen hashes i u n v
unfolding risen
climbs_risen hashes i u n v w (there a b c) = refl
climbs_risen hashes i u n v w (left a b c d g e q) =
    rw (parent_even c d (uncle hashes a) e) (climbs_risen hashes (a + 1) b (c / 2) (pair_hash d (uncle hashes a)) g q)
climbs_risen hashes i u n v w (right a b c d g e q) =
    let z : c % 2 ≡ 0 → ⊥ = λ y. omega arith in
    rw (parent_odd c d (uncle hashes a) z) (climbs_risen hashes (a + 1) b (c / 2) (pair_hash (uncle hashes a) d) g q)

-- a message's hashes chain to the hash that is worked out,
pub worked_chains : (m : List ℕ) (p : Place) → Chain m p (worked m p)
unfolding worked
worked_chains m p =
    record {
      top = node (given m p.k) p.k 0;
      run = node_makes (given m p.k) p.k 0 0 (2 ^ p.k) (omega arith) refl;
      climb = risen_climbs (uncles_of m (2 ^ p.k) p.u) 0 p.u p.top (node (given m p.k) p.k 0);
    }

-- and to no other
pub chain_is_worked : (m : List ℕ) (p : Place) (w : List ℕ) → Chain m p w → w ≡ worked m p
unfolding worked
chain_is_worked m p w c =
    let t : c.top ≡ node (given m p.k) p.k 0 = makes_node (given m p.k) 0 (2 ^ p.k) c.top c.run p.k 0 (omega arith) refl in
    climbs_risen (uncles_of m (2 ^ p.k) p.u) 0 p.u p.top c.top w c.climb ∙ ap (risen (uncles_of m (2 ^ p.k) p.u) 0 p.u p.top) t

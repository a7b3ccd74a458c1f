-- Demand 2: "its positions and no others", with "held" as kd_held answers: after a message that is taken, and after a layer that is
-- loaded, a position is held exactly if it was, with the same bytes, or the message or layer settles it, with its value.
-- Assumes nothing.
use Rattle.std.specs.Prelude.{◌≡◌, true, List, ◌⊎◌, ◌↔◌, ℕ, suc, ◌+◌, ◌-◌, ◌*◌, ◌^◌, ◌≤◌, ◌<◌}
use Rattle.std.proofs.Common.{ap, sym, ◌∙◌, subst, inl, inr, arith, lt_of_not-le, pow_pos, pow_mono}
use Rattle.std.proofs.Math.Nat.{pow-succ'}
use Rattle.std.proofs.Math.Decide.{dec_le}
use Rattle.tree.specs.Geometry.{node_number}
use Rattle.tree.proofs.GeometryLaws.{node_number_layer, longer_has}
use Rattle.tree.specs.Values.{node, layer_leaf}
use Rattle.cells.specs.Cells.{held_at, hash_at}
use Rattle.store.specs.Store.{file_length, piece_length, height_of, positions, Facts}
use Rattle.store.specs.StoreLaws.{usable_facts, tree_says, tree_number_lem}
use Rattle.header.specs.Header.{is_hashes}
use Rattle.messages.specs.Take.{take_number, take_after}
use Rattle.messages.specs.TakeLaws.{passed}
use Rattle.pieces.specs.Pieces.{layer_of_pieces, layer_number, layer_after}
use Rattle.pieces.proofs.PiecesLaws.{layered, layer_held, layer_only}
use Rattle.words.specs.Held.{Holds}
use Rattle.words.specs.Messages.{Settles}
use Rattle.words.specs.Pieces.{Over, at_leaf, above, LayerFormed, LayerSettles}
use Rattle.knowledge.specs.TakenWhen.{Formed, taken_well_formed}
use Rattle.knowledge.specs.TakenEntries.{settled_held, no_others}
use Rattle.knowledge.specs.Grows.{Grown, grown_take, grown_layer}
use Rattle.knowledge.specs.Again.{what_is_held, grown_holds}
use Rattle.knowledge.specs.ReadBack.{holds_at}
use Rattle.knowledge.specs.Over.{nodes_over, over_entered, over_once}
use Rattle.knowledge.specs.JudgedWhen.{layer_0}
use Rattle.knowledge.specs.Positions.{settles_entered, settles_exactly}

-- ---- from a store to one that holds at least as much

-- what is held there, at a position that was held, was held with the same bytes
pub was : (s t : List ℕ) → Facts s → Grown s t → (l i : ℕ) (v : List ℕ) → Holds t l i v → held_at s (node_number (height_of s) l i) ≡ true → Holds s l i v
was s t f g l i v h x =
    let k = what_is_held t l i v g.facts h in
    let e = g.same.layers in
    let a = tree_says (height_of t) l i k.0 in
    let n : node_number (height_of s) l i < positions (height_of s) = rw e at (tree_number_lem (height_of t) l i k.0).1 in
    let w = g.kept (node_number (height_of s) l i) n x in
    let q : hash_at t (node_number (height_of s) l i) ≡ v = rw e at k.2 in
    subst (Holds s l i) (sym w.1 ∙ q) (holds_at s l i f (rw e at a.0) (rw e at a.1) x)

-- ---- a message

module _ (s m : List ℕ) (z : take_number s m ≡ 0) where
  W : Formed s m
  W = taken_well_formed s m z

  facts : Facts s
  facts = usable_facts s (passed (is_hashes m) s m W.header).store

  g : Grown s (take_after s m)
  g = grown_take s m facts

  -- every position that it settles is held, with the message's value
  pub settles_then_holds : (l i : ℕ) (v : List ℕ) → Settles m l i v → Holds (take_after s m) l i v
  settles_then_holds l i v x =
      let E = settles_entered s m W l i v x in
      let e = g.same.layers in
      let h = settled_held s m z (record { at = node_number (height_of s) l i; hash = v }) E.has in
      subst (Holds (take_after s m) l i) (ap (λ (y : ℕ). hash_at (take_after s m) (node_number y l i)) e ∙ h.1)
      (holds_at (take_after s m) l i g.facts (rw e E.low) (rw e E.inside) (rw e h.0))

  only : (l i : ℕ) (v : List ℕ) → Holds (take_after s m) l i v → Holds s l i v ⊎ Settles m l i v
  only l i v h =
      let k = what_is_held (take_after s m) l i v g.facts h in
      let e = g.same.layers in
      let a = tree_says (height_of (take_after s m)) l i k.0 in
      let x : held_at (take_after s m) (node_number (height_of s) l i) ≡ true = rw e at k.1 in
      let q : hash_at (take_after s m) (node_number (height_of s) l i) ≡ v = rw e at k.2 in
      elim (no_others s m z (node_number (height_of s) l i) x) [
        | inl b ↦ inl (was s (take_after s m) facts g l i v h b)
        | inr c ↦
            let y = settled_held s m z (record { at = node_number (height_of s) l i; hash = c.0 }) c.1 in
            let w : c.0 ≡ v = sym y.1 ∙ q in
            inr (rw w at ((settles_exactly s m W l i c.0).1 (record { low = rw e at a.0; inside = rw e at a.1; has = c.1 })))
      ]

  -- ITS POSITIONS AND NO OTHERS: a position is held then exactly if it was held, with the same bytes, or the message settles it, with
  -- the message's value
  pub held_after : (l i : ℕ) (v : List ℕ) → Holds (take_after s m) l i v ↔ (Holds s l i v ⊎ Settles m l i v)
  held_after l i v = (
    only l i v,
    λ c. elim c [ inl h ↦ grown_holds s (take_after s m) facts g l i v h | inr x ↦ settles_then_holds l i v x ],
  )

-- ---- a layer

-- nothing stands below the leaves
over_low : (leaf : ℕ → List ℕ) (b y k l i : ℕ) (v : List ℕ) → Over leaf b y k l i v → b ≤ l
over_low leaf b y k l i v (at_leaf j a) = omega arith
over_low leaf b y k l i v (above c j p q x z) = omega (arith, over_low leaf b y k c (2 * j) p x)

module _ (s layer : List ℕ) (F : LayerFormed s layer) where
  layer_facts : Facts s
  layer_facts = usable_facts s F.store

  apart : layer_of_pieces s < height_of s
  apart = (layered s layer_facts (longer_has (file_length s) (piece_length s) F.longer)).above

  reaches : layer_of_pieces s + (height_of s - layer_of_pieces s) ≡ height_of s
  reaches = omega (arith, apart)

  node_settled : (l i : ℕ) → layer_of_pieces s ≤ l → l ≤ height_of s → i < 2 ^ (height_of s - l)
      → LayerSettles s layer l i (node (layer_leaf layer (layer_of_pieces s)) (l - layer_of_pieces s) i)
  node_settled l i a b c =
      let p = layer_of_pieces s in
      let d : layer_of_pieces s + (l - layer_of_pieces s) ≡ l = omega arith in
      let k : height_of s - layer_of_pieces s - (l - layer_of_pieces s) ≡ height_of s - l = omega arith in
      let z : 0 * 2 ^ (height_of s - l) + i ≡ i = omega arith in
      let o : i < 2 ^ (height_of s - layer_of_pieces s - (l - layer_of_pieces s)) = rw k c in
      rw (k, d, z) at (nodes_over (LayerSettles s layer) above (layer_leaf layer (layer_of_pieces s)) (layer_of_pieces s) 0 (height_of s - layer_of_pieces s) at_leaf (l - layer_of_pieces s) i (omega arith) o)

  -- A LAYER SETTLES exactly the positions of layer p and of all layers above it, up to the root
  pub layer_settles_where : (l i : ℕ) → ((v : List ℕ) × LayerSettles s layer l i v) ↔ ((layer_of_pieces s ≤ l) × (l ≤ height_of s) × (i < 2 ^ (height_of s - l)))
  layer_settles_where l i = (
    λ x.
        (let p = layer_of_pieces s in
        let E = over_entered (layer_leaf layer (layer_of_pieces s)) (height_of s) (layer_of_pieces s) 0 (height_of s - layer_of_pieces s) (omega (arith, reaches)) (pow_pos (height_of s - (layer_of_pieces s + (height_of s - layer_of_pieces s)))) l i x.0 x.1 in
        (over_low (layer_leaf layer (layer_of_pieces s)) (layer_of_pieces s) 0 (height_of s - layer_of_pieces s) l i x.0 x.1, E.low, E.inside)),
    λ t. (node (layer_leaf layer (layer_of_pieces s)) (l - layer_of_pieces s) i, node_settled l i t.0 t.1 t.2),
  )

  -- each with one hash
  pub layer_settles_once : (l i : ℕ) (v w : List ℕ) → LayerSettles s layer l i v → LayerSettles s layer l i w → v ≡ w
  layer_settles_once l i v w =
      over_once (layer_leaf layer (layer_of_pieces s)) (height_of s) (layer_of_pieces s) 0 (height_of s - layer_of_pieces s) (omega (arith, reaches)) (pow_pos (height_of s - (layer_of_pieces s + (height_of s - layer_of_pieces s)))) l i v w

module _ (s layer : List ℕ) (z : layer_number s layer ≡ 0) where
  formed : LayerFormed s layer
  formed = ((layer_0 s layer).0 z).0

  grown : Grown s (layer_after s layer)
  grown = grown_layer s layer (layer_facts s layer formed)

  -- every position of layer p and above it is held, with the layer's value
  pub layer_settles_then_holds : (l i : ℕ) (v : List ℕ) → LayerSettles s layer l i v → Holds (layer_after s layer) l i v
  layer_settles_then_holds l i v x =
      let t = (layer_settles_where s layer formed l i).0 (v, x) in
      let e = grown.same.layers in
      let h = layer_held s layer z l i t.0 t.1 t.2 in
      let q = layer_settles_once s layer formed l i (node (layer_leaf layer (layer_of_pieces s)) (l - layer_of_pieces s) i) v (node_settled s layer formed l i t.0 t.1 t.2) x in
      subst (Holds (layer_after s layer) l i) (ap (λ (y : ℕ). hash_at (layer_after s layer) (node_number y l i)) e ∙ h.1 ∙ q)
      (holds_at (layer_after s layer) l i grown.facts (rw e t.1) (rw e t.2) (rw e h.0))

  high : (l i : ℕ) → l ≤ height_of s → i < 2 ^ (height_of s - l) → node_number (height_of s) l i < 2 * 2 ^ (height_of s - layer_of_pieces s) → layer_of_pieces s ≤ l
  high l i a b c =
      elim (dec_le (layer_of_pieces s) l) [
        | yes y ↦ y
        | no n ↦
            let g = node_number_layer (height_of s) l i b in
            let p : 2 ^ suc (height_of s - layer_of_pieces s) ≤ 2 ^ (height_of s - l) = pow_mono (omega (arith, lt_of_not-le n, apart s layer formed)) in
            let w : ⊥ = omega (arith, pow-succ' 2 (height_of s - layer_of_pieces s)) in
            absurd w
      ]

  layer_adds : (l i : ℕ) (v : List ℕ) → Holds (layer_after s layer) l i v → Holds s l i v ⊎ LayerSettles s layer l i v
  layer_adds l i v h =
      let k = what_is_held (layer_after s layer) l i v grown.facts h in
      let e = grown.same.layers in
      let a = tree_says (height_of (layer_after s layer)) l i k.0 in
      let lh : l ≤ height_of s = rw e at a.0 in
      let ib : i < 2 ^ (height_of s - l) = rw e at a.1 in
      let x : held_at (layer_after s layer) (node_number (height_of s) l i) ≡ true = rw e at k.1 in
      let q : hash_at (layer_after s layer) (node_number (height_of s) l i) ≡ v = rw e at k.2 in
      elim (layer_only s layer z (node_number (height_of s) l i) x) [
        | inl b ↦ inl (was s (layer_after s layer) (layer_facts s layer formed) grown l i v h b)
        | inr c ↦
            let p = high l i lh ib c.1 in
            let w = layer_held s layer z l i p lh ib in
            let r : node (layer_leaf layer (layer_of_pieces s)) (l - layer_of_pieces s) i ≡ v = sym w.1 ∙ q in
            inr (rw r at (node_settled s layer formed l i p lh ib))
      ]

  -- LAYER P AND ALL ABOVE, AND NO OTHERS: after a layer is loaded a position is held exactly if it was held, with the same bytes, or the
  -- layer settles it, with the layer's value
  pub layer_held_after : (l i : ℕ) (v : List ℕ) → Holds (layer_after s layer) l i v ↔ (Holds s l i v ⊎ LayerSettles s layer l i v)
  layer_held_after l i v = (
    layer_adds l i v,
    λ c. elim c [ inl h ↦ grown_holds s (layer_after s layer) (layer_facts s layer formed) grown l i v h | inr x ↦ layer_settles_then_holds l i v x ],
  )

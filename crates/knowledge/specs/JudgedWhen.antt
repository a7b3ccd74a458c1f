-- Demand 2: what a layer, a block and a piece get, each number exactly when 01 says, in the order 9, 3, 4, 6, 7, 8; and a piece that is judged by
-- both halves of a hybrid. "Held" is what kd_held answers; positions are layers and indices.
-- Assumes nothing.
use Rattle.std.specs.Prelude.{◌≡◌, refl, true, false, List, ◌++◌, ◌↔◌, ◌⊎◌, ℕ, ◌+◌, ◌-◌, ◌*◌, ◌^◌, ◌≤◌, ◌<◌, length, replicate}
use Rattle.std.proofs.Common.{sym, ◌∙◌, subst, inl, inr, arith, pow_pos, eq-eqb, ne_eqb, eqb-true, lt-ltb, le-ltb, ltb-true, ltb-false}
use Rattle.std.proofs.lemmas.Bool.{false≢true}
use Rattle.octets.specs.OctetsLaws.{same_true, same_eq, same_false, same_ne}
use Rattle.numbers.specs.Numbers.{rule_broken, wrong_size, no_anchor, differs, conflict, unusable}
use Rattle.numbers.specs.Chain.{last, decided, exactly, exactly_of, none, passes_of}
use Rattle.sha256.specs.Sha256.{sha256}
use Rattle.sha_1.specs.Sha1.{sha1}
use Rattle.tree.specs.Geometry.{node_number, has_layer, piece_count, block_size, piece_size}
use Rattle.tree.proofs.GeometryLaws.{node_number_root, has_longer, longer_has}
use Rattle.tree.specs.Values.{leaf_of, layer_leaf}
use Rattle.cells.specs.Cells.{hash_at}
use Rattle.store.specs.Store.{usable, file_length, piece_length, blocks_of, height_of, Facts}
use Rattle.store.specs.StoreLaws.{usable_facts, facts_leaves}
use Rattle.pieces.specs.Pieces.{judged_at, layer_of_pieces, layer_number, block_number, piece_height, piece_number}
use Rattle.pieces.proofs.PiecesLaws.{layered, piece_in_lem}
use Rattle.pieces.specs.Hybrid.{V1Agrees, hybrid_number}
use Rattle.pieces.proofs.HybridLaws as Both
use Rattle.words.specs.Held.{Holds, Lacks, Fits, Misfits, Clashes}
use Rattle.words.specs.Pieces.{LayerFormed, LayerSettles, BlockFormed, OtherLeaf, PieceFormed, PieceSettles}
use Rattle.numbers.specs.Tests.{eqb_no, through, in_turn, both}
use Rattle.knowledge.specs.NumberChains.{layer_then, layer_chain, layer_tests, block_then, leaf_chain, block_chain, block_tests, piece_then, piece_chain, piece_tests}
use Rattle.knowledge.specs.Verdicts.{marked_holds, holds_marked, marked_lacks, lacks_marked, judged_fits, judged_lacks, judged_misfits, judged_clashes}

abbrev layer_judged : List ℕ → List ℕ → ℕ
layer_judged s layer = judged_at s (layer_leaf layer (layer_of_pieces s)) (height_of s - layer_of_pieces s) 1

abbrev piece_judged : List ℕ → ℕ → List ℕ → ℕ
piece_judged s i piece = judged_at s (leaf_of piece) (piece_height s) (node_number (height_of s) (piece_height s) i)

-- ---- a layer

-- a file has no piece layer exactly if it is not longer than the piece length
has_not : (n plen : ℕ) → has_layer n plen ≡ false → n ≤ plen
unfolding has_layer
has_not n plen t = ltb-false plen n t

not_has : (n plen : ℕ) → n ≤ plen → has_layer n plen ≡ false
unfolding has_layer
not_has n plen t = le-ltb plen n t

module _ (s layer : List ℕ) where
  -- 9 EXACTLY WHEN the store is unusable
  pub layer_9 : (layer_number s layer ≡ unusable) ↔ (usable s ≡ false)
  layer_9 = exactly_of (layer_chain s layer) unusable (layer_tests s layer) refl

  -- 3 EXACTLY WHEN the store is usable and the file is not longer than the piece length
  pub layer_3 : (layer_number s layer ≡ rule_broken) ↔ ((usable s ≡ true) × (file_length s ≤ piece_length s))
  layer_3 =
      through (exactly_of (layer_chain s layer) rule_broken (layer_tests s layer) refl)
      (λ u. (has_not (file_length s) (piece_length s), not_has (file_length s) (piece_length s)))

  -- 4 EXACTLY WHEN the store is usable, the file is longer than the piece length, and the layer has not 32 bytes for each piece
  pub layer_4 : (layer_number s layer ≡ wrong_size)
      ↔ ((usable s ≡ true) × (piece_length s < file_length s) × (length layer ≡ 32 * piece_count (file_length s) (piece_length s) → ⊥))
  layer_4 =
      let c = exactly_of (layer_chain s layer) wrong_size (layer_tests s layer) refl in (
        λ e. (let t = c.0 e in (t.0, has_longer (file_length s) (piece_length s) t.1.0, eqb_no (length layer) (32 * piece_count (file_length s) (piece_length s)) t.1.1)),
        λ t. c.1 (t.0, (longer_has (file_length s) (piece_length s) t.1, ne_eqb (length layer) (32 * piece_count (file_length s) (piece_length s)) t.2)),
      )

  -- any other number is the root's: 9, 3 and 4 are passed
  layer_on : (k : ℕ) → none k (layer_then s layer (last (layer_judged s layer))) ≡ true → (layer_number s layer ≡ k) ↔ (LayerFormed s layer × (layer_judged s layer ≡ k))
  unfolding judged_at
  layer_on k o =
      let c = passes_of (layer_then s layer (last (layer_judged s layer))) k (layer_tests s layer) o in (
        λ e.
            (let t = c.0 e in
            (record { store = t.0; longer = has_longer (file_length s) (piece_length s) t.1.0; size = eqb-true (length layer) (32 * piece_count (file_length s) (piece_length s)) t.1.1.0 }, t.1.1.1)),
        λ t.
            c.1
            (t.0.store, (longer_has (file_length s) (piece_length s) t.0.longer, (eq-eqb (length layer) (32 * piece_count (file_length s) (piece_length s)) t.0.size, t.1))),
      )

  facts : LayerFormed s layer → Facts s
  facts f = usable_facts s f.store

  up : LayerFormed s layer → layer_of_pieces s + (height_of s - layer_of_pieces s) ≡ height_of s
  up f = let a = (layered s (facts f) (longer_has (file_length s) (piece_length s) f.longer)).above in omega arith

  most : LayerFormed s layer → layer_of_pieces s + (height_of s - layer_of_pieces s) ≤ height_of s
  most f = omega (arith, up f)

  -- 6 EXACTLY WHEN it passes 9, 3 and 4, and the root is not held
  pub layer_6 : (layer_number s layer ≡ no_anchor) ↔ (LayerFormed s layer × Lacks s (height_of s) 0)
  layer_6 =
      through (layer_on no_anchor refl)
      (λ f. rw (up f, node_number_root (height_of s)) at (judged_lacks s (facts f) (layer_leaf layer (layer_of_pieces s)) (layer_of_pieces s) 0 (height_of s - layer_of_pieces s) (most f) (pow_pos (height_of s - (layer_of_pieces s + (height_of s - layer_of_pieces s))))))

  -- 7 EXACTLY WHEN it passes those, the root is held, and the layer does not give it
  pub layer_7 : (layer_number s layer ≡ differs) ↔ (LayerFormed s layer × Misfits s (LayerSettles s layer) (height_of s) 0)
  layer_7 =
      through (layer_on differs refl)
      (λ f. rw (up f, node_number_root (height_of s)) at (judged_misfits s (facts f) (layer_leaf layer (layer_of_pieces s)) (layer_of_pieces s) 0 (height_of s - layer_of_pieces s) (most f) (pow_pos (height_of s - (layer_of_pieces s + (height_of s - layer_of_pieces s))))))

  -- 8 EXACTLY WHEN it passes those, the root is held and the layer gives it, and a held hash differs
  pub layer_8 : (layer_number s layer ≡ conflict) ↔ (LayerFormed s layer × Clashes s (LayerSettles s layer) (height_of s) 0)
  layer_8 =
      through (layer_on conflict refl)
      (λ f. rw (up f, node_number_root (height_of s)) at (judged_clashes s (facts f) (layer_leaf layer (layer_of_pieces s)) (layer_of_pieces s) 0 (height_of s - layer_of_pieces s) (most f) (pow_pos (height_of s - (layer_of_pieces s + (height_of s - layer_of_pieces s))))))

  -- LOADED EXACTLY WHEN it passes those, the root is held and the layer gives it, and no held hash differs
  pub layer_0 : (layer_number s layer ≡ 0) ↔ (LayerFormed s layer × Fits s (LayerSettles s layer) (height_of s) 0)
  layer_0 =
      through (layer_on 0 refl)
      (λ f. rw (up f, node_number_root (height_of s)) at (judged_fits s (facts f) (layer_leaf layer (layer_of_pieces s)) (layer_of_pieces s) 0 (height_of s - layer_of_pieces s) (most f) (pow_pos (height_of s - (layer_of_pieces s + (height_of s - layer_of_pieces s))))))

-- ---- a block

module _ (s : List ℕ) (i : ℕ) (block : List ℕ) where
  -- 9 EXACTLY WHEN the store is unusable
  pub block_9 : (block_number s i block ≡ unusable) ↔ (usable s ≡ false)
  block_9 = exactly_of (block_chain s i block) unusable (block_tests s i block) refl

  -- 3 EXACTLY WHEN the store is usable and the block is past the file
  pub block_3 : (block_number s i block ≡ rule_broken) ↔ ((usable s ≡ true) × (blocks_of s ≤ i))
  block_3 = through (exactly_of (block_chain s i block) rule_broken (block_tests s i block) refl) (λ u. (ltb-false i (blocks_of s), le-ltb i (blocks_of s)))

  -- 4 EXACTLY WHEN the store is usable, the file has the block, and the byte count isn't that block's
  pub block_4 : (block_number s i block ≡ wrong_size) ↔ ((usable s ≡ true) × (i < blocks_of s) × (length block ≡ block_size (file_length s) i → ⊥))
  block_4 =
      let c = exactly_of (block_chain s i block) wrong_size (block_tests s i block) refl in (
        λ e. (let t = c.0 e in (t.0, ltb-true i (blocks_of s) t.1.0, eqb_no (length block) (block_size (file_length s) i) t.1.1)),
        λ t. c.1 (t.0, (lt-ltb i (blocks_of s) t.1, ne_eqb (length block) (block_size (file_length s) i) t.2)),
      )

  -- any other number is the leaf's
  block_on : (k : ℕ) → none k (block_then s i block (last (decided (leaf_chain s i block)))) ≡ true → (block_number s i block ≡ k) ↔ (BlockFormed s i block × (decided (leaf_chain s i block) ≡ k))
  block_on k o =
      let c = passes_of (block_then s i block (last (decided (leaf_chain s i block)))) k (block_tests s i block) o in (
        λ e.
            (let t = c.0 e in
            (record { store = t.0; inside = ltb-true i (blocks_of s) t.1.0; size = eqb-true (length block) (block_size (file_length s) i) t.1.1.0 }, t.1.1.1)),
        λ t. c.1 (t.0.store, (lt-ltb i (blocks_of s) t.0.inside, (eq-eqb (length block) (block_size (file_length s) i) t.0.size, t.1))),
      )

  block_facts : BlockFormed s i block → Facts s
  block_facts f = usable_facts s f.store

  leaf_inside : BlockFormed s i block → i < 2 ^ (height_of s - 0)
  leaf_inside f =
      let e : height_of s - 0 ≡ height_of s = omega arith in
      rw e (omega (arith, f.inside, facts_leaves s (block_facts f)))

  -- 6 EXACTLY WHEN it passes 9, 3 and 4, and leaf i is not held
  pub block_6 : (block_number s i block ≡ no_anchor) ↔ (BlockFormed s i block × Lacks s 0 i)
  block_6 =
      through (block_on no_anchor refl)
      (λ f. (
        λ e. marked_lacks s (block_facts f) 0 i (omega arith) (leaf_inside f) ((exactly (leaf_chain s i block) no_anchor refl).0 e),
        λ l. rw (lacks_marked s (block_facts f) 0 i (omega arith) (leaf_inside f) l),
      ))

  -- 7 EXACTLY WHEN it passes those, leaf i is held, and the block's hash differs from it
  pub block_7 : (block_number s i block ≡ differs) ↔ (BlockFormed s i block × OtherLeaf s i block)
  block_7 =
      through (block_on differs refl)
      (λ f. (
        λ e.
            (let t = (exactly (leaf_chain s i block) differs refl).0 e in
            record {
              w = hash_at s (node_number (height_of s) 0 i);
              held = marked_holds s (block_facts f) 0 i (omega arith) (leaf_inside f) t.0;
              other = same_false (hash_at s (node_number (height_of s) 0 i)) (sha256 block) t.1;
            }),
        λ o.
            (let h = holds_marked s (block_facts f) 0 i (omega arith) (leaf_inside f) o.w o.held in
            rw (h.0, same_ne (hash_at s (node_number (height_of s) 0 i)) (sha256 block) (λ q. o.other (sym h.1 ∙ q)))),
      ))

  -- 0 EXACTLY WHEN it passes those, and leaf i is held with the block's hash
  pub block_0 : (block_number s i block ≡ 0) ↔ (BlockFormed s i block × Holds s 0 i (sha256 block))
  block_0 =
      through (block_on 0 refl)
      (λ f. (
        λ e.
            (let t = (exactly (leaf_chain s i block) 0 refl).0 e in
            subst (Holds s 0 i) (same_true (hash_at s (node_number (height_of s) 0 i)) (sha256 block) t.1.0) (marked_holds s (block_facts f) 0 i (omega arith) (leaf_inside f) t.0)),
        λ h.
            (let k = holds_marked s (block_facts f) 0 i (omega arith) (leaf_inside f) (sha256 block) h in
            rw (k.0, same_eq (hash_at s (node_number (height_of s) 0 i)) (sha256 block) k.1)),
      ))

  -- NEVER 8: nothing lies below a leaf
  pub block_not_8 : block_number s i block ≡ conflict → ⊥
  block_not_8 e =
      let t = (block_on conflict refl).0 e in
      false≢true (sym ((exactly (leaf_chain s i block) conflict refl).0 t.1).1.1)

-- ---- a piece

module _ (s : List ℕ) (i : ℕ) (piece : List ℕ) where
  -- 9 EXACTLY WHEN the store is unusable
  pub piece_9 : (piece_number s i piece ≡ unusable) ↔ (usable s ≡ false)
  piece_9 = exactly_of (piece_chain s i piece) unusable (piece_tests s i piece) refl

  -- 3 EXACTLY WHEN the store is usable and the piece is past the file
  pub piece_3 : (piece_number s i piece ≡ rule_broken) ↔ ((usable s ≡ true) × (piece_count (file_length s) (piece_length s) ≤ i))
  piece_3 =
      through (exactly_of (piece_chain s i piece) rule_broken (piece_tests s i piece) refl)
      (λ u. (ltb-false i (piece_count (file_length s) (piece_length s)), le-ltb i (piece_count (file_length s) (piece_length s))))

  -- 4 EXACTLY WHEN the store is usable, the file has the piece, and the byte count isn't that piece's
  pub piece_4 : (piece_number s i piece ≡ wrong_size)
      ↔ ((usable s ≡ true) × (i < piece_count (file_length s) (piece_length s)) × (length piece ≡ piece_size (file_length s) (piece_length s) i → ⊥))
  piece_4 =
      let c = exactly_of (piece_chain s i piece) wrong_size (piece_tests s i piece) refl in (
        λ e. (let t = c.0 e in (t.0, ltb-true i (piece_count (file_length s) (piece_length s)) t.1.0, eqb_no (length piece) (piece_size (file_length s) (piece_length s) i) t.1.1)),
        λ t. c.1 (t.0, (lt-ltb i (piece_count (file_length s) (piece_length s)) t.1, ne_eqb (length piece) (piece_size (file_length s) (piece_length s) i) t.2)),
      )

  -- any other number is the node's
  piece_on : (k : ℕ) → none k (piece_then s i piece (last (piece_judged s i piece))) ≡ true → (piece_number s i piece ≡ k) ↔ (PieceFormed s i piece × (piece_judged s i piece ≡ k))
  unfolding judged_at
  piece_on k o =
      let c = passes_of (piece_then s i piece (last (piece_judged s i piece))) k (piece_tests s i piece) o in (
        λ e.
            (let t = c.0 e in
            (record { store = t.0; inside = ltb-true i (piece_count (file_length s) (piece_length s)) t.1.0; size = eqb-true (length piece) (piece_size (file_length s) (piece_length s) i) t.1.1.0 }, t.1.1.1)),
        λ t.
            c.1
            (t.0.store, (lt-ltb i (piece_count (file_length s) (piece_length s)) t.0.inside, (eq-eqb (length piece) (piece_size (file_length s) (piece_length s) i) t.0.size, t.1))),
      )

  piece_facts : PieceFormed s i piece → Facts s
  piece_facts f = usable_facts s f.store

  from_leaves : 0 + piece_height s ≡ piece_height s
  from_leaves = omega arith

  node_low : PieceFormed s i piece → 0 + piece_height s ≤ height_of s
  node_low f = omega (arith, (piece_in_lem s (piece_facts f) i f.inside).layer)

  node_inside : PieceFormed s i piece → i < 2 ^ (height_of s - (0 + piece_height s))
  node_inside f = rw from_leaves (piece_in_lem s (piece_facts f) i f.inside).inside

  -- 6 EXACTLY WHEN it passes 9, 3 and 4, and its node is not held
  pub piece_6 : (piece_number s i piece ≡ no_anchor) ↔ (PieceFormed s i piece × Lacks s (piece_height s) i)
  piece_6 =
      through (piece_on no_anchor refl)
      (λ f. rw from_leaves at (judged_lacks s (piece_facts f) (leaf_of piece) 0 i (piece_height s) (node_low f) (node_inside f)))

  -- 7 EXACTLY WHEN it passes those, its node is held, and its blocks don't give it
  pub piece_7 : (piece_number s i piece ≡ differs) ↔ (PieceFormed s i piece × Misfits s (PieceSettles s i piece) (piece_height s) i)
  piece_7 =
      through (piece_on differs refl)
      (λ f. rw from_leaves at (judged_misfits s (piece_facts f) (leaf_of piece) 0 i (piece_height s) (node_low f) (node_inside f)))

  -- 8 EXACTLY WHEN it passes those, its node is held and its blocks give it, and a held hash below it differs
  pub piece_8 : (piece_number s i piece ≡ conflict) ↔ (PieceFormed s i piece × Clashes s (PieceSettles s i piece) (piece_height s) i)
  piece_8 =
      through (piece_on conflict refl)
      (λ f. rw from_leaves at (judged_clashes s (piece_facts f) (leaf_of piece) 0 i (piece_height s) (node_low f) (node_inside f)))

  -- 0 EXACTLY WHEN it passes those, its node is held and its blocks give it, and no held hash differs
  pub piece_0 : (piece_number s i piece ≡ 0) ↔ (PieceFormed s i piece × Fits s (PieceSettles s i piece) (piece_height s) i)
  piece_0 =
      through (piece_on 0 refl)
      (λ f. rw from_leaves at (judged_fits s (piece_facts f) (leaf_of piece) 0 i (piece_height s) (node_low f) (node_inside f)))

-- ---- a piece of a hybrid

either_way : {A B C D : Type 0} → A ↔ B → C ↔ D → (A ⊎ C) ↔ (B ⊎ D)
either_way p q = (
  λ x. elim x [ inl a ↦ inl (p.0 a) | inr c ↦ inr (q.0 c) ],
  λ y. elim y [ inl b ↦ inl (p.1 b) | inr d ↦ inr (q.1 d) ],
)

first_so : {A B C : Type 0} → A ↔ B → (A × C) ↔ (B × C)
first_so p = both p (λ c. c, λ c. c)

module _ (s : List ℕ) (i : ℕ) (piece v1 : List ℕ) (zeros : ℕ) where
  -- 9, 3, 6 AND 8 EXACTLY WHEN the v2 half gives them
  pub hybrid_9 : (hybrid_number s i piece v1 zeros ≡ unusable) ↔ (usable s ≡ false)
  hybrid_9 = in_turn (Both.hybrid_v2 s i piece v1 zeros unusable refl (λ z. omega arith)) (piece_9 s i piece)

  pub hybrid_3 : (hybrid_number s i piece v1 zeros ≡ rule_broken) ↔ ((usable s ≡ true) × (piece_count (file_length s) (piece_length s) ≤ i))
  hybrid_3 = in_turn (Both.hybrid_v2 s i piece v1 zeros rule_broken refl (λ z. omega arith)) (piece_3 s i piece)

  pub hybrid_6 : (hybrid_number s i piece v1 zeros ≡ no_anchor) ↔ (PieceFormed s i piece × Lacks s (piece_height s) i)
  hybrid_6 = in_turn (Both.hybrid_v2 s i piece v1 zeros no_anchor refl (λ z. omega arith)) (piece_6 s i piece)

  pub hybrid_8 : (hybrid_number s i piece v1 zeros ≡ conflict) ↔ (PieceFormed s i piece × Clashes s (PieceSettles s i piece) (piece_height s) i)
  hybrid_8 = in_turn (Both.hybrid_v2 s i piece v1 zeros conflict refl (λ z. omega arith)) (piece_8 s i piece)

  -- 4 EXACTLY WHEN the v2 half gives it, or the v2 half is right and the zeros pass the piece length
  pub hybrid_4 : (hybrid_number s i piece v1 zeros ≡ wrong_size)
      ↔ (((usable s ≡ true) × (i < piece_count (file_length s) (piece_length s)) × (length piece ≡ piece_size (file_length s) (piece_length s) i → ⊥))
      ⊎ ((PieceFormed s i piece × Fits s (PieceSettles s i piece) (piece_height s) i) × (piece_length s < length piece + zeros)))
  hybrid_4 = in_turn (Both.hybrid_4 s i piece v1 zeros) (either_way (piece_4 s i piece) (first_so (piece_0 s i piece)))

  -- 7 EXACTLY WHEN the v2 half gives it, or the v2 half is right, the zeros fit, and SHA-1 of both is another than the hash given
  pub hybrid_7 : (hybrid_number s i piece v1 zeros ≡ differs)
      ↔ ((PieceFormed s i piece × Misfits s (PieceSettles s i piece) (piece_height s) i)
      ⊎ ((PieceFormed s i piece × Fits s (PieceSettles s i piece) (piece_height s) i) × ((length piece + zeros ≤ piece_length s) × (sha1 (piece ++ replicate zeros 0) ≡ v1 → ⊥))))
  hybrid_7 = in_turn (Both.hybrid_7 s i piece v1 zeros) (either_way (piece_7 s i piece) (first_so (piece_0 s i piece)))

  -- 0 EXACTLY WHEN BOTH HASHES AGREE
  pub hybrid_0 : (hybrid_number s i piece v1 zeros ≡ 0) ↔ ((PieceFormed s i piece × Fits s (PieceSettles s i piece) (piece_height s) i) × V1Agrees s piece v1 zeros)
  hybrid_0 = in_turn (Both.hybrid_0 s i piece v1 zeros) (first_so (piece_0 s i piece))

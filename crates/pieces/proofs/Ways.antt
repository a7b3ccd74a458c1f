-- One law for each way out of the functions that give a number: the callees' answers and the tests taken make one case of the definition.
use Rattle.std.specs.Prelude.{◌≡◌, refl, List, Bool, true, false, cond, ℕ, ◌+◌, ◌-◌, ◌*◌, ◌^◌, ◌≤◌, ◌<◌, length}
use Rattle.std.proofs.Common.{ap, ap₂, sym, ◌∙◌, arith, lt-ltb, le-ltb, eq-eqb, ne_eqb}
use Rattle.octets.specs.Octets.{same}
use Rattle.numbers.specs.Numbers.{refused, done, rule_broken, wrong_size, no_anchor, unusable, judged}
use Rattle.numbers.specs.declared.Answer.{Answer}
use Rattle.sha256.specs.Sha256.{sha256}
use Rattle.tree.specs.Geometry.{node_number, piece_layer, has_layer, piece_count, block_size, piece_size}
use Rattle.tree.proofs.GeometryLaws.{node_number_range}
use Rattle.tree.specs.Values.{node, pad_value, leaf_of, layer_leaf}
use Rattle.cells.specs.Cells.{Room, held_at, hash_at}
use Rattle.cells.specs.Entries.{agrees, put_all, newly, fresh}
use Rattle.cells.specs.EntriesLaws.{count_fresh, newly_none}
use Rattle.store.specs.Store.{usable, file_length, piece_length, blocks_of, height_of, positions}
use Rattle.store.specs.StoreLaws.{usable_facts, facts_height, facts_leaves, facts_cell}
use Rattle.settling.specs.Span.{Fit}
use Rattle.settling.specs.Subtree.{subtree, run_leaf}
use Rattle.settling.specs.SubtreeLaws.{fit_below}
use Rattle.limits.specs.Limits.{tallest_tree}
use Rattle.pieces.specs.Pieces.{judged_at, layer_of_pieces, layer_settled, layer_number, layer_after, layer_answer, block_number, piece_height, piece_number}
use Rattle.pieces.specs.Asks.{Layered, PieceIn}
use Rattle.pieces.proofs.PiecesLaws.{layered, piece_in_lem, pieces_few, layer_within, piece_within, run_leaves, layer_sound, settled_from_root}

-- ---- 6, 7, 8 or 0

-- an anchor that is not refused is held, one that is refused is not and gets 6
held_anchor : (b : Bool) → 0 ≡ cond b 0 no_anchor → b ≡ true
held_anchor true e = refl
held_anchor false e = absurd (omega (arith, e))

lost_anchor : (b : Bool) (r : ℕ) → r ≡ cond b 0 no_anchor → (r ≡ 0 → ⊥) → (r ≡ no_anchor) × (b ≡ false)
lost_anchor true r e z = absurd (z e)
lost_anchor false r e z = (e, refl)

module _ (s : List ℕ) (n : ℕ) (leaf : ℕ → List ℕ) (k : ℕ) where
  pub judged_6 : (r : ℕ) → r ≡ cond (held_at s n) 0 no_anchor → (r ≡ 0 → ⊥) → r ≡ judged_at s leaf k n
  unfolding judged_at
  judged_6 r e z = let w = lost_anchor (held_at s n) r e z in w.0 ∙ sym (rw w.1)

  pub judged_held : 0 ≡ cond (held_at s n) 0 no_anchor → (worked : List ℕ) (o : Bool) (r : ℕ)
      → (worked ≡ node leaf k 0) × (o ≡ agrees s (subtree leaf k n 0)) → r ≡ judged true (same (hash_at s n) worked) o → r ≡ judged_at s leaf k n
  unfolding judged_at
  judged_held e worked o r w q =
      q ∙ ap₂ (λ (x : List ℕ) (z : Bool). judged true (same (hash_at s n) x) z) w.0 w.1
      ∙ ap (λ (x : Bool). judged x (same (hash_at s n) (node leaf k 0)) (agrees s (subtree leaf k n 0))) (sym (held_anchor (held_at s n) e))

-- ---- a layer, looked at or written

module _ (s : List ℕ) (f : Layered s) (h plen p : ℕ) (eh : h ≡ height_of s) (ep : plen ≡ piece_length s) (el : p ≡ piece_layer plen) where
  layer_number_is : p ≡ layer_of_pieces s
  unfolding layer_of_pieces
  layer_number_is = el ∙ ap piece_layer ep

  pub layer_low : p ≤ h
  layer_low = omega (arith, layer_number_is, f.above)

  depth : h - p ≡ height_of s - layer_of_pieces s
  depth = ap₂ (λ (x y : ℕ). x - y) eh layer_number_is

  pub layer_fit : Fit (length s) (h - p) 1 0
  layer_fit = fit_below _ f.facts.room (rw depth (layer_within s f)) (omega arith)

  module _ (layer past : List ℕ) (e : past ≡ pad_value p) where
    leaves : run_leaf layer past ≡ layer_leaf layer (layer_of_pieces s)
    leaves = ap (run_leaf layer) (e ∙ ap pad_value layer_number_is) ∙ run_leaves layer (layer_of_pieces s)

    pub layer_judged : (r : ℕ) → r ≡ judged_at s (run_leaf layer past) (h - p) 1 → r ≡ judged_at s (layer_leaf layer (layer_of_pieces s)) (height_of s - layer_of_pieces s) 1
    layer_judged r q = q ∙ ap₂ (λ (x : ℕ → List ℕ) (y : ℕ). judged_at s x y 1) leaves depth

    settles : subtree (run_leaf layer past) (h - p) 1 0 ≡ layer_settled s layer
    unfolding layer_settled
    settles = ap₂ (λ (x : ℕ → List ℕ) (y : ℕ). subtree x y 1 0) leaves depth

    pub layer_wrote : (r : ℕ) (s' : List ℕ) → (r ≡ fresh s (subtree (run_leaf layer past) (h - p) 1 0)) × (s' ≡ put_all s (subtree (run_leaf layer past) (h - p) 1 0))
        → (r ≡ fresh s (layer_settled s layer)) × (s' ≡ put_all s (layer_settled s layer))
    layer_wrote r s' q = (q.0 ∙ ap (fresh s) settles, q.1 ∙ ap (put_all s) settles)

-- ---- a layer's number

module _ (s layer : List ℕ) (t : Bool) (a : t ≡ usable s) where
  pub layer_9 : t ≡ false → unusable ≡ layer_number s layer
  unfolding layer_number
  layer_9 b = sym (rw (← a, b))

  module _ (b : t ≡ true) (n plen : ℕ) (v : Bool) (en : n ≡ file_length s) (ep : plen ≡ piece_length s) (ev : v ≡ has_layer n plen) where
    has : v ≡ has_layer (file_length s) (piece_length s)
    has = ev ∙ ap₂ has_layer en ep

    pub layer_3 : v ≡ false → rule_broken ≡ layer_number s layer
    unfolding layer_number
    layer_3 z = sym (rw (← a, b, ← has, z))

    module _ (z : v ≡ true) where
      pub layer_there : Layered s
      layer_there = layered s (usable_facts s (sym a ∙ b)) (sym has ∙ z)

      module _ (c : ℕ) (ec : c ≡ piece_count n plen) where
        count : c ≡ piece_count (file_length s) (piece_length s)
        count = ec ∙ ap₂ piece_count en ep

        pub layer_few : c ≤ 2 ^ tallest_tree
        layer_few = omega (arith, count, pieces_few s (usable_facts s (sym a ∙ b)))

        pub layer_4 : (length layer ≡ 32 * c → ⊥) → wrong_size ≡ layer_number s layer
        unfolding layer_number
        layer_4 l = sym (rw (← a, b, ← has, z, ← count, ne_eqb (length layer) (32 * c) l))

        pub layer_rest : length layer ≡ 32 * c → (r : ℕ) → r ≡ judged_at s (layer_leaf layer (layer_of_pieces s)) (height_of s - layer_of_pieces s) 1 → r ≡ layer_number s layer
        unfolding layer_number
        layer_rest l r q = q ∙ sym (rw (← a, b, ← has, z, ← count, eq-eqb (length layer) (32 * c) l))

-- ---- loading

answered : (s layer : List ℕ) (x y : ℕ) → x ≡ layer_number s layer → newly (positions (height_of s)) s (layer_after s layer) ≡ y → record { number = x; count = y } ≡ layer_answer s layer
unfolding layer_answer
answered s layer x y e f = ap₂ (λ (a b : ℕ). record { number = a; count = b }) e (sym f)

module _ (s layer : List ℕ) (d : ℕ) (e : d ≡ layer_number s layer) where
  left_as_it_was : (d ≡ 0 → ⊥) → layer_after s layer ≡ s
  unfolding layer_after
  left_as_it_was ne = rw (← e, ne_eqb d 0 ne)

  pub load_refused : (d ≡ 0 → ⊥) → (r : Answer) → r ≡ refused d → (r ≡ layer_answer s layer) × (s ≡ layer_after s layer)
  load_refused ne r q =
      let k = left_as_it_was ne in
      (q ∙ answered s layer d 0 e (rw k (newly_none (positions (height_of s)) s)), sym k)

  taken : d ≡ 0 → layer_after s layer ≡ put_all s (layer_settled s layer)
  unfolding layer_after
  taken y = rw (← e, eq-eqb d 0 y)

  pub load_done : d ≡ 0 → Layered s → (new : ℕ) (s' : List ℕ) → (new ≡ fresh s (layer_settled s layer)) × (s' ≡ put_all s (layer_settled s layer))
      → (r : Answer) → r ≡ done new → (r ≡ layer_answer s layer) × (s' ≡ layer_after s layer)
  load_done y f new s' w r q =
      let k = taken y in
      (q ∙ answered s layer 0 new (sym y ∙ e) (rw k (count_fresh (positions (height_of s)) (layer_settled s layer) s f.facts.room (layer_sound s layer f) (settled_from_root s layer f) ∙ sym w.0)), w.1 ∙ sym k)

-- ---- a block's number

module _ (s : List ℕ) (i : ℕ) (block : List ℕ) (t : Bool) (a : t ≡ usable s) where
  pub block_9 : t ≡ false → unusable ≡ block_number s i block
  unfolding block_number
  block_9 b = sym (rw (← a, b))

  module _ (b : t ≡ true) (c : ℕ) (ec : c ≡ blocks_of s) where
    pub block_3 : c ≤ i → rule_broken ≡ block_number s i block
    unfolding block_number
    block_3 l = sym (rw (← a, b, ← ec, le-ltb i c l))

    module _ (l : i < c) where
      -- the block's leaf is in the tree
      pub block_inside : (h : ℕ) → h ≡ height_of s → (h ≤ 63) × (i < 2 ^ (h - 0))
      block_inside h e =
          let f = usable_facts s (sym a ∙ b) in
          let z : h - 0 ≡ height_of s = omega arith in
          (omega (arith, facts_height s f), rw z (omega (arith, facts_leaves s f)))

      -- and has its cell
      pub block_cell : (h q : ℕ) → h ≡ height_of s → q ≡ node_number h 0 i → Room (q + 1) s
      unfolding positions
      block_cell h q e k =
          facts_cell s (usable_facts s (sym a ∙ b)) q
          (rw (← e) (omega (arith, node_number_range h 0 i (block_inside h e).1)))

      module _ (n size : ℕ) (en : n ≡ file_length s) (es : size ≡ block_size n i) where
        block_length : size ≡ block_size (file_length s) i
        block_length = es ∙ ap (λ (x : ℕ). block_size x i) en

        pub block_4 : (length block ≡ size → ⊥) → wrong_size ≡ block_number s i block
        unfolding block_number
        block_4 g = sym (rw (← a, b, ← ec, lt-ltb i c l, ← block_length, ne_eqb (length block) size g))

        pub block_rest : length block ≡ size → (h q r : ℕ) → h ≡ height_of s → q ≡ node_number h 0 i
            → r ≡ judged (held_at s q) (same (hash_at s q) (sha256 block)) true → r ≡ block_number s i block
        unfolding block_number
        block_rest g h q r eh eq w =
            w ∙ ap (λ (x : ℕ). judged (held_at s x) (same (hash_at s x) (sha256 block)) true) (eq ∙ ap (λ (x : ℕ). node_number x 0 i) eh)
            ∙ sym (rw (← a, b, ← ec, lt-ltb i c l, ← block_length, eq-eqb (length block) size g))

-- ---- a piece's node, and its number

module _ (s : List ℕ) (n plen : ℕ) (v : Bool) (en : n ≡ file_length s) (ep : plen ≡ piece_length s) (ev : v ≡ has_layer n plen) where
  piece_has : v ≡ has_layer (file_length s) (piece_length s)
  piece_has = ev ∙ ap₂ has_layer en ep

  pub height_in_layer : v ≡ true → (r : ℕ) → r ≡ piece_layer plen → r ≡ piece_height s
  unfolding piece_height layer_of_pieces
  height_in_layer z r q = q ∙ ap piece_layer ep ∙ sym (rw (← piece_has, z))

  pub height_at_root : v ≡ false → (r : ℕ) → r ≡ height_of s → r ≡ piece_height s
  unfolding piece_height
  height_at_root z r q = q ∙ sym (rw (← piece_has, z))

module _ (s : List ℕ) (i h k : ℕ) (f : PieceIn s i) (eh : h ≡ height_of s) (ek : k ≡ piece_height s) where
  node_low : h ≤ tallest_tree
  node_low = omega (arith, facts_height s f.facts)

  pub node_inside : (k ≤ h) × (h ≤ 63) × (i < 2 ^ (h - k))
  node_inside =
      let e : h - k ≡ height_of s - piece_height s = ap₂ (λ (x y : ℕ). x - y) eh ek in
      (omega (arith, f.layer), omega (arith, node_low), rw e f.inside)

  module _ (q : ℕ) (eq : q ≡ node_number h k i) where
    node_is : q ≡ node_number (height_of s) (piece_height s) i
    node_is = eq ∙ ap₂ (λ (x y : ℕ). node_number x y i) eh ek

    pub node_fit : Fit (length s) k q 0
    node_fit = fit_below _ f.facts.room (rw (ek, node_is) (piece_within s i f)) (omega arith)

    pub node_judged : (piece : List ℕ) (r : ℕ) → r ≡ judged_at s (leaf_of piece) k q → r ≡ judged_at s (leaf_of piece) (piece_height s) (node_number (height_of s) (piece_height s) i)
    node_judged piece r w = w ∙ ap₂ (λ (x y : ℕ). judged_at s (leaf_of piece) x y) ek node_is

module _ (s : List ℕ) (i : ℕ) (piece : List ℕ) (t : Bool) (a : t ≡ usable s) where
  pub piece_9 : t ≡ false → unusable ≡ piece_number s i piece
  unfolding piece_number
  piece_9 b = sym (rw (← a, b))

  module _ (b : t ≡ true) (n plen c : ℕ) (en : n ≡ file_length s) (ep : plen ≡ piece_length s) (ec : c ≡ piece_count n plen) where
    pieces : c ≡ piece_count (file_length s) (piece_length s)
    pieces = ec ∙ ap₂ piece_count en ep

    pub piece_3 : c ≤ i → rule_broken ≡ piece_number s i piece
    unfolding piece_number
    piece_3 l = sym (rw (← a, b, ← pieces, le-ltb i c l))

    module _ (l : i < c) where
      pub piece_there : PieceIn s i
      piece_there = piece_in_lem s (usable_facts s (sym a ∙ b)) i (omega (arith, pieces))

      module _ (size : ℕ) (es : size ≡ piece_size n plen i) where
        piece_length_lem : size ≡ piece_size (file_length s) (piece_length s) i
        piece_length_lem = es ∙ ap₂ (λ (x y : ℕ). piece_size x y i) en ep

        pub piece_4 : (length piece ≡ size → ⊥) → wrong_size ≡ piece_number s i piece
        unfolding piece_number
        piece_4 g = sym (rw (← a, b, ← pieces, lt-ltb i c l, ← piece_length_lem, ne_eqb (length piece) size g))

        pub piece_rest : length piece ≡ size → (r : ℕ) → r ≡ judged_at s (leaf_of piece) (piece_height s) (node_number (height_of s) (piece_height s) i) → r ≡ piece_number s i piece
        unfolding piece_number
        piece_rest g r w = w ∙ sym (rw (← a, b, ← pieces, lt-ltb i c l, ← piece_length_lem, eq-eqb (length piece) size g))

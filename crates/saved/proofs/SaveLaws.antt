-- THE ROUND TRIP from a store: what is saved of a usable store has the form, names exactly what it holds, and is loaded if that meets the clauses.
-- Assumes nothing.
use Rattle.std.specs.Prelude.{◌≡◌, Bool, cond, ◌↔◌, ◌⊎◌, length, get_or, List, [], ◌∷◌, ◌++◌, ℕ, zero, suc, ◌+◌, ◌-◌, ◌*◌, ◌^◌, ◌≤◌, ◌<◌}
use Rattle.std.proofs.Math.Path.{refl, ap, subst}
use Rattle.std.proofs.Common.{sym, ◌∙◌, arith}
use Rattle.std.proofs.Math.Bool.{true, false}
use Rattle.std.proofs.Math.Logic.{inl, inr}
use Rattle.std.proofs.Math.Decide.{ℕ_discrete}
use Rattle.octets.specs.Octets.{Octets}
use Rattle.octets.specs.OctetsLaws.{cut_octets}
use Rattle.tree.specs.Geometry.{block_count, height, node_number}
use Rattle.tree.proofs.GeometryLaws.{node_number_range}
use Rattle.cells.specs.Cells.{held_at, hash_at}
use Rattle.cells.specs.EntriesLaws.{Hold}
use Rattle.store.specs.Store.{file_length, piece_length, facts_root, blocks_of, height_of, positions, Facts}
use Rattle.store.specs.StoreLaws.{facts_blocks_most, facts_height, piece_length_most}
use Rattle.marks.specs.Marks.{marked_at}
use Rattle.saved.specs.Form.{Place, Saved, saved_bytes, rank, Rising, none, more, RisingBlocks, Ordered, length_in, root_in, blocks_in, height_in, place_count, place_in, places_to, opens, formed, value_in, Placed}
use Rattle.saved.specs.Save.{place_held, layer_held, held_below, marked_below, saved_of}
use Rattle.saved.proofs.RankLaws.{rank_next}
use Rattle.saved.proofs.ReadLaws.{read_back}
use Rattle.saved.proofs.SavedAgain.{rank_layer_end}

-- ---- positions that rise, up to a rank

data Between (h : ℕ) : ℕ → ℕ → List Place → Type 0 where
  nil : {r q : ℕ} → r ≤ q → Between h r q []
  and : {r q : ℕ} {x : Place} {L : List Place} → x.layer ≤ h → x.index < 2 ^ (h - x.layer) → Octets 32 x.hash → r ≤ rank h x.layer x.index
      → Between h (suc (rank h x.layer x.index)) q L → Between h r q (x ∷ L)

between_more : (h r s q : ℕ) (L : List Place) → r ≤ s → Between h s q L → Between h r q L
between_more h r s q [] l (nil k) = nil {r = r} {q = q} (omega arith)
between_more h r s q (x ∷ L) l (and a b o k B) = let k2 : r ≤ rank h x.layer x.index = omega arith in and a b o k2 B

between_append : (h r q u : ℕ) (A B : List Place) → Between h r q A → Between h q u B → Between h r u (A ++ B)
between_append h r q u [] B (nil l) y = between_more h r q u B l y
between_append h r q u (x ∷ A) B (and a b o l z) y = and a b o l (between_append h (suc (rank h x.layer x.index)) q u A B z y)

between_rising : (h r q : ℕ) (L : List Place) → Between h r q L → Rising h r L
between_rising h r q [] (nil l) = none
between_rising h r q (x ∷ L) (and a b o l B) = more a b o l (between_rising h (suc (rank h x.layer x.index)) q L B)

data BlocksTo (c : ℕ) : ℕ → ℕ → List ℕ → Type 0 where
  nil : {i n : ℕ} → i ≤ n → BlocksTo c i n []
  and : {i n j : ℕ} {L : List ℕ} → i ≤ j → j < c → BlocksTo c (suc j) n L → BlocksTo c i n (j ∷ L)

blocks_more : (c i j n : ℕ) (L : List ℕ) → i ≤ j → BlocksTo c j n L → BlocksTo c i n L
blocks_more c i j n [] l (nil k) = nil {i = i} {n = n} (omega arith)
blocks_more c i j n (x ∷ L) l (and a b B) = let k : i ≤ x = omega arith in and k b B

blocks_append : (c i n u : ℕ) (A B : List ℕ) → BlocksTo c i n A → BlocksTo c n u B → BlocksTo c i u (A ++ B)
blocks_append c i n u [] B (nil l) y = blocks_more c i n u B l y
blocks_append c i n u (x ∷ A) B (and a b z) y = and a b (blocks_append c (suc x) n u A B z y)

blocks_rising : (c i n : ℕ) (L : List ℕ) → BlocksTo c i n L → RisingBlocks c i L
blocks_rising c i n [] (nil l) = none
blocks_rising c i n (x ∷ L) (and a b B) = more a b (blocks_rising c (suc x) n L B)

-- ---- what a store holds

data InPlaces (x : Place) : List Place → Type 0 where
  here : {L : List Place} → InPlaces x (x ∷ L)
  there : {y : Place} {L : List Place} → InPlaces x L → InPlaces x (y ∷ L)

in_front : {x : Place} (A B : List Place) → InPlaces x A → InPlaces x (A ++ B)
in_front (y ∷ A) B here = here
in_front (y ∷ A) B (there i) = there (in_front A B i)
in_front [] B x'' = elim x'' [ ]

in_back : {x : Place} (A B : List Place) → InPlaces x B → InPlaces x (A ++ B)
in_back [] B i = i
in_back (y ∷ A) B i = there (in_back A B i)

in_either : {x : Place} (A B : List Place) → InPlaces x (A ++ B) → InPlaces x A ⊎ InPlaces x B
in_either [] B i = inr i
in_either (y ∷ A) B here = inl here
in_either (y ∷ A) B (there i) = elim (in_either A B i) [ inl a ↦ inl (there a) | inr z ↦ inr z ]

in_length : {x : Place} (L : List Place) → InPlaces x L → 1 ≤ length L
in_length (y ∷ L) here = omega arith
in_length (y ∷ L) (there i) = omega (arith, in_length L i)
in_length [] x'' = elim x'' [ ]

module _ (s : List ℕ) (f : Facts s) (bytes : (i : ℕ) → get_or s i 0 < 256) (h : ℕ) (eh : h ≡ height_of s) where
  hash_octets : (l i : ℕ) → i < 2 ^ (h - l) → Octets 32 (hash_at s (node_number h l i))
  unfolding hash_at positions
  hash_octets l i ib =
      let r = node_number_range h l i ib in
      let e : positions h ≡ positions (height_of s) = ap positions eh in
      cut_octets (32 + 33 * node_number h l i) 32 (record { size = refl; bytes = λ j a. bytes j }) (omega (arith, f.room))

  one_between : (l i : ℕ) → l ≤ h → i < 2 ^ (h - l) → Between h (rank h l i) (rank h l (i + 1)) (place_held s h l i)
  one_between l i lh ib = by (held_at s (node_number h l i)) refl
    where
      by : (x : Bool) → held_at s (node_number h l i) ≡ x → Between h (rank h l i) (rank h l (i + 1)) (place_held s h l i)
      by false e = rw e (nil {r = rank h l i} {q = rank h l (i + 1)} (omega (arith, rank_next h l i)))
      by true e = let k : rank h l i ≤ rank h l i = omega arith in rw e (and lh ib (hash_octets l i ib) k (nil {r = suc (rank h l i)} {q = rank h l (i + 1)} (omega (arith, rank_next h l i))))

  layer_between : (l w : ℕ) → l ≤ h → w ≤ 2 ^ (h - l) → Between h (rank h l 0) (rank h l w) (layer_held s h l w)
  unfolding layer_held
  layer_between l zero lh b = nil {r = rank h l 0} {q = rank h l 0} (omega arith)
  layer_between l (suc w) lh b =
      let e : w + 1 ≡ suc w = omega arith in
      between_append h (rank h l 0) (rank h l w) (rank h l (suc w)) (layer_held s h l w) (place_held s h l w) (layer_between l w lh (omega arith)) (rw e at (one_between l w lh (omega arith)))

  below_between : (l : ℕ) → l ≤ h → Between h 0 (rank h l 0) (held_below s h l)
  unfolding held_below
  below_between zero lh = nil {r = 0} {q = rank h 0 0} (omega arith)
  below_between (suc l) lh =
      between_append h 0 (rank h l 0) (rank h (suc l) 0) (held_below s h l) (layer_held s h l (2 ^ (h - l))) (below_between l (omega arith))
      (rw (rank_layer_end h l (omega arith)) at (layer_between l (2 ^ (h - l)) (omega arith) (omega arith)))

  all_rising : Rising h 0 (held_below s h (suc h))
  unfolding held_below
  all_rising =
      between_rising h 0 (rank h h (2 ^ (h - h))) (held_below s h h ++ layer_held s h h (2 ^ (h - h)))
      (between_append h 0 (rank h h 0) (rank h h (2 ^ (h - h))) (held_below s h h) (layer_held s h h (2 ^ (h - h))) (below_between h (omega arith)) (layer_between h (2 ^ (h - h)) (omega arith) (omega arith)))

  marks_between : (c n : ℕ) → n ≤ c → BlocksTo c 0 n (marked_below s n)
  unfolding marked_below
  marks_between c zero l = nil {i = 0} {n = 0} (omega arith)
  marks_between c (suc n) l = blocks_append c 0 n (suc n) (marked_below s n) (cond (marked_at s n) (n ∷ []) []) (marks_between c n (omega arith)) (by (marked_at s n) refl)
    where
      by : (x : Bool) → marked_at s n ≡ x → BlocksTo c n (suc n) (cond (marked_at s n) (n ∷ []) [])
      by false e = rw e (nil {i = n} {n = suc n} (omega arith))
      by true e = rw e (and {i = n} {n = suc n} {j = n} (omega arith) (omega arith) (nil {i = suc n} {n = suc n} (omega arith)))

  -- what stands in the list is held,
  held_one : (l i : ℕ) (x : Place) → InPlaces x (place_held s h l i) → (held_at s (node_number h l i) ≡ true) × (x ≡ record { layer = l; index = i; hash = hash_at s (node_number h l i) })
  held_one l i x k = by (held_at s (node_number h l i)) refl
    where
      alone : (x y : Place) → InPlaces x (y ∷ []) → x ≡ y
      alone x y here = refl
      alone x y (there i) = absurd (omega (arith, in_length [] i))

      by : (t : Bool) → held_at s (node_number h l i) ≡ t → (held_at s (node_number h l i) ≡ true) × (x ≡ record { layer = l; index = i; hash = hash_at s (node_number h l i) })
      by true e = let w : InPlaces x (record { layer = l; index = i; hash = hash_at s (node_number h l i) } ∷ []) = rw e at k in (e, alone x (record { layer = l; index = i; hash = hash_at s (node_number h l i) }) w)
      by false e = let w : InPlaces x [] = rw e at k in absurd (omega (arith, in_length [] w))

  record Named (x : Place) : Type 0 where
    low : x.layer ≤ h
    inside : x.index < 2 ^ (h - x.layer)
    hold : Hold s (node_number h x.layer x.index) x.hash

  layer_named : (l w : ℕ) → l ≤ h → w ≤ 2 ^ (h - l) → (x : Place) → InPlaces x (layer_held s h l w) → Named x
  unfolding layer_held
  layer_named l zero lh b x i = absurd (omega (arith, in_length [] i))
  layer_named l (suc w) lh b x i =
      elim (in_either (layer_held s h l w) (place_held s h l w) i) [
        | inl a ↦ layer_named l w lh (omega arith) x a
        | inr a ↦ let k = held_one l w x a in rw k.1 (record { low = lh; inside = omega arith; hold = (k.0, refl) })
      ]

  below_named : (l : ℕ) → l ≤ suc h → (x : Place) → InPlaces x (held_below s h l) → Named x
  unfolding held_below
  below_named zero lh x i = absurd (omega (arith, in_length [] i))
  below_named (suc l) lh x i =
      elim (in_either (held_below s h l) (layer_held s h l (2 ^ (h - l))) i) [
        | inl a ↦ below_named l (omega arith) x a
        | inr a ↦ layer_named l (2 ^ (h - l)) (omega arith) (omega arith) x a
      ]

  -- and what is held stands in it
  layer_has : (l w i : ℕ) → i < w → held_at s (node_number h l i) ≡ true → InPlaces (record { layer = l; index = i; hash = hash_at s (node_number h l i) }) (layer_held s h l w)
  unfolding layer_held
  layer_has l zero i lt k = absurd (omega arith)
  layer_has l (suc w) i lt k =
      elim (ℕ_discrete i w) [
        | yes e ↦ in_back (layer_held s h l w) (place_held s h l w) (last e)
        | no ne ↦ in_front (layer_held s h l w) (place_held s h l w) (layer_has l w i (omega arith) k)
      ]
    where
      last : i ≡ w → InPlaces (record { layer = l; index = i; hash = hash_at s (node_number h l i) }) (place_held s h l w)
      last e = let k2 : held_at s (node_number h l w) ≡ true = rw e at k in rw (e, k2) here

  below_has : (u l i : ℕ) → l < u → i < 2 ^ (h - l) → held_at s (node_number h l i) ≡ true → InPlaces (record { layer = l; index = i; hash = hash_at s (node_number h l i) }) (held_below s h u)
  unfolding held_below
  below_has zero l i lt ib k = absurd (omega arith)
  below_has (suc u) l i lt ib k =
      elim (ℕ_discrete l u) [
        | yes e ↦ in_back (held_below s h u) (layer_held s h u (2 ^ (h - u))) (subst (λ (m : ℕ). InPlaces (record { layer = l; index = i; hash = hash_at s (node_number h l i) }) (layer_held s h m (2 ^ (h - m)))) e (layer_has l (2 ^ (h - l)) i ib k))
        | no ne ↦ in_front (held_below s h u) (layer_held s h u (2 ^ (h - u))) (below_has u l i (omega arith) ib k)
      ]

-- ---- what bytes name

in_placed : (b : List ℕ) (p : ℕ) (x : Place) → InPlaces x (places_to b p) → Placed b p x.layer x.index x.hash
unfolding places_to
in_placed b zero x i = absurd (omega (arith, in_length [] i))
in_placed b (suc p) x i =
    elim (in_either (places_to b p) (place_in b p ∷ []) i) [
      | inl a ↦ let X = in_placed b p x a in record { k = X.k; low = omega (arith, X.low); layer = X.layer; index = X.index; hash = X.hash }
      | inr a ↦ let e = alone x (place_in b p) a in rw e (record { k = p; low = omega arith; layer = refl; index = refl; hash = refl })
    ]
  where
    alone : (x y : Place) → InPlaces x (y ∷ []) → x ≡ y
    alone x y here = refl
    alone x y (there i) = absurd (omega (arith, in_length [] i))

placed_in : (b : List ℕ) (p k : ℕ) → k < p → InPlaces (place_in b k) (places_to b p)
unfolding places_to
placed_in b zero k l = absurd (omega arith)
placed_in b (suc p) k l =
    elim (ℕ_discrete k p) [
      | yes e ↦ in_back (places_to b p) (place_in b p ∷ []) (rw e here)
      | no ne ↦ in_front (places_to b p) (place_in b p ∷ []) (placed_in b p k (omega arith))
    ]

-- ---- the store saved

module _ (s : List ℕ) (f : Facts s) (bytes : (i : ℕ) → get_or s i 0 < 256) where
  -- what is saved is in order
  pub saved_ordered : Ordered (saved_of s)
  unfolding saved_of facts_root height_of blocks_of
  saved_ordered =
      record {
        root = cut_octets 12 32 (record { size = refl; bytes = λ j a. bytes j }) (omega (arith, f.long));
        places = all_rising s f bytes (height_of s) refl;
        marks = blocks_rising (blocks_of s) 0 (blocks_of s) (marked_below s (blocks_of s)) (marks_between s f bytes (height_of s) refl (blocks_of s) (blocks_of s) (omega arith));
      }

  n_is : (saved_of s).n ≡ file_length s
  unfolding saved_of
  n_is = refl

  plen_is : (saved_of s).plen ≡ piece_length s
  unfolding saved_of
  plen_is = refl

  blocks_are : block_count (saved_of s).n ≡ blocks_of s
  unfolding saved_of blocks_of
  blocks_are = refl

  height_is : height (block_count (saved_of s).n) ≡ height_of s
  unfolding saved_of blocks_of height_of
  height_is = refl

  -- WHAT IS SAVED of any usable store has the form, and says what was saved
  pub saved_reads : (opens (saved_bytes (saved_of s)) ≡ true) × (formed (saved_bytes (saved_of s)) ≡ true) × (value_in (saved_bytes (saved_of s)) ≡ saved_of s)
  saved_reads =
      read_back (saved_of s) saved_ordered (omega (arith, blocks_are, facts_blocks_most s f)) (omega (arith, height_is, facts_height s f)) (omega (arith, n_is, f.most)) (omega (arith, plen_is, piece_length_most (piece_length s) f.piece))

  saved : List ℕ
  saved = saved_bytes (saved_of s)

  value : value_in saved ≡ saved_of s
  unfolding saved
  value = saved_reads.2

  read_places : places_to saved (place_count saved) ≡ held_below s (height_of s) (suc (height_of s))
  unfolding value_in saved_of
  read_places = ap (λ (v : Saved). v.places) value

  read_length : length_in saved ≡ file_length s
  unfolding value_in saved_of
  read_length = ap (λ (v : Saved). v.n) value

  read_root : root_in saved ≡ facts_root s
  unfolding value_in saved_of
  read_root = ap (λ (v : Saved). v.root) value

  pub saved_root : root_in (saved_bytes (saved_of s)) ≡ facts_root s
  unfolding saved
  saved_root = read_root

  pub read_blocks : blocks_in (saved_bytes (saved_of s)) ≡ blocks_of s
  unfolding blocks_of saved
  read_blocks = ap block_count read_length

  pub read_height : height_in (saved_bytes (saved_of s)) ≡ height_of s
  unfolding height_of
  read_height = ap height read_blocks

  -- NAMED EXACTLY IF HELD
  pub saved_exactly : (l i : ℕ) (v : List ℕ) → Placed (saved_bytes (saved_of s)) (place_count (saved_bytes (saved_of s))) l i v
      ↔ ((l ≤ height_of s) × (i < 2 ^ (height_of s - l)) × Hold s (node_number (height_of s) l i) v)
  unfolding saved
  saved_exactly l i v = (to, from)
    where
      to : Placed (saved_bytes (saved_of s)) (place_count (saved_bytes (saved_of s))) l i v → (l ≤ height_of s) × (i < 2 ^ (height_of s - l)) × Hold s (node_number (height_of s) l i) v
      to X =
          let k : InPlaces (place_in (saved_bytes (saved_of s)) X.k) (held_below s (height_of s) (suc (height_of s))) = subst (InPlaces (place_in (saved_bytes (saved_of s)) X.k)) (unfold saved in read_places) (placed_in (saved_bytes (saved_of s)) (place_count (saved_bytes (saved_of s))) X.k X.low) in
          let n = below_named s f bytes (height_of s) refl (suc (height_of s)) (omega arith) (place_in (saved_bytes (saved_of s)) X.k) k in
          (rw X.layer at n.low, rw (X.layer, X.index) at n.inside, rw (X.layer, X.index, X.hash) at n.hold)

      from : (l ≤ height_of s) × (i < 2 ^ (height_of s - l)) × Hold s (node_number (height_of s) l i) v → Placed (saved_bytes (saved_of s)) (place_count (saved_bytes (saved_of s))) l i v
      from w =
          let k = below_has s f bytes (height_of s) refl (suc (height_of s)) l i (omega (arith, w.0)) w.1 w.2.0 in
          let X = in_placed (saved_bytes (saved_of s)) (place_count (saved_bytes (saved_of s))) (record { layer = l; index = i; hash = hash_at s (node_number (height_of s) l i) }) (subst (InPlaces (record { layer = l; index = i; hash = hash_at s (node_number (height_of s) l i) })) (sym (unfold saved in read_places)) k) in
          record { k = X.k; low = X.low; layer = X.layer; index = X.index; hash = X.hash ∙ w.2.1 }

-- Demand 2: the positions that a message settles, by layer and index, are 2·length − 1 + 2u, distinct, in the tree; the count of a taken
-- message is those for which kd_held did not answer 0 before. The same for a piece layer.
-- Assumes nothing.
use Rattle.std.specs.Prelude.{◌≡◌, Bool, true, false, not, ℕ, ◌+◌, ◌-◌, ◌*◌, ◌^◌, ◌≤◌, ◌<◌, length, eqb, List, [], ◌∷◌}
use Rattle.std.proofs.Math.Path.{refl, ap, sym}
use Rattle.std.proofs.Common.{ap₂, ◌∙◌, pow_pos, arith, eq-eqb, ne_eqb, le-leb, lt-ltb}
use Rattle.std.proofs.Math.ListN.{length-append}
use Rattle.sha256.specs.declared.Hashed.{Hashed}
use Rattle.tree.specs.Geometry.{node_number}
use Rattle.tree.proofs.GeometryLaws.{node_number_distinct, node_number_root, longer_has}
use Rattle.tree.specs.Values.{node, layer_leaf}
use Rattle.cells.specs.Cells.{held_at}
use Rattle.cells.specs.Entries.{Entry, one_if, newly, lacks}
use Rattle.cells.specs.EntriesLaws.{In, here, there, Apart, Sound, count_fresh}
use Rattle.store.specs.Store.{usable, height_of, in_tree, held_answer, file_length, piece_length, positions, Facts}
use Rattle.store.specs.StoreLaws.{held_given, held_not, usable_facts}
use Rattle.settling.specs.Subtree.{subtree}
use Rattle.settling.specs.SubtreeLaws.{subtree_length, subtree_apart}
use Rattle.settling.specs.Path.{path}
use Rattle.settling.specs.PathLaws.{path_length}
use Rattle.settling.specs.SettledLaws.{settled_apart}
use Rattle.header.specs.Header.{header_of, is_hashes}
use Rattle.messages.specs.Take.{given, uncles_of, settled, place_in, take_number, take_answer}
use Rattle.messages.specs.Asks.{RulesPassed}
use Rattle.messages.specs.TakeLaws.{passed, placed}
use Rattle.pieces.specs.Pieces.{layer_of_pieces, layer_settled, layer_number, layer_answer}
use Rattle.pieces.specs.Asks.{Layered}
use Rattle.pieces.proofs.PiecesLaws.{layered, layer_sound, layer_taken, settled_from_root}
use Rattle.words.specs.Messages.{uncles_in, Settles}
use Rattle.saved.specs.Clauses.{Hashes}
use Rattle.words.specs.Held.{Fixed, Stands, first, later, Distinct, none, more, All, unheld_among}
use Rattle.words.specs.Pieces.{LayerFormed, LayerSettles}
use Rattle.knowledge.specs.TakenWhen.{Formed, taken_well_formed}
use Rattle.knowledge.specs.TakenEntries.{lacking, count_lacking, count_most, fresh_lacking}
use Rattle.knowledge.specs.Over.{Entered, Found, over_entered, entry_over}
use Rattle.knowledge.specs.Positions.{settles_entered, entry_settled, u_is}
use Rattle.knowledge.specs.JudgedWhen.{layer_0}

-- ---- from entries

module _ (h : ℕ) (R : Hashes) where
  unfoldable fixed_in : (L : List Entry) → ((e : Entry) → In e L → Found h R e.at e.hash) → List Fixed
  fixed_in [] f = []
  fixed_in (e ∷ L) f = record { l = (f e here).l; i = (f e here).i; v = e.hash } ∷ fixed_in L (λ g x. f g (there x))

  fixed_many : (L : List Entry) (f : (e : Entry) → In e L → Found h R e.at e.hash) → length (fixed_in L f) ≡ length L
  unfolding fixed_in
  fixed_many [] f = refl
  fixed_many (e ∷ L) f = omega (arith, fixed_many L (λ g x. f g (there x)))

  -- what stands among them is settled,
  stands_settled : (L : List Entry) (f : (e : Entry) → In e L → Found h R e.at e.hash) (l i : ℕ) (v : List ℕ) → Stands l i v (fixed_in L f) → R l i v
  unfolding fixed_in
  stands_settled (e ∷ L) f l i v first = (f e here).settles
  stands_settled (e ∷ L) f l i v (later x) = stands_settled L (λ g y. f g (there y)) l i v x
  stands_settled [] f l i v x' = elim x' [ ]

  -- by an entry at its number
  stands_entry : (L : List Entry) (f : (e : Entry) → In e L → Found h R e.at e.hash) (l i : ℕ) (v : List ℕ) → Stands l i v (fixed_in L f)
      → (e : Entry) × In e L × (e.at ≡ node_number h l i)
  unfolding fixed_in
  stands_entry (e ∷ L) f l i v first = (e, here, (f e here).number)
  stands_entry (e ∷ L) f l i v (later x) = let w = stands_entry L (λ g y. f g (there y)) l i v x in (w.0, there w.1, w.2)
  stands_entry [] f l i v x' = elim x' [ ]

  -- and every entry's position stands among them
  entry_stands : (L : List Entry) (f : (e : Entry) → In e L → Found h R e.at e.hash) (l i : ℕ) → l ≤ h → i < 2 ^ (h - l)
      → (e : Entry) → In e L → e.at ≡ node_number h l i → Stands l i e.hash (fixed_in L f)
  unfolding fixed_in
  entry_stands (g ∷ L) f l i a b e here q =
      let S = f e here in
      let d = node_number_distinct h l i S.l S.i a S.low b S.inside (sym q ∙ S.number) in
      rw (← d.0, ← d.1) first
  entry_stands (g ∷ L) f l i a b e (there x) q = later (entry_stands L (λ k y. f k (there y)) l i a b e x q)
  entry_stands [] f l i a b e x4 q = elim x4 [ ]

  fixed_distinct : (L : List Entry) (f : (e : Entry) → In e L → Found h R e.at e.hash) → Apart L → Distinct (fixed_in L f)
  unfolding fixed_in
  fixed_distinct [] f Rattle.cells.specs.EntriesLaws.Apart.none = none
  fixed_distinct (e ∷ L) f (Rattle.cells.specs.EntriesLaws.Apart.more k A) =
      more (λ v x. let w = stands_entry L (λ g y. f g (there y)) (f e here).l (f e here).i v x in k w.0 w.1 (w.2 ∙ sym (f e here).number))
      (fixed_distinct L (λ g y. f g (there y)) A)

  pub all_of : (L : List Entry) → ((l i : ℕ) (v : List ℕ) → R l i v → Entered h L l i v) → ((e : Entry) → In e L → Found h R e.at e.hash) → Apart L → (n : ℕ) → length L ≡ n → All R n
  all_of L to f A n q =
      record {
        all = fixed_in L f;
        many = fixed_many L f ∙ q;
        distinct = fixed_distinct L f A;
        exactly =
            λ l i v. (
              stands_settled L f l i v,
              λ x. let E = to l i v x in entry_stands L f l i E.low E.inside (record { at = node_number h l i; hash = v }) E.has refl,
            );
      }

-- ---- a message

module _ (s m : List ℕ) (W : Formed s m) where
  P : RulesPassed (is_hashes m) s m
  P = passed (is_hashes m) s m W.header

  run_is : 2 ^ (place_in s m).k ≡ (header_of m).len
  run_is = (placed (is_hashes m) s m P).power

  entries_many : length (settled m (place_in s m)) ≡ 2 * (header_of m).len - 1 + 2 * uncles_in m
  unfolding settled
  entries_many =
      let p = place_in s m in
      let A = subtree (given m p.k) p.k p.top 0 in
      let B = path (uncles_of m (2 ^ p.k) p.u) 0 p.u p.top (node (given m p.k) p.k 0) in
      omega (
        arith,
        run_is,
        u_is s m W,
        length-append A B,
        subtree_length (given m p.k) p.k p.top 0,
        path_length (uncles_of m (2 ^ p.k) p.u) 0 p.u p.top (node (given m p.k) p.k 0),
      )

  entries_apart : Apart (settled m (place_in s m))
  unfolding settled
  entries_apart =
      let p = place_in s m in
      settled_apart (given m p.k) (uncles_of m (2 ^ p.k) p.u) p.k p.top 0 0 p.u (node (given m p.k) p.k 0) (placed (is_hashes m) s m P).anchor

  -- A WELL-FORMED MESSAGE SETTLES 2·length − 1 + 2u positions, each with one hash
  pub settles_many : All (Settles m) (2 * (header_of m).len - 1 + 2 * uncles_in m)
  settles_many =
      all_of (height_of s) (Settles m) (settled m (place_in s m)) (settles_entered s m W) (entry_settled s m W) entries_apart (2 * (header_of m).len - 1 + 2 * uncles_in m) entries_many

  -- all of them in the tree
  pub settles_in_tree : (l i : ℕ) (v : List ℕ) → Settles m l i v → (l ≤ height_of s) × (i < 2 ^ (height_of s - l))
  settles_in_tree l i v x = let E = settles_entered s m W l i v x in (E.low, E.inside)

-- ---- the count

-- kd_held answers 0 for a position exactly if it is held
asked : (s : List ℕ) → usable s ≡ true → (l i : ℕ) → l ≤ height_of s → i < 2 ^ (height_of s - l) → eqb (held_answer s l i).number 0 ≡ held_at s (node_number (height_of s) l i)
asked s u l i a b = by (held_at s (node_number (height_of s) l i)) refl
  where
    t : in_tree (height_of s) l i ≡ true
    t = unfold in_tree in rw (le-leb l (height_of s) a, lt-ltb i (2 ^ (height_of s - l)) b)

    by : (x : Bool) → held_at s (node_number (height_of s) l i) ≡ x → eqb (held_answer s l i).number 0 ≡ held_at s (node_number (height_of s) l i)
    by true e = eq-eqb (held_answer s l i).number 0 (sym (ap (λ (r : Hashed). r.number) (held_given s l i u t e))) ∙ sym e
    by false e =
        let q : (held_answer s l i).number ≡ 6 = sym (ap (λ (r : Hashed). r.number) (held_not s l i u t e)) in
        ne_eqb (held_answer s l i).number 0 (λ z. omega arith) ∙ sym e

fixed_unheld : (s : List ℕ) → usable s ≡ true → (R : Hashes) (L : List Entry) (f : (e : Entry) → In e L → Found (height_of s) R e.at e.hash) → unheld_among s (fixed_in (height_of s) R L f) ≡ lacking s L
unfolding fixed_in unheld_among lacking lacks
fixed_unheld s u R [] f = refl
fixed_unheld s u R (e ∷ L) f =
    let S = f e here in
    let q : eqb (held_answer s S.l S.i).number 0 ≡ held_at s e.at = asked s u S.l S.i S.low S.inside ∙ sym (ap (held_at s) S.number) in
    ap₂ (λ (b : Bool) (n : ℕ). one_if (not b) + n) q (fixed_unheld s u R L (λ g y. f g (there y)))

module _ (s m : List ℕ) (z : take_number s m ≡ 0) where
  well : Formed s m
  well = taken_well_formed s m z

  -- THE COUNT of a taken message: the positions that it settles and for which kd_held did not answer 0
  count_unheld : (take_answer s m).count ≡ unheld_among s (settles_many s m (taken_well_formed s m z)).all
  unfolding settles_many all_of well
  count_unheld = count_lacking s m z ∙ sym (fixed_unheld s (P s m well).store (Settles m) (settled m (place_in s m)) (entry_settled s m well))

  pub counted : (A : All (Settles m) (2 * (header_of m).len - 1 + 2 * uncles_in m)) × ((take_answer s m).count ≡ unheld_among s A.all)
  counted = (settles_many s m (taken_well_formed s m z), count_unheld)

  -- at most 2·length − 2 + 2u
  pub count_bound : (take_answer s m).count ≤ 2 * (header_of m).len - 2 + 2 * uncles_in m
  count_bound = omega (arith, count_most s m z, run_is s m well, u_is s m well)

-- ---- a layer

module _ (s layer : List ℕ) (F : LayerFormed s layer) where
  facts : Facts s
  facts = usable_facts s F.store

  lies : Layered s
  lies = layered s facts (longer_has (file_length s) (piece_length s) F.longer)

  reaches : layer_of_pieces s + (height_of s - layer_of_pieces s) ≡ height_of s
  reaches = omega (arith, lies.above)

  root_is : node_number (height_of s) (layer_of_pieces s + (height_of s - layer_of_pieces s)) 0 ≡ 1
  root_is = ap (λ (y : ℕ). node_number (height_of s) y 0) reaches ∙ node_number_root (height_of s)

  some : 0 < 2 ^ (height_of s - (layer_of_pieces s + (height_of s - layer_of_pieces s)))
  some = pow_pos (height_of s - (layer_of_pieces s + (height_of s - layer_of_pieces s)))

  layer_entered : (l i : ℕ) (v : List ℕ) → LayerSettles s layer l i v → Entered (height_of s) (layer_settled s layer) l i v
  unfolding layer_settled
  layer_entered l i v x =
      rw root_is at (over_entered (layer_leaf layer (layer_of_pieces s)) (height_of s) (layer_of_pieces s) 0 (height_of s - layer_of_pieces s) (omega (arith, reaches)) some l i v x)

  layer_found : (e : Entry) → In e (layer_settled s layer) → Found (height_of s) (LayerSettles s layer) e.at e.hash
  unfolding layer_settled
  layer_found e x =
      entry_over (layer_leaf layer (layer_of_pieces s)) (height_of s) (layer_of_pieces s) 0 (height_of s - layer_of_pieces s) (omega (arith, reaches)) some e (rw root_is x)

  apart : Apart (layer_settled s layer)
  unfolding layer_settled
  apart = subtree_apart (layer_leaf layer (layer_of_pieces s)) (height_of s - layer_of_pieces s) 1 0 (omega arith)

  many : length (layer_settled s layer) ≡ 2 * 2 ^ (height_of s - layer_of_pieces s) - 1
  unfolding layer_settled
  many = omega (arith, subtree_length (layer_leaf layer (layer_of_pieces s)) (height_of s - layer_of_pieces s) 1 0)

  -- A LAYER SETTLES 2·2^(h − p) − 1 positions, each with one hash
  pub layer_settles_many : All (LayerSettles s layer) (2 * 2 ^ (height_of s - layer_of_pieces s) - 1)
  layer_settles_many =
      all_of (height_of s) (LayerSettles s layer) (layer_settled s layer) layer_entered layer_found apart (2 * 2 ^ (height_of s - layer_of_pieces s) - 1) many

module _ (s layer : List ℕ) (z : layer_number s layer ≡ 0) where
  formed : LayerFormed s layer
  formed = ((layer_0 s layer).0 z).0

  sound : Sound (positions (height_of s)) (layer_settled s layer)
  sound = layer_sound s layer (lies s layer formed)

  -- THE COUNT of a layer that is loaded: the positions of layer p and above it for which kd_held did not answer 0
  layer_count_unheld : (layer_answer s layer).count ≡ unheld_among s (layer_settles_many s layer ((layer_0 s layer).0 z).0).all
  unfolding layer_answer layer_settles_many all_of formed
  layer_count_unheld =
      ap (newly (positions (height_of s)) s) (layer_taken s layer z)
      ∙ count_fresh (positions (height_of s)) (layer_settled s layer) s (facts s layer formed).room sound (settled_from_root s layer (lies s layer formed))
      ∙ fresh_lacking (positions (height_of s)) (layer_settled s layer) s (facts s layer formed).room sound (apart s layer formed)
      ∙ sym (fixed_unheld s formed.store (LayerSettles s layer) (layer_settled s layer) (layer_found s layer formed))

  pub layer_counted : (A : All (LayerSettles s layer) (2 * 2 ^ (height_of s - layer_of_pieces s) - 1)) × ((layer_answer s layer).count ≡ unheld_among s A.all)
  layer_counted = (layer_settles_many s layer ((layer_0 s layer).0 z).0, layer_count_unheld)

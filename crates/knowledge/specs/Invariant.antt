-- What a store that only this build has written looks like: opening makes it so, and every call keeps it so.
-- Assumes nothing.
use Rattle.std.specs.Prelude.{◌≡◌, refl, Bool, List, ◌⊎◌, ℕ, ◌+◌, ◌-◌, ◌*◌, ◌/◌, ◌%◌, ◌^◌, ◌≤◌, ◌<◌, length, leb}
use Rattle.std.proofs.Common.{ap, ap₂, sym, ◌∙◌, inl, inr, arith, eq-eqb, ne_eqb, eqb-true, leb-true}
use Rattle.std.proofs.Math.Bool.{true, false}
use Rattle.std.proofs.lemmas.Bool.{false≢true}
use Rattle.std.proofs.Math.Decide.{ℕ_discrete}
use Rattle.sha256.specs.Sha256.{pair_hash}
use Rattle.tree.specs.Geometry.{Padding, block_count, height, node_number}
use Rattle.tree.proofs.GeometryLaws.{node_number_root, node_number_range, node_number_distinct}
use Rattle.tree.specs.Values.{node, pad_value, leaf_of, layer_leaf}
use Rattle.tree.proofs.ValuesLaws.{leaf_octets}
use Rattle.cells.specs.Cells.{held_at, hash_at}
use Rattle.cells.specs.Entries.{Entry, agrees, put_all}
use Rattle.cells.specs.EntriesLaws.{Sound, Hold, keeps, In, Has, Consistent, apart_consistent, entries_held, held_or_entry, from_root_in}
use Rattle.store.specs.Store.{facts_root, blocks_of, height_of, positions, facts_in_range, store_size, open_answer, open_after, opened, Facts, SameFacts}
use Rattle.store.specs.StoreLaws.{facts_blocks, positions_some, positions_even, put_all_same_facts, put_all_facts, opened_facts, opened_facts_root, opened_height, opened_held, opened_hash, used_same, used_facts, used_held, used_hash}
use Rattle.settling.specs.Subtree.{subtree}
use Rattle.settling.specs.Path.{sibling, parent_value}
use Rattle.settling.specs.PathLaws.{sibling_even, sibling_odd, parent_even, parent_odd}
use Rattle.settling.specs.SubtreeLaws.{FamilyIn, subtree_sound, subtree_apart, subtree_family, subtree_positive}
use Rattle.settling.specs.SettledLaws.{settled_positive, settled_consistent, settled_family}
use Rattle.header.specs.Header.{header_of, is_hashes}
use Rattle.messages.specs.Take.{uncles_of, given, settled, anchor, place_in, take_number, take_after}
use Rattle.messages.specs.Asks.{Ready}
use Rattle.messages.specs.TakeLaws.{passed}
use Rattle.messages.specs.TakenLaws.{ready_settled, taken_ready}
use Rattle.pieces.specs.Pieces.{layer_of_pieces, layer_settled, layer_number, layer_after, piece_height}
use Rattle.pieces.specs.Asks.{Layered, PieceIn}
use Rattle.pieces.proofs.PiecesLaws.{layer_loads, loads_layered, layer_sound, layer_refused, layer_taken, piece_within}
use Rattle.marks.specs.Marks.{marks_put}
use Rattle.marks.specs.MarksLaws.{marks_same_facts, marks_facts}
use Rattle.words.specs.History.{SameStore}
use Rattle.knowledge.specs.MarksApart.{marks_held, marks_hash}
use Rattle.knowledge.specs.TakenWhen.{taken_then_right, taken_well_formed}
use Rattle.knowledge.specs.RightPadding.{Pads, at_place, settled_pads}

-- ---- the definition

-- the position beside n and the parent are held too, and the parent is the hash of the two
pub record Family (s : List ℕ) (n : ℕ) : Type 0 where
  pub beside : held_at s (sibling n) ≡ true
  pub above : held_at s (n / 2) ≡ true
  pub hash : hash_at s (n / 2) ≡ parent_value n (hash_at s n) (hash_at s (sibling n))

-- usable; the root is held with the facts' value; every other held position has its family
pub record Chained (s : List ℕ) : Type 0 where
  pub facts : Facts s
  pub root : Hold s 1 (facts_root s)
  pub family : (n : ℕ) → 2 ≤ n → n < positions (height_of s) → held_at s n ≡ true → Family s n

-- and every held padding position has its layer's padding value
pub record Ours (s : List ℕ) : Type 0 where
  pub chained : Chained s
  pub padding : (l i : ℕ) → l ≤ height_of s → i < 2 ^ (height_of s - l) → Padding (blocks_of s) l i
      → held_at s (node_number (height_of s) l i) ≡ true → hash_at s (node_number (height_of s) l i) ≡ pad_value l

-- ---- a family, by its parent p

-- p and both its children are held, and p is the hash of the two
pub record Pair (s : List ℕ) (p : ℕ) : Type 0 where
  pub top : held_at s p ≡ true
  pub left : held_at s (2 * p) ≡ true
  pub right : held_at s (2 * p + 1) ≡ true
  pub made : hash_at s p ≡ pair_hash (hash_at s (2 * p)) (hash_at s (2 * p + 1))

-- a held position with its family is such a pair
pub family_pair : (s : List ℕ) (n : ℕ) → held_at s n ≡ true → Family s n → Pair s (n / 2)
family_pair s n h F =
    elim (ℕ_discrete (n % 2) 0) [
      | yes z ↦
          let en : 2 * (n / 2) ≡ n = omega arith in
          let es : 2 * (n / 2) + 1 ≡ sibling n = omega (arith, sibling_even n z) in
          record {
            top = F.above;
            left = rw en h;
            right = rw es F.beside;
            made = F.hash ∙ parent_even n (hash_at s n) (hash_at s (sibling n)) z ∙ sym (ap₂ (λ (x y : ℕ). pair_hash (hash_at s x) (hash_at s y)) en es);
          }
      | no z ↦
          let en : 2 * (n / 2) + 1 ≡ n = omega arith in
          let es : 2 * (n / 2) ≡ sibling n = omega (arith, sibling_odd n z) in
          record {
            top = F.above;
            left = rw es F.beside;
            right = rw en h;
            made = F.hash ∙ parent_odd n (hash_at s n) (hash_at s (sibling n)) z ∙ sym (ap₂ (λ (x y : ℕ). pair_hash (hash_at s x) (hash_at s y)) es en);
          }
    ]

-- and such a pair is the family of either child
pub family_of_pair : (s : List ℕ) (n : ℕ) → Pair s (n / 2) → Family s n
family_of_pair s n P =
    elim (ℕ_discrete (n % 2) 0) [
      | yes z ↦
          let en : 2 * (n / 2) ≡ n = omega arith in
          let es : 2 * (n / 2) + 1 ≡ sibling n = omega (arith, sibling_even n z) in
          record {
            beside = rw es at P.right;
            above = P.top;
            hash = P.made ∙ ap₂ (λ (x y : ℕ). pair_hash (hash_at s x) (hash_at s y)) en es ∙ sym (parent_even n (hash_at s n) (hash_at s (sibling n)) z);
          }
      | no z ↦
          let en : 2 * (n / 2) + 1 ≡ n = omega arith in
          let es : 2 * (n / 2) ≡ sibling n = omega (arith, sibling_odd n z) in
          record {
            beside = rw es at P.left;
            above = P.top;
            hash = P.made ∙ ap₂ (λ (x y : ℕ). pair_hash (hash_at s x) (hash_at s y)) es en ∙ sym (parent_odd n (hash_at s n) (hash_at s (sibling n)) z);
          }
    ]

-- ---- what a message, a layer or a piece settles, seen alike

-- hashes at positions below N, none given two, each the anchor a or with its family
pub record Whole (N a : ℕ) (L : List Entry) : Type 0 where
  pub sound : Sound N L
  pub from : (e : Entry) → In e L → 1 ≤ e.at
  pub alone : Consistent L
  pub family : (e : Entry) → In e L → (e.at ≡ a) ⊎ FamilyIn L e.at

-- a message that lies in the tree settles such a list, up to its anchor
pub message_whole : (s m : List ℕ) → Ready (length s) (length m) (height_of s) (header_of m) (place_in s m)
    → Whole (positions (height_of s)) (anchor (place_in s m)) (settled m (place_in s m))
unfolding settled anchor
message_whole s m r =
    let p = place_in s m in
    let leaf = given m p.k in
    let us = uncles_of m (2 ^ p.k) p.u in
    record {
      sound = unfold settled in ready_settled (length s) m (height_of s) (header_of m) (place_in s m) r;
      from = settled_positive leaf us p.k p.top 0 0 p.u (node leaf p.k 0) r.anchor;
      alone = settled_consistent leaf us p.k p.top 0 0 p.u (node leaf p.k 0) r.anchor;
      family = settled_family leaf us p.k p.top 0 0 p.u r.anchor;
    }

-- so does a layer, up to the root
pub layer_whole : (s l : List ℕ) → Layered s → Whole (positions (height_of s)) 1 (layer_settled s l)
layer_whole s l f =
    record {
      sound = layer_sound s l f;
      from = λ e x. (Rattle.pieces.proofs.PiecesLaws.settled_numbers s l f e x).0;
      alone = apart_consistent (layer_settled s l) (Rattle.pieces.proofs.PiecesLaws.settled_apart s l f);
      family = Rattle.pieces.proofs.PiecesLaws.settled_family s l;
    }

-- and a piece, up to its node
pub piece_whole : (s : List ℕ) (i : ℕ) (piece : List ℕ) → PieceIn s i
    → Whole (positions (height_of s)) (node_number (height_of s) (piece_height s) i) (subtree (leaf_of piece) (piece_height s) (node_number (height_of s) (piece_height s) i) 0)
piece_whole s i piece p =
    let k = piece_height s in
    let n = node_number (height_of s) (piece_height s) i in
    let low : 1 ≤ node_number (height_of s) (piece_height s) i = (Rattle.tree.proofs.GeometryLaws.node_number_range (height_of s) (piece_height s) i p.inside).0 in
    record {
      sound = subtree_sound (leaf_of piece) (λ j. (leaf_octets piece j).size) (positions (height_of s)) k n 0 (piece_within s i p);
      from = subtree_positive (leaf_of piece) k n 0 low;
      alone = apart_consistent (subtree (leaf_of piece) k n 0) (subtree_apart (leaf_of piece) k n 0 low);
      family = λ e x. elim (subtree_family (leaf_of piece) k n 0 e x) [ inl t ↦ inl t.0 | inr f ↦ inr f ];
    }

-- ---- such a list keeps the chain

module _ (s : List ℕ) (L : List Entry) (a : ℕ) (c : Chained s) (w : Whole (positions (height_of s)) a L) (h : held_at s a ≡ true) (g : agrees s L ≡ true) where
  same_facts : SameFacts s (put_all s L)
  same_facts = put_all_same_facts s c.facts L w.sound (from_root_in L w.from)

  stays : (q : ℕ) → q < positions (height_of s) → held_at s q ≡ true → Hold (put_all s L) q (hash_at s q)
  stays = keeps (positions (height_of s)) L s c.facts.room w.sound g

  taken : (q : ℕ) (v : List ℕ) → Has q v L → Hold (put_all s L) q v
  taken q v x = entries_held (positions (height_of s)) L s c.facts.room w.sound w.alone (record { at = q; hash = v }) x

  pair_stays : (p : ℕ) → 2 * p + 1 < positions (height_of s) → Pair s p → Pair (put_all s L) p
  pair_stays p b P =
      let t = stays p (omega arith) P.top in
      let l = stays (2 * p) (omega arith) P.left in
      let r = stays (2 * p + 1) b P.right in
      record { top = t.0; left = l.0; right = r.0; made = t.1 ∙ P.made ∙ sym (ap₂ pair_hash l.1 r.1) }

  pair_taken : (q : ℕ) → FamilyIn L q → Pair (put_all s L) (q / 2)
  pair_taken q F =
      let t = taken (q / 2) (pair_hash F.l F.r) F.parent in
      let l = taken (2 * (q / 2)) F.l F.left in
      let r = taken (2 * (q / 2) + 1) F.r F.right in
      record { top = t.0; left = l.0; right = r.0; made = t.1 ∙ sym (ap₂ pair_hash l.1 r.1) }

  family_after : (n : ℕ) → 2 ≤ n → n < positions (height_of s) → held_at (put_all s L) n ≡ true → Family (put_all s L) n
  family_after n two b k =
      elim (held_or_entry (positions (height_of s)) L s c.facts.room w.sound n k) [
        | inl x ↦ was x
        | inr o ↦ elim (w.family (record { at = n; hash = o.0 }) o.1) [
          | inl e ↦ was (rw e h)
          | inr F ↦ family_of_pair (put_all s L) n (pair_taken n F)
        ]
      ]
    where
      was : held_at s n ≡ true → Family (put_all s L) n
      was x = family_of_pair (put_all s L) n (pair_stays (n / 2) (omega (arith, positions_even (height_of s))) (family_pair s n x (c.family n two b x)))

  -- the store in which such a list is held chains, if its anchor was held and no held hash differs
  pub chained_put_all : Chained (put_all s L)
  chained_put_all =
      let r = stays 1 (positions_some (height_of s)) c.root.0 in
      record {
        facts = put_all_facts s c.facts L w.sound (from_root_in L w.from);
        root = (r.0, r.1 ∙ c.root.1 ∙ sym same_facts.root);
        family = λ n two b k. family_after n two (rw same_facts.layers at b) k;
      }

-- ---- every call keeps it

-- opening
pub chained_opened : (b : List ℕ) (n plen : ℕ) (root : List ℕ) → length root ≡ 32 → (open_answer b n plen).number ≡ 0 → Chained (open_after b n plen root)
unfolding open_after open_answer
chained_opened b n plen root size z = by (facts_in_range n plen) (leb (store_size n) (length b)) refl refl
  where
    by : (x y : Bool) → facts_in_range n plen ≡ x → leb (store_size n) (length b) ≡ y → Chained (open_after b n plen root)
    by true true p q =
        let fits = leb-true (store_size n) (length b) q in
        let o : Chained (opened b n plen root) =
        record {
          facts = opened_facts b n plen root p fits size;
          root = (
            opened_held b n plen root p fits size 1 (omega arith) (positions_some (height (block_count n))),
            opened_hash b n plen root p fits size ∙ sym (opened_facts_root b n plen root p fits size),
          );
          family =
              λ k two l h.
              let e = opened_held b n plen root p fits size k (omega arith) (rw (opened_height b n plen root p fits size) at l) in
              absurd (false≢true (sym (ne_eqb k 1 (λ q. omega arith)) ∙ sym e ∙ h));
        } in
        unfold open_after in rw (p, q) o
    by true false p q = let w : ⊥ = unfold open_answer in omega (arith, rw (p, q) at z) in absurd w
    by false y p q = let w : ⊥ = unfold open_answer in omega (arith, rw p at z) in absurd w

-- ---- and the padding

-- the padding clause, by positions' numbers
abbrev PaddedStore : ℕ → ℕ → List ℕ → Type 0
PaddedStore h b s = (n : ℕ) → n < positions h → held_at s n ≡ true → Pads h b n (hash_at s n)

ours_by_number : (s : List ℕ) → Ours s → PaddedStore (height_of s) (blocks_of s) s
ours_by_number s o n lt h l i lh ib q pd = ap (hash_at s) q ∙ o.padding l i lh ib pd (rw q at h)

by_number_ours : (s : List ℕ) → Chained s → PaddedStore (height_of s) (blocks_of s) s → Ours s
unfolding positions
by_number_ours s c f =
    record {
      chained = c;
      padding = λ l i lh ib pd h. f (node_number (height_of s) l i) (node_number_range (height_of s) l i ib).1 h l i lh ib refl pd;
    }

pads_same : (h b n n2 : ℕ) (v v2 : List ℕ) → n ≡ n2 → v ≡ v2 → Pads h b n2 v2 → Pads h b n v
pads_same h b n n2 v v2 p r f l i lh ib q pd = r ∙ f l i lh ib (sym p ∙ q) pd

-- the root is no padding
root_pads : (s : List ℕ) (v : List ℕ) → Facts s → Pads (height_of s) (blocks_of s) 1 v
unfolding Padding
root_pads s v f l i lh ib q pd =
    let z : height_of s - height_of s ≡ 0 = omega arith in
    let one : 0 < 2 ^ (height_of s - height_of s) = rw z (omega arith) in
    let D = node_number_distinct (height_of s) l i (height_of s) 0 lh (omega arith) ib one (sym q ∙ sym (node_number_root (height_of s))) in
    let w : i * 2 ^ l ≡ 0 * 2 ^ l = ap (λ (y : ℕ). y * 2 ^ l) D.1 in
    let no : ⊥ = omega (arith, facts_blocks s f) in
    absurd no

module _ (s : List ℕ) (L : List Entry) (a : ℕ) (o : Ours s) (w : Whole (positions (height_of s)) a L) (h : held_at s a ≡ true) (g : agrees s L ≡ true)
    (right : (e : Entry) → In e L → Pads (height_of s) (blocks_of s) e.at e.hash) where
  padded_after : PaddedStore (height_of s) (blocks_of s) (put_all s L)
  padded_after n lt k =
      elim (held_or_entry (positions (height_of s)) L s o.chained.facts.room w.sound n k) [
        | inl x ↦ rw (stays s L a o.chained w h g n lt x).1 (ours_by_number s o n lt x)
        | inr e ↦ rw (taken s L a o.chained w h g n e.0 e.1).1 (right (record { at = n; hash = e.0 }) e.1)
      ]

  -- and has all four clauses, if the list is right where it is padding
  pub ours_put_all : Ours (put_all s L)
  ours_put_all =
      let f = same_facts s L a o.chained w h g in
      by_number_ours (put_all s L) (chained_put_all s L a o.chained w h g) (rw (f.layers, f.blocks) padded_after)

-- AN OPENED STORE has the four clauses
pub ours_opened : (b : List ℕ) (n plen : ℕ) (root : List ℕ) → length root ≡ 32 → (open_answer b n plen).number ≡ 0 → Ours (open_after b n plen root)
unfolding open_after open_answer
ours_opened b n plen root size z = by (facts_in_range n plen) (leb (store_size n) (length b)) refl refl
  where
    by : (x y : Bool) → facts_in_range n plen ≡ x → leb (store_size n) (length b) ≡ y → Ours (open_after b n plen root)
    by true true p q =
        let fits = leb-true (store_size n) (length b) q in
        let e : open_after b n plen root ≡ opened b n plen root = unfold open_after in rw (p, q) in
        let c : Chained (opened b n plen root) = rw e at (chained_opened b n plen root size z) in
        rw e
        (by_number_ours (opened b n plen root) c
        (λ k lt h l i lh ib r pd.
        let hk = opened_held b n plen root p fits size k (omega (arith, (node_number_range (height_of (opened b n plen root)) l i ib).0)) (rw (opened_height b n plen root p fits size) at lt) in
        root_pads (opened b n plen root) (hash_at (opened b n plen root) k) c.facts l i lh ib (sym (eqb-true k 1 (sym hk ∙ h)) ∙ r) pd))
    by true false p q = let w : ⊥ = unfold open_answer in omega (arith, rw (p, q) at z) in absurd w
    by false y p q = let w : ⊥ = unfold open_answer in omega (arith, rw p at z) in absurd w

-- TAKING any message keeps them
pub ours_take : (s m : List ℕ) → Ours s → Ours (take_after s m)
unfolding take_after
ours_take s m o =
    elim (ℕ_discrete (take_number s m) 0) [
      | yes z ↦
          let f = taken_well_formed s m z in
          let w = taken_then_right s m f z in
          rw (eq-eqb (take_number s m) 0 z)
          (ours_put_all s (settled m (place_in s m)) (anchor (place_in s m)) o (message_whole s m (taken_ready s m (take_number s m) refl z)) w.held w.agree
          (settled_pads s m (passed (is_hashes m) s m f.header) f.size w.padding))
      | no ne ↦ rw (ne_eqb (take_number s m) 0 ne) o
    ]

-- LOADING any layer keeps them
pub ours_layer : (s l : List ℕ) → Ours s → Ours (layer_after s l)
unfolding layer_settled
ours_layer s l o =
    elim (ℕ_discrete (layer_number s l) 0) [
      | yes z ↦
          let w = layer_loads s l z in
          let f = loads_layered s l w in
          rw (layer_taken s l z)
          (ours_put_all s (layer_settled s l) 1 o (layer_whole s l f) w.root.held w.root.agree
          (λ e x.
          let y = Rattle.pieces.proofs.PiecesLaws.settled_in_layers s l f e x in
          pads_same (height_of s) (blocks_of s) e.at (node_number (height_of s) y.l y.i) e.hash (node (layer_leaf l (layer_of_pieces s)) (y.l - layer_of_pieces s) y.i) y.position y.value
          (at_place (height_of s) (blocks_of s) y.l y.i (node (layer_leaf l (layer_of_pieces s)) (y.l - layer_of_pieces s) y.i) y.upto y.inside
          (Rattle.pieces.proofs.PiecesLaws.settled_padding s l w y.l y.i y.from))))
      | no ne ↦ rw (layer_refused s l ne) o
    ]

-- THE SAME FACTS AND CELLS have them
ours_same : (s t : List ℕ) → Ours s → SameFacts s t → Facts t → ((q : ℕ) → q < positions (height_of s) → held_at t q ≡ held_at s q)
    → ((q : ℕ) → q < positions (height_of s) → hash_at t q ≡ hash_at s q) → Ours t
ours_same s t o g ft held_as hash_as =
    by_number_ours t
    (record {
      facts = ft;
      root = (held_as 1 (positions_some (height_of s)) ∙ o.chained.root.0, hash_as 1 (positions_some (height_of s)) ∙ o.chained.root.1 ∙ sym g.root);
      family = λ n two b k. family_moved n two (rw g.layers at b) k;
    })
    (rw (g.layers, g.blocks) padded_moved)
  where
    family_moved : (n : ℕ) → 2 ≤ n → n < positions (height_of s) → held_at t n ≡ true → Family t n
    family_moved n two b k =
        let x : held_at s n ≡ true = sym (held_as n b) ∙ k in
        let P = family_pair s n x (o.chained.family n two b x) in
        let even = positions_even (height_of s) in
        let top : n / 2 < positions (height_of s) = omega arith in
        let left : 2 * (n / 2) < positions (height_of s) = omega arith in
        let right : 2 * (n / 2) + 1 < positions (height_of s) = omega (arith, even) in
        family_of_pair t n
        (record {
          top = held_as (n / 2) top ∙ P.top;
          left = held_as (2 * (n / 2)) left ∙ P.left;
          right = held_as (2 * (n / 2) + 1) right ∙ P.right;
          made = hash_as (n / 2) top ∙ P.made ∙ sym (ap₂ pair_hash (hash_as (2 * (n / 2)) left) (hash_as (2 * (n / 2) + 1) right));
        })

    padded_moved : PaddedStore (height_of s) (blocks_of s) t
    padded_moved n lt k = rw (hash_as n lt) (ours_by_number s o n lt (sym (held_as n lt) ∙ k))

-- OTHER BYTES BEHIND THE STORE keep them
pub ours_moved : (s t : List ℕ) → Ours s → SameStore s t → Ours t
ours_moved s t o e =
    let f = o.chained.facts in
    ours_same s t o (used_same s t f e.bytes) (used_facts s t f e.bytes) (used_held s t f e.bytes) (used_hash s t f e.bytes)

-- MARKS WRITTEN keep them
pub ours_marks : (s : List ℕ) (i n x : ℕ) → Ours s → i + n ≤ 2 ^ height_of s → Ours (marks_put s i n x)
ours_marks s i n x o l =
    let f = o.chained.facts in
    ours_same s (marks_put s i n x) o (marks_same_facts s f i n x l) (marks_facts s f i n x l) (marks_held s f i n x l) (marks_hash s f i n x l)

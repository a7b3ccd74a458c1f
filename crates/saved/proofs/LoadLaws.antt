-- What a loaded store is: usable, with the facts that the bytes name; it holds the positions that they name, and has the marks.
-- Assumes nothing.
use Rattle.std.specs.Prelude.{◌≡◌, refl, Bool, ◌&&◌, List, length, get_or, eqb, leb, ℕ, zero, suc, ◌+◌, ◌*◌, ◌^◌, ◌≤◌, ◌<◌}
use Rattle.std.proofs.Common.{ap, ap₂, sym, ◌∙◌, arith, leb-true}
use Rattle.std.proofs.Math.Bool.{true, false, and-eq-true_iff}
use Rattle.std.proofs.Math.Logic.{inl, inr}
use Rattle.std.proofs.Math.Decide.{ℕ_discrete}
use Rattle.octets.specs.OctetsLaws.{cut_length}
use Rattle.tree.specs.Geometry.{node_number}
use Rattle.tree.proofs.GeometryLaws.{node_number_range, node_number_distinct}
use Rattle.cells.specs.Cells.{Room, put}
use Rattle.cells.specs.Entries.{Entry, one, put_all}
use Rattle.cells.specs.EntriesLaws.{Sound, none, sound_append, sound_one, FromRoot, empty, next, from_root_append, In, here, in_left, in_right, in_cases, one_is, put_append, put_one, put_all_length}
use Rattle.store.specs.Store.{blocks_of, height_of, positions, facts_in_range, store_size, opened, Facts, SameFacts}
use Rattle.store.specs.StoreLaws.{facts_leaves, opened_facts, opened_height, opened_blocks, opened_length, put_all_facts, put_all_same_facts}
use Rattle.marks.specs.Marks.{marked, marks_put}
use Rattle.marks.specs.MarksLaws.{marks_facts, marks_same_facts, marks_length}
use Rattle.saved.specs.Form.{length_in, piece_length_in, root_in, blocks_in, height_in, mark_count, place_count, layer_in, index_in, hash_in, block_in, places_good, marks_good, marks_from, opens}
use Rattle.saved.specs.Saved.{entries_in, marks_set, opening_number}
use Rattle.saved.proofs.SoundLaws.{PlaceIn, place_at, place_says, one_record}
use Rattle.saved.proofs.PrefixLaws.{mark_at, mark_says, FormIn}

-- ---- the entries

module _ (h c : ℕ) (b : List ℕ) (p : ℕ) (G : places_good h b p ≡ true) (long : 45 + 41 * p ≤ length b) where
  at : (k : ℕ) → k < p → PlaceIn h b k
  at k l = place_says h b k (place_at h b p G k l)

  hash_long : (k : ℕ) → k < p → length (hash_in b k) ≡ 32
  unfolding hash_in
  hash_long k l = cut_length b (54 + 41 * k) 32 (omega (arith, long))

  number_range : (k : ℕ) → k < p → (1 ≤ node_number h (layer_in b k) (index_in b k)) × (node_number h (layer_in b k) (index_in b k) < positions h)
  unfolding positions
  number_range k l = node_number_range h (layer_in b k) (index_in b k) (at k l).inside

  pub entries_sound : (k : ℕ) → k ≤ p → Sound (positions h) (entries_in h b k)
  unfolding entries_in
  entries_sound zero l = none
  entries_sound (suc k) l =
      sound_append (entries_in h b k) (one (node_number h (layer_in b k) (index_in b k)) (hash_in b k)) (entries_sound k (omega arith))
      (sound_one (node_number h (layer_in b k) (index_in b k)) (hash_in b k) (number_range k (omega arith)).1 (hash_long k (omega arith)))

  pub entries_from_root : (k : ℕ) → k ≤ p → FromRoot (entries_in h b k)
  unfolding entries_in
  entries_from_root zero l = empty
  entries_from_root (suc k) l =
      from_root_append (entries_in h b k) (one (node_number h (layer_in b k) (index_in b k)) (hash_in b k)) (entries_from_root k (omega arith)) (next (number_range k (omega arith)).0 empty)

  -- an entry is a record
  pub record Of (k : ℕ) (e : Entry) : Type 0 where
    pub j : ℕ
    pub low : j < k
    pub number : e.at ≡ node_number h (layer_in b j) (index_in b j)
    pub hash : e.hash ≡ hash_in b j

  pub entries_are : (k : ℕ) (e : Entry) → In e (entries_in h b k) → Of k e
  unfolding entries_in
  entries_are zero e i = absurd (Rattle.cells.specs.EntriesLaws.no_entry i)
  entries_are (suc k) e i =
      elim (in_cases (entries_in h b k) (one (node_number h (layer_in b k) (index_in b k)) (hash_in b k)) i) [
        | inl x ↦ let w = entries_are k e x in record { j = w.j; low = omega (arith, w.low); number = w.number; hash = w.hash }
        | inr x ↦ let w = one_is (node_number h (layer_in b k) (index_in b k)) (hash_in b k) x in record { j = k; low = omega arith; number = w.0; hash = w.1 }
      ]

  -- and each record is an entry
  pub entry_of : (k j : ℕ) → j < k → In (record { at = node_number h (layer_in b j) (index_in b j); hash = hash_in b j }) (entries_in h b k)
  unfolding entries_in
  entry_of zero j l = absurd (omega arith)
  entry_of (suc k) j l =
      elim (ℕ_discrete j k) [
        | yes e ↦ rw e (in_right (entries_in h b k) (one (node_number h (layer_in b k) (index_in b k)) (hash_in b k)) here)
        | no ne ↦ in_left (entries_in h b k) (one (node_number h (layer_in b k) (index_in b k)) (hash_in b k)) (entry_of k j (omega arith))
      ]

  numbers_apart : (k j : ℕ) → k < p → j < p → node_number h (layer_in b k) (index_in b k) ≡ node_number h (layer_in b j) (index_in b j) → k ≡ j
  numbers_apart k j a d e =
      let w = node_number_distinct h (layer_in b k) (index_in b k) (layer_in b j) (index_in b j) (at k a).low (at j d).low (at k a).inside (at j d).inside e in
      one_record h c b p G k j a d (ap₂ (λ (x y : ℕ). Rattle.saved.specs.Form.rank h x y) w.0 w.1)

  pub entries_consistent : (e f : Entry) → In e (entries_in h b p) → In f (entries_in h b p) → e.at ≡ f.at → e.hash ≡ f.hash
  entries_consistent e f i j q =
      let x = entries_are p e i in
      let y = entries_are p f j in
      let z = numbers_apart x.j y.j x.low y.low (sym x.number ∙ q ∙ y.number) in
      x.hash ∙ ap (hash_in b) z ∙ sym y.hash

pub put_next : (h : ℕ) (b s : List ℕ) (k : ℕ) → put_all s (entries_in h b (suc k)) ≡ put (put_all s (entries_in h b k)) (node_number h (layer_in b k) (index_in b k)) (hash_in b k)
unfolding entries_in
put_next h b s k =
    put_append s (entries_in h b k) (one (node_number h (layer_in b k) (index_in b k)) (hash_in b k))
    ∙ put_one (put_all s (entries_in h b k)) (node_number h (layer_in b k) (index_in b k)) (hash_in b k)

pub put_none : (h : ℕ) (b s : List ℕ) → put_all s (entries_in h b 0) ≡ s
unfolding entries_in put_all
put_none h b s = refl

-- ---- the marks

pub marks_set_none : (s b : List ℕ) (at : ℕ) → marks_set s b at 0 ≡ s
unfolding marks_set
marks_set_none s b at = refl

pub marks_set_next : (s b : List ℕ) (at k : ℕ) → marks_set s b at (suc k) ≡ marks_put (marks_set s b at k) (block_in b at k) 1 marked
unfolding marks_set
marks_set_next s b at k = refl

pub record StillSame (s t : List ℕ) : Type 0 where
  pub facts : Facts t
  pub same : SameFacts s t
  pub size : length t ≡ length s

-- a block that the bytes name fits among the marks
pub mark_fits : (s : List ℕ) → Facts s → (x : ℕ) → x < blocks_of s → x + 1 ≤ 2 ^ height_of s
mark_fits s f x l = omega (arith, facts_leaves s f)

pub marks_set_same : (s b : List ℕ) (at m : ℕ) → Facts s → marks_good (blocks_of s) b at m ≡ true → (k : ℕ) → k ≤ m → StillSame s (marks_set s b at k)
marks_set_same s b at m f g zero l =
    rw (marks_set_none s b at) (record { facts = f; same = record { file = refl; piece = refl; root = refl; blocks = refl; layers = refl }; size = refl })
marks_set_same s b at m f g (suc k) l =
    let w = marks_set_same s b at m f g k (omega arith) in
    let x = (mark_says (blocks_of s) b at k (mark_at (blocks_of s) b at m g k (omega arith))).inside in
    let fits : block_in b at k + 1 ≤ 2 ^ height_of (marks_set s b at k) = mark_fits (marks_set s b at k) w.facts (block_in b at k) (rw w.same.blocks x) in
    let e = marks_same_facts (marks_set s b at k) w.facts (block_in b at k) 1 marked fits in
    rw (marks_set_next s b at k)
    (record {
      facts = marks_facts (marks_set s b at k) w.facts (block_in b at k) 1 marked fits;
      same =
          record {
            file = e.file ∙ w.same.file;
            piece = e.piece ∙ w.same.piece;
            root = e.root ∙ w.same.root;
            blocks = e.blocks ∙ w.same.blocks;
            layers = e.layers ∙ w.same.layers;
          };
      size = marks_length (marks_set s b at k) w.facts (block_in b at k) 1 marked fits ∙ w.size;
    })

-- ---- the store

-- what an opening record in range with room says
pub record Opens (size : ℕ) (b : List ℕ) : Type 0 where
  pub begins : opens b ≡ true
  pub whole : 45 ≤ length b
  pub range : facts_in_range (length_in b) (piece_length_in b) ≡ true
  pub room : store_size (length_in b) ≤ size

pub opening_says : (size : ℕ) (b : List ℕ) → opening_number size b ≡ 0 → Opens size b
unfolding opening_number opens
opening_says size b z = by (leb 45 (length b) && eqb (get_or b 0 0) 1) (facts_in_range (length_in b) (piece_length_in b)) (leb (store_size (length_in b)) size) refl refl refl
  where
    by : (x y w : Bool) → (leb 45 (length b) && eqb (get_or b 0 0) 1) ≡ x → facts_in_range (length_in b) (piece_length_in b) ≡ y → leb (store_size (length_in b)) size ≡ w → Opens size b
    by true true true p q r =
        let a = (and-eq-true_iff (leb 45 (length b)) (eqb (get_or b 0 0) 1)).0 p in
        record { begins = unfold opens in p; whole = leb-true 45 (length b) a.0; range = q; room = leb-true (store_size (length_in b)) size r }
    by true true false p q r = let w : ⊥ = unfold opening_number opens in omega (arith, rw (p, q, r) at z) in absurd w
    by true false w p q r = let w : ⊥ = unfold opening_number opens in omega (arith, rw (p, q) at z) in absurd w
    by false y w p q r = let w : ⊥ = unfold opening_number opens in omega (arith, rw p at z) in absurd w

pub root_long : (b : List ℕ) → 45 ≤ length b → length (root_in b) ≡ 32
unfolding root_in
root_long b l = cut_length b 13 32 (omega arith)

-- the buffer once opened, and with its positions held
module _ (s b : List ℕ) (O : Opens (length s) b) (F : FormIn b) where
  unfoldable pub first : List ℕ
  first = opened s (length_in b) (piece_length_in b) (root_in b)

  pub first_facts : Facts first
  unfolding first
  first_facts = opened_facts s (length_in b) (piece_length_in b) (root_in b) O.range O.room (root_long b O.whole)

  pub first_height : height_of first ≡ height_in b
  unfolding first
  first_height = opened_height s (length_in b) (piece_length_in b) (root_in b) O.range O.room (root_long b O.whole)

  pub first_blocks : blocks_of first ≡ blocks_in b
  unfolding first
  first_blocks = opened_blocks s (length_in b) (piece_length_in b) (root_in b) O.range O.room (root_long b O.whole)

  pub first_length : length first ≡ length s
  unfolding first
  first_length = opened_length s (length_in b) (piece_length_in b) (root_in b) O.range O.room (root_long b O.whole)

  pub first_room : Room (positions (height_in b)) first
  first_room = let e : positions (height_of first) ≡ positions (height_in b) = ap positions first_height in omega (arith, first_facts.room)

  long : 45 + 41 * place_count b ≤ length b
  long = omega (arith, F.size)

  unfoldable pub second : List ℕ
  second = put_all first (entries_in (height_in b) b (place_count b))

  sound : Sound (positions (height_of first)) (entries_in (height_in b) b (place_count b))
  sound = rw first_height (entries_sound (height_in b) (blocks_in b) b (place_count b) F.places long (place_count b) (omega arith))

  from_root : FromRoot (entries_in (height_in b) b (place_count b))
  from_root = entries_from_root (height_in b) (blocks_in b) b (place_count b) F.places long (place_count b) (omega arith)

  pub second_facts : Facts second
  unfolding second
  second_facts = put_all_facts first first_facts (entries_in (height_in b) b (place_count b)) sound from_root

  pub second_same : SameFacts first second
  unfolding second
  second_same = put_all_same_facts first first_facts (entries_in (height_in b) b (place_count b)) sound from_root

  pub second_length : length second ≡ length s
  unfolding second
  second_length = put_all_length (positions (height_of first)) (entries_in (height_in b) b (place_count b)) first first_facts.room sound ∙ first_length

  pub second_marks : marks_good (blocks_of second) b (marks_from b) (mark_count b) ≡ true
  second_marks = ap (λ (c : ℕ). marks_good c b (marks_from b) (mark_count b)) (second_same.blocks ∙ first_blocks) ∙ F.marks

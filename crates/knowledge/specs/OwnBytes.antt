-- A store that only this build has written is a string of bytes; so the promises about it need not ask for that.
-- Assumes nothing.
use Rattle.std.specs.Prelude.{◌≡◌, refl, Bool, List, [], ◌∷◌, ◌++◌, ℕ, zero, suc, ◌+◌, ◌-◌, ◌*◌, ◌^◌, ◌≤◌, ◌<◌, length, get_or, replicate, leb}
use Rattle.std.proofs.Common.{ap, ◌∙◌, arith, eq-eqb, ne_eqb, le-leb, leb-true}
use Rattle.std.proofs.Math.Path.{subst}
use Rattle.std.proofs.Math.Bool.{true, false}
use Rattle.std.proofs.Math.Decide.{ℕ_discrete, dec_lt}
use Rattle.std.proofs.lemmas.List.{length-replicate, get_or-replicate}
use Rattle.octets.specs.Octets.{Octets, pasted, be, zeroed}
use Rattle.octets.specs.OctetsLaws.{cut_octets, pasted_length, get_or_pasted_before, get_or_pasted_in, get_or_pasted_after, append_octets, be_octets, zeroed_length, zeroed_at, zeroed_past}
use Rattle.cells.specs.Cells.{Room, put}
use Rattle.cells.specs.CellsLaws.{put_room}
use Rattle.cells.specs.Entries.{Entry, put_all}
use Rattle.cells.specs.EntriesLaws.{Sound, none, more, In, here, there}
use Rattle.store.specs.Store.{blocks_of, height_of, positions, facts_in_range, store_size, open_after, opened, Facts}
use Rattle.marks.specs.Marks.{marked, marks_start, marks_put}
use Rattle.marks.specs.MarksLaws.{mark_in}
use Rattle.store.specs.StoreLaws.{cells_within, store_size_some, positions_some, facts_blocks}
use Rattle.tree.specs.Geometry.{block_count, height, node_number}
use Rattle.tree.proofs.GeometryLaws.{node_number_range}
use Rattle.messages.specs.Take.{settled, place_in, take_number, take_after}
use Rattle.messages.specs.TakenLaws.{taken_ready}
use Rattle.pieces.specs.Pieces.{layer_settled, layer_number, layer_after}
use Rattle.pieces.proofs.PiecesLaws.{layer_loads, loads_layered, layer_refused, layer_taken}
use Rattle.saved.specs.Form.{length_in, piece_length_in, root_in, blocks_in, height_in, mark_count, place_count, layer_in, index_in, hash_in, block_in, marks_from, formed}
use Rattle.saved.specs.Saved.{joins, with_place, mended, opening_number, entries_in, marks_set, loaded, chained, sound, repaired}
use Rattle.saved.proofs.SoundLaws.{place_at, place_says, sound_formed, rooted_formed}
use Rattle.saved.proofs.PrefixLaws.{FormIn, form_says, mark_at, mark_says}
use Rattle.saved.proofs.LoadLaws.{Opens, opening_says, entries_sound, entries_are, marks_set_none, marks_set_next, marks_set_same, mark_fits, first, first_room, second, second_facts, second_marks}
use Rattle.saved.proofs.MendedLaws.{mended_yes, mended_no, mended_none, mended_one}
use Rattle.saved.proofs.RepairedLaws.{repaired_facts, repaired_blocks}
use Rattle.words.specs.History.{Bytes, Begins, by_opening, by_loading, by_repairing, OurStore, ours}
use Rattle.knowledge.specs.SavedWhen.{load_0, repair_0}
use Rattle.knowledge.specs.Restored.{loaded_ours, repaired_ours}
use Rattle.knowledge.specs.Through.{through}
use Rattle.knowledge.specs.Invariant.{Ours, message_whole, layer_whole, ours_opened, ours_take, ours_layer, ours_moved, ours_marks}
use Rattle.knowledge.specs.Conflict.{sized_bytes, message_octets, layer_gives_octets}

pasted_bytes : (s : List ℕ) (at : ℕ) (h : List ℕ) → at + length h ≤ length s → Bytes s → Bytes h → Bytes (pasted s at h)
pasted_bytes s at h fit bs bh = record { size = refl; bytes = λ i l. by i (rw (pasted_length s at h fit) at l) }
  where
    by : (i : ℕ) → i < length s → get_or (pasted s at h) i 0 < 256
    by i l =
        elim (dec_lt i at) [
          | yes a ↦ rw (get_or_pasted_before s at h fit i a) (bs.bytes i l)
          | no a ↦ elim (dec_lt i (at + length h)) [
            | yes b ↦
                let e : i ≡ at + (i - at) = omega arith in
                let q : i - at < length h = omega arith in
                let g = get_or_pasted_in s at h fit (i - at) q in
                let w = bh.bytes (i - at) q in
                let v : get_or (pasted s at h) i 0 ≡ get_or h (i - at) 0 = ap (λ (j : ℕ). get_or (pasted s at h) j 0) e ∙ g in
                omega arith
            | no b ↦ rw (get_or_pasted_after s at h fit i (omega arith)) (bs.bytes i l)
          ]
        ]

zeroed_bytes : (s : List ℕ) (n : ℕ) → n ≤ length s → Bytes s → Bytes (zeroed s n)
zeroed_bytes s n fit bs = record { size = refl; bytes = λ i l. by i (rw (zeroed_length s n fit) at l) }
  where
    by : (i : ℕ) → i < length s → get_or (zeroed s n) i 0 < 256
    by i l =
        elim (dec_lt i n) [
          | yes a ↦ omega (arith, zeroed_at s n i a)
          | no a ↦ omega (arith, zeroed_past s n i fit (omega arith), bs.bytes i l)
        ]

byte_one : Octets 1 (1 ∷ [])
byte_one = record { size = refl; bytes = by }
  where
    by : (i : ℕ) → i < 1 → get_or (1 ∷ []) i 0 < 256
    by zero l = omega arith
    by (suc i) l = let w : ⊥ = omega arith in absurd w

put_bytes : (N : ℕ) (s : List ℕ) (n : ℕ) (h : List ℕ) → Room N s → n < N → Bytes s → Octets 32 h → Bytes (put s n h)
unfolding put
put_bytes N s n h room b bs o =
    pasted_bytes s (31 + 33 * n) (1 ∷ h) (omega (arith, o.size)) bs (sized_bytes 33 (1 ∷ h) (append_octets byte_one o))

put_all_bytes : (N : ℕ) (L : List Entry) (s : List ℕ) → Room N s → Sound N L → ((e : Entry) → In e L → Octets 32 e.hash) → Bytes s → Bytes (put_all s L)
unfolding put_all
put_all_bytes N [] s room none f bs = bs
put_all_bytes N (e ∷ L) s room (more i l S) f bs =
    put_all_bytes N L (put s e.at e.hash) (put_room s N e.at room i e.hash l) S (λ g x. f g (there x)) (put_bytes N s e.at e.hash room i bs (f e here))

-- opening leaves bytes
pub bytes_opened : (b : List ℕ) (n plen : ℕ) (root : List ℕ) → Bytes b → Octets 32 root → Bytes (open_after b n plen root)
unfolding open_after opened
bytes_opened b n plen root bb o = by (facts_in_range n plen) (leb (store_size n) (length b)) refl refl
  where
    by : (x y : Bool) → facts_in_range n plen ≡ x → leb (store_size n) (length b) ≡ y → Bytes (open_after b n plen root)
    by true true p q =
        let fits = leb-true (store_size n) (length b) q in
        let named = be 8 n ++ (be 4 plen ++ root) in
        let no : Octets 44 named = append_octets (be_octets 8 n) (append_octets (be_octets 4 plen) o) in
        let zl = zeroed_length b (store_size n) fits in
        let nf : 0 + length named ≤ length (zeroed b (store_size n)) = omega (arith, no.size, store_size_some n) in
        let bare = pasted (zeroed b (store_size n)) 0 named in
        let bl : length (pasted (zeroed b (store_size n)) 0 named) ≡ length (zeroed b (store_size n)) = pasted_length (zeroed b (store_size n)) 0 named nf in
        let bb2 : Bytes (pasted (zeroed b (store_size n)) 0 named) = pasted_bytes (zeroed b (store_size n)) 0 named nf (zeroed_bytes b (store_size n) fits bb) (sized_bytes 44 named no) in
        unfold open_after opened in
        rw (p, q)
        (put_bytes (positions (height (block_count n))) (pasted (zeroed b (store_size n)) 0 named) 1 root (omega (arith, cells_within n)) (positions_some (height (block_count n))) bb2 o)
    by true false p q = unfold open_after in rw (p, q) bb
    by false y p q = unfold open_after in rw p bb

-- so does a message
pub bytes_take : (s m : List ℕ) → Ours s → Bytes s → Bytes m → Bytes (take_after s m)
unfolding take_after
bytes_take s m o bs bm =
    elim (ℕ_discrete (take_number s m) 0) [
      | yes z ↦
          let r = taken_ready s m (take_number s m) refl z in
          rw (eq-eqb (take_number s m) 0 z)
          (put_all_bytes (positions (height_of s)) (settled m (place_in s m)) s o.chained.facts.room (message_whole s m r).sound (message_octets s m bm r) bs)
      | no ne ↦ rw (ne_eqb (take_number s m) 0 ne) bs
    ]

-- so does a layer
pub bytes_layer : (s l : List ℕ) → Ours s → Bytes s → Bytes l → Bytes (layer_after s l)
bytes_layer s l o bs bl =
    elim (ℕ_discrete (layer_number s l) 0) [
      | yes z ↦
          let f = loads_layered s l (layer_loads s l z) in
          rw (layer_taken s l z)
          (put_all_bytes (positions (height_of s)) (layer_settled s l) s o.chained.facts.room (layer_whole s l f).sound (layer_gives_octets s l bl) bs)
      | no ne ↦ rw (layer_refused s l ne) bs
    ]

-- so do marks
bytes_marks : (s : List ℕ) (i n x : ℕ) → Facts s → i + n ≤ 2 ^ height_of s → x < 256 → Bytes s → Bytes (marks_put s i n x)
unfolding marks_put
bytes_marks s i n x f l o bs =
    pasted_bytes s (marks_start s + i) (replicate n x) (omega (arith, mark_in s f, length-replicate {A = ℕ} n x)) bs
    (record { size = refl; bytes = λ j a. let w = get_or-replicate {A = ℕ} n j x 0 (omega (arith, length-replicate {A = ℕ} n x)) in omega arith })

-- ---- a load and a repair

hash_octets : (b : List ℕ) → Bytes b → (k : ℕ) → 86 + 41 * k ≤ length b → Octets 32 (hash_in b k)
unfolding hash_in
hash_octets b bb k l = cut_octets (54 + 41 * k) 32 bb (omega arith)

root_octets : (b : List ℕ) → Bytes b → 45 ≤ length b → Octets 32 (root_in b)
unfolding root_in
root_octets b bb l = cut_octets 13 32 bb (omega arith)

opened_is : (s : List ℕ) (n plen : ℕ) (root : List ℕ) → facts_in_range n plen ≡ true → store_size n ≤ length s → open_after s n plen root ≡ opened s n plen root
unfolding open_after
opened_is s n plen root r l = rw (r, le-leb (store_size n) (length s) l)

module _ (s b : List ℕ) (bs : Bytes s) (bb : Bytes b) (z : opening_number (length s) b ≡ 0) (g : formed b ≡ true) where
  opening : Opens (length s) b
  opening = opening_says (length s) b z

  form : FormIn b
  form = form_says b g

  bytes_first : Bytes (first s b opening form)
  unfolding first
  bytes_first =
      subst Bytes (opened_is s (length_in b) (piece_length_in b) (root_in b) opening.range opening.room)
      (bytes_opened s (length_in b) (piece_length_in b) (root_in b) bs (root_octets b bb opening.whole))

  bytes_second : Bytes (second s b opening form)
  unfolding second
  bytes_second =
      put_all_bytes (positions (height_in b)) (entries_in (height_in b) b (place_count b)) (first s b opening form) (first_room s b opening form)
      (entries_sound (height_in b) (blocks_in b) b (place_count b) form.places (omega (arith, form.size)) (place_count b) (omega arith))
      (λ e i.
      let w = entries_are (height_in b) (blocks_in b) b (place_count b) form.places (omega (arith, form.size)) (place_count b) e i in
      rw w.hash (hash_octets b bb w.j (omega (arith, w.low, form.size))))
      bytes_first

  bytes_marked : (k : ℕ) → k ≤ mark_count b → Bytes (marks_set (second s b opening form) b (marks_from b) k)
  bytes_marked zero l = rw (marks_set_none (second s b opening form) b (marks_from b)) bytes_second
  bytes_marked (suc k) l =
      let w = marks_set_same (second s b opening form) b (marks_from b) (mark_count b) (second_facts s b opening form) (second_marks s b opening form) k (omega arith) in
      let x = (mark_says (blocks_of (second s b opening form)) b (marks_from b) k (mark_at (blocks_of (second s b opening form)) b (marks_from b) (mark_count b) (second_marks s b opening form) k (omega arith))).inside in
      let fits = mark_fits (marks_set (second s b opening form) b (marks_from b) k) w.facts (block_in b (marks_from b) k) (rw w.same.blocks x) in
      rw (marks_set_next (second s b opening form) b (marks_from b) k)
      (bytes_marks (marks_set (second s b opening form) b (marks_from b) k) (block_in b (marks_from b) k) 1 marked w.facts fits (omega arith) (bytes_marked k (omega arith)))

  bytes_loaded : Bytes (loaded s b)
  unfolding loaded first second
  bytes_loaded = bytes_marked (mark_count b) (omega arith)

  -- one position more
  bytes_place : (t : List ℕ) (k : ℕ) → k < place_count b → Room (positions (height_in b)) t → Bytes t → Room (positions (height_in b)) (with_place (height_in b) b t k) × Bytes (with_place (height_in b) b t k)
  bytes_place t k l room bt =
      let r = node_number_range (height_in b) (layer_in b k) (index_in b k) (place_says (height_in b) b k (place_at (height_in b) b (place_count b) form.places k l)).inside in
      let low : node_number (height_in b) (layer_in b k) (index_in b k) < positions (height_in b) = unfold positions in r.1 in
      let o = hash_octets b bb k (omega (arith, form.size)) in (
        put_room t (positions (height_in b)) (node_number (height_in b) (layer_in b k) (index_in b k)) room low (hash_in b k) o.size,
        put_bytes (positions (height_in b)) t (node_number (height_in b) (layer_in b k) (index_in b k)) (hash_in b k) room low bt o,
      )

  bytes_mended : (k : ℕ) (t : List ℕ) → k ≤ place_count b → Room (positions (height_in b)) t → Bytes t → Bytes (mended (height_in b) (blocks_in b) b t k)
  bytes_mended zero t l room bt = rw (mended_none (height_in b) (blocks_in b) b t) bt
  bytes_mended (suc zero) t l room bt = rw (mended_one (height_in b) (blocks_in b) b t) bt
  bytes_mended (suc (suc k)) t l room bt =
      let a = bytes_place t k (omega arith) room bt in
      let d = bytes_place (with_place (height_in b) b t k) (k + 1) (omega arith) a.0 a.1 in
      by (joins (height_in b) (blocks_in b) b t k) refl
      (bytes_mended k (with_place (height_in b) b (with_place (height_in b) b t k) (k + 1)) (omega arith) d.0 d.1)
      (bytes_mended (suc k) t (omega arith) room bt)
    where
      by : (x : Bool) → joins (height_in b) (blocks_in b) b t k ≡ x → Bytes (mended (height_in b) (blocks_in b) b (with_place (height_in b) b (with_place (height_in b) b t k) (k + 1)) k)
          → Bytes (mended (height_in b) (blocks_in b) b t (suc k)) → Bytes (mended (height_in b) (blocks_in b) b t (suc (suc k)))
      by true e x y = rw (mended_yes (height_in b) (blocks_in b) b t k e) x
      by false e x y = rw (mended_no (height_in b) (blocks_in b) b t k e) y

  bytes_repaired : Bytes (repaired s b)
  unfolding repaired first
  bytes_repaired = bytes_mended (place_count b - 1) (first s b opening form) (omega arith) (first_room s b opening form) bytes_first

-- what a store begins with
begins_both : {s : List ℕ} → Begins s → Ours s × Bytes s
begins_both (by_opening b n plen root bytes o z) = (ours_opened b n plen root o.size z, bytes_opened b n plen root bytes o)
begins_both (by_loading b saved bb bs z) =
    let w = load_0 b saved z in
    rw w.2 (loaded_ours b saved w.0 w.1, bytes_loaded b saved bb bs w.0 (sound_formed saved w.1))
begins_both (by_repairing b saved bb bs z) =
    let w = repair_0 b saved z in
    let some : 1 ≤ blocks_in saved = omega (arith, repaired_blocks b saved w.0 w.1, facts_blocks (repaired b saved) (repaired_facts b saved w.0 w.1)) in
    rw w.2 (repaired_ours b saved w.0 w.1 some, bytes_repaired b saved bb bs w.0 (rooted_formed saved w.1))

pub begins_ours : {s : List ℕ} → Begins s → Ours s
begins_ours w = (begins_both w).0

-- a store that only this build has written has the four clauses, and is a string of bytes
ours_both : {t : List ℕ} → OurStore t → Ours t × Bytes t
ours_both (ours w h) =
    through (λ (t : List ℕ). Ours t × Bytes t)
    (record {
      taken = λ s m bm w. (ours_take s m w.0, bytes_take s m w.0 w.1 bm);
      loaded = λ s l bl w. (ours_layer s l w.0, bytes_layer s l w.0 w.1 bl);
      remarked = λ s i n x f l o w. (ours_marks s i n x w.0 l, bytes_marks s i n x f l o w.1);
      moved = λ s t bt e w. (ours_moved s t w.0 e, bt);
    })
    h (begins_both w)

pub ours_have : {t : List ℕ} → OurStore t → Ours t
ours_have w = (ours_both w).0

pub ours_bytes : {t : List ℕ} → OurStore t → Bytes t
ours_bytes w = (ours_both w).1

-- There and back, as kd_held and kd_marked answer: what a save names, what is loaded from it, and which bytes are loaded at all. And the repair: the
-- largest part, and the only one.
-- Assumes nothing.
use Rattle.std.specs.Prelude.{◌≡◌, true, false, List, ◌↔◌, ℕ, ◌≤◌, ◌<◌, length, take}
use Rattle.std.proofs.Math.Path.{ap}
use Rattle.std.proofs.Common.{sym, ◌∙◌, inl, inr}
use Rattle.numbers.specs.Numbers.{done, not_saved}
use Rattle.numbers.specs.Tests.{either}
use Rattle.store.specs.Store.{usable, file_length, piece_length, height_of, store_size, Facts}
use Rattle.store.specs.StoreLaws.{usable_facts}
use Rattle.marks.specs.Marks.{marked_answer}
use Rattle.saved.specs.Form.{Saved, saved_bytes, length_in, piece_length_in, root_in, blocks_in, height_in, opens, formed, value_in}
use Rattle.saved.specs.Clauses.{Hashes, Clauses, Within, Kept}
use Rattle.saved.proofs.ClausesLaws.{kept_within, kept_clauses, kept_largest}
use Rattle.saved.specs.Save.{saved_of, save_answer}
use Rattle.saved.specs.Saved.{load_answer, load_after, repair_answer, repair_after}
use Rattle.saved.proofs.PrefixLaws.{cut_short_not_formed}
use Rattle.saved.proofs.Apart.{store_not_saved, saved_not_store}
use Rattle.saved.proofs.SaveLaws.{saved_ordered, saved_reads, saved_exactly}
use Rattle.saved.proofs.RoundTrip.{saved_again}
use Rattle.saved.proofs.Promises.{saved_loads}
use Rattle.words.specs.Held.{Holds}
use Rattle.words.specs.History.{Bytes, by_loading, OurStore, ours, begin}
use Rattle.words.specs.Answers.{InRange}
use Rattle.words.specs.FourClauses.{FourClauses}
use Rattle.words.specs.Saving.{WholeOpening, OfForm, NamedBy, save_of, IsSave}
use Rattle.knowledge.specs.Again.{held_usable}
use Rattle.knowledge.specs.Restored.{holds_exactly, of_four, tree}
use Rattle.knowledge.specs.OwnBytes.{ours_bytes}
use Rattle.knowledge.specs.OursMeet.{ours_meet}
use Rattle.knowledge.specs.RootAlone.{range_exactly, usable_exactly}
use Rattle.knowledge.specs.SavedWhen.{load_0, repair_0, save_0, save_counts}
use Rattle.knowledge.specs.LoadedWhen.{opens_exactly, blocks_some, loadable_exactly, load_32, load_is_0, load_holds, repair_32, repair_is_0, repair_holds}
use Rattle.knowledge.specs.SaveBytes.{every_byte}
use Rattle.knowledge.specs.LoadedMarks.{load_marks, save_is, save_marks}

-- ---- a save

-- NAMED EXACTLY IF HELD: of any usable store
pub save_holds : (s out : List ℕ) → Bytes s → (save_answer s out).number ≡ 0 → (l i : ℕ) (v : List ℕ) → NamedBy (save_of s out) l i v ↔ Holds s l i v
save_holds s out bs z l i v =
    let f = usable_facts s ((save_0 s out).0 z).0 in
    let a = saved_exactly s f (every_byte s bs) l i v in
    let e = holds_exactly s f l i v in
    rw (save_is s out z) (λ x. e.1 (a.0 x), λ x. a.1 (e.0 x))

module _ (s : List ℕ) (f : Facts s) (bs : Bytes s) where
  pub names_length : length_in (saved_bytes (saved_of s)) ≡ file_length s
  unfolding value_in saved_of
  names_length = ap (λ (v : Saved). v.n) (saved_reads s f (every_byte s bs)).2

  pub names_piece : piece_length_in (saved_bytes (saved_of s)) ≡ piece_length s
  unfolding value_in saved_of
  names_piece = ap (λ (v : Saved). v.plen) (saved_reads s f (every_byte s bs)).2

-- a store that meets the clauses is usable
meets_usable : (s : List ℕ) → FourClauses s → usable s ≡ true
meets_usable s K = held_usable s (height_of s) 0 K.root.given

-- A STORE THAT MEETS THE CLAUSES is loaded from its save, into every buffer with room
saved_bytes_load : (s : List ℕ) → Bytes s → FourClauses s → (b : List ℕ) → store_size (file_length s) ≤ length b → (load_answer b (saved_bytes (saved_of s))).number ≡ 0
saved_bytes_load s bs K b room =
    let u = meets_usable s K in
    let f = usable_facts s u in
    let r : InRange (length_in (saved_bytes (saved_of s))) (piece_length_in (saved_bytes (saved_of s))) = rw (names_length s f bs, names_piece s f bs) ((usable_exactly s).0 u).0 in
    (load_is_0 b (saved_bytes (saved_of s))).1 (
      record { opening = (opens_exactly (saved_bytes (saved_of s))).0 (saved_reads s f (every_byte s bs)).0; range = r; room = rw (names_length s f bs) room },
      (loadable_exactly (saved_bytes (saved_of s)) ((range_exactly (length_in (saved_bytes (saved_of s))) (piece_length_in (saved_bytes (saved_of s)))).1 r)).0
          (saved_loads s f (every_byte s bs) (of_four s f K)),
    )

module _ (s out : List ℕ) (bs : Bytes s) (K : FourClauses s) (z : (save_answer s out).number ≡ 0) (b : List ℕ) (room : store_size (file_length s) ≤ length b) where
  pub save_loads : (load_answer b (save_of s out)).number ≡ 0
  save_loads = rw (save_is s out z) (saved_bytes_load s bs K b room)

  -- with the same held,
  pub loads_same : (l i : ℕ) (v : List ℕ) → Holds (load_after b (save_of s out)) l i v ↔ Holds s l i v
  loads_same l i v =
      let a = load_holds b (save_of s out) save_loads l i v in
      let c = save_holds s out bs z l i v in
      (λ x. c.0 (a.0 x), λ x. a.1 (c.1 x))

  -- and the same marked
  pub loads_same_marks : (j : ℕ) → (marked_answer (load_after b (save_of s out)) j ≡ done 1) ↔ (marked_answer s j ≡ done 1)
  loads_same_marks j =
      let a = load_marks b (save_of s out) save_loads j in
      let c = save_marks s out bs z j in
      (λ x. c.0 (a.0 x), λ x. a.1 (c.1 x))

-- ---- torn, and mistaken

module _ (s out : List ℕ) (bs : Bytes s) (z : (save_answer s out).number ≡ 0) where
  reads : (opens (save_of s out) ≡ true) × (formed (save_of s out) ≡ true) × (value_in (save_of s out) ≡ saved_of s)
  reads = rw (save_is s out z) (saved_reads s (usable_facts s ((save_0 s out).0 z).0) (every_byte s bs))

  -- A SAVE HAS THE FORM
  pub save_formed : OfForm (save_of s out)
  save_formed =
      let f = usable_facts s ((save_0 s out).0 z).0 in
      record {
        value = saved_of s;
        ordered = saved_ordered s f (every_byte s bs);
        range = unfold saved_of in ((usable_exactly s).0 ((save_0 s out).0 z).0).0;
        bytes = save_is s out z;
      }

  -- NO PROPER BEGINNING of it
  module _ (k : ℕ) (l : k < (save_answer s out).count) where
    short : k < length (save_of s out)
    short = let w = (save_counts s out z).0 in let n : k < length (saved_bytes (saved_of s)) = rw w at l in rw (save_is s out z) n

    pub beginning_not_loaded : (b : List ℕ) → (load_answer b (take k (save_of s out))).number ≡ 0 → ⊥
    beginning_not_loaded b y = cut_short_not_formed (save_of s out) k reads.1 short ((load_is_0 b (take k (save_of s out))).0 y).1.form

    pub beginning_not_repaired : (b : List ℕ) → (repair_answer b (take k (save_of s out))).number ≡ 0 → ⊥
    beginning_not_repaired b y = cut_short_not_formed (save_of s out) k reads.1 short ((repair_is_0 b (take k (save_of s out))).0 y).1.form

  -- A SAVE IS NO STORE
  pub save_is_no_store : usable (save_of s out) ≡ false
  save_is_no_store = elim (either (usable (save_of s out))) [ inl u ↦ absurd (saved_not_store (save_of s out) reads.0 u) | inr f ↦ f ]

-- A STORE IS NO SAVE
pub store_is_no_save : (s : List ℕ) → usable s ≡ true → (b : List ℕ) → ((load_answer b s).number ≡ not_saved) × ((repair_answer b s).number ≡ not_saved)
store_is_no_save s u b =
    let no : WholeOpening s → ⊥ = λ w. store_not_saved s u ((opens_exactly s).1 w) in
    ((load_32 b s).1 (inl no), (repair_32 b s).1 (inl no))

-- ---- a load

-- WHAT WAS LOADED is saved as the same bytes
loaded_bytes : (b saved : List ℕ) → Bytes saved → (load_answer b saved).number ≡ 0 → saved_bytes (saved_of (load_after b saved)) ≡ saved
loaded_bytes b saved bs z = let w = load_0 b saved z in rw w.2 (saved_again b saved w.0 w.1 (every_byte saved bs))

pub load_saves : (b saved out : List ℕ) → Bytes saved → (load_answer b saved).number ≡ 0 → (save_answer (load_after b saved) out).number ≡ 0 → save_of (load_after b saved) out ≡ saved
load_saves b saved out bs z y = save_is (load_after b saved) out y ∙ loaded_bytes b saved bs z

-- ACCEPTED BYTES are exactly the saves of such stores
pub accepted_are_saves : (b saved : List ℕ) → Bytes b → Bytes saved → ((load_answer b saved).number ≡ 0) ↔ IsSave b saved
accepted_are_saves b saved bb bs = (
  λ z.
      let o : OurStore (load_after b saved) = ours (by_loading b saved bb bs z) begin in
      let e = loaded_bytes b saved bs z in
      let f = usable_facts (load_after b saved) (meets_usable (load_after b saved) (ours_meet o)) in
      let n : length_in saved ≡ file_length (load_after b saved) = ap length_in (sym e) ∙ names_length (load_after b saved) f (ours_bytes o) in
      record { s = load_after b saved; bytes = ours_bytes o; meets = ours_meet o; room = rw n at ((load_is_0 b saved).0 z).0.room; save = sym e },
  λ w. rw w.save (saved_bytes_load w.s w.bytes w.meets b w.room),
)

-- ---- the repair

module _ (s b : List ℕ) (z : (repair_answer s b).number ≡ 0) where
  pub some_blocks : 1 ≤ blocks_in b
  some_blocks = blocks_some b ((range_exactly (length_in b) (piece_length_in b)).1 ((repair_is_0 s b).0 z).0.range)

  -- WHAT IS HELD is among what the bytes name,
  pub repair_within : Within (Holds (repair_after s b)) (NamedBy b)
  repair_within l i v x = kept_within (height_in b) (blocks_in b) (root_in b) (NamedBy b) l i v ((repair_holds s b z l i v).0 x)

  -- has in it every part of that which meets the clauses,
  pub repair_largest : (S : Hashes) → Within S (NamedBy b) → Clauses (height_in b) (blocks_in b) (root_in b) S → Within S (Holds (repair_after s b))
  repair_largest S part C l i v x =
      let w = repair_0 s b z in
      (repair_holds s b z l i v).1 (kept_largest (height_in b) (blocks_in b) (root_in b) (NamedBy b) (tree s b w.0 w.1 some_blocks) S part C l i v x)

  kept_meets : Clauses (height_in b) (blocks_in b) (root_in b) (Kept (height_in b) (blocks_in b) (root_in b) (NamedBy b))
  kept_meets =
      let w = repair_0 s b z in
      kept_clauses (height_in b) (blocks_in b) (root_in b) (NamedBy b) (tree s b w.0 w.1 some_blocks) some_blocks ((repair_is_0 s b).0 z).1.root

  -- and is the only part that meets them and has every other in it
  pub repair_only : (S : Hashes) → Within S (NamedBy b) → Clauses (height_in b) (blocks_in b) (root_in b) S
      → ((T : Hashes) → Within T (NamedBy b) → Clauses (height_in b) (blocks_in b) (root_in b) T → Within T S) → (l i : ℕ) (v : List ℕ) → S l i v ↔ Holds (repair_after s b) l i v
  repair_only S part C most l i v = (
    repair_largest S part C l i v,
    λ x.
        most (Kept (height_in b) (blocks_in b) (root_in b) (NamedBy b)) (kept_within (height_in b) (blocks_in b) (root_in b) (NamedBy b)) kept_meets l i v
        ((repair_holds s b z l i v).0 x),
  )

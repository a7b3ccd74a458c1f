-- 02, request 13: a store that was saved, loaded again or repaired. Its words: crates/words, files Saving (saved bytes that may be loaded, a store whose
-- saves are its own), History (what begins a store), Hearing (a journal); crates/saved, files Form (the bytes), Clauses (the clauses, what is kept), Save and Saved.
-- Assumes nothing.
use Rattle.std.specs.Prelude.{◌≡◌, true, false, List, ◌↔◌, ◌⊎◌, ℕ, ◌+◌, ◌*◌, ◌^◌, ◌≤◌, ◌<◌, length, get_or, take, drop}
use Rattle.octets.specs.Octets.{Octets, pasted}
use Rattle.numbers.specs.Numbers.{done, unusable, facts_out_of_range, no_room, not_saved}
use Rattle.tree.specs.Values.{node, leaf_of}
use Rattle.store.specs.Store.{usable, file_length, piece_length, facts_root, height_of, store_size, open_answer, open_after}
use Rattle.marks.specs.Marks.{marked_answer}
use Rattle.saved.specs.Form.{saved_bytes, length_in, piece_length_in, root_in, blocks_in, height_in, formed, NamesMark}
use Rattle.saved.specs.Clauses.{Hashes, Clauses, Within, Kept}
use Rattle.saved.specs.Save.{saved_of, save_answer, save_after}
use Rattle.saved.specs.Saved.{load_answer, load_after, repair_answer, repair_after}
use Rattle.words.specs.Held.{Holds, All}
use Rattle.words.specs.History.{Bytes, Steps, begin, Begins, by_loading, by_repairing, OurStore, ours, Each}
use Rattle.words.specs.FourClauses.{FourClauses}
use Rattle.words.specs.Answers.{InRange}
use Rattle.words.specs.Shown.{held_by, of_file, Shown}
use Rattle.words.specs.File.{For}
use Rattle.words.specs.Marks.{SameButMarks, JudgedRight, Uncleared}
use Rattle.words.specs.Hearing.{Again, journal, after_all, AllDone}
use Rattle.words.specs.Saving.{WholeOpening, OfForm, Ready, NamedBy, Loadable, Repairable, save_of, IsSave, OwnLine, JudgedIn}

-- ---- kd_save: 9, 11, 0

module _ (s out : List ℕ) where
  pub save_9 : ((save_answer s out).number ≡ unusable) ↔ (usable s ≡ false)
  save_9 = Rattle.knowledge.specs.SavedWhen.save_9 s out

  pub save_11 : ((save_answer s out).number ≡ no_room) ↔ ((usable s ≡ true) × (length out < length (saved_bytes (saved_of s))))
  save_11 = Rattle.knowledge.specs.SavedWhen.save_11 s out

  pub save_0 : ((save_answer s out).number ≡ 0) ↔ ((usable s ≡ true) × (length (saved_bytes (saved_of s)) ≤ length out))
  save_0 = Rattle.knowledge.specs.SavedWhen.save_0 s out

  -- beside 0 stands the save's size, and the save at the front of the output
  pub save_counts : (save_answer s out).number ≡ 0 → (save_answer s out ≡ done (length (saved_bytes (saved_of s)))) × (save_after s out ≡ pasted out 0 (saved_bytes (saved_of s)))
  save_counts = Rattle.knowledge.specs.SavedWhen.save_counts s out

  -- so that the bytes that the size counts are the save
  pub save_is : (save_answer s out).number ≡ 0 → save_of s out ≡ saved_bytes (saved_of s)
  save_is = Rattle.knowledge.specs.LoadedMarks.save_is s out

  -- they are bytes
  pub save_bytes : Bytes s → (save_answer s out).number ≡ 0 → Bytes (save_of s out)
  save_bytes = Rattle.knowledge.specs.LoadedMarks.save_bytes s out

  -- it is at most 87·2^h + 9 bytes long,
  pub save_size : usable s ≡ true → Bytes s → length (saved_bytes (saved_of s)) ≤ 87 * 2 ^ height_of s + 9
  save_size = Rattle.knowledge.specs.CountedAll.save_size s

  -- so that twice the store's size is room enough
  pub save_fits : usable s ≡ true → Bytes s → length (saved_bytes (saved_of s)) ≤ 2 * store_size (file_length s)
  save_fits = Rattle.knowledge.specs.CountedAll.save_fits s

  -- a refusal leaves the output
  pub save_refused : ((save_answer s out).number ≡ 0 → ⊥) → save_after s out ≡ out
  save_refused = Rattle.knowledge.specs.SavedWhen.save_refused s out

  -- it names a position with a hash exactly if kd_held gives it so,
  pub save_holds : Bytes s → (save_answer s out).number ≡ 0 → (l i : ℕ) (v : List ℕ) → NamedBy (save_of s out) l i v ↔ Holds s l i v
  save_holds = Rattle.knowledge.specs.ThereAndBack.save_holds s out

  -- and a block exactly if kd_marked says so
  pub save_marks : Bytes s → (save_answer s out).number ≡ 0 → (j : ℕ) → NamesMark (save_of s out) j ↔ (marked_answer s j ≡ done 1)
  save_marks = Rattle.knowledge.specs.LoadedMarks.save_marks s out

-- ---- the form

-- a whole opening record with facts in range, and the form behind it, exactly if the bytes are those of a value in order
pub form_exactly : (b : List ℕ) → Bytes b → (WholeOpening b × InRange (length_in b) (piece_length_in b) × (formed b ≡ true)) ↔ OfForm b
form_exactly = Rattle.knowledge.specs.FormWhen.form_exactly

-- a save has it
pub save_formed : (s out : List ℕ) → Bytes s → (save_answer s out).number ≡ 0 → OfForm (save_of s out)
save_formed = Rattle.knowledge.specs.ThereAndBack.save_formed

-- ---- kd_load: "32 if there is no whole opening record, then 10 for the facts, 9 for the room, and 32 for the rest"; 0

module _ (s b : List ℕ) where
  pub load_32 : ((load_answer s b).number ≡ not_saved) ↔ ((WholeOpening b → ⊥) ⊎ (Ready s b × (Loadable b → ⊥)))
  load_32 = Rattle.knowledge.specs.LoadedWhen.load_32 s b

  pub load_10 : ((load_answer s b).number ≡ facts_out_of_range) ↔ (WholeOpening b × (InRange (length_in b) (piece_length_in b) → ⊥))
  load_10 = Rattle.knowledge.specs.LoadedWhen.load_10 s b

  pub load_9 : ((load_answer s b).number ≡ unusable) ↔ (WholeOpening b × InRange (length_in b) (piece_length_in b) × (length s < store_size (length_in b)))
  load_9 = Rattle.knowledge.specs.LoadedWhen.load_9 s b

  -- "The loader accepts exactly when"
  pub load_0 : ((load_answer s b).number ≡ 0) ↔ (Ready s b × Loadable b)
  load_0 = Rattle.knowledge.specs.LoadedWhen.load_is_0 s b

  -- a refusal leaves the buffer
  pub load_refused : ((load_answer s b).number ≡ 0 → ⊥) → load_after s b ≡ s
  load_refused = Rattle.knowledge.specs.Through.load_stays s b

  module _ (z : (load_answer s b).number ≡ 0) where
    -- kd_held gives then exactly what the bytes name,
    pub load_holds : (l i : ℕ) (v : List ℕ) → Holds (load_after s b) l i v ↔ NamedBy b l i v
    load_holds = Rattle.knowledge.specs.LoadedWhen.load_holds s b z

    -- and kd_marked,
    pub load_marks : (j : ℕ) → (marked_answer (load_after s b) j ≡ done 1) ↔ NamesMark b j
    load_marks = Rattle.knowledge.specs.LoadedMarks.load_marks s b z

    -- with the length, the root and the piece length that the bytes name
    pub load_names : (file_length (load_after s b) ≡ length_in b) × (facts_root (load_after s b) ≡ root_in b) × (piece_length (load_after s b) ≡ piece_length_in b)
    load_names = Rattle.knowledge.specs.LoadedWhen.load_names s b z

    -- "its count being the positions then held"
    pub load_all_held : All (Holds (load_after s b)) (load_answer s b).count
    load_all_held = Rattle.knowledge.specs.CountedAll.load_all_held s b z

-- every byte of the store is set, as by an opening: whatever stood there, two buffers with the same bytes behind the store are left the same
pub load_forgets : (s t b : List ℕ) → drop (store_size (length_in b)) s ≡ drop (store_size (length_in b)) t → (load_answer s b).number ≡ 0 → (load_answer t b).number ≡ 0
    → load_after s b ≡ load_after t b
load_forgets = Rattle.knowledge.specs.LoadedWhen.load_forgets

-- and no byte behind it
pub load_behind : (s b : List ℕ) → (load_answer s b).number ≡ 0
    → (length (load_after s b) ≡ length s) × ((i : ℕ) → store_size (length_in b) ≤ i → get_or (load_after s b) i 0 ≡ get_or s i 0)
load_behind = Rattle.knowledge.specs.BehindLoads.load_behind

-- ---- kd_repair: "without the form or the right root it answers 32, with 10 and 9 in the loader's places"; 0

module _ (s b : List ℕ) where
  pub repair_32 : ((repair_answer s b).number ≡ not_saved) ↔ ((WholeOpening b → ⊥) ⊎ (Ready s b × (Repairable b → ⊥)))
  repair_32 = Rattle.knowledge.specs.LoadedWhen.repair_32 s b

  pub repair_10 : ((repair_answer s b).number ≡ facts_out_of_range) ↔ (WholeOpening b × (InRange (length_in b) (piece_length_in b) → ⊥))
  repair_10 = Rattle.knowledge.specs.LoadedWhen.repair_10 s b

  pub repair_9 : ((repair_answer s b).number ≡ unusable) ↔ (WholeOpening b × InRange (length_in b) (piece_length_in b) × (length s < store_size (length_in b)))
  repair_9 = Rattle.knowledge.specs.LoadedWhen.repair_9 s b

  pub repair_0 : ((repair_answer s b).number ≡ 0) ↔ (Ready s b × Repairable b)
  repair_0 = Rattle.knowledge.specs.LoadedWhen.repair_is_0 s b

  -- a refusal leaves the buffer
  pub repair_refused : ((repair_answer s b).number ≡ 0 → ⊥) → repair_after s b ≡ s
  repair_refused = Rattle.knowledge.specs.Through.repair_stays s b

  module _ (z : (repair_answer s b).number ≡ 0) where
    -- kd_held gives then exactly what is kept: it is among what the bytes name,
    pub repair_holds : (l i : ℕ) (v : List ℕ) → Holds (repair_after s b) l i v ↔ Kept (height_in b) (blocks_in b) (root_in b) (NamedBy b) l i v
    repair_holds = Rattle.knowledge.specs.LoadedWhen.repair_holds s b z

    pub repair_within : Within (Holds (repair_after s b)) (NamedBy b)
    repair_within = Rattle.knowledge.specs.ThereAndBack.repair_within s b z

    -- "the largest set of positions that meets this": it has every part in it that meets the clauses (and meets them: `repaired_meets`),
    pub repair_largest : (S : Hashes) → Within S (NamedBy b) → Clauses (height_in b) (blocks_in b) (root_in b) S → Within S (Holds (repair_after s b))
    repair_largest = Rattle.knowledge.specs.ThereAndBack.repair_largest s b z

    -- and is the only such part
    pub repair_only : (S : Hashes) → Within S (NamedBy b) → Clauses (height_in b) (blocks_in b) (root_in b) S
        → ((T : Hashes) → Within T (NamedBy b) → Clauses (height_in b) (blocks_in b) (root_in b) T → Within T S) → (l i : ℕ) (v : List ℕ) → S l i v ↔ Holds (repair_after s b) l i v
    repair_only = Rattle.knowledge.specs.ThereAndBack.repair_only s b z

    -- with the length, the root and the piece length that the bytes name
    pub repair_names : (file_length (repair_after s b) ≡ length_in b) × (facts_root (repair_after s b) ≡ root_in b) × (piece_length (repair_after s b) ≡ piece_length_in b)
    repair_names = Rattle.knowledge.specs.LoadedWhen.repair_names s b z

    -- "clears all marks"
    pub repair_clears : (j : ℕ) → marked_answer (repair_after s b) j ≡ done 1 → ⊥
    repair_clears = Rattle.knowledge.specs.RepairedMarks.repair_clears s b z

    -- the second count is the positions then held,
    pub repair_all_held : All (Holds (repair_after s b)) (repair_answer s b).held
    repair_all_held = Rattle.knowledge.specs.CountedAll.repair_all_held s b z

    -- "and says how many positions it dropped": with those the positions that the bytes name
    pub repair_all_named : All (NamedBy b) ((repair_answer s b).dropped + (repair_answer s b).held)
    repair_all_named = Rattle.knowledge.specs.CountedAll.repair_all_named s b z

  -- loading is the repair that drops nothing
  pub load_drops_nothing : ((load_answer s b).number ≡ 0) ↔ (((repair_answer s b).number ≡ 0) × ((repair_answer s b).dropped ≡ 0))
  load_drops_nothing = Rattle.knowledge.specs.CountedAll.load_drops_nothing s b

-- every byte of the store is set
pub repair_forgets : (s t b : List ℕ) → drop (store_size (length_in b)) s ≡ drop (store_size (length_in b)) t → (repair_answer s b).number ≡ 0 → (repair_answer t b).number ≡ 0
    → repair_after s b ≡ repair_after t b
repair_forgets = Rattle.knowledge.specs.LoadedWhen.repair_forgets

-- and no byte behind it
pub repair_behind : (s b : List ℕ) → (repair_answer s b).number ≡ 0
    → (length (repair_after s b) ≡ length s) × ((i : ℕ) → store_size (length_in b) ≤ i → get_or (repair_after s b) i 0 ≡ get_or s i 0)
repair_behind = Rattle.knowledge.specs.BehindLoads.repair_behind

-- ---- there and back

-- a store that meets the clauses is loaded from its save, into any buffer with room,
module _ (s out : List ℕ) (bs : Bytes s) (K : FourClauses s) (z : (save_answer s out).number ≡ 0) (b : List ℕ) (room : store_size (file_length s) ≤ length b) where
  pub save_loads : (load_answer b (save_of s out)).number ≡ 0
  save_loads = Rattle.knowledge.specs.ThereAndBack.save_loads s out bs K z b room

  -- holding the same,
  pub loads_same : (l i : ℕ) (v : List ℕ) → Holds (load_after b (save_of s out)) l i v ↔ Holds s l i v
  loads_same = Rattle.knowledge.specs.ThereAndBack.loads_same s out bs K z b room

  -- with the same marked
  pub loads_same_marks : (j : ℕ) → (marked_answer (load_after b (save_of s out)) j ≡ done 1) ↔ (marked_answer s j ≡ done 1)
  loads_same_marks = Rattle.knowledge.specs.ThereAndBack.loads_same_marks s out bs K z b room

-- what was loaded is saved as the same bytes,
pub load_saves : (b saved out : List ℕ) → Bytes saved → (load_answer b saved).number ≡ 0 → (save_answer (load_after b saved) out).number ≡ 0 → save_of (load_after b saved) out ≡ saved
load_saves = Rattle.knowledge.specs.ThereAndBack.load_saves

-- so that the bytes that are accepted are exactly the saves of such stores
pub accepted_are_saves : (b saved : List ℕ) → Bytes b → Bytes saved → ((load_answer b saved).number ≡ 0) ↔ IsSave b saved
accepted_are_saves = Rattle.knowledge.specs.ThereAndBack.accepted_are_saves

-- ---- torn, and mistaken

-- no proper beginning of a save is loaded or repaired,
module _ (s out : List ℕ) (bs : Bytes s) (z : (save_answer s out).number ≡ 0) (k : ℕ) (l : k < (save_answer s out).count) (b : List ℕ) where
  pub beginning_not_loaded : (load_answer b (take k (save_of s out))).number ≡ 0 → ⊥
  beginning_not_loaded = Rattle.knowledge.specs.ThereAndBack.beginning_not_loaded s out bs z k l b

  pub beginning_not_repaired : (repair_answer b (take k (save_of s out))).number ≡ 0 → ⊥
  beginning_not_repaired = Rattle.knowledge.specs.ThereAndBack.beginning_not_repaired s out bs z k l b

-- the bytes of a store are 32 to a load and to a repair,
pub store_is_no_save : (s : List ℕ) → usable s ≡ true → (b : List ℕ) → ((load_answer b s).number ≡ not_saved) × ((repair_answer b s).number ≡ not_saved)
store_is_no_save = Rattle.knowledge.specs.ThereAndBack.store_is_no_save

-- and a save is no usable store
pub save_is_no_store : (s out : List ℕ) → Bytes s → (save_answer s out).number ≡ 0 → usable (save_of s out) ≡ false
save_is_no_store = Rattle.knowledge.specs.ThereAndBack.save_is_no_store

-- ---- "A loaded store counts as one that only this build has written", and so does a repaired one: any bytes may be loaded

pub loaded_is_ours : (b saved : List ℕ) → Bytes b → Bytes saved → (load_answer b saved).number ≡ 0 → OurStore (load_after b saved)
loaded_is_ours b saved bb bs z = ours (by_loading b saved bb bs z) begin

pub repaired_is_ours : (b saved : List ℕ) → Bytes b → Bytes saved → (repair_answer b saved).number ≡ 0 → OurStore (repair_after b saved)
repaired_is_ours b saved bb bs z = ours (by_repairing b saved bb bs z) begin

-- so each meets the four clauses, as kd_held answers
pub loaded_meets : (b saved : List ℕ) → Bytes b → Bytes saved → (load_answer b saved).number ≡ 0 → FourClauses (load_after b saved)
loaded_meets b saved bb bs z = Rattle.knowledge.specs.OursMeet.ours_meet (loaded_is_ours b saved bb bs z)

pub repaired_meets : (b saved : List ℕ) → Bytes b → Bytes saved → (repair_answer b saved).number ≡ 0 → FourClauses (repair_after b saved)
repaired_meets b saved bb bs z = Rattle.knowledge.specs.OursMeet.ours_meet (repaired_is_ours b saved bb bs z)

-- and whatever the bytes were: if they are loaded, or repaired, into a store for a file, then every hash that it ever holds is the file's, or a pair is
-- shown. What a crash or a hostile hand leaves of a save can cost knowledge, never truth
module _ {t : List ℕ} (file b saved : List ℕ) (bb : Bytes b) (bs : Bytes saved) (w : For file t) where
  pub loaded_is_the_files : (load_answer b saved).number ≡ 0 → Steps (load_after b saved) t → (l i : ℕ) (v : List ℕ) → Holds t l i v
      → Shown (height_of t) (held_by t) (of_file file) ⊎ (v ≡ node (leaf_of file) l i)
  loaded_is_the_files z h = Rattle.knowledge.specs.Known.known_is_the_files file (ours (by_loading b saved bb bs z) h) w

  pub repaired_is_the_files : (repair_answer b saved).number ≡ 0 → Steps (repair_after b saved) t → (l i : ℕ) (v : List ℕ) → Holds t l i v
      → Shown (height_of t) (held_by t) (of_file file) ⊎ (v ≡ node (leaf_of file) l i)
  repaired_is_the_files z h = Rattle.knowledge.specs.Known.known_is_the_files file (ours (by_repairing b saved bb bs z) h) w

-- ---- marks

-- since a load a block is marked exactly if it was judged right and not cleared after that, or is named in the saved bytes and was not cleared since;
pub marked_after_load : (s b : List ℕ) → Bytes s → Bytes b → (load_answer s b).number ≡ 0 → {t : List ℕ} (h : Steps (load_after s b) t) (j : ℕ)
    → (marked_answer t j ≡ done 1) ↔ (JudgedRight j h ⊎ (NamesMark b j × Uncleared j t h))
marked_after_load = Rattle.knowledge.specs.LoadedMarks.marked_after_load

-- since a repair as since an opening
pub marked_after_repair : (s b : List ℕ) → Bytes s → Bytes b → (repair_answer s b).number ≡ 0 → {t : List ℕ} (h : Steps (repair_after s b) t) (j : ℕ)
    → (marked_answer t j ≡ done 1) ↔ JudgedRight j h
marked_after_repair = Rattle.knowledge.specs.LoadedMarks.marked_after_repair

-- A mark of saved bytes is believed, and what it promises is conditional. If the bytes are what kd_save left of a store of ours, a block that they name was
-- judged right in that store's history and not cleared after that, or was marked when that history began and not cleared since;
pub named_was_judged : {s t : List ℕ} → Begins s → (h : Steps s t) → (out : List ℕ) → (save_answer t out).number ≡ 0 → (j : ℕ) → NamesMark (save_of t out) j
    → JudgedRight j h ⊎ ((marked_answer s j ≡ done 1) × Uncleared j t h)
named_was_judged = Rattle.knowledge.specs.LoadedMarks.named_was_judged

-- and from save to load to save, back to an opening or a repair, a block is marked exactly if it was judged right in one of the histories and not cleared
-- after that
pub marked_in_line : {t : List ℕ} (w : OwnLine t) (j : ℕ) → (marked_answer t j ≡ done 1) ↔ JudgedIn j w
marked_in_line = Rattle.knowledge.specs.LoadedMarks.marked_in_line

-- ---- a journal

-- a host that offers again, after an opening with the same facts, any of the messages and layers that were answered 0, a prefix of them or others, in any
-- order, holds a part of what was held, with the same bytes
pub journal_within : {s t : List ℕ} → Begins s → (h : Steps s t) → (b : List ℕ) (n plen : ℕ) (root : List ℕ) → Octets 32 root → (open_answer b n plen).number ≡ 0
    → file_length t ≡ n → piece_length t ≡ plen → facts_root t ≡ root → {r : List ℕ} {k : Steps (open_after b n plen root) r} → Each (Again h) r k
    → (l i : ℕ) (v : List ℕ) → Holds r l i v → Holds t l i v
journal_within = Rattle.knowledge.specs.Journal.journal_within

-- likewise after a load of a save, of what was answered 0 since the save
pub journal_since_save : {s u t : List ℕ} → Begins s → Steps s u → (out : List ℕ) → (save_answer u out).number ≡ 0 → (h : Steps u t) → (b : List ℕ)
    → (load_answer b (save_of u out)).number ≡ 0 → {r : List ℕ} {k : Steps (load_after b (save_of u out)) r} → Each (Again h) r k
    → (l i : ℕ) (v : List ℕ) → Holds r l i v → Holds t l i v
journal_since_save = Rattle.knowledge.specs.Journal.journal_since_save

-- and if it offers them all, in their order, each is answered 0 again, and the store differs in marks only: so a prefix gives what was held at that time
pub journal_again : (a b : List ℕ) (n plen : ℕ) (root : List ℕ) → Octets 32 root → (open_answer a n plen).number ≡ 0 → (open_answer b n plen).number ≡ 0
    → {t : List ℕ} (h : Steps (open_after a n plen root) t)
    → AllDone (journal h) (open_after b n plen root) × SameButMarks t (after_all (journal h) (open_after b n plen root))
journal_again = Rattle.knowledge.specs.Replayed.journal_again

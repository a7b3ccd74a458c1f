-- A load and a repair write the store's bytes alone: the memory keeps its length, and every byte behind the store stays.
-- Assumes nothing.
use Rattle.std.specs.Prelude.{◌≡◌, true, List, ℕ, zero, suc, ◌+◌, ◌^◌, ◌≤◌, length, get_or}
use Rattle.std.proofs.Common.{ap, ◌∙◌, arith}
use Rattle.store.specs.Store.{file_length, blocks_of, height_of, positions, store_size, Facts}
use Rattle.store.specs.StoreLaws.{opened_past, opened_length, put_all_past, cells_within}
use Rattle.marks.specs.Marks.{marked}
use Rattle.marks.specs.MarksLaws.{marks_behind, marks_end}
use Rattle.saved.specs.Form.{length_in, piece_length_in, root_in, blocks_in, height_in, mark_count, place_count, block_in, marks_from, marks_good, formed}
use Rattle.saved.specs.Saved.{entries_in, marks_set, opening_number, loaded, load_answer, load_after, repair_answer, repair_after}
use Rattle.saved.proofs.PrefixLaws.{FormIn, form_says, mark_at, mark_says}
use Rattle.saved.proofs.LoadLaws.{marks_set_none, marks_set_next, marks_set_same, mark_fits, Opens, opening_says, root_long, first, first_room, second, second_facts, second_same, second_length, second_marks, entries_sound}
use Rattle.saved.proofs.RepairedLaws.{repaired_length}
use Rattle.knowledge.specs.SavedWhen.{load_0, repair_0}
use Rattle.knowledge.specs.RepairedMarks.{repaired_past}
use Rattle.knowledge.specs.LoadedWhen.{load_is_0}

-- marks are written inside the store
marks_set_behind : (s b : List ℕ) (at m : ℕ) → Facts s → marks_good (blocks_of s) b at m ≡ true → (k : ℕ) → k ≤ m → (i : ℕ) → store_size (file_length s) ≤ i
    → get_or (marks_set s b at k) i 0 ≡ get_or s i 0
marks_set_behind s b at m f g zero l i a = rw (marks_set_none s b at)
marks_set_behind s b at m f g (suc k) l i a =
    let w = marks_set_same s b at m f g k (omega arith) in
    let x = (mark_says (blocks_of s) b at k (mark_at (blocks_of s) b at m g k (omega arith))).inside in
    let fits : block_in b at k + 1 ≤ 2 ^ height_of (marks_set s b at k) = mark_fits (marks_set s b at k) w.facts (block_in b at k) (rw w.same.blocks x) in
    let e : store_size (file_length (marks_set s b at k)) ≡ store_size (file_length s) = ap store_size w.same.file in
    rw (marks_set_next s b at k)
    (marks_behind (marks_set s b at k) w.facts (block_in b at k) 1 marked fits i (omega (arith, marks_end (marks_set s b at k)))
    ∙ marks_set_behind s b at m f g k (omega arith) i a)

module _ (s b : List ℕ) (z : opening_number (length s) b ≡ 0) (g : formed b ≡ true) where
  O : Opens (length s) b
  O = opening_says (length s) b z

  F : FormIn b
  F = form_says b g

  first_behind : (i : ℕ) → store_size (length_in b) ≤ i → get_or (first s b O F) i 0 ≡ get_or s i 0
  unfolding first
  first_behind = opened_past s (length_in b) (piece_length_in b) (root_in b) O.range O.room (root_long b O.whole)

  second_behind : (i : ℕ) → store_size (length_in b) ≤ i → get_or (second s b O F) i 0 ≡ get_or s i 0
  unfolding second
  second_behind i a =
      put_all_past (positions (height_in b)) (entries_in (height_in b) b (place_count b)) (first s b O F) (first_room s b O F)
      (entries_sound (height_in b) (blocks_in b) b (place_count b) F.places (omega (arith, F.size)) (place_count b) (omega arith)) i (omega (arith, cells_within (length_in b)))
      ∙ first_behind i a

  second_file : file_length (second s b O F) ≡ length_in b
  second_file = (second_same s b O F).file ∙ (unfold first in Rattle.store.specs.StoreLaws.opened_file s (length_in b) (piece_length_in b) (root_in b) O.range O.room (root_long b O.whole))

  loaded_behind : (i : ℕ) → store_size (length_in b) ≤ i → get_or (loaded s b) i 0 ≡ get_or s i 0
  unfolding loaded first second
  loaded_behind i a =
      marks_set_behind (second s b O F) b (marks_from b) (mark_count b) (second_facts s b O F) (second_marks s b O F) (mark_count b) (omega arith) i (rw (ap store_size second_file) a)
      ∙ second_behind i a

  loaded_long : length (loaded s b) ≡ length s
  unfolding loaded first second
  loaded_long = (marks_set_same (second s b O F) b (marks_from b) (mark_count b) (second_facts s b O F) (second_marks s b O F) (mark_count b) (omega arith)).size ∙ second_length s b O F

-- BEHIND A LOAD
pub load_behind : (s b : List ℕ) → (load_answer s b).number ≡ 0
    → (length (load_after s b) ≡ length s) × ((i : ℕ) → store_size (length_in b) ≤ i → get_or (load_after s b) i 0 ≡ get_or s i 0)
load_behind s b z =
    let w = load_0 s b z in
    let g = ((load_is_0 s b).0 z).1.form in
    rw w.2 (loaded_long s b w.0 g, loaded_behind s b w.0 g)

-- BEHIND A REPAIR
pub repair_behind : (s b : List ℕ) → (repair_answer s b).number ≡ 0
    → (length (repair_after s b) ≡ length s) × ((i : ℕ) → store_size (length_in b) ≤ i → get_or (repair_after s b) i 0 ≡ get_or s i 0)
repair_behind s b z =
    let w = repair_0 s b z in
    let O = opening_says (length s) b w.0 in
    rw w.2 (
      repaired_length s b w.0 w.1 ∙ opened_length s (length_in b) (piece_length_in b) (root_in b) O.range O.room (root_long b O.whole),
      λ i a. repaired_past s b w.0 w.1 i (omega (arith, cells_within (length_in b))) ∙ opened_past s (length_in b) (piece_length_in b) (root_in b) O.range O.room (root_long b O.whole) i a,
    )

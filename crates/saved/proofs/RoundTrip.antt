-- THE ROUND TRIP from bytes: a store loaded from bytes is saved as these bytes.
-- Assumes nothing.
use Rattle.std.specs.Prelude.{◌≡◌, true, false, List, ◌↔◌, ℕ, suc, ◌+◌, ◌*◌, ◌^◌, ◌≤◌, ◌<◌, length, get_or}
use Rattle.std.proofs.Math.Path.{refl, ap}
use Rattle.std.proofs.Common.{sym, ◌∙◌, inl, inr, arith}
use Rattle.std.proofs.lemmas.Bool.{false≢true}
use Rattle.std.proofs.Math.Dec.{eqb}
use Rattle.tree.proofs.GeometryLaws.{height_enough}
use Rattle.cells.specs.EntriesLaws.{Sound}
use Rattle.store.specs.Store.{file_length, piece_length, facts_root, blocks_of, height_of, positions, store_size, opened, Facts}
use Rattle.store.specs.StoreLaws.{opened_file, opened_piece, opened_facts_root, opened_zero, put_all_past}
use Rattle.marks.specs.Marks.{marks_start, marked_at}
use Rattle.marks.specs.MarksLaws.{marks_end, marks_start_some, same_mark}
use Rattle.saved.specs.Form.{saved_bytes, length_in, piece_length_in, root_in, blocks_in, height_in, mark_count, place_count, places_to, marks_to, marks_from, value_in, NamesMark}
use Rattle.saved.specs.Saved.{entries_in, marks_set, loaded, opening_number, sound}
use Rattle.saved.proofs.SoundLaws.{sound_formed}
use Rattle.saved.specs.Save.{held_below, marked_below, saved_of}
use Rattle.saved.proofs.PrefixLaws.{FormIn, form_says}
use Rattle.saved.proofs.ExactLaws.{written_back}
use Rattle.saved.proofs.LoadLaws.{StillSame, marks_set_same, Opens, opening_says, root_long, first, first_facts, first_height, first_blocks, second, second_facts, second_same, second_marks, entries_sound}
use Rattle.saved.proofs.LoadedLaws.{marks_set_exactly, loaded_exactly}
use Rattle.saved.proofs.SavedAgain.{all_places, all_marks}

module _ (s b : List ℕ) (z : opening_number (length s) b ≡ 0) (g : sound b ≡ true) where
  here : Opens (length s) b
  here = opening_says (length s) b z

  form : FormIn b
  form = form_says b (sound_formed b g)

  loaded_is : loaded s b ≡ marks_set (second s b here form) b (marks_from b) (mark_count b)
  unfolding loaded first second
  loaded_is = refl

  still : StillSame (second s b here form) (loaded s b)
  still = rw loaded_is (marks_set_same (second s b here form) b (marks_from b) (mark_count b) (second_facts s b here form) (second_marks s b here form) (mark_count b) (omega arith))

  first_file : file_length (first s b here form) ≡ length_in b
  unfolding first
  first_file = opened_file s (length_in b) (piece_length_in b) (root_in b) here.range here.room (root_long b here.whole)

  first_piece : piece_length (first s b here form) ≡ piece_length_in b
  unfolding first
  first_piece = opened_piece s (length_in b) (piece_length_in b) (root_in b) here.range here.room (root_long b here.whole)

  first_root : facts_root (first s b here form) ≡ root_in b
  unfolding first
  first_root = opened_facts_root s (length_in b) (piece_length_in b) (root_in b) here.range here.room (root_long b here.whole)

  -- a loaded store is usable,
  pub loaded_facts : Facts (loaded s b)
  loaded_facts = still.facts

  -- names the facts that the bytes name,
  pub loaded_file : file_length (loaded s b) ≡ length_in b
  loaded_file = still.same.file ∙ (second_same s b here form).file ∙ first_file

  pub loaded_piece : piece_length (loaded s b) ≡ piece_length_in b
  loaded_piece = still.same.piece ∙ (second_same s b here form).piece ∙ first_piece

  pub loaded_root : facts_root (loaded s b) ≡ root_in b
  loaded_root = still.same.root ∙ (second_same s b here form).root ∙ first_root

  pub loaded_height : height_of (loaded s b) ≡ height_in b
  loaded_height = still.same.layers ∙ (second_same s b here form).layers ∙ first_height s b here form

  pub loaded_blocks : blocks_of (loaded s b) ≡ blocks_in b
  loaded_blocks = still.same.blocks ∙ (second_same s b here form).blocks ∙ first_blocks s b here form

  -- an opened store has no mark
  first_unmarked : (j : ℕ) → j < 2 ^ height_of (first s b here form) → marked_at (first s b here form) j ≡ false
  unfolding marked_at first
  first_unmarked j l =
      let d : store_size (file_length (opened s (length_in b) (piece_length_in b) (root_in b))) ≡ store_size (length_in b) = ap store_size (opened_file s (length_in b) (piece_length_in b) (root_in b) here.range here.room (root_long b here.whole)) in
      ap (λ (x : ℕ). eqb x 1)
      (opened_zero s (length_in b) (piece_length_in b) (root_in b) here.range here.room (root_long b here.whole) (marks_start (opened s (length_in b) (piece_length_in b) (root_in b)) + j)
      (omega (arith, marks_start_some (opened s (length_in b) (piece_length_in b) (root_in b)))) (omega (arith, marks_end (opened s (length_in b) (piece_length_in b) (root_in b)))))

  starts : (t : List ℕ) → marks_start t ≡ 31 + 33 * positions (height_of t)
  unfolding marks_start
  starts t = refl

  second_unmarked : (j : ℕ) → j < 2 ^ height_of (first s b here form) → marked_at (second s b here form) j ≡ false
  second_unmarked j l =
      same_mark (first s b here form) (second s b here form) (second_same s b here form) j (past (marks_start (first s b here form) + j) (omega (arith, starts (first s b here form)))) ∙ first_unmarked j l
    where
      entries_all : Sound (positions (height_of (first s b here form))) (entries_in (height_in b) b (place_count b))
      entries_all = rw (first_height s b here form) (entries_sound (height_in b) (blocks_in b) b (place_count b) form.places (omega (arith, form.size)) (place_count b) (omega arith))

      past : (i : ℕ) → 31 + 33 * positions (height_of (first s b here form)) ≤ i → get_or (second s b here form) i 0 ≡ get_or (first s b here form) i 0
      past i a = unfold second in put_all_past (positions (height_of (first s b here form))) (entries_in (height_in b) b (place_count b)) (first s b here form) (first_facts s b here form).room entries_all i a

  -- MARKED EXACTLY IF NAMED: every byte of a mark,
  pub loaded_marks_all : (j : ℕ) → j < 2 ^ height_in b → (marked_at (loaded s b) j ≡ true) ↔ NamesMark b j
  loaded_marks_all j l =
      let e : height_of (first s b here form) ≡ height_in b = first_height s b here form in
      let small : j < 2 ^ height_of (first s b here form) = rw e l in
      let w = marks_set_exactly (second s b here form) b (marks_from b) (mark_count b) (second_facts s b here form) (second_marks s b here form) (mark_count b) (omega arith) j in
      rw loaded_is (λ x. elim (w.0 x) [ inl y ↦ absurd (false≢true (sym (second_unmarked j small) ∙ y)) | inr y ↦ y ], λ y. w.1 (inr y))

  -- of the file's blocks
  pub loaded_marks : (j : ℕ) → j < blocks_in b → (marked_at (loaded s b) j ≡ true) ↔ NamesMark b j
  loaded_marks j l = loaded_marks_all j (omega (arith, height_enough (blocks_in b)))

  -- what is saved of it is what the bytes say,
  pub saved_of_loaded : saved_of (loaded s b) ≡ value_in b
  unfolding saved_of value_in
  saved_of_loaded =
      let p : held_below (loaded s b) (height_in b) (suc (height_in b)) ≡ places_to b (place_count b) = all_places (height_in b) (blocks_in b) b (loaded s b) (place_count b) form.places (loaded_exactly s b z g) in
      let m : marked_below (loaded s b) (blocks_in b) ≡ marks_to b (marks_from b) (mark_count b) = all_marks (blocks_in b) b (loaded s b) (marks_from b) (mark_count b) form.marks loaded_marks in
      rw (loaded_file, loaded_piece, loaded_root, loaded_height, loaded_blocks, p, m)

  -- SAVED AGAIN, byte for byte
  pub saved_again : ((i : ℕ) → get_or b i 0 < 256) → saved_bytes (saved_of (loaded s b)) ≡ b
  saved_again bytes = ap saved_bytes saved_of_loaded ∙ written_back b bytes here.begins (sound_formed b g)

-- Marks over a load: a block is marked exactly if it was judged right since the load and not cleared after that, or is named in the saved bytes and was
-- not cleared since. And where the saved bytes are what a save left: named exactly if it was marked there; so, from save to load to save, marked
-- exactly if it was judged right in one of the histories and not cleared after that.
-- Assumes nothing.
use Rattle.std.specs.Prelude.{◌≡◌, refl, Bool, true, false, List, ◌↔◌, ◌⊎◌, ℕ, ◌^◌, ◌≤◌, ◌<◌, length}
use Rattle.std.proofs.Common.{sym, ◌∙◌, inl, inr, arith}
use Rattle.std.proofs.lemmas.Bool.{false≢true}
use Rattle.octets.specs.OctetsLaws.{cut_pasted_same}
use Rattle.numbers.specs.Numbers.{done}
use Rattle.store.specs.Store.{usable, blocks_of, height_of, Facts}
use Rattle.store.specs.StoreLaws.{usable_facts, facts_usable}
use Rattle.marks.specs.Marks.{marked_at, marked_answer}
use Rattle.saved.specs.Form.{saved_bytes, blocks_in, height_in, mark_count, marks_from, formed, NamesMark}
use Rattle.saved.specs.Save.{saved_of, save_answer}
use Rattle.saved.specs.Saved.{chained, loaded, load_answer, load_after, repair_answer, repair_after}
use Rattle.saved.proofs.PrefixLaws.{form_says, mark_at, mark_says}
use Rattle.saved.proofs.RoundTrip.{loaded_facts, loaded_height, loaded_blocks, loaded_marks, loaded_marks_all}
use Rattle.saved.proofs.SaveLaws.{saved_ordered}
use Rattle.saved.proofs.CountLaws.{saved_marks}
use Rattle.words.specs.History.{Bytes, Steps, Begins, by_opening, by_loading, by_repairing, OurStore, ours}
use Rattle.words.specs.Marks.{JudgedRight, Uncleared}
use Rattle.words.specs.Saving.{save_of, OwnLine, from_opening, from_repair, from_save, JudgedIn}
use Rattle.knowledge.specs.SaveBytes.{every_byte, ordered_bytes}
use Rattle.knowledge.specs.SavedWhen.{load_0, repair_0, save_0, save_counts}
use Rattle.knowledge.specs.Grows.{Grown, steps_grow}
use Rattle.knowledge.specs.OwnBytes.{begins_ours, ours_bytes}
use Rattle.knowledge.specs.MarksSince.{right_inside, right_still, marked_says, marks_from_lem, marked_since, first, unmarked, marked_exactly}
use Rattle.saved.proofs.RepairedLaws.{repaired_height}
use Rattle.knowledge.specs.RepairedMarks.{none_set, repair_clears}
use Rattle.knowledge.specs.LoadedWhen.{load_is_0}

begins_usable : {s : List ℕ} → Begins s → usable s ≡ true
begins_usable {s} w = facts_usable s (begins_ours w).chained.facts

-- ---- a load

-- the marks that the bytes name are of blocks of the file
named_inside : (b : List ℕ) → formed b ≡ true → (j : ℕ) → NamesMark b j → j < blocks_in b
named_inside b g j x =
    let M = (mark_says (blocks_in b) b (marks_from b) x.0 (mark_at (blocks_in b) b (marks_from b) (mark_count b) (form_says b g).marks x.0 x.1)).inside in
    omega (arith, M, x.2)

-- MARKED EXACTLY IF NAMED, as kd_marked answers
pub load_marks : (s b : List ℕ) → (load_answer s b).number ≡ 0 → (j : ℕ) → (marked_answer (load_after s b) j ≡ done 1) ↔ NamesMark b j
load_marks s b z j =
    let w = load_0 s b z in
    let e = loaded_blocks s b w.0 w.1 in
    let m = marked_says (loaded s b) (loaded_facts s b w.0 w.1) j in
    let n : j < blocks_in b → (marked_at (loaded s b) j ≡ true) ↔ NamesMark b j = λ l. loaded_marks s b w.0 w.1 j l in
    rw w.2 (
      λ a. let x = m.0 a in (n (rw e at x.0)).0 x.1,
      λ x. let l = named_inside b ((load_is_0 s b).0 z).1.form j x in m.1 (rw e l, (n l).1 x),
    )

-- SINCE A LOAD
pub marked_after_load : (s b : List ℕ) → Bytes s → Bytes b → (load_answer s b).number ≡ 0 → {t : List ℕ} (h : Steps (load_after s b) t) (j : ℕ)
    → (marked_answer t j ≡ done 1) ↔ (JudgedRight j h ⊎ (NamesMark b j × Uncleared j t h))
marked_after_load s b bs bb z h j =
    let w = marked_since (load_after s b) (begins_usable (by_loading s b bs bb z)) h j in
    let m = load_marks s b z j in (
      λ a. elim (w.0 a) [ inl x ↦ inl x | inr x ↦ inr (m.0 x.0, x.1) ],
      λ a. w.1 (elim a [ inl x ↦ inl x | inr x ↦ inr (m.1 x.0, x.1) ]),
    )

-- SINCE A REPAIR, which leaves no mark
pub marked_after_repair : (s b : List ℕ) → Bytes s → Bytes b → (repair_answer s b).number ≡ 0 → {t : List ℕ} (h : Steps (repair_after s b) t) (j : ℕ)
    → (marked_answer t j ≡ done 1) ↔ JudgedRight j h
marked_after_repair s b bs bb z h j =
    let w = marked_since (repair_after s b) (begins_usable (by_repairing s b bs bb z)) h j in
    (λ a. elim (w.0 a) [ inl x ↦ x | inr x ↦ absurd (repair_clears s b z j x.0) ], λ a. w.1 (inl a))

-- ---- blocks past the file's

-- no beginning has a mark there
begun_past : {s : List ℕ} → Begins s → (j : ℕ) → blocks_of s ≤ j → j < 2 ^ height_of s → marked_at s j ≡ true → ⊥
unfolding first
begun_past (by_opening b n plen root bb o z) j a l m = false≢true (sym (unmarked b n plen root o.size z j l) ∙ m)
begun_past (by_loading b saved bb bs z) j a l m =
    let w = load_0 b saved z in
    let e = loaded_blocks b saved w.0 w.1 in
    let k : j < 2 ^ height_in saved = rw (w.2, loaded_height b saved w.0 w.1) at l in
    let c : blocks_in saved ≤ j = rw (w.2, e) at a in
    let x = (loaded_marks_all b saved w.0 w.1 j k).0 (rw w.2 at m) in
    omega (arith, named_inside saved ((load_is_0 b saved).0 z).1.form j x)
begun_past (by_repairing b saved bb bs z) j a l m =
    let w = repair_0 b saved z in
    let k : j < 2 ^ height_in saved = rw (w.2, repaired_height b saved w.0 w.1) at l in
    false≢true (sym (none_set b saved w.0 w.1 j k) ∙ (rw w.2 at m))

-- THE BYTE OF A BLOCK PAST THE FILE'S is never set
pub past_never : {s t : List ℕ} → Begins s → (h : Steps s t) (j : ℕ) → blocks_of t ≤ j → j < 2 ^ height_of t → marked_at t j ≡ false
past_never {s} {t} w h j a l = by (marked_at t j) refl
  where
    f : Facts s
    f = (begins_ours w).chained.facts

    g : Grown s t
    g = steps_grow f h

    by : (x : Bool) → marked_at t j ≡ x → marked_at t j ≡ false
    by false e = e
    by true e =
        elim ((marks_from_lem f j h l).0 e) [
          | inl r ↦ let i = right_inside (right_still f r.by) in absurd (omega arith)
          | inr y ↦
              let b : blocks_of s ≤ j = rw g.same.blocks at a in
              let k : j < 2 ^ height_of s = rw g.same.layers at l in
              absurd (begun_past w j b k y.0)
        ]

-- ---- what a save leaves

pub save_is : (s out : List ℕ) → (save_answer s out).number ≡ 0 → save_of s out ≡ saved_bytes (saved_of s)
save_is s out z =
    let w = save_counts s out z in
    let l = ((save_0 s out).0 z).1 in
    rw (w.0, w.1) (cut_pasted_same out 0 (saved_bytes (saved_of s)) (length (saved_bytes (saved_of s))) refl (omega arith))

-- bytes
pub save_bytes : (s out : List ℕ) → Bytes s → (save_answer s out).number ≡ 0 → Bytes (save_of s out)
save_bytes s out bs z =
    rw (save_is s out z) (ordered_bytes (saved_of s) (saved_ordered s (usable_facts s ((save_0 s out).0 z).0) (every_byte s bs)))

-- NAMED EXACTLY IF MARKED: of any usable store
pub save_marks : (s out : List ℕ) → Bytes s → (save_answer s out).number ≡ 0 → (j : ℕ) → NamesMark (save_of s out) j ↔ (marked_answer s j ≡ done 1)
save_marks s out bs z j =
    let f = usable_facts s ((save_0 s out).0 z).0 in
    let a = saved_marks s f (every_byte s bs) j in
    let m = marked_says s f j in
    rw (save_is s out z) (λ x. m.1 (a.0 x), λ x. a.1 (m.0 x))

-- OF A STORE OF OURS: named, so judged right in its history and not cleared after that, or marked when that began and not cleared since
pub named_was_judged : {s t : List ℕ} → Begins s → (h : Steps s t) → (out : List ℕ) → (save_answer t out).number ≡ 0 → (j : ℕ) → NamesMark (save_of t out) j
    → JudgedRight j h ⊎ ((marked_answer s j ≡ done 1) × Uncleared j t h)
named_was_judged {s} {t} w h out z j x = (marked_since s (begins_usable w) h j).0 ((save_marks t out (ours_bytes (ours w h)) z j).0 x)

-- ---- from save to load to save

pub line_ours : {t : List ℕ} → OwnLine t → OurStore t
line_ours (from_opening b n plen root bb o z h) = ours (by_opening b n plen root bb o z) h
line_ours (from_repair b saved bb bs z h) = ours (by_repairing b saved bb bs z) h
line_ours (from_save {s} w out y b bb z h) = ours (by_loading b (save_of s out) bb (save_bytes s out (ours_bytes (line_ours w)) y) z) h

-- MARKED EXACTLY IF JUDGED RIGHT in one of the histories, and not cleared after that
pub marked_in_line : {t : List ℕ} (w : OwnLine t) (j : ℕ) → (marked_answer t j ≡ done 1) ↔ JudgedIn j w
unfolding JudgedIn
marked_in_line (from_opening b n plen root bb o z h) j = marked_exactly b n plen root o.size z h j
marked_in_line (from_repair b saved bb bs z h) j = marked_after_repair b saved bb bs z h j
marked_in_line (from_save {s} w out y b bb z {t} h) j =
    let bs = ours_bytes (line_ours w) in
    let m = marked_after_load b (save_of s out) bb (save_bytes s out bs y) z h j in
    let n = save_marks s out bs y j in
    let r = marked_in_line w j in (
      λ a. elim (m.0 a) [ inl x ↦ inl x | inr x ↦ inr (r.0 (n.0 x.0), x.1) ],
      λ a. m.1 (elim a [ inl x ↦ inl x | inr x ↦ inr (n.1 (r.1 x.0), x.1) ]),
    )

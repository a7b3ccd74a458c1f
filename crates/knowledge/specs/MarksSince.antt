-- Marks over a history: one case for each call, and one induction. A block is marked exactly if it was judged right since the opening and not
-- cleared after that; so a mark goes back only by a clearing and by an opening; and what the bytes were that were judged.
-- Assumes nothing.
use Rattle.std.specs.Prelude.{◌≡◌, Bool, ◌↔◌, ◌⊎◌, ℕ, ◌+◌, ◌*◌, ◌^◌, ◌≤◌, ◌<◌, length, get_or, eqb, List}
use Rattle.std.proofs.Math.Path.{refl, ap}
use Rattle.std.proofs.Common.{sym, ◌∙◌, subst, arith, leb-true}
use Rattle.std.proofs.Math.Bool.{true, false}
use Rattle.std.proofs.lemmas.Bool.{false≢true}
use Rattle.std.proofs.Math.Logic.{inl, inr}
use Rattle.std.proofs.Math.Decide.{ℕ_discrete, dec_le, dec_lt}
use Rattle.std.proofs.Math.Dec.{leb}
use Rattle.octets.specs.Octets.{Octets}
use Rattle.numbers.specs.Numbers.{done}
use Rattle.numbers.specs.declared.Answer.{Answer}
use Rattle.sha256.specs.Sha256.{sha256}
use Rattle.cells.specs.Entries.{one_if}
use Rattle.store.specs.Store.{usable, file_length, blocks_of, height_of, positions, store_size, facts_in_range, opened, open_answer, open_after, Facts}
use Rattle.store.specs.StoreLaws.{facts_leaves, facts_usable, opened_file, opened_zero, usable_facts}
use Rattle.messages.specs.Take.{take_after}
use Rattle.marks.specs.Marks.{marks_start, marked_at, marked, cleared, block_there, clear_answer, marked_answer, first_block, blocks_in}
use Rattle.marks.specs.MarksLaws.{same_mark, marked_in, marked_out, marks_end, marks_start_some, there_fits, there_inside, there_says}
use Rattle.pieces.specs.Pieces.{layer_after, block_number, block_answer, piece_height, piece_number, piece_answer}
use Rattle.pieces.proofs.PiecesLaws.{piece_right}
use Rattle.pieces.proofs.MarkedLaws.{block_fits, block_marks, block_stays, piece_fits, piece_marks, piece_stays}
use Rattle.pieces.specs.Hybrid.{hybrid_number, hybrid_answer}
use Rattle.pieces.proofs.HybridLaws.{hybrid_0, hybrid_marks, hybrid_stays}
use Rattle.words.specs.History.{Bytes, Call, take, load_layer, judge_block, judge_piece, judge_hybrid_piece, clear, reopen, load, repair, look, number, after, Opening, Step, call, lent, Steps, begin, next}
use Rattle.words.specs.Marks.{Covers, Judges, Clears, JudgedBy, last, before, behind, JudgedRight, Uncleared, at_first, by_call, by_lending, RightFor, as_block, in_piece, in_hybrid_piece}
use Rattle.knowledge.specs.Through.{clear_writes, clear_stays, reopen_refused, load_stays, repair_stays}
use Rattle.knowledge.specs.Grows.{Grown, grown_on, grown_take, grown_layer, steps_grow}
use Rattle.knowledge.specs.Again.{grown_holds}
use Rattle.knowledge.specs.Alike.{alike}
use Rattle.knowledge.specs.Beyond.{same_node, take_past, layer_past}
use Rattle.knowledge.specs.MarksBeyond.{mark_used}
use Rattle.knowledge.specs.Bitfield.{covered_in, in_covered, one_true}
use Rattle.knowledge.specs.JudgedWhen.{block_0, piece_0}
use Rattle.knowledge.specs.Invariant.{ours_opened}
use Rattle.knowledge.specs.InTable.{refused_leaves}

-- ---- one step

-- a mark that a step leaves, sets, or clears: then it is there exactly if it was set, or was there and not cleared
leaves : {J L : Type 0} (a b : Bool) → a ≡ b → (J → ⊥) → L → (a ≡ true) ↔ (J ⊎ ((b ≡ true) × L))
leaves a b e never l = (λ m. inr (sym e ∙ m, l), λ x. elim x [ inl j ↦ absurd (never j) | inr y ↦ e ∙ y.0 ])

sets : {J L : Type 0} (a b : Bool) → a ≡ true → J → (a ≡ true) ↔ (J ⊎ ((b ≡ true) × L))
sets a b e j = (λ m. inl j, λ x. e)

clears : {J L : Type 0} (a b : Bool) → a ≡ false → (J → ⊥) → (L → ⊥) → (a ≡ true) ↔ (J ⊎ ((b ≡ true) × L))
clears a b e never gone =
    (λ m. absurd (false≢true (sym e ∙ m)), λ x. elim x [ inl j ↦ absurd (never j) | inr y ↦ absurd (gone y.1) ])

-- after the call block j is marked exactly if the call judged it right, or it was marked and the call did not clear it
abbrev MarkAfter : Call → List ℕ → ℕ → Type 0
MarkAfter c s j = (marked_at (after c s) j ≡ true) ↔ ((Judges s j c × (number c s ≡ 0)) ⊎ ((marked_at s j ≡ true) × (Clears j c → number c s ≡ 0 → ⊥)))

module _ (s : List ℕ) (f : Facts s) (j : ℕ) (l : j < 2 ^ height_of s) where
  behind_cells : 31 + 33 * positions (height_of s) ≤ marks_start s + j
  unfolding marks_start
  behind_cells = omega arith

  -- who writes cells alone leaves the mark
  take_leaves : (m : List ℕ) → marked_at (take_after s m) j ≡ marked_at s j
  take_leaves m = same_mark s (take_after s m) (grown_take s m f).same j (take_past s s f (alike s s f refl) m (marks_start s + j) behind_cells)

  load_leaves : (d : List ℕ) → marked_at (layer_after s d) j ≡ marked_at s j
  load_leaves d = same_mark s (layer_after s d) (grown_layer s d f).same j (layer_past s s f (alike s s f refl) d (marks_start s + j) behind_cells)

  block_mark : (i : ℕ) (d : List ℕ) (b : Bytes d) → MarkAfter (judge_block i d b) s j
  unfolding block_answer
  block_mark i d b =
      elim (ℕ_discrete (block_number s i d) 0) [
        | yes z ↦
            rw (block_marks s i d z)
            (elim (ℕ_discrete i j) [
              | yes q ↦ sets _ _ (marked_in s f i 1 marked (block_fits s i d z) j (omega arith) (omega arith)) (q, z)
              | no ne ↦ leaves _ _ (marked_out s f i 1 marked (block_fits s i d z) j (elim (dec_lt j i) [ yes a ↦ inl a | no a ↦ inr (omega arith) ])) (λ x. ne x.0) (λ x. absurd x)
            ])
        | no ne ↦ leaves _ _ (ap (λ (t : List ℕ). marked_at t j) (block_stays s i d ne)) (λ x. ne x.1) (λ x. absurd x)
      ]

  piece_mark : (i : ℕ) (d : List ℕ) (b : Bytes d) → MarkAfter (judge_piece i d b) s j
  unfolding piece_answer
  piece_mark i d b =
      elim (ℕ_discrete (piece_number s i d) 0) [
        | yes z ↦
            let r = (piece_right s i d z).inside in
            let out : (j < first_block s i) ⊎ (first_block s i + blocks_in s i ≤ j) → MarkAfter (judge_piece i d b) s j =
            λ w.
            rw (piece_marks s i d z)
            (leaves _ _ (marked_out s f (first_block s i) (blocks_in s i) marked (piece_fits s i d z) j w)
            (λ x. let k = in_covered s f i r j x.0 in elim w [ inl a ↦ omega arith | inr a ↦ omega arith ]) (λ x. absurd x)) in
            elim (dec_le (first_block s i) j) [
              | yes a ↦
                  elim (dec_lt j (first_block s i + blocks_in s i)) [
                    | yes k ↦
                        rw (piece_marks s i d z)
                        (sets _ _ (marked_in s f (first_block s i) (blocks_in s i) marked (piece_fits s i d z) j a k) (covered_in s f i r j a k, z))
                    | no k ↦ out (inr (omega arith))
                  ]
              | no a ↦ out (inl (omega arith))
            ]
        | no ne ↦ leaves _ _ (ap (λ (t : List ℕ). marked_at t j) (piece_stays s i d ne)) (λ x. ne x.1) (λ x. absurd x)
      ]

  -- on 0 as by the v2 half alone, which gave 0 too
  hybrid_mark : (i : ℕ) (d v : List ℕ) (z : ℕ) (b : Bytes d) (o : Octets 20 v) → MarkAfter (judge_hybrid_piece i d v z b o) s j
  unfolding piece_answer hybrid_answer
  hybrid_mark i d v z b o =
      elim (ℕ_discrete (hybrid_number s i d v z) 0) [
        | yes e ↦
            let p = piece_mark i d b in
            rw (hybrid_marks s i d v z e) (
              λ m. elim (p.0 m) [ inl y ↦ inl (y.0, e) | inr y ↦ inr (y.0, λ x. absurd x) ],
              λ w. p.1 (elim w [ inl y ↦ inl (y.0, ((hybrid_0 s i d v z).0 e).0) | inr y ↦ inr (y.0, λ x. absurd x) ]),
            )
        | no ne ↦ leaves _ _ (ap (λ (t : List ℕ). marked_at t j) (hybrid_stays s i d v z ne)) (λ x. ne x.1) (λ x. absurd x)
      ]

  clear_mark : (i : ℕ) → MarkAfter (clear i) s j
  unfolding clear_answer
  clear_mark i =
      elim (ℕ_discrete (block_there s i) 0) [
        | yes z ↦
            let fits : i + 1 ≤ 2 ^ height_of s = let w = there_fits s i z in omega arith in
            rw (clear_writes s i z)
            (elim (ℕ_discrete i j) [
              | yes q ↦ clears _ _ (marked_in s f i 1 cleared fits j (omega arith) (omega arith)) (λ x. absurd x.0) (λ x. x q z)
              | no ne ↦ leaves _ _ (marked_out s f i 1 cleared fits j (elim (dec_lt j i) [ yes a ↦ inl a | no a ↦ inr (omega arith) ])) (λ x. absurd x.0) (λ q. absurd (ne q))
            ])
        | no ne ↦ leaves _ _ (ap (λ (t : List ℕ). marked_at t j) (clear_stays s i ne)) (λ x. absurd x.0) (λ q z. ne z)
      ]

  mark_after : (c : Call) → (Opening c → number c s ≡ 0 → ⊥) → MarkAfter c s j
  mark_after (take m b) x = leaves _ _ (take_leaves m) (λ y. absurd y.0) (λ y. absurd y)
  mark_after (load_layer d b) x = leaves _ _ (load_leaves d) (λ y. absurd y.0) (λ y. absurd y)
  mark_after (judge_block i d b) x = block_mark i d b
  mark_after (judge_piece i d b) x = piece_mark i d b
  mark_after (judge_hybrid_piece i d v z b o) x = hybrid_mark i d v z b o
  mark_after (clear i) x = clear_mark i
  mark_after (reopen n plen root o) x =
      leaves _ _ (ap (λ (t : List ℕ). marked_at t j) (reopen_refused s n plen root (x tt))) (λ y. absurd y.0) (λ y. absurd y)
  mark_after (load b o) x = leaves _ _ (ap (λ (t : List ℕ). marked_at t j) (load_stays s b (x tt))) (λ y. absurd y.0) (λ y. absurd y)
  mark_after (repair b o) x = leaves _ _ (ap (λ (t : List ℕ). marked_at t j) (repair_stays s b (x tt))) (λ y. absurd y.0) (λ y. absurd y)
  mark_after (look k) x = leaves _ _ refl (λ y. absurd y.0) (λ y. absurd y)

-- one step grows a store
grown_step : {s t : List ℕ} → Facts s → Step s t → Grown s t
grown_step f x = steps_grow f (next begin x)

-- ---- any number of steps

module _ {s : List ℕ} (f : Facts s) (j : ℕ) where
  small : {t : List ℕ} → Steps s t → j < 2 ^ height_of s → j < 2 ^ height_of t
  small h l = rw (steps_grow f h).same.layers l

  marked_from : {t : List ℕ} → j < 2 ^ height_of s → (h : Steps s t) → marked_at t j ≡ true → JudgedRight j h ⊎ ((marked_at s j ≡ true) × Uncleared j t h)
  marked_from l begin m = inr (m, at_first)
  marked_from l (next {t} h (call c x)) m =
      elim ((mark_after t (steps_grow f h).facts j (small h l) c x).0 m) [
        | inl y ↦ inl (record { c = c; u = t; by = last h x y.0 y.1 })
        | inr y ↦ elim (marked_from l h y.0) [
          | inl w ↦ inl (record { c = w.c; u = w.u; by = before c x w.by y.1 })
          | inr w ↦ inr (w.0, by_call c x w.1 y.1)
        ]
      ]
  marked_from l (next {t} h (lent v b e)) m =
      elim (marked_from l h (sym (mark_used t v (steps_grow f h).facts e.bytes j (small h l)) ∙ m)) [
        | inl w ↦ inl (record { c = w.c; u = w.u; by = behind v b e w.by })
        | inr w ↦ inr (w.0, by_lending v b e w.1)
      ]

  judged_marked : {c : Call} {u t : List ℕ} {h : Steps s t} → j < 2 ^ height_of s → JudgedBy j c u t h → marked_at t j ≡ true
  judged_marked {c} {u} l (last h x a z) = (mark_after u (steps_grow f h).facts j (small h l) c x).1 (inl (a, z))
  judged_marked l (before {t} {h} d x w k) = (mark_after t (steps_grow f h).facts j (small h l) d x).1 (inr (judged_marked l w, k))
  judged_marked l (behind {t} {h} v b e w) = mark_used t v (steps_grow f h).facts e.bytes j (small h l) ∙ judged_marked l w

  uncleared_marked : {t : List ℕ} {h : Steps s t} → j < 2 ^ height_of s → marked_at s j ≡ true → Uncleared j t h → marked_at t j ≡ true
  uncleared_marked l m at_first = m
  uncleared_marked l m (by_call {t} {h} d x w k) = (mark_after t (steps_grow f h).facts j (small h l) d x).1 (inr (uncleared_marked l m w, k))
  uncleared_marked l m (by_lending {t} {h} v b e w) = mark_used t v (steps_grow f h).facts e.bytes j (small h l) ∙ uncleared_marked l m w

  -- by the byte: marked exactly if judged right and not cleared after that, or marked at first and not cleared since
  pub marks_from_lem : {t : List ℕ} (h : Steps s t) → j < 2 ^ height_of t → (marked_at t j ≡ true) ↔ (JudgedRight j h ⊎ ((marked_at s j ≡ true) × Uncleared j t h))
  marks_from_lem h l =
      let k : j < 2 ^ height_of s = rw (steps_grow f h).same.layers at l in
      (marked_from k h, λ r. elim r [ inl y ↦ judged_marked k y.by | inr y ↦ uncleared_marked k y.0 y.1 ])

  -- where no block was marked at first: exactly if judged right
  pub marks_since : ((i : ℕ) → i < 2 ^ height_of s → marked_at s i ≡ false) → {t : List ℕ} (h : Steps s t) → j < 2 ^ height_of t → (marked_at t j ≡ true) ↔ JudgedRight j h
  marks_since none h l =
      let k : j < 2 ^ height_of s = rw (steps_grow f h).same.layers at l in
      let w = marks_from_lem h l in
      (λ m. elim (w.0 m) [ inl y ↦ y | inr y ↦ absurd (false≢true (sym (none j k) ∙ y.0)) ], λ r. w.1 (inl r))

-- ---- the bytes that were judged

-- the call that judged a block was given its data and answered 0,
pub judged_answered : {j : ℕ} {c : Call} {u s t : List ℕ} {h : Steps s t} → JudgedBy j c u t h → Judges u j c × (number c u ≡ 0)
judged_answered (last h x a z) = (a, z)
judged_answered (before d x w k) = judged_answered w
judged_answered (behind v b e w) = judged_answered w

-- in bytes that the history came to,
pub judged_history : {j : ℕ} {c : Call} {u s t : List ℕ} {h : Steps s t} → JudgedBy j c u t h → Steps s u
judged_history (last h x a z) = h
judged_history (before d x w k) = judged_history w
judged_history (behind v b e w) = judged_history w

-- and the store has only grown since
pub judged_grown : {j : ℕ} {c : Call} {u s t : List ℕ} {h : Steps s t} → Facts s → JudgedBy j c u t h → Grown u t
judged_grown {c = c} f (last h x a z) = grown_step (steps_grow f h).facts (call c x)
judged_grown f (before d x w k) = let g = judged_grown f w in grown_on g (grown_step g.facts (call d x))
judged_grown f (behind v b e w) = let g = judged_grown f w in grown_on g (grown_step g.facts (lent v b e))

-- the number 0 says that the bytes were right
right_piece : (s : List ℕ) (j i : ℕ) (d : List ℕ) (b : Bytes d) → Covers s i j → piece_number s i d ≡ 0 → RightFor s j (judge_piece i d b)
right_piece s j i d b x z = let w = (piece_0 s i d).0 z in in_piece i d b x w.0 w.1.w w.1.held w.1.gives

right_0 : (s : List ℕ) (j : ℕ) (c : Call) → Judges s j c → number c s ≡ 0 → RightFor s j c
unfolding block_answer piece_answer hybrid_answer
right_0 s j (take m b) x z = absurd x
right_0 s j (load_layer d b) x z = absurd x
right_0 s j (judge_block i d b) x z = let w = (block_0 s i d).0 z in subst (λ (k : ℕ). RightFor s k (judge_block i d b)) x (as_block d b w.0 w.1)
right_0 s j (judge_piece i d b) x z = right_piece s j i d b x z
right_0 s j (judge_hybrid_piece i d v n b o) x z = let w = (hybrid_0 s i d v n).0 z in in_hybrid_piece i d v n b o (right_piece s j i d b x w.0) w.1
right_0 s j (clear i) x z = absurd x
right_0 s j (reopen n plen root o) x z = absurd x
right_0 s j (load b o) x z = absurd x
right_0 s j (repair b o) x z = absurd x
right_0 s j (look k) x z = absurd x

-- and they stay right for a store that holds at least as much
right_grown : {s t : List ℕ} {j : ℕ} {c : Call} → Facts s → Grown s t → RightFor s j c → RightFor t j c
right_grown {s} {t} {j} f g (as_block block b w h) =
    as_block block b
    (record { store = facts_usable t g.facts; inside = rw g.same.blocks w.inside; size = rw g.same.file w.size })
    (grown_holds s t f g 0 j (sha256 block) h)
right_grown {s} {t} {j} f g (in_piece i piece b cov w v h p) =
    in_piece i piece b
    (record { inside = rw g.same.blocks cov.inside; from = rw g.same.piece cov.from; upto = rw g.same.piece cov.upto })
    (record { store = facts_usable t g.facts; inside = rw (g.same.file, g.same.piece) w.inside; size = rw (g.same.file, g.same.piece) w.size })
    v
    (rw (same_node g.same) (grown_holds s t f g (piece_height s) i v h))
    (rw (same_node g.same) p)
right_grown {s} {t} {j} f g (in_hybrid_piece i piece v1 zeros b o r w) =
    in_hybrid_piece i piece v1 zeros b o (right_grown f g r) (record { room = rw g.same.piece w.room; hash = w.hash })

pub right_inside : {t : List ℕ} {j : ℕ} {c : Call} → RightFor t j c → j < blocks_of t
right_inside (as_block block b w h) = w.inside
right_inside (in_piece i piece b cov w v h p) = cov.inside
right_inside (in_hybrid_piece i piece v1 _ b o r w) = right_inside r

-- WHAT A MARK PROMISES: the bytes judged were right then,
pub right_then : {j : ℕ} {c : Call} {u s t : List ℕ} {h : Steps s t} → JudgedBy j c u t h → RightFor u j c
right_then {j} {c} {u} w = let a = judged_answered w in right_0 u j c a.0 a.1

-- and are right still
pub right_still : {j : ℕ} {c : Call} {u s t : List ℕ} {h : Steps s t} → Facts s → JudgedBy j c u t h → RightFor t j c
right_still f w = right_grown (steps_grow f (judged_history w)).facts (judged_grown f w) (right_then w)

-- ---- as kd_marked answers it

number_there : (s : List ℕ) (j : ℕ) → (marked_answer s j).number ≡ block_there s j
unfolding marked_answer
number_there s j = refl

answer_there : (s : List ℕ) (j : ℕ) → block_there s j ≡ 0 → marked_answer s j ≡ done (one_if (marked_at s j))
unfolding marked_answer
answer_there s j z = rw z

-- a block is answered as marked exactly if the file has it and its mark is set
pub marked_says : (s : List ℕ) → Facts s → (j : ℕ) → (marked_answer s j ≡ done 1) ↔ ((j < blocks_of s) × (marked_at s j ≡ true))
marked_says s f j = (
  λ e.
      let z : block_there s j ≡ 0 = sym (number_there s j) ∙ ap (λ (a : Answer). a.number) e in
      ((there_says s j z).1, one_true (marked_at s j) (ap (λ (a : Answer). a.count) (sym (answer_there s j z) ∙ e))),
  λ m. answer_there s j (sym (there_inside s j (facts_usable s f) m.0)) ∙ ap (λ (x : Bool). done (one_if x)) m.1,
)

-- AFTER A CALL a block is marked exactly if the call judged it right, or it was marked and the call did not clear it: of any usable store
pub after_call : (s : List ℕ) → usable s ≡ true → (c : Call) → (Opening c → number c s ≡ 0 → ⊥) → (j : ℕ)
    → (marked_answer (after c s) j ≡ done 1) ↔ ((Judges s j c × (number c s ≡ 0)) ⊎ ((marked_answer s j ≡ done 1) × (Clears j c → number c s ≡ 0 → ⊥)))
after_call s us c x j = (to, from)
  where
    f : Facts s
    f = usable_facts s us

    g : Grown s (after c s)
    g = grown_step f (call c x)

    kept : j < blocks_of s → marked_at (after c s) j ≡ true → marked_answer (after c s) j ≡ done 1
    kept l m = (marked_says (after c s) g.facts j).1 (rw g.same.blocks l, m)

    step : j < blocks_of s → MarkAfter c s j
    step l = mark_after s f j (omega (arith, facts_leaves s f)) c x

    to : marked_answer (after c s) j ≡ done 1 → (Judges s j c × (number c s ≡ 0)) ⊎ ((marked_answer s j ≡ done 1) × (Clears j c → number c s ≡ 0 → ⊥))
    to m =
        let w = (marked_says (after c s) g.facts j).0 m in
        let l : j < blocks_of s = rw g.same.blocks at w.0 in
        elim ((step l).0 w.1) [ inl y ↦ inl y | inr y ↦ inr ((marked_says s f j).1 (l, y.0), y.1) ]

    from : (Judges s j c × (number c s ≡ 0)) ⊎ ((marked_answer s j ≡ done 1) × (Clears j c → number c s ≡ 0 → ⊥)) → marked_answer (after c s) j ≡ done 1
    from (inl y) = let l = right_inside (right_0 s j c y.0 y.1) in kept l ((step l).1 (inl y))
    from (inr y) = let w = (marked_says s f j).0 y.0 in kept w.0 ((step w.0).1 (inr (w.1, y.1)))

-- SINCE ANY BEGINNING a block is marked exactly if it was judged right and not cleared after that, or was marked at first and not cleared since
pub marked_since : (s : List ℕ) → usable s ≡ true → {t : List ℕ} (h : Steps s t) (j : ℕ)
    → (marked_answer t j ≡ done 1) ↔ (JudgedRight j h ⊎ ((marked_answer s j ≡ done 1) × Uncleared j t h))
marked_since s us {t} h j = (to, from)
  where
    f : Facts s
    f = usable_facts s us

    g : Grown s t
    g = steps_grow f h

    kept : j < blocks_of s → marked_at t j ≡ true → marked_answer t j ≡ done 1
    kept l m = (marked_says t g.facts j).1 (rw g.same.blocks l, m)

    byte : j < blocks_of s → (marked_at t j ≡ true) ↔ (JudgedRight j h ⊎ ((marked_at s j ≡ true) × Uncleared j t h))
    byte l = marks_from_lem f j h (rw g.same.layers (omega (arith, facts_leaves s f)))

    to : marked_answer t j ≡ done 1 → JudgedRight j h ⊎ ((marked_answer s j ≡ done 1) × Uncleared j t h)
    to m =
        let w = (marked_says t g.facts j).0 m in
        let l : j < blocks_of s = rw g.same.blocks at w.0 in
        elim ((byte l).0 w.1) [ inl y ↦ inl y | inr y ↦ inr ((marked_says s f j).1 (l, y.0), y.1) ]

    from : JudgedRight j h ⊎ ((marked_answer s j ≡ done 1) × Uncleared j t h) → marked_answer t j ≡ done 1
    from (inl r) =
        let w = right_inside (right_still f r.by) in
        let l : j < blocks_of s = rw g.same.blocks at w in
        kept l ((byte l).1 (inl r))
    from (inr y) = let w = (marked_says s f j).0 y.0 in kept w.0 ((byte w.0).1 (inr (w.1, y.1)))

-- A MARK GOES BACK only by a clearing of its block and by an opening
pub back_only : (s : List ℕ) → usable s ≡ true → (c : Call) (j : ℕ) → marked_answer s j ≡ done 1 → (marked_answer (after c s) j ≡ done 1 → ⊥)
    → (Clears j c ⊎ Opening c) × (number c s ≡ 0)
back_only s us c j m gone =
    elim (ℕ_discrete (number c s) 0) [
      | no ne ↦ absurd (gone (ap (λ (t : List ℕ). marked_answer t j) (refused_leaves c s ne) ∙ m))
      | yes z ↦ (by c gone, z)
    ]
  where
    stays : (c : Call) → (Opening c → ⊥) → (Clears j c → ⊥) → marked_answer (after c s) j ≡ done 1
    stays c x y = (after_call s us c (λ o z. x o) j).1 (inr (m, λ q z. y q))

    by : (c : Call) → (marked_answer (after c s) j ≡ done 1 → ⊥) → Clears j c ⊎ Opening c
    by (take a b) k = absurd (k (stays (take a b) (λ x. x) (λ x. x)))
    by (load_layer d b) k = absurd (k (stays (load_layer d b) (λ x. x) (λ x. x)))
    by (judge_block i d b) k = absurd (k (stays (judge_block i d b) (λ x. x) (λ x. x)))
    by (judge_piece i d b) k = absurd (k (stays (judge_piece i d b) (λ x. x) (λ x. x)))
    by (judge_hybrid_piece i d v z b o) k = absurd (k (stays (judge_hybrid_piece i d v z b o) (λ x. x) (λ x. x)))
    by (clear i) k = elim (ℕ_discrete i j) [ yes q ↦ inl q | no ne ↦ absurd (k (stays (clear i) (λ x. x) ne)) ]
    by (reopen n plen root o) k = inr tt
    by (load b o) k = inr tt
    by (repair b o) k = inr tt
    by (look d) k = absurd (k (stays (look d) (λ x. x) (λ x. x)))

-- ---- from the opening on

-- a zero byte is no mark
pub zero_unmarked : (s : List ℕ) (j : ℕ) → get_or s (marks_start s + j) 0 ≡ 0 → marked_at s j ≡ false
unfolding marked_at
zero_unmarked s j e = ap (λ (x : ℕ). eqb x 1) e

module _ (b : List ℕ) (n plen : ℕ) (root : List ℕ) (size : length root ≡ 32) (z : (open_answer b n plen).number ≡ 0) where
  unfoldable pub first : List ℕ
  first = open_after b n plen root

  start : Facts first
  unfolding first
  start = (ours_opened b n plen root size z).chained.facts

  -- an opened store has no mark
  pub unmarked : (j : ℕ) → j < 2 ^ height_of first → marked_at first j ≡ false
  unfolding first
  unmarked j l = by (facts_in_range n plen) (leb (store_size n) (length b)) refl refl
    where
      by : (x y : Bool) → facts_in_range n plen ≡ x → leb (store_size n) (length b) ≡ y → marked_at (open_after b n plen root) j ≡ false
      by true true p q =
          let fits = leb-true (store_size n) (length b) q in
          let e : open_after b n plen root ≡ opened b n plen root = unfold open_after in rw (p, q) in
          let k : j < 2 ^ height_of (opened b n plen root) = rw e at l in
          let d : store_size (file_length (opened b n plen root)) ≡ store_size n = ap store_size (opened_file b n plen root p fits size) in
          let v = opened_zero b n plen root p fits size (marks_start (opened b n plen root) + j) (omega (arith, marks_start_some (opened b n plen root))) (omega (arith, marks_end (opened b n plen root))) in
          rw e (zero_unmarked (opened b n plen root) j v)
      by true false p q = let w : ⊥ = unfold open_answer in omega (arith, rw (p, q) at z) in absurd w
      by false y p q = let w : ⊥ = unfold open_answer in omega (arith, rw p at z) in absurd w

  module _ {t : List ℕ} (h : Steps (open_after b n plen root) t) (j : ℕ) where
    there : Facts t
    unfolding first
    there = (steps_grow start h).facts

    -- MARKED EXACTLY IF since the opening the block, or a piece that covers it, was answered 0, and it was not cleared after that
    pub marked_exactly : (marked_answer t j ≡ done 1) ↔ JudgedRight j h
    unfolding first
    marked_exactly = (
      λ m.
          let w = (marked_says t there j).0 m in
          (marks_since start j unmarked h (omega (arith, w.0, facts_leaves t there))).0 w.1,
      λ r.
          let l = right_inside (right_still start r.by) in
          (marked_says t there j).1 (l, (marks_since start j unmarked h (omega (arith, l, facts_leaves t there))).1 r),
    )

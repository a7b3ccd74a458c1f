-- 02, request 11: the picking ends. Each piece picked was not on disk, and is once it was judged right; marks stay but for clearings.
-- Assumes nothing.
use Rattle.std.specs.Prelude.{◌≡◌, Bool, true, false, not, List, ℕ, suc, ◌+◌, ◌≤◌, ◌<◌, ltb}
use Rattle.std.proofs.Common.{ap, sym, ◌∙◌, inl, inr, arith, lt-ltb, ltb-true}
use Rattle.std.proofs.Math.Path.{subst}
use Rattle.std.proofs.Math.Bool.{and-eq-true_iff}
use Rattle.tree.specs.Geometry.{piece_count}
use Rattle.store.specs.Store.{usable, file_length, piece_length, blocks_of, Facts, SameFacts}
use Rattle.store.specs.StoreLaws.{usable_facts, facts_usable, facts_leaves}
use Rattle.marks.specs.Marks.{marked, marked_at, each_piece, first_block, blocks_in, all_marked, piece_marked}
use Rattle.marks.specs.MarksLaws.{marked_in, covered_inside, all_marked_says, all_marked_each}
use Rattle.pieces.specs.Pieces.{piece_number, piece_answer, piece_after}
use Rattle.pieces.specs.Hybrid.{hybrid_number, hybrid_answer}
use Rattle.pieces.proofs.HybridLaws.{hybrid_0, hybrid_marks}
use Rattle.pieces.proofs.MarkedLaws.{piece_fits, piece_marks}
use Rattle.asking.specs.declared.pick.Choice.{Choice}
use Rattle.asking.specs.Picking.{no_piece, this_piece, pick_answer}
use Rattle.words.specs.Asking.{CountEach, ToFetch, Picked, nothing_left, rarest, count_below, not_on_disk, KeepsMarks, unmoved, called, relent, Fetched, unpicked, between, judged_right, judged_by_both}
use Rattle.numbers.specs.Tests.{either, not_both}
use Rattle.words.specs.History.{Bytes, Call, judge_piece, Opening, number, after, SameStore, Steps, call, begin, next}
use Rattle.words.specs.Marks.{Clears}
use Rattle.knowledge.specs.Grows.{Grown, grown_same, grown_on, grown_moved, steps_grow}
use Rattle.knowledge.specs.MarksBeyond.{mark_used}
use Rattle.knowledge.specs.MarksSince.{after_call, marked_says}
use Rattle.knowledge.specs.Counting.{count_fewer, count_less, count_some}
use Rattle.knowledge.specs.PickedWhen.{on_disk_exactly, picked}

-- ---- marks stay

record Stays (t u : List ℕ) : Type 0 where
  grown : Grown t u
  marks : (j : ℕ) → j < blocks_of t → marked_at t j ≡ true → marked_at u j ≡ true

stays_on : {s t u : List ℕ} → Stays s t → Stays t u → Stays s u
stays_on a b = record { grown = grown_on a.grown b.grown; marks = λ j l m. b.marks j (rw a.grown.same.blocks l) (a.marks j l m) }

stays_call : (t : List ℕ) → Facts t → (c : Call) → (Opening c → number c t ≡ 0 → ⊥) → ((j : ℕ) → Clears j c → number c t ≡ 0 → ⊥) → Stays t (after c t)
stays_call t f c x k =
    let g = steps_grow f (next begin (call c x)) in
    record {
      grown = g;
      marks =
          λ j l m.
          ((marked_says (after c t) g.facts j).0
          ((after_call t (facts_usable t f) c x j).1 (inr ((marked_says t f j).1 (l, m), k j)))).1;
    }

stays_moved : (t u : List ℕ) → Facts t → Bytes u → SameStore t u → Stays t u
stays_moved t u f b e =
    record {
      grown = grown_moved t u f e;
      marks = λ j l m. mark_used t u f e.bytes j (omega (arith, facts_leaves t f)) ∙ m;
    }

stays_through : {t u : List ℕ} {h : Steps t u} → Facts t → KeepsMarks u h → Stays t u
stays_through {t} f unmoved = record { grown = grown_same t f; marks = λ j l m. m }
stays_through f (called {t} c x k n) = let a = stays_through f k in stays_on a (stays_call t a.grown.facts c x n)
stays_through f (relent {t} v b e k) = let a = stays_through f k in stays_on a (stays_moved t v a.grown.facts b e)

-- a piece on disk stays on disk
same_first : {t u : List ℕ} → SameFacts t u → (i : ℕ) → (first_block u i ≡ first_block t i) × (blocks_in u i ≡ blocks_in t i)
unfolding first_block blocks_in each_piece
same_first e i = (rw e.piece, rw (e.piece, e.blocks))

piece_says : (t : List ℕ) (i : ℕ) → piece_marked t i ≡ true → (i < piece_count (file_length t) (piece_length t)) × (all_marked t (first_block t i) (blocks_in t i) ≡ true)
unfolding piece_marked
piece_says t i e =
    let w = (and-eq-true_iff (ltb i (piece_count (file_length t) (piece_length t))) (all_marked t (first_block t i) (blocks_in t i))).0 e in
    (ltb-true i _ w.0, w.1)

says_piece : (t : List ℕ) (i : ℕ) → i < piece_count (file_length t) (piece_length t) → all_marked t (first_block t i) (blocks_in t i) ≡ true → piece_marked t i ≡ true
unfolding piece_marked
says_piece t i a b = rw (lt-ltb i (piece_count (file_length t) (piece_length t)) a, b)

same_pieces : {t u : List ℕ} → SameFacts t u → piece_count (file_length u) (piece_length u) ≡ piece_count (file_length t) (piece_length t)
same_pieces e = rw (e.file, e.piece)

disk_stays : {t u : List ℕ} → Facts t → Stays t u → (i : ℕ) → piece_marked t i ≡ true → piece_marked u i ≡ true
disk_stays {t} {u} f S i e =
    let w = piece_says t i e in
    let F = same_first S.grown.same i in
    let c = covered_inside t f i w.0 in
    says_piece u i (rw (same_pieces S.grown.same) w.0)
    (all_marked_each u (first_block u i) (blocks_in u i)
    (λ j a b. S.marks j (omega (arith, F.0, F.1)) (all_marked_says t (first_block t i) (blocks_in t i) w.1 j (omega (arith, F.0)) (omega (arith, F.0, F.1)))))

abbrev lacking : List ℕ → ℕ → Bool
lacking t i = not (piece_marked t i)

lacking_was : {t u : List ℕ} → Facts t → Stays t u → (i : ℕ) → lacking u i ≡ true → lacking t i ≡ true
lacking_was {t} {u} f S i e =
    elim (either (piece_marked t i)) [
      | inl a ↦ absurd (not_both e (ap not (disk_stays f S i a)))
      | inr a ↦ ap not a
    ]

-- ---- a piece judged right is on disk

right_stays : (u : List ℕ) (i : ℕ) (piece : List ℕ) → Bytes piece → Facts u → piece_number u i piece ≡ 0 → Stays u (piece_after u i piece)
right_stays u i piece b f z = stays_call u f (judge_piece i piece b) (λ x y. x) (λ j x y. x)

right_on_disk : (u : List ℕ) (i : ℕ) (piece : List ℕ) → Facts u → SameFacts u (piece_after u i piece) → piece_number u i piece ≡ 0 → i < piece_count (file_length u) (piece_length u)
    → piece_marked (piece_after u i piece) i ≡ true
right_on_disk u i piece f e z l =
    let F = same_first e i in
    says_piece (piece_after u i piece) i (rw (same_pieces e) l)
    (all_marked_each (piece_after u i piece) (first_block (piece_after u i piece) i) (blocks_in (piece_after u i piece) i)
    (λ j a b.
    let m = marked_in u f (first_block u i) (blocks_in u i) marked (piece_fits u i piece z) j (omega (arith, F.0)) (omega (arith, F.0, F.1)) in
    ap (λ (y : List ℕ). marked_at y j) (piece_marks u i piece z) ∙ m))

-- ---- through a history

record Far (s : List ℕ) (n : ℕ) (t : List ℕ) : Type 0 where
  grown : Grown s t
  few : n + not_on_disk t ≤ not_on_disk s

far_on : {s t u : List ℕ} {n : ℕ} → Far s n t → Stays t u → Far s n u
far_on {s} {t} {u} {n} F S =
    let e = same_pieces S.grown.same in
    let w = count_fewer (lacking t) (lacking u) (piece_count (file_length t) (piece_length t)) (λ j a q. lacking_was F.grown.facts S j q) in
    let v : not_on_disk u ≡ count_below (lacking u) (piece_count (file_length t) (piece_length t)) = ap (count_below (lacking u)) e in
    record { grown = grown_on F.grown S.grown; few = omega (arith, F.few) }

pick_says : (t counts : List ℕ) (i : ℕ) → CountEach t counts → pick_answer t counts ≡ this_piece i → (i < piece_count (file_length t) (piece_length t)) × (piece_marked t i ≡ false)
pick_says t counts i L e = by (picked t counts L)
  where
    f : Facts t
    f = usable_facts t L.store

    unmarked : ToFetch t counts i → piece_marked t i ≡ false
    unmarked r = elim (either (piece_marked t i)) [ inl m ↦ absurd (r.lacking ((on_disk_exactly t f i r.in_file).0 m)) | inr m ↦ m ]

    by : Picked t counts → (i < piece_count (file_length t) (piece_length t)) × (piece_marked t i ≡ false)
    by (nothing_left q g) = let w : ⊥ = omega (arith, ap (λ (c : Choice). c.found) (sym q ∙ e)) in absurd w
    by (rarest k q r) =
        let z : k ≡ i = ap (λ (c : Choice). c.piece) (sym q ∙ e) in
        let w : ToFetch t counts i = rw z at r.fetch in
        (w.in_file, unmarked w)

far_right : {s t u : List ℕ} {n : ℕ} (i : ℕ) (piece : List ℕ) → Bytes piece → Far s n t → i < piece_count (file_length t) (piece_length t) → piece_marked t i ≡ false → Stays t u
    → piece_number u i piece ≡ 0 → Far s (suc n) (piece_after u i piece)
far_right {s} {t} {u} {n} i piece b F l m S z =
    let f = S.grown.facts in
    let P = right_stays u i piece b f z in
    let A = stays_on S P in
    let e = same_pieces A.grown.same in
    let lu : i < piece_count (file_length u) (piece_length u) = rw (same_pieces S.grown.same) l in
    let d = right_on_disk u i piece f P.grown.same z lu in
    let w = count_less (lacking t) (lacking (piece_after u i piece)) (piece_count (file_length t) (piece_length t)) i
    (λ j a q. lacking_was F.grown.facts A j q) l (ap not m) (ap not d) in
    let v : not_on_disk (piece_after u i piece) ≡ count_below (lacking (piece_after u i piece)) (piece_count (file_length t) (piece_length t)) = ap (count_below (lacking (piece_after u i piece))) e in
    record { grown = grown_on F.grown A.grown; few = omega (arith, F.few) }

far : {s t : List ℕ} {n : ℕ} → Facts s → Fetched s n t → Far s n t
far {s} f unpicked = record { grown = grown_same s f; few = omega arith }
far f (between H k) = let F = far f H in far_on F (stays_through F.grown.facts k)
far f (judged_right {n} {t} {u} counts i piece b H L e k z) =
    let F = far f H in
    let T = pick_says t counts i L e in
    far_right i piece b F T.0 T.1 (stays_through F.grown.facts k) (unfold piece_answer in z)
far {s} f (judged_by_both {n} {t} {u} counts i piece v1 zeros b H L e k z) =
    let F = far f H in
    let T = pick_says t counts i L e in
    let w : hybrid_number u i piece v1 zeros ≡ 0 = unfold hybrid_answer in z in
    subst (Far s (suc n)) (sym (hybrid_marks u i piece v1 zeros w)) (far_right i piece b F T.0 T.1 (stays_through F.grown.facts k) ((hybrid_0 u i piece v1 zeros).0 w).0)

-- THE PICKING ENDS: where each piece picked is then judged right, whatever else happens between but no mark is cleared, at most as many are
-- picked as were not on disk,
pub picking_ends : {s t : List ℕ} {n : ℕ} → usable s ≡ true → Fetched s n t → n + not_on_disk t ≤ not_on_disk s
picking_ends {s} u H = (far (usable_facts s u) H).few

-- and behind the last of them there is nothing to fetch, whatever the counts
pub then_nothing_to_fetch : {s t : List ℕ} {n : ℕ} (counts : List ℕ) → usable s ≡ true → Fetched s n t → n ≡ not_on_disk s → CountEach t counts → pick_answer t counts ≡ no_piece 0
then_nothing_to_fetch {s} {t} {n} counts u H e L = by (picked t counts L)
  where
    by : Picked t counts → pick_answer t counts ≡ no_piece 0
    by (nothing_left q f) = q
    by (rarest i q r) =
        let T = pick_says t counts i L q in
        let w = count_some (lacking t) (piece_count (file_length t) (piece_length t)) i T.0 (ap not T.1) in
        let v : ⊥ = omega (arith, picking_ends u H) in
        absurd v

-- Marks decide nothing about hashes: two stores that differ in marks only get the same answers from every call about hashes, send the same
-- bytes, and are left with the same cells, so that they differ in marks only again.
-- Assumes nothing.
use Rattle.std.specs.Prelude.{◌≡◌, refl, Bool, true, false, List, ℕ, ◌+◌, ◌^◌, ◌≤◌, ◌<◌, length, get_or}
use Rattle.std.proofs.Math.Path.{ap}
use Rattle.std.proofs.Common.{sym, ◌∙◌, arith}
use Rattle.std.proofs.Math.Decide.{ℕ_discrete}
use Rattle.numbers.specs.declared.Answer.{Answer}
use Rattle.sha256.specs.declared.Hashed.{Hashed}
use Rattle.tree.specs.Geometry.{node_number}
use Rattle.cells.specs.Cells.{held_at, hash_at}
use Rattle.asking.specs.declared.next.Request.{Request}
use Rattle.facts.specs.Facts.{FactsRead}
use Rattle.facts.specs.FactsLaws.{facts_same}
use Rattle.store.specs.Store.{usable, file_length, height_of, store_size, in_tree, held_answer, Facts}
use Rattle.store.specs.StoreLaws.{usable_facts, facts_usable, facts_leaves, tree_number_lem, held_outside, held_not, held_given}
use Rattle.messages.specs.Take.{take_after}
use Rattle.extends.proofs.ExtendsLaws.{extends_alike}
use Rattle.marks.specs.Marks.{marked, cleared, marks_start, marks_put, first_block, blocks_in, block_there}
use Rattle.marks.specs.MarksLaws.{mark_in, marks_before, marks_length, marks_end, same_start}
use Rattle.pieces.specs.Pieces.{layer_after, block_number, block_answer, block_after, piece_number, piece_answer, piece_after}
use Rattle.pieces.proofs.PiecesLaws.{block_right, piece_right}
use Rattle.pieces.proofs.MarkedLaws.{block_fits, block_marks, block_stays, piece_fits, piece_marks, piece_stays}
use Rattle.pieces.specs.Hybrid.{hybrid_answer, hybrid_after}
use Rattle.pieces.proofs.HybridLaws.{hybrid_leaves}
use Rattle.words.specs.History.{Ask, held, take_reject, is_marked, next_request, pick_piece, the_facts, begins_with, Send, serve, bitfield, Look, ask, send, Call, take, load_layer, judge_block, judge_piece, judge_hybrid_piece, clear, reopen, look, with_count, with_hash, with_request, with_facts, asked, send_reply, looked, answer, after, sent_to, Opening, Teaches, call, begin, next, save, piece_hashes, load, repair}
use Rattle.words.specs.Marks.{SameButMarks, AsksHashes, SendsHashes, LooksAtHashes, AboutHashes}
use Rattle.knowledge.specs.AskingApart.{next_apart}
use Rattle.knowledge.specs.LeavesNumbers.{leaves_beyond}
use Rattle.knowledge.specs.Grows.{Grown, steps_grow}
use Rattle.knowledge.specs.Through.{clear_writes, clear_stays}
use Rattle.knowledge.specs.MarkedWhen.{there_0}
use Rattle.knowledge.specs.Alike.{Alike, alike_cells, same_front}
use Rattle.knowledge.specs.Beyond.{take_answer_beyond, reject_beyond, serve_beyond, layer_answer_beyond, block_beyond, piece_beyond, hybrid_beyond, take_leaves_alike, layer_leaves_alike}

-- judging changes no byte before the marks
block_before : (s : List ℕ) (i : ℕ) (d : List ℕ) (j : ℕ) → j < marks_start s → get_or (block_after s i d) j 0 ≡ get_or s j 0
block_before s i d j l =
    elim (ℕ_discrete (block_number s i d) 0) [
      | yes z ↦ rw (block_marks s i d z) (marks_before s (usable_facts s (block_right s i d z).store) i 1 marked (block_fits s i d z) j (omega arith))
      | no ne ↦ rw (block_stays s i d ne)
    ]

piece_before : (s : List ℕ) (i : ℕ) (d : List ℕ) (j : ℕ) → j < marks_start s → get_or (piece_after s i d) j 0 ≡ get_or s j 0
piece_before s i d j l =
    elim (ℕ_discrete (piece_number s i d) 0) [
      | yes z ↦ rw (piece_marks s i d z) (marks_before s (usable_facts s (piece_right s i d z).store) (first_block s i) (blocks_in s i) marked (piece_fits s i d z) j (omega arith))
      | no ne ↦ rw (piece_stays s i d ne)
    ]

hybrid_before : (s : List ℕ) (i : ℕ) (d v : List ℕ) (z j : ℕ) → j < marks_start s → get_or (hybrid_after s i d v z) j 0 ≡ get_or s j 0
hybrid_before s i d v z j l = hybrid_leaves s i d v z (λ t. get_or t j 0 ≡ get_or s j 0) refl (piece_before s i d j l)

module _ (s t : List ℕ) (S : SameButMarks s t) where
  f : Facts s
  f = usable_facts s S.store

  e : Alike s t
  unfolding marks_start
  e = alike_cells s t f S.room S.bytes

  starts : marks_start t ≡ marks_start s
  starts = same_start e.same

  cell_byte : (j : ℕ) → j < marks_start s → get_or t j 0 ≡ get_or s j 0
  unfolding marks_start
  cell_byte = e.bytes

  held_alike : (l i : ℕ) → held_answer t l i ≡ held_answer s l i
  held_alike l i = by_place (in_tree (height_of s) l i) refl
    where
      us : usable s ≡ true
      us = facts_usable s f

      ut : usable t ≡ true
      ut = facts_usable t e.facts

      there : in_tree (height_of t) l i ≡ in_tree (height_of s) l i
      there = ap (λ (h : ℕ). in_tree h l i) e.same.layers

      place : node_number (height_of t) l i ≡ node_number (height_of s) l i
      place = ap (λ (h : ℕ). node_number h l i) e.same.layers

      by_held : in_tree (height_of s) l i ≡ true → (b : Bool) → held_at s (node_number (height_of s) l i) ≡ b → held_answer t l i ≡ held_answer s l i
      by_held x false y =
          let w = e.held (node_number (height_of s) l i) (tree_number_lem (height_of s) l i x).1 in
          sym (held_not t l i ut (there ∙ x) (ap (held_at t) place ∙ w ∙ y)) ∙ held_not s l i us x y
      by_held x true y =
          let w = e.held (node_number (height_of s) l i) (tree_number_lem (height_of s) l i x).1 in
          let v = e.hash (node_number (height_of s) l i) (tree_number_lem (height_of s) l i x).1 in
          sym (held_given t l i ut (there ∙ x) (ap (held_at t) place ∙ w ∙ y))
          ∙ ap (λ (g : List ℕ). record { number = 0; hash = g }) (ap (hash_at t) place ∙ v)
          ∙ held_given s l i us x y

      by_place : (b : Bool) → in_tree (height_of s) l i ≡ b → held_answer t l i ≡ held_answer s l i
      by_place false x = sym (held_outside t l i ut (there ∙ x)) ∙ held_outside s l i us x
      by_place true x = by_held x (held_at s (node_number (height_of s) l i)) refl

  -- what a call that only looks at hashes answers,
  asked_same : (k : Ask) → AsksHashes k → asked k t ≡ asked k s
  asked_same (held l i) x = ap (λ (h : Hashed). with_hash h) (held_alike l i)
  asked_same (take_reject m b) x = ap (λ (a : Answer). with_count a) (reject_beyond s t f e m)
  asked_same (is_marked i) x = absurd x
  asked_same (next_request l) x = ap (λ (r : Request). with_request r) (next_apart s t S l)
  asked_same (pick_piece counts) x = absurd x
  asked_same (begins_with n root block o b) x = ap (λ (a : Answer). with_count a) (extends_alike s t (facts_usable t e.facts ∙ sym S.store) e.same.file held_alike n root block)
  asked_same the_facts x = ap (λ (r : FactsRead). with_facts r) (facts_same s t (facts_usable s f) (facts_usable t e.facts) e.same)

  -- and sends
  send_same : (k : Send) → SendsHashes k → (out : List ℕ) → (send_reply k t out ≡ send_reply k s out) × (sent_to k t out ≡ sent_to k s out)
  send_same (serve m b) x out = let w = serve_beyond s t f e m out in (ap (λ (a : Answer). with_count a) w.0, w.1)
  send_same bitfield x out = absurd x
  send_same save x out = absurd x
  send_same (piece_hashes i d b) x out = let w = leaves_beyond s t f e i d out in (ap (λ (a : Answer). with_count a) w.0, w.1)

  looked_same : (k : Look) → LooksAtHashes k → looked k t ≡ looked k s
  looked_same (ask k) x = asked_same k x
  looked_same (send k out b) x = (send_same k x out).0

  -- the same numbers, counts and hashes,
  pub answers_same : (c : Call) → AboutHashes c → answer c t ≡ answer c s
  unfolding block_answer piece_answer hybrid_answer
  answers_same (take m b) x = ap (λ (a : Answer). with_count a) (take_answer_beyond s t f e m)
  answers_same (load_layer l b) x = ap (λ (a : Answer). with_count a) (layer_answer_beyond s t f e l)
  answers_same (judge_block i d b) x = ap (λ (n : ℕ). with_count (record { number = n; count = 0 })) (block_beyond s t f e i d)
  answers_same (judge_piece i d b) x = ap (λ (n : ℕ). with_count (record { number = n; count = 0 })) (piece_beyond s t f e i d)
  answers_same (judge_hybrid_piece i d v z b o) x = ap (λ (n : ℕ). with_count (record { number = n; count = 0 })) (hybrid_beyond s t f e i d v z)
  answers_same (clear i) x = absurd x
  answers_same (reopen n plen root o) x = absurd x
  answers_same (load b o) x = absurd x
  answers_same (repair b o) x = absurd x
  answers_same (look k) x = looked_same k x

  -- the same bytes sent,
  pub sends_same : (k : Send) → SendsHashes k → (out : List ℕ) → sent_to k t out ≡ sent_to k s out
  sends_same k x out = (send_same k x out).1

  taken_before : (m : List ℕ) (j : ℕ) → j < marks_start s → get_or (take_after t m) j 0 ≡ get_or (take_after s m) j 0
  unfolding marks_start
  taken_before m = (take_leaves_alike s t f e m).same

  loaded_before : (l : List ℕ) (j : ℕ) → j < marks_start s → get_or (layer_after t l) j 0 ≡ get_or (layer_after s l) j 0
  unfolding marks_start
  loaded_before l = (layer_leaves_alike s t f e l).same

  -- and the same facts and cells left
  pub cells_left : (c : Call) → AboutHashes c → (j : ℕ) → j < marks_start s → get_or (after c t) j 0 ≡ get_or (after c s) j 0
  cells_left (take m b) x j l = taken_before m j l
  cells_left (load_layer d b) x j l = loaded_before d j l
  cells_left (judge_block i d b) x j l = block_before t i d j (omega (arith, starts)) ∙ cell_byte j l ∙ sym (block_before s i d j l)
  cells_left (judge_piece i d b) x j l = piece_before t i d j (omega (arith, starts)) ∙ cell_byte j l ∙ sym (piece_before s i d j l)
  cells_left (judge_hybrid_piece i d v z b o) x j l = hybrid_before t i d v z j (omega (arith, starts)) ∙ cell_byte j l ∙ sym (hybrid_before s i d v z j l)
  cells_left (clear i) x j l = absurd x
  cells_left (reopen n plen root o) x j l = absurd x
  cells_left (load b o) x j l = absurd x
  cells_left (repair b o) x j l = absurd x
  cells_left (look k) x j l = cell_byte j l

  other : (c : Call) → AboutHashes c → Opening c → ⊥
  other (take m b) x o = o
  other (load_layer d b) x o = o
  other (judge_block i d b) x o = o
  other (judge_piece i d b) x o = o
  other (judge_hybrid_piece i d v z b r) x o = o
  other (clear i) x o = o
  other (reopen n plen root r) x o = x
  other (load b r) x o = x
  other (repair b r) x o = x
  other (look k) x o = o

  grown_call : (c : Call) → AboutHashes c → {u : List ℕ} → Facts u → Grown u (after c u)
  grown_call c x f = steps_grow f (next begin (call c (λ o z. other c x o)))

  -- so they differ in marks only again
  pub still_same : (c : Call) → AboutHashes c → SameButMarks (after c s) (after c t)
  still_same c x =
      let g = grown_call c x f in
      let k = grown_call c x e.facts in
      let n : file_length (after c t) ≡ file_length (after c s) = k.same.file ∙ e.same.file ∙ sym g.same.file in
      let q : store_size (file_length (after c t)) ≡ store_size (file_length (after c s)) = ap store_size n in
      let m = same_start g.same in
      let a = mark_in (after c s) g.facts in
      let d = marks_end (after c s) in
      let room : store_size (file_length (after c s)) ≤ length (after c t) = let r = k.facts.size in omega arith in
      record {
        store = facts_usable (after c s) g.facts;
        room = room;
        bytes =
            same_front (after c s) (after c t) (marks_start (after c s)) (omega arith) (omega arith)
            (λ j l. cells_left c x j (omega arith));
      }

-- a store and what it is with marks written differ in marks only
remarked : (s : List ℕ) → Facts s → (i n x : ℕ) → i + n ≤ 2 ^ height_of s → SameButMarks s (marks_put s i n x)
remarked s f i n x fits =
    let a = mark_in s f in
    let e = marks_length s f i n x fits in
    let z = f.size in
    record {
      store = facts_usable s f;
      room = omega arith;
      bytes = same_front s (marks_put s i n x) (marks_start s) (omega arith) (omega arith) (λ j l. marks_before s f i n x fits j (omega arith));
    }

-- a piece that is judged leaves each answer of kd_held
piece_holds : (s : List ℕ) (j : ℕ) (d : List ℕ) (l i : ℕ) → held_answer (piece_after s j d) l i ≡ held_answer s l i
piece_holds s j d l i =
    elim (ℕ_discrete (piece_number s j d) 0) [
      | yes z ↦
          rw (piece_marks s j d z)
          (held_alike s (marks_put s (first_block s j) (blocks_in s j) marked) (remarked s (usable_facts s (piece_right s j d z).store) (first_block s j) (blocks_in s j) marked (piece_fits s j d z)) l i)
      | no ne ↦ rw (piece_stays s j d ne)
    ]

-- NOTHING ELSE TEACHES: but for a message, a layer and an opening every call leaves each answer of kd_held
pub held_stays : (s : List ℕ) (c : Call) → (Teaches c → ⊥) → (l i : ℕ) → held_answer (after c s) l i ≡ held_answer s l i
held_stays s (take m b) n l i = absurd (n tt)
held_stays s (load_layer d b) n l i = absurd (n tt)
held_stays s (judge_block j d b) n l i =
    elim (ℕ_discrete (block_number s j d) 0) [
      | yes z ↦ rw (block_marks s j d z) (held_alike s (marks_put s j 1 marked) (remarked s (usable_facts s (block_right s j d z).store) j 1 marked (block_fits s j d z)) l i)
      | no ne ↦ rw (block_stays s j d ne)
    ]
held_stays s (judge_piece j d b) n l i = piece_holds s j d l i
held_stays s (judge_hybrid_piece j d v z b o) n l i = hybrid_leaves s j d v z (λ t. held_answer t l i ≡ held_answer s l i) refl (piece_holds s j d l i)
held_stays s (clear j) n l i =
    elim (ℕ_discrete (block_there s j) 0) [
      | yes z ↦
          let w = (there_0 s j).0 z in
          let f = usable_facts s w.0 in
          rw (clear_writes s j z) (held_alike s (marks_put s j 1 cleared) (remarked s f j 1 cleared (omega (arith, w.1, facts_leaves s f))) l i)
      | no ne ↦ rw (clear_stays s j ne)
    ]
held_stays s (reopen k plen root o) n l i = absurd (n tt)
held_stays s (load b o) n l i = absurd (n tt)
held_stays s (repair b o) n l i = absurd (n tt)
held_stays s (look k) n l i = refl

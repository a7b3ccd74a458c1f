-- A journal offered again as a whole, in its order, after an opening with the same facts: each message and layer is answered 0 again, and the store left
-- differs from the one that wrote the journal in marks only.
-- Assumes nothing.
use Prim.{Unit}
use Rattle.std.specs.Prelude.{◌≡◌, refl, true, List, [], ◌∷◌, ◌++◌, ℕ, ◌+◌, ◌-◌, ◌^◌, ◌≤◌, ◌<◌, length}
use Rattle.std.proofs.Math.Path.{ap}
use Rattle.std.proofs.Common.{sym, ◌∙◌, append-nil, length-append, ext_get_or, eq-eqb, ne_eqb, arith}
use Rattle.std.proofs.Math.Decide.{ℕ_discrete, dec_lt}
use Rattle.std.proofs.Math.ListN.{get_or}
use Rattle.octets.specs.Octets.{Octets, cut, pasted, be, zeroed}
use Rattle.octets.specs.OctetsLaws.{cut_length, get_or_cut, cut_cut, be_octets, pasted_length, get_or_pasted_before, get_or_pasted_in, zeroed_length}
use Rattle.cells.specs.Cells.{put}
use Rattle.store.specs.Store.{file_length, height_of, store_size, facts_in_range, opened, open_answer, open_after, Facts}
use Rattle.store.specs.StoreLaws.{facts_usable, usable_facts, used_same, used_facts, store_size_some, opened_facts, opened_file, opened_length, opened_spare, opened_zero}
use Rattle.marks.specs.Marks.{marks_start, marks_put}
use Rattle.marks.specs.MarksLaws.{marks_end, marks_cells, marks_same_facts, marks_facts, same_start}
use Rattle.words.specs.History.{Call, take, load_layer, judge_block, judge_piece, judge_hybrid_piece, clear, reopen, load, repair, look, Reply, reply_number, answer, number, after, Opening, Teaches, call, lent, Steps, begin, next, SameStore}
use Rattle.words.specs.Marks.{SameButMarks}
use Rattle.words.specs.Hearing.{noted, journal, after_all, AllDone}
use Rattle.knowledge.specs.Through.{PreservedBy, by_call}
use Rattle.knowledge.specs.InTable.{refused_leaves}
use Rattle.knowledge.specs.Independence.{answers_same, still_same}
use Rattle.knowledge.specs.RootAlone.{range_exactly, opening_0, opening_leaves}

-- ---- two stores that differ in marks only

-- still do when marks are written to the first
remarked : (s r : List ℕ) → SameButMarks s r → (i n x : ℕ) → Facts s → i + n ≤ 2 ^ height_of s → SameButMarks (marks_put s i n x) r
remarked s r S i n x f fits =
    let e = marks_same_facts s f i n x fits in
    record {
      store = facts_usable (marks_put s i n x) (marks_facts s f i n x fits);
      room = rw e.file S.room;
      bytes = rw (same_start e) (S.bytes ∙ sym (marks_cells s f i n x fits));
    }

-- and when it is lent in another memory
moved : (s r u : List ℕ) → SameButMarks s r → SameStore s u → SameButMarks u r
moved s r u S e =
    let f = usable_facts s S.store in
    let g = used_same s u f e.bytes in
    let k : 0 + marks_start s ≤ store_size (file_length s) = omega (arith, marks_end s) in
    let front : cut u 0 (marks_start s) ≡ cut s 0 (marks_start s) =
    sym (cut_cut u 0 (store_size (file_length s)) 0 (marks_start s) k) ∙ ap (λ (l : List ℕ). cut l 0 (marks_start s)) e.bytes ∙ cut_cut s 0 (store_size (file_length s)) 0 (marks_start s) k in
    record {
      store = facts_usable u (used_facts s u f e.bytes);
      room = rw g.file S.room;
      bytes = rw (same_start g) (S.bytes ∙ sym front);
    }

-- and after a call that teaches nothing
untaught : (s r : List ℕ) → SameButMarks s r → (c : Call) → (Opening c → number c s ≡ 0 → ⊥) → (Teaches c → ⊥) → SameButMarks (after c s) r
untaught s r S c x n = by c x n
  where
    Silent : Call → Type 0
    Silent (take m b) = ⊥
    Silent (load_layer d b) = ⊥
    Silent (judge_block i d b) = Unit {0}
    Silent (judge_piece i d b) = Unit {0}
    Silent (judge_hybrid_piece i d v z b o) = Unit {0}
    Silent (clear i) = Unit {0}
    Silent (reopen k plen root o) = Unit {0}
    Silent (load b o) = Unit {0}
    Silent (repair b o) = Unit {0}
    Silent (look k) = Unit {0}

    keeps : PreservedBy Silent (λ (a : List ℕ). SameButMarks a r)
    keeps =
        record {
          taken = λ a m b y p. absurd y;
          loaded = λ a d b y p. absurd y;
          remarked = λ a i k v f l o p. remarked a r p i k v f l;
          moved = λ a u b e p. moved a r u p e;
        }

    by : (c : Call) → (Opening c → number c s ≡ 0 → ⊥) → (Teaches c → ⊥) → SameButMarks (after c s) r
    by (take m b) x n = absurd (n tt)
    by (load_layer d b) x n = absurd (n tt)
    by (judge_block i d b) x n = by_call Silent (λ (a : List ℕ). SameButMarks a r) keeps (judge_block i d b) s x tt S
    by (judge_piece i d b) x n = by_call Silent (λ (a : List ℕ). SameButMarks a r) keeps (judge_piece i d b) s x tt S
    by (judge_hybrid_piece i d v z b o) x n = by_call Silent (λ (a : List ℕ). SameButMarks a r) keeps (judge_hybrid_piece i d v z b o) s x tt S
    by (clear i) x n = by_call Silent (λ (a : List ℕ). SameButMarks a r) keeps (clear i) s x tt S
    by (reopen k plen root o) x n = absurd (n tt)
    by (load b o) x n = absurd (n tt)
    by (repair b o) x n = absurd (n tt)
    by (look k) x n = S

-- ---- the journal

after_then : (L : List Call) (c : Call) (s : List ℕ) → after_all (L ++ (c ∷ [])) s ≡ after c (after_all L s)
unfolding after_all
after_then [] c s = refl
after_then (d ∷ L) c s = after_then L c (after d s)

done_then : (L : List Call) (c : Call) (s : List ℕ) → AllDone L s → number c (after_all L s) ≡ 0 → AllDone (L ++ (c ∷ [])) s
unfolding after_all AllDone
done_then [] c s a z = (z, tt)
done_then (d ∷ L) c s a z = (a.0, done_then L c (after d s) a.1 z)

-- each is answered 0 again, and what is left differs in marks only
abbrev Again : List Call → List ℕ → List ℕ → Type 0
Again L r t = AllDone L r × SameButMarks t (after_all L r)

nothing_noted : (L : List Call) (r t : List ℕ) → Again L r t → Again (L ++ []) r t
nothing_noted L r t a = rw (append-nil L) a

-- a message or a layer: `about` is that its answer depends on no marks
module _ (L : List Call) (r t : List ℕ) (a : Again L r t) (c : Call) (same : answer c (after_all L r) ≡ answer c t) (left : SameButMarks (after c t) (after c (after_all L r))) where
  noted_again : number c t ≡ 0 → Again (L ++ (c ∷ [])) r (after c t)
  noted_again z =
      let q : number c (after_all L r) ≡ 0 = ap (λ (x : Reply). reply_number x) same ∙ z in
      (done_then L c r a.0 q, rw (after_then L c r) left)

  refused_again : (number c t ≡ 0 → ⊥) → Again (L ++ []) r (after c t)
  refused_again ne = rw (refused_leaves c t ne) (nothing_noted L r t a)

one_more : (L : List Call) (r t : List ℕ) → Again L r t → (c : Call) → (Opening c → number c t ≡ 0 → ⊥) → Again (L ++ noted c (number c t)) r (after c t)
one_more L r t a (take m b) x =
    elim (ℕ_discrete (number (take m b) t) 0) [
      | yes z ↦ rw (eq-eqb (number (take m b) t) 0 z) (noted_again L r t a (take m b) (answers_same t (after_all L r) a.1 (take m b) tt) (still_same t (after_all L r) a.1 (take m b) tt) z)
      | no ne ↦ rw (ne_eqb (number (take m b) t) 0 ne) (refused_again L r t a (take m b) (answers_same t (after_all L r) a.1 (take m b) tt) (still_same t (after_all L r) a.1 (take m b) tt) ne)
    ]
one_more L r t a (load_layer d b) x =
    elim (ℕ_discrete (number (load_layer d b) t) 0) [
      | yes z ↦ rw (eq-eqb (number (load_layer d b) t) 0 z) (noted_again L r t a (load_layer d b) (answers_same t (after_all L r) a.1 (load_layer d b) tt) (still_same t (after_all L r) a.1 (load_layer d b) tt) z)
      | no ne ↦ rw (ne_eqb (number (load_layer d b) t) 0 ne) (refused_again L r t a (load_layer d b) (answers_same t (after_all L r) a.1 (load_layer d b) tt) (still_same t (after_all L r) a.1 (load_layer d b) tt) ne)
    ]
one_more L r t a (judge_block i d b) x = nothing_noted L r (after (judge_block i d b) t) (a.0, untaught t (after_all L r) a.1 (judge_block i d b) x (λ y. y))
one_more L r t a (judge_piece i d b) x = nothing_noted L r (after (judge_piece i d b) t) (a.0, untaught t (after_all L r) a.1 (judge_piece i d b) x (λ y. y))
one_more L r t a (judge_hybrid_piece i d v z b o) x =
    nothing_noted L r (after (judge_hybrid_piece i d v z b o) t) (a.0, untaught t (after_all L r) a.1 (judge_hybrid_piece i d v z b o) x (λ y. y))
one_more L r t a (clear i) x = nothing_noted L r (after (clear i) t) (a.0, untaught t (after_all L r) a.1 (clear i) x (λ y. y))
one_more L r t a (reopen n plen root o) x = rw (refused_leaves (reopen n plen root o) t (x tt)) (nothing_noted L r t a)
one_more L r t a (load b o) x = rw (refused_leaves (load b o) t (x tt)) (nothing_noted L r t a)
one_more L r t a (repair b o) x = rw (refused_leaves (repair b o) t (x tt)) (nothing_noted L r t a)
one_more L r t a (look k) x = nothing_noted L r t a

-- OFFERED AGAIN from a store that differs in marks only
pub replayed : {s t : List ℕ} (r : List ℕ) → SameButMarks s r → (h : Steps s t) → AllDone (journal h) r × SameButMarks t (after_all (journal h) r)
unfolding journal
replayed r S begin = unfold AllDone after_all in (tt, S)
replayed r S (next {t} h (call c x)) = one_more (journal h) r t (replayed r S h) c x
replayed r S (next {t} h (lent v b e)) = let w = replayed r S h in (w.0, moved t (after_all (journal h) r) v w.1 e)

-- ---- two openings

module _ (s : List ℕ) (n plen : ℕ) (root : List ℕ) (size : length root ≡ 32) (room : store_size n ≤ length s) where
  facts_long : length (be 8 n ++ (be 4 plen ++ root)) ≡ 44
  facts_long = simp length-append (omega (arith, (be_octets 8 n).size, (be_octets 4 plen).size, size))

  facts_fit : 0 + length (be 8 n ++ (be 4 plen ++ root)) ≤ length (zeroed s (store_size n))
  facts_fit = omega (arith, facts_long, zeroed_length s (store_size n) room, store_size_some n)

  bare_long : length (pasted (zeroed s (store_size n)) 0 (be 8 n ++ (be 4 plen ++ root))) ≡ length s
  bare_long = pasted_length (zeroed s (store_size n)) 0 (be 8 n ++ (be 4 plen ++ root)) facts_fit ∙ zeroed_length s (store_size n) room

  cell_fits : 64 + length (1 ∷ root) ≤ length (pasted (zeroed s (store_size n)) 0 (be 8 n ++ (be 4 plen ++ root)))
  cell_fits = omega (arith, bare_long, size, room, store_size_some n)

  -- the facts' bytes, and the root's cell
  facts_byte : (i : ℕ) → i < 44 → get_or (opened s n plen root) i 0 ≡ get_or (be 8 n ++ (be 4 plen ++ root)) i 0
  unfolding opened put
  facts_byte i l =
      get_or_pasted_before (pasted (zeroed s (store_size n)) 0 (be 8 n ++ (be 4 plen ++ root))) 64 (1 ∷ root) cell_fits i (omega arith)
      ∙ (let z : 0 + i ≡ i = omega arith in
      ap (λ (j : ℕ). get_or (pasted (zeroed s (store_size n)) 0 (be 8 n ++ (be 4 plen ++ root))) j 0) (sym z)
      ∙ get_or_pasted_in (zeroed s (store_size n)) 0 (be 8 n ++ (be 4 plen ++ root)) facts_fit i (omega (arith, facts_long)))

  cell_byte : (j : ℕ) → j < 33 → get_or (opened s n plen root) (64 + j) 0 ≡ get_or (1 ∷ root) j 0
  unfolding opened put
  cell_byte j l = get_or_pasted_in (pasted (zeroed s (store_size n)) 0 (be 8 n ++ (be 4 plen ++ root))) 64 (1 ∷ root) cell_fits j (omega (arith, size))

module _ (s t : List ℕ) (n plen : ℕ) (root : List ℕ) (ok : facts_in_range n plen ≡ true) (size : length root ≡ 32) (room : store_size n ≤ length s) (other : store_size n ≤ length t) where
  same_byte : (i : ℕ) → i < store_size n → get_or (opened t n plen root) i 0 ≡ get_or (opened s n plen root) i 0
  same_byte i l =
      elim (dec_lt i 44) [
        | yes a ↦ facts_byte t n plen root size other i a ∙ sym (facts_byte s n plen root size room i a)
        | no a ↦ elim (dec_lt i 64) [
          | yes b ↦ opened_spare t n plen root ok other size i (omega arith) b ∙ sym (opened_spare s n plen root ok room size i (omega arith) b)
          | no b ↦ elim (dec_lt i 97) [
            | yes c ↦
                let e : i ≡ 64 + (i - 64) = omega arith in
                let x = cell_byte t n plen root size other (i - 64) (omega arith) in
                let y = cell_byte s n plen root size room (i - 64) (omega arith) in
                ap (λ (j : ℕ). get_or (opened t n plen root) j 0) e ∙ x ∙ sym y ∙ sym (ap (λ (j : ℕ). get_or (opened s n plen root) j 0) e)
            | no c ↦ opened_zero t n plen root ok other size i (omega arith) l ∙ sym (opened_zero s n plen root ok room size i (omega arith) l)
          ]
        ]
      ]

  same_opened : SameButMarks (opened s n plen root) (opened t n plen root)
  same_opened =
      let f = opened_facts s n plen root ok room size in
      let k = opened_file s n plen root ok room size in
      let ms = opened_length s n plen root ok room size in
      let mt = opened_length t n plen root ok other size in
      let e : marks_start (opened s n plen root) + 2 ^ height_of (opened s n plen root) ≡ store_size n = marks_end (opened s n plen root) ∙ ap store_size k in
      let a : 0 + marks_start (opened s n plen root) ≤ length (opened s n plen root) = omega arith in
      let b : 0 + marks_start (opened s n plen root) ≤ length (opened t n plen root) = omega arith in
      record {
        store = facts_usable (opened s n plen root) f;
        room = rw (k, mt) other;
        bytes =
            ext_get_or 0 (cut (opened t n plen root) 0 (marks_start (opened s n plen root))) (cut (opened s n plen root) 0 (marks_start (opened s n plen root)))
            (cut_length (opened t n plen root) 0 (marks_start (opened s n plen root)) b ∙ sym (cut_length (opened s n plen root) 0 (marks_start (opened s n plen root)) a))
            (λ i l.
            let m : i < marks_start (opened s n plen root) = rw (cut_length (opened t n plen root) 0 (marks_start (opened s n plen root)) b) at l in
            let z : 0 + i ≡ i = omega arith in
            get_or_cut (opened t n plen root) 0 (marks_start (opened s n plen root)) i m ∙ (rw z (same_byte i (omega arith))) ∙ sym (get_or_cut (opened s n plen root) 0 (marks_start (opened s n plen root)) i m));
      }

-- THE WHOLE JOURNAL, offered again after an opening with the same facts
pub journal_again : (a b : List ℕ) (n plen : ℕ) (root : List ℕ) → Octets 32 root → (open_answer a n plen).number ≡ 0 → (open_answer b n plen).number ≡ 0
    → {t : List ℕ} (h : Steps (open_after a n plen root) t)
    → AllDone (journal h) (open_after b n plen root) × SameButMarks t (after_all (journal h) (open_after b n plen root))
journal_again a b n plen root o y z h =
    let p = (opening_0 a n plen).0 y in
    let q = (opening_0 b n plen).0 z in
    let S = same_opened a b n plen root ((range_exactly n plen).1 p.0) o.size p.1 q.1 in
    replayed (open_after b n plen root) (rw (opening_leaves a n plen root y, opening_leaves b n plen root z) S) h

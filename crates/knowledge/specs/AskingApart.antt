-- Bytes behind the store decide nothing of the next request and of the piece to fetch; marks nothing of the request; hashes nothing of the piece.
-- Assumes nothing.
use Rattle.std.specs.Prelude.{◌≡◌, Bool, ◌&&◌, List, length, get_or, eqb, ℕ, zero, suc, ◌+◌, ◌-◌, ◌^◌, ◌≤◌, ◌<◌}
use Rattle.std.proofs.Math.Path.{refl, ap}
use Rattle.std.proofs.Common.{ap₂, sym, ◌∙◌, inl, inr, arith, ne_eqb, lt-ltb, le-ltb, ltb-true}
use Rattle.std.proofs.Math.Bool.{true, false}
use Rattle.std.proofs.Math.Dec.{ltb}
use Rattle.std.proofs.Math.Pow.{pow_mono}
use Rattle.octets.specs.Octets.{cut}
use Rattle.octets.specs.OctetsLaws.{get_or_cut}
use Rattle.tree.specs.Geometry.{node_number, piece_count}
use Rattle.tree.proofs.GeometryLaws.{node_number_range}
use Rattle.cells.specs.Cells.{held_at}
use Rattle.cells.specs.CellsLaws.{lt_or_ge}
use Rattle.store.specs.Store.{file_length, piece_length, height_of, positions, store_size, Facts, SameFacts}
use Rattle.store.specs.StoreLaws.{usable_facts, facts_usable, facts_same, same_facts, positions_some, used_same, used_facts}
use Rattle.settling.specs.Path.{ancestor}
use Rattle.settling.specs.AncestorLaws.{ancestor_le}
use Rattle.marks.specs.Marks.{marks_start, marked_at, each_piece, first_block, blocks_in, all_marked, piece_marked}
use Rattle.marks.specs.MarksLaws.{same_mark, covered_fits}
use Rattle.asking.specs.Asking.{layer_asked, next_number, wanted, held_front, lowest, uncles_needed, run_top, run_header, next_header, no_request, request_for, next_answer, run_layers, next_run}
use Rattle.asking.proofs.AskingLaws.{front_held, front_stops, front_most, front_is, front_all, needed_free, needed_stops, needed_most, needed_is, needed_all, Asked, asked_low, wanted_within, asked_below, asked_run, top_in, says_number}
use Rattle.asking.specs.declared.pick.Choice.{Choice}
use Rattle.asking.specs.Picking.{fetchable, chosen, best_of, pick_answer}
use Rattle.words.specs.History.{SameStore}
use Rattle.words.specs.Marks.{SameButMarks}
use Rattle.words.specs.Asking.{SameButHashes}
use Rattle.knowledge.specs.Alike.{Alike, alike, alike_cells}
use Rattle.knowledge.specs.MarksBeyond.{mark_used}
use Rattle.knowledge.specs.NextRequest.{Three, refuses, nothing_asked, one_asked, three, asks_is, asks_none, asks_refused}

-- ---- the next request: by the cells alone

front_same : (s t : List ℕ) (n c : ℕ) → ((j : ℕ) → j < c → held_at t (n + j) ≡ held_at s (n + j)) → held_front s n c ≡ held_front t n c
front_same s t n c k =
    let m = front_most s n c in
    elim (lt_or_ge (held_front s n c) c) [
      | inl a ↦ front_is t n c (held_front s n c) (λ j b. k j (omega arith) ∙ front_held s n c j b) a (k (held_front s n c) a ∙ front_stops s n c a)
      | inr a ↦ (let z : held_front s n c ≡ c = omega arith in z ∙ front_all t n c (λ j b. k j b ∙ front_held s n c j (omega arith)))
    ]

needed_same : (s t : List ℕ) (r n : ℕ) → ((q : ℕ) → q ≤ n → held_at t q ≡ held_at s q) → uncles_needed s r n ≡ uncles_needed t r n
needed_same s t r n k =
    let m = needed_most s r n in
    elim (lt_or_ge (uncles_needed s r n) r) [
      | inl a ↦
          needed_is t r n (uncles_needed s r n) (λ j b. k (ancestor j n) (ancestor_le j n) ∙ needed_free s r n j b) a
          (k (ancestor (uncles_needed s r n) n) (ancestor_le (uncles_needed s r n) n) ∙ needed_stops s r n a)
      | inr a ↦
          (let z : uncles_needed s r n ≡ r = omega arith in z ∙ needed_all t r n (λ j b. k (ancestor j n) (ancestor_le j n) ∙ needed_free s r n j (omega arith)))
    ]

module _ (s t : List ℕ) (f : Facts s) (e : Alike s t) (l : ℕ) where
  number_same : next_number t l ≡ next_number s l
  unfolding next_number layer_asked
  number_same = rw (facts_usable t e.facts, facts_usable s f, e.same.piece, e.same.file, e.held 1 (omega (arith, positions_some (height_of s))))

  wanted_same : wanted t l ≡ wanted s l
  unfolding wanted
  wanted_same = rw e.same.blocks

  module _ (A : Asked s l) where
    low : l ≤ height_of s
    low = asked_low s l A.facts A.layer

    lowest_same : lowest t l ≡ lowest s l
    unfolding lowest node_number positions
    lowest_same =
        let w = wanted_within s l low in
        let p : 2 ^ (height_of s - l) ≤ 2 ^ height_of s = pow_mono {i = height_of s - l} {j = height_of s} (omega arith) in
        rw (e.same.layers, wanted_same)
        (sym (front_same s t (2 ^ (height_of s - l) + 0) (wanted s l) (λ j b. e.held (2 ^ (height_of s - l) + 0 + j) (omega arith))))

    header_same : lowest s l < wanted s l → next_header t l ≡ next_header s l
    unfolding next_header run_header run_top positions
    header_same a =
        let b = asked_below s l A a in
        let i = asked_run s l A a in
        let top = top_in (height_of s) l (next_run s l) b i in
        let n = node_number_range (height_of s) (l + run_layers s l) (next_run s l) top in
        let q = needed_same s t (height_of s - (l + run_layers s l)) (node_number (height_of s) (l + run_layers s l) (next_run s l))
        (λ k c. e.held k (omega arith)) in
        rw (lowest_same, e.same.layers, q)

  -- two memories with one store's facts and cells name the same request
  next_alike : next_answer t l ≡ next_answer s l
  next_alike = by (three s l)
    where
      zero_there : Asked s l → eqb (next_number t l) 0 ≡ true
      zero_there A = rw (number_same, says_number s l (facts_usable s f) A.layer A.root)

      by : Three s l → next_answer t l ≡ next_answer s l
      by (refuses ne q) = asks_refused t l (rw number_same (ne_eqb (next_number s l) 0 ne)) ∙ ap no_request number_same ∙ sym q
      by (nothing_asked A a q) = asks_none t l (zero_there A) (rw (lowest_same A, wanted_same) (le-ltb (lowest s l) (wanted s l) a)) ∙ sym q
      by (one_asked A a q) =
          asks_is t l (zero_there A) (rw (lowest_same A, wanted_same) (lt-ltb (lowest s l) (wanted s l) a))
          ∙ ap₂ request_for e.same.root (header_same A a) ∙ sym q

-- MARKS DECIDE NOTHING of the next request,
pub next_apart : (s t : List ℕ) → SameButMarks s t → (l : ℕ) → next_answer t l ≡ next_answer s l
next_apart s t S l = next_alike s t (usable_facts s S.store) (by s t (usable_facts s S.store) S.room S.bytes) l
  where
    by : (s t : List ℕ) → Facts s → store_size (file_length s) ≤ length t → cut t 0 (marks_start s) ≡ cut s 0 (marks_start s) → Alike s t
    by s t f room e = unfold marks_start in alike_cells s t f room e

-- nor do bytes behind the store
pub next_behind : (s t : List ℕ) → SameStore s t → (l : ℕ) → next_answer t l ≡ next_answer s l
next_behind s t S l = let f = usable_facts s S.store in next_alike s t f (alike s t f S.bytes) l

-- ---- the piece to fetch: by the facts and the marks alone

module _ (s t : List ℕ) (f : Facts s) (g : Facts t) (e : SameFacts s t) (m : (i : ℕ) → i < 2 ^ height_of s → marked_at t i ≡ marked_at s i) where
  all_same : (i n : ℕ) → i + n ≤ 2 ^ height_of s → all_marked t i n ≡ all_marked s i n
  unfolding all_marked
  all_same i zero l = refl
  all_same i (suc n) l = rw (all_same i n (omega arith), m (i + n) (omega arith))

  count_same : piece_count (file_length t) (piece_length t) ≡ piece_count (file_length s) (piece_length s)
  count_same = ap₂ piece_count e.file e.piece

  first_same : (i : ℕ) → first_block t i ≡ first_block s i
  unfolding first_block each_piece
  first_same i = rw e.piece

  blocks_same : (i : ℕ) → blocks_in t i ≡ blocks_in s i
  unfolding blocks_in each_piece
  blocks_same i = rw (e.piece, e.blocks)

  piece_same : (i : ℕ) → piece_marked t i ≡ piece_marked s i
  unfolding piece_marked
  piece_same i = rw (count_same, first_same i, blocks_same i) (by (ltb i (piece_count (file_length s) (piece_length s))) refl)
    where
      by : (b : Bool) → ltb i (piece_count (file_length s) (piece_length s)) ≡ b
          → (ltb i (piece_count (file_length s) (piece_length s)) && all_marked t (first_block s i) (blocks_in s i))
          ≡ (ltb i (piece_count (file_length s) (piece_length s)) && all_marked s (first_block s i) (blocks_in s i))
      by false x = rw x
      by true x = rw (all_same (first_block s i) (blocks_in s i) (covered_fits s f i (ltb-true i (piece_count (file_length s) (piece_length s)) x)))

  chosen_same : (counts : List ℕ) (i : ℕ) (best : Choice) → chosen t counts i best ≡ chosen s counts i best
  unfolding chosen fetchable
  chosen_same counts i best = rw (piece_same i)

  best_same : (counts : List ℕ) (n : ℕ) → best_of t counts n ≡ best_of s counts n
  unfolding best_of
  best_same counts zero = refl
  best_same counts (suc n) = ap (chosen t counts n) (best_same counts n) ∙ chosen_same counts n (best_of s counts n)

  -- two stores with the same facts and marks have the same piece to fetch
  pick_alike : (counts : List ℕ) → pick_answer t counts ≡ pick_answer s counts
  unfolding pick_answer
  pick_alike counts = rw (facts_usable t g, facts_usable s f, count_same, best_same counts (length counts))

-- HASHES DECIDE NOTHING of the piece to fetch,
pub pick_apart : (s t : List ℕ) → SameButHashes s t → (counts : List ℕ) → pick_answer t counts ≡ pick_answer s counts
pick_apart s t S =
    let f = usable_facts s S.store in
    let e = same_facts s t S.facts in
    pick_alike s t f (facts_same s t S.facts f S.room) e
    (λ i l.
    let g : (u : List ℕ) → get_or (cut u (marks_start s) (2 ^ height_of s)) i 0 ≡ get_or u (marks_start s + i) 0 = λ u. get_or_cut u (marks_start s) (2 ^ height_of s) i l in
    same_mark s t e i (sym (g t) ∙ ap (λ (u : List ℕ). get_or u i 0) S.marks ∙ g s))

-- nor do bytes behind the store
pub pick_behind : (s t : List ℕ) → SameStore s t → (counts : List ℕ) → pick_answer t counts ≡ pick_answer s counts
pick_behind s t S =
    let f = usable_facts s S.store in
    pick_alike s t f (used_facts s t f S.bytes) (used_same s t f S.bytes) (λ i l. mark_used s t f S.bytes i l)

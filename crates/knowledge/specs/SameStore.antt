-- A store is its own bytes: in two memories that agree up to its size every call but an opening answers the same and leaves the same
-- store, and the bytes behind the size stay.
-- Assumes nothing.
use Rattle.std.specs.Prelude.{◌≡◌, refl, true, List, ℕ, ◌+◌, ◌*◌, ◌^◌, ◌≤◌, ◌<◌, length, get_or}
use Rattle.std.proofs.Math.Path.{ap}
use Rattle.std.proofs.Common.{sym, ◌∙◌, arith}
use Rattle.std.proofs.Math.Decide.{ℕ_discrete, dec_lt}
use Rattle.numbers.specs.declared.Answer.{Answer}
use Rattle.sha256.specs.declared.Hashed.{Hashed}
use Rattle.asking.specs.declared.next.Request.{Request}
use Rattle.asking.specs.declared.pick.Choice.{Choice}
use Rattle.facts.specs.Facts.{FactsRead}
use Rattle.facts.specs.FactsLaws.{facts_same}
use Rattle.store.specs.Store.{usable, file_length, height_of, positions, store_size, Facts}
use Rattle.store.specs.StoreLaws.{own_cells, usable_facts, facts_usable, used_same, used_facts, used_answer, byte_same}
use Rattle.messages.specs.Take.{take_after}
use Rattle.extends.proofs.ExtendsLaws.{extends_alike}
use Rattle.pieces.specs.Pieces.{layer_after, block_number, block_answer, block_after, piece_number, piece_answer, piece_after}
use Rattle.pieces.proofs.MarkedLaws.{block_fits, block_marks, block_stays, piece_fits, piece_marks, piece_stays}
use Rattle.pieces.specs.Hybrid.{hybrid_number, hybrid_answer, hybrid_after}
use Rattle.pieces.proofs.HybridLaws.{hybrid_marks, hybrid_stays, hybrid_leaves}
use Rattle.marks.specs.Marks.{marked, cleared, marks_put, block_there, clear_answer, clear_after, first_block, blocks_in}
use Rattle.marks.specs.MarksLaws.{marks_behind, marks_end, marks_facts, marks_same_facts, there_fits}
use Rattle.knowledge.specs.MarksBeyond.{there_beyond, marked_beyond, field_beyond, covered_beyond, marks_beyond}
use Rattle.knowledge.specs.SavedBeyond.{save_beyond}
use Rattle.knowledge.specs.Through.{clear_writes, clear_stays}
use Rattle.words.specs.History.{Ask, held, take_reject, is_marked, next_request, pick_piece, the_facts, begins_with, Send, serve, bitfield, ask, send, Call, take, load_layer, judge_block, judge_piece, judge_hybrid_piece, clear, reopen, look, with_count, with_hash, with_request, with_piece, with_facts, asked, send_reply, answer, after, sent_to, Opening, SameStore, save, piece_hashes, load, repair}
use Rattle.knowledge.specs.AskingApart.{next_behind, pick_behind}
use Rattle.knowledge.specs.LeavesNumbers.{leaves_beyond}
use Rattle.knowledge.specs.BytesLeft.{SameCells}
use Rattle.knowledge.specs.Grows.{Grown, grown_take, grown_layer}
use Rattle.knowledge.specs.Alike.{alike, same_front}
use Rattle.knowledge.specs.Beyond.{take_answer_beyond, reject_beyond, serve_beyond, layer_answer_beyond, block_beyond, piece_beyond, hybrid_beyond, take_leaves_alike, layer_leaves_alike, take_past, layer_past}
use Rattle.knowledge.specs.RootAlone.{usable_exactly}

-- two memories that agree byte for byte up to the size
same_by_bytes : (s t : List ℕ) → usable s ≡ true → usable t ≡ true → file_length t ≡ file_length s → ((i : ℕ) → i < store_size (file_length s) → get_or t i 0 ≡ get_or s i 0)
    → SameStore s t
same_by_bytes s t us ut n f =
    let a : store_size (file_length s) ≤ length s = ((usable_exactly s).0 us).1 in
    let b : store_size (file_length t) ≤ length t = ((usable_exactly t).0 ut).1 in
    let q : store_size (file_length t) ≡ store_size (file_length s) = ap store_size n in
    record { store = us; bytes = same_front s t (store_size (file_length s)) a (omega arith) f }

-- what a call that writes cells alone leaves of one store in two memories is one store
module _ (s t s₁ t₁ : List ℕ) (S : SameStore s t) (gs : Grown s s₁) (gt : Grown t t₁) (cells : SameCells (positions (height_of s)) s₁ t₁)
    (ps : (i : ℕ) → 31 + 33 * positions (height_of s) ≤ i → get_or s₁ i 0 ≡ get_or s i 0)
    (pt : (i : ℕ) → 31 + 33 * positions (height_of t) ≤ i → get_or t₁ i 0 ≡ get_or t i 0) where
  written_same : SameStore s₁ t₁
  written_same =
      let f = usable_facts s S.store in
      let e = used_same s t f S.bytes in
      let h : positions (height_of t) ≡ positions (height_of s) = ap positions e.layers in
      let n : file_length s₁ ≡ file_length s = gs.same.file in
      let q : store_size (file_length s₁) ≡ store_size (file_length s) = ap store_size n in
      same_by_bytes s₁ t₁ (facts_usable s₁ gs.facts) (facts_usable t₁ gt.facts) (gt.same.file ∙ e.file ∙ sym n)
      (λ i l.
      elim (dec_lt i (31 + 33 * positions (height_of s))) [
        | yes y ↦ cells.same i y
        | no x ↦ pt i (omega arith) ∙ byte_same s t f S.bytes i (omega arith) ∙ sym (ps i (omega arith))
      ])

module _ (s t : List ℕ) (S : SameStore s t) where
  facts : Facts s
  facts = usable_facts s S.store

  there : Facts t
  there = used_facts s t facts S.bytes

  -- the other is usable too,
  pub usable_there : usable t ≡ true
  usable_there = facts_usable t there

  -- marks written into both leave one store,
  marks_same : (i n x : ℕ) → i + n ≤ 2 ^ height_of s → SameStore (marks_put s i n x) (marks_put t i n x)
  marks_same i n x l =
      let h : 2 ^ height_of t ≡ 2 ^ height_of s = ap (λ (k : ℕ). 2 ^ k) (used_same s t facts S.bytes).layers in
      let l' : i + n ≤ 2 ^ height_of t = omega arith in
      let a = (marks_same_facts s facts i n x l).file in
      let q : store_size (file_length (marks_put s i n x)) ≡ store_size (file_length s) = ap store_size a in
      same_by_bytes (marks_put s i n x) (marks_put t i n x) (facts_usable (marks_put s i n x) (marks_facts s facts i n x l)) (facts_usable (marks_put t i n x) (marks_facts t there i n x l'))
      ((marks_same_facts t there i n x l').file ∙ (used_same s t facts S.bytes).file ∙ sym a)
      (λ j b. marks_beyond s t facts S.bytes i n x l j (omega arith))

  block_same : (i : ℕ) (d : List ℕ) → SameStore (block_after s i d) (block_after t i d)
  block_same i d =
      let k = block_beyond s t facts (alike s t facts S.bytes) i d in
      elim (ℕ_discrete (block_number s i d) 0) [
        | yes z ↦ rw (block_marks s i d z, block_marks t i d (k ∙ z)) (marks_same i 1 marked (block_fits s i d z))
        | no ne ↦ rw (block_stays s i d ne, block_stays t i d (λ w. ne (sym k ∙ w))) S
      ]

  piece_same : (i : ℕ) (d : List ℕ) → SameStore (piece_after s i d) (piece_after t i d)
  piece_same i d =
      let k = piece_beyond s t facts (alike s t facts S.bytes) i d in
      let c = covered_beyond s t facts S.bytes i in
      elim (ℕ_discrete (piece_number s i d) 0) [
        | yes z ↦ rw (piece_marks s i d z, piece_marks t i d (k ∙ z), c.0, c.1) (marks_same (first_block s i) (blocks_in s i) marked (piece_fits s i d z))
        | no ne ↦ rw (piece_stays s i d ne, piece_stays t i d (λ w. ne (sym k ∙ w))) S
      ]

  hybrid_same : (i : ℕ) (d v : List ℕ) (z : ℕ) → SameStore (hybrid_after s i d v z) (hybrid_after t i d v z)
  hybrid_same i d v z =
      let k = hybrid_beyond s t facts (alike s t facts S.bytes) i d v z in
      elim (ℕ_discrete (hybrid_number s i d v z) 0) [
        | yes e ↦ rw (hybrid_marks s i d v z e, hybrid_marks t i d v z (k ∙ e)) (piece_same i d)
        | no ne ↦ rw (hybrid_stays s i d v z ne, hybrid_stays t i d v z (λ w. ne (sym k ∙ w))) S
      ]

  clear_same : (i : ℕ) → SameStore (clear_after s i) (clear_after t i)
  clear_same i =
      let k = there_beyond s t facts S.bytes i in
      elim (ℕ_discrete (block_there s i) 0) [
        | yes z ↦ rw (clear_writes s i z, clear_writes t i (k ∙ z)) (marks_same i 1 cleared (let w = there_fits s i z in omega arith))
        | no ne ↦ rw (clear_stays s i ne, clear_stays t i (λ w. ne (sym k ∙ w))) S
      ]

  -- a call that only looks answers the same,
  asked_alike : (k : Ask) → asked k t ≡ asked k s
  asked_alike (held l i) = ap (λ (h : Hashed). with_hash h) (used_answer s t facts S.bytes l i)
  asked_alike (take_reject m b) = ap (λ (a : Answer). with_count a) (reject_beyond s t facts (alike s t facts S.bytes) m)
  asked_alike (is_marked i) = ap (λ (a : Answer). with_count a) (marked_beyond s t facts S.bytes i)
  asked_alike (next_request l) = ap (λ (r : Request). with_request r) (next_behind s t S l)
  asked_alike (pick_piece counts) = ap (λ (c : Choice). with_piece c) (pick_behind s t S counts)
  asked_alike (begins_with n root block o b) = ap (λ (a : Answer). with_count a) (extends_alike s t (facts_usable t (used_facts s t facts S.bytes) ∙ sym S.store) (used_same s t facts S.bytes).file (used_answer s t facts S.bytes) n root block)
  asked_alike the_facts = ap (λ (r : FactsRead). with_facts r) (facts_same s t S.store usable_there (used_same s t facts S.bytes))

  -- and sends the same
  send_alike : (k : Send) (out : List ℕ) → (send_reply k t out ≡ send_reply k s out) × (sent_to k t out ≡ sent_to k s out)
  send_alike (serve m b) out = let w = serve_beyond s t facts (alike s t facts S.bytes) m out in (ap (λ (a : Answer). with_count a) w.0, w.1)
  send_alike save out = let w = save_beyond s t facts S.bytes out in (ap (λ (a : Answer). with_count a) w.0, w.1)
  send_alike (piece_hashes i d b) out = let w = leaves_beyond s t facts (alike s t facts S.bytes) i d out in (ap (λ (a : Answer). with_count a) w.0, w.1)
  send_alike bitfield out = let w = field_beyond s t facts S.bytes out in (ap (λ (a : Answer). with_count a) w.0, w.1)

  pub sends_alike : (k : Send) (out : List ℕ) → sent_to k t out ≡ sent_to k s out
  sends_alike k out = (send_alike k out).1

  -- every call but an opening answers the same,
  pub answers_alike : (c : Call) → (Opening c → ⊥) → answer c t ≡ answer c s
  unfolding block_answer piece_answer hybrid_answer clear_answer
  answers_alike (take m b) x = ap (λ (a : Answer). with_count a) (take_answer_beyond s t facts (alike s t facts S.bytes) m)
  answers_alike (load_layer l b) x = ap (λ (a : Answer). with_count a) (layer_answer_beyond s t facts (alike s t facts S.bytes) l)
  answers_alike (judge_block i d b) x = ap (λ (n : ℕ). with_count (record { number = n; count = 0 })) (block_beyond s t facts (alike s t facts S.bytes) i d)
  answers_alike (judge_piece i d b) x = ap (λ (n : ℕ). with_count (record { number = n; count = 0 })) (piece_beyond s t facts (alike s t facts S.bytes) i d)
  answers_alike (judge_hybrid_piece i d v z b o) x = ap (λ (n : ℕ). with_count (record { number = n; count = 0 })) (hybrid_beyond s t facts (alike s t facts S.bytes) i d v z)
  answers_alike (clear i) x = ap (λ (n : ℕ). with_count (record { number = n; count = 0 })) (there_beyond s t facts S.bytes i)
  answers_alike (reopen n plen root o) x = absurd (x tt)
  answers_alike (load b o) x = absurd (x tt)
  answers_alike (repair b o) x = absurd (x tt)
  answers_alike (look (ask k)) x = asked_alike k
  answers_alike (look (send k out b)) x = (send_alike k out).0

  -- and leaves the same store
  pub leaves_same : (c : Call) → (Opening c → ⊥) → SameStore (after c s) (after c t)
  leaves_same (take m b) x =
      written_same s t (take_after s m) (take_after t m) S (grown_take s m facts) (grown_take t m there) (take_leaves_alike s t facts (alike s t facts S.bytes) m)
      (take_past s s facts (alike s s facts refl) m) (take_past t t there (alike t t there refl) m)
  leaves_same (load_layer l b) x =
      written_same s t (layer_after s l) (layer_after t l) S (grown_layer s l facts) (grown_layer t l there) (layer_leaves_alike s t facts (alike s t facts S.bytes) l)
      (layer_past s s facts (alike s s facts refl) l) (layer_past t t there (alike t t there refl) l)
  leaves_same (judge_block i d b) x = block_same i d
  leaves_same (judge_piece i d b) x = piece_same i d
  leaves_same (judge_hybrid_piece i d v z b o) x = hybrid_same i d v z
  leaves_same (clear i) x = clear_same i
  leaves_same (reopen n plen root o) x = absurd (x tt)
  leaves_same (load b o) x = absurd (x tt)
  leaves_same (repair b o) x = absurd (x tt)
  leaves_same (look k) x = S

-- the bytes behind the store's size stay
module _ (s : List ℕ) (u : usable s ≡ true) where
  marks_past : (i n x : ℕ) → i + n ≤ 2 ^ height_of s → (j : ℕ) → store_size (file_length s) ≤ j → get_or (marks_put s i n x) j 0 ≡ get_or s j 0
  marks_past i n x l j b = marks_behind s (usable_facts s u) i n x l j (omega (arith, marks_end s))

  block_past : (i : ℕ) (d : List ℕ) (j : ℕ) → store_size (file_length s) ≤ j → get_or (block_after s i d) j 0 ≡ get_or s j 0
  block_past i d j b =
      elim (ℕ_discrete (block_number s i d) 0) [
        | yes z ↦ rw (block_marks s i d z) (marks_past i 1 marked (block_fits s i d z) j b)
        | no ne ↦ rw (block_stays s i d ne)
      ]

  piece_past : (i : ℕ) (d : List ℕ) (j : ℕ) → store_size (file_length s) ≤ j → get_or (piece_after s i d) j 0 ≡ get_or s j 0
  piece_past i d j b =
      elim (ℕ_discrete (piece_number s i d) 0) [
        | yes z ↦ rw (piece_marks s i d z) (marks_past (first_block s i) (blocks_in s i) marked (piece_fits s i d z) j b)
        | no ne ↦ rw (piece_stays s i d ne)
      ]

  clear_past : (i j : ℕ) → store_size (file_length s) ≤ j → get_or (clear_after s i) j 0 ≡ get_or s j 0
  clear_past i j b =
      elim (ℕ_discrete (block_there s i) 0) [
        | yes z ↦ rw (clear_writes s i z) (marks_past i 1 cleared (let w = there_fits s i z in omega arith) j b)
        | no ne ↦ rw (clear_stays s i ne)
      ]

  pub behind_stays : (c : Call) → (Opening c → ⊥) → (i : ℕ) → store_size (file_length s) ≤ i → get_or (after c s) i 0 ≡ get_or s i 0
  behind_stays (take m b) x i l = take_past s s (usable_facts s u) (alike s s (usable_facts s u) refl) m i (omega (arith, own_cells s))
  behind_stays (load_layer d b) x i l = layer_past s s (usable_facts s u) (alike s s (usable_facts s u) refl) d i (omega (arith, own_cells s))
  behind_stays (judge_block j d b) x i l = block_past j d i l
  behind_stays (judge_piece j d b) x i l = piece_past j d i l
  behind_stays (judge_hybrid_piece j d v z b o) x i l = hybrid_leaves s j d v z (λ t. get_or t i 0 ≡ get_or s i 0) refl (piece_past j d i l)
  behind_stays (clear j) x i l = clear_past j i l
  behind_stays (reopen n plen root o) x i l = absurd (x tt)
  behind_stays (load b o) x i l = absurd (x tt)
  behind_stays (repair b o) x i l = absurd (x tt)
  behind_stays (look k) x i l = refl

-- Two memories with the same facts and cells get the same numbers, counts and hashes: bytes past the store's size decide nothing, and nor
-- do marks.
-- Assumes nothing.
use Rattle.std.specs.Prelude.{◌≡◌, Bool, length, get_or, List, [], ◌∷◌, ℕ, zero, suc, ◌+◌, ◌/◌, ◌-◌, ◌*◌, ◌^◌, ◌≤◌, ◌<◌}
use Rattle.std.proofs.Math.Path.{refl, ap, ap₂}
use Rattle.std.proofs.Common.{◌∙◌, arith, eq-eqb, ne_eqb, eqb-true, ltb-true}
use Rattle.std.proofs.Math.Bool.{true, false, cond}
use Rattle.std.proofs.Math.Decide.{ℕ_discrete}
use Rattle.std.proofs.Math.Dec.{eqb, ltb}
use Rattle.octets.specs.Octets.{same}
use Rattle.numbers.specs.Numbers.{rule_broken, wrong_size, wrong_padding, not_held, judged}
use Rattle.sha256.specs.Sha256.{sha256}
use Rattle.tree.specs.Geometry.{node_number, block_size, piece_size, piece_count, piece_layer, has_layer}
use Rattle.tree.proofs.GeometryLaws.{height_enough, node_number_range}
use Rattle.tree.specs.Values.{leaf_of, layer_leaf}
use Rattle.tree.proofs.ValuesLaws.{leaf_octets}
use Rattle.cells.specs.Cells.{held_at, hash_at}
use Rattle.cells.specs.Entries.{Entry, agrees_at, agrees, put_all, newly}
use Rattle.cells.specs.EntriesLaws.{Sound, none, more}
use Rattle.store.specs.Store.{file_length, piece_length, blocks_of, height_of, positions, Facts, SameFacts}
use Rattle.store.specs.StoreLaws.{put_all_past, facts_usable}
use Rattle.settling.specs.Path.{sibling}
use Rattle.settling.specs.AncestorLaws.{ancestor_le}
use Rattle.settling.specs.Span.{Within}
use Rattle.settling.specs.Subtree.{subtree}
use Rattle.settling.specs.SubtreeLaws.{within_self, subtree_sound}
use Rattle.header.specs.Header.{place_of, header_of, is_hashes, is_request, is_reject, message_size}
use Rattle.messages.specs.Take.{header_number, body_number, padded, anchored, anchor, settled, place_in, or_else, take_number, take_answer, take_after, reject_answer}
use Rattle.messages.specs.Asks.{Placed}
use Rattle.messages.specs.TakeLaws.{passed, placed, placed_ready}
use Rattle.messages.specs.TakenLaws.{ready_settled}
use Rattle.serve.specs.Serve.{held_run, run_hashes, held_uncles, uncle_hashes, all_held, all_hashes, reply_to, request_number, sent_back, serve_answer, serve_after}
use Rattle.serve.specs.ServeLaws.{sibling_near, request_passes, run_inside, uncles_inside}
use Rattle.pieces.specs.Pieces.{block_number, judged_at, layer_of_pieces, layer_number, layer_settled, layer_after, layer_answer, piece_height, piece_number}
use Rattle.pieces.specs.Hybrid.{hybrid_number}
use Rattle.pieces.proofs.HybridLaws.{v1_same}
use Rattle.pieces.proofs.PiecesLaws.{layered, layer_within, layer_leaf_length, piece_within, layer_sound, loads_layered, layer_loads}
use Rattle.knowledge.specs.TakenWhen.{taken_well_formed}
use Rattle.knowledge.specs.Alike.{Alike}
use Rattle.knowledge.specs.BytesLeft.{SameCells, put_all_same, newly_same}

-- with the same facts a piece's node is in the same layer
pub same_node : {s t : List ℕ} → SameFacts s t → piece_height t ≡ piece_height s
unfolding piece_height layer_of_pieces
same_node e = rw (e.file, e.piece, e.layers)

module _ (s t : List ℕ) (f : Facts s) (e : Alike s t) where
  agrees_used : (L : List Entry) → Sound (positions (height_of s)) L → agrees t L ≡ agrees s L
  unfolding agrees agrees_at
  agrees_used [] none = refl
  agrees_used (x ∷ L) (more a b k) = rw (e.held x.at a, e.hash x.at a, agrees_used L k)

  module _ (m : List ℕ) where
    header_used : (form : Bool) → header_number form t m ≡ header_number form s m
    unfolding header_number
    header_used form =
        rw (facts_usable t e.facts, facts_usable s f, e.same.root, e.same.layers)

    place_used : place_in t m ≡ place_in s m
    place_used = ap (place_of (header_of m)) e.same.layers

    placed_here : header_number (is_hashes m) s m ≡ 0 → Placed (height_of s) (header_of m) (place_in s m)
    placed_here z = placed (is_hashes m) s m (passed (is_hashes m) s m z)

    anchor_below : header_number (is_hashes m) s m ≡ 0 → anchor (place_in s m) < positions (height_of s)
    unfolding anchor
    anchor_below z =
        let q = placed_here z in
        omega (arith, ancestor_le (place_in s m).u (place_in s m).top, within_self (positions (height_of s)) (place_in s m).k (place_in s m).top q.top)

    settled_sound : header_number (is_hashes m) s m ≡ 0 → length m ≡ message_size (header_of m) → Sound (positions (height_of s)) (settled m (place_in s m))
    unfolding settled
    settled_sound z n =
        let q = placed_here z in
        ready_settled (length s) m (height_of s) (header_of m) (place_in s m) (placed_ready (length s) (length m) q f.room (omega (arith, q.size)))

    tests_used : header_number (is_hashes m) s m ≡ 0 → length m ≡ message_size (header_of m) → anchored t m (place_in s m) ≡ anchored s m (place_in s m)
    unfolding anchored
    tests_used z n =
        rw (e.held (anchor (place_in s m)) (anchor_below z), e.hash (anchor (place_in s m)) (anchor_below z), agrees_used (settled m (place_in s m)) (settled_sound z n))

    body_used : header_number (is_hashes m) s m ≡ 0 → body_number t m (header_of m) (place_in t m) ≡ body_number s m (header_of m) (place_in s m)
    unfolding body_number
    body_used z = rw (place_used, e.same.blocks) (by (eqb (length m) (message_size (header_of m))) refl)
      where
        by : (b : Bool) → eqb (length m) (message_size (header_of m)) ≡ b
            → cond (eqb (length m) (message_size (header_of m))) (cond (padded m (header_of m) (place_in s m) (blocks_of s)) (anchored t m (place_in s m)) wrong_padding) wrong_size
            ≡ cond (eqb (length m) (message_size (header_of m))) (cond (padded m (header_of m) (place_in s m) (blocks_of s)) (anchored s m (place_in s m)) wrong_padding) wrong_size
        by false x = rw x
        by true x = rw (x, tests_used z (eqb-true (length m) (message_size (header_of m)) x))

    -- a message,
    pub take_beyond : take_number t m ≡ take_number s m
    unfolding take_number
    take_beyond =
        ap (λ (n : ℕ). or_else n (body_number t m (header_of m) (place_in t m))) (header_used (is_hashes m))
        ∙ elim (ℕ_discrete (header_number (is_hashes m) s m) 0) [ yes z ↦ ap (or_else (header_number (is_hashes m) s m)) (body_used z) | no ne ↦ rw (ne_eqb (header_number (is_hashes m) s m) 0 ne) ]

  -- an incoming reject,
  pub reject_beyond : (m : List ℕ) → reject_answer t m ≡ reject_answer s m
  unfolding reject_answer
  reject_beyond m = ap (λ (n : ℕ). record { number = n; count = 0 }) (header_used m (is_reject m))

  -- a block,
  pub block_beyond : (i : ℕ) (block : List ℕ) → block_number t i block ≡ block_number s i block
  unfolding block_number
  block_beyond i block =
      rw (facts_usable t e.facts, facts_usable s f, e.same.file, e.same.blocks, e.same.layers)
      (by (ltb i (blocks_of s)) refl)
    where
      by : (b : Bool) → ltb i (blocks_of s) ≡ b
          → cond (ltb i (blocks_of s)) (cond (eqb (length block) (block_size (file_length s) i)) (judged (held_at t (node_number (height_of s) 0 i)) (same (hash_at t (node_number (height_of s) 0 i)) (sha256 block)) true) wrong_size) rule_broken
          ≡ cond (ltb i (blocks_of s)) (cond (eqb (length block) (block_size (file_length s) i)) (judged (held_at s (node_number (height_of s) 0 i)) (same (hash_at s (node_number (height_of s) 0 i)) (sha256 block)) true) wrong_size) rule_broken
      by false x = rw x
      by true x =
          let z : height_of s - 0 ≡ height_of s = omega arith in
          let w : i < 2 ^ (height_of s - 0) = rw z (unfold height_of in omega (arith, ltb-true i (blocks_of s) x, height_enough (blocks_of s))) in
          let b : node_number (height_of s) 0 i < positions (height_of s) = unfold positions in (node_number_range (height_of s) 0 i w).1 in
          rw (e.held (node_number (height_of s) 0 i) b, e.hash (node_number (height_of s) 0 i) b)

  judged_used : (leaf : ℕ → List ℕ) → ((i : ℕ) → length (leaf i) ≡ 32) → (k n : ℕ) → Within (positions (height_of s)) k n → judged_at t leaf k n ≡ judged_at s leaf k n
  unfolding judged_at
  judged_used leaf h k n w =
      let b = within_self (positions (height_of s)) k n w in
      rw (e.held n b, e.hash n b, agrees_used (subtree leaf k n 0) (subtree_sound leaf h (positions (height_of s)) k n 0 w))

  layer_of_used : layer_of_pieces t ≡ layer_of_pieces s
  unfolding layer_of_pieces
  layer_of_used = ap piece_layer e.same.piece

  piece_height_used : piece_height t ≡ piece_height s
  piece_height_used = same_node e.same

  -- a piece
  pub piece_beyond : (i : ℕ) (piece : List ℕ) → piece_number t i piece ≡ piece_number s i piece
  unfolding piece_number
  piece_beyond i piece =
      rw (facts_usable t e.facts, facts_usable s f, e.same.file, e.same.piece, e.same.layers, piece_height_used)
      (by (ltb i (piece_count (file_length s) (piece_length s))) refl)
    where
      by : (b : Bool) → ltb i (piece_count (file_length s) (piece_length s)) ≡ b
          → cond (ltb i (piece_count (file_length s) (piece_length s))) (cond (eqb (length piece) (piece_size (file_length s) (piece_length s) i)) (judged_at t (leaf_of piece) (piece_height s) (node_number (height_of s) (piece_height s) i)) wrong_size) rule_broken
          ≡ cond (ltb i (piece_count (file_length s) (piece_length s))) (cond (eqb (length piece) (piece_size (file_length s) (piece_length s) i)) (judged_at s (leaf_of piece) (piece_height s) (node_number (height_of s) (piece_height s) i)) wrong_size) rule_broken
      by false x = rw x
      by true x =
          let w = piece_within s i (Rattle.pieces.proofs.PiecesLaws.piece_in_lem s f i (ltb-true i (piece_count (file_length s) (piece_length s)) x)) in
          rw (judged_used (leaf_of piece) (λ j. (leaf_octets piece j).size) (piece_height s) (node_number (height_of s) (piece_height s) i) w)

  -- a piece of a hybrid
  pub hybrid_beyond : (i : ℕ) (piece v1 : List ℕ) (zeros : ℕ) → hybrid_number t i piece v1 zeros ≡ hybrid_number s i piece v1 zeros
  unfolding hybrid_number
  hybrid_beyond i piece v1 zeros = rw (piece_beyond i piece, v1_same s piece v1 zeros t e.same.piece)

  -- a layer,
  pub layer_beyond : (layer : List ℕ) → layer_number t layer ≡ layer_number s layer
  unfolding layer_number
  layer_beyond layer =
      rw (facts_usable t e.facts, facts_usable s f, e.same.file, e.same.piece, e.same.layers, layer_of_used)
      (by (has_layer (file_length s) (piece_length s)) refl)
    where
      by : (b : Bool) → has_layer (file_length s) (piece_length s) ≡ b
          → cond (has_layer (file_length s) (piece_length s)) (cond (eqb (length layer) (32 * piece_count (file_length s) (piece_length s))) (judged_at t (layer_leaf layer (layer_of_pieces s)) (height_of s - layer_of_pieces s) 1) wrong_size) rule_broken
          ≡ cond (has_layer (file_length s) (piece_length s)) (cond (eqb (length layer) (32 * piece_count (file_length s) (piece_length s))) (judged_at s (layer_leaf layer (layer_of_pieces s)) (height_of s - layer_of_pieces s) 1) wrong_size) rule_broken
      by false x = rw x
      by true x =
          rw (judged_used (layer_leaf layer (layer_of_pieces s)) (layer_leaf_length layer (layer_of_pieces s)) (height_of s - layer_of_pieces s) 1 (layer_within s (layered s f x)))

  held_run_used : (n c : ℕ) → n + c ≤ positions (height_of s) → held_run t n c ≡ held_run s n c
  unfolding held_run
  held_run_used n zero l = refl
  held_run_used n (suc c) l = rw (held_run_used n c (omega arith), e.held (n + c) (omega arith))

  run_hashes_used : (n c : ℕ) → n + c ≤ positions (height_of s) → run_hashes t n c ≡ run_hashes s n c
  unfolding run_hashes
  run_hashes_used n zero l = refl
  run_hashes_used n (suc c) l = rw (run_hashes_used n c (omega arith), e.hash (n + c) (omega arith))

  held_uncles_used : (u n : ℕ) → n + 2 ≤ positions (height_of s) → held_uncles t u n ≡ held_uncles s u n
  unfolding held_uncles
  held_uncles_used zero n l = refl
  held_uncles_used (suc u) n l = rw (e.held (sibling n) (omega (arith, sibling_near n)), held_uncles_used u (n / 2) (omega arith))

  uncle_hashes_used : (u n : ℕ) → n + 2 ≤ positions (height_of s) → uncle_hashes t u n ≡ uncle_hashes s u n
  unfolding uncle_hashes
  uncle_hashes_used zero n l = refl
  uncle_hashes_used (suc u) n l = rw (e.hash (sibling n) (omega (arith, sibling_near n)), uncle_hashes_used u (n / 2) (omega arith))

  module _ (m : List ℕ) where
    all_held_used : header_number (is_request m) s m ≡ 0 → all_held t (place_in s m) ≡ all_held s (place_in s m)
    unfolding all_held
    all_held_used z =
        let p = place_in s m in
        rw (held_run_used (p.top * 2 ^ p.k) (2 ^ p.k) (run_inside s m z), held_uncles_used p.u p.top (uncles_inside s m z))

    all_hashes_used : header_number (is_request m) s m ≡ 0 → all_hashes t (place_in s m) ≡ all_hashes s (place_in s m)
    unfolding all_hashes
    all_hashes_used z =
        let p = place_in s m in
        rw (run_hashes_used (p.top * 2 ^ p.k) (2 ^ p.k) (run_inside s m z), uncle_hashes_used p.u p.top (uncles_inside s m z))

    request_beyond : request_number t m ≡ request_number s m
    unfolding request_number
    request_beyond =
        ap (λ (n : ℕ). or_else n (cond (all_held t (place_in t m)) 0 not_held)) (header_used m (is_request m))
        ∙ elim (ℕ_discrete (header_number (is_request m) s m) 0) [
          | yes z ↦ rw (place_used m, all_held_used z)
          | no ne ↦ rw (ne_eqb (header_number (is_request m) s m) 0 ne)
        ]

    sent_beyond : sent_back t m ≡ sent_back s m
    unfolding sent_back reply_to
    sent_beyond =
        elim (ℕ_discrete (request_number s m) 0) [
          | yes z ↦ rw (request_beyond, place_used m, all_hashes_used (request_passes s m z))
          | no ne ↦ rw (request_beyond, ne_eqb (request_number s m) 0 ne)
        ]

    -- and a request get the same; so does the output
    pub serve_beyond : (out : List ℕ) → (serve_answer t m out ≡ serve_answer s m out) × (serve_after t m out ≡ serve_after s m out)
    unfolding serve_answer serve_after
    serve_beyond out = (rw (request_beyond, sent_beyond), rw (request_beyond, sent_beyond))

  -- ---- what the calls leave

  cells_used : SameCells (positions (height_of s)) s t
  cells_used =
      record {
        room = f.room;
        room' = rw e.same.layers at e.facts.room;
        same = e.bytes;
      }

  left_alike : (n : ℕ) (L : List Entry) → (n ≡ 0 → Sound (positions (height_of s)) L)
      → SameCells (positions (height_of s)) (cond (eqb n 0) (put_all s L) s) (cond (eqb n 0) (put_all t L) t)
  left_alike n L k =
      elim (ℕ_discrete n 0) [
        | yes z ↦ rw (eq-eqb n 0 z) (put_all_same (positions (height_of s)) L s t (k z) cells_used)
        | no ne ↦ rw (ne_eqb n 0 ne) cells_used
      ]

  -- a message leaves the same cells,
  pub take_leaves_alike : (m : List ℕ) → SameCells (positions (height_of s)) (take_after s m) (take_after t m)
  unfolding take_after
  take_leaves_alike m =
      rw (take_beyond m, place_used m)
      (left_alike (take_number s m) (settled m (place_in s m)) (λ z. let w = taken_well_formed s m z in settled_sound m w.header w.size))

  -- and gets the same answer, the count too
  pub take_answer_beyond : (m : List ℕ) → take_answer t m ≡ take_answer s m
  unfolding take_answer
  take_answer_beyond m =
      ap₂ (λ (n c : ℕ). record { number = n; count = c }) (take_beyond m)
      (ap (λ (h : ℕ). newly (positions h) t (take_after t m)) e.same.layers
      ∙ newly_same (positions (height_of s)) (positions (height_of s)) s t (take_after s m) (take_after t m) (omega arith) cells_used (take_leaves_alike m))

  -- a layer too
  settled_layer_used : (layer : List ℕ) → layer_settled t layer ≡ layer_settled s layer
  unfolding layer_settled
  settled_layer_used layer = rw (e.same.layers, layer_of_used)

  -- a layer leaves the same cells,
  pub layer_leaves_alike : (layer : List ℕ) → SameCells (positions (height_of s)) (layer_after s layer) (layer_after t layer)
  unfolding layer_after
  layer_leaves_alike layer =
      rw (layer_beyond layer, settled_layer_used layer)
      (left_alike (layer_number s layer) (layer_settled s layer) (λ z. layer_sound s layer (loads_layered s layer (layer_loads s layer z))))

  -- and gets the same answer, the count too
  pub layer_answer_beyond : (layer : List ℕ) → layer_answer t layer ≡ layer_answer s layer
  unfolding layer_answer
  layer_answer_beyond layer =
      ap₂ (λ (n c : ℕ). record { number = n; count = c }) (layer_beyond layer)
      (ap (λ (h : ℕ). newly (positions h) t (layer_after t layer)) e.same.layers
      ∙ newly_same (positions (height_of s)) (positions (height_of s)) s t (layer_after s layer) (layer_after t layer) (omega arith) cells_used (layer_leaves_alike layer))

  -- ---- and what stands behind the size stays

  past_alike : (n : ℕ) (L : List Entry) → (n ≡ 0 → Sound (positions (height_of s)) L) → (i : ℕ) → 31 + 33 * positions (height_of s) ≤ i
      → get_or (cond (eqb n 0) (put_all s L) s) i 0 ≡ get_or s i 0
  past_alike n L k i l =
      elim (ℕ_discrete n 0) [
        | yes z ↦ rw (eq-eqb n 0 z) (put_all_past (positions (height_of s)) L s f.room (k z) i l)
        | no ne ↦ rw (ne_eqb n 0 ne)
      ]

  -- bytes behind the cells stay as they are when a message is heard,
  pub take_past : (m : List ℕ) (i : ℕ) → 31 + 33 * positions (height_of s) ≤ i → get_or (take_after s m) i 0 ≡ get_or s i 0
  unfolding take_after
  take_past m =
      past_alike (take_number s m) (settled m (place_in s m)) (λ z. let w = taken_well_formed s m z in settled_sound m w.header w.size)

  -- and when a layer is loaded
  pub layer_past : (layer : List ℕ) (i : ℕ) → 31 + 33 * positions (height_of s) ≤ i → get_or (layer_after s layer) i 0 ≡ get_or s i 0
  unfolding layer_after
  layer_past layer =
      past_alike (layer_number s layer) (layer_settled s layer) (λ z. layer_sound s layer (loads_layered s layer (layer_loads s layer z)))

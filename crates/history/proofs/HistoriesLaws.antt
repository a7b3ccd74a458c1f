-- One burst and the end, from the state of the bytes x: what the theorems about histories are made of.
-- Assumes nothing.
use Rattle.std.specs.Prelude.{◌≡◌, refl, Bool, true, false, ℕ, zero, suc, ◌+◌, ◌-◌, ◌*◌, ◌/◌, ◌%◌, ◌^◌, ◌≤◌, ◌<◌, drop, ltb, List, [], ◌++◌}
use Rattle.std.proofs.Math.Path.{ap, ap₂, sym}
use Rattle.std.proofs.Common.{subst, ◌∙◌, mul_assoc, mul_comm, add-mul, one-mul, le-div_iff_mul-le, length-append, length-drop, take_at, append_assoc, arith, eq-eqb, ne_eqb, ltb-true, lt-ltb, le-ltb}
use Rattle.std.proofs.Math.Bool.{and-false}
use Rattle.std.proofs.lemmas.Bool.{false≢true}
use Rattle.std.proofs.Math.Nat.{zero-mul}
use Rattle.std.proofs.Math.Decide.{dec_le, dec_lt}
use Rattle.std.proofs.Math.ListN.{length, take}
use Rattle.octets.specs.Octets.{pasted, zero_hash}
use Rattle.limits.specs.Limits.{longest_file}
use Rattle.running.specs.BurstsLaws.{state_total, state_tail}
use Rattle.tree.specs.Geometry.{block_length, block_count, covering, is_piece_length, piece_layer, has_layer, piece_count}
use Rattle.tree.proofs.GeometryLaws.{below_ceil, piece_length_form, pieces_covering}
use Rattle.tree.specs.Values.{node, leaf_of, pieces_root, layer_of, whole_layer}
use Rattle.tree.proofs.ValuesLaws.{file_octets, layer_octets}
use Rattle.history.specs.Growing.{grown_by, noted_by, root_of}
use Rattle.history.specs.Answers.{empty_history, passed, no_room_for, more_number, more_answer, more_layer, layer_bytes, end_number, end_answer, end_layer, Possible}
use Rattle.history.proofs.AnswersLaws.{says_possible}
use Rattle.history.proofs.DecidingLaws.{number_done, number_says, more_taken, layer_taken, bytes_some, bytes_none, end_done, end_room, end_taken, end_layer_lem, last_put, last_none}
use Rattle.history.specs.HistoryOf.{last_of, nodes_of, open_block, history_of, hashes_of, Written}
use Rattle.history.proofs.GrowingLaws.{node_stays, grown_by_lem}
use Rattle.history.proofs.LastLaws.{history_length, history_pieces, last_node_lem, root_of_history}
use Rattle.history.proofs.LayerLaws.{hashes_size, hashes_behind, passed_grows, passed_none, passed_bytes, pieces_some, layer_within, noted_by_lem}
use Rattle.history.specs.declared.History.{History}
use Rattle.history.specs.declared.HistoryAnswer.{HistoryAnswer}

-- ---- the state of x

-- no bytes yet
pub empty_is : (plen : ℕ) → empty_history plen ≡ history_of plen []
unfolding empty_history history_of open_block nodes_of last_of zero_hash
empty_is plen = refl

-- the block under way has what is past the whole blocks
open_size : (x : List ℕ) → length (open_block x) ≡ length x % block_length
unfolding open_block
open_size x = length-drop (block_length * (length x / block_length)) x ∙ omega arith

-- its counts are possible
pub state_possible : (plen : ℕ) (x : List ℕ) → is_piece_length plen ≡ true → length x ≤ longest_file → Possible (history_of plen x)
unfolding history_of
state_possible plen x good l =
    record {
      pieces = good;
      short = l;
      inside = state_total (open_block x) ∙ open_size x;
      tail = state_tail (open_block x) ∙ ap (λ (n : ℕ). n % 64) (sym (state_total (open_block x)));
    }

-- ---- a burst that is taken

room_said : (plen : ℕ) (x b : List ℕ) (m : ℕ) → no_room_for (history_of plen x) (length b) m ≡ false → passed (length x) plen < passed (length (x ++ b)) plen
    → 32 * passed (length (x ++ b)) plen ≤ m
unfolding no_room_for history_of
room_said plen x b m f l =
    let e : length (x ++ b) ≡ length x + length b = length-append x b in
    let t : ltb (passed (length x) plen) (passed (length x + length b) plen) ≡ true = lt-ltb (passed (length x) plen) (passed (length x + length b) plen) (rw e at l) in
    rw e (by_size (dec_lt m (32 * passed (length x + length b) plen)) (rw t at f))
  where
    by_size : Dec (m < 32 * passed (length x + length b) plen) → ltb m (32 * passed (length x + length b) plen) ≡ false → 32 * passed (length x + length b) plen ≤ m
    by_size (yes g) h = absurd (false≢true (sym h ∙ lt-ltb m (32 * passed (length x + length b) plen) g))
    by_size (no g) h = omega arith

module _ (plen : ℕ) (x b layer : List ℕ) (taken : (more_answer (history_of plen x) b layer).number ≡ 0) where
  number_is : more_number (history_of plen x) (length b) (length layer) ≡ 0
  unfolding more_answer
  number_is = taken

  says : Possible (history_of plen x) × ((history_of plen x).length + length b ≤ longest_file) × (no_room_for (history_of plen x) (length b) (length layer) ≡ false)
  says = number_says (history_of plen x) (length b) (length layer) number_is

  pub taken_pieces : is_piece_length plen ≡ true
  unfolding history_of
  taken_pieces = says.0.pieces

  pub taken_short : length (x ++ b) ≤ longest_file
  taken_short = omega (arith, length-append x b, says.1, history_length plen x)

  -- the state after it is that of both
  pub taken_state : (more_answer (history_of plen x) b layer).history ≡ history_of plen (x ++ b)
  taken_state =
      ap (λ (a : HistoryAnswer). a.history) (sym (more_taken (history_of plen x) (grown_by (history_of plen x) b) b layer (sym number_is) refl)) ∙ grown_by_lem plen x b

  -- it writes the hashes of the pieces that it runs past, and nothing else
  pub taken_layer :
      more_layer (history_of plen x) b layer
      ≡ pasted layer (32 * passed (length x) plen) (hashes_of (x ++ b) (piece_layer plen) (passed (length x) plen) (passed (length (x ++ b)) plen - passed (length x) plen))
  taken_layer =
      sym (layer_taken (history_of plen x) b layer (noted_by (history_of plen x) layer b) (sym number_is) refl)
      ∙ noted_by_lem plen taken_pieces x b (x ++ b) layer refl (λ m. room_said plen x b (length layer) says.2 m)

room_left : (plen : ℕ) (x : List ℕ) (k m n : ℕ) → is_piece_length plen ≡ true → length x + k ≤ n → 32 * passed n plen ≤ m → no_room_for (history_of plen x) k m ≡ false
unfolding no_room_for history_of
room_left plen x k m n good h room =
    let g = passed_grows (length x + k) n plen (pieces_some plen good) h in
    rw (le-ltb m (32 * passed (length x + k) plen) (omega arith)) (and-false (ltb (passed (length x) plen) (passed (length x + k) plen)))

-- and so is one whose hashes fit, up to the longest file
pub taken_with_room : (plen : ℕ) (x b layer : List ℕ) → is_piece_length plen ≡ true → length x + length b ≤ longest_file → (n : ℕ) → length x + length b ≤ n
    → 32 * passed n plen ≤ length layer → (more_answer (history_of plen x) b layer).number ≡ 0
unfolding more_answer
taken_with_room plen x b layer good l n h room =
    let e = history_length plen x in
    sym (number_done (history_of plen x) (length b) (length layer) (says_possible (history_of plen x) (state_possible plen x good (omega arith))) (omega (arith, e)) (room_left plen x (length b) (length layer) n good h room))

-- ---- written so far

-- c hashes of a layer stay as bytes are added, if their pieces are whole
pub layer_stays : (x ys : List ℕ) (p c : ℕ) → c * 2 ^ p ≤ length x / block_length → layer_of (x ++ ys) p c ≡ layer_of x p c
unfolding layer_of
layer_stays x ys p zero l = refl
layer_stays x ys p (suc c) l =
    ap₂ (λ (a b : List ℕ). a ++ b)
    (layer_stays x ys p c (omega (arith, l, next_piece c p)))
    (node_stays x ys p c (let e : c + 1 ≡ suc c = omega arith in rw e l))
  where
    next_piece : (c p : ℕ) → suc c * 2 ^ p ≡ c * 2 ^ p + 2 ^ p
    next_piece c p = (let e : suc c ≡ c + 1 = omega arith in ap (λ (n : ℕ). n * 2 ^ p) e) ∙ add-mul c 1 (2 ^ p) ∙ ap (λ (n : ℕ). c * 2 ^ p + n) (one-mul (2 ^ p))

-- the pieces that x has run past are whole
pub passed_whole : (plen : ℕ) (x : List ℕ) → is_piece_length plen ≡ true → passed (length x) plen * 2 ^ piece_layer plen ≤ length x / block_length
passed_whole plen x good =
    let f = (piece_length_form plen good).1 in
    let some = pieces_some plen good in
    (le-div_iff_mul-le {k = block_length} (omega arith)).1
    (subst (λ (n : ℕ). n ≤ length x) (ap (λ (d : ℕ). passed (length x) plen * d) (f ∙ mul_comm block_length (2 ^ piece_layer plen)) ∙ sym (mul_assoc (passed (length x) plen) (2 ^ piece_layer plen) block_length)) (passed_bytes (length x) plen some))

-- ---- a burst, and the end, where the pieces before are written

-- a part that was put right behind the first `at` bytes makes them longer
take_pasted : (layer h : List ℕ) (at : ℕ) → length (take at layer) ≡ at → take (at + length h) (pasted layer at h) ≡ take at layer ++ h
unfolding pasted
take_pasted layer h at l =
    take_at (take at layer ++ h) (drop (at + length h) layer) (at + length h) (length-append (take at layer) h ∙ ap (λ (n : ℕ). n + length h) l)

-- and what is before it
front_stays : (layer h : List ℕ) (at : ℕ) → length (take at layer) ≡ at → take at (pasted layer at h) ≡ take at layer
unfolding pasted
front_stays layer h at l =
    ap (take at) (append_assoc (take at layer) h (drop (at + length h) layer)) ∙ take_at (take at layer) (h ++ drop (at + length h) layer) at l

-- one hash more of a layer
one_more : (x : List ℕ) (p c : ℕ) → layer_of x p c ++ node (leaf_of x) p c ≡ layer_of x p (c + 1)
unfolding layer_of
one_more x p c = let e : c + 1 ≡ suc c = omega arith in rw e

-- what was written has its length
written_length : (plen : ℕ) (x layer : List ℕ) → Written plen x layer → length (take (32 * passed (length x) plen) layer) ≡ 32 * passed (length x) plen
unfolding Written
written_length plen x layer w = ap length w ∙ (layer_octets x (piece_layer plen) (passed (length x) plen)).size

pub written_more : (plen : ℕ) (x b layer : List ℕ) → (more_answer (history_of plen x) b layer).number ≡ 0 → Written plen x layer
    → Written plen (x ++ b) (more_layer (history_of plen x) b layer)
unfolding Written
written_more plen x b layer taken w =
    let good = taken_pieces plen x b layer taken in
    let a : ℕ = passed (length x) plen in
    let n : ℕ = passed (length (x ++ b)) plen - passed (length x) plen in
    let p : ℕ = piece_layer plen in
    let more : passed (length x) plen ≤ passed (length (x ++ b)) plen = passed_grows (length x) (length (x ++ b)) plen (pieces_some plen good) (omega (arith, length-append x b)) in
    let sum : passed (length x) plen + (passed (length (x ++ b)) plen - passed (length x) plen) ≡ passed (length (x ++ b)) plen = omega (arith, more) in
    let size = hashes_size (x ++ b) (piece_layer plen) (passed (length x) plen) (passed (length (x ++ b)) plen - passed (length x) plen) in
    let at : 32 * passed (length (x ++ b)) plen ≡ 32 * passed (length x) plen + length (hashes_of (x ++ b) (piece_layer plen) (passed (length x) plen) (passed (length (x ++ b)) plen - passed (length x) plen)) =
    omega (arith, size, more) in
    ap₂ (λ (k : ℕ) (l : List ℕ). take k l) at (taken_layer plen x b layer taken)
    ∙ take_pasted layer (hashes_of (x ++ b) (piece_layer plen) (passed (length x) plen) (passed (length (x ++ b)) plen - passed (length x) plen)) (32 * passed (length x) plen) (written_length plen x layer w)
    ∙ ap (λ (l : List ℕ). l ++ hashes_of (x ++ b) (piece_layer plen) (passed (length x) plen) (passed (length (x ++ b)) plen - passed (length x) plen))
    (w ∙ sym (layer_stays x b (piece_layer plen) (passed (length x) plen) (passed_whole plen x good)))
    ∙ hashes_behind (x ++ b) (piece_layer plen) (passed (length x) plen) (passed (length (x ++ b)) plen - passed (length x) plen)
    ∙ ap (layer_of (x ++ b) (piece_layer plen)) sum

-- ---- the end

module _ (plen : ℕ) (x layer : List ℕ) (good : is_piece_length plen ≡ true) (short : length x ≤ longest_file) (room : layer_bytes (length x) plen ≤ length layer) where
  number_end : 0 ≡ end_number (history_of plen x) (length layer)
  unfolding history_of
  number_end = end_done (history_of plen x) (length layer) (says_possible (history_of plen x) (state_possible plen x good short)) room

  -- N, the root and the layer's size
  pub end_of : end_answer (history_of plen x) layer ≡ record { number = 0; length = length x; root = pieces_root x; layer_size = layer_bytes (length x) plen }
  unfolding history_of
  end_of = sym (end_taken (history_of plen x) layer (pieces_root x) (layer_bytes (length x) plen) number_end (sym (root_of_history plen x short)) refl)

  -- a file that has no layer writes nothing
  pub end_without : has_layer (length x) plen ≡ false → end_layer (history_of plen x) layer ≡ layer
  end_without t = sym (end_layer_lem (history_of plen x) layer layer number_end (last_none (history_of plen x) layer t'))
    where
      t' : has_layer (history_of plen x).length (history_of plen x).piece_length ≡ false
      t' = ap₂ has_layer (history_length plen x) (history_pieces plen x) ∙ t

  module _ (has : has_layer (length x) plen ≡ true) where
    has' : has_layer (history_of plen x).length (history_of plen x).piece_length ≡ true
    has' = ap₂ has_layer (history_length plen x) (history_pieces plen x) ∙ has

    longer : plen < length x
    unfolding has_layer
    longer = ltb-true plen (length x) has

    count_is : piece_count (length x) plen ≡ passed (length x) plen + 1
    unfolding passed piece_count
    count_is = let b = below_ceil (length x) plen 0 (pieces_some plen good) (omega (arith, longer, zero-mul plen)) in omega arith

    -- the last piece's hash goes behind those that were written
    pub end_with : end_layer (history_of plen x) layer ≡ pasted layer (32 * passed (length x) plen) (node (leaf_of x) (piece_layer plen) (passed (length x) plen))
    end_with =
        sym
        (end_layer_lem (history_of plen x) layer (pasted layer (32 * passed (length x) plen) (node (leaf_of x) (piece_layer plen) (passed (length x) plen))) number_end
        (last_put (history_of plen x) layer (pasted layer (32 * passed (length x) plen) (node (leaf_of x) (piece_layer plen) (passed (length x) plen)))
        (node (leaf_of x) (piece_layer plen) (passed (length x) plen)) (piece_layer plen) (32 * piece_count (length x) plen) has'
        (ap piece_layer (sym (history_pieces plen x)))
        (sym (last_node_lem plen x (piece_layer plen) (layer_within plen good) (omega (arith, longer)) ∙ ap (node (leaf_of x) (piece_layer plen)) last_index))
        (bytes_some (length x) plen has ∙ sym (ap₂ layer_bytes (history_length plen x) (history_pieces plen x)))
        (ap (λ (k : ℕ). pasted layer k (node (leaf_of x) (piece_layer plen) (passed (length x) plen))) (omega (arith, count_is)))))
      where
        last_index : piece_count (length x) (block_length * 2 ^ piece_layer plen) - 1 ≡ passed (length x) plen
        last_index = ap (λ (d : ℕ). piece_count (length x) d - 1) (sym (piece_length_form plen good).1) ∙ omega (arith, count_is)

    -- so the whole piece layer stands at the front
    pub layer_at_end : Written plen x layer → take (32 * piece_count (length x) plen) (end_layer (history_of plen x) layer) ≡ whole_layer x (piece_layer plen)
    unfolding Written whole_layer
    layer_at_end w =
        let size = (file_octets x (piece_layer plen) (passed (length x) plen)).size in
        let at : 32 * piece_count (length x) plen ≡ 32 * passed (length x) plen + length (node (leaf_of x) (piece_layer plen) (passed (length x) plen)) = omega (arith, size, count_is) in
        let c : passed (length x) plen + 1 ≡ covering (block_count (length x)) (piece_layer plen) =
        sym count_is ∙ ap (piece_count (length x)) (piece_length_form plen good).1 ∙ pieces_covering (length x) (piece_layer plen) in
        ap₂ (λ (k : ℕ) (l : List ℕ). take k l) at end_with
        ∙ take_pasted layer (node (leaf_of x) (piece_layer plen) (passed (length x) plen)) (32 * passed (length x) plen) (written_length plen x layer w)
        ∙ ap (λ (l : List ℕ). l ++ node (leaf_of x) (piece_layer plen) (passed (length x) plen)) w
        ∙ one_more x (piece_layer plen) (passed (length x) plen)
        ∙ ap (layer_of x (piece_layer plen)) c

    -- and what was written before stays
    pub written_asked : Written plen x layer → Written plen x (end_layer (history_of plen x) layer)
    unfolding Written
    written_asked w =
        ap (take (32 * passed (length x) plen)) end_with
        ∙ front_stays layer (node (leaf_of x) (piece_layer plen) (passed (length x) plen)) (32 * passed (length x) plen) (written_length plen x layer w) ∙ w

-- ---- what changes nothing

-- nothing is written before the first byte
pub empty_written : (plen : ℕ) (layer : List ℕ) → Written plen [] layer
unfolding Written layer_of
empty_written plen layer = rw (passed_none plen)

pub refused_state : (s : History) (b layer : List ℕ) → ((more_answer s b layer).number ≡ 0 → ⊥) → (more_answer s b layer).history ≡ s
unfolding more_answer
refused_state s b layer n = rw (ne_eqb (more_number s (length b) (length layer)) 0 n)

pub refused_layer : (s : History) (b layer : List ℕ) → ((more_answer s b layer).number ≡ 0 → ⊥) → more_layer s b layer ≡ layer
unfolding more_answer more_layer
refused_layer s b layer n = rw (ne_eqb (more_number s (length b) (length layer)) 0 n)

pub end_refused_layer : (s : History) (layer : List ℕ) → (end_number s (length layer) ≡ 0 → ⊥) → end_layer s layer ≡ layer
unfolding end_layer
end_refused_layer s layer n = rw (ne_eqb (end_number s (length layer)) 0 n)

-- asking for the end keeps what was written, whatever it answers
pub asked_written : (plen : ℕ) (x layer : List ℕ) → is_piece_length plen ≡ true → length x ≤ longest_file → Written plen x layer → Written plen x (end_layer (history_of plen x) layer)
asked_written plen x layer good short w = by_room (dec_le (layer_bytes (length x) plen) (length layer))
  where
    by_layer : layer_bytes (length x) plen ≤ length layer → (t : Bool) → has_layer (length x) plen ≡ t → Written plen x (end_layer (history_of plen x) layer)
    by_layer room true t = written_asked plen x layer good short room t w
    by_layer room false t = subst (Written plen x) (sym (end_without plen x layer good short room t)) w

    by_room : Dec (layer_bytes (length x) plen ≤ length layer) → Written plen x (end_layer (history_of plen x) layer)
    by_room (yes room) = by_layer room (has_layer (length x) plen) refl
    by_room (no g) =
        let e : layer_bytes (history_of plen x).length (history_of plen x).piece_length ≡ layer_bytes (length x) plen = ap₂ layer_bytes (history_length plen x) (history_pieces plen x) in
        let z = end_room (history_of plen x) (length layer) (says_possible (history_of plen x) (state_possible plen x good short)) (omega (arith, e)) in
        subst (Written plen x) (sym (end_refused_layer (history_of plen x) layer (λ q. omega (arith, q, z)))) w

-- a memory with the same hashes at its front has them written too
pub written_moved : (plen : ℕ) (x layer other : List ℕ) → take (32 * passed (length x) plen) other ≡ take (32 * passed (length x) plen) layer → Written plen x layer → Written plen x other
unfolding Written
written_moved plen x layer other e w = e ∙ w

-- ---- the empty file

pub root_zero : (s : History) → s.length ≡ 0 → zero_hash ≡ root_of s
unfolding root_of
root_zero s e = rw (eq-eqb s.length 0 e)

pub no_layer : (plen : ℕ) → has_layer 0 plen ≡ false
unfolding has_layer
no_layer plen = le-ltb plen 0 (omega arith)

pub no_bytes : (plen : ℕ) → layer_bytes 0 plen ≡ 0
no_bytes plen = sym (bytes_none 0 plen (no_layer plen))

pub no_root : pieces_root [] ≡ zero_hash
no_root = sym (root_of_history block_length [] (omega arith)) ∙ empty_root
  where
    empty_root : root_of (history_of block_length []) ≡ zero_hash
    empty_root = sym (root_zero (history_of block_length []) (history_length block_length []))

-- 02, request 1: what the calls that take bytes in bursts answer. Demand 1 of them, sentence by sentence; then each number by entry point,
-- exactly when it is given, in the order of 02. (kd_hashing_begin gives no number. What the answers beside 0 are: crates/running, file
-- Cuttings, and crates/history, file Histories.)
-- Assumes nothing.
use Rattle.std.specs.Prelude.{◌≡◌, refl, true, false, List, ◌↔◌, ℕ, suc, ◌+◌, ◌*◌, ◌%◌, ◌^◌, ◌≤◌, ◌<◌, length, replicate, eqb, ltb, leb}
use Rattle.std.proofs.Common.{ap, sym, ◌∙◌, inl, inr, arith, lt-ltb, le-ltb, ltb-true, ltb-false, le-leb, leb-true, leb-false, eq-eqb, eqb-true}
use Rattle.std.proofs.Math.Bool.{and-eq-true_iff}
use Rattle.std.proofs.Math.Decide.{dec_le, dec_lt}
use Rattle.std.proofs.lemmas.List.{length-replicate}
use Rattle.std.proofs.lemmas.Bool.{lt-leb}
use Rattle.octets.specs.Octets.{zero_hash}
use Rattle.numbers.specs.Numbers.{wrong_size, unusable, facts_out_of_range, no_room, InTable}
use Rattle.numbers.specs.Chain.{Chain, last, test, fault, decided, exactly_of, in_table_of}
use Rattle.limits.specs.Limits.{longest_file, longest_hashed}
use Rattle.running.specs.Bursts.{state_of, possible, more_answer as hashing_more, end_answer as hashing_end}
use Rattle.running.specs.BurstsLaws.{possible_says, state_total, state_tail}
use Rattle.running.specs.declared.Hashing.{Hashing}
use Rattle.tree.specs.Geometry.{block_length, is_piece_length, piece_layer, has_layer, piece_count}
use Rattle.tree.proofs.GeometryLaws.{piece_length_form, piece_length_accepted}
use Rattle.history.specs.Answers.{no_history, possible_counts, Possible, passed, no_room_for, more_number, more_layer, layer_bytes, layer_size, end_number, end_layer, begin_answer as history_begin, more_answer as history_more, end_answer as history_end}
use Rattle.history.proofs.AnswersLaws as AnswersLaws
use Rattle.history.proofs.DecidingLaws.{end_refused}
use Rattle.history.specs.HistoryOf.{history_of}
use Rattle.history.proofs.LastLaws.{history_length}
use Rattle.history.proofs.HistoriesLaws.{state_possible, refused_state, refused_layer, end_refused_layer}
use Rattle.history.specs.declared.History.{History}
use Rattle.history.specs.declared.HistoryEnd.{HistoryEnd}
use Rattle.numbers.specs.Tests.{either, not_both, says_not, in_turn, both, alone}

-- ---- what the tests say

-- the counts of a running hash
hashing_possible : (s : Hashing) → (possible s.tail_size s.total ≡ true) ↔ ((s.total < suc longest_hashed) × (s.tail_size ≡ s.total % 64))
unfolding possible
hashing_possible s = (possible_says s.tail_size s.total, λ w. rw (lt-ltb s.total (suc longest_hashed) w.0, eq-eqb s.tail_size (s.total % 64) w.1))

-- those of a history
history_possible : (s : History) → (possible_counts s ≡ true) ↔ Possible s
history_possible s = (AnswersLaws.possible_says s, AnswersLaws.says_possible s)

-- a piece length
piece_length_exactly : (plen : ℕ) → (is_piece_length plen ≡ true) ↔ ((p : ℕ) × (p ≤ 10) × (plen ≡ block_length * 2 ^ p))
piece_length_exactly plen = (λ t. (let f = piece_length_form plen t in (piece_layer plen, f.0, f.1)), λ w. rw w.2 (piece_length_accepted w.0 w.1))

module _ (s : History) (k m : ℕ) where
  -- a burst of k bytes makes a hash due, and there is no room for it in a layer of m bytes,
  due_no_room : (no_room_for s k m ≡ true)
      ↔ ((passed s.length s.piece_length < passed (s.length + k) s.piece_length) × (m < 32 * passed (s.length + k) s.piece_length))
  unfolding no_room_for
  due_no_room = (
    λ t.
        (let w = (and-eq-true_iff (ltb (passed s.length s.piece_length) (passed (s.length + k) s.piece_length)) (ltb m (32 * passed (s.length + k) s.piece_length))).0 t in
        (ltb-true (passed s.length s.piece_length) (passed (s.length + k) s.piece_length) w.0, ltb-true m (32 * passed (s.length + k) s.piece_length) w.1)),
    λ w.
        rw (lt-ltb (passed s.length s.piece_length) (passed (s.length + k) s.piece_length) w.0, lt-ltb m (32 * passed (s.length + k) s.piece_length) w.1),
  )

  -- or there is, if it makes one due
  due_room : (no_room_for s k m ≡ false)
      ↔ (passed s.length s.piece_length < passed (s.length + k) s.piece_length → 32 * passed (s.length + k) s.piece_length ≤ m)
  due_room = (
    λ f l. elim (dec_le (32 * passed (s.length + k) s.piece_length) m) [ yes g ↦ g | no g ↦ absurd (not_both (due_no_room.1 (l, omega arith)) f) ],
    λ g. elim (either (no_room_for s k m)) [ inl t ↦ (let w = due_no_room.0 t in absurd (omega (arith, g w.0, w.1))) | inr f ↦ f ],
  )

module _ (s : History) (m : ℕ) where
  some_bytes : s.piece_length < s.length → layer_size s ≡ 32 * piece_count s.length s.piece_length
  unfolding layer_size layer_bytes has_layer
  some_bytes l = rw (lt-ltb s.piece_length s.length l)

  no_bytes : s.length ≤ s.piece_length → layer_size s ≡ 0
  unfolding layer_size layer_bytes has_layer
  no_bytes l = rw (le-ltb s.piece_length s.length l)

  -- the history has a piece layer, and it doesn't fit m bytes,
  layer_no_room : (ltb m (layer_size s) ≡ true) ↔ ((s.piece_length < s.length) × (m < 32 * piece_count s.length s.piece_length))
  layer_no_room = (
    λ t.
        (let l = ltb-true m (layer_size s) t in
        elim (dec_lt s.piece_length s.length) [ yes g ↦ (g, omega (arith, l, some_bytes g)) | no g ↦ absurd (omega (arith, l, no_bytes (omega arith))) ]),
    λ w. lt-ltb m (layer_size s) (omega (arith, w.1, some_bytes w.0)),
  )

  -- or it fits, if there is one
  layer_room : (ltb m (layer_size s) ≡ false) ↔ (s.piece_length < s.length → 32 * piece_count s.length s.piece_length ≤ m)
  layer_room = (
    λ f l. omega (arith, ltb-false m (layer_size s) f, some_bytes l),
    λ g. elim (either (ltb m (layer_size s))) [ inl t ↦ (let w = layer_no_room.0 t in absurd (omega (arith, g w.0, w.1))) | inr f ↦ f ],
  )

-- ---- the numbers as chains of tests

abbrev hashing_more_chain : Hashing → List ℕ → Chain
hashing_more_chain s y = test (possible s.tail_size s.total) unusable (test (ltb (s.total + length y) (suc longest_hashed)) wrong_size (last 0))

hashing_more_tests : (s : Hashing) (y : List ℕ) → (hashing_more s y).number ≡ decided (hashing_more_chain s y)
unfolding hashing_more
hashing_more_tests s y =
    elim (either (possible s.tail_size s.total)) [
      | inl t ↦ elim (either (ltb (s.total + length y) (suc longest_hashed))) [ inl l ↦ rw (t, l) | inr l ↦ rw (t, l) ]
      | inr f ↦ rw f
    ]

abbrev hashing_end_chain : Hashing → Chain
hashing_end_chain s = test (possible s.tail_size s.total) unusable (last 0)

hashing_end_tests : (s : Hashing) → (hashing_end s).number ≡ decided (hashing_end_chain s)
unfolding hashing_end
hashing_end_tests s = elim (either (possible s.tail_size s.total)) [ inl t ↦ rw t | inr f ↦ rw f ]

abbrev history_begin_chain : ℕ → Chain
history_begin_chain plen = test (is_piece_length plen) facts_out_of_range (last 0)

history_begin_tests : (plen : ℕ) → (history_begin plen).number ≡ decided (history_begin_chain plen)
unfolding history_begin
history_begin_tests plen = elim (either (is_piece_length plen)) [ inl t ↦ rw t | inr f ↦ rw f ]

abbrev history_more_chain : History → List ℕ → List ℕ → Chain
history_more_chain s y layer =
    test (possible_counts s) unusable (test (leb (s.length + length y) longest_file) facts_out_of_range (fault (no_room_for s (length y) (length layer)) no_room (last 0)))

history_more_tests : (s : History) (y layer : List ℕ) → (history_more s y layer).number ≡ decided (history_more_chain s y layer)
unfolding history_more more_number
history_more_tests s y layer = refl

end_number_lem : (s : History) (layer : List ℕ) → (history_end s layer).number ≡ end_number s (length layer)
unfolding history_end
end_number_lem s layer =
    elim (either (eqb (end_number s (length layer)) 0)) [ inl t ↦ rw t (sym (eqb-true (end_number s (length layer)) 0 t)) | inr f ↦ rw f ]

abbrev history_end_chain : History → List ℕ → Chain
history_end_chain s layer = test (possible_counts s) unusable (fault (ltb (length layer) (layer_size s)) no_room (last 0))

history_end_tests : (s : History) (layer : List ℕ) → (history_end s layer).number ≡ decided (history_end_chain s layer)
unfolding end_number
history_end_tests s layer = end_number_lem s layer

-- ---- 00, demand 1: "answers with a number from the table,"

pub hashing_more_in_table : (s : Hashing) (y : List ℕ) → InTable (hashing_more s y).number
hashing_more_in_table s y = in_table_of (hashing_more_chain s y) (hashing_more_tests s y) refl

pub hashing_end_in_table : (s : Hashing) → InTable (hashing_end s).number
hashing_end_in_table s = in_table_of (hashing_end_chain s) (hashing_end_tests s) refl

pub history_begin_in_table : (plen : ℕ) → InTable (history_begin plen).number
history_begin_in_table plen = in_table_of (history_begin_chain plen) (history_begin_tests plen) refl

pub history_more_in_table : (s : History) (y layer : List ℕ) → InTable (history_more s y layer).number
history_more_in_table s y layer = in_table_of (history_more_chain s y layer) (history_more_tests s y layer) refl

pub history_end_in_table : (s : History) (layer : List ℕ) → InTable (history_end s layer).number
history_end_in_table s layer = in_table_of (history_end_chain s layer) (history_end_tests s layer) refl

-- ---- demand 1: "and on a refusal changes no byte it was lent,"; 02: "None changes anything." The state comes back as it was given, and
-- the lent layer stays.

pub hashing_more_refused : (s : Hashing) (y : List ℕ) → ((hashing_more s y).number ≡ 0 → ⊥) → (hashing_more s y).hashing ≡ s
unfolding hashing_more
hashing_more_refused s y ne =
    elim (either (possible s.tail_size s.total)) [
      | inl t ↦ elim (either (ltb (s.total + length y) (suc longest_hashed))) [ inl l ↦ absurd (ne (rw (t, l))) | inr l ↦ rw (t, l) ]
      | inr f ↦ rw f
    ]

pub history_more_refused : (s : History) (y layer : List ℕ) → ((history_more s y layer).number ≡ 0 → ⊥) → ((history_more s y layer).history ≡ s) × (more_layer s y layer ≡ layer)
history_more_refused s y layer ne = (refused_state s y layer ne, refused_layer s y layer ne)

pub history_end_refused : (s : History) (layer : List ℕ) → ((history_end s layer).number ≡ 0 → ⊥) → end_layer s layer ≡ layer
history_end_refused s layer ne = end_refused_layer s layer (λ z. ne (end_number_lem s layer ∙ z))

-- 01: "Beside a refusal every count, size and value is zero"

pub beside_hashing_end : (s : Hashing) → ((hashing_end s).number ≡ 0 → ⊥) → (hashing_end s).hash ≡ zero_hash
unfolding hashing_end
beside_hashing_end s ne = elim (either (possible s.tail_size s.total)) [ inl t ↦ absurd (ne (rw t)) | inr f ↦ rw f ]

pub beside_history_begin : (plen : ℕ) → ((history_begin plen).number ≡ 0 → ⊥) → (history_begin plen).history ≡ no_history
unfolding history_begin
beside_history_begin plen ne = elim (either (is_piece_length plen)) [ inl t ↦ absurd (ne (rw t)) | inr f ↦ rw f ]

pub beside_history_end : (s : History) (layer : List ℕ) → ((history_end s layer).number ≡ 0 → ⊥)
    → ((history_end s layer).length ≡ 0) × ((history_end s layer).root ≡ zero_hash) × ((history_end s layer).layer_size ≡ 0)
beside_history_end s layer ne =
    let e = sym (end_refused s layer (end_number s (length layer)) refl (λ z. ne (end_number_lem s layer ∙ z))) in
    (ap (λ (a : HistoryEnd). a.length) e, ap (λ (a : HistoryEnd). a.root) e, ap (λ (a : HistoryEnd). a.layer_size) e)

-- ---- 02: "a state whose counts no bursts give, 9, before both": which counts are those that some bursts give. After the bytes x, in
-- whatever bursts they came, the state is `state_of x`, and of a history `history_of plen x` (`after_all_lem` in Cuttings, `state_of_all` in
-- Histories).

-- n bytes
zeros : ℕ → List ℕ
zeros n = replicate n 0

zeros_length : (n : ℕ) → length (zeros n) ≡ n
unfolding zeros
zeros_length n = length-replicate n 0

pub hashing_counts : (s : Hashing)
    → ((s.total < suc longest_hashed) × (s.tail_size ≡ s.total % 64))
    ↔ ((x : List ℕ) × (length x < suc longest_hashed) × (s.total ≡ (state_of x).total) × (s.tail_size ≡ (state_of x).tail_size))
hashing_counts s = (
  λ w.
      (let x = zeros s.total in
      let e = zeros_length s.total in
      (x, omega (arith, e, w.0), omega (arith, e, state_total x), omega (arith, e, w.1, state_tail x))),
  λ w. (omega (arith, w.1, w.2, state_total w.0), omega (arith, w.2, w.3, state_total w.0, state_tail w.0)),
)

pub history_counts : (s : History)
    → Possible s
    ↔ ((x : List ℕ) × (is_piece_length s.piece_length ≡ true) × (length x ≤ longest_file) × (s.length ≡ (history_of s.piece_length x).length)
    × (s.block.total ≡ (history_of s.piece_length x).block.total) × (s.block.tail_size ≡ (history_of s.piece_length x).block.tail_size))
history_counts s = (
  λ w.
      (let x = zeros s.length in
      let e = zeros_length s.length in
      let k : length (zeros s.length) ≤ longest_file = omega (arith, e, w.short) in
      let h = history_length s.piece_length (zeros s.length) in
      let p = state_possible s.piece_length (zeros s.length) w.pieces k in
      (x, w.pieces, k, omega (arith, e, h), omega (arith, e, h, w.inside, p.inside), omega (arith, e, h, w.inside, p.inside, w.tail, p.tail))),
  λ w.
      (let h = history_length s.piece_length w.0 in
      let p = state_possible s.piece_length w.0 w.1 w.2 in
      record {
        pieces = w.1;
        short = omega (arith, w.2, w.3, h);
        inside = omega (arith, w.3, w.4, p.inside);
        tail = omega (arith, w.4, w.5, p.tail);
      }),
)

-- ---- kd_hashing_more: 9, 4, 0

module _ (s : Hashing) (y : List ℕ) where
  -- "a state whose counts no bursts give"
  pub hashing_more_9 : ((hashing_more s y).number ≡ unusable) ↔ ((s.total < suc longest_hashed) × (s.tail_size ≡ s.total % 64) → ⊥)
  hashing_more_9 = in_turn (exactly_of (hashing_more_chain s y) unusable (hashing_more_tests s y) refl) (says_not (hashing_possible s))

  -- 01: a string above 2^61 - 1 bytes is answered 4
  pub hashing_more_4 : ((hashing_more s y).number ≡ wrong_size) ↔ (((s.total < suc longest_hashed) × (s.tail_size ≡ s.total % 64)) × (suc longest_hashed ≤ s.total + length y))
  hashing_more_4 =
      in_turn (exactly_of (hashing_more_chain s y) wrong_size (hashing_more_tests s y) refl)
      (both (hashing_possible s) (ltb-false (s.total + length y) (suc longest_hashed), le-ltb (s.total + length y) (suc longest_hashed)))

  pub hashing_more_0 : ((hashing_more s y).number ≡ 0) ↔ (((s.total < suc longest_hashed) × (s.tail_size ≡ s.total % 64)) × (s.total + length y < suc longest_hashed))
  hashing_more_0 =
      in_turn (exactly_of (hashing_more_chain s y) 0 (hashing_more_tests s y) refl)
      (both (hashing_possible s) (alone (ltb-true (s.total + length y) (suc longest_hashed), lt-ltb (s.total + length y) (suc longest_hashed))))

-- ---- kd_hashing_end: 9, 0

module _ (s : Hashing) where
  -- "a state whose counts no bursts give"
  pub hashing_end_9 : ((hashing_end s).number ≡ unusable) ↔ ((s.total < suc longest_hashed) × (s.tail_size ≡ s.total % 64) → ⊥)
  hashing_end_9 = in_turn (exactly_of (hashing_end_chain s) unusable (hashing_end_tests s) refl) (says_not (hashing_possible s))

  pub hashing_end_0 : ((hashing_end s).number ≡ 0) ↔ ((s.total < suc longest_hashed) × (s.tail_size ≡ s.total % 64))
  hashing_end_0 =
      in_turn (exactly_of (hashing_end_chain s) 0 (hashing_end_tests s) refl) (alone (hashing_possible s))

-- ---- kd_history_begin: 10, 0

module _ (plen : ℕ) where
  -- "a bad piece length at the start": it isn't 16384·2^p for a p up to 10
  pub history_begin_10 : ((history_begin plen).number ≡ facts_out_of_range) ↔ ((p : ℕ) × (p ≤ 10) × (plen ≡ block_length * 2 ^ p) → ⊥)
  history_begin_10 = in_turn (exactly_of (history_begin_chain plen) facts_out_of_range (history_begin_tests plen) refl) (says_not (piece_length_exactly plen))

  pub history_begin_0 : ((history_begin plen).number ≡ 0) ↔ ((p : ℕ) × (p ≤ 10) × (plen ≡ block_length * 2 ^ p))
  history_begin_0 =
      in_turn (exactly_of (history_begin_chain plen) 0 (history_begin_tests plen) refl) (alone (piece_length_exactly plen))

-- ---- kd_history_more: 9, 10, 11, 0

module _ (s : History) (y layer : List ℕ) where
  -- "a state whose counts no bursts give, 9, before both"
  pub history_more_9 : ((history_more s y layer).number ≡ unusable) ↔ (Possible s → ⊥)
  history_more_9 = in_turn (exactly_of (history_more_chain s y layer) unusable (history_more_tests s y layer) refl) (says_not (history_possible s))

  -- "a burst past 2^30", since request 6 past 2^34
  pub history_more_10 : ((history_more s y layer).number ≡ facts_out_of_range) ↔ (Possible s × (longest_file < s.length + length y))
  history_more_10 =
      in_turn (exactly_of (history_more_chain s y layer) facts_out_of_range (history_more_tests s y layer) refl)
      (both (history_possible s) (leb-false (s.length + length y) longest_file, lt-leb (s.length + length y) longest_file))

  -- "a burst … whose hashes don't fit the lent layer": the history runs past a piece, and there is no room for the hashes of all passed so far
  pub history_more_11 : ((history_more s y layer).number ≡ no_room)
      ↔ (Possible s × (s.length + length y ≤ longest_file) × (passed s.length s.piece_length < passed (s.length + length y) s.piece_length)
      × (length layer < 32 * passed (s.length + length y) s.piece_length))
  history_more_11 =
      let c = exactly_of (history_more_chain s y layer) no_room (history_more_tests s y layer) refl in (
        λ e.
            (let t = c.0 e in
            let w = (due_no_room s (length y) (length layer)).0 t.1.1 in
            ((history_possible s).0 t.0, leb-true (s.length + length y) longest_file t.1.0, w.0, w.1)),
        λ w. c.1 ((history_possible s).1 w.0, (le-leb (s.length + length y) longest_file w.1, (due_no_room s (length y) (length layer)).1 (w.2, w.3))),
      )

  pub history_more_0 : ((history_more s y layer).number ≡ 0)
      ↔ (Possible s × (s.length + length y ≤ longest_file)
      × (passed s.length s.piece_length < passed (s.length + length y) s.piece_length → 32 * passed (s.length + length y) s.piece_length ≤ length layer))
  history_more_0 =
      let c = exactly_of (history_more_chain s y layer) 0 (history_more_tests s y layer) refl in (
        λ e.
            (let t = c.0 e in
            ((history_possible s).0 t.0, leb-true (s.length + length y) longest_file t.1.0, (due_room s (length y) (length layer)).0 t.1.1.0)),
        λ w. c.1 ((history_possible s).1 w.0, (le-leb (s.length + length y) longest_file w.1, ((due_room s (length y) (length layer)).1 w.2, refl))),
      )

-- ---- kd_history_end: 9, 11, 0

module _ (s : History) (layer : List ℕ) where
  -- "a state whose counts no bursts give, 9, before both"
  pub history_end_9 : ((history_end s layer).number ≡ unusable) ↔ (Possible s → ⊥)
  history_end_9 = in_turn (exactly_of (history_end_chain s layer) unusable (history_end_tests s layer) refl) (says_not (history_possible s))

  -- "a … end whose hashes don't fit the lent layer": the history is longer than the piece length, and there is no room for all its hashes
  pub history_end_11 : ((history_end s layer).number ≡ no_room)
      ↔ (Possible s × (s.piece_length < s.length) × (length layer < 32 * piece_count s.length s.piece_length))
  history_end_11 =
      let c = exactly_of (history_end_chain s layer) no_room (history_end_tests s layer) refl in (
        λ e.
            (let t = c.0 e in
            let w = (layer_no_room s (length layer)).0 t.1 in
            ((history_possible s).0 t.0, w.0, w.1)),
        λ w. c.1 ((history_possible s).1 w.0, (layer_no_room s (length layer)).1 (w.1, w.2)),
      )

  pub history_end_0 : ((history_end s layer).number ≡ 0)
      ↔ (Possible s × (s.piece_length < s.length → 32 * piece_count s.length s.piece_length ≤ length layer))
  history_end_0 =
      let c = exactly_of (history_end_chain s layer) 0 (history_end_tests s layer) refl in (
        λ e. (let t = c.0 e in ((history_possible s).0 t.0, (layer_room s (length layer)).0 t.1.0)),
        λ w. c.1 ((history_possible s).1 w.0, ((layer_room s (length layer)).1 w.1, refl)),
      )

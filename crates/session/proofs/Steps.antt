-- Each answer of the code, by one law over plain variables.
-- Assumes nothing.
use Rattle.std.specs.Prelude.{◌≡◌, refl, Bool, true, false, cond, List, [], ◌∷◌, ◌++◌, ℕ, ◌+◌, ◌-◌, ◌≤◌, ◌<◌, length, take, set, leb}
use Rattle.std.proofs.Common.{ap, ap₂, sym, ◌∙◌, subst, arith, add-one, take-suc-set, length-take-le, get_or-take, eq-eqb, ne_eqb, le-leb}
use Rattle.std.proofs.lemmas.Bool.{lt-leb}
use Rattle.octets.specs.Octets.{cut, number_at}
use Rattle.octets.specs.OctetsLaws.{number_same, cut_cut}
use Rattle.numbers.specs.Numbers.{refused, done, no_message, facts_out_of_range}
use Rattle.numbers.specs.declared.Answer.{Answer}
use Rattle.tree.specs.Geometry.{block_count}
use Rattle.store.specs.Store.{open_answer, open_after, opened, facts_in_range, store_size}
use Rattle.header.specs.Header.{hashes_id}
use Rattle.messages.specs.Take.{take_answer, take_after}
use Rattle.session.specs.declared.Phase.{Phase}
use Rattle.session.specs.declared.Phase.TheVariants.{Open, Opening, Inside, Body, Stopped}
use Rattle.session.specs.declared.Stepped.{Stepped}
use Rattle.session.specs.Session.{Outcome, goes, says, outside, inside, opening, opening_byte, body_byte, step, goes_at, says_at, Due, Follows, max_blocks, max_store, max_message, length_in, piece_in, root_in}
use Rattle.session.specs.RoomLaws.{store_room, open_with_room}

-- ---- the two forms of an answer

pub goes_follows : (o : Outcome) (r : Stepped) (s room got : List ℕ) (x : Phase) (at : ℕ) → r ≡ goes_at x at → o ≡ goes x got s → take at room ≡ got → Due x at → Follows o r s room
goes_follows o r s room got x at er eo eg d = rw (er, eo, ← eg) (record { session = refl; line = refl; due = d })

pub says_follows : (o : Outcome) (r : Stepped) (s room : List ℕ) (x : Phase) (a : Answer) → r ≡ says_at x a → o ≡ says x a s → Due x 0 → Follows o r s room
says_follows o r s room x a er eo d = rw (er, eo) (record { session = refl; line = refl; due = d })

-- ---- a kind byte outside a message

module _ (opened : Bool) (s room : List ℕ) (k : ℕ) (r : Stepped) where
  pub outside_opening : k ≡ 1 → r ≡ goes_at (Opening 43) 0 → Follows (outside opened s k) r s room
  unfolding outside
  outside_opening e er = goes_follows _ r s room [] (Opening 43) 0 er (simp (eq-eqb k 1 e)) refl refl

  pub outside_header : (k ≡ 1 → ⊥) → opened ≡ true → k ≡ 2 → 0 < length room → r ≡ goes_at (Body 47) 1 → Follows (outside opened s k) r s (set room 0 hashes_id)
  unfolding outside
  outside_header n t e l er =
      goes_follows _ r s (set room 0 hashes_id) (hashes_id ∷ []) (Body 47) 1 er (simp (ne_eqb k 1 n, t, eq-eqb k 2 e)) (take-suc-set room 0 hashes_id l) (omega arith)

  pub outside_other : (k ≡ 1 → ⊥) → opened ≡ true → (k ≡ 2 → ⊥) → r ≡ says_at Stopped (refused no_message) → Follows (outside opened s k) r s room
  unfolding outside
  outside_other n t m er = says_follows _ r s room Stopped (refused no_message) er (simp (ne_eqb k 1 n, t, ne_eqb k 2 m)) (omega arith)

  pub outside_fresh : (k ≡ 1 → ⊥) → opened ≡ false → r ≡ says_at Stopped (refused no_message) → Follows (outside opened s k) r s room
  unfolding outside
  outside_fresh n t er = says_follows _ r s room Stopped (refused no_message) er (simp (ne_eqb k 1 n, t)) (omega arith)

-- ---- a kind byte inside a message

module _ (s room : List ℕ) (at k : ℕ) (r : Stepped) (l : at ≤ length room) where
  gathered : length (take at room) ≡ at
  gathered = length-take-le at room l

  pub inside_hash : k ≡ 3 → at + 32 ≤ max_message → r ≡ goes_at (Body 31) at → Follows (inside (take at room) s k) r s room
  unfolding inside
  inside_hash e m er =
      goes_follows _ r s room (take at room) (Body 31) at er (simp (eq-eqb k 3 e, gathered, le-leb (at + 32) max_message m)) refl (omega arith)

  pub inside_full : k ≡ 3 → max_message < at + 32 → r ≡ says_at Stopped (refused no_message) → Follows (inside (take at room) s k) r s room
  unfolding inside
  inside_full e m er =
      says_follows _ r s room Stopped (refused no_message) er (simp (eq-eqb k 3 e, gathered, lt-leb (at + 32) max_message m)) (omega arith)

  pub inside_end : (s' : List ℕ) (a : Answer) (j : ℕ) → j ≡ at → (k ≡ 3 → ⊥) → k ≡ 4 → a ≡ take_answer s (take j room) → s' ≡ take_after s (take j room) → r ≡ says_at Open a
      → Follows (inside (take at room) s k) r s' room
  unfolding inside
  inside_end s' a j ej n e fa fs er =
      let ea : a ≡ take_answer s (take at room) = rw ej at fa in
      let es : s' ≡ take_after s (take at room) = rw ej at fs in
      says_follows _ r s' room Open a er (simp (ne_eqb k 3 n, eq-eqb k 4 e) (ap₂ (λ (b : Answer) (t : List ℕ). says Open b t) (sym ea) (sym es))) (omega arith)

  pub inside_other : (k ≡ 3 → ⊥) → (k ≡ 4 → ⊥) → r ≡ says_at Stopped (refused no_message) → Follows (inside (take at room) s k) r s room
  unfolding inside
  inside_other n m er = says_follows _ r s room Stopped (refused no_message) er (simp (ne_eqb k 3 n, ne_eqb k 4 m)) (omega arith)

-- ---- a whole opening

-- its facts, read from the room
number_front : (room : List ℕ) (a k : ℕ) → a + k ≤ 44 → number_at room a k ≡ number_at (take 44 room) a k
number_front room a k h = number_same room (take 44 room) a a k (λ i l. sym (get_or-take 44 room (a + i) 0 (omega arith)))

cut_front : (room : List ℕ) → cut room 12 32 ≡ cut (take 44 room) 12 32
unfolding cut
cut_front room = sym (cut_cut room 0 44 12 32 (omega arith))

module _ (s room : List ℕ) (n : ℕ) (r : Stepped) (en : n ≡ number_at room 0 8) where
  len_in : n ≡ length_in (take 44 room)
  len_in = en ∙ number_front room 0 8 (omega arith)

  pub opening_large : max_blocks < block_count n → r ≡ says_at Stopped (refused facts_out_of_range) → Follows (opening (take 44 room) s) r s room
  unfolding opening
  opening_large m er =
      says_follows _ r s room Stopped (refused facts_out_of_range) er
      (simp (← len_in, lt-leb (block_count n) max_blocks m)) (omega arith)

  module _ (plen : ℕ) (root s' : List ℕ) (a : Answer) (few : block_count n ≤ max_blocks) (room_for : max_store ≤ length s) (ep : plen ≡ number_at room 8 4)
      (et : root ≡ cut room 12 32) (ea : a ≡ open_answer s n plen) (es : s' ≡ open_after s n plen root) where
    piece_in_lem : plen ≡ piece_in (take 44 room)
    piece_in_lem = ep ∙ number_front room 8 4 (omega arith)

    root_in_lem : root ≡ root_in (take 44 room)
    root_in_lem = et ∙ cut_front room

    -- with room for the store the facts alone decide
    answer_is : a ≡ cond (facts_in_range n plen) (done 1) (refused facts_out_of_range)
    answer_is = ea ∙ open_with_room s n plen room_for few

    fits : leb (store_size n) (length s) ≡ true
    fits = le-leb (store_size n) (length s) (omega (arith, store_room n few))

    in_range : (t : Bool) (b : Answer) → facts_in_range n plen ≡ t → b ≡ cond t (done 1) (refused facts_out_of_range) → b.number ≡ 0 → (facts_in_range n plen ≡ true) × (b ≡ done 1)
    in_range true b f e z = (f, e)
    in_range false b f e z = let w : facts_out_of_range ≡ 0 = ap (λ (y : Answer). y.number) (sym e) ∙ z in let v : ⊥ = omega arith in absurd v

    not_in_range : (t : Bool) (b : Answer) → facts_in_range n plen ≡ t → b ≡ cond t (done 1) (refused facts_out_of_range) → (b.number ≡ 0 → ⊥) → facts_in_range n plen ≡ false
    not_in_range true b f e z = absurd (z (ap (λ (y : Answer). y.number) e))
    not_in_range false b f e z = f

    pub opening_done : a.number ≡ 0 → r ≡ says_at Open a → Follows (opening (take 44 room) s) r s' room
    unfolding opening open_after
    opening_done z er =
        let w = in_range (facts_in_range n plen) a refl answer_is z in
        let k : s' ≡ opened s n plen root = es ∙ rw (w.0, fits) refl in
        says_follows _ r s' room Open a er
        (rw (← len_in, ← piece_in_lem, ← root_in_lem, le-leb (block_count n) max_blocks few, w.0, w.1, k) refl) (omega arith)

    pub opening_refused : (a.number ≡ 0 → ⊥) → r ≡ says_at Stopped (refused facts_out_of_range) → Follows (opening (take 44 room) s) r s' room
    unfolding opening open_after
    opening_refused z er =
        let w = not_in_range (facts_in_range n plen) a refl answer_is z in
        let k : s' ≡ s = es ∙ rw w refl in
        says_follows _ r s' room Stopped (refused facts_out_of_range) er
        (rw (← len_in, ← piece_in_lem, le-leb (block_count n) max_blocks few, w, k) refl) (omega arith)

-- ---- a body's byte

module _ (s room : List ℕ) (at left b : ℕ) (r : Stepped) (l : at < length room) where
  one_more : take (at + 1) (set room at b) ≡ take at room ++ (b ∷ [])
  one_more = rw add-one (take-suc-set room at b l)

  pub opening_more : (left ≡ 0 → ⊥) → at + left ≡ 43 → r ≡ goes_at (Opening (left - 1)) (at + 1) → Follows (opening_byte left (take at room ++ (b ∷ [])) s) r s (set room at b)
  unfolding opening_byte
  opening_more n d er =
      goes_follows _ r s (set room at b) (take at room ++ (b ∷ [])) (Opening (left - 1)) (at + 1) er (simp (ne_eqb left 0 n)) one_more (omega arith)

  pub opening_last : (s' : List ℕ) → left ≡ 0 → at + left ≡ 43 → Follows (opening (take 44 (set room at b)) s) r s' (set room at b) → Follows (opening_byte left (take at room ++ (b ∷ [])) s) r s' (set room at b)
  unfolding opening_byte
  opening_last s' z d f =
      let q : at + 1 ≡ 44 = omega arith in
      rw (eq-eqb left 0 z) (subst (λ (g : List ℕ). Follows (opening g s) r s' (set room at b)) (ap (λ (j : ℕ). take j (set room at b)) (sym q) ∙ one_more) f)

  pub body_more : (left ≡ 0 → ⊥) → at + left < max_message → r ≡ goes_at (Body (left - 1)) (at + 1) → Follows (body_byte left (take at room ++ (b ∷ [])) s) r s (set room at b)
  unfolding body_byte
  body_more n d er =
      goes_follows _ r s (set room at b) (take at room ++ (b ∷ [])) (Body (left - 1)) (at + 1) er (simp (ne_eqb left 0 n)) one_more (omega arith)

  pub body_last : left ≡ 0 → at + left < max_message → r ≡ goes_at Inside (at + 1) → Follows (body_byte left (take at room ++ (b ∷ [])) s) r s (set room at b)
  unfolding body_byte
  body_last z d er =
      goes_follows _ r s (set room at b) (take at room ++ (b ∷ [])) Inside (at + 1) er (simp (eq-eqb left 0 z)) one_more (omega arith)

-- ---- the phase decides

pub by_phase : {x y : Phase} {r : Stepped} {s' room' : List ℕ} (got s : List ℕ) (b : ℕ) → x ≡ y → Follows (step y got s b) r s' room' → Follows (step x got s b) r s' room'
by_phase got s b e f = rw e f

pub due_of : {x y : Phase} (at : ℕ) → x ≡ y → Due x at → Due y at
due_of at e d = rw e at d

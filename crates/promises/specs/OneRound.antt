-- 02, request 14: "One round alone doesn't give this, because a message without an anchor is dropped.": the two messages of 01's session on
-- B=5, (0,0,4,1) and (2,0,2,0), offered once each in both orders. One store holds what the other lacks, and no pair is shown.
-- Assumes nothing.
use Rattle.std.specs.Prelude.{◌≡◌, false, ◌↔◌, ◌⊎◌, ℕ, ◌+◌, ◌*◌, ◌≤◌, ◌<◌, eqb, List, [], ◌∷◌, ◌++◌}
use Rattle.std.proofs.Math.Path.{refl, ap, ap₂, sym}
use Rattle.std.proofs.Common.{◌∙◌, subst, length-append, lit<, lit≤, arith, le-leb, ne_eqb}
use Rattle.std.proofs.Math.Bool.{true}
use Rattle.std.proofs.lemmas.Bool.{false≢true}
use Rattle.std.proofs.Math.Logic.{inl, inr}
use Rattle.std.proofs.Math.ListN.{length}
use Rattle.octets.specs.Octets.{Octets, cut, be, number_at, zero_hash}
use Rattle.octets.specs.OctetsLaws.{same_eq, be_octets, append_octets, cut_cut, cut_whole, cut_append_left, cut_append_right, one_byte}
use Rattle.numbers.specs.Numbers.{no_anchor}
use Rattle.sha256.specs.Sha256.{pair_hash}
use Rattle.sha256.specs.Sha256Laws.{pair_octets}
use Rattle.tree.specs.Geometry.{ceil_div, block_count, height_from, height, node_number, covering, piece_layer, is_piece_length}
use Rattle.tree.specs.Values.{node}
use Rattle.cells.specs.Cells.{held_at, hash_at}
use Rattle.cells.specs.Entries.{Entry, agrees}
use Rattle.cells.specs.EntriesLaws.{In, here, there, no_entry, agrees_held, agrees_free}
use Rattle.store.specs.Store.{usable, facts_root, blocks_of, height_of, positions, facts_in_range, store_size, open_answer, open_after, opened, Facts}
use Rattle.store.specs.StoreLaws.{facts_usable, opened_facts, opened_facts_root, opened_blocks, opened_height, opened_held, opened_hash}
use Rattle.settling.specs.Subtree.{subtree}
use Rattle.settling.specs.SubtreeLaws.{run_leaf_in}
use Rattle.settling.specs.Path.{ancestor, risen, path}
use Rattle.header.specs.declared.Header.{Header}
use Rattle.header.specs.declared.Place.{Place}
use Rattle.header.specs.Header.{hashes_id, header_size, header_of, message_size, place_of, rules_kept, length_rule, index_rule}
use Rattle.messages.specs.Padded.{all_from, run_padded, uncles_padded}
use Rattle.messages.specs.Take.{run_of, given, settled, anchor, worked, padded, take_number, take_after, place_in}
use Rattle.words.specs.Held.{Holds, Lacks}
use Rattle.words.specs.History.{Bytes}
use Rattle.words.specs.Hearing.{MessageSet, Among, first, later, Round}
use Rattle.words.specs.Messages.{hash_in, Settles, in_run}
use Rattle.words.specs.Shown.{Source, held_by, by_message, Gives, Shown}
use Rattle.knowledge.specs.TakenWhen.{Formed, Right, right_then_taken, no_anchor_then_6}
use Rattle.knowledge.specs.TakenEntries.{settled_held, no_others}
use Rattle.knowledge.specs.Grows.{Grown, grown_take}
use Rattle.knowledge.specs.Again.{what_is_held, grown_holds}
use Rattle.knowledge.specs.HeldAfter.{settles_then_holds}
use Rattle.knowledge.specs.AnyOrder.{take_stays}
use Rattle.knowledge.specs.RoundsEnd.{offer_all, round_of}
use Rattle.knowledge.specs.Conflict.{sized_bytes}
use Rattle.knowledge.specs.Positions.{given_is}
use Rattle.knowledge.specs.ByHand.{three_high}
use Rattle.numbers.specs.Tests.{either, not_both}
use Rattle.promises.specs.Offered.{offered, two_hashes, offered_header, offered_past, first_hash, second_hash, two_size, well_formed_in}

-- what could show a pair: one of two stores, or one of the messages
pub data OneOf (M : MessageSet) (s t : List ℕ) : Source → Type 0 where
  one : OneOf M s t (held_by s)
  other : OneOf M s t (held_by t)
  message : (r m : List ℕ) → M m → OneOf M s t (by_message r m)

-- after one round of the same messages, from one opening: two stores that differ, and no pair is shown
pub record OneRound (M : MessageSet) (n plen : ℕ) (root s t : List ℕ) : Type 0 where
  pub buffer : List ℕ
  pub bytes : Bytes buffer
  pub octets : Octets 32 root
  pub opens : (open_answer buffer n plen).number ≡ 0
  pub here : Round M (open_after buffer n plen root) s
  pub there : Round M (open_after buffer n plen root) t
  pub lacks : Lacks s 0 0
  pub v : List ℕ
  pub holds : Holds t 0 0 v
  pub none : (h : ℕ) (x y : Source) → OneOf M s t x → OneOf M s t y → Shown h x y → ⊥

-- what two sources give that one store holds is no pair
pub gives_one : (t : List ℕ) (h : ℕ) (x y : Source) → ((l i : ℕ) (v : List ℕ) → Gives x l i v → Holds t l i v) → ((l i : ℕ) (v : List ℕ) → Gives y l i v → Holds t l i v) → Shown h x y → ⊥
gives_one t h x y f g S =
    let a : S.l ≡ S.l' = sym (f S.layer (2 * S.index) S.l S.left).hash ∙ (g S.layer (2 * S.index) S.l' S.left').hash in
    let b : S.r ≡ S.r' = sym (f S.layer (2 * S.index + 1) S.r S.right).hash ∙ (g S.layer (2 * S.index + 1) S.r' S.right').hash in
    S.differ (ap₂ (λ (p q : List ℕ). p ++ q) a b)

in_three : {e x y z : Entry} → In e (x ∷ y ∷ z ∷ []) → (e ≡ x) ⊎ ((e ≡ y) ⊎ (e ≡ z))
in_three here = inl refl
in_three (there here) = inr (inl refl)
in_three (there (there here)) = inr (inr refl)
in_three (there (there (there i))) = absurd (no_entry i)

among_some : {m : List ℕ} (L : List (List ℕ)) → Among m L → 1 ≤ length L
among_some (k ∷ L) first = omega arith
among_some (k ∷ L) (later i) = omega (arith, among_some L i)
among_some {m = m} [] x' = elim x' [ ]

none_among : {m : List ℕ} → Among m [] → ⊥
none_among i = omega (arith, among_some [] i)

among_head : {m k : List ℕ} {L : List (List ℕ)} → Among m (k ∷ L) → (m ≡ k) ⊎ Among m L
among_head first = inl refl
among_head (later i) = inr i

-- one of two
among_two : {m x y : List ℕ} → Among m (x ∷ y ∷ []) → (m ≡ x) ⊎ (m ≡ y)
among_two i = elim (among_head i) [ inl e ↦ inl e | inr j ↦ elim (among_head j) [ inl e ↦ inr e | inr k ↦ absurd (none_among k) ] ]

two_among : {m x y : List ℕ} → (m ≡ x) ⊎ (m ≡ y) → Among m (x ∷ y ∷ [])
two_among (inl e) = rw e first
two_among (inr e) = rw e (later first)

-- ---- the messages

-- a run of four hashes
module _ (root numbers a b c d : List ℕ) (lr : length root ≡ 32) (ln : length numbers ≡ 16) (la : length a ≡ 32) (lb : length b ≡ 32) (lc : length c ≡ 32) (ld : length d ≡ 32) where
  left_size : length (a ++ b) ≡ 64
  left_size = length-append a b ∙ omega arith

  right_size : length (c ++ d) ≡ 64
  right_size = length-append c d ∙ omega arith

  run_size : length ((a ++ b) ++ (c ++ d)) ≡ 128
  run_size = length-append (a ++ b) (c ++ d) ∙ omega (arith, left_size, right_size)

  run_is : run_of (offered root numbers ((a ++ b) ++ (c ++ d))) 4 ≡ (a ++ b) ++ (c ++ d)
  unfolding run_of
  run_is = offered_past root numbers ((a ++ b) ++ (c ++ d)) lr ln 0 128 ∙ cut_whole ((a ++ b) ++ (c ++ d)) 128 (omega (arith, run_size))

  given_at : (j : ℕ) → j < 4 → given (offered root numbers ((a ++ b) ++ (c ++ d))) 2 j ≡ cut ((a ++ b) ++ (c ++ d)) (32 * j) 32
  unfolding given
  given_at j l =
      run_leaf_in (run_of (offered root numbers ((a ++ b) ++ (c ++ d))) 4) zero_hash j (omega (arith, ap length run_is ∙ run_size)) ∙ ap (λ (x : List ℕ). cut x (32 * j) 32) run_is

  right_part : cut ((a ++ b) ++ (c ++ d)) 64 64 ≡ c ++ d
  right_part = cut_append_right (a ++ b) (c ++ d) 64 64 left_size right_size

  given_0 : given (offered root numbers ((a ++ b) ++ (c ++ d))) 2 0 ≡ a
  given_0 =
      given_at 0 (lit< tt) ∙ cut_append_left (a ++ b) (c ++ d) 0 32 (omega (arith, left_size)) ∙ cut_append_left a b 0 32 (omega arith)
      ∙ cut_whole a 32 (omega arith)

  given_1 : given (offered root numbers ((a ++ b) ++ (c ++ d))) 2 1 ≡ b
  given_1 = given_at 1 (lit< tt) ∙ cut_append_left (a ++ b) (c ++ d) 32 32 (omega (arith, left_size)) ∙ cut_append_right a b 32 32 la lb

  given_2 : given (offered root numbers ((a ++ b) ++ (c ++ d))) 2 2 ≡ c
  given_2 =
      given_at 2 (lit< tt) ∙ sym (cut_cut ((a ++ b) ++ (c ++ d)) 64 64 0 32 (omega arith)) ∙ ap (λ (x : List ℕ). cut x 0 32) right_part
      ∙ cut_append_left c d 0 32 (omega arith) ∙ cut_whole c 32 (omega arith)

  given_3 : given (offered root numbers ((a ++ b) ++ (c ++ d))) 2 3 ≡ d
  given_3 =
      given_at 3 (lit< tt) ∙ sym (cut_cut ((a ++ b) ++ (c ++ d)) 64 64 32 32 (omega arith)) ∙ ap (λ (x : List ℕ). cut x 32 32) right_part
      ∙ cut_append_right c d 32 32 lc ld

abbrev leaf_numbers : List ℕ
leaf_numbers = 0 ∷ 0 ∷ 0 ∷ 0 ∷ 0 ∷ 0 ∷ 0 ∷ 0 ∷ 0 ∷ 0 ∷ 0 ∷ 4 ∷ 0 ∷ 0 ∷ 0 ∷ 1 ∷ []

abbrev top_numbers : List ℕ
top_numbers = 0 ∷ 0 ∷ 0 ∷ 2 ∷ 0 ∷ 0 ∷ 0 ∷ 0 ∷ 0 ∷ 0 ∷ 0 ∷ 2 ∷ 0 ∷ 0 ∷ 0 ∷ 0 ∷ []

-- the hash above four leaves, and the root above it and the hash beside it
abbrev pub four_of : List ℕ → List ℕ → List ℕ → List ℕ → List ℕ
four_of c d e f = pair_hash (pair_hash c d) (pair_hash e f)

abbrev pub root_of : List ℕ → List ℕ → List ℕ → List ℕ → List ℕ → List ℕ
root_of c d e f b = pair_hash (four_of c d e f) b

-- (0,0,4,1): the first four leaves
abbrev pub leaves : List ℕ → List ℕ → List ℕ → List ℕ → List ℕ → List ℕ
leaves c d e f b = offered (root_of c d e f b) leaf_numbers ((c ++ d) ++ (e ++ f))

-- (2,0,2,0): the two hashes below the root
abbrev pub tops : List ℕ → List ℕ → List ℕ → List ℕ → List ℕ → List ℕ
tops c d e f b = two_hashes (root_of c d e f b) top_numbers (four_of c d e f) b

abbrev pub both_of : List ℕ → List ℕ → List ℕ → List ℕ → List ℕ → MessageSet
both_of c d e f b m = Among m (tops c d e f b ∷ leaves c d e f b ∷ [])

abbrev leaf_header : Header
leaf_header = record { base = 0; index = 0; len = 4; proof = 1 }

abbrev top_header : Header
top_header = record { base = 2; index = 0; len = 2; proof = 0 }

-- the four leaves' top is the root's left child, the other run's the root
abbrev leaf_place : Place
leaf_place = record { k = 2; u = 0; top = 2 }

abbrev top_place : Place
top_place = record { k = 1; u = 0; top = 1 }

leaf_numbers_lem : Octets 16 (be 4 0 ++ (be 4 0 ++ (be 4 4 ++ be 4 1)))
leaf_numbers_lem = append_octets (be_octets 4 0) (append_octets (be_octets 4 0) (append_octets (be_octets 4 4) (be_octets 4 1)))

top_numbers_lem : Octets 16 (be 4 2 ++ (be 4 0 ++ (be 4 2 ++ be 4 0)))
top_numbers_lem = append_octets (be_octets 4 2) (append_octets (be_octets 4 0) (append_octets (be_octets 4 2) (be_octets 4 0)))

range : facts_in_range 81920 16384 ≡ true
unfolding facts_in_range is_piece_length piece_layer height height_from
range = refl

module _ (c d e f b : List ℕ) (oc : Octets 32 c) (od : Octets 32 d) (oe : Octets 32 e) (of : Octets 32 f) (ob : Octets 32 b) where
  unfoldable pub X : List ℕ
  X = leaves c d e f b

  pub Y : List ℕ
  Y = tops c d e f b

  pub root_octets : Octets 32 (root_of c d e f b)
  root_octets = pair_octets (four_of c d e f) b

  four_octets : Octets 32 (four_of c d e f)
  four_octets = pair_octets (pair_hash c d) (pair_hash e f)

  leaf_bytes : Bytes X
  unfolding X
  leaf_bytes =
      sized_bytes 177 (leaves c d e f b) (append_octets (one_byte hashes_id (omega arith)) (append_octets root_octets (append_octets leaf_numbers_lem (append_octets (append_octets oc od) (append_octets oe of)))))

  top_bytes : Bytes Y
  unfolding Y
  top_bytes = sized_bytes 113 (tops c d e f b) (append_octets (one_byte hashes_id (omega arith)) (append_octets root_octets (append_octets top_numbers_lem (append_octets four_octets ob))))

  leaf_header_lem : header_of X ≡ leaf_header
  unfolding X number_at
  leaf_header_lem = offered_header (root_of c d e f b) leaf_numbers ((c ++ d) ++ (e ++ f)) root_octets.size refl

  top_header_lem : header_of Y ≡ top_header
  unfolding Y number_at
  top_header_lem = offered_header (root_of c d e f b) top_numbers (four_of c d e f ++ b) root_octets.size refl

  leaf_0 : given X 2 0 ≡ c
  unfolding X
  leaf_0 = given_0 (root_of c d e f b) leaf_numbers c d e f root_octets.size refl oc.size od.size oe.size of.size

  leaf_1 : given X 2 1 ≡ d
  unfolding X
  leaf_1 = given_1 (root_of c d e f b) leaf_numbers c d e f root_octets.size refl oc.size od.size oe.size of.size

  leaf_2 : given X 2 2 ≡ e
  unfolding X
  leaf_2 = given_2 (root_of c d e f b) leaf_numbers c d e f root_octets.size refl oc.size od.size oe.size of.size

  leaf_3 : given X 2 3 ≡ f
  unfolding X
  leaf_3 = given_3 (root_of c d e f b) leaf_numbers c d e f root_octets.size refl oc.size od.size oe.size of.size

  top_0 : given Y 1 0 ≡ four_of c d e f
  unfolding Y
  top_0 = first_hash (root_of c d e f b) top_numbers (four_of c d e f) b root_octets.size refl four_octets.size ob.size

  top_1 : given Y 1 1 ≡ b
  unfolding Y
  top_1 = second_hash (root_of c d e f b) top_numbers (four_of c d e f) b root_octets.size refl four_octets.size ob.size

  leaf_worked : node (given X 2) 2 0 ≡ four_of c d e f
  unfolding node
  leaf_worked = rw (leaf_0, leaf_1, leaf_2, leaf_3)

  top_worked : node (given Y 1) 1 0 ≡ root_of c d e f b
  unfolding node
  top_worked = rw (top_0, top_1)

  leaf_padding : padded X leaf_header leaf_place 5 ≡ true
  unfolding padded run_padded all_from uncles_padded covering ceil_div
  leaf_padding = refl

  top_padding : padded Y top_header top_place 5 ≡ true
  unfolding padded run_padded all_from uncles_padded covering ceil_div
  top_padding = refl

  -- in every store with this root and a tree of height 3
  module _ (s : List ℕ) (us : usable s ≡ true) (r : facts_root s ≡ root_of c d e f b) (eh : height_of s ≡ 3) where
    leaf_well : Formed s X
    unfolding X message_size rules_kept length_rule index_rule height height_from
    leaf_well =
        well_formed_in (root_of c d e f b) leaf_numbers ((c ++ d) ++ (e ++ f)) root_octets.size refl s leaf_header 3 (unfold X in leaf_header_lem) us r eh refl
        (sym (ap (λ (n : ℕ). header_size + n) (run_size (root_of c d e f b) leaf_numbers c d e f root_octets.size refl oc.size od.size oe.size of.size)))

    top_well : Formed s Y
    unfolding Y message_size rules_kept length_rule index_rule height height_from
    top_well =
        well_formed_in (root_of c d e f b) top_numbers (four_of c d e f ++ b) root_octets.size refl s top_header 3 (unfold Y in top_header_lem) us r eh refl
        (sym (two_size (root_of c d e f b) top_numbers (four_of c d e f) b root_octets.size refl four_octets.size ob.size))

    leaf_place_lem : place_in s X ≡ leaf_place
    unfolding place_of node_number height height_from
    leaf_place_lem = ap₂ (λ (x : Header) (h : ℕ). place_of x h) leaf_header_lem eh

    top_place_lem : place_in s Y ≡ top_place
    unfolding place_of node_number height height_from
    top_place_lem = ap₂ (λ (x : Header) (h : ℕ). place_of x h) top_header_lem eh

  module _ (buffer : List ℕ) (bytes : Bytes buffer) (fits : store_size 81920 ≤ length buffer) where
    pub fresh : List ℕ
    fresh = opened buffer 81920 16384 (root_of c d e f b)

    facts : Facts fresh
    unfolding fresh
    facts = opened_facts buffer 81920 16384 (root_of c d e f b) range fits root_octets.size

    us : usable fresh ≡ true
    us = facts_usable fresh facts

    root_is : facts_root fresh ≡ root_of c d e f b
    unfolding fresh
    root_is = opened_facts_root buffer 81920 16384 (root_of c d e f b) range fits root_octets.size

    high : height_of fresh ≡ 3
    unfolding fresh
    high = opened_height buffer 81920 16384 (root_of c d e f b) range fits root_octets.size ∙ three_high

    blocks : blocks_of fresh ≡ 5
    unfolding fresh block_count ceil_div
    blocks = opened_blocks buffer 81920 16384 (root_of c d e f b) range fits root_octets.size

    held : (q : ℕ) → 1 ≤ q → q < 16 → held_at fresh q ≡ eqb q 1
    unfolding fresh positions
    held q x y = opened_held buffer 81920 16384 (root_of c d e f b) range fits root_octets.size q x (rw three_high y)

    hash : hash_at fresh 1 ≡ root_of c d e f b
    unfolding fresh
    hash = opened_hash buffer 81920 16384 (root_of c d e f b) range fits root_octets.size

    -- the leaves' anchor is not held
    waits : take_number fresh X ≡ no_anchor
    unfolding anchor ancestor
    waits =
        let p = leaf_place_lem fresh us root_is high in
        no_anchor_then_6 fresh X (leaf_well fresh us root_is high) (rw (p, leaf_header_lem, blocks) leaf_padding) (rw p (held 2 (lit≤ tt) (lit< tt)))

    -- the two below the root are taken
    top_place_is : place_in fresh Y ≡ top_place
    top_place_is = top_place_lem fresh us root_is high

    top_agrees : agrees fresh (settled Y top_place) ≡ true
    unfolding agrees settled subtree path
    top_agrees =
        rw (
          agrees_free fresh 2 (given Y 1 0) (held 2 (lit≤ tt) (lit< tt)),
          agrees_free fresh 3 (given Y 1 1) (held 3 (lit≤ tt) (lit< tt)),
          agrees_held fresh 1 (node (given Y 1) 1 0) (held 1 (lit≤ tt) (lit< tt)),
          same_eq (hash_at fresh 1) (node (given Y 1) 1 0) (hash ∙ sym top_worked),
        )

    top_right : Right fresh Y
    unfolding anchor ancestor worked risen
    top_right =
        record {
          padding = rw (top_place_is, top_header_lem, blocks) top_padding;
          held = rw top_place_is (held 1 (lit≤ tt) (lit< tt));
          chains = rw top_place_is (hash ∙ sym top_worked);
          agree = rw top_place_is top_agrees;
        }

    top_taken : take_number fresh Y ≡ 0
    top_taken = right_then_taken fresh Y (top_well fresh us root_is high) top_right

    -- then nothing below them is held, and the leaves' anchor is
    grown : Grown fresh (take_after fresh Y)
    grown = grown_take fresh Y facts

    entry_low : (x : Entry) → In x (settled Y top_place) → x.at < 4
    unfolding settled subtree path
    entry_low x i =
        elim (in_three i) [
          | inl p ↦ let n = ap (λ (g : Entry). g.at) p in omega arith
          | inr y ↦ elim y [ inl p ↦ let n = ap (λ (g : Entry). g.at) p in omega arith | inr p ↦ let n = ap (λ (g : Entry). g.at) p in omega arith ]
        ]

    free : (q : ℕ) → 4 ≤ q → q < 16 → held_at (take_after fresh Y) q ≡ false
    free q x y =
        elim (either (held_at (take_after fresh Y) q)) [
          | inr g ↦ g
          | inl t ↦ elim (no_others fresh Y top_taken q t) [
            | inl h ↦ absurd (false≢true (sym (ne_eqb q 1 (λ z. omega arith)) ∙ sym (held q (omega arith) y) ∙ h))
            | inr g ↦
                let i : In (record { at = q; hash = g.0 }) (settled Y top_place) = rw top_place_is at g.1 in
                let w : ⊥ = omega (arith, entry_low (record { at = q; hash = g.0 }) i) in
                absurd w
          ]
        ]

    anchor_in : In (record { at = 2; hash = given Y 1 0 }) (settled Y top_place)
    unfolding settled subtree path
    anchor_in = here

    anchor_held : (held_at (take_after fresh Y) 2 ≡ true) × (hash_at (take_after fresh Y) 2 ≡ four_of c d e f)
    anchor_held =
        let h = settled_held fresh Y top_taken (record { at = 2; hash = given Y 1 0 }) (rw top_place_is anchor_in) in
        (h.0, h.1 ∙ top_0)

    then_us : usable (take_after fresh Y) ≡ true
    then_us = facts_usable (take_after fresh Y) grown.facts

    then_well : Formed (take_after fresh Y) X
    then_well = leaf_well (take_after fresh Y) then_us (grown.same.root ∙ root_is) (grown.same.layers ∙ high)

    then_place : place_in (take_after fresh Y) X ≡ leaf_place
    then_place = leaf_place_lem (take_after fresh Y) then_us (grown.same.root ∙ root_is) (grown.same.layers ∙ high)

    then_agrees : agrees (take_after fresh Y) (settled X leaf_place) ≡ true
    unfolding agrees settled subtree path
    then_agrees =
        let u = take_after fresh Y in
        rw (
          agrees_free u 8 (given X 2 0) (free 8 (lit≤ tt) (lit< tt)),
          agrees_free u 9 (given X 2 1) (free 9 (lit≤ tt) (lit< tt)),
          agrees_free u 4 (node (given X 2) 1 0) (free 4 (lit≤ tt) (lit< tt)),
          agrees_free u 10 (given X 2 2) (free 10 (lit≤ tt) (lit< tt)),
          agrees_free u 11 (given X 2 3) (free 11 (lit≤ tt) (lit< tt)),
          agrees_free u 5 (node (given X 2) 1 1) (free 5 (lit≤ tt) (lit< tt)),
          agrees_held u 2 (node (given X 2) 2 0) anchor_held.0,
          same_eq (hash_at u 2) (node (given X 2) 2 0) (anchor_held.1 ∙ sym leaf_worked),
        )

    then_right : Right (take_after fresh Y) X
    unfolding anchor ancestor worked risen
    then_right =
        record {
          padding = rw (then_place, leaf_header_lem, grown.same.blocks ∙ blocks) leaf_padding;
          held = rw then_place anchor_held.0;
          chains = rw then_place (anchor_held.1 ∙ sym leaf_worked);
          agree = rw then_place then_agrees;
        }

    leaves_taken : take_number (take_after fresh Y) X ≡ 0
    leaves_taken = right_then_taken (take_after fresh Y) X then_well then_right

    -- ---- one round in each order

    pub leaf_settles : Settles X 0 0 c
    leaf_settles =
        let u = take_after fresh Y in
        let k : (place_in u X).k ≡ 2 = ap (λ (p : Place). p.k) then_place in
        let g : hash_in X 0 ≡ c = sym (given_is u X then_well 0 (rw k (lit< tt))) ∙ ap (λ (n : ℕ). given X n 0) k ∙ leaf_0 in
        subst (Settles X 0 0) g (subst (λ (x : Header). Settles X x.base (x.index + 0) (hash_in X 0)) leaf_header_lem (in_run 0 (rw leaf_header_lem (lit< tt))))

    pub leaf_lacks : Lacks (take_after fresh Y) 0 0
    unfolding node_number
    leaf_lacks w h =
        let k = (what_is_held (take_after fresh Y) 0 0 w grown.facts h).1 in
        let x : height_of (take_after fresh Y) ≡ 3 = grown.same.layers ∙ high in
        let q : held_at (take_after fresh Y) 8 ≡ true = rw x at k in
        not_both q (free 8 (lit≤ tt) (lit< tt))

    -- what the two orders leave
    pub leaves_first : List ℕ
    leaves_first = take_after (take_after fresh X) Y

    pub tops_first : List ℕ
    tops_first = take_after (take_after fresh Y) X

    pub leaves_dropped : leaves_first ≡ take_after fresh Y
    unfolding leaves_first
    leaves_dropped = ap (λ (x : List ℕ). take_after x Y) (take_stays fresh X (λ z. omega (arith, waits)))

    pub held_on : (l i : ℕ) (v : List ℕ) → Holds (take_after fresh Y) l i v → Holds tops_first l i v
    unfolding tops_first
    held_on = grown_holds (take_after fresh Y) (take_after (take_after fresh Y) X) grown.facts (grown_take (take_after fresh Y) X grown.facts)

    pub all_held : (m : List ℕ) → both_of c d e f b m → (l i : ℕ) (v : List ℕ) → Settles m l i v → Holds tops_first l i v
    unfolding tops_first X Y
    all_held m a l i v x =
        elim (among_two a) [
          | inl p ↦ unfold tops_first X Y in held_on l i v (settles_then_holds fresh (tops c d e f b) top_taken l i v (rw p at x))
          | inr p ↦ settles_then_holds (take_after fresh (tops c d e f b)) (leaves c d e f b) leaves_taken l i v (rw p at x)
        ]

    both_bytes : (m : List ℕ) → both_of c d e f b m → Bytes m
    unfolding X Y
    both_bytes m a = elim (among_two a) [ inl p ↦ rw p top_bytes | inr p ↦ rw p leaf_bytes ]

    swapped : (m : List ℕ) → both_of c d e f b m ↔ Among m (leaves c d e f b ∷ tops c d e f b ∷ [])
    swapped m = (
      λ a. two_among (elim (among_two a) [ inl p ↦ inr p | inr p ↦ inl p ]),
      λ a. two_among (elim (among_two a) [ inl p ↦ inr p | inr p ↦ inl p ]),
    )

    pub leaves_first_round : Round (both_of c d e f b) fresh leaves_first
    unfolding leaves_first offer_all X Y
    leaves_first_round = round_of (both_of c d e f b) (tops c d e f b ∷ leaves c d e f b ∷ []) both_bytes (λ m. (λ x. x, λ x. x)) fresh

    pub tops_first_round : Round (both_of c d e f b) fresh tops_first
    unfolding tops_first offer_all X Y
    tops_first_round = round_of (both_of c d e f b) (leaves c d e f b ∷ tops c d e f b ∷ []) (λ m i. both_bytes m ((swapped m).1 i)) swapped fresh

    pub open_is : open_after buffer 81920 16384 (root_of c d e f b) ≡ fresh
    unfolding open_after fresh
    open_is = rw (range, le-leb (store_size 81920) (length buffer) fits)

    pub opens : (open_answer buffer 81920 16384).number ≡ 0
    unfolding open_answer
    opens = rw (range, le-leb (store_size 81920) (length buffer) fits)

-- what follows, `one_round_alone` and `one_round_of_zeros`, stands in proofs/OneRoundAlone

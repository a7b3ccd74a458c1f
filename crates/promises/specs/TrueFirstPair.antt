-- 01, "Worked by hand": a true (0,0,2,2) on a fresh store of B=5 exists, whatever its four hashes: it is taken, with 6 positions new.
-- Assumes nothing.
use Rattle.std.specs.Prelude.{◌≡◌, true, ℕ, ◌+◌, ◌≤◌, ◌<◌, length, eqb, List, [], ◌∷◌, ◌++◌}
use Rattle.std.proofs.Math.Path.{refl, ap, ap₂, sym}
use Rattle.std.proofs.Common.{◌∙◌, arith, length-append, lit<, lit≤}
use Rattle.octets.specs.Octets.{cut, number_at}
use Rattle.octets.specs.OctetsLaws.{same_eq, cut_append_left, cut_append_right, cut_whole}
use Rattle.sha256.specs.Sha256.{pair_hash}
use Rattle.sha256.specs.Sha256Laws.{pair_octets}
use Rattle.tree.specs.Geometry.{ceil_div, block_count, height_from, height, node_number, covering}
use Rattle.tree.specs.Values.{node}
use Rattle.cells.specs.Cells.{held_at, hash_at}
use Rattle.cells.specs.Entries.{agrees}
use Rattle.cells.specs.EntriesLaws.{agrees_held, agrees_free}
use Rattle.store.specs.Store.{blocks_of, height_of, positions, facts_in_range, store_size, opened}
use Rattle.store.specs.StoreLaws.{opened_usable, opened_facts_root, opened_blocks, opened_height, opened_held, opened_hash}
use Rattle.settling.specs.Subtree.{subtree}
use Rattle.settling.specs.Path.{sibling, uncle, parent_value, ancestor, risen, path}
use Rattle.header.specs.declared.Header.{Header}
use Rattle.header.specs.declared.Place.{Place}
use Rattle.header.specs.Header.{header_size, header_of, message_size, place_of, rules_kept, length_rule, index_rule}
use Rattle.messages.specs.Padded.{all_from, run_padded, uncle_padded, uncles_padded}
use Rattle.messages.specs.Take.{uncles_of, given, settled, anchor, worked, padded, place_in, take_answer}
use Rattle.knowledge.specs.TakenWhen.{Formed, Right, right_then_taken}
use Rattle.promises.specs.Offered.{offered, offered_header, offered_past, first_given, second_given, well_formed_in}
use Rattle.promises.specs.Worked.{six_new}

abbrev numbers : List ℕ
numbers = 0 ∷ 0 ∷ 0 ∷ 0 ∷ 0 ∷ 0 ∷ 0 ∷ 0 ∷ 0 ∷ 0 ∷ 0 ∷ 2 ∷ 0 ∷ 0 ∷ 0 ∷ 2 ∷ []

-- the root that two leaves, the pair beside them, and the four leaves beside those give
abbrev pub root_of : List ℕ → List ℕ → List ℕ → List ℕ → List ℕ
root_of a b c d = pair_hash (pair_hash (pair_hash a b) c) d

-- the message: the two leaves, then the two uncles
abbrev pub first_pair : List ℕ → List ℕ → List ℕ → List ℕ → List ℕ
first_pair a b c d = offered (root_of a b c d) numbers ((a ++ b) ++ (c ++ d))

abbrev header : Header
header = record { base = 0; index = 0; len = 2; proof = 2 }

abbrev place : Place
place = record { k = 1; u = 2; top = 4 }

module _ (a b c d : List ℕ) (la : length a ≡ 32) (lb : length b ≡ 32) (lc : length c ≡ 32) (ld : length d ≡ 32) where
  root_size : length (root_of a b c d) ≡ 32
  root_size = (pair_octets (pair_hash (pair_hash a b) c) d).size

  header_is : header_of (first_pair a b c d) ≡ header
  unfolding number_at
  header_is = offered_header (root_of a b c d) numbers ((a ++ b) ++ (c ++ d)) root_size refl

  first : given (first_pair a b c d) 1 0 ≡ a
  first = first_given (root_of a b c d) numbers a b (c ++ d) root_size refl la lb

  second : given (first_pair a b c d) 1 1 ≡ b
  second = second_given (root_of a b c d) numbers a b (c ++ d) root_size refl la lb

  run_size : length (a ++ b) ≡ 64
  run_size = length-append a b ∙ omega arith

  uncles_size : length (c ++ d) ≡ 64
  uncles_size = length-append c d ∙ omega arith

  size_is : 177 ≡ header_size + length ((a ++ b) ++ (c ++ d))
  size_is = omega (arith, length-append (a ++ b) (c ++ d), run_size, uncles_size)

  uncles_are : uncles_of (first_pair a b c d) 2 2 ≡ c ++ d
  unfolding uncles_of
  uncles_are = offered_past (root_of a b c d) numbers ((a ++ b) ++ (c ++ d)) root_size refl 64 64 ∙ cut_append_right (a ++ b) (c ++ d) 64 64 run_size uncles_size

  uncle_0 : uncle (uncles_of (first_pair a b c d) 2 2) 0 ≡ c
  unfolding uncle
  uncle_0 = ap (λ (l : List ℕ). cut l 0 32) uncles_are ∙ cut_append_left c d 0 32 (omega arith) ∙ cut_whole c 32 (omega arith)

  uncle_1 : uncle (uncles_of (first_pair a b c d) 2 2) 1 ≡ d
  unfolding uncle
  uncle_1 = ap (λ (l : List ℕ). cut l 32 32) uncles_are ∙ cut_append_right c d 32 32 lc ld

  worked_is : worked (first_pair a b c d) place ≡ root_of a b c d
  unfolding worked risen parent_value node
  worked_is = rw (uncle_0, uncle_1, first, second)

  module _ (buffer : List ℕ) (plen : ℕ) (range : facts_in_range 81920 plen ≡ true) (fits : store_size 81920 ≤ length buffer) where
    fresh : List ℕ
    fresh = opened buffer 81920 plen (root_of a b c d)

    three_high : height (block_count 81920) ≡ 3
    unfolding height height_from block_count ceil_div
    three_high = refl

    high : height_of fresh ≡ 3
    unfolding fresh
    high = opened_height buffer 81920 plen (root_of a b c d) range fits root_size ∙ three_high

    blocks : blocks_of fresh ≡ 5
    unfolding fresh block_count ceil_div
    blocks = opened_blocks buffer 81920 plen (root_of a b c d) range fits root_size

    held : (q : ℕ) → 1 ≤ q → q < 16 → held_at fresh q ≡ eqb q 1
    unfolding fresh positions
    held q x y = opened_held buffer 81920 plen (root_of a b c d) range fits root_size q x (rw three_high y)

    hash : hash_at fresh 1 ≡ root_of a b c d
    unfolding fresh
    hash = opened_hash buffer 81920 plen (root_of a b c d) range fits root_size

    place_is : place_in fresh (first_pair a b c d) ≡ place
    unfolding place_of node_number height height_from
    place_is = ap₂ (λ (x : Header) (h : ℕ). place_of x h) header_is high

    well : Formed fresh (first_pair a b c d)
    unfolding fresh message_size rules_kept length_rule index_rule height height_from
    well =
        well_formed_in (root_of a b c d) numbers ((a ++ b) ++ (c ++ d)) root_size refl fresh header 3 header_is
        (opened_usable buffer 81920 plen (root_of a b c d) range fits root_size) (opened_facts_root buffer 81920 plen (root_of a b c d) range fits root_size) high refl size_is

    agree : agrees fresh (settled (first_pair a b c d) place) ≡ true
    unfolding fresh agrees settled subtree path sibling worked risen
    agree =
        let m = first_pair a b c d in
        let us = uncles_of (first_pair a b c d) 2 2 in
        let v = node (given (first_pair a b c d) 1) 1 0 in
        let w = parent_value 4 v (uncle us 0) in
        let top = parent_value 2 w (uncle us 1) in
        rw (
          agrees_free fresh 8 (given m 1 0) (held 8 (lit≤ tt) (lit< tt)),
          agrees_free fresh 9 (given m 1 1) (held 9 (lit≤ tt) (lit< tt)),
          agrees_free fresh 4 v (held 4 (lit≤ tt) (lit< tt)),
          agrees_free fresh 5 (uncle us 0) (held 5 (lit≤ tt) (lit< tt)),
          agrees_free fresh 2 w (held 2 (lit≤ tt) (lit< tt)),
          agrees_free fresh 3 (uncle us 1) (held 3 (lit≤ tt) (lit< tt)),
          agrees_held fresh 1 top (held 1 (lit≤ tt) (lit< tt)),
          same_eq (hash_at fresh 1) top (hash ∙ sym worked_is),
        )

    padding_is : padded (first_pair a b c d) header place 5 ≡ true
    unfolding padded run_padded all_from uncle_padded uncles_padded covering ceil_div sibling
    padding_is = refl

    right : Right fresh (first_pair a b c d)
    unfolding anchor ancestor
    right =
        record {
          padding = rw (place_is, header_is, blocks) padding_is;
          held = rw place_is (held 1 (lit≤ tt) (lit< tt));
          chains = rw place_is (hash ∙ sym worked_is);
          agree = rw place_is agree;
        }

    -- it is taken,
    pub first_pair_taken : (take_answer (opened buffer 81920 plen (root_of a b c d)) (first_pair a b c d)).number ≡ 0
    unfolding fresh take_answer
    first_pair_taken = right_then_taken fresh (first_pair a b c d) well right

    -- and makes 6 positions newly held
    pub first_pair_six : (take_answer (opened buffer 81920 plen (root_of a b c d)) (first_pair a b c d)).count ≡ 6
    first_pair_six = six_new buffer plen (root_of a b c d) (first_pair a b c d) range fits root_size header_is first_pair_taken

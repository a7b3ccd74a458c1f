-- 01, "How much each contract says": a program that is right on 9, 1, 2, 3 and 4 and gives every other message one number is shut out.
-- There are well-formed messages that get 5, 6, 7 and 8 (0 is in Example), whatever SHA-256 may give.
-- Assumes nothing.
use Rattle.std.specs.Prelude.{◌≡◌, true, false, cond, List, [], ◌∷◌, ◌++◌, ℕ, ◌+◌, ◌*◌, ◌≤◌, ◌<◌, length, get_or, replicate, eqb}
use Rattle.std.proofs.Math.Path.{refl, ap₂}
use Rattle.std.proofs.Common.{ap, sym, ◌∙◌, arith, lit<, lit≤, eq-eqb, ne_eqb}
use Rattle.std.proofs.Math.Decide.{ℕ_discrete}
use Rattle.octets.specs.Octets.{same, number_at, zero_hash}
use Rattle.octets.specs.OctetsLaws.{same_ne, cut_append_right}
use Rattle.numbers.specs.Numbers.{wrong_padding, no_anchor, differs, conflict}
use Rattle.sha256.specs.Sha256.{pair_hash}
use Rattle.sha256.specs.Sha256Laws.{pair_octets}
use Rattle.tree.specs.Geometry.{ceil_div, block_count, height_from, height, node_number, covering, piece_layer, is_piece_length}
use Rattle.tree.specs.Values.{node, pad_value}
use Rattle.cells.specs.Cells.{held_at, hash_at, put}
use Rattle.cells.specs.CellsLaws.{held_put_same, held_put_other, hash_put_same, hash_put_other}
use Rattle.cells.specs.Entries.{one, agrees, put_all}
use Rattle.cells.specs.EntriesLaws.{sound_one, one_is, agrees_held, from_root_in}
use Rattle.store.specs.Store.{usable, facts_root, blocks_of, height_of, positions, facts_in_range, store_size, opened, SameFacts}
use Rattle.store.specs.StoreLaws.{put_all_same_facts, put_all_usable, opened_usable, opened_facts_root, opened_blocks, opened_height, opened_held}
use Rattle.settling.specs.Subtree.{subtree}
use Rattle.settling.specs.Path.{ancestor, risen, path}
use Rattle.header.specs.declared.Header.{Header}
use Rattle.header.specs.declared.Place.{Place}
use Rattle.header.specs.Header.{header_of, message_size, place_of, rules_kept, length_rule, index_rule}
use Rattle.messages.specs.Padded.{all_from, run_padded, uncles_padded}
use Rattle.messages.specs.Take.{given, settled, anchor, worked, padded, place_in, take_number, take_answer}
use Rattle.knowledge.specs.TakenWhen.{Formed, wrong_padding_then_5, no_anchor_then_6, other_anchor_then_7, held_differs_then_8}
use Rattle.promises.specs.Blank.{blank, blank_room}
use Rattle.promises.specs.Offered.{two_hashes, offered_header, run_is, first_hash, second_hash, two_size, well_formed_in}
use Rattle.promises.specs.TwoBlocks.{high, blocks, store, facts, root_is, held, hash}

-- another string of the same length
unfoldable pub other_than : List ℕ → List ℕ
other_than [] = []
other_than (x ∷ l) = cond (eqb x 0) 1 0 ∷ l

-- as long as the first,
pub other_length : (v : List ℕ) → length (other_than v) ≡ length v
unfolding other_than
other_length [] = refl
other_length (x ∷ l) = refl

-- and not the same
pub other_differs : (v : List ℕ) → 1 ≤ length v → other_than v ≡ v → ⊥
unfolding other_than
other_differs [] l e = omega arith
other_differs (x ∷ v) l e =
    let f : cond (eqb x 0) 1 0 ≡ x = ap (λ (w : List ℕ). get_or w 0 0) e in
    elim (ℕ_discrete x 0) [
      | yes z ↦ let g : 1 ≡ x = sym (rw (eq-eqb x 0 z)) ∙ f in omega arith
      | no z ↦ let g : 0 ≡ x = sym (rw (ne_eqb x 0 z)) ∙ f in z (sym g)
    ]

-- (0,0,2,0) and (0,2,2,0)
abbrev pub first_two : List ℕ
first_two = 0 ∷ 0 ∷ 0 ∷ 0 ∷ 0 ∷ 0 ∷ 0 ∷ 0 ∷ 0 ∷ 0 ∷ 0 ∷ 2 ∷ 0 ∷ 0 ∷ 0 ∷ 0 ∷ []

abbrev pub next_two : List ℕ
next_two = 0 ∷ 0 ∷ 0 ∷ 0 ∷ 0 ∷ 0 ∷ 0 ∷ 2 ∷ 0 ∷ 0 ∷ 0 ∷ 2 ∷ 0 ∷ 0 ∷ 0 ∷ 0 ∷ []

abbrev header : ℕ → Header
header index = record { base = 0; index = index; len = 2; proof = 0 }

module _ (root a b : List ℕ) (lr : length root ≡ 32) (la : length a ≡ 32) (lb : length b ≡ 32) where
  header_first : header_of (two_hashes root first_two a b) ≡ header 0
  unfolding number_at
  header_first = offered_header root first_two (a ++ b) lr refl

  header_next : header_of (two_hashes root next_two a b) ≡ header 2
  unfolding number_at
  header_next = offered_header root next_two (a ++ b) lr refl

-- ---- 5 and 6: a fresh store of a file of three blocks

abbrev first_place : Place
first_place = record { k = 1; u = 0; top = 2 }

abbrev next_place : Place
next_place = record { k = 1; u = 0; top = 3 }

module _ (buffer root a b : List ℕ) (fits : store_size 49152 ≤ length buffer) (lr : length root ≡ 32) (la : length a ≡ 32) (lb : length b ≡ 32) where
  three : List ℕ
  three = opened buffer 49152 16384 root

  range3 : facts_in_range 49152 16384 ≡ true
  unfolding facts_in_range is_piece_length piece_layer height height_from
  range3 = refl

  two_high : height (block_count 49152) ≡ 2
  unfolding height height_from block_count ceil_div
  two_high = refl

  high3 : height_of three ≡ 2
  unfolding three
  high3 = opened_height buffer 49152 16384 root range3 fits lr ∙ two_high

  blocks3 : blocks_of three ≡ 3
  unfolding three block_count ceil_div
  blocks3 = opened_blocks buffer 49152 16384 root range3 fits lr

  held3 : (q : ℕ) → 1 ≤ q → q < 8 → held_at three q ≡ eqb q 1
  unfolding three positions
  held3 q x y = opened_held buffer 49152 16384 root range3 fits lr q x (rw two_high y)

  place_next : place_in three (two_hashes root next_two a b) ≡ next_place
  unfolding place_of node_number height height_from
  place_next = ap₂ (λ (x : Header) (h : ℕ). place_of x h) (header_next root a b lr la lb) high3

  well_next : Formed three (two_hashes root next_two a b)
  unfolding three message_size rules_kept length_rule index_rule height height_from
  well_next =
      well_formed_in root next_two (a ++ b) lr refl three (header 2) 2 (header_next root a b lr la lb) (opened_usable buffer 49152 16384 root range3 fits lr)
      (opened_facts_root buffer 49152 16384 root range3 fits lr) high3 refl (sym (two_size root first_two a b lr refl la lb))

  padding_next : same b zero_hash ≡ false → padded (two_hashes root next_two a b) (header 2) next_place 3 ≡ false
  unfolding padded run_padded all_from uncles_padded covering ceil_div pad_value
  padding_next e = rw (run_is root next_two a b lr refl la lb, cut_append_right a b 32 32 la lb, e)

  -- the third leaf, and beside it, where the file has none, a hash that is not 32 zero bytes: 5
  pub gets_5 : (b ≡ zero_hash → ⊥) → take_number (opened buffer 49152 16384 root) (two_hashes root next_two a b) ≡ wrong_padding
  unfolding three
  gets_5 ne =
      wrong_padding_then_5 three (two_hashes root next_two a b) well_next
      (rw (place_next, header_next root a b lr la lb, blocks3) (padding_next (same_ne b zero_hash ne)))

  place_first : place_in three (two_hashes root first_two a b) ≡ first_place
  unfolding place_of node_number height height_from
  place_first = ap₂ (λ (x : Header) (h : ℕ). place_of x h) (header_first root a b lr la lb) high3

  well_first : Formed three (two_hashes root first_two a b)
  unfolding three message_size rules_kept length_rule index_rule height height_from
  well_first =
      well_formed_in root first_two (a ++ b) lr refl three (header 0) 2 (header_first root a b lr la lb) (opened_usable buffer 49152 16384 root range3 fits lr)
      (opened_facts_root buffer 49152 16384 root range3 fits lr) high3 refl (sym (two_size root first_two a b lr refl la lb))

  padding_first : padded (two_hashes root first_two a b) (header 0) first_place 3 ≡ true
  unfolding padded run_padded all_from uncles_padded covering ceil_div
  padding_first = refl

  -- the first two leaves, whose parent a fresh store does not hold: 6
  pub gets_6 : take_number (opened buffer 49152 16384 root) (two_hashes root first_two a b) ≡ no_anchor
  unfolding three anchor ancestor
  gets_6 =
      no_anchor_then_6 three (two_hashes root first_two a b) well_first
      (rw (place_first, header_first root a b lr la lb, blocks3) padding_first) (rw place_first (held3 2 (lit≤ tt) (lit< tt)))

-- ---- 7 and 8: a store of a file of two blocks

abbrev below_root : Place
below_root = record { k = 1; u = 0; top = 1 }

module _ (s root a b : List ℕ) (lr : length root ≡ 32) (la : length a ≡ 32) (lb : length b ≡ 32) (u : usable s ≡ true) (r : facts_root s ≡ root) (blocks : blocks_of s ≡ 2) (high : height_of s ≡ 1) where
  place_is : place_in s (two_hashes root first_two a b) ≡ below_root
  unfolding place_of node_number height height_from
  place_is = ap₂ (λ (x : Header) (h : ℕ). place_of x h) (header_first root a b lr la lb) high

  well : Formed s (two_hashes root first_two a b)
  unfolding message_size rules_kept length_rule index_rule height height_from
  well = well_formed_in root first_two (a ++ b) lr refl s (header 0) 1 (header_first root a b lr la lb) u r high refl (sym (two_size root first_two a b lr refl la lb))

  padding_is : padded (two_hashes root first_two a b) (header_of (two_hashes root first_two a b)) (place_in s (two_hashes root first_two a b)) (blocks_of s) ≡ true
  unfolding padded run_padded all_from uncles_padded covering ceil_div
  padding_is = rw (place_is, header_first root a b lr la lb, blocks)

  anchor_is : anchor (place_in s (two_hashes root first_two a b)) ≡ 1
  unfolding anchor ancestor
  anchor_is = rw place_is

  worked_is : worked (two_hashes root first_two a b) (place_in s (two_hashes root first_two a b)) ≡ pair_hash a b
  unfolding worked risen node
  worked_is = rw place_is (ap₂ pair_hash (first_hash root first_two a b lr refl la lb) (second_hash root first_two a b lr refl la lb))

  -- the root held with another value than the two hashes give: 7
  at_7 : held_at s 1 ≡ true → (hash_at s 1 ≡ pair_hash a b → ⊥) → take_number s (two_hashes root first_two a b) ≡ differs
  at_7 h ne =
      other_anchor_then_7 s (two_hashes root first_two a b) well padding_is (rw anchor_is h) (λ e. ne (ap (hash_at s) (sym anchor_is) ∙ e ∙ worked_is))

  leaf_differs : held_at s 2 ≡ true → (hash_at s 2 ≡ a → ⊥) → agrees s (settled (two_hashes root first_two a b) below_root) ≡ false
  unfolding agrees settled subtree path
  leaf_differs h ne =
      let m = two_hashes root first_two a b in
      rw (agrees_held s 2 (given m 1 0) h, same_ne (hash_at s 2) (given m 1 0) (λ e. ne (e ∙ first_hash root first_two a b lr refl la lb)))

  -- the root held with what the two hashes give, the first leaf with another value: 8
  at_8 : held_at s 1 ≡ true → hash_at s 1 ≡ pair_hash a b → held_at s 2 ≡ true → (hash_at s 2 ≡ a → ⊥) → take_number s (two_hashes root first_two a b) ≡ conflict
  at_8 h e k ne =
      held_differs_then_8 s (two_hashes root first_two a b) well padding_is (rw anchor_is h) (ap (hash_at s) anchor_is ∙ e ∙ sym worked_is) (rw place_is (leaf_differs k ne))

module _ (buffer root : List ℕ) (fits : store_size 32768 ≤ length buffer) (lr : length root ≡ 32) where
  -- a store that another hand wrote: the first leaf held too
  module _ (c : List ℕ) (lc : length c ≡ 32) where
    foreign : List ℕ
    foreign = put (opened buffer 32768 16384 root) 2 c

    cells : positions (height_of (opened buffer 32768 16384 root)) ≡ 4
    unfolding positions
    cells = rw (high buffer root fits lr)

    room : 31 + 33 * 4 ≤ length (opened buffer 32768 16384 root)
    room = omega (arith, (facts buffer root fits lr).room, cells)

    foreign_same : SameFacts (opened buffer 32768 16384 root) foreign
    unfolding foreign put_all
    foreign_same =
        put_all_same_facts (opened buffer 32768 16384 root) (facts buffer root fits lr) (one 2 c) (sound_one 2 c (omega (arith, cells)) lc) (from_root_in (one 2 c) (λ e i. omega (arith, (one_is 2 c i).0)))

    foreign_usable : usable foreign ≡ true
    unfolding foreign put_all
    foreign_usable =
        put_all_usable (opened buffer 32768 16384 root) (facts buffer root fits lr) (one 2 c) (sound_one 2 c (omega (arith, cells)) lc) (from_root_in (one 2 c) (λ e i. omega (arith, (one_is 2 c i).0))) ∙ (store buffer root fits lr)

-- two leaves that don't give the root, on a fresh store: 7
pub gets_7 : (buffer a b : List ℕ) → store_size 32768 ≤ length buffer → length a ≡ 32 → length b ≡ 32
    → take_number (opened buffer 32768 16384 (other_than (pair_hash a b))) (two_hashes (other_than (pair_hash a b)) first_two a b) ≡ differs
gets_7 buffer a b fits la lb =
    let root = other_than (pair_hash a b) in
    let size = (pair_octets a b).size in
    let lr : length (other_than (pair_hash a b)) ≡ 32 = other_length (pair_hash a b) ∙ size in
    at_7 (opened buffer 32768 16384 root) root a b lr la lb (store buffer root fits lr) (root_is buffer root fits lr) (blocks buffer root fits lr) (high buffer root fits lr)
    (held buffer root fits lr 1 (lit≤ tt) (lit< tt)) (λ e. other_differs (pair_hash a b) (omega arith) (sym (hash buffer root fits lr) ∙ e))

-- two leaves that give the root, in a store where another hand wrote another first leaf: 8
pub gets_8 : (buffer a b : List ℕ) → store_size 32768 ≤ length buffer → length a ≡ 32 → length b ≡ 32
    → take_number (put (opened buffer 32768 16384 (pair_hash a b)) 2 (other_than a)) (two_hashes (pair_hash a b) first_two a b) ≡ conflict
unfolding foreign
gets_8 buffer a b fits la lb =
    let root = pair_hash a b in
    let lr : length (pair_hash a b) ≡ 32 = (pair_octets a b).size in
    let c = other_than a in
    let lc : length (other_than a) ≡ 32 = other_length a ∙ la in
    let fresh = (opened buffer 32768 16384 root) in
    let same = foreign_same buffer root fits lr c lc in
    let space = room buffer root fits lr c lc in
    at_8 (foreign buffer root fits lr c lc) root a b lr la lb (foreign_usable buffer root fits lr c lc) (same.root ∙ root_is buffer root fits lr) (same.blocks ∙ blocks buffer root fits lr) (same.layers ∙ high buffer root fits lr)
    (held_put_other fresh 4 2 space (lit< tt) c lc 1 (λ e. omega arith) ∙ held buffer root fits lr 1 (lit≤ tt) (lit< tt))
    (hash_put_other fresh 4 2 space (lit< tt) c lc 1 (lit< tt) (λ e. omega arith) ∙ hash buffer root fits lr)
    (held_put_same fresh 4 2 space (lit< tt) c lc)
    (λ e. other_differs a (omega arith) (sym (hash_put_same fresh 4 2 space (lit< tt) c lc) ∙ e))

-- ---- the same with every byte said: zero bytes lent, hashes of 32 zero bytes and of 32 ones

abbrev pub ones : List ℕ
ones = replicate 32 1

zeros_size : length zero_hash ≡ 32
unfolding zero_hash
zeros_size = refl

ones_differ : ones ≡ zero_hash → ⊥
unfolding zero_hash
ones_differ e = let f : ◌≡◌ {A = ℕ} 1 0 = ap (λ (w : List ℕ). get_or w 0 0) e in omega arith

-- 5: padding with another value
pub a_5 : (take_answer (opened (blank 49152) 49152 16384 zero_hash) (two_hashes zero_hash next_two zero_hash ones)).number ≡ 5
unfolding take_answer
a_5 = gets_5 (blank 49152) zero_hash zero_hash ones (blank_room 49152) zeros_size zeros_size refl ones_differ

-- 6: the anchor not held
pub a_6 : (take_answer (opened (blank 49152) 49152 16384 zero_hash) (two_hashes zero_hash first_two zero_hash ones)).number ≡ 6
unfolding take_answer
a_6 = gets_6 (blank 49152) zero_hash zero_hash ones (blank_room 49152) zeros_size zeros_size refl

-- 7: the held anchor differs
pub a_7 : (take_answer (opened (blank 32768) 32768 16384 (other_than (pair_hash zero_hash ones))) (two_hashes (other_than (pair_hash zero_hash ones)) first_two zero_hash ones)).number ≡ 7
unfolding take_answer
a_7 = gets_7 (blank 32768) zero_hash ones (blank_room 32768) zeros_size refl

-- 8: the anchor agrees, a held leaf differs
pub an_8 : (take_answer (put (opened (blank 32768) 32768 16384 (pair_hash zero_hash ones)) 2 (other_than zero_hash)) (two_hashes (pair_hash zero_hash ones) first_two zero_hash ones)).number ≡ 8
unfolding take_answer
an_8 = gets_8 (blank 32768) zero_hash ones (blank_room 32768) zeros_size refl

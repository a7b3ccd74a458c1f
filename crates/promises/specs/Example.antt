-- A message that is taken: two leaves below the root of a file of two blocks, on a store opened for it. So what the theorems say of taken
-- messages is said of something.
-- Assumes nothing.
use Rattle.std.specs.Prelude.{◌≡◌, true, List, [], ◌∷◌, ◌++◌, ℕ, ◌≤◌, length}
use Rattle.std.proofs.Math.Path.{refl, ap, ap₂, sym}
use Rattle.std.proofs.Common.{◌∙◌, lit<, lit≤}
use Rattle.octets.specs.Octets.{Octets, number_at}
use Rattle.octets.specs.OctetsLaws.{same_eq}
use Rattle.sha256.specs.Sha256.{pair_hash}
use Rattle.sha256.specs.Sha256Laws.{pair_octets}
use Rattle.tree.specs.Geometry.{ceil_div, height_from, height, node_number, covering}
use Rattle.tree.specs.Values.{node}
use Rattle.cells.specs.Cells.{hash_at}
use Rattle.cells.specs.Entries.{agrees, lacks}
use Rattle.cells.specs.EntriesLaws.{agrees_held, agrees_free}
use Rattle.store.specs.Store.{store_size, opened}
use Rattle.settling.specs.Subtree.{subtree}
use Rattle.settling.specs.Path.{ancestor, risen, path}
use Rattle.header.specs.declared.Header.{Header}
use Rattle.header.specs.declared.Place.{Place}
use Rattle.header.specs.Header.{header_of, message_size, place_of, rules_kept, length_rule, index_rule}
use Rattle.messages.specs.Padded.{all_from, run_padded, uncles_padded}
use Rattle.messages.specs.Take.{given, settled, anchor, worked, padded, take_number, take_answer, place_in}
use Rattle.knowledge.specs.TakenWhen.{Formed, Right, right_then_taken}
use Rattle.knowledge.specs.TakenEntries.{lacking, count_lacking}
use Rattle.promises.specs.Offered.{two_hashes, offered_header, first_hash, second_hash, two_size, well_formed_in}
use Rattle.promises.specs.TwoBlocks.{high, blocks, store, root_is, held, hash}

abbrev numbers : List ℕ
numbers = 0 ∷ 0 ∷ 0 ∷ 0 ∷ 0 ∷ 0 ∷ 0 ∷ 0 ∷ 0 ∷ 0 ∷ 0 ∷ 2 ∷ 0 ∷ 0 ∷ 0 ∷ 0 ∷ []

-- (0,0,2,0): the two leaves of a file of two blocks
abbrev pub two_leaves : List ℕ → List ℕ → List ℕ
two_leaves a b = two_hashes (pair_hash a b) numbers a b

abbrev two : Header
two = record { base = 0; index = 0; len = 2; proof = 0 }

abbrev below_root : Place
below_root = record { k = 1; u = 0; top = 1 }

module _ (a b : List ℕ) (oa : Octets 32 a) (ob : Octets 32 b) where
  root_size : length (pair_hash a b) ≡ 32
  root_size = (pair_octets a b).size

  pub header_two : header_of (two_leaves a b) ≡ two
  unfolding number_at
  header_two = offered_header (pair_hash a b) numbers (a ++ b) root_size refl

  -- its first hash,
  pub first : given (two_leaves a b) 1 0 ≡ a
  first = first_hash (pair_hash a b) numbers a b root_size refl oa.size ob.size

  -- and its second
  pub second : given (two_leaves a b) 1 1 ≡ b
  second = second_hash (pair_hash a b) numbers a b root_size refl oa.size ob.size

  module _ (buffer : List ℕ) (fits : store_size 32768 ≤ length buffer) where
    place_is : place_in (opened buffer 32768 16384 (pair_hash a b)) (two_leaves a b) ≡ below_root
    unfolding place_of node_number height height_from
    place_is = ap₂ (λ (x : Header) (h : ℕ). place_of x h) header_two (high buffer (pair_hash a b) fits root_size)

    well : Formed (opened buffer 32768 16384 (pair_hash a b)) (two_leaves a b)
    unfolding message_size rules_kept length_rule index_rule height height_from
    well =
        well_formed_in (pair_hash a b) numbers (a ++ b) root_size refl (opened buffer 32768 16384 (pair_hash a b)) two 1 header_two
        (store buffer (pair_hash a b) fits root_size) (root_is buffer (pair_hash a b) fits root_size) (high buffer (pair_hash a b) fits root_size) refl (sym (two_size (pair_hash a b) numbers a b root_size refl oa.size ob.size))

    settled_agree : agrees (opened buffer 32768 16384 (pair_hash a b)) (settled (two_leaves a b) below_root) ≡ true
    unfolding agrees settled subtree path node
    settled_agree =
        rw (
          agrees_free (opened buffer 32768 16384 (pair_hash a b)) 2 (given (two_leaves a b) 1 0) ((held buffer (pair_hash a b) fits root_size) 2 (lit≤ tt) (lit< tt)),
          agrees_free (opened buffer 32768 16384 (pair_hash a b)) 3 (given (two_leaves a b) 1 1) ((held buffer (pair_hash a b) fits root_size) 3 (lit≤ tt) (lit< tt)),
          agrees_held (opened buffer 32768 16384 (pair_hash a b)) 1 (pair_hash (given (two_leaves a b) 1 0) (given (two_leaves a b) 1 1)) ((held buffer (pair_hash a b) fits root_size) 1 (lit≤ tt) (lit< tt)),
          same_eq (hash_at (opened buffer 32768 16384 (pair_hash a b)) 1) (pair_hash (given (two_leaves a b) 1 0) (given (two_leaves a b) 1 1))
              (hash buffer (pair_hash a b) fits root_size ∙ sym (ap₂ pair_hash first second)),
        )

    right : Right (opened buffer 32768 16384 (pair_hash a b)) (two_leaves a b)
    unfolding padded run_padded all_from uncles_padded covering ceil_div anchor ancestor worked risen node
    right =
        record {
          padding = rw (place_is, header_two, (blocks buffer (pair_hash a b) fits root_size));
          held = rw place_is ((held buffer (pair_hash a b) fits root_size) 1 (lit≤ tt) (lit< tt));
          chains = rw place_is (hash buffer (pair_hash a b) fits root_size ∙ sym (ap₂ pair_hash first second));
          agree = rw place_is settled_agree;
        }

    taken : take_number (opened buffer 32768 16384 (pair_hash a b)) (two_leaves a b) ≡ 0
    taken = right_then_taken (opened buffer 32768 16384 (pair_hash a b)) (two_leaves a b) well right

    -- it is taken, and its two leaves are newly (held buffer (pair_hash a b) fits root-size)
    pub taken_with_two : ((take_answer (opened buffer 32768 16384 (pair_hash a b)) (two_leaves a b)).number ≡ 0) × ((take_answer (opened buffer 32768 16384 (pair_hash a b)) (two_leaves a b)).count ≡ 2)
    unfolding take_answer
    taken_with_two = (taken, unfold take_answer in count_lacking (opened buffer 32768 16384 (pair_hash a b)) (two_leaves a b) taken ∙ ap (λ (x : Place). lacking (opened buffer 32768 16384 (pair_hash a b)) (settled (two_leaves a b) x)) place_is ∙ two_new)
      where
        two_new : lacking (opened buffer 32768 16384 (pair_hash a b)) (settled (two_leaves a b) below_root) ≡ 2
        two_new = unfold lacking settled subtree path lacks in rw ((held buffer (pair_hash a b) fits root_size) 2 (lit≤ tt) (lit< tt), (held buffer (pair_hash a b) fits root_size) 3 (lit≤ tt) (lit< tt), (held buffer (pair_hash a b) fits root_size) 1 (lit≤ tt) (lit< tt))

    -- the same for who wants to go on from there: it is taken, well-formed, and its place is the two leaves below the root
    pub two_taken : take_number (opened buffer 32768 16384 (pair_hash a b)) (two_leaves a b) ≡ 0
    two_taken = taken

    pub two_well_formed : Formed (opened buffer 32768 16384 (pair_hash a b)) (two_leaves a b)
    two_well_formed = well

    pub two_place : place_in (opened buffer 32768 16384 (pair_hash a b)) (two_leaves a b) ≡ record { k = 1; u = 0; top = 1 }
    two_place = place_is

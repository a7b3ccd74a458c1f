-- specs/OneRound's two theorems, behind what they stand on there. They stand here, and not there, so that an edit of the order is refused.
-- Assumes nothing.
use Rattle.std.specs.Prelude.{ℕ, ◌≤◌, List}
use Rattle.std.proofs.Math.ListN.{length}
use Rattle.octets.specs.Octets.{Octets, zero_hash}
use Rattle.octets.specs.OctetsLaws.{zero_octets}
use Rattle.store.specs.Store.{store_size}
use Rattle.words.specs.Held.{Holds}
use Rattle.words.specs.History.{Bytes}
use Rattle.words.specs.Hearing.{first, later}
use Rattle.words.specs.Shown.{Source, Gives}
use Rattle.promises.specs.Blank.{blank, blank_room, blank_bytes}
use Rattle.promises.specs.OneRound as Round
use Rattle.promises.specs.OneRound.{OneOf, one, other, message, OneRound, gives_one, root_of, leaves, both_of, X, root_octets, leaf_settles, leaf_lacks, leaves_dropped, held_on, all_held, leaves_first_round, tops_first_round, open_is, opens}

module _ (c d e f b : List ℕ) (oc : Octets 32 c) (od : Octets 32 d) (oe : Octets 32 e) (of : Octets 32 f) (ob : Octets 32 b) (buffer : List ℕ) (bytes : Bytes buffer) (fits : store_size 81920 ≤ length buffer) where
  abbrev leaves_first : List ℕ
  leaves_first = Round.leaves_first c d e f b oc od oe of ob buffer bytes fits

  abbrev tops_first : List ℕ
  tops_first = Round.tops_first c d e f b oc od oe of ob buffer bytes fits

  -- all that the two stores and the messages give, the second store holds
  given_held : (x : Source) → OneOf (both_of c d e f b) leaves_first tops_first x → (l i : ℕ) (v : List ℕ) → Gives x l i v → Holds tops_first l i v
  unfolding Gives
  given_held x one l i v g = held_on c d e f b oc od oe of ob buffer bytes fits l i v (rw (leaves_dropped c d e f b oc od oe of ob buffer bytes fits) at g)
  given_held x other l i v g = g
  given_held x (message r m y) l i v g = all_held c d e f b oc od oe of ob buffer bytes fits m y l i v g

  differ : OneRound (both_of c d e f b) 81920 16384 (root_of c d e f b) leaves_first tops_first
  unfolding X
  differ =
      record {
        buffer = buffer;
        bytes = bytes;
        octets = root_octets c d e f b oc od oe of ob;
        opens = opens c d e f b oc od oe of ob buffer bytes fits;
        here = rw (open_is c d e f b oc od oe of ob buffer bytes fits) (leaves_first_round c d e f b oc od oe of ob buffer bytes fits);
        there = rw (open_is c d e f b oc od oe of ob buffer bytes fits) (tops_first_round c d e f b oc od oe of ob buffer bytes fits);
        lacks = rw (leaves_dropped c d e f b oc od oe of ob buffer bytes fits) (leaf_lacks c d e f b oc od oe of ob buffer bytes fits);
        v = c;
        holds = all_held c d e f b oc od oe of ob buffer bytes fits (leaves c d e f b) (later first) 0 0 c (leaf_settles c d e f b oc od oe of ob buffer bytes fits);
        none = λ h x y p q. gives_one tops_first h x y (given_held x p) (given_held y q);
      }

  -- ONE ROUND ALONE: the store that heard the leaves first dropped them, the other holds them; and no two of stores and messages show a pair
  pub one_round_alone : (s : List ℕ) × (t : List ℕ) × OneRound (both_of c d e f b) 81920 16384 (root_of c d e f b) s t
  one_round_alone = (leaves_first, tops_first, differ)

-- with every byte said
pub one_round_of_zeros : (s : List ℕ) × (t : List ℕ) × OneRound (both_of zero_hash zero_hash zero_hash zero_hash zero_hash) 81920 16384 (root_of zero_hash zero_hash zero_hash zero_hash zero_hash) s t
one_round_of_zeros =
    one_round_alone zero_hash zero_hash zero_hash zero_hash zero_hash zero_octets zero_octets zero_octets zero_octets zero_octets (blank 81920) (blank_bytes 81920) (blank_room 81920)

-- 01, "How much each contract says": the impostors, each refuted by an input with every byte said. The store: zero bytes, as many as it uses, opened
-- for a file of two blocks whose leaves are 32 zero bytes each; the message: those two leaves.
-- Assumes nothing.
use Rattle.std.specs.Prelude.{◌≡◌, List, ℕ, ◌<◌}
use Rattle.std.proofs.Common.{ap, arith}
use Rattle.octets.specs.Octets.{zero_hash}
use Rattle.octets.specs.OctetsLaws.{zero_octets}
use Rattle.numbers.specs.Numbers.{done}
use Rattle.sha256.specs.Sha256.{pair_hash}
use Rattle.sha256.specs.Sha256Laws.{pair_octets}
use Rattle.tree.specs.Geometry.{ceil_div, block_count, height_from, height}
use Rattle.cells.specs.Entries.{newly}
use Rattle.cells.specs.EntriesLaws.{newly_none}
use Rattle.store.specs.Store.{height_of, positions, open_after, opened}
use Rattle.messages.specs.Take.{take_answer, take_after}
use Rattle.words.specs.Held.{Holds}
use Rattle.knowledge.specs.RootAlone.{root_alone}
use Rattle.knowledge.specs.Replies.{own_reply}
use Rattle.promises.specs.Example.{two_leaves, taken_with_two}
use Rattle.promises.specs.Offered.{two_hashes}
use Rattle.promises.specs.NumbersGiven.{first_two, ones, a_6}
use Rattle.promises.specs.Witness.{ours_with_two_leaves, two_leaves_held}
use Rattle.promises.specs.TwoBlocks.{opens, open_is}
use Rattle.promises.specs.Blank.{blank, blank_room, blank_bytes}
use Rattle.promises.specs.ServedAndTaken.{ask_for_two, asked_is_0, reply_is}

-- the store and the message
abbrev pub just_opened : List ℕ
just_opened = open_after (blank 32768) 32768 16384 (pair_hash zero_hash zero_hash)

abbrev pub its_leaves : List ℕ
its_leaves = two_leaves zero_hash zero_hash

-- ALWAYS 6: this message is to be answered 0, with count 2
pub not_always_6 : ((take_answer just_opened its_leaves).number ≡ 0) × ((take_answer just_opened its_leaves).count ≡ 2)
not_always_6 = rw (open_is (blank 32768) (pair_hash zero_hash zero_hash) (blank_room 32768)) (taken_with_two zero_hash zero_hash zero_octets zero_octets (blank 32768) (blank_room 32768))

-- where something is newly held, the bytes have changed
pub learns : (s m : List ℕ) → 0 < (take_answer s m).count → take_after s m ≡ s → ⊥
unfolding take_answer
learns s m c e = omega (arith, ap (newly (positions (height_of s)) s) e, newly_none (positions (height_of s)) s)

-- 0 WITH NOTHING STORED: the bytes are to change
pub something_stored : take_after just_opened its_leaves ≡ just_opened → ⊥
something_stored e = learns just_opened its_leaves (omega (arith, not_always_6.1)) e

-- ALL HELD AT OPENING: kd_held gives neither leaf
pub no_leaf_at_opening : (i : ℕ) (v : List ℕ) → Holds just_opened 0 i v → ⊥
unfolding height height_from block_count ceil_div
no_leaf_at_opening i v h =
    let t = (root_alone (blank 32768) 32768 16384 (pair_hash zero_hash zero_hash) (pair_octets zero_hash zero_hash).size (opens (blank 32768) (blank_room 32768)) 0 i v).0 h in
    let w : ◌≡◌ {A = ℕ} 0 1 = t.0 in
    omega arith

-- A STORE THAT NEVER LEARNS: after the message kd_held gives both
pub both_leaves_after : Holds (take_after just_opened its_leaves) 0 0 zero_hash × Holds (take_after just_opened its_leaves) 0 1 zero_hash
both_leaves_after = let h = two_leaves_held zero_hash zero_hash zero_octets zero_octets (blank 32768) (blank_bytes 32768) (blank_room 32768) in (h.0, h.1)

-- AN INVENTED COUNT: it is 2, and of the same message, offered again, 0
pub counts_differ : ((take_answer just_opened its_leaves).count ≡ 2) × (take_answer (take_after just_opened its_leaves) its_leaves ≡ done 0)
counts_differ =
    let m = ask_for_two zero_hash zero_hash in
    let z = asked_is_0 zero_hash zero_hash zero_octets zero_octets (blank 32768) (blank_bytes 32768) (blank_room 32768) in
    let again = own_reply m (ours_with_two_leaves zero_hash zero_hash zero_octets zero_octets (blank 32768) (blank_bytes 32768) (blank_room 32768)) z in
    (not_always_6.1, rw (reply_is zero_hash zero_hash zero_octets zero_octets (blank 32768) (blank_bytes 32768) (blank_room 32768)) at again)

-- ALWAYS 0: a message whose anchor is not held is to be answered 6, and others 5, 7 and 8 (NumbersGiven.antt)
pub not_always_0 : (take_answer (opened (blank 49152) 49152 16384 zero_hash) (two_hashes zero_hash first_two zero_hash ones)).number ≡ 6
not_always_0 = a_6

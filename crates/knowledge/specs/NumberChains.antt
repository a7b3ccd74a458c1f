-- The number of each call as a chain of tests, in 01's order. When each number is given, and that it is in the table, follows from the chain
-- (numbers/specs/Chain); what the tests say, from the laws of what is tested.
-- Assumes nothing.
use Rattle.std.specs.Prelude.{◌≡◌, refl, Bool, true, false, cond, List, ℕ, suc, ◌-◌, ◌*◌, length, eqb, leb, ltb}
use Rattle.std.proofs.Common.{sym, ◌∙◌, eqb-true}
use Rattle.octets.specs.Octets.{same, zero_hash}
use Rattle.numbers.specs.Numbers.{no_message, other_root, rule_broken, wrong_size, wrong_padding, no_anchor, unusable, facts_out_of_range, no_room, not_held, not_saved, refused, done}
use Rattle.numbers.specs.Chain.{Chain, last, test, decided, verdict}
use Rattle.limits.specs.Limits.{longest_hashed}
use Rattle.sha256.specs.Sha256.{sha256}
use Rattle.sha256.specs.Answer.{hashed_of}
use Rattle.sha256.specs.declared.Hashed.{Hashed}
use Rattle.tree.specs.Geometry.{node_number, has_layer, piece_count, block_size, piece_size}
use Rattle.tree.specs.Values.{node, leaf_of, layer_leaf}
use Rattle.cells.specs.Cells.{held_at, hash_at}
use Rattle.cells.specs.Entries.{agrees}
use Rattle.store.specs.Store.{usable, facts_root, file_length, piece_length, blocks_of, height_of, in_tree, no_hash, facts_in_range, store_size, size_answer, open_answer, held_answer}
use Rattle.settling.specs.Subtree.{subtree}
use Rattle.header.specs.Header.{header_of, message_root, is_hashes, is_request, is_reject, rules_kept, message_size}
use Rattle.messages.specs.Take.{header_number, settled, anchor, worked, padded, anchored, body_number, place_in, or_else, take_number, reject_answer}
use Rattle.serve.specs.Serve.{all_held, request_number}
use Rattle.pieces.specs.Pieces.{judged_at, layer_of_pieces, layer_number, block_number, piece_height, piece_number}
use Rattle.marks.specs.Marks.{block_there, field_size, field_answer}
use Rattle.saved.specs.Form.{length_in, piece_length_in, place_count, saved_bytes, opens}
use Rattle.saved.specs.Save.{saved_of, save_answer}
use Rattle.saved.specs.Saved.{opening_number, sound, rooted, load_number, load_answer, not_repaired, repaired_many, repair_number, repair_answer}
use Rattle.saved.specs.declared.repair.Repaired.{Repaired}

-- ---- kd_sha256, kd_store_size, kd_open, kd_held

abbrev pub hash_chain : List ℕ → Chain
hash_chain m = test (ltb (length m) (suc longest_hashed)) wrong_size (last 0)

pub hash_tests : (m : List ℕ) → (hashed_of m).number ≡ decided (hash_chain m)
unfolding hashed_of
hash_tests m = by (ltb (length m) (suc longest_hashed))
  where
    by : (b : Bool) → (cond {A = Hashed} b (record { number = 0; hash = sha256 m }) (record { number = wrong_size; hash = zero_hash })).number ≡ cond b 0 wrong_size
    by true = refl
    by false = refl

abbrev pub size_chain : ℕ → ℕ → Chain
size_chain n plen = test (facts_in_range n plen) facts_out_of_range (last 0)

pub size_tests : (n plen : ℕ) → (size_answer n plen).number ≡ decided (size_chain n plen)
unfolding size_answer
size_tests n plen = by (facts_in_range n plen)
  where
    by : (b : Bool) → (cond b (record { number = 0; count = store_size n }) (refused facts_out_of_range)).number ≡ cond b 0 facts_out_of_range
    by true = refl
    by false = refl

abbrev pub open_chain : List ℕ → ℕ → ℕ → Chain
open_chain s n plen = test (facts_in_range n plen) facts_out_of_range (test (leb (store_size n) (length s)) unusable (last 0))

pub open_tests : (s : List ℕ) (n plen : ℕ) → (open_answer s n plen).number ≡ decided (open_chain s n plen)
unfolding open_answer
open_tests s n plen = by (facts_in_range n plen) (leb (store_size n) (length s))
  where
    by : (r f : Bool) → (cond r (cond f (record { number = 0; count = 1 }) (refused unusable)) (refused facts_out_of_range)).number ≡ cond r (cond f 0 unusable) facts_out_of_range
    by true true = refl
    by true false = refl
    by false f = refl

abbrev pub held_chain : List ℕ → ℕ → ℕ → Chain
held_chain s l i = test (usable s) unusable (test (in_tree (height_of s) l i) rule_broken (test (held_at s (node_number (height_of s) l i)) no_anchor (last 0)))

pub held_tests : (s : List ℕ) (l i : ℕ) → (held_answer s l i).number ≡ decided (held_chain s l i)
unfolding held_answer
held_tests s l i = by (usable s) (in_tree (height_of s) l i) (held_at s (node_number (height_of s) l i)) (hash_at s (node_number (height_of s) l i))
  where
    by : (u t h : Bool) (v : List ℕ) → (cond {A = Hashed} u (cond t (cond h (record { number = 0; hash = v }) (no_hash no_anchor)) (no_hash rule_broken)) (no_hash unusable)).number
        ≡ cond u (cond t (cond h 0 no_anchor) rule_broken) unusable
    by true true true v = refl
    by true true false v = refl
    by true false h v = refl
    by false t h v = refl

-- ---- kd_take, kd_take_reject, kd_serve

-- 9, 1, 2, 3 of a message, then the rest
abbrev pub headed : Bool → List ℕ → List ℕ → Chain → Chain
headed form s m c =
    test (usable s) unusable
    (test form no_message (test (same (facts_root s) (message_root m)) other_root (test (rules_kept (header_of m) (height_of s)) rule_broken c)))

header_then : (u f r k : Bool) (x : ℕ)
    → or_else (cond u (cond f (cond r (cond k 0 rule_broken) other_root) no_message) unusable) x ≡ cond u (cond f (cond r (cond k x rule_broken) other_root) no_message) unusable
header_then true true true true x = refl
header_then true true true false x = refl
header_then true true false k x = refl
header_then true false r k x = refl
header_then false f r k x = refl

-- 5, then 6, 7, 8 or 0
abbrev pub body_chain : List ℕ → List ℕ → Chain
body_chain s m =
    test (padded m (header_of m) (place_in s m) (blocks_of s)) wrong_padding
    (verdict (held_at s (anchor (place_in s m))) (same (hash_at s (anchor (place_in s m))) (worked m (place_in s m))) (agrees s (settled m (place_in s m))))

-- 9, 1, 2, 3 and 4 of a hashes message, then the rest
abbrev pub formed_then : List ℕ → List ℕ → Chain → Chain
formed_then s m c = headed (is_hashes m) s m (test (eqb (length m) (message_size (header_of m))) wrong_size c)

abbrev pub take_chain : List ℕ → List ℕ → Chain
take_chain s m = formed_then s m (body_chain s m)

pub take_tests : (s m : List ℕ) → take_number s m ≡ decided (take_chain s m)
unfolding take_number header_number body_number anchored
take_tests s m = header_then (usable s) (is_hashes m) (same (facts_root s) (message_root m)) (rules_kept (header_of m) (height_of s)) _

abbrev pub reject_chain : List ℕ → List ℕ → Chain
reject_chain s m = headed (is_reject m) s m (last 0)

pub reject_tests : (s m : List ℕ) → (reject_answer s m).number ≡ decided (reject_chain s m)
unfolding reject_answer header_number
reject_tests s m = refl

-- of a request before its room is looked at
abbrev pub request_chain : List ℕ → List ℕ → Chain
request_chain s m = headed (is_request m) s m (test (all_held s (place_in s m)) not_held (last 0))

pub request_tests : (s m : List ℕ) → request_number s m ≡ decided (request_chain s m)
unfolding request_number header_number
request_tests s m = header_then (usable s) (is_request m) (same (facts_root s) (message_root m)) (rules_kept (header_of m) (height_of s)) _

-- ---- kd_load_layer, kd_judge_block, kd_judge_piece

-- 9, 3 and 4, then the rest
abbrev pub gated : Bool → Bool → Bool → Chain → Chain
gated store inside sized c = test store unusable (test inside rule_broken (test sized wrong_size c))

-- a position against leaves below it
abbrev pub judged_chain : List ℕ → (ℕ → List ℕ) → ℕ → ℕ → Chain
judged_chain s leaf k n = verdict (held_at s n) (same (hash_at s n) (node leaf k 0)) (agrees s (subtree leaf k n 0))

abbrev pub layer_then : List ℕ → List ℕ → Chain → Chain
layer_then s layer = gated (usable s) (has_layer (file_length s) (piece_length s)) (eqb (length layer) (32 * piece_count (file_length s) (piece_length s)))

abbrev pub layer_chain : List ℕ → List ℕ → Chain
layer_chain s layer = layer_then s layer (judged_chain s (layer_leaf layer (layer_of_pieces s)) (height_of s - layer_of_pieces s) 1)

pub layer_tests : (s layer : List ℕ) → layer_number s layer ≡ decided (layer_chain s layer)
unfolding layer_number judged_at
layer_tests s layer = refl

abbrev pub block_then : List ℕ → ℕ → List ℕ → Chain → Chain
block_then s i block = gated (usable s) (ltb i (blocks_of s)) (eqb (length block) (block_size (file_length s) i))

abbrev pub leaf_chain : List ℕ → ℕ → List ℕ → Chain
leaf_chain s i block = verdict (held_at s (node_number (height_of s) 0 i)) (same (hash_at s (node_number (height_of s) 0 i)) (sha256 block)) true

abbrev pub block_chain : List ℕ → ℕ → List ℕ → Chain
block_chain s i block = block_then s i block (leaf_chain s i block)

pub block_tests : (s : List ℕ) (i : ℕ) (block : List ℕ) → block_number s i block ≡ decided (block_chain s i block)
unfolding block_number
block_tests s i block = refl

abbrev pub piece_then : List ℕ → ℕ → List ℕ → Chain → Chain
piece_then s i piece = gated (usable s) (ltb i (piece_count (file_length s) (piece_length s))) (eqb (length piece) (piece_size (file_length s) (piece_length s) i))

abbrev pub piece_chain : List ℕ → ℕ → List ℕ → Chain
piece_chain s i piece = piece_then s i piece (judged_chain s (leaf_of piece) (piece_height s) (node_number (height_of s) (piece_height s) i))

pub piece_tests : (s : List ℕ) (i : ℕ) (piece : List ℕ) → piece_number s i piece ≡ decided (piece_chain s i piece)
unfolding piece_number judged_at
piece_tests s i piece = refl

-- ---- kd_clear, kd_marked, kd_bitfield

abbrev pub there_chain : List ℕ → ℕ → Chain
there_chain s i = test (usable s) unusable (test (ltb i (blocks_of s)) rule_broken (last 0))

pub there_tests : (s : List ℕ) (i : ℕ) → block_there s i ≡ decided (there_chain s i)
unfolding block_there
there_tests s i = refl

abbrev pub field_chain : List ℕ → List ℕ → Chain
field_chain s out = test (usable s) unusable (test (leb (field_size s) (length out)) no_room (last 0))

pub field_tests : (s out : List ℕ) → (field_answer s out).number ≡ decided (field_chain s out)
unfolding field_answer
field_tests s out = by (usable s) (leb (field_size s) (length out)) (field_size s)
  where
    by : (a b : Bool) (n : ℕ) → (cond a (cond b (done n) (refused no_room)) (refused unusable)).number ≡ cond a (cond b 0 no_room) unusable
    by true true n = refl
    by true false n = refl
    by false b n = refl

-- ---- kd_save, kd_load, kd_repair

abbrev pub save_chain : List ℕ → List ℕ → Chain
save_chain s out = test (usable s) unusable (test (leb (length (saved_bytes (saved_of s))) (length out)) no_room (last 0))

pub save_tests : (s out : List ℕ) → (save_answer s out).number ≡ decided (save_chain s out)
unfolding save_answer
save_tests s out = by (usable s) (leb (length (saved_bytes (saved_of s))) (length out)) (length (saved_bytes (saved_of s)))
  where
    by : (a b : Bool) (n : ℕ) → (cond a (cond b (done n) (refused no_room)) (refused unusable)).number ≡ cond a (cond b 0 no_room) unusable
    by true true n = refl
    by true false n = refl
    by false b n = refl

-- 32 without a whole opening record, then 10, 9 and 32: `ok` is what is asked besides
abbrev pub saved_chain : Bool → List ℕ → List ℕ → Chain
saved_chain ok s b =
    test (opens b) not_saved
    (test (facts_in_range (length_in b) (piece_length_in b)) facts_out_of_range (test (leb (store_size (length_in b)) (length s)) unusable (test ok not_saved (last 0))))

-- the opening's number first, then the rest
in_two : (a b c d : Bool)
    → cond (eqb (cond a (cond b (cond c 0 unusable) facts_out_of_range) not_saved) 0) (cond d 0 not_saved) (cond a (cond b (cond c 0 unusable) facts_out_of_range) not_saved)
    ≡ cond a (cond b (cond c (cond d 0 not_saved) unusable) facts_out_of_range) not_saved
in_two true true true true = refl
in_two true true true false = refl
in_two true true false d = refl
in_two true false c d = refl
in_two false b c d = refl

load_number_lem : (s b : List ℕ) → load_number s b ≡ decided (saved_chain (sound b) s b)
unfolding opening_number
load_number_lem s b = in_two (opens b) (facts_in_range (length_in b) (piece_length_in b)) (leb (store_size (length_in b)) (length s)) (sound b)

repair_number_lem : (s b : List ℕ) → repair_number s b ≡ decided (saved_chain (rooted b) s b)
unfolding opening_number
repair_number_lem s b = in_two (opens b) (facts_in_range (length_in b) (piece_length_in b)) (leb (store_size (length_in b)) (length s)) (rooted b)

counted : (n p : ℕ) → (cond (eqb n 0) (done p) (refused n)).number ≡ n
counted n p = by (eqb n 0) refl
  where
    by : (x : Bool) → eqb n 0 ≡ x → (cond (eqb n 0) (done p) (refused n)).number ≡ n
    by true e = rw e (sym (eqb-true n 0 e))
    by false e = rw e

counted_two : (n p q : ℕ) → (cond {A = Repaired} (eqb n 0) (record { number = 0; dropped = p; held = q }) (not_repaired n)).number ≡ n
counted_two n p q = by (eqb n 0) refl
  where
    by : (x : Bool) → eqb n 0 ≡ x → (cond {A = Repaired} (eqb n 0) (record { number = 0; dropped = p; held = q }) (not_repaired n)).number ≡ n
    by true e = rw e (sym (eqb-true n 0 e))
    by false e = rw e

pub load_tests : (s b : List ℕ) → (load_answer s b).number ≡ decided (saved_chain (sound b) s b)
unfolding load_answer
load_tests s b = counted (load_number s b) (place_count b) ∙ load_number_lem s b

pub repair_tests : (s b : List ℕ) → (repair_answer s b).number ≡ decided (saved_chain (rooted b) s b)
unfolding repair_answer
repair_tests s b = counted_two (repair_number s b) (place_count b - repaired_many s b) (repaired_many s b) ∙ repair_number_lem s b

-- 01, "Worked by hand": the lines marked P, in the order of 01, each above its theorem, and those of 02's requests 8 and 6. The lines without
-- P are run and compared by the program `worked`.
-- Assumes nothing.
use Rattle.std.specs.Prelude.{◌≡◌, true, false, List, ◌⊎◌, ℕ, ◌+◌, ◌-◌, ◌^◌, ◌≤◌, length}
use Rattle.std.proofs.Math.Path.{refl}
use Rattle.std.proofs.Common.{ap, ◌∙◌, arith}
use Rattle.octets.specs.Octets.{same}
use Rattle.numbers.specs.Numbers.{rule_broken, no_anchor, not_held}
use Rattle.tree.specs.Geometry.{node_number, Padding, ceil_div, block_count, height_from, height, covering, piece_layer, is_piece_length, has_layer, piece_count, piece_size}
use Rattle.tree.specs.Values.{pieces_root}
use Rattle.store.specs.Store.{usable, file_length, facts_root, blocks_of, height_of, positions, facts_in_range, store_size, opened, held_answer}
use Rattle.settling.specs.Path.{sibling, ancestor}
use Rattle.header.specs.declared.Header.{Header}
use Rattle.header.specs.Header.{header_size, header_of, message_root, is_request, length_rule, index_rule, rules_kept, place_of, message_size}
use Rattle.header.specs.HeaderLaws.{rules_kept_lem}
use Rattle.messages.specs.Take.{anchor, take_answer, reject_answer}
use Rattle.serve.specs.Serve.{serve_answer}
use Rattle.words.specs.History.{OurStore}
use Rattle.words.specs.Messages.{Refused3}
use Rattle.words.specs.Shown.{held_by, of_file, Shown}
use Rattle.words.specs.File.{For}
use Rattle.knowledge.specs.ByHand.{broken_3, of_five, no_rule_at_height_0}
use Rattle.promises.specs.PastTheBlocks.{past_blocks}
use Rattle.promises.specs.EachNumber.{take_3, serve_3, reject_3}

-- "N=1, h=0: every request of 49 bytes for its root, with room for the reject, is 3."
pub n_1 : height (block_count 1) ≡ 0
unfolding ceil_div block_count height_from height
n_1 = refl

-- as every hashes message, request and reject of the right form for that root is
pub message_for_one_byte : (s m : List ℕ) → usable s ≡ true → file_length s ≡ 1 → same (facts_root s) (message_root m) ≡ true → Refused3 s m
unfolding height_of blocks_of
message_for_one_byte s m u n r =
    let h : height (block_count (file_length s)) ≡ 0 = ap (λ (x : ℕ). height (block_count x)) n ∙ n_1 in
    broken_3 s m u r (ap (rules_kept (header_of m)) h ∙ no_rule_at_height_0 (header_of m))

pub request_for_one_byte : (s m out : List ℕ) → usable s ≡ true → file_length s ≡ 1 → is_request m ≡ true → same (facts_root s) (message_root m) ≡ true → header_size ≤ length out
    → (serve_answer s m out).number ≡ rule_broken
request_for_one_byte s m out u n q r room = (message_for_one_byte s m u n r).request out q room

-- "N=16384: B=1."
pub n_16384 : block_count 16384 ≡ 1
unfolding ceil_div block_count
n_16384 = refl

-- "N=16385: B=2, h=1."
pub n_16385 : (block_count 16385 ≡ 2) × (height 2 ≡ 1)
unfolding ceil_div block_count height_from height
n_16385 = (refl, refl)

-- "N=81920: B=5, h=3; 5, 3, 2, 1 positions that aren't padding."
pub n_81920 : (block_count 81920 ≡ 5) × (height 5 ≡ 3) × (covering 5 0 ≡ 5) × (covering 5 1 ≡ 3) × (covering 5 2 ≡ 2) × (covering 5 3 ≡ 1)
unfolding ceil_div block_count height_from height covering
n_81920 = (refl, refl, refl, refl, refl, refl)

-- "641 blocks: h=10, 383 padding leaves."
pub blocks_641 : (height 641 ≡ 10) × (2 ^ height 641 - covering 641 0 ≡ 383)
unfolding ceil_div height_from height covering
blocks_641 = (refl, refl)

-- "N=100000, piece 65536: B=7, h=3, two pieces, the second 34464 bytes."
pub n_100000 :
    (block_count 100000 ≡ 7) × (height 7 ≡ 3) × (is_piece_length 65536 ≡ true) × (piece_layer 65536 ≡ 2) × (has_layer 100000 65536 ≡ true)
    × (piece_count 100000 65536 ≡ 2) × (piece_size 100000 65536 1 ≡ 34464)
unfolding ceil_div block_count height_from height piece_layer is_piece_length has_layer piece_count piece_size
n_100000 = (refl, refl, refl, refl, refl, refl, refl)

-- "N=50000: B=4, no piece layer." (with the same piece length)
pub n_50000 : (block_count 50000 ≡ 4) × (has_layer 50000 65536 ≡ false)
unfolding ceil_div block_count has_layer
n_50000 = (refl, refl)

-- ---- "With B=5 (base, index, length, proof):"

abbrev header : ℕ → ℕ → ℕ → ℕ → Header
header base index len proof = record { base = base; index = index; len = len; proof = proof }

-- "(0,0,2,2): u=2, 177 bytes, anchor the root, 6 new on a fresh store."
pub message_0_0_2_2 :
    (rules_kept (header 0 0 2 2) 3 ≡ true) × ((place_of (header 0 0 2 2) 3).u ≡ 2) × (message_size (header 0 0 2 2) ≡ 177) × (anchor (place_of (header 0 0 2 2) 3) ≡ node_number 3 3 0)
unfolding rules_kept length_rule index_rule place_of message_size anchor ancestor node_number height_from height
message_0_0_2_2 = (refl, refl, refl, refl)

-- and 6 new on a fresh store (that such a message exists: TrueFirstPair.antt)
pub six_new : (b : List ℕ) (plen : ℕ) (root m : List ℕ) → facts_in_range 81920 plen ≡ true → store_size 81920 ≤ length b → length root ≡ 32
    → header_of m ≡ header 0 0 2 2 → (take_answer (opened b 81920 plen root) m).number ≡ 0 → (take_answer (opened b 81920 plen root) m).count ≡ 6
unfolding take_answer
six_new = Rattle.knowledge.specs.ByHand.six_new

-- "(0,4,4,2): u=1, 209 bytes."
pub message_0_4_4_2 : (rules_kept (header 0 4 4 2) 3 ≡ true) × ((place_of (header 0 4 4 2) 3).u ≡ 1) × (message_size (header 0 4 4 2) ≡ 209)
unfolding rules_kept length_rule index_rule place_of message_size node_number height_from height
message_0_4_4_2 = (refl, refl, refl)

-- "(0,0,4,1): u=0, anchor in layer 2."
pub message_0_0_4_1 : (rules_kept (header 0 0 4 1) 3 ≡ true) × ((place_of (header 0 0 4 1) 3).u ≡ 0) × (anchor (place_of (header 0 0 4 1) 3) ≡ node_number 3 2 0)
unfolding rules_kept length_rule index_rule place_of message_size anchor ancestor node_number height_from height
message_0_0_4_1 = (refl, refl, refl)

-- "(1,2,2,1): u=1."
pub message_1_2_2_1 : (rules_kept (header 1 2 2 1) 3 ≡ true) × ((place_of (header 1 2 2 1) 3).u ≡ 1)
unfolding rules_kept length_rule index_rule place_of message_size node_number height_from height
message_1_2_2_1 = (refl, refl)

-- ---- 02, request 8: "requests that reach into padding", with B=5

-- a run wholly in padding, from its first leaf to its anchor, (0,6,2,0): not 3 any more
pub message_0_6_2_0 :
    (rules_kept (header 0 6 2 0) 3 ≡ true) × (message_size (header 0 6 2 0) ≡ 113) × (anchor (place_of (header 0 6 2 0) 3) ≡ node_number 3 1 3) × Padding 5 0 6 × Padding 5 1 3
unfolding rules_kept length_rule index_rule place_of message_size anchor ancestor node_number height_from height Padding
message_0_6_2_0 = (refl, refl, refl, omega arith, omega arith)

-- "on a fresh store the true message is 6": both its hashes are the leaves' padding value
pub past_blocks_fresh : (root : List ℕ) → length root ≡ 32 → (b : List ℕ) (plen : ℕ) → facts_in_range 81920 plen ≡ true → store_size 81920 ≤ length b
    → (take_answer (opened b 81920 plen root) (past_blocks root)).number ≡ no_anchor
past_blocks_fresh = Rattle.promises.specs.PastTheBlocks.past_blocks_fresh

-- and the request for it 12, as long as there is room for the reject
pub past_blocks_asked : (root : List ℕ) → length root ≡ 32 → (b : List ℕ) (plen : ℕ) → facts_in_range 81920 plen ≡ true → store_size 81920 ≤ length b
    → (m : List ℕ) → is_request m ≡ true → message_root m ≡ root → header_of m ≡ header 0 6 2 0 → (out : List ℕ) → header_size ≤ length out
    → (serve_answer (opened b 81920 plen root) m out).number ≡ not_held
past_blocks_asked = Rattle.promises.specs.PastTheBlocks.past_blocks_asked

-- in a store that only this build has written it is 0 once kd_held gives its anchor, index 3 of layer 1, or a pair is shown
pub past_blocks_taken : (file : List ℕ) {s : List ℕ} → OurStore s → For file s → length file ≡ 81920 → (held_answer s 1 3).number ≡ 0
    → Shown (height_of s) (held_by s) (of_file file) ⊎ ((take_answer s (past_blocks (pieces_root file))).number ≡ 0)
past_blocks_taken = Rattle.promises.specs.PastTheBlocks.past_blocks_taken

-- with an uncle, (0,6,2,1): the uncle, index 2 of layer 1, covers block 4 and is no padding
pub message_0_6_2_1 : (rules_kept (header 0 6 2 1) 3 ≡ true) × ((place_of (header 0 6 2 1) 3).u ≡ 1) × (sibling 3 ≡ 2) × (Padding 5 1 2 → ⊥)
unfolding rules_kept length_rule index_rule place_of node_number height_from height sibling Padding
message_0_6_2_1 = (refl, refl, refl, λ p. omega arith)

-- runs half in padding, (0,4,2,0) and (1,2,2,0): the second hash is padding, the first is not
pub message_0_4_2_0 : (rules_kept (header 0 4 2 0) 3 ≡ true) × (Padding 5 0 4 → ⊥) × Padding 5 0 5
unfolding rules_kept length_rule index_rule height_from height Padding
message_0_4_2_0 = (refl, λ p. omega arith, omega arith)

pub message_1_2_2_0 : (rules_kept (header 1 2 2 0) 3 ≡ true) × (Padding 5 1 2 → ⊥) × Padding 5 1 3
unfolding rules_kept length_rule index_rule height_from height Padding
message_1_2_2_0 = (refl, λ p. omega arith, omega arith)

-- ---- "Refused 3:" in every usable store of N=81920, as a hashes message, as a request, as a reject

-- "(0,0,2,3)"
pub refused_0_0_2_3 : (s m : List ℕ) → usable s ≡ true → file_length s ≡ 81920 → same (facts_root s) (message_root m) ≡ true → header_of m ≡ header 0 0 2 3 → Refused3 s m
refused_0_0_2_3 s m u n r e = broken_3 s m u r (of_five s m (header 0 0 2 3) n e fails)
  where
    fails : rules_kept (header 0 0 2 3) 3 ≡ false
    fails = unfold rules_kept length_rule index_rule height_from height in refl

-- "(1,0,2,4294967295)"
pub refused_1_0_2_large : (s m : List ℕ) → usable s ≡ true → file_length s ≡ 81920 → same (facts_root s) (message_root m) ≡ true → header_of m ≡ header 1 0 2 4294967295 → Refused3 s m
refused_1_0_2_large s m u n r e = broken_3 s m u r (of_five s m (header 1 0 2 4294967295) n e fails)
  where
    fails : rules_kept (header 1 0 2 4294967295) 3 ≡ false
    fails = unfold rules_kept length_rule index_rule height_from height in refl

-- one past the layer, (0,8,2,0), and an index whose sum with the length is 2^32
pub refused_0_8_2_0 : (s m : List ℕ) → usable s ≡ true → file_length s ≡ 81920 → same (facts_root s) (message_root m) ≡ true → header_of m ≡ header 0 8 2 0 → Refused3 s m
refused_0_8_2_0 s m u n r e = broken_3 s m u r (of_five s m (header 0 8 2 0) n e fails)
  where
    fails : rules_kept (header 0 8 2 0) 3 ≡ false
    fails = unfold rules_kept length_rule index_rule height_from height in refl

pub refused_0_large_2_0 : (s m : List ℕ) → usable s ≡ true → file_length s ≡ 81920 → same (facts_root s) (message_root m) ≡ true → header_of m ≡ header 0 4294967294 2 0 → Refused3 s m
refused_0_large_2_0 s m u n r e = broken_3 s m u r (of_five s m (header 0 4294967294 2 0) n e fails)
  where
    fails : rules_kept (header 0 4294967294 2 0) 3 ≡ false
    fails = unfold rules_kept length_rule index_rule height_from height in refl

-- ---- 02, request 6: "length up to 8192 instead of 512, N up to 2^34 (h up to 20)"

-- N=2^34: B=2^20, h=20, and the store's bytes; with one byte more the tree would have height 21, and the length is out of range
pub n_longest :
    (block_count (2 ^ 34) ≡ 2 ^ 20) × (height (2 ^ 20) ≡ 20) × (store_size (2 ^ 34) ≡ 70254623) × (height (block_count (2 ^ 34 + 1)) ≡ 21)
    × (facts_in_range (2 ^ 34) 16384 ≡ true) × (facts_in_range (2 ^ 34 + 1) 16384 ≡ false)
unfolding ceil_div block_count height_from height store_size positions facts_in_range piece_layer is_piece_length
n_longest = (refl, refl, refl, refl, refl, refl)

-- 01's "Refused 3" has length 1024 with B=5: it still is, now because the tree is too low
pub refused_0_0_1024_0 : (s m : List ℕ) → usable s ≡ true → file_length s ≡ 81920 → same (facts_root s) (message_root m) ≡ true → header_of m ≡ header 0 0 1024 0 → Refused3 s m
refused_0_0_1024_0 s m u n r e = broken_3 s m u r (of_five s m (header 0 0 1024 0) n e fails)
  where
    fails : rules_kept (header 0 0 1024 0) 3 ≡ false
    fails = unfold rules_kept length_rule index_rule height_from height in refl

-- a header that keeps the rules is not 3, in whichever of the three forms it comes
abbrev Not3 : List ℕ → List ℕ → Type 0
Not3 s m =
    ((take_answer s m).number ≡ rule_broken → ⊥) × ((out : List ℕ) → (serve_answer s m out).number ≡ rule_broken → ⊥) × ((reject_answer s m).number ≡ rule_broken → ⊥)

kept_not_3 : (s m : List ℕ) → rules_kept (header_of m) (height_of s) ≡ true → Not3 s m
kept_not_3 s m k =
    let f = rules_kept_lem (header_of m) (height_of s) k in
    (λ e. ((take_3 s m).0 e).1 f, λ out e. ((serve_3 s m out).0 e).0.3 f, λ e. ((reject_3 s m).0 e).3 f)

-- in a tree of height 10, B=1024, it is not 3 any more
pub tall_0_0_1024_0 : (s m : List ℕ) → file_length s ≡ 16777216 → header_of m ≡ header 0 0 1024 0 → Not3 s m
tall_0_0_1024_0 s m n e = kept_not_3 s m kept
  where
    kept : rules_kept (header_of m) (height_of s) ≡ true
    kept = unfold height_of blocks_of ceil_div block_count rules_kept length_rule index_rule height_from height in rw (n, e) refl

-- nor is the longest run in the tallest tree, (0,0,8192,19): u=7, 262417 bytes, anchor the root
pub message_0_0_8192_19 :
    ((place_of (header 0 0 8192 19) 20).u ≡ 7) × (message_size (header 0 0 8192 19) ≡ 262417) × (anchor (place_of (header 0 0 8192 19) 20) ≡ node_number 20 20 0)
unfolding place_of message_size anchor ancestor node_number height_from height
message_0_0_8192_19 = (refl, refl, refl)

pub tall_0_0_8192_19 : (s m : List ℕ) → file_length s ≡ 2 ^ 34 → header_of m ≡ header 0 0 8192 19 → Not3 s m
tall_0_0_8192_19 s m n e = kept_not_3 s m kept
  where
    kept : rules_kept (header_of m) (height_of s) ≡ true
    kept = unfold height_of blocks_of ceil_div block_count rules_kept length_rule index_rule height_from height in rw (n, e) refl

-- length 16384 is 3 in every usable store
pub refused_16384 : (s m : List ℕ) → usable s ≡ true → same (facts_root s) (message_root m) ≡ true → (header_of m).len ≡ 16384 → Refused3 s m
refused_16384 s m u r e = broken_3 s m u r fails
  where
    fails : rules_kept (header_of m) (height_of s) ≡ false
    fails = unfold rules_kept length_rule height_from height in rw e refl

-- What the theorems ask for can be met: a store that only this build has written, of two blocks and with a message taken; a file, a store
-- opened for it, and a message with that file's own hashes.
-- Assumes nothing.
use Rattle.std.specs.Prelude.{◌≡◌, true, List, [], ◌∷◌, ◌++◌, ℕ, zero, suc, ◌+◌, ◌-◌, ◌≤◌, ◌<◌, length, get_or, replicate}
use Rattle.std.proofs.Math.Path.{refl, ap, subst}
use Rattle.std.proofs.Common.{sym, ◌∙◌, inl, lit<, arith}
use Rattle.std.proofs.lemmas.List.{length-replicate}
use Rattle.octets.specs.Octets.{Octets, be, zero_hash}
use Rattle.numbers.specs.Numbers.{done}
use Rattle.octets.specs.OctetsLaws.{same_eq, zero_octets, be_octets, append_octets, cut_append_left, one_byte}
use Rattle.sha256.specs.Sha256.{pair_hash}
use Rattle.sha256.specs.Sha256Laws.{pair_octets}
use Rattle.tree.specs.Geometry.{node_number, has_layer, piece_count, ceil_div, block_count, block_size, height_from, height, piece_layer, is_piece_length}
use Rattle.tree.proofs.GeometryLaws.{block_count_some}
use Rattle.tree.specs.Values.{node, leaf_of, block_of, pieces_root}
use Rattle.tree.proofs.ValuesLaws.{leaf_octets, leaf_block, block_bytes}
use Rattle.cells.specs.Cells.{held_at, hash_at}
use Rattle.cells.specs.Entries.{agrees_at, agrees}
use Rattle.cells.specs.EntriesLaws.{agrees_held}
use Rattle.settling.specs.Subtree.{subtree}
use Rattle.store.specs.Store.{height_of, file_length, piece_length, blocks_of, facts_in_range, store_size, open_after, opened, held_answer, Facts}
use Rattle.pieces.specs.Pieces.{layer_of_pieces, block_number, block_answer, block_after, piece_height, piece_number}
use Rattle.marks.specs.Marks.{marked_answer}
use Rattle.store.specs.StoreLaws.{opened_piece, facts_usable, usable_facts, opened_usable, opened_file, opened_facts_root}
use Rattle.header.specs.declared.Header.{Header}
use Rattle.header.specs.declared.Place.{Place}
use Rattle.header.specs.Header.{hashes_id, header_of, is_hashes}
use Rattle.messages.specs.Take.{given, place_in, take_number, take_after}
use Rattle.messages.specs.TakeLaws.{passed}
use Rattle.words.specs.Held.{Holds}
use Rattle.words.specs.History.{Bytes, take, judge_block, call, lent, begin, next, by_opening, OurStore, ours}
use Rattle.words.specs.Messages.{hash_in, anchor_layer, anchor_index, Settles, in_run, parent}
use Rattle.words.specs.File.{For, piece_for, TrueHashes}
use Rattle.knowledge.specs.Again.{what_is_held}
use Rattle.knowledge.specs.Grows.{Grown, grown_take}
use Rattle.knowledge.specs.JudgedWhen.{block_0}
use Rattle.knowledge.specs.TakenWhen.{taken_then_right}
use Rattle.knowledge.specs.AnchorHeld.{held_asked}
use Rattle.knowledge.specs.Positions.{given_is}
use Rattle.knowledge.specs.HeldAfter.{settles_then_holds}
use Rattle.knowledge.specs.Conflict.{sized_bytes}
use Rattle.knowledge.specs.OwnBytes.{ours_have, ours_bytes}
use Rattle.knowledge.specs.RootToBlock.{block_octets, tree_of, same_height, agreed_piece}
use Rattle.promises.specs.Blank.{blank, blank_room, blank_bytes, blank_opens, zero_bytes}
use Rattle.promises.specs.Example.{two_leaves, header_two, first, second, two_taken, two_well_formed, two_place}
use Rattle.promises.specs.TwoBlocks.{range, opens, open_is}
use Rattle.knowledge.specs.FormedWhen.{well_formed}
use Rattle.promises.specs.Marks.{marked_after}

-- the message is a string of bytes
four_numbers : Octets 16 (be 4 0 ++ (be 4 0 ++ (be 4 2 ++ be 4 0)))
four_numbers = append_octets (be_octets 4 0) (append_octets (be_octets 4 0) (append_octets (be_octets 4 2) (be_octets 4 0)))

leaves_bytes : (a b : List ℕ) → Octets 32 a → Octets 32 b → Bytes (two_leaves a b)
leaves_bytes a b oa ob = sized_bytes 113 (two_leaves a b) (append_octets (one_byte hashes_id (omega arith)) (append_octets (pair_octets a b) (append_octets four_numbers (append_octets oa ob))))

-- hash j of the message is leaf j
module _ (a b : List ℕ) (oa : Octets 32 a) (ob : Octets 32 b) (buffer : List ℕ) (fits : store_size 32768 ≤ length buffer) where
  hash_is : (j : ℕ) → j < 2 → hash_in (two_leaves a b) j ≡ given (two_leaves a b) 1 j
  hash_is j l =
      let m = two_leaves a b in
      let t = opened buffer 32768 16384 (pair_hash a b) in
      let e : (place_in (opened buffer 32768 16384 (pair_hash a b)) (two_leaves a b)).k ≡ 1 = ap (λ (p : Place). p.k) (two_place a b oa ob buffer fits) in
      sym (given_is t m (two_well_formed a b oa ob buffer fits) j (rw e l)) ∙ ap (λ (k : ℕ). given m k j) e

-- ---- a store of ours with more than its root

module _ (a b : List ℕ) (oa : Octets 32 a) (ob : Octets 32 b) (buffer : List ℕ) (bytes : Bytes buffer) (fits : store_size 32768 ≤ length buffer) where
  -- a store of two blocks, opened by us, that has heard its two leaves: written by this build only,
  pub ours_with_two_leaves : OurStore (take_after (open_after buffer 32768 16384 (pair_hash a b)) (two_leaves a b))
  ours_with_two_leaves = ours (by_opening buffer 32768 16384 (pair_hash a b) bytes (pair_octets a b) (opens buffer fits)) (next begin (call (take (two_leaves a b) (leaves_bytes a b oa ob)) (λ x. absurd x)))

  opened_two : List ℕ
  opened_two = opened buffer 32768 16384 (pair_hash a b)

  taken : take_number opened_two (two_leaves a b) ≡ 0
  unfolding opened_two
  taken = two_taken a b oa ob buffer fits

  leaf_settled : (j : ℕ) → j < 2 → Settles (two_leaves a b) 0 (0 + j) (given (two_leaves a b) 1 j)
  leaf_settled j l =
      let m = two_leaves a b in
      let h = header_two a b oa ob in
      rw (← hash_is a b oa ob buffer fits j l) (subst (λ (x : Header). Settles m x.base (x.index + j) (hash_in m j)) h (in_run j (rw h l)))

  left_settled : Settles (two_leaves a b) 0 0 a
  left_settled = subst (Settles (two_leaves a b) 0 0) (first a b oa ob) (leaf_settled 0 (lit< tt))

  right_settled : Settles (two_leaves a b) 0 1 b
  right_settled = subst (Settles (two_leaves a b) 0 1) (second a b oa ob) (leaf_settled 1 (lit< tt))

  -- and kd_held gives both leaves and the root
  pub two_leaves_held :
      Holds (take_after (open_after buffer 32768 16384 (pair_hash a b)) (two_leaves a b)) 0 0 a × Holds (take_after (open_after buffer 32768 16384 (pair_hash a b)) (two_leaves a b)) 0 1 b
      × Holds (take_after (open_after buffer 32768 16384 (pair_hash a b)) (two_leaves a b)) 1 0 (pair_hash a b)
  unfolding opened_two
  two_leaves_held =
      let m = two_leaves a b in
      rw (open_is buffer (pair_hash a b) fits) (
        settles_then_holds opened_two m taken 0 0 a left_settled,
        settles_then_holds opened_two m taken 0 1 b right_settled,
        settles_then_holds opened_two m taken 1 0 (pair_hash a b) (parent 0 0 a b left_settled right_settled),
      )

-- ---- a file of two blocks, whatever its bytes, a store opened for it, and the message with its two leaves

module _ (file buffer : List ℕ) (two_blocks : length file ≡ 32768) (fits : store_size 32768 ≤ length buffer) where
  one_high : height (block_count (length file)) ≡ 1
  unfolding height height_from block_count ceil_div
  one_high = rw two_blocks

  root_is : pieces_root file ≡ pair_hash (leaf_of file 0) (leaf_of file 1)
  unfolding pieces_root node
  root_is = rw one_high

  -- the store was opened with the file's own length and pieces root,
  pub for_the_file : For file (opened buffer 32768 16384 (pieces_root file))
  for_the_file =
      let size : length (pieces_root file) ≡ 32 = ap length root_is ∙ (pair_octets (leaf_of file 0) (leaf_of file 1)).size in
      record {
        long = opened_file buffer 32768 16384 (pieces_root file) range fits size ∙ sym two_blocks;
        root = opened_facts_root buffer 32768 16384 (pieces_root file) range fits size;
      }

  leaf_told : (j : ℕ) → j < 2 → hash_in (two_leaves (leaf_of file 0) (leaf_of file 1)) j ≡ leaf_of file j
  leaf_told zero l =
      hash_is (leaf_of file 0) (leaf_of file 1) (leaf_octets file 0) (leaf_octets file 1) buffer fits 0 l ∙ first (leaf_of file 0) (leaf_of file 1) (leaf_octets file 0) (leaf_octets file 1)
  leaf_told (suc zero) l =
      hash_is (leaf_of file 0) (leaf_of file 1) (leaf_octets file 0) (leaf_octets file 1) buffer fits 1 l ∙ second (leaf_of file 0) (leaf_of file 1) (leaf_octets file 0) (leaf_octets file 1)
  leaf_told (suc (suc j)) l = let w : ⊥ = omega arith in absurd w

  run_told : (j : ℕ) → (x : Header) → x ≡ record { base = 0; index = 0; len = 2; proof = 0 } → j < x.len
      → hash_in (two_leaves (leaf_of file 0) (leaf_of file 1)) j ≡ node (leaf_of file) x.base (x.index + j)
  unfolding node
  run_told j x e l = let z : j ≡ 0 + j = omega arith in rw e (leaf_told j (rw e at l) ∙ ap (leaf_of file) z)

  none_told : (j : ℕ) → (x : Header) → x ≡ record { base = 0; index = 0; len = 2; proof = 0 } → j < x.proof - (height x.len - 1) → ⊥
  none_told j x e l = let w : j < 0 - (height 2 - 1) = rw e at l in omega arith

  told : TrueHashes file (opened buffer 32768 16384 (pair_hash (leaf_of file 0) (leaf_of file 1))) (two_leaves (leaf_of file 0) (leaf_of file 1))
  told =
      let m = two_leaves (leaf_of file 0) (leaf_of file 1) in
      let h = header_two (leaf_of file 0) (leaf_of file 1) (leaf_octets file 0) (leaf_octets file 1) in
      record {
        formed = (well_formed _ m).1 (two_well_formed (leaf_of file 0) (leaf_of file 1) (leaf_octets file 0) (leaf_octets file 1) buffer fits);
        run = λ j l. run_told j (header_of m) h l;
        uncles = λ j l. absurd (none_told j (header_of m) h l);
      }

  -- and the message has the file's own two leaves
  pub true_for_the_file : TrueHashes file (opened buffer 32768 16384 (pieces_root file)) (two_leaves (leaf_of file 0) (leaf_of file 1))
  true_for_the_file = rw root_is told

  -- the store is one that only this build has written,
  pub ours_for_the_file : Bytes buffer → OurStore (opened buffer 32768 16384 (pieces_root file))
  ours_for_the_file bytes =
      let o : Octets 32 (pieces_root file) = rw root_is (pair_octets (leaf_of file 0) (leaf_of file 1)) in
      rw (← open_is buffer (pieces_root file) fits) (ours (by_opening buffer 32768 16384 (pieces_root file) bytes o (opens buffer fits)) begin)

  -- and kd_held gives the message's anchor
  pub anchor_for_the_file :
      (held_answer (opened buffer 32768 16384 (pieces_root file)) (anchor_layer (two_leaves (leaf_of file 0) (leaf_of file 1))) (anchor_index (two_leaves (leaf_of file 0) (leaf_of file 1)))).number ≡ 0
  anchor_for_the_file =
      let a = leaf_of file 0 in
      let b = leaf_of file 1 in
      let m = two_leaves (leaf_of file 0) (leaf_of file 1) in
      let s = opened buffer 32768 16384 (pair_hash (leaf_of file 0) (leaf_of file 1)) in
      let well = two_well_formed (leaf_of file 0) (leaf_of file 1) (leaf_octets file 0) (leaf_octets file 1) buffer fits in
      let z = two_taken (leaf_of file 0) (leaf_of file 1) (leaf_octets file 0) (leaf_octets file 1) buffer fits in
      rw root_is (held_asked (is_hashes m) s m (passed (is_hashes m) s m well.header) (taken_then_right s m well z).held)

-- ---- the same with every byte said: zero bytes lent, a file of 32768 zero bytes

-- a store of ours exists: a file of one byte
pub a_store_of_ours : OurStore (open_after (blank 1) 1 16384 zero_hash)
a_store_of_ours = ours (by_opening (blank 1) 1 16384 zero_hash (blank_bytes 1) zero_octets (blank_opens 1 16384 in_range)) begin
  where
    in_range : facts_in_range 1 16384 ≡ true
    in_range = unfold facts_in_range is_piece_length piece_layer height height_from in refl

-- and is one still in a memory that is a byte longer, whatever the byte is
pub a_store_lent_longer : (x : ℕ) → x < 256 → OurStore (open_after (blank 1) 1 16384 zero_hash ++ (x ∷ []))
a_store_lent_longer x b = by a_store_of_ours
  where
    s : List ℕ
    s = open_after (blank 1) 1 16384 zero_hash

    one : Octets 1 (x ∷ [])
    one = record { size = refl; bytes = λ i l. byte i l }
      where
        byte : (i : ℕ) → i < 1 → get_or (x ∷ []) i 0 < 256
        byte zero l = b
        byte (suc i) l = let w : ⊥ = omega arith in absurd w

    by : OurStore s → OurStore (s ++ (x ∷ []))
    by (ours w h) =
        let f = (ours_have (ours w h)).chained.facts in
        let c = append_octets (ours_bytes (ours w h)) one in
        ours w
        (next h (lent (s ++ (x ∷ [])) (sized_bytes (length s + 1) (s ++ (x ∷ [])) c)
        (record { store = facts_usable s f; bytes = cut_append_left s (x ∷ []) 0 (store_size (file_length s)) (omega (arith, f.size)) })))

-- a store of ours of two blocks, after a message that was taken
pub a_store_of_two_blocks : OurStore (take_after (open_after (blank 32768) 32768 16384 (pair_hash zero_hash zero_hash)) (two_leaves zero_hash zero_hash))
a_store_of_two_blocks = ours_with_two_leaves zero_hash zero_hash zero_octets zero_octets (blank 32768) (blank_bytes 32768) (blank_room 32768)

-- what `known_message` asks for, met at once
pub record Met (file s r : List ℕ) : Type 0 where
  pub ours : OurStore s
  pub opened : For file s
  pub hashes : TrueHashes file s r
  pub anchor : (held_answer s (anchor_layer r) (anchor_index r)).number ≡ 0

met : (file : List ℕ) → length file ≡ 32768 → Met file (opened (blank 32768) 32768 16384 (pieces_root file)) (two_leaves (leaf_of file 0) (leaf_of file 1))
met file e =
    record {
      ours = ours_for_the_file file (blank 32768) e (blank_room 32768) (blank_bytes 32768);
      opened = for_the_file file (blank 32768) e (blank_room 32768);
      hashes = true_for_the_file file (blank 32768) e (blank_room 32768);
      anchor = anchor_for_the_file file (blank 32768) e (blank_room 32768);
    }

-- all of it, with every byte said
pub a_file_store_and_message :
    Met (replicate 32768 0) (opened (blank 32768) 32768 16384 (pieces_root (replicate 32768 0))) (two_leaves (leaf_of (replicate 32768 0) 0) (leaf_of (replicate 32768 0) 1))
a_file_store_and_message = met (replicate 32768 0) (length-replicate {A = ℕ} 32768 0)

-- ---- and after that message: what the theorems about blocks and pieces ask for, met at once

-- written by this build only, opened for the file, its two leaves given by kd_held, and the file's own first block and piece answered 0
pub record MetAfter (file s : List ℕ) : Type 0 where
  pub ours : OurStore s
  pub opened : For file s
  pub left : Holds s 0 0 (leaf_of file 0)
  pub right : Holds s 0 1 (leaf_of file 1)
  pub block : block_number s 0 (block_of file 0) ≡ 0
  pub node : Holds s (piece_height s) 0 (leaf_of file 0)
  pub piece : piece_number s 0 (piece_for file s 0) ≡ 0

-- for every file of two blocks
module _ (file buffer : List ℕ) (two_blocks : length file ≡ 32768) (bytes : Bytes buffer) (fits : store_size 32768 ≤ length buffer) where
  heard : List ℕ
  heard = take_after (open_after buffer 32768 16384 (pair_hash (leaf_of file 0) (leaf_of file 1))) (two_leaves (leaf_of file 0) (leaf_of file 1))

  begun : List ℕ
  begun = open_after buffer 32768 16384 (pair_hash (leaf_of file 0) (leaf_of file 1))

  begun_for : For file begun
  unfolding begun
  begun_for = rw (open_is buffer (pair_hash (leaf_of file 0) (leaf_of file 1)) fits, ← root_is file buffer two_blocks fits) (for_the_file file buffer two_blocks fits)

  begun_facts : Facts begun
  unfolding begun
  begun_facts =
      let root = pair_hash (leaf_of file 0) (leaf_of file 1) in
      rw (open_is buffer root fits) (usable_facts (opened buffer 32768 16384 root) (opened_usable buffer 32768 16384 root range fits (pair_octets (leaf_of file 0) (leaf_of file 1)).size))

  grown : Grown begun heard
  unfolding begun heard
  grown = grown_take begun (two_leaves (leaf_of file 0) (leaf_of file 1)) begun_facts

  heard_for : For file heard
  heard_for = record { long = grown.same.file ∙ begun_for.long; root = grown.same.root ∙ begun_for.root }

  some_blocks : 0 < block_count (length file)
  unfolding block_count ceil_div
  some_blocks = rw two_blocks (lit< tt)

  heard_blocks : 0 < blocks_of heard
  unfolding blocks_of
  heard_blocks = rw heard_for.long some_blocks

  held_here : Holds heard 0 0 (leaf_of file 0) × Holds heard 0 1 (leaf_of file 1) × Holds heard 1 0 (pair_hash (leaf_of file 0) (leaf_of file 1))
  unfolding heard
  held_here = two_leaves_held (leaf_of file 0) (leaf_of file 1) (leaf_octets file 0) (leaf_octets file 1) buffer bytes fits

  high : height_of heard ≡ 1
  high = same_height file heard heard_for ∙ one_high file buffer two_blocks fits

  agrees_here : (l i : ℕ) (v : List ℕ) → Holds heard l i v → agrees_at heard (node_number 1 l i) v ≡ true
  agrees_here l i v h =
      let k = what_is_held heard l i v grown.facts h in
      let n : node_number (height_of heard) l i ≡ node_number 1 l i = ap (λ (y : ℕ). node_number y l i) high in
      agrees_held heard (node_number 1 l i) v (ap (held_at heard) (sym n) ∙ k.1) ∙ same_eq (hash_at heard (node_number 1 l i)) v (ap (hash_at heard) (sym n) ∙ k.2)

  at_one : agrees_at heard 1 (pair_hash (leaf_of file 0) (leaf_of file 1)) ≡ true
  unfolding node_number
  at_one = agrees_here 1 0 (pair_hash (leaf_of file 0) (leaf_of file 1)) held_here.2

  at_two : agrees_at heard 2 (leaf_of file 0) ≡ true
  unfolding node_number
  at_two = agrees_here 0 0 (leaf_of file 0) held_here.0

  at_three : agrees_at heard 3 (leaf_of file 1) ≡ true
  unfolding node_number
  at_three = agrees_here 0 1 (leaf_of file 1) held_here.1

  tree_of_two : agrees heard (subtree (leaf_of file) 1 1 0) ≡ true
  unfolding agrees subtree node
  tree_of_two = rw (at_one, at_two, at_three)

  tree_agreed : agrees heard (tree_of file) ≡ true
  tree_agreed = rw (one_high file buffer two_blocks fits) tree_of_two

  piece_length_lem : piece_length heard ≡ 16384
  unfolding begun
  piece_length_lem =
      let root = pair_hash (leaf_of file 0) (leaf_of file 1) in
      grown.same.piece ∙ ap piece_length (open_is buffer root fits) ∙ opened_piece buffer 32768 16384 root range fits (pair_octets (leaf_of file 0) (leaf_of file 1)).size

  file_length_lem : file_length heard ≡ 32768
  file_length_lem = heard_for.long ∙ two_blocks

  leaf_pieces : piece_height heard ≡ 0
  unfolding piece_height has_layer layer_of_pieces piece_layer height height_from
  leaf_pieces = rw (file_length_lem, piece_length_lem)

  one_piece : 0 < piece_count (file_length heard) (piece_length heard)
  unfolding piece_count ceil_div
  one_piece = rw (file_length_lem, piece_length_lem) (lit< tt)

  node_held : Holds heard (piece_height heard) 0 (leaf_of file 0)
  node_held = rw leaf_pieces held_here.0

  piece_answered : piece_number heard 0 (piece_for file heard 0) ≡ 0
  piece_answered = agreed_piece file 0 grown.facts heard_for one_piece tree_agreed (what_is_held heard (piece_height heard) 0 (leaf_of file 0) grown.facts node_held).1

  -- the store after its opening and that message
  pub met_after : MetAfter file (take_after (open_after buffer 32768 16384 (pair_hash (leaf_of file 0) (leaf_of file 1))) (two_leaves (leaf_of file 0) (leaf_of file 1)))
  unfolding heard
  met_after =
      let a = leaf_of file 0 in
      let b = leaf_of file 1 in
      let H = two_leaves_held (leaf_of file 0) (leaf_of file 1) (leaf_octets file 0) (leaf_octets file 1) buffer bytes fits in
      record {
        ours = ours_with_two_leaves (leaf_of file 0) (leaf_of file 1) (leaf_octets file 0) (leaf_octets file 1) buffer bytes fits;
        opened = heard_for;
        left = H.0;
        right = H.1;
        block =
            (block_0 heard 0 (block_of file 0)).1 (
              record { store = facts_usable heard grown.facts; inside = heard_blocks; size = block_bytes file 0 ∙ ap (λ (n : ℕ). block_size n 0) (sym heard_for.long) },
              subst (Holds heard 0 0) (leaf_block file 0 some_blocks) H.0,
            );
        node = node_held;
        piece = piece_answered;
      }

-- with every byte said
pub a_store_after_its_leaves :
    MetAfter (replicate 32768 0) (take_after (open_after (blank 32768) 32768 16384 (pair_hash (leaf_of (replicate 32768 0) 0) (leaf_of (replicate 32768 0) 1))) (two_leaves (leaf_of (replicate 32768 0) 0) (leaf_of (replicate 32768 0) 1)))
a_store_after_its_leaves = met_after (replicate 32768 0) (blank 32768) (length-replicate {A = ℕ} 32768 0) (blank_bytes 32768) (blank_room 32768)

-- a block answered 0 is marked then
judged_marked : {file s : List ℕ} → Bytes (block_of file 0) → MetAfter file s → marked_answer (block_after s 0 (block_of file 0)) 0 ≡ done 1
unfolding block_answer
judged_marked {file} {s} b w =
    (marked_after s ((block_0 s 0 (block_of file 0)).0 w.block).0.store (judge_block 0 (block_of file 0) b) (λ o. absurd o) 0).1 (inl (refl, w.block))

first_block : (n : ℕ) → 1 ≤ n → Bytes (block_of (replicate n 0) 0)
first_block n l =
    sized_bytes (block_size (length (replicate n 0)) 0) (block_of (replicate n 0) 0)
    (block_octets (replicate n 0) 0 (zero_bytes n) (block_count_some (length (replicate n 0)) (omega (arith, length-replicate {A = ℕ} n 0))))

-- so a mark can be had
pub a_marked_block :
    marked_answer
    (block_after
    (take_after (open_after (blank 32768) 32768 16384 (pair_hash (leaf_of (replicate 32768 0) 0) (leaf_of (replicate 32768 0) 1))) (two_leaves (leaf_of (replicate 32768 0) 0) (leaf_of (replicate 32768 0) 1)))
    0 (block_of (replicate 32768 0) 0))
    0
    ≡ done 1
a_marked_block = judged_marked (first_block 32768 (lit< tt)) a_store_after_its_leaves

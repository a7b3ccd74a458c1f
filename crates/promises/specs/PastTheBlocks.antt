-- The true message (0,6,2,0) of a file of five blocks: two leaves past the last block, in every store of such a file.
-- Assumes nothing.
use Rattle.std.specs.Prelude.{◌≡◌, true, false, List, [], ◌∷◌, ◌++◌, ◌⊎◌, ℕ, zero, suc, ◌+◌, ◌-◌, ◌/◌, ◌^◌, ◌≤◌, ◌<◌, length, eqb}
use Rattle.std.proofs.Math.Path.{refl, ap, ap₂, sym}
use Rattle.std.proofs.Common.{◌∙◌, inr, arith, lit<, lit≤}
use Rattle.octets.specs.Octets.{cut, same, number_at, zero_hash}
use Rattle.octets.specs.OctetsLaws.{same_eq, zero_octets, cut_append_left, cut_append_right, cut_whole}
use Rattle.numbers.specs.Numbers.{no_anchor, not_held}
use Rattle.tree.specs.Geometry.{ceil_div, block_count, height_from, height, node_number, covering, Padding}
use Rattle.tree.specs.Values.{node, leaf_of, pad_value, pieces_root}
use Rattle.tree.proofs.ValuesLaws.{padding_value, root_octets}
use Rattle.cells.specs.Cells.{held_at}
use Rattle.store.specs.Store.{usable, facts_root, blocks_of, height_of, positions, facts_in_range, store_size, opened, held_answer}
use Rattle.store.specs.StoreLaws.{facts_usable, opened_usable, opened_facts_root, opened_blocks, opened_height, opened_held}
use Rattle.settling.specs.Path.{ancestor}
use Rattle.header.specs.declared.Header.{Header}
use Rattle.header.specs.declared.Place.{Place}
use Rattle.header.specs.Header.{header_size, header_of, message_root, is_request, message_size, place_of, rules_kept, length_rule, index_rule}
use Rattle.messages.specs.Padded.{all_from, run_padded, uncles_padded}
use Rattle.messages.specs.Take.{header_number, anchor, padded, place_in, take_answer}
use Rattle.messages.specs.TakeLaws.{passes}
use Rattle.serve.specs.Serve.{held_run, held_uncles, all_held, request_number, serve_answer}
use Rattle.words.specs.History.{OurStore}
use Rattle.words.specs.Messages.{hash_in, anchor_layer, anchor_index}
use Rattle.words.specs.Shown.{held_by, of_file, Shown}
use Rattle.words.specs.File.{For, TrueHashes}
use Rattle.knowledge.specs.TakenWhen.{Formed, no_anchor_then_6}
use Rattle.knowledge.specs.FormedWhen.{well_formed}
use Rattle.knowledge.specs.ServedWhen.{serve_rejects}
use Rattle.knowledge.specs.OwnBytes.{ours_have}
use Rattle.promises.specs.Offered.{two_hashes, offered_header, offered_past, run_is, two_size, well_formed_in}
use Rattle.promises.specs.FromRootToBlock.{true_hashes_taken}

abbrev numbers : List ℕ
numbers = 0 ∷ 0 ∷ 0 ∷ 0 ∷ 0 ∷ 0 ∷ 0 ∷ 6 ∷ 0 ∷ 0 ∷ 0 ∷ 2 ∷ 0 ∷ 0 ∷ 0 ∷ 0 ∷ []

-- both hashes are the padding value of the leaves
abbrev pub past_blocks : List ℕ → List ℕ
past_blocks root = two_hashes root numbers zero_hash zero_hash

abbrev header : Header
header = record { base = 0; index = 6; len = 2; proof = 0 }

-- position 7 is index 3 of layer 1
abbrev place : Place
place = record { k = 1; u = 0; top = 7 }

module _ (root : List ℕ) (lr : length root ≡ 32) where
  header_is : header_of (past_blocks root) ≡ header
  unfolding number_at
  header_is = offered_header root numbers (zero_hash ++ zero_hash) lr refl

  well : (s : List ℕ) → usable s ≡ true → facts_root s ≡ root → height_of s ≡ 3 → Formed s (past_blocks root)
  unfolding message_size rules_kept length_rule index_rule height height_from
  well s u r eh =
      well_formed_in root numbers (zero_hash ++ zero_hash) lr refl s header 3 header_is u r eh refl
      (sym (two_size root numbers zero_hash zero_hash lr refl zero_octets.size zero_octets.size))

  place_in_lem : (s : List ℕ) → height_of s ≡ 3 → place_in s (past_blocks root) ≡ place
  unfolding place_of node_number height height_from
  place_in_lem s eh = ap₂ (λ (x : Header) (h : ℕ). place_of x h) header_is eh

  padding_is : padded (past_blocks root) header place 5 ≡ true
  unfolding padded run_padded all_from uncles_padded covering ceil_div
  padding_is = rw (run_is root numbers zero_hash zero_hash lr refl zero_octets.size zero_octets.size) (unfold same cut zero_hash pad_value in refl)

  -- fresh, its anchor is not held
  module _ (buffer : List ℕ) (plen : ℕ) (range : facts_in_range 81920 plen ≡ true) (fits : store_size 81920 ≤ length buffer) where
    three_high : height (block_count 81920) ≡ 3
    unfolding height height_from block_count ceil_div
    three_high = refl

    high : height_of (opened buffer 81920 plen root) ≡ 3
    high = opened_height buffer 81920 plen root range fits lr ∙ three_high

    blocks : blocks_of (opened buffer 81920 plen root) ≡ 5
    unfolding block_count ceil_div
    blocks = opened_blocks buffer 81920 plen root range fits lr

    held : (q : ℕ) → 1 ≤ q → q < 16 → held_at (opened buffer 81920 plen root) q ≡ eqb q 1
    unfolding positions
    held q a b = opened_held buffer 81920 plen root range fits lr q a (rw three_high b)

    pub past_blocks_fresh : (take_answer (opened buffer 81920 plen root) (past_blocks root)).number ≡ no_anchor
    unfolding take_answer anchor ancestor
    past_blocks_fresh =
        let s = opened buffer 81920 plen root in
        let p = place_in_lem s high in
        no_anchor_then_6 s (past_blocks root)
        (well s (opened_usable buffer 81920 plen root range fits lr) (opened_facts_root buffer 81920 plen root range fits lr) high) (rw (p, header_is, blocks) padding_is)
        (rw p (held 7 (lit≤ tt) (lit< tt)))

    -- nor are its leaves
    none_held : all_held (opened buffer 81920 plen root) place ≡ false
    unfolding all_held held_run held_uncles
    none_held = rw (held 14 (lit≤ tt) (lit< tt))

    module _ (m : List ℕ) (form : is_request m ≡ true) (r : message_root m ≡ root) (e : header_of m ≡ header) where
      asked_passes : header_number (is_request m) (opened buffer 81920 plen root) m ≡ 0
      unfolding rules_kept length_rule index_rule height height_from
      asked_passes =
          passes (is_request m) (opened buffer 81920 plen root) m
          (record {
            store = opened_usable buffer 81920 plen root range fits lr;
            formed = form;
            root = same_eq (facts_root (opened buffer 81920 plen root)) (message_root m) (opened_facts_root buffer 81920 plen root range fits lr ∙ sym r);
            rules = rw (e, high);
          })

      asked_place : place_in (opened buffer 81920 plen root) m ≡ place
      unfolding place_of node_number height height_from
      asked_place = ap₂ (λ (x : Header) (h : ℕ). place_of x h) e high

      asked_number : request_number (opened buffer 81920 plen root) m ≡ not_held
      unfolding request_number
      asked_number = rw (asked_passes, asked_place, none_held)

      -- the request for them is 12
      pub past_blocks_asked : (out : List ℕ) → header_size ≤ length out → (serve_answer (opened buffer 81920 plen root) m out).number ≡ not_held
      past_blocks_asked out l = (serve_rejects (opened buffer 81920 plen root) m out not_held (inr (inr refl))).1 (asked_number, l)

  hash_is : (j : ℕ) → j < 2 → hash_in (past_blocks root) j ≡ zero_hash
  hash_is zero l =
      offered_past root numbers (zero_hash ++ zero_hash) lr refl 0 32 ∙ cut_append_left zero_hash zero_hash 0 32 (omega (arith, zero_octets.size))
      ∙ cut_whole zero_hash 32 (omega (arith, zero_octets.size))
  hash_is (suc zero) l = offered_past root numbers (zero_hash ++ zero_hash) lr refl 32 32 ∙ cut_append_right zero_hash zero_hash 32 32 zero_octets.size zero_octets.size
  hash_is (suc (suc j)) l = absurd (omega arith)

  anchor_layer_lem : anchor_layer (past_blocks root) ≡ 1
  unfolding height height_from
  anchor_layer_lem = ap (λ (x : Header). x.base + height x.len + (x.proof - (height x.len - 1))) header_is

  anchor_index_lem : anchor_index (past_blocks root) ≡ 3
  unfolding height height_from
  anchor_index_lem = ap (λ (x : Header). x.index / x.len / 2 ^ (x.proof - (height x.len - 1))) header_is

-- of a file of five blocks it has the true hashes, which are taken once the anchor is held
module _ (file : List ℕ) {s : List ℕ} (o : OurStore s) (w : For file s) (five : length file ≡ 81920) where
  root_size : length (pieces_root file) ≡ 32
  root_size = (root_octets file).size

  blocks_5 : block_count (length file) ≡ 5
  unfolding block_count ceil_div
  blocks_5 = rw five refl

  high_in : height_of s ≡ 3
  unfolding height_of blocks_of height height_from
  high_in = ap height (ap block_count w.long ∙ blocks_5)

  leaf_is : (i : ℕ) → 5 ≤ i → zero_hash ≡ node (leaf_of file) 0 i
  unfolding Padding pad_value
  leaf_is i l = sym (padding_value file 0 i (rw blocks_5 (omega arith)))

  true_hashes : TrueHashes file s (past_blocks (pieces_root file))
  true_hashes =
      let e = header_is (pieces_root file) root_size in
      record {
        formed = (well_formed s (past_blocks (pieces_root file))).1 (well (pieces_root file) root_size s (facts_usable s (ours_have o).chained.facts) w.root high_in);
        run = λ j l. (let l' : j < 2 = rw e at l in rw e (hash_is (pieces_root file) root_size j l' ∙ leaf_is (6 + j) (omega arith)));
        uncles = λ j l. (let l' : j < 0 - (height 2 - 1) = rw e at l in absurd (omega arith));
      }

  pub past_blocks_taken : (held_answer s 1 3).number ≡ 0 → Shown (height_of s) (held_by s) (of_file file) ⊎ ((take_answer s (past_blocks (pieces_root file))).number ≡ 0)
  past_blocks_taken h =
      true_hashes_taken file o w (past_blocks (pieces_root file)) true_hashes (rw (anchor_layer_lem (pieces_root file) root_size, anchor_index_lem (pieces_root file) root_size) h)

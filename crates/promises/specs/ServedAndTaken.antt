-- What the theorems about our replies ask for can be met: a store of ours serves a request with 0, and another store takes the reply.
-- Assumes nothing.
use Rattle.std.specs.Prelude.{◌≡◌, refl, true, ℕ, ◌+◌, ◌-◌, ◌/◌, ◌^◌, ◌≤◌, length, replicate, List, [], ◌∷◌, ◌++◌}
use Rattle.std.proofs.Math.Path.{ap, ap₂, sym}
use Rattle.std.proofs.Common.{◌∙◌, subst, arith, length-append, lit≤, append_assoc, append-nil}
use Rattle.octets.specs.Octets.{Octets, cut, same, zero_hash}
use Rattle.octets.specs.OctetsLaws.{zero_octets, same_eq, cut_whole, cut_append_left}
use Rattle.numbers.specs.declared.Answer.{Answer}
use Rattle.sha256.specs.Sha256.{pair_hash}
use Rattle.sha256.specs.Sha256Laws.{pair_octets}
use Rattle.tree.specs.Geometry.{ceil_div, block_count, height_from, height, node_number}
use Rattle.cells.specs.Cells.{held_at, hash_at}
use Rattle.store.specs.Store.{file_length, held_answer, facts_root, height_of, store_size, open_after, opened, Facts}
use Rattle.store.specs.StoreLaws.{facts_usable, usable_facts, opened_usable, opened_file, opened_facts_root, opened_height}
use Rattle.header.specs.declared.Header.{Header}
use Rattle.header.specs.Header.{request_id, hashes_id, header_of, message_root, is_hashes, is_request, place_of, rules_kept, length_rule, index_rule}
use Rattle.messages.specs.Take.{header_number, place_in, take_number, take_after}
use Rattle.messages.specs.TakeLaws.{passed, passes}
use Rattle.serve.specs.Serve.{held_run, run_hashes, held_uncles, uncle_hashes, all_held, all_hashes, request_number, reply_to, serve_answer}
use Rattle.serve.specs.ServeLaws.{head_same, request_zero, served_reply, fits_sent}
use Rattle.words.specs.Held.{Holds}
use Rattle.words.specs.History.{Bytes, begin, by_opening, OurStore, ours}
use Rattle.words.specs.Messages.{anchor_layer, anchor_index}
use Rattle.knowledge.specs.Grows.{Grown, grown_take}
use Rattle.knowledge.specs.Again.{what_is_held}
use Rattle.knowledge.specs.TakenWhen.{taken_then_right}
use Rattle.knowledge.specs.AnchorHeld.{held_asked}
use Rattle.promises.specs.Offered.{offered_root, offered_size, two_size}
use Rattle.promises.specs.Example.{two_leaves, header_two, two_taken, two_well_formed}
use Rattle.promises.specs.Witness.{ours_with_two_leaves, two_leaves_held}
use Rattle.promises.specs.TwoBlocks.{range, opens, open_is}
use Rattle.promises.specs.Blank.{blank, blank_room, blank_bytes}

abbrev numbers : List ℕ
numbers = 0 ∷ 0 ∷ 0 ∷ 0 ∷ 0 ∷ 0 ∷ 0 ∷ 0 ∷ 0 ∷ 0 ∷ 0 ∷ 2 ∷ 0 ∷ 0 ∷ 0 ∷ 0 ∷ []

-- the request for the two leaves of a file of two blocks
abbrev pub ask_for_two : List ℕ → List ℕ → List ℕ
ask_for_two a b = request_id ∷ (pair_hash a b ++ numbers)

-- a store that we opened and that has heard its two leaves
abbrev pub with_two : List ℕ → List ℕ → List ℕ → List ℕ
with_two buffer a b = take_after (open_after buffer 32768 16384 (pair_hash a b)) (two_leaves a b)

module _ (a b : List ℕ) (oa : Octets 32 a) (ob : Octets 32 b) where
  root_size : length (pair_hash a b) ≡ 32
  root_size = (pair_octets a b).size

  head_size : length (pair_hash a b ++ numbers) ≡ 48
  head_size = length-append (pair_hash a b) numbers ∙ omega (arith, root_size)

  asked_head : cut (ask_for_two a b) 1 48 ≡ pair_hash a b ++ numbers
  unfolding cut
  asked_head = cut_whole (pair_hash a b ++ numbers) 48 (omega (arith, head_size))

  told_head : cut (two_leaves a b) 1 48 ≡ pair_hash a b ++ numbers
  unfolding cut
  told_head =
      ap (λ (l : List ℕ). cut l 0 48) (sym (append_assoc (pair_hash a b) numbers (a ++ b)))
      ∙ cut_append_left (pair_hash a b ++ numbers) (a ++ b) 0 48 (omega (arith, head_size)) ∙ cut_whole (pair_hash a b ++ numbers) 48 (omega (arith, head_size))

  header_is : header_of (ask_for_two a b) ≡ record { base = 0; index = 0; len = 2; proof = 0 }
  header_is = (head_same (ask_for_two a b) (two_leaves a b) (asked_head ∙ sym told_head)).1 ∙ header_two a b oa ob

  root_is : message_root (ask_for_two a b) ≡ pair_hash a b
  root_is = (head_same (ask_for_two a b) (two_leaves a b) (asked_head ∙ sym told_head)).0 ∙ offered_root (pair_hash a b) numbers (a ++ b) root_size refl

  form_is : is_request (ask_for_two a b) ≡ true
  unfolding is_request
  form_is = rw head_size

  module _ (buffer : List ℕ) (bytes : Bytes buffer) (fits : store_size 32768 ≤ length buffer) where
    fresh : List ℕ
    fresh = opened buffer 32768 16384 (pair_hash a b)

    fresh_facts : Facts fresh
    unfolding fresh
    fresh_facts = usable_facts fresh (opened_usable buffer 32768 16384 (pair_hash a b) range fits root_size)

    grown : Grown fresh (take_after fresh (two_leaves a b))
    grown = grown_take fresh (two_leaves a b) fresh_facts

    with_is : with_two buffer a b ≡ take_after fresh (two_leaves a b)
    unfolding fresh
    with_is = ap (λ (s : List ℕ). take_after s (two_leaves a b)) (open_is buffer (pair_hash a b) fits)

    high : height_of (with_two buffer a b) ≡ 1
    unfolding fresh height height_from block_count ceil_div
    high = ap height_of with_is ∙ grown.same.layers ∙ opened_height buffer 32768 16384 (pair_hash a b) range fits root_size

    root : facts_root (with_two buffer a b) ≡ pair_hash a b
    unfolding fresh
    root = ap facts_root with_is ∙ grown.same.root ∙ opened_facts_root buffer 32768 16384 (pair_hash a b) range fits root_size

    facts : Facts (with_two buffer a b)
    facts = rw with_is grown.facts

    leaf : (i : ℕ) (v : List ℕ) → Holds (with_two buffer a b) 0 i v → (held_at (with_two buffer a b) (2 + i) ≡ true) × (hash_at (with_two buffer a b) (2 + i) ≡ v)
    unfolding node_number
    leaf i v h = let w = what_is_held (with_two buffer a b) 0 i v facts h in (rw high at w.1, rw high at w.2)

    left : (held_at (with_two buffer a b) 2 ≡ true) × (hash_at (with_two buffer a b) 2 ≡ a)
    left = leaf 0 a (two_leaves_held a b oa ob buffer bytes fits).0

    right : (held_at (with_two buffer a b) 3 ≡ true) × (hash_at (with_two buffer a b) 3 ≡ b)
    right = leaf 1 b (two_leaves_held a b oa ob buffer bytes fits).1

    place_is : place_in (with_two buffer a b) (ask_for_two a b) ≡ record { k = 1; u = 0; top = 1 }
    unfolding place_of node_number height height_from
    place_is = ap₂ (λ (x : Header) (h : ℕ). place_of x h) header_is high

    header_passes : header_number (is_request (ask_for_two a b)) (with_two buffer a b) (ask_for_two a b) ≡ 0
    unfolding rules_kept length_rule index_rule height height_from
    header_passes =
        passes (is_request (ask_for_two a b)) (with_two buffer a b) (ask_for_two a b)
        (record {
          store = facts_usable (with_two buffer a b) facts;
          formed = form_is;
          root = same_eq (facts_root (with_two buffer a b)) (message_root (ask_for_two a b)) (root ∙ sym root_is);
          rules = rw (header_is, high);
        })

    held_is : all_held (with_two buffer a b) (record { k = 1; u = 0; top = 1 }) ≡ true
    unfolding all_held held_run held_uncles
    held_is = rw (left.0, right.0)

    hashes_are : all_hashes (with_two buffer a b) (record { k = 1; u = 0; top = 1 }) ≡ a ++ b
    unfolding all_hashes run_hashes uncle_hashes
    hashes_are = append-nil ((hash_at (with_two buffer a b) 2) ++ hash_at (with_two buffer a b) 3) ∙ rw (left.1, right.1)

    -- the request's number is 0,
    pub asked_is_0 : request_number (with_two buffer a b) (ask_for_two a b) ≡ 0
    asked_is_0 = request_zero (with_two buffer a b) (ask_for_two a b) header_passes (rw place_is held_is)

    -- its reply is the message that was heard,
    pub reply_is : reply_to (with_two buffer a b) (ask_for_two a b) ≡ two_leaves a b
    unfolding reply_to
    reply_is =
        rw (place_is, asked_head, hashes_are) (ap (λ (l : List ℕ). hashes_id ∷ l) (append_assoc (pair_hash a b) numbers (a ++ b)))

    -- which a store that was only opened, of the same length and root, takes,
    pub reply_taken : (other : List ℕ) → store_size 32768 ≤ length other → take_number (opened other 32768 16384 (pair_hash a b)) (reply_to (with_two buffer a b) (ask_for_two a b)) ≡ 0
    reply_taken other room = rw reply_is (two_taken a b oa ob other room)

    -- and kd_serve answers 0, with room for 113 bytes
    pub served_with_0 : (out : List ℕ) → 113 ≤ length out → (serve_answer (with_two buffer a b) (ask_for_two a b) out).number ≡ 0
    served_with_0 out room =
        let s = with_two buffer a b in
        let m = ask_for_two a b in
        let l : length (reply_to (with_two buffer a b) (ask_for_two a b)) ≡ 113 = ap length reply_is ∙ offered_size (pair_hash a b) numbers (a ++ b) root_size refl ∙ two_size (pair_hash a b) numbers a b root_size refl oa.size ob.size in
        ap (λ (x : Answer). x.number) ((served_reply s m out asked_is_0).0 ∙ (fits_sent 0 (reply_to s m) out (omega arith)).0)

-- ---- what `other_store_reply_taken` asks for, met at once

-- two stores written by this build only, of one length and root; one serves the request with 0, and kd_held gives the anchor in the other
pub record MetByTwo (s t m out : List ℕ) : Type 0 where
  pub ours : OurStore s
  pub theirs : OurStore t
  pub files : file_length s ≡ file_length t
  pub roots : facts_root s ≡ facts_root t
  pub served : (serve_answer s m out).number ≡ 0
  pub anchor : (held_answer t (anchor_layer m) (anchor_index m)).number ≡ 0

module _ (a b : List ℕ) (oa : Octets 32 a) (ob : Octets 32 b) (buffer other out : List ℕ) (bytes : Bytes buffer) (theirs : Bytes other)
    (fits : store_size 32768 ≤ length buffer) (room : store_size 32768 ≤ length other) (long : 113 ≤ length out) where
  opened_there : List ℕ
  opened_there = opened other 32768 16384 (pair_hash a b)

  anchor_there : (held_answer opened_there (anchor_layer (two_leaves a b)) (anchor_index (two_leaves a b))).number ≡ 0
  unfolding opened_there
  anchor_there =
      let m = two_leaves a b in
      let well = two_well_formed a b oa ob other room in
      let z = two_taken a b oa ob other room in
      held_asked (is_hashes m) opened_there m (passed (is_hashes m) opened_there m well.header) (taken_then_right opened_there m well z).held

  anchor_asked : (held_answer opened_there (anchor_layer (ask_for_two a b)) (anchor_index (ask_for_two a b))).number ≡ 0
  anchor_asked =
      subst (λ (x : Header). (held_answer opened_there (x.base + height x.len + (x.proof - (height x.len - 1))) (x.index / x.len / 2 ^ (x.proof - (height x.len - 1)))).number ≡ 0)
      (header_two a b oa ob ∙ sym (header_is a b oa ob)) anchor_there

  file_here : file_length (with_two buffer a b) ≡ 32768
  unfolding fresh
  file_here =
      ap file_length (with_is a b oa ob buffer bytes fits) ∙ (grown a b oa ob buffer bytes fits).same.file
      ∙ opened_file buffer 32768 16384 (pair_hash a b) range fits (root_size a b oa ob)

  -- one has heard its two leaves, the other is only opened
  pub met_by_two : MetByTwo (with_two buffer a b) (open_after other 32768 16384 (pair_hash a b)) (ask_for_two a b) out
  unfolding opened_there
  met_by_two =
      let R = pair_hash a b in
      let ok = range in
      let e = open_is other (pair_hash a b) room in
      record {
        ours = ours_with_two_leaves a b oa ob buffer bytes fits;
        theirs = ours (by_opening other 32768 16384 (pair_hash a b) theirs (pair_octets a b) (opens other room)) begin;
        files = file_here ∙ sym (ap file_length e ∙ opened_file other 32768 16384 R ok room (root_size a b oa ob));
        roots = root a b oa ob buffer bytes fits ∙ sym (ap facts_root e ∙ opened_facts_root other 32768 16384 R ok room (root_size a b oa ob));
        served = served_with_0 a b oa ob buffer bytes fits out long;
        anchor = rw e anchor_asked;
      }

-- with every byte said
pub two_stores_and_a_request :
    MetByTwo (with_two (blank 32768) zero_hash zero_hash) (open_after (blank 32768) 32768 16384 (pair_hash zero_hash zero_hash)) (ask_for_two zero_hash zero_hash) (replicate 113 0)
two_stores_and_a_request =
    met_by_two zero_hash zero_hash zero_octets zero_octets (blank 32768) (blank 32768) (replicate 113 0) (blank_bytes 32768) (blank_bytes 32768) (blank_room 32768) (blank_room 32768) (lit≤ tt)

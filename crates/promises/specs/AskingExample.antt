-- What the theorems of Asking ask for can be met: a store of two blocks, just opened, that names its one request, is answered and has nothing to ask
-- then; another that has the leaves to serve it; and the same store with its leaves, whose first piece is picked and judged right.
-- Assumes nothing.
use Rattle.std.specs.Prelude.{◌≡◌, true, false, List, [], ◌∷◌, ℕ, zero, suc, ◌+◌, ◌-◌, ◌*◌, ◌^◌, ◌≤◌, ◌<◌, length, get_or, replicate}
use Rattle.std.proofs.Math.Path.{refl}
use Rattle.std.proofs.Common.{ap, ap₂, sym, ◌∙◌, arith, lit<, lit≤, pow_pos}
use Rattle.std.proofs.lemmas.List.{length-replicate}
use Rattle.octets.specs.Octets.{Octets, cut, zero_hash}
use Rattle.octets.specs.OctetsLaws.{cut_size, get_or_cut, zero_octets}
use Rattle.numbers.specs.Numbers.{done}
use Rattle.sha256.specs.Sha256.{pair_hash}
use Rattle.sha256.specs.Sha256Laws.{pair_octets}
use Rattle.tree.specs.Geometry.{block_length, ceil_div, block_count, height, height_from, node_number, covering, piece_count}
use Rattle.tree.specs.Values.{leaf_of, piece_of}
use Rattle.cells.specs.Cells.{held_at}
use Rattle.store.specs.Store.{usable, file_length, piece_length, facts_root, blocks_of, height_of, positions, store_size, open_after, opened, Facts}
use Rattle.store.specs.StoreLaws.{facts_usable, opened_zero}
use Rattle.marks.specs.Marks.{marks_start, marked_at, marked_answer}
use Rattle.marks.specs.MarksLaws.{marks_start_some, marks_end, same_mark}
use Rattle.pieces.specs.Pieces.{layer_of_pieces, piece_answer, piece_after}
use Rattle.header.specs.declared.Header.{Header}
use Rattle.messages.specs.Take.{take_after}
use Rattle.asking.specs.declared.next.Request.{Request}
use Rattle.asking.specs.Asking.{layer_asked, next_number, wanted, held_front, lowest, run_length, uncles_needed, proof_for, run_top, run_header, next_header, no_request, request_for, next_answer}
use Rattle.asking.proofs.AskingLaws.{says_number}
use Rattle.asking.specs.Picking.{this_piece, pick_answer}
use Rattle.words.specs.File.{piece_for}
use Rattle.words.specs.Held.{Holds}
use Rattle.words.specs.History.{Bytes, begin, OurStore, ours, by_opening}
use Rattle.words.specs.Marks.{Covers}
use Rattle.words.specs.Asking.{Answered, unasked, reply, HoldsFrom, CountEach, ToFetch, Picked, nothing_left, rarest, unmoved, Fetched, unpicked, judged_right}
use Rattle.numbers.specs.Tests.{not_both}
use Rattle.knowledge.specs.Grows.{Grown, grown_take}
use Rattle.knowledge.specs.Alike.{alike}
use Rattle.knowledge.specs.Beyond.{take_past}
use Rattle.knowledge.specs.MarksSince.{marked_says, zero_unmarked}
use Rattle.promises.specs.Asking.{then_nothing, picked_exactly}
use Rattle.promises.specs.Blank.{blank, blank_room, blank_bytes, zero_bytes}
use Rattle.promises.specs.Example.{two_leaves, header_two, taken_with_two}
use Rattle.promises.specs.TwoBlocks.{range, opens, open_is, high, blocks, store, facts, file as file_is, piece, root_is, held}
use Rattle.promises.specs.Witness.{ours_with_two_leaves, two_leaves_held, MetAfter, met_after}

-- ---- one request, one reply

-- (0,0,2,0): both leaves, below the root
abbrev two : Header
two = record { base = 0; index = 0; len = 2; proof = 0 }

module _ (a b : List ℕ) (oa : Octets 32 a) (ob : Octets 32 b) (buffer : List ℕ) (fits : store_size 32768 ≤ length buffer) where
  root_size : length (pair_hash a b) ≡ 32
  root_size = (pair_octets a b).size

  number_0 : next_number (opened buffer 32768 16384 (pair_hash a b)) 0 ≡ 0
  number_0 =
      says_number (opened buffer 32768 16384 (pair_hash a b)) 0 (store buffer (pair_hash a b) fits root_size) layer (held buffer (pair_hash a b) fits root_size 1 (lit≤ tt) (lit< tt))
    where
      layer : layer_asked (opened buffer 32768 16384 (pair_hash a b)) 0 ≡ true
      layer = unfold layer_asked in refl

  wanted_2 : wanted (opened buffer 32768 16384 (pair_hash a b)) 0 ≡ 2
  unfolding wanted covering ceil_div
  wanted_2 = rw (blocks buffer (pair_hash a b) fits root_size)

  none_held : (s : List ℕ) (n c : ℕ) → held_at s n ≡ false → held_front s n (suc c) ≡ 0
  unfolding held_front
  none_held s n c e = rw e

  lowest_0 : lowest (opened buffer 32768 16384 (pair_hash a b)) 0 ≡ 0
  unfolding lowest node_number
  lowest_0 =
      rw (high buffer (pair_hash a b) fits root_size, wanted_2)
      (none_held (opened buffer 32768 16384 (pair_hash a b)) 2 1 (held buffer (pair_hash a b) fits root_size 2 (lit≤ tt) (lit< tt)))

  header_is : next_header (opened buffer 32768 16384 (pair_hash a b)) 0 ≡ two
  unfolding next_header run_header run_top run_length uncles_needed proof_for height height_from
  header_is = rw (lowest_0, high buffer (pair_hash a b) fits root_size)

  -- the store names one request, for both leaves,
  pub names_two : next_answer (opened buffer 32768 16384 (pair_hash a b)) 0 ≡ request_for (pair_hash a b) two
  unfolding next_answer
  names_two = rw (number_0, lowest_0, wanted_2) (ap₂ request_for (root_is buffer (pair_hash a b) fits root_size) header_is)

  -- which the message with them answers,
  pub one_answered : Answered 0 (opened buffer 32768 16384 (pair_hash a b)) 1 (take_after (opened buffer 32768 16384 (pair_hash a b)) (two_leaves a b))
  one_answered =
      let h = header_two a b oa ob in
      let q = names_two in
      reply (two_leaves a b) unasked (ap (λ (r : Request). r.asks) q) begin
      (record {
        base = ap (λ (x : Header). x.base) h ∙ sym (ap (λ (r : Request). r.base) q);
        index = ap (λ (x : Header). x.index) h ∙ sym (ap (λ (r : Request). r.index) q);
        len = ap (λ (x : Header). x.len) h ∙ sym (ap (λ (r : Request). r.len) q);
        proof = ap (λ (x : Header). x.proof) h ∙ sym (ap (λ (r : Request). r.proof) q);
      })
      (taken_with_two a b oa ob buffer fits).0

  bound_1 : ◌≡◌ {A = ℕ} 1 (ceil_div (wanted (opened buffer 32768 16384 (pair_hash a b)) 0) (run_length (height_of (opened buffer 32768 16384 (pair_hash a b))) 0))
  unfolding run_length ceil_div
  bound_1 = rw (wanted_2, high buffer (pair_hash a b) fits root_size)

  -- and as it was the only one, there is nothing to ask then
  pub nothing_then : next_answer (take_after (opened buffer 32768 16384 (pair_hash a b)) (two_leaves a b)) 0 ≡ no_request 0
  nothing_then = then_nothing 0 (ap (λ (r : Request). r.number) names_two) one_answered bound_1

-- with every byte said
pub an_asking_that_ends :
    Answered 0 (opened (blank 32768) 32768 16384 (pair_hash zero_hash zero_hash)) 1 (take_after (opened (blank 32768) 32768 16384 (pair_hash zero_hash zero_hash)) (two_leaves zero_hash zero_hash))
an_asking_that_ends = one_answered zero_hash zero_hash zero_octets zero_octets (blank 32768) (blank_room 32768)

-- ---- served by another store

-- what `request_served` and `reply_taken` ask for, met at once: t names a request for layer l, and s is a store for the same file that holds the layer
-- and all above it
pub record Asking (t s : List ℕ) (l : ℕ) : Type 0 where
  pub asks : (next_answer t l).asks ≡ 1
  pub store : usable s ≡ true
  pub files : file_length s ≡ file_length t
  pub roots : facts_root s ≡ facts_root t
  pub all : HoldsFrom s l
  pub asker : OurStore t
  pub server : OurStore s

module _ (a b : List ℕ) (oa : Octets 32 a) (ob : Octets 32 b) (buffer : List ℕ) (bytes : Bytes buffer) (fits : store_size 32768 ≤ length buffer) where
  abbrev fresh : List ℕ
  fresh = opened buffer 32768 16384 (pair_hash a b)

  abbrev told : List ℕ
  told = take_after (opened buffer 32768 16384 (pair_hash a b)) (two_leaves a b)

  is_opened : open_after buffer 32768 16384 (pair_hash a b) ≡ opened buffer 32768 16384 (pair_hash a b)
  is_opened = open_is buffer (pair_hash a b) fits

  held_three : Holds told 0 0 a × Holds told 0 1 b × Holds told 1 0 (pair_hash a b)
  held_three = rw (← is_opened) (two_leaves_held a b oa ob buffer bytes fits)

  told_grown : Grown fresh told
  told_grown = grown_take fresh (two_leaves a b) (facts buffer (pair_hash a b) fits (pair_octets a b).size)

  told_high : height_of told ≡ 1
  told_high = told_grown.same.layers ∙ high buffer (pair_hash a b) fits (pair_octets a b).size

  each_held : (k i : ℕ) → k ≤ 1 → i < 2 ^ (1 - k) → (v : List ℕ) × Holds told k i v
  each_held zero zero x y = (a, held_three.0)
  each_held zero (suc zero) x y = (b, held_three.1)
  each_held zero (suc (suc i)) x y = let w : ⊥ = omega arith in absurd w
  each_held (suc zero) zero x y = (pair_hash a b, held_three.2)
  each_held (suc zero) (suc i) x y = let w : ⊥ = omega arith in absurd w
  each_held (suc (suc k)) i x y = let w : ⊥ = omega arith in absurd w

  pub asked_and_served : Asking (opened buffer 32768 16384 (pair_hash a b)) (take_after (opened buffer 32768 16384 (pair_hash a b)) (two_leaves a b)) 0
  asked_and_served =
      record {
        asks = ap (λ (r : Request). r.asks) (names_two a b oa ob buffer fits);
        store = facts_usable told told_grown.facts;
        files = told_grown.same.file;
        roots = told_grown.same.root;
        all = λ k i l P. each_held k i (rw told_high at P.low) (rw told_high at P.inside);
        asker = rw (← is_opened) (ours (by_opening buffer 32768 16384 (pair_hash a b) bytes (pair_octets a b) (opens buffer fits)) begin);
        server = rw (← is_opened) (ours_with_two_leaves a b oa ob buffer bytes fits);
      }

-- with every byte said
pub a_request_that_is_served :
    Asking (opened (blank 32768) 32768 16384 (pair_hash zero_hash zero_hash)) (take_after (opened (blank 32768) 32768 16384 (pair_hash zero_hash zero_hash)) (two_leaves zero_hash zero_hash)) 0
a_request_that_is_served = asked_and_served zero_hash zero_hash zero_octets zero_octets (blank 32768) (blank_bytes 32768) (blank_room 32768)

-- ---- one piece picked, and judged right

-- the first of two pieces is the only one that a neighbour has
abbrev pub first_only : List ℕ
first_only = 1 ∷ 0 ∷ []

only_first : (i : ℕ) → 0 < get_or first_only i 0 → i ≡ 0
only_first zero l = refl
only_first (suc zero) l = let w : ⊥ = omega arith in absurd w
only_first (suc (suc i)) l = let w : ⊥ = omega arith in absurd w

piece_bytes : (file : List ℕ) (p i : ℕ) → Bytes file → Bytes (piece_of file p i)
unfolding piece_of
piece_bytes file p i b = cut_bytes (block_length * 2 ^ p * i) (block_length * 2 ^ p)
  where
    cut_bytes : (at n : ℕ) → Bytes (cut file at n)
    cut_bytes at n =
        record {
          size = refl;
          bytes =
              λ z l.
              let q = cut_size file at n in
              rw (get_or_cut file at n z (omega arith)) (b.bytes (at + z) (omega arith));
        }

-- a store for a file of two blocks, just opened, and the same once it has heard the two leaves
abbrev begun : List ℕ → List ℕ → List ℕ
begun file buffer = opened buffer 32768 16384 (pair_hash (leaf_of file 0) (leaf_of file 1))

abbrev pub heard : List ℕ → List ℕ → List ℕ
heard file buffer = take_after (opened buffer 32768 16384 (pair_hash (leaf_of file 0) (leaf_of file 1))) (two_leaves (leaf_of file 0) (leaf_of file 1))

module _ (file buffer : List ℕ) (two_blocks : length file ≡ 32768) (bytes : Bytes buffer) (fits : store_size 32768 ≤ length buffer) (file_bytes : Bytes file) where
  size_32 : length (pair_hash (leaf_of file 0) (leaf_of file 1)) ≡ 32
  size_32 = (pair_octets (leaf_of file 0) (leaf_of file 1)).size

  met : MetAfter file (heard file buffer)
  met = rw (← open_is buffer (pair_hash (leaf_of file 0) (leaf_of file 1)) fits) (met_after file buffer two_blocks bytes fits)

  begun_facts : Facts (begun file buffer)
  begun_facts = facts buffer (pair_hash (leaf_of file 0) (leaf_of file 1)) fits size_32

  grown : Grown (begun file buffer) (heard file buffer)
  grown = grown_take (begun file buffer) (two_leaves (leaf_of file 0) (leaf_of file 1)) begun_facts

  file_length_lem : file_length (heard file buffer) ≡ 32768
  file_length_lem = grown.same.file ∙ file_is buffer (pair_hash (leaf_of file 0) (leaf_of file 1)) fits size_32

  piece_length_lem : piece_length (heard file buffer) ≡ 16384
  piece_length_lem = grown.same.piece ∙ piece buffer (pair_hash (leaf_of file 0) (leaf_of file 1)) fits size_32

  two_pieces : piece_count (file_length (heard file buffer)) (piece_length (heard file buffer)) ≡ 2
  unfolding piece_count ceil_div
  two_pieces = rw (file_length_lem, piece_length_lem)

  counted : CountEach (heard file buffer) first_only
  counted = record { store = facts_usable (heard file buffer) grown.facts; size = sym two_pieces }

  begun_unmarked : marked_at (begun file buffer) 0 ≡ false
  begun_unmarked =
      let s = opened buffer 32768 16384 (pair_hash (leaf_of file 0) (leaf_of file 1)) in
      let d : store_size (file_length s) ≡ store_size 32768 = ap store_size (file_is buffer (pair_hash (leaf_of file 0) (leaf_of file 1)) fits size_32) in
      zero_unmarked s 0
      (opened_zero buffer 32768 16384 (pair_hash (leaf_of file 0) (leaf_of file 1)) range fits size_32 (marks_start s + 0) (omega (arith, marks_start_some s)) (omega (arith, marks_end s, pow_pos (height_of s))))

  -- the first block is not marked: a message sets no mark
  still_unmarked : marked_at (heard file buffer) 0 ≡ false
  unfolding marks_start
  still_unmarked =
      same_mark (begun file buffer) (heard file buffer) grown.same 0
      (take_past (begun file buffer) (begun file buffer) begun_facts (alike (begun file buffer) (begun file buffer) begun_facts refl) (two_leaves (leaf_of file 0) (leaf_of file 1)) (31 + 33 * positions (height_of (begun file buffer)) + 0) (omega arith))
      ∙ begun_unmarked

  unmarked : marked_answer (heard file buffer) 0 ≡ done 1 → ⊥
  unmarked m = not_both ((marked_says (heard file buffer) grown.facts 0).0 m).1 still_unmarked

  first_covered : Covers (heard file buffer) 0 0
  unfolding blocks_of block_count ceil_div
  first_covered = record { inside = rw file_length_lem (lit< tt); from = omega arith; upto = rw piece_length_lem (lit< tt) }

  to_fetch : ToFetch (heard file buffer) first_only 0
  to_fetch = record { in_file = rw two_pieces (lit< tt); some = lit< tt; lacking = λ d. unmarked (d 0 first_covered) }

  -- the first piece is picked,
  pub first_picked : pick_answer (heard file buffer) first_only ≡ this_piece 0
  first_picked = by (picked_exactly (heard file buffer) first_only counted)
    where
      by : Picked (heard file buffer) first_only → pick_answer (heard file buffer) first_only ≡ this_piece 0
      by (nothing_left q f) = absurd (f 0 to_fetch)
      by (rarest i q r) = q ∙ ap this_piece (only_first i r.fetch.some)

  -- and the file's own first piece is judged right
  pub one_fetched : Fetched (heard file buffer) 1 (piece_after (heard file buffer) 0 (piece_for file (heard file buffer) 0))
  unfolding piece_answer
  one_fetched = judged_right first_only 0 (piece_for file (heard file buffer) 0) (piece_bytes file (layer_of_pieces (heard file buffer)) 0 file_bytes) unpicked counted first_picked unmoved met.piece

-- with every byte said
pub a_piece_fetched :
    Fetched (heard (replicate 32768 0) (blank 32768)) 1
    (piece_after (heard (replicate 32768 0) (blank 32768)) 0 (piece_for (replicate 32768 0) (heard (replicate 32768 0) (blank 32768)) 0))
a_piece_fetched = one_fetched (replicate 32768 0) (blank 32768) (length-replicate {A = ℕ} 32768 0) (blank_bytes 32768) (blank_room 32768) (zero_bytes 32768)

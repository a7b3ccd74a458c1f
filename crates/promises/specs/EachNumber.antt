-- 01, "Numbers given back", and 02, requests 7 and 12: each number by entry point, exactly when it is given, in the order of 01. "Held" is what
-- kd_held answers.
-- (The numbers of the torrent calls: crates/calls, file EachNumber, and crates/writer_promises; of the calls that take bursts: Running.)
-- Assumes nothing.
use Rattle.std.specs.Prelude.{◌≡◌, true, false, List, ◌++◌, ◌↔◌, ◌⊎◌, ℕ, suc, ◌+◌, ◌-◌, ◌*◌, ◌/◌, ◌^◌, ◌≤◌, ◌<◌, length, replicate, ltb}
use Rattle.std.proofs.Math.Path.{refl}
use Rattle.std.proofs.Math.Logic.{inl, inr}
use Rattle.std.proofs.Common.{arith, lt-ltb, le-ltb, ltb-false}
use Rattle.numbers.specs.Numbers.{done, refused, no_message, other_root, rule_broken, wrong_size, wrong_padding, no_anchor, differs, conflict, unusable, facts_out_of_range, no_room, not_held}
use Rattle.limits.specs.Limits.{longest_hashed}
use Rattle.octets.specs.Octets.{Octets}
use Rattle.numbers.specs.Chain.{exactly_of}
use Rattle.words.specs.History.{Steps}
use Rattle.sha256.specs.Sha256.{sha256}
use Rattle.sha256.specs.Answer.{hashed_of}
use Rattle.sha_1.specs.Sha1.{sha1}
use Rattle.tree.specs.Geometry.{block_count, height, Padding, block_size, piece_size, piece_count}
use Rattle.tree.proofs.GeometryLaws.{padding_on}
use Rattle.tree.specs.Values.{pad_value}
use Rattle.facts.specs.Facts.{facts_answer}
use Rattle.facts.specs.FactsLaws.{facts_given, facts_chain, facts_tests}
use Rattle.store.specs.Store.{usable, file_length, piece_length, facts_root, blocks_of, height_of, store_size, size_answer, open_answer, open_after, opened, held_answer}
use Rattle.settling.specs.Path.{sibling}
use Rattle.header.specs.Header.{request_id, reject_id, header_size, header_of, message_root, message_size, Kept}
use Rattle.messages.specs.Take.{take_answer, reject_answer}
use Rattle.serve.specs.Serve.{serve_answer}
use Rattle.marks.specs.Marks.{clear_answer, marked_answer, field_size, field_answer}
use Rattle.pieces.specs.Pieces.{layer_answer, block_answer, piece_height, piece_answer}
use Rattle.pieces.specs.Hybrid.{V1Agrees, hybrid_answer}
use Rattle.words.specs.Held.{Holds, Lacks, Position, Fits, Misfits, Clashes}
use Rattle.words.specs.Messages.{uncles_in, hash_in, top_layer, top_index, in_run, as_uncle, OtherForm, Readable, Addressed, Ruled, WellFormed, PaddingWrong, Acceptable, Unanchored, Elsewhere, Conflicting, Form, ValidHeader, AllGiven, NoRoomFor}
use Rattle.words.specs.Pieces.{LayerFormed, LayerSettles, BlockFormed, OtherLeaf, PieceFormed, PieceSettles}
use Rattle.words.specs.Answers.{InRange}
use Rattle.numbers.specs.Tests.{either}
use Rattle.knowledge.specs.FormedWhen.{nine_exactly_when, one_exactly_when, two_exactly_when, three_exactly_when, four_exactly_when, formed_by}
use Rattle.knowledge.specs.HeldWhen.{taken_exactly_when, five_exactly_when, six_exactly_when, seven_exactly_when, eight_exactly_when}
use Rattle.knowledge.specs.ServedWhen.{request_9, request_1, request_2, request_3, request_12, serve_silent, serve_rejects}

-- where A holds exactly if B does, and B exactly if C, A holds exactly if C does
on : {A B C : Type 0} → A ↔ B → B ↔ C → A ↔ C
on p q = (λ a. q.0 (p.0 a), λ c. p.1 (q.1 c))

-- the same beside a fact that stays
beside : {A B C D : Type 0} → A ↔ (B × D) → B ↔ C → A ↔ (C × D)
beside p q = (λ a. (let x = p.0 a in (q.0 x.0, x.1)), λ y. p.1 (q.1 y.0, y.1))

-- ---- kd_sha256: 4, and else the hash

module _ (m : List ℕ) where
  pub sha256_4 : ((hashed_of m).number ≡ wrong_size) ↔ (suc longest_hashed ≤ length m)
  unfolding hashed_of
  sha256_4 = (
    λ e. elim (either (ltb (length m) (suc longest_hashed))) [ inl t ↦ (let w : ⊥ = omega (arith, rw t at e) in absurd w) | inr f ↦ ltb-false (length m) (suc longest_hashed) f ],
    λ l. rw (le-ltb (length m) (suc longest_hashed) l),
  )

  pub sha256_0 : length m < suc longest_hashed → hashed_of m ≡ record { number = 0; hash = sha256 m }
  unfolding hashed_of
  sha256_0 l = rw (lt-ltb (length m) (suc longest_hashed) l)

-- ---- kd_store_size: 10, and else the size

module _ (n plen : ℕ) where
  pub size_10 : (InRange n plen → ⊥) → size_answer n plen ≡ refused facts_out_of_range
  size_10 = Rattle.knowledge.specs.RootAlone.size_is_10 n plen

  pub size_0 : InRange n plen → size_answer n plen ≡ done (33 * (2 * 2 ^ height (block_count n) - 1) + 64 + 2 ^ height (block_count n))
  size_0 = Rattle.knowledge.specs.RootAlone.size_is n plen

-- ---- kd_open: 10, 9, 0; a buffer is usable exactly if it names facts in range and has their room

module _ (s : List ℕ) (n plen : ℕ) where
  pub open_10 : ((open_answer s n plen).number ≡ facts_out_of_range) ↔ (InRange n plen → ⊥)
  open_10 = Rattle.knowledge.specs.RootAlone.opening_10 s n plen

  pub open_9 : ((open_answer s n plen).number ≡ unusable) ↔ (InRange n plen × (length s < store_size n))
  open_9 = Rattle.knowledge.specs.RootAlone.opening_9 s n plen

  pub open_0 : ((open_answer s n plen).number ≡ 0) ↔ (InRange n plen × (store_size n ≤ length s))
  open_0 = Rattle.knowledge.specs.RootAlone.opening_0 s n plen

  pub open_counts_1 : (open_answer s n plen).number ≡ 0 → (open_answer s n plen).count ≡ 1
  open_counts_1 = Rattle.knowledge.specs.RootAlone.opening_counts_one s n plen

  -- beside 0 what is left is `opened`; the rows about it (crates/store, file StoreLaws) are about the call
  pub open_leaves : (root : List ℕ) → (open_answer s n plen).number ≡ 0 → open_after s n plen root ≡ opened s n plen root
  open_leaves = Rattle.knowledge.specs.RootAlone.opening_leaves s n plen

  -- and beside another number the buffer
  pub open_refused : (root : List ℕ) → ((open_answer s n plen).number ≡ 0 → ⊥) → open_after s n plen root ≡ s
  open_refused = Rattle.knowledge.specs.Through.reopen_refused s n plen

  -- the root alone is held afterwards, whatever the buffer held before
  pub root_alone : (root : List ℕ) → length root ≡ 32 → (open_answer s n plen).number ≡ 0
      → (l i : ℕ) (v : List ℕ) → Holds (open_after s n plen root) l i v ↔ ((l ≡ height (block_count n)) × (i ≡ 0) × (v ≡ root))
  root_alone = Rattle.knowledge.specs.RootAlone.root_alone s n plen

pub usable_exactly : (s : List ℕ) → (usable s ≡ true) ↔ (InRange (file_length s) (piece_length s) × (store_size (file_length s) ≤ length s))
usable_exactly = Rattle.knowledge.specs.RootAlone.usable_exactly

-- ---- kd_facts: 9, and else the facts

module _ (s : List ℕ) where
  pub facts_9 : ((facts_answer s).number ≡ unusable) ↔ (usable s ≡ false)
  facts_9 = exactly_of (facts_chain s) unusable (facts_tests s) refl

  pub facts_0 : usable s ≡ true → facts_answer s ≡ record { number = 0; length = file_length s; plen = piece_length s; root = facts_root s }
  facts_0 = facts_given s

-- what a store was opened with it names, whatever calls came since: "which file is this store about"
pub facts_of_opening : (b : List ℕ) (n plen : ℕ) (root : List ℕ) → Octets 32 root → (open_answer b n plen).number ≡ 0 → {t : List ℕ} → Steps (open_after b n plen root) t
    → facts_answer t ≡ record { number = 0; length = n; plen = plen; root = root }
facts_of_opening b n plen root o z h = Rattle.knowledge.specs.FactsKept.facts_kept b n plen root o.size z h

-- ---- kd_held: 9, 3, 6, 0 (docs/DECISIONS.md reads the table's rows so)

module _ (s : List ℕ) (l i : ℕ) where
  pub held_9 : ((held_answer s l i).number ≡ unusable) ↔ (usable s ≡ false)
  held_9 = Rattle.knowledge.specs.AskedWhen.asked_9 s l i

  pub held_3 : ((held_answer s l i).number ≡ rule_broken) ↔ ((usable s ≡ true) × (Position (height_of s) l i → ⊥))
  held_3 = Rattle.knowledge.specs.AskedWhen.asked_3 s l i

  pub held_6 : ((held_answer s l i).number ≡ no_anchor) ↔ ((usable s ≡ true) × Position (height_of s) l i × Lacks s l i)
  held_6 = Rattle.knowledge.specs.AskedWhen.asked_6 s l i

  pub held_0 : ((held_answer s l i).number ≡ 0) ↔ ((v : List ℕ) × Holds s l i v)
  held_0 = (λ z. ((held_answer s l i).hash, record { given = z; hash = refl }), λ t. t.1.given)

-- ---- kd_take: 9, 1, 2, 3, 4, 5, 6, 7, 8, 0

module _ (s m : List ℕ) where
  pub take_9 : ((take_answer s m).number ≡ unusable) ↔ (usable s ≡ false)
  unfolding take_answer
  take_9 = nine_exactly_when s m

  -- below 49 bytes or another id
  pub take_1 : ((take_answer s m).number ≡ no_message) ↔ ((usable s ≡ true) × OtherForm m)
  unfolding take_answer
  take_1 = one_exactly_when s m

  -- another pieces root
  pub take_2 : ((take_answer s m).number ≡ other_root) ↔ (Readable s m × (facts_root s ≡ message_root m → ⊥))
  unfolding take_answer
  take_2 = two_exactly_when s m

  -- a header rule fails
  pub take_3 : ((take_answer s m).number ≡ rule_broken) ↔ (Addressed s m × (Kept (header_of m) (height_of s) → ⊥))
  unfolding take_answer
  take_3 = three_exactly_when s m

  -- byte count isn't what the header fixes
  pub take_4 : ((take_answer s m).number ≡ wrong_size) ↔ (Ruled s m × (length m ≡ message_size (header_of m) → ⊥))
  unfolding take_answer
  take_4 = four_exactly_when s m

  -- a padding position with another value
  pub take_5 : ((take_answer s m).number ≡ wrong_padding) ↔ (WellFormed s m × PaddingWrong s m)
  unfolding take_answer
  take_5 = formed_by s m wrong_padding refl (five_exactly_when s m)

  -- in a run that begins past the last block, every hash must be its layer's padding value,
  pub take_5_run : WellFormed s m → Padding (blocks_of s) (header_of m).base (header_of m).index → (j : ℕ) → j < (header_of m).len
      → (hash_in m j ≡ pad_value (header_of m).base → ⊥) → (take_answer s m).number ≡ wrong_padding
  take_5_run W p j l n =
      let x = header_of m in
      take_5.1 (W, record { l = x.base; i = x.index + j; v = hash_in m j; settles = in_run j l; padding = padding_on (blocks_of s) x.base x.index (x.index + j) (omega arith) p; other = n })

  -- an uncle where it is padding itself
  pub take_5_uncle : WellFormed s m → (j : ℕ) → j < uncles_in m → Padding (blocks_of s) (top_layer m + j) (sibling (top_index m / 2 ^ j))
      → (hash_in m ((header_of m).len + j) ≡ pad_value (top_layer m + j) → ⊥) → (take_answer s m).number ≡ wrong_padding
  take_5_uncle W j l p n =
      take_5.1 (W, record { l = top_layer m + j; i = sibling (top_index m / 2 ^ j); v = hash_in m ((header_of m).len + j); settles = as_uncle j l; padding = p; other = n })

  -- anchor not held
  pub take_6 : ((take_answer s m).number ≡ no_anchor) ↔ (WellFormed s m × Unanchored s m)
  unfolding take_answer
  take_6 = formed_by s m no_anchor refl (six_exactly_when s m)

  -- worked-out value differs from the held anchor
  pub take_7 : ((take_answer s m).number ≡ differs) ↔ (WellFormed s m × Elsewhere s m)
  unfolding take_answer
  take_7 = formed_by s m differs refl (seven_exactly_when s m)

  -- anchor agrees, another held position differs
  pub take_8 : ((take_answer s m).number ≡ conflict) ↔ (WellFormed s m × Conflicting s m)
  unfolding take_answer
  take_8 = formed_by s m conflict refl (eight_exactly_when s m)

  pub take_0 : ((take_answer s m).number ≡ 0) ↔ (WellFormed s m × Acceptable s m)
  unfolding take_answer
  take_0 = formed_by s m 0 refl (taken_exactly_when s m)

-- ---- kd_take_reject: 9, 1, 2, 3, 0

module _ (s m : List ℕ) where
  pub reject_9 : ((reject_answer s m).number ≡ unusable) ↔ (usable s ≡ false)
  reject_9 = Rattle.knowledge.specs.ServedWhen.reject_9 s m

  pub reject_1 : ((reject_answer s m).number ≡ no_message) ↔ ((usable s ≡ true) × (Form reject_id m → ⊥))
  reject_1 = Rattle.knowledge.specs.ServedWhen.reject_1 s m

  pub reject_2 : ((reject_answer s m).number ≡ other_root) ↔ ((usable s ≡ true) × Form reject_id m × (facts_root s ≡ message_root m → ⊥))
  reject_2 = Rattle.knowledge.specs.ServedWhen.reject_2 s m

  pub reject_3 : ((reject_answer s m).number ≡ rule_broken)
      ↔ ((usable s ≡ true) × Form reject_id m × (facts_root s ≡ message_root m) × (Kept (header_of m) (height_of s) → ⊥))
  reject_3 = Rattle.knowledge.specs.ServedWhen.reject_3 s m

  pub reject_0 : ((reject_answer s m).number ≡ 0) ↔ ValidHeader reject_id s m
  reject_0 = Rattle.knowledge.specs.ServedWhen.reject_0 s m

  -- there is nothing to count
  pub reject_counts_nothing : (reject_answer s m).count ≡ 0
  unfolding reject_answer
  reject_counts_nothing = refl

-- ---- kd_serve: 9, 1; then 2, 3, 12 settle whether it gets a reply or a reject, and too little room for that one gives 11

module _ (s m out : List ℕ) where
  pub serve_9 : ((serve_answer s m out).number ≡ unusable) ↔ (usable s ≡ false)
  serve_9 = on (serve_silent s m out unusable (inl refl)) (request_9 s m)

  pub serve_1 : ((serve_answer s m out).number ≡ no_message) ↔ ((usable s ≡ true) × (Form request_id m → ⊥))
  serve_1 = on (serve_silent s m out no_message (inr refl)) (request_1 s m)

  pub serve_2 : ((serve_answer s m out).number ≡ other_root) ↔ (((usable s ≡ true) × Form request_id m × (facts_root s ≡ message_root m → ⊥)) × (header_size ≤ length out))
  serve_2 = beside (serve_rejects s m out other_root (inl refl)) (request_2 s m)

  pub serve_3 : ((serve_answer s m out).number ≡ rule_broken)
      ↔ (((usable s ≡ true) × Form request_id m × (facts_root s ≡ message_root m) × (Kept (header_of m) (height_of s) → ⊥)) × (header_size ≤ length out))
  serve_3 = beside (serve_rejects s m out rule_broken (inr (inl refl))) (request_3 s m)

  pub serve_12 : ((serve_answer s m out).number ≡ not_held) ↔ ((ValidHeader request_id s m × (AllGiven s m → ⊥)) × (header_size ≤ length out))
  serve_12 = beside (serve_rejects s m out not_held (inr (inr refl))) (request_12 s m)

  pub serve_11 : ((serve_answer s m out).number ≡ no_room) ↔ NoRoomFor s m out
  serve_11 = Rattle.knowledge.specs.ServedWhen.serve_11 s m out

  pub serve_0 : ((serve_answer s m out).number ≡ 0) ↔ (ValidHeader request_id s m × AllGiven s m × (message_size (header_of m) ≤ length out))
  serve_0 = Rattle.knowledge.specs.ServedWhen.served_0 s m out

-- ---- kd_load_layer: 9, 3, 4, 6, 7, 8, 0

module _ (s layer : List ℕ) where
  pub layer_9 : ((layer_answer s layer).number ≡ unusable) ↔ (usable s ≡ false)
  unfolding layer_answer
  layer_9 = Rattle.knowledge.specs.JudgedWhen.layer_9 s layer

  -- layer for a file not longer than the piece length
  pub layer_3 : ((layer_answer s layer).number ≡ rule_broken) ↔ ((usable s ≡ true) × (file_length s ≤ piece_length s))
  unfolding layer_answer
  layer_3 = Rattle.knowledge.specs.JudgedWhen.layer_3 s layer

  pub layer_4 : ((layer_answer s layer).number ≡ wrong_size)
      ↔ ((usable s ≡ true) × (piece_length s < file_length s) × (length layer ≡ 32 * piece_count (file_length s) (piece_length s) → ⊥))
  unfolding layer_answer
  layer_4 = Rattle.knowledge.specs.JudgedWhen.layer_4 s layer

  -- the root not held
  pub layer_6 : ((layer_answer s layer).number ≡ no_anchor) ↔ (LayerFormed s layer × Lacks s (height_of s) 0)
  unfolding layer_answer
  layer_6 = Rattle.knowledge.specs.JudgedWhen.layer_6 s layer

  pub layer_7 : ((layer_answer s layer).number ≡ differs) ↔ (LayerFormed s layer × Misfits s (LayerSettles s layer) (height_of s) 0)
  unfolding layer_answer
  layer_7 = Rattle.knowledge.specs.JudgedWhen.layer_7 s layer

  pub layer_8 : ((layer_answer s layer).number ≡ conflict) ↔ (LayerFormed s layer × Clashes s (LayerSettles s layer) (height_of s) 0)
  unfolding layer_answer
  layer_8 = Rattle.knowledge.specs.JudgedWhen.layer_8 s layer

  pub layer_0 : ((layer_answer s layer).number ≡ 0) ↔ (LayerFormed s layer × Fits s (LayerSettles s layer) (height_of s) 0)
  unfolding layer_answer
  layer_0 = Rattle.knowledge.specs.JudgedWhen.layer_0 s layer

-- ---- kd_judge_block: 9, 3, 4, 6, 7, 0, and never 8

module _ (s : List ℕ) (i : ℕ) (block : List ℕ) where
  pub block_9 : ((block_answer s i block).number ≡ unusable) ↔ (usable s ≡ false)
  unfolding block_answer
  block_9 = Rattle.knowledge.specs.JudgedWhen.block_9 s i block

  -- block number past the file
  pub block_3 : ((block_answer s i block).number ≡ rule_broken) ↔ ((usable s ≡ true) × (blocks_of s ≤ i))
  unfolding block_answer
  block_3 = Rattle.knowledge.specs.JudgedWhen.block_3 s i block

  pub block_4 : ((block_answer s i block).number ≡ wrong_size) ↔ ((usable s ≡ true) × (i < blocks_of s) × (length block ≡ block_size (file_length s) i → ⊥))
  unfolding block_answer
  block_4 = Rattle.knowledge.specs.JudgedWhen.block_4 s i block

  -- leaf not held
  pub block_6 : ((block_answer s i block).number ≡ no_anchor) ↔ (BlockFormed s i block × Lacks s 0 i)
  unfolding block_answer
  block_6 = Rattle.knowledge.specs.JudgedWhen.block_6 s i block

  pub block_7 : ((block_answer s i block).number ≡ differs) ↔ (BlockFormed s i block × OtherLeaf s i block)
  unfolding block_answer
  block_7 = Rattle.knowledge.specs.JudgedWhen.block_7 s i block

  pub block_0 : ((block_answer s i block).number ≡ 0) ↔ (BlockFormed s i block × Holds s 0 i (sha256 block))
  unfolding block_answer
  block_0 = Rattle.knowledge.specs.JudgedWhen.block_0 s i block

  pub block_not_8 : (block_answer s i block).number ≡ conflict → ⊥
  unfolding block_answer
  block_not_8 = Rattle.knowledge.specs.JudgedWhen.block_not_8 s i block

  -- there is nothing to count
  pub block_counts_nothing : (block_answer s i block).count ≡ 0
  unfolding block_answer
  block_counts_nothing = refl

-- ---- kd_judge_piece: 9, 3, 4, 6, 7, 8, 0

module _ (s : List ℕ) (i : ℕ) (piece : List ℕ) where
  pub piece_9 : ((piece_answer s i piece).number ≡ unusable) ↔ (usable s ≡ false)
  unfolding piece_answer
  piece_9 = Rattle.knowledge.specs.JudgedWhen.piece_9 s i piece

  -- piece number past the file
  pub piece_3 : ((piece_answer s i piece).number ≡ rule_broken) ↔ ((usable s ≡ true) × (piece_count (file_length s) (piece_length s) ≤ i))
  unfolding piece_answer
  piece_3 = Rattle.knowledge.specs.JudgedWhen.piece_3 s i piece

  pub piece_4 : ((piece_answer s i piece).number ≡ wrong_size)
      ↔ ((usable s ≡ true) × (i < piece_count (file_length s) (piece_length s)) × (length piece ≡ piece_size (file_length s) (piece_length s) i → ⊥))
  unfolding piece_answer
  piece_4 = Rattle.knowledge.specs.JudgedWhen.piece_4 s i piece

  -- piece node not held
  pub piece_6 : ((piece_answer s i piece).number ≡ no_anchor) ↔ (PieceFormed s i piece × Lacks s (piece_height s) i)
  unfolding piece_answer
  piece_6 = Rattle.knowledge.specs.JudgedWhen.piece_6 s i piece

  pub piece_7 : ((piece_answer s i piece).number ≡ differs) ↔ (PieceFormed s i piece × Misfits s (PieceSettles s i piece) (piece_height s) i)
  unfolding piece_answer
  piece_7 = Rattle.knowledge.specs.JudgedWhen.piece_7 s i piece

  pub piece_8 : ((piece_answer s i piece).number ≡ conflict) ↔ (PieceFormed s i piece × Clashes s (PieceSettles s i piece) (piece_height s) i)
  unfolding piece_answer
  piece_8 = Rattle.knowledge.specs.JudgedWhen.piece_8 s i piece

  pub piece_0 : ((piece_answer s i piece).number ≡ 0) ↔ (PieceFormed s i piece × Fits s (PieceSettles s i piece) (piece_height s) i)
  unfolding piece_answer
  piece_0 = Rattle.knowledge.specs.JudgedWhen.piece_0 s i piece

  -- there is nothing to count
  pub piece_counts_nothing : (piece_answer s i piece).count ≡ 0
  unfolding piece_answer
  piece_counts_nothing = refl

-- ---- kd_judge_hybrid_piece: 9, 3, 4, 6, 7, 8 of the v2 half, then 4 and 7 of the v1 half, 0

module _ (s : List ℕ) (i : ℕ) (piece v1 : List ℕ) (zeros : ℕ) where
  pub hybrid_9 : ((hybrid_answer s i piece v1 zeros).number ≡ unusable) ↔ (usable s ≡ false)
  unfolding hybrid_answer
  hybrid_9 = Rattle.knowledge.specs.JudgedWhen.hybrid_9 s i piece v1 zeros

  -- piece number past the file
  pub hybrid_3 : ((hybrid_answer s i piece v1 zeros).number ≡ rule_broken) ↔ ((usable s ≡ true) × (piece_count (file_length s) (piece_length s) ≤ i))
  unfolding hybrid_answer
  hybrid_3 = Rattle.knowledge.specs.JudgedWhen.hybrid_3 s i piece v1 zeros

  -- not the piece's bytes; or right by the v2 half, and with the zeros more than the piece length
  pub hybrid_4 : ((hybrid_answer s i piece v1 zeros).number ≡ wrong_size)
      ↔ (((usable s ≡ true) × (i < piece_count (file_length s) (piece_length s)) × (length piece ≡ piece_size (file_length s) (piece_length s) i → ⊥))
      ⊎ ((PieceFormed s i piece × Fits s (PieceSettles s i piece) (piece_height s) i) × (piece_length s < length piece + zeros)))
  unfolding hybrid_answer
  hybrid_4 = Rattle.knowledge.specs.JudgedWhen.hybrid_4 s i piece v1 zeros

  -- piece node not held
  pub hybrid_6 : ((hybrid_answer s i piece v1 zeros).number ≡ no_anchor) ↔ (PieceFormed s i piece × Lacks s (piece_height s) i)
  unfolding hybrid_answer
  hybrid_6 = Rattle.knowledge.specs.JudgedWhen.hybrid_6 s i piece v1 zeros

  -- another node is held; or right by the v2 half, the zeros fit, and SHA-1 of the piece and the zeros is not the hash given
  pub hybrid_7 : ((hybrid_answer s i piece v1 zeros).number ≡ differs)
      ↔ ((PieceFormed s i piece × Misfits s (PieceSettles s i piece) (piece_height s) i)
      ⊎ ((PieceFormed s i piece × Fits s (PieceSettles s i piece) (piece_height s) i) × ((length piece + zeros ≤ piece_length s) × (sha1 (piece ++ replicate zeros 0) ≡ v1 → ⊥))))
  unfolding hybrid_answer
  hybrid_7 = Rattle.knowledge.specs.JudgedWhen.hybrid_7 s i piece v1 zeros

  pub hybrid_8 : ((hybrid_answer s i piece v1 zeros).number ≡ conflict) ↔ (PieceFormed s i piece × Clashes s (PieceSettles s i piece) (piece_height s) i)
  unfolding hybrid_answer
  hybrid_8 = Rattle.knowledge.specs.JudgedWhen.hybrid_8 s i piece v1 zeros

  pub hybrid_0 : ((hybrid_answer s i piece v1 zeros).number ≡ 0) ↔ ((PieceFormed s i piece × Fits s (PieceSettles s i piece) (piece_height s) i) × V1Agrees s piece v1 zeros)
  unfolding hybrid_answer
  hybrid_0 = Rattle.knowledge.specs.JudgedWhen.hybrid_0 s i piece v1 zeros

  -- there is nothing to count
  pub hybrid_counts_nothing : (hybrid_answer s i piece v1 zeros).count ≡ 0
  unfolding hybrid_answer
  hybrid_counts_nothing = refl

-- ---- kd_clear and kd_marked: 9, 3, 0

module _ (s : List ℕ) (i : ℕ) where
  pub clear_9 : ((clear_answer s i).number ≡ unusable) ↔ (usable s ≡ false)
  unfolding clear_answer
  clear_9 = Rattle.knowledge.specs.MarkedWhen.there_9 s i

  -- block number past the file
  pub clear_3 : ((clear_answer s i).number ≡ rule_broken) ↔ ((usable s ≡ true) × (blocks_of s ≤ i))
  unfolding clear_answer
  clear_3 = Rattle.knowledge.specs.MarkedWhen.there_3 s i

  -- marked or not
  pub clear_0 : ((clear_answer s i).number ≡ 0) ↔ ((usable s ≡ true) × (i < blocks_of s))
  unfolding clear_answer
  clear_0 = Rattle.knowledge.specs.MarkedWhen.there_0 s i

  -- there is nothing to count
  pub clear_counts_nothing : (clear_answer s i).count ≡ 0
  unfolding clear_answer
  clear_counts_nothing = refl

  pub marked_9 : ((marked_answer s i).number ≡ unusable) ↔ (usable s ≡ false)
  unfolding marked_answer
  marked_9 = Rattle.knowledge.specs.MarkedWhen.there_9 s i

  pub marked_3 : ((marked_answer s i).number ≡ rule_broken) ↔ ((usable s ≡ true) × (blocks_of s ≤ i))
  unfolding marked_answer
  marked_3 = Rattle.knowledge.specs.MarkedWhen.there_3 s i

  pub marked_0 : ((marked_answer s i).number ≡ 0) ↔ ((usable s ≡ true) × (i < blocks_of s))
  unfolding marked_answer
  marked_0 = Rattle.knowledge.specs.MarkedWhen.there_0 s i

-- ---- kd_bitfield: 9, 11, 0

module _ (s out : List ℕ) where
  pub field_9 : ((field_answer s out).number ≡ unusable) ↔ (usable s ≡ false)
  field_9 = Rattle.knowledge.specs.MarkedWhen.field_9 s out

  pub field_11 : ((field_answer s out).number ≡ no_room) ↔ ((usable s ≡ true) × (length out < field_size s))
  field_11 = Rattle.knowledge.specs.MarkedWhen.field_11 s out

  pub field_0 : ((field_answer s out).number ≡ 0) ↔ ((usable s ≡ true) × (field_size s ≤ length out))
  field_0 = Rattle.knowledge.specs.MarkedWhen.field_0 s out

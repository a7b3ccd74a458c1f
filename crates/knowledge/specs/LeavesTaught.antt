-- What kd_piece_hashes gives beside 0: a message that kd_take takes on this store, with the piece's own leaves; and a file whose pieces were all
-- taught has nothing to ask in layer 0.
-- Assumes nothing.
use Rattle.std.specs.Prelude.{◌≡◌, refl, Bool, true, false, List, [], ◌↔◌, ◌⊎◌, ℕ, ◌+◌, ◌*◌, ◌/◌, ◌%◌, ◌^◌, ◌≤◌, ◌<◌, length, get_or}
use Rattle.std.proofs.Common.{ap, ap₂, ◌∙◌, subst, inl, inr, div-add-mod', mod-lt, mul-one, pow_mono, arith, ne_eqb, ltb-false}
use Rattle.std.proofs.Math.Path.{sym}
use Rattle.std.proofs.Math.Decide.{ℕ_discrete, dec_lt}
use Rattle.std.proofs.Math.Nat.{div-eq_of_lt}
use Rattle.std.proofs.Math.Pow.{pow_pos}
use Rattle.octets.specs.Octets.{cut}
use Rattle.octets.specs.OctetsLaws.{cut_cut, cut_pasted_same, get_or_pasted_after, pasted_length}
use Rattle.numbers.specs.declared.Answer.{Answer}
use Rattle.tree.specs.Geometry.{block_length, block_count, ceil_div, covering, has_layer, piece_count, Padding}
use Rattle.tree.proofs.GeometryLaws.{ceil_least, ceil_enough, has_longer, height_least}
use Rattle.tree.specs.Values.{node, leaf_of}
use Rattle.tree.proofs.ValuesLaws.{leaf_octets}
use Rattle.store.specs.Store.{file_length, piece_length, blocks_of, height_of, Facts}
use Rattle.store.specs.StoreLaws.{usable_facts, facts_leaves}
use Rattle.header.specs.declared.Header.{Header}
use Rattle.header.specs.Header.{header_size, header_of, uncle_count}
use Rattle.messages.specs.Take.{run_of, take_number, take_after}
use Rattle.pieces.specs.Pieces.{layer_of_pieces, piece_height, piece_number}
use Rattle.pieces.proofs.PiecesLaws.{height_layer, height_root, pieces_are, piece_in_lem, piece_right, piece_length_by_layer}
use Rattle.asking.specs.Asking.{no_request, next_answer}
use Rattle.leaves.specs.Leaves.{run_over, leaf_message, leaves_told, leaves_answer, leaves_after}
use Rattle.leaves.specs.LeavesLaws.{leaves_done, told_none, told_some, message_length, root_size}
use Rattle.leaves.specs.Taught.{header_is, leaf_is, leaves_taken}
use Rattle.words.specs.Held.{Holds}
use Rattle.words.specs.Messages.{hash_in, uncles_in, Settles, in_run, WellFormed}
use Rattle.words.specs.File.{For, piece_for, TrueHashes}
use Rattle.words.specs.Asking.{Wanted}
use Rattle.words.specs.Teaching.{told_size, told, Taught}
use Rattle.knowledge.specs.Again.{grown_holds}
use Rattle.knowledge.specs.Beyond.{same_node}
use Rattle.knowledge.specs.FormedWhen.{formed_by}
use Rattle.knowledge.specs.Grows.{grown_take, steps_grow}
use Rattle.knowledge.specs.HeldAfter.{settles_then_holds}
use Rattle.knowledge.specs.HeldWhen.{taken_exactly_when}
use Rattle.knowledge.specs.LeavesNumbers.{leaves_0}
use Rattle.knowledge.specs.AskingNumbers.{next_0}
use Rattle.knowledge.specs.ReadBack.{holds_at}
use Rattle.knowledge.specs.NextRequest.{nothing_exactly_when, nothing_is}
use Rattle.knowledge.specs.RootToBlock.{piece_leaf}

-- ---- where a piece's node is a leaf

module _ (s : List ℕ) (f : Facts s) where
  one_block : file_length s ≤ block_length → height_of s ≡ 0
  unfolding height_of blocks_of block_count
  one_block l =
      let w = height_least (ceil_div (file_length s) block_length) 0 (ceil_least (file_length s) block_length 1 (omega arith) (omega arith)) in
      omega arith

  no_height : height_of s ≡ 0 → file_length s ≤ block_length
  no_height z =
      let p : 2 ^ height_of s ≡ 1 = ap (λ (x : ℕ). 2 ^ x) z in
      omega (arith, blocks_enough (omega (arith, facts_leaves s f)))
    where
      blocks_enough : blocks_of s ≤ 1 → file_length s ≤ 1 * block_length
      blocks_enough = unfold blocks_of block_count in ceil_enough (file_length s) block_length 1 (omega arith)

  not_longer : has_layer (file_length s) (piece_length s) ≡ false → file_length s ≤ piece_length s
  unfolding has_layer
  not_longer t = ltb-false (piece_length s) (file_length s) t

  -- EXACTLY where pieces have one block, or the file has one
  pub one_leaf : (piece_height s ≡ 0) ↔ ((piece_length s ≡ block_length) ⊎ (file_length s ≤ block_length))
  one_leaf = by (has_layer (file_length s) (piece_length s)) refl
    where
      by : (t : Bool) → has_layer (file_length s) (piece_length s) ≡ t → (piece_height s ≡ 0) ↔ ((piece_length s ≡ block_length) ⊎ (file_length s ≤ block_length))
      by true t = (
        λ k.
            (let p : 2 ^ layer_of_pieces s ≡ 1 = ap (λ (x : ℕ). 2 ^ x) (sym (height_layer s f t) ∙ k) in
            inl (omega (arith, piece_length_by_layer s f))),
        λ c.
            elim c [
              | inl e ↦
                  height_layer s f t
                  ∙ elim (ℕ_discrete (layer_of_pieces s) 0) [
                    | yes y ↦ y
                    | no n ↦
                        let m : 2 ^ 1 ≤ 2 ^ layer_of_pieces s = pow_mono {i = 1} {j = layer_of_pieces s} (omega arith) in
                        let w : ⊥ = omega (arith, piece_length_by_layer s f) in
                        absurd w
                  ]
              | inr l ↦ (let w : ⊥ = omega (arith, piece_length_by_layer s f, pow_pos (layer_of_pieces s), has_longer (file_length s) (piece_length s) t) in absurd w)
            ],
      )
      by false t = (
        λ k. inr (no_height (sym (height_root s f t) ∙ k)),
        λ c. height_root s f t ∙ one_block (elim c [ inl e ↦ (let l = not_longer t in omega arith) | inr l ↦ l ]),
      )

-- the piece that block b is of
part_below : (b n c : ℕ) → 0 < c → b < n → b / c < ceil_div n c
part_below b n c p l =
    elim (dec_lt (b / c) (ceil_div n c)) [
      | yes y ↦ y
      | no g ↦ (let w : ⊥ = omega (arith, ceil_enough n c (b / c) p (omega arith), div-add-mod' b c) in absurd w)
    ]

pub piece_of_lem : (s : List ℕ) → Facts s → (b : ℕ) → b < blocks_of s → b / 2 ^ piece_height s < piece_count (file_length s) (piece_length s)
piece_of_lem s f b l = by (has_layer (file_length s) (piece_length s)) refl
  where
    layered : b / 2 ^ layer_of_pieces s < covering (blocks_of s) (layer_of_pieces s)
    layered = unfold covering in part_below b (blocks_of s) (2 ^ layer_of_pieces s) (pow_pos (layer_of_pieces s)) l

    any : 0 < piece_count (file_length s) (piece_length s)
    any = unfold piece_count in some_part (file_length s) (piece_length s) (omega (arith, piece_length_by_layer s f, pow_pos (layer_of_pieces s))) f.some
      where
        some_part : (n c : ℕ) → 0 < c → 1 ≤ n → 0 < ceil_div n c
        some_part n c p o = let w = part_below 0 n c p o in omega arith

    by : (t : Bool) → has_layer (file_length s) (piece_length s) ≡ t → b / 2 ^ piece_height s < piece_count (file_length s) (piece_length s)
    by true t = rw (height_layer s f t, pieces_are s f) layered
    by false t =
        let e : b / 2 ^ height_of s ≡ 0 = div-eq_of_lt (omega (arith, facts_leaves s f)) in
        rw (height_root s f t) (omega (arith, any))

-- ---- what is given beside 0

at_leaf : (bytes : List ℕ) (x : ℕ) → node (leaf_of bytes) 0 x ≡ leaf_of bytes x
unfolding node
at_leaf bytes x = refl

some_size : (s : List ℕ) → (piece_height s ≡ 0 → ⊥) → told_size s ≡ header_size + 32 * 2 ^ piece_height s
some_size s k = rw (ne_eqb (piece_height s) 0 k)

-- how long the message is
pub told_length : (s : List ℕ) (i : ℕ) (piece : List ℕ) → piece_number s i piece ≡ 0 → length (leaves_told s i piece) ≡ told_size s
told_length s i piece z =
    elim (ℕ_discrete (piece_height s) 0) [
      | yes k ↦ ap length (told_none s i piece [] k) ∙ sym (rw k)
      | no k ↦
          ap length (told_some s i piece [] k)
          ∙ message_length s i piece (root_size s (usable_facts s (piece_right s i piece z).store)) (λ j. (leaf_octets piece j).size)
          ∙ sym (some_size s k)
    ]

module _ (s : List ℕ) (i : ℕ) (piece out : List ℕ) (z : (leaves_answer s i piece out).number ≡ 0) where
  right : piece_number s i piece ≡ 0
  right = ((leaves_0 s i piece out).0 z).0

  room : length (leaves_told s i piece) ≤ length out
  room = ((leaves_0 s i piece out).0 z).1

  facts : Facts s
  facts = usable_facts s (piece_right s i piece right).store

  count_is : (leaves_answer s i piece out).count ≡ length (leaves_told s i piece)
  count_is = ap (λ (a : Answer). a.count) (leaves_done s i piece out right room).0

  told_is : told s i piece out ≡ leaves_told s i piece
  told_is =
      ap₂ (λ (x : List ℕ) (n : ℕ). cut x 0 n) (leaves_done s i piece out right room).1 count_is
      ∙ cut_pasted_same out 0 (leaves_told s i piece) (length (leaves_told s i piece)) refl (omega (arith, room))

  -- THE SIZE is a header's and 32 bytes for each leaf, or 0 where the piece's node is a leaf,
  pub told_size_lem : (leaves_answer s i piece out).count ≡ told_size s
  told_size_lem = count_is ∙ told_length s i piece right

  -- exactly there
  pub told_nothing : ((leaves_answer s i piece out).count ≡ 0) ↔ (piece_height s ≡ 0)
  told_nothing = (
    λ e.
        elim (ℕ_discrete (piece_height s) 0) [
          | yes k ↦ k
          | no k ↦ (let w : ⊥ = omega (arith, sym e ∙ told_size_lem ∙ some_size s k) in absurd w)
        ],
    λ k. count_is ∙ ap length (told_none s i piece out k),
  )

  fits : 0 + length (leaves_told s i piece) ≤ length out
  fits = omega (arith, room)

  -- BYTES BEHIND IT stay, and so does the length
  pub told_behind : (k : ℕ) → (leaves_answer s i piece out).count ≤ k → get_or (leaves_after s i piece out) k 0 ≡ get_or out k 0
  told_behind k l = rw (leaves_done s i piece out right room).1 (get_or_pasted_after out 0 (leaves_told s i piece) fits k (omega (arith, count_is)))

  pub told_same_length : length (leaves_after s i piece out) ≡ length out
  told_same_length = rw (leaves_done s i piece out right room).1 (pasted_length out 0 (leaves_told s i piece) fits)

  module _ (ne : (leaves_answer s i piece out).count ≡ 0 → ⊥) where
    some : piece_height s ≡ 0 → ⊥
    some k = ne (told_nothing.1 k)

    message_is : told s i piece out ≡ leaf_message s i piece
    message_is = told_is ∙ told_some s i piece out some

    -- TAKEN: kd_take of it on this store is 0,
    pub told_taken : take_number s (told s i piece out) ≡ 0
    told_taken = ap (take_number s) message_is ∙ leaves_taken s i piece right some

    -- so it is well-formed
    pub told_formed : WellFormed s (told s i piece out)
    told_formed = ((formed_by s (told s i piece out) 0 refl (taken_exactly_when s (told s i piece out))).0 told_taken).0

    -- with this header: all leaves under the piece's node, no uncles
    pub told_header : header_of (told s i piece out) ≡ run_over (i * 2 ^ piece_height s) (2 ^ piece_height s)
    told_header = ap header_of message_is ∙ header_is s i piece right some

    -- THE PIECE'S OWN: hash j is the piece's leaf j
    pub told_hash : (j : ℕ) → j < 2 ^ piece_height s → hash_in (told s i piece out) j ≡ leaf_of piece j
    told_hash j l =
        ap (λ (m : List ℕ). hash_in m j) message_is ∙ at_run ∙ leaf_is s i piece right some j l
      where
        at_run : hash_in (leaf_message s i piece) j ≡ cut (run_of (leaf_message s i piece) (2 ^ piece_height s)) (32 * j) 32
        at_run = unfold run_of in sym (cut_cut (leaf_message s i piece) header_size (32 * 2 ^ piece_height s) (32 * j) 32 (omega arith))

    no_uncles : uncles_in (told s i piece out) ≡ 0
    no_uncles = ap uncle_count told_header ∙ none (i * 2 ^ piece_height s) (2 ^ piece_height s)
      where
        none : (index len : ℕ) → uncle_count (run_over index len) ≡ 0
        none index len = omega arith

    -- THE FILE'S OWN, where the piece is
    pub told_true : (file : List ℕ) → For file s → piece ≡ piece_for file s i → TrueHashes file s (told s i piece out)
    told_true file w e =
        record {
          formed = told_formed;
          run =
              λ j l.
              let n : j < 2 ^ piece_height s = rw told_header at l in
              rw told_header (told_hash j n ∙ ap (λ (p : List ℕ). leaf_of p j) e ∙ piece_leaf file s facts w i (piece_right s i piece right).inside j n ∙ sym (at_leaf file (i * 2 ^ piece_height s + j)));
          uncles = λ j l. (let x : ⊥ = omega (arith, no_uncles, l) in absurd x);
        }

    settled : (j : ℕ) → j < 2 ^ piece_height s → Settles (told s i piece out) 0 (i * 2 ^ piece_height s + j) (leaf_of piece j)
    settled j l =
        subst (λ (x : Header). Settles (told s i piece out) x.base (x.index + j) (leaf_of piece j)) told_header
        (subst (λ (v : List ℕ). Settles (told s i piece out) (header_of (told s i piece out)).base ((header_of (told s i piece out)).index + j) v) (told_hash j l)
        (in_run j (rw told_header l)))

  -- the leaf of a piece of one block is held already
  one_held : piece_height s ≡ 0 → (j : ℕ) → j < 2 ^ piece_height s → Holds s 0 (i * 2 ^ piece_height s + j) (leaf_of piece j)
  one_held k j l =
      let R = piece_right s i piece right in
      let P = piece_in_lem s facts i R.inside in
      let p : 2 ^ piece_height s ≡ 1 = ap (λ (x : ℕ). 2 ^ x) k in
      let z : 0 ≡ j = omega arith in
      let m : i * 2 ^ piece_height s ≡ i = ap (λ (x : ℕ). i * x) p ∙ mul-one i in
      let n : i ≡ i * 2 ^ piece_height s + j = omega arith in
      let h = subst (Holds s (piece_height s) i) R.node.alike (holds_at s (piece_height s) i facts P.layer P.inside R.node.held) in
      let v : node (leaf_of piece) (piece_height s) 0 ≡ leaf_of piece j = ap (λ (x : ℕ). node (leaf_of piece) x 0) k ∙ at_leaf piece 0 ∙ ap (leaf_of piece) z in
      subst (λ (x : ℕ). Holds s 0 x (leaf_of piece j)) n (subst (λ (x : ℕ). Holds s x i (leaf_of piece j)) k (subst (Holds s (piece_height s) i) v h))

  -- EVERY LEAF OF THE PIECE is held, once what was given was offered to kd_take
  pub told_holds : (j : ℕ) → j < 2 ^ piece_height s → Holds (take_after s (told s i piece out)) 0 (i * 2 ^ piece_height s + j) (leaf_of piece j)
  told_holds j l =
      elim (ℕ_discrete (leaves_answer s i piece out).count 0) [
        | yes e ↦
            grown_holds s (take_after s (told s i piece out)) facts (grown_take s (told s i piece out) facts) 0 (i * 2 ^ piece_height s + j) (leaf_of piece j) (one_held (told_nothing.0 e) j l)
        | no ne ↦ settles_then_holds s (told s i piece out) (told_taken ne) 0 (i * 2 ^ piece_height s + j) (leaf_of piece j) (settled ne j l)
      ]

-- ---- all pieces

-- NOTHING TO ASK in layer 0, once every piece was taught
pub all_taught : (t : List ℕ) → (next_answer t 0).number ≡ 0 → ((i : ℕ) → i < piece_count (file_length t) (piece_length t) → Taught i t) → next_answer t 0 ≡ no_request 0
all_taught t z all =
    nothing_is t 0 ((nothing_exactly_when t 0 z).1 (λ b y. held b (in_file b y))) ∙ ap (λ (n : ℕ). no_request n) z
  where
    f : Facts t
    f = usable_facts t ((next_0 t 0).0 z).0

    in_file : (b : ℕ) → Wanted t 0 b → b < blocks_of t
    in_file b y =
        elim (dec_lt b (blocks_of t)) [
          | yes l ↦ l
          | no g ↦ absurd (y.full (unfold Padding in omega arith))
        ]

    held : (b : ℕ) → b < blocks_of t → (v : List ℕ) × Holds t 0 b v
    held b l =
        let i = b / 2 ^ piece_height t in
        let j = b % 2 ^ piece_height t in
        let T = all (b / 2 ^ piece_height t) (piece_of_lem t f b l) in
        let m = told T.s (b / 2 ^ piece_height t) T.piece T.out in
        let fs = facts T.s (b / 2 ^ piece_height t) T.piece T.out T.right in
        let g1 = grown_take T.s m fs in
        let g2 = steps_grow g1.facts T.since in
        let k : piece_height t ≡ piece_height T.s = same_node g2.same ∙ same_node g1.same in
        let jl : b % 2 ^ piece_height t < 2 ^ piece_height T.s = subst (λ (x : ℕ). b % 2 ^ piece_height t < 2 ^ x) k (mod-lt b (pow_pos (piece_height t))) in
        let n : b / 2 ^ piece_height t * 2 ^ piece_height T.s + b % 2 ^ piece_height t ≡ b =
        ap (λ (x : ℕ). b / 2 ^ piece_height t * 2 ^ x + b % 2 ^ piece_height t) (sym k) ∙ div-add-mod' b (2 ^ piece_height t) in
        let h = told_holds T.s i T.piece T.out T.right j jl in
        let u = grown_holds (take_after T.s m) t g1.facts g2 0 (b / 2 ^ piece_height t * 2 ^ piece_height T.s + b % 2 ^ piece_height t) (leaf_of T.piece j) h in
        (leaf_of T.piece j, subst (λ (x : ℕ). Holds t 0 x (leaf_of T.piece j)) n u)

-- 02, request 12: when each number is given by `kd_torrent_hybrid`, `kd_torrent_v1_piece` and `kd_torrent_v1_pieces`, in the words of the other
-- calls' answers; and which answers there are.
-- Assumes nothing.
use Rattle.std.specs.Prelude.{◌≡◌, ◌↔◌, Bool, cond, ◌&&◌, List, ℕ, ◌≤◌, ◌<◌, eqb, ltb}
use Rattle.std.proofs.Math.Path.{refl}
use Rattle.std.proofs.Common.{sym, ap, ◌∙◌, inl, inr, arith, lt-ltb, le-ltb, ltb-true, ltb-false}
use Rattle.std.proofs.Math.Bool.{true, false, and-eq-true_iff}
use Rattle.std.proofs.Math.Decide.{ℕ_discrete}
use Rattle.numbers.specs.Numbers.{rule_broken, no_such_part}
use Rattle.numbers.specs.Chain.{Chain, last, test, decided, exactly_of}
use Rattle.numbers.specs.Tests.{says_not}
use Rattle.tree.specs.Geometry.{piece_count}
use Rattle.meaning.proofs.NthLaws.{nth_some}
use Rattle.meaning.specs.Torrent.{plen_of, files_of}
use Rattle.halves.specs.V1Half.{is_hybrid, entries_of_half}
use Rattle.halves.specs.Decoded.{torrent_in}
use Rattle.torrent.specs.Torrent.{checked_of, read_of, file_read}
use Rattle.torrent.specs.Answers.{Says}
use Rattle.torrent.specs.NumberMeans.{read_number_lem}
use Rattle.torrent.specs.ReadMeans.{torrent_is, file_is}
use Rattle.calls.specs.Calls.{OfTorrent}
use Rattle.calls.specs.CallsLaws.{checked_ranged, of_torrent}
use Rattle.calls.specs.EachNumber.{read_exactly}
use Rattle.v1.specs.Place.{file_size}
use Rattle.v1.specs.V1.{HybridRead, V1Piece, V1Part, no_hybrid, hybrid_of, no_piece, v1_piece_of, no_part, v1_pieces_of}
use Rattle.v1.specs.HalfLaws.{same_size}
use Rattle.v1.specs.KnownLaws.{known, encodes_value}
use Rattle.v1.specs.ReadLaws.{hybrid_refused, piece_refused, part_refused}

-- ---- which answers there are

-- kd_torrent_hybrid: done, or the torrent's number beside zeros
pub data HybridOutcome : HybridRead → Type 0 where
  done : (r : HybridRead) → r.number ≡ 0 → HybridOutcome r
  bad_torrent : (n : ℕ) → OfTorrent n → HybridOutcome (no_hybrid n)

-- kd_torrent_v1_piece: done, such a number, 29 or 3, beside zeros
pub data PieceOutcome : V1Piece → Type 0 where
  done : (r : V1Piece) → r.number ≡ 0 → PieceOutcome r
  bad_torrent : (n : ℕ) → OfTorrent n → PieceOutcome (no_piece n)
  no_file : PieceOutcome (no_piece no_such_part)
  not_there : PieceOutcome (no_piece rule_broken)

-- kd_torrent_v1_pieces: the same
pub data PiecesOutcome : V1Part → Type 0 where
  done : (r : V1Part) → r.number ≡ 0 → PiecesOutcome r
  bad_torrent : (n : ℕ) → OfTorrent n → PiecesOutcome (no_part n)
  no_file : PiecesOutcome (no_part no_such_part)
  not_there : PiecesOutcome (no_part rule_broken)

-- 0 and 3 are no torrent's refusal
low : (n : ℕ) → OfTorrent n → n < 4 → ⊥
low n p h = let x = (of_torrent n p).0 in omega arith

not_zero : (n : ℕ) → OfTorrent n → n ≡ 0 → ⊥
not_zero n p z = low n p (omega arith)

module _ (s : List ℕ) where
  pub hybrid_outcome : HybridOutcome (hybrid_of s)
  hybrid_outcome =
      elim (checked_ranged s) [
        | inl z ↦ by z (is_hybrid (torrent_in s)) refl
        | inr p ↦ rw (sym (hybrid_refused s (checked_of s) refl (not_zero (checked_of s).keys.number p))) (bad_torrent (checked_of s).keys.number p)
      ]
    where
      by : (checked_of s).keys.number ≡ 0 → (b : Bool) → is_hybrid (torrent_in s) ≡ b → HybridOutcome (hybrid_of s)
      by z true e = done (hybrid_of s) (unfold hybrid_of in rw (z, e) refl)
      by z false e = done (hybrid_of s) (unfold hybrid_of in rw (z, e) refl)

  pub piece_outcome : (n i : ℕ) → PieceOutcome (v1_piece_of s n i)
  piece_outcome n i =
      elim (checked_ranged s) [
        | inl z ↦ by z (ltb n (checked_of s).files) refl (is_hybrid (torrent_in s)) refl (ltb i (piece_count (file_size (entries_of_half (torrent_in s)) n) (plen_of (torrent_in s)))) refl
        | inr p ↦ rw (sym (piece_refused s (checked_of s) refl n i (not_zero (checked_of s).keys.number p))) (bad_torrent (checked_of s).keys.number p)
      ]
    where
      by : (checked_of s).keys.number ≡ 0 → (b : Bool) → ltb n (checked_of s).files ≡ b → (h : Bool) → is_hybrid (torrent_in s) ≡ h
          → (p : Bool) → ltb i (piece_count (file_size (entries_of_half (torrent_in s)) n) (plen_of (torrent_in s))) ≡ p → PieceOutcome (v1_piece_of s n i)
      by z true eb true eh true ep = done (v1_piece_of s n i) (unfold v1_piece_of in rw (z, eb, eh, ep) refl)
      by z true eb true eh false ep = let q : v1_piece_of s n i ≡ no_piece rule_broken = unfold v1_piece_of in rw (z, eb, eh, ep) refl in rw q not_there
      by z true eb false eh p ep = let q : v1_piece_of s n i ≡ no_piece rule_broken = unfold v1_piece_of in rw (z, eb, eh) refl in rw q not_there
      by z false eb h eh p ep = let q : v1_piece_of s n i ≡ no_piece no_such_part = unfold v1_piece_of in rw (z, eb) refl in rw q no_file

  pub pieces_outcome : (n : ℕ) → PiecesOutcome (v1_pieces_of s n)
  pieces_outcome n =
      elim (checked_ranged s) [
        | inl z ↦ by z (ltb n (checked_of s).files) refl (is_hybrid (torrent_in s)) refl (eqb (file_size (entries_of_half (torrent_in s)) n) 0) refl
        | inr p ↦ rw (sym (part_refused s (checked_of s) refl n (not_zero (checked_of s).keys.number p))) (bad_torrent (checked_of s).keys.number p)
      ]
    where
      by : (checked_of s).keys.number ≡ 0 → (b : Bool) → ltb n (checked_of s).files ≡ b → (h : Bool) → is_hybrid (torrent_in s) ≡ h
          → (p : Bool) → eqb (file_size (entries_of_half (torrent_in s)) n) 0 ≡ p → PiecesOutcome (v1_pieces_of s n)
      by z true eb true eh true ep = done (v1_pieces_of s n) (unfold v1_pieces_of in rw (z, eb, eh, ep) refl)
      by z true eb true eh false ep = done (v1_pieces_of s n) (unfold v1_pieces_of in rw (z, eb, eh, ep) refl)
      by z true eb false eh p ep = let q : v1_pieces_of s n ≡ no_part rule_broken = unfold v1_pieces_of in rw (z, eb, eh) refl in rw q not_there
      by z false eb h eh p ep = let q : v1_pieces_of s n ≡ no_part no_such_part = unfold v1_pieces_of in rw (z, eb) refl in rw q no_file

  -- ---- kd_torrent_hybrid has the torrent's own number: 19 to 28 or 31, the lowest, or 0

  pub hybrid_number : (hybrid_of s).number ≡ (read_of s).number
  hybrid_number = elim (ℕ_discrete (checked_of s).keys.number 0) [ yes z ↦ by z (is_hybrid (torrent_in s)) refl ∙ sym (read_number_lem s ∙ z) | no g ↦ sym (ap (λ (r : HybridRead). r.number) (hybrid_refused s (checked_of s) refl g)) ∙ sym (read_number_lem s) ]
    where
      by : (checked_of s).keys.number ≡ 0 → (b : Bool) → is_hybrid (torrent_in s) ≡ b → (hybrid_of s).number ≡ 0
      by z true e = unfold hybrid_of in rw (z, e) refl
      by z false e = unfold hybrid_of in rw (z, e) refl

  pub hybrid_exactly : (n : ℕ) → ((hybrid_of s).number ≡ n) ↔ Says s n
  hybrid_exactly n = let w = read_exactly s n in (λ e. w.0 (sym hybrid_number ∙ e), λ x. hybrid_number ∙ w.1 x)

  -- ---- the others: the torrent's own number first, then their tests

  -- only a torrent that gets 0 gets one of these
  own_number : (k : ℕ) → (OfTorrent k → ⊥) → (m : ℕ) → (((checked_of s).keys.number ≡ 0 → ⊥) → (checked_of s).keys.number ≡ m) → m ≡ k → (checked_of s).keys.number ≡ 0
  own_number k g m r e = elim (checked_ranged s) [ inl z ↦ z | inr p ↦ absurd (g (rw (r (not_zero (checked_of s).keys.number p) ∙ e) at p)) ]

  files_same : (checked_of s).keys.number ≡ 0 → (read_of s).files ≡ (checked_of s).files
  unfolding read_of
  files_same z = rw z refl

  -- whether it is hybrid, as it is answered
  hybrid_says : (checked_of s).keys.number ≡ 0 → (is_hybrid (torrent_in s) ≡ true) ↔ ((hybrid_of s).hybrid ≡ 1)
  hybrid_says z = (λ e. given e, λ q. by (is_hybrid (torrent_in s)) refl q)
    where
      given : is_hybrid (torrent_in s) ≡ true → (hybrid_of s).hybrid ≡ 1
      given e = unfold hybrid_of in rw (z, e) refl

      not_given : is_hybrid (torrent_in s) ≡ false → (hybrid_of s).hybrid ≡ 0
      not_given e = unfold hybrid_of in rw (z, e) refl

      by : (b : Bool) → is_hybrid (torrent_in s) ≡ b → (hybrid_of s).hybrid ≡ 1 → b ≡ true
      by true e q = refl
      by false e q = let w = not_given e in let x : ⊥ = omega arith in absurd x

  module _ (n : ℕ) where
    abbrev file_test : Bool
    file_test = ltb n (checked_of s).files

    abbrev hybrid_test : Bool
    hybrid_test = is_hybrid (torrent_in s)

    file_says : (checked_of s).keys.number ≡ 0 → (file_test ≡ true) ↔ (n < (read_of s).files)
    file_says z = (λ e. rw (files_same z) (ltb-true n (checked_of s).files e), λ h. lt-ltb n (checked_of s).files (rw (files_same z) at h))

    no_file_says : (checked_of s).keys.number ≡ 0 → (file_test ≡ false) ↔ ((read_of s).files ≤ n)
    no_file_says z = (λ e. rw (files_same z) (ltb-false n (checked_of s).files e), λ h. le-ltb n (checked_of s).files (rw (files_same z) at h))

    -- ---- kd_torrent_v1_pieces

    abbrev part_chain : Chain
    part_chain = test file_test no_such_part (test hybrid_test rule_broken (last 0))

    part_tests : (checked_of s).keys.number ≡ 0 → (v1_pieces_of s n).number ≡ decided part_chain
    part_tests z = by file_test refl hybrid_test refl (eqb (file_size (entries_of_half (torrent_in s)) n) 0) refl
      where
        by : (b : Bool) → file_test ≡ b → (h : Bool) → hybrid_test ≡ h → (p : Bool) → eqb (file_size (entries_of_half (torrent_in s)) n) 0 ≡ p → (v1_pieces_of s n).number ≡ cond b (cond h 0 rule_broken) no_such_part
        by true eb true eh true ep = unfold v1_pieces_of in rw (z, eb, eh, ep) refl
        by true eb true eh false ep = unfold v1_pieces_of in rw (z, eb, eh, ep) refl
        by true eb false eh p ep = unfold v1_pieces_of in rw (z, eb, eh) refl
        by false eb h eh p ep = unfold v1_pieces_of in rw (z, eb) refl

    part_own : (g : (checked_of s).keys.number ≡ 0 → ⊥) → (checked_of s).keys.number ≡ (v1_pieces_of s n).number
    part_own g = ap (λ (r : V1Part). r.number) (part_refused s (checked_of s) refl n g)

    -- no file of that number; after all of 19 to 28 and 31
    pub pieces_29 : ((v1_pieces_of s n).number ≡ no_such_part) ↔ (((read_of s).number ≡ 0) × ((read_of s).files ≤ n))
    pieces_29 = (
      λ e. let z = own_number no_such_part (λ p. (of_torrent no_such_part p).1 refl) (v1_pieces_of s n).number part_own e in
          (read_number_lem s ∙ z, (no_file_says z).0 ((exactly_of part_chain no_such_part (part_tests z) refl).0 e)),
      λ p. let z = sym (read_number_lem s) ∙ p.0 in (exactly_of part_chain no_such_part (part_tests z) refl).1 ((no_file_says z).1 p.1),
    )

    -- the torrent is no hybrid; after 29
    pub pieces_3 : ((v1_pieces_of s n).number ≡ rule_broken) ↔ (((read_of s).number ≡ 0) × (n < (read_of s).files) × ((hybrid_of s).hybrid ≡ 1 → ⊥))
    pieces_3 = (
      λ e. let z = own_number rule_broken (λ p. low rule_broken p (omega arith)) (v1_pieces_of s n).number part_own e in
          let w = (exactly_of part_chain rule_broken (part_tests z) refl).0 e in
          (read_number_lem s ∙ z, (file_says z).0 w.0, (says_not (hybrid_says z)).0 w.1),
      λ p. let z = sym (read_number_lem s) ∙ p.0 in (exactly_of part_chain rule_broken (part_tests z) refl).1 ((file_says z).1 p.1, (says_not (hybrid_says z)).1 p.2),
    )

    -- and the part is given for every file of a hybrid
    pub pieces_0 : ((v1_pieces_of s n).number ≡ 0) ↔ (((read_of s).number ≡ 0) × (n < (read_of s).files) × ((hybrid_of s).hybrid ≡ 1))
    pieces_0 = (
      λ e. let z = own_number 0 (λ p. not_zero 0 p refl) (v1_pieces_of s n).number part_own e in
          let w = (exactly_of part_chain 0 (part_tests z) refl).0 e in
          (read_number_lem s ∙ z, (file_says z).0 w.0, (hybrid_says z).0 w.1.0),
      λ p. let z = sym (read_number_lem s) ∙ p.0 in (exactly_of part_chain 0 (part_tests z) refl).1 ((file_says z).1 p.1, ((hybrid_says z).1 p.2, refl)),
    )

    -- every other number is that of kd_torrent_read
    pub pieces_number : ((v1_pieces_of s n).number ≡ no_such_part → ⊥) → ((v1_pieces_of s n).number ≡ rule_broken → ⊥) → (v1_pieces_of s n).number ≡ (read_of s).number
    pieces_number f g = elim (ℕ_discrete (checked_of s).keys.number 0) [ yes z ↦ by z file_test refl hybrid_test refl ∙ sym (read_number_lem s ∙ z) | no k ↦ sym (part_own k) ∙ sym (read_number_lem s) ]
      where
        by : (checked_of s).keys.number ≡ 0 → (b : Bool) → file_test ≡ b → (h : Bool) → hybrid_test ≡ h → (v1_pieces_of s n).number ≡ 0
        by z true eb true eh = part_tests z ∙ rw (eb, eh) refl
        by z true eb false eh = absurd (g (part_tests z ∙ rw (eb, eh) refl))
        by z false eb h eh = absurd (f (part_tests z ∙ rw eb refl))

    -- ---- kd_torrent_v1_piece

    module _ (i : ℕ) where
      abbrev piece_test : Bool
      piece_test = ltb i (piece_count (file_size (entries_of_half (torrent_in s)) n) (plen_of (torrent_in s)))

      abbrev piece_chain : Chain
      piece_chain = test file_test no_such_part (test (hybrid_test && piece_test) rule_broken (last 0))

      piece_tests : (checked_of s).keys.number ≡ 0 → (v1_piece_of s n i).number ≡ decided piece_chain
      piece_tests z = by file_test refl hybrid_test refl piece_test refl
        where
          by : (b : Bool) → file_test ≡ b → (h : Bool) → hybrid_test ≡ h → (p : Bool) → piece_test ≡ p → (v1_piece_of s n i).number ≡ cond b (cond (h && p) 0 rule_broken) no_such_part
          by true eb true eh true ep = unfold v1_piece_of in rw (z, eb, eh, ep) refl
          by true eb true eh false ep = unfold v1_piece_of in rw (z, eb, eh, ep) refl
          by true eb false eh p ep = unfold v1_piece_of in rw (z, eb, eh) refl
          by false eb h eh p ep = unfold v1_piece_of in rw (z, eb) refl

      piece_own : (g : (checked_of s).keys.number ≡ 0 → ⊥) → (checked_of s).keys.number ≡ (v1_piece_of s n i).number
      piece_own g = ap (λ (r : V1Piece). r.number) (piece_refused s (checked_of s) refl n i g)

      -- the torrent is hybrid, and its file n has a piece i
      abbrev pub PieceThere : Type 0
      PieceThere = ((hybrid_of s).hybrid ≡ 1) × (i < piece_count (file_read s n).length (read_of s).plen)

      -- the file's pieces, as its length is answered
      count_same : (checked_of s).keys.number ≡ 0 → n < (read_of s).files → hybrid_test ≡ true
          → piece_count (file_size (entries_of_half (torrent_in s)) n) (plen_of (torrent_in s)) ≡ piece_count (file_read s n).length (read_of s).plen
      count_same z h e =
          let d = encodes_value s z in
          let r = read_number_lem s ∙ z in
          let t = torrent_is s (torrent_in s) d.1 d.0 r in
          let v = nth_some (files_of (torrent_in s)) n (omega (arith, t.file_count)) in
          let f = file_is s (torrent_in s) d.1 d.0 r n v.0 v.1 in
          let q = same_size (entries_of_half (torrent_in s)) (files_of (torrent_in s)) ((known s z).halves e).same n v.0 v.1 in
          rw (q ∙ sym f.size, sym t.piece_length_lem) refl

      there_says : (checked_of s).keys.number ≡ 0 → n < (read_of s).files → (hybrid_test && piece_test ≡ true) ↔ PieceThere
      there_says z h = (
        λ e. let p = (and-eq-true_iff hybrid_test piece_test).0 e in
            ((hybrid_says z).0 p.0, rw (count_same z h p.0) at (ltb-true i (piece_count (file_size (entries_of_half (torrent_in s)) n) (plen_of (torrent_in s))) p.1)),
        λ p. let e = (hybrid_says z).1 p.0 in
            (and-eq-true_iff hybrid_test piece_test).1 (e, lt-ltb i (piece_count (file_size (entries_of_half (torrent_in s)) n) (plen_of (torrent_in s))) (rw (count_same z h e) p.1)),
      )

      -- no file of that number; after all of 19 to 28 and 31
      pub piece_29 : ((v1_piece_of s n i).number ≡ no_such_part) ↔ (((read_of s).number ≡ 0) × ((read_of s).files ≤ n))
      piece_29 = (
        λ e. let z = own_number no_such_part (λ p. (of_torrent no_such_part p).1 refl) (v1_piece_of s n i).number piece_own e in
            (read_number_lem s ∙ z, (no_file_says z).0 ((exactly_of piece_chain no_such_part (piece_tests z) refl).0 e)),
        λ p. let z = sym (read_number_lem s) ∙ p.0 in (exactly_of piece_chain no_such_part (piece_tests z) refl).1 ((no_file_says z).1 p.1),
      )

      -- the torrent is no hybrid, or the file has no piece i; after 29
      pub piece_3 : ((v1_piece_of s n i).number ≡ rule_broken) ↔ (((read_of s).number ≡ 0) × (n < (read_of s).files) × (PieceThere → ⊥))
      piece_3 = (
        λ e. let z = own_number rule_broken (λ p. low rule_broken p (omega arith)) (v1_piece_of s n i).number piece_own e in
            let w = (exactly_of piece_chain rule_broken (piece_tests z) refl).0 e in
            let h = (file_says z).0 w.0 in
            (read_number_lem s ∙ z, h, (says_not (there_says z h)).0 w.1),
        λ p. let z = sym (read_number_lem s) ∙ p.0 in (exactly_of piece_chain rule_broken (piece_tests z) refl).1 ((file_says z).1 p.1, (says_not (there_says z p.1)).1 p.2),
      )

      pub piece_0 : ((v1_piece_of s n i).number ≡ 0) ↔ (((read_of s).number ≡ 0) × (n < (read_of s).files) × PieceThere)
      piece_0 = (
        λ e. let z = own_number 0 (λ p. not_zero 0 p refl) (v1_piece_of s n i).number piece_own e in
            let w = (exactly_of piece_chain 0 (piece_tests z) refl).0 e in
            let h = (file_says z).0 w.0 in
            (read_number_lem s ∙ z, h, (there_says z h).0 w.1.0),
        λ p. let z = sym (read_number_lem s) ∙ p.0 in (exactly_of piece_chain 0 (piece_tests z) refl).1 ((file_says z).1 p.1, ((there_says z p.1).1 p.2, refl)),
      )

      -- every other number is that of kd_torrent_read
      pub piece_number : ((v1_piece_of s n i).number ≡ no_such_part → ⊥) → ((v1_piece_of s n i).number ≡ rule_broken → ⊥) → (v1_piece_of s n i).number ≡ (read_of s).number
      piece_number f g = elim (ℕ_discrete (checked_of s).keys.number 0) [ yes z ↦ by z file_test refl (hybrid_test && piece_test) refl ∙ sym (read_number_lem s ∙ z) | no k ↦ sym (piece_own k) ∙ sym (read_number_lem s) ]
        where
          by : (checked_of s).keys.number ≡ 0 → (b : Bool) → file_test ≡ b → (h : Bool) → hybrid_test && piece_test ≡ h → (v1_piece_of s n i).number ≡ 0
          by z true eb true eh = piece_tests z ∙ rw (eb, eh) refl
          by z true eb false eh = absurd (g (piece_tests z ∙ rw (eb, eh) refl))
          by z false eb h eh = absurd (f (piece_tests z ∙ rw eb refl))

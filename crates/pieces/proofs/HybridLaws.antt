-- A piece judged by both halves: each number exactly when, by what the v2 half gives and what is true of the v1 half, and what it leaves.
-- Assumes nothing.
use Rattle.std.specs.Prelude.{◌≡◌, Bool, cond, List, ◌++◌, ◌↔◌, ◌⊎◌, ℕ, ◌+◌, ◌≤◌, ◌<◌, length, replicate, eqb, leb}
use Rattle.std.proofs.Math.Path.{refl}
use Rattle.std.proofs.Common.{sym, ◌∙◌, subst, arith, eqb-true, ne_eqb, le-leb, leb-true, leb-false}
use Rattle.std.proofs.Math.Bool.{true, false}
use Rattle.std.proofs.Math.Logic.{inl, inr}
use Rattle.std.proofs.Math.Decide.{ℕ_discrete}
use Rattle.std.proofs.lemmas.Bool.{eqb-false, lt-leb}
use Rattle.octets.specs.Octets.{same}
use Rattle.octets.specs.OctetsLaws.{same_true, same_false, same_eq, same_ne}
use Rattle.numbers.specs.Numbers.{wrong_size, differs, InTable}
use Rattle.numbers.specs.Chain.{Chain, last, test, decided, exactly_of, in_table_of, never, never_given}
use Rattle.sha_1.specs.Sha1.{sha1}
use Rattle.tree.proofs.GeometryLaws.{piece_size_most}
use Rattle.store.specs.Store.{file_length, piece_length}
use Rattle.pieces.specs.Pieces.{piece_number, piece_after}
use Rattle.pieces.proofs.PiecesLaws.{piece_right}
use Rattle.pieces.specs.Hybrid.{V1Agrees, v1_number, hybrid_number, hybrid_after}

-- ---- one number behind another's 0

module _ (n m : ℕ) where
  both_0 : (cond (eqb n 0) m n ≡ 0) ↔ ((n ≡ 0) × (m ≡ 0))
  both_0 = (by (eqb n 0) refl, λ p. rw p.0 p.1)
    where
      by : (b : Bool) → eqb n 0 ≡ b → cond b m n ≡ 0 → (n ≡ 0) × (m ≡ 0)
      by true q e = (eqb-true n 0 q, e)
      by false q e = absurd (eqb-false n 0 q e)

  one_of_two : (k : ℕ) → (k ≡ 0 → ⊥) → (cond (eqb n 0) m n ≡ k) ↔ ((n ≡ k) ⊎ ((n ≡ 0) × (m ≡ k)))
  one_of_two k z = (by (eqb n 0) refl, from)
    where
      by : (b : Bool) → eqb n 0 ≡ b → cond b m n ≡ k → (n ≡ k) ⊎ ((n ≡ 0) × (m ≡ k))
      by true q e = inr (eqb-true n 0 q, e)
      by false q e = inl e

      from : (n ≡ k) ⊎ ((n ≡ 0) × (m ≡ k)) → cond (eqb n 0) m n ≡ k
      from (inl e) = rw (ne_eqb n 0 (λ w. z (sym e ∙ w))) e
      from (inr p) = rw p.0 p.1

-- ---- the v1 half

module _ (s piece v1 : List ℕ) (zeros : ℕ) where
  abbrev v1_chain : Chain
  v1_chain = test (leb (length piece + zeros) (piece_length s)) wrong_size (test (same (sha1 (piece ++ replicate zeros 0)) v1) differs (last 0))

  v1_tests : v1_number s piece v1 zeros ≡ decided v1_chain
  unfolding v1_number
  v1_tests = refl

  v1_0 : (v1_number s piece v1 zeros ≡ 0) ↔ V1Agrees s piece v1 zeros
  v1_0 =
      let c = exactly_of v1_chain 0 v1_tests refl in (
        λ e.
            let t = c.0 e in
            record { room = leb-true (length piece + zeros) (piece_length s) t.0; hash = same_true (sha1 (piece ++ replicate zeros 0)) v1 t.1.0 },
        λ w. c.1 (le-leb (length piece + zeros) (piece_length s) w.room, (same_eq (sha1 (piece ++ replicate zeros 0)) v1 w.hash, refl)),
      )

  v1_4 : (v1_number s piece v1 zeros ≡ wrong_size) ↔ (piece_length s < length piece + zeros)
  v1_4 =
      let c = exactly_of v1_chain wrong_size v1_tests refl in
      (λ e. leb-false (length piece + zeros) (piece_length s) (c.0 e), λ l. c.1 (lt-leb (length piece + zeros) (piece_length s) l))

  v1_7 : (v1_number s piece v1 zeros ≡ differs) ↔ ((length piece + zeros ≤ piece_length s) × (sha1 (piece ++ replicate zeros 0) ≡ v1 → ⊥))
  v1_7 =
      let c = exactly_of v1_chain differs v1_tests refl in (
        λ e. (let t = c.0 e in (leb-true (length piece + zeros) (piece_length s) t.0, same_false (sha1 (piece ++ replicate zeros 0)) v1 t.1)),
        λ t. c.1 (le-leb (length piece + zeros) (piece_length s) t.0, same_ne (sha1 (piece ++ replicate zeros 0)) v1 t.1),
      )

  v1_never : (k : ℕ) → never k v1_chain ≡ true → v1_number s piece v1 zeros ≡ k → ⊥
  v1_never k p e = never_given v1_chain k p (sym v1_tests ∙ e)

  -- it is the same in every store with this piece length
  pub v1_same : (t : List ℕ) → piece_length t ≡ piece_length s → v1_number t piece v1 zeros ≡ v1_number s piece v1 zeros
  unfolding v1_number
  v1_same t e = rw e

-- a piece that the v2 half gives 0 is at most the piece length
pub piece_short : (s : List ℕ) (i : ℕ) (piece : List ℕ) → piece_number s i piece ≡ 0 → length piece ≤ piece_length s
piece_short s i piece z = omega (arith, (piece_right s i piece z).size, piece_size_most (file_length s) (piece_length s) i)

-- ---- both halves

module _ (s : List ℕ) (i : ℕ) (piece v1 : List ℕ) (zeros : ℕ) where
  -- RIGHT ONLY IF BOTH HASHES AGREE: 0 exactly where the v2 half gives 0 and the v1 half agrees
  pub hybrid_0 : (hybrid_number s i piece v1 zeros ≡ 0) ↔ ((piece_number s i piece ≡ 0) × V1Agrees s piece v1 zeros)
  unfolding hybrid_number
  hybrid_0 =
      let c = both_0 (piece_number s i piece) (v1_number s piece v1 zeros) in
      let v = v1_0 s piece v1 zeros in
      (λ e. (let p = c.0 e in (p.0, v.0 p.1)), λ p. c.1 (p.0, v.1 p.1))

  -- a refusal of the v2 half is the answer
  pub hybrid_first : (piece_number s i piece ≡ 0 → ⊥) → hybrid_number s i piece v1 zeros ≡ piece_number s i piece
  unfolding hybrid_number
  hybrid_first ne = rw (ne_eqb (piece_number s i piece) 0 ne)

  -- 4 and 7 are the v2 half's, or after its 0 the v1 half's
  pub hybrid_4 : (hybrid_number s i piece v1 zeros ≡ wrong_size) ↔ ((piece_number s i piece ≡ wrong_size) ⊎ ((piece_number s i piece ≡ 0) × (piece_length s < length piece + zeros)))
  unfolding hybrid_number
  hybrid_4 =
      let c = one_of_two (piece_number s i piece) (v1_number s piece v1 zeros) wrong_size (λ z. omega arith) in
      let v = v1_4 s piece v1 zeros in (
        λ e. elim (c.0 e) [ inl x ↦ inl x | inr p ↦ inr (p.0, v.0 p.1) ],
        λ w. c.1 (elim w [ inl x ↦ inl x | inr p ↦ inr (p.0, v.1 p.1) ]),
      )

  pub hybrid_7 : (hybrid_number s i piece v1 zeros ≡ differs)
      ↔ ((piece_number s i piece ≡ differs) ⊎ ((piece_number s i piece ≡ 0) × ((length piece + zeros ≤ piece_length s) × (sha1 (piece ++ replicate zeros 0) ≡ v1 → ⊥))))
  unfolding hybrid_number
  hybrid_7 =
      let c = one_of_two (piece_number s i piece) (v1_number s piece v1 zeros) differs (λ z. omega arith) in
      let v = v1_7 s piece v1 zeros in (
        λ e. elim (c.0 e) [ inl x ↦ inl x | inr p ↦ inr (p.0, v.0 p.1) ],
        λ w. c.1 (elim w [ inl x ↦ inl x | inr p ↦ inr (p.0, v.1 p.1) ]),
      )

  -- every other number is the v2 half's
  pub hybrid_v2 : (k : ℕ) → never k (v1_chain s piece v1 zeros) ≡ true → (k ≡ 0 → ⊥) → (hybrid_number s i piece v1 zeros ≡ k) ↔ (piece_number s i piece ≡ k)
  unfolding hybrid_number
  hybrid_v2 k p z =
      let c = one_of_two (piece_number s i piece) (v1_number s piece v1 zeros) k z in
      (λ e. elim (c.0 e) [ inl x ↦ x | inr w ↦ absurd (v1_never s piece v1 zeros k p w.1) ], λ e. c.1 (inl e))

  pub hybrid_in_table : InTable (piece_number s i piece) → InTable (hybrid_number s i piece v1 zeros)
  unfolding hybrid_number
  hybrid_in_table = by (eqb (piece_number s i piece) 0)
    where
      by : (b : Bool) → InTable (piece_number s i piece) → InTable (cond b (v1_number s piece v1 zeros) (piece_number s i piece))
      by true t = in_table_of (v1_chain s piece v1 zeros) (v1_tests s piece v1 zeros) refl
      by false t = t

  -- ---- what it leaves

  -- on 0 what the v2 half alone leaves,
  pub hybrid_marks : hybrid_number s i piece v1 zeros ≡ 0 → hybrid_after s i piece v1 zeros ≡ piece_after s i piece
  unfolding hybrid_after piece_after
  hybrid_marks z = rw (z, (hybrid_0.0 z).0)

  -- on every other number every byte
  pub hybrid_stays : (hybrid_number s i piece v1 zeros ≡ 0 → ⊥) → hybrid_after s i piece v1 zeros ≡ s
  unfolding hybrid_after
  hybrid_stays ne = rw (ne_eqb (hybrid_number s i piece v1 zeros) 0 ne)

  -- so what holds of the store and of what the v2 half alone leaves holds of what is left
  pub hybrid_leaves : (P : List ℕ → Type 0) → P s → P (piece_after s i piece) → P (hybrid_after s i piece v1 zeros)
  hybrid_leaves P same right =
      elim (ℕ_discrete (hybrid_number s i piece v1 zeros) 0) [ yes z ↦ subst P (sym (hybrid_marks z)) right | no ne ↦ subst P (sym (hybrid_stays ne)) same ]

-- kd_piece_hashes: each number exactly when, in the order of kd_judge_piece and then 11; what a refusal leaves; and that neither marks nor bytes
-- behind the store decide anything of it.
-- Assumes nothing.
use Rattle.std.specs.Prelude.{◌≡◌, refl, List, ◌↔◌, ℕ, ◌≤◌, ◌<◌, length}
use Rattle.std.proofs.Common.{ap, sym, ◌∙◌, arith}
use Rattle.std.proofs.Math.Decide.{ℕ_discrete, dec_le}
use Rattle.numbers.specs.Numbers.{no_room, table, InTable}
use Rattle.numbers.specs.Chain.{never_given, in_table_of, listed_in}
use Rattle.numbers.specs.declared.Answer.{Answer}
use Rattle.store.specs.Store.{Facts}
use Rattle.pieces.specs.Pieces.{piece_number}
use Rattle.leaves.specs.Leaves.{leaf_message, leaves_told, leaves_answer, leaves_after}
use Rattle.leaves.specs.LeavesLaws.{leaves_refused, leaves_short, leaves_done}
use Rattle.knowledge.specs.Alike.{Alike}
use Rattle.knowledge.specs.Beyond.{same_node, piece_beyond}
use Rattle.knowledge.specs.NumberChains.{piece_chain, piece_tests}

num : {a b : Answer} → a ≡ b → a.number ≡ b.number
num e = ap (λ (a : Answer). a.number) e

module _ (s : List ℕ) (i : ℕ) (piece out : List ℕ) where
  -- ANY OTHER NUMBER than 0 and 11 is the piece's own
  pub leaves_on : (k : ℕ) → (k ≡ 0 → ⊥) → (k ≡ no_room → ⊥) → ((leaves_answer s i piece out).number ≡ k) ↔ (piece_number s i piece ≡ k)
  leaves_on k a b =
      elim (ℕ_discrete (piece_number s i piece) 0) [
        | no ne ↦ (let e = num (leaves_refused s i piece out ne).0 in (λ x. sym e ∙ x, λ x. e ∙ x))
        | yes z ↦
            elim (dec_le (length (leaves_told s i piece)) (length out)) [
              | yes l ↦ (λ x. absurd (a (sym x ∙ num (leaves_done s i piece out z l).0)), λ x. absurd (a (sym x ∙ z)))
              | no l ↦ (λ x. absurd (b (sym x ∙ num (leaves_short s i piece out z (omega arith)).0)), λ x. absurd (a (sym x ∙ z)))
            ]
      ]

  -- 11 EXACTLY WHEN the piece is right and the output is shorter than the message
  pub leaves_11 : ((leaves_answer s i piece out).number ≡ no_room) ↔ ((piece_number s i piece ≡ 0) × (length out < length (leaves_told s i piece)))
  leaves_11 = (
    λ x.
        elim (ℕ_discrete (piece_number s i piece) 0) [
          | no ne ↦ absurd (never_given (piece_chain s i piece) no_room refl (sym (piece_tests s i piece) ∙ sym (num (leaves_refused s i piece out ne).0) ∙ x))
          | yes z ↦
              elim (dec_le (length (leaves_told s i piece)) (length out)) [
                | yes l ↦ (let w : ⊥ = omega (arith, sym x ∙ num (leaves_done s i piece out z l).0) in absurd w)
                | no l ↦ (z, omega arith)
              ]
        ],
    λ t. num (leaves_short s i piece out t.0 t.1).0,
  )

  -- 0 EXACTLY WHEN the piece is right and the message has room
  pub leaves_0 : ((leaves_answer s i piece out).number ≡ 0) ↔ ((piece_number s i piece ≡ 0) × (length (leaves_told s i piece) ≤ length out))
  leaves_0 = (
    λ x.
        elim (ℕ_discrete (piece_number s i piece) 0) [
          | no ne ↦ absurd (ne (sym (num (leaves_refused s i piece out ne).0) ∙ x))
          | yes z ↦
              elim (dec_le (length (leaves_told s i piece)) (length out)) [
                | yes l ↦ (z, l)
                | no l ↦ (let w : ⊥ = omega (arith, sym x ∙ num (leaves_short s i piece out z (omega arith)).0) in absurd w)
              ]
        ],
    λ t. num (leaves_done s i piece out t.0 t.1).0,
  )

  pub leaves_in_table : InTable (leaves_answer s i piece out).number
  leaves_in_table =
      elim (ℕ_discrete (leaves_answer s i piece out).number 0) [
        | yes z ↦ rw z (listed_in 0 table refl)
        | no a ↦
            elim (ℕ_discrete (leaves_answer s i piece out).number no_room) [
              | yes z ↦ rw z (listed_in 11 table refl)
              | no b ↦ in_table_of (piece_chain s i piece) (sym ((leaves_on (leaves_answer s i piece out).number a b).0 refl) ∙ piece_tests s i piece) refl
            ]
      ]

  -- A REFUSAL leaves every byte of the output, and the size is 0
  pub leaves_leave : ((leaves_answer s i piece out).number ≡ 0 → ⊥) → (leaves_after s i piece out ≡ out) × ((leaves_answer s i piece out).count ≡ 0)
  leaves_leave ne =
      elim (ℕ_discrete (piece_number s i piece) 0) [
        | no n ↦ (let w = leaves_refused s i piece out n in (w.1, ap (λ (a : Answer). a.count) w.0))
        | yes z ↦
            elim (dec_le (length (leaves_told s i piece)) (length out)) [
              | yes l ↦ absurd (ne (leaves_0.1 (z, l)))
              | no l ↦ (let w = leaves_short s i piece out z (omega arith) in (w.1, ap (λ (a : Answer). a.count) w.0))
            ]
      ]

-- IN TWO MEMORIES with the same facts and cells it answers the same and writes the same
pub leaves_beyond : (s t : List ℕ) → Facts s → Alike s t → (i : ℕ) (piece out : List ℕ)
    → (leaves_answer t i piece out ≡ leaves_answer s i piece out) × (leaves_after t i piece out ≡ leaves_after s i piece out)
unfolding leaves_answer leaves_after leaves_told leaf_message
leaves_beyond s t f e i piece out = rw (piece_beyond s t f e i piece, same_node e.same, e.same.root) (refl, refl)

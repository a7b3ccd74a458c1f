-- How long the message is, what a receiver reads in it, and what is answered.
-- Assumes nothing.
use Rattle.std.specs.Prelude.{◌≡◌, length, List, [], ◌∷◌, ◌++◌, ℕ, zero, suc, ◌+◌, ◌-◌, ◌*◌, ◌^◌, ◌≤◌, ◌<◌}
use Rattle.std.proofs.Math.Path.{refl, ap}
use Rattle.std.proofs.Common.{sym, ◌∙◌, add-mul, one-mul, mul-le-mul_right, add-one, arith, length-append, pow-add, append_assoc, ne_eqb, le-leb}
use Rattle.std.proofs.Math.Decide.{ℕ_discrete}
use Rattle.std.proofs.lemmas.Bool.{lt-leb}
use Rattle.octets.specs.Octets.{cut, be, pasted, number_at}
use Rattle.octets.specs.OctetsLaws.{cut_length, cut_append_left, cut_append_right, number_cut, number_of_be, pasted_none}
use Rattle.numbers.specs.Numbers.{refused, done, no_room}
use Rattle.tree.specs.Values.{leaf_of}
use Rattle.store.specs.Store.{facts_root, Facts}
use Rattle.header.specs.declared.Header.{Header}
use Rattle.header.specs.Header.{hashes_id, header_size, header_of, message_root, Small}
use Rattle.pieces.specs.Pieces.{piece_height, piece_number}
use Rattle.leaves.specs.Leaves.{leaf_run, head_of, run_over, leaf_message, leaves_told, leaves_answer, leaves_after}

-- ---- leaves in a row

pub run_more : (leaf : ℕ → List ℕ) (i : ℕ) → leaf_run leaf (i + 1) ≡ leaf_run leaf i ++ leaf i
unfolding leaf_run
run_more leaf i = rw (add-one i)

pub run_length : (leaf : ℕ → List ℕ) → ((i : ℕ) → length (leaf i) ≡ 32) → (c : ℕ) → length (leaf_run leaf c) ≡ 32 * c
unfolding leaf_run
run_length leaf h zero = refl
run_length leaf h (suc c) = simp length-append (omega (arith, run_length leaf h c, h c))

pub run_at : (leaf : ℕ → List ℕ) → ((i : ℕ) → length (leaf i) ≡ 32) → (c j : ℕ) → j < c → cut (leaf_run leaf c) (32 * j) 32 ≡ leaf j
unfolding leaf_run
run_at leaf h zero j l = absurd (omega arith)
run_at leaf h (suc c) j l =
    let rl = run_length leaf h c in
    elim (ℕ_discrete j c) [
      | yes q ↦ rw q (cut_append_right (leaf_run leaf c) (leaf c) (32 * c) 32 rl (h c))
      | no g ↦ cut_append_left (leaf_run leaf c) (leaf c) (32 * j) 32 (omega arith) ∙ run_at leaf h c j (omega arith)
    ]

-- ---- the head, read back

pub field : (pre f rest : List ℕ) (at n : ℕ) → length pre ≡ at → length f ≡ n → cut (pre ++ (f ++ rest)) at n ≡ f
field pre f rest at n a b =
    let q : pre ++ (f ++ rest) ≡ pre ++ f ++ rest = sym (append_assoc pre f rest) in
    ap (λ (y : List ℕ). cut y at n) q
    ∙ cut_append_left (pre ++ f) rest at n (omega (arith, length-append pre f))
    ∙ cut_append_right pre f at n a b

pub number_field : (m : List ℕ) (at x : ℕ) → x < 2 ^ 32 → cut m at 4 ≡ be 4 x → number_at m at 4 ≡ x
number_field m at x small e =
    let z : at + 0 ≡ at = omega arith in
    ap (λ (y : ℕ). number_at m y 4) (sym z) ∙ sym (number_cut m at 4 0 4 (omega arith)) ∙ ap (λ (y : List ℕ). number_at y 0 4) e ∙ number_of_be 4 x small

module _ (root : List ℕ) (x : Header) (size : length root ≡ 32) where
  abbrev b1 : List ℕ
  b1 = be 4 x.base

  abbrev b2 : List ℕ
  b2 = be 4 x.index

  abbrev b3 : List ℕ
  b3 = be 4 x.len

  abbrev b4 : List ℕ
  b4 = be 4 x.proof

  abbrev first : List ℕ
  first = hashes_id ∷ root

  l1 : length (first ++ b1) ≡ 37
  l1 = length-append first b1 ∙ omega arith

  l2 : length (first ++ b1 ++ b2) ≡ 41
  l2 = length-append (first ++ b1) b2 ∙ omega (arith, l1)

  l3 : length (first ++ b1 ++ b2 ++ b3) ≡ 45
  l3 = length-append (first ++ b1 ++ b2) b3 ∙ omega (arith, l2)

  pub head_length : length (head_of root x) ≡ header_size
  unfolding head_of
  head_length = ap suc (length-append root (b1 ++ (b2 ++ (b3 ++ b4))) ∙ omega arith)

  head_root : cut (head_of root x) 1 32 ≡ root
  unfolding head_of
  head_root = field (hashes_id ∷ []) root (b1 ++ (b2 ++ (b3 ++ b4))) 1 32 refl size

  head_base : cut (head_of root x) 33 4 ≡ b1
  unfolding head_of
  head_base = field first b1 (b2 ++ (b3 ++ b4)) 33 4 (ap suc size) refl

  head_index : cut (head_of root x) 37 4 ≡ b2
  unfolding head_of
  head_index = ap (λ (y : List ℕ). cut y 37 4) (sym (append_assoc first b1 (b2 ++ (b3 ++ b4)))) ∙ field (first ++ b1) b2 (b3 ++ b4) 37 4 l1 refl

  head_len : cut (head_of root x) 41 4 ≡ b3
  unfolding head_of
  head_len =
      ap (λ (y : List ℕ). cut y 41 4) (sym (append_assoc first b1 (b2 ++ (b3 ++ b4))))
      ∙ ap (λ (y : List ℕ). cut y 41 4) (sym (append_assoc (first ++ b1) b2 (b3 ++ b4)))
      ∙ field (first ++ b1 ++ b2) b3 b4 41 4 l2 refl

  head_proof : cut (head_of root x) 45 4 ≡ b4
  unfolding head_of
  head_proof =
      ap (λ (y : List ℕ). cut y 45 4) (sym (append_assoc first b1 (b2 ++ (b3 ++ b4))))
      ∙ ap (λ (y : List ℕ). cut y 45 4) (sym (append_assoc (first ++ b1) b2 (b3 ++ b4)))
      ∙ ap (λ (y : List ℕ). cut y 45 4) (sym (append_assoc (first ++ b1 ++ b2) b3 b4))
      ∙ cut_append_right (first ++ b1 ++ b2 ++ b3) b4 45 4 l3 refl

  module _ (S : Small x) (rest : List ℕ) where
    front : (at n : ℕ) → at + n ≤ header_size → cut (head_of root x ++ rest) at n ≡ cut (head_of root x) at n
    front at n l = cut_append_left (head_of root x) rest at n (omega (arith, head_length))

    -- a message with this head has this root
    pub message_root_lem : message_root (head_of root x ++ rest) ≡ root
    unfolding message_root
    message_root_lem = front 1 32 (omega arith) ∙ head_root

    -- and this header
    pub message_header : header_of (head_of root x ++ rest) ≡ x
    unfolding header_of
    message_header =
        rw (
          number_field (head_of root x ++ rest) 33 x.base S.base (front 33 4 (omega arith) ∙ head_base),
          number_field (head_of root x ++ rest) 37 x.index S.index (front 37 4 (omega arith) ∙ head_index),
          number_field (head_of root x ++ rest) 41 x.len S.len (front 41 4 (omega arith) ∙ head_len),
          number_field (head_of root x ++ rest) 45 x.proof S.proof (front 45 4 (omega arith) ∙ head_proof),
        )
        refl

-- ---- what is answered

module _ (s : List ℕ) (i : ℕ) (piece out : List ℕ) where
  pub leaves_refused : (piece_number s i piece ≡ 0 → ⊥)
      → (leaves_answer s i piece out ≡ refused (piece_number s i piece)) × (leaves_after s i piece out ≡ out)
  unfolding leaves_answer leaves_after
  leaves_refused ne = rw (ne_eqb (piece_number s i piece) 0 ne) (refl, refl)

  pub leaves_short : piece_number s i piece ≡ 0 → length out < length (leaves_told s i piece)
      → (leaves_answer s i piece out ≡ refused no_room) × (leaves_after s i piece out ≡ out)
  unfolding leaves_answer leaves_after
  leaves_short z l = rw (z, lt-leb (length (leaves_told s i piece)) (length out) l) (refl, refl)

  pub leaves_done : piece_number s i piece ≡ 0 → length (leaves_told s i piece) ≤ length out
      → (leaves_answer s i piece out ≡ done (length (leaves_told s i piece))) × (leaves_after s i piece out ≡ pasted out 0 (leaves_told s i piece))
  unfolding leaves_answer leaves_after
  leaves_done z l = rw (z, le-leb (length (leaves_told s i piece)) (length out) l) (refl, refl)

  -- where the node is a leaf nothing is written
  pub told_none : piece_height s ≡ 0 → leaves_told s i piece ≡ []
  unfolding leaves_told
  told_none z = rw z refl

  pub told_some : (piece_height s ≡ 0 → ⊥) → leaves_told s i piece ≡ leaf_message s i piece
  unfolding leaves_told
  told_some ne = rw (ne_eqb (piece_height s) 0 ne) refl

  pub leaves_nothing : piece_number s i piece ≡ 0 → piece_height s ≡ 0 → (leaves_answer s i piece out ≡ done 0) × (leaves_after s i piece out ≡ out)
  leaves_nothing z k =
      let t = told_none k in
      let n : length (leaves_told s i piece) ≡ 0 = ap length t in
      let w = leaves_done z (omega arith) in
      (w.0 ∙ ap (λ (c : ℕ). done c) n, w.1 ∙ ap (λ (m : List ℕ). pasted out 0 m) t ∙ pasted_none out 0)

-- a message is as long as its head and its leaves
pub message_length : (s : List ℕ) (i : ℕ) (piece : List ℕ) → length (facts_root s) ≡ 32 → ((j : ℕ) → length (leaf_of piece j) ≡ 32)
    → length (leaf_message s i piece) ≡ header_size + 32 * 2 ^ piece_height s
unfolding leaf_message
message_length s i piece r h =
    length-append (head_of (facts_root s) (run_over (i * 2 ^ piece_height s) (2 ^ piece_height s))) (leaf_run (leaf_of piece) (2 ^ piece_height s))
    ∙ omega (arith, head_length (facts_root s) (run_over (i * 2 ^ piece_height s) (2 ^ piece_height s)) r, run_length (leaf_of piece) h (2 ^ piece_height s))

-- the run under number i of layer k ends within the leaves
pub run_inside : (h k i : ℕ) → k ≤ h → i < 2 ^ (h - k) → i * 2 ^ k + 2 ^ k ≤ 2 ^ h
run_inside h k i l b =
    let q : h - k + k ≡ h = omega arith in
    let m : (i + 1) * 2 ^ k ≤ 2 ^ (h - k) * 2 ^ k = mul-le-mul_right (2 ^ k) (omega arith) in
    omega (arith, sym (ap (λ (x : ℕ). 2 ^ x) q) ∙ pow-add 2 (h - k) k, add-mul i 1 (2 ^ k), one-mul (2 ^ k))

pub root_size : (s : List ℕ) → Facts s → length (facts_root s) ≡ 32
unfolding facts_root
root_size s f = cut_length s 12 32 (omega (arith, f.long))

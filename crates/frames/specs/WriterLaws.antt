-- Laws of the writer: each number exactly when, what beside it, and the frame that is written.
-- Assumes nothing.
use Rattle.std.specs.Prelude.{◌≡◌, refl, List, [], ◌∷◌, ◌↔◌, true, false, ℕ, ◌+◌, ◌≤◌, ◌<◌, take, drop, get_or, ltb, Some, None}
use Rattle.std.proofs.Common.{ap, sym, ◌∙◌, arith, lt-ltb, le-ltb, eq-eqb, ne_eqb, ltb-true, ltb-false}
use Rattle.std.proofs.Math.Decide.{ℕ_discrete}
use Rattle.std.proofs.Math.ListN.{length}
use Rattle.std.proofs.Math.Seq.{take_at}
use Rattle.octets.specs.Octets.{pasted, be}
use Rattle.octets.specs.OctetsLaws.{pasted_append, be_octets, pasted_length, get_or_pasted_after}
use Rattle.numbers.specs.Numbers.{no_message, no_room, frame_too_long, InTable, refused, done}
use Rattle.numbers.specs.Tests.{in_turn, both}
use Rattle.numbers.specs.Chain.{Chain, last, test, fault, decided, exactly_of, in_table_of}
use Rattle.numbers.specs.declared.Answer.{Answer}
use Rattle.limits.specs.Limits.{longest_frame}
use Rattle.frames.specs.Frames.{right_for, sizes_of, frame_of, sendable, frame_number, frame_answer, frame_after}
use Rattle.frames.specs.FramesLaws.{known_no, known_yes, right_is, frame_length}
use Rattle.frames.specs.declared.Sizes.{Sizes}

pub sendable_none : (m : List ℕ) → length m ≡ 0 → true ≡ sendable m
unfolding sendable
sendable_none [] e = refl
sendable_none (i ∷ m) e = let w : ⊥ = omega arith in absurd w

pub sendable_unknown : (m : List ℕ) (i : ℕ) → (length m ≡ 0 → ⊥) → i ≡ get_or m 0 0 → None ≡ sizes_of i → false ≡ sendable m
unfolding sendable
sendable_unknown [] i e f g = absurd (e refl)
sendable_unknown (x ∷ m) i e f g = rw (known_no x (g ∙ ap sizes_of f))

pub sendable_known : (m : List ℕ) (i : ℕ) (z : Sizes) → (length m ≡ 0 → ⊥) → i ≡ get_or m 0 0 → Some z ≡ sizes_of i → right_for z (length m) ≡ sendable m
unfolding sendable
sendable_known [] i z e f g = absurd (e refl)
sendable_known (x ∷ m) i z e f g = rw (known_yes x z (g ∙ ap sizes_of f)) (right_is x (length (x ∷ m)) z (g ∙ ap sizes_of f))

pub number_long : (m : List ℕ) (n : ℕ) → longest_frame < length m → frame_number m n ≡ frame_too_long
unfolding frame_number
number_long m n h = rw (lt-ltb longest_frame (length m) h)

pub number_wrong : (m : List ℕ) (n : ℕ) → length m ≤ longest_frame → sendable m ≡ false → frame_number m n ≡ no_message
unfolding frame_number
number_wrong m n h s = rw (le-ltb longest_frame (length m) h, s)

pub number_short : (m : List ℕ) (n : ℕ) → length m ≤ longest_frame → sendable m ≡ true → n < 4 + length m → frame_number m n ≡ no_room
unfolding frame_number
number_short m n h s k = rw (le-ltb longest_frame (length m) h, s, lt-ltb n (4 + length m) k)

pub number_done : (m : List ℕ) (n : ℕ) → length m ≤ longest_frame → sendable m ≡ true → 4 + length m ≤ n → frame_number m n ≡ 0
unfolding frame_number
number_done m n h s k = rw (le-ltb longest_frame (length m) h, s, le-ltb n (4 + length m) k)

answer_refused : (m out : List ℕ) (k : ℕ) → (k ≡ 0 → ⊥) → frame_number m (length out) ≡ k → frame_answer m out ≡ refused k
unfolding frame_answer
answer_refused m out k z e = rw (e, ne_eqb k 0 z)

after_refused : (m out : List ℕ) (k : ℕ) → (k ≡ 0 → ⊥) → frame_number m (length out) ≡ k → frame_after m out ≡ out
unfolding frame_after
after_refused m out k z e = rw (e, ne_eqb k 0 z)

pub frame_refused : (m out : List ℕ) (k : ℕ) (r : Answer) → (k ≡ 0 → ⊥) → frame_number m (length out) ≡ k → r ≡ refused k → (r ≡ frame_answer m out) × (out ≡ frame_after m out)
frame_refused m out k r z e f = (f ∙ sym (answer_refused m out k z e), sym (after_refused m out k z e))

answer_done : (m out : List ℕ) → frame_number m (length out) ≡ 0 → frame_answer m out ≡ done (4 + length m)
unfolding frame_answer
answer_done m out e = rw (eq-eqb (frame_number m (length out)) 0 e)

after_done : (m out : List ℕ) → frame_number m (length out) ≡ 0 → frame_after m out ≡ pasted out 0 (frame_of m)
unfolding frame_after
after_done m out e = rw (eq-eqb (frame_number m (length out)) 0 e)

pub frame_done : (m out one two : List ℕ) (r : Answer) → length m ≤ longest_frame → sendable m ≡ true → 4 + length m ≤ length out
    → one ≡ pasted out 0 (be 4 (length m)) → two ≡ pasted one 4 m → r ≡ done (4 + length m) → (r ≡ frame_answer m out) × (two ≡ frame_after m out)
unfolding frame_of
frame_done m out one two r h s k e f g =
    let n = number_done m (length out) h s k in
    let l = (be_octets 4 (length m)).size in
    (g ∙ sym (answer_done m out n), f ∙ ap (λ (x : List ℕ). pasted x 4 m) e ∙ pasted_append out 0 (be 4 (length m)) m (omega (arith, l)) ∙ sym (after_done m out n))

-- ---- each number exactly when

-- 30, 1, 11, 0
abbrev pub frame_chain : List ℕ → ℕ → Chain
frame_chain m n = fault (ltb longest_frame (length m)) frame_too_long (test (sendable m) no_message (fault (ltb n (4 + length m)) no_room (last 0)))

frame_tests : (m : List ℕ) (n : ℕ) → frame_number m n ≡ decided (frame_chain m n)
unfolding frame_number
frame_tests m n = refl

module _ (m : List ℕ) (n : ℕ) where
  -- 30: more bytes than a frame may have
  pub frame_30 : (frame_number m n ≡ frame_too_long) ↔ (longest_frame < length m)
  frame_30 = in_turn (exactly_of (frame_chain m n) frame_too_long (frame_tests m n) refl) (ltb-true longest_frame (length m), lt-ltb longest_frame (length m))

  -- else 1: an unknown id, or a wrong size for it
  pub frame_1 : (frame_number m n ≡ no_message) ↔ ((length m ≤ longest_frame) × (sendable m ≡ false))
  frame_1 =
      in_turn (exactly_of (frame_chain m n) no_message (frame_tests m n) refl)
      (both (ltb-false longest_frame (length m), le-ltb longest_frame (length m)) (λ e. e, λ e. e))

  -- else 11: the output is shorter than the frame
  pub frame_11 : (frame_number m n ≡ no_room) ↔ ((length m ≤ longest_frame) × (sendable m ≡ true) × (n < 4 + length m))
  frame_11 =
      let c = exactly_of (frame_chain m n) no_room (frame_tests m n) refl in (
        λ e. (let t = c.0 e in (ltb-false longest_frame (length m) t.0, t.1.0, ltb-true n (4 + length m) t.1.1)),
        λ t. c.1 (le-ltb longest_frame (length m) t.0, (t.1, lt-ltb n (4 + length m) t.2)),
      )

  -- else 0
  pub frame_0 : (frame_number m n ≡ 0) ↔ ((length m ≤ longest_frame) × (sendable m ≡ true) × (4 + length m ≤ n))
  frame_0 =
      let c = exactly_of (frame_chain m n) 0 (frame_tests m n) refl in (
        λ e. (let t = c.0 e in (ltb-false longest_frame (length m) t.0, t.1.0, ltb-false n (4 + length m) t.1.1.0)),
        λ t. c.1 (le-ltb longest_frame (length m) t.0, (t.1, (le-ltb n (4 + length m) t.2, refl))),
      )

  -- each is in the table
  pub frame_in_table : InTable (frame_number m n)
  frame_in_table = in_table_of (frame_chain m n) (frame_tests m n) refl

-- ---- the answer and the output, by the number

pub answer_number : (m out : List ℕ) → (frame_answer m out).number ≡ frame_number m (length out)
answer_number m out = by_number (ℕ_discrete (frame_number m (length out)) 0)
  where
    by_number : Dec (frame_number m (length out) ≡ 0) → (frame_answer m out).number ≡ frame_number m (length out)
    by_number (yes e) = ap (λ (r : Answer). r.number) (answer_done m out e) ∙ sym e
    by_number (no f) = ap (λ (r : Answer). r.number) (answer_refused m out (frame_number m (length out)) f refl)

-- a refusal has no count and leaves the output
pub frame_refusal : (m out : List ℕ) → ((frame_answer m out).number ≡ 0 → ⊥) → ((frame_answer m out).count ≡ 0) × (frame_after m out ≡ out)
frame_refusal m out f =
    let g : frame_number m (length out) ≡ 0 → ⊥ = λ e. f (answer_number m out ∙ e) in
    (ap (λ (r : Answer). r.count) (answer_refused m out (frame_number m (length out)) g refl), after_refused m out (frame_number m (length out)) g refl)

-- 0 says the frame's size, and the output begins with the frame
pub frame_success : (m out : List ℕ) → (frame_answer m out).number ≡ 0
    → ((frame_answer m out).count ≡ 4 + length m) × (take (4 + length m) (frame_after m out) ≡ frame_of m)
frame_success m out e =
    let n = sym (answer_number m out) ∙ e in
    (ap (λ (r : Answer). r.count) (answer_done m out n), ap (take (4 + length m)) (after_done m out n) ∙ first m out)
  where
    first : (m out : List ℕ) → take (4 + length m) (pasted out 0 (frame_of m)) ≡ frame_of m
    first m out = unfold pasted in take_at (frame_of m) (drop (0 + length (frame_of m)) out) (4 + length m) (frame_length m)

-- bytes behind the frame stay
pub frame_behind : (m out : List ℕ) (i : ℕ) → (frame_answer m out).number ≡ 0 → 4 + length m ≤ i → get_or (frame_after m out) i 0 ≡ get_or out i 0
frame_behind m out i e h =
    let n = sym (answer_number m out) ∙ e in
    let k = (frame_0 m (length out)).0 n in
    let l = frame_length m in
    ap (λ (x : List ℕ). get_or x i 0) (after_done m out n) ∙ get_or_pasted_after out 0 (frame_of m) (omega (arith, l, k.2)) i (omega (arith, l))

-- the output keeps its length
pub frame_after_length : (m out : List ℕ) → length (frame_after m out) ≡ length out
frame_after_length m out = by_number (ℕ_discrete (frame_number m (length out)) 0)
  where
    by_number : Dec (frame_number m (length out) ≡ 0) → length (frame_after m out) ≡ length out
    by_number (yes e) =
        let l = frame_length m in
        let k = (frame_0 m (length out)).0 e in
        ap length (after_done m out e) ∙ pasted_length out 0 (frame_of m) (omega (arith, l, k.2))
    by_number (no f) = ap length (after_refused m out (frame_number m (length out)) f refl)

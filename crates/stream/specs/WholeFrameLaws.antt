-- What a whole frame says, and a prefix above the limit.
-- Assumes nothing.
use Rattle.std.specs.Prelude.{◌≡◌, refl, List, [], ◌∷◌, ◌++◌, Bool, true, false, cond, ℕ, ◌+◌, ◌*◌, ◌^◌, ◌≤◌, ◌<◌, length, take, drop, get_or, eqb, ltb}
use Rattle.std.proofs.Common.{ap, ap₂, ◌∙◌, arith, drop_of_length-le, take_all, take_at, lt-ltb, le-ltb, ne_eqb}
use Rattle.octets.specs.Octets.{pasted, be, number_at}
use Rattle.octets.specs.OctetsLaws.{number_of_be}
use Rattle.limits.specs.Limits.{longest_frame}
use Rattle.frames.specs.Frames.{Bytes, known, right, frame_of}
use Rattle.stream.specs.Reading.{mode_of, fitting, mode_at, kept, Said, nothing, message, keep_alive, wrong_skipped, large_skipped, refused_now, bad_state, quiet, Stepped, standing, between, refused_by, says, prefixed, prefix_byte, said_at_end, progressed, byte, Call, hears}
use Rattle.stream.specs.ReadingLaws.{hears_step, run_of_frame, mode_fitted, run_says}
use Rattle.stream.specs.Steps.{onward, run_size, frame_run}
use Rattle.stream.specs.StepsLaws.{byte_is_frame, progressed_end}
use Rattle.stream.specs.Standing.{Going}
use Rattle.stream.specs.Cuttings.{ends, after, streamed}
use Rattle.stream.specs.CuttingsLaws.{streamed_step, streamed_refused, after_quiet, call_is}
use Rattle.stream.specs.Saying.{frame_says, frame_leaves}
use Rattle.stream.specs.declared.Stream.{Stream}

-- ---- the prefix

pub byte_1 : (room : List ℕ) (d : ℕ) → byte between room d ≡ says nothing (standing (0 * 256 + d) 1 0 0) room
unfolding byte prefix_byte
byte_1 room d = refl

pub byte_2 : (room : List ℕ) (l d : ℕ) → byte (standing l 1 0 0) room d ≡ says nothing (standing (l * 256 + d) 2 0 0) room
unfolding byte prefix_byte
byte_2 room l d = refl

pub byte_3 : (room : List ℕ) (l d : ℕ) → byte (standing l 2 0 0) room d ≡ says nothing (standing (l * 256 + d) 3 0 0) room
unfolding byte prefix_byte
byte_3 room l d = refl

byte_4 : (room : List ℕ) (l d : ℕ) → byte (standing l 3 0 0) room d ≡ prefixed (l * 256 + d) room
unfolding byte prefix_byte
byte_4 room l d = refl

pub on_quietly : (s t : Stream) (room : List ℕ) (d : ℕ) (bs : List ℕ) → s.mode < 4 → byte s room d ≡ says nothing t room → streamed s room (d ∷ bs) ≡ streamed t room bs
on_quietly s t room d bs h e =
    streamed_step s room d bs h
    ∙ ap (λ (x : Stepped). after x.said (streamed x.state x.room bs)) e
    ∙ after_quiet nothing (streamed t room bs) refl

prefix_read : (room : List ℕ) (a b c d : ℕ) (bs : List ℕ) (n : ℕ) → ((((0 * 256 + a) * 256 + b) * 256 + c) * 256 + d ≡ n)
    → streamed between room (a ∷ b ∷ c ∷ d ∷ bs) ≡ after (prefixed n room).said (streamed (prefixed n room).state (prefixed n room).room bs)
prefix_read room a b c d bs n e =
    on_quietly between (standing (0 * 256 + a) 1 0 0) room a (b ∷ c ∷ d ∷ bs) (omega arith) (byte_1 room a)
    ∙ on_quietly (standing (0 * 256 + a) 1 0 0) (standing ((0 * 256 + a) * 256 + b) 2 0 0) room b (c ∷ d ∷ bs) (omega arith) (byte_2 room (0 * 256 + a) b)
    ∙ on_quietly (standing ((0 * 256 + a) * 256 + b) 2 0 0) (standing (((0 * 256 + a) * 256 + b) * 256 + c) 3 0 0) room c (d ∷ bs) (omega arith) (byte_3 room ((0 * 256 + a) * 256 + b) c)
    ∙ streamed_step (standing (((0 * 256 + a) * 256 + b) * 256 + c) 3 0 0) room d bs (omega arith)
    ∙ ap (λ (x : Stepped). after x.said (streamed x.state x.room bs)) (byte_4 room (((0 * 256 + a) * 256 + b) * 256 + c) d ∙ ap (λ (k : ℕ). prefixed k room) e)

number_back : (n : ℕ) → n < 256 ^ 4
    → (((0 * 256 + get_or (be 4 n) 0 0) * 256 + get_or (be 4 n) 1 0) * 256 + get_or (be 4 n) 2 0) * 256 + get_or (be 4 n) 3 0 ≡ n
number_back n h = unfold number_at in number_of_be 4 n h

pub prefix_heard : (room : List ℕ) (n : ℕ) (bs : List ℕ) → n < 256 ^ 4
    → streamed between room (be 4 n ++ bs) ≡ after (prefixed n room).said (streamed (prefixed n room).state (prefixed n room).room bs)
prefix_heard room n bs h = prefix_read room _ _ _ _ bs n (number_back n h)

pub prefixed_none : (room : List ℕ) → prefixed 0 room ≡ says keep_alive between room
unfolding prefixed
prefixed_none room = refl

pub prefixed_some : (n : ℕ) (room : List ℕ) → 0 < n → n ≤ longest_frame → prefixed n room ≡ says nothing (standing n 4 0 0) room
unfolding prefixed
prefixed_some n room h k = let z : n ≡ 0 → ⊥ = λ e. omega arith in rw (le-ltb longest_frame n k, ne_eqb n 0 z)

pub at_frame : (n N : ℕ) → 0 < n → n ≤ longest_frame → Going (standing n 4 0 0) N
at_frame n N h k = record { in_prefix = λ z. let w : ⊥ = omega arith in absurd w; in_frame = λ z. (refl, k, h, λ y. omega arith, λ y. let w : ⊥ = omega arith in absurd w); running = omega arith }

-- ---- a whole frame

pub mode_is : (i n l : ℕ) → mode_at (standing l 4 0 0) n i ≡ fitting l n (mode_of i l)
unfolding mode_at
mode_is i n l = refl

-- the end of a frame that is whole in the bytes
end_says : (i : ℕ) (f room : List ℕ) → said_at_end (length (i ∷ f)) (fitting (length (i ∷ f)) (length room) (mode_of i (length (i ∷ f)))) (frame_leaves (i ∷ f) room) ≡ frame_says (i ∷ f) (length room)
unfolding said_at_end frame_leaves frame_says fitting mode_of kept pasted
end_says i f room = by_tests (known i) (right i (length (i ∷ f))) (ltb (length room) (length (i ∷ f)))
  where
    mode : Bool → Bool → Bool → ℕ
    mode x y z = cond (eqb (cond x (cond y 0 2) 1) 0) (cond z 3 0) (cond x (cond y 0 2) 1)

    left : ℕ → List ℕ
    left m = cond (eqb m 0) (take 0 room ++ (i ∷ f) ++ drop (0 + length (i ∷ f)) room) room

    by_tests : (x y z : Bool)
        → cond (eqb (mode x y z) 0) (message (take (length (i ∷ f)) (left (mode x y z)))) (cond (eqb (mode x y z) 1) nothing (cond (eqb (mode x y z) 2) wrong_skipped large_skipped))
        ≡ cond x (cond y (cond z large_skipped (message (i ∷ f))) wrong_skipped) nothing
    by_tests true true true = refl
    by_tests true true false = ap message (take_at (i ∷ f) (drop (0 + length (i ∷ f)) room) (length (i ∷ f)) refl)
    by_tests true false z = refl
    by_tests false y z = refl

-- a whole frame's step, loud or quiet
step_at_end : (n : ℕ) (x : Said) (room : List ℕ) → onward n (says x between room) [] ≡ record { said = x; used = n; state = between; room = room }
unfolding onward hears
step_at_end n x room = by_said x
  where
    none : n + 0 ≡ n
    none = omega arith

    made : Said → ℕ → Call
    made x k = record { said = x; used = k; state = between; room = room }

    by_said : (x : Said) → cond (quiet x) (made nothing (n + 0)) (made x n) ≡ made x n
    by_said nothing = ap (made nothing) none
    by_said (message m) = refl
    by_said keep_alive = refl
    by_said wrong_skipped = refl
    by_said large_skipped = refl
    by_said refused_now = refl
    by_said bad_state = refl

leaves_is : (i : ℕ) (f room : List ℕ) → kept (fitting (length (i ∷ f)) (length room) (mode_of i (length (i ∷ f)))) room 0 (i ∷ f) ≡ frame_leaves (i ∷ f) room
unfolding frame_leaves
leaves_is i f room = refl

none_says : (room q : List ℕ) → after keep_alive (streamed between room q) ≡ after (frame_says [] (length room)) (streamed between (frame_leaves [] room) q)
unfolding frame_leaves frame_says
none_says room q = refl

frame_call : (i : ℕ) (f room : List ℕ)
    → hears (standing (length (i ∷ f)) 4 0 0) room (i ∷ f) ≡ record { said = frame_says (i ∷ f) (length room); used = length (i ∷ f); state = between; room = frame_leaves (i ∷ f) room }
frame_call i f room =
    hears_step s room i f ∙ ap (λ (x : Stepped). onward 1 x f) (byte_is_frame s room i (omega arith))
    ∙ run_of_frame n 0 (mode_at s (length room) i) room i f (omega arith) (mode_fitted s (length room) i) (λ z. omega arith)
    ∙ ap₂ (λ (k : ℕ) (x : List ℕ). onward k (frame_run n 0 (mode_at s (length room) i) room (i ∷ f)) x) size (ap (λ (k : ℕ). drop k (i ∷ f)) size ∙ drop_of_length-le (i ∷ f) {i = n} (omega arith))
    ∙ ap (λ (x : Stepped). onward n x []) whole
    ∙ step_at_end n (frame_says (i ∷ f) (length room)) (frame_leaves (i ∷ f) room)
  where
    n : ℕ
    n = length (i ∷ f)

    s : Stream
    s = standing n 4 0 0

    size : run_size n 0 (length (i ∷ f)) ≡ n
    size = omega arith

    m : ℕ
    m = fitting n (length room) (mode_of i n)

    leaves : kept m room 0 (i ∷ f) ≡ frame_leaves (i ∷ f) room
    leaves = leaves_is i f room

    whole : frame_run n 0 (mode_at s (length room) i) room (i ∷ f) ≡ says (frame_says (i ∷ f) (length room)) between (frame_leaves (i ∷ f) room)
    whole =
        ap (λ (x : ℕ). frame_run n 0 x room (i ∷ f)) (mode_is i (length room) n)
        ∙ run_says n 0 m room (i ∷ f)
        ∙ ap₂ (λ (k : ℕ) (x : List ℕ). progressed n 0 k m x) size (ap (λ (x : List ℕ). kept m room 0 x) (ap (λ (k : ℕ). take k (i ∷ f)) size ∙ take_all n (i ∷ f) (omega arith)) ∙ leaves)
        ∙ progressed_end n 0 n m (frame_leaves (i ∷ f) room) (omega arith)
        ∙ ap (λ (x : Said). says x between (frame_leaves (i ∷ f) room)) (end_says i f room)

-- a frame that is not too long says what it says, and the stream stands between two frames
pub whole_frame_says : (f room q : List ℕ) → Bytes f → length f ≤ longest_frame
    → streamed between room (frame_of f ++ q) ≡ after (frame_says f (length room)) (streamed between (frame_leaves f room) q)
unfolding frame_of
whole_frame_says [] room q y h = prefix_heard room 0 q (omega arith) ∙ ap (λ (x : Stepped). after x.said (streamed x.state x.room q)) (prefixed_none room) ∙ none_says room q
whole_frame_says (i ∷ f) room q y h =
    let n : ℕ = length (i ∷ f) in
    let k = call_is (standing n 4 0 0) room (i ∷ f) (at_frame n (length room) (omega arith) h) y in
    let d : drop n (i ∷ f) ≡ [] = drop_of_length-le (i ∷ f) {i = n} (omega arith) in
    prefix_heard room n ((i ∷ f) ++ q) (omega arith)
    ∙ ap (λ (x : Stepped). after x.said (streamed x.state x.room ((i ∷ f) ++ q))) (prefixed_some n room (omega arith) h)
    ∙ after_quiet nothing (streamed (standing n 4 0 0) room ((i ∷ f) ++ q)) refl
    ∙ k.same q
    ∙ ap (λ (c : Call). after c.said (streamed c.state c.room (drop c.used (i ∷ f) ++ q))) (frame_call i f room)
    ∙ ap (λ (x : List ℕ). after (frame_says (i ∷ f) (length room)) (streamed between (frame_leaves (i ∷ f) room) (x ++ q))) d

prefixed_long : (n : ℕ) (room : List ℕ) → longest_frame < n → prefixed n room ≡ says refused_now (refused_by n) room
unfolding prefixed
prefixed_long n room h = rw (lt-ltb longest_frame n h)

-- and a prefix above the limit is 30 whatever follows, and nothing more is heard
pub too_long_says : (n : ℕ) (room q : List ℕ) → longest_frame < n → n < 256 ^ 4
    → streamed between room (be 4 n ++ q) ≡ after refused_now (ends (refused_by n) room)
too_long_says n room q h k =
    prefix_heard room n q k
    ∙ ap (λ (x : Stepped). after x.said (streamed x.state x.room q)) (prefixed_long n room h)
    ∙ ap (after refused_now) (streamed_refused (refused_by n) room q refl)

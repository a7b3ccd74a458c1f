-- 02, request 9, as theorems: what is heard of a stream is what its frames say, one after the other, and nothing else: each number exactly when.
-- Assumes nothing.
use Rattle.std.specs.Prelude.{◌≡◌, List, [], ◌∷◌, ◌++◌, Bool, true, false, cond, ℕ, ◌+◌, ◌*◌, ◌≤◌, ◌<◌, length, take, drop}
use Rattle.std.proofs.Math.Path.{refl}
use Rattle.std.proofs.Common.{ap, ap₂, sym, ◌∙◌, append-nil, arith, drop_of_length-le, take_all}
use Rattle.octets.specs.Octets.{be, number_at}
use Rattle.limits.specs.Limits.{longest_frame}
use Rattle.frames.specs.Frames.{Bytes, frame_of}
use Rattle.frames.specs.FramesLaws.{bytes_front, bytes_rest}
use Rattle.stream.specs.Reading.{storing, mode_of, fitting, mode_at, kept, Said, nothing, refused_now, quiet, Stepped, standing, between, refused_by, says, progressed, Call, further, hears}
use Rattle.stream.specs.ReadingLaws.{hears_step, run_of_frame, mode_fitted, fitted_room, fitted_again, run_says, kept_length}
use Rattle.stream.specs.Steps.{onward, run_size, frame_run}
use Rattle.stream.specs.StepsLaws.{byte_is_frame, progressed_on, onward_quiet}
use Rattle.stream.specs.Cuttings.{Whole, ends, after, streamed}
use Rattle.stream.specs.CuttingsLaws.{after_quiet, call_is}
use Rattle.stream.specs.Saying.{frame_says, frame_leaves, hearing, partly, Says, a_frame, too_long, in_prefix, in_frame}
use Rattle.stream.specs.WholeFrameLaws.{byte_1, byte_2, byte_3, on_quietly, prefix_heard, prefixed_some, at_frame, mode_is, whole_frame_says, too_long_says}
use Rattle.stream.specs.declared.Stream.{Stream}

-- ---- a room keeps its length

pub leaves_length : (f room : List ℕ) → length (frame_leaves f room) ≡ length room
unfolding frame_leaves
leaves_length [] room = refl
leaves_length (i ∷ f) room =
    kept_length (fitting (length (i ∷ f)) (length room) (mode_of i (length (i ∷ f)))) room 0 (i ∷ f)
    (λ z. let w = fitted_room (length (i ∷ f)) (length room) (fitting (length (i ∷ f)) (length room) (mode_of i (length (i ∷ f)))) (fitted_again (length (i ∷ f)) (length room) (mode_of i (length (i ∷ f)))) z in omega arith)

-- ---- what is heard first, and then

pub after_heard : (h : Said) (w : Whole) → (after h w).heard ≡ hearing h w.heard
unfolding after hearing
after_heard h w = by_said (quiet h)
  where
    by_said : (q : Bool) → (cond q w (record { heard = h ∷ w.heard; state = w.state; room = w.room })).heard ≡ cond q w.heard (h ∷ w.heard)
    by_said true = refl
    by_said false = refl

pub after_state : (h : Said) (w : Whole) → (after h w).state ≡ w.state
unfolding after
after_state h w = by_said (quiet h)
  where
    by_said : (q : Bool) → (cond q w (record { heard = h ∷ w.heard; state = w.state; room = w.room })).state ≡ w.state
    by_said true = refl
    by_said false = refl

-- ---- some bytes of a prefix

some_of_prefix : (p room : List ℕ) → length p < 4 → streamed between room p ≡ ends (standing (number_at p 0 (length p)) (length p) 0 storing) room
unfolding number_at streamed
some_of_prefix [] room h = refl
some_of_prefix (a ∷ []) room h = on_quietly between (standing (0 * 256 + a) 1 0 0) room a [] (omega arith) (byte_1 room a)
some_of_prefix (a ∷ b ∷ []) room h =
    on_quietly between (standing (0 * 256 + a) 1 0 0) room a (b ∷ []) (omega arith) (byte_1 room a)
    ∙ on_quietly (standing (0 * 256 + a) 1 0 0) (standing ((0 * 256 + a) * 256 + b) 2 0 0) room b [] (omega arith) (byte_2 room (0 * 256 + a) b)
some_of_prefix (a ∷ b ∷ c ∷ []) room h =
    on_quietly between (standing (0 * 256 + a) 1 0 0) room a (b ∷ c ∷ []) (omega arith) (byte_1 room a)
    ∙ on_quietly (standing (0 * 256 + a) 1 0 0) (standing ((0 * 256 + a) * 256 + b) 2 0 0) room b (c ∷ []) (omega arith) (byte_2 room (0 * 256 + a) b)
    ∙ on_quietly (standing ((0 * 256 + a) * 256 + b) 2 0 0) (standing (((0 * 256 + a) * 256 + b) * 256 + c) 3 0 0) room c [] (omega arith) (byte_3 room ((0 * 256 + a) * 256 + b) c)
some_of_prefix (a ∷ b ∷ c ∷ d ∷ p) room h = let w : ⊥ = omega arith in absurd w

-- ---- some bytes of a frame

-- they are silent, and the room has them if the frame is stored
part_call : (l i : ℕ) (p room : List ℕ) → length (i ∷ p) < l
    → hears (standing l 4 0 0) room (i ∷ p)
    ≡ record { said = nothing; used = length (i ∷ p) + 0; state = standing l 4 (0 + length (i ∷ p)) (fitting l (length room) (mode_of i l)); room = kept (fitting l (length room) (mode_of i l)) room 0 (i ∷ p) }
part_call l i p room h =
    hears_step s room i p ∙ ap (λ (x : Stepped). onward 1 x p) (byte_is_frame s room i (omega arith))
    ∙ run_of_frame l 0 (mode_at s (length room) i) room i p (omega arith) (mode_fitted s (length room) i) (λ z. omega arith)
    ∙ ap₂ (λ (k : ℕ) (x : List ℕ). onward k (frame_run l 0 (mode_at s (length room) i) room (i ∷ p)) x) size (ap (λ (k : ℕ). drop k (i ∷ p)) size ∙ drop_of_length-le (i ∷ p) {i = n} (omega arith))
    ∙ ap (λ (x : Stepped). onward n x []) inside
    ∙ onward_quiet n (says nothing (standing l 4 (0 + n) m) (kept m room 0 (i ∷ p))) [] refl
    ∙ at_end
  where
    n : ℕ
    n = length (i ∷ p)

    s : Stream
    s = standing l 4 0 0

    m : ℕ
    m = fitting l (length room) (mode_of i l)

    size : run_size l 0 (length (i ∷ p)) ≡ n
    size = omega arith

    inside : frame_run l 0 (mode_at s (length room) i) room (i ∷ p) ≡ says nothing (standing l 4 (0 + n) m) (kept m room 0 (i ∷ p))
    inside =
        ap (λ (x : ℕ). frame_run l 0 x room (i ∷ p)) (mode_is i (length room) l)
        ∙ run_says l 0 m room (i ∷ p)
        ∙ ap₂ (λ (k : ℕ) (x : List ℕ). progressed l 0 k m x) size (ap (λ (x : List ℕ). kept m room 0 x) (ap (λ (k : ℕ). take k (i ∷ p)) size ∙ take_all n (i ∷ p) (omega arith)))
        ∙ progressed_on l 0 n m (kept m room 0 (i ∷ p)) (λ e. omega arith)

    none : (t : Stream) (x : List ℕ) → hears t x [] ≡ record { said = nothing; used = 0; state = t; room = x }
    none t x = unfold hears in refl

    at_end : further n (hears (standing l 4 (0 + n) m) (kept m room 0 (i ∷ p)) []) ≡ record { said = nothing; used = n + 0; state = standing l 4 (0 + n) m; room = kept m room 0 (i ∷ p) }
    at_end = ap (further n) (none (standing l 4 (0 + n) m) (kept m room 0 (i ∷ p)))

ends_alike : (s : Stream) (room : List ℕ) → streamed s room [] ≡ ends s room
unfolding streamed
ends_alike s room = refl

-- a stream that is inside a frame
part_heard : (l : ℕ) (p room : List ℕ) → Bytes p → l ≤ longest_frame → length p < l
    → ((streamed between room (be 4 l ++ p)).heard ≡ []) × ((streamed between room (be 4 l ++ p)).state ≡ partly l p (length room))
unfolding partly
part_heard l [] room y h k =
    let e = prefix_heard room l [] (omega arith) ∙ ap (λ (x : Stepped). after x.said (streamed x.state x.room [])) (prefixed_some l room k h)
    ∙ after_quiet nothing (streamed (standing l 4 0 0) room []) refl ∙ ends_alike (standing l 4 0 0) room in
    (ap (λ (w : Whole). w.heard) e, ap (λ (w : Whole). w.state) e)
part_heard l (i ∷ p) room y h k =
    let n : ℕ = length (i ∷ p) in
    let m : ℕ = fitting l (length room) (mode_of i l) in
    let q = (call_is (standing l 4 0 0) room (i ∷ p) (at_frame l (length room) (omega arith) h) y).same [] in
    let d : drop (n + 0) (i ∷ p) ≡ [] = drop_of_length-le (i ∷ p) {i = n + 0} (omega arith) in
    let e = prefix_heard room l (i ∷ p) (omega arith) ∙ ap (λ (x : Stepped). after x.said (streamed x.state x.room (i ∷ p))) (prefixed_some l room (omega arith) h)
    ∙ after_quiet nothing (streamed (standing l 4 0 0) room (i ∷ p)) refl
    ∙ ap (streamed (standing l 4 0 0) room) (sym (append-nil (i ∷ p)))
    ∙ q
    ∙ ap (λ (c : Call). after c.said (streamed c.state c.room (drop c.used (i ∷ p) ++ []))) (part_call l i p room k)
    ∙ ap (λ (x : List ℕ). after nothing (streamed (standing l 4 (0 + n) m) (kept m room 0 (i ∷ p)) (x ++ []))) d
    ∙ after_quiet nothing (streamed (standing l 4 (0 + n) m) (kept m room 0 (i ∷ p)) []) refl
    ∙ ends_alike (standing l 4 (0 + n) m) (kept m room 0 (i ∷ p)) in
    let z : 0 + n ≡ n = omega arith in
    (ap (λ (w : Whole). w.heard) e, ap (λ (w : Whole). w.state) e ∙ ap (λ (x : ℕ). standing l 4 x m) z)

-- ---- what is said is heard

pub says_heard : {n : ℕ} {bs : List ℕ} {hs : List Said} {s : Stream} → Says n bs hs s → Bytes bs → (room : List ℕ) → length room ≡ n
    → ((streamed between room bs).heard ≡ hs) × ((streamed between room bs).state ≡ s)
says_heard (a_frame {n = n} {q = q} {hs = hs} {s = s} f h o) y room e =
    let b = frame_bytes f q y in
    let k = says_heard o b.1 (frame_leaves f room) (leaves_length f room ∙ e) in
    let w = whole_frame_says f room q b.0 h in (
      ap (λ (x : Whole). x.heard) w ∙ after_heard (frame_says f (length room)) (streamed between (frame_leaves f room) q) ∙ ap₂ hearing (ap (frame_says f) e) k.0,
      ap (λ (x : Whole). x.state) w ∙ after_state (frame_says f (length room)) (streamed between (frame_leaves f room) q) ∙ k.1,
    )
  where
    frame_bytes : (f q : List ℕ) → Bytes (frame_of f ++ q) → Bytes f × Bytes q
    frame_bytes f q y = unfold frame_of in (bytes_rest (be 4 (length f)) f (bytes_front (be 4 (length f) ++ f) q y), bytes_rest (be 4 (length f) ++ f) q y)
says_heard (too_long l q h k) y room e = let w = too_long_says l room q h k in (ap (λ (x : Whole). x.heard) w ∙ refused_only l room, ap (λ (x : Whole). x.state) w ∙ after_state refused_now (ends (refused_by l) room))
  where
    refused_only : (l : ℕ) (room : List ℕ) → (after refused_now (ends (refused_by l) room)).heard ≡ refused_now ∷ []
    refused_only l room = unfold after in refl
says_heard (in_prefix p h) y room e = let w = some_of_prefix p room h in (ap (λ (x : Whole). x.heard) w, ap (λ (x : Whole). x.state) w)
says_heard (in_frame l p h k) y room e =
    let w = part_heard l p room (bytes_rest (be 4 l) p y) h k in
    (w.0, w.1 ∙ ap (partly l p) e)

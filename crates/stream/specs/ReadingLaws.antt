-- Laws of frames read byte by byte: what is done with a frame, and a run of its bytes at once.
-- Assumes nothing.
use Rattle.std.specs.Prelude.{◌≡◌, refl, List, [], ◌∷◌, Bool, true, false, cond, ℕ, suc, ◌+◌, ◌≤◌, ◌<◌, length, take, drop, eqb, ltb, Some, None}
use Rattle.std.proofs.Common.{ap, sym, ◌∙◌, arith, length-take, lt-ltb, eq-eqb, ne_eqb}
use Rattle.std.proofs.Math.Decide.{dec_lt, ℕ_discrete}
use Rattle.octets.specs.Octets.{pasted}
use Rattle.octets.specs.OctetsLaws.{pasted_length, pasted_append}
use Rattle.frames.specs.Frames.{sizes_of, right_for}
use Rattle.frames.specs.FramesLaws.{known_no, known_yes, right_is}
use Rattle.frames.specs.declared.Sizes.{Sizes}
use Rattle.stream.specs.Reading.{storing, skipping_unknown, skipping_wrong, mode_of, fitting, mode_at, kept, quiet, Stepped, standing, progressed, frame_byte, byte, Call, further, stopped, hears}
use Rattle.stream.specs.Steps.{run_size, frame_run, onward}
use Rattle.stream.specs.declared.Stream.{Stream}

-- ---- what is done with a frame

pub mode_unknown : (i l : ℕ) → None ≡ sizes_of i → skipping_unknown ≡ mode_of i l
unfolding mode_of
mode_unknown i l e = rw (known_no i e)

pub mode_right : (i l : ℕ) (z : Sizes) (r : Bool) → Some z ≡ sizes_of i → r ≡ right_for z l → r ≡ true → storing ≡ mode_of i l
unfolding mode_of
mode_right i l z r e f g = rw (known_yes i z e, sym (right_is i l z e) ∙ sym f ∙ g)

pub mode_wrong : (i l : ℕ) (z : Sizes) (r : Bool) → Some z ≡ sizes_of i → r ≡ right_for z l → r ≡ false → skipping_wrong ≡ mode_of i l
unfolding mode_of
mode_wrong i l z r e f g = rw (known_yes i z e, sym (right_is i l z e) ∙ sym f ∙ g)

pub mode_first : (t : Stream) (n b i m r : ℕ) → t.read ≡ 0 → i ≡ b → m ≡ mode_of i t.length → r ≡ fitting t.length n m → r ≡ mode_at t n b
unfolding mode_at
mode_first t n b i m r e f g h = rw (eq-eqb t.read 0 e, ← f, ← g) h

pub mode_later : (t : Stream) (n b r : ℕ) → (t.read ≡ 0 → ⊥) → r ≡ fitting t.length n t.mode → r ≡ mode_at t n b
unfolding mode_at
mode_later t n b r e h = rw (ne_eqb t.read 0 e) h

-- a frame once fitted stays as it is
pub fitted_again : (l n m : ℕ) → fitting l n (fitting l n m) ≡ fitting l n m
unfolding fitting
fitted_again l n m = by_mode (eqb m 0) refl (ltb n l) refl
  where
    by_mode : (x : Bool) → eqb m 0 ≡ x → (y : Bool) → ltb n l ≡ y
        → cond (eqb (cond (eqb m 0) (cond (ltb n l) 3 0) m) 0) (cond (ltb n l) 3 0) (cond (eqb m 0) (cond (ltb n l) 3 0) m) ≡ cond (eqb m 0) (cond (ltb n l) 3 0) m
    by_mode true e true f = rw (e, f)
    by_mode true e false f = rw (e, f)
    by_mode false e y f = rw (e, e)

pub mode_fitted : (t : Stream) (n b : ℕ) → fitting t.length n (mode_at t n b) ≡ mode_at t n b
unfolding mode_at
mode_fitted t n b = fitted_again t.length n (cond (eqb t.read 0) (mode_of b t.length) t.mode)

-- stored only where there is room
pub fitted_room : (l n m : ℕ) → fitting l n m ≡ m → m ≡ 0 → l ≤ n
unfolding fitting
fitted_room l n m e z = by_size (dec_lt n l)
  where
    by_size : Dec (n < l) → l ≤ n
    by_size (yes h) = let w : ◌≡◌ {A = ℕ} 3 0 = (rw (eq-eqb m 0 z, lt-ltb n l h, z) at e) in absurd (omega arith)
    by_size (no g) = omega arith

-- ---- a run of a frame's bytes at once

pub hears_step : (s : Stream) (room : List ℕ) (b : ℕ) (bs : List ℕ) → hears s room (b ∷ bs) ≡ onward 1 (byte s room b) bs
unfolding hears onward
hears_step s room b bs = refl

pub kept_length : (m : ℕ) (room : List ℕ) (at : ℕ) (bs : List ℕ) → (m ≡ 0 → at + length bs ≤ length room) → length (kept m room at bs) ≡ length room
unfolding kept
kept_length m room at bs h = by_mode (ℕ_discrete m 0)
  where
    by_mode : Dec (m ≡ 0) → length (cond (eqb m 0) (pasted room at bs) room) ≡ length room
    by_mode (yes e) = rw (eq-eqb m 0 e) (pasted_length room at bs (h e))
    by_mode (no g) = rw (ne_eqb m 0 g)

pub kept_twice : (m : ℕ) (room : List ℕ) (r b : ℕ) (bs : List ℕ) → (m ≡ 0 → r + 1 + length bs ≤ length room)
    → kept m (kept m room r (b ∷ [])) (r + 1) bs ≡ kept m room r (b ∷ bs)
unfolding kept
kept_twice m room r b bs h = by_mode (ℕ_discrete m 0)
  where
    by_mode : Dec (m ≡ 0) → cond (eqb m 0) (pasted (cond (eqb m 0) (pasted room r (b ∷ [])) room) (r + 1) bs) (cond (eqb m 0) (pasted room r (b ∷ [])) room) ≡ cond (eqb m 0) (pasted room r (b ∷ bs)) room
    by_mode (yes e) = rw (eq-eqb m 0 e) (pasted_append room r (b ∷ []) bs (let k = h e in omega arith))
    by_mode (no g) = rw (ne_eqb m 0 g)

byte_in_frame : (l r m : ℕ) (room : List ℕ) (b : ℕ) → 0 < r → fitting l (length room) m ≡ m → byte (standing l 4 r m) room b ≡ frame_byte l r m room b
unfolding byte mode_at
byte_in_frame l r m room b p f = let n : r ≡ 0 → ⊥ = λ e. omega arith in rw (ne_eqb r 0 n, f)

one_byte : (l r m : ℕ) (room : List ℕ) (b : ℕ) (bs : List ℕ) → run_size l r (length (b ∷ bs)) ≡ 1
    → onward 1 (frame_byte l r m room b) bs ≡ onward (run_size l r (length (b ∷ bs))) (frame_run l r m room (b ∷ bs)) (drop (run_size l r (length (b ∷ bs))) (b ∷ bs))
unfolding frame_byte frame_run
one_byte l r m room b bs e = rw e

byte_says : (l r m : ℕ) (room : List ℕ) (b : ℕ) (bs : List ℕ) → onward 1 (frame_byte l r m room b) bs ≡ onward 1 (progressed l r 1 m (kept m room r (b ∷ []))) bs
unfolding frame_byte
byte_says l r m room b bs = refl

pub run_says : (l r m : ℕ) (room bs : List ℕ) → frame_run l r m room bs ≡ progressed l r (run_size l r (length bs)) m (kept m room r (take (run_size l r (length bs)) bs))
unfolding frame_run
run_says l r m room bs = refl

onward_inside : (l r m : ℕ) (room bs : List ℕ) → (r + 1 ≡ l → ⊥) → onward 1 (progressed l r 1 m room) bs ≡ further 1 (hears (standing l 4 (r + 1) m) room bs)
unfolding onward progressed
onward_inside l r m room bs g = rw (ne_eqb (r + 1) l g)

onward_more : (n : ℕ) (t : Stepped) (bs : List ℕ) → further 1 (onward n t bs) ≡ onward (suc n) t bs
unfolding onward
onward_more n t bs = by_said (quiet t.said)
  where
    by_said : (q : Bool) → further 1 (cond q (further n (hears t.state t.room bs)) (stopped n t)) ≡ cond q (further (suc n) (hears t.state t.room bs)) (stopped (suc n) t)
    by_said true = let e : 1 + (n + (hears t.state t.room bs).used) ≡ suc n + (hears t.state t.room bs).used = omega arith in rw e
    by_said false = let e : 1 + n ≡ suc n = omega arith in rw e

progressed_shift : (l r n m : ℕ) (room : List ℕ) → progressed l (r + 1) n m room ≡ progressed l r (suc n) m room
unfolding progressed
progressed_shift l r n m room = let e : r + 1 + n ≡ r + suc n = omega arith in rw e

-- the run of a frame's bytes is what they are byte by byte
pub run_of_frame : (l r m : ℕ) (room : List ℕ) (b : ℕ) (bs : List ℕ) → r < l → fitting l (length room) m ≡ m → (m ≡ 0 → r ≤ length room)
    → onward 1 (frame_byte l r m room b) bs ≡ onward (run_size l r (length (b ∷ bs))) (frame_run l r m room (b ∷ bs)) (drop (run_size l r (length (b ∷ bs))) (b ∷ bs))
run_of_frame l r m room b [] h f k = one_byte l r m room b [] (omega arith)
run_of_frame l r m room b (d ∷ bs) h f k = by_end (ℕ_discrete (r + 1) l) (run_of_frame l (r + 1) m (kept m room r (b ∷ [])) d bs)
  where
    by_end : Dec (r + 1 ≡ l) → (r + 1 < l → fitting l (length (kept m room r (b ∷ []))) m ≡ m → (m ≡ 0 → r + 1 ≤ length (kept m room r (b ∷ [])))
        → onward 1 (frame_byte l (r + 1) m (kept m room r (b ∷ [])) d) bs ≡ onward (run_size l (r + 1) (length (d ∷ bs))) (frame_run l (r + 1) m (kept m room r (b ∷ [])) (d ∷ bs)) (drop (run_size l (r + 1) (length (d ∷ bs))) (d ∷ bs)))
        → onward 1 (frame_byte l r m room b) (d ∷ bs) ≡ onward (run_size l r (length (b ∷ d ∷ bs))) (frame_run l r m room (b ∷ d ∷ bs)) (drop (run_size l r (length (b ∷ d ∷ bs))) (b ∷ d ∷ bs))
    by_end (yes e) go = one_byte l r m room b (d ∷ bs) (omega arith)
    by_end (no g) go =
        byte_says l r m room b (d ∷ bs)
        ∙ onward_inside l r m K (d ∷ bs) g
        ∙ ap (λ (c : Call). further 1 c) (hears_step (standing l 4 (r + 1) m) K d bs ∙ ap (λ (t : Stepped). onward 1 t bs) (byte_in_frame l (r + 1) m K d (omega arith) f_k) ∙ go (omega arith) f_k r_k)
        ∙ onward_more n (frame_run l (r + 1) m K (d ∷ bs)) (drop n (d ∷ bs))
        ∙ ap (λ (t : Stepped). onward (suc n) t (drop n (d ∷ bs))) same_run
        ∙ sym (ap (λ (k : ℕ). onward k (progressed l r k m (kept m room r (take k (b ∷ d ∷ bs)))) (drop k (b ∷ d ∷ bs))) up) ∙ ap (λ (t : Stepped). onward (run_size l r (length (b ∷ d ∷ bs))) t (drop (run_size l r (length (b ∷ d ∷ bs))) (b ∷ d ∷ bs))) (sym (run_says l r m room (b ∷ d ∷ bs)))
      where
        K : List ℕ
        K = kept m room r (b ∷ [])

        n : ℕ
        n = run_size l (r + 1) (length (d ∷ bs))

        up : run_size l r (length (b ∷ d ∷ bs)) ≡ suc n
        up = omega arith

        l_k : length K ≡ length room
        l_k = kept_length m room r (b ∷ []) (λ e. let w = fitted_room l (length room) m f e in omega arith)

        f_k : fitting l (length K) m ≡ m
        f_k = ap (λ (x : ℕ). fitting l x m) l_k ∙ f

        r_k : m ≡ 0 → r + 1 ≤ length K
        r_k e = let w = fitted_room l (length room) m f e in omega (arith, l_k)

        same_run : frame_run l (r + 1) m K (d ∷ bs) ≡ progressed l r (suc n) m (kept m room r (take (suc n) (b ∷ d ∷ bs)))
        same_run =
            run_says l (r + 1) m K (d ∷ bs)
            ∙ progressed_shift l r n m (kept m K (r + 1) (take n (d ∷ bs)))
            ∙ ap (λ (x : List ℕ). progressed l r (suc n) m x) (kept_twice m room r b (take n (d ∷ bs)) (λ e. let w = fitted_room l (length room) m f e in omega (arith, length-take n (d ∷ bs))))

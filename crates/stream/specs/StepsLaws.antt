-- Each step of the code is as many bytes one after the other, and leads to a state that goes on.
-- Assumes nothing.
use Rattle.std.specs.Prelude.{◌≡◌, List, [], ◌∷◌, Bool, true, false, cond, ◌&&◌, ℕ, zero, suc, ◌+◌, ◌*◌, ◌-◌, ◌^◌, ◌≤◌, ◌<◌, min, length, take, drop, get_or, eqb, ltb, leb}
use Rattle.std.proofs.Math.Path.{refl}
use Rattle.std.proofs.Common.{ap, sym, ◌∙◌, subst, pow-suc, add-one, arith, length-take, length-drop, drop_of_length-le, take_all, drop-drop, lt-ltb, le-ltb, eq-eqb, ne_eqb, eqb-true, ltb-true, leb-true}
use Rattle.std.proofs.lemmas.Bool.{false≢true}
use Rattle.std.proofs.Math.Bool.{and-eq-true_iff}
use Rattle.std.proofs.Math.Decide.{dec_lt, ℕ_discrete}
use Rattle.numbers.specs.Numbers.{unusable, frame_too_long}
use Rattle.limits.specs.Limits.{longest_frame}
use Rattle.frames.specs.Frames.{known, right}
use Rattle.stream.specs.Reading.{usable, usable_prefix, usable_frame, called, hear_answer, hear_room, mode_of, fitting, mode_at, kept, Said, nothing, message, keep_alive, wrong_skipped, large_skipped, refused_now, bad_state, quiet, number_of, event_of, size_of, Stepped, standing, between, says, prefixed, prefix_byte, said_at_end, progressed, frame_byte, byte, Call, unmoved, further, stopped, hears, answer_of}
use Rattle.stream.specs.ReadingLaws.{hears_step, run_of_frame, mode_fitted, fitted_room, kept_length}
use Rattle.stream.specs.Standing.{Going, Refused}
use Rattle.stream.specs.Steps.{without_event, prefix_answer, end_answer, onward, run_size, frame_run, frame_step, frame_answer_of, Stepping}
use Rattle.stream.specs.declared.Stream.{Stream}
use Rattle.stream.specs.declared.Heard.{Heard}

pub loud_heard : (h : Said) → ((number_of h ≡ 0) × (event_of h ≡ 0) → ⊥) → quiet h ≡ false
loud_heard nothing f = absurd (f (refl, refl))
loud_heard (message m) f = refl
loud_heard keep_alive f = refl
loud_heard wrong_skipped f = refl
loud_heard large_skipped f = refl
loud_heard refused_now f = refl
loud_heard bad_state f = refl

pub silent_heard : (h : Said) → number_of h ≡ 0 → event_of h ≡ 0 → quiet h ≡ true
silent_heard nothing e f = refl
silent_heard (message m) e f = let w : ⊥ = omega arith in absurd w
silent_heard keep_alive e f = let w : ⊥ = omega arith in absurd w
silent_heard wrong_skipped e f = let w : ⊥ = omega arith in absurd w
silent_heard large_skipped e f = let w : ⊥ = omega arith in absurd w
silent_heard refused_now e f = let w : ⊥ = omega arith in absurd w
silent_heard bad_state e f = let w : ⊥ = omega arith in absurd w

pub onward_quiet : (n : ℕ) (t : Stepped) (bs : List ℕ) → quiet t.said ≡ true → onward n t bs ≡ further n (hears t.state t.room bs)
unfolding onward
onward_quiet n t bs q = rw q

pub onward_loud : (n : ℕ) (t : Stepped) (bs : List ℕ) → quiet t.said ≡ false → onward n t bs ≡ stopped n t
unfolding onward
onward_loud n t bs q = rw q

stepping_to : (t : Stream) (room bs : List ℕ) (x : Stepped) (n : ℕ) → hears t room bs ≡ onward n x (drop n bs) → 0 < n → n ≤ length bs
    → length x.room ≡ length room → (quiet x.said ≡ true → Going x.state (length x.room))
    → Stepping t room bs (answer_of (stopped n x)) x.room
unfolding answer_of
stepping_to t room bs x n h s k l g =
    record {
      some = s;
      most = k;
      same_room = l;
      loud = λ f. let e = h ∙ onward_loud n x (drop n bs) (loud_heard x.said f) in (ap answer_of (sym e), ap (λ (c : Call). c.room) (sym e));
      silent = λ a b. let q = silent_heard x.said a b in (h ∙ onward_quiet n x (drop n bs) q, g q);
    }

pub stepping_of : (t : Stream) (room bs : List ℕ) (x : Stepped) (n : ℕ) (r : Heard) (room' : List ℕ) → r ≡ answer_of (stopped n x) → room' ≡ x.room
    → hears t room bs ≡ onward n x (drop n bs) → 0 < n → n ≤ length bs
    → length x.room ≡ length room → (quiet x.said ≡ true → Going x.state (length x.room))
    → Stepping t room bs r room'
stepping_of t room bs x n r room' e f h s k l g = rw (e, f) (stepping_to t room bs x n h s k l g)

-- ---- the states that follow

pub mode_range : (i n : ℕ) → mode_of i n < 4
unfolding mode_of
mode_range i n = by_tests (known i) (right i n)
  where
    by_tests : (a b : Bool) → cond a (cond b 0 2) 1 < 4
    by_tests true true = omega arith
    by_tests true false = omega arith
    by_tests false b = omega arith

pub mode_at_range : (t : Stream) (n b : ℕ) → t.mode < 4 → mode_at t n b < 4
unfolding mode_at fitting
mode_at_range t n b h = by_tests (eqb t.read 0)
  where
    fits : (m : ℕ) → m < 4 → (x y : Bool) → cond x (cond y 3 0) m < 4
    fits m k true true = omega arith
    fits m k true false = omega arith
    fits m k false y = k

    by_tests : (a : Bool) → cond (eqb (cond a (mode_of b t.length) t.mode) 0) (cond (ltb n t.length) 3 0) (cond a (mode_of b t.length) t.mode) < 4
    by_tests true = fits (mode_of b t.length) (mode_range b t.length) (eqb (mode_of b t.length) 0) (ltb n t.length)
    by_tests false = fits t.mode h (eqb t.mode 0) (ltb n t.length)

pub going_between : (n : ℕ) → Going between n
going_between n = record { in_prefix = λ k. (omega arith, refl, refl); in_frame = λ k. let w : ⊥ = omega arith in absurd w; running = omega arith }

-- the number that a prefix of so many bytes makes
pub prefix_number : (t : Stream) (n b : ℕ) → Going t n → t.length_size < 4 → b < 256 → t.length * 256 + b < 256 ^ (t.length_size + 1)
prefix_number t n b g k h = let p = (g.in_prefix k).0 in let e : 256 ^ (t.length_size + 1) ≡ 256 ^ t.length_size * 256 = rw (add-one t.length_size) (pow-suc 256 t.length_size) in omega (arith, p, e)

-- below 2^32
pub prefix_below : (t : Stream) (n b : ℕ) → Going t n → t.length_size < 4 → b < 256 → t.length * 256 + b < 4294967296
prefix_below t n b g k h = by_size t.length_size refl
  where
    q : t.length < 256 ^ t.length_size
    q = (g.in_prefix k).0

    by_size : (j : ℕ) → t.length_size ≡ j → t.length * 256 + b < 4294967296
    by_size zero e = let w : t.length < 256 ^ zero = (rw e at q) in omega arith
    by_size (suc zero) e = let w : t.length < 256 ^ (suc zero) = (rw e at q) in omega arith
    by_size (suc (suc zero)) e = let w : t.length < 256 ^ (suc (suc zero)) = (rw e at q) in omega arith
    by_size (suc (suc (suc zero))) e = let w : t.length < 256 ^ (suc (suc (suc zero))) = (rw e at q) in omega arith
    by_size (suc (suc (suc (suc j)))) e = let w : ⊥ = omega arith in absurd w

pub going_unrefused : (t : Stream) (room : List ℕ) (b n : ℕ) → Going t n → t.length_size < 4 → b < 256 → ((prefix_byte t room b).said ≡ refused_now → ⊥) → Going (prefix_byte t room b).state n
unfolding prefix_byte prefixed
going_unrefused t room b n g k h = by_size (ℕ_discrete t.length_size 3)
  where
    l : ℕ
    l = t.length * 256 + b

    goal : Stepped → Type 0
    goal x = (x.said ≡ refused_now → ⊥) → Going x.state n

    whole : Dec (longest_frame < l) → Dec (l ≡ 0) → goal (cond (ltb longest_frame l) (says refused_now (standing l 4 0 4) room) (cond (eqb l 0) (says keep_alive between room) (says nothing (standing l 4 0 0) room)))
    whole (yes a) d = rw (lt-ltb longest_frame l a) (λ q. absurd (q refl))
    whole (no a) (yes d) = rw (le-ltb longest_frame l (omega arith), eq-eqb l 0 d) (λ q. going_between n)
    whole (no a) (no d) =
        rw (le-ltb longest_frame l (omega arith), ne_eqb l 0 d)
        (λ q. record { in_prefix = λ z. let w : ⊥ = omega arith in absurd w; in_frame = λ z. (refl, omega arith, omega arith, λ y. omega arith, λ y. let w : ⊥ = omega arith in absurd w); running = omega arith })

    by_size : Dec (t.length_size ≡ 3)
        → goal (cond (eqb t.length_size 3) (cond (ltb longest_frame l) (says refused_now (standing l 4 0 4) room) (cond (eqb l 0) (says keep_alive between room) (says nothing (standing l 4 0 0) room))) (says nothing (standing l (t.length_size + 1) 0 0) room))
    by_size (yes e) = rw (eq-eqb t.length_size 3 e) (whole (dec_lt longest_frame l) (ℕ_discrete l 0))
    by_size (no e) =
        rw (ne_eqb t.length_size 3 e)
        (λ q. record { in_prefix = λ z. (prefix_number t n b g k h, refl, refl); in_frame = λ z. let w : ⊥ = omega arith in absurd w; running = omega arith })

pub going_prefix : (t : Stream) (room : List ℕ) (b n : ℕ) → Going t n → t.length_size < 4 → b < 256 → quiet (prefix_byte t room b).said ≡ true → Going (prefix_byte t room b).state n
going_prefix t room b n g k h q = going_unrefused t room b n g k h (λ e. false≢true (sym (ap quiet e) ∙ q))

-- a byte of the prefix leaves the room, and says the same in any
pub prefix_any_room : (t : Stream) (room : List ℕ) (b : ℕ) → (prefix_answer t b ≡ answer_of (stopped 1 (prefix_byte t room b))) × (room ≡ (prefix_byte t room b).room)
unfolding prefix_answer prefix_byte prefixed answer_of
prefix_any_room t room b = by_tests (eqb t.length_size 3) (ltb longest_frame l) (eqb l 0)
  where
    l : ℕ
    l = t.length * 256 + b

    made : Bool → Bool → Bool → List ℕ → Stepped
    made x y z room = cond x (cond y (says refused_now (standing l 4 0 4) room) (cond z (says keep_alive between room) (says nothing (standing l 4 0 0) room))) (says nothing (standing l (t.length_size + 1) 0 0) room)

    answer : Stepped → Heard
    answer x = record { number = number_of x.said; event = event_of x.said; used = 1; size = size_of x.said; state = x.state }

    by_tests : (x y z : Bool) → (answer (made x y z []) ≡ answer (made x y z room)) × (room ≡ (made x y z room).room)
    by_tests true true z = (refl, refl)
    by_tests true false true = (refl, refl)
    by_tests true false false = (refl, refl)
    by_tests false y z = (refl, refl)

pub byte_is_prefix : (t : Stream) (room : List ℕ) (b : ℕ) → t.length_size < 4 → byte t room b ≡ prefix_byte t room b
unfolding byte
byte_is_prefix t room b h = rw (lt-ltb t.length_size 4 h)

pub byte_is_frame : (t : Stream) (room : List ℕ) (b : ℕ) → 4 ≤ t.length_size → byte t room b ≡ frame_byte t.length t.read (mode_at t (length room) b) room b
unfolding byte
byte_is_frame t room b h = rw (le-ltb t.length_size 4 h)

pub prefix_stepping : (t : Stream) (room bs : List ℕ) (b : ℕ) (r : Heard) → Going t (length room) → t.length_size < 4 → 0 < length bs → b ≡ get_or bs 0 0 → b < 256
    → r ≡ prefix_answer t b → Stepping t room bs r room
prefix_stepping t room [] b r g k h eb hb e = let w : ⊥ = omega arith in absurd w
prefix_stepping t room (d ∷ ds) b r g k h eb hb e =
    let a = prefix_any_room t room d in
    let hd : d < 256 = omega arith in
    stepping_of t room (d ∷ ds) (prefix_byte t room d) 1 r room (e ∙ ap (prefix_answer t) eb ∙ a.0) a.1
    (hears_step t room d ds ∙ ap (λ (x : Stepped). onward 1 x ds) (byte_is_prefix t room d k)) (omega arith) (omega arith) (ap length (sym a.1))
    (λ q. rw (← a.1) (going_prefix t room d (length room) g k hd q))

pub progressed_room : (l r n m : ℕ) (room : List ℕ) → (progressed l r n m room).room ≡ room
unfolding progressed
progressed_room l r n m room = by_end (eqb (r + n) l)
  where
    by_end : (x : Bool) → (cond x (says (said_at_end l m room) between room) (says nothing (standing l 4 (r + n) m) room)).room ≡ room
    by_end true = refl
    by_end false = refl

going_progressed : (l r n m : ℕ) (room : List ℕ) (N : ℕ) → l ≤ longest_frame → 0 < n → r + n ≤ l → m < 4 → (m ≡ 0 → l ≤ N) → Going (progressed l r n m room).state N
unfolding progressed
going_progressed l r n m room N a s k h z = by_end (ℕ_discrete (r + n) l)
  where
    by_end : Dec (r + n ≡ l) → Going (cond (eqb (r + n) l) (says (said_at_end l m room) between room) (says nothing (standing l 4 (r + n) m) room)).state N
    by_end (yes e) = rw (eq-eqb (r + n) l e) (going_between N)
    by_end (no g) =
        rw (ne_eqb (r + n) l g)
        (record { in_prefix = λ y. let w : ⊥ = omega arith in absurd w; in_frame = λ y. (refl, a, omega arith, λ x. let q = z x in omega arith, λ x. omega arith); running = h })

pub frame_stepping : (t : Stream) (room bs : List ℕ) (r : Heard) (room' : List ℕ) → Going t (length room) → 4 ≤ t.length_size → 0 < length bs
    → r ≡ frame_answer_of t room bs → room' ≡ (frame_step t room bs).room → Stepping t room bs r room'
unfolding frame_step frame_answer_of frame_run
frame_stepping t room [] r room' g k h e f = let w : ⊥ = omega arith in absurd w
frame_stepping t room (b ∷ bs) r room' g k h e f =
    let i = g.in_frame k in
    let m : ℕ = mode_at t (length room) b in
    let n : ℕ = run_size t.length t.read (length (b ∷ bs)) in
    let fm = mode_fitted t (length room) b in
    let room_for : m ≡ 0 → t.length ≤ length room = fitted_room t.length (length room) m fm in
    let lr : length (progressed t.length t.read n m (kept m room t.read (take n (b ∷ bs)))).room ≡ length room =
    ap length (progressed_room t.length t.read n m (kept m room t.read (take n (b ∷ bs))))
    ∙ kept_length m room t.read (take n (b ∷ bs)) (λ z. let q = room_for z in omega (arith, length-take n (b ∷ bs), i.2)) in
    stepping_of t room (b ∷ bs) (frame_step t room (b ∷ bs)) n r room' e f
    (hears_step t room b bs ∙ ap (λ (x : Stepped). onward 1 x bs) (byte_is_frame t room b k)
    ∙ run_of_frame t.length t.read m room b bs i.2 fm (λ z. let q = room_for z in omega (arith, i.2)))
    (omega (arith, i.2)) (omega arith) lr
    (λ q. rw lr (going_progressed t.length t.read n m (kept m room t.read (take n (b ∷ bs))) (length room) i.1 (omega (arith, i.2)) (omega (arith, i.2)) (mode_at_range t (length room) b g.running) room_for))

-- ---- the code's loop

further_none : (c : Call) → c ≡ further 0 c
further_none c = let e : c.used ≡ 0 + c.used = omega arith in ap (λ (n : ℕ). record { said = c.said; used = n; state = c.state; room = c.room }) e

pub run_holds : (s : Stream) (room bs : List ℕ) → hears s room bs ≡ further 0 (hears s room (drop 0 bs))
run_holds s room bs = further_none (hears s room bs)

part_is_rest : (bs : List ℕ) (at : ℕ) → take (length bs - at) (drop at bs) ≡ drop at bs
part_is_rest bs at = take_all (length bs - at) (drop at bs) (omega (arith, length-drop at bs))

pub run_again : (s t : Stream) (room₀ room bs : List ℕ) (at : ℕ) (p : Heard) (room' : List ℕ) → hears s room₀ bs ≡ further at (hears t room (drop at bs))
    → Stepping t room (take (length bs - at) (drop at bs)) p room' → p.number ≡ 0 → p.event ≡ 0
    → hears s room₀ bs ≡ further (at + p.used) (hears p.state room' (drop (at + p.used) bs))
run_again s t room₀ room bs at p room' e st a b =
    let k : hears t room (drop at bs) ≡ further p.used (hears p.state room' (drop p.used (drop at bs))) =
    subst (λ (l : List ℕ). hears t room l ≡ further p.used (hears p.state room' (drop p.used l))) (part_is_rest bs at) (st.silent a b).0 in
    e ∙ ap (further at) k ∙ twice at p.used (hears p.state room' (drop p.used (drop at bs)))
    ∙ ap (λ (l : List ℕ). further (at + p.used) (hears p.state room' l)) (drop-drop p.used at bs)
  where
    twice : (a b : ℕ) (c : Call) → further a (further b c) ≡ further (a + b) c
    twice a b c = let f : a + (b + c.used) ≡ a + b + c.used = omega arith in ap (λ (n : ℕ). record { said = c.said; used = n; state = c.state; room = c.room }) f

pub run_loud : (s t : Stream) (room₀ room bs : List ℕ) (at : ℕ) (p : Heard) (room' : List ℕ) → hears s room₀ bs ≡ further at (hears t room (drop at bs))
    → Stepping t room (take (length bs - at) (drop at bs)) p room' → ((p.number ≡ 0) × (p.event ≡ 0) → ⊥)
    → (record { number = p.number; event = p.event; used = at + p.used; size = p.size; state = p.state } ≡ answer_of (hears s room₀ bs)) × (room' ≡ (hears s room₀ bs).room)
unfolding answer_of
run_loud s t room₀ room bs at p room' e st f =
    let k = st.loud f in
    let a : p ≡ answer_of (hears t room (drop at bs)) = k.0 ∙ ap (λ (l : List ℕ). answer_of (hears t room l)) (part_is_rest bs at) in (
      ap (λ (h : Heard). record { number = h.number; event = h.event; used = at + h.used; size = h.size; state = h.state }) a ∙ ap answer_of (sym e),
      k.1 ∙ ap (λ (l : List ℕ). (hears t room l).room) (part_is_rest bs at) ∙ ap (λ (c : Call). c.room) (sym e),
    )

pub run_ends : (s t : Stream) (room₀ room bs : List ℕ) (at : ℕ) → hears s room₀ bs ≡ further at (hears t room (drop at bs)) → length bs ≤ at
    → (record { number = 0; event = 0; used = at; size = 0; state = t } ≡ answer_of (hears s room₀ bs)) × (room ≡ (hears s room₀ bs).room)
unfolding answer_of
run_ends s t room₀ room bs at e h =
    let d : drop at bs ≡ [] = drop_of_length-le bs {i = at} h in
    let k : hears s room₀ bs ≡ further at (hears t room []) = e ∙ ap (λ (l : List ℕ). further at (hears t room l)) d in
    let z : at ≡ at + 0 = omega arith in
    (ap (λ (n : ℕ). record { number = 0; event = 0; used = n; size = 0; state = t }) z ∙ none t room at ∙ ap answer_of (sym k), none_room t room ∙ ap (λ (c : Call). c.room) (sym k))
  where
    none : (t : Stream) (room : List ℕ) (at : ℕ) → record { number = 0; event = 0; used = at + 0; size = 0; state = t } ≡ answer_of (further at (hears t room []))
    none t room at = unfold hears answer_of in refl

    none_room : (t : Stream) (room : List ℕ) → room ≡ (hears t room []).room
    none_room t room = unfold hears in refl

-- ---- the whole call

pub usable_going : (s : Stream) (n : ℕ) → usable s n ≡ true → (s.mode ≡ 4 → ⊥) → Going s n
unfolding usable usable_prefix usable_frame
usable_going s n u f = by_size (dec_lt s.length_size 4)
  where
    both : {a b : Bool} → (a && b) ≡ true → (a ≡ true) × (b ≡ true)
    both {a} {b} e = (and-eq-true_iff a b).0 e

    by_mode : Dec (s.mode ≡ 0) → cond (eqb s.mode 0) (leb s.read n) (ltb 0 s.read && ltb s.mode 4) ≡ true → (s.mode ≡ 0 → s.read ≤ n) × (0 < s.mode → 0 < s.read) × (s.mode < 4)
    by_mode (yes e) q = let w : leb s.read n ≡ true = (rw (eq-eqb s.mode 0 e) at q) in let v = leb-true s.read n w in (λ z. v, λ z. let x : ⊥ = omega arith in absurd x, omega arith)
    by_mode (no e) q = let w : (ltb 0 s.read && ltb s.mode 4) ≡ true = (rw (ne_eqb s.mode 0 e) at q) in let v = both w in (λ z. absurd (e z), λ z. ltb-true 0 s.read v.0, ltb-true s.mode 4 v.1)

    by_size : Dec (s.length_size < 4) → Going s n
    by_size (yes k) =
        let q : (eqb s.read 0 && eqb s.mode 0 && ltb s.length (256 ^ s.length_size)) ≡ true = (rw (lt-ltb s.length_size 4 k) at u) in
        let v = both q in
        let x = both v.0 in
        let m = eqb-true s.mode 0 x.1 in
        record { in_prefix = λ z. (ltb-true s.length (256 ^ s.length_size) v.1, eqb-true s.read 0 x.0, m); in_frame = λ z. let w : ⊥ = omega arith in absurd w; running = omega arith }
    by_size (no k) =
        let q : (eqb s.length_size 4 && (leb s.length longest_frame && ltb s.read s.length && cond (eqb s.mode 0) (leb s.read n) (ltb 0 s.read && ltb s.mode 4))) ≡ true = (rw (le-ltb s.length_size 4 (omega arith), ne_eqb s.mode 4 f) at u) in
        let v = both q in
        let x = both v.1 in
        let y = both x.0 in
        let m = by_mode (ℕ_discrete s.mode 0) x.1 in
        record { in_prefix = λ z. absurd (k z); in_frame = λ z. (eqb-true s.length_size 4 v.0, leb-true s.length longest_frame y.0, ltb-true s.read s.length y.1, m.0, m.1); running = m.2 }

pub called_unusable : (s : Stream) (room bs : List ℕ) → usable s (length room) ≡ false → called s room bs ≡ unmoved bad_state s room
unfolding called
called_unusable s room bs e = rw e

pub called_refused : (s : Stream) (room bs : List ℕ) → usable s (length room) ≡ true → s.mode ≡ 4 → called s room bs ≡ unmoved refused_now s room
unfolding called
called_refused s room bs e f = rw (e, eq-eqb s.mode 4 f)

pub called_runs : (s : Stream) (room bs : List ℕ) → usable s (length room) ≡ true → (s.mode ≡ 4 → ⊥) → called s room bs ≡ hears s room bs
unfolding called
called_runs s room bs e f = rw (e, ne_eqb s.mode 4 f)

pub hear_unusable : (s : Stream) (room bs : List ℕ) → usable s (length room) ≡ false
    → (record { number = unusable; event = 0; used = 0; size = 0; state = s } ≡ hear_answer s room bs) × (room ≡ hear_room s room bs)
unfolding hear_answer hear_room answer_of
hear_unusable s room bs e = let k = sym (called_unusable s room bs e) in (ap answer_of k, ap (λ (c : Call). c.room) k)

pub hear_refused : (s : Stream) (room bs : List ℕ) → usable s (length room) ≡ true → s.mode ≡ 4
    → (record { number = frame_too_long; event = 0; used = 0; size = 0; state = s } ≡ hear_answer s room bs) × (room ≡ hear_room s room bs)
unfolding hear_answer hear_room answer_of
hear_refused s room bs e f = let k = sym (called_refused s room bs e f) in (ap answer_of k, ap (λ (c : Call). c.room) k)

pub hear_run : (s : Stream) (room bs : List ℕ) (r : Heard) (room' : List ℕ) → usable s (length room) ≡ true → (s.mode ≡ 4 → ⊥)
    → (r ≡ answer_of (hears s room bs)) × (room' ≡ (hears s room bs).room) → (r ≡ hear_answer s room bs) × (room' ≡ hear_room s room bs)
unfolding hear_answer hear_room
hear_run s room bs r room' e f g = let k = sym (called_runs s room bs e f) in (g.0 ∙ ap answer_of k, g.1 ∙ ap (λ (c : Call). c.room) k)

-- ---- the run of a frame, as coded

pub within_part : (bs : List ℕ) (at n : ℕ) → at ≤ length bs → n ≤ length (take (length bs - at) (drop at bs)) → at + n ≤ length bs
within_part bs at n h k = omega (arith, length-take (length bs - at) (drop at bs), length-drop at bs)

pub part_some : (bs : List ℕ) (at : ℕ) → at < length bs → 0 < length (take (length bs - at) (drop at bs))
part_some bs at h = omega (arith, length-take (length bs - at) (drop at bs), length-drop at bs)

end_answers : (l m n : ℕ) (room : List ℕ) → (m ≡ 0 → l ≤ length room) → end_answer l m n ≡ answer_of (stopped n (says (said_at_end l m room) between room))
unfolding end_answer answer_of said_at_end
end_answers l m n room h = by_mode (ℕ_discrete m 0) (ℕ_discrete m 1) (ℕ_discrete m 2)
  where
    given : Said → Heard
    given x = record { number = number_of x; event = event_of x; used = n; size = size_of x; state = between }

    first : ℕ → Heard
    first k = record { number = 0; event = 1; used = n; size = k; state = between }

    by_mode : Dec (m ≡ 0) → Dec (m ≡ 1) → Dec (m ≡ 2)
        → cond (eqb m 0) (first l) (cond (eqb m 1) (given nothing) (cond (eqb m 2) (given wrong_skipped) (given large_skipped)))
        ≡ given (cond (eqb m 0) (message (take l room)) (cond (eqb m 1) nothing (cond (eqb m 2) wrong_skipped large_skipped)))
    by_mode (yes e) y z = let w = h e in let k : l ≡ length (take l room) = omega (arith, length-take l room) in rw (eq-eqb m 0 e) (ap first k)
    by_mode (no e) (yes f) z = rw (ne_eqb m 0 e, eq-eqb m 1 f)
    by_mode (no e) (no f) (yes g) = rw (ne_eqb m 0 e, ne_eqb m 1 f, eq-eqb m 2 g)
    by_mode (no e) (no f) (no g) = rw (ne_eqb m 0 e, ne_eqb m 1 f, ne_eqb m 2 g)

pub progressed_end : (l r n m : ℕ) (room : List ℕ) → r + n ≡ l → progressed l r n m room ≡ says (said_at_end l m room) between room
unfolding progressed
progressed_end l r n m room e = rw (eq-eqb (r + n) l e)

pub progressed_on : (l r n m : ℕ) (room : List ℕ) → (r + n ≡ l → ⊥) → progressed l r n m room ≡ says nothing (standing l 4 (r + n) m) room
unfolding progressed
progressed_on l r n m room e = rw (ne_eqb (r + n) l e)

-- as the code has it, for its own names of mode and size
step_says : (t : Stream) (room bs : List ℕ) (m n : ℕ) → m ≡ mode_at t (length room) (get_or bs 0 0) → n ≡ min (t.length - t.read) (length bs)
    → (frame_answer_of t room bs ≡ answer_of (stopped n (progressed t.length t.read n m (kept m room t.read (take n bs)))))
    × (frame_step t room bs ≡ progressed t.length t.read n m (kept m room t.read (take n bs)))
unfolding frame_answer_of frame_step frame_run
step_says t room bs m n em en = rw (em, en) (refl, refl)

pub room_for_it : (t : Stream) (n b m : ℕ) → m ≡ mode_at t n b → m ≡ 0 → t.length ≤ n
room_for_it t n b m e z = fitted_room t.length n (mode_at t n b) (mode_fitted t n b) (sym e ∙ z)

pub frame_ended : (t : Stream) (room bs : List ℕ) (m n : ℕ) (r : Heard) (room' : List ℕ) → Going t (length room) → 4 ≤ t.length_size
    → m ≡ mode_at t (length room) (get_or bs 0 0) → n ≡ min (t.length - t.read) (length bs) → n ≡ t.length - t.read
    → room' ≡ kept m room t.read (take (n - 0) bs) → r ≡ end_answer t.length m n
    → (r ≡ frame_answer_of t room bs) × (room' ≡ (frame_step t room bs).room)
frame_ended t room bs m n r room' g k em en e er ea =
    let i = g.in_frame k in
    let z : n - 0 ≡ n = omega arith in
    let er' : room' ≡ kept m room t.read (take n bs) = er ∙ ap (λ (x : ℕ). kept m room t.read (take x bs)) z in
    let w = step_says t room bs m n em en in
    let q = progressed_end t.length t.read n m (kept m room t.read (take n bs)) (omega (arith, i.2)) in
    let fits : m ≡ 0 → t.length ≤ length (kept m room t.read (take n bs)) = λ x. let y = room_for_it t (length room) (get_or bs 0 0) m em x in
    omega (arith, kept_length m room t.read (take n bs) (λ v. omega (arith, length-take n bs, i.2))) in (
      ea ∙ end_answers t.length m n (kept m room t.read (take n bs)) fits ∙ ap (λ (x : Stepped). answer_of (stopped n x)) (sym q) ∙ sym w.0,
      er' ∙ sym (ap (λ (x : Stepped). x.room) (w.1 ∙ q)),
    )

pub frame_inside : (t : Stream) (room bs : List ℕ) (m n on : ℕ) (next : Stream) (r : Heard) (room' : List ℕ) → Going t (length room) → 4 ≤ t.length_size
    → m ≡ mode_at t (length room) (get_or bs 0 0) → n ≡ min (t.length - t.read) (length bs) → (n ≡ t.length - t.read → ⊥)
    → room' ≡ kept m room t.read (take (n - 0) bs) → on ≡ t.read + n → next ≡ standing t.length 4 on m → r ≡ without_event 0 n next
    → (r ≡ frame_answer_of t room bs) × (room' ≡ (frame_step t room bs).room)
unfolding answer_of
frame_inside t room bs m n on next r room' g k em en e er eo ex ea =
    let i = g.in_frame k in
    let z : n - 0 ≡ n = omega arith in
    let er' : room' ≡ kept m room t.read (take n bs) = er ∙ ap (λ (x : ℕ). kept m room t.read (take x bs)) z in
    let w = step_says t room bs m n em en in
    let q = progressed_on t.length t.read n m (kept m room t.read (take n bs)) (λ x. e (omega (arith, i.2))) in
    let said : r ≡ without_event 0 n (standing t.length 4 (t.read + n) m) = ea ∙ ap (without_event 0 n) (ex ∙ ap (λ (x : ℕ). standing t.length 4 x m) eo) in
    (said ∙ ap (λ (x : Stepped). answer_of (stopped n x)) (sym q) ∙ sym w.0, er' ∙ sym (ap (λ (x : Stepped). x.room) (w.1 ∙ q)))

pub keep_fits : (t : Stream) (N b m n k : ℕ) (bs : List ℕ) → Going t N → 4 ≤ t.length_size → m ≡ mode_at t N b → n ≡ min (t.length - t.read) k → m ≡ 0
    → t.read + length (take (n - 0) bs) ≤ N
keep_fits t N b m n k bs g h em en z = let y = room_for_it t N b m em z in let i = g.in_frame h in omega (arith, length-take (n - 0) bs, i.2)

pub frame_byte_is : (l r m : ℕ) (room : List ℕ) (b : ℕ) → frame_byte l r m room b ≡ progressed l r 1 m (kept m room r (b ∷ []))
unfolding frame_byte
frame_byte_is l r m room b = refl

progressed_unrefused : (l r n m : ℕ) (room : List ℕ) → number_of (progressed l r n m room).said ≡ frame_too_long → ⊥
unfolding progressed said_at_end
progressed_unrefused l r n m room = by_tests (eqb (r + n) l) (eqb m 0) (eqb m 1) (eqb m 2)
  where
    by_tests : (x y z v : Bool)
        → number_of (cond x (says (cond y (message (take l room)) (cond z nothing (cond v wrong_skipped large_skipped))) between room) (says nothing (standing l 4 (r + n) m) room)).said ≡ frame_too_long → ⊥
    by_tests true true z v e = omega arith
    by_tests true false true v e = omega arith
    by_tests true false false true e = omega arith
    by_tests true false false false e = omega arith
    by_tests false y z v e = omega arith

prefix_refused : (t : Stream) (room : List ℕ) (b : ℕ) → number_of (prefix_byte t room b).said ≡ frame_too_long → Refused (prefix_byte t room b).state
unfolding prefix_byte prefixed
prefix_refused t room b = by_tests (eqb t.length_size 3) (ltb longest_frame (t.length * 256 + b)) (eqb (t.length * 256 + b) 0) refl
  where
    made : Bool → Bool → Bool → Stepped
    made x y z = cond x (cond y (says refused_now (standing (t.length * 256 + b) 4 0 4) room) (cond z (says keep_alive between room) (says nothing (standing (t.length * 256 + b) 4 0 0) room))) (says nothing (standing (t.length * 256 + b) (t.length_size + 1) 0 0) room)

    by_tests : (x y z : Bool) → ltb longest_frame (t.length * 256 + b) ≡ y → number_of (made x y z).said ≡ frame_too_long → Refused (made x y z).state
    by_tests true true z f e = record { whole = refl; long = ltb-true longest_frame (t.length * 256 + b) f; none = refl; mode = refl }
    by_tests true false true f e = let w : ⊥ = omega arith in absurd w
    by_tests true false false f e = let w : ⊥ = omega arith in absurd w
    by_tests false y z f e = let w : ⊥ = omega arith in absurd w

-- ---- one byte, from a state that goes on

pub byte_going : (t : Stream) (room : List ℕ) (b : ℕ) → Going t (length room) → b < 256 → ((byte t room b).said ≡ refused_now → ⊥) → Going (byte t room b).state (length (byte t room b).room)
byte_going t room b g h f = by_size (dec_lt t.length_size 4)
  where
    by_size : Dec (t.length_size < 4) → Going (byte t room b).state (length (byte t room b).room)
    by_size (yes k) =
        let e = byte_is_prefix t room b k in
        let a = (prefix_any_room t room b).1 in
        rw (e, ← a) (going_unrefused t room b (length room) g k h (λ x. f (ap (λ (y : Stepped). y.said) e ∙ x)))
    by_size (no k) =
        let e = byte_is_frame t room b (omega arith) in
        let i = g.in_frame (omega arith) in
        let m : ℕ = mode_at t (length room) b in
        let fm = mode_fitted t (length room) b in
        let room_for : m ≡ 0 → t.length ≤ length room = fitted_room t.length (length room) m fm in
        let R : List ℕ = kept m room t.read (b ∷ []) in
        let lr : length (progressed t.length t.read 1 m R).room ≡ length room =
        ap length (progressed_room t.length t.read 1 m R) ∙ kept_length m room t.read (b ∷ []) (λ z. let q = room_for z in omega (arith, i.2)) in
        rw (e, frame_byte_is t.length t.read m room b, lr)
        (going_progressed t.length t.read 1 m R (length room) i.1 (omega arith) (omega (arith, i.2)) (mode_at_range t (length room) b g.running) room_for)

-- 30 is heard only with the refused state
pub byte_refused : (t : Stream) (room : List ℕ) (b : ℕ) → Going t (length room) → number_of (byte t room b).said ≡ frame_too_long → Refused (byte t room b).state
byte_refused t room b g e = by_size (dec_lt t.length_size 4)
  where
    by_size : Dec (t.length_size < 4) → Refused (byte t room b).state
    by_size (yes k) = let q = byte_is_prefix t room b k in rw q (prefix_refused t room b (rw q at e))
    by_size (no k) =
        let q = byte_is_frame t room b (omega arith) in
        absurd (progressed_unrefused t.length t.read 1 (mode_at t (length room) b) (kept (mode_at t (length room) b) room t.read (b ∷ [])) (rw (q, frame_byte_is t.length t.read (mode_at t (length room) b) room b) at e))

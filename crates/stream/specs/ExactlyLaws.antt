-- 02, request 9, as theorems: every stream says something, frame by frame, so that what is heard is exactly that; a message that is heard is
-- right, and is the bytes behind its prefix; its frame is the only one.
-- Assumes nothing.
use Rattle.std.specs.Prelude.{◌≡◌, refl, ◌⊎◌, Bool, true, false, cond, ℕ, zero, suc, ◌+◌, ◌*◌, ◌^◌, ◌/◌, ◌%◌, ◌≤◌, ◌<◌, length, take, drop, get_or, ltb, List, [], ◌∷◌, ◌++◌}
use Rattle.std.proofs.Common.{ap, sym, ◌∙◌, subst, inl, inr, arith, length-append, length-drop, take-append-drop, ltb-false, append_assoc, append-nil}
use Rattle.std.proofs.Math.Path.{ap₂}
use Rattle.std.proofs.lemmas.Bool.{false≢true}
use Rattle.std.proofs.Math.Decide.{dec_lt}
use Rattle.std.proofs.Math.ListN.{length-take}
use Rattle.octets.specs.Octets.{be}
use Rattle.limits.specs.Limits.{longest_frame}
use Rattle.frames.specs.Frames.{Bytes, known, right, frame_of}
use Rattle.frames.specs.FramesLaws.{bytes_rest, frame_length}
use Rattle.stream.specs.Reading.{Said, nothing, message, keep_alive, wrong_skipped, large_skipped, refused_now, bad_state, quiet, between}
use Rattle.stream.specs.Cuttings.{streamed}
use Rattle.stream.specs.Saying.{frame_says, hearing, partly, heard_as, Says, a_frame, too_long, in_prefix, in_frame, Unheard, no_frames, unknown, Among}
use Rattle.stream.specs.SayingLaws.{says_heard}
use Rattle.stream.specs.declared.Stream.{Stream}

-- ---- four bytes are the prefix of the number that they make

pub prefix_of : (a b c d : ℕ) → a < 256 → b < 256 → c < 256 → d < 256 → be 4 (((a * 256 + b) * 256 + c) * 256 + d) ≡ a ∷ b ∷ c ∷ d ∷ []
prefix_of a b c d ha hb hc hd = four _ _ _ _ _ _ _ _ first second third fourth
  where
    l : ℕ
    l = ((a * 256 + b) * 256 + c) * 256 + d

    first : (l / 16777216) % 256 ≡ a
    first = omega arith

    second : (l / 65536) % 256 ≡ b
    second = omega arith

    third : (l / 256) % 256 ≡ c
    third = omega arith

    fourth : (l / 1) % 256 ≡ d
    fourth = omega arith

    four : (w x y z w' x' y' z' : ℕ) → w ≡ w' → x ≡ x' → y ≡ y' → z ≡ z' → ◌≡◌ {A = List ℕ} (w ∷ x ∷ y ∷ z ∷ []) (w' ∷ x' ∷ y' ∷ z' ∷ [])
    four w x y z w' x' y' z' e f g h = rw (e, f, g, h)

-- ---- every stream says something

abbrev pub SaysSome : ℕ → List ℕ → Type 0
SaysSome n bs = (hs : List Said) × (s : Stream) × Says n bs hs s

-- behind the prefix of l
behind_prefix : (n k l : ℕ) (q : List ℕ) → ((r : List ℕ) → length r ≤ k → Bytes r → SaysSome n r) → length q ≤ k → Bytes q → l < 256 ^ 4 → SaysSome n (be 4 l ++ q)
behind_prefix n k l q go h y b = by_length (dec_lt longest_frame l) (dec_lt (length q) l)
  where
    whole : l ≤ length q → frame_of (take l q) ++ drop l q ≡ be 4 l ++ q
    whole e =
        unfold frame_of in
        (append_assoc (be 4 (length (take l q))) (take l q) (drop l q)
        ∙ ap₂ (λ (j : ℕ) (x : List ℕ). be 4 j ++ x) (let w = length-take l q in omega (arith, w)) (take-append-drop l q))

    rest : Bytes (drop l q)
    rest = bytes_rest (take l q) (drop l q) (subst Bytes (sym (take-append-drop l q)) y)

    by_length : Dec (longest_frame < l) → Dec (length q < l) → SaysSome n (be 4 l ++ q)
    by_length (yes e) d = (_, _, too_long l q e b)
    by_length (no e) (yes f) = (_, _, in_frame l q (omega arith) f)
    by_length (no e) (no f) =
        let r = go (drop l q) (let w = length-drop l q in omega (arith, w)) rest in
        subst (SaysSome n) (whole (omega arith)) (_, _, a_frame (take l q) (let w = length-take l q in omega (arith, w)) r.2)

one_more : (n k : ℕ) → ((r : List ℕ) → length r ≤ k → Bytes r → SaysSome n r) → (bs : List ℕ) → length bs ≤ suc k → Bytes bs → SaysSome n bs
unfolding Bytes
one_more n k go [] h y = (_, _, in_prefix [] (omega arith))
one_more n k go (a ∷ []) h y = (_, _, in_prefix (a ∷ []) (omega arith))
one_more n k go (a ∷ b ∷ []) h y = (_, _, in_prefix (a ∷ b ∷ []) (omega arith))
one_more n k go (a ∷ b ∷ c ∷ []) h y = (_, _, in_prefix (a ∷ b ∷ c ∷ []) (omega arith))
one_more n k go (a ∷ b ∷ c ∷ d ∷ q) h y =
    let ha = y.0 in
    let hb = y.1.0 in
    let hc = y.1.1.0 in
    let hd = y.1.1.1.0 in
    subst (λ (x : List ℕ). SaysSome n (x ++ q)) (prefix_of a b c d ha hb hc hd)
    (behind_prefix n k (((a * 256 + b) * 256 + c) * 256 + d) q go (omega arith) y.1.1.1.1 (omega arith))

says_some : (n k : ℕ) (bs : List ℕ) → length bs ≤ k → Bytes bs → SaysSome n bs
says_some n zero [] h y = (_, _, in_prefix [] (omega arith))
says_some n zero (b ∷ bs) h y = let w : ⊥ = omega arith in absurd w
says_some n (suc k) bs h y = one_more n k (says_some n k) bs h y

-- so what is heard, and the state, is exactly what the bytes say
pub heard_says : (bs room : List ℕ) → Bytes bs → Says (length room) bs (streamed between room bs).heard (streamed between room bs).state
heard_says bs room y =
    let r = says_some (length room) (length bs) bs (omega arith) y in
    let e = says_heard r.2 y room refl in
    rw (e.0, e.1) r.2

-- ---- what one frame says

-- what is true of a message that a frame says in a room of n bytes
pub record RightMessage (m : List ℕ) (n : ℕ) : Type 0 where
  pub some : 0 < length m
  pub id : known (get_or m 0 0) ≡ true
  pub size : right (get_or m 0 0) (length m) ≡ true
  pub fits : length m ≤ n

unmessage : {a b : List ℕ} → message a ≡ message b → a ≡ b
unmessage {a} {b} e = ap of e
  where
    of : Said → List ℕ
    of nothing = a
    of (message m) = m
    of keep_alive = a
    of wrong_skipped = a
    of large_skipped = a
    of refused_now = a
    of bad_state = a

abbrev is_message : Said → Bool
is_message nothing = false
is_message (message m) = true
is_message keep_alive = false
is_message wrong_skipped = false
is_message large_skipped = false
is_message refused_now = false
is_message bad_state = false

-- a message is said of the frame that it is, and of no other
pub message_says : (f : List ℕ) (n : ℕ) (m : List ℕ) → frame_says f n ≡ message m → (f ≡ m) × RightMessage m n
unfolding frame_says
message_says [] n m e = absurd (false≢true (ap is_message e))
message_says (i ∷ f) n m e = by_tests (known i) refl (right i (length (i ∷ f))) refl (ltb n (length (i ∷ f))) refl e
  where
    by_tests : (x : Bool) → known i ≡ x → (y : Bool) → right i (length (i ∷ f)) ≡ y → (z : Bool) → ltb n (length (i ∷ f)) ≡ z
        → cond x (cond y (cond z large_skipped (message (i ∷ f))) wrong_skipped) nothing ≡ message m → (i ∷ f ≡ m) × RightMessage m n
    by_tests true k true r true l e = absurd (false≢true (ap is_message e))
    by_tests true k true r false l e =
        let q : i ∷ f ≡ m = unmessage e in
        (q, subst (λ (x : List ℕ). RightMessage x n) q (record { some = omega arith; id = k; size = r; fits = ltb-false n (length (i ∷ f)) l }))
    by_tests true k false r z l e = absurd (false≢true (ap is_message e))
    by_tests false k y r z l e = absurd (false≢true (ap is_message e))

-- ---- a message that is heard

-- it is right, not too long, and its frame stands in the bytes
pub record HeardIn (m bs : List ℕ) (n : ℕ) : Type 0 where
  pub right : RightMessage m n
  pub short : length m ≤ longest_frame
  pub front : List ℕ
  pub back : List ℕ
  pub stands : bs ≡ front ++ (frame_of m ++ back)

said_among : (m : List ℕ) (h : Said) (hs : List Said) → Among (message m) (hearing h hs) → (message m ≡ h) ⊎ Among (message m) hs
unfolding hearing Among
said_among m nothing hs a = inr a
said_among m (message x) hs a = a
said_among m keep_alive hs a = a
said_among m wrong_skipped hs a = a
said_among m large_skipped hs a = a
said_among m refused_now hs a = a
said_among m bad_state hs a = a

none_among : (h : Said) → Among h [] → ⊥
unfolding Among
none_among h a = a

refused_among : (m : List ℕ) → Among (message m) (refused_now ∷ []) → ⊥
unfolding Among
refused_among m (inl e) = false≢true (sym (ap is_message e))
refused_among m (inr a) = a

pub message_heard_in : {n : ℕ} {bs : List ℕ} {hs : List Said} {s : Stream} → Says n bs hs s → (m : List ℕ) → Among (message m) hs → HeardIn m bs n
message_heard_in (a_frame {n = n} {q = q} {hs = hs} f h o) m a = elim (said_among m (frame_says f n) hs a) [ inl e ↦ here e | inr b ↦ there (message_heard_in o m b) ]
  where
    here : message m ≡ frame_says f n → HeardIn m (frame_of f ++ q) n
    here e =
        let w = message_says f n m (sym e) in
        record { right = w.1; short = subst (λ (x : List ℕ). length x ≤ longest_frame) w.0 h; front = []; back = q; stands = ap (λ (x : List ℕ). frame_of x ++ q) w.0 }

    there : HeardIn m q n → HeardIn m (frame_of f ++ q) n
    there i = record { right = i.right; short = i.short; front = frame_of f ++ i.front; back = i.back; stands = ap (λ (x : List ℕ). frame_of f ++ x) i.stands ∙ sym (append_assoc (frame_of f) i.front (frame_of m ++ i.back)) }
message_heard_in (too_long l q h k) m a = absurd (refused_among m a)
message_heard_in (in_prefix p h) m a = absurd (none_among (message m) a)
message_heard_in (in_frame l p h k) m a = absurd (none_among (message m) a)

-- every message that is heard of a stream from its beginning on has a known id and a right size, and is the bytes behind its prefix
pub heard_messages : (bs room : List ℕ) → Bytes bs → (m : List ℕ) → Among (message m) (streamed between room bs).heard → HeardIn m bs (length room)
heard_messages bs room y m a = message_heard_in (heard_says bs room y) m a

-- ---- the frame is the only one

-- what is heard of a frame as the message m is said of the frame of m
heard_as_says : (f : List ℕ) (n : ℕ) (m : List ℕ) → frame_says f n ≡ heard_as m → f ≡ m
unfolding heard_as
heard_as_says f n (i ∷ m) e = (message_says f n (i ∷ m) e).0
heard_as_says [] n [] e = refl
heard_as_says (i ∷ f) n [] e = absurd (false≢true (sym (ap is_keep_alive e) ∙ never i f n))
  where
    is_keep_alive : Said → Bool
    is_keep_alive nothing = true
    is_keep_alive (message x) = true
    is_keep_alive keep_alive = false
    is_keep_alive wrong_skipped = true
    is_keep_alive large_skipped = true
    is_keep_alive refused_now = true
    is_keep_alive bad_state = true

    by_tests : (i : ℕ) (f : List ℕ) (x y z : Bool) → is_keep_alive (cond x (cond y (cond z large_skipped (message (i ∷ f))) wrong_skipped) nothing) ≡ true
    by_tests i f true true true = refl
    by_tests i f true true false = refl
    by_tests i f true false z = refl
    by_tests i f false y z = refl

    never : (i : ℕ) (f : List ℕ) (n : ℕ) → is_keep_alive (frame_says (i ∷ f) n) ≡ true
    never i f n = unfold frame_says in by_tests i f (known i) (right i (length (i ∷ f))) (ltb n (length (i ∷ f)))

-- the first that is heard is what the frame says, or the frame is of an unknown id
first_heard : (h x : Said) (hs xs : List Said) → quiet x ≡ false → hearing h hs ≡ x ∷ xs → (h ≡ x) ⊎ (hs ≡ x ∷ xs)
unfolding hearing
first_heard h x hs xs l e = by_said h e
  where
    head : List Said → Said
    head [] = x
    head (y ∷ ys) = y

    by_said : (h : Said) → cond (quiet h) hs (h ∷ hs) ≡ x ∷ xs → (h ≡ x) ⊎ (hs ≡ x ∷ xs)
    by_said nothing e = inr e
    by_said (message m) e = inl (ap head e)
    by_said keep_alive e = inl (ap head e)
    by_said wrong_skipped e = inl (ap head e)
    by_said large_skipped e = inl (ap head e)
    by_said refused_now e = inl (ap head e)
    by_said bad_state e = inl (ap head e)

heard_as_loud : (m : List ℕ) → quiet (heard_as m) ≡ false
unfolding heard_as
heard_as_loud [] = refl
heard_as_loud (i ∷ m) = refl

heard_as_going : (m : List ℕ) → heard_as m ≡ refused_now → ⊥
unfolding heard_as
heard_as_going [] e = false≢true (sym (ap is_refused e))
  where
    is_refused : Said → Bool
    is_refused nothing = true
    is_refused (message x) = true
    is_refused keep_alive = true
    is_refused wrong_skipped = true
    is_refused large_skipped = true
    is_refused refused_now = false
    is_refused bad_state = true
heard_as_going (i ∷ m) e = false≢true (sym (ap is_message e))

some_heard : (x : Said) (xs : List Said) → ◌≡◌ {A = List Said} [] (x ∷ xs) → ⊥
some_heard x xs e = false≢true (ap is_some e)
  where
    is_some : List Said → Bool
    is_some [] = false
    is_some (y ∷ ys) = true

-- no fewer bytes than its frame has are heard as a message
heard_enough : {n : ℕ} {bs : List ℕ} {hs : List Said} {s : Stream} → Says n bs hs s → (m : List ℕ) (xs : List Said) → hs ≡ heard_as m ∷ xs → 4 + length m ≤ length bs
heard_enough (a_frame {n = n} {q = q} {hs = hs} f h o) m xs e = elim (first_heard (frame_says f n) (heard_as m) hs xs (heard_as_loud m) e) [ inl w ↦ here (heard_as_says f n m w) | inr w ↦ there (heard_enough o m xs w) ]
  where
    here : f ≡ m → 4 + length m ≤ length (frame_of f ++ q)
    here w = let a = length-append (frame_of f) q in let b = frame_length f in let c = ap length w in omega (arith, a, b, c)

    there : 4 + length m ≤ length q → 4 + length m ≤ length (frame_of f ++ q)
    there w = let a = length-append (frame_of f) q in omega (arith, a, w)
heard_enough (too_long l q h k) m xs e = absurd (heard_as_going m (ap first (sym e)))
  where
    first : List Said → Said
    first [] = refused_now
    first (y ∷ ys) = y
heard_enough (in_prefix p h) m xs e = absurd (some_heard (heard_as m) xs e)
heard_enough (in_frame l p h k) m xs e = absurd (some_heard (heard_as m) xs e)

-- bytes of which a message or a keep-alive is heard, and that are no more than its frame has, are its frame
says_only : {n : ℕ} {bs : List ℕ} {hs : List Said} {s : Stream} → Says n bs hs s → (m : List ℕ) (xs : List Said) → hs ≡ heard_as m ∷ xs → length bs ≤ 4 + length m → bs ≡ frame_of m
says_only (a_frame {n = n} {q = q} {hs = hs} f h o) m xs e k = elim (first_heard (frame_says f n) (heard_as m) hs xs (heard_as_loud m) e) [ inl w ↦ here (heard_as_says f n m w) | inr w ↦ there (heard_enough o m xs w) ]
  where
    empty : (l : List ℕ) → length l ≤ 0 → l ≡ []
    empty [] h = refl
    empty (x ∷ l) h = let w : ⊥ = omega arith in absurd w

    here : f ≡ m → frame_of f ++ q ≡ frame_of m
    here w =
        let a = length-append (frame_of f) q in
        let b = frame_length f in
        let c = ap length w in
        ap₂ (λ (x y : List ℕ). frame_of x ++ y) w (empty q (omega (arith, a, b, c, k))) ∙ append-nil (frame_of m)

    there : 4 + length m ≤ length q → frame_of f ++ q ≡ frame_of m
    there w = let a = length-append (frame_of f) q in let b = frame_length f in let v : ⊥ = omega (arith, a, b, w, k) in absurd v
says_only (too_long l q h k) m xs e z = absurd (heard_as_going m (ap first (sym e)))
  where
    first : List Said → Said
    first [] = refused_now
    first (y ∷ ys) = y
says_only (in_prefix p h) m xs e z = absurd (some_heard (heard_as m) xs e)
says_only (in_frame l p h k) m xs e z = absurd (some_heard (heard_as m) xs e)

pub only_frame : (bs room m : List ℕ) → Bytes bs → (streamed between room bs).heard ≡ heard_as m ∷ [] → length bs ≤ 4 + length m → bs ≡ frame_of m
only_frame bs room m y e k = says_only (heard_says bs room y) m [] e k

-- only frames of unknown ids say nothing
quiet_says : (f : List ℕ) (n : ℕ) → quiet (frame_says f n) ≡ true → (i : ℕ) × (g : List ℕ) × (f ≡ i ∷ g) × (known i ≡ false)
unfolding frame_says
quiet_says [] n e = absurd (false≢true e)
quiet_says (i ∷ f) n e = (i, f, refl, by_tests (known i) refl (right i (length (i ∷ f))) (ltb n (length (i ∷ f))) e)
  where
    by_tests : (x : Bool) → known i ≡ x → (y z : Bool) → quiet (cond x (cond y (cond z large_skipped (message (i ∷ f))) wrong_skipped) nothing) ≡ true → known i ≡ false
    by_tests true k true true e = absurd (false≢true e)
    by_tests true k true false e = absurd (false≢true e)
    by_tests true k false z e = absurd (false≢true e)
    by_tests false k y z e = k

unknown_more : {q : List ℕ} (f : List ℕ) (n : ℕ) → quiet (frame_says f n) ≡ true → length f ≤ longest_frame → Unheard q → Unheard (frame_of f ++ q)
unknown_more {q} f n e h u =
    let w = quiet_says f n e in
    let l : length (w.0 ∷ w.1) ≤ longest_frame = subst (λ (x : List ℕ). length x ≤ longest_frame) w.2 h in
    subst (λ (x : List ℕ). Unheard (frame_of x ++ q)) (sym w.2) (unknown w.0 w.1 w.3 l u)

-- what is heard of a quiet frame and what follows is what is heard of what follows; of another one it is more than nothing
quiet_hearing : (h : Said) (hs : List Said) → hearing h hs ≡ [] → (quiet h ≡ true) × (hs ≡ [])
unfolding hearing
quiet_hearing nothing hs e = (refl, e)
quiet_hearing (message m) hs e = absurd (some_heard (message m) hs (sym e))
quiet_hearing keep_alive hs e = absurd (some_heard keep_alive hs (sym e))
quiet_hearing wrong_skipped hs e = absurd (some_heard wrong_skipped hs (sym e))
quiet_hearing large_skipped hs e = absurd (some_heard large_skipped hs (sym e))
quiet_hearing refused_now hs e = absurd (some_heard refused_now hs (sym e))
quiet_hearing bad_state hs e = absurd (some_heard bad_state hs (sym e))

first_or_quiet : (h x : Said) (hs : List Said) → quiet x ≡ false → hearing h hs ≡ x ∷ [] → ((h ≡ x) × (hs ≡ [])) ⊎ ((quiet h ≡ true) × (hs ≡ x ∷ []))
unfolding hearing
first_or_quiet h x hs l e = by_said h e
  where
    head : List Said → Said
    head [] = x
    head (y ∷ ys) = y

    tail : List Said → List Said
    tail [] = []
    tail (y ∷ ys) = ys

    by_said : (h : Said) → cond (quiet h) hs (h ∷ hs) ≡ x ∷ [] → ((h ≡ x) × (hs ≡ [])) ⊎ ((quiet h ≡ true) × (hs ≡ x ∷ []))
    by_said nothing e = inr (refl, e)
    by_said (message m) e = inl (ap head e, ap tail e)
    by_said keep_alive e = inl (ap head e, ap tail e)
    by_said wrong_skipped e = inl (ap head e, ap tail e)
    by_said large_skipped e = inl (ap head e, ap tail e)
    by_said refused_now e = inl (ap head e, ap tail e)
    by_said bad_state e = inl (ap head e, ap tail e)

not_between : (l : ℕ) (p : List ℕ) (n : ℕ) → partly l p n ≡ between → ⊥
unfolding partly
not_between l [] n e = omega (arith, ap (λ (t : Stream). t.length_size) e)
not_between l (i ∷ p) n e = omega (arith, ap (λ (t : Stream). t.length_size) e)

-- bytes of which nothing is heard, and that end between two frames, are frames of unknown ids
says_nothing : {n : ℕ} {bs : List ℕ} {hs : List Said} {s : Stream} → Says n bs hs s → hs ≡ [] → s ≡ between → Unheard bs
says_nothing (a_frame {n = n} {q = q} {hs = hs} f h o) e b = let w = quiet_hearing (frame_says f n) hs e in unknown_more f n w.0 h (says_nothing o w.1 b)
says_nothing (too_long l q h k) e b = absurd (some_heard refused_now [] (sym e))
says_nothing (in_prefix [] h) e b = no_frames
says_nothing (in_prefix (x ∷ p) h) e b = let w : ⊥ = omega (arith, ap (λ (t : Stream). t.length_size) b) in absurd w
says_nothing (in_frame l p h k) e b = absurd (not_between l p _ b)

says_alone : {n : ℕ} {bs : List ℕ} {hs : List Said} {s : Stream} → Says n bs hs s → (m : List ℕ) → hs ≡ heard_as m ∷ [] → s ≡ between
    → (a c : List ℕ) × Unheard a × Unheard c × (bs ≡ a ++ (frame_of m ++ c))
says_alone (a_frame {n = n} {q = q} {hs = hs} f h o) m e b = elim (first_or_quiet (frame_says f n) (heard_as m) hs (heard_as_loud m) e) [ inl w ↦ here (heard_as_says f n m w.0) (says_nothing o w.1 b) | inr w ↦ there w.0 (says_alone o m w.1 b) ]
  where
    here : f ≡ m → Unheard q → (a c : List ℕ) × Unheard a × Unheard c × (frame_of f ++ q ≡ a ++ (frame_of m ++ c))
    here w u = ([], q, no_frames, u, ap (λ (x : List ℕ). frame_of x ++ q) w)

    there : quiet (frame_says f n) ≡ true → ((a c : List ℕ) × Unheard a × Unheard c × (q ≡ a ++ (frame_of m ++ c))) → (a c : List ℕ) × Unheard a × Unheard c × (frame_of f ++ q ≡ a ++ (frame_of m ++ c))
    there w r = (frame_of f ++ r.0, r.1, unknown_more f n w h r.2, r.3, ap (λ (x : List ℕ). frame_of f ++ x) r.4 ∙ sym (append_assoc (frame_of f) r.0 (frame_of m ++ r.1)))
says_alone (too_long l q h k) m e b = absurd (heard_as_going m (ap first (sym e)))
  where
    first : List Said → Said
    first [] = refused_now
    first (y ∷ ys) = y
says_alone (in_prefix p h) m e b = absurd (some_heard (heard_as m) [] e)
says_alone (in_frame l p h k) m e b = absurd (some_heard (heard_as m) [] e)

-- bytes that are heard as one message or keep-alive, with nothing left over, are its frame, but for frames of unknown ids before it and behind
pub heard_alone : (bs room m : List ℕ) → Bytes bs → (streamed between room bs).heard ≡ heard_as m ∷ [] → (streamed between room bs).state ≡ between
    → (a c : List ℕ) × Unheard a × Unheard c × (bs ≡ a ++ (frame_of m ++ c))
heard_alone bs room m y e b = says_alone (heard_says bs room y) m e b

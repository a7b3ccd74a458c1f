-- 02, request 9, as theorems: the room keeps its length, no byte of it behind those stored so far is written, and none is read.
-- Assumes nothing.
use Rattle.std.specs.Prelude.{◌≡◌, List, [], ◌∷◌, Bool, true, false, cond, ℕ, ◌+◌, ◌≤◌, ◌<◌, length, take, get_or, eqb}
use Rattle.std.proofs.Math.Path.{refl}
use Rattle.std.proofs.Common.{ap, ap₂, sym, ◌∙◌, length-take, le-ltb, eq-eqb, ne_eqb, arith}
use Rattle.std.proofs.lemmas.Bool.{false≢true}
use Rattle.std.proofs.Math.Decide.{dec_lt, ℕ_discrete}
use Rattle.octets.specs.Octets.{pasted}
use Rattle.octets.specs.OctetsLaws.{get_or_pasted_before, get_or_pasted_in, get_or_pasted_after}
use Rattle.frames.specs.Frames.{Bytes}
use Rattle.stream.specs.Reading.{storing, fitting, mode_at, kept, Said, nothing, message, keep_alive, wrong_skipped, large_skipped, refused_now, bad_state, quiet, number_of, event_of, size_of, Stepped, standing, between, says, said_at_end, progressed, byte, Call, further, stopped, hears, answer_of, stored_by}
use Rattle.stream.specs.ReadingLaws.{mode_fitted, fitted_room, kept_length}
use Rattle.stream.specs.StepsLaws.{loud_heard, silent_heard, byte_is_frame, byte_is_prefix, prefix_any_room, frame_byte_is, progressed_room, progressed_end, progressed_on, byte_going}
use Rattle.stream.specs.Standing.{Going}
use Rattle.stream.specs.CuttingsLaws.{hears_quiet, hears_loud}
use Rattle.stream.specs.declared.Stream.{Stream}
use Rattle.stream.specs.declared.Heard.{Heard}

-- ---- one byte

-- a byte of a frame that is stored has a place in the room
has_place : (s : Stream) (room : List ℕ) (b : ℕ) → Going s (length room) → 4 ≤ s.length_size → mode_at s (length room) b ≡ storing → s.read + 1 ≤ length room
has_place s room b g k z = let w = fitted_room s.length (length room) (mode_at s (length room) b) (mode_fitted s (length room) b) z in let j = g.in_frame k in omega (arith, j.2)

-- what a byte of a frame makes of the room
frame_room : (s : Stream) (room : List ℕ) (b : ℕ) → 4 ≤ s.length_size → (byte s room b).room ≡ kept (mode_at s (length room) b) room s.read (b ∷ [])
frame_room s room b k =
    ap (λ (x : Stepped). x.room) (byte_is_frame s room b k ∙ frame_byte_is s.length s.read (mode_at s (length room) b) room b)
    ∙ progressed_room s.length s.read 1 (mode_at s (length room) b) (kept (mode_at s (length room) b) room s.read (b ∷ []))

prefix_room : (s : Stream) (room : List ℕ) (b : ℕ) → s.length_size < 4 → (byte s room b).room ≡ room
prefix_room s room b k = ap (λ (x : Stepped). x.room) (byte_is_prefix s room b k) ∙ sym (prefix_any_room s room b).1

pub byte_room_length : (s : Stream) (room : List ℕ) (b : ℕ) → Going s (length room) → length (byte s room b).room ≡ length room
byte_room_length s room b g = by_size (dec_lt s.length_size 4)
  where
    by_size : Dec (s.length_size < 4) → length (byte s room b).room ≡ length room
    by_size (yes k) = ap length (prefix_room s room b k)
    by_size (no k) =
        let f : 4 ≤ s.length_size = omega arith in
        ap length (frame_room s room b f) ∙ kept_length (mode_at s (length room) b) room s.read (b ∷ []) (has_place s room b g f)

kept_beside : (m : ℕ) (room : List ℕ) (at b i : ℕ) → (m ≡ 0 → at + 1 ≤ length room) → (i ≡ at → ⊥) → get_or (kept m room at (b ∷ [])) i 0 ≡ get_or room i 0
unfolding kept
kept_beside m room at b i h f = by_mode (ℕ_discrete m 0) (dec_lt i at)
  where
    other : (i at : ℕ) → (i ≡ at → ⊥) → (i < at → ⊥) → at < i
    other i at f l = omega arith

    by_mode : Dec (m ≡ 0) → Dec (i < at) → get_or (cond (eqb m 0) (pasted room at (b ∷ [])) room) i 0 ≡ get_or room i 0
    by_mode (yes e) (yes l) = rw (eq-eqb m 0 e) (get_or_pasted_before room at (b ∷ []) (h e) i l)
    by_mode (yes e) (no l) = rw (eq-eqb m 0 e) (get_or_pasted_after room at (b ∷ []) (h e) i (omega (arith, other i at f l)))
    by_mode (no e) l = rw (ne_eqb m 0 e)

kept_none : (m : ℕ) (room : List ℕ) (at : ℕ) (bs : List ℕ) → (m ≡ 0 → ⊥) → kept m room at bs ≡ room
unfolding kept
kept_none m room at bs f = rw (ne_eqb m 0 f)

kept_there : (m : ℕ) (room : List ℕ) (at b : ℕ) → m ≡ 0 → at + 1 ≤ length room → get_or (kept m room at (b ∷ [])) at 0 ≡ b
unfolding kept
kept_there m room at b e h = let z : at ≡ at + 0 = omega arith in rw (eq-eqb m 0 e) (ap (λ (i : ℕ). get_or (pasted room at (b ∷ [])) i 0) z ∙ get_or_pasted_in room at (b ∷ []) h 0 (omega arith))

-- a byte is written, if any, where the frame's next byte goes
pub only_there : (s : Stream) (room : List ℕ) (b i : ℕ) → Going s (length room) → (i ≡ s.read → ⊥) → get_or (byte s room b).room i 0 ≡ get_or room i 0
only_there s room b i g f = by_size (dec_lt s.length_size 4)
  where
    by_size : Dec (s.length_size < 4) → get_or (byte s room b).room i 0 ≡ get_or room i 0
    by_size (yes k) = ap (λ (x : List ℕ). get_or x i 0) (prefix_room s room b k)
    by_size (no k) =
        let e : 4 ≤ s.length_size = omega arith in
        ap (λ (x : List ℕ). get_or x i 0) (frame_room s room b e) ∙ kept_beside (mode_at s (length room) b) room s.read b i (has_place s room b g e) f

-- ---- the room keeps its length

pub hears_room_length : (s : Stream) (room p : List ℕ) → Going s (length room) → Bytes p → length (hears s room p).room ≡ length room
unfolding Bytes
hears_room_length s room [] g y = unfold hears in refl
hears_room_length s room (b ∷ bs) g y = by_said (quiet t.said) refl (hears_room_length t.state t.room bs)
  where
    t : Stepped
    t = byte s room b

    by_said : (x : Bool) → quiet t.said ≡ x → (Going t.state (length t.room) → Bytes bs → length (hears t.state t.room bs).room ≡ length t.room)
        → length (hears s room (b ∷ bs)).room ≡ length room
    by_said true q go =
        ap (λ (c : Call). length c.room) (hears_quiet s room b bs q)
        ∙ go (byte_going s room b g y.0 (λ z. absurd (false≢true (sym (ap quiet z) ∙ q)))) y.1
        ∙ byte_room_length s room b g
    by_said false q go = ap (λ (c : Call). length c.room) (hears_loud s room b bs q) ∙ byte_room_length s room b g

-- ---- no byte behind those stored is written

mode_stays : (l r n x : ℕ) → 0 < r → l ≤ n → mode_at (standing l 4 r storing) n x ≡ storing
unfolding mode_at fitting
mode_stays l r n x a h = let f : r ≡ 0 → ⊥ = λ e. omega arith in rw (ne_eqb r 0 f, le-ltb n l h)

end_stored : (l : ℕ) (R : List ℕ) (t : Stream) → l ≤ length R → stored_by (said_at_end l storing R) t ≡ l
unfolding said_at_end stored_by
end_stored l R t h = let w = length-take l R in omega (arith, w)

end_loud : (l : ℕ) (R : List ℕ) → quiet (said_at_end l storing R) ≡ false
unfolding said_at_end
end_loud l R = refl

-- a frame that is stored, and has room, has stored at least as much at the end
stored_grows : (l r : ℕ) (room p : List ℕ) → 0 < r → r < l → l ≤ length room
    → r ≤ stored_by (hears (standing l 4 r storing) room p).said (hears (standing l 4 r storing) room p).state
stored_grows l r room [] a b h = unfold hears stored_by in omega arith
stored_grows l r room (x ∷ p) a b h = by_end (ℕ_discrete (r + 1) l) (stored_grows l (r + 1) R p)
  where
    s : Stream
    s = standing l 4 r storing

    R : List ℕ
    R = kept storing room r (x ∷ [])

    is : byte s room x ≡ progressed l r 1 storing R
    is = byte_is_frame s room x (omega arith) ∙ frame_byte_is l r (mode_at s (length room) x) room x ∙ ap (λ (m : ℕ). progressed l r 1 m (kept m room r (x ∷ []))) (mode_stays l r (length room) x a h)

    l_r : length R ≡ length room
    l_r = kept_length storing room r (x ∷ []) (λ e. omega arith)

    by_end : Dec (r + 1 ≡ l)
        → (0 < r + 1 → r + 1 < l → l ≤ length R → r + 1 ≤ stored_by (hears (standing l 4 (r + 1) storing) R p).said (hears (standing l 4 (r + 1) storing) R p).state)
        → r ≤ stored_by (hears s room (x ∷ p)).said (hears s room (x ∷ p)).state
    by_end (yes e) go =
        let q = is ∙ progressed_end l r 1 storing R e in
        let c = hears_loud s room x p (ap (λ (z : Stepped). quiet z.said) q ∙ end_loud l R) ∙ ap (stopped 1) q in
        let v = ap (λ (z : Call). stored_by z.said z.state) c ∙ end_stored l R between (omega (arith, l_r)) in
        omega (arith, v)
    by_end (no f) go =
        let q = is ∙ progressed_on l r 1 storing R f in
        let c = hears_quiet s room x p (ap (λ (z : Stepped). quiet z.said) q) ∙ ap (λ (z : Stepped). further 1 (hears z.state z.room p)) q in
        let v = ap (λ (z : Call). stored_by z.said z.state) c in
        let w = go (omega arith) (omega arith) (omega (arith, l_r)) in
        omega (arith, v, w)

-- a byte that is put into the room is among those stored at the end
stored_after : (s : Stream) (room : List ℕ) (b : ℕ) (bs : List ℕ) → Going s (length room) → 4 ≤ s.length_size → mode_at s (length room) b ≡ storing
    → s.read < stored_by (hears s room (b ∷ bs)).said (hears s room (b ∷ bs)).state
stored_after s room b bs g k z = by_end (ℕ_discrete (s.read + 1) s.length)
  where
    l : ℕ
    l = s.length

    r : ℕ
    r = s.read

    R : List ℕ
    R = kept storing room r (b ∷ [])

    is : byte s room b ≡ progressed l r 1 storing R
    is = byte_is_frame s room b k ∙ frame_byte_is l r (mode_at s (length room) b) room b ∙ ap (λ (m : ℕ). progressed l r 1 m (kept m room r (b ∷ []))) z

    fits : l ≤ length room
    fits = fitted_room l (length room) (mode_at s (length room) b) (mode_fitted s (length room) b) z

    l_r : length R ≡ length room
    l_r = kept_length storing room r (b ∷ []) (λ e. has_place s room b g k z)

    by_end : Dec (r + 1 ≡ l) → r < stored_by (hears s room (b ∷ bs)).said (hears s room (b ∷ bs)).state
    by_end (yes e) =
        let q = is ∙ progressed_end l r 1 storing R e in
        let c = hears_loud s room b bs (ap (λ (x : Stepped). quiet x.said) q ∙ end_loud l R) ∙ ap (stopped 1) q in
        let v = ap (λ (x : Call). stored_by x.said x.state) c ∙ end_stored l R between (omega (arith, l_r, fits)) in
        omega (arith, v)
    by_end (no f) =
        let j = g.in_frame k in
        let q = is ∙ progressed_on l r 1 storing R f in
        let c = hears_quiet s room b bs (ap (λ (x : Stepped). quiet x.said) q) ∙ ap (λ (x : Stepped). further 1 (hears x.state x.room bs)) q in
        let v = ap (λ (x : Call). stored_by x.said x.state) c in
        let w = stored_grows l (r + 1) R bs (omega arith) (omega (arith, j.2)) (omega (arith, l_r, fits)) in
        omega (arith, v, w)

byte_behind : (s : Stream) (room : List ℕ) (b : ℕ) (bs : List ℕ) (i : ℕ) → Going s (length room)
    → stored_by (hears s room (b ∷ bs)).said (hears s room (b ∷ bs)).state ≤ i → get_or (byte s room b).room i 0 ≡ get_or room i 0
byte_behind s room b bs i g h = by_place (ℕ_discrete i s.read) (dec_lt s.length_size 4) (ℕ_discrete (mode_at s (length room) b) storing)
  where
    by_place : Dec (i ≡ s.read) → Dec (s.length_size < 4) → Dec (mode_at s (length room) b ≡ storing) → get_or (byte s room b).room i 0 ≡ get_or room i 0
    by_place (no f) k m = only_there s room b i g f
    by_place (yes e) (yes k) m = ap (λ (x : List ℕ). get_or x i 0) (prefix_room s room b k)
    by_place (yes e) (no k) (yes m) = let w = stored_after s room b bs g (omega arith) m in let v : ⊥ = omega (arith, w, h) in absurd v
    by_place (yes e) (no k) (no m) = ap (λ (x : List ℕ). get_or x i 0) (frame_room s room b (omega arith) ∙ kept_none (mode_at s (length room) b) room s.read (b ∷ []) m)

pub hears_behind : (s : Stream) (room p : List ℕ) (i : ℕ) → Going s (length room) → Bytes p
    → stored_by (hears s room p).said (hears s room p).state ≤ i → get_or (hears s room p).room i 0 ≡ get_or room i 0
unfolding Bytes
hears_behind s room [] i g y h = unfold hears in refl
hears_behind s room (b ∷ bs) i g y h = by_said (quiet t.said) refl (hears_behind t.state t.room bs i)
  where
    t : Stepped
    t = byte s room b

    by_said : (x : Bool) → quiet t.said ≡ x
        → (Going t.state (length t.room) → Bytes bs → stored_by (hears t.state t.room bs).said (hears t.state t.room bs).state ≤ i → get_or (hears t.state t.room bs).room i 0 ≡ get_or t.room i 0)
        → get_or (hears s room (b ∷ bs)).room i 0 ≡ get_or room i 0
    by_said true q go =
        let e = hears_quiet s room b bs q in
        let v = ap (λ (c : Call). stored_by c.said c.state) e in
        ap (λ (c : Call). get_or c.room i 0) e
        ∙ go (byte_going s room b g y.0 (λ z. absurd (false≢true (sym (ap quiet z) ∙ q)))) y.1 (omega (arith, v, h))
        ∙ byte_behind s room b bs i g h
    by_said false q go = ap (λ (c : Call). get_or c.room i 0) (hears_loud s room b bs q) ∙ byte_behind s room b bs i g h

-- ---- the room is never read

-- the end of a frame says the same of two rooms of one length
end_alike : (l m : ℕ) (R R' : List ℕ) → length R ≡ length R'
    → (number_of (said_at_end l m R) ≡ number_of (said_at_end l m R')) × (event_of (said_at_end l m R) ≡ event_of (said_at_end l m R')) × (size_of (said_at_end l m R) ≡ size_of (said_at_end l m R'))
unfolding said_at_end
end_alike l m R R' e = by_mode (eqb m 0) (eqb m 1) (eqb m 2)
  where
    said : Bool → Bool → Bool → List ℕ → Said
    said x y z R = cond x (message (take l R)) (cond y nothing (cond z wrong_skipped large_skipped))

    by_mode : (x y z : Bool) → (number_of (said x y z R) ≡ number_of (said x y z R')) × (event_of (said x y z R) ≡ event_of (said x y z R')) × (size_of (said x y z R) ≡ size_of (said x y z R'))
    by_mode true y z = (refl, refl, let a = length-take l R in let b = length-take l R' in omega (arith, a, b))
    by_mode false true z = (refl, refl, refl)
    by_mode false false true = (refl, refl, refl)
    by_mode false false false = (refl, refl, refl)

progressed_alike : (l r n m : ℕ) (R R' : List ℕ) → length R ≡ length R' → answer_of (stopped 1 (progressed l r n m R)) ≡ answer_of (stopped 1 (progressed l r n m R'))
unfolding progressed answer_of
progressed_alike l r n m R R' e = by_end (eqb (r + n) l)
  where
    answer : ℕ → ℕ → ℕ → Stream → Heard
    answer a b c t = record { number = a; event = b; used = 1; size = c; state = t }

    at : Bool → List ℕ → Stepped
    at x R = cond x (says (said_at_end l m R) between R) (says nothing (standing l 4 (r + n) m) R)

    by_end : (x : Bool) → answer (number_of (at x R).said) (event_of (at x R).said) (size_of (at x R).said) (at x R).state ≡ answer (number_of (at x R').said) (event_of (at x R').said) (size_of (at x R').said) (at x R').state
    by_end true = let w = end_alike l m R R' e in rw (w.0, w.1, w.2)
    by_end false = refl

byte_alike : (s : Stream) (room room' : List ℕ) (b : ℕ) → Going s (length room) → length room ≡ length room'
    → answer_of (stopped 1 (byte s room b)) ≡ answer_of (stopped 1 (byte s room' b))
byte_alike s room room' b g e = by_size (dec_lt s.length_size 4)
  where
    by_size : Dec (s.length_size < 4) → answer_of (stopped 1 (byte s room b)) ≡ answer_of (stopped 1 (byte s room' b))
    by_size (yes k) =
        ap (λ (x : Stepped). answer_of (stopped 1 x)) (byte_is_prefix s room b k) ∙ sym (prefix_any_room s room b).0 ∙ (prefix_any_room s room' b).0
        ∙ ap (λ (x : Stepped). answer_of (stopped 1 x)) (sym (byte_is_prefix s room' b k))
    by_size (no k) =
        let f : 4 ≤ s.length_size = omega arith in
        let m : ℕ = mode_at s (length room) b in
        let l = kept_length m room s.read (b ∷ []) (has_place s room b g f) in
        let l' = kept_length m room' s.read (b ∷ []) (λ z. let w = has_place s room b g f z in omega (arith, w, e)) in
        ap (λ (x : Stepped). answer_of (stopped 1 x)) (byte_is_frame s room b f ∙ frame_byte_is s.length s.read m room b)
        ∙ progressed_alike s.length s.read 1 m (kept m room s.read (b ∷ [])) (kept m room' s.read (b ∷ [])) (l ∙ e ∙ sym l')
        ∙ ap (λ (x : Stepped). answer_of (stopped 1 x)) (sym (byte_is_frame s room' b f ∙ frame_byte_is s.length s.read (mode_at s (length room') b) room' b ∙ ap (λ (n : ℕ). progressed s.length s.read 1 (mode_at s n b) (kept (mode_at s n b) room' s.read (b ∷ []))) (sym e)))

-- where the rooms agree before, they agree after
byte_agrees : (s : Stream) (room room' : List ℕ) (b i : ℕ) → Going s (length room) → length room ≡ length room' → get_or room i 0 ≡ get_or room' i 0
    → get_or (byte s room b).room i 0 ≡ get_or (byte s room' b).room i 0
byte_agrees s room room' b i g e a = by_place (ℕ_discrete i s.read) (dec_lt s.length_size 4) (ℕ_discrete (mode_at s (length room) b) storing)
  where
    g' : Going s (length room')
    g' = rw (← e) g

    by_place : Dec (i ≡ s.read) → Dec (s.length_size < 4) → Dec (mode_at s (length room) b ≡ storing) → get_or (byte s room b).room i 0 ≡ get_or (byte s room' b).room i 0
    by_place (no f) k m = only_there s room b i g f ∙ a ∙ sym (only_there s room' b i g' f)
    by_place (yes q) (yes k) m = ap (λ (x : List ℕ). get_or x i 0) (prefix_room s room b k) ∙ a ∙ ap (λ (x : List ℕ). get_or x i 0) (sym (prefix_room s room' b k))
    by_place (yes q) (no k) (yes m) =
        let f : 4 ≤ s.length_size = omega arith in
        let h = has_place s room b g f m in
        let m' : mode_at s (length room') b ≡ storing = ap (λ (n : ℕ). mode_at s n b) (sym e) ∙ m in
        ap₂ (λ (x : List ℕ) (j : ℕ). get_or x j 0) (frame_room s room b f) q ∙ kept_there (mode_at s (length room) b) room s.read b m h
        ∙ sym (ap₂ (λ (x : List ℕ) (j : ℕ). get_or x j 0) (frame_room s room' b f) q ∙ kept_there (mode_at s (length room') b) room' s.read b m' (omega (arith, h, e)))
    by_place (yes q) (no k) (no m) =
        let f : 4 ≤ s.length_size = omega arith in
        let m' : mode_at s (length room') b ≡ storing → ⊥ = λ z. m (ap (λ (n : ℕ). mode_at s n b) e ∙ z) in
        ap (λ (x : List ℕ). get_or x i 0) (frame_room s room b f ∙ kept_none (mode_at s (length room) b) room s.read (b ∷ []) m) ∙ a
        ∙ sym (ap (λ (x : List ℕ). get_or x i 0) (frame_room s room' b f ∙ kept_none (mode_at s (length room') b) room' s.read (b ∷ []) m'))

quiet_none : (h : Said) → quiet h ≡ true → (number_of h ≡ 0) × (event_of h ≡ 0)
quiet_none nothing q = (refl, refl)
quiet_none (message m) q = absurd (false≢true q)
quiet_none keep_alive q = absurd (false≢true q)
quiet_none wrong_skipped q = absurd (false≢true q)
quiet_none large_skipped q = absurd (false≢true q)
quiet_none refused_now q = absurd (false≢true q)
quiet_none bad_state q = absurd (false≢true q)

quiet_alike : (h h' : Said) → number_of h ≡ number_of h' → event_of h ≡ event_of h' → quiet h ≡ quiet h'
quiet_alike h h' a b = by_said (quiet h) refl
  where
    by_said : (x : Bool) → quiet h ≡ x → quiet h ≡ quiet h'
    by_said true q = let w = quiet_none h q in q ∙ sym (silent_heard h' (sym a ∙ w.0) (sym b ∙ w.1))
    by_said false q = q ∙ sym (loud_heard h' (λ w. false≢true (sym q ∙ silent_heard h (a ∙ w.0) (b ∙ w.1))))

-- two calls with rooms of one length answer the same, and where the rooms agreed before they agree after
pub record Alike (c c' : Call) (room room' : List ℕ) : Type 0 where
  pub answers : answer_of c ≡ answer_of c'
  pub places : (i : ℕ) → get_or room i 0 ≡ get_or room' i 0 → get_or c.room i 0 ≡ get_or c'.room i 0

same_number : (c c' : Call) → answer_of c ≡ answer_of c' → number_of c.said ≡ number_of c'.said
unfolding answer_of
same_number c c' e = ap (λ (h : Heard). h.number) e

same_event : (c c' : Call) → answer_of c ≡ answer_of c' → event_of c.said ≡ event_of c'.said
unfolding answer_of
same_event c c' e = ap (λ (h : Heard). h.event) e

same_state : (c c' : Call) → answer_of c ≡ answer_of c' → c.state ≡ c'.state
unfolding answer_of
same_state c c' e = ap (λ (h : Heard). h.state) e

answer_further : (n : ℕ) (c c' : Call) → answer_of c ≡ answer_of c' → answer_of (further n c) ≡ answer_of (further n c')
unfolding answer_of
answer_further n c c' e = ap (λ (h : Heard). record { number = h.number; event = h.event; used = n + h.used; size = h.size; state = h.state }) e

pub hears_alike : (s : Stream) (room room' p : List ℕ) → Going s (length room) → Bytes p → length room ≡ length room' → Alike (hears s room p) (hears s room' p) room room'
unfolding Bytes
hears_alike s room room' [] g y e = unfold hears answer_of in record { answers = refl; places = λ i a. a }
hears_alike s room room' (b ∷ bs) g y e = by_said (quiet t.said) refl (hears_alike t.state t.room t'.room bs)
  where
    t : Stepped
    t = byte s room b

    t' : Stepped
    t' = byte s room' b

    same : answer_of (stopped 1 t) ≡ answer_of (stopped 1 t')
    same = byte_alike s room room' b g e

    said_alike : quiet t.said ≡ quiet t'.said
    said_alike = quiet_alike t.said t'.said (same_number (stopped 1 t) (stopped 1 t') same) (same_event (stopped 1 t) (stopped 1 t') same)

    lengths : length t.room ≡ length t'.room
    lengths = byte_room_length s room b g ∙ e ∙ sym (byte_room_length s room' b (rw (← e) g))

    by_said : (x : Bool) → quiet t.said ≡ x
        → (Going t.state (length t.room) → Bytes bs → length t.room ≡ length t'.room → Alike (hears t.state t.room bs) (hears t.state t'.room bs) t.room t'.room)
        → Alike (hears s room (b ∷ bs)) (hears s room' (b ∷ bs)) room room'
    by_said true q go =
        let k = go (byte_going s room b g y.0 (λ z. absurd (false≢true (sym (ap quiet z) ∙ q)))) y.1 lengths in
        let w = hears_quiet s room b bs q in
        let w' = hears_quiet s room' b bs (sym said_alike ∙ q) ∙ ap (λ (x : Stream). further 1 (hears x t'.room bs)) (sym (same_state (stopped 1 t) (stopped 1 t') same)) in
        rw (w, w')
        (record { answers = answer_further 1 (hears t.state t.room bs) (hears t.state t'.room bs) k.answers; places = λ i a. k.places i (byte_agrees s room room' b i g e a) })
    by_said false q go =
        rw (hears_loud s room b bs q, hears_loud s room' b bs (sym said_alike ∙ q))
        (record { answers = same; places = λ i a. byte_agrees s room room' b i g e a })

-- 02, request 9, as theorems over every call of the reader: which numbers there are, and what stands beside each: event, size, used bytes, state, room.
-- Assumes nothing.
use Rattle.std.specs.Prelude.{◌≡◌, ◌⊎◌, ◌↔◌, Bool, true, false, cond, ℕ, ◌+◌, ◌*◌, ◌≤◌, ◌<◌, length, take, eqb, ltb, List, [], ◌∷◌}
use Rattle.std.proofs.Math.Path.{refl, ap, sym}
use Rattle.std.proofs.Common.{◌∙◌, inl, inr, arith, length-take, ext_get_or, eq-eqb, ne_eqb}
use Rattle.std.proofs.lemmas.Bool.{false≢true}
use Rattle.std.proofs.Math.Decide.{dec_lt, ℕ_discrete}
use Rattle.std.proofs.Math.ListN.{get_or}
use Rattle.numbers.specs.Numbers.{no_message, unusable, no_room, frame_too_long, table, InTable}
use Rattle.numbers.specs.Chain.{listed_in}
use Rattle.limits.specs.Limits.{longest_frame}
use Rattle.frames.specs.Frames.{Bytes}
use Rattle.stream.specs.Reading.{storing, refusing, mode_at, kept, Said, nothing, message, keep_alive, wrong_skipped, large_skipped, refused_now, bad_state, quiet, number_of, no_event, event_of, size_of, Stepped, standing, between, refused_by, says, prefixed, prefix_byte, said_at_end, progressed, byte, Call, unmoved, hears, usable, called, answer_of, hear_answer, hear_room, stored_by}
use Rattle.stream.specs.ReadingLaws.{mode_fitted, fitted_room, kept_length}
use Rattle.stream.specs.StepsLaws.{loud_heard, silent_heard, usable_going, called_unusable, called_refused, called_runs, byte_is_prefix, byte_is_frame, frame_byte_is, byte_going}
use Rattle.stream.specs.Standing.{Going, Refused}
use Rattle.stream.specs.UsableLaws.{going_usable, refused_usable, usable_refused}
use Rattle.stream.specs.CuttingsLaws.{call_is, hears_quiet, hears_loud}
use Rattle.stream.specs.RoomLaws.{hears_room_length, hears_behind, hears_alike}
use Rattle.stream.specs.declared.Stream.{Stream}
use Rattle.stream.specs.declared.Heard.{Heard}

-- ---- the three kinds of calls

pub data Kinds (s : Stream) (room bs : List ℕ) : Type 0 where
  not_usable : usable s (length room) ≡ false → called s room bs ≡ unmoved bad_state s room → Kinds s room bs
  was_refused : usable s (length room) ≡ true → s.mode ≡ refusing → called s room bs ≡ unmoved refused_now s room → Kinds s room bs
  runs : Going s (length room) → called s room bs ≡ hears s room bs → Kinds s room bs

pub kind_of : (s : Stream) (room bs : List ℕ) → Kinds s room bs
kind_of s room bs = by_test (usable s (length room)) refl (ℕ_discrete s.mode refusing)
  where
    by_test : (x : Bool) → usable s (length room) ≡ x → Dec (s.mode ≡ refusing) → Kinds s room bs
    by_test false u m = not_usable u (called_unusable s room bs u)
    by_test true u (yes e) = was_refused u e (called_refused s room bs u e)
    by_test true u (no f) = runs (usable_going s (length room) u f) (called_runs s room bs u f)

-- ---- one byte at which something is heard

-- it ends a frame, unless it is 30, and is never 9
pub record Ending (t : Stepped) : Type 0 where
  pub ends : quiet t.said ≡ false → (t.said ≡ refused_now → ⊥) → t.state ≡ between
  pub possible : number_of t.said ≡ unusable → ⊥

prefix_ending : (t : Stream) (room : List ℕ) (b : ℕ) → Ending (prefix_byte t room b)
unfolding prefix_byte prefixed
prefix_ending t room b = by_tests (eqb t.length_size 3) (ltb longest_frame l) (eqb l 0)
  where
    l : ℕ
    l = t.length * 256 + b

    made : Bool → Bool → Bool → Stepped
    made x y z = cond x (cond y (says refused_now (refused_by l) room) (cond z (says keep_alive between room) (says nothing (standing l 4 0 0) room))) (says nothing (standing l (t.length_size + 1) 0 0) room)

    by_tests : (x y z : Bool) → Ending (made x y z)
    by_tests true true z = record { ends = λ q f. absurd (f refl); possible = λ e. omega arith }
    by_tests true false true = record { ends = λ q f. refl; possible = λ e. omega arith }
    by_tests true false false = record { ends = λ q f. absurd (false≢true (sym q)); possible = λ e. omega arith }
    by_tests false y z = record { ends = λ q f. absurd (false≢true (sym q)); possible = λ e. omega arith }

progressed_ending : (l r n m : ℕ) (room : List ℕ) → Ending (progressed l r n m room)
unfolding progressed said_at_end
progressed_ending l r n m room = by_tests (eqb (r + n) l) (eqb m 0) (eqb m 1) (eqb m 2)
  where
    by_tests : (x y z v : Bool) → Ending (cond x (says (cond y (message (take l room)) (cond z nothing (cond v wrong_skipped large_skipped))) between room) (says nothing (standing l 4 (r + n) m) room))
    by_tests true true z v = record { ends = λ q f. refl; possible = λ e. omega arith }
    by_tests true false true v = record { ends = λ q f. refl; possible = λ e. omega arith }
    by_tests true false false true = record { ends = λ q f. refl; possible = λ e. omega arith }
    by_tests true false false false = record { ends = λ q f. refl; possible = λ e. omega arith }
    by_tests false y z v = record { ends = λ q f. absurd (false≢true (sym q)); possible = λ e. omega arith }

byte_ending : (s : Stream) (room : List ℕ) (b : ℕ) → Ending (byte s room b)
byte_ending s room b = by_size (dec_lt s.length_size 4)
  where
    by_size : Dec (s.length_size < 4) → Ending (byte s room b)
    by_size (yes k) = rw (byte_is_prefix s room b k) (prefix_ending s room b)
    by_size (no k) =
        let m : ℕ = mode_at s (length room) b in
        rw (byte_is_frame s room b (omega arith), frame_byte_is s.length s.read m room b) (progressed_ending s.length s.read 1 m (kept m room s.read (b ∷ [])))

-- a message that is heard is the front of the room then
pub record Front (t : Stepped) : Type 0 where
  pub front : (m : List ℕ) → t.said ≡ message m → (m ≡ take (length m) t.room) × (length m ≤ length t.room)

message_of : (m : List ℕ) → Said → List ℕ
message_of m nothing = m
message_of m (message x) = x
message_of m keep_alive = m
message_of m wrong_skipped = m
message_of m large_skipped = m
message_of m refused_now = m
message_of m bad_state = m

abbrev is_message : Said → Bool
is_message nothing = false
is_message (message m) = true
is_message keep_alive = false
is_message wrong_skipped = false
is_message large_skipped = false
is_message refused_now = false
is_message bad_state = false

front_take : (l : ℕ) (R m : List ℕ) → message (take l R) ≡ message m → l ≤ length R → (m ≡ take (length m) R) × (length m ≤ length R)
unfolding message_of
front_take l R m e h =
    let q : take l R ≡ m = ap (message_of m) e in
    let n : length m ≡ l = ap length (sym q) ∙ (let w = length-take l R in omega (arith, w)) in
    (sym q ∙ ap (λ (k : ℕ). take k R) (sym n), omega (arith, n))

progressed_front : (l r n m : ℕ) (R : List ℕ) → (m ≡ 0 → l ≤ length R) → Front (progressed l r n m R)
unfolding progressed said_at_end
progressed_front l r n m R h = by_tests (eqb (r + n) l) (ℕ_discrete m 0) (eqb m 1) (eqb m 2)
  where
    by_tests : (x : Bool) → Dec (m ≡ 0) → (z v : Bool) → Front (cond x (says (cond (eqb m 0) (message (take l R)) (cond z nothing (cond v wrong_skipped large_skipped))) between R) (says nothing (standing l 4 (r + n) m) R))
    by_tests true (yes e) z v = rw (eq-eqb m 0 e) (record { front = λ x w. front_take l R x w (h e) })
    by_tests true (no f) true v = rw (ne_eqb m 0 f) (record { front = λ x w. absurd (false≢true (ap is_message w)) })
    by_tests true (no f) false true = rw (ne_eqb m 0 f) (record { front = λ x w. absurd (false≢true (ap is_message w)) })
    by_tests true (no f) false false = rw (ne_eqb m 0 f) (record { front = λ x w. absurd (false≢true (ap is_message w)) })
    by_tests false d z v = record { front = λ x w. absurd (false≢true (ap is_message w)) }

prefix_front : (t : Stream) (room : List ℕ) (b : ℕ) → Front (prefix_byte t room b)
unfolding prefix_byte prefixed
prefix_front t room b = by_tests (eqb t.length_size 3) (ltb longest_frame l) (eqb l 0)
  where
    l : ℕ
    l = t.length * 256 + b

    made : Bool → Bool → Bool → Stepped
    made x y z = cond x (cond y (says refused_now (refused_by l) room) (cond z (says keep_alive between room) (says nothing (standing l 4 0 0) room))) (says nothing (standing l (t.length_size + 1) 0 0) room)

    by_tests : (x y z : Bool) → Front (made x y z)
    by_tests true true z = record { front = λ x w. absurd (false≢true (ap is_message w)) }
    by_tests true false true = record { front = λ x w. absurd (false≢true (ap is_message w)) }
    by_tests true false false = record { front = λ x w. absurd (false≢true (ap is_message w)) }
    by_tests false y z = record { front = λ x w. absurd (false≢true (ap is_message w)) }

byte_front : (s : Stream) (room : List ℕ) (b : ℕ) → Going s (length room) → Front (byte s room b)
byte_front s room b g = by_size (dec_lt s.length_size 4)
  where
    by_size : Dec (s.length_size < 4) → Front (byte s room b)
    by_size (yes k) = rw (byte_is_prefix s room b k) (prefix_front s room b)
    by_size (no k) =
        let m : ℕ = mode_at s (length room) b in
        let j = g.in_frame (omega arith) in
        let fits : m ≡ 0 → s.length ≤ length room = fitted_room s.length (length room) m (mode_fitted s (length room) b) in
        let l_r = kept_length m room s.read (b ∷ []) (λ z. let w = fits z in omega (arith, w, j.2)) in
        rw (byte_is_frame s room b (omega arith), frame_byte_is s.length s.read m room b)
        (progressed_front s.length s.read 1 m (kept m room s.read (b ∷ [])) (λ z. let w = fits z in omega (arith, w, l_r)))

-- ---- a call that runs

pub record Running (c : Call) (room p : List ℕ) : Type 0 where
  pub ends : quiet c.said ≡ false → (c.said ≡ refused_now → ⊥) → c.state ≡ between
  pub possible : number_of c.said ≡ unusable → ⊥
  pub all : quiet c.said ≡ true → c.used ≡ length p
  pub most : c.used ≤ length p
  pub some : quiet c.said ≡ false → 0 < c.used
  pub front : (m : List ℕ) → c.said ≡ message m → (m ≡ take (length m) c.room) × (length m ≤ length c.room)

pub hears_running : (s : Stream) (room p : List ℕ) → Going s (length room) → Bytes p → Running (hears s room p) room p
unfolding Bytes
hears_running s room [] g y = unfold hears in record { ends = λ q f. absurd (false≢true (sym q)); possible = λ e. omega arith; all = λ q. refl; most = omega arith; some = λ q. absurd (false≢true (sym q)); front = λ m w. absurd (false≢true (ap is_message w)) }
hears_running s room (b ∷ bs) g y = by_said (quiet t.said) refl (hears_running t.state t.room bs)
  where
    t : Stepped
    t = byte s room b

    by_said : (x : Bool) → quiet t.said ≡ x → (Going t.state (length t.room) → Bytes bs → Running (hears t.state t.room bs) t.room bs)
        → Running (hears s room (b ∷ bs)) room (b ∷ bs)
    by_said true q go =
        let k = go (byte_going s room b g y.0 (λ z. absurd (false≢true (sym (ap quiet z) ∙ q)))) y.1 in
        rw (hears_quiet s room b bs q)
        (record { ends = k.ends; possible = k.possible; all = λ z. let w = k.all z in omega (arith, w); most = let w = k.most in omega (arith, w); some = λ z. omega arith; front = k.front })
    by_said false q go =
        rw (hears_loud s room b bs q)
        (record { ends = (byte_ending s room b).ends; possible = (byte_ending s room b).possible; all = λ z. absurd (false≢true (sym q ∙ z)); most = omega arith; some = λ z. omega arith; front = (byte_front s room b g).front })

-- ---- which numbers there are

-- its numbers are 0, 1, 9, 11 and 30, which are in the table
pub hear_in_table : (s : Stream) (room p : List ℕ) → InTable (hear_answer s room p).number
unfolding hear_answer answer_of
hear_in_table s room p = by_said (called s room p).said
  where
    by_said : (h : Said) → InTable (number_of h)
    by_said nothing = listed_in 0 table refl
    by_said (message m) = listed_in 0 table refl
    by_said keep_alive = listed_in 0 table refl
    by_said wrong_skipped = listed_in no_message table refl
    by_said large_skipped = listed_in no_room table refl
    by_said refused_now = listed_in frame_too_long table refl
    by_said bad_state = listed_in unusable table refl

-- beside a refusal event and size are 0
pub hear_refusal : (s : Stream) (room p : List ℕ) → ((hear_answer s room p).number ≡ 0 → ⊥) → ((hear_answer s room p).event ≡ no_event) × ((hear_answer s room p).size ≡ 0)
unfolding hear_answer answer_of
hear_refusal s room p f = by_said (called s room p).said f
  where
    by_said : (h : Said) → (number_of h ≡ 0 → ⊥) → (event_of h ≡ no_event) × (size_of h ≡ 0)
    by_said nothing f = (refl, refl)
    by_said (message m) f = absurd (f refl)
    by_said keep_alive f = absurd (f refl)
    by_said wrong_skipped f = (refl, refl)
    by_said large_skipped f = (refl, refl)
    by_said refused_now f = (refl, refl)
    by_said bad_state f = (refl, refl)

-- ---- the answer by the call

answer_of_lem : (s : Stream) (room p : List ℕ) (c : Call) → called s room p ≡ c → (hear_answer s room p ≡ answer_of c) × (hear_room s room p ≡ c.room)
unfolding hear_answer hear_room
answer_of_lem s room p c e = (ap answer_of e, ap (λ (x : Call). x.room) e)

fields : (c : Call) (a : Heard) → a ≡ answer_of c → (a.number ≡ number_of c.said) × (a.event ≡ event_of c.said) × (a.used ≡ c.used) × (a.size ≡ size_of c.said) × (a.state ≡ c.state)
unfolding answer_of
fields c a e = (ap (λ (h : Heard). h.number) e, ap (λ (h : Heard). h.event) e, ap (λ (h : Heard). h.used) e, ap (λ (h : Heard). h.size) e, ap (λ (h : Heard). h.state) e)

-- ---- 9

-- exactly for a state that is not usable with this room; nothing is used, state and room stay
pub hear_9 : (s : Stream) (room p : List ℕ) → Bytes p → ((hear_answer s room p).number ≡ unusable) ↔ (usable s (length room) ≡ false)
hear_9 s room p y = (λ e. by_kind (kind_of s room p) e, λ u. by_test u)
  where
    by_test : usable s (length room) ≡ false → (hear_answer s room p).number ≡ unusable
    by_test u = let c = called_unusable s room p u in (fields (unmoved bad_state s room) (hear_answer s room p) (answer_of_lem s room p (unmoved bad_state s room) c).0).0

    by_kind : Kinds s room p → (hear_answer s room p).number ≡ unusable → usable s (length room) ≡ false
    by_kind (not_usable u c) e = u
    by_kind (was_refused u m c) e =
        let f = (fields (unmoved refused_now s room) (hear_answer s room p) (answer_of_lem s room p (unmoved refused_now s room) c).0).0 in
        let w : ⊥ = omega (arith, f, e) in absurd w
    by_kind (runs g c) e = absurd ((hears_running s room p g y).possible (sym (fields (hears s room p) (hear_answer s room p) (answer_of_lem s room p (hears s room p) c).0).0 ∙ e))

pub beside_9 : (s : Stream) (room p : List ℕ) → Bytes p → (hear_answer s room p).number ≡ unusable
    → ((hear_answer s room p).used ≡ 0) × ((hear_answer s room p).state ≡ s) × (hear_room s room p ≡ room)
beside_9 s room p y e =
    let k : Call = unmoved bad_state s room in
    let a = answer_of_lem s room p k (called_unusable s room p ((hear_9 s room p y).0 e)) in
    let f = fields k (hear_answer s room p) a.0 in
    (f.2, f.4, a.1)

-- ---- the room

pub hear_room_length : (s : Stream) (room p : List ℕ) → Bytes p → length (hear_room s room p) ≡ length room
hear_room_length s room p y = by_kind (kind_of s room p)
  where
    by_kind : Kinds s room p → length (hear_room s room p) ≡ length room
    by_kind (not_usable u c) = ap length (answer_of_lem s room p (unmoved bad_state s room) c).1
    by_kind (was_refused u m c) = ap length (answer_of_lem s room p (unmoved refused_now s room) c).1
    by_kind (runs g c) = ap length (answer_of_lem s room p (hears s room p) c).1 ∙ hears_room_length s room p g y

-- how many bytes of a frame stand in the room after an answer
unfoldable pub stored : Heard → ℕ
stored a = cond (eqb a.number 0) (cond (eqb a.event no_event) (cond (eqb a.state.mode storing) a.state.read 0) a.size) 0

stored_is : (c : Call) → stored (answer_of c) ≡ stored_by c.said c.state
unfolding stored answer_of stored_by
stored_is c = by_said c.said
  where
    by_said : (h : Said) → cond (eqb (number_of h) 0) (cond (eqb (event_of h) no_event) (cond (eqb c.state.mode storing) c.state.read 0) (size_of h)) 0 ≡ stored_by h c.state
    by_said nothing = refl
    by_said (message m) = refl
    by_said keep_alive = refl
    by_said wrong_skipped = refl
    by_said large_skipped = refl
    by_said refused_now = refl
    by_said bad_state = refl

-- no byte behind those that are stored then is written
pub none_behind : (s : Stream) (room p : List ℕ) (i : ℕ) → Bytes p → stored (hear_answer s room p) ≤ i → get_or (hear_room s room p) i 0 ≡ get_or room i 0
none_behind s room p i y h = by_kind (kind_of s room p)
  where
    by_kind : Kinds s room p → get_or (hear_room s room p) i 0 ≡ get_or room i 0
    by_kind (not_usable u c) = ap (λ (x : List ℕ). get_or x i 0) (answer_of_lem s room p (unmoved bad_state s room) c).1
    by_kind (was_refused u m c) = ap (λ (x : List ℕ). get_or x i 0) (answer_of_lem s room p (unmoved refused_now s room) c).1
    by_kind (runs g c) =
        let a = answer_of_lem s room p (hears s room p) c in
        let e : stored (hear_answer s room p) ≡ stored_by (hears s room p).said (hears s room p).state = ap stored a.0 ∙ stored_is (hears s room p) in
        ap (λ (x : List ℕ). get_or x i 0) a.1 ∙ hears_behind s room p i g y (omega (arith, e, h))

-- where nothing of a frame is stored then, the room is as it was
room_stays : (s : Stream) (room p : List ℕ) → Bytes p → stored (hear_answer s room p) ≡ 0 → hear_room s room p ≡ room
room_stays s room p y e = ext_get_or 0 (hear_room s room p) room (hear_room_length s room p y) (λ i h. none_behind s room p i y (omega (arith, e)))

stored_refusal : (a : Heard) → (a.number ≡ 0 → ⊥) → stored a ≡ 0
unfolding stored
stored_refusal a f = rw (ne_eqb a.number 0 f)

-- so beside every refusal
pub refusal_leaves_room : (s : Stream) (room p : List ℕ) → Bytes p → ((hear_answer s room p).number ≡ 0 → ⊥) → hear_room s room p ≡ room
refusal_leaves_room s room p y f = room_stays s room p y (stored_refusal (hear_answer s room p) f)

-- no byte of the room is read: with another one of the same length the answer is the same, and where the two agreed before they agree after
pub never_read : (s : Stream) (room room' p : List ℕ) → Bytes p → length room ≡ length room'
    → (hear_answer s room p ≡ hear_answer s room' p) × ((i : ℕ) → get_or room i 0 ≡ get_or room' i 0 → get_or (hear_room s room p) i 0 ≡ get_or (hear_room s room' p) i 0)
never_read s room room' p y e = by_kind (kind_of s room p)
  where
    by_kind : Kinds s room p
        → (hear_answer s room p ≡ hear_answer s room' p) × ((i : ℕ) → get_or room i 0 ≡ get_or room' i 0 → get_or (hear_room s room p) i 0 ≡ get_or (hear_room s room' p) i 0)
    by_kind (not_usable u c) =
        let a = answer_of_lem s room p (unmoved bad_state s room) c in
        let a' = answer_of_lem s room' p (unmoved bad_state s room') (called_unusable s room' p (rw (← e) u)) in
        (a.0 ∙ answer_same bad_state s room room' ∙ sym a'.0, λ i w. ap (λ (x : List ℕ). get_or x i 0) a.1 ∙ w ∙ ap (λ (x : List ℕ). get_or x i 0) (sym a'.1))
      where
        answer_same : (h : Said) (s : Stream) (room room' : List ℕ) → answer_of (unmoved h s room) ≡ answer_of (unmoved h s room')
        answer_same h s room room' = unfold answer_of in refl
    by_kind (was_refused u m c) =
        let a = answer_of_lem s room p (unmoved refused_now s room) c in
        let a' = answer_of_lem s room' p (unmoved refused_now s room') (called_refused s room' p (rw (← e) u) m) in
        (a.0 ∙ answer_same refused_now s room room' ∙ sym a'.0, λ i w. ap (λ (x : List ℕ). get_or x i 0) a.1 ∙ w ∙ ap (λ (x : List ℕ). get_or x i 0) (sym a'.1))
      where
        answer_same : (h : Said) (s : Stream) (room room' : List ℕ) → answer_of (unmoved h s room) ≡ answer_of (unmoved h s room')
        answer_same h s room room' = unfold answer_of in refl
    by_kind (runs g c) =
        let g' : Going s (length room') = (rw e at g) in
        let a = answer_of_lem s room p (hears s room p) c in
        let a' = answer_of_lem s room' p (hears s room' p) (called_runs s room' p (going_usable s (length room') g') (λ z. omega (arith, z, g.running))) in
        let k = hears_alike s room room' p g y e in
        (a.0 ∙ k.answers ∙ sym a'.0, λ i w. ap (λ (x : List ℕ). get_or x i 0) a.1 ∙ k.places i w ∙ ap (λ (x : List ℕ). get_or x i 0) (sym a'.1))

-- ---- 1 and 11: the frame's last byte was used, and the stream stands between two frames

loud_number : (h : Said) → (number_of h ≡ 0 → ⊥) → quiet h ≡ false
loud_number nothing f = absurd (f refl)
loud_number (message m) f = refl
loud_number keep_alive f = refl
loud_number wrong_skipped f = refl
loud_number large_skipped f = refl
loud_number refused_now f = refl
loud_number bad_state f = refl

skipped : (s : Stream) (room p : List ℕ) → Bytes p → ((hear_answer s room p).number ≡ 0 → ⊥) → ((hear_answer s room p).number ≡ unusable → ⊥) → ((hear_answer s room p).number ≡ frame_too_long → ⊥)
    → ((hear_answer s room p).state ≡ between) × (0 < (hear_answer s room p).used) × ((hear_answer s room p).used ≤ length p)
skipped s room p y z u t = by_kind (kind_of s room p)
  where
    by_kind : Kinds s room p → ((hear_answer s room p).state ≡ between) × (0 < (hear_answer s room p).used) × ((hear_answer s room p).used ≤ length p)
    by_kind (not_usable v c) = absurd (u (fields (unmoved bad_state s room) (hear_answer s room p) (answer_of_lem s room p (unmoved bad_state s room) c).0).0)
    by_kind (was_refused v m c) = absurd (t (fields (unmoved refused_now s room) (hear_answer s room p) (answer_of_lem s room p (unmoved refused_now s room) c).0).0)
    by_kind (runs g c) =
        let f = fields (hears s room p) (hear_answer s room p) (answer_of_lem s room p (hears s room p) c).0 in
        let k = hears_running s room p g y in
        let l = loud_number (hears s room p).said (λ e. z (f.0 ∙ e)) in
        let some = k.some l in
        let most = k.most in
        (f.4 ∙ k.ends l (λ e. t (f.0 ∙ ap number_of e)), omega (arith, f.2, some), omega (arith, f.2, most))

pub beside_1 : (s : Stream) (room p : List ℕ) → Bytes p → (hear_answer s room p).number ≡ no_message
    → ((hear_answer s room p).state ≡ between) × (0 < (hear_answer s room p).used) × ((hear_answer s room p).used ≤ length p)
beside_1 s room p y e = skipped s room p y (λ z. omega (arith, e, z)) (λ z. omega (arith, e, z)) (λ z. omega (arith, e, z))

pub beside_11 : (s : Stream) (room p : List ℕ) → Bytes p → (hear_answer s room p).number ≡ no_room
    → ((hear_answer s room p).state ≡ between) × (0 < (hear_answer s room p).used) × ((hear_answer s room p).used ≤ length p)
beside_11 s room p y e = skipped s room p y (λ z. omega (arith, e, z)) (λ z. omega (arith, e, z)) (λ z. omega (arith, e, z))

-- ---- 30: the stream was refused before, and nothing moves; or it is from now on, with the prefix's last byte used

pub beside_30 : (s : Stream) (room p : List ℕ) → Bytes p → (hear_answer s room p).number ≡ frame_too_long
    → (Refused s × ((hear_answer s room p).used ≡ 0) × ((hear_answer s room p).state ≡ s))
    ⊎ (Going s (length room) × Refused (hear_answer s room p).state × (0 < (hear_answer s room p).used) × ((hear_answer s room p).used ≤ length p))
beside_30 s room p y e = by_kind (kind_of s room p)
  where
    by_kind : Kinds s room p
        → (Refused s × ((hear_answer s room p).used ≡ 0) × ((hear_answer s room p).state ≡ s))
        ⊎ (Going s (length room) × Refused (hear_answer s room p).state × (0 < (hear_answer s room p).used) × ((hear_answer s room p).used ≤ length p))
    by_kind (not_usable v c) =
        let f = (fields (unmoved bad_state s room) (hear_answer s room p) (answer_of_lem s room p (unmoved bad_state s room) c).0).0 in
        let w : ⊥ = omega (arith, f, e) in absurd w
    by_kind (was_refused v m c) =
        let f = fields (unmoved refused_now s room) (hear_answer s room p) (answer_of_lem s room p (unmoved refused_now s room) c).0 in
        inl (usable_refused s (length room) v m, f.2, f.4)
    by_kind (runs g c) =
        let f = fields (hears s room p) (hear_answer s room p) (answer_of_lem s room p (hears s room p) c).0 in
        let k = hears_running s room p g y in
        let n : number_of (hears s room p).said ≡ frame_too_long = sym f.0 ∙ e in
        let some = k.some (loud_number (hears s room p).said (λ z. omega (arith, n, z))) in
        let most = k.most in
        inr (g, rw f.4 ((call_is s room p g y).stops n), omega (arith, f.2, some), omega (arith, f.2, most))

-- and a refused stream stays so, whatever comes and in whatever room, until it is begun afresh
pub refused_stays : (s : Stream) (room p : List ℕ) → Refused s
    → (hear_answer s room p ≡ record { number = frame_too_long; event = no_event; used = 0; size = 0; state = s }) × (hear_room s room p ≡ room)
unfolding answer_of
refused_stays s room p r = answer_of_lem s room p (unmoved refused_now s room) (called_refused s room p (refused_usable s (length room) r) r.mode)

-- ---- 0

-- nothing: all bytes were used
pub beside_nothing : (s : Stream) (room p : List ℕ) → Bytes p → (hear_answer s room p).number ≡ 0 → (hear_answer s room p).event ≡ no_event
    → ((hear_answer s room p).used ≡ length p) × ((hear_answer s room p).size ≡ 0) × Going (hear_answer s room p).state (length (hear_room s room p))
beside_nothing s room p y e v = by_kind (kind_of s room p)
  where
    no_size : (h : Said) → event_of h ≡ no_event → size_of h ≡ 0
    no_size nothing q = refl
    no_size (message m) q = let w : ⊥ = omega arith in absurd w
    no_size keep_alive q = refl
    no_size wrong_skipped q = refl
    no_size large_skipped q = refl
    no_size refused_now q = refl
    no_size bad_state q = refl

    by_kind : Kinds s room p → ((hear_answer s room p).used ≡ length p) × ((hear_answer s room p).size ≡ 0) × Going (hear_answer s room p).state (length (hear_room s room p))
    by_kind (not_usable u c) =
        let f = (fields (unmoved bad_state s room) (hear_answer s room p) (answer_of_lem s room p (unmoved bad_state s room) c).0).0 in
        let w : ⊥ = omega (arith, f, e) in absurd w
    by_kind (was_refused u m c) =
        let f = (fields (unmoved refused_now s room) (hear_answer s room p) (answer_of_lem s room p (unmoved refused_now s room) c).0).0 in
        let w : ⊥ = omega (arith, f, e) in absurd w
    by_kind (runs g c) =
        let a = answer_of_lem s room p (hears s room p) c in
        let f = fields (hears s room p) (hear_answer s room p) a.0 in
        let k = hears_running s room p g y in
        let q = silent_heard (hears s room p).said (sym f.0 ∙ e) (sym f.1 ∙ v) in
        let go = (call_is s room p g y).goes (λ z. omega (arith, z, f.0, e)) in
        (f.2 ∙ k.all q, f.3 ∙ no_size (hears s room p).said (sym f.1 ∙ v), rw (f.4, a.1) go)

-- a message or a keep-alive: the stream stands between two frames; a message has at most the room's bytes, of which it is the front
pub beside_event : (s : Stream) (room p : List ℕ) → Bytes p → (hear_answer s room p).number ≡ 0 → ((hear_answer s room p).event ≡ no_event → ⊥)
    → ((hear_answer s room p).state ≡ between) × (0 < (hear_answer s room p).used) × ((hear_answer s room p).used ≤ length p) × ((hear_answer s room p).size ≤ length room)
beside_event s room p y e v = by_kind (kind_of s room p)
  where
    fits : (c : Call) → ((m : List ℕ) → c.said ≡ message m → length m ≤ length room) → size_of c.said ≤ length room
    fits c f = by_said c.said refl
      where
        by_said : (h : Said) → c.said ≡ h → size_of h ≤ length room
        by_said nothing q = omega arith
        by_said (message m) q = f m q
        by_said keep_alive q = omega arith
        by_said wrong_skipped q = omega arith
        by_said large_skipped q = omega arith
        by_said refused_now q = omega arith
        by_said bad_state q = omega arith

    by_kind : Kinds s room p → ((hear_answer s room p).state ≡ between) × (0 < (hear_answer s room p).used) × ((hear_answer s room p).used ≤ length p) × ((hear_answer s room p).size ≤ length room)
    by_kind (not_usable u c) =
        let f = (fields (unmoved bad_state s room) (hear_answer s room p) (answer_of_lem s room p (unmoved bad_state s room) c).0).0 in
        let w : ⊥ = omega (arith, f, e) in absurd w
    by_kind (was_refused u m c) =
        let f = (fields (unmoved refused_now s room) (hear_answer s room p) (answer_of_lem s room p (unmoved refused_now s room) c).0).0 in
        let w : ⊥ = omega (arith, f, e) in absurd w
    by_kind (runs g c) =
        let a = answer_of_lem s room p (hears s room p) c in
        let f = fields (hears s room p) (hear_answer s room p) a.0 in
        let k = hears_running s room p g y in
        let l = loud_heard (hears s room p).said (λ z. v (f.1 ∙ z.1)) in
        let some = k.some l in
        let most = k.most in
        let n = hears_room_length s room p g y in
        let size = fits (hears s room p) (λ m q. let w = (k.front m q).1 in omega (arith, w, n)) in
        (f.4 ∙ k.ends l (λ z. let w : ⊥ = omega (arith, f.0, e, ap number_of z) in absurd w), omega (arith, f.2, some), omega (arith, f.2, most), omega (arith, f.3, size))

-- ---- a call without bytes changes nothing

pub hear_none : (s : Stream) (room : List ℕ) → ((hear_answer s room []).used ≡ 0) × ((hear_answer s room []).state ≡ s) × (hear_room s room [] ≡ room)
hear_none s room = by_kind (kind_of s room [])
  where
    none : (s : Stream) (room : List ℕ) → hears s room [] ≡ unmoved nothing s room
    none s room = unfold hears in refl

    by_call : (h : Said) → called s room [] ≡ unmoved h s room → ((hear_answer s room []).used ≡ 0) × ((hear_answer s room []).state ≡ s) × (hear_room s room [] ≡ room)
    by_call h c =
        let a = answer_of_lem s room [] (unmoved h s room) c in
        let f = fields (unmoved h s room) (hear_answer s room []) a.0 in
        (f.2, f.4, a.1)

    by_kind : Kinds s room [] → ((hear_answer s room []).used ≡ 0) × ((hear_answer s room []).state ≡ s) × (hear_room s room [] ≡ room)
    by_kind (not_usable u c) = by_call bad_state c
    by_kind (was_refused u m c) = by_call refused_now c
    by_kind (runs g c) = by_call nothing (c ∙ none s room)

-- 02, request 9, as a theorem: 9 exactly for a state that no bytes give in any room, or that has stored more bytes than this room has.
-- Assumes nothing.
use Rattle.std.specs.Prelude.{◌≡◌, List, [], ◌∷◌, ◌++◌, ◌⊎◌, ◌↔◌, Bool, true, false, ℕ, zero, suc, ◌+◌, ◌^◌, ◌/◌, ◌≤◌, ◌<◌, length, replicate}
use Rattle.std.proofs.Math.Path.{refl}
use Rattle.std.proofs.Common.{ap, sym, ◌∙◌, subst, inl, inr, mod-lt, arith, lt-ltb, le-ltb, le-leb, ne_eqb}
use Rattle.std.proofs.lemmas.Bool.{false≢true}
use Rattle.std.proofs.Math.Decide.{dec_lt, ℕ_discrete}
use Rattle.std.proofs.lemmas.List.{length-replicate}
use Rattle.octets.specs.Octets.{be, number_at}
use Rattle.octets.specs.OctetsLaws.{be_octets, number_of_be}
use Rattle.numbers.specs.Numbers.{unusable, frame_too_long}
use Rattle.limits.specs.Limits.{longest_frame}
use Rattle.frames.specs.Frames.{Bytes, table, sizes_in, sizes_of, right_for, known, right, bitfield_id, choke_id}
use Rattle.frames.specs.FramesLaws.{bytes_both}
use Rattle.stream.specs.Reading.{storing, skipping_unknown, skipping_wrong, skipping_large, refusing, mode_of, fitting, number_of, standing, between, refused_by, usable, byte, Stepped, hear_answer}
use Rattle.stream.specs.StepsLaws.{usable_going, going_between, byte_going, byte_refused}
use Rattle.stream.specs.Standing.{Going, Refused}
use Rattle.stream.specs.UsableLaws.{going_usable, refused_usable, usable_refused}
use Rattle.stream.specs.Cuttings.{Whole, streamed}
use Rattle.stream.specs.CuttingsLaws.{streamed_step, streamed_refused}
use Rattle.stream.specs.Saying.{partly, too_long, in_prefix, in_frame}
use Rattle.stream.specs.SayingLaws.{after_state, says_heard}
use Rattle.stream.specs.AnswerLaws.{hear_9}
use Rattle.stream.specs.RoomLaws.{byte_room_length}
use Rattle.stream.specs.Given.{Given, GivenIn}
use Rattle.stream.specs.declared.Stream.{Stream}

-- ---- bytes

be_bytes : (k n : ℕ) → Bytes (be k n)
unfolding Bytes
be_bytes zero n = tt
be_bytes (suc k) n = (mod-lt (n / 256 ^ k) (omega arith), be_bytes k n)

zeros_bytes : (k : ℕ) → Bytes (replicate k 0)
unfolding Bytes
zeros_bytes zero = tt
zeros_bytes (suc k) = (omega arith, zeros_bytes k)

one_bytes : (b : ℕ) (bs : List ℕ) → b < 256 → Bytes bs → Bytes (b ∷ bs)
unfolding Bytes
one_bytes b bs h y = (h, y)

-- ---- in the prefix

prefix_given : (l k : ℕ) → k < 4 → l < 256 ^ k → Given (standing l k 0 storing)
prefix_given l k h b =
    record {
      bytes = be k l;
      are = be_bytes k l;
      size = 0;
      gives = λ room e. (says_heard (in_prefix (be k l) (rw (be_octets k l).size h)) (be_bytes k l) room e).1 ∙ there;
    }
  where
    there : standing (number_at (be k l) 0 (length (be k l))) (length (be k l)) 0 storing ≡ standing l k 0 storing
    there = let n = number_of_be k l b in let s = (be_octets k l).size in rw (s, n)

-- ---- refused

refused_given : (l : ℕ) → longest_frame < l → l < 256 ^ 4 → Given (refused_by l)
refused_given l h b = record { bytes = be 4 l ++ []; are = bytes_both (be 4 l) [] (be_bytes 4 l) (none); size = 0; gives = λ room e. (says_heard (too_long l [] h b) (bytes_both (be 4 l) [] (be_bytes 4 l) none) room e).1 }
  where
    none : Bytes []
    none = unfold Bytes in tt

-- ---- in a frame: some id makes each mode

-- a bitfield may have any length from 2 on
bitfield_mode : (l : ℕ) → 2 ≤ l → mode_of bitfield_id l ≡ storing
unfolding mode_of known right right_for sizes_of sizes_in table
bitfield_mode l h = rw (le-leb 2 l h)

-- an id that is not known
unknown_mode : (l : ℕ) → mode_of 9 l ≡ skipping_unknown
unfolding mode_of known right right_for sizes_of sizes_in table
unknown_mode l = refl

-- choke has one byte alone
choke_mode : (l : ℕ) → 2 ≤ l → mode_of choke_id l ≡ skipping_wrong
unfolding mode_of known right right_for sizes_of sizes_in table
choke_mode l h = let f : l ≡ 1 → ⊥ = λ e. omega arith in rw (ne_eqb l 1 f)

fits_whole : (l n : ℕ) → l ≤ n → fitting l n storing ≡ storing
unfolding fitting
fits_whole l n h = rw (le-ltb n l h)

fits_not : (l n : ℕ) → n < l → fitting l n storing ≡ skipping_large
unfolding fitting
fits_not l n h = rw (lt-ltb n l h)

fits_other : (l n m : ℕ) → (m ≡ storing → ⊥) → fitting l n m ≡ m
unfolding fitting
fits_other l n m f = rw (ne_eqb m 0 f)

frame_given : (l r i n m : ℕ) → l ≤ longest_frame → r + 1 < l → i < 256 → fitting l n (mode_of i l) ≡ m → Given (standing l 4 (suc r) m)
frame_given l r i n m a h b e =
    record {
      bytes = be 4 l ++ (i ∷ replicate r 0);
      are = y;
      size = n;
      gives = λ room q. (says_heard (in_frame l (i ∷ replicate r 0) a (omega (arith, k))) y room q).1 ∙ there;
    }
  where
    k : length {A = ℕ} (replicate r 0) ≡ r
    k = length-replicate {A = ℕ} r 0

    y : Bytes (be 4 l ++ (i ∷ replicate r 0))
    y = bytes_both (be 4 l) (i ∷ replicate r 0) (be_bytes 4 l) (one_bytes i (replicate r 0) b (zeros_bytes r))

    stands : (l n i : ℕ) (p : List ℕ) → partly l (i ∷ p) n ≡ standing l 4 (length (i ∷ p)) (fitting l n (mode_of i l))
    stands l n i p = unfold partly in refl

    there : partly l (i ∷ replicate r 0) n ≡ standing l 4 (suc r) m
    there = stands l n i (replicate r 0) ∙ (rw (k, e))

first_given : (l : ℕ) → 0 < l → l ≤ longest_frame → Given (standing l 4 0 storing)
first_given l h a = record { bytes = be 4 l ++ []; are = y; size = 0; gives = λ room e. (says_heard (in_frame l [] a h) y room e).1 ∙ stands l 0 }
  where
    none : Bytes []
    none = unfold Bytes in tt

    y : Bytes (be 4 l ++ [])
    y = bytes_both (be 4 l) [] (be_bytes 4 l) none

    stands : (l n : ℕ) → partly l [] n ≡ standing l 4 0 storing
    stands l n = unfold partly in refl

in_frame_given : (l r m : ℕ) → l ≤ longest_frame → r < l → m < 4 → (0 < m → 0 < r) → Given (standing l 4 r m)
in_frame_given l zero zero a h b f = first_given l h a
in_frame_given l zero (suc m) a h b f = let w : ⊥ = omega (arith, f (omega arith)) in absurd w
in_frame_given l (suc r) zero a h b f = frame_given l r bitfield_id l storing a (omega arith) (omega arith) (ap (fitting l l) (bitfield_mode l (omega arith)) ∙ fits_whole l l (omega arith))
in_frame_given l (suc r) (suc zero) a h b f = frame_given l r 9 0 skipping_unknown a (omega arith) (omega arith) (ap (fitting l 0) (unknown_mode l) ∙ fits_other l 0 skipping_unknown (λ e. omega arith))
in_frame_given l (suc r) (suc (suc zero)) a h b f = frame_given l r choke_id 0 skipping_wrong a (omega arith) (omega arith) (ap (fitting l 0) (choke_mode l (omega arith)) ∙ fits_other l 0 skipping_wrong (λ e. omega arith))
in_frame_given l (suc r) (suc (suc (suc zero))) a h b f = frame_given l r bitfield_id 0 skipping_large a (omega arith) (omega arith) (ap (fitting l 0) (bitfield_mode l (omega arith)) ∙ fits_not l 0 (omega arith))
in_frame_given l (suc r) (suc (suc (suc (suc m)))) a h b f = let w : ⊥ = omega arith in absurd w

-- ---- a usable state is given

-- a state's length is a number of 32 bits
pub usable_given : (s : Stream) (n : ℕ) → s.length < 256 ^ 4 → usable s n ≡ true → GivenIn s n
usable_given s n b u = by_mode (ℕ_discrete s.mode refusing) (dec_lt s.length_size 4)
  where
    rebuilt : (k r m : ℕ) → k ≡ s.length_size → r ≡ s.read → m ≡ s.mode → standing s.length k r m ≡ s
    rebuilt k r m e f g = rw (e, f, g)

    by_mode : Dec (s.mode ≡ refusing) → Dec (s.length_size < 4) → GivenIn s n
    by_mode (yes e) k =
        let r = usable_refused s n u e in
        let q : refused_by s.length ≡ s = rebuilt 4 0 refusing (sym r.whole) (sym r.none) (sym r.mode) in
        record { given = subst Given q (refused_given s.length r.long b); stored = λ z. let w : ⊥ = omega (arith, z, e) in absurd w }
    by_mode (no f) (yes k) =
        let i = (usable_going s n u f).in_prefix k in
        let q : standing s.length s.length_size 0 storing ≡ s = rebuilt s.length_size 0 storing refl (sym i.1) (sym i.2) in
        record { given = subst Given q (prefix_given s.length s.length_size k i.0); stored = λ z. omega (arith, i.1) }
    by_mode (no f) (no k) =
        let g = usable_going s n u f in
        let i = g.in_frame (omega arith) in
        let q : standing s.length 4 s.read s.mode ≡ s = rebuilt 4 s.read s.mode (sym i.0) refl refl in
        record { given = subst Given q (in_frame_given s.length s.read s.mode i.1 i.2 g.running i.4); stored = i.3 }

-- ---- and a state that is given is usable, in a room that has what it stored

-- the bytes lead to a state that goes on, or is refused
streamed_stands : (s : Stream) (room bs : List ℕ) → Going s (length room) → Bytes bs → Going (streamed s room bs).state (length room) ⊎ Refused (streamed s room bs).state
unfolding Bytes streamed
streamed_stands s room [] g y = inl g
streamed_stands s room (b ∷ bs) g y = by_said (ℕ_discrete (number_of t.said) frame_too_long) (streamed_stands t.state t.room bs)
  where
    t : Stepped
    t = byte s room b

    stepped : (streamed s room (b ∷ bs)).state ≡ (streamed t.state t.room bs).state
    stepped = ap (λ (w : Whole). w.state) (streamed_step s room b bs g.running) ∙ after_state t.said (streamed t.state t.room bs)

    l : length t.room ≡ length room
    l = byte_room_length s room b g

    by_said : Dec (number_of t.said ≡ frame_too_long)
        → (Going t.state (length t.room) → Bytes bs → Going (streamed t.state t.room bs).state (length t.room) ⊎ Refused (streamed t.state t.room bs).state)
        → Going (streamed s room (b ∷ bs)).state (length room) ⊎ Refused (streamed s room (b ∷ bs)).state
    by_said (yes e) go =
        let r = byte_refused s room b g e in
        let q : (streamed s room (b ∷ bs)).state ≡ t.state = stepped ∙ ap (λ (w : Whole). w.state) (streamed_refused t.state t.room bs r.mode) in
        inr (subst Refused (sym q) r)
    by_said (no f) go =
        let k = go (byte_going s room b g y.0 (λ e. f (ap number_of e))) y.1 in
        subst (λ (x : Stream). Going x (length room) ⊎ Refused x) (sym stepped) (subst (λ (n : ℕ). Going (streamed t.state t.room bs).state n ⊎ Refused (streamed t.state t.room bs).state) l k)

pub given_usable : (s : Stream) (n : ℕ) → GivenIn s n → usable s n ≡ true
given_usable s n g = elim stands [ inl k ↦ going_usable s n (in_other k) | inr r ↦ refused_usable s n r ]
  where
    room : List ℕ
    room = replicate g.given.size 0

    l : length room ≡ g.given.size
    l = length-replicate {A = ℕ} g.given.size 0

    stands : Going s (length room) ⊎ Refused s
    stands = subst (λ (x : Stream). Going x (length room) ⊎ Refused x) (g.given.gives room l) (streamed_stands between room g.given.bytes (going_between (length room)) g.given.are)

    in_other : Going s (length room) → Going s n
    in_other k = record { in_prefix = k.in_prefix; in_frame = λ z. let i = k.in_frame z in (i.0, i.1, i.2, g.stored, i.4); running = k.running }

-- 9 exactly for the others
pub unusable_exactly : (s : Stream) (room p : List ℕ) → s.length < 256 ^ 4 → Bytes p → ((hear_answer s room p).number ≡ unusable) ↔ (GivenIn s (length room) → ⊥)
unusable_exactly s room p b y = (
  λ e g. false≢true (sym ((hear_9 s room p y).0 e) ∙ given_usable s (length room) g),
  λ f. (hear_9 s room p y).1 (by_test (usable s (length room)) refl f),
)
  where
    by_test : (x : Bool) → usable s (length room) ≡ x → (GivenIn s (length room) → ⊥) → usable s (length room) ≡ false
    by_test true u f = absurd (f (usable_given s (length room) b u))
    by_test false u f = u

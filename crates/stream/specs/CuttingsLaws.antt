-- 02, request 9, as theorems: every cutting, with the same room, gives the same messages and the same end state.
-- Assumes nothing.
use Rattle.std.specs.Prelude.{◌≡◌, refl, List, [], ◌∷◌, ◌++◌, Bool, true, false, ℕ, zero, suc, ◌+◌, ◌≤◌, ◌<◌, length, drop}
use Rattle.std.proofs.Common.{ap, ◌∙◌, length-drop, eq-eqb, ne_eqb, arith}
use Rattle.std.proofs.Math.Path.{sym}
use Rattle.std.proofs.lemmas.Bool.{false≢true}
use Rattle.std.proofs.Math.Decide.{ℕ_discrete}
use Rattle.numbers.specs.Numbers.{frame_too_long}
use Rattle.frames.specs.Frames.{Bytes}
use Rattle.frames.specs.FramesLaws.{bytes_front, bytes_rest, bytes_both}
use Rattle.stream.specs.Reading.{Said, nothing, quiet, number_of, Stepped, byte, Call, further, stopped, hears, called}
use Rattle.stream.specs.Standing.{Going, Refused}
use Rattle.stream.specs.StepsLaws.{called_runs, byte_going, byte_refused}
use Rattle.stream.specs.UsableLaws.{going_usable}
use Rattle.stream.specs.Cuttings.{Whole, ends, after, streamed, joined, Offered, all_used, piece_used, call_on, refused_at}
use Rattle.stream.specs.declared.Stream.{Stream}

-- ---- one call

pub streamed_refused : (s : Stream) (room bs : List ℕ) → s.mode ≡ 4 → streamed s room bs ≡ ends s room
unfolding streamed
streamed_refused s room [] e = refl
streamed_refused s room (b ∷ bs) e = rw (eq-eqb s.mode 4 e)

pub streamed_step : (s : Stream) (room : List ℕ) (b : ℕ) (bs : List ℕ) → s.mode < 4
    → streamed s room (b ∷ bs) ≡ after (byte s room b).said (streamed (byte s room b).state (byte s room b).room bs)
unfolding streamed
streamed_step s room b bs h = let n : s.mode ≡ 4 → ⊥ = λ e. omega arith in rw (ne_eqb s.mode 4 n)

pub after_quiet : (h : Said) (w : Whole) → quiet h ≡ true → after h w ≡ w
unfolding after
after_quiet h w q = rw q

pub hears_quiet : (s : Stream) (room : List ℕ) (b : ℕ) (bs : List ℕ) → quiet (byte s room b).said ≡ true
    → hears s room (b ∷ bs) ≡ further 1 (hears (byte s room b).state (byte s room b).room bs)
unfolding hears
hears_quiet s room b bs q = rw q

pub hears_loud : (s : Stream) (room : List ℕ) (b : ℕ) (bs : List ℕ) → quiet (byte s room b).said ≡ false → hears s room (b ∷ bs) ≡ stopped 1 (byte s room b)
unfolding hears
hears_loud s room b bs q = rw q

-- what a call leads to: it has heard what it says, the rest of its bytes are still to come, and it goes on unless it was refused
pub record Calls (s : Stream) (room p : List ℕ) (c : Call) : Type 0 where
  pub same : (q : List ℕ) → streamed s room (p ++ q) ≡ after c.said (streamed c.state c.room (drop c.used p ++ q))
  pub goes : (number_of c.said ≡ frame_too_long → ⊥) → Going c.state (length c.room)
  pub stops : number_of c.said ≡ frame_too_long → Refused c.state
  pub rest : Bytes (drop c.used p)

pub call_is : (s : Stream) (room p : List ℕ) → Going s (length room) → Bytes p → Calls s room p (hears s room p)
unfolding Bytes
call_is s room [] g y = unfold hears in record { same = λ q. sym (after_quiet nothing (streamed s room q) refl); goes = λ f. g; stops = λ e. let w : ⊥ = omega arith in absurd w; rest = tt }
call_is s room (b ∷ bs) g y = by_said (quiet (byte s room b).said) refl (call_is (byte s room b).state (byte s room b).room bs)
  where
    t : Stepped
    t = byte s room b

    by_said : (x : Bool) → quiet t.said ≡ x → (Going t.state (length t.room) → Bytes bs → Calls t.state t.room bs (hears t.state t.room bs))
        → Calls s room (b ∷ bs) (hears s room (b ∷ bs))
    by_said true q go =
        let r = go (byte_going s room b g y.0 (λ e. absurd (false≢true (sym (ap quiet e) ∙ q)))) y.1 in
        let u : 1 + (hears t.state t.room bs).used ≡ suc (hears t.state t.room bs).used = omega arith in
        rw (hears_quiet s room b bs q, u)
        (record {
          same = λ z. streamed_step s room b (bs ++ z) g.running ∙ after_quiet t.said (streamed t.state t.room (bs ++ z)) q ∙ r.same z;
          goes = r.goes;
          stops = r.stops;
          rest = r.rest;
        })
    by_said false q go =
        rw (hears_loud s room b bs q)
        (record {
          same = λ z. streamed_step s room b (bs ++ z) g.running;
          goes = λ f. byte_going s room b g y.0 (λ e. f (ap number_of e));
          stops = λ e. byte_refused s room b g e;
          rest = y.1;
        })

-- ---- any cutting

not_refused : (s : Stream) (n : ℕ) → Going s n → s.mode ≡ 4 → ⊥
not_refused s n g e = omega (arith, g.running)

pub calls_is : (s : Stream) (room p : List ℕ) → Going s (length room) → Bytes p → Calls s room p (called s room p)
calls_is s room p g y = rw (called_runs s room p (going_usable s (length room) g) (not_refused s (length room) g)) (call_is s room p g y)

-- every cutting, however it is offered, hears what the bytes say one by one, and ends in the same state and room
pub any_cutting : {s : Stream} {room : List ℕ} {ps : List (List ℕ)} {w : Whole} → Offered s room ps w → Going s (length room) → Bytes (joined ps)
    → streamed s room (joined ps) ≡ w
unfolding joined streamed
any_cutting all_used g y = refl
any_cutting (piece_used o) g y = any_cutting o g y
any_cutting (call_on {s = s} {room = room} {p = p} {ps = ps} f o) g y =
    let k = calls_is s room p g (bytes_front p (joined ps) y) in
    k.same (joined ps) ∙ ap (after (called s room p).said) (any_cutting o (k.goes f) (bytes_both (drop (called s room p).used p) (joined ps) k.rest (bytes_rest p (joined ps) y)))
any_cutting (refused_at {s = s} {room = room} {p = p} {ps = ps} f) g y =
    let k = calls_is s room p g (bytes_front p (joined ps) y) in
    k.same (joined ps) ∙ ap (after (called s room p).said) (streamed_refused (called s room p).state (called s room p).room (drop (called s room p).used p ++ joined ps) (k.stops f).mode)

-- so two cuttings of one string hear the same, and end in the same state and room
pub same_end : {s : Stream} {room : List ℕ} {ps qs : List (List ℕ)} {v w : Whole} → joined ps ≡ joined qs → Bytes (joined ps) → Going s (length room)
    → Offered s room ps v → Offered s room qs w → v ≡ w
same_end {s} {room} {ps} {qs} {v} {w} e y g o r = sym (any_cutting o g y) ∙ ap (streamed s room) e ∙ any_cutting r g (rw (← e) y)

-- ---- and each can be offered so: a call that is given a byte uses one

used_some : (s : Stream) (room : List ℕ) (b : ℕ) (bs : List ℕ) → 0 < (hears s room (b ∷ bs)).used
used_some s room b bs = by_said (quiet (byte s room b).said) refl
  where
    by_said : (x : Bool) → quiet (byte s room b).said ≡ x → 0 < (hears s room (b ∷ bs)).used
    by_said true q = rw (hears_quiet s room b bs q) (omega arith)
    by_said false q = rw (hears_loud s room b bs q) (omega arith)

-- the pieces ps can be offered from any state that goes on
abbrev pub CanOffer : List (List ℕ) → Type 0
CanOffer ps = (s : Stream) (room : List ℕ) → Going s (length room) → (w : Whole) × Offered s room ps w

-- with a piece of at most n bytes before them
abbrev pub CanOfferAfter : ℕ → List (List ℕ) → Type 0
CanOfferAfter n ps = (s : Stream) (room p : List ℕ) → length p ≤ n → Going s (length room) → Bytes p → (w : Whole) × Offered s room (p ∷ ps) w

one_call : (n : ℕ) (ps : List (List ℕ)) → CanOffer ps → CanOfferAfter n ps → CanOfferAfter (suc n) ps
one_call n ps k go s room [] h g y = let r = k s room g in (r.0, piece_used r.1)
one_call n ps k go s room (b ∷ bs) h g y = by_number (ℕ_discrete (number_of c.said) frame_too_long)
  where
    c : Call
    c = called s room (b ∷ bs)

    is : Calls s room (b ∷ bs) c
    is = calls_is s room (b ∷ bs) g y

    some : 0 < c.used
    some = rw (called_runs s room (b ∷ bs) (going_usable s (length room) g) (not_refused s (length room) g)) (used_some s room b bs)

    by_number : Dec (number_of c.said ≡ frame_too_long) → (w : Whole) × Offered s room ((b ∷ bs) ∷ ps) w
    by_number (yes e) = (after c.said (ends c.state c.room), refused_at e)
    by_number (no f) =
        let r = go c.state c.room (drop c.used (b ∷ bs)) (omega (arith, some, h, length-drop c.used (b ∷ bs))) (is.goes f) is.rest in
        (after c.said r.0, call_on f r.1)

no_bytes : (ps : List (List ℕ)) → CanOffer ps → CanOfferAfter 0 ps
no_bytes ps k s room [] h g y = let r = k s room g in (r.0, piece_used r.1)
no_bytes ps k s room (b ∷ bs) h g y = let w : ⊥ = omega arith in absurd w

offer_piece : (n : ℕ) (ps : List (List ℕ)) → CanOffer ps → CanOfferAfter n ps
offer_piece zero ps k = no_bytes ps k
offer_piece (suc n) ps k = one_call n ps k (offer_piece n ps k)

pub can_be_offered : (ps : List (List ℕ)) → Bytes (joined ps) → CanOffer ps
unfolding joined
can_be_offered [] y s room g = (ends s room, all_used)
can_be_offered (p ∷ ps) y s room g = offer_piece (length p) ps (can_be_offered ps (bytes_rest p (joined ps) y)) s room p (omega arith) g (bytes_front p (joined ps) y)

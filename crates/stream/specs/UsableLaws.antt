-- A state that goes on, or is refused, is usable, and a usable one is either: the test of the code and what is said of the state.
-- Assumes nothing.
use Rattle.std.specs.Prelude.{◌≡◌, Bool, true, cond, ◌&&◌, ℕ, ◌^◌, ◌<◌, eqb, ltb, leb}
use Rattle.std.proofs.Math.Bool.{and-eq-true_iff}
use Rattle.std.proofs.Common.{arith, lt-ltb, le-ltb, le-leb, eq-eqb, ne_eqb, eqb-true, ltb-true}
use Rattle.std.proofs.Math.Decide.{dec_lt, ℕ_discrete}
use Rattle.limits.specs.Limits.{longest_frame}
use Rattle.stream.specs.Reading.{refusing, usable, usable_prefix, usable_frame}
use Rattle.stream.specs.Standing.{Going, Refused}
use Rattle.stream.specs.declared.Stream.{Stream}

pub going_usable : (s : Stream) (n : ℕ) → Going s n → usable s n ≡ true
unfolding usable usable_prefix usable_frame
going_usable s n g = by_size (dec_lt s.length_size 4) (ℕ_discrete s.mode 0)
  where
    by_size : Dec (s.length_size < 4) → Dec (s.mode ≡ 0)
        → cond (ltb s.length_size 4) (eqb s.read 0 && eqb s.mode 0 && ltb s.length (256 ^ s.length_size))
        (eqb s.length_size 4 && cond (eqb s.mode 4) (eqb s.read 0 && ltb longest_frame s.length)
        (leb s.length longest_frame && ltb s.read s.length && cond (eqb s.mode 0) (leb s.read n) (ltb 0 s.read && ltb s.mode 4))) ≡ true
    by_size (yes k) m =
        let i = g.in_prefix k in
        rw (lt-ltb s.length_size 4 k, eq-eqb s.read 0 i.1, eq-eqb s.mode 0 i.2, lt-ltb s.length (256 ^ s.length_size) i.0)
    by_size (no k) (yes m) =
        let i = g.in_frame (omega arith) in
        let f : s.mode ≡ 4 → ⊥ = λ e. omega arith in
        rw (le-ltb s.length_size 4 (omega arith), eq-eqb s.length_size 4 i.0, ne_eqb s.mode 4 f, le-leb s.length longest_frame i.1, lt-ltb s.read s.length i.2, eq-eqb s.mode 0 m, le-leb s.read n (i.3 m))
    by_size (no k) (no m) =
        let i = g.in_frame (omega arith) in
        let f : s.mode ≡ 4 → ⊥ = λ e. omega (arith, g.running) in
        rw (le-ltb s.length_size 4 (omega arith), eq-eqb s.length_size 4 i.0, ne_eqb s.mode 4 f, le-leb s.length longest_frame i.1, lt-ltb s.read s.length i.2, ne_eqb s.mode 0 m, lt-ltb 0 s.read (i.4 (omega arith)), lt-ltb s.mode 4 g.running)

pub refused_usable : (s : Stream) (n : ℕ) → Refused s → usable s n ≡ true
unfolding usable
refused_usable s n r =
    rw (r.whole, eq-eqb s.mode 4 r.mode, eq-eqb s.read 0 r.none, lt-ltb longest_frame s.length r.long)

pub usable_refused : (s : Stream) (n : ℕ) → usable s n ≡ true → s.mode ≡ refusing → Refused s
unfolding usable usable_prefix
usable_refused s n u m = by_size (dec_lt s.length_size 4)
  where
    both : (a b : Bool) → (a && b) ≡ true → (a ≡ true) × (b ≡ true)
    both a b e = (and-eq-true_iff a b).0 e

    by_size : Dec (s.length_size < 4) → Refused s
    by_size (yes k) =
        let q : (eqb s.read 0 && eqb s.mode 0 && ltb s.length (256 ^ s.length_size)) ≡ true = (rw (lt-ltb s.length_size 4 k) at u) in
        let v = both (eqb s.read 0 && eqb s.mode 0) (ltb s.length (256 ^ s.length_size)) q in
        let x = both (eqb s.read 0) (eqb s.mode 0) v.0 in
        let z = eqb-true s.mode 0 x.1 in
        let w : ⊥ = omega (arith, z, m) in absurd w
    by_size (no k) =
        let q : (eqb s.length_size 4 && (eqb s.read 0 && ltb longest_frame s.length)) ≡ true = (rw (le-ltb s.length_size 4 (omega arith), eq-eqb s.mode 4 m) at u) in
        let v = both (eqb s.length_size 4) (eqb s.read 0 && ltb longest_frame s.length) q in
        let x = both (eqb s.read 0) (ltb longest_frame s.length) v.1 in
        record { whole = eqb-true s.length_size 4 v.0; long = ltb-true longest_frame s.length x.1; none = eqb-true s.read 0 x.0; mode = m }

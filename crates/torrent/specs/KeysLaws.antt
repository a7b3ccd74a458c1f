-- The keys of `info` found in one walk: how far it has come for a key, and each way on from there.
-- Assumes nothing.
use Rattle.bencode.specs.Parts.{keyed}
use Rattle.bencode.specs.Scalar.{part, read_number}
use Rattle.std.specs.Prelude.{◌≡◌, Bool, true, false, cond, List, length, drop, ℕ, zero, suc, ◌+◌, ◌-◌, ◌≤◌, ◌<◌, Option, Some, None}
use Rattle.std.proofs.Math.Path.{refl}
use Rattle.std.proofs.Common.{sym, ap, ◌∙◌, arith, drop_of_length-le}
use Rattle.std.proofs.Math.ListN.{length-drop}
use Rattle.octets.specs.Octets.{same, cut}
use Rattle.bencode.specs.Parts.{is_dictionary, read_entry, find_in, find_key}
use Rattle.bencode.specs.EndsLaws.{drop_further}
use Rattle.bencode.specs.PartsLaws.{entry_ends, find_no_dictionary}
use Rattle.bencode.specs.declared.part.Part.{Part}
use Rattle.torrent.specs.HalvesFit.{or_else}

-- what a search for the key finds in all of `info` is what was found before `at`, or else what it finds from there on
pub record Sought (key i : List ℕ) (at : ℕ) (found : Option Part) : Type 0 where
  pub steps : ℕ
  pub enough : length i < at + steps
  pub whole : find_key key 0 i ≡ or_else found (find_in key steps at (drop at i))

or_missing : (f : Option Part) → or_else f None ≡ f
or_missing None = refl
or_missing (Some w) = refl

or_later : (f : Option Part) (t : Bool) (b k : ℕ) (x : Option Part) → or_else f (cond t (part b k) x) ≡ or_else (or_else f (cond t (part b k) None)) x
or_later None true b k x = refl
or_later None false b k x = refl
or_later (Some w) t b k x = refl

-- ---- one entry

pub found_before : (f g : Option Part) (a b : ℕ) → f ≡ part a b → part a b ≡ or_else f g
found_before f g a b e = rw e refl

module _ (f : Option Part) (e : f ≡ None) (t r : Bool) (q : r ≡ t) (b k : ℕ) where
  pub found_now : r ≡ true → part b k ≡ or_else f (cond t (part b k) None)
  found_now z = rw (e, sym q ∙ z) refl

  pub found_not : r ≡ false → None ≡ or_else f (cond t (part b k) None)
  found_not z = rw (e, sym q ∙ z) refl

-- ---- one key

module _ (key i : List ℕ) where
  pub sought_nowhere : is_dictionary i ≡ false → None ≡ find_key key 0 i
  sought_nowhere e = sym (find_no_dictionary key i 0 e)

  pub sought_start : is_dictionary i ≡ true → Sought key i 1 None
  unfolding find_key
  sought_start e = record { steps = suc (length (drop 1 i)); enough = omega (arith, length-drop 1 i); whole = rw e refl }

  module _ (at : ℕ) (f : Option Part) (w : Sought key i at f) where
    nothing_on : read_entry at (drop at i) ≡ None → (n : ℕ) → find_in key n at (drop at i) ≡ None
    unfolding find_in
    nothing_on e zero = refl
    nothing_on e (suc n) = rw e

    pub sought_stop : read_entry at (drop at i) ≡ None → f ≡ find_key key 0 i
    sought_stop e = sym (w.whole ∙ ap (or_else f) (nothing_on e w.steps) ∙ or_missing f)

    nothing_behind : length i ≤ at → read_entry at (drop at i) ≡ None
    unfolding read_entry read_number
    nothing_behind h = rw (drop_of_length-le i {i = at} h)

    pub sought_end : length i ≤ at → f ≡ find_key key 0 i
    sought_end h = sought_stop (nothing_behind h)

    module _ (a b k : ℕ) (e : read_entry at (drop at i) ≡ keyed a b k) where
      by_entry : (n : ℕ) → find_in key (suc n) at (drop at i) ≡ cond (same key (cut i a (b - a))) (part b k) (find_in key n k (drop k i))
      unfolding find_in cut
      by_entry n =
          let p = entry_ends at i a b k e in
          let x = p.0 in
          let y = p.1 in
          let z = p.2 in
          rw e (rw (drop_further i at a (omega arith), drop_further i at k (omega arith)) refl)

      behind : (n : ℕ) → length i < at + n → find_key key 0 i ≡ or_else f (find_in key n at (drop at i)) → Sought key i k (or_else f (cond (same key (cut i a (b - a))) (part b k) None))
      behind zero g q =
          let p = entry_ends at i a b k e in
          let x = p.0 in
          let y = p.1 in
          let z = p.2 in
          let u = p.3 in
          absurd (omega arith)
      behind (suc n) g q =
          let p = entry_ends at i a b k e in
          let x = p.0 in
          let y = p.1 in
          let z = p.2 in
          record {
            steps = n;
            enough = omega arith;
            whole = q ∙ ap (or_else f) (by_entry n) ∙ or_later f (same key (cut i a (b - a))) b k (find_in key n k (drop k i));
          }

      pub sought_on : (g : Option Part) → g ≡ or_else f (cond (same key (cut i a (b - a))) (part b k) None) → Sought key i k g
      sought_on g q = rw q (behind w.steps w.enough w.whole)

-- The search for a key at a position of the whole input: how far the code's loop has come, and each way on from there.
-- Assumes nothing.
use Rattle.bencode.specs.declared.walk.Amiss.{Amiss}
use Rattle.bencode.specs.Parts.{keyed}
use Rattle.bencode.specs.Scalar.{part}
use Rattle.std.specs.Prelude.{◌≡◌, refl, true, false, cond, List, ℕ, zero, suc, ◌+◌, ◌-◌, ◌≤◌, ◌<◌, length, get_or, take, drop, eqb, None, Result}
use Rattle.std.proofs.Common.{sym, ap, ◌∙◌, arith, length-drop, drop-drop}
use Rattle.std.proofs.lemmas.Bool.{false≢true}
use Rattle.std.proofs.Math.Decide.{dec_lt}
use Rattle.limits.specs.Limits.{max_levels}
use Rattle.octets.specs.Octets.{cut, same}
use Rattle.bencode.specs.Grammar.{letter_d}
use Rattle.bencode.specs.Scalar.{read_string}
use Rattle.bencode.specs.Walk.{walk_value}
use Rattle.bencode.specs.Parts.{is_dictionary, entry_to, entry_with, read_entry, find_in, find_key}
use Rattle.bencode.specs.EndsLaws.{drop_further, string_ends}
use Rattle.bencode.specs.PartsLaws.{entry_ends}
use Rattle.bencode.proofs.Reading.{drop_end}
use Rattle.octets.specs.OctetsLaws.{drop_step}

module _ (s : List ℕ) (i : ℕ) where
  pub dictionary_none : length s ≤ i → is_dictionary (drop i s) ≡ false
  unfolding is_dictionary
  dictionary_none h = rw (drop_end s i h)

  pub dictionary_byte : i < length s → is_dictionary (drop i s) ≡ eqb (get_or s i 0) letter_d
  unfolding is_dictionary
  dictionary_byte h = rw (drop_step s i h)

  -- where a dictionary begins there is a byte
  pub dictionary_within : is_dictionary (drop i s) ≡ true → i < length s
  dictionary_within e = by_length (dec_lt i (length s))
    where
      by_length : Dec (i < length s) → i < length s
      by_length (yes h) = h
      by_length (no g) = absurd (false≢true (sym (dictionary_none (omega arith)) ∙ e))

  pub entry_no_key : read_string i (drop i s) ≡ None → read_entry i (drop i s) ≡ None
  unfolding read_entry
  entry_no_key e = ap (entry_with i (drop i s)) e

  pub entry_key : (a b : ℕ) (w : Result ℕ Amiss) → read_string i (drop i s) ≡ part a b → walk_value max_levels b (drop b s) ≡ w → read_entry i (drop i s) ≡ entry_to a b w
  unfolding read_entry
  entry_key a b w e f =
      let p = string_ends i s a b e in
      let x = p.0 in
      let y = p.1 in
      ap (entry_with i (drop i s)) e ∙ rw (drop_further s i b (omega arith)) (ap (entry_to a b) f)

-- the search that began at the dictionary at a has come to i
abbrev pub FindAt : List ℕ → List ℕ → ℕ → ℕ → Type 0
FindAt key s a i = (steps : ℕ) × (length s < i + steps) × (find_key key a (drop a s) ≡ find_in key steps i (drop i s))

pub find_start : (key s : List ℕ) (a : ℕ) → is_dictionary (drop a s) ≡ true → FindAt key s a (a + 1)
unfolding find_key
find_start key s a e =
    (suc (length (drop 1 (drop a s))), omega (arith, length-drop 1 (drop a s), length-drop a s), rw e (rw (drop-drop 1 a s) refl))

module _ (key s : List ℕ) (a i : ℕ) where
  find_no_entry : (f : ℕ) → read_entry i (drop i s) ≡ None → find_in key f i (drop i s) ≡ None
  unfolding find_in
  find_no_entry zero e = refl
  find_no_entry (suc f) e = rw e

  pub find_stop : FindAt key s a i → read_entry i (drop i s) ≡ None → find_key key a (drop a s) ≡ None
  find_stop w e = w.2 ∙ find_no_entry w.0 e

  module _ (x y k : ℕ) (e : read_entry i (drop i s) ≡ keyed x y k) where
    within : i < length s
    within = let p = entry_ends i s x y k e in let lx = p.0 in let ly = p.1 in let lk = p.2 in let l = p.3 in omega arith

    find_step : (f : ℕ) → find_in key (suc f) i (drop i s) ≡ cond (same key (take (y - x) (drop x s))) (part y k) (find_in key f k (drop k s))
    unfolding find_in cut
    find_step f =
        let p = entry_ends i s x y k e in
        let lx = p.0 in
        let ly = p.1 in
        let lk = p.2 in
        rw e (rw (drop_further s i x (omega arith), drop_further s i k (omega arith)) refl)

    find_this : (f : ℕ) → length s < i + f → same key (take (y - x) (drop x s)) ≡ true → find_in key f i (drop i s) ≡ part y k
    find_this zero g q = absurd (omega (arith, within))
    find_this (suc f) g q = find_step f ∙ rw q

    pub find_here : FindAt key s a i → same key (take (y - x) (drop x s)) ≡ true → find_key key a (drop a s) ≡ part y k
    find_here w q = w.2 ∙ find_this w.0 w.1 q

    find_next : (f : ℕ) → length s < i + f → find_key key a (drop a s) ≡ find_in key f i (drop i s) → same key (take (y - x) (drop x s)) ≡ false → FindAt key s a k
    find_next zero g w q = absurd (omega (arith, within))
    find_next (suc f) g w q =
        let p = entry_ends i s x y k e in
        let lx = p.0 in
        let ly = p.1 in
        let lk = p.2 in
        (f, omega arith, w ∙ find_step f ∙ rw q)

    pub find_on : FindAt key s a i → same key (take (y - x) (drop x s)) ≡ false → FindAt key s a k
    find_on w q = find_next w.0 w.1 w.2 q

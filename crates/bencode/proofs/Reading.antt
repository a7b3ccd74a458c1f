-- Numbers, strings, integers and the order of keys at a position of the whole input: each definition of specs/ as the code meets it, byte by byte.
-- Assumes nothing.
use Rattle.bencode.specs.Scalar.{part}
use Rattle.bencode.specs.Scalar.{is}
use Rattle.std.specs.Prelude.{Option, Some, None, ◌≡◌, refl, Bool, true, false, cond, List, [], ◌∷◌, ℕ, ◌+◌, ◌-◌, ◌*◌, ◌^◌, ◌≤◌, ◌<◌, length, get_or, drop, take, leb, ltb, eqb}
use Rattle.std.proofs.Common.{sym, ap, ◌∙◌, arith, length-drop, drop_of_length-le, le-leb, leb-false, eq-eqb, ne_eqb, lt-ltb, le-ltb}
use Rattle.std.proofs.lemmas.Bool.{lt-leb}
use Rattle.octets.specs.Octets.{cut}
use Rattle.bencode.specs.Grammar.{digit_zero, digit_nine, colon, letter_e, letter_i, minus_sign, precedes}
use Rattle.bencode.specs.Scalar.{bounded, read_digits, read_zero, read_number, content_in, read_string, negative, positive, read_signed, read_integer}
use Rattle.bencode.specs.Walk.{between, read_key, key_before}
use Rattle.bencode.specs.EndsLaws.{cond_both, number_ends, string_ends, drop_further}
use Rattle.bencode.specs.declared.part.Part.{Part}
use Rattle.bencode.specs.declared.decimal.Number.{Number}
use Rattle.octets.specs.OctetsLaws.{drop_step}

pub drop_end : (s : List ℕ) (i : ℕ) → length s ≤ i → drop i s ≡ []
drop_end s i h = drop_of_length-le s {i = i} h

-- ---- numbers

-- above 2^63 no further digit brings a number back
pub digits_over : (stop n at : ℕ) (xs : List ℕ) → 2 ^ 63 < n → bounded (read_digits stop n at xs) ≡ None
unfolding read_digits
digits_over stop n at [] h = refl
digits_over stop n at (c ∷ cs) h =
    let Nothing : Option Number → Type 0 = λ w. bounded w ≡ None in
    cond_both Nothing (eqb c stop) _ _ (simp (lt-leb _ _ h))
    (cond_both Nothing (ltb c digit_zero) _ _ refl
    (cond_both Nothing (ltb digit_nine c) _ _ refl (digits_over stop (n * 10 + (c - digit_zero)) (at + 1) cs (omega arith))))

module _ (stop n : ℕ) (s : List ℕ) (i : ℕ) where
  pub digits_end : length s ≤ i → read_digits stop n i (drop i s) ≡ None
  unfolding read_digits
  digits_end h = rw (drop_end s i h)

  module _ (h : i < length s) where
    digits_step : read_digits stop n i (drop i s) ≡
        cond (eqb (get_or s i 0) stop) (is n (i + 1))
        (cond (ltb (get_or s i 0) digit_zero) None
        (cond (ltb digit_nine (get_or s i 0)) None (read_digits stop (n * 10 + (get_or s i 0 - digit_zero)) (i + 1) (drop (i + 1) s))))
    unfolding read_digits
    digits_step = rw (drop_step s i h)

    pub digits_stop : get_or s i 0 ≡ stop → read_digits stop n i (drop i s) ≡ is n (i + 1)
    digits_stop e = digits_step ∙ simp (eq-eqb _ _ e)

    pub digits_low : (get_or s i 0 ≡ stop → ⊥) → get_or s i 0 < digit_zero → read_digits stop n i (drop i s) ≡ None
    digits_low e l = digits_step ∙ simp (ne_eqb _ _ e, lt-ltb _ _ l)

    pub digits_high : (get_or s i 0 ≡ stop → ⊥) → digit_zero ≤ get_or s i 0 → digit_nine < get_or s i 0 → read_digits stop n i (drop i s) ≡ None
    digits_high e l g = digits_step ∙ simp (ne_eqb _ _ e, le-ltb _ _ l, lt-ltb _ _ g)

    pub digits_more : (get_or s i 0 ≡ stop → ⊥) → digit_zero ≤ get_or s i 0 → get_or s i 0 ≤ digit_nine →
        read_digits stop n i (drop i s) ≡ read_digits stop (n * 10 + (get_or s i 0 - digit_zero)) (i + 1) (drop (i + 1) s)
    digits_more e l g = digits_step ∙ simp (ne_eqb _ _ e, le-ltb _ _ l, le-ltb _ _ g)

module _ (stop : ℕ) (s : List ℕ) (i : ℕ) where
  pub zero_end : length s ≤ i → read_zero stop i (drop i s) ≡ None
  unfolding read_zero
  zero_end h = rw (drop_end s i h)

  pub zero_step : i < length s → read_zero stop i (drop i s) ≡ cond (eqb (get_or s i 0) stop) (is 0 (i + 1)) None
  unfolding read_zero
  zero_step h = rw (drop_step s i h)

  -- a lone zero is within the bound
  pub zero_bounded : bounded (read_zero stop i (drop i s)) ≡ read_zero stop i (drop i s)
  zero_bounded = within (drop i s)
    where
      within : (xs : List ℕ) → bounded (read_zero stop i xs) ≡ read_zero stop i xs
      within [] = unfold read_zero in refl
      within (c ∷ cs) = unfold read_zero in cond_both (λ (w : Option Number). bounded w ≡ w) (eqb c stop) _ _ refl refl

  pub number_end : length s ≤ i → read_number stop i (drop i s) ≡ None
  unfolding read_number
  number_end h = rw (drop_end s i h)

  pub number_step : i < length s →
      read_number stop i (drop i s) ≡
      cond (eqb (get_or s i 0) digit_zero) (read_zero stop (i + 1) (drop (i + 1) s)) (cond (eqb (get_or s i 0) stop) None (read_digits stop 0 i (drop i s)))
  unfolding read_number
  number_step h = rw (drop_step s i h)

bounded_is : (w : Option Number) (n k : ℕ) → bounded w ≡ is n k → w ≡ is n k
bounded_is None n k e = e
bounded_is (Some w) n k e = by_size (leb w.value (2 ^ 63)) e
  where
    by_size : (b : Bool) → cond b (Some w) None ≡ is n k → is w.value w.next ≡ is n k
    by_size true e = e
    by_size false e = let z : ◌≡◌ {A = ℕ} 0 1 = cc in absurd (omega arith)

-- ---- strings: a slice has less than 2^63 bytes, so that the bound on the length changes nothing

content_bounded : (end : ℕ) (w : Option Number) → end ≤ 2 ^ 63 → content_in end (bounded w) ≡ content_in end w
content_bounded end None h = refl
content_bounded end (Some w) h = by_size (leb w.value (2 ^ 63)) refl
  where
    by_size : (b : Bool) → leb w.value (2 ^ 63) ≡ b → content_in end (cond b (Some w) None) ≡ content_in end (Some w)
    by_size true e = refl
    by_size false e = let g = lt_of e in sym (simp (lt-leb w.value (end - w.next) (omega arith)))
      where
        lt_of : leb w.value (2 ^ 63) ≡ false → 2 ^ 63 < w.value
        lt_of = leb-false w.value (2 ^ 63)

module _ (s : List ℕ) (at : ℕ) (small : length s < 2 ^ 63) where
  pub string_none : bounded (read_number colon at (drop at s)) ≡ None → read_string at (drop at s) ≡ None
  string_none e = by_number (read_number colon at (drop at s)) refl e
    where
      by_number : (w : Option Number) → read_number colon at (drop at s) ≡ w → bounded w ≡ None → content_in (at + length (drop at s)) w ≡ None
      by_number None q e = refl
      by_number (Some w) q e =
          let p = number_ends colon at s w.value w.next q in
          let end : at + length (drop at s) ≡ length s = omega (arith, length-drop at s) in
          sym (content_bounded (at + length (drop at s)) (Some w) (omega arith)) ∙ ap (content_in (at + length (drop at s))) e

  module _ (n k : ℕ) (e : bounded (read_number colon at (drop at s)) ≡ is n k) where
    is_number : read_number colon at (drop at s) ≡ is n k
    is_number = bounded_is (read_number colon at (drop at s)) n k e

    pub length_ends : (at < k) × (k ≤ length s)
    length_ends = number_ends colon at s n k is_number

    whole : at + length (drop at s) ≡ length s
    whole = let p = length_ends in omega (arith, length-drop at s)

    pub string_content : n ≤ length s - k → read_string at (drop at s) ≡ part k (k + n)
    string_content h = rw (is_number, whole) (simp (le-leb _ _ h))

    pub string_short : length s - k < n → read_string at (drop at s) ≡ None
    string_short h = rw (is_number, whole) (simp (lt-leb _ _ h))

-- ---- integers

module _ (s : List ℕ) (i : ℕ) where
  pub signed_end : length s ≤ i → read_signed i (drop i s) ≡ None
  unfolding read_signed
  signed_end h = rw (drop_end s i h)

  pub signed_step : i < length s →
      read_signed i (drop i s) ≡
      cond (eqb (get_or s i 0) minus_sign) (negative (bounded (read_number letter_e (i + 1) (drop (i + 1) s)))) (positive (bounded (read_number letter_e i (drop i s))))
  unfolding read_signed
  signed_step h = rw (drop_step s i h)

  pub integer_end : length s ≤ i → read_integer i (drop i s) ≡ None
  unfolding read_integer
  integer_end h = rw (drop_end s i h)

  pub integer_step : i < length s → read_integer i (drop i s) ≡ cond (eqb (get_or s i 0) letter_i) (read_signed (i + 1) (drop (i + 1) s)) None
  unfolding read_integer
  integer_step h = rw (drop_step s i h)

-- ---- keys

module _ (s : List ℕ) (at : ℕ) (key : Part) (e : read_string at (drop at s) ≡ Some key) where
  pub key_first : read_key (key_before None s) at (drop at s) ≡ Some key
  key_first = rw e

  key_bytes : between at (drop at s) key.start key.end ≡ take (key.end - key.start) (drop key.start s)
  unfolding cut
  key_bytes = let p = string_ends at s key.start key.end e in let q = p.0 in rw (drop_further s at key.start (omega arith)) refl

  module _ (last : Part) where
    pub key_next : precedes (take (last.end - last.start) (drop last.start s)) (take (key.end - key.start) (drop key.start s)) ≡ true
        → read_key (key_before (Some last) s) at (drop at s) ≡ Some key
    unfolding cut
    key_next l = rw e (rw (key_bytes, l) refl)

    pub key_back : precedes (take (last.end - last.start) (drop last.start s)) (take (key.end - key.start) (drop key.start s)) ≡ false
        → read_key (key_before (Some last) s) at (drop at s) ≡ None
    unfolding cut
    key_back l = rw e (rw (key_bytes, l) refl)

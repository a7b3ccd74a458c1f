-- The walk takes the encoding of every valid value, whatever stands behind it: `complete`. By the value, with the bytes left to read
-- as a variable, so that an encoding inside another is the same case.
-- Assumes nothing.
use Rattle.bencode.specs.declared.walk.Amiss.{Amiss}
use Rattle.bencode.specs.Scalar.{whole}
use Rattle.bencode.specs.Scalar.{part}
use Rattle.bencode.specs.Scalar.{is}
use Rattle.std.specs.Prelude.{◌≡◌, Bool, true, false, length, drop, ltb, List, [], ◌∷◌, ◌++◌, ℕ, zero, suc, ◌+◌, ◌-◌, ◌*◌, ◌/◌, ◌%◌, ◌^◌, ◌≤◌, ◌<◌, Ok, Result}
use Rattle.std.proofs.Math.Path.{refl}
use Rattle.std.proofs.Common.{ap, ◌∙◌, div-add-mod', mod-lt, arith, length-append, append_assoc, eq-eqb, ne_eqb, lt-ltb, le-ltb, le-leb, ltb-true, ltb-false}
use Rattle.std.proofs.Math.Seq.{drop-append_seam, take-append_seam}
use Rattle.octets.specs.Octets.{cut}
use Rattle.bencode.specs.Grammar.{minus_sign, digit_zero, digit_nine, colon, letter_d, letter_e, letter_i, letter_l, Value, integer, string, list, dictionary, Items, no_items, item, Entries, no_entries, entry, decimal_in, decimal, sign, encode_string, encode, encode_items, encode_entries, KeyBefore, none, after, ascends, IntegerFits, Valid, ItemsValid, EntriesValid}
use Rattle.bencode.specs.Scalar.{bounded, read_digits, read_zero, read_number, content_in, read_string, negative, positive, read_signed, read_integer}
use Rattle.bencode.specs.Walk.{past_integer, past_string, end_or, between, in_order, read_key, walk_items, walk_entries, walk_list, walk_dictionary, by_first, walk_value}
use Rattle.bencode.specs.CondLaws.{cond_case}

-- ---- numbers

-- a number by its last digit
pub div_mod : (n : ℕ) → (n / 10 * 10 + n % 10 ≡ n) × (n % 10 < 10)
div_mod n = (div-add-mod' n 10, mod-lt n (omega arith))

digit_read : (stop m at d : ℕ) (r : List ℕ) → digit_nine < stop → d < 10 → read_digits stop m at ((digit_zero + d) ∷ r) ≡ read_digits stop (m * 10 + d) (at + 1) r
unfolding read_digits
digit_read stop m at d r h g =
    let e : digit_zero + d - digit_zero ≡ d = omega arith in
    simp (ne_eqb (digit_zero + d) stop (λ q. omega arith), le-ltb (digit_zero + d) digit_zero (omega arith), le-ltb digit_nine (digit_zero + d) (omega arith), e)

-- the digits of a number are read as it, and what stands behind them is left
digits_read : (stop at : ℕ) → digit_nine < stop → (steps n : ℕ) (r : List ℕ) → n < steps → read_digits stop 0 at (decimal_in steps n ++ r) ≡ read_digits stop n (at + length (decimal_in steps n)) r
unfolding decimal_in
digits_read stop at big zero n r h = absurd (omega arith)
digits_read stop at big (suc f) n r h =
    cond_case (λ (ds : List ℕ). read_digits stop 0 at (ds ++ r) ≡ read_digits stop n (at + length ds) r) (ltb n 10) _ _
    (λ e. let q = ltb-true n 10 e in let z : 0 * 10 + n ≡ n = omega arith in digit_read stop 0 at n r big q ∙ rw z refl)
    (λ e.
    let q = ltb-false n 10 e in
    let dm = div_mod n in
    let ds = decimal_in f (n / 10) in
    let o : at + length ds + 1 ≡ at + length (ds ++ (digit_zero + n % 10) ∷ []) = omega (arith, length-append ds ((digit_zero + n % 10) ∷ [])) in
    rw append_assoc
    (digits_read stop at big f (n / 10) ((digit_zero + n % 10) ∷ r) (omega (arith, dm.0))
    ∙ digit_read stop (n / 10) (at + length ds) (n % 10) r big dm.1
    ∙ rw (dm.0, o) refl))

-- ds begins with a digit, which is no 0 unless ds is the 0 of n = 0
unfoldable pub BeginsWithDigit : List ℕ → ℕ → Type 0
BeginsWithDigit ds n = (c : ℕ) × (cs : List ℕ) × (ds ≡ c ∷ cs) × (digit_zero ≤ c) × (c ≤ digit_nine) × (0 < n → digit_zero < c)

first_digit : (steps n : ℕ) → n < steps → BeginsWithDigit (decimal_in steps n) n
unfolding decimal_in BeginsWithDigit
first_digit zero n h = absurd (omega arith)
first_digit (suc f) n h =
    cond_case (λ (ds : List ℕ). (c : ℕ) × (cs : List ℕ) × (ds ≡ c ∷ cs) × (digit_zero ≤ c) × (c ≤ digit_nine) × (0 < n → digit_zero < c)) (ltb n 10) _ _
    (λ e. let q = ltb-true n 10 e in (digit_zero + n, [], refl, omega arith, omega arith, λ z. omega arith))
    (λ e.
    let q = ltb-false n 10 e in
    let dm = div_mod n in
    let w = first_digit f (n / 10) (omega (arith, dm.0)) in
    let last = (digit_zero + n % 10) ∷ [] in
    (w.0, w.1 ++ last, ap (λ (ds : List ℕ). ds ++ last) w.2, w.3, w.4, λ z. w.5 (omega (arith, dm.0, dm.1))))

-- a number in decimal begins with a digit, and with 0 only if it is 0
pub decimal_first : (n : ℕ) → BeginsWithDigit (decimal n) n
decimal_first n = first_digit (suc n) n (omega arith)

pub decimal_some : (n : ℕ) → 0 < length (decimal n)
unfolding BeginsWithDigit
decimal_some n = let w = decimal_first n in omega (arith, ap length w.2)

module _ (stop : ℕ) (big : digit_nine < stop) (at : ℕ) (r : List ℕ) where
  zero_read : (n : ℕ) → n ≡ 0 → read_number stop at (decimal n ++ stop ∷ r) ≡ is n (at + length (decimal n) + 1)
  unfolding decimal_in read_number read_zero
  zero_read n e = rw e (simp (eq-eqb stop stop refl))

  by_digits : (ds xs : List ℕ) (n : ℕ) → BeginsWithDigit ds n → 0 < n → read_number stop at (ds ++ xs) ≡ read_digits stop 0 at (ds ++ xs)
  unfolding BeginsWithDigit read_number
  by_digits ds xs n w p =
      let low = w.5 p in
      let high = w.4 in
      rw w.2 (simp (ne_eqb w.0 digit_zero (λ q. omega arith), ne_eqb w.0 stop (λ q. omega arith)))

  stop_read : (n k : ℕ) → read_digits stop n k (stop ∷ r) ≡ is n (k + 1)
  unfolding read_digits
  stop_read n k = simp (eq-eqb stop stop refl)

  -- a number that was written is read back
  pub number_read : (n : ℕ) → read_number stop at (decimal n ++ stop ∷ r) ≡ is n (at + length (decimal n) + 1)
  number_read n = by_size n refl
    where
      by_size : (m : ℕ) → n ≡ m → read_number stop at (decimal n ++ stop ∷ r) ≡ is n (at + length (decimal n) + 1)
      by_size zero e = zero_read n e
      by_size (suc m) e =
          by_digits (decimal n) (stop ∷ r) n (decimal_first n) (omega arith)
          ∙ digits_read stop at big (suc n) n (stop ∷ r) (omega arith)
          ∙ stop_read n (at + length (decimal n))

-- ---- strings and integers

content_read : (end n k : ℕ) → n ≤ end - k → content_in end (is n k) ≡ part k (k + n)
content_read end n k h = simp (le-leb n (end - k) h)

-- where the content of a string begins, whose encoding begins at `at`
abbrev pub content_start : ℕ → List ℕ → ℕ
content_start at b = at + length (decimal (length b)) + 1

-- so is a string
pub string_read : (at : ℕ) (b r : List ℕ) → read_string at (encode_string b ++ r) ≡ part (content_start at b) (at + length (encode_string b))
string_read at b r =
    let n = length b in
    let k = content_start at b in
    let end = at + length (decimal n ++ (colon ∷ (b ++ r))) in
    let la = length-append (decimal n) (colon ∷ (b ++ r)) in
    let lb = length-append b r in
    let lc = length-append (decimal n) (colon ∷ b) in
    let o : k + n ≡ at + length (encode_string b) = omega arith in
    rw append_assoc (ap (content_in end) (number_read colon (omega arith) at (b ++ r) n) ∙ content_read end n k (omega arith) ∙ ap (part k) o)

-- the content's bytes are the string
pub content_bytes : (at : ℕ) (b r : List ℕ) → between at (encode_string b ++ r) (content_start at b) (at + length (encode_string b)) ≡ b
unfolding cut
content_bytes at b r =
    let d = decimal (length b) in
    let lc = length-append d (colon ∷ b) in
    let ld = length-append d (colon ∷ []) in
    let o : at + length (encode_string b) - (at + length d + 1) ≡ length b = omega arith in
    let p : at + length d + 1 - at ≡ length (d ++ colon ∷ []) = omega arith in
    let s : encode_string b ++ r ≡ (d ++ colon ∷ []) ++ (b ++ r) = simp append_assoc in
    rw (o, p, s) (rw (drop-append_seam (d ++ colon ∷ []) (b ++ r)) (take-append_seam b r))

-- and an integer, past its `i`
pub signed_read : (at : ℕ) (minus : Bool) (n : ℕ) (r : List ℕ) → IntegerFits minus n
    → read_signed at (sign minus ++ (decimal n ++ letter_e ∷ r)) ≡ whole minus n (at + length (sign minus) + length (decimal n) + 1)
unfolding read_signed
signed_read at true n r h =
    let p = h.0 in
    let q = h.1 in
    let k = at + 1 + length (decimal n) + 1 in
    let fits : bounded (is n k) ≡ is n k = simp (le-leb n (2 ^ 63) q) in
    ap negative (ap bounded (number_read letter_e (omega arith) (at + 1) r n) ∙ fits) ∙ simp (ne_eqb n 0 (λ q. omega arith))
signed_read at false n r h =
    let k = at + length (decimal n) + 1 in
    let fits : bounded (is n k) ≡ is n k = simp (le-leb n (2 ^ 63) (omega arith)) in
    no_minus (decimal n) (decimal_first n)
    ∙ ap positive (ap bounded (number_read letter_e (omega arith) at r n) ∙ fits)
    ∙ simp (lt-ltb n (2 ^ 63) h) (ap (whole false n) (omega arith))
  where
    no_minus : (ds : List ℕ) → BeginsWithDigit ds n → read_signed at (ds ++ letter_e ∷ r) ≡ positive (bounded (read_number letter_e at (ds ++ letter_e ∷ r)))
    no_minus ds w = unfold BeginsWithDigit in rw w.2 (simp (ne_eqb w.0 minus_sign (λ q. omega (arith, w.3))))

-- an integer's encoding, with what stands behind it
pub integer_bytes : (minus : Bool) (n : ℕ) (r : List ℕ) → encode (integer minus n) ++ r ≡ letter_i ∷ (sign minus ++ (decimal n ++ letter_e ∷ r))
unfolding encode
integer_bytes minus n r = simp append_assoc

-- and its length
pub integer_length : (minus : Bool) (n : ℕ) → length (encode (integer minus n)) ≡ 1 + length (sign minus) + length (decimal n) + 1
unfolding encode
integer_length minus n =
    let la = length-append (sign minus) (decimal n ++ letter_e ∷ []) in
    let lb = length-append (decimal n) (letter_e ∷ []) in
    omega arith

-- an integer that was written is read back
pub integer_read : (at : ℕ) (minus : Bool) (n : ℕ) (r : List ℕ) → IntegerFits minus n
    → read_integer at (encode (integer minus n) ++ r) ≡ whole minus n (at + length (encode (integer minus n)))
unfolding read_integer
integer_read at minus n r h =
    let o : at + 1 + length (sign minus) + length (decimal n) + 1 ≡ at + length (encode (integer minus n)) = omega (arith, integer_length minus n) in
    rw (integer_bytes minus n r) (signed_read (at + 1) minus n r h ∙ ap (whole minus n) o)

-- a list's encoding
pub list_bytes : (vs : Items) → encode (list vs) ≡ letter_l ∷ encode_items vs
unfolding encode
list_bytes vs = refl

-- a dictionary's encoding
pub dictionary_bytes : (es : Entries) → encode (dictionary es) ≡ letter_d ∷ encode_entries es
unfolding encode
dictionary_bytes es = refl

pub dictionary_length : (es : Entries) → length (encode (dictionary es)) ≡ suc (length (encode_entries es))
unfolding encode
dictionary_length es = refl

-- ---- a value's first byte

module _ (l at : ℕ) where
  walk_integer : (xs : List ℕ) → walk_value l at (letter_i ∷ xs) ≡ past_integer (read_signed (at + 1) xs)
  walk_integer xs = by_level l
    where
      by_level : (m : ℕ) → walk_value m at (letter_i ∷ xs) ≡ past_integer (read_signed (at + 1) xs)
      by_level zero = unfold walk_value by_first in refl
      by_level (suc m) = unfold walk_value by_first in refl

  walk_string : (ds xs : List ℕ) (n : ℕ) → BeginsWithDigit ds n → walk_value l at (ds ++ xs) ≡ past_string (read_string at (ds ++ xs))
  unfolding BeginsWithDigit
  walk_string ds xs n w = rw w.2 (by_level w.0 (w.1 ++ xs) w.3 w.4 l)
    where
      by_level : (c : ℕ) (cs : List ℕ) → digit_zero ≤ c → c ≤ digit_nine → (m : ℕ) → walk_value m at (c ∷ cs) ≡ past_string (read_string at (c ∷ cs))
      by_level c cs h g zero = unfold walk_value by_first in simp (ne_eqb c letter_i (λ q. omega arith), ne_eqb c letter_l (λ q. omega arith), ne_eqb c letter_d (λ q. omega arith))
      by_level c cs h g (suc m) = unfold walk_value by_first in simp (ne_eqb c letter_i (λ q. omega arith), ne_eqb c letter_l (λ q. omega arith), ne_eqb c letter_d (λ q. omega arith))

  -- an `l` begins a list
  pub walk_list_lem : (xs : List ℕ) → walk_value (suc l) at (letter_l ∷ xs) ≡ walk_list (walk_value l) (at + 1) xs
  unfolding walk_value by_first
  walk_list_lem xs = refl

  -- a `d` begins a dictionary
  pub walk_dictionary_lem : (xs : List ℕ) → walk_value (suc l) at (letter_d ∷ xs) ≡ walk_dictionary (walk_value l) (at + 1) xs
  unfolding walk_value by_first
  walk_dictionary_lem xs = refl

-- no encoding begins with an `e`
unfoldable pub NoEnd : List ℕ → Type 0
NoEnd e = (at : ℕ) (xs : List ℕ) (w : Result ℕ Amiss) → end_or at (e ++ xs) w ≡ w

digits_no_end : (ds ys : List ℕ) (n : ℕ) → BeginsWithDigit ds n → NoEnd (ds ++ ys)
unfolding BeginsWithDigit NoEnd end_or
digits_no_end ds ys n w at xs o = rw w.2 (simp (ne_eqb w.0 letter_e (λ q. omega (arith, w.4))))

-- a string's begins with a digit
pub string_no_end : (b : List ℕ) → NoEnd (encode_string b)
string_no_end b = digits_no_end (decimal (length b)) (colon ∷ b) (length b) (decimal_first (length b))

-- a value's with a digit or one of three letters
pub value_no_end : (v : Value) → NoEnd (encode v)
unfolding encode
value_no_end (integer minus n) = unfold NoEnd end_or in λ at xs w. refl
value_no_end (string b) = string_no_end b
value_no_end (list vs) = unfold NoEnd end_or in λ at xs w. refl
value_no_end (dictionary es) = unfold NoEnd end_or in λ at xs w. refl

-- and none is empty
pub string_some : (b : List ℕ) → 0 < length (encode_string b)
string_some b = omega (arith, length-append (decimal (length b)) (colon ∷ b))

-- nor is that of a value
pub value_some : (v : Value) → 0 < length (encode v)
unfolding encode
value_some (integer minus n) = omega arith
value_some (string b) = string_some b
value_some (list vs) = omega arith
value_some (dictionary es) = omega arith

-- ---- items and entries

-- what stands behind a part
pub past_part : (at : ℕ) (e r : List ℕ) → drop (at + length e - at) (e ++ r) ≡ r
past_part at e r = let o : at + length e - at ≡ length e = omega arith in rw o (drop-append_seam e r)

-- one item
pub items_one : (value : ℕ → List ℕ → Result ℕ Amiss) (f at : ℕ) (e r : List ℕ) → NoEnd e → value at (e ++ r) ≡ Ok (at + length e)
    → walk_items value (suc f) at (e ++ r) ≡ walk_items value f (at + length e) r
unfolding walk_items NoEnd
items_one value f at e r n q = n at r _ ∙ rw q (rw (past_part at e r) refl)

-- a key that ascends is read back
pub key_read : (at : ℕ) (k r : List ℕ) (j : KeyBefore) → ascends j k ≡ true → read_key j at (encode_string k ++ r) ≡ part (content_start at k) (at + length (encode_string k))
key_read at k r j a = ap (in_order j at (encode_string k ++ r)) (string_read at k r) ∙ rw (content_bytes at k r, a) refl

-- one entry
pub entries_one : (value : ℕ → List ℕ → Result ℕ Amiss) (f at : ℕ) (j : KeyBefore) (k e r : List ℕ) → ascends j k ≡ true
    → value (at + length (encode_string k)) (e ++ r) ≡ Ok (at + length (encode_string k) + length e)
    → walk_entries value (suc f) j at (encode_string k ++ (e ++ r)) ≡ walk_entries value f (after k) (at + length (encode_string k) + length e) r
unfolding walk_entries NoEnd
entries_one value f at j k e r a q =
    let b = at + length (encode_string k) in
    let la = length-append (encode_string k) e in
    let o : b + length e - at ≡ length (encode_string k ++ e) = omega arith in
    let s : encode_string k ++ (e ++ r) ≡ (encode_string k ++ e) ++ r = simp append_assoc in
    let z : drop (b + length e - at) (encode_string k ++ (e ++ r)) ≡ r = rw (o, s) (drop-append_seam (encode_string k ++ e) r) in
    string_no_end k at (e ++ r) _
    ∙ rw (key_read at k (e ++ r) j a) (rw (past_part at (encode_string k) (e ++ r), q) (rw (z, content_bytes at k (e ++ r)) refl))

items_none : (value : ℕ → List ℕ → Result ℕ Amiss) (f at : ℕ) (r : List ℕ) → walk_items value (suc f) at (letter_e ∷ r) ≡ Ok (at + 1)
unfolding walk_items end_or
items_none value f at r = refl

entries_none : (value : ℕ → List ℕ → Result ℕ Amiss) (f : ℕ) (j : KeyBefore) (at : ℕ) (r : List ℕ) → walk_entries value (suc f) j at (letter_e ∷ r) ≡ Ok (at + 1)
unfolding walk_entries end_or
entries_none value f j at r = refl

-- ---- values

integer_complete : (minus : Bool) (n l at : ℕ) (r : List ℕ) → IntegerFits minus n → walk_value l at (encode (integer minus n) ++ r) ≡ Ok (at + length (encode (integer minus n)))
integer_complete minus n l at r h =
    let o : at + 1 + length (sign minus) + length (decimal n) + 1 ≡ at + length (encode (integer minus n)) = omega (arith, integer_length minus n) in
    rw (integer_bytes minus n r) (walk_integer l at (sign minus ++ (decimal n ++ letter_e ∷ r)) ∙ ap past_integer (signed_read (at + 1) minus n r h) ∙ ap Ok o)

string_complete : (b : List ℕ) (l at : ℕ) (r : List ℕ) → walk_value l at (encode_string b ++ r) ≡ Ok (at + length (encode_string b))
string_complete b l at r = first_is_digit ∙ ap past_string (string_read at b r)
  where
    first_is_digit : walk_value l at (encode_string b ++ r) ≡ past_string (read_string at (encode_string b ++ r))
    first_is_digit = rw append_assoc (walk_string l at (decimal (length b)) (colon ∷ (b ++ r)) (length b) (decimal_first (length b)))

mutual
  unfolding encode Valid

  pub complete : (v : Value) (l at : ℕ) (r : List ℕ) → Valid v l → walk_value l at (encode v ++ r) ≡ Ok (at + length (encode v))
  complete (integer minus n) l at r h = integer_complete minus n l at r h
  complete (string b) l at r h = string_complete b l at r
  complete (list vs) zero at r h = absurd h
  complete (list vs) (suc l) at r h =
      let o : at + 1 + length (encode_items vs) ≡ at + length (encode (list vs)) = omega arith in
      walk_list_lem l at (encode_items vs ++ r)
      ∙ items_complete vs l (suc (length (encode_items vs ++ r))) (at + 1) r h (omega (arith, length-append (encode_items vs) r))
      ∙ ap Ok o
  complete (dictionary es) zero at r h = absurd h
  complete (dictionary es) (suc l) at r h =
      let o : at + 1 + length (encode_entries es) ≡ at + length (encode (dictionary es)) = omega arith in
      walk_dictionary_lem l at (encode_entries es ++ r)
      ∙ entries_complete es l none (suc (length (encode_entries es ++ r))) (at + 1) r h (omega (arith, length-append (encode_entries es) r))
      ∙ ap Ok o

  pub items_complete : (vs : Items) (l f at : ℕ) (r : List ℕ) → ItemsValid vs l → length (encode_items vs) ≤ f → walk_items (walk_value l) f at (encode_items vs ++ r) ≡ Ok (at + length (encode_items vs))
  items_complete no_items l zero at r h g = absurd (omega arith)
  items_complete no_items l (suc f) at r h g = items_none (walk_value l) f at r
  items_complete (item v vs) l zero at r h g = absurd (omega (arith, length-append (encode v) (encode_items vs), value_some v))
  items_complete (item v vs) l (suc f) at r h g =
      let la = length-append (encode v) (encode_items vs) in
      let sv = value_some v in
      let o : at + length (encode v) + length (encode_items vs) ≡ at + length (encode_items (item v vs)) = omega arith in
      rw append_assoc
      (items_one (walk_value l) f at (encode v) (encode_items vs ++ r) (value_no_end v) (complete v l at (encode_items vs ++ r) h.0)
      ∙ items_complete vs l f (at + length (encode v)) r h.1 (omega arith)
      ∙ ap Ok o)

  pub entries_complete : (es : Entries) (l : ℕ) (j : KeyBefore) (f at : ℕ) (r : List ℕ) → EntriesValid es j l → length (encode_entries es) ≤ f → walk_entries (walk_value l) f j at (encode_entries es ++ r) ≡ Ok (at + length (encode_entries es))
  entries_complete no_entries l j zero at r h g = absurd (omega arith)
  entries_complete no_entries l j (suc f) at r h g = entries_none (walk_value l) f j at r
  entries_complete (entry k v es) l j zero at r h g = absurd (omega (arith, length-append (encode_string k) (encode v ++ encode_entries es), string_some k))
  entries_complete (entry k v es) l j (suc f) at r h g =
      let la = length-append (encode_string k) (encode v ++ encode_entries es) in
      let lb = length-append (encode v) (encode_entries es) in
      let sk = string_some k in
      let o : at + length (encode_string k) + length (encode v) + length (encode_entries es) ≡ at + length (encode_entries (entry k v es)) = omega arith in
      let s : (encode_string k ++ (encode v ++ encode_entries es)) ++ r ≡ encode_string k ++ (encode v ++ (encode_entries es ++ r)) = simp append_assoc in
      rw s
      (entries_one (walk_value l) f at j k (encode v) (encode_entries es ++ r) h.0 (complete v l (at + length (encode_string k)) (encode_entries es ++ r) h.1)
      ∙ entries_complete es l (after k) f (at + length (encode_string k) + length (encode v)) r h.2 (omega arith)
      ∙ ap Ok o)

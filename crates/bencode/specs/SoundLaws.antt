-- What the walk takes is the encoding of a valid value: `sound`. By the walk, each reading giving back the value that it has read.
-- Assumes nothing.
use Rattle.bencode.specs.declared.walk.Amiss.{Amiss}
use Rattle.bencode.specs.declared.walk.Amiss.TheVariants.{Broken, TooDeep}
use Rattle.bencode.specs.Scalar.{whole}
use Rattle.bencode.specs.Scalar.{part}
use Rattle.bencode.specs.Scalar.{is}
use Rattle.std.specs.Prelude.{◌≡◌, Bool, true, false, cond, ℕ, zero, suc, ◌+◌, ◌-◌, ◌*◌, ◌/◌, ◌%◌, ◌^◌, ◌≤◌, ◌<◌, take, eqb, ltb, leb, Option, Some, None, List, [], ◌∷◌, ◌++◌, Err, Ok, Result}
use Rattle.std.proofs.Math.Path.{refl, sym, ap}
use Rattle.std.proofs.Common.{◌∙◌, length-take-le, append_assoc, append-nil, arith, ne_eqb, lt-ltb, le-ltb, ltb-true, ltb-false, leb-true, eqb-true}
use Rattle.std.proofs.Math.ListN.{length, drop, length-append}
use Rattle.std.proofs.Math.Seq.{drop-append_seam}
use Rattle.std.proofs.lemmas.Bool.{eqb-false}
use Rattle.bencode.specs.Grammar.{minus_sign, digit_zero, digit_nine, colon, letter_d, letter_e, letter_i, letter_l, integer, string, list, dictionary, no_items, item, no_entries, entry, decimal_in, decimal, sign, encode_string, encode, encode_items, encode_entries, KeyBefore, none, after, ascends, IntegerFits, Valid, ItemsValid, EntriesValid}
use Rattle.bencode.specs.Scalar.{bounded, read_digits, read_zero, read_number, content_in, read_string, negative, positive, read_signed}
use Rattle.bencode.specs.Walk.{past_integer, past_string, onward, with_key, end_or, between, in_order, read_key, walk_items, walk_entries, walk_list, walk_dictionary, by_first, walk_value}
use Rattle.bencode.specs.CondLaws.{cond_case}
use Rattle.bencode.specs.CompleteLaws.{div_mod, content_start, content_bytes, past_part, integer_bytes, integer_length}
use Rattle.bencode.specs.declared.decimal.Number.{Number}
use Rattle.bencode.specs.declared.part.Part.{Part}
use Rattle.bencode.specs.declared.scalar.Integer.{Integer}

-- ---- decimal: more steps change nothing, and a digit behind a number is ten times it and the digit

more_steps : (f g n : ℕ) → n < f → n < g → decimal_in f n ≡ decimal_in g n
unfolding decimal_in
more_steps zero g n h i = absurd (omega arith)
more_steps (suc f) zero n h i = absurd (omega arith)
more_steps (suc f) (suc g) n h i = by_size (ltb n 10) refl (λ a b. more_steps f g (n / 10) a b)
  where
    by_size : (b : Bool) → ltb n 10 ≡ b → (n / 10 < f → n / 10 < g → decimal_in f (n / 10) ≡ decimal_in g (n / 10))
        → cond b ((digit_zero + n) ∷ []) (decimal_in f (n / 10) ++ (digit_zero + n % 10) ∷ []) ≡ cond b ((digit_zero + n) ∷ []) (decimal_in g (n / 10) ++ (digit_zero + n % 10) ∷ [])
    by_size true e ih = refl
    by_size false e ih =
        let q = ltb-false n 10 e in
        let dm = div_mod n in
        ap (λ (ds : List ℕ). ds ++ (digit_zero + n % 10) ∷ []) (ih (omega (arith, dm.0)) (omega (arith, dm.0)))

pub decimal_digit : (d : ℕ) → d < 10 → decimal d ≡ (digit_zero + d) ∷ []
unfolding decimal_in
decimal_digit d h = simp (lt-ltb d 10 h)

decimal_step : (m : ℕ) → 10 ≤ m → decimal m ≡ decimal_in m (m / 10) ++ (digit_zero + m % 10) ∷ []
unfolding decimal_in
decimal_step m h = simp (le-ltb m 10 h)

pub decimal_longer : (n d : ℕ) → 0 < n → d < 10 → decimal (n * 10 + d) ≡ decimal n ++ (digit_zero + d) ∷ []
decimal_longer n d h g =
    let m = n * 10 + d in
    let dm = div_mod m in
    let a = dm.0 in
    let b = dm.1 in
    let q : m / 10 ≡ n = omega arith in
    let r : m % 10 ≡ d = omega arith in
    decimal_step m (omega arith) ∙ rw (q, r) (ap (λ (ds : List ℕ). ds ++ (digit_zero + d) ∷ []) (more_steps m (suc n) n (omega arith) (omega arith)))

-- ---- numbers: xs begin with the digits of n that are not among those before, then `stop`

abbrev pub NumberIs : ℕ → ℕ → List ℕ → List ℕ → Option Number → Type 0
NumberIs stop at before xs None = Unit {0}
NumberIs stop at before xs (Some w) = (ds r : List ℕ) × (xs ≡ ds ++ stop ∷ r) × (decimal w.value ≡ before ++ ds) × (w.next ≡ at + length ds + 1)

number_longer : (stop at c : ℕ) (before cs : List ℕ) (w : Option Number) → NumberIs stop (at + 1) (before ++ c ∷ []) cs w → NumberIs stop at before (c ∷ cs) w
number_longer stop at c before cs None p = tt
number_longer stop at c before cs (Some w) p =
    let q = p.4 in
    (c ∷ p.0, p.1, ap (λ (l : List ℕ). c ∷ l) p.2, p.3 ∙ append_assoc before (c ∷ []) p.0, omega arith)

digits_sound : (stop n at : ℕ) (xs : List ℕ) → 0 < n → NumberIs stop at (decimal n) xs (read_digits stop n at xs)
unfolding read_digits
digits_sound stop n at [] h = tt
digits_sound stop n at (c ∷ cs) h = by_byte (λ l. digits_sound stop (n * 10 + (c - digit_zero)) (at + 1) cs l)
  where
    P : Option Number → Type 0
    P w = NumberIs stop at (decimal n) (c ∷ cs) w

    digit : digit_zero ≤ c → c ≤ digit_nine → (0 < n * 10 + (c - digit_zero) → NumberIs stop (at + 1) (decimal (n * 10 + (c - digit_zero))) cs (read_digits stop (n * 10 + (c - digit_zero)) (at + 1) cs)) → P (read_digits stop (n * 10 + (c - digit_zero)) (at + 1) cs)
    digit l g ih =
        let o : digit_zero + (c - digit_zero) ≡ c = omega arith in
        let s : decimal (n * 10 + (c - digit_zero)) ≡ decimal n ++ c ∷ [] = decimal_longer n (c - digit_zero) h (omega arith) ∙ rw o refl in
        number_longer stop at c (decimal n) cs (read_digits stop (n * 10 + (c - digit_zero)) (at + 1) cs) (rw s at (ih (omega arith)))

    by_byte : (0 < n * 10 + (c - digit_zero) → NumberIs stop (at + 1) (decimal (n * 10 + (c - digit_zero))) cs (read_digits stop (n * 10 + (c - digit_zero)) (at + 1) cs))
        → P (cond (eqb c stop) (is n (at + 1)) (cond (ltb c digit_zero) None (cond (ltb digit_nine c) None (read_digits stop (n * 10 + (c - digit_zero)) (at + 1) cs))))
    by_byte ih = cond_case P (eqb c stop) _ _
        (λ e. ([], cs, ap (λ (x : ℕ). x ∷ cs) (eqb-true c stop e), sym (append-nil (decimal n)), omega arith))
        (λ e. cond_case P (ltb c digit_zero) _ _ (λ g. tt)
        (λ f. cond_case P (ltb digit_nine c) _ _ (λ g. tt)
        (λ g. digit (ltb-false c digit_zero f) (ltb-false digit_nine c g) ih)))

zero_sound : (stop at : ℕ) (xs : List ℕ) → NumberIs stop at (digit_zero ∷ []) xs (read_zero stop at xs)
unfolding read_zero
zero_sound stop at [] = tt
zero_sound stop at (c ∷ cs) =
    cond_case (NumberIs stop at (digit_zero ∷ []) (c ∷ cs)) (eqb c stop) (is 0 (at + 1)) None
    (λ e. ([], cs, ap (λ (x : ℕ). x ∷ cs) (eqb-true c stop e), decimal_digit 0 (omega arith), omega arith))
    (λ e. tt)

-- from the first digit on, there is nothing before
first_sound : (stop c at : ℕ) (cs : List ℕ) → (c ≡ digit_zero → ⊥) → (c ≡ stop → ⊥) → NumberIs stop at [] (c ∷ cs) (read_digits stop 0 at (c ∷ cs))
unfolding read_digits
first_sound stop c at cs not_zero not_stop =
    rw (ne_eqb c stop not_stop)
    (cond_case P (ltb c digit_zero) _ _ (λ g. tt)
    (λ f. cond_case P (ltb digit_nine c) _ _ (λ g. tt)
    (λ g. digit (ltb-false c digit_zero f) (ltb-false digit_nine c g))))
  where
    P : Option Number → Type 0
    P w = NumberIs stop at [] (c ∷ cs) w

    some : (m : ℕ) → (m ≡ 0 → ⊥) → 0 < 0 * 10 + m
    some m f = omega arith

    digit : digit_zero ≤ c → c ≤ digit_nine → P (read_digits stop (0 * 10 + (c - digit_zero)) (at + 1) cs)
    digit l g =
        let m = 0 * 10 + (c - digit_zero) in
        let o : digit_zero + m ≡ c = omega arith in
        let s : decimal m ≡ c ∷ [] = decimal_digit m (omega arith) ∙ rw o refl in
        let z : 0 < m = some (c - digit_zero) (λ q. not_zero (omega arith)) in
        number_longer stop at c [] cs (read_digits stop m (at + 1) cs) (rw s at (digits_sound stop m (at + 1) cs z))

pub number_sound : (stop at : ℕ) (xs : List ℕ) → NumberIs stop at [] xs (read_number stop at xs)
unfolding read_number
number_sound stop at [] = tt
number_sound stop at (c ∷ cs) =
    cond_case (NumberIs stop at [] (c ∷ cs)) (eqb c digit_zero) _ _
    (λ e. let o : digit_zero ≡ c = sym (eqb-true c digit_zero e) in number_longer stop at c [] cs (read_zero stop (at + 1) cs) (rw o at (zero_sound stop (at + 1) cs)))
    (λ e. cond_case (NumberIs stop at [] (c ∷ cs)) (eqb c stop) _ _ (λ f. tt) (λ f. first_sound stop c at cs (eqb-false c digit_zero e) (eqb-false c stop f)))

-- within the bound too
abbrev BoundedIs : ℕ → ℕ → List ℕ → Option Number → Type 0
BoundedIs stop at xs None = Unit {0}
BoundedIs stop at xs (Some w) = NumberIs stop at [] xs (Some w) × (w.value ≤ 2 ^ 63)

bounded_sound : (stop at : ℕ) (xs : List ℕ) (w : Option Number) → NumberIs stop at [] xs w → BoundedIs stop at xs (bounded w)
bounded_sound stop at xs None p = tt
bounded_sound stop at xs (Some w) p = cond_case (BoundedIs stop at xs) (leb w.value (2 ^ 63)) (Some w) None (λ e. (p, leb-true w.value (2 ^ 63) e)) (λ e. tt)

-- ---- strings

-- xs begin with the encoding of a string, whose content lies from a to b
abbrev pub StringIs : ℕ → List ℕ → Option Part → Type 0
StringIs at xs None = Unit {0}
StringIs at xs (Some w) = (k r : List ℕ) × (xs ≡ encode_string k ++ r) × (w.start ≡ content_start at k) × (w.end ≡ at + length (encode_string k))

take_drop : (n : ℕ) (l : List ℕ) → take n l ++ drop n l ≡ l
take_drop zero l = refl
take_drop (suc n) [] = refl
take_drop (suc n) (x ∷ l) = ap (λ (m : List ℕ). x ∷ m) (take_drop n l)

string_made : (at n k : ℕ) (xs : List ℕ) → NumberIs colon at [] xs (is n k) → n ≤ at + length xs - k → StringIs at xs (part k (k + n))
string_made at n k xs p h =
    let ds = p.0 in
    let r = p.1 in
    let d : decimal n ≡ ds = p.3 in
    let lx : length xs ≡ length (ds ++ colon ∷ r) = ap length p.2 in
    let la = length-append ds (colon ∷ r) in
    let q = p.4 in
    let ln : length (take n r) ≡ n = length-take-le n r (omega arith) in
    let b = take n r in
    let e : decimal (length b) ≡ ds = rw ln d in
    let lb = length-append ds (colon ∷ b) in (
      b,
      drop n r,
      p.2 ∙ rw e (sym (append_assoc ds (colon ∷ b) (drop n r) ∙ ap (λ (l : List ℕ). ds ++ colon ∷ l) (take_drop n r))),
      rw e p.4,
      rw e (omega arith),
    )

content_sound : (at : ℕ) (xs : List ℕ) (w : Option Number) → NumberIs colon at [] xs w → StringIs at xs (content_in (at + length xs) w)
content_sound at xs None p = tt
content_sound at xs (Some w) p =
    cond_case (StringIs at xs) (leb w.value (at + length xs - w.next)) (part w.next (w.next + w.value)) None
    (λ e. string_made at w.value w.next xs p (leb-true w.value (at + length xs - w.next) e)) (λ e. tt)

-- what is read as a string is one
pub string_sound : (at : ℕ) (xs : List ℕ) → StringIs at xs (read_string at xs)
string_sound at xs = content_sound at xs (read_number colon at xs) (number_sound colon at xs)

-- ---- integers, past the `i`

abbrev IntegerIs : ℕ → List ℕ → Option Integer → Type 0
IntegerIs at xs None = Unit {0}
IntegerIs at xs (Some w) =
    (r : List ℕ) × (xs ≡ sign w.minus ++ (decimal w.size ++ letter_e ∷ r)) × IntegerFits w.minus w.size × (w.next ≡ at + length (sign w.minus) + length (decimal w.size) + 1)

negative_sound : (at : ℕ) (cs : List ℕ) (w : Option Number) → BoundedIs letter_e (at + 1) cs w → IntegerIs at (minus_sign ∷ cs) (negative w)
negative_sound at cs None p = tt
negative_sound at cs (Some w) b =
    let p = b.0 in
    let d : p.0 ≡ decimal w.value = sym p.3 in
    let q : w.next ≡ at + 1 + length (decimal w.value) + 1 = rw d at p.4 in
    cond_case (IntegerIs at (minus_sign ∷ cs)) (eqb w.value 0) None (whole true w.value w.next) (λ e. tt)
    (λ e. (p.1, ap (λ (l : List ℕ). minus_sign ∷ l) (rw d at p.2), (some w.value (eqb-false w.value 0 e), b.1), omega arith))
  where
    some : (n : ℕ) → (n ≡ 0 → ⊥) → 0 < n
    some n f = omega arith

positive_sound : (at : ℕ) (xs : List ℕ) (w : Option Number) → BoundedIs letter_e at xs w → IntegerIs at xs (positive w)
positive_sound at xs None p = tt
positive_sound at xs (Some w) b =
    let p = b.0 in
    let d : p.0 ≡ decimal w.value = sym p.3 in
    let q : w.next ≡ at + length (decimal w.value) + 1 = rw d at p.4 in
    cond_case (IntegerIs at xs) (ltb w.value (2 ^ 63)) (whole false w.value w.next) None
    (λ e. (p.1, rw d at p.2, ltb-true w.value (2 ^ 63) e, omega arith)) (λ e. tt)

signed_sound : (at : ℕ) (xs : List ℕ) → IntegerIs at xs (read_signed at xs)
unfolding read_signed
signed_sound at [] = tt
signed_sound at (c ∷ cs) =
    let behind = read_number letter_e (at + 1) cs in
    let here = read_number letter_e at (c ∷ cs) in
    cond_case (IntegerIs at (c ∷ cs)) (eqb c minus_sign) _ _
    (λ e. rw (eqb-true c minus_sign e) (negative_sound at cs (bounded behind) (bounded_sound letter_e (at + 1) cs behind (number_sound letter_e (at + 1) cs))))
    (λ e. positive_sound at (c ∷ cs) (bounded here) (bounded_sound letter_e at (c ∷ cs) here (number_sound letter_e at (c ∷ cs))))

-- ---- values, items and entries: the bytes begin with the encoding of one that is valid

module _ {A : Type 0} (enc : A → List ℕ) (ok : A → Type 0) where
  -- xs, which stand at `at`, begin with an encoding that ends at k
  pub record Begins (at : ℕ) (xs : List ℕ) (k : ℕ) : Type 0 where
    pub it : A
    pub rest : List ℕ
    pub bytes : xs ≡ enc it ++ rest
    pub valid : ok it
    pub ends : k ≡ at + length (enc it)

  -- what the walk says
  abbrev pub WalkedIs : ℕ → List ℕ → Result ℕ Amiss → Type 0
  WalkedIs at xs (Err Broken) = Unit {0}
  WalkedIs at xs (Err TooDeep) = Unit {0}
  WalkedIs at xs (Ok k) = Begins at xs k

  -- what is left of the bytes
  pub rest_is : (at : ℕ) (xs : List ℕ) (k : ℕ) (b : Begins at xs k) → drop (k - at) xs ≡ b.rest
  rest_is at xs k b = rw (b.ends, b.bytes) (past_part at (enc b.it) b.rest)

-- and for values, items, entries
abbrev pub ValueIs : ℕ → ℕ → List ℕ → Result ℕ Amiss → Type 0
ValueIs l = WalkedIs encode (λ v. Valid v l)

abbrev ItemsIs : ℕ → ℕ → List ℕ → Result ℕ Amiss → Type 0
ItemsIs l = WalkedIs encode_items (λ vs. ItemsValid vs l)

abbrev EntriesIs : ℕ → KeyBefore → ℕ → List ℕ → Result ℕ Amiss → Type 0
EntriesIs l j = WalkedIs encode_entries (λ es. EntriesValid es j l)

-- an `e` is the encoding of none
module _ {A : Type 0} (enc : A → List ℕ) (ok : A → Type 0) (no : A) (is_e : enc no ≡ letter_e ∷ []) (fine : ok no) where
  end_sound : (at : ℕ) (xs : List ℕ) (w : Result ℕ Amiss) → WalkedIs enc ok at xs w → WalkedIs enc ok at xs (end_or at xs w)
  unfolding end_or
  end_sound at [] w p = tt
  end_sound at (c ∷ cs) w p =
      cond_case (WalkedIs enc ok at (c ∷ cs)) (eqb c letter_e) (Ok (at + 1)) w
      (λ e. record { it = no; rest = cs; bytes = rw (is_e, eqb-true c letter_e e) refl; valid = fine; ends = rw is_e refl })
      (λ e. p)

-- an item, then the rest of a list
module _ (l at : ℕ) (xs : List ℕ) where
  items_joined : (k : ℕ) (b : Begins encode (λ v. Valid v l) at xs k) (w : Result ℕ Amiss) → ItemsIs l k (drop (k - at) xs) w → ItemsIs l at xs w
  unfolding encode Valid
  items_joined k b (Err Broken) p = tt
  items_joined k b (Err TooDeep) p = tt
  items_joined k b (Ok m) p =
      let z : drop (k - at) xs ≡ b.rest = rest_is encode (λ v. Valid v l) at xs k b in
      let q = b.ends in
      let o = p.ends in
      let la = length-append (encode b.it) (encode_items p.it) in
      record {
        it = item b.it p.it;
        rest = p.rest;
        bytes = b.bytes ∙ ap (λ (s : List ℕ). encode b.it ++ s) (sym z ∙ p.bytes) ∙ sym (append_assoc (encode b.it) (encode_items p.it) p.rest);
        valid = (b.valid, p.valid);
        ends = omega arith;
      }

  items_onward : (w : Result ℕ Amiss) (go : ℕ → Result ℕ Amiss) → ValueIs l at xs w → ((k : ℕ) → ItemsIs l k (drop (k - at) xs) (go k)) → ItemsIs l at xs (onward w go)
  items_onward (Err Broken) go p h = tt
  items_onward (Err TooDeep) go p h = tt
  items_onward (Ok k) go p h = items_joined k p (go k) (h k)

no_items_lem : encode_items no_items ≡ letter_e ∷ []
unfolding encode
no_items_lem = refl

no_items_valid : (l : ℕ) → ItemsValid no_items l
unfolding Valid
no_items_valid l = tt

items_sound : (l : ℕ) → ((at : ℕ) (xs : List ℕ) → ValueIs l at xs (walk_value l at xs)) → (f at : ℕ) (xs : List ℕ) → ItemsIs l at xs (walk_items (walk_value l) f at xs)
unfolding walk_items
items_sound l h zero at xs = tt
items_sound l h (suc f) at xs =
    end_sound encode_items (λ vs. ItemsValid vs l) no_items no_items_lem (no_items_valid l) at xs _
    (items_onward l at xs (walk_value l at xs) (λ k. walk_items (walk_value l) f k (drop (k - at) xs)) (h at xs) (λ k. items_sound l h f k (drop (k - at) xs)))

-- a key
abbrev pub KeyIs : KeyBefore → ℕ → List ℕ → Option Part → Type 0
KeyIs j at xs None = Unit {0}
KeyIs j at xs (Some w) = (k r : List ℕ) × (xs ≡ encode_string k ++ r) × (ascends j k ≡ true) × (between at xs w.start w.end ≡ k) × (w.end ≡ at + length (encode_string k))

in_order_sound : (j : KeyBefore) (at : ℕ) (xs : List ℕ) (w : Option Part) → StringIs at xs w → KeyIs j at xs (in_order j at xs w)
in_order_sound j at xs None p = tt
in_order_sound j at xs (Some w) p =
    let s : between at xs w.start w.end ≡ p.0 = rw (p.2, p.3, p.4) (content_bytes at p.0 p.1) in
    cond_case (KeyIs j at xs) (ascends j (between at xs w.start w.end)) (Some w) None
    (λ e. (p.0, p.1, p.2, rw s at e, s, p.4)) (λ e. tt)

-- what is read as a key is one, and ascends
pub key_sound : (j : KeyBefore) (at : ℕ) (xs : List ℕ) → KeyIs j at xs (read_key j at xs)
key_sound j at xs = in_order_sound j at xs (read_string at xs) (string_sound at xs)

-- a key and its value, then the rest of a dictionary
module _ (l : ℕ) (j : KeyBefore) (at : ℕ) (xs : List ℕ) where
  module _ (k r : List ℕ) (e : xs ≡ encode_string k ++ r) (a : ascends j k ≡ true) where
    entries_joined : (m : ℕ) (b : Begins encode (λ v. Valid v l) (at + length (encode_string k)) r m) (w : Result ℕ Amiss) → EntriesIs l (after k) m (drop (m - at) xs) w → EntriesIs l j at xs w
    unfolding encode Valid
    entries_joined m b (Err Broken) q = tt
    entries_joined m b (Err TooDeep) q = tt
    entries_joined m b (Ok n) q =
        let v = b.it in
        let x = b.ends in
        let y = q.ends in
        let lk = length-append (encode_string k) (encode v) in
        let o : m - at ≡ length (encode_string k ++ encode v) = omega arith in
        let s : xs ≡ (encode_string k ++ encode v) ++ b.rest = e ∙ ap (λ (t : List ℕ). encode_string k ++ t) b.bytes ∙ sym (append_assoc (encode_string k) (encode v) b.rest) in
        let z : drop (m - at) xs ≡ b.rest = rw (o, s) (drop-append_seam (encode_string k ++ encode v) b.rest) in
        let la = length-append (encode_string k) (encode v ++ encode_entries q.it) in
        let lb = length-append (encode v) (encode_entries q.it) in
        record {
          it = entry k v q.it;
          rest = q.rest;
          bytes = s ∙ ap (λ (t : List ℕ). (encode_string k ++ encode v) ++ t) (sym z ∙ q.bytes) ∙ simp append_assoc;
          valid = (a, b.valid, q.valid);
          ends = omega arith;
        }

    entries_onward : (w : Result ℕ Amiss) (go : ℕ → Result ℕ Amiss) → ValueIs l (at + length (encode_string k)) r w → ((m : ℕ) → EntriesIs l (after k) m (drop (m - at) xs) (go m)) → EntriesIs l j at xs (onward w go)
    entries_onward (Err Broken) go q f = tt
    entries_onward (Err TooDeep) go q f = tt
    entries_onward (Ok m) go q f = entries_joined m q (go m) (f m)

  entries_with_key : (value : ℕ → List ℕ → Result ℕ Amiss) (more : KeyBefore → ℕ → List ℕ → Result ℕ Amiss) (w : Option Part) → KeyIs j at xs w
      → ((i : ℕ) (ys : List ℕ) → ValueIs l i ys (value i ys)) → ((q : KeyBefore) (i : ℕ) (ys : List ℕ) → EntriesIs l q i ys (more q i ys))
      → EntriesIs l j at xs (with_key w (λ a b. onward (value b (drop (b - at) xs)) (λ m. more (after (between at xs a b)) m (drop (m - at) xs))))
  entries_with_key value more None p hv hm = tt
  entries_with_key value more (Some w) p hv hm =
      let k = p.0 in
      let r = p.1 in
      let z : drop (at + length (encode_string k) - at) xs ≡ r = rw p.2 (past_part at (encode_string k) r) in
      rw (p.4, p.5, z)
      (entries_onward k r p.2 p.3 (value (at + length (encode_string k)) r) (λ m. more (after k) m (drop (m - at) xs)) (hv (at + length (encode_string k)) r) (λ m. hm (after k) m (drop (m - at) xs)))

no_entries_lem : encode_entries no_entries ≡ letter_e ∷ []
unfolding encode
no_entries_lem = refl

pub no_entries_valid : (j : KeyBefore) (l : ℕ) → EntriesValid no_entries j l
unfolding Valid
no_entries_valid j l = tt

entries_sound : (l : ℕ) → ((at : ℕ) (xs : List ℕ) → ValueIs l at xs (walk_value l at xs)) → (f : ℕ) (j : KeyBefore) (at : ℕ) (xs : List ℕ) → EntriesIs l j at xs (walk_entries (walk_value l) f j at xs)
unfolding walk_entries
entries_sound l h zero j at xs = tt
entries_sound l h (suc f) j at xs =
    end_sound encode_entries (λ es. EntriesValid es j l) no_entries no_entries_lem (no_entries_valid j l) at xs _
    (entries_with_key l j at xs (walk_value l) (walk_entries (walk_value l) f) (read_key j at xs) (key_sound j at xs) h (λ q i ys. entries_sound l h f q i ys))

-- one value
integer_value : (l at : ℕ) (cs : List ℕ) (w : Option Integer) → IntegerIs (at + 1) cs w → ValueIs l at (letter_i ∷ cs) (past_integer w)
unfolding Valid
integer_value l at cs None p = tt
integer_value l at cs (Some w) p =
    let q = p.3 in
    record { it = integer w.minus w.size; rest = p.0; bytes = ap (λ (t : List ℕ). letter_i ∷ t) p.1 ∙ sym (integer_bytes w.minus w.size p.0); valid = p.2; ends = omega (arith, integer_length w.minus w.size) }

string_value : (l at : ℕ) (xs : List ℕ) (w : Option Part) → StringIs at xs w → ValueIs l at xs (past_string w)
unfolding encode Valid
string_value l at xs None p = tt
string_value l at xs (Some w) p = record { it = string p.0; rest = p.1; bytes = p.2; valid = tt; ends = p.4 }

list_value : (l at : ℕ) (cs : List ℕ) (w : Result ℕ Amiss) → ItemsIs l (at + 1) cs w → ValueIs (suc l) at (letter_l ∷ cs) w
unfolding encode Valid
list_value l at cs (Err Broken) p = tt
list_value l at cs (Err TooDeep) p = tt
list_value l at cs (Ok k) p = let q = p.ends in record { it = list p.it; rest = p.rest; bytes = ap (λ (t : List ℕ). letter_l ∷ t) p.bytes; valid = p.valid; ends = omega arith }

dictionary_value : (l at : ℕ) (cs : List ℕ) (w : Result ℕ Amiss) → EntriesIs l none (at + 1) cs w → ValueIs (suc l) at (letter_d ∷ cs) w
unfolding encode Valid
dictionary_value l at cs (Err Broken) p = tt
dictionary_value l at cs (Err TooDeep) p = tt
dictionary_value l at cs (Ok k) p = let q = p.ends in record { it = dictionary p.it; rest = p.rest; bytes = ap (λ (t : List ℕ). letter_d ∷ t) p.bytes; valid = p.valid; ends = omega arith }

first_byte_sound : (l at : ℕ) (xs : List ℕ) (ls ds : Result ℕ Amiss) → ((cs : List ℕ) → xs ≡ letter_l ∷ cs → ValueIs l at (letter_l ∷ cs) ls) → ((cs : List ℕ) → xs ≡ letter_d ∷ cs → ValueIs l at (letter_d ∷ cs) ds)
    → ValueIs l at xs (by_first at xs ls ds)
unfolding by_first
first_byte_sound l at [] ls ds p q = tt
first_byte_sound l at (c ∷ cs) ls ds p q =
    cond_case (ValueIs l at (c ∷ cs)) (eqb c letter_i) _ _
    (λ e. rw (eqb-true c letter_i e) (integer_value l at cs (read_signed (at + 1) cs) (signed_sound (at + 1) cs)))
    (λ e. cond_case (ValueIs l at (c ∷ cs)) (eqb c letter_l) _ _
    (λ f. rw (eqb-true c letter_l f) (p cs (ap (λ (x : ℕ). x ∷ cs) (eqb-true c letter_l f))))
    (λ f. cond_case (ValueIs l at (c ∷ cs)) (eqb c letter_d) _ _
    (λ g. rw (eqb-true c letter_d g) (q cs (ap (λ (x : ℕ). x ∷ cs) (eqb-true c letter_d g))))
    (λ g. string_value l at (c ∷ cs) (read_string at (c ∷ cs)) (string_sound at (c ∷ cs)))))

-- what the walk says of a value, in each of its cases
pub value_sound : (l at : ℕ) (xs : List ℕ) → ValueIs l at xs (walk_value l at xs)
unfolding walk_value
value_sound zero at xs = first_byte_sound 0 at xs (Err TooDeep) (Err TooDeep) (λ cs e. tt) (λ cs e. tt)
value_sound (suc l) at xs =
    first_byte_sound (suc l) at xs _ _
    (λ cs e. rw e (list_value l at cs (walk_list (walk_value l) (at + 1) cs) (items_sound l (value_sound l) (suc (length cs)) (at + 1) cs)))
    (λ cs e. rw e (dictionary_value l at cs (walk_dictionary (walk_value l) (at + 1) cs) (entries_sound l (value_sound l) (suc (length cs)) none (at + 1) cs)))

-- what the walk goes over is the encoding of a valid value
pub sound : (l at : ℕ) (xs : List ℕ) (k : ℕ) → walk_value l at xs ≡ Ok k → Begins encode (λ v. Valid v l) at xs k
sound l at xs k e = rw e at (value_sound l at xs)

-- No two values have the same encoding, and none has one that begins another's: `unique`. By both values, with what stands behind them.
-- Assumes nothing.
use Rattle.bencode.specs.declared.walk.Amiss.TheVariants.{Broken}
use Rattle.bencode.specs.declared.decimal.Number.{Number}
use Rattle.bencode.specs.Scalar.{is}
use Rattle.std.specs.Prelude.{◌≡◌, refl, Bool, true, false, List, ◌∷◌, ◌++◌, ℕ, ◌+◌, ◌<◌, length, take, drop, Option, unwrap_or, Err, Ok}
use Rattle.std.proofs.Common.{sym, ap, ap₂, ◌∙◌, append_assoc, arith}
use Rattle.std.proofs.Math.Seq.{drop-append_seam, take-append_seam}
use Rattle.bencode.specs.Grammar.{minus_sign, digit_nine, colon, letter_d, letter_e, letter_i, letter_l, Value, integer, string, list, dictionary, Items, no_items, item, Entries, no_entries, entry, decimal, sign, encode_string, encode, encode_items, encode_entries}
use Rattle.bencode.specs.Scalar.{read_number}
use Rattle.bencode.specs.Walk.{end_or}
use Rattle.bencode.specs.CompleteLaws.{BeginsWithDigit, decimal_first, number_read, integer_bytes, NoEnd, string_no_end, value_no_end}

-- ---- lists

pub behind_same : (a r q : List ℕ) → a ++ r ≡ a ++ q → r ≡ q
behind_same a r q e = sym (drop-append_seam a r) ∙ ap (λ (l : List ℕ). drop (length a) l) e ∙ drop-append_seam a q

same_size : (a b r q : List ℕ) → length a ≡ length b → a ++ r ≡ b ++ q → (a ≡ b) × (r ≡ q)
same_size a b r q l e =
    let s : a ≡ b = sym (take-append_seam a r) ∙ ap (λ (x : List ℕ). take (length a) x) e ∙ rw l (take-append_seam b q) in
    (s, behind_same a r q (rw (sym s) at e))

-- the first bytes of the same bytes
pub first_same : (a b : ℕ) (x y : List ℕ) → a ∷ x ≡ b ∷ y → a ≡ b
first_same a b x y e = cc

rest_same : (a b : ℕ) (x y : List ℕ) → a ∷ x ≡ b ∷ y → x ≡ y
rest_same a b x y e = cc

-- ---- numbers and strings

decimal_unique : (stop : ℕ) → digit_nine < stop → (n m : ℕ) (r q : List ℕ) → decimal n ++ stop ∷ r ≡ decimal m ++ stop ∷ q → (n ≡ m) × (r ≡ q)
decimal_unique stop big n m r q e =
    let f : is n (0 + length (decimal n) + 1) ≡ is m (0 + length (decimal m) + 1) =
    sym (number_read stop big 0 r n) ∙ ap (read_number stop 0) e ∙ number_read stop big 0 q m in
    let s : n ≡ m = ap (λ (w : Option Number). (unwrap_or w (record { value = 0; next = 0 })).value) f in
    (s, rest_same stop stop r q (behind_same (decimal n) (stop ∷ r) (stop ∷ q) (rw (sym s) at e)))

string_unique : (a b r q : List ℕ) → encode_string a ++ r ≡ encode_string b ++ q → (a ≡ b) × (r ≡ q)
string_unique a b r q e =
    let f : decimal (length a) ++ colon ∷ (a ++ r) ≡ decimal (length b) ++ colon ∷ (b ++ q) =
    sym (append_assoc (decimal (length a)) (colon ∷ a) r) ∙ e ∙ append_assoc (decimal (length b)) (colon ∷ b) q in
    let p = decimal_unique colon (omega arith) (length a) (length b) (a ++ r) (b ++ q) f in
    same_size a b r q p.0 p.1

-- a string's encoding begins with a digit
pub not_a_string : (b r : List ℕ) (c : ℕ) (cs : List ℕ) → digit_nine < c → encode_string b ++ r ≡ c ∷ cs → ⊥
unfolding BeginsWithDigit
not_a_string b r c cs h e =
    let w = decimal_first (length b) in
    let f : decimal (length b) ++ colon ∷ (b ++ r) ≡ c ∷ cs = sym (append_assoc (decimal (length b)) (colon ∷ b) r) ∙ e in
    let g : w.0 ∷ (w.1 ++ colon ∷ (b ++ r)) ≡ c ∷ cs = rw w.2 at f in
    omega (arith, first_same w.0 c (w.1 ++ colon ∷ (b ++ r)) cs g, w.4)

-- no encoding begins with an `e`
not_an_end : (e r q : List ℕ) → NoEnd e → letter_e ∷ r ≡ e ++ q → ⊥
unfolding NoEnd end_or
not_an_end e r q n f =
    let g : Ok (0 + 1) ≡ (Err Broken) = ap (λ (l : List ℕ). end_or 0 l (Err Broken)) f ∙ n 0 q (Err Broken) in
    let z : ◌≡◌ {A = ℕ} 0 1 = cc in
    omega arith

-- ---- integers

digit_not_minus : (n : ℕ) (xs cs : List ℕ) → decimal n ++ xs ≡ minus_sign ∷ cs → ⊥
unfolding BeginsWithDigit
digit_not_minus n xs cs e =
    let w = decimal_first n in
    let g : w.0 ∷ (w.1 ++ xs) ≡ minus_sign ∷ cs = rw w.2 at e in
    omega (arith, first_same w.0 minus_sign (w.1 ++ xs) cs g, w.3)

signed_unique : (b c : Bool) (n m : ℕ) (r q : List ℕ) → sign b ++ (decimal n ++ letter_e ∷ r) ≡ sign c ++ (decimal m ++ letter_e ∷ q) → (integer b n ≡ integer c m) × (r ≡ q)
signed_unique true true n m r q e =
    let p = decimal_unique letter_e (omega arith) n m r q (rest_same minus_sign minus_sign (decimal n ++ letter_e ∷ r) (decimal m ++ letter_e ∷ q) e) in
    (ap (integer true) p.0, p.1)
signed_unique true false n m r q e = absurd (digit_not_minus m (letter_e ∷ q) (decimal n ++ letter_e ∷ r) (sym e))
signed_unique false true n m r q e = absurd (digit_not_minus n (letter_e ∷ r) (decimal m ++ letter_e ∷ q) e)
signed_unique false false n m r q e = let p = decimal_unique letter_e (omega arith) n m r q e in (ap (integer false) p.0, p.1)

-- ---- values

-- bytes that begin otherwise are other bytes
pub other_letter : (a b : ℕ) (x y : List ℕ) → a ∷ x ≡ b ∷ y → (a ≡ b → ⊥) → ⊥
other_letter a b x y e f = f (first_same a b x y e)

mutual
  unfolding encode

  -- the same bytes are those of the same value, with the same behind it
  pub unique : (v w : Value) (r q : List ℕ) → encode v ++ r ≡ encode w ++ q → (v ≡ w) × (r ≡ q)
  unique (integer b n) (integer c m) r q e =
      signed_unique b c n m r q
      (rest_same letter_i letter_i (sign b ++ (decimal n ++ letter_e ∷ r)) (sign c ++ (decimal m ++ letter_e ∷ q)) (sym (integer_bytes b n r) ∙ e ∙ integer_bytes c m q))
  unique (integer b n) (string y) r q e = absurd (not_a_string y q letter_i _ (omega arith) (sym e))
  unique (integer b n) (list ws) r q e = absurd (other_letter letter_i letter_l _ _ e (λ z. omega arith))
  unique (integer b n) (dictionary fs) r q e = absurd (other_letter letter_i letter_d _ _ e (λ z. omega arith))
  unique (string x) (integer c m) r q e = absurd (not_a_string x r letter_i _ (omega arith) e)
  unique (string x) (string y) r q e = let p = string_unique x y r q e in (ap string p.0, p.1)
  unique (string x) (list ws) r q e = absurd (not_a_string x r letter_l _ (omega arith) e)
  unique (string x) (dictionary fs) r q e = absurd (not_a_string x r letter_d _ (omega arith) e)
  unique (list vs) (integer c m) r q e = absurd (other_letter letter_l letter_i _ _ e (λ z. omega arith))
  unique (list vs) (string y) r q e = absurd (not_a_string y q letter_l _ (omega arith) (sym e))
  unique (list vs) (list ws) r q e =
      let p = unique_items vs ws r q (rest_same letter_l letter_l (encode_items vs ++ r) (encode_items ws ++ q) e) in
      (ap list p.0, p.1)
  unique (list vs) (dictionary fs) r q e = absurd (other_letter letter_l letter_d _ _ e (λ z. omega arith))
  unique (dictionary es) (integer c m) r q e = absurd (other_letter letter_d letter_i _ _ e (λ z. omega arith))
  unique (dictionary es) (string y) r q e = absurd (not_a_string y q letter_d _ (omega arith) (sym e))
  unique (dictionary es) (list ws) r q e = absurd (other_letter letter_d letter_l _ _ e (λ z. omega arith))
  unique (dictionary es) (dictionary fs) r q e =
      let p = unique_entries es fs r q (rest_same letter_d letter_d (encode_entries es ++ r) (encode_entries fs ++ q) e) in
      (ap dictionary p.0, p.1)

  unique_items : (vs ws : Items) (r q : List ℕ) → encode_items vs ++ r ≡ encode_items ws ++ q → (vs ≡ ws) × (r ≡ q)
  unique_items no_items no_items r q e = (refl, rest_same letter_e letter_e r q e)
  unique_items no_items (item w ws) r q e = absurd (not_an_end (encode w) r (encode_items ws ++ q) (value_no_end w) (e ∙ append_assoc (encode w) (encode_items ws) q))
  unique_items (item v vs) no_items r q e = absurd (not_an_end (encode v) q (encode_items vs ++ r) (value_no_end v) (sym e ∙ append_assoc (encode v) (encode_items vs) r))
  unique_items (item v vs) (item w ws) r q e =
      let p = unique v w (encode_items vs ++ r) (encode_items ws ++ q) (sym (append_assoc (encode v) (encode_items vs) r) ∙ e ∙ append_assoc (encode w) (encode_items ws) q) in
      let t = unique_items vs ws r q p.1 in
      (ap₂ (λ (a : Value) (b : Items). item a b) p.0 t.0, t.1)

  unique_entries : (es fs : Entries) (r q : List ℕ) → encode_entries es ++ r ≡ encode_entries fs ++ q → (es ≡ fs) × (r ≡ q)
  unique_entries no_entries no_entries r q e = (refl, rest_same letter_e letter_e r q e)
  unique_entries no_entries (entry j w fs) r q e =
      absurd (not_an_end (encode_string j) r ((encode w ++ encode_entries fs) ++ q) (string_no_end j) (e ∙ append_assoc (encode_string j) (encode w ++ encode_entries fs) q))
  unique_entries (entry k v es) no_entries r q e =
      absurd (not_an_end (encode_string k) q ((encode v ++ encode_entries es) ++ r) (string_no_end k) (sym e ∙ append_assoc (encode_string k) (encode v ++ encode_entries es) r))
  unique_entries (entry k v es) (entry j w fs) r q e =
      let p = string_unique k j ((encode v ++ encode_entries es) ++ r) ((encode w ++ encode_entries fs) ++ q)
      (sym (append_assoc (encode_string k) (encode v ++ encode_entries es) r) ∙ e ∙ append_assoc (encode_string j) (encode w ++ encode_entries fs) q) in
      let t = unique v w (encode_entries es ++ r) (encode_entries fs ++ q)
      (sym (append_assoc (encode v) (encode_entries es) r) ∙ p.1 ∙ append_assoc (encode w) (encode_entries fs) q) in
      let u = unique_entries es fs r q t.1 in
      let same_entry : entry k v es ≡ entry j w fs = rw (p.0, t.0, u.0) refl in
      (same_entry, u.1)

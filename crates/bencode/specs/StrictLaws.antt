-- What the number says, from the grammar alone: 0 exactly for the encodings of valid dictionaries, 21 exactly where the depth is wrong
-- before anything else, 20 for all other bytes.
-- Assumes nothing.
use Rattle.bencode.specs.declared.walk.Amiss.{Amiss}
use Rattle.bencode.specs.declared.walk.Amiss.TheVariants.{Broken, TooDeep}
use Rattle.std.specs.Prelude.{◌≡◌, refl, ◌⊎◌, Bool, true, false, cond, List, [], ◌∷◌, ◌++◌, ℕ, zero, suc, ◌+◌, ◌<◌, length, drop, get_or, eqb, Err, Ok, Result}
use Rattle.std.proofs.Common.{sym, ap, ◌∙◌, inl, inr, append_assoc, append-nil, arith, length-append, eq-eqb, eqb-true}
use Rattle.std.proofs.Math.ListN.{get_or-append}
use Rattle.octets.specs.Octets.{Octets}
use Rattle.octets.specs.OctetsLaws.{append_octets, one_byte}
use Rattle.limits.specs.Limits.{max_levels}
use Rattle.bencode.specs.Grammar.{digit_zero, colon, letter_d, letter_e, letter_l, Value, integer, string, list, dictionary, no_items, Entries, no_entries, decimal_in, encode, encode_entries, Valid}
use Rattle.bencode.specs.Walk.{walk_value}
use Rattle.numbers.specs.Numbers.{not_strict, nested_too_deeply}
use Rattle.bencode.specs.Strict.{Encoded, CanGoOn, TooDeepFirst, whole_walk, strictness}
use Rattle.bencode.specs.CompleteLaws.{complete, dictionary_bytes}
use Rattle.bencode.specs.SoundLaws.{sound}
use Rattle.bencode.specs.UniqueLaws.{not_a_string, other_letter, first_same, behind_same}
use Rattle.bencode.specs.DepthLaws.{Stem, in_list, in_dictionary, begun, StemValid, Opening, OpensTooDeep, deep_complete, deep_sound, fits_or_opens, filled, entries_then, closing, filled_bytes, filled_valid, filled_deeper}

-- ---- the walk of a dictionary's bytes

whole_of : (cs : List ℕ) (w : Result ℕ Amiss) → walk_value max_levels 0 (letter_d ∷ cs) ≡ w → strictness (letter_d ∷ cs) ≡ whole_walk (length (letter_d ∷ cs)) w
unfolding strictness
whole_of cs w e = ap (whole_walk (length (letter_d ∷ cs))) e

encoded_walk : (l : ℕ) (s : List ℕ) → Encoded l s → walk_value l 0 s ≡ Ok (length s)
encoded_walk l s p =
    let v = dictionary p.0 in
    let o : 0 + length (encode v) ≡ length (encode v) = omega arith in
    rw p.2 (rw append-nil at (complete v l 0 [] p.1) ∙ ap Ok o)

-- ---- 0

-- the encoding of a valid dictionary is taken
pub taken : (s : List ℕ) → Encoded max_levels s → strictness s ≡ 0
unfolding encode
taken s p =
    let cs = encode_entries p.0 in
    rw p.2
    (whole_of cs (Ok (length (letter_d ∷ cs))) (encoded_walk max_levels (letter_d ∷ cs) (p.0, p.1, refl))
    ∙ simp (eq-eqb (length (letter_d ∷ cs)) (length (letter_d ∷ cs)) refl))

no_rest : (a r : List ℕ) → length (a ++ r) ≡ length a → a ++ r ≡ a
no_rest a [] e = append-nil a
no_rest a (x ∷ r) e = absurd (omega (arith, length-append a (x ∷ r)))

zero_past : (n : ℕ) (w : Result ℕ Amiss) → whole_walk n w ≡ 0 → w ≡ Ok n
zero_past n (Err Broken) e = absurd (omega arith)
zero_past n (Err TooDeep) e = absurd (omega arith)
zero_past n (Ok k) e = by_end (eqb k n) refl e
  where
    by_end : (b : Bool) → eqb k n ≡ b → ◌≡◌ {A = ℕ} (cond b 0 not_strict) 0 → ◌≡◌ {A = Result ℕ Amiss} (Ok k) (Ok n)
    by_end true q f = ap Ok (eqb-true k n q)
    by_end false q f = absurd (omega arith)

-- a value whose encoding begins with a `d` is a dictionary
is_dictionary_lem : (v : Value) (l : ℕ) (cs r : List ℕ) → letter_d ∷ cs ≡ encode v ++ r → Valid v l → Encoded l (encode v)
unfolding encode
is_dictionary_lem (integer minus n) l cs r e h = absurd (other_letter letter_d _ _ _ e (λ z. omega arith))
is_dictionary_lem (string b) l cs r e h = absurd (not_a_string b r letter_d cs (omega arith) (sym e))
is_dictionary_lem (list vs) l cs r e h = absurd (other_letter letter_d letter_l _ _ e (λ z. omega arith))
is_dictionary_lem (dictionary es) l cs r e h = (es, h, refl)

-- and nothing else is
pub taken_only : (s : List ℕ) → strictness s ≡ 0 → Encoded max_levels s
unfolding strictness
taken_only [] e = absurd (omega arith)
taken_only (c ∷ cs) e = by_first (eqb c letter_d) refl e
  where
    by_first : (b : Bool) → eqb c letter_d ≡ b → cond b (whole_walk (length (c ∷ cs)) (walk_value max_levels 0 (c ∷ cs))) not_strict ≡ 0 → Encoded max_levels (c ∷ cs)
    by_first false q f = absurd (omega arith)
    by_first true q f =
        let p = sound max_levels 0 (c ∷ cs) (length (c ∷ cs)) (zero_past (length (c ∷ cs)) (walk_value max_levels 0 (c ∷ cs)) f) in
        let o = p.ends in
        let x : length (encode p.it ++ p.rest) ≡ length (encode p.it) = omega (arith, ap length p.bytes) in
        let y : c ∷ cs ≡ encode p.it = p.bytes ∙ no_rest (encode p.it) p.rest x in
        rw y (is_dictionary_lem p.it max_levels cs p.rest (ap (λ (z : ℕ). z ∷ cs) (sym (eqb-true c letter_d q)) ∙ p.bytes) p.valid)

-- ---- 21: a stem can go on with the levels, the byte behind it only with one more

-- a stem that begins with a `d` is filled to a dictionary
stem_dictionary : {l : ℕ} (st : Stem (suc l)) (cs x : List ℕ) → letter_d ∷ cs ≡ begun st ++ x → (v : Value) → (es : Entries) × (filled st v ≡ dictionary es)
unfolding begun filled
stem_dictionary (in_list vs st) cs x e v = absurd (other_letter letter_d letter_l _ _ e (λ z. omega arith))
stem_dictionary (in_dictionary es k st) cs x e v = (entries_then es k (filled st v), refl)

filled_encoded : {l : ℕ} (st : Stem (suc l)) (n : ℕ) (cs x p q : List ℕ) (v : Value) → letter_d ∷ cs ≡ begun st ++ x → Valid (filled st v) n → Octets (length q) q
    → begun st ++ (encode v ++ closing (suc l)) ≡ p ++ q → CanGoOn n p
filled_encoded st n cs x p q v e h b f =
    let d = stem_dictionary st cs x e v in
    (q, b, (d.0, rw d.1 at h, sym f ∙ sym (filled_bytes st v) ∙ ap encode d.1))

-- what closes a stem is bytes
bytes_both : (a b : List ℕ) → Octets (length a) a → Octets (length b) b → Octets (length (a ++ b)) (a ++ b)
bytes_both a b p q = rw (length-append a b) (append_octets p q)

closing_bytes : (l : ℕ) → Octets (length (closing l)) (closing l)
unfolding closing
closing_bytes zero = record { size = refl; bytes = λ i h. absurd (omega arith) }
closing_bytes (suc l) = bytes_both (closing l) (letter_e ∷ []) (closing_bytes l) (one_byte letter_e (omega arith))

end_bytes : (l : ℕ) → Octets (length (letter_e ∷ closing l)) (letter_e ∷ closing l)
end_bytes l = bytes_both (letter_e ∷ []) (closing l) (one_byte letter_e (omega arith)) (closing_bytes l)

-- the encoding of the empty string
empty_bytes : (l : ℕ) → Octets (length (encode (string []) ++ closing l)) (encode (string []) ++ closing l)
unfolding encode decimal_in
empty_bytes l =
    bytes_both (digit_zero ∷ colon ∷ []) (closing l) (bytes_both (digit_zero ∷ []) (colon ∷ []) (one_byte digit_zero (omega arith)) (one_byte colon (omega arith))) (closing_bytes l)

empty_valid : Valid (string []) 0
unfolding Valid
empty_valid = tt

stem_goes_on : {l : ℕ} (st : Stem (suc l)) (cs x : List ℕ) → letter_d ∷ cs ≡ begun st ++ x → StemValid st → CanGoOn (suc l) (begun st)
stem_goes_on {l} st cs x e h =
    filled_encoded st (suc l) cs x (begun st) (encode (string []) ++ closing (suc l)) (string []) e (filled_valid st (string []) h empty_valid) (empty_bytes (suc l)) refl

empty_list_valid : Valid (list no_items) 1
unfolding Valid
empty_list_valid = tt

empty_dictionary_valid : Valid (dictionary no_entries) 1
unfolding Valid
empty_dictionary_valid = tt

empty_list_bytes : encode (list no_items) ≡ letter_l ∷ letter_e ∷ []
unfolding encode
empty_list_bytes = refl

empty_dictionary_bytes : encode (dictionary no_entries) ≡ letter_d ∷ letter_e ∷ []
unfolding encode
empty_dictionary_bytes = refl

stem_deeper : {l : ℕ} (st : Stem (suc l)) (cs x : List ℕ) (c : ℕ) → letter_d ∷ cs ≡ begun st ++ x → StemValid st → Opening c → CanGoOn (suc (suc l)) (begun st ++ c ∷ [])
stem_deeper {l} st cs x c e h (inl o) =
    filled_encoded st (suc (suc l)) cs x (begun st ++ c ∷ []) (letter_e ∷ closing (suc l)) (list no_items) e (filled_deeper st (list no_items) h empty_list_valid) (end_bytes (suc l))
    (rw (empty_list_bytes, o) (sym (append_assoc (begun st) (letter_l ∷ []) (letter_e ∷ closing (suc l)))))
stem_deeper {l} st cs x c e h (inr o) =
    filled_encoded st (suc (suc l)) cs x (begun st ++ c ∷ []) (letter_e ∷ closing (suc l)) (dictionary no_entries) e (filled_deeper st (dictionary no_entries) h empty_dictionary_valid) (end_bytes (suc l))
    (rw (empty_dictionary_bytes, o) (sym (append_assoc (begun st) (letter_d ∷ []) (letter_e ∷ closing (suc l)))))

stem_no_further : {l : ℕ} (st : Stem l) (c : ℕ) (x : List ℕ) → StemValid st → Opening c → Encoded l (begun st ++ c ∷ x) → ⊥
stem_no_further {l} st c x h o p =
    let a : Ok (length (begun st ++ c ∷ x)) ≡ (Err TooDeep) = sym (encoded_walk l (begun st ++ c ∷ x) p) ∙ deep_complete st 0 c x h o in
    let z : ◌≡◌ {A = ℕ} 0 1 = cc in
    omega arith

deep_walk : (n : ℕ) (w : Result ℕ Amiss) → whole_walk n w ≡ nested_too_deeply → w ≡ (Err TooDeep)
deep_walk n (Err Broken) e = absurd (omega arith)
deep_walk n (Err TooDeep) e = refl
deep_walk n (Ok k) e = by_end (eqb k n) e
  where
    by_end : (b : Bool) → ◌≡◌ {A = ℕ} (cond b 0 not_strict) nested_too_deeply → Ok k ≡ (Err TooDeep)
    by_end true f = absurd (omega arith)
    by_end false f = absurd (omega arith)

opens_deep : (cs : List ℕ) → OpensTooDeep max_levels (letter_d ∷ cs) → TooDeepFirst (letter_d ∷ cs)
opens_deep cs d =
    let st = d.0 in
    let c = d.1 in
    let h = d.3 in
    record {
      begun = begun st;
      byte = c;
      rest = d.2;
      bytes = d.5;
      strict_before = stem_goes_on st cs (c ∷ d.2) d.5 h;
      not_with_it = λ p. stem_no_further st c p.0 h d.4 (rw append_assoc at p.2);
      levels = suc max_levels;
      deeper_can = stem_deeper st cs (c ∷ d.2) c d.5 h d.4;
    }

-- 21 is given where the depth is wrong first
pub deep_first : (s : List ℕ) → strictness s ≡ nested_too_deeply → TooDeepFirst s
unfolding strictness
deep_first [] e = absurd (omega arith)
deep_first (c ∷ cs) e = by_first (eqb c letter_d) refl e
  where
    by_first : (b : Bool) → eqb c letter_d ≡ b → cond b (whole_walk (length (c ∷ cs)) (walk_value max_levels 0 (c ∷ cs))) not_strict ≡ nested_too_deeply → TooDeepFirst (c ∷ cs)
    by_first false q f = absurd (omega arith)
    by_first true q f =
        let o : c ≡ letter_d = eqb-true c letter_d q in
        let d = deep_sound max_levels 0 (c ∷ cs) (deep_walk (length (c ∷ cs)) (walk_value max_levels 0 (c ∷ cs)) f) in
        rw o (opens_deep cs (rw o at d))

-- two ways to split a list: one goes further, or they are the same
split_twice : (p q : List ℕ) (c d : ℕ) (x y : List ℕ) → p ++ c ∷ x ≡ q ++ d ∷ y
    → ((t : List ℕ) × (p ≡ q ++ d ∷ t)) ⊎ (((t : List ℕ) × (q ≡ p ++ c ∷ t)) ⊎ ((p ≡ q) × (c ≡ d)))
split_twice [] [] c d x y e = inr (inr (refl, first_same c d x y e))
split_twice [] (b ∷ q) c d x y e = inr (inl (q, ap (λ (z : ℕ). z ∷ q) (sym (first_same c b x (q ++ d ∷ y) e))))
split_twice (a ∷ p) [] c d x y e = inl (p, ap (λ (z : ℕ). z ∷ p) (first_same a d (p ++ c ∷ x) y e))
split_twice (a ∷ p) (b ∷ q) c d x y e =
    let h : a ≡ b = first_same a b (p ++ c ∷ x) (q ++ d ∷ y) e in
    let f : p ++ c ∷ x ≡ q ++ d ∷ y = cc in
    elim (split_twice p q c d x y f) [
      | inl u ↦ inl (u.0, rw (h, u.1) refl)
      | inr w ↦ elim w [
        | inl u ↦ inr (inl (u.0, rw (h, u.1) refl))
        | inr u ↦ inr (inr (rw (h, u.0) refl, u.1))
      ]
    ]

shorter : (l : ℕ) (p x : List ℕ) (c : ℕ) → Octets (length x) x → CanGoOn l (p ++ c ∷ x) → CanGoOn l (p ++ c ∷ [])
shorter l p x c b g =
    (x ++ g.0, bytes_both x g.0 b g.1, rw append_assoc (rw append_assoc at g.2))

-- the front of bytes is bytes
bytes_front : (a b : List ℕ) → Octets (length (a ++ b)) (a ++ b) → Octets (length a) a
bytes_front a b p =
    record { size = refl; bytes = λ i h. let w : get_or (a ++ b) i 0 < 256 = p.bytes i (omega (arith, length-append a b)) in rw (get_or-append a b 0 i h) at w }

-- the bytes of a stem and an opening byte are too deep, whatever stands behind
stem_whole : (st : Stem max_levels) (s cs x y : List ℕ) (c : ℕ) → letter_d ∷ cs ≡ begun st ++ x → s ≡ begun st ++ c ∷ y → StemValid st → Opening c → strictness s ≡ nested_too_deeply
stem_whole st s cs x y c e f h o =
    let b = first_letter st cs x c y e in
    let w : walk_value max_levels 0 (letter_d ∷ b.0) ≡ (Err TooDeep) = rw b.1 at (deep_complete st 0 c y h o) in
    rw (f, b.1) (whole_of b.0 (Err TooDeep) w)
  where
    first_letter : {l : ℕ} (st : Stem (suc l)) (cs x : List ℕ) (c : ℕ) (y : List ℕ) → letter_d ∷ cs ≡ begun st ++ x → (q : List ℕ) × (begun st ++ c ∷ y ≡ letter_d ∷ q)
    first_letter (in_list vs st) cs x c y e = unfold begun in absurd (other_letter letter_d letter_l _ _ e (λ z. omega arith))
    first_letter (in_dictionary es k st) cs x c y e = unfold begun in (_, refl)

-- where the depth is wrong first every level is open, and the byte is an `l` or a `d`
pub deep_where : (s : List ℕ) (t : TooDeepFirst s) → (st : Stem max_levels) × StemValid st × (t.begun ≡ begun st) × Opening t.byte
deep_where s t =
    let can = t.deeper_can in
    let es = can.2.0 in
    elim (fits_or_opens (dictionary es) t.levels max_levels can.2.1) [
      | inl h ↦ absurd (t.not_with_it (can.0, can.1, (es, h, can.2.2)))
      | inr f ↦ at_the_stem es can.0 can.1 can.2.2 (f [])
    ]
  where
    -- what the stem has behind the byte stands in q
    between_bytes : (st : Stem max_levels) (c : ℕ) (r q : List ℕ) → Octets (length q) q → t.begun ++ t.byte ∷ q ≡ begun st ++ c ∷ r → (u : List ℕ) → begun st ≡ t.begun ++ t.byte ∷ u
        → Octets (length u) u
    between_bytes st c r q b both u f =
        let e : t.begun ++ t.byte ∷ q ≡ t.begun ++ t.byte ∷ (u ++ c ∷ r) = both ∙ ap (λ (l : List ℕ). l ++ c ∷ r) f ∙ append_assoc t.begun (t.byte ∷ u) (c ∷ r) in
        let g : q ≡ u ++ c ∷ r = ap (λ (l : List ℕ). drop 1 l) (behind_same t.begun (t.byte ∷ q) (t.byte ∷ (u ++ c ∷ r)) e) in
        bytes_front u (c ∷ r) (rw g at b)

    at_the_stem : (es : Entries) (q : List ℕ) → Octets (length q) q → (t.begun ++ t.byte ∷ []) ++ q ≡ encode (dictionary es)
        → OpensTooDeep max_levels (encode (dictionary es) ++ []) → (st : Stem max_levels) × StemValid st × (t.begun ≡ begun st) × Opening t.byte
    at_the_stem es q b e d =
        let st = d.0 in
        let c = d.1 in
        let r = d.2 in
        let h = d.3 in
        let o = d.4 in
        let whole : encode (dictionary es) ≡ begun st ++ c ∷ r = sym (append-nil (encode (dictionary es))) ∙ d.5 in
        let front : letter_d ∷ encode_entries es ≡ begun st ++ c ∷ r = sym (dictionary_bytes es) ∙ whole in
        let both : t.begun ++ t.byte ∷ q ≡ begun st ++ c ∷ r = sym (append_assoc t.begun (t.byte ∷ []) q) ∙ e ∙ whole in
        elim (split_twice t.begun (begun st) t.byte c q r both) [
          | inl u ↦ absurd (stem_no_further st c (u.0 ++ t.strict_before.0) h o (rw (u.1, append_assoc) at t.strict_before.2))
          | inr w ↦ elim w [
            | inl u ↦ absurd (t.not_with_it (shorter max_levels t.begun u.0 t.byte (between_bytes st c r q b both u.0 u.1) (rw u.1 at (stem_goes_on st (encode_entries es) (c ∷ r) front h))))
            | inr u ↦ (st, h, u.0, rw u.1 o)
          ]
        ]

-- and there 21 is given
pub deep_only : (s : List ℕ) → TooDeepFirst s → strictness s ≡ nested_too_deeply
deep_only s t =
    let w = deep_where s t in
    let st = w.0 in
    let can = t.strict_before in
    let front : letter_d ∷ encode_entries can.2.0 ≡ begun st ++ can.0 =
    sym (dictionary_bytes can.2.0) ∙ sym can.2.2 ∙ ap (λ (l : List ℕ). l ++ can.0) w.2 in
    stem_whole st s (encode_entries can.2.0) can.0 t.rest t.byte front (t.bytes ∙ ap (λ (l : List ℕ). l ++ t.byte ∷ t.rest) w.2) w.1 w.3

-- ---- and 20 for all else

-- there is no other number
pub one_of_three : (s : List ℕ) → (strictness s ≡ 0) ⊎ ((strictness s ≡ not_strict) ⊎ (strictness s ≡ nested_too_deeply))
unfolding strictness
one_of_three [] = inr (inl refl)
one_of_three (c ∷ cs) = by_first (eqb c letter_d) (walk_value max_levels 0 (c ∷ cs))
  where
    by_end : (b : Bool) → (cond b 0 not_strict ≡ 0) ⊎ ((cond b 0 not_strict ≡ not_strict) ⊎ (cond b 0 not_strict ≡ nested_too_deeply))
    by_end true = inl refl
    by_end false = inr (inl refl)

    by_first : (b : Bool) (w : Result ℕ Amiss)
        → (cond b (whole_walk (length (c ∷ cs)) w) not_strict ≡ 0) ⊎ ((cond b (whole_walk (length (c ∷ cs)) w) not_strict ≡ not_strict) ⊎ (cond b (whole_walk (length (c ∷ cs)) w) not_strict ≡ nested_too_deeply))
    by_first false w = inr (inl refl)
    by_first true (Err Broken) = inr (inl refl)
    by_first true (Err TooDeep) = inr (inr refl)
    by_first true (Ok k) = by_end (eqb k (length (c ∷ cs)))

-- 20 is given for all other bytes
pub otherwise : (s : List ℕ) → (Encoded max_levels s → ⊥) → (TooDeepFirst s → ⊥) → strictness s ≡ not_strict
otherwise s not_encoded not_deep =
    elim (one_of_three s) [
      | inl e ↦ absurd (not_encoded (taken_only s e))
      | inr w ↦ elim w [ inl e ↦ e | inr e ↦ absurd (not_deep (deep_first s e)) ]
    ]

-- and for those alone
pub otherwise_only : (s : List ℕ) → strictness s ≡ not_strict → (Encoded max_levels s → ⊥) × (TooDeepFirst s → ⊥)
otherwise_only s e = (
  (λ p. let f : ◌≡◌ {A = ℕ} 0 20 = sym (taken s p) ∙ e in omega arith),
  (λ p. let f : ◌≡◌ {A = ℕ} 21 20 = sym (deep_only s p) ∙ e in omega arith),
)

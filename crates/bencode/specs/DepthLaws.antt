-- When the walk finds bytes too deep: where they begin with a stem, which opens every level that is left after nothing but what is
-- strict, and then open one more (`deep_complete`, `deep_sound`). A stem can go on, with the levels or with one more (`filled`).
-- Assumes nothing.
use Rattle.bencode.specs.declared.walk.Amiss.{Amiss}
use Rattle.bencode.specs.declared.walk.Amiss.TheVariants.{Broken, TooDeep}
use Rattle.std.specs.Prelude.{◌≡◌, refl, ◌⊎◌, true, drop, eqb, List, [], ◌∷◌, ◌++◌, ℕ, zero, suc, ◌+◌, ◌-◌, ◌≤◌, Option, Some, None, Err, Ok, Result}
use Rattle.std.proofs.Common.{sym, ◌∙◌, inl, inr, arith, eqb-true, append_assoc, append-nil}
use Rattle.std.proofs.Math.Path.{ap}
use Rattle.std.proofs.Math.ListN.{length, length-append}
use Rattle.std.proofs.Math.Seq.{drop-append_seam}
use Rattle.bencode.specs.Grammar.{letter_d, letter_e, letter_i, letter_l, Value, integer, string, list, dictionary, Items, no_items, item, Entries, no_entries, entry, encode_string, encode, encode_items, encode_entries, KeyBefore, none, after, ascends, Valid, ItemsValid, EntriesValid}
use Rattle.bencode.specs.Scalar.{read_string, read_signed}
use Rattle.bencode.specs.Walk.{past_integer, past_string, onward, with_key, end_or, between, read_key, walk_items, walk_entries, walk_list, walk_dictionary, by_first, walk_value}
use Rattle.bencode.specs.CondLaws.{cond_case}
use Rattle.bencode.specs.CompleteLaws.{complete, NoEnd, value_no_end, string_no_end, value_some, string_some, items_one, entries_one, key_read, past_part, walk_list_lem, walk_dictionary_lem, list_bytes, dictionary_bytes}
use Rattle.bencode.specs.SoundLaws.{Begins, ValueIs, rest_is, value_sound, KeyIs, key_sound}
use Rattle.bencode.specs.declared.part.Part.{Part}
use Rattle.bencode.specs.declared.scalar.Integer.{Integer}

-- ---- stems

-- a value is due, so many levels have been opened: items that stand in a list before, or entries in a dictionary and a key
pub data Stem : ℕ → Type 0 where
  here : Stem zero
  in_list : {l : ℕ} → Items → Stem l → Stem (suc l)
  in_dictionary : {l : ℕ} → Entries → List ℕ → Stem l → Stem (suc l)

-- items, with no `e` behind them
unfoldable pub begun_items : Items → List ℕ
begun_items no_items = []
begun_items (item v vs) = encode v ++ begun_items vs

-- entries, with no `e` behind them
unfoldable pub begun_entries : Entries → List ℕ
begun_entries no_entries = []
begun_entries (entry k v es) = encode_string k ++ (encode v ++ begun_entries es)

-- the key before what follows the entries
unfoldable pub last_key : KeyBefore → Entries → KeyBefore
last_key j no_entries = j
last_key j (entry k v es) = last_key (after k) es

-- the bytes of a stem
unfoldable pub begun : {l : ℕ} → Stem l → List ℕ
begun here = []
begun (in_list vs st) = letter_l ∷ (begun_items vs ++ begun st)
begun (in_dictionary es k st) = letter_d ∷ (begun_entries es ++ (encode_string k ++ begun st))

-- what stands in it is valid, with the levels that are left there
unfoldable pub StemValid : {l : ℕ} → Stem l → Type 0
StemValid here = Unit {0}
StemValid (in_list {l} vs st) = ItemsValid vs l × StemValid st
StemValid (in_dictionary {l} es k st) = EntriesValid es none l × (ascends (last_key none es) k ≡ true) × StemValid st

-- a byte that opens a level
abbrev pub Opening : ℕ → Type 0
Opening c = (c ≡ letter_l) ⊎ (c ≡ letter_d)

-- with l levels left, xs open l of them and then one more
abbrev pub OpensTooDeep : ℕ → List ℕ → Type 0
OpensTooDeep l xs = (st : Stem l) × (c : ℕ) × (r : List ℕ) × StemValid st × Opening c × (xs ≡ begun st ++ c ∷ r)

opens_here : (c : ℕ) (r : List ℕ) → Opening c → OpensTooDeep 0 (c ∷ r)
unfolding begun StemValid
opens_here c r o = (here, c, r, tt, o, refl)

-- ---- the walk finds them too deep

-- such bytes begin with an `l` or a `d`
begins_open : {l : ℕ} (st : Stem l) (c : ℕ) (r : List ℕ) → Opening c → (o : ℕ) × (q : List ℕ) × Opening o × (begun st ++ c ∷ r ≡ o ∷ q)
unfolding begun
begins_open here c r o = (c, r, o, refl)
begins_open (in_list vs st) c r o = (letter_l, _, inl refl, refl)
begins_open (in_dictionary es k st) c r o = (letter_d, _, inr refl, refl)

open_no_end : (o : ℕ) (q : List ℕ) → Opening o → (at : ℕ) (w : Result ℕ Amiss) → end_or at (o ∷ q) w ≡ w
unfolding end_or
open_no_end o q (inl e) at w = rw e
open_no_end o q (inr e) at w = rw e

module _ (l : ℕ) (o : ℕ) (q : List ℕ) (opens : Opening o) (deep : (at : ℕ) → walk_value l at (o ∷ q) ≡ (Err TooDeep)) where
  items_deep : (vs : Items) (f at : ℕ) → ItemsValid vs l → length (begun_items vs ++ o ∷ q) ≤ f → walk_items (walk_value l) f at (begun_items vs ++ o ∷ q) ≡ (Err TooDeep)
  unfolding begun_items Valid walk_items
  items_deep no_items zero at h g = absurd (omega arith)
  items_deep no_items (suc f) at h g = open_no_end o q opens at _ ∙ rw (deep at)
  items_deep (item v vs) zero at h g = absurd (omega (arith, length-append (encode v ++ begun_items vs) (o ∷ q)))
  items_deep (item v vs) (suc f) at h g =
      let la = length-append (encode v ++ begun_items vs) (o ∷ q) in
      let lb = length-append (encode v) (begun_items vs) in
      let lc = length-append (begun_items vs) (o ∷ q) in
      let sv = value_some v in
      rw append_assoc
      (items_one (walk_value l) f at (encode v) (begun_items vs ++ o ∷ q) (value_no_end v) (complete v l at (begun_items vs ++ o ∷ q) h.0)
      ∙ items_deep vs f (at + length (encode v)) h.1 (omega arith))

  entries_deep : (es : Entries) (j : KeyBefore) (f at : ℕ) (k : List ℕ) → EntriesValid es j l → ascends (last_key j es) k ≡ true
      → length (begun_entries es ++ (encode_string k ++ o ∷ q)) ≤ f → walk_entries (walk_value l) f j at (begun_entries es ++ (encode_string k ++ o ∷ q)) ≡ (Err TooDeep)
  unfolding begun_entries last_key Valid walk_entries NoEnd
  entries_deep no_entries j zero at k h a g = absurd (omega (arith, length-append (encode_string k) (o ∷ q)))
  entries_deep no_entries j (suc f) at k h a g =
      string_no_end k at (o ∷ q) _
      ∙ rw (key_read at k (o ∷ q) j a) (rw (past_part at (encode_string k) (o ∷ q), deep (at + length (encode_string k))) refl)
  entries_deep (entry i v es) j zero at k h a g =
      absurd (omega (arith, length-append (encode_string i ++ (encode v ++ begun_entries es)) (encode_string k ++ o ∷ q), length-append (encode_string k) (o ∷ q)))
  entries_deep (entry i v es) j (suc f) at k h a g =
      let behind = encode_string k ++ o ∷ q in
      let la = length-append (encode_string i ++ (encode v ++ begun_entries es)) behind in
      let lb = length-append (encode_string i) (encode v ++ begun_entries es) in
      let lc = length-append (encode v) (begun_entries es) in
      let ld = length-append (begun_entries es) behind in
      let si = string_some i in
      let s : (encode_string i ++ (encode v ++ begun_entries es)) ++ behind ≡ encode_string i ++ (encode v ++ (begun_entries es ++ behind)) =
      append_assoc (encode_string i) (encode v ++ begun_entries es) behind ∙ ap (λ (t : List ℕ). encode_string i ++ t) (append_assoc (encode v) (begun_entries es) behind) in
      rw s
      (entries_one (walk_value l) f at j i (encode v) (begun_entries es ++ behind) h.0 (complete v l (at + length (encode_string i)) (begun_entries es ++ behind) h.1)
      ∙ entries_deep es (after i) f (at + length (encode_string i) + length (encode v)) k h.2 a (omega arith))

none_left : (at c : ℕ) (r : List ℕ) → Opening c → walk_value 0 at (c ∷ r) ≡ (Err TooDeep)
unfolding walk_value by_first
none_left at c r (inl e) = rw e
none_left at c r (inr e) = rw e

-- a stem and an opening byte are too deep, whatever stands behind
pub deep_complete : {l : ℕ} (st : Stem l) (at c : ℕ) (r : List ℕ) → StemValid st → Opening c → walk_value l at (begun st ++ c ∷ r) ≡ (Err TooDeep)
unfolding begun StemValid
deep_complete here at c r h o = none_left at c r o
deep_complete (in_list {l} vs st) at c r h o =
    let b = begins_open st c r o in
    let ys = b.0 ∷ b.1 in
    let deep : (i : ℕ) → walk_value l i ys ≡ (Err TooDeep) = λ i. rw b.3 at (deep_complete st i c r h.1 o) in
    let e : (begun_items vs ++ begun st) ++ c ∷ r ≡ begun_items vs ++ ys = append_assoc (begun_items vs) (begun st) (c ∷ r) ∙ ap (λ (t : List ℕ). begun_items vs ++ t) b.3 in
    walk_list_lem l at ((begun_items vs ++ begun st) ++ c ∷ r)
    ∙ rw e (items_deep l b.0 b.1 b.2 deep vs (suc (length (begun_items vs ++ ys))) (at + 1) h.0 (omega arith))
deep_complete (in_dictionary {l} es k st) at c r h o =
    let b = begins_open st c r o in
    let ys = b.0 ∷ b.1 in
    let deep : (i : ℕ) → walk_value l i ys ≡ (Err TooDeep) = λ i. rw b.3 at (deep_complete st i c r h.2 o) in
    let e : (begun_entries es ++ (encode_string k ++ begun st)) ++ c ∷ r ≡ begun_entries es ++ (encode_string k ++ ys) =
    append_assoc (begun_entries es) (encode_string k ++ begun st) (c ∷ r)
    ∙ ap (λ (t : List ℕ). begun_entries es ++ t) (append_assoc (encode_string k) (begun st) (c ∷ r) ∙ ap (λ (t : List ℕ). encode_string k ++ t) b.3) in
    walk_dictionary_lem l at ((begun_entries es ++ (encode_string k ++ begun st)) ++ c ∷ r)
    ∙ rw e (entries_deep l b.0 b.1 b.2 deep es none (suc (length (begun_entries es ++ (encode_string k ++ ys)))) (at + 1) k h.0 h.1 (omega arith))

-- ---- and it finds no others too deep

-- in a list: items, then what is too deep; in a dictionary after the key j: entries, a key, then what is too deep
abbrev pub InItems : ℕ → List ℕ → Type 0
InItems l xs = (vs : Items) × (ys : List ℕ) × ItemsValid vs l × (xs ≡ begun_items vs ++ ys) × OpensTooDeep l ys

abbrev pub InEntries : ℕ → KeyBefore → List ℕ → Type 0
InEntries l j xs =
    (es : Entries) × (k ys : List ℕ) × EntriesValid es j l × (ascends (last_key j es) k ≡ true) × (xs ≡ begun_entries es ++ (encode_string k ++ ys)) × OpensTooDeep l ys

-- an item more before it
item_before : (l : ℕ) (v : Value) (xs : List ℕ) → Valid v l → InItems l xs → InItems l (encode v ++ xs)
unfolding begun_items Valid
item_before l v xs h p =
    (item v p.0, p.1, (h, p.2), ap (λ (t : List ℕ). encode v ++ t) p.3 ∙ sym (append_assoc (encode v) (begun_items p.0) p.1), p.4)

first_item : (l : ℕ) (xs : List ℕ) → OpensTooDeep l xs → InItems l xs
unfolding begun_items Valid
first_item l xs d = (no_items, xs, tt, refl, d)

-- an entry more before it
entry_before : (l : ℕ) (j : KeyBefore) (k : List ℕ) (v : Value) (xs : List ℕ) → ascends j k ≡ true → Valid v l → InEntries l (after k) xs → InEntries l j (encode_string k ++ (encode v ++ xs))
unfolding begun_entries last_key Valid
entry_before l j k v xs a h p =
    let t = encode_string p.1 ++ p.2 in (
      entry k v p.0,
      p.1,
      p.2,
      (a, h, p.3),
      p.4,
      ap (λ (x : List ℕ). encode_string k ++ (encode v ++ x)) p.5
          ∙ ap (λ (x : List ℕ). encode_string k ++ x) (sym (append_assoc (encode v) (begun_entries p.0) t))
          ∙ sym (append_assoc (encode_string k) (encode v ++ begun_entries p.0) t),
      p.6,
    )

first_entry : (l : ℕ) (j : KeyBefore) (k xs : List ℕ) → ascends j k ≡ true → OpensTooDeep l xs → InEntries l j (encode_string k ++ xs)
unfolding begun_entries last_key Valid
first_entry l j k xs a d = (no_entries, k, xs, tt, a, refl, d)

-- a level more around it
list_around : (l : ℕ) (xs : List ℕ) → InItems l xs → OpensTooDeep (suc l) (letter_l ∷ xs)
unfolding begun StemValid
list_around l xs p =
    let d = p.4 in (
      in_list p.0 d.0,
      d.1,
      d.2,
      (p.2, d.3),
      d.4,
      ap (λ (t : List ℕ). letter_l ∷ t) (p.3 ∙ ap (λ (t : List ℕ). begun_items p.0 ++ t) d.5 ∙ sym (append_assoc (begun_items p.0) (begun d.0) (d.1 ∷ d.2))),
    )

dictionary_around : (l : ℕ) (xs : List ℕ) → InEntries l none xs → OpensTooDeep (suc l) (letter_d ∷ xs)
unfolding begun StemValid
dictionary_around l xs p =
    let d = p.6 in
    let tail = d.1 ∷ d.2 in (
      in_dictionary p.0 p.1 d.0,
      d.1,
      d.2,
      (p.3, p.4, d.3),
      d.4,
      ap (λ (t : List ℕ). letter_d ∷ t)
          (p.5
          ∙ ap (λ (t : List ℕ). begun_entries p.0 ++ (encode_string p.1 ++ t)) d.5
          ∙ ap (λ (t : List ℕ). begun_entries p.0 ++ t) (sym (append_assoc (encode_string p.1) (begun d.0) tail))
          ∙ sym (append_assoc (begun_entries p.0) (encode_string p.1 ++ begun d.0) tail)),
    )

abbrev DeepIs : (List ℕ → Type 0) → List ℕ → Result ℕ Amiss → Type 0
DeepIs P xs (Err Broken) = Unit {0}
DeepIs P xs (Ok k) = Unit {0}
DeepIs P xs (Err TooDeep) = P xs

end_deep : (P : List ℕ → Type 0) (at : ℕ) (xs : List ℕ) (w : Result ℕ Amiss) → DeepIs P xs w → DeepIs P xs (end_or at xs w)
unfolding end_or
end_deep P at [] w p = tt
end_deep P at (c ∷ cs) w p = cond_case (DeepIs P (c ∷ cs)) (eqb c letter_e) (Ok (at + 1)) w (λ e. tt) (λ e. p)

module _ (l : ℕ) (ih : (at : ℕ) (xs : List ℕ) → DeepIs (OpensTooDeep l) xs (walk_value l at xs)) where
  behind_item : (at : ℕ) (xs : List ℕ) (k : ℕ) (b : Begins encode (λ v. Valid v l) at xs k) (w : Result ℕ Amiss) → DeepIs (InItems l) (drop (k - at) xs) w → DeepIs (InItems l) xs w
  behind_item at xs k b (Err Broken) p = tt
  behind_item at xs k b (Ok m) p = tt
  behind_item at xs k b (Err TooDeep) p =
      let z : drop (k - at) xs ≡ b.rest = rest_is encode (λ v. Valid v l) at xs k b in
      rw b.bytes (item_before l b.it b.rest b.valid (rw z at p))

  items_onward : (at : ℕ) (xs : List ℕ) (w : Result ℕ Amiss) (go : ℕ → Result ℕ Amiss) → ValueIs l at xs w → DeepIs (OpensTooDeep l) xs w → ((k : ℕ) → DeepIs (InItems l) (drop (k - at) xs) (go k)) → DeepIs (InItems l) xs (onward w go)
  items_onward at xs (Err Broken) go p d h = tt
  items_onward at xs (Err TooDeep) go p d h = first_item l xs d
  items_onward at xs (Ok k) go p d h = behind_item at xs k p (go k) (h k)

  items_is : (f at : ℕ) (xs : List ℕ) → DeepIs (InItems l) xs (walk_items (walk_value l) f at xs)
  unfolding walk_items
  items_is zero at xs = tt
  items_is (suc f) at xs =
      end_deep (InItems l) at xs _
      (items_onward at xs (walk_value l at xs) (λ k. walk_items (walk_value l) f k (drop (k - at) xs)) (value_sound l at xs) (ih at xs) (λ k. items_is f k (drop (k - at) xs)))

  module _ (j : KeyBefore) (at : ℕ) (xs : List ℕ) where
    module _ (k r : List ℕ) (e : xs ≡ encode_string k ++ r) (a : ascends j k ≡ true) where
      behind_entry : (m : ℕ) (b : Begins encode (λ v. Valid v l) (at + length (encode_string k)) r m) (w : Result ℕ Amiss) → DeepIs (InEntries l (after k)) (drop (m - at) xs) w → DeepIs (InEntries l j) xs w
      behind_entry m b (Err Broken) q = tt
      behind_entry m b (Ok n) q = tt
      behind_entry m b (Err TooDeep) q =
          let v = b.it in
          let x = b.ends in
          let lk = length-append (encode_string k) (encode v) in
          let o : m - at ≡ length (encode_string k ++ encode v) = omega arith in
          let t : xs ≡ encode_string k ++ (encode v ++ b.rest) = e ∙ ap (λ (y : List ℕ). encode_string k ++ y) b.bytes in
          let s : xs ≡ (encode_string k ++ encode v) ++ b.rest = t ∙ sym (append_assoc (encode_string k) (encode v) b.rest) in
          let z : drop (m - at) xs ≡ b.rest = rw (o, s) (drop-append_seam (encode_string k ++ encode v) b.rest) in
          rw t (entry_before l j k v b.rest a b.valid (rw z at q))

      entries_onward : (w : Result ℕ Amiss) (go : ℕ → Result ℕ Amiss) → ValueIs l (at + length (encode_string k)) r w → DeepIs (OpensTooDeep l) r w → ((m : ℕ) → DeepIs (InEntries l (after k)) (drop (m - at) xs) (go m)) → DeepIs (InEntries l j) xs (onward w go)
      entries_onward (Err Broken) go q d h = tt
      entries_onward (Err TooDeep) go q d h = rw e (first_entry l j k r a d)
      entries_onward (Ok m) go q d h = behind_entry m q (go m) (h m)

    entries_with_key : (more : KeyBefore → ℕ → List ℕ → Result ℕ Amiss) (w : Option Part) → KeyIs j at xs w
        → ((q : KeyBefore) (i : ℕ) (ys : List ℕ) → DeepIs (InEntries l q) ys (more q i ys))
        → DeepIs (InEntries l j) xs (with_key w (λ x y. onward (walk_value l y (drop (y - at) xs)) (λ m. more (after (between at xs x y)) m (drop (m - at) xs))))
    entries_with_key more None p h = tt
    entries_with_key more (Some w) p h =
        let k = p.0 in
        let r = p.1 in
        let z : drop (at + length (encode_string k) - at) xs ≡ r = rw p.2 (past_part at (encode_string k) r) in
        rw (p.4, p.5, z)
        (entries_onward k r p.2 p.3 (walk_value l (at + length (encode_string k)) r) (λ m. more (after k) m (drop (m - at) xs))
        (value_sound l (at + length (encode_string k)) r) (ih (at + length (encode_string k)) r) (λ m. h (after k) m (drop (m - at) xs)))

  entries_is : (f : ℕ) (j : KeyBefore) (at : ℕ) (xs : List ℕ) → DeepIs (InEntries l j) xs (walk_entries (walk_value l) f j at xs)
  unfolding walk_entries
  entries_is zero j at xs = tt
  entries_is (suc f) j at xs =
      end_deep (InEntries l j) at xs _
      (entries_with_key j at xs (walk_entries (walk_value l) f) (read_key j at xs) (key_sound j at xs) (λ q i ys. entries_is f q i ys))

integer_never : (P : List ℕ → Type 0) (xs : List ℕ) (w : Option Integer) → DeepIs P xs (past_integer w)
integer_never P xs None = tt
integer_never P xs (Some w) = tt

string_never : (P : List ℕ → Type 0) (xs : List ℕ) (w : Option Part) → DeepIs P xs (past_string w)
string_never P xs None = tt
string_never P xs (Some w) = tt

first_byte_is : (P : List ℕ → Type 0) (at : ℕ) (xs : List ℕ) (ls ds : Result ℕ Amiss) → ((cs : List ℕ) → xs ≡ letter_l ∷ cs → DeepIs P xs ls) → ((cs : List ℕ) → xs ≡ letter_d ∷ cs → DeepIs P xs ds)
    → DeepIs P xs (by_first at xs ls ds)
unfolding by_first
first_byte_is P at [] ls ds p q = tt
first_byte_is P at (c ∷ cs) ls ds p q =
    cond_case (DeepIs P (c ∷ cs)) (eqb c letter_i) _ _ (λ e. integer_never P (c ∷ cs) (read_signed (at + 1) cs))
    (λ e. cond_case (DeepIs P (c ∷ cs)) (eqb c letter_l) _ _ (λ f. p cs (ap (λ (x : ℕ). x ∷ cs) (eqb-true c letter_l f)))
    (λ f. cond_case (DeepIs P (c ∷ cs)) (eqb c letter_d) _ _ (λ g. q cs (ap (λ (x : ℕ). x ∷ cs) (eqb-true c letter_d g)))
    (λ g. string_never P (c ∷ cs) (read_string at (c ∷ cs)))))

around : (P Q : List ℕ → Type 0) (cs xs : List ℕ) (w : Result ℕ Amiss) → (P cs → Q xs) → DeepIs P cs w → DeepIs Q xs w
around P Q cs xs (Err Broken) f p = tt
around P Q cs xs (Ok k) f p = tt
around P Q cs xs (Err TooDeep) f p = f p

deep_is : (l at : ℕ) (xs : List ℕ) → DeepIs (OpensTooDeep l) xs (walk_value l at xs)
unfolding walk_value
deep_is zero at xs =
    first_byte_is (OpensTooDeep 0) at xs (Err TooDeep) (Err TooDeep) (λ cs e. rw e (opens_here letter_l cs (inl refl))) (λ cs e. rw e (opens_here letter_d cs (inr refl)))
deep_is (suc l) at xs =
    first_byte_is (OpensTooDeep (suc l)) at xs _ _
    (λ cs e. rw e (around (InItems l) (OpensTooDeep (suc l)) cs (letter_l ∷ cs) (walk_list (walk_value l) (at + 1) cs) (list_around l cs) (items_is l (deep_is l) (suc (length cs)) (at + 1) cs)))
    (λ cs e. rw e (around (InEntries l none) (OpensTooDeep (suc l)) cs (letter_d ∷ cs) (walk_dictionary (walk_value l) (at + 1) cs) (dictionary_around l cs) (entries_is l (deep_is l) (suc (length cs)) none (at + 1) cs)))

-- what the walk finds too deep begins with a stem and an opening byte
pub deep_sound : (l at : ℕ) (xs : List ℕ) → walk_value l at xs ≡ (Err TooDeep) → OpensTooDeep l xs
deep_sound l at xs e = rw e at (deep_is l at xs)

-- ---- a value that is valid but for its levels is valid, or its encoding opens too deep

mutual
  unfolding encode Valid

  pub fits_or_opens : (v : Value) (n l : ℕ) → Valid v n → Valid v l ⊎ ((r : List ℕ) → OpensTooDeep l (encode v ++ r))
  fits_or_opens (integer minus m) n l h = inl h
  fits_or_opens (string b) n l h = inl tt
  fits_or_opens (list vs) zero l h = absurd h
  fits_or_opens (list vs) (suc n) zero h = inr (λ r. opens_here letter_l (encode_items vs ++ r) (inl refl))
  fits_or_opens (list vs) (suc n) (suc l) h = elim (items_fit vs n l h) [ inl p ↦ inl p | inr f ↦ inr (λ r. list_around l (encode_items vs ++ r) (f r)) ]
  fits_or_opens (dictionary es) zero l h = absurd h
  fits_or_opens (dictionary es) (suc n) zero h = inr (λ r. opens_here letter_d (encode_entries es ++ r) (inr refl))
  fits_or_opens (dictionary es) (suc n) (suc l) h = elim (entries_fit es none n l h) [ inl p ↦ inl p | inr f ↦ inr (λ r. dictionary_around l (encode_entries es ++ r) (f r)) ]

  items_fit : (vs : Items) (n l : ℕ) → ItemsValid vs n → ItemsValid vs l ⊎ ((r : List ℕ) → InItems l (encode_items vs ++ r))
  items_fit no_items n l h = inl tt
  items_fit (item v vs) n l h =
      elim (fits_or_opens v n l h.0) [
        | inl p ↦ elim (items_fit vs n l h.1) [
          | inl q ↦ inl (p, q)
          | inr g ↦ inr (λ r. rw append_assoc (item_before l v (encode_items vs ++ r) p (g r)))
        ]
        | inr f ↦ inr (λ r. rw append_assoc (first_item l (encode v ++ (encode_items vs ++ r)) (f (encode_items vs ++ r))))
      ]

  entries_fit : (es : Entries) (j : KeyBefore) (n l : ℕ) → EntriesValid es j n → EntriesValid es j l ⊎ ((r : List ℕ) → InEntries l j (encode_entries es ++ r))
  entries_fit no_entries j n l h = inl tt
  entries_fit (entry k v es) j n l h =
      let regroup : (r : List ℕ) → (encode_string k ++ (encode v ++ encode_entries es)) ++ r ≡ encode_string k ++ (encode v ++ (encode_entries es ++ r)) =
      λ r. append_assoc (encode_string k) (encode v ++ encode_entries es) r ∙ ap (λ (t : List ℕ). encode_string k ++ t) (append_assoc (encode v) (encode_entries es) r) in
      elim (fits_or_opens v n l h.1) [
        | inl p ↦ elim (entries_fit es (after k) n l h.2) [
          | inl q ↦ inl (h.0, p, q)
          | inr g ↦ inr (λ r. rw (regroup r) (entry_before l j k v (encode_entries es ++ r) h.0 p (g r)))
        ]
        | inr f ↦ inr (λ r. rw (regroup r) (first_entry l j k (encode v ++ (encode_entries es ++ r)) h.0 (f (encode_entries es ++ r))))
      ]

-- ---- a stem can go on: with a value in its place it is the beginning of an encoding

-- items with one more at the end
unfoldable pub items_then : Items → Value → Items
items_then no_items v = item v no_items
items_then (item w vs) v = item w (items_then vs v)

-- entries with one more at the end
unfoldable pub entries_then : Entries → List ℕ → Value → Entries
entries_then no_entries k v = entry k v no_entries
entries_then (entry j w es) k v = entry j w (entries_then es k v)

-- a stem with a value in its place
unfoldable pub filled : {l : ℕ} → Stem l → Value → Value
filled here v = v
filled (in_list vs st) v = list (items_then vs (filled st v))
filled (in_dictionary es k st) v = dictionary (entries_then es k (filled st v))

-- the `e`s that close what a stem opened
unfoldable pub closing : ℕ → List ℕ
closing zero = []
closing (suc l) = closing l ++ letter_e ∷ []

items_then_bytes : (vs : Items) (v : Value) → encode_items (items_then vs v) ≡ begun_items vs ++ (encode v ++ letter_e ∷ [])
unfolding encode items_then begun_items
items_then_bytes no_items v = refl
items_then_bytes (item w vs) v = ap (λ (t : List ℕ). encode w ++ t) (items_then_bytes vs v) ∙ sym (append_assoc (encode w) (begun_items vs) (encode v ++ letter_e ∷ []))

entries_then_bytes : (es : Entries) (k : List ℕ) (v : Value) → encode_entries (entries_then es k v) ≡ begun_entries es ++ (encode_string k ++ (encode v ++ letter_e ∷ []))
unfolding encode entries_then begun_entries
entries_then_bytes no_entries k v = refl
entries_then_bytes (entry j w es) k v =
    let t = encode_string k ++ (encode v ++ letter_e ∷ []) in
    ap (λ (x : List ℕ). encode_string j ++ (encode w ++ x)) (entries_then_bytes es k v)
    ∙ ap (λ (x : List ℕ). encode_string j ++ x) (sym (append_assoc (encode w) (begun_entries es) t))
    ∙ sym (append_assoc (encode_string j) (encode w ++ begun_entries es) t)

-- its encoding is the bytes of the stem, the value, and what closes the stem
pub filled_bytes : {l : ℕ} (st : Stem l) (v : Value) → encode (filled st v) ≡ begun st ++ (encode v ++ closing l)
unfolding filled begun closing
filled_bytes here v = sym (append-nil (encode v))
filled_bytes (in_list {l} vs st) v =
    let inner = encode v ++ closing l in
    let e : encode (filled st v) ++ letter_e ∷ [] ≡ begun st ++ (encode v ++ (closing l ++ letter_e ∷ [])) =
    ap (λ (t : List ℕ). t ++ letter_e ∷ []) (filled_bytes st v)
    ∙ append_assoc (begun st) inner (letter_e ∷ [])
    ∙ ap (λ (t : List ℕ). begun st ++ t) (append_assoc (encode v) (closing l) (letter_e ∷ [])) in
    list_bytes (items_then vs (filled st v))
    ∙ ap (λ (t : List ℕ). letter_l ∷ t)
    (items_then_bytes vs (filled st v)
    ∙ ap (λ (t : List ℕ). begun_items vs ++ t) e
    ∙ sym (append_assoc (begun_items vs) (begun st) (encode v ++ (closing l ++ letter_e ∷ []))))
filled_bytes (in_dictionary {l} es k st) v =
    let inner = encode v ++ closing l in
    let tail = encode v ++ (closing l ++ letter_e ∷ []) in
    let e : encode (filled st v) ++ letter_e ∷ [] ≡ begun st ++ tail =
    ap (λ (t : List ℕ). t ++ letter_e ∷ []) (filled_bytes st v)
    ∙ append_assoc (begun st) inner (letter_e ∷ [])
    ∙ ap (λ (t : List ℕ). begun st ++ t) (append_assoc (encode v) (closing l) (letter_e ∷ [])) in
    dictionary_bytes (entries_then es k (filled st v))
    ∙ ap (λ (t : List ℕ). letter_d ∷ t)
    (entries_then_bytes es k (filled st v)
    ∙ ap (λ (t : List ℕ). begun_entries es ++ (encode_string k ++ t)) e
    ∙ ap (λ (t : List ℕ). begun_entries es ++ t) (sym (append_assoc (encode_string k) (begun st) tail))
    ∙ sym (append_assoc (begun_entries es) (encode_string k ++ begun st) tail))

-- a level more does no harm
mutual
  unfolding Valid

  deeper : (v : Value) (l : ℕ) → Valid v l → Valid v (suc l)
  deeper (integer minus n) l h = h
  deeper (string b) l h = tt
  deeper (list vs) zero h = absurd h
  deeper (list vs) (suc l) h = items_deeper vs l h
  deeper (dictionary es) zero h = absurd h
  deeper (dictionary es) (suc l) h = entries_deeper es none l h

  items_deeper : (vs : Items) (l : ℕ) → ItemsValid vs l → ItemsValid vs (suc l)
  items_deeper no_items l h = tt
  items_deeper (item v vs) l h = (deeper v l h.0, items_deeper vs l h.1)

  entries_deeper : (es : Entries) (j : KeyBefore) (l : ℕ) → EntriesValid es j l → EntriesValid es j (suc l)
  entries_deeper no_entries j l h = tt
  entries_deeper (entry k v es) j l h = (h.0, deeper v l h.1, entries_deeper es (after k) l h.2)

-- nor do more
pub more_levels : (v : Value) (l m : ℕ) → l ≤ m → Valid v l → Valid v m
more_levels v l m h p = let e : l + (m - l) ≡ m = omega arith in rw e at (by_count (m - l))
  where
    by_count : (d : ℕ) → Valid v (l + d)
    by_count zero = let e : l + 0 ≡ l = omega arith in rw e p
    by_count (suc d) = let e : l + suc d ≡ suc (l + d) = omega arith in rw e (deeper v (l + d) (by_count d))

-- nor do more levels harm entries
pub entries_more_levels : (es : Entries) (j : KeyBefore) (l m : ℕ) → l ≤ m → EntriesValid es j l → EntriesValid es j m
unfolding Valid
entries_more_levels no_entries j l m h p = tt
entries_more_levels (entry k v es) j l m h p = (p.0, more_levels v l m h p.1, entries_more_levels es (after k) l m h p.2)

items_then_valid : (vs : Items) (v : Value) (l : ℕ) → ItemsValid vs l → Valid v l → ItemsValid (items_then vs v) l
unfolding Valid items_then
items_then_valid no_items v l h g = (g, tt)
items_then_valid (item w vs) v l h g = (h.0, items_then_valid vs v l h.1 g)

entries_then_valid : (es : Entries) (j : KeyBefore) (k : List ℕ) (v : Value) (l : ℕ) → EntriesValid es j l → ascends (last_key j es) k ≡ true → Valid v l → EntriesValid (entries_then es k v) j l
unfolding Valid entries_then last_key
entries_then_valid no_entries j k v l h a g = (a, g, tt)
entries_then_valid (entry i w es) j k v l h a g = (h.0, h.1, entries_then_valid es (after i) k v l h.2 a g)

-- with a value that opens no level a stem is valid with its levels
pub filled_valid : {l : ℕ} (st : Stem l) (v : Value) → StemValid st → Valid v 0 → Valid (filled st v) l
unfolding filled StemValid Valid
filled_valid here v h g = g
filled_valid (in_list {l} vs st) v h g = items_then_valid vs (filled st v) l h.0 (filled_valid st v h.1 g)
filled_valid (in_dictionary {l} es k st) v h g = entries_then_valid es none k (filled st v) l h.0 h.1 (filled_valid st v h.2 g)

-- with a value that opens one it is valid with one level more
pub filled_deeper : {l : ℕ} (st : Stem l) (v : Value) → StemValid st → Valid v 1 → Valid (filled st v) (suc l)
unfolding filled StemValid Valid
filled_deeper here v h g = g
filled_deeper (in_list {l} vs st) v h g = items_then_valid vs (filled st v) (suc l) (items_deeper vs l h.0) (filled_deeper st v h.1 g)
filled_deeper (in_dictionary {l} es k st) v h g =
    entries_then_valid es none k (filled st v) (suc l) (entries_deeper es none l h.0) h.1 (filled_deeper st v h.2 g)

-- What stands at a position, read: an integer, a string, the value of a key.
-- Assumes nothing.
use Rattle.bencode.specs.declared.walk.Amiss.{Amiss}
use Rattle.bencode.specs.Scalar.{whole}
use Rattle.bencode.specs.EndsLaws.{same_part}
use Rattle.bencode.specs.Scalar.{part}
use Rattle.std.proofs.Math.Path.{◌≡◌, refl, sym, ap}
use Rattle.std.proofs.Common.{◌∙◌, subst, drop_of_length-le, ne_eqb, append_assoc, arith, Some, None, Option, Ok, Result}
use Rattle.std.specs.Prelude.{Bool, false, not, ◌&&◌, ℕ, suc, ◌+◌, ◌-◌, ◌≤◌, ◌<◌, get_or, eqb, List, [], ◌∷◌, ◌++◌, Option, Some, None, Result, Ok, Err, unwrap_or}
use Rattle.std.proofs.Math.Bool.{true, cond, and-false}
use Rattle.std.proofs.lemmas.Bool.{false≢true}
use Rattle.std.proofs.Math.ListN.{length, drop, length-append}
use Rattle.octets.specs.OctetsLaws.{drop_step}
use Rattle.std.specs.Result.{result_unwrap_or, result_ok, IsErr}
use Rattle.limits.specs.Limits.{max_levels}
use Rattle.numbers.specs.Tests.{not_both}
use Rattle.octets.specs.Octets.{cut}
use Rattle.bencode.specs.Grammar.{Value, integer, string, list, dictionary, Items, Entries, encode, encode_items, encode_string, decimal, colon, letter_e, letter_l, no_items, item, no_entries, Valid, none}
use Rattle.bencode.specs.DepthLaws.{more_levels}
use Rattle.bencode.specs.Scalar.{read_integer, read_string}
use Rattle.bencode.specs.Parts.{is_dictionary, Lookup, absent, present, lookup, find_key, FoundIs}
use Rattle.bencode.specs.PartsLaws.{integer_is, integer_of, string_is, string_of, content_is, part_front, find_is, lookup_valid, after_part, dictionary_is, is_dictionary_value}
use Rattle.bencode.specs.CompleteLaws.{content_start, decimal_first, BeginsWithDigit, value_some, complete}
use Rattle.bencode.specs.Walk.{walk_value}
use Rattle.filetree.specs.Token.{ends_here}
use Rattle.bencode.specs.declared.part.Part.{Part}
use Rattle.bencode.specs.declared.scalar.Integer.{Integer}
use Rattle.meaning.specs.Keys.{key_length}
use Rattle.halves.specs.V1Keys.{key_path, key_attr}
use Rattle.meaning.specs.Torrent.{without, is_natural, number_of}
use Rattle.halves.specs.V1Half.{letter_p, names_full, path_full, path_names, string_or_none, is_padding, is_there, entry_fits}
use Rattle.hybrid.specs.Entry.{StandsAt, natural_in, attr_in, PathFoundIs, is_list, TokenIs, with_path, malformed, ended, entry_read, EndsAt, EntryReads, TokenIn, Reads}
use Rattle.hybrid.specs.declared.EntryRead.{EntryRead}
use Rattle.hybrid.specs.declared.Malformed.{Malformed}
use Rattle.hybrid.specs.declared.Attr.{Attr}
use Rattle.hybrid.specs.declared.Attr.TheVariants.{Plain, Padding}

-- the same entry has the same parts
pub same_entry : (t u : Bool) (n m p q k j : ℕ) → entry_read t n p k ≡ entry_read u m q j → (t ≡ u) × (n ≡ m) × (p ≡ q) × (k ≡ j)
same_entry t u n m p q k j e =
    let the : Result (Option EntryRead) Malformed → EntryRead = λ r. unwrap_or (result_unwrap_or r None) (record { padding = t; length = n; path = p; next = k }) in
    (ap (λ r. (the r).padding) e, ap (λ r. (the r).length) e, ap (λ r. (the r).path) e, ap (λ r. (the r).next) e)

-- what was read, where why it failed is left out
pub ok_none : {A : Type 0} (P : Result A Malformed → Type 0) (r : Result A Malformed) → P r → None ≡ result_ok r → P malformed
ok_none P (Ok a) h e = let z : ◌≡◌ {A = ℕ} 0 1 = cc in absurd (omega arith)
ok_none P (Err _) h e = h

pub ok_some : {A : Type 0} (P : Result A Malformed → Type 0) (r : Result A Malformed) (a : A) → P r → Some a ≡ result_ok r → P (Ok a)
ok_some P (Ok b) a h e = subst P (ap (λ w. Ok (unwrap_or w a)) (sym e)) h
ok_some P (Err _) a h e = let z : ◌≡◌ {A = ℕ} 0 1 = cc in absurd (omega arith)

-- a refusal says nothing but that there is none
pub is_malformed : {A : Type 0} (r : Result A Malformed) → IsErr r → r ≡ malformed
is_malformed (Ok a) e = absurd (false≢true e)
is_malformed (Err _) e = refl

-- ---- a value of a key

-- what is found of a key in the dictionary that stands here
pub data FoundHere (v : List ℕ) : Option Part → Lookup → Type 0 where
  nothing : FoundHere v None absent
  value : (a b : ℕ) (x : Value) → StandsAt v a x → FoundHere v (part a b) (present x)

pub found_here : (v key : List ℕ) (at : ℕ) (es : Entries) → StandsAt v at (dictionary es) → FoundHere v (find_key key at (drop at v)) (lookup key es)
found_here v key at es s = by_both (find_key key at (drop at v)) (lookup key es) refl (find_is key v at es s.behind s.bytes s.valid)
  where
    by_both : (f : Option Part) (x : Lookup) → lookup key es ≡ x → FoundIs v f x → FoundHere v f x
    by_both None absent q i = nothing
    by_both None (present w) q i = absurd i
    by_both (Some w) absent q i = absurd i
    by_both (Some p) (present w) q i =
        let val : Valid w (max_levels - 1) = unfold Valid in lookup_valid key es none (max_levels - 1) w s.valid q in
        value p.start p.end w (record { behind = drop (p.end - p.start) (drop p.start v); bytes = part_front v p.start p.end w i; valid = more_levels w (max_levels - 1) max_levels (omega arith) val })

-- ---- integers

pub natural_none : (v : List ℕ) (at : ℕ) → read_integer at (drop at v) ≡ None → (x : Value) → StandsAt v at x → None ≡ natural_in (present x)
natural_none v at e x s = by_value x (sym e ∙ ap (read_integer at) s.bytes ∙ integer_is x max_levels at s.behind s.valid)
  where
    by_value : (x : Value) → None ≡ integer_of at x → None ≡ natural_in (present x)
    by_value (integer minus n) q = let z : ◌≡◌ {A = ℕ} 0 1 = cc in absurd (omega arith)
    by_value (string b) q = refl
    by_value (list vs) q = refl
    by_value (dictionary es) q = refl

natural_some : (v : List ℕ) (at : ℕ) (minus : Bool) (n k : ℕ) → read_integer at (drop at v) ≡ whole minus n k → (x : Value) → StandsAt v at x
    → cond minus None (Some n) ≡ natural_in (present x)
natural_some v at minus n k e x s = by_value x (sym e ∙ ap (read_integer at) s.bytes ∙ integer_is x max_levels at s.behind s.valid)
  where
    natural_here : Option Integer → Option ℕ
    natural_here None = None
    natural_here (Some w) = cond w.minus None (Some w.size)

    by_sign : (t : Bool) (m : ℕ) → cond t None (Some m) ≡ natural_in (present (integer t m))
    by_sign true m = refl
    by_sign false m = refl

    by_value : (x : Value) → whole minus n k ≡ integer_of at x → cond minus None (Some n) ≡ natural_in (present x)
    by_value (integer t m) q = ap natural_here q ∙ by_sign t m
    by_value (string b) q = let z : ◌≡◌ {A = ℕ} 0 1 = cc in absurd (omega arith)
    by_value (list vs) q = let z : ◌≡◌ {A = ℕ} 0 1 = cc in absurd (omega arith)
    by_value (dictionary es) q = let z : ◌≡◌ {A = ℕ} 0 1 = cc in absurd (omega arith)

pub natural_minus : (v : List ℕ) (at : ℕ) (minus : Bool) (n k : ℕ) → read_integer at (drop at v) ≡ whole minus n k → minus ≡ true → (x : Value) → StandsAt v at x → None ≡ natural_in (present x)
natural_minus v at minus n k e t x s = ap (λ (u : Bool). cond u None (Some n)) (sym t) ∙ natural_some v at minus n k e x s

pub natural_plus : (v : List ℕ) (at : ℕ) (minus : Bool) (n k : ℕ) → read_integer at (drop at v) ≡ whole minus n k → minus ≡ false → (x : Value) → StandsAt v at x → Some n ≡ natural_in (present x)
natural_plus v at minus n k e t x s = ap (λ (u : Bool). cond u None (Some n)) (sym t) ∙ natural_some v at minus n k e x s

-- ---- strings

pub attr_none : (v : List ℕ) (at : ℕ) → read_string at (drop at v) ≡ None → (x : Value) → StandsAt v at x → None ≡ attr_in (present x)
attr_none v at e x s = by_value x (sym e ∙ ap (read_string at) s.bytes ∙ string_is x at s.behind)
  where
    by_value : (x : Value) → None ≡ string_of at x → None ≡ attr_in (present x)
    by_value (string b) q = let z : ◌≡◌ {A = ℕ} 0 1 = cc in absurd (omega arith)
    by_value (integer minus n) q = refl
    by_value (list vs) q = refl
    by_value (dictionary es) q = refl

attr_some : (v : List ℕ) (at a b : ℕ) → read_string at (drop at v) ≡ part a b → (t : Bool) → t ≡ without letter_p (cut v a (b - a)) → (x : Value) → StandsAt v at x
    → cond t (Some Plain) (Some Padding) ≡ attr_in (present x)
attr_some v at a b e t et x s = by_value x (sym e ∙ ap (read_string at) s.bytes ∙ string_is x at s.behind) s.bytes
  where
    by_value : (x : Value) → part a b ≡ string_of at x → drop at v ≡ encode x ++ s.behind → cond t (Some Plain) (Some Padding) ≡ attr_in (present x)
    by_value (string c) q d = rw et (text c q d)
      where
        text : (c : List ℕ) → part a b ≡ string_of at (string c) → drop at v ≡ encode (string c) ++ s.behind → cond (without letter_p (cut v a (b - a))) (Some Plain) (Some Padding) ≡ cond (without letter_p c) (Some Plain) (Some Padding)
        text c q d =
            let ends = same_part _ _ _ _ q in
            let ea = ends.0 in
            let eb = ends.1 in
            let e2 : drop at v ≡ encode_string c ++ s.behind = unfold encode in d in
            rw (ea, eb) (ap (λ (l : List ℕ). cond (without letter_p l) (Some Plain) (Some Padding)) (content_is v c s.behind at e2))
    by_value (integer minus n) q d = let z : ◌≡◌ {A = ℕ} 0 1 = cc in absurd (omega arith)
    by_value (list vs) q d = let z : ◌≡◌ {A = ℕ} 0 1 = cc in absurd (omega arith)
    by_value (dictionary es) q d = let z : ◌≡◌ {A = ℕ} 0 1 = cc in absurd (omega arith)

pub attr_plain : (v : List ℕ) (at a b : ℕ) → read_string at (drop at v) ≡ part a b → (t : Bool) → t ≡ without letter_p (cut v a (b - a)) → t ≡ true → (x : Value) → StandsAt v at x → (Some Plain) ≡ attr_in (present x)
attr_plain v at a b e t et q x s = ap (λ (u : Bool). cond u (Some Plain) (Some Padding)) (sym q) ∙ attr_some v at a b e t et x s

pub attr_padding : (v : List ℕ) (at a b : ℕ) → read_string at (drop at v) ≡ part a b → (t : Bool) → t ≡ without letter_p (cut v a (b - a)) → t ≡ false → (x : Value) → StandsAt v at x → (Some Padding) ≡ attr_in (present x)
attr_padding v at a b e t et q x s = ap (λ (u : Bool). cond u (Some Plain) (Some Padding)) (sym q) ∙ attr_some v at a b e t et x s

-- ---- what was found

pub found_missing : (v : List ℕ) (f : Option Part) (x : Lookup) → FoundHere v f x → f ≡ None → x ≡ absent
found_missing v f x nothing e = refl
found_missing v f x (value a b w s) e = let z : ◌≡◌ {A = ℕ} 0 1 = cc in absurd (omega arith)

pub found_part : (v : List ℕ) (f : Option Part) (x : Lookup) (a b : ℕ) → FoundHere v f x → f ≡ part a b → (w : Value) × (x ≡ present w) × StandsAt v a w
found_part v f x a b nothing e = let z : ◌≡◌ {A = ℕ} 0 1 = cc in absurd (omega arith)
found_part v f x a b (value c d w s) e = (w, refl, rw (same_part _ _ _ _ e).0 at s)

-- ---- bytes one by one

pub without_step : (v : List ℕ) (i end p : ℕ) → i < end → end ≤ length v → without p (cut v i (end - i)) ≡ not (eqb (get_or v i 0) p) && without p (cut v (i + 1) (end - (i + 1)))
unfolding without cut
without_step v i end p h g =
    let e : end - i ≡ suc (end - (i + 1)) = omega arith in
    rw (e, drop_step v i (omega arith)) refl

pub without_none : (v : List ℕ) (i end p : ℕ) → end ≤ i → without p (cut v i (end - i)) ≡ true
unfolding without cut
without_none v i end p h = let e : end - i ≡ 0 = omega arith in rw e refl

-- ---- names one by one

-- no value begins as a list ends
pub not_end : (x : Value) (r : List ℕ) → ends_here (encode x ++ r) ≡ false
not_end (integer minus n) r = unfold encode ends_here in refl
not_end (string b) r =
    unfold BeginsWithDigit encode ends_here in
    let f = decimal_first (length b) in
    let high = f.4 in
    rw append_assoc (rw f.2 (simp (ne_eqb f.0 letter_e (λ q. omega arith))))
not_end (list vs) r = unfold encode ends_here in refl
not_end (dictionary es) r = unfold encode ends_here in refl

-- the items us stand at i
abbrev pub ItemsAt : List ℕ → ℕ → Items → List ℕ → Type 0
ItemsAt v i us rest = drop i v ≡ encode_items us ++ rest

pub item_front : (x : Value) (us : Items) (rest : List ℕ) → encode_items (item x us) ++ rest ≡ encode x ++ (encode_items us ++ rest)
unfolding encode
item_front x us rest = append_assoc (encode x) (encode_items us) rest

-- where an `e` stands, no item does
pub items_ended : (v : List ℕ) (i : ℕ) (us : Items) (rest : List ℕ) → ItemsAt v i us rest → ends_here (drop i v) ≡ true → us ≡ no_items
items_ended v i no_items rest e h = refl
items_ended v i (item x us) rest e h = absurd (not_both h (ap ends_here (e ∙ item_front x us rest) ∙ not_end x (encode_items us ++ rest)))

-- and where none stands, an item does
pub items_some : (v : List ℕ) (i : ℕ) (us : Items) (rest : List ℕ) → ItemsAt v i us rest → ends_here (drop i v) ≡ false
    → (x : Value) × (ws : Items) × (us ≡ item x ws) × (drop i v ≡ encode x ++ (encode_items ws ++ rest))
items_some v i no_items rest e h = absurd (not_both {b = ends_here (drop i v)} (unfold encode ends_here in ap ends_here e) h)
items_some v i (item x us) rest e h = (x, us, refl, e ∙ item_front x us rest)

-- nothing stands past the end
pub items_inside : (v : List ℕ) (i : ℕ) (us : Items) (rest : List ℕ) → ItemsAt v i us rest → length v ≤ i → ⊥
items_inside v i us rest e h = by_items us (sym e ∙ drop_of_length-le v {i = i} h)
  where
    by_items : (us : Items) → encode_items us ++ rest ≡ [] → ⊥
    by_items no_items q = unfold encode in let z : ◌≡◌ {A = ℕ} 1 0 = cc in omega arith
    by_items (item x us) q = let z = ap length (sym (item_front x us rest) ∙ q) in omega (arith, z, length-append (encode x) (encode_items us ++ rest), value_some x)

-- an item that is no string
pub name_none : (v : List ℕ) (i : ℕ) (us : Items) (rest : List ℕ) → ItemsAt v i us rest → ends_here (drop i v) ≡ false → read_string i (drop i v) ≡ None → names_full us ≡ false
unfolding names_full
name_none v i us rest e h r = let m = items_some v i us rest e h in ap names_full m.2 ∙ by_value m.0 (sym r ∙ ap (read_string i) m.3 ∙ string_is m.0 i (encode_items m.1 ++ rest))
  where
    by_value : (x : Value) → None ≡ string_of i x → names_full (item x (items_some v i us rest e h).1) ≡ false
    by_value (string b) q = let z : ◌≡◌ {A = ℕ} 0 1 = cc in absurd (omega arith)
    by_value (integer minus n) q = refl
    by_value (list vs) q = refl
    by_value (dictionary es) q = refl

-- one that is: it is empty, or the names behind it decide
pub name_some : (v : List ℕ) (i a b : ℕ) (us : Items) (rest : List ℕ) → ItemsAt v i us rest → ends_here (drop i v) ≡ false → read_string i (drop i v) ≡ part a b
    → (ws : Items) × ItemsAt v b ws rest × (a ≡ b → names_full us ≡ false) × ((a ≡ b → ⊥) → names_full us ≡ names_full ws)
unfolding names_full
name_some v i a b us rest e h r =
    let m = items_some v i us rest e h in
    by_value m.0 m.1 m.2 m.3 (sym r ∙ ap (read_string i) m.3 ∙ string_is m.0 i (encode_items m.1 ++ rest))
  where
    by_bytes : (c : List ℕ) (ws : Items) → us ≡ item (string c) ws → a ≡ content_start i c → b ≡ i + length (encode_string c)
        → (a ≡ b → names_full us ≡ false) × ((a ≡ b → ⊥) → names_full us ≡ names_full ws)
    by_bytes [] ws eu ea eb = (λ q. ap names_full eu, λ q. absurd (q (let l = length-append (decimal (length {A = ℕ} [])) (colon ∷ []) in omega arith)))
    by_bytes (c ∷ cs) ws eu ea eb = (λ q. absurd (let l = length-append (decimal (length (c ∷ cs))) (colon ∷ (c ∷ cs)) in omega arith), λ q. ap names_full eu)

    by_value : (x : Value) (ws : Items) → us ≡ item x ws → drop i v ≡ encode x ++ (encode_items ws ++ rest) → part a b ≡ string_of i x
        → (ws : Items) × ItemsAt v b ws rest × (a ≡ b → names_full us ≡ false) × ((a ≡ b → ⊥) → names_full us ≡ names_full ws)
    by_value (string c) ws eu d q =
        let ends = same_part _ _ _ _ q in
        let ea = ends.0 in
        let eb = ends.1 in
        let d2 : drop i v ≡ encode_string c ++ (encode_items ws ++ rest) = unfold encode in d in
        let t = by_bytes c ws eu ea eb in
        (ws, rw eb (after_part v i (encode_string c) (encode_items ws ++ rest) d2), t.0, t.1)
    by_value (integer minus n) ws eu d q = let z : ◌≡◌ {A = ℕ} 0 1 = cc in absurd (omega arith)
    by_value (list us) ws eu d q = let z : ◌≡◌ {A = ℕ} 0 1 = cc in absurd (omega arith)
    by_value (dictionary es) ws eu d q = let z : ◌≡◌ {A = ℕ} 0 1 = cc in absurd (omega arith)

-- ---- a path

abbrev pub is_list_value : Value → Bool
is_list_value (list vs) = true
is_list_value (integer minus n) = false
is_list_value (string b) = false
is_list_value (dictionary es) = false

pub list_is : (x : Value) (r : List ℕ) → is_list (encode x ++ r) ≡ is_list_value x
list_is (integer minus n) r = unfold encode is_list in refl
list_is (string b) r =
    unfold BeginsWithDigit encode is_list in
    let f = decimal_first (length b) in
    let high = f.4 in
    rw append_assoc (rw f.2 (simp (ne_eqb f.0 letter_l (λ q. omega arith))))
list_is (list vs) r = unfold encode is_list in refl
list_is (dictionary es) r = unfold encode is_list in refl

-- the items of the list that stands here
list_items : (v : List ℕ) (at : ℕ) (vs : Items) (s : StandsAt v at (list vs)) → ItemsAt v (at + 1) vs s.behind
list_items v at vs s = after_part v at (letter_l ∷ []) (encode_items vs ++ s.behind) (unfold encode in s.bytes)

no_list : (x : Value) → is_list_value x ≡ false → path_full (present x) ≡ false
no_list (list vs) e = let z : ◌≡◌ {A = ℕ} 0 1 = cc in absurd (omega arith)
no_list (integer minus n) e = refl
no_list (string b) e = refl
no_list (dictionary es) e = refl

present_some : (x : Value) → present x ≡ absent → ⊥
present_some x e = let z : ◌≡◌ {A = ℕ} 1 0 = cc in omega arith

pub path_no_list : (v : List ℕ) (at : ℕ) → is_list (drop at v) ≡ false → (x : Value) → StandsAt v at x → PathFoundIs v (present x) malformed
path_no_list v at e x s = (present_some x, no_list x (sym (list_is x s.behind) ∙ ap is_list (sym s.bytes) ∙ e))

pub path_outside : (v : List ℕ) (at : ℕ) → length v ≤ at → (x : Value) → StandsAt v at x → ⊥
path_outside v at h x s =
    let z = ap length (sym (drop_of_length-le v {i = at} h) ∙ s.bytes) in
    omega (arith, z, length-append (encode x) s.behind, value_some x)

pub is_list_lem : (x : Value) → is_list_value x ≡ true → (vs : Items) × (x ≡ list vs)
is_list_lem (list vs) e = (vs, refl)
is_list_lem (integer minus n) e = let z : ◌≡◌ {A = ℕ} 0 1 = cc in absurd (omega arith)
is_list_lem (string b) e = let z : ◌≡◌ {A = ℕ} 0 1 = cc in absurd (omega arith)
is_list_lem (dictionary es) e = let z : ◌≡◌ {A = ℕ} 0 1 = cc in absurd (omega arith)

pub path_list : (v : List ℕ) (at : ℕ) → is_list (drop at v) ≡ true → (x : Value) → StandsAt v at x → (vs : Items) × (x ≡ list vs) × StandsAt v at (list vs)
path_list v at e x s = let l = is_list_lem x (sym (list_is x s.behind) ∙ ap is_list (sym s.bytes) ∙ e) in (l.0, l.1, rw l.1 at s)

full_list : (vs : Items) → (vs ≡ no_items → ⊥) → path_full (present (list vs)) ≡ names_full vs
full_list no_items h = absurd (h refl)
full_list (item x vs) h = refl

pub path_empty : (v : List ℕ) (at : ℕ) → is_list (drop at v) ≡ true → ends_here (drop (at + 1) v) ≡ true → (x : Value) → StandsAt v at x → PathFoundIs v (present x) malformed
path_empty v at e h x s =
    let l = path_list v at e x s in
    let z = items_ended v (at + 1) l.0 l.2.behind (list_items v at l.0 l.2) h in
    (present_some x, ap (λ (w : Value). path_full (present w)) l.1 ∙ ap (λ (us : Items). path_full (present (list us))) z)

some_items : (v : List ℕ) (at : ℕ) (vs : Items) (rest : List ℕ) → ItemsAt v at vs rest → ends_here (drop at v) ≡ false → vs ≡ no_items → ⊥
some_items v at vs rest e h q = let m = items_some v at vs rest e h in let z : ◌≡◌ {A = ℕ} 0 1 = absurd (item_none m.0 m.1 (sym m.2 ∙ q)) in omega arith
  where
    item_none : (x : Value) (ws : Items) → item x ws ≡ no_items → ⊥
    item_none x ws q = let z : ◌≡◌ {A = ℕ} 1 0 = cc in omega arith

pub path_names_lem : (v : List ℕ) (at : ℕ) (t : Bool) → is_list (drop at v) ≡ true → ends_here (drop (at + 1) v) ≡ false
    → ((vs : Items) (rest : List ℕ) → drop (at + 1) v ≡ encode_items vs ++ rest → t ≡ names_full vs)
    → (x : Value) → StandsAt v at x → (t ≡ true → PathFoundIs v (present x) (Ok (Some at))) × (t ≡ false → PathFoundIs v (present x) malformed)
path_names_lem v at t e h n x s =
    let l = path_list v at e x s in
    let here = list_items v at l.0 l.2 in
    let same = n l.0 l.2.behind here in
    let full : path_full (present x) ≡ t = ap (λ (w : Value). path_full (present w)) l.1 ∙ full_list l.0 (some_items v (at + 1) l.0 l.2.behind here h) ∙ sym same in
    (λ q. (l.0, ap present l.1, full ∙ q, l.2), λ q. (present_some x, full ∙ q))

-- ---- an entry

pub natural_is : (x : Lookup) (n : ℕ) → Some n ≡ natural_in x → (is_natural x ≡ true) × (number_of x ≡ n)
natural_is (present (integer false m)) n e = let q : n ≡ m = cc in (refl, sym q)
natural_is (present (integer true m)) n e = let z : ◌≡◌ {A = ℕ} 0 1 = cc in absurd (omega arith)
natural_is absent n e = let z : ◌≡◌ {A = ℕ} 0 1 = cc in absurd (omega arith)
natural_is (present (string b)) n e = let z : ◌≡◌ {A = ℕ} 0 1 = cc in absurd (omega arith)
natural_is (present (list vs)) n e = let z : ◌≡◌ {A = ℕ} 0 1 = cc in absurd (omega arith)
natural_is (present (dictionary es)) n e = let z : ◌≡◌ {A = ℕ} 0 1 = cc in absurd (omega arith)

pub natural_not : (x : Lookup) → None ≡ natural_in x → is_natural x ≡ false
natural_not (present (integer false m)) e = let z : ◌≡◌ {A = ℕ} 0 1 = cc in absurd (omega arith)
natural_not (present (integer true m)) e = refl
natural_not absent e = refl
natural_not (present (string b)) e = refl
natural_not (present (list vs)) e = refl
natural_not (present (dictionary es)) e = refl

-- what an `attr` says, as a test
abbrev attr_says : Bool → Option Attr
attr_says true = (Some Padding)
attr_says false = (Some Plain)

attr_not : (x : Lookup) → None ≡ attr_in x → string_or_none x ≡ false
attr_not absent e = let z : ◌≡◌ {A = ℕ} 0 1 = cc in absurd (omega arith)
attr_not (present (string b)) e = by_test (without letter_p b) e
  where
    by_test : (t : Bool) → None ≡ cond t (Some Plain) (Some Padding) → string_or_none (present (string b)) ≡ false
    by_test true q = let z : ◌≡◌ {A = ℕ} 0 1 = cc in absurd (omega arith)
    by_test false q = let z : ◌≡◌ {A = ℕ} 0 1 = cc in absurd (omega arith)
attr_not (present (integer minus n)) e = refl
attr_not (present (list vs)) e = refl
attr_not (present (dictionary es)) e = refl

attr_is : (x : Lookup) (t : Bool) → attr_says t ≡ attr_in x → (string_or_none x ≡ true) × (is_padding x ≡ t)
unfolding without
attr_is absent true e = let z : ◌≡◌ {A = ℕ} 0 1 = cc in absurd (omega arith)
attr_is absent false e = (refl, refl)
attr_is (present (string b)) t e = (refl, by_test (without letter_p b) t e)
  where
    by_test : (u t : Bool) → attr_says t ≡ cond u (Some Plain) (Some Padding) → not u ≡ t
    by_test true true q = let z : ◌≡◌ {A = ℕ} 0 1 = cc in absurd (omega arith)
    by_test true false q = refl
    by_test false true q = refl
    by_test false false q = let z : ◌≡◌ {A = ℕ} 0 1 = cc in absurd (omega arith)
attr_is (present (integer minus n)) true e = let z : ◌≡◌ {A = ℕ} 0 1 = cc in absurd (omega arith)
attr_is (present (integer minus n)) false e = let z : ◌≡◌ {A = ℕ} 0 1 = cc in absurd (omega arith)
attr_is (present (list vs)) true e = let z : ◌≡◌ {A = ℕ} 0 1 = cc in absurd (omega arith)
attr_is (present (list vs)) false e = let z : ◌≡◌ {A = ℕ} 0 1 = cc in absurd (omega arith)
attr_is (present (dictionary es)) true e = let z : ◌≡◌ {A = ℕ} 0 1 = cc in absurd (omega arith)
attr_is (present (dictionary es)) false e = let z : ◌≡◌ {A = ℕ} 0 1 = cc in absurd (omega arith)

full_names : (ws : Items) → path_full (present (list ws)) ≡ true → names_full ws ≡ true
full_names no_items e = let z : ◌≡◌ {A = ℕ} 0 1 = cc in absurd (omega arith)
full_names (item x ws) e = e

pub is_there_lem : (x : Lookup) → (x ≡ absent → ⊥) → is_there x ≡ true
is_there_lem absent h = absurd (h refl)
is_there_lem (present v) h = refl

-- a value that does not fit is no entry
misfit : (v : List ℕ) (at : ℕ) (x : Value) → entry_fits x ≡ false → TokenIs v at x malformed
misfit v at x e = record { fits = λ q. absurd (not_both q e); amiss = λ q. refl }

pub no_length : (v : List ℕ) (at k : ℕ) → ((es : Entries) → StandsAt v at (dictionary es) → None ≡ natural_in (lookup key_length es)) → EntryReads v at k malformed
unfolding entry_fits
no_length v at k h = record { same_end = tt; entry = λ es s q. misfit v at (dictionary es) (rw (natural_not (lookup key_length es) (h es s)) refl) }

pub bad_attr : (v : List ℕ) (at k n : ℕ) → ((es : Entries) → StandsAt v at (dictionary es) → Some n ≡ natural_in (lookup key_length es))
    → ((es : Entries) → StandsAt v at (dictionary es) → None ≡ attr_in (lookup key_attr es)) → EntryReads v at k malformed
unfolding entry_fits
bad_attr v at k n h g =
    record { same_end = tt; entry = λ es s q. misfit v at (dictionary es) (rw ((natural_is (lookup key_length es) n (h es s)).0, attr_not (lookup key_attr es) (g es s)) refl) }

module _ (v : List ℕ) (at k n : ℕ) (t : Bool) where
  ends_as : (f : Result (Option ℕ) Malformed) → EndsAt k (with_path f t n k)
  ends_as (Err _) = tt
  ends_as (Ok (Some p)) = refl
  ends_as (Ok None) = by_kind t
    where
      by_kind : (u : Bool) → EndsAt k (cond u (entry_read u n 0 k) malformed)
      by_kind true = refl
      by_kind false = tt

  -- an entry whose length and kind are known, by its path
  by_path_lem : (es : Entries) → Some n ≡ natural_in (lookup key_length es) → attr_says t ≡ attr_in (lookup key_attr es) → (f : Result (Option ℕ) Malformed) → PathFoundIs v (lookup key_path es) f
      → k ≡ at + length (encode (dictionary es)) → TokenIs v at (dictionary es) (with_path f t n k)
  unfolding entry_fits
  by_path_lem es h g (Err _) p q =
      let a = attr_is (lookup key_attr es) t g in
      misfit v at (dictionary es) (rw ((natural_is (lookup key_length es) n h).0, a.0, a.1, p.1, is_there_lem (lookup key_path es) p.0) (and-false t))
  by_path_lem es h g (Ok (Some p)) x q =
      let a = attr_is (lookup key_attr es) t g in
      let m = natural_is (lookup key_length es) n h in
      let good : entry_fits (dictionary es) ≡ true = rw (m.0, a.0, a.1, x.2) refl in
      record {
        fits = λ w. (p, rw (a.1, m.1, q) refl, λ z. (x.0, x.3, full_names x.0 (ap path_full (sym x.1) ∙ x.2), sym (ap path_names x.1)));
        amiss = λ w. absurd (not_both good w);
      }
  by_path_lem es h g (Ok None) x q = by_kind t refl g
    where
      m : (is_natural (lookup key_length es) ≡ true) × (number_of (lookup key_length es) ≡ n)
      m = natural_is (lookup key_length es) n h

      by_kind : (u : Bool) → t ≡ u → attr_says u ≡ attr_in (lookup key_attr es) → TokenIs v at (dictionary es) (cond u (entry_read u n 0 k) malformed)
      by_kind true e g2 =
          let a = attr_is (lookup key_attr es) true g2 in
          let good : entry_fits (dictionary es) ≡ true = rw (m.0, a.0, a.1, x) refl in
          record {
            fits = λ w. (0, rw (a.1, m.1, q) refl, λ z. absurd (not_both a.1 z));
            amiss = λ w. absurd (not_both good w);
          }
      by_kind false e g2 = let a = attr_is (lookup key_attr es) false g2 in misfit v at (dictionary es) (rw (m.0, a.0, a.1, x) refl)

  pub entry_reads : (f : Result (Option ℕ) Malformed) (r : Result (Option EntryRead) Malformed) → ((es : Entries) → StandsAt v at (dictionary es) → Some n ≡ natural_in (lookup key_length es))
      → ((es : Entries) → StandsAt v at (dictionary es) → attr_says t ≡ attr_in (lookup key_attr es))
      → ((es : Entries) → StandsAt v at (dictionary es) → PathFoundIs v (lookup key_path es) f)
      → r ≡ with_path f t n k → EntryReads v at k r
  entry_reads f r h g p e = rw e (record { same_end = ends_as f; entry = λ es s q. by_path_lem es (h es s) (g es s) f (p es s) q })

-- ---- what stands at a place of the list

other_kind : (x : Value) (es : Entries) → is_dictionary_value x ≡ true → (fs : Entries) × (x ≡ dictionary fs)
other_kind (dictionary fs) es e = (fs, refl)
other_kind (integer minus n) es e = let z : ◌≡◌ {A = ℕ} 0 1 = cc in absurd (omega arith)
other_kind (string b) es e = let z : ◌≡◌ {A = ℕ} 0 1 = cc in absurd (omega arith)
other_kind (list vs) es e = let z : ◌≡◌ {A = ℕ} 0 1 = cc in absurd (omega arith)

no_dictionary : (x : Value) → is_dictionary_value x ≡ false → entry_fits x ≡ false
unfolding entry_fits
no_dictionary (dictionary fs) e = let z : ◌≡◌ {A = ℕ} 0 1 = cc in absurd (omega arith)
no_dictionary (integer minus n) e = refl
no_dictionary (string b) e = refl
no_dictionary (list vs) e = refl

module _ (v : List ℕ) (at : ℕ) where
  pub reads_ended : ends_here (drop at v) ≡ true → Reads v at ended
  reads_ended h = record { ends = tt; closed = λ q. refl; item = λ x s. absurd (not_both h (ap ends_here s.bytes ∙ not_end x s.behind)) }

  pub reads_other : ends_here (drop at v) ≡ false → is_dictionary (drop at v) ≡ false → Reads v at malformed
  reads_other h e =
      record {
        ends = tt;
        closed = λ q. absurd (not_both q h);
        item = λ x s. misfit v at x (no_dictionary x (sym (dictionary_is x s.behind) ∙ ap is_dictionary (sym s.bytes) ∙ e));
      }

  -- a value is walked over to its end
  walked : (x : Value) → StandsAt v at x → walk_value max_levels at (drop at v) ≡ Ok (at + length (encode x))
  walked x s = ap (walk_value max_levels at) s.bytes ∙ complete x max_levels at s.behind s.valid

  pub reads_broken : ends_here (drop at v) ≡ false → (w : Result ℕ Amiss) → walk_value max_levels at (drop at v) ≡ w → ((k : ℕ) → w ≡ Ok k → ⊥) → Reads v at malformed
  reads_broken h w e n =
      record { ends = tt; closed = λ q. absurd (not_both q h); item = λ x s. absurd (n (at + length (encode x)) (sym e ∙ walked x s)) }

  pub reads_entry : ends_here (drop at v) ≡ false → is_dictionary (drop at v) ≡ true → (k : ℕ) → walk_value max_levels at (drop at v) ≡ Ok k → (at < k) × (k ≤ length v)
      → (r : Result (Option EntryRead) Malformed) → EntryReads v at k r → Reads v at r
  reads_entry h e k w b r i =
      record {
        ends = by_end r i.same_end;
        closed = λ q. absurd (not_both q h);
        item = λ x s.
            let d = other_kind x no_entries (sym (dictionary_is x s.behind) ∙ ap is_dictionary (sym s.bytes) ∙ e) in
            let s2 : StandsAt v at (dictionary d.0) = rw d.1 at s in
            rw d.1 (i.entry d.0 s2 (one_end k (at + length (encode (dictionary d.0))) (sym w ∙ walked (dictionary d.0) s2)));
      }
    where
      one_end : (a b : ℕ) → ◌≡◌ {A = Result ℕ Amiss} (Ok a) (Ok b) → a ≡ b
      one_end a b q = cc

      by_end : (r : Result (Option EntryRead) Malformed) → EndsAt k r → TokenIn at (length v) r
      by_end (Ok None) q = tt
      by_end (Err _) q = tt
      by_end (Ok (Some w)) q = rw q b

-- ---- a path that was found

pub path_bad : (f : Result (Option ℕ) Malformed) (t : Bool) (n k : ℕ) → f ≡ malformed → with_path f t n k ≡ malformed
path_bad f t n k e = rw e refl

pub path_there : (f : Result (Option ℕ) Malformed) (t : Bool) (n k p : ℕ) → f ≡ Ok (Some p) → with_path f t n k ≡ entry_read t n p k
path_there f t n k p e = rw e refl

pub path_left_out : (f : Result (Option ℕ) Malformed) (t : Bool) (n k : ℕ) → f ≡ Ok None → t ≡ true → with_path f t n k ≡ entry_read t n 0 k
path_left_out f t n k e q = rw (e, q) refl

pub path_lacking : (f : Result (Option ℕ) Malformed) (t : Bool) (n k : ℕ) → f ≡ Ok None → t ≡ false → with_path f t n k ≡ malformed
path_lacking f t n k e q = rw (e, q) refl

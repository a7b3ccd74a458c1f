-- What parts are. Where they lie, for callers that hand on `&s[a..e]`; and in strict bytes, that they are the encodings of a
-- dictionary's entries, a list's items, the value of a key, and that each read alone is that value.
-- Assumes nothing.
use Rattle.bencode.specs.declared.walk.Amiss.{Amiss}
use Rattle.bencode.specs.declared.walk.Amiss.TheVariants.{Broken, TooDeep}
use Rattle.bencode.specs.Parts.{keyed}
use Rattle.bencode.specs.Scalar.{whole}
use Rattle.bencode.specs.Scalar.{part}
use Rattle.std.specs.Prelude.{◌≡◌, Bool, true, false, cond, ℕ, zero, suc, ◌+◌, ◌-◌, ◌≤◌, ◌<◌, length, drop, List, [], ◌∷◌, ◌++◌, Option, Some, None, Err, Ok, Result}
use Rattle.std.proofs.Math.Path.{refl}
use Rattle.std.proofs.Common.{sym, ap, ◌∙◌, length-append, take-append-drop, drop-drop, ne_eqb, append_assoc, arith}
use Rattle.std.proofs.Math.Seq.{drop-append_seam, take-append_seam}
use Rattle.limits.specs.Limits.{max_levels}
use Rattle.octets.specs.Octets.{same, cut}
use Rattle.bencode.specs.Grammar.{colon, letter_d, letter_i, Value, integer, string, list, dictionary, Entries, no_entries, entry, decimal, encode_string, encode, encode_entries, KeyBefore, none, after, Valid, EntriesValid}
use Rattle.bencode.specs.Scalar.{read_digits, read_number, read_string, read_integer}
use Rattle.bencode.specs.Walk.{between, walk_value}
use Rattle.bencode.specs.Parts.{is_dictionary, entry_to, entry_with, read_entry, from_entry, find_in, find_key, Lookup, present, lookup, FoundIs}
use Rattle.bencode.specs.EndsLaws.{drop_further, string_ends, value_ends}
use Rattle.bencode.specs.CompleteLaws.{BeginsWithDigit, decimal_first, content_start, string_read, integer_read, past_part, string_some, dictionary_bytes, complete}
use Rattle.bencode.specs.UniqueLaws.{unique}
use Rattle.bencode.specs.DepthLaws.{entries_more_levels}
use Rattle.bencode.specs.declared.scalar.Integer.{Integer}
use Rattle.bencode.specs.declared.part.Part.{Part}
use Rattle.bencode.specs.declared.parts.Entry.{Entry}

-- ---- where they lie

abbrev EntryIn : ℕ → ℕ → Option Entry → Type 0
EntryIn at end None = Unit {0}
EntryIn at end (Some w) = (at < w.start) × (w.start ≤ w.value) × (w.value < w.end) × (w.end ≤ end)

entry_in : (at : ℕ) (s : List ℕ) → EntryIn at (length s) (read_entry at (drop at s))
unfolding read_entry
entry_in at s = by_key (read_string at (drop at s)) refl
  where
    by_key : (w : Option Part) → read_string at (drop at s) ≡ w → EntryIn at (length s) (entry_with at (drop at s) w)
    by_key None q = tt
    by_key (Some w) q =
        let p = string_ends at s w.start w.end q in
        let x = p.0 in
        let y = p.1 in
        let further : drop (w.end - at) (drop at s) ≡ drop w.end s = drop_further s at w.end (omega arith) in
        by_value p (walk_value max_levels w.end (drop (w.end - at) (drop at s))) (ap (walk_value max_levels w.end) (sym further))
      where
        by_value : (at < w.start) × (w.start ≤ w.end) × (w.end ≤ length s) → (v : Result ℕ Amiss) → walk_value max_levels w.end (drop w.end s) ≡ v → EntryIn at (length s) (entry_to w.start w.end v)
        by_value p (Err Broken) f = tt
        by_value p (Err TooDeep) f = tt
        by_value p (Ok k) f = let r = value_ends max_levels w.end s k f in (p.0, p.1, r.0, r.1)

-- an entry lies past the position, key before value, within the bytes
pub entry_ends : (at : ℕ) (s : List ℕ) (a b k : ℕ) → read_entry at (drop at s) ≡ keyed a b k → (at < a) × (a ≤ b) × (b < k) × (k ≤ length s)
entry_ends at s a b k e = rw e at (entry_in at s)

abbrev FoundIn : ℕ → ℕ → Option Part → Type 0
FoundIn at end None = Unit {0}
FoundIn at end (Some w) = (at < w.start) × (w.start < w.end) × (w.end ≤ end)

find_in_lem : (key : List ℕ) (steps at : ℕ) (s : List ℕ) → FoundIn at (length s) (find_in key steps at (drop at s))
unfolding find_in
find_in_lem key zero at s = tt
find_in_lem key (suc f) at s = by_entry (read_entry at (drop at s)) refl (λ i. find_in_lem key f i s)
  where
    further : (a k : ℕ) → a < k → (w : Option Part) → FoundIn k (length s) w → FoundIn a (length s) w
    further a k h None p = tt
    further a k h (Some w) p = let q = p.0 in (omega arith, p.1, p.2)

    by_entry : (w : Option Entry) → read_entry at (drop at s) ≡ w → ((i : ℕ) → FoundIn i (length s) (find_in key f i (drop i s)))
        → FoundIn at (length s) (from_entry w (λ a b k. cond (same key (between at (drop at s) a b)) (part b k) (find_in key f k (drop (k - at) (drop at s)))))
    by_entry None q ih = tt
    by_entry (Some w) q ih = by_same (same key (between at (drop at s) w.start w.value))
      where
        by_same : (t : Bool) → FoundIn at (length s) (cond t (part w.value w.end) (find_in key f w.end (drop (w.end - at) (drop at s))))
        by_same true = let p = entry_ends at s w.start w.value w.end q in let x = p.0 in let y = p.1 in (omega arith, p.2, p.3)
        by_same false =
            let p = entry_ends at s w.start w.value w.end q in
            let x = p.0 in
            let y = p.1 in
            let z = p.2 in
            rw (drop_further s at w.end (omega arith)) (further at w.end (omega arith) (find_in key f w.end (drop w.end s)) (ih w.end))

-- the value of a key lies inside the dictionary, within the bytes
pub find_ends : (key : List ℕ) (at : ℕ) (s : List ℕ) (a b : ℕ) → find_key key at (drop at s) ≡ part a b → (at < a) × (a < b) × (b ≤ length s)
unfolding find_key
find_ends key at s a b e = by_first (is_dictionary (drop at s)) e
  where
    by_first : (t : Bool) → cond t (find_in key (suc (length (drop 1 (drop at s)))) (at + 1) (drop 1 (drop at s))) None ≡ part a b → (at < a) × (a < b) × (b ≤ length s)
    by_first true e =
        let g = find_in_lem key (suc (length (drop 1 (drop at s)))) (at + 1) s in
        let d : drop (at + 1) s ≡ drop 1 (drop at s) = sym (drop-drop 1 at s) in
        let p : FoundIn (at + 1) (length s) (part a b) = rw (d, e) at g in
        let q = p.0 in
        (omega arith, p.1, p.2)
    by_first false e = let z : ◌≡◌ {A = ℕ} 0 1 = cc in absurd (omega arith)

-- ---- a value's part

-- behind the bytes p
pub after_part : (s : List ℕ) (at : ℕ) (p q : List ℕ) → drop at s ≡ p ++ q → drop (at + length p) s ≡ q
after_part s at p q e = sym (drop-drop (length p) at s) ∙ ap (λ (l : List ℕ). drop (length p) l) e ∙ drop-append_seam p q

-- nothing is found in what is no dictionary
pub find_no_dictionary : (key s : List ℕ) (at : ℕ) → is_dictionary (drop at s) ≡ false → find_key key at (drop at s) ≡ None
unfolding find_key
find_no_dictionary key s at e = rw e

-- one string under a key
pub one_string : (a b : List ℕ) → present (string a) ≡ present (string b) → a ≡ b
one_string a b e = cc

-- the bytes p themselves
part_bytes : (s : List ℕ) (at n : ℕ) (p q : List ℕ) → n ≡ length p → drop at s ≡ p ++ q → cut s at n ≡ p
unfolding cut
part_bytes s at n p q l e = rw (l, e) (take-append_seam p q)

-- and of no other
pub one_value : (v w : Value) → encode v ≡ encode w → v ≡ w
one_value v w e = (unique v w [] [] (ap (λ (l : List ℕ). l ++ []) e)).0

-- ---- of which kind it is

-- an integer's value
abbrev pub integer_of : ℕ → Value → Option Integer
integer_of at (integer minus n) = whole minus n (at + length (encode (integer minus n)))
integer_of at (string b) = None
integer_of at (list vs) = None
integer_of at (dictionary es) = None

-- an integer is read as its value, and no other value as an integer
pub integer_is : (v : Value) (l at : ℕ) (r : List ℕ) → Valid v l → read_integer at (encode v ++ r) ≡ integer_of at v
unfolding Valid
integer_is (integer minus n) l at r h = integer_read at minus n r h
integer_is (string b) l at r h =
    unfold BeginsWithDigit encode read_integer in
    let f = decimal_first (length b) in
    let high = f.4 in
    rw append_assoc (rw f.2 (simp (ne_eqb f.0 letter_i (λ q. omega arith))))
integer_is (list vs) l at r h = unfold encode read_integer in refl
integer_is (dictionary es) l at r h = unfold encode read_integer in refl

-- a string's content
abbrev pub string_of : ℕ → Value → Option Part
string_of at (integer minus n) = None
string_of at (string b) = part (content_start at b) (at + length (encode_string b))
string_of at (list vs) = None
string_of at (dictionary es) = None

-- a string is read as its content, and no other value as a string
pub string_is : (v : Value) (at : ℕ) (r : List ℕ) → read_string at (encode v ++ r) ≡ string_of at v
string_is (integer minus n) at r = unfold encode read_number read_digits in refl
string_is (string b) at r = unfold encode in string_read at b r
string_is (list vs) at r = unfold encode read_number read_digits in refl
string_is (dictionary es) at r = unfold encode read_number read_digits in refl

-- the content is the string
pub content_is : (s b r : List ℕ) (at : ℕ) → drop at s ≡ encode_string b ++ r → cut s (content_start at b) (at + length (encode_string b) - content_start at b) ≡ b
content_is s b r at e =
    let la = length-append (decimal (length b)) (colon ∷ b) in
    let lb = length-append (decimal (length b)) (colon ∷ []) in
    let o : at + length (encode_string b) - content_start at b ≡ length b = omega arith in
    let d : drop at s ≡ (decimal (length b) ++ colon ∷ []) ++ (b ++ r) = e ∙ simp append_assoc in
    let a : at + length (decimal (length b) ++ colon ∷ []) ≡ content_start at b = omega arith in
    part_bytes s (content_start at b) _ b r o (rw a at (after_part s at (decimal (length b) ++ colon ∷ []) (b ++ r) d))

-- whether a value is a dictionary
abbrev pub is_dictionary_value : Value → Bool
is_dictionary_value (integer minus n) = false
is_dictionary_value (string b) = false
is_dictionary_value (list vs) = false
is_dictionary_value (dictionary es) = true

-- the first byte says so
pub dictionary_is : (v : Value) (r : List ℕ) → is_dictionary (encode v ++ r) ≡ is_dictionary_value v
dictionary_is (integer minus n) r = unfold encode is_dictionary in refl
dictionary_is (string b) r =
    unfold BeginsWithDigit encode is_dictionary in
    let f = decimal_first (length b) in
    let high = f.4 in
    rw append_assoc (rw f.2 (simp (ne_eqb f.0 letter_d (λ q. omega arith))))
dictionary_is (list vs) r = unfold encode is_dictionary in refl
dictionary_is (dictionary es) r = unfold encode is_dictionary in refl

-- ---- a dictionary's entries, where `at` has come to the entries es

-- where the value of the key k begins, and ends
abbrev pub value_start : ℕ → List ℕ → ℕ
value_start at k = at + length (encode_string k)

entry_read : (at : ℕ) (k r : List ℕ) (v : Value) → Valid v max_levels
    → read_entry at (encode_string k ++ (encode v ++ r)) ≡ keyed (content_start at k) (value_start at k) (value_start at k + length (encode v))
unfolding read_entry
entry_read at k r v h =
    ap (entry_with at (encode_string k ++ (encode v ++ r))) (string_read at k (encode v ++ r))
    ∙ rw (past_part at (encode_string k) (encode v ++ r), complete v max_levels (value_start at k) r h) refl

-- an entry is found: its key, its value's part, and the other entries follow
pub record EntryIs (s : List ℕ) (at : ℕ) (k : List ℕ) (v : Value) (es : Entries) (r : List ℕ) : Type 0 where
  pub read : read_entry at (drop at s) ≡ keyed (content_start at k) (value_start at k) (value_start at k + length (encode v))
  pub key : cut s (content_start at k) (value_start at k - content_start at k) ≡ k
  pub value : cut s (value_start at k) (length (encode v)) ≡ encode v
  pub next : drop (value_start at k + length (encode v)) s ≡ encode_entries es ++ r

-- so it is, wherever an entry stands
pub entry_is : (s : List ℕ) (at : ℕ) (k : List ℕ) (v : Value) (es : Entries) (r : List ℕ) → drop at s ≡ encode_entries (entry k v es) ++ r → Valid v max_levels → EntryIs s at k v es r
unfolding encode
entry_is s at k v es r e h =
    let f : drop at s ≡ encode_string k ++ (encode v ++ (encode_entries es ++ r)) =
    e ∙ append_assoc (encode_string k) (encode v ++ encode_entries es) r ∙ ap (λ (t : List ℕ). encode_string k ++ t) (append_assoc (encode v) (encode_entries es) r) in
    let g : drop (value_start at k) s ≡ encode v ++ (encode_entries es ++ r) = after_part s at (encode_string k) (encode v ++ (encode_entries es ++ r)) f in
    record {
      read = rw f (entry_read at k (encode_entries es ++ r) v h);
      key = content_is s k (encode v ++ (encode_entries es ++ r)) at f;
      value = part_bytes s (value_start at k) (length (encode v)) (encode v) (encode_entries es ++ r) refl g;
      next = after_part s (value_start at k) (encode v) (encode_entries es ++ r) g;
    }

-- there is none at the `e`
pub entry_none : (s : List ℕ) (at : ℕ) (r : List ℕ) → drop at s ≡ encode_entries no_entries ++ r → read_entry at (drop at s) ≡ None
unfolding read_entry encode read_number read_digits
entry_none s at r e = rw e refl

-- a part that is an encoding stands at the front of the bytes from there on
pub part_front : (s : List ℕ) (a b : ℕ) (v : Value) → cut s a (b - a) ≡ encode v → drop a s ≡ encode v ++ drop (b - a) (drop a s)
unfolding cut
part_front s a b v e = sym (take-append-drop (b - a) (drop a s)) ∙ ap (λ (l : List ℕ). l ++ drop (b - a) (drop a s)) e

-- ---- the value of a key

-- the bytes of an entry and those behind it
pub entries_length : (k : List ℕ) (v : Value) (es : Entries) → length (encode_entries (entry k v es)) ≡ length (encode_string k) + length (encode v) + length (encode_entries es)
unfolding encode
entries_length k v es = let la = length-append (encode_string k) (encode v ++ encode_entries es) in let lb = length-append (encode v) (encode_entries es) in omega arith

-- the `e` at least
pub entries_some : (es : Entries) → 0 < length (encode_entries es)
entries_some no_entries = unfold encode in omega arith
entries_some (entry k v es) = omega (arith, entries_length k v es, string_some k)

between_is : (s : List ℕ) (at a b : ℕ) → at ≤ a → between at (drop at s) a b ≡ cut s a (b - a)
unfolding cut
between_is s at a b h = rw (drop_further s at a h) refl

by_key : (s : List ℕ) (b end : ℕ) (v : Value) (t : Bool) (x : Option Part) (y : Lookup) → cut s b (end - b) ≡ encode v → FoundIs s x y → FoundIs s (cond t (part b end) x) (cond t (present v) y)
by_key s b end v true x y p q = p
by_key s b end v false x y p q = q

found_entries : (key s : List ℕ) (es : Entries) (j : KeyBefore) (steps at : ℕ) (r : List ℕ) → drop at s ≡ encode_entries es ++ r → EntriesValid es j max_levels → length (encode_entries es) ≤ steps
    → FoundIs s (find_in key steps at (drop at s)) (lookup key es)
unfolding find_in lookup Valid
found_entries key s es j zero at r e h g = absurd (omega (arith, entries_some es))
found_entries key s no_entries j (suc f) at r e h g = rw (entry_none s at r e) tt
found_entries key s (entry k v es) j (suc f) at r e h g =
    let w = entry_is s at k v es r e h.1 in
    let end = value_start at k + length (encode v) in
    let fewer : length (encode_entries es) ≤ f = omega (arith, entries_length k v es, string_some k) in
    let lc = length-append (decimal (length k)) (colon ∷ k) in
    let is_key : between at (drop at s) (content_start at k) (value_start at k) ≡ k = between_is s at (content_start at k) (value_start at k) (omega arith) ∙ w.key in
    let behind : drop (end - at) (drop at s) ≡ drop end s = drop_further s at end (omega arith) in
    let size : end - value_start at k ≡ length (encode v) = omega arith in
    rw w.read
    (rw (is_key, behind)
    (by_key s (value_start at k) end v (same key k) (find_in key f end (drop end s)) (lookup key es) (rw size w.value) (found_entries key s es (after k) f end r w.next h.2 fewer)))

-- a search finds what the dictionary has for the key, and nothing where it has nothing
pub find_is : (key s : List ℕ) (at : ℕ) (es : Entries) (r : List ℕ) → drop at s ≡ encode (dictionary es) ++ r → Valid (dictionary es) max_levels
    → FoundIs s (find_key key at (drop at s)) (lookup key es)
unfolding find_key Valid
find_is key s at es r e h =
    let front : encode (dictionary es) ++ r ≡ letter_d ∷ (encode_entries es ++ r) = ap (λ (l : List ℕ). l ++ r) (dictionary_bytes es) in
    let first : is_dictionary (drop at s) ≡ true = rw (e, dictionary_is (dictionary es) r) in
    let f : drop (at + 1) s ≡ encode_entries es ++ r = after_part s at (letter_d ∷ []) (encode_entries es ++ r) (e ∙ front) in
    let d : drop 1 (drop at s) ≡ drop (at + 1) s = drop-drop 1 at s in
    let enough : length (encode_entries es) ≤ suc (length (encode_entries es ++ r)) = omega (arith, length-append (encode_entries es) r) in
    let found : FoundIs s (find_in key (suc (length (encode_entries es ++ r))) (at + 1) (drop (at + 1) s)) (lookup key es) =
    found_entries key s es none (suc (length (encode_entries es ++ r))) (at + 1) r f (entries_more_levels es none (max_levels - 1) max_levels (omega arith) h) enough in
    let size : length (drop (at + 1) s) ≡ length (encode_entries es ++ r) = ap length f in
    rw first (rw (d, size) found)

-- and what it has is valid, with a level less
pub lookup_valid : (key : List ℕ) (es : Entries) (j : KeyBefore) (l : ℕ) (v : Value) → EntriesValid es j l → lookup key es ≡ present v → Valid v l
unfolding lookup Valid
lookup_valid key no_entries j l v h e = let z : ◌≡◌ {A = ℕ} 0 1 = cc in absurd (omega arith)
lookup_valid key (entry k w es) j l v h e = by_same (same key k) e (lookup_valid key es (after k) l v h.2)
  where
    by_same : (t : Bool) → cond t (present w) (lookup key es) ≡ present v → (lookup key es ≡ present v → Valid v l) → Valid v l
    by_same true q f = let x : w ≡ v = cc in rw x at h.1
    by_same false q f = f q

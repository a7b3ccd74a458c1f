-- A file that is not empty takes at least 64 bytes of the torrent, 32 of them its root.
-- Assumes nothing.
use Rattle.bencode.specs.Scalar.{part}
use Rattle.std.specs.Prelude.{◌≡◌, refl, Bool, true, false, cond, List, ◌∷◌, ◌++◌, ℕ, zero, suc, ◌+◌, ◌-◌, ◌≤◌, length, drop, eqb, leb, Option, Some, None, unwrap_or, Ok}
use Rattle.filetree.specs.declared.file.File.{File}
use Rattle.filetree.specs.File.{right_file}
use Rattle.std.proofs.Common.{sym, ap, ◌∙◌, arith, length-append, eqb-true, leb-true}
use Rattle.std.proofs.lemmas.Bool.{false≢true}
use Rattle.meaning.specs.Keys.{key_length, key_pieces_root}
use Rattle.octets.specs.Octets.{same}
use Rattle.octets.specs.OctetsLaws.{same_true, same_eq}
use Rattle.limits.specs.Limits.{longest_file, max_levels}
use Rattle.bencode.specs.Grammar.{colon, Value, integer, string, list, dictionary, Entries, no_entries, entry, decimal, decimal_in, encode_string, encode, encode_entries, Valid}
use Rattle.bencode.specs.Scalar.{read_string, read_integer}
use Rattle.bencode.specs.Walk.{walk_value}
use Rattle.bencode.specs.Parts.{is_dictionary, find_key, Lookup, absent, present, lookup, FoundIs}
use Rattle.bencode.specs.EndsLaws.{same_part, string_ends}
use Rattle.bencode.specs.CompleteLaws.{value_some, dictionary_bytes, decimal_some}
use Rattle.bencode.specs.SoundLaws.{sound}
use Rattle.bencode.specs.PartsLaws.{part_front, find_is, string_is, string_of, dictionary_is, is_dictionary_value, entries_length}
use Rattle.bencode.specs.declared.part.Part.{Part}
use Rattle.bencode.specs.declared.scalar.Integer.{Integer}
use Rattle.filetree.specs.File.{length_of, root_of, length_in, root_in, file_length, file_root, empty_file, full_file, with_length, file_at}

-- ---- what a dictionary's entries take

end_length : length (encode_entries no_entries) ≡ 1
unfolding encode
end_length = refl

-- an entry, and the end
one_size : (key : List ℕ) (es : Entries) (v : Value) → lookup key es ≡ present v → length (encode_string key) + length (encode v) + 1 ≤ length (encode_entries es)
unfolding lookup
one_size key no_entries v e = let z : ◌≡◌ {A = ℕ} 0 1 = cc in absurd (omega arith)
one_size key (entry k w es) v e = by_same (same key k) refl e (one_size key es v)
  where
    ends : (xs : Entries) → 1 ≤ length (encode_entries xs)
    ends no_entries = omega (arith, end_length)
    ends (entry x y xs) = omega (arith, entries_length x y xs, ends xs)

    by_same : (t : Bool) → same key k ≡ t → cond t (present w) (lookup key es) ≡ present v
        → (lookup key es ≡ present v → length (encode_string key) + length (encode v) + 1 ≤ length (encode_entries es))
        → length (encode_string key) + length (encode v) + 1 ≤ length (encode_entries (entry k w es))
    by_same true q f ih =
        let x : w ≡ v = cc in
        let a : length (encode w) ≡ length (encode v) = ap (λ (u : Value). length (encode u)) x in
        let b : length (encode_string key) ≡ length (encode_string k) = ap (λ (u : List ℕ). length (encode_string u)) (same_true key k q) in
        omega (arith, entries_length k w es, ends es)
    by_same false q f ih = omega (arith, entries_length k w es, ih f)

-- two entries, and the end
two_size : (key other : List ℕ) → same key other ≡ false → (es : Entries) (v w : Value) → lookup key es ≡ present v → lookup other es ≡ present w
    → length (encode_string key) + length (encode v) + (length (encode_string other) + length (encode w)) + 1 ≤ length (encode_entries es)
unfolding lookup
two_size key other d no_entries v w e f = let z : ◌≡◌ {A = ℕ} 0 1 = cc in absurd (omega arith)
two_size key other d (entry k u es) v w e f = by_same (same key k) (same other k) refl refl e f (two_size key other d es v w)
  where
    Goal : ℕ → Type 0
    Goal n = length (encode_string key) + length (encode v) + (length (encode_string other) + length (encode w)) + 1 ≤ n

    by_same : (t o : Bool) → same key k ≡ t → same other k ≡ o → cond t (present u) (lookup key es) ≡ present v → cond o (present u) (lookup other es) ≡ present w
        → (lookup key es ≡ present v → lookup other es ≡ present w → Goal (length (encode_entries es)))
        → Goal (length (encode_entries (entry k u es)))
    by_same true true q r e f ih = absurd (false≢true (sym d ∙ same_eq key other (same_true key k q ∙ sym (same_true other k r))))
    by_same true false q r e f ih =
        let x : u ≡ v = cc in
        let a : length (encode u) ≡ length (encode v) = ap (λ (z : Value). length (encode z)) x in
        let b : length (encode_string key) ≡ length (encode_string k) = ap (λ (z : List ℕ). length (encode_string z)) (same_true key k q) in
        omega (arith, entries_length k u es, one_size other es w f)
    by_same false true q r e f ih =
        let x : u ≡ w = cc in
        let a : length (encode u) ≡ length (encode w) = ap (λ (z : Value). length (encode z)) x in
        let b : length (encode_string other) ≡ length (encode_string k) = ap (λ (z : List ℕ). length (encode_string z)) (same_true other k r) in
        omega (arith, entries_length k u es, one_size key es v e)
    by_same false false q r e f ih = omega (arith, entries_length k u es, ih e f)

-- ---- what is read of a file that is not empty

-- its two values are found, and the root is a string of 32 bytes
pub record FullFile (s : List ℕ) (at n r : ℕ) : Type 0 where
  pub length_from : ℕ
  pub length_to : ℕ
  pub length_found : find_key key_length at (drop at s) ≡ part length_from length_to
  pub length_is : length_of (read_integer length_from (drop length_from s)) ≡ Some n
  pub root_from : ℕ
  pub root_to : ℕ
  pub root_found : find_key key_pieces_root at (drop at s) ≡ part root_from root_to
  pub root_read : read_string root_from (drop root_from s) ≡ part r (r + 32)

pub full_file_lem : (s : List ℕ) (at n r : ℕ) → file_at s at ≡ right_file n r → (n ≡ 0 → ⊥) → FullFile s at n r
unfolding file_at file_length file_root
full_file_lem s at n r e nz = by_length (find_key key_length at (drop at s)) refl e
  where
    other : {A : Type 0} {m k : ℕ} → None ≡ right_file m k → A
    other q = let z : ◌≡◌ {A = ℕ} 0 1 = cc in absurd (omega arith)

    same : (m k i j : ℕ) → right_file m k ≡ right_file i j → (m ≡ i) × (k ≡ j)
    same m k i j q =
        let the : Option File → File = λ w. unwrap_or w (record { length = m; root = k }) in
        (ap (λ w. (the w).length) q, ap (λ w. (the w).root) q)

    by_string : (a b : ℕ) → length_of (read_integer a (drop a s)) ≡ Some n → find_key key_length at (drop at s) ≡ part a b
        → (c d : ℕ) → find_key key_pieces_root at (drop at s) ≡ part c d → (w : Option Part) → read_string c (drop c s) ≡ w → full_file n (root_of w) ≡ right_file n r → FullFile s at n r
    by_string a b l la c d lc None q f = other f
    by_string a b l la c d lc (Some w) q f = by_size (eqb (w.end - w.start) 32) refl f
      where
        by_size : (t : Bool) → eqb (w.end - w.start) 32 ≡ t → full_file n (cond t (Some w.start) None) ≡ right_file n r → FullFile s at n r
        by_size false g h = other h
        by_size true g h =
            let o : w.end - w.start ≡ 32 = eqb-true (w.end - w.start) 32 g in
            let xr : w.start ≡ r = (same n w.start n r h).1 in
            let p = string_ends c s w.start w.end q in
            let le = p.1 in
            let ye : w.end ≡ r + 32 = omega arith in
            record { length_from = a; length_to = b; length_found = la; length_is = l; root_from = c; root_to = d; root_found = lc; root_read = rw (xr, ye) at q }

    by_root : (a b : ℕ) → length_of (read_integer a (drop a s)) ≡ Some n → find_key key_length at (drop at s) ≡ part a b
        → (w : Option Part) → find_key key_pieces_root at (drop at s) ≡ w → full_file n (root_in s w) ≡ right_file n r → FullFile s at n r
    by_root a b l la None q f = other f
    by_root a b l la (Some w) q f = by_string a b l la w.start w.end q (read_string w.start (drop w.start s)) refl f

    by_zero : (a b m : ℕ) → length_of (read_integer a (drop a s)) ≡ Some m → find_key key_length at (drop at s) ≡ part a b
        → (t : Bool) → eqb m 0 ≡ t → cond t (empty_file (find_key key_pieces_root at (drop at s))) (full_file m (root_in s (find_key key_pieces_root at (drop at s)))) ≡ right_file n r → FullFile s at n r
    by_zero a b m l la true g f = empty (find_key key_pieces_root at (drop at s)) f
      where
        empty : (w : Option Part) → empty_file w ≡ right_file n r → FullFile s at n r
        empty None h = absurd (nz (sym (same 0 0 n r h).0))
        empty (Some w) h = other h
    by_zero a b m l la false g f = full (root_in s (find_key key_pieces_root at (drop at s))) refl f
      where
        full : (w : Option ℕ) → root_in s (find_key key_pieces_root at (drop at s)) ≡ w → full_file m w ≡ right_file n r → FullFile s at n r
        full None p h = other h
        full (Some x) p h =
            let mn : m ≡ n = (same m x n r h).0 in
            by_root a b (l ∙ ap Some mn) la (find_key key_pieces_root at (drop at s)) refl (ap (full_file n) p ∙ ap (λ (z : ℕ). right_file z x) (sym mn) ∙ h)

    by_value : (a b : ℕ) → find_key key_length at (drop at s) ≡ part a b → (w : Option ℕ) → length_of (read_integer a (drop a s)) ≡ w → with_length s at w ≡ right_file n r → FullFile s at n r
    by_value a b la None l f = other f
    by_value a b la (Some m) l f = by_zero a b m l la (eqb m 0) refl f

    by_length : (w : Option Part) → find_key key_length at (drop at s) ≡ w → with_length s at (length_in s w) ≡ right_file n r → FullFile s at n r
    by_length None q f = other f
    by_length (Some w) q f = by_value w.start w.end q (length_of (read_integer w.start (drop w.start s))) refl f

-- a length is from 0 to the longest file's
length_small : (i : Option Integer) (n : ℕ) → length_of i ≡ Some n → n ≤ longest_file
length_small None n e = let z : ◌≡◌ {A = ℕ} 0 1 = cc in absurd (omega arith)
length_small (Some w) n e = by_sign w.minus e
  where
    by_size : (t : Bool) → leb w.size longest_file ≡ t → cond t (Some w.size) None ≡ Some n → n ≤ longest_file
    by_size true q f = let x : w.size ≡ n = cc in let l = leb-true w.size longest_file q in omega arith
    by_size false q f = let z : ◌≡◌ {A = ℕ} 0 1 = cc in absurd (omega arith)

    by_sign : (t : Bool) → cond t None (cond (leb w.size longest_file) (Some w.size) None) ≡ Some n → n ≤ longest_file
    by_sign true f = let z : ◌≡◌ {A = ℕ} 0 1 = cc in absurd (omega arith)
    by_sign false f = by_size (leb w.size longest_file) refl f

pub file_small : (s : List ℕ) (at n r : ℕ) → file_at s at ≡ right_file n r → n ≤ longest_file
file_small s at n r e = by_zero n refl
  where
    by_zero : (m : ℕ) → n ≡ m → n ≤ longest_file
    by_zero zero q = omega (arith, q)
    by_zero (suc m) q = let f = full_file_lem s at n r e (λ z. omega arith) in length_small (read_integer f.length_from (drop f.length_from s)) n f.length_is

-- ---- what it takes

-- the encoding of a string of 32 bytes takes more
root_size : (v : Value) (at r : ℕ) → string_of at v ≡ part r (r + 32) → 34 ≤ length (encode v)
unfolding encode
root_size (integer minus n) at r e = let z : ◌≡◌ {A = ℕ} 0 1 = cc in absurd (omega arith)
root_size (list vs) at r e = let z : ◌≡◌ {A = ℕ} 0 1 = cc in absurd (omega arith)
root_size (dictionary es) at r e = let z : ◌≡◌ {A = ℕ} 0 1 = cc in absurd (omega arith)
root_size (string b) at r e =
    let same = same_part _ _ _ _ e in
    let x = same.0 in
    let y = same.1 in
    omega (arith, decimal_some (length b), length-append (decimal (length b)) (colon ∷ b))

length_key : length (encode_string key_length) ≡ 8
unfolding decimal_in
length_key = refl

root_key : length (encode_string key_pieces_root) ≡ 14
unfolding decimal_in
root_key = refl

other_keys : same key_length key_pieces_root ≡ false
unfolding same
other_keys = refl

no_dictionary : (key : List ℕ) (at : ℕ) (s : List ℕ) → is_dictionary (drop at s) ≡ false → (a b : ℕ) → find_key key at (drop at s) ≡ part a b → ⊥
unfolding find_key
no_dictionary key at s h a b e = let q : None ≡ part a b = rw h at e in let z : ◌≡◌ {A = ℕ} 0 1 = cc in omega arith

-- the dictionary of a file that is not empty takes 59 bytes or more, and the root lies in it
pub full_size : (s : List ℕ) (at k n r : ℕ) → walk_value max_levels at (drop at s) ≡ Ok k → file_at s at ≡ right_file n r → (n ≡ 0 → ⊥) → (at + 59 ≤ k) × (r + 32 ≤ length s)
full_size s at k n r w e nz =
    let f = full_file_lem s at n r e nz in
    let b = sound max_levels at (drop at s) k w in
    (of_value b.it b.rest f b.valid b.bytes b.ends, (string_ends f.root_from s r (r + 32) f.root_read).2)
  where
    not_found : FullFile s at n r → (v : Value) (rest : List ℕ) → is_dictionary_value v ≡ false → drop at s ≡ encode v ++ rest → at + 59 ≤ k
    not_found f v rest q d = absurd (no_dictionary key_length at s (ap is_dictionary d ∙ dictionary_is v rest ∙ q) f.length_from f.length_to f.length_found)

    of_entries : (es : Entries) (rest : List ℕ) → FullFile s at n r → Valid (dictionary es) max_levels → drop at s ≡ encode (dictionary es) ++ rest → 58 ≤ length (encode_entries es)
    of_entries es rest f h d =
        let l : FoundIs s (part f.length_from f.length_to) (lookup key_length es) = rw f.length_found at (find_is key_length s at es rest d h) in
        let q : FoundIs s (part f.root_from f.root_to) (lookup key_pieces_root es) = rw f.root_found at (find_is key_pieces_root s at es rest d h) in
        by_lookups (lookup key_length es) (lookup key_pieces_root es) refl refl l q
      where
        by_lookups : (x y : Lookup) → lookup key_length es ≡ x → lookup key_pieces_root es ≡ y → FoundIs s (part f.length_from f.length_to) x → FoundIs s (part f.root_from f.root_to) y → 58 ≤ length (encode_entries es)
        by_lookups absent y ex ey l q = absurd l
        by_lookups (present v) absent ex ey l q = absurd q
        by_lookups (present v) (present u) ex ey l q =
            let front = part_front s f.root_from f.root_to u q in
            let is_string : string_of f.root_from u ≡ part r (r + 32) = sym (string_is u f.root_from (drop (f.root_to - f.root_from) (drop f.root_from s))) ∙ ap (read_string f.root_from) (sym front) ∙ f.root_read in
            omega (arith, two_size key_length key_pieces_root other_keys es v u ex ey, length_key, root_key, value_some v, root_size u f.root_from r is_string)

    of_value : (v : Value) (rest : List ℕ) → FullFile s at n r → Valid v max_levels → drop at s ≡ encode v ++ rest → k ≡ at + length (encode v) → at + 59 ≤ k
    of_value (integer minus m) rest f h d o = not_found f (integer minus m) rest refl d
    of_value (string b) rest f h d o = not_found f (string b) rest refl d
    of_value (list vs) rest f h d o = not_found f (list vs) rest refl d
    of_value (dictionary es) rest f h d o = omega (arith, o, ap length (dictionary_bytes es), of_entries es rest f h d)

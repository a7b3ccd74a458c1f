-- A file's dictionary by positions is the dictionary of the value: right exactly if the value is, and with its length and root.
-- Assumes nothing.
use Rattle.std.specs.Prelude.{◌≡◌, Bool, true, false, cond, ◌&&◌, List, ◌∷◌, ◌++◌, ℕ, ◌+◌, ◌-◌, length, drop, eqb, leb, Option, Some, None}
use Rattle.std.proofs.Math.Path.{refl}
use Rattle.std.proofs.Common.{sym, ap, ◌∙◌, arith, length-append, eqb-true, ne_eqb}
use Rattle.std.proofs.lemmas.Bool.{eqb-false}
use Rattle.meaning.specs.Keys.{key_length, key_pieces_root}
use Rattle.limits.specs.Limits.{max_levels, longest_file}
use Rattle.octets.specs.Octets.{cut}
use Rattle.bencode.specs.Grammar.{colon, Value, integer, string, list, dictionary, Entries, decimal, encode_string, encode, none, Valid}
use Rattle.bencode.specs.Scalar.{read_string, read_integer}
use Rattle.bencode.specs.Parts.{is_dictionary, find_key, Lookup, absent, present, lookup, FoundIs}
use Rattle.bencode.specs.CompleteLaws.{content_start}
use Rattle.bencode.specs.PartsLaws.{part_front, find_is, integer_is, integer_of, string_is, string_of, content_is, dictionary_is, lookup_valid, find_no_dictionary}
use Rattle.bencode.specs.declared.part.Part.{Part}
use Rattle.filetree.specs.File.{length_of, root_of, length_in, root_in, file_length, file_root, empty_file, full_file, with_length, file_at}
use Rattle.filetree.specs.declared.file.File.{File}
use Rattle.meaning.specs.Torrent.{entries_of, is_natural, number_of, root_right, file_right, root_string}
use Rattle.filetree.specs.Reading.{root_read}

-- an integer found at a position is the integer of the value
pub integer_there : (s : List ℕ) (a b l : ℕ) (v : Value) → cut s a (b - a) ≡ encode v → Valid v l → read_integer a (drop a s) ≡ integer_of a v
integer_there s a b l v e h = ap (read_integer a) (part_front s a b v e) ∙ integer_is v l a (drop (b - a) (drop a s)) h

-- a string found at a position is the string of the value
pub string_there : (s : List ℕ) (a b : ℕ) (v : Value) → cut s a (b - a) ≡ encode v → read_string a (drop a s) ≡ string_of a v
string_there s a b v e = ap (read_string a) (part_front s a b v e) ∙ string_is v a (drop (b - a) (drop a s))

-- what is read of a file is what its value says
abbrev pub FileAgrees : List ℕ → Bool → Entries → Option File → Type 0
FileAgrees s b es None = b ≡ false
FileAgrees s b es (Some w) = (b ≡ true) × (w.length ≡ number_of (lookup key_length es)) × (root_read s w.length w.root ≡ root_string (lookup key_pieces_root es))

-- the length is the value's, if that is in range
abbrev LengthIs : Option ℕ → Lookup → Type 0
LengthIs None x = is_natural x && leb (number_of x) longest_file ≡ false
LengthIs (Some n) x = (is_natural x && leb (number_of x) longest_file ≡ true) × (n ≡ number_of x)

-- an integer is a length if it is from 0 to the longest file's, and no other value is one
length_of_lem : (a : ℕ) (v : Value) → LengthIs (length_of (integer_of a v)) (present v)
length_of_lem a (integer true n) = refl
length_of_lem a (integer false n) = by_range (leb n longest_file) refl
  where
    by_range : (t : Bool) → leb n longest_file ≡ t → LengthIs (cond t (Some n) None) (present (integer false n))
    by_range true e = (e, refl)
    by_range false e = e
length_of_lem a (string b) = refl
length_of_lem a (list vs) = refl
length_of_lem a (dictionary es) = refl

-- the length found is that of the value
length_is : (s : List ℕ) (l : ℕ) (x : Lookup) (w : Option Part) → ((v : Value) → x ≡ present v → Valid v l) → FoundIs s w x → LengthIs (length_in s w) x
length_is s l absent None h f = refl
length_is s l absent (Some w) h f = absurd f
length_is s l (present v) None h f = absurd f
length_is s l (present v) (Some w) h f = rw (integer_there s w.start w.end l v f (h v refl)) (length_of_lem w.start v)

-- the root is the value's, if that is a string of 32 bytes
abbrev RootIs : List ℕ → Option ℕ → Lookup → Type 0
RootIs s None x = root_right false x ≡ false
RootIs s (Some r) x = (root_right false x ≡ true) × (cut s r 32 ≡ root_string x)

-- a string of 32 bytes is a root, and no other value is one
root_of_lem : (s : List ℕ) (a b : ℕ) (v : Value) → cut s a (b - a) ≡ encode v → RootIs s (root_of (string_of a v)) (present v)
root_of_lem s a b (integer minus n) e = refl
root_of_lem s a b (list vs) e = refl
root_of_lem s a b (dictionary es) e = refl
root_of_lem s a b (string x) e = by_size (eqb (a + length (encode_string x) - content_start a x) 32) refl
  where
    size : a + length (encode_string x) - content_start a x ≡ length x
    size = let lc = length-append (decimal (length x)) (colon ∷ x) in omega arith

    front : encode (string x) ≡ encode_string x
    front = unfold encode in refl

    by_size : (t : Bool) → eqb (a + length (encode_string x) - content_start a x) 32 ≡ t → RootIs s (cond t (Some (content_start a x)) None) (present (string x))
    by_size true q =
        let o = eqb-true (a + length (encode_string x) - content_start a x) 32 q in
        let p : drop a s ≡ encode_string x ++ drop (b - a) (drop a s) = part_front s a b (string x) e ∙ ap (λ (l : List ℕ). l ++ drop (b - a) (drop a s)) front in
        (rw size at q, rw o at (content_is s x (drop (b - a) (drop a s)) a p))
    by_size false q = rw size at q

-- the root found is that of the value
root_is : (s : List ℕ) (x : Lookup) (w : Option Part) → FoundIs s w x → RootIs s (root_in s w) x
root_is s absent None f = refl
root_is s absent (Some w) f = absurd f
root_is s (present v) None f = absurd f
root_is s (present v) (Some w) f = rw (string_there s w.start w.end v f) (root_of_lem s w.start w.end v f)

-- the file, from its length and from what is found for the root
abbrev with_parts : List ℕ → Option Part → Option ℕ → Option File
with_parts s w None = None
with_parts s w (Some n) = cond (eqb n 0) (empty_file w) (full_file n (root_in s w))

-- the file is made of these two
with_parts_lem : (s : List ℕ) (at : ℕ) (z : Option ℕ) → with_length s at z ≡ with_parts s (find_key key_pieces_root at (drop at s)) z
unfolding file_root
with_parts_lem s at None = refl
with_parts_lem s at (Some n) = refl

-- both together
both_are : (s : List ℕ) (es : Entries) (z : Option ℕ) (w : Option Part) → LengthIs z (lookup key_length es) → FoundIs s w (lookup key_pieces_root es)
    → FileAgrees s (is_natural (lookup key_length es) && leb (number_of (lookup key_length es)) longest_file && root_right (eqb (number_of (lookup key_length es)) 0) (lookup key_pieces_root es)) es
    (with_parts s w z)
both_are s es None w l f = rw l refl
both_are s es (Some n) w l f = rw (l.0, sym l.1) (by_size (eqb n 0) refl)
  where
    empty : (y : Lookup) (u : Option Part) → lookup key_pieces_root es ≡ y → FoundIs s u y → 0 ≡ number_of (lookup key_length es) → FileAgrees s (true && root_right true y) es (empty_file u)
    empty absent None e g o = (refl, o, rw e refl)
    empty absent (Some w) e g o = absurd g
    empty (present v) None e g o = absurd g
    empty (present v) (Some w) e g o = refl

    full : (n ≡ 0 → ⊥) → (u : Option ℕ) → RootIs s u (lookup key_pieces_root es) → FileAgrees s (true && root_right false (lookup key_pieces_root es)) es (full_file n u)
    full nz None g = g
    full nz (Some r) g = (g.0, l.1, rw (ne_eqb n 0 nz) g.1)

    by_size : (t : Bool) → eqb n 0 ≡ t → FileAgrees s (true && root_right t (lookup key_pieces_root es)) es (cond t (empty_file w) (full_file n (root_in s w)))
    by_size true q = empty (lookup key_pieces_root es) w refl f (sym (eqb-true n 0 q) ∙ l.1)
    by_size false q = full (eqb-false n 0 q) (root_in s w) (root_is s (lookup key_pieces_root es) w f)

-- the file whose dictionary is the value w is right exactly if the value is, and then has the value's length and root
pub file_is : (s : List ℕ) (at : ℕ) (w : Value) (r : List ℕ) → drop at s ≡ encode w ++ r → Valid w max_levels → FileAgrees s (file_right w) (entries_of (present w)) (file_at s at)
unfolding file_at file_length file_root file_right Valid
file_is s at (dictionary es) r e h =
    rw (with_parts_lem s at (length_in s (find_key key_length at (drop at s))))
    (both_are s es (length_in s (find_key key_length at (drop at s))) (find_key key_pieces_root at (drop at s))
    (length_is s (max_levels - 1) (lookup key_length es) (find_key key_length at (drop at s)) (λ v q. lookup_valid key_length es none (max_levels - 1) v h q) (find_is key_length s at es r e h))
    (find_is key_pieces_root s at es r e h))
file_is s at (integer minus n) r e h = rw (find_no_dictionary key_length s at (ap is_dictionary e ∙ dictionary_is (integer minus n) r)) refl
file_is s at (string b) r e h = rw (find_no_dictionary key_length s at (ap is_dictionary e ∙ dictionary_is (string b) r)) refl
file_is s at (list vs) r e h = rw (find_no_dictionary key_length s at (ap is_dictionary e ∙ dictionary_is (list vs) r)) refl

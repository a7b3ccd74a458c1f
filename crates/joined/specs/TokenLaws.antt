-- What stands next in an open directory, by the value of the entry there.
-- Assumes nothing.
use Rattle.filetree.specs.File.{right_file}
use Rattle.std.specs.Prelude.{◌≡◌, false, cond, List, [], ◌∷◌, ◌++◌, ℕ, ◌+◌, length, drop, None}
use Rattle.std.proofs.Math.Path.{refl}
use Rattle.std.proofs.Common.{ap, ◌∙◌, append_assoc, arith, length-append, eq-eqb, ne_eqb}
use Rattle.limits.specs.Limits.{max_levels}
use Rattle.bencode.specs.Grammar.{colon, letter_d, letter_e, Value, dictionary, Entries, no_entries, entry, decimal, encode_string, encode, encode_entries, Valid}
use Rattle.bencode.specs.Scalar.{read_string}
use Rattle.bencode.specs.Walk.{walk_value}
use Rattle.bencode.specs.Parts.{is_dictionary}
use Rattle.bencode.specs.CompleteLaws.{BeginsWithDigit, decimal_first, content_start, string_read, dictionary_bytes, complete}
use Rattle.bencode.specs.PartsLaws.{value_start, dictionary_is, content_is, after_part}
use Rattle.filetree.specs.File.{file_at}
use Rattle.filetree.specs.Token.{ends_here, past_file, file_token, first_key, node_token, token_at, opened_token, closed_token, leaf_token}
use Rattle.meaning.specs.Torrent.{element_right, no_more}

-- a dictionary's entries stand behind its first byte
pub entries_there : (s : List ℕ) (at : ℕ) (es : Entries) (r : List ℕ) → drop at s ≡ encode (dictionary es) ++ r → drop (at + 1) s ≡ encode_entries es ++ r
entries_there s at es r e = after_part s at (letter_d ∷ []) (encode_entries es ++ r) (e ∙ ap (λ (l : List ℕ). l ++ r) (dictionary_bytes es))

-- an entry is its key, its value, and the other entries
pub entry_bytes : (k : List ℕ) (v : Value) (es : Entries) (r : List ℕ) → encode_entries (entry k v es) ++ r ≡ encode_string k ++ (encode v ++ (encode_entries es ++ r))
unfolding encode
entry_bytes k v es r = append_assoc (encode_string k) (encode v ++ encode_entries es) r ∙ ap (λ (t : List ℕ). encode_string k ++ t) (append_assoc (encode v) (encode_entries es) r)

-- no dictionary ends at a string
string_goes_on : (k q : List ℕ) → ends_here (encode_string k ++ q) ≡ false
unfolding ends_here BeginsWithDigit
string_goes_on k q =
    let f = decimal_first (length k) in
    let high = f.4 in
    rw append_assoc (rw f.2 (ne_eqb f.0 letter_e (λ z. omega arith)))

-- it ends where there are no more entries, and only there
pub ends_is : (es : Entries) (r : List ℕ) → ends_here (encode_entries es ++ r) ≡ no_more es
ends_is no_entries r = unfold encode ends_here in refl
ends_is (entry k v es) r = ap ends_here (entry_bytes k v es r) ∙ string_goes_on k (encode v ++ (encode_entries es ++ r))

-- there the directory is closed
pub token_end : (s : List ℕ) (at : ℕ) (r : List ℕ) → drop at s ≡ encode_entries no_entries ++ r → token_at s at ≡ closed_token
unfolding token_at
token_end s at r e = rw (e, ends_is no_entries r) refl

-- a key's value stands right behind its bytes
content_size : (at : ℕ) (k : List ℕ) → value_start at k ≡ content_start at k + length k
content_size at k = let lc = length-append (decimal (length k)) (colon ∷ k) in omega arith

-- at a key the token is by whether the key is a path element
pub key_token : (s : List ℕ) (at : ℕ) (k q : List ℕ) → drop at s ≡ encode_string k ++ q
    → token_at s at ≡ cond (element_right k) (node_token s (content_start at k) (value_start at k)) None
unfolding token_at
key_token s at k q e = rw e (rw (string_goes_on k q, string_read at k q, content_is s k q at e) refl)

module _ (s : List ℕ) (a b : ℕ) (q : List ℕ) where
  -- a node that is no dictionary is wrong
  pub node_other : is_dictionary (drop b s) ≡ false → node_token s a b ≡ None
  unfolding node_token
  node_other e = rw e refl

  -- a node that is a dictionary, by its first key
  node_dictionary : (es : Entries) → drop b s ≡ encode (dictionary es) ++ q
      → node_token s a b ≡ cond (no_more es) None (first_key s a b (read_string (b + 1) (encode_entries es ++ q)))
  unfolding node_token
  node_dictionary es e = rw (entries_there s b es q e) (rw (ap is_dictionary e ∙ dictionary_is (dictionary es) q, ends_is es q) refl)

  -- an empty directory is wrong
  pub node_empty : drop b s ≡ encode (dictionary no_entries) ++ q → node_token s a b ≡ None
  node_empty e = node_dictionary no_entries e

  -- a first key that is not empty opens a directory
  pub node_opened : (c : ℕ) (cs : List ℕ) (w : Value) (es : Entries) → drop b s ≡ encode (dictionary (entry (c ∷ cs) w es)) ++ q → node_token s a b ≡ opened_token a b
  node_opened c cs w es e =
      let k = c ∷ cs in
      let o = content_size (b + 1) k in
      node_dictionary (entry k w es) e
      ∙ rw (entry_bytes k w es q) (rw (string_read (b + 1) k (encode w ++ (encode_entries es ++ q)), ne_eqb (content_start (b + 1) k) (value_start (b + 1) k) (λ z. omega arith)) refl)

  -- an empty one is a file's
  pub node_file : (w : Value) (es : Entries) → drop b s ≡ encode (dictionary (entry [] w es)) ++ q → node_token s a b ≡ file_token s a b (value_start (b + 1) [])
  node_file w es e =
      let o = content_size (b + 1) [] in
      node_dictionary (entry [] w es) e
      ∙ rw (entry_bytes [] w es q) (rw (string_read (b + 1) [] (encode w ++ (encode_entries es ++ q)), eq-eqb (content_start (b + 1) []) (value_start (b + 1) []) (omega arith)) refl)

-- a file that is wrong
pub file_wrong : (s : List ℕ) (a b at : ℕ) → file_at s at ≡ None → file_token s a b at ≡ None
unfolding file_token
file_wrong s a b at e = rw e refl

-- a file that is right, alone in its node or beside other keys
pub file_right_lem : (s : List ℕ) (a b at n r : ℕ) (w : Value) (es : Entries) (q : List ℕ) → file_at s at ≡ right_file n r → drop at s ≡ encode w ++ (encode_entries es ++ q) → Valid w max_levels
    → file_token s a b at ≡ cond (no_more es) (leaf_token a b n r (at + length (encode w) + 1)) None
unfolding file_token past_file
file_right_lem s a b at n r w es q e d h =
    let walked : walk_value max_levels at (drop at s) ≡ _ = ap (walk_value max_levels at) d ∙ complete w max_levels at (encode_entries es ++ q) h in
    let behind : ends_here (drop (at + length (encode w)) s) ≡ no_more es = ap ends_here (after_part s at (encode w) (encode_entries es ++ q) d) ∙ ends_is es q in
    rw e (rw walked (rw behind refl))

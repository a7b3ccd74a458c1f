-- The keys by positions are the keys of the value: the numbers 22 to 24 are those that the value has, and where it has none of them
-- the positions are those of the values.
-- Assumes nothing.
use Rattle.bencode.specs.Scalar.{part}
use Rattle.std.proofs.Math.Path.{◌≡◌, refl}
use Rattle.std.proofs.Common.{sym, ap, ◌∙◌, arith, append-nil, Option, Some, None}
use Rattle.std.specs.Prelude.{Bool, cond, ℕ, suc, ◌-◌, ◌<◌, drop, eqb, List, [], ◌++◌}
use Rattle.std.proofs.Math.Bool.{true, false, and-false}
use Rattle.std.proofs.lemmas.Bool.{false≢true}
use Rattle.meaning.specs.Keys.{key_info, key_file_tree, key_piece_length, key_meta_version, key_piece_layers}
use Rattle.limits.specs.Limits.{max_levels}
use Rattle.octets.specs.Octets.{cut}
use Rattle.numbers.specs.Numbers.{key_missing, other_version, piece_length_out_of_range}
use Rattle.tree.specs.Geometry.{is_piece_length, piece_layer, height, height_from}
use Rattle.bencode.specs.Grammar.{Value, integer, string, list, dictionary, Entries, encode, none, Valid}
use Rattle.bencode.specs.Parts.{is_dictionary, find_key, Lookup, absent, present, lookup, FoundIs}
use Rattle.bencode.specs.DepthLaws.{more_levels}
use Rattle.bencode.specs.PartsLaws.{part_front, find_is, integer_of, dictionary_is, is_dictionary_value, lookup_valid}
use Rattle.bencode.specs.declared.scalar.Integer.{Integer}
use Rattle.metainfo.specs.Metainfo.{Keys, part_of, bytes_in, dictionary_in, integer_in, find_dictionary, find_integer, no_keys, right_keys, with_version, with_piece_length, info_keys, with_layers, with_tree, dictionary_keys, with_info, keys_of}
use Rattle.bencode.specs.declared.part.Part.{Part}
use Rattle.meaning.specs.Torrent.{has_dictionary, has_integer, entries_of, is_number, number_of, info_of, tree_of, has_keys, plen_of, layers_of}
use Rattle.joined.specs.FileLaws.{integer_there}

-- the number of a value as far as its keys go: 22, 23, 24, or none of them
unfoldable pub keys_number : Entries → ℕ
keys_number torrent =
    cond (has_keys torrent)
    (cond (is_number 2 (lookup key_meta_version (info_of torrent)))
    (cond (is_piece_length (plen_of torrent)) 0 piece_length_out_of_range)
    other_version)
    key_missing

-- where the keys are right, their parts are the values
pub record KeysAt (s : List ℕ) (torrent : Entries) (k : Keys) : Type 0 where
  pub info_value : lookup key_info torrent ≡ present (dictionary (info_of torrent))
  pub info_bytes : bytes_in s k.info ≡ encode (dictionary (info_of torrent))
  pub plen_is : k.plen ≡ plen_of torrent
  pub tree_bytes_lem : bytes_in s k.tree ≡ encode (dictionary (tree_of torrent))
  pub tree_valid : Valid (dictionary (tree_of torrent)) (max_levels - 2)
  pub layers_bytes : bytes_in s k.layers ≡ encode (dictionary (layers_of torrent))
  pub layers_valid : Valid (dictionary (layers_of torrent)) (max_levels - 1)

-- ---- a value of its type

-- a dictionary that is found is the one that the key has
abbrev DictionaryIs : List ℕ → Option Part → Lookup → Type 0
DictionaryIs s None x = has_dictionary x ≡ false
DictionaryIs s (Some w) x = (x ≡ present (dictionary (entries_of x))) × (cut s w.start (w.end - w.start) ≡ encode (dictionary (entries_of x)))

-- a dictionary is its entries
is_dictionary_lem : (v : Value) → is_dictionary_value v ≡ true → v ≡ dictionary (entries_of (present v))
is_dictionary_lem (integer minus n) e = absurd (false≢true e)
is_dictionary_lem (string b) e = absurd (false≢true e)
is_dictionary_lem (list vs) e = absurd (false≢true e)
is_dictionary_lem (dictionary es) e = refl

-- another value is no dictionary
no_dictionary : (v : Value) → is_dictionary_value v ≡ false → has_dictionary (present v) ≡ false
no_dictionary (integer minus n) e = refl
no_dictionary (string b) e = refl
no_dictionary (list vs) e = refl
no_dictionary (dictionary es) e = e

-- what is found for a key, if it is a dictionary
dictionary_of : (s : List ℕ) (w : Option Part) (x : Lookup) → FoundIs s w x → DictionaryIs s (dictionary_in s w) x
dictionary_of s None absent f = refl
dictionary_of s None (present v) f = absurd f
dictionary_of s (Some w) absent f = absurd f
dictionary_of s (Some w) (present v) f = by_kind (is_dictionary (drop w.start s)) (ap is_dictionary (part_front s w.start w.end v f) ∙ dictionary_is v (drop (w.end - w.start) (drop w.start s)))
  where
    by_kind : (t : Bool) → t ≡ is_dictionary_value v → DictionaryIs s (cond t (Some w) None) (present v)
    by_kind true e = let d = is_dictionary_lem v (sym e) in (ap present d, f ∙ ap encode d)
    by_kind false e = no_dictionary v (sym e)

-- an integer that is found is the one that the key has
abbrev IntegerIs : Option Integer → Lookup → Type 0
IntegerIs None x = has_integer x ≡ false
IntegerIs (Some w) x = x ≡ present (integer w.minus w.size)

-- an integer is read as its value, and no other value is one
integer_value : (a : ℕ) (v : Value) → IntegerIs (integer_of a v) (present v)
integer_value a (integer minus n) = refl
integer_value a (string b) = refl
integer_value a (list vs) = refl
integer_value a (dictionary es) = refl

-- what is found for a key, if it is an integer
integer_of_lem : (s : List ℕ) (l : ℕ) (w : Option Part) (x : Lookup) → ((v : Value) → x ≡ present v → Valid v l) → FoundIs s w x → IntegerIs (integer_in s w) x
integer_of_lem s l None absent h f = refl
integer_of_lem s l None (present v) h f = absurd f
integer_of_lem s l (Some w) absent h f = absurd f
integer_of_lem s l (Some w) (present v) h f = rw (integer_there s w.start w.end l v f (h v refl)) (integer_value w.start v)

-- ---- a key of a dictionary

module _ (s key : List ℕ) (at : ℕ) (es : Entries) (r : List ℕ) (l : ℕ) (e : drop at s ≡ encode (dictionary es) ++ r) (h : Valid (dictionary es) (suc l)) (fits : l < max_levels) where
  -- a search finds what the key has
  found : FoundIs s (find_key key at (drop at s)) (lookup key es)
  found = find_is key s at es r e (more_levels (dictionary es) (suc l) max_levels (omega arith) h)

  -- and that is valid, with a level less
  has_valid : (v : Value) → lookup key es ≡ present v → Valid v l
  unfolding Valid
  has_valid v q = lookup_valid key es none l v h q

  -- a search for a dictionary finds the one that the key has
  dictionary_found : DictionaryIs s (find_dictionary s at key) (lookup key es)
  dictionary_found = dictionary_of s (find_key key at (drop at s)) (lookup key es) found

  -- a search for an integer finds the one that the key has
  integer_found : IntegerIs (find_integer s at key) (lookup key es)
  integer_found = integer_of_lem s l (find_key key at (drop at s)) (lookup key es) has_valid found

-- zero is no piece length
zero_no_piece : is_piece_length 0 ≡ false
unfolding is_piece_length piece_layer height height_from
zero_no_piece = refl

-- ---- the five keys, one after the other

-- the keys k have the value's number, and point at its values if that is none
abbrev KeysAre : List ℕ → Entries → Keys → Type 0
KeysAre s torrent k = (k.number ≡ keys_number torrent) × (k.number ≡ 0 → KeysAt s torrent k)

module _ (s : List ℕ) (torrent : Entries) (start : s ≡ encode (dictionary torrent)) (valid : Valid (dictionary torrent) max_levels) where
  -- a key that is missing or of another type gives 22
  missing : has_keys torrent ≡ false → KeysAre s torrent (no_keys key_missing)
  unfolding keys_number
  missing q = (rw q refl, λ z. absurd (omega arith))

  -- the torrent is all of the bytes
  whole : drop 0 s ≡ encode (dictionary torrent) ++ []
  whole = start ∙ sym (append-nil (encode (dictionary torrent)))

  -- what is known where all five are found
  record Five (info tree layers : Part) (below : Bool) (plen : ℕ) (minus : Bool) (version : ℕ) : Type 0 where
    pub the_info : DictionaryIs s (part info.start info.end) (lookup key_info torrent)
    pub the_tree : DictionaryIs s (part tree.start tree.end) (lookup key_file_tree (info_of torrent))
    pub the_layers : DictionaryIs s (part layers.start layers.end) (lookup key_piece_layers torrent)
    pub the_plen : lookup key_piece_length (info_of torrent) ≡ present (integer below plen)
    pub the_version : lookup key_meta_version (info_of torrent) ≡ present (integer minus version)

  module _ (info : Part) (i : DictionaryIs s (part info.start info.end) (lookup key_info torrent)) where
    -- what stands behind `info`
    abbrev behind : List ℕ
    behind = drop (info.end - info.start) (drop info.start s)

    -- `info` stands where it was found
    info_there : drop info.start s ≡ encode (dictionary (info_of torrent)) ++ behind
    info_there = part_front s info.start info.end (dictionary (info_of torrent)) i.1

    -- and is valid with a level less
    info_valid : Valid (dictionary (info_of torrent)) (max_levels - 1)
    info_valid = has_valid s key_info 0 torrent [] (max_levels - 1) whole valid (omega arith) (dictionary (info_of torrent)) i.0

  module _ (info tree layers : Part) (below : Bool) (plen : ℕ) (minus : Bool) (version : ℕ) (f : Five info tree layers below plen minus version) where
    -- no key is missing
    all_there : has_keys torrent ≡ true
    unfolding has_keys
    all_there = rw (f.the_plen, f.the_version, f.the_layers.0, f.the_tree.0, f.the_info.0) refl

    -- where all is right
    abbrev here : Keys
    here = record { number = 0; plen = plen; info = info; tree = tree; layers = layers }

    -- the parts are the values
    keys_at : below ≡ false → KeysAt s torrent here
    keys_at q =
        record {
          info_value = f.the_info.0;
          info_bytes = f.the_info.1;
          plen_is = sym (rw (f.the_plen, q) refl);
          tree_bytes_lem = f.the_tree.1;
          tree_valid = has_valid s key_file_tree info.start (info_of torrent) (behind info f.the_info) (max_levels - 2) (info_there info f.the_info) (info_valid info f.the_info) (omega arith)
              (dictionary (tree_of torrent)) f.the_tree.0;
          layers_bytes = f.the_layers.1;
          layers_valid = has_valid s key_piece_layers 0 torrent [] (max_levels - 1) whole valid (omega arith) (dictionary (layers_of torrent)) f.the_layers.0;
        }

    -- the keys k have the number n, and their parts are the values if that is none
    abbrev Numbered : ℕ → Keys → Type 0
    Numbered n k = (k.number ≡ n) × (k.number ≡ 0 → KeysAt s torrent k)

    -- beside a refusal there are none
    refused : (n : ℕ) → (n ≡ 0 → ⊥) → Numbered n (no_keys n)
    refused n h = (refl, λ z. absurd (h z))

    -- by the piece length
    by_piece : (t : Bool) → below ≡ false → Numbered (cond t 0 piece_length_out_of_range) (cond t here (no_keys piece_length_out_of_range))
    by_piece true q = (refl, λ z. keys_at q)
    by_piece false q = refused piece_length_out_of_range (λ z. omega arith)

    -- a negative one is none
    by_below : (c : Bool) → below ≡ c
        → Numbered (cond (is_piece_length (number_of (present (integer c plen)))) 0 piece_length_out_of_range) (cond c (no_keys piece_length_out_of_range) (cond (is_piece_length plen) here (no_keys piece_length_out_of_range)))
    by_below true q = rw zero_no_piece (refused piece_length_out_of_range (λ z. omega arith))
    by_below false q = by_piece (is_piece_length plen) q

    -- by the version
    by_version : (t : Bool)
        → Numbered (cond t (cond (is_piece_length (number_of (present (integer below plen)))) 0 piece_length_out_of_range) other_version)
        (cond t (cond below (no_keys piece_length_out_of_range) (cond (is_piece_length plen) here (no_keys piece_length_out_of_range))) (no_keys other_version))
    by_version true = by_below below refl
    by_version false = refused other_version (λ z. omega arith)

    -- a negative one is not 2
    by_minus : (d : Bool)
        → Numbered (cond (is_number 2 (present (integer d version))) (cond (is_piece_length (number_of (present (integer below plen)))) 0 piece_length_out_of_range) other_version)
        (cond d (no_keys other_version) (cond (eqb version 2) (cond below (no_keys piece_length_out_of_range) (cond (is_piece_length plen) here (no_keys piece_length_out_of_range))) (no_keys other_version)))
    by_minus true = refused other_version (λ z. omega arith)
    by_minus false = by_version (eqb version 2)

    -- the value's number, where all five are found
    number_is : keys_number torrent ≡ cond (is_number 2 (present (integer minus version))) (cond (is_piece_length (number_of (present (integer below plen)))) 0 piece_length_out_of_range) other_version
    unfolding keys_number
    number_is = rw (all_there, f.the_version, f.the_plen) refl

    -- where all five are found it is 23, 24 or none
    values_are : KeysAre s torrent (right_keys here below minus version)
    unfolding right_keys
    values_are = rw number_is (by_minus minus)

  -- ---- step by step

  module _ (info : Part) (i : DictionaryIs s (part info.start info.end) (lookup key_info torrent)) where
    -- a dictionary of `info`
    info_dictionary : (key : List ℕ) → DictionaryIs s (find_dictionary s info.start key) (lookup key (info_of torrent))
    info_dictionary key = dictionary_found s key info.start (info_of torrent) (behind info i) (max_levels - 2) (info_there info i) (info_valid info i) (omega arith)

    -- an integer of `info`
    info_integer : (key : List ℕ) → IntegerIs (find_integer s info.start key) (lookup key (info_of torrent))
    info_integer key = integer_found s key info.start (info_of torrent) (behind info i) (max_levels - 2) (info_there info i) (info_valid info i) (omega arith)

    module _ (tree : Part) (t : DictionaryIs s (part tree.start tree.end) (lookup key_file_tree (info_of torrent))) where
      module _ (layers : Part) (l : DictionaryIs s (part layers.start layers.end) (lookup key_piece_layers torrent)) where
        -- by `meta version`
        version_are : (below : Bool) (plen : ℕ) → lookup key_piece_length (info_of torrent) ≡ present (integer below plen) → (w : Option Integer) → IntegerIs w (lookup key_meta_version (info_of torrent))
            → KeysAre s torrent (with_version info tree layers below plen w)
        version_are below plen p None q = missing lacks
          where
            lacks : has_keys torrent ≡ false
            lacks = unfold has_keys in rw (q, and-false) refl
        version_are below plen p (Some w) q =
            values_are info tree layers below plen w.minus w.size (record { the_info = i; the_tree = t; the_layers = l; the_plen = p; the_version = q })

        -- by `piece length`
        piece_are : (w : Option Integer) → IntegerIs w (lookup key_piece_length (info_of torrent)) → KeysAre s torrent (with_piece_length s info tree layers w)
        piece_are None q = missing lacks
          where
            lacks : has_keys torrent ≡ false
            lacks = unfold has_keys in rw (q, and-false) refl
        piece_are (Some w) q = version_are w.minus w.size q (find_integer s info.start key_meta_version) (info_integer key_meta_version)

      -- by `piece layers`
      layers_are : (w : Option Part) → DictionaryIs s w (lookup key_piece_layers torrent) → KeysAre s torrent (with_layers s info tree w)
      layers_are None q = missing lacks
        where
          lacks : has_keys torrent ≡ false
          lacks = unfold has_keys in rw (q, and-false) refl
      layers_are (Some w) q = unfold info_keys in piece_are (part_of w.start w.end) q (find_integer s info.start key_piece_length) (info_integer key_piece_length)

    -- by `file tree`
    tree_are : (w : Option Part) → DictionaryIs s w (lookup key_file_tree (info_of torrent)) → KeysAre s torrent (with_tree s info w)
    tree_are None q = missing lacks
      where
        lacks : has_keys torrent ≡ false
        lacks = unfold has_keys in rw (q, and-false) refl
    tree_are (Some w) q = layers_are (part_of w.start w.end) q (find_dictionary s 0 key_piece_layers) (dictionary_found s key_piece_layers 0 torrent [] (max_levels - 1) whole valid (omega arith))

  -- by `info`
  info_are : (w : Option Part) → DictionaryIs s w (lookup key_info torrent) → KeysAre s torrent (with_info s w)
  info_are None q = missing lacks
    where
      lacks : has_keys torrent ≡ false
      lacks = unfold has_keys in rw q refl
  info_are (Some w) q = unfold dictionary_keys in tree_are (part_of w.start w.end) q (find_dictionary s w.start key_file_tree) (info_dictionary (part_of w.start w.end) q key_file_tree)

  -- so are the keys of the torrent
  keys_are : KeysAre s torrent (keys_of s)
  unfolding keys_of
  keys_are = info_are (find_dictionary s 0 key_info) (dictionary_found s key_info 0 torrent [] (max_levels - 1) whole valid (omega arith))

  -- ---- what the keys of a torrent say

  -- their number is that of the value: 22, 23, 24, or none of them
  pub keys_number_lem : (keys_of s).number ≡ keys_number torrent
  keys_number_lem = keys_are.0

  -- and if it is none of them the positions are those of the values
  pub keys_point : (keys_of s).number ≡ 0 → KeysAt s torrent (keys_of s)
  keys_point = keys_are.1

  -- none of them exactly if the keys are there and right
  pub none_exactly : ((keys_of s).number ≡ 0 → (has_keys torrent ≡ true) × (is_number 2 (lookup key_meta_version (info_of torrent)) ≡ true) × (is_piece_length (plen_of torrent) ≡ true))
      × (has_keys torrent ≡ true → is_number 2 (lookup key_meta_version (info_of torrent)) ≡ true → is_piece_length (plen_of torrent) ≡ true → (keys_of s).number ≡ 0)
  unfolding keys_number
  none_exactly =
      ((λ e. only (has_keys torrent) (is_number 2 (lookup key_meta_version (info_of torrent))) (is_piece_length (plen_of torrent)) (sym keys_number_lem ∙ e)), (λ e f g. keys_number_lem ∙ rw (e, f, g) refl))
    where
      only : (a b c : Bool) → ◌≡◌ {A = ℕ} (cond a (cond b (cond c 0 piece_length_out_of_range) other_version) key_missing) 0 → (a ≡ true) × (b ≡ true) × (c ≡ true)
      only false b c e = absurd (omega arith)
      only true false c e = absurd (omega arith)
      only true true false e = absurd (omega arith)
      only true true true e = (refl, refl, refl)

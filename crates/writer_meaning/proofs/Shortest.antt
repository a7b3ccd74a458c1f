-- No torrent that is read with the same files, piece length and name is shorter than the one that is written.
-- Assumes nothing.
use Rattle.std.specs.Prelude.{◌≡◌, Bool, true, cond, ◌&&◌, List, [], ◌∷◌, map, ℕ, suc, ◌+◌, ◌-◌, ◌≤◌, ◌<◌, length}
use Rattle.std.proofs.Math.Path.{refl}
use Rattle.std.proofs.Common.{sym, ap, ◌∙◌, inl, inr, eqb-true, arith}
use Rattle.std.proofs.Math.Bool.{false}
use Rattle.std.proofs.lemmas.Bool.{false≢true}
use Rattle.limits.specs.Limits.{max_levels}
use Rattle.octets.specs.Octets.{same}
use Rattle.octets.specs.OctetsLaws.{same_true}
use Rattle.numbers.specs.Numbers.{key_missing, other_version, piece_length_out_of_range, wrong_tree, two_lengths, layers_amiss, layer_differs}
use Rattle.numbers.specs.NumbersLaws.{let_through}
use Rattle.tree.specs.Geometry.{is_piece_length}
use Rattle.bencode.specs.Grammar.{integer, string, list, dictionary, Entries, no_entries, entry, encode, encode_entries, precedes, none, after, Valid, EntriesValid}
use Rattle.bencode.specs.Parts.{Lookup, absent, present, lookup}
use Rattle.bencode.specs.PartsLaws.{lookup_valid}
use Rattle.bencode.specs.CompleteLaws.{dictionary_length}
use Rattle.meaning.specs.Counting.{Member}
use Rattle.meaning.specs.Keys.{key_info, key_file_tree, key_piece_length, key_meta_version, key_piece_layers}
use Rattle.meaning.proofs.ClimbsOut.{dictionary_there}
use Rattle.meaning.specs.Torrent.{has_dictionary, has_integer, has_keys, is_number, info_of, tree_of, plen_of, layers_of, files_of, tree_right, File, lengths_agree, layers_fit, no_others, layers_give_roots, value_number}
use Rattle.meaning.proofs.TestsLaws.{tree_yes, above_zero}
use Rattle.sorting.specs.SortedBy.{sorted_by}
use Rattle.sorting.specs.SortedByLaws.{sorted_member}
use Rattle.writer_meaning.specs.Content.{Item, in_tree_order, properties, grown, tree_of_all, Layer, layer_before, layers_given, layer_put, layers_of_all, torrent_of, key_name, info_written}
use Rattle.writer_meaning.proofs.AnyOrder.{layers_written}
use Rattle.writer_meaning.proofs.ContentLaws.{file_of_item}
use Rattle.writer_meaning.proofs.LayersLaws.{given_of}
use Rattle.writer_meaning.proofs.FilesLaws.{grow_all, DirectoryFacts, tree_facts}
use Rattle.writer_meaning.proofs.ShorterLaws.{entry_length, entries_length, Covers, shorter}
use Rattle.writer_meaning.proofs.ReadBack.{piece_range, strict, longer_there}
use Rattle.writer_meaning.proofs.Good.{Fine}
use Rattle.writer_meaning.proofs.ValidLaws.{tree_levels}

-- ---- what the number 0 of a value says

pub record ValueRight (t : Entries) : Type 0 where
  pub keys : has_keys t ≡ true
  pub version : is_number 2 (lookup key_meta_version (info_of t)) ≡ true
  pub piece : is_piece_length (plen_of t) ≡ true
  pub tree : tree_right (tree_of t) ≡ true
  pub roots : lengths_agree (files_of t) ≡ true
  pub fit : layers_fit (plen_of t) (layers_of t) (files_of t) && no_others (plen_of t) (files_of t) (layers_of t) ≡ true
  pub give : layers_give_roots (plen_of t) (layers_of t) (files_of t) ≡ true

pub value_right : (t : Entries) → value_number t ≡ 0 → ValueRight t
unfolding value_number
value_right t e =
    let a = let_through (has_keys t) _ key_missing (λ z. omega arith) e in
    let b = let_through (is_number 2 (lookup key_meta_version (info_of t))) _ other_version (λ z. omega arith) a.1 in
    let c = let_through (is_piece_length (plen_of t)) _ piece_length_out_of_range (λ z. omega arith) b.1 in
    let d = let_through (tree_right (tree_of t)) _ wrong_tree (λ z. omega arith) c.1 in
    let f = let_through (lengths_agree (files_of t)) _ two_lengths (λ z. omega arith) d.1 in
    let g = let_through (layers_fit (plen_of t) (layers_of t) (files_of t) && no_others (plen_of t) (files_of t) (layers_of t)) _ layers_amiss (λ z. omega arith) f.1 in
    let h = let_through (layers_give_roots (plen_of t) (layers_of t) (files_of t)) _ layer_differs (λ z. omega arith) g.1 in
    record { keys = a.0; version = b.0; piece = c.0; tree = d.0; roots = f.0; fit = g.0; give = h.0 }

-- ---- the values of its keys

number_there : (x : Lookup) (n : ℕ) → is_number n x ≡ true → x ≡ present (integer false n)
number_there (present (integer false m)) n e = ap (λ (z : ℕ). present (integer false z)) (eqb-true m n e)
number_there (present (integer true m)) n e = absurd (false≢true e)
number_there absent n e = absurd (false≢true e)
number_there (present (dictionary es)) n e = absurd (false≢true e)
number_there (present (string b)) n e = absurd (false≢true e)
number_there (present (list vs)) n e = absurd (false≢true e)

pub record KeysThere (t : Entries) : Type 0 where
  pub info_is : lookup key_info t ≡ present (dictionary (info_of t))
  pub tree_is : lookup key_file_tree (info_of t) ≡ present (dictionary (tree_of t))
  pub layers_is : lookup key_piece_layers t ≡ present (dictionary (layers_of t))
  pub plen_is : lookup key_piece_length (info_of t) ≡ present (integer false (plen_of t))
  pub version_is : lookup key_meta_version (info_of t) ≡ present (integer false 2)

pub keys_there : (t : Entries) → ValueRight t → KeysThere t
keys_there t v =
    record {
      info_is = dictionary_there (lookup key_info t) five.0;
      tree_is = dictionary_there (lookup key_file_tree (info_of t)) five.1;
      layers_is = dictionary_there (lookup key_piece_layers t) five.2;
      plen_is = above_zero (lookup key_piece_length (info_of t)) (piece_range (plen_of t) v.piece).0;
      version_is = number_there (lookup key_meta_version (info_of t)) 2 v.version;
    }
  where
    tests : (a b c d e : Bool) → a && b && c && d && e ≡ true → (a ≡ true) × (b ≡ true) × (e ≡ true)
    tests true true true true e q = (refl, refl, q)
    tests false b c d e q = absurd (false≢true q)
    tests true false c d e q = absurd (false≢true q)
    tests true true false d e q = absurd (false≢true q)
    tests true true true false e q = absurd (false≢true q)

    five : (has_dictionary (lookup key_info t) ≡ true) × (has_dictionary (lookup key_file_tree (info_of t)) ≡ true) × (has_dictionary (lookup key_piece_layers t) ≡ true)
    five =
        tests (has_dictionary (lookup key_info t)) (has_dictionary (lookup key_file_tree (info_of t))) (has_integer (lookup key_piece_length (info_of t))) (has_integer (lookup key_meta_version (info_of t))) (has_dictionary (lookup key_piece_layers t))
        (unfold has_keys in v.keys)

-- the levels left for the tree
pub tree_levels_lem : (t : Entries) → KeysThere t → Valid (dictionary t) max_levels → EntriesValid (tree_of t) none tree_levels
unfolding Valid
tree_levels_lem t k h =
    let i : EntriesValid (info_of t) none (max_levels - 2) = lookup_valid key_info t none (max_levels - 1) (dictionary (info_of t)) h k.info_is in
    lookup_valid key_file_tree (info_of t) none (max_levels - 2) (dictionary (tree_of t)) i k.tree_is

pub files_facts : (t : Entries) → ValueRight t → Valid (dictionary t) max_levels → DirectoryFacts none tree_levels (tree_of t) × ((f : File) × (fs : List File) × (files_of t ≡ f ∷ fs))
files_facts t v h = tree_facts (tree_of t) tree_levels (tree_yes (tree_of t) v.tree) (tree_levels_lem t (keys_there t v) h)

-- ---- what is written is within what was read

pub tree_of_files : (xs : List Item) → tree_of_all xs ≡ grow_all (map file_of_item xs) no_entries
unfolding tree_of_all grow_all
tree_of_files [] = refl
tree_of_files (x ∷ xs) = ap (grown x.path (properties x)) (tree_of_files xs)

covers_put : (l : Layer) (es ls : Entries) → lookup l.0 ls ≡ present (string l.1) → Covers es ls → Covers (layer_put l es) ls
unfolding Covers layer_put
covers_put l no_entries ls e c = ((string l.1, e, omega arith), tt)
covers_put l (entry k v es) ls e c = by_key (same l.0 k) refl
  where
    by_key : (t : Bool) → same l.0 k ≡ t → Covers (cond t (entry k (string l.1) es) (entry l.0 (string l.1) (entry k v es))) ls
    by_key true q = ((string l.1, ap (λ (j : List ℕ). lookup j ls) (sym (same_true l.0 k q)) ∙ e, omega arith), c.1)
    by_key false q = ((string l.1, e, omega arith), c)

covers_layers : (ms : List Layer) (ls : Entries) → ((l : Layer) → Member l ms → lookup l.0 ls ≡ present (string l.1)) → Covers (layers_of_all ms) ls
unfolding layers_of_all Member
covers_layers [] ls h = unfold Covers in tt
covers_layers (m ∷ ms) ls h = covers_put m (layers_of_all ms) ls (h m (inl refl)) (covers_layers ms ls (λ l k. h l (inr k)))

module _ (plen : ℕ) (name : List ℕ) (xs : List Item) (g : Fine plen xs) (wide : (x : Item) → Member x xs → length x.root ≡ 32) where
  -- a layer given is that of a file longer than the piece length
  given_longer : (l : Layer) → Member l (layers_given xs) → (x : Item) × Member x xs × (x.root ≡ l.0) × (x.layer ≡ l.1) × (plen < x.size)
  given_longer l m = let w = given_of xs l m in (w.0, w.1, w.2, w.3, longer_there plen name xs g wide w.0 w.1 (λ z. w.4 (sym w.3 ∙ z)))

  covers_written : (ls : Entries) → ((x : Item) → Member x xs → plen < x.size → lookup x.root ls ≡ present (string x.layer)) → Covers (layers_written xs) ls
  covers_written ls h = covers_layers (sorted_by layer_before (layers_given xs)) ls there
    where
      there : (l : Layer) → Member l (sorted_by layer_before (layers_given xs)) → lookup l.0 ls ≡ present (string l.1)
      there l m =
          let j = sorted_member layer_before (layers_given xs) l m in
          let w = given_longer l j in
          ap (λ (k : List ℕ). lookup k ls) (sym w.2) ∙ h w.0 w.1 w.4 ∙ ap (λ (b : List ℕ). present (string b)) w.3

  -- a torrent that is read with the same files, piece length and layers
  pub record SameRead (t : Entries) : Type 0 where
    pub right : ValueRight t
    pub valid : Valid (dictionary t) max_levels
    pub files : files_of t ≡ map file_of_item (in_tree_order xs)
    pub piece_length_lem : plen_of t ≡ plen
    pub layer : (x : Item) → Member x xs → plen < x.size → lookup x.root (layers_of t) ≡ present (string x.layer)

  parts : EntriesValid (torrent_of plen name xs) none (max_levels - 1)
  unfolding Valid
  parts = strict plen name xs g wide

  info_parts : EntriesValid (info_written plen name (tree_of_all (in_tree_order xs))) none (max_levels - 2)
  unfolding torrent_of Valid
  info_parts = (strict plen name xs g wide).1

  layers_parts : EntriesValid (layers_written xs) none (max_levels - 2)
  unfolding torrent_of Valid
  layers_parts = (strict plen name xs g wide).2.1

  tree_shorter : (t : Entries) → SameRead t → length (encode (dictionary (tree_of_all (in_tree_order xs)))) ≤ length (encode (dictionary (tree_of t)))
  tree_shorter t r =
      let s = (files_facts t r.right r.valid).0.shorter_tree in
      let e : grow_all (files_of t) no_entries ≡ tree_of_all (in_tree_order xs) = ap (λ (fs : List File). grow_all fs no_entries) r.files ∙ sym (tree_of_files (in_tree_order xs)) in
      let q : length (encode_entries (tree_of_all (in_tree_order xs))) ≤ length (encode_entries (tree_of t)) = rw e at s in
      let a = dictionary_length (tree_of_all (in_tree_order xs)) in
      let b = dictionary_length (tree_of t) in
      omega arith

  layers_shorter : (t : Entries) → SameRead t → length (encode (dictionary (layers_written xs))) ≤ length (encode (dictionary (layers_of t)))
  layers_shorter t r =
      let s = shorter (layers_written xs) (layers_of t) none (max_levels - 2) layers_parts (covers_written (layers_of t) r.layer) in
      let a = dictionary_length (layers_written xs) in
      let b = dictionary_length (layers_of t) in
      omega arith

  plen_read : (t : Entries) → SameRead t → lookup key_piece_length (info_of t) ≡ present (integer false plen)
  plen_read t r = (keys_there t r.right).plen_is ∙ ap (λ (n : ℕ). present (integer false n)) r.piece_length_lem

  -- with the same name too, it is not shorter
  pub shortest : (t : Entries) → SameRead t → lookup key_name (info_of t) ≡ present (string name)
      → length (encode (dictionary (torrent_of plen name xs))) ≤ length (encode (dictionary t))
  shortest t r name_is = by_length (dictionary_length (torrent_of plen name xs)) (dictionary_length t)
    where
      k : KeysThere t
      k = keys_there t r.right

      info_shorter : length (encode (dictionary (info_written plen name (tree_of_all (in_tree_order xs))))) ≤ length (encode (dictionary (info_of t)))
      info_shorter =
          let c : Covers (info_written plen name (tree_of_all (in_tree_order xs))) (info_of t) = unfold Covers in ((dictionary (tree_of t), k.tree_is, tree_shorter t r), ((integer false 2, k.version_is, omega arith), ((string name, name_is, omega arith), ((integer false plen, plen_read t r, omega arith), tt)))) in
          let s = shorter (info_written plen name (tree_of_all (in_tree_order xs))) (info_of t) none (max_levels - 2) info_parts c in
          let a = dictionary_length (info_written plen name (tree_of_all (in_tree_order xs))) in
          let b = dictionary_length (info_of t) in
          omega arith

      whole : length (encode_entries (torrent_of plen name xs)) ≤ length (encode_entries t)
      whole =
          shorter (torrent_of plen name xs) t none (max_levels - 1) parts
          (unfold torrent_of in unfold Covers in ((dictionary (info_of t), k.info_is, info_shorter), ((dictionary (layers_of t), k.layers_is, layers_shorter t r), tt)))

      by_length : length (encode (dictionary (torrent_of plen name xs))) ≡ suc (length (encode_entries (torrent_of plen name xs))) → length (encode (dictionary t)) ≡ suc (length (encode_entries t))
          → length (encode (dictionary (torrent_of plen name xs))) ≤ length (encode (dictionary t))
      by_length a b = omega (arith, whole)

  -- whatever name it has, or none: it is at most `4:name` and the name longer
  pub nearly_shortest : (t : Entries) → SameRead t → length (encode (dictionary (torrent_of plen name xs))) ≤ length (encode (dictionary t)) + entry_length key_name (string name)
  nearly_shortest t r = whole
    where
      tree : Entries
      tree = tree_of_all (in_tree_order xs)

      behind : Entries
      behind = entry key_piece_length (integer false plen) no_entries

      unnamed : Entries
      unnamed = entry key_file_tree (dictionary tree) (entry key_meta_version (integer false 2) behind)

      layers : Entries
      layers = entry key_piece_layers (dictionary (layers_written xs)) no_entries

      k : KeysThere t
      k = keys_there t r.right

      unnamed_parts : EntriesValid unnamed none (max_levels - 2)
      unnamed_parts = let p = info_parts in unfold EntriesValid in unfold precedes in (refl, first_value p, (refl, unfold Valid in omega arith, (refl, unfold Valid in (piece_range plen g.piece_length_lem).1, tt)))
        where
          first_value : EntriesValid (info_written plen name tree) none (max_levels - 2) → Valid (dictionary tree) (max_levels - 2)
          first_value p = let q : (true ≡ true) × Valid (dictionary tree) (max_levels - 2) × EntriesValid (entry key_meta_version (integer false 2) (entry key_name (string name) behind)) (after key_file_tree) (max_levels - 2) = unfold EntriesValid in p in q.1

      info_shorter : length (encode (dictionary unnamed)) ≤ length (encode (dictionary (info_of t)))
      info_shorter =
          let c : Covers unnamed (info_of t) = unfold Covers in ((dictionary (tree_of t), k.tree_is, tree_shorter t r), ((integer false 2, k.version_is, omega arith), ((integer false plen, plen_read t r, omega arith), tt))) in
          let s = shorter unnamed (info_of t) none (max_levels - 2) unnamed_parts c in
          let a = dictionary_length unnamed in
          let b = dictionary_length (info_of t) in
          omega arith

      without_name : length (encode_entries (entry key_info (dictionary unnamed) layers)) ≤ length (encode_entries t)
      without_name =
          shorter (entry key_info (dictionary unnamed) layers) t none (max_levels - 1)
          (unfold EntriesValid in unfold precedes in (refl, unfold Valid in unnamed_parts, (refl, unfold Valid in layers_parts, tt)))
          (unfold Covers in ((dictionary (info_of t), k.info_is, info_shorter), ((dictionary (layers_of t), k.layers_is, layers_shorter t r), tt)))

      named_is : encode (dictionary (torrent_of plen name xs)) ≡ encode (dictionary (entry key_info (dictionary (info_written plen name tree)) layers))
      named_is = unfold torrent_of in refl

      whole : length (encode (dictionary (torrent_of plen name xs))) ≤ length (encode (dictionary t)) + entry_length key_name (string name)
      whole =
          let n = ap (λ (l : List ℕ). length l) named_is in
          let a = dictionary_length (entry key_info (dictionary (info_written plen name tree)) layers) in
          let b = entries_length key_info (dictionary (info_written plen name tree)) layers in
          let c = entries_length key_info (dictionary unnamed) layers in
          let d = dictionary_length (info_written plen name tree) in
          let e = dictionary_length unnamed in
          let f1 = entries_length key_file_tree (dictionary tree) (entry key_meta_version (integer false 2) (entry key_name (string name) behind)) in
          let f2 = entries_length key_meta_version (integer false 2) (entry key_name (string name) behind) in
          let f3 = entries_length key_name (string name) behind in
          let g1 = entries_length key_file_tree (dictionary tree) (entry key_meta_version (integer false 2) behind) in
          let g2 = entries_length key_meta_version (integer false 2) behind in
          let w = without_name in
          let z = dictionary_length t in
          omega arith

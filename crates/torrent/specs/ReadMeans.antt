-- 01, "The torrent": what is answered of a torrent that gets 0 is what stands in the value that it encodes: the info hash, the piece
-- length, the files in tree order, each with its length, root, path and layer. `Answers` says what is promised.
-- Assumes nothing.
use Rattle.std.specs.Prelude.{◌≡◌, true, ℕ, zero, suc, ◌+◌, ◌-◌, ◌≤◌, ◌<◌, List, [], ◌∷◌, ◌++◌, Option, Some, None}
use Rattle.std.proofs.Math.Path.{refl, sym, ap}
use Rattle.std.proofs.Common.{◌∙◌, arith, eq-eqb, ne_eqb, lt-ltb, le-ltb}
use Rattle.std.proofs.Math.Decide.{dec_lt}
use Rattle.std.proofs.Math.ListN.{length, drop, length-append}
use Rattle.hybrid.specs.HalfLaws.{read_count}
use Rattle.octets.specs.Octets.{cut, zero_hash}
use Rattle.octets.specs.OctetsLaws.{cut_cut, cut_size}
use Rattle.limits.specs.Limits.{max_levels}
use Rattle.numbers.specs.Numbers.{no_such_part}
use Rattle.sha256.specs.Sha256.{sha256}
use Rattle.tree.specs.Geometry.{has_layer}
use Rattle.bencode.specs.Grammar.{colon, string, dictionary, Entries, decimal, encode_string, encode, Valid, none}
use Rattle.bencode.specs.Parts.{find_key, present, lookup, FoundIs}
use Rattle.bencode.specs.CompleteLaws.{content_start}
use Rattle.bencode.specs.DepthLaws.{more_levels}
use Rattle.bencode.specs.PartsLaws.{part_front, content_is, lookup_valid}
use Rattle.bencode.specs.declared.part.Part.{Part}
use Rattle.meaning.specs.Nth.{Nth}
use Rattle.meaning.proofs.NthLaws.{nth_some}
use Rattle.meaning.specs.Keys.{key_info}
use Rattle.meaning.specs.Torrent.{File, info_of, tree_of, files_of, plen_of, layers_of, value_number}
use Rattle.meaning.proofs.AmissLaws.{all_layers}
use Rattle.halves.proofs.HalvesLaws.{zero_below}
use Rattle.metainfo.specs.Metainfo.{Keys, bytes_in, keys_of, metainfo_of}
use Rattle.metainfo.specs.MetainfoLaws.{metainfo_right}
use Rattle.filetree.specs.Tree.{Element, Listed, right, listed, files_in, file_number}
use Rattle.layers.specs.Layers.{string_in, layer_at, root_bytes, layer_string, start_of, size_of}
use Rattle.filetree.specs.Reading.{element, elements, read_file, read_files}
use Rattle.joined.specs.FileLaws.{string_there}
use Rattle.joined.specs.TreeLaws.{Fits, AllFit, tree_fits}
use Rattle.joined.specs.LayersRead.{find_layer}
use Rattle.joined.specs.KeysLaws.{KeysAt, keys_point}
use Rattle.joined.specs.StrictTorrentLaws.{torrent_tree, torrent_files}
use Rattle.torrent.specs.Torrent.{checked_of, read_of, no_file_read, file_answer, file_read, no_part_read, element_in, path_read}
use Rattle.torrent.specs.Answers.{TorrentIs, FileIs, PartIs}
use Rattle.torrent.specs.CheckLaws.{Whole, checked_whole}
use Rattle.torrent.specs.FindLaws.{element_none}
use Rattle.torrent.specs.NumberMeans.{number_is_the_values, read_number_lem}

-- ---- a part of a part

-- n bytes that are there from a on end within the bytes
pub part_within : (t : List ℕ) (a n : ℕ) → length (cut t a n) ≡ n → (n ≡ 0 → ⊥) → a + n ≤ length t
part_within t a n e h = omega (arith, cut_size t a n)

-- n bytes from a on that are there in a part of s stand in s behind the part's start
part_of_part : (s : List ℕ) (from m a n : ℕ) → length (cut (cut s from m) a n) ≡ n → cut s (from + a) n ≡ cut (cut s from m) a n
part_of_part s from m a zero e = unfold cut in refl
part_of_part s from m a (suc n) e = sym (cut_cut s from m a (suc n) (omega (arith, cut_size (cut s from m) a (suc n), cut_size s from m)))

-- ---- the files as they are read

-- file n as it is read is read from the positions of file n
nth_read : (t : List ℕ) (fs : List Listed) (n : ℕ) (v : File) → Nth (read_files t fs) n v → (n < length fs) × (v ≡ read_file t (file_number fs n))
unfolding Nth file_number
nth_read t [] n v e = absurd e
nth_read t (f ∷ fs) zero v e = (omega arith, e)
nth_read t (f ∷ fs) (suc n) v e = let p = nth_read t fs n v e in let h = p.0 in (omega arith, p.1)

-- the elements of its path fit
nth_fits : (t : List ℕ) (fs : List Listed) (n : ℕ) → AllFit t fs → n < length fs → Fits t (file_number fs n).path
unfolding AllFit file_number
nth_fits t [] n a h = absurd (omega arith)
nth_fits t (f ∷ fs) zero a h = a.0
nth_fits t (f ∷ fs) (suc n) a h = nth_fits t fs n a.1 (omega arith)

-- the length of a file as it is read, its root, its path
module _ (t : List ℕ) (f : Listed) (v : File) (e : v ≡ read_file t f) where
  size_read : v.size ≡ f.size
  unfolding read_file
  size_read = ap (λ (z : File). z.size) e

  root_read : v.root ≡ root_bytes t f.size f.root
  unfolding read_file root_bytes
  root_read = ap (λ (z : File). z.root) e

  path_read_lem : v.path ≡ elements t f.path
  unfolding read_file
  path_read_lem = ap (λ (z : File). z.path) e

-- the root of an empty file, and of another
root_empty : (t : List ℕ) (n q : ℕ) → n ≡ 0 → root_bytes t n q ≡ zero_hash
unfolding root_bytes
root_empty t n q e = rw (eq-eqb n 0 e) refl

root_full : (t : List ℕ) (n q : ℕ) → (n ≡ 0 → ⊥) → root_bytes t n q ≡ cut t q 32
unfolding root_bytes
root_full t n q h = rw (ne_eqb n 0 h) refl

-- as many are read as there are
elements_count : (t : List ℕ) (path : List Element) → length (elements t path) ≡ length path
elements_count t [] = refl
elements_count t (e ∷ path) = ap suc (elements_count t path)

-- element k is answered by its positions, from where the part begins
element_at : (t : List ℕ) (base : ℕ) (path : List Element) (k : ℕ) (x : List ℕ) → Nth (elements t path) k x → Fits t path
    → (e : Element) × (element_in base path k ≡ record { number = 0; start = base + e.start; size = e.end - e.start }) × (x ≡ element t e) × (length (element t e) ≡ e.end - e.start)
unfolding Nth element_in Fits
element_at t base [] k x n f = absurd n
element_at t base (e ∷ path) zero x n f = (e, refl, n, f.0)
element_at t base (e ∷ path) (suc k) x n f = element_at t base path k x n f.1

-- ---- layers

-- the content of a string stands where it is read
abbrev ContentIs : List ℕ → ℕ → List ℕ → Option Part → Type 0
ContentIs s base b w = (size_of w ≡ length b) × (cut s (start_of base w) (size_of w) ≡ b)

-- a string that is found in a part of s is read as its content
found_string : (s : List ℕ) (base m : ℕ) (b : List ℕ) (w : Option Part) → FoundIs (cut s base m) w (present (string b)) → ContentIs s base b (string_in (cut s base m) w)
found_string s base m b None e = absurd e
found_string s base m b (Some w) e =
    let l = cut s base m in
    let front : encode (string b) ≡ encode_string b = unfold encode in refl in
    let there : drop w.start l ≡ encode_string b ++ drop (w.end - w.start) (drop w.start l) = part_front l w.start w.end (string b) e ∙ ap (λ (z : List ℕ). z ++ drop (w.end - w.start) (drop w.start l)) front in
    let la = length-append (decimal (length b)) (colon ∷ b) in
    let size : w.start + length (encode_string b) - content_start w.start b ≡ length b = omega arith in
    let content : cut l (content_start w.start b) (w.start + length (encode_string b) - content_start w.start b) ≡ b = content_is l b (drop (w.end - w.start) (drop w.start l)) w.start there in
    let whole : cut s (base + content_start w.start b) (w.start + length (encode_string b) - content_start w.start b) ≡ b =
    part_of_part s base m (content_start w.start b) (w.start + length (encode_string b) - content_start w.start b) (ap length content ∙ sym size) ∙ content in
    rw (string_there l w.start w.end (string b) e) (size, whole)

-- what is found for a root, by another name of the root
found_as : (l root key b : List ℕ) (ls : Entries) → root ≡ key → lookup root ls ≡ present (string b) → FoundIs l (find_key root 0 l) (lookup root ls) → FoundIs l (find_key key 0 l) (present (string b))
found_as l root key b ls e f w = let g : FoundIs l (find_key root 0 l) (present (string b)) = rw f at w in rw e at g

-- for no other file is there one
layer_none : (l : List ℕ) (plen n : ℕ) (root : List ℕ) → n ≤ plen → layer_string l plen n root ≡ None
unfolding layer_string has_layer
layer_none l plen n root h = rw (le-ltb plen n h) refl

layer_some : (l : List ℕ) (plen n : ℕ) (root : List ℕ) → plen < n → layer_string l plen n root ≡ layer_at l root
unfolding layer_string has_layer
layer_some l plen n root h = rw (lt-ltb plen n h) refl

-- ---- a torrent that gets 0

-- a valid torrent's `info` is valid, with a level less
pub info_valid : (es : Entries) → Valid (dictionary es) max_levels → lookup key_info es ≡ present (dictionary (info_of es)) → Valid (dictionary (info_of es)) (max_levels - 1)
unfolding Valid
info_valid es h q = lookup_valid key_info es none (max_levels - 1) (dictionary (info_of es)) h q

module _ (s : List ℕ) (es : Entries) (start : s ≡ encode (dictionary es)) (valid : Valid (dictionary es) max_levels) (taken : (read_of s).number ≡ 0) where
  -- ---- where it stands

  -- the number by positions is that one
  pub number_zero : (checked_of s).keys.number ≡ 0
  number_zero = sym (read_number_lem s) ∙ taken

  so : Whole s (checked_of s)
  so = checked_whole s number_zero

  found_zero : (metainfo_of s).number ≡ 0
  found_zero = ap (λ (z : Keys). z.number) (sym so.keys_are) ∙ number_zero

  -- the keys are those of the torrent's bytes, and their parts are the values
  as_keys : metainfo_of s ≡ keys_of s
  as_keys = (metainfo_right s found_zero).same_keys

  keys_zero : (keys_of s).number ≡ 0
  keys_zero = ap (λ (z : Keys). z.number) (sym as_keys) ∙ found_zero

  pub same_keys : (checked_of s).keys ≡ keys_of s
  same_keys = so.keys_are ∙ as_keys

  pub at_values : KeysAt s es (keys_of s)
  at_values = keys_point s es start valid keys_zero

  -- the value's number by its v2 half is 0
  pub value_zero : value_number es ≡ 0
  value_zero = zero_below es (sym (number_is_the_values s es start valid (metainfo_right s found_zero).small) ∙ number_zero)

  -- the parts that `file tree` and `piece layers` are
  abbrev t : List ℕ
  t = bytes_in s (keys_of s).tree

  abbrev l : List ℕ
  l = bytes_in s (keys_of s).layers

  -- the files by their positions
  abbrev files : List Listed
  files = listed (files_in t)

  pub is_right : right (files_in t) ≡ true
  is_right = ap (λ (z : Keys). right (files_in (bytes_in s z.tree))) (sym same_keys) ∙ so.tree_right_lem

  -- read, they are the files of the value
  pub same_files_lem : read_files t files ≡ files_of es
  same_files_lem = torrent_files s es start valid keys_zero is_right

  -- and as many
  pub all_files : (checked_of s).files ≡ length files
  all_files = so.all_files ∙ ap (λ (z : Keys). length (listed (files_in (bytes_in s z.tree)))) same_keys

  count_files : (checked_of s).files ≡ length (files_of es)
  count_files = all_files ∙ sym (read_count t files) ∙ ap length same_files_lem

  fit_files : AllFit t files
  fit_files = tree_fits t (tree_of es) at_values.tree_bytes_lem at_values.tree_valid (sym (torrent_tree s es start valid keys_zero) ∙ is_right)

  -- ---- the torrent

  -- the torrent is answered with its info hash, its piece length and how many files it has
  pub torrent_is : TorrentIs s es (read_of s)
  torrent_is =
      record {
        number = taken;
        info = at_values.info_value;
        info_stands = ((keys_of s).info.start, (keys_of s).info.end - (keys_of s).info.start, at_values.info_bytes, hash);
        piece_length_lem = plen;
        file_count = count;
      }
    where
      hash : (read_of s).hash ≡ sha256 (bytes_in s (keys_of s).info)
      hash = unfold read_of in rw (number_zero, same_keys) refl

      plen : (read_of s).plen ≡ plen_of es
      plen = unfold read_of in rw (number_zero, same_keys) at_values.plen_is

      count : (read_of s).files ≡ length (files_of es)
      count = unfold read_of in rw number_zero count_files

  -- so the info hash is SHA-256 of the encoding of the value of `info`
  pub info_hash : (read_of s).hash ≡ sha256 (encode (dictionary (info_of es)))
  info_hash = let p = torrent_is.info_stands in p.3 ∙ ap sha256 p.2

  -- ---- file n

  -- file n of the value is read from the positions of file n
  pub file_read_lem : (n : ℕ) (v : File) → Nth (files_of es) n v → (n < (checked_of s).files) × (n < length files) × (v ≡ read_file t (file_number files n))
  file_read_lem n v e =
      let p = nth_read t files n v (rw same_files_lem e) in
      let h = p.0 in
      (omega (arith, all_files), h, p.1)

  -- its answer by positions
  pub file_answer_lem : (n : ℕ) → n < (checked_of s).files → file_read s n ≡ file_answer t l (keys_of s).layers.start (keys_of s).plen (file_number files n)
  unfolding file_read
  file_answer_lem n h = rw (number_zero, lt-ltb n (checked_of s).files h, same_keys) refl

  -- the layer of a file f that is read as v
  layer_is : (f : Listed) (v : File) → v ≡ read_file t f → (n : ℕ) → Nth (files_of es) n v → plen_of es < v.size
      → (b : List ℕ) × (lookup v.root (layers_of es) ≡ present (string b)) × ContentIs s (keys_of s).layers.start b (layer_string l (keys_of s).plen f.size (cut t f.root 32))
  layer_is f v e n at long =
      let size = size_read t f v e in
      let root : v.root ≡ cut t f.root 32 = root_read t f v e ∙ root_full t f.size f.root (λ z. omega arith) in
      let w = (all_layers es value_zero).each_file n v at long in
      let deep : Valid (dictionary (layers_of es)) max_levels = more_levels (dictionary (layers_of es)) (max_levels - 1) max_levels (omega arith) at_values.layers_valid in
      let found = found_as l v.root (cut t f.root 32) w.0 (layers_of es) root w.1.found (find_layer l (layers_of es) at_values.layers_bytes deep v.root) in
      let there : layer_string l (keys_of s).plen f.size (cut t f.root 32) ≡ string_in l (find_key (cut t f.root 32) 0 l) =
      layer_some l (keys_of s).plen f.size (cut t f.root 32) (omega (arith, at_values.plen_is)) ∙ layer_found (cut t f.root 32) in
      (w.0, w.1.found, rw there (found_string s (keys_of s).layers.start ((keys_of s).layers.end - (keys_of s).layers.start) w.0 (find_key (cut t f.root 32) 0 l) found))
    where
      layer_found : (root : List ℕ) → layer_at l root ≡ string_in l (find_key root 0 l)
      layer_found root = unfold layer_at in refl

  -- the answer of a file f that is read as v
  file_answered : (n : ℕ) (v : File) → Nth (files_of es) n v → (f : Listed) → v ≡ read_file t f → FileIs s es v (file_answer t l (keys_of s).layers.start (keys_of s).plen f)
  file_answered n v at f e =
      let size = size_read t f v e in
      record {
        number = refl;
        size = sym size;
        root = sym (root_read t f v e);
        empty = λ z. root_empty t f.size f.root (sym size ∙ z);
        elements = sym (ap length (path_read_lem t f v e) ∙ elements_count t f.path);
        layer = λ h. let w = layer_is f v e n at h in (w.0, w.1, w.2.0, w.2.1);
        no_layer = λ h.
            let w = layer_none l (keys_of s).plen f.size (cut t f.root 32) (omega (arith, at_values.plen_is)) in
            (ap (start_of (keys_of s).layers.start) w, ap size_of w);
      }

  -- file n in tree order is answered with its length, root, path and layer
  pub file_is : (n : ℕ) (v : File) → Nth (files_of es) n v → FileIs s es v (file_read s n)
  file_is n v e =
      let p = file_read_lem n v e in
      rw (file_answer_lem n p.0) (file_answered n v e (file_number files n) p.2)

  -- files of one length and one root have one layer
  same_layer : (f g : Listed) (v w : File) → v ≡ read_file t f → w ≡ read_file t g → v.size ≡ w.size → v.root ≡ w.root
      → layer_string l (keys_of s).plen f.size (cut t f.root 32) ≡ layer_string l (keys_of s).plen g.size (cut t g.root 32)
  same_layer f g v w ev ew size root = by_length (dec_lt (keys_of s).plen f.size)
    where
      same_size : f.size ≡ g.size
      same_size = sym (size_read t f v ev) ∙ size ∙ size_read t g w ew

      plen : ℕ
      plen = (keys_of s).plen

      by_length : Dec (plen < f.size) → layer_string l plen f.size (cut t f.root 32) ≡ layer_string l plen g.size (cut t g.root 32)
      by_length (yes h) =
          let same_root : cut t f.root 32 ≡ cut t g.root 32 =
          sym (root_full t f.size f.root (λ z. omega arith)) ∙ sym (root_read t f v ev) ∙ root ∙ root_read t g w ew ∙ root_full t g.size g.root (λ z. omega (arith, same_size)) in
          layer_some l plen f.size (cut t f.root 32) h ∙ ap (layer_at l) same_root ∙ sym (layer_some l plen g.size (cut t g.root 32) (omega (arith, same_size)))
      by_length (no h) = layer_none l plen f.size (cut t f.root 32) (omega arith) ∙ sym (layer_none l plen g.size (cut t g.root 32) (omega (arith, same_size)))

  -- so both are answered with the same part
  pub same_part : (n m : ℕ) (v w : File) → Nth (files_of es) n v → Nth (files_of es) m w → v.size ≡ w.size → v.root ≡ w.root
      → ((file_read s n).start ≡ (file_read s m).start) × ((file_read s n).size ≡ (file_read s m).size)
  same_part n m v w en em size root =
      let p = file_read_lem n v en in
      let q = file_read_lem m w em in
      let same = same_layer (file_number files n) (file_number files m) v w p.2 q.2 size root in
      rw (file_answer_lem n p.0, file_answer_lem m q.0) (ap (start_of (keys_of s).layers.start) same, ap size_of same)

  -- 29 where there is no file n
  pub no_file : (n : ℕ) → length (files_of es) ≤ n → file_read s n ≡ no_file_read no_such_part
  unfolding file_read
  no_file n h = rw (number_zero, le-ltb n (checked_of s).files (omega (arith, count_files))) refl

  -- and only there
  pub no_file_only : (n : ℕ) → (file_read s n).number ≡ no_such_part → length (files_of es) ≤ n
  no_file_only n e = by_count (dec_lt n (length (files_of es)))
    where
      by_count : Dec (n < length (files_of es)) → length (files_of es) ≤ n
      by_count (yes h) = let v = nth_some (files_of es) n h in absurd (omega (arith, (file_is n v.0 v.1).number))
      by_count (no h) = omega arith

  -- ---- element k of its path

  -- its answer by positions
  pub path_answer : (n k : ℕ) → n < (checked_of s).files → path_read s n k ≡ element_in (keys_of s).tree.start (file_number files n).path k
  unfolding path_read
  path_answer n k h = rw (number_zero, lt-ltb n (checked_of s).files h, same_keys) refl

  -- the answer of element k of a file f that is read as v
  element_answered : (v : File) (k : ℕ) (x : List ℕ) → Nth v.path k x → (f : Listed) → v ≡ read_file t f → Fits t f.path → PartIs s x (element_in (keys_of s).tree.start f.path k)
  element_answered v k x at f e g =
      let base = (keys_of s).tree.start in
      let w = element_at t base f.path k x (rw (path_read_lem t f v e) at at) g in
      let whole = part_of_part s base ((keys_of s).tree.end - base) w.0.start (w.0.end - w.0.start) w.3 in
      rw w.1 (record { number = refl; size = sym (ap length w.2 ∙ w.3); bytes = whole ∙ sym w.2 })

  -- element k of the path of file n is answered by where it stands
  pub element_is : (n : ℕ) (v : File) → Nth (files_of es) n v → (k : ℕ) (x : List ℕ) → Nth v.path k x → PartIs s x (path_read s n k)
  element_is n v e k x at =
      let p = file_read_lem n v e in
      rw (path_answer n k p.0) (element_answered v k x at (file_number files n) p.2 (nth_fits t files n fit_files p.1))

  -- 29 where the path has no element k
  pub no_element : (n : ℕ) (v : File) → Nth (files_of es) n v → (k : ℕ) → length v.path ≤ k → path_read s n k ≡ no_part_read no_such_part
  no_element n v e k h =
      let p = file_read_lem n v e in
      let f = file_number files n in
      let count : length v.path ≡ length f.path = ap length (path_read_lem t f v p.2) ∙ elements_count t f.path in
      path_answer n k p.0 ∙ element_none (keys_of s).tree.start f.path k (omega arith)

  -- and only there, if there is a file n
  pub no_element_only : (n : ℕ) (v : File) → Nth (files_of es) n v → (k : ℕ) → (path_read s n k).number ≡ no_such_part → length v.path ≤ k
  no_element_only n v at k e = by_count (dec_lt k (length v.path))
    where
      by_count : Dec (k < length v.path) → length v.path ≤ k
      by_count (yes h) = let x = nth_some v.path k h in absurd (omega (arith, (element_is n v at k x.0 x.1).number))
      by_count (no h) = omega arith

  -- 29 for every element where there is no file n
  pub no_path : (n k : ℕ) → length (files_of es) ≤ n → path_read s n k ≡ no_part_read no_such_part
  unfolding path_read
  no_path n k h = rw (number_zero, le-ltb n (checked_of s).files (omega (arith, count_files))) refl

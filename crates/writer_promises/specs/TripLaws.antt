-- What was written is read with the list's content; what is read can be written again; nothing shorter is read so.
-- Assumes nothing.
use Rattle.std.specs.Prelude.{◌≡◌, Bool, true, false, cond, ℕ, ◌+◌, ◌≤◌, ◌<◌, length, ltb, List, [], ◌∷◌, map}
use Rattle.std.proofs.Math.Path.{refl, ap₂}
use Rattle.std.proofs.Common.{sym, ap, ◌∙◌, subst, arith, lt-ltb, le-ltb, ltb-true, ltb-false}
use Rattle.std.proofs.Math.Logic.{inl, inr}
use Rattle.limits.specs.Limits.{largest_torrent, max_levels}
use Rattle.tree.specs.Geometry.{has_layer}
use Rattle.bencode.specs.Grammar.{string, dictionary, Entries, decimal_in, encode, Valid}
use Rattle.bencode.specs.Parts.{present, lookup}
use Rattle.meaning.specs.Counting.{Member}
use Rattle.meaning.specs.Torrent.{File, plen_of, layers_of, files_of, layer_bytes}
use Rattle.meaning.proofs.TestsLaws.{layers_yes}
use Rattle.sorting.specs.SortedBy.{Permuted}
use Rattle.sorting.specs.PermutedLaws.{permuted_member}
use Rattle.sorting.specs.SortedByLaws.{sorted_permuted, sorted_member}
use Rattle.writer_meaning.specs.Content.{Item, item_before, in_tree_order, torrent_of, key_name}
use Rattle.writer_meaning.specs.Number.{content_number}
use Rattle.writer_meaning.proofs.ContentLaws.{file_of_item}
use Rattle.writer_meaning.proofs.AnyOrder.{number_any_order, files_any_order}
use Rattle.writer_meaning.proofs.FilesLaws.{member_map}
use Rattle.writer_meaning.proofs.RefusedLaws.{nth_of}
use Rattle.writer_meaning.proofs.Good.{Fine, Good}
use Rattle.writer_meaning.proofs.GoodLaws.{all_passed, good}
use Rattle.writer_meaning.proofs.Shortest.{ValueRight, value_right, SameRead, shortest, nearly_shortest}
use Rattle.writer_meaning.proofs.ShorterLaws.{entry_length}
use Rattle.writer_meaning.specs.Reads.{item_read, content_read}
use Rattle.writer_meaning.proofs.RoundTrip.{fine_read, wide_read, order_read, files_read, number_again, number_unnamed}
use Rattle.writer_lists.specs.Lists.{content_of}
use Rattle.writer.specs.Write.{torrent_bytes, write_number, write_answer}
use Rattle.writer.specs.WrittenReads.{content_wide, content_good, not_large, is_strict, has_plen, has_files, has_layers, has_number}
use Rattle.halves.proofs.HalvesLaws.{pure_stands, zero_below}
use Rattle.torrent.specs.Torrent.{read_of}
use Rattle.torrent.specs.NumberMeans.{number_is_the_values, read_number_lem, read_encodes}
use Rattle.torrent.specs.ReadMeans.{value_zero}
use Rattle.writer_promises.specs.SameNumberLaws.{written_pure}
use Rattle.writer_promises.specs.Published.{Gives, Named, InForm, written_bytes}
use Rattle.writer_promises.specs.GivenLaws.{value_given, given_is}
use Rattle.writer_promises.specs.FormLaws.{in_form}
use Rattle.writer_promises.specs.ListedLaws.{Listable}
use Rattle.writer_promises.specs.AnswerLaws.{answer_number, written_is, number_done}

-- ---- read back

module _ (list text : List ℕ) (plen : ℕ) (name out : List ℕ) (e : write_number list text plen name (length out) ≡ 0) where
  abbrev t : Entries
  t = torrent_of plen name (content_of list text)

  there : (x : Item) → Member x (in_tree_order (content_of list text)) → Member x (content_of list text)
  there = sorted_member item_before (content_of list text)

  -- a file of the list is read as it is
  item_again : (x : Item) → Member x (content_of list text) → item_read t (file_of_item x) ≡ x
  item_again x m = ap (λ (l : List ℕ). record { path = x.path; size = x.size; root = x.root; layer = l }) (by_length (ltb plen x.size) refl)
    where
      long : plen < x.size → cond (has_layer x.size plen) (layer_bytes (lookup x.root (layers_of t))) [] ≡ x.layer
      long h = unfold has_layer in rw (lt-ltb plen x.size h, has_layers list text plen name out e x m h) refl

      short : x.size ≤ plen → cond (has_layer x.size plen) (layer_bytes (lookup x.root (layers_of t))) [] ≡ x.layer
      short h = unfold has_layer in rw (le-ltb plen x.size h) (sym ((content_good list text plen name out e).fine.no_layer x m h))

      by_length : (b : Bool) → ltb plen x.size ≡ b → cond (has_layer x.size (plen_of t)) (layer_bytes (lookup x.root (layers_of t))) [] ≡ x.layer
      by_length true q = rw (has_plen list text plen name out e) (long (ltb-true plen x.size q))
      by_length false q = rw (has_plen list text plen name out e) (short (ltb-false plen x.size q))

  content_again : content_read t ≡ in_tree_order (content_of list text)
  unfolding content_read
  content_again = rw (has_files list text plen name out e) (again (in_tree_order (content_of list text)) there)
    where
      again : (xs : List Item) → ((x : Item) → Member x xs → Member x (content_of list text)) → map (item_read t) (map file_of_item xs) ≡ xs
      again [] h = refl
      again (x ∷ xs) h = ap₂ (λ (y : Item) (ys : List Item). y ∷ ys) (item_again x (h x (first x xs))) (again xs (λ y m. h y (next y x xs m)))
        where
          first : (y : Item) (ys : List Item) → Member y (y ∷ ys)
          first y ys = unfold Member in inl refl

          next : (y z : Item) (ys : List Item) → Member y ys → Member y (z ∷ ys)
          next y z ys m = unfold Member in inr m

  torrent_read : (read_of (torrent_bytes list text plen name)).number ≡ 0
  torrent_read =
      read_number_lem (torrent_bytes list text plen name)
      ∙ number_is_the_values (torrent_bytes list text plen name) t refl (is_strict list text plen name out e) (not_large list text plen name out e)
      ∙ pure_stands t (written_pure plen name (content_of list text))
      ∙ has_number list text plen name out e

  pub torrent_given : Gives (torrent_bytes list text plen name) plen (in_tree_order (content_of list text))
  torrent_given =
      subst (λ (p : ℕ). Gives (torrent_bytes list text plen name) p (in_tree_order (content_of list text))) (has_plen list text plen name out e)
      (subst (λ (xs : List Item). Gives (torrent_bytes list text plen name) (plen_of t) xs) content_again
      (value_given (torrent_bytes list text plen name) t refl (is_strict list text plen name out e) torrent_read))

pub written_given : (list text : List ℕ) (plen : ℕ) (name out : List ℕ) → (write_answer list text plen name out).number ≡ 0
    → Gives (written_bytes list text plen name out) plen (in_tree_order (content_of list text))
written_given list text plen name out e =
    rw (written_is list text plen name out e) (torrent_given list text plen name out (sym (answer_number list text plen name out) ∙ e))

-- ---- a value that is read with a content

-- a file that is longer than the piece length has its layer
layer_found : (t : Entries) → ValueRight t → (x : Item) → Member x (content_read t) → plen_of t < x.size → lookup x.root (layers_of t) ≡ present (string x.layer)
unfolding content_read
layer_found t v x m l =
    let w = member_map (item_read t) (files_of t) x m in
    subst (λ (y : Item). plen_of t < y.size → lookup y.root (layers_of t) ≡ present (string y.layer)) (sym w.2) (of_file w.0 w.1) l
  where
    of_file : (f : File) → Member f (files_of t) → plen_of t < f.size → lookup f.root (layers_of t) ≡ present (string (item_read t f).layer)
    of_file f k h =
        let n = nth_of (files_of t) f k in
        let y = (layers_yes (plen_of t) (layers_of t) (files_of t) v.fit).each_file n.0 f n.1 h in
        y.1.found ∙ ap (λ (b : List ℕ). present (string b)) (sym (has f y.0 h y.1.found))
      where
        has : (g : File) (b : List ℕ) → plen_of t < g.size → lookup g.root (layers_of t) ≡ present (string b) → (item_read t g).layer ≡ b
        has g b p q = unfold has_layer in rw (lt-ltb (plen_of t) g.size p, q) refl

module _ (s : List ℕ) (plen : ℕ) (name : List ℕ) (xs : List Item) (g : Fine plen xs) (wide : (x : Item) → Member x xs → length x.root ≡ 32) (r : Gives s plen (in_tree_order xs)) where
  same_read : (t : Entries) → s ≡ encode (dictionary t) → Valid (dictionary t) max_levels → SameRead plen name xs g wide t
  same_read t start valid =
      record {
        right = v;
        valid = valid;
        files = sym (files_read t v valid) ∙ ap (map file_of_item) (sym w.1);
        piece_length_lem = sym w.0;
        layer = λ x m l. layer_found t v x (rw w.1 at (there x m)) (rw w.0 at l);
      }
    where
      v : ValueRight t
      v = value_right t (value_zero s t start valid r.number)

      w : (plen ≡ plen_of t) × (in_tree_order xs ≡ content_read t)
      w = given_is s t start valid r.number plen (in_tree_order xs) r

      there : (x : Item) → Member x xs → Member x (in_tree_order xs)
      there x m = permuted_member xs (in_tree_order xs) x (sorted_permuted item_before xs) m

  -- with this name, it is not shorter than what is written
  pub not_shorter : Named s name → length (encode (dictionary (torrent_of plen name xs))) ≤ length s
  not_shorter n =
      let h = shortest plen name xs g wide n.0 (same_read n.0 n.2 n.1) n.3 in
      rw n.2 h

  -- with any, by no more than the name
  pub hardly_shorter : length (encode (dictionary (torrent_of plen name xs))) ≤ length s + entry_length key_name (string name)
  hardly_shorter =
      let n = (read_encodes s r.number).1 in
      let h = nearly_shortest plen name xs g wide n.0 (same_read n.0 n.2 n.1) in
      rw n.2 h

pub written_shortest : (list text : List ℕ) (plen : ℕ) (name out s : List ℕ) → (write_answer list text plen name out).number ≡ 0 → Gives s plen (in_tree_order (content_of list text)) → Named s name
    → length (written_bytes list text plen name out) ≤ length s
written_shortest list text plen name out s e r n =
    rw (written_is list text plen name out e)
    (not_shorter s plen name (content_of list text) (content_good list text plen name out (sym (answer_number list text plen name out) ∙ e)).fine (content_wide list text) r n)

-- ---- round trip

-- a content that is given can be written with the name
pub named_number : (s : List ℕ) (plen : ℕ) (name : List ℕ) (xs : List Item) → Gives s plen xs → Named s name → content_number plen name xs ≡ 0
named_number s plen name xs r n =
    let t = n.0 in
    let v = value_right t (value_zero s t n.2 n.1 r.number) in
    let w = given_is s t n.2 n.1 r.number plen xs r in
    let small : length (encode (dictionary t)) ≤ largest_torrent = rw n.2 at (read_encodes s r.number).0 in
    rw (w.0, w.1) (number_again t v n.1 name n.3 small)

-- and with the empty name, if there is room for it
pub unnamed_number : (s : List ℕ) (plen : ℕ) (xs : List Item) → Gives s plen xs → length s + 8 ≤ largest_torrent → content_number plen [] xs ≡ 0
unnamed_number s plen xs r l =
    let n = (read_encodes s r.number).1 in
    let t = n.0 in
    let v = value_right t (zero_below t n.3) in
    let w = given_is s t n.2 n.1 r.number plen xs r in
    let small : length (encode (dictionary t)) + 8 ≤ largest_torrent = rw n.2 at l in
    rw (w.0, w.1) (number_unnamed t v n.1 small)

-- it stands in tree order
pub given_order : (s : List ℕ) (plen : ℕ) (xs : List Item) → Gives s plen xs → in_tree_order xs ≡ xs
given_order s plen xs r =
    let n = (read_encodes s r.number).1 in
    let w = given_is s n.0 n.2 n.1 r.number plen xs r in
    rw w.1 (order_read n.0 (value_right n.0 (zero_below n.0 n.3)) n.1)

-- its lengths and roots go into records
pub given_listable : (s : List ℕ) (plen : ℕ) (xs : List Item) → Gives s plen xs → (x : Item) → Member x xs → Listable x
given_listable s plen xs r x m =
    let n = (read_encodes s r.number).1 in
    let v = value_right n.0 (zero_below n.0 n.3) in
    let w = given_is s n.0 n.2 n.1 r.number plen xs r in
    let k : Member x (content_read n.0) = rw w.1 at m in
    (omega (arith, (fine_read n.0 v n.1).in_range x k), wide_read n.0 v n.1 x k)

module _ (list text : List ℕ) (plen : ℕ) (name s : List ℕ) (xs : List Item) (r : Gives s plen xs) (same : Permuted (content_of list text) xs) (zero : content_number plen name xs ≡ 0) where
  again_number : content_number plen name (content_of list text) ≡ 0
  again_number = number_any_order plen name (content_of list text) xs same ∙ zero

  again_good : Good plen (content_of list text)
  again_good = good plen name (content_of list text) (all_passed plen name (content_of list text) again_number)

  again_order : in_tree_order (content_of list text) ≡ xs
  again_order = files_any_order (content_of list text) xs same again_good.fine.paths_apart ∙ given_order s plen xs r

  again_given : Gives s plen (in_tree_order (content_of list text))
  again_given = rw again_order r

  -- written, and read back
  pub written_again : (out : List ℕ) → InForm list text → length (torrent_bytes list text plen name) ≤ length out
      → ((write_answer list text plen name out).number ≡ 0) × Gives (written_bytes list text plen name out) plen xs
  written_again out f l = (done, rw (sym again_order) (written_given list text plen name out done))
    where
      done : (write_answer list text plen name out).number ≡ 0
      done = answer_number list text plen name out ∙ number_done list text plen name out ((in_form list text).1 f) again_number l

  -- into as much room as the torrent has that was read
  pub again_fits : Named s name → length (torrent_bytes list text plen name) ≤ length s
  again_fits n = not_shorter s plen name (content_of list text) again_good.fine (content_wide list text) again_given n

  pub again_nearly_fits : length (torrent_bytes list text plen name) ≤ length s + entry_length key_name (string name)
  again_nearly_fits = hardly_shorter s plen name (content_of list text) again_good.fine (content_wide list text) again_given

-- the empty name takes eight bytes
pub empty_name : entry_length key_name (string []) ≡ 8
empty_name = unfold encode in unfold decimal_in in refl

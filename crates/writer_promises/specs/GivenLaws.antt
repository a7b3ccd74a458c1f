-- A string of bytes that is answered 0 gives one content: that of the value which it encodes.
-- Assumes nothing.
use Rattle.std.specs.Prelude.{◌≡◌, Bool, true, false, List, [], ◌∷◌, map, ℕ, zero, suc, ◌≤◌, ◌<◌, length, ltb}
use Rattle.std.proofs.Math.Path.{refl, sym}
use Rattle.std.proofs.Common.{ap, ap₂, ◌∙◌, arith, lt-ltb, le-ltb, ltb-true, ltb-false}
use Rattle.std.proofs.lemmas.List.{length-map}
use Rattle.limits.specs.Limits.{max_levels}
use Rattle.octets.specs.Octets.{cut}
use Rattle.tree.specs.Geometry.{has_layer}
use Rattle.bencode.specs.Grammar.{string, dictionary, Entries, encode, Valid}
use Rattle.bencode.specs.Parts.{present, lookup}
use Rattle.meaning.specs.Nth.{Nth}
use Rattle.meaning.specs.Torrent.{File, plen_of, layers_of, files_of}
use Rattle.writer_meaning.specs.Content.{Item, in_tree_order}
use Rattle.writer_meaning.specs.Reads.{item_read, content_read}
use Rattle.writer_meaning.proofs.Shortest.{value_right}
use Rattle.writer_meaning.proofs.RoundTrip.{order_read}
use Rattle.halves.proofs.HalvesLaws.{zero_below}
use Rattle.torrent.specs.Torrent.{read_of, file_read}
use Rattle.torrent.specs.Answers.{FileIs}
use Rattle.torrent.specs.NumberMeans.{read_encodes}
use Rattle.torrent.specs.ReadMeans.{torrent_is, file_is, element_is}
use Rattle.writer_promises.specs.Published.{FileGiven, Gives}

-- ---- lists by number

-- number n of a mapped list
nth_mapped : {A B : Type 0} (f : A → B) (xs : List A) (n : ℕ) (y : B) → Nth (map f xs) n y → (x : A) × Nth xs n x × (y ≡ f x)
unfolding Nth
nth_mapped f [] n y e = absurd e
nth_mapped f (x ∷ xs) zero y e = (x, refl, e)
nth_mapped f (x ∷ xs) (suc n) y e = nth_mapped f xs n y e

-- lists of one length with the same at each number are the same
same_by_number : {A : Type 0} (xs ys : List A) → length xs ≡ length ys → ((n : ℕ) (x y : A) → Nth xs n x → Nth ys n y → x ≡ y) → xs ≡ ys
unfolding Nth
same_by_number [] [] e h = refl
same_by_number [] (y ∷ ys) e h = absurd (omega arith)
same_by_number (x ∷ xs) [] e h = absurd (omega arith)
same_by_number (x ∷ xs) (y ∷ ys) e h = ap₂ (λ u v. u ∷ v) (h 0 x y refl refl) (same_by_number xs ys (omega arith) (λ n u v a b. h (suc n) u v a b))

-- ---- one content

abbrev pub item : List (List ℕ) → ℕ → List ℕ → List ℕ → Item
item p n r l = record { path = p; size = n; root = r; layer = l }

pub same_item : (x y : Item) → x.path ≡ y.path → x.size ≡ y.size → x.root ≡ y.root → x.layer ≡ y.layer → x ≡ y
same_item x y a b c d = ap₂ (λ (p : List (List ℕ)) (n : ℕ). item p n x.root x.layer) a b ∙ ap₂ (λ (r l : List ℕ). item y.path y.size r l) c d

one_file : (s : List ℕ) (n : ℕ) (x y : Item) → FileGiven s n x → FileGiven s n y → x ≡ y
one_file s n x y g h =
    same_item x y
    (same_by_number x.path y.path (sym g.elements ∙ h.elements) (λ k a b i j. sym (g.element k a i).bytes ∙ (h.element k b j).bytes))
    (sym g.size ∙ h.size)
    (sym g.root ∙ h.root)
    (sym g.layer ∙ h.layer)

-- no string of bytes gives two
pub one_content : (s : List ℕ) (p q : ℕ) (xs ys : List Item) → Gives s p xs → Gives s q ys → (p ≡ q) × (xs ≡ ys)
one_content s p q xs ys g h = (
  sym g.piece_length_lem ∙ h.piece_length_lem,
  same_by_number xs ys (sym g.count ∙ h.count) (λ n x y i j. one_file s n x y (g.each n x i) (h.each n y j)),
)

-- ---- that of the value

module _ (s : List ℕ) (es : Entries) (start : s ≡ encode (dictionary es)) (valid : Valid (dictionary es) max_levels) (taken : (read_of s).number ≡ 0) where
  file_given : (n : ℕ) (v : File) → Nth (files_of es) n v → FileGiven s n (item_read es v)
  file_given n v e = by_length (ltb (plen_of es) v.size) refl
    where
      f : FileIs s es v (file_read s n)
      f = file_is s es start valid taken n v e

      given : (l : List ℕ) → (item_read es v).layer ≡ l → (file_read s n).size ≡ length l → cut s (file_read s n).start (file_read s n).size ≡ l → FileGiven s n (item_read es v)
      given l a b c =
          record {
            number = f.number;
            size = f.size;
            root = f.root;
            elements = f.elements;
            element = λ k x i. element_is s es start valid taken n v e k x i;
            layer_size = b ∙ ap (λ (z : List ℕ). length z) (sym a);
            layer = c ∙ sym a;
          }

      some_layer : (l : List ℕ) → plen_of es < v.size → lookup v.root (layers_of es) ≡ present (string l) → (item_read es v).layer ≡ l
      some_layer l h q = unfold has_layer in rw (lt-ltb (plen_of es) v.size h, q) refl

      no_layer : v.size ≤ plen_of es → (item_read es v).layer ≡ []
      no_layer h = unfold has_layer in rw (le-ltb (plen_of es) v.size h) refl

      none_cut : (a n : ℕ) → n ≡ 0 → cut s a n ≡ []
      none_cut a n z = unfold cut in rw z refl

      by_length : (b : Bool) → ltb (plen_of es) v.size ≡ b → FileGiven s n (item_read es v)
      by_length true q =
          let h = ltb-true (plen_of es) v.size q in
          let w = f.layer h in
          given w.0 (some_layer w.0 h w.1) w.2 w.3
      by_length false q =
          let h = ltb-false (plen_of es) v.size q in
          let w = f.no_layer h in
          given [] (no_layer h) w.1 (none_cut (file_read s n).start (file_read s n).size w.1)

  pub value_given : Gives s (plen_of es) (content_read es)
  unfolding content_read
  value_given =
      record {
        number = taken;
        piece_length_lem = (torrent_is s es start valid taken).piece_length_lem;
        count = (torrent_is s es start valid taken).file_count ∙ sym (length-map (files_of es) (item_read es));
        each = λ n x i. let w = nth_mapped (item_read es) (files_of es) n x i in rw w.2 (file_given n w.0 w.1);
      }

  -- so it is of whatever is given
  pub given_is : (plen : ℕ) (xs : List Item) → Gives s plen xs → (plen ≡ plen_of es) × (xs ≡ content_read es)
  given_is plen xs g = one_content s plen (plen_of es) xs (content_read es) g value_given

-- whatever is answered 0 gives a content, in tree order
pub some_content : (s : List ℕ) → (read_of s).number ≡ 0 → (xs : List Item) × Gives s (read_of s).plen xs × (in_tree_order xs ≡ xs)
some_content s e =
    let r = (read_encodes s e).1 in
    let g = value_given s r.0 r.2 r.1 e in
    (content_read r.0, rw (sym g.piece_length_lem) at g, order_read r.0 (value_right r.0 (zero_below r.0 r.3)) r.1)

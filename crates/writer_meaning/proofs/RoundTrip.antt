-- What is read from a torrent can be written again, with its name, and reads back as the same content.
-- Assumes nothing.
use Rattle.std.specs.Prelude.{◌≡◌, cond, ℕ, ◌+◌, ◌*◌, ◌≤◌, ◌<◌, eqb, List, [], ◌∷◌, map}
use Rattle.std.proofs.Math.Path.{refl, ap}
use Rattle.std.proofs.Common.{sym, ap₂, ◌∙◌, subst, inl, inr, arith, eqb-true, lt-ltb, le-ltb}
use Rattle.std.proofs.Math.Bool.{Bool, true, false, false≢true}
use Rattle.std.proofs.Math.ListN.{length}
use Rattle.std.proofs.lemmas.Bool.{eqb-false}
use Rattle.limits.specs.Limits.{max_levels, longest_file, largest_torrent}
use Rattle.octets.specs.Octets.{same, zero_hash}
use Rattle.octets.specs.OctetsLaws.{same_true, same_false}
use Rattle.tree.specs.Geometry.{block_count, height, piece_layer, piece_count, has_layer}
use Rattle.tree.specs.Values.{layer_root}
use Rattle.bencode.specs.Grammar.{string, dictionary, Entries, decimal_in, encode, none, Valid}
use Rattle.bencode.specs.Parts.{present, lookup}
use Rattle.meaning.specs.Counting.{Member}
use Rattle.meaning.specs.Torrent.{info_of, tree_of, plen_of, layers_of, files_of, File, layer_bytes, lengths_agree}
use Rattle.meaning.specs.Amiss.{LayerOf, LayersRight}
use Rattle.meaning.proofs.TestsLaws.{roots_right, layers_yes, gives_right}
use Rattle.sorting.specs.SortedByLaws.{Ordered, OrderedFrom, sorted_stays}
use Rattle.writer_meaning.specs.Content.{Item, item_before, in_tree_order, key_name}
use Rattle.writer_meaning.specs.Number.{some, one_path, meet, content_number}
use Rattle.writer_meaning.proofs.OrderLaws.{path_one_way}
use Rattle.writer_meaning.proofs.TreeLaws.{AllRight, PathRight}
use Rattle.writer_meaning.proofs.ContentLaws.{file_of_item}
use Rattle.writer_meaning.proofs.FilesLaws.{Pairs, DirectoryFacts, member_map}
use Rattle.writer_meaning.proofs.Shortest.{ValueRight, files_facts, SameRead, shortest, nearly_shortest}
use Rattle.writer_meaning.proofs.ShorterLaws.{entry_length}
use Rattle.writer_meaning.proofs.RefusedLaws.{nth_of}
use Rattle.writer_meaning.specs.Reads.{item_read, content_read}
use Rattle.writer_meaning.proofs.Good.{Fine, Good}
use Rattle.writer_meaning.proofs.GoodLaws.{good_number}
use Rattle.writer_meaning.proofs.ValidLaws.{tree_levels}

-- ---- paths that are told apart do not meet, and are in order

module _ (t : Entries) where
  none_of : (test : Item → Bool) (fs : List File) → ((f : File) → Member f fs → test (item_read t f) ≡ false) → some test (map (item_read t) fs) ≡ false
  unfolding some Member
  none_of test [] h = refl
  none_of test (f ∷ fs) h = rw (h f (inl refl), none_of test fs (λ g m. h g (inr m))) refl

  pub no_meeting : (fs : List File) → Pairs fs → meet (map (item_read t) fs) ≡ false
  unfolding meet Pairs
  no_meeting [] p = refl
  no_meeting (f ∷ fs) p = rw (none_of (one_path (item_read t f)) fs (λ g m. let w = p.0 g m in rw (w.1, w.2) refl), no_meeting fs p.1) refl

  ordered_from : (f : File) (fs : List File) → Pairs (f ∷ fs) → OrderedFrom item_before (item_read t f) (map (item_read t) fs)
  unfolding OrderedFrom Pairs Member
  ordered_from f [] p = tt
  ordered_from f (g ∷ fs) p = (path_one_way f.path g.path (p.0 g (inl refl)).0, ordered_from g fs p.1)

  pub ordered : (fs : List File) → Pairs fs → Ordered item_before (map (item_read t) fs)
  unfolding Ordered
  ordered [] p = tt
  ordered (f ∷ fs) p = ordered_from f fs p

-- ---- 26: non-empty files with one root have one length

pub one_length : (fs : List File) (f g : File) → lengths_agree fs ≡ true → Member f fs → Member g fs → 0 < f.size → 0 < g.size → f.root ≡ g.root → f.size ≡ g.size
one_length fs f g e m n a b r = by_test (eqb f.size g.size) refl
  where
    by_test : (t : Bool) → eqb f.size g.size ≡ t → f.size ≡ g.size
    by_test true q = eqb-true f.size g.size q
    by_test false q =
        let i = nth_of fs f m in
        let j = nth_of fs g n in
        absurd (roots_right fs e record { i = i.0; j = j.0; one = f; other = g; one_at = i.1; other_at = j.1; one_full = a; other_full = b; same_root = r; different = eqb-false f.size g.size q })

-- ---- the content that was read is good

pub member_there : {A B : Type 0} (f : A → B) (xs : List A) (x : A) → Member x xs → Member (f x) (map f xs)
unfolding Member
member_there f [] x m = m
member_there f (y ∷ ys) x (inl e) = inl (ap f e)
member_there f (y ∷ ys) x (inr m) = inr (member_there f ys x m)

path_of : (p : List (List ℕ)) → AllRight p → (e : List ℕ) (q : List (List ℕ)) → p ≡ e ∷ q → PathRight p
path_of [] r e q h = absurd (false≢true (ap has_some (sym h)))
  where
    has_some : List (List ℕ) → Bool
    has_some [] = true
    has_some (x ∷ xs) = false
path_of (x ∷ p) r e q h = unfold PathRight in r

module _ (t : Entries) (v : ValueRight t) (h : Valid (dictionary t) max_levels) where
  facts : DirectoryFacts none tree_levels (tree_of t)
  facts = (files_facts t v h).0

  layers : LayersRight (plen_of t) (layers_of t) (files_of t)
  layers = layers_yes (plen_of t) (layers_of t) (files_of t) v.fit

  -- a file longer than the piece length has its layer
  layer_of : (f : File) → Member f (files_of t) → plen_of t < f.size → LayerOf (plen_of t) (layers_of t) f (layer_bytes (lookup f.root (layers_of t)))
  layer_of f m l =
      let n = nth_of (files_of t) f m in
      let w = layers.each_file n.0 f n.1 l in
      rw (ap layer_bytes w.1.found) w.1

  item_layer : (f : File) → plen_of t < f.size → (item_read t f).layer ≡ layer_bytes (lookup f.root (layers_of t))
  item_layer f l = unfold has_layer in rw (lt-ltb (plen_of t) f.size l) refl

  no_item_layer : (f : File) → f.size ≤ plen_of t → (item_read t f).layer ≡ []
  no_item_layer f l = unfold has_layer in rw (le-ltb (plen_of t) f.size l) refl

  -- a file of the content is a file that was read
  read_as : (x : Item) → Member x (content_read t) → (f : File) × Member f (files_of t) × (x ≡ item_read t f)
  unfolding content_read
  read_as x m = member_map (item_read t) (files_of t) x m

  layer_same : (f g : File) → Member f (files_of t) → Member g (files_of t) → 0 < f.size → 0 < g.size → f.root ≡ g.root → (item_read t f).layer ≡ (item_read t g).layer
  layer_same f g m n a b r =
      ap₂ (λ (z : ℕ) (k : List ℕ). cond (has_layer z (plen_of t)) (layer_bytes (lookup k (layers_of t))) []) (one_length (files_of t) f g v.roots m n a b r) r

  layer_gives : (f : File) → Member f (files_of t) → plen_of t < f.size → layer_root (item_read t f).layer (piece_layer (plen_of t)) (height (block_count f.size)) ≡ f.root
  layer_gives f m l = ap (λ (b : List ℕ). layer_root b (piece_layer (plen_of t)) (height (block_count f.size))) (item_layer f l) ∙ by_test (same (layer_root layer (piece_layer (plen_of t)) (height (block_count f.size))) f.root) refl
    where
      layer : List ℕ
      layer = layer_bytes (lookup f.root (layers_of t))

      by_test : (b : Bool) → same (layer_root layer (piece_layer (plen_of t)) (height (block_count f.size))) f.root ≡ b → layer_root layer (piece_layer (plen_of t)) (height (block_count f.size)) ≡ f.root
      by_test true e = same_true (layer_root layer (piece_layer (plen_of t)) (height (block_count f.size))) f.root e
      by_test false e =
          let n = nth_of (files_of t) f m in
          absurd (gives_right (plen_of t) (layers_of t) (files_of t) v.give
          record { n = n.0; file = f; file_at = n.1; layer = layer; is_layer = layer_of f m l; differs = same_false (layer_root layer (piece_layer (plen_of t)) (height (block_count f.size))) f.root e })

  each_read : (P : Item → Type 0) → ((f : File) → Member f (files_of t) → P (item_read t f)) → (x : Item) → Member x (content_read t) → P x
  each_read P q x m = let w = read_as x m in subst P (sym w.2) (q w.0 w.1)

  both_read : (P : Item → Item → Type 0) → ((f g : File) → Member f (files_of t) → Member g (files_of t) → P (item_read t f) (item_read t g)) → (x y : Item) → Member x (content_read t) → Member y (content_read t) → P x y
  both_read P q x y m n = each_read (λ (u : Item). P u y) (λ f k. each_read (λ (w : Item). P (item_read t f) w) (λ g l. q f g k l) y n) x m

  pub fine_read : Fine (plen_of t) (content_read t)
  fine_read =
      record {
        some_file = λ z. none_there (files_facts t v h).1 z;
        shallow = each_read (λ (x : Item). length x.path + 4 ≤ max_levels) (λ f m. let d = (facts.each f m).depth in omega arith);
        piece_length_lem = v.piece;
        path_right = each_read (λ (x : Item). PathRight x.path) (λ f m. let w = facts.heads f m in path_of f.path (facts.each f m).elements w.0 w.1 w.2);
        in_range = each_read (λ (x : Item). x.size ≤ longest_file) (λ f m. (facts.each f m).in_range);
        empty_root = each_read (λ (x : Item). x.size ≡ 0 → x.root ≡ zero_hash) (λ f m. (facts.each f m).empty_root);
        paths_apart = unfold content_read in no_meeting t (files_of t) facts.pairs;
        one_length =
            both_read (λ (x y : Item). 0 < x.size → 0 < y.size → x.root ≡ y.root → x.size ≡ y.size) (λ f g m n a b r. one_length (files_of t) f g v.roots m n a b r);
        layer_fits =
            each_read (λ (x : Item). plen_of t < x.size → length x.layer ≡ 32 * piece_count x.size (plen_of t)) (λ f m l. ap (λ (b : List ℕ). length b) (item_layer f l) ∙ (layer_of f m l).size);
        no_layer = each_read (λ (x : Item). x.size ≤ plen_of t → x.layer ≡ []) (λ f m l. no_item_layer f l);
        one_layer = both_read (λ (x y : Item). 0 < x.size → 0 < y.size → x.root ≡ y.root → x.layer ≡ y.layer) layer_same;
      }
    where
      none_there : ((f : File) × (fs : List File) × (files_of t ≡ f ∷ fs)) → content_read t ≡ [] → ⊥
      none_there s z = let e : content_read t ≡ map (item_read t) (s.0 ∷ s.1) = unfold content_read in ap (map (item_read t)) s.2 in false≢true (ap no_item (sym e ∙ z))
        where
          no_item : List Item → Bool
          no_item [] = true
          no_item (x ∷ xs) = false

  pub good_read : Good (plen_of t) (content_read t)
  good_read =
      record {
        fine = fine_read;
        layer_gives =
            each_read (λ (x : Item). plen_of t < x.size → layer_root x.layer (piece_layer (plen_of t)) (height (block_count x.size)) ≡ x.root) layer_gives;
      }

  pub wide_read : (x : Item) → Member x (content_read t) → length x.root ≡ 32
  wide_read = each_read (λ (x : Item). length x.root ≡ 32) (λ f m. (facts.each f m).root_size)

  -- it stands in tree order, and its files are those that were read
  pub order_read : in_tree_order (content_read t) ≡ content_read t
  order_read = sorted_stays item_before (content_read t) (unfold content_read in ordered t (files_of t) facts.pairs)

  pub files_read : map file_of_item (content_read t) ≡ files_of t
  files_read = unfold content_read in again (files_of t)
    where
      again : (fs : List File) → map file_of_item (map (item_read t) fs) ≡ fs
      again [] = refl
      again (f ∷ fs) = ap (λ (l : List File). f ∷ l) (again fs)

  -- ---- written again

  same_read : (name : List ℕ) → SameRead (plen_of t) name (content_read t) fine_read wide_read t
  same_read name =
      record {
        right = v;
        valid = h;
        files = sym files_read ∙ ap (map file_of_item) (sym order_read);
        piece_length_lem = refl;
        layer = each_read (λ (x : Item). plen_of t < x.size → lookup x.root (layers_of t) ≡ present (string x.layer)) (λ f m l. there f m l);
      }
    where
      there : (f : File) → Member f (files_of t) → plen_of t < f.size → lookup f.root (layers_of t) ≡ present (string (item_read t f).layer)
      there f m l = (layer_of f m l).found ∙ ap (λ (b : List ℕ). present (string b)) (sym (item_layer f l))

  -- with its own name it is written
  pub number_again : (name : List ℕ) → lookup key_name (info_of t) ≡ present (string name) → length (encode (dictionary t)) ≤ largest_torrent
      → content_number (plen_of t) name (content_read t) ≡ 0
  number_again name e small =
      good_number (plen_of t) name (content_read t) good_read
      (λ l. let n = shortest (plen_of t) name (content_read t) fine_read wide_read t (same_read name) e in omega arith)

  -- and with the empty name, if there is room for it
  pub number_unnamed : length (encode (dictionary t)) + 8 ≤ largest_torrent → content_number (plen_of t) [] (content_read t) ≡ 0
  number_unnamed small =
      good_number (plen_of t) [] (content_read t) good_read
      (λ l. let n = nearly_shortest (plen_of t) [] (content_read t) fine_read wide_read t (same_read []) in let e = eight in omega arith)
    where
      eight : entry_length key_name (string []) ≡ 8
      eight = unfold encode in unfold decimal_in in refl

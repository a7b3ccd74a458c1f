-- What is written of a good content is read back: the value is strict bencoding of at most 32 levels, it has the five keys, the files
-- of the list in tree order, and for each of them its layer.
-- Assumes nothing.
use Rattle.std.specs.Prelude.{◌≡◌, Bool, false, ◌&&◌, length, leb, ltb, eqb, List, [], ◌∷◌, map, ℕ, zero, suc, ◌-◌, ◌*◌, ◌^◌, ◌<◌}
use Rattle.std.proofs.Math.Path.{refl, ap}
use Rattle.std.proofs.Common.{sym, ap₂, ◌∙◌, arith, leb-true, ltb-true, ltb-false}
use Rattle.std.proofs.Math.Bool.{true, and-eq-true_iff}
use Rattle.std.proofs.lemmas.Bool.{false≢true}
use Rattle.std.proofs.Math.Logic.{inl, inr}
use Rattle.limits.specs.Limits.{max_levels}
use Rattle.octets.specs.Octets.{same}
use Rattle.tree.specs.Geometry.{block_length, block_count, height, is_piece_length, piece_layer, piece_count}
use Rattle.tree.proofs.GeometryLaws.{below_ceil, piece_some}
use Rattle.tree.specs.Values.{layer_root}
use Rattle.bencode.specs.Grammar.{Value, string, dictionary, Entries, entry, precedes, none, Valid, EntriesValid}
use Rattle.bencode.specs.Parts.{absent, present, lookup}
use Rattle.meaning.specs.Keys.{key_meta_version}
use Rattle.meaning.specs.Counting.{Member}
use Rattle.meaning.specs.Nth.{Nth}
use Rattle.meaning.specs.Torrent.{has_keys, is_number, info_of, tree_of, plen_of, layers_of, files_of, nodes_right, tree_right, files_of_entries, File, lengths_agree, layers_fit, no_others, layers_give_roots, layer_bytes, value_number}
use Rattle.meaning.specs.Amiss.{TwoLengths, LayerOf, LayersRight, LayerDiffers}
use Rattle.meaning.proofs.TestsLaws.{roots_amiss, layers_no, gives_amiss}
use Rattle.sorting.specs.SortedBy.{Permuted}
use Rattle.sorting.specs.PermutedLaws.{permuted_member}
use Rattle.sorting.specs.SortedByLaws.{sorted_permuted, sorted_member, Ordered, OrderedFrom}
use Rattle.writer_meaning.specs.Content.{Item, path_before, item_before, in_tree_order, properties, tree_of_all, torrent_of, key_name}
use Rattle.writer_meaning.specs.Number.{begins}
use Rattle.writer_meaning.proofs.OrderLaws.{path_either}
use Rattle.writer_meaning.proofs.SizeLaws.{in_order}
use Rattle.writer_meaning.proofs.AnyOrder.{layers_written, meet_permuted, begins_self}
use Rattle.writer_meaning.proofs.TreeLaws.{Leads, grown_leads, Apart, ApartFrom, file_written, path_all, tree_grew}
use Rattle.writer_meaning.proofs.ContentLaws.{file_of_item, apart_files, written_is, properties_right}
use Rattle.writer_meaning.proofs.ValidLaws.{full_right, Climb, ClimbFrom, tree_valid, tree_levels}
use Rattle.writer_meaning.proofs.LayersLaws.{layers_strict, layer_written, written_of}
use Rattle.writer_meaning.proofs.Good.{Fine, Good}

-- ---- the five keys

module _ (plen : ℕ) (name : List ℕ) (xs : List Item) where
  pub keys_there : has_keys (torrent_of plen name xs) ≡ true
  unfolding has_keys lookup torrent_of same
  keys_there = refl

  pub version_there : is_number 2 (lookup key_meta_version (info_of (torrent_of plen name xs))) ≡ true
  unfolding lookup torrent_of same
  version_there = refl

  pub plen_there : plen_of (torrent_of plen name xs) ≡ plen
  unfolding lookup torrent_of same
  plen_there = refl

  pub name_there : lookup key_name (info_of (torrent_of plen name xs)) ≡ present (string name)
  unfolding lookup torrent_of same
  name_there = refl

  pub tree_there : tree_of (torrent_of plen name xs) ≡ tree_of_all (in_tree_order xs)
  unfolding lookup torrent_of same
  tree_there = refl

  pub layers_there : layers_of (torrent_of plen name xs) ≡ layers_written xs
  unfolding lookup torrent_of same
  layers_there = refl

-- ---- lists of files

module _ {A B : Type 0} (f : A → B) where
  pub map_same : (h : A → B) (xs : List A) → ((x : A) → Member x xs → f x ≡ h x) → map f xs ≡ map h xs
  unfolding Member
  map_same h [] e = refl
  map_same h (x ∷ xs) e = rw (e x (inl refl)) (ap (λ (l : List B). h x ∷ l) (map_same h xs (λ y m. e y (inr m))))

  pub member_nth : (xs : List A) (x : A) → Member x xs → (n : ℕ) × Nth (map f xs) n (f x)
  unfolding Member Nth
  member_nth [] x m = absurd m
  member_nth (y ∷ ys) x (inl e) = (0, ap f e)
  member_nth (y ∷ ys) x (inr m) = let w = member_nth ys x m in (suc w.0, w.1)

  pub nth_member : (xs : List A) (n : ℕ) (v : B) → Nth (map f xs) n v → (x : A) × Member x xs × (v ≡ f x)
  unfolding Member Nth
  nth_member [] n v q = absurd q
  nth_member (y ∷ ys) zero v q = (y, inl refl, q)
  nth_member (y ∷ ys) (suc n) v q = let w = nth_member ys n v q in (w.0, inr w.1, w.2)

-- a tree with a first file is right if its nodes are
pub leads_right : (q : List (List ℕ)) (es : Entries) → Leads q es → nodes_right es ≡ true → tree_right es ≡ true
leads_right [] es l h = by_node (unfold Leads in l)
  where
    by_node : ((v : Value) × (rest : Entries) × (es ≡ entry [] v rest)) → tree_right es ≡ true
    by_node n = rw n.2 (unfold tree_right in (rw n.2 at h))
leads_right (f ∷ q) es l h = by_node (unfold Leads in l)
  where
    by_node : ((ds : Entries) × (rest : Entries) × (es ≡ entry f (dictionary ds) rest) × Leads q ds) → tree_right es ≡ true
    by_node n = rw n.2 (unfold tree_right in (rw n.2 at h))

pub some_right : (xs : List Item) → (xs ≡ [] → ⊥) → nodes_right (tree_of_all xs) ≡ true → tree_right (tree_of_all xs) ≡ true
some_right [] s h = absurd (s refl)
some_right (x ∷ xs) s h = leads_right x.path (tree_of_all (x ∷ xs)) (unfold tree_of_all in grown_leads x.path (properties x) (tree_of_all xs)) h

-- ---- files in order whose paths do not meet climb

strictly : (p q : List (List ℕ)) → path_before q p ≡ false → begins p q ≡ false → path_before p q ≡ true
strictly p q h b = by_test (path_before p q) refl
  where
    by_test : (t : Bool) → path_before p q ≡ t → t ≡ true
    by_test true e = refl
    by_test false e = absurd (false≢true (sym b ∙ ap (begins p) (sym (path_either p q e h)) ∙ begins_self p))

climb_from : (x : Item) (xs : List Item) → OrderedFrom item_before x xs → ApartFrom x.path xs → ClimbFrom x.path xs
unfolding OrderedFrom ApartFrom ClimbFrom
climb_from x [] o a = tt
climb_from x (y ∷ ys) o a = (strictly x.path y.path o.0 a.0, climb_from y ys o.1 a.2)

pub climb : (xs : List Item) → Ordered item_before xs → Apart xs → Climb xs
unfolding Ordered Apart Climb
climb [] o a = tt
climb (x ∷ xs) o a = climb_from x xs o a

-- a piece length is in range
pub piece_range : (plen : ℕ) → is_piece_length plen ≡ true → (0 < plen) × (plen < 2 ^ 63)
piece_range plen e = (piece_some plen e, below)
  where
    below : plen < 2 ^ 63
    below = let b : leb plen 16777216 ≡ true = ((and-eq-true_iff (eqb (block_length * 2 ^ piece_layer plen) plen) (leb plen 16777216)).0 (unfold is_piece_length in e)).1 in let o = leb-true plen 16777216 b in omega arith

-- ---- what was written of a good content

module _ (plen : ℕ) (name : List ℕ) (xs : List Item) (g : Fine plen xs) (wide : (x : Item) → Member x xs → length x.root ≡ 32) where
  perm : Permuted xs (in_tree_order xs)
  perm = sorted_permuted item_before xs

  here : (x : Item) → Member x (in_tree_order xs) → Member x xs
  here = sorted_member item_before xs

  there : (x : Item) → Member x xs → Member x (in_tree_order xs)
  there x m = permuted_member xs (in_tree_order xs) x perm m

  apart : Apart (in_tree_order xs)
  apart = apart_files (in_tree_order xs) (sym (meet_permuted xs (in_tree_order xs) perm) ∙ g.paths_apart)

  tree_facts : (nodes_right (tree_of_all (in_tree_order xs)) ≡ true) × (files_of_entries [] (tree_of_all (in_tree_order xs)) ≡ map file_written (in_tree_order xs))
  tree_facts =
      tree_grew (in_tree_order xs) apart
      (λ x m. record { path_right = g.path_right x (here x m); file_right_lem = properties_right x (g.in_range x (here x m)) (wide x (here x m)) })

  some_there : (in_tree_order xs) ≡ [] → ⊥
  some_there z = by_list xs refl
    where
      by_list : (us : List Item) → xs ≡ us → ⊥
      by_list [] e = g.some_file e
      by_list (u ∷ us) e = unfold Member in (rw z at (there u (rw e (unfold Member in inl refl))))

  pub tree_right_lem : tree_right (tree_of (torrent_of plen name xs)) ≡ true
  tree_right_lem = ap tree_right (tree_there plen name xs) ∙ some_right (in_tree_order xs) some_there tree_facts.0

  -- the files of the list in tree order
  pub files_there : files_of (torrent_of plen name xs) ≡ map file_of_item (in_tree_order xs)
  files_there =
      ap (files_of_entries []) (tree_there plen name xs) ∙ tree_facts.1 ∙ map_same file_written file_of_item (in_tree_order xs) (λ x m. written_is x (g.empty_root x (here x m)))

  -- ---- strict

  tree_strict : EntriesValid (tree_of_all (in_tree_order xs)) none tree_levels
  tree_strict =
      tree_valid tree_levels (in_tree_order xs) (climb (in_tree_order xs) (in_order xs) apart)
      (λ x m. record {
        elements = full_right x.path (path_all x.path (g.path_right x (here x m)));
        depth = let s = g.shallow x (here x m) in omega arith;
        size_fits = let s = g.in_range x (here x m) in omega arith;
      })

  pub strict : Valid (dictionary (torrent_of plen name xs)) max_levels
  unfolding torrent_of Valid precedes
  strict =
      let p = (piece_range plen g.piece_length_lem).1 in
      (refl, (refl, tree_strict, (refl, omega arith, (refl, tt, (refl, p, tt)))), (refl, layers_strict xs (max_levels - 2), tt))

  -- ---- the layers

  -- a file with a layer to write is longer than the piece length
  pub longer_there : (y : Item) → Member y xs → (y.layer ≡ [] → ⊥) → plen < y.size
  longer_there y m h = by_test (ltb plen y.size) refl
    where
      by_test : (t : Bool) → ltb plen y.size ≡ t → plen < y.size
      by_test true e = ltb-true plen y.size e
      by_test false e = absurd (h (g.no_layer y m (ltb-false plen y.size e)))

  -- each file longer than the piece length finds its layer under its root
  pub layer_there : (x : Item) → Member x xs → plen < x.size → lookup x.root (layers_written xs) ≡ present (string x.layer)
  layer_there x m l = layer_written xs x m some (λ y i h q. let long = longer_there y i h in g.one_layer y x i m (omega arith) (omega arith) q)
    where
      some : x.layer ≡ [] → ⊥
      some e = omega (arith, none_long, pieces)
        where
          none_long : ◌≡◌ {A = ℕ} 0 (32 * piece_count x.size plen)
          none_long = ap (λ (b : List ℕ). length b) (sym e) ∙ g.layer_fits x m l

          pieces : 0 < piece_count x.size plen
          pieces = let p = (piece_range plen g.piece_length_lem).0 in unfold piece_count in below_ceil x.size plen 0 p (omega arith)

  pub layers_right : LayersRight plen (layers_written xs) (map file_of_item (in_tree_order xs))
  layers_right = record { each_file = file; each_key = key }
    where
      file : (n : ℕ) (f : File) → Nth (map file_of_item (in_tree_order xs)) n f → plen < f.size → (layer : List ℕ) × LayerOf plen (layers_written xs) f layer
      file n f q l =
          let w = nth_member file_of_item (in_tree_order xs) n f q in
          let x = w.0 in
          let m = here x w.1 in
          let s : f.size ≡ x.size = ap (λ (u : File). u.size) w.2 in
          let r : f.root ≡ x.root = ap (λ (u : File). u.root) w.2 in
          let long : plen < x.size = rw s at l in
          (x.layer, record { longer = l; found = ap (λ (b : List ℕ). lookup b (layers_written xs)) r ∙ layer_there x m long; size = g.layer_fits x m long ∙ ap (λ (z : ℕ). 32 * piece_count z plen) (sym s) })

      key : (k : List ℕ) → (lookup k (layers_written xs) ≡ absent → ⊥) → (n : ℕ) × (f : File) × Nth (map file_of_item (in_tree_order xs)) n f × (plen < f.size) × (k ≡ f.root)
      key k h =
          let w = written_of xs k h in
          let n = member_nth file_of_item (in_tree_order xs) w.0 (there w.0 w.1) in
          (n.0, file_of_item w.0, n.1, longer_there w.0 w.1 w.3, sym w.2)

  -- ---- the number

  pub layers_fit_lem : layers_fit plen (layers_written xs) (map file_of_item (in_tree_order xs)) && no_others plen (map file_of_item (in_tree_order xs)) (layers_written xs) ≡ true
  layers_fit_lem = layers_no plen (layers_written xs) (map file_of_item (in_tree_order xs)) layers_right

  -- files with one root have one length
  pub lengths_agree_lem : lengths_agree (map file_of_item (in_tree_order xs)) ≡ true
  lengths_agree_lem = by_test (lengths_agree (map file_of_item (in_tree_order xs))) refl
    where
      none_other : TwoLengths (map file_of_item (in_tree_order xs)) → ⊥
      none_other d =
          let u = nth_member file_of_item (in_tree_order xs) d.i d.one d.one_at in
          let w = nth_member file_of_item (in_tree_order xs) d.j d.other d.other_at in
          let x = u.0 in
          let y = w.0 in
          let a : d.one.size ≡ x.size = ap (λ (f : File). f.size) u.2 in
          let b : d.other.size ≡ y.size = ap (λ (f : File). f.size) w.2 in
          let r : x.root ≡ y.root = ap (λ (f : File). f.root) (sym u.2) ∙ d.same_root ∙ ap (λ (f : File). f.root) w.2 in
          d.different (a ∙ g.one_length x y (here x u.1) (here y w.1) (omega (arith, d.one_full, a)) (omega (arith, d.other_full, b)) r ∙ sym b)

      by_test : (t : Bool) → lengths_agree (map file_of_item (in_tree_order xs)) ≡ t → t ≡ true
      by_test true e = refl
      by_test false e = absurd (none_other (roots_amiss (map file_of_item (in_tree_order xs)) e))

-- ---- and its layers give their roots

module _ (plen : ℕ) (name : List ℕ) (xs : List Item) (g : Good plen xs) (wide : (x : Item) → Member x xs → length x.root ≡ 32) where
  pub layers_give : LayerDiffers plen (layers_written xs) (map file_of_item (in_tree_order xs)) → ⊥
  layers_give d =
      let w = nth_member file_of_item (in_tree_order xs) d.n d.file d.file_at in
      let x = w.0 in
      let m = here plen name xs g.fine wide x w.1 in
      let s : d.file.size ≡ x.size = ap (λ (u : File). u.size) w.2 in
      let r : d.file.root ≡ x.root = ap (λ (u : File). u.root) w.2 in
      let long : plen < x.size = rw s at d.is_layer.longer in
      let found : lookup x.root (layers_written xs) ≡ present (string d.layer) = rw r at d.is_layer.found in
      let same_layer : d.layer ≡ x.layer = ap layer_bytes (sym found ∙ layer_there plen name xs g.fine wide x m long) in
      d.differs (ap₂ (λ (b : List ℕ) (z : ℕ). layer_root b (piece_layer plen) (height (block_count z))) same_layer s ∙ g.layer_gives x m long ∙ sym r)

  pub roots_given : layers_give_roots plen (layers_written xs) (map file_of_item (in_tree_order xs)) ≡ true
  roots_given = by_test (layers_give_roots plen (layers_written xs) (map file_of_item (in_tree_order xs))) refl
    where
      by_test : (t : Bool) → layers_give_roots plen (layers_written xs) (map file_of_item (in_tree_order xs)) ≡ t → t ≡ true
      by_test true e = refl
      by_test false e =
          absurd (layers_give (gives_amiss plen (layers_written xs) (map file_of_item (in_tree_order xs))
          ((and-eq-true_iff (layers_fit plen (layers_written xs) (map file_of_item (in_tree_order xs))) (no_others plen (map file_of_item (in_tree_order xs)) (layers_written xs))).0 (layers_fit_lem plen name xs g.fine wide)).0 e))

  -- nothing is amiss
  pub number_there : value_number (torrent_of plen name xs) ≡ 0
  unfolding value_number
  number_there =
      rw
      (keys_there plen name xs, version_there plen name xs, plen_there plen name xs, g.fine.piece_length_lem, tree_right_lem plen name xs g.fine wide, files_there plen name xs g.fine wide, layers_there plen name xs, lengths_agree_lem plen name xs g.fine wide, layers_fit_lem plen name xs g.fine wide, roots_given)
      refl

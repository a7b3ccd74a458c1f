-- A plain content gets the number that the reader gives the torrent which would be written of it.
-- Assumes nothing.
use Rattle.std.specs.Prelude.{◌≡◌, ◌&&◌, ◌||◌, not, ◌⊎◌, ◌↔◌, List, [], ◌∷◌, map, ℕ, zero, suc, ◌*◌, ◌≤◌, ◌<◌, length, eqb, ltb}
use Rattle.std.proofs.Math.Path.{refl, ap}
use Rattle.std.proofs.Common.{sym, ap₂, ◌∙◌, inr, arith, eqb-true, leb-true, ltb-true, ltb-false}
use Rattle.std.proofs.Math.Bool.{Bool, true, false, cond, false≢true, and-eq-true_iff}
use Rattle.std.proofs.Math.Logic.{inl}
use Rattle.std.proofs.Math.Dec.{leb}
use Rattle.std.proofs.lemmas.Bool.{eqb-false}
use Rattle.limits.specs.Limits.{longest_file, max_levels}
use Rattle.numbers.specs.Numbers.{torrent_too_large, nested_too_deeply, piece_length_out_of_range, wrong_tree, two_lengths, layers_amiss, layer_differs}
use Rattle.octets.specs.Octets.{same}
use Rattle.tree.specs.Geometry.{block_count, height, is_piece_length, piece_layer, piece_count}
use Rattle.tree.proofs.GeometryLaws.{below_ceil}
use Rattle.tree.specs.Values.{layer_root}
use Rattle.bencode.specs.Grammar.{integer, string, dictionary, Entries, no_entries, entry, encode, none, Valid, EntriesValid}
use Rattle.bencode.specs.Parts.{Lookup, absent, present, lookup}
use Rattle.bencode.specs.Strict.{strictness}
use Rattle.bencode.specs.StrictLaws.{taken}
use Rattle.meaning.specs.Keys.{key_length, key_pieces_root}
use Rattle.meaning.specs.Counting.{Member, Distinct}
use Rattle.meaning.specs.Nth.{Nth}
use Rattle.meaning.specs.Torrent.{tree_of, files_of, root_right, file_right, nodes_right, tree_right, File, files_of_entries, lengths_agree, layers_fit, no_others, layers_give_roots, layer_bytes, value_number}
use Rattle.meaning.specs.Amiss.{LayerOf, LayersRight, LayerDiffers}
use Rattle.meaning.proofs.TestsLaws.{tree_yes, roots_amiss, roots_right, layers_yes, layers_no, gives_amiss, gives_right}
use Rattle.sorting.specs.SortedBy.{sorted_by, Permuted, none as nothing_moved, keep, swap, then}
use Rattle.sorting.specs.PermutedLaws.{permuted_member, permuted_back, map_permuted}
use Rattle.sorting.specs.SortedByLaws.{sorted_permuted, sorted_member, Ordered, OrderedFrom}
use Rattle.writer_meaning.specs.Content.{Item, path_before, item_before, in_tree_order, properties, tree_of_all, torrent_of}
use Rattle.writer_meaning.specs.Number.{some, too_large, too_deep, one_path, wrong_item, meet, nothing, lengths_clash, misfit, gives_other, two_layers, content_number}
use Rattle.writer_meaning.proofs.SomeLaws.{or_none, none_passes, some_one}
use Rattle.writer_meaning.proofs.OrderLaws.{path_either}
use Rattle.writer_meaning.proofs.SizeLaws.{sum, in_order}
use Rattle.writer_meaning.proofs.AnyOrder.{layers_written, meet_permuted}
use Rattle.writer_meaning.proofs.TreeLaws.{AllRight, PathRight, file_written, tree_grew}
use Rattle.writer_meaning.proofs.ContentLaws.{file_of_item, passed, item_right, written_is, apart_files}
use Rattle.writer_meaning.proofs.ValidLaws.{Climb, ClimbFrom, tree_valid, tree_levels}
use Rattle.writer_meaning.proofs.LayersLaws.{layers_strict, layer_written, written_of}
use Rattle.writer_meaning.proofs.LevelsLaws.{deep_number, paths_fit, whole_strict, tree_of_strict, sum_least}
use Rattle.writer_meaning.proofs.FilesLaws.{Told, Pairs, tree_facts}
use Rattle.writer_meaning.proofs.RightLaws.{PathFull, full_all, AllWas, all_was}
use Rattle.writer_meaning.specs.Refused.{TooDeep, WrongFiles, no_file, no_element, wrong_element, too_long, empty_with_root, one_path_lem, TwoLengths, WrongLayers, wrong_size, not_wanted, LayersDiffer, other_root_lem, two_layers_lem}
use Rattle.writer_meaning.proofs.RefusedLaws.{meets, too_deep_lem, wrong_files, two_lengths_lem, wrong_layers, layers_differ}
use Rattle.writer_meaning.proofs.GoodLaws.{element_right_lem}
use Rattle.writer_meaning.proofs.ReadBack.{piece_range, keys_there, version_there, plen_there, tree_there, layers_there, map_same, member_nth, nth_member, some_right}
use Rattle.writer_meaning.proofs.RoundTrip.{member_there}
use Rattle.writer_meaning.proofs.Plain.{Plain, read_number}

-- ---- different paths stay different in another order

distinct_permuted : {A : Type 0} (xs ys : List A) → Permuted xs ys → Distinct xs → Distinct ys
unfolding Distinct Member
distinct_permuted xs ys nothing_moved d = d
distinct_permuted xs ys (keep x {xs = us} {ys = vs} p) d = ((λ m. d.0 (permuted_member vs us x (permuted_back us vs p) m)), distinct_permuted us vs p d.1)
distinct_permuted xs ys (swap x y zs) d = ((λ m. elim m [ inl e ↦ d.0 (inl (sym e)) | inr k ↦ d.1.0 k ]), ((λ m. d.0 (inr m)), d.1.1))
distinct_permuted xs ys (then {ys = ms} p q) d = distinct_permuted ms ys q (distinct_permuted xs ms p d)

abbrev path_of : Item → List (List ℕ)
path_of x = x.path

before_of : (p q : List (List ℕ)) → path_before q p ≡ false → (p ≡ q → ⊥) → path_before p q ≡ true
before_of p q h d = by_test (path_before p q) refl
  where
    by_test : (t : Bool) → path_before p q ≡ t → t ≡ true
    by_test true e = refl
    by_test false e = absurd (d (path_either p q e h))

climb_from : (x : Item) (xs : List Item) → OrderedFrom item_before x xs → Distinct (map path_of (x ∷ xs)) → ClimbFrom x.path xs
unfolding OrderedFrom Distinct Member ClimbFrom
climb_from x [] o d = tt
climb_from x (y ∷ ys) o d = (before_of x.path y.path o.0 (λ e. d.0 (inl e)), climb_from y ys o.1 d.1)

climb : (xs : List Item) → Ordered item_before xs → Distinct (map path_of xs) → Climb xs
unfolding Ordered Climb
climb [] o d = tt
climb (x ∷ xs) o d = climb_from x xs o d

-- files told apart do not meet
pairs_apart : (xs : List Item) → Pairs (map file_written xs) → meet xs ≡ false
unfolding Pairs meet
pairs_apart [] p = refl
pairs_apart (x ∷ xs) p = rw (none_of xs p.0, pairs_apart xs p.1) refl
  where
    none_of : (us : List Item) → ((g : File) → Member g (map file_written us) → Told (file_written x) g) → some (one_path x) us ≡ false
    none_of us h = by_test (some (one_path x) us) refl
      where
        by_test : (t : Bool) → some (one_path x) us ≡ t → t ≡ false
        by_test false e = refl
        by_test true e =
            let w = some_one (one_path x) us e in
            let t = h (file_written w.0) (member_there file_written us w.0 w.1) in
            let z : false || false ≡ true = rw (t.1, t.2) at w.2 in
            absurd (false≢true z)

-- a file that is right is in range
size_range : (x : Item) → file_right (properties x) ≡ true → x.size ≤ longest_file
size_range x h = by_size (eqb x.size 0) refl h
  where
    by_size : (t : Bool) → eqb x.size 0 ≡ t
        → file_right (cond t (dictionary (entry key_length (integer false x.size) no_entries)) (dictionary (entry key_length (integer false x.size) (entry key_pieces_root (string x.root) no_entries)))) ≡ true
        → x.size ≤ longest_file
    by_size true e q = let z = eqb-true x.size 0 e in omega arith
    by_size false e q =
        let w : (true && leb x.size longest_file) && (eqb (length x.root) 32) ≡ true = rw e at (unfold_file q) in
        leb-true x.size longest_file ((and-eq-true_iff (leb x.size longest_file) (eqb (length x.root) 32)).0 w).0
      where
        unfold_file : file_right (dictionary (entry key_length (integer false x.size) (entry key_pieces_root (string x.root) no_entries))) ≡ true
            → (true && leb x.size longest_file) && root_right (eqb x.size 0) (present (string x.root)) ≡ true
        unfold_file u = unfold file_right in unfold lookup in unfold same in u

module _ (plen : ℕ) (name : List ℕ) (xs : List Item) (k : Plain plen xs) where
  perm : Permuted xs (in_tree_order xs)
  perm = sorted_permuted item_before xs

  here : (x : Item) → Member x (in_tree_order xs) → Member x xs
  here = sorted_member item_before xs

  there : (x : Item) → Member x xs → Member x (in_tree_order xs)
  there x m = permuted_member xs (in_tree_order xs) x perm m

  -- ---- 21

  tree_strict : (l : ℕ) → ((x : Item) → Member x xs → length x.path < l) → EntriesValid (tree_of_all (in_tree_order xs)) none l
  tree_strict l d =
      tree_valid l (in_tree_order xs) (climb (in_tree_order xs) (in_order xs) (distinct_permuted (map path_of xs) (map path_of (in_tree_order xs)) (map_permuted path_of xs (in_tree_order xs) perm) k.no_repeat))
      (λ x m. record { elements = full_all x.path (k.path_full x (here x m)); depth = d x (here x m); size_fits = k.size_fits x (here x m) })

  strict_if : (TooDeep xs → ⊥) → Valid (dictionary (torrent_of plen name xs)) max_levels
  strict_if d = whole_strict plen name xs tree_levels k.piece_fits (tree_strict tree_levels fits) (layers_strict xs)
    where
      fits : (x : Item) → Member x xs → length x.path < tree_levels
      fits x m = by_test (ltb (length x.path) tree_levels) refl
        where
          by_test : (t : Bool) → ltb (length x.path) tree_levels ≡ t → length x.path < tree_levels
          by_test true e = ltb-true (length x.path) tree_levels e
          by_test false e = let h = ltb-false (length x.path) tree_levels e in absurd (d (x, m, omega arith))

  deep_if : TooDeep xs → strictness (encode (dictionary (torrent_of plen name xs))) ≡ nested_too_deeply
  deep_if w =
      deep_number (torrent_of plen name xs) (suc (suc (suc (suc all)))) (whole_strict plen name xs (suc all) k.piece_fits (tree_strict (suc all) (λ x m. let h = sum_least xs x m in omega arith)) (layers_strict xs))
      (λ v. let h = paths_fit tree_levels (in_tree_order xs) w.0 (tree_of_strict plen name xs v) (there w.0 w.1) in let l = w.2 in omega arith)
    where
      all : ℕ
      all = sum (λ (y : Item). length y.path) xs

  -- ---- 25

  -- what is left if the files are right
  pub record TreeGood : Type 0 where
    pub tree_right_lem : tree_right (tree_of (torrent_of plen name xs)) ≡ true
    pub files_are : files_of (torrent_of plen name xs) ≡ map file_of_item (in_tree_order xs)

  some_left : (xs ≡ [] → ⊥) → in_tree_order xs ≡ [] → ⊥
  some_left s z = by_list xs refl
    where
      by_list : (us : List Item) → xs ≡ us → ⊥
      by_list [] e = s e
      by_list (u ∷ us) e = unfold Member in (rw z at (there u (rw e (unfold Member in inl refl))))

  tree_good : (WrongFiles xs → ⊥) → TreeGood
  tree_good w =
      record {
        tree_right_lem = ap tree_right (tree_there plen name xs) ∙ some_right (in_tree_order xs) (some_left (λ e. w (no_file e))) facts.0;
        files_are = ap (files_of_entries []) (tree_there plen name xs) ∙ facts.1 ∙ map_same file_written file_of_item (in_tree_order xs) (λ x m. written_is x (k.empty_root x (here x m)));
      }
    where
      tests : nothing xs || some wrong_item xs || meet xs ≡ false
      tests = by_test (nothing xs || some wrong_item xs || meet xs) refl
        where
          by_test : (t : Bool) → nothing xs || some wrong_item xs || meet xs ≡ t → t ≡ false
          by_test true e = absurd (w ((wrong_files xs).0 e))
          by_test false e = refl

      two : (nothing xs || some wrong_item xs ≡ false) × (meet xs ≡ false)
      two = or_none (nothing xs || some wrong_item xs) (meet xs) tests

      items : some wrong_item xs ≡ false
      items = (or_none (nothing xs) (some wrong_item xs) two.0).1

      facts : (nodes_right (tree_of_all (in_tree_order xs)) ≡ true) × (files_of_entries [] (tree_of_all (in_tree_order xs)) ≡ map file_written (in_tree_order xs))
      facts =
          tree_grew (in_tree_order xs) (apart_files (in_tree_order xs) (sym (meet_permuted xs (in_tree_order xs) perm) ∙ two.1))
          (λ x m. item_right x (passed x (none_passes wrong_item xs x items (here x m))) (k.wide x (here x m)))

  nodes_of : (es : Entries) → tree_right es ≡ true → (nodes_right es ≡ true) × (es ≡ no_entries → ⊥)
  nodes_of no_entries e = absurd (false≢true (unfold tree_right in e))
  nodes_of (entry j v es) e = ((unfold tree_right in e), λ z. false≢true (ap is_empty z))
    where
      is_empty : Entries → Bool
      is_empty no_entries = true
      is_empty (entry i u fs) = false

  no_files : tree_of_all [] ≡ no_entries
  no_files = unfold tree_of_all in refl

  empty_full : PathFull [] → ⊥
  empty_full f = unfold PathFull in f

  wrong_not : (TooDeep xs → ⊥) → tree_right (tree_of (torrent_of plen name xs)) ≡ true → WrongFiles xs → ⊥
  wrong_not d e = refute
    where
      tree_test : tree_right (tree_of_all (in_tree_order xs)) ≡ true
      tree_test = ap tree_right (sym (tree_there plen name xs)) ∙ e

      nodes : (nodes_right (tree_of_all (in_tree_order xs)) ≡ true) × (tree_of_all (in_tree_order xs) ≡ no_entries → ⊥)
      nodes = nodes_of (tree_of_all (in_tree_order xs)) tree_test

      was : AllWas (in_tree_order xs)
      was = all_was (in_tree_order xs) (λ x m. k.path_full x (here x m)) nodes.0

      path_right : (p : List (List ℕ)) → PathFull p → AllRight p → PathRight p
      path_right [] f r = absurd (unfold PathFull in f)
      path_right (x ∷ p) f r = unfold PathRight in r

      files : files_of_entries [] (tree_of_all (in_tree_order xs)) ≡ map file_written (in_tree_order xs)
      files =
          (tree_grew (in_tree_order xs) was.apart
          (λ x m. record { path_right = path_right x.path (k.path_full x (here x m)) (was.each x m).0; file_right_lem = (was.each x m).1 })).1

      apart : meet xs ≡ false
      apart =
          let f = (tree_facts (tree_of_all (in_tree_order xs)) tree_levels (tree_yes (tree_of_all (in_tree_order xs)) tree_test) (tree_of_strict plen name xs (strict_if d))).0.pairs in
          let p : Pairs (map file_written (in_tree_order xs)) = rw files at f in
          meet_permuted xs (in_tree_order xs) perm ∙ pairs_apart (in_tree_order xs) p

      refute : WrongFiles xs → ⊥
      refute (no_file z) = nodes.1 (ap (λ (us : List Item). tree_of_all (in_tree_order us)) z ∙ none_of)
        where
          none_of : tree_of_all (in_tree_order []) ≡ no_entries
          none_of = unfold sorted_by in no_files
      refute (no_element x m z) = empty_full (rw z at (k.path_full x m))
      refute (wrong_element x f m i q) = false≢true (sym q ∙ element_right_lem x.path f (was.each x (there x m)).0 i)
      refute (too_long x m l) = let h = size_range x (was.each x (there x m)).1 in omega arith
      refute (empty_with_root x m z r) = r (k.empty_root x m z)
      refute (one_path_lem i j x y a b c rest q) = false≢true (sym apart ∙ meets xs (i, j, x, y, a, b, c, rest, q))

  -- ---- 26

  size_of : (f : File) (x : Item) → f ≡ file_of_item x → f.size ≡ x.size
  size_of f x e = ap (λ (u : File). u.size) e

  root_of_lem : (f : File) (x : Item) → f ≡ file_of_item x → f.root ≡ x.root
  root_of_lem f x e = ap (λ (u : File). u.root) e

  lengths_if : (TwoLengths xs → ⊥) → lengths_agree (map file_of_item (in_tree_order xs)) ≡ true
  lengths_if w = by_test (lengths_agree (map file_of_item (in_tree_order xs))) refl
    where
      by_test : (t : Bool) → lengths_agree (map file_of_item (in_tree_order xs)) ≡ t → t ≡ true
      by_test true e = refl
      by_test false e =
          let d = roots_amiss (map file_of_item (in_tree_order xs)) e in
          let u = nth_member file_of_item (in_tree_order xs) d.i d.one d.one_at in
          let v = nth_member file_of_item (in_tree_order xs) d.j d.other d.other_at in
          let x = u.0 in
          let y = v.0 in
          let a = size_of d.one x u.2 in
          let b = size_of d.other y v.2 in
          let r = sym (root_of_lem d.one x u.2) ∙ d.same_root ∙ root_of_lem d.other y v.2 in
          absurd (w (x, y, record { one = here x u.1; other = here y v.1; one_full = omega (arith, d.one_full, a); other_full = omega (arith, d.other_full, b); same_root = r }, λ z. d.different (a ∙ z ∙ sym b)))

  lengths_not : TwoLengths xs → lengths_agree (map file_of_item (in_tree_order xs)) ≡ true → ⊥
  lengths_not w e =
      let x = w.0 in
      let y = w.1 in
      let r = w.2 in
      let i = member_nth file_of_item (in_tree_order xs) x (there x r.one) in
      let j = member_nth file_of_item (in_tree_order xs) y (there y r.other) in
      roots_right (map file_of_item (in_tree_order xs)) e
      record { i = i.0; j = j.0; one = file_of_item x; other = file_of_item y; one_at = i.1; other_at = j.1; one_full = r.one_full; other_full = r.other_full; same_root = r.same_root; different = w.3 }

  -- ---- 27

  -- a file with a layer is not empty
  full_of : (x : Item) → Member x xs → (x.layer ≡ [] → ⊥) → 0 < x.size
  full_of x m h = by_size x.size refl
    where
      by_size : (n : ℕ) → x.size ≡ n → 0 < x.size
      by_size zero e = absurd (h (k.empty_layer x m e))
      by_size (suc n) e = omega arith

  -- the layer of a root is that of each of its files
  found : (x : Item) → Member x xs → 0 < x.size → (x.layer ≡ [] → ⊥) → lookup x.root (layers_written xs) ≡ present (string x.layer)
  found x m full h = layer_written xs x m h (λ y i g q. k.one_layer y x i m (full_of y i g) full q)

  -- longer than the piece length, or not
  longer_or : (x : Item) → (plen < x.size) ⊎ (x.size ≤ plen)
  longer_or x = by_test (ltb plen x.size) refl
    where
      by_test : (t : Bool) → ltb plen x.size ≡ t → (plen < x.size) ⊎ (x.size ≤ plen)
      by_test true e = inl (ltb-true plen x.size e)
      by_test false e = inr (ltb-false plen x.size e)

  is_empty_lem : (b : List ℕ) → (b ≡ []) ⊎ (b ≡ [] → ⊥)
  is_empty_lem [] = inl refl
  is_empty_lem (c ∷ cs) = inr (λ z. false≢true (ap no_byte z))
    where
      no_byte : List ℕ → Bool
      no_byte [] = true
      no_byte (x ∷ ys) = false

  -- of right sizes: a file longer than the piece length has its layer, and no other has one
  fits_of : (WrongLayers plen xs → ⊥) → (x : Item) → Member x xs → plen < x.size → length x.layer ≡ 32 * piece_count x.size plen
  fits_of w x m l = by_test (eqb (length x.layer) (32 * piece_count x.size plen)) refl
    where
      by_test : (t : Bool) → eqb (length x.layer) (32 * piece_count x.size plen) ≡ t → length x.layer ≡ 32 * piece_count x.size plen
      by_test true e = eqb-true (length x.layer) (32 * piece_count x.size plen) e
      by_test false e = absurd (w (wrong_size x m l (eqb-false (length x.layer) (32 * piece_count x.size plen) e)))

  longer_of : (WrongLayers plen xs → ⊥) → (x : Item) → Member x xs → (x.layer ≡ [] → ⊥) → plen < x.size
  longer_of w x m h = elim (longer_or x) [ inl l ↦ l | inr s ↦ absurd (w (not_wanted x m s h)) ]

  some_layer : is_piece_length plen ≡ true → (WrongLayers plen xs → ⊥) → (x : Item) → Member x xs → plen < x.size → x.layer ≡ [] → ⊥
  some_layer p w x m l z =
      let f = fits_of w x m l in
      let n : ◌≡◌ {A = ℕ} 0 (32 * piece_count x.size plen) = ap (λ (b : List ℕ). length b) (sym z) ∙ f in
      let c : 0 < piece_count x.size plen = unfold piece_count in below_ceil x.size plen 0 (piece_range plen p).0 (omega arith) in
      omega (arith, n, c)

  layers_if : is_piece_length plen ≡ true → (WrongLayers plen xs → ⊥) → LayersRight plen (layers_written xs) (map file_of_item (in_tree_order xs))
  layers_if p w = record { each_file = file; each_key = key }
    where
      file : (n : ℕ) (f : File) → Nth (map file_of_item (in_tree_order xs)) n f → plen < f.size → (layer : List ℕ) × LayerOf plen (layers_written xs) f layer
      file n f q l =
          let v = nth_member file_of_item (in_tree_order xs) n f q in
          let x = v.0 in
          let m = here x v.1 in
          let s = size_of f x v.2 in
          let r = root_of_lem f x v.2 in
          let long : plen < x.size = rw s at l in (
            x.layer,
            record { longer = l; found = ap (λ (b : List ℕ). lookup b (layers_written xs)) r ∙ found x m (omega arith) (some_layer p w x m long); size = fits_of w x m long ∙ ap (λ (z : ℕ). 32 * piece_count z plen) (sym s) },
          )

      key : (r : List ℕ) → (lookup r (layers_written xs) ≡ absent → ⊥) → (n : ℕ) × (f : File) × Nth (map file_of_item (in_tree_order xs)) n f × (plen < f.size) × (r ≡ f.root)
      key r h =
          let v = written_of xs r h in
          let x = v.0 in
          let n = member_nth file_of_item (in_tree_order xs) x (there x v.1) in
          (n.0, file_of_item x, n.1, longer_of w x v.1 v.3, sym v.2)

  layers_not : (TwoLengths xs → ⊥) → LayersRight plen (layers_written xs) (map file_of_item (in_tree_order xs)) → WrongLayers plen xs → ⊥
  layers_not two r (wrong_size x m l d) =
      let n = member_nth file_of_item (in_tree_order xs) x (there x m) in
      let w = r.each_file n.0 (file_of_item x) n.1 l in
      elim (is_empty_lem x.layer) [
        | inl z ↦ other (written_of xs x.root (λ a. present_not (sym w.1.found ∙ a))) z
        | inr h ↦ d (ap (λ (b : List ℕ). length b) (ap layer_bytes (sym (found x m (omega arith) h) ∙ w.1.found)) ∙ w.1.size)
      ]
    where
      present_not : {b : List ℕ} → present (string b) ≡ absent → ⊥
      present_not q = false≢true (sym (ap is_present q))
        where
          is_present : Lookup → Bool
          is_present absent = false
          is_present (present u) = true

      other : ((y : Item) × Member y xs × (y.root ≡ x.root) × (y.layer ≡ [] → ⊥)) → x.layer ≡ [] → ⊥
      other v z = v.3 (k.one_layer v.0 x v.1 m (full_of v.0 v.1 v.3) (omega arith) v.2 ∙ z)
  layers_not two r (not_wanted x m s h) =
      let full = full_of x m h in
      let v = r.each_key x.root (λ a. present_not (sym (found x m full h) ∙ a)) in
      let u = nth_member file_of_item (in_tree_order xs) v.0 v.1 v.2 in
      let y = u.0 in
      let c = size_of v.1 y u.2 in
      let l = v.3 in
      two (x, y, record { one = m; other = here y u.1; one_full = full; other_full = omega arith; same_root = v.4 ∙ root_of_lem v.1 y u.2 }, λ z. omega arith)
    where
      present_not : {b : List ℕ} → present (string b) ≡ absent → ⊥
      present_not q = false≢true (sym (ap is_present q))
        where
          is_present : Lookup → Bool
          is_present absent = false
          is_present (present u) = true

  -- ---- 28

  gives_if : is_piece_length plen ≡ true → (WrongLayers plen xs → ⊥) → (LayersDiffer plen xs → ⊥) → LayerDiffers plen (layers_written xs) (map file_of_item (in_tree_order xs)) → ⊥
  gives_if p w g d =
      let v = nth_member file_of_item (in_tree_order xs) d.n d.file d.file_at in
      let x = v.0 in
      let m = here x v.1 in
      let s = size_of d.file x v.2 in
      let r = root_of_lem d.file x v.2 in
      let long : plen < x.size = rw s at d.is_layer.longer in
      let a : lookup x.root (layers_written xs) ≡ present (string d.layer) = rw r at d.is_layer.found in
      let b : d.layer ≡ x.layer = ap layer_bytes (sym a ∙ found x m (omega arith) (some_layer p w x m long)) in
      g (other_root_lem x m long (λ z. d.differs (ap₂ (λ (y : List ℕ) (n : ℕ). layer_root y (piece_layer plen) (height (block_count n))) b s ∙ z ∙ sym r)))

  gives_not : is_piece_length plen ≡ true → (WrongLayers plen xs → ⊥) → LayersDiffer plen xs → (LayerDiffers plen (layers_written xs) (map file_of_item (in_tree_order xs)) → ⊥) → ⊥
  gives_not p w (other_root_lem x m l d) h =
      let n = member_nth file_of_item (in_tree_order xs) x (there x m) in
      h record { n = n.0; file = file_of_item x; file_at = n.1; layer = x.layer; is_layer = record { longer = l; found = found x m (omega arith) (some_layer p w x m l); size = fits_of w x m l }; differs = d }
  gives_not p w (two_layers_lem x y r d) h = d (k.one_layer x y r.one r.other r.one_full r.other_full r.same_root)

  -- ---- the number

  -- a test that is not passed, and what it says
  none_said : (a : Bool) {A : Type 0} → (a ≡ true) ↔ A → a ≡ false → A → ⊥
  none_said a i e w = false≢true (sym e ∙ i.1 w)

  test_28 : is_piece_length plen ≡ true → (WrongLayers plen xs → ⊥)
      → cond (some (gives_other plen) xs || two_layers xs) layer_differs 0 ≡ cond (layers_give_roots plen (layers_written xs) (map file_of_item (in_tree_order xs))) 0 layer_differs
  test_28 p w = by_tests (some (gives_other plen) xs || two_layers xs) refl (layers_give_roots plen (layers_written xs) (map file_of_item (in_tree_order xs))) refl
    where
      fit : layers_fit plen (layers_written xs) (map file_of_item (in_tree_order xs)) ≡ true
      fit = ((and-eq-true_iff (layers_fit plen (layers_written xs) (map file_of_item (in_tree_order xs))) (no_others plen (map file_of_item (in_tree_order xs)) (layers_written xs))).0 (layers_no plen (layers_written xs) (map file_of_item (in_tree_order xs)) (layers_if p w))).0

      by_tests : (a : Bool) → some (gives_other plen) xs || two_layers xs ≡ a → (b : Bool) → layers_give_roots plen (layers_written xs) (map file_of_item (in_tree_order xs)) ≡ b → cond a layer_differs 0 ≡ cond b 0 layer_differs
      by_tests true e true f = absurd (gives_not p w ((layers_differ plen xs).0 e) (gives_right plen (layers_written xs) (map file_of_item (in_tree_order xs)) f))
      by_tests true e false f = refl
      by_tests false e true f = refl
      by_tests false e false f = absurd (gives_if p w (none_said (some (gives_other plen) xs || two_layers xs) (layers_differ plen xs) e) (gives_amiss plen (layers_written xs) (map file_of_item (in_tree_order xs)) fit f))

  abbrev theirs27 : Bool
  theirs27 = layers_fit plen (layers_written xs) (map file_of_item (in_tree_order xs)) && no_others plen (map file_of_item (in_tree_order xs)) (layers_written xs)

  test_27 : is_piece_length plen ≡ true → (TwoLengths xs → ⊥)
      → cond (some (misfit plen) xs) layers_amiss (cond (some (gives_other plen) xs || two_layers xs) layer_differs 0)
      ≡ cond theirs27 (cond (layers_give_roots plen (layers_written xs) (map file_of_item (in_tree_order xs))) 0 layer_differs) layers_amiss
  test_27 p two = by_tests (some (misfit plen) xs) refl theirs27 refl
    where
      by_tests : (a : Bool) → some (misfit plen) xs ≡ a → (b : Bool) → theirs27 ≡ b
          → cond a layers_amiss (cond (some (gives_other plen) xs || two_layers xs) layer_differs 0) ≡ cond b (cond (layers_give_roots plen (layers_written xs) (map file_of_item (in_tree_order xs))) 0 layer_differs) layers_amiss
      by_tests true e true f = absurd (layers_not two (layers_yes plen (layers_written xs) (map file_of_item (in_tree_order xs)) f) ((wrong_layers plen xs).0 e))
      by_tests true e false f = refl
      by_tests false e true f = test_28 p (none_said (some (misfit plen) xs) (wrong_layers plen xs) e)
      by_tests false e false f =
          absurd (false≢true (sym f ∙ layers_no plen (layers_written xs) (map file_of_item (in_tree_order xs)) (layers_if p (none_said (some (misfit plen) xs) (wrong_layers plen xs) e))))

  abbrev ours26 : ℕ
  ours26 = cond (lengths_clash xs) two_lengths (cond (some (misfit plen) xs) layers_amiss (cond (some (gives_other plen) xs || two_layers xs) layer_differs 0))

  abbrev theirs26 : ℕ
  theirs26 = cond (lengths_agree (map file_of_item (in_tree_order xs))) (cond theirs27 (cond (layers_give_roots plen (layers_written xs) (map file_of_item (in_tree_order xs))) 0 layer_differs) layers_amiss) two_lengths

  test_26 : is_piece_length plen ≡ true → ours26 ≡ theirs26
  test_26 p = by_tests (lengths_clash xs) refl (lengths_agree (map file_of_item (in_tree_order xs))) refl
    where
      by_tests : (a : Bool) → lengths_clash xs ≡ a → (b : Bool) → lengths_agree (map file_of_item (in_tree_order xs)) ≡ b
          → cond a two_lengths (cond (some (misfit plen) xs) layers_amiss (cond (some (gives_other plen) xs || two_layers xs) layer_differs 0))
          ≡ cond b (cond theirs27 (cond (layers_give_roots plen (layers_written xs) (map file_of_item (in_tree_order xs))) 0 layer_differs) layers_amiss) two_lengths
      by_tests true e true f = absurd (lengths_not ((two_lengths_lem xs).0 e) f)
      by_tests true e false f = refl
      by_tests false e true f = test_27 p (none_said (lengths_clash xs) (two_lengths_lem xs) e)
      by_tests false e false f = absurd (false≢true (sym f ∙ lengths_if (none_said (lengths_clash xs) (two_lengths_lem xs) e)))

  -- what the reader says from 25 on
  abbrev theirs25 : ℕ
  theirs25 =
      cond (tree_right (tree_of (torrent_of plen name xs)))
      (cond (lengths_agree (files_of (torrent_of plen name xs)))
      (cond (layers_fit plen (layers_written xs) (files_of (torrent_of plen name xs)) && no_others plen (files_of (torrent_of plen name xs)) (layers_written xs))
      (cond (layers_give_roots plen (layers_written xs) (files_of (torrent_of plen name xs))) 0 layer_differs)
      layers_amiss)
      two_lengths)
      wrong_tree

  test_25 : is_piece_length plen ≡ true → (TooDeep xs → ⊥) → cond (nothing xs || some wrong_item xs || meet xs) wrong_tree ours26 ≡ theirs25
  test_25 p d = by_tests (nothing xs || some wrong_item xs || meet xs) refl (tree_right (tree_of (torrent_of plen name xs))) refl
    where
      by_tests : (a : Bool) → nothing xs || some wrong_item xs || meet xs ≡ a → (b : Bool) → tree_right (tree_of (torrent_of plen name xs)) ≡ b
          → cond a wrong_tree ours26
          ≡ cond b
          (cond (lengths_agree (files_of (torrent_of plen name xs)))
          (cond (layers_fit plen (layers_written xs) (files_of (torrent_of plen name xs)) && no_others plen (files_of (torrent_of plen name xs)) (layers_written xs))
          (cond (layers_give_roots plen (layers_written xs) (files_of (torrent_of plen name xs))) 0 layer_differs)
          layers_amiss)
          two_lengths)
          wrong_tree
      by_tests true e true f = absurd (wrong_not d f ((wrong_files xs).0 e))
      by_tests true e false f = refl
      by_tests false e true f = let g = tree_good (none_said (nothing xs || some wrong_item xs || meet xs) (wrong_files xs) e) in rw g.files_are (test_26 p)
      by_tests false e false f = let g = tree_good (none_said (nothing xs || some wrong_item xs || meet xs) (wrong_files xs) e) in absurd (false≢true (sym f ∙ g.tree_right_lem))

  value_number_lem : value_number (torrent_of plen name xs) ≡ cond (is_piece_length plen) theirs25 piece_length_out_of_range
  unfolding value_number
  value_number_lem = rw (keys_there plen name xs, version_there plen name xs, plen_there plen name xs, layers_there plen name xs) refl

  test_24 : (TooDeep xs → ⊥) → cond (not (is_piece_length plen)) piece_length_out_of_range (cond (nothing xs || some wrong_item xs || meet xs) wrong_tree ours26) ≡ cond (is_piece_length plen) theirs25 piece_length_out_of_range
  test_24 d = by_test (is_piece_length plen) refl
    where
      by_test : (a : Bool) → is_piece_length plen ≡ a → cond (not a) piece_length_out_of_range (cond (nothing xs || some wrong_item xs || meet xs) wrong_tree ours26) ≡ cond a theirs25 piece_length_out_of_range
      by_test true e = test_25 e d
      by_test false e = refl

  abbrev ours24 : ℕ
  ours24 = cond (not (is_piece_length plen)) piece_length_out_of_range (cond (nothing xs || some wrong_item xs || meet xs) wrong_tree ours26)

  test_21 : cond (some too_deep xs) nested_too_deeply ours24
      ≡ cond (eqb (strictness (encode (dictionary (torrent_of plen name xs)))) 0) (value_number (torrent_of plen name xs)) (strictness (encode (dictionary (torrent_of plen name xs))))
  test_21 = by_test (some too_deep xs) refl
    where
      by_test : (a : Bool) → some too_deep xs ≡ a
          → cond a nested_too_deeply ours24 ≡ cond (eqb (strictness (encode (dictionary (torrent_of plen name xs)))) 0) (value_number (torrent_of plen name xs)) (strictness (encode (dictionary (torrent_of plen name xs))))
      by_test true e = rw (deep_if ((too_deep_lem xs).0 e)) refl
      by_test false e =
          let d = none_said (some too_deep xs) (too_deep_lem xs) e in
          let s : strictness (encode (dictionary (torrent_of plen name xs))) ≡ 0 = taken (encode (dictionary (torrent_of plen name xs))) (torrent_of plen name xs, strict_if d, refl) in
          rw s (test_24 d ∙ sym value_number_lem)

  pub same_number : content_number plen name xs ≡ read_number (torrent_of plen name xs)
  unfolding content_number read_number
  same_number = ap (λ (n : ℕ). cond (too_large plen name xs) torrent_too_large n) test_21

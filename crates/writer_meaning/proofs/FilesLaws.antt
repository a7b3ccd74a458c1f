-- A right tree and its files: paths in tree order of which none leads to, or through, another, and the tree written of the files is not
-- longer. So a right tree is the tree of its files, but for keys that nobody reads.
-- Assumes nothing.
use Rattle.std.specs.Prelude.{◌≡◌, true, ◌⊎◌, ℕ, zero, suc, ◌+◌, ◌≤◌, ◌<◌, length, List, [], ◌∷◌, ◌++◌, map}
use Rattle.std.proofs.Math.Path.{refl, ap}
use Rattle.std.proofs.Common.{sym, ap₂, ◌∙◌, ne_eqb, append_assoc, arith}
use Rattle.std.proofs.Math.Bool.{false}
use Rattle.std.proofs.lemmas.Bool.{false≢true}
use Rattle.std.proofs.Math.Logic.{inl, inr}
use Rattle.std.proofs.lemmas.List.{map-append}
use Rattle.limits.specs.Limits.{longest_file}
use Rattle.octets.specs.Octets.{same, zero_hash}
use Rattle.octets.specs.OctetsLaws.{same_refl, same_ne}
use Rattle.bencode.specs.Grammar.{Value, integer, string, list, dictionary, Entries, no_entries, entry, encode, encode_entries, precedes, KeyBefore, none, after, ascends, Valid, EntriesValid}
use Rattle.bencode.specs.Parts.{present}
use Rattle.bencode.specs.CompleteLaws.{dictionary_length}
use Rattle.sorting.specs.PermutedLaws.{member_append}
use Rattle.sorting.specs.PrecedesLaws.{precedes_differ, precedes_trans}
use Rattle.meaning.specs.Counting.{Member}
use Rattle.meaning.specs.Keys.{key_length, key_pieces_root}
use Rattle.meaning.specs.Torrent.{element_right, File, file_value, files_of_node, files_of_entries, entries_of}
use Rattle.meaning.specs.Amiss.{RightFile, empty, full, RightNode, file, directory, RightDirectory, one, more}
use Rattle.writer_meaning.specs.Content.{Item, path_before, grown, properties}
use Rattle.writer_meaning.specs.Number.{begins}
use Rattle.writer_meaning.proofs.WrittenLaws.{node_first, first_node}
use Rattle.writer_meaning.proofs.TreeLaws.{AllRight}
use Rattle.writer_meaning.proofs.ShorterLaws.{entry_length, entries_length, Covers, shorter}

-- a file without its layer
abbrev pub bare : File → Item
bare f = record { path = f.path; size = f.size; root = f.root; layer = [] }

-- a file further below
abbrev pub under : List (List ℕ) → File → File
under pre f = record { size = f.size; root = f.root; path = pre ++ f.path }

-- the files put into a tree, the last one first
unfoldable pub grow_all : List File → Entries → Entries
grow_all [] es = es
grow_all (f ∷ fs) es = grown f.path (properties (bare f)) (grow_all fs es)

grow_append : (fs gs : List File) (es : Entries) → grow_all (fs ++ gs) es ≡ grow_all fs (grow_all gs es)
unfolding grow_all
grow_append [] gs es = refl
grow_append (f ∷ fs) gs es = ap (grown f.path (properties (bare f))) (grow_append fs gs es)

-- ---- files below a node

mutual
  unfolding files_of_node files_of_entries

  node_under : (pre q : List (List ℕ)) (v : Value) → files_of_node (pre ++ q) v ≡ map (under pre) (files_of_node q v)
  node_under pre q (dictionary es) = entries_under pre q es
  node_under pre q (integer minus n) = refl
  node_under pre q (string b) = refl
  node_under pre q (list vs) = refl

  entries_under : (pre q : List (List ℕ)) (es : Entries) → files_of_entries (pre ++ q) es ≡ map (under pre) (files_of_entries q es)
  entries_under pre q no_entries = refl
  entries_under pre q (entry [] v es) = refl
  entries_under pre q (entry (c ∷ cs) v es) =
      ap₂ (λ (x y : List File). x ++ y)
      (ap (λ (p : List (List ℕ)). files_of_node p v) (append_assoc pre q ((c ∷ cs) ∷ [])) ∙ node_under pre (q ++ (c ∷ cs) ∷ []) v)
      (entries_under pre q es)
      ∙ sym (map-append (under pre) (files_of_node (q ++ (c ∷ cs) ∷ []) v) (files_of_entries q es))

-- the files of a directory: those of its first node, with the node's name before their path, and the others
files_first : (k : List ℕ) (ds es : Entries) → element_right k ≡ true → files_of_entries [] (entry k (dictionary ds) es) ≡ map (under (k ∷ [])) (files_of_entries [] ds) ++ files_of_entries [] es
unfolding element_right files_of_entries
files_first [] ds es r = absurd (false≢true r)
files_first (c ∷ cs) ds es r = ap (λ (l : List File). l ++ files_of_entries [] es) (entries_under ((c ∷ cs) ∷ []) [] ds)

-- ---- a node grows of its files

grown_fresh : (k : List ℕ) (p : List (List ℕ)) (v : Value) (es : Entries) → node_first k es ≡ false → grown (k ∷ p) v es ≡ entry k (dictionary (grown p v no_entries)) es
unfolding grown
grown_fresh k p v no_entries d = refl
grown_fresh k p v (entry j (dictionary ds) es) d = rw d refl
grown_fresh k p v (entry j (integer minus n) es) d = refl
grown_fresh k p v (entry j (string b) es) d = refl
grown_fresh k p v (entry j (list vs) es) d = refl

grown_into : (k : List ℕ) (p : List (List ℕ)) (v : Value) (ds es : Entries) → grown (k ∷ p) v (entry k (dictionary ds) es) ≡ entry k (dictionary (grown p v ds)) es
unfolding grown
grown_into k p v ds es = rw (same_refl k) refl

grow_under : (k : List ℕ) (f : File) (fs : List File) (es : Entries) → node_first k es ≡ false
    → grow_all (map (under (k ∷ [])) (f ∷ fs)) es ≡ entry k (dictionary (grow_all (f ∷ fs) no_entries)) es
unfolding grow_all
grow_under k f [] es d = grown_fresh k f.path (properties (bare f)) es d
grow_under k f (g ∷ fs) es d =
    ap (grown (k ∷ f.path) (properties (bare f))) (grow_under k g fs es d) ∙ grown_into k f.path (properties (bare f)) (grow_all (g ∷ fs) no_entries) es

-- ---- lists

module _ {A B : Type 0} where
  pub member_map : (f : A → B) (xs : List A) (y : B) → Member y (map f xs) → (x : A) × Member x xs × (y ≡ f x)
  unfolding Member
  member_map f [] y m = absurd m
  member_map f (x ∷ xs) y (inl e) = (x, inl refl, e)
  member_map f (x ∷ xs) y (inr m) = let w = member_map f xs y m in (w.0, inr w.1, w.2)

-- one path before another, and neither leads to, or through, the other
abbrev pub Told : File → File → Type 0
Told f g = (path_before f.path g.path ≡ true) × (begins f.path g.path ≡ false) × (begins g.path f.path ≡ false)

unfoldable pub Pairs : List File → Type 0
Pairs [] = Unit {0}
Pairs (f ∷ fs) = ((g : File) → Member g fs → Told f g) × Pairs fs

pairs_append : (xs ys : List File) → Pairs xs → Pairs ys → ((f g : File) → Member f xs → Member g ys → Told f g) → Pairs (xs ++ ys)
unfolding Pairs Member
pairs_append [] ys p q c = q
pairs_append (x ∷ xs) ys p q c =
    ((λ g m. elim (member_append xs ys g m) [ inl k ↦ p.0 g k | inr k ↦ c x g (inl refl) k ]), pairs_append xs ys p.1 q (λ f g m n. c f g (inr m) n))

told_under : (k : List ℕ) (f g : File) → Told f g → Told (under (k ∷ []) f) (under (k ∷ []) g)
told_under k f g t = (before t.0, leads f.path g.path t.1, leads g.path f.path t.2)
  where
    before : path_before f.path g.path ≡ true → path_before (k ∷ f.path) (k ∷ g.path) ≡ true
    before e = unfold path_before in rw (same_refl k) e

    leads : (p q : List (List ℕ)) → begins p q ≡ false → begins (k ∷ p) (k ∷ q) ≡ false
    leads p q e = unfold begins in rw (same_refl k) e

pairs_under : (k : List ℕ) (fs : List File) → Pairs fs → Pairs (map (under (k ∷ [])) fs)
unfolding Pairs
pairs_under k [] p = tt
pairs_under k (f ∷ fs) p =
    ((λ g m. let w = member_map (under (k ∷ [])) fs g m in rw w.2 (told_under k f w.0 (p.0 w.0 w.1))), pairs_under k fs p.1)

-- names that differ tell all below them
told_names : (k j : List ℕ) (f g : File) (p q : List (List ℕ)) → precedes k j ≡ true → f.path ≡ k ∷ p → g.path ≡ j ∷ q → Told f g
told_names k j f g p q h a b = (
  ap₂ path_before a b ∙ before,
  ap₂ begins a b ∙ leads k j p q other,
  ap₂ begins b a ∙ leads j k q p (same_ne j k (λ e. precedes_differ k j h (sym e))),
)
  where
    other : same k j ≡ false
    other = same_ne k j (precedes_differ k j h)

    before : path_before (k ∷ p) (j ∷ q) ≡ true
    before = unfold path_before in rw other h

    leads : (x y : List ℕ) (u w : List (List ℕ)) → same x y ≡ false → begins (x ∷ u) (y ∷ w) ≡ false
    leads x y u w d = unfold begins in rw d refl

-- ---- what holds of the files of a right tree with l levels

pub record FileFacts (l : ℕ) (f : File) : Type 0 where
  pub elements : AllRight f.path
  pub depth : length f.path < l
  pub in_range : f.size ≤ longest_file
  pub empty_root : f.size ≡ 0 → f.root ≡ zero_hash
  pub root_size : length f.root ≡ 32

pub record NodeFacts (l : ℕ) (es : Entries) : Type 0 where
  pub some : (f : File) × (fs : List File) × (files_of_entries [] es ≡ f ∷ fs)
  pub shorter_tree : length (encode_entries (grow_all (files_of_entries [] es) no_entries)) ≤ length (encode_entries es)
  pub each : (f : File) → Member f (files_of_entries [] es) → FileFacts l f
  pub pairs : Pairs (files_of_entries [] es)

-- of a directory also: each path has a first element, behind the key before
pub record DirectoryFacts (j : KeyBefore) (l : ℕ) (es : Entries) : Type 0 where
  pub shorter_tree : length (encode_entries (grow_all (files_of_entries [] es) no_entries)) ≤ length (encode_entries es)
  pub each : (f : File) → Member f (files_of_entries [] es) → FileFacts l f
  pub heads : (f : File) → Member f (files_of_entries [] es) → (e : List ℕ) × (p : List (List ℕ)) × (f.path ≡ e ∷ p) × (ascends j e ≡ true)
  pub pairs : Pairs (files_of_entries [] es)

-- ---- a file's node

-- what is written of a file is not longer than what it was read from
file_shorter : (v : Value) (path : List (List ℕ)) → RightFile v → length (encode (properties (bare (file_value path (entries_of (present v)))))) ≤ length (encode v)
file_shorter v path (empty es l r) = rw l (by_length (dictionary_length (entry key_length (integer false 0) no_entries)) (dictionary_length es))
  where
    cover : length (encode_entries (entry key_length (integer false 0) no_entries)) ≤ length (encode_entries es)
    cover = shorter (entry key_length (integer false 0) no_entries) es none 1 (unfold EntriesValid in (refl, unfold Valid in omega arith, tt)) (unfold Covers in ((integer false 0, l, omega arith), tt))

    by_length : length (encode (dictionary (entry key_length (integer false 0) no_entries))) ≡ suc (length (encode_entries (entry key_length (integer false 0) no_entries)))
        → length (encode (dictionary es)) ≡ suc (length (encode_entries es)) → length (encode (dictionary (entry key_length (integer false 0) no_entries))) ≤ length (encode (dictionary es))
    by_length a b = omega (arith, cover)
file_shorter v path (full es n root l above below r size) = rw (l, r, ne_eqb n 0 (λ z. omega arith)) (by_length (dictionary_length props) (dictionary_length es))
  where
    props : Entries
    props = entry key_length (integer false n) (entry key_pieces_root (string root) no_entries)

    cover : length (encode_entries props) ≤ length (encode_entries es)
    cover =
        shorter props es none 1 (unfold EntriesValid in unfold precedes in (refl, unfold Valid in omega arith, (refl, unfold Valid in tt, tt)))
        (unfold Covers in ((integer false n, l, omega arith), ((string root, r, omega arith), tt)))

    by_length : length (encode (dictionary props)) ≡ suc (length (encode_entries props)) → length (encode (dictionary es)) ≡ suc (length (encode_entries es))
        → length (encode (dictionary props)) ≤ length (encode (dictionary es))
    by_length a b = omega (arith, cover)

-- a file is in range, and has a root of 32 bytes, zeros if it is empty
file_facts : (v : Value) (l : ℕ) → RightFile v → FileFacts (suc l) (file_value [] (entries_of (present v)))
file_facts v l (empty es a r) =
    record {
      elements = unfold AllRight in tt;
      depth = omega arith;
      in_range = rw a (omega arith);
      empty_root = λ z. rw r refl;
      root_size = rw r (unfold zero_hash in refl);
    }
file_facts v l (full es n root a above below r size) =
    record {
      elements = unfold AllRight in tt;
      depth = omega arith;
      in_range = rw a below;
      empty_root = λ z. let q : n ≡ 0 = rw a at z in absurd (omega arith);
      root_size = rw r size;
    }

file_node : (v : Value) (l : ℕ) → RightFile v → Valid v l → NodeFacts l (entry [] v no_entries)
file_node v zero r h = absurd (no_level v r h)
  where
    no_level : (w : Value) → RightFile w → Valid w zero → ⊥
    no_level w (empty es a b) u = unfold Valid in u
    no_level w (full es n root a above below b size) u = unfold Valid in u
file_node v (suc l) r h =
    record {
      some = (file_value [] (entries_of (present v)), [], files);
      shorter_tree = rw files (unfold grow_all in unfold grown in by_length (entries_length [] (properties (bare (file_value [] (entries_of (present v))))) no_entries) (entries_length [] v no_entries));
      each = λ f m. by_one f (rw files at m);
      pairs = rw files (unfold Pairs in ((λ g m. absurd (unfold Member in m)), tt));
    }
  where
    files : files_of_entries [] (entry [] v no_entries) ≡ file_value [] (entries_of (present v)) ∷ []
    files = unfold files_of_entries in refl

    by_length : length (encode_entries (entry [] (properties (bare (file_value [] (entries_of (present v))))) no_entries)) ≡ entry_length [] (properties (bare (file_value [] (entries_of (present v))))) + length (encode_entries no_entries)
        → length (encode_entries (entry [] v no_entries)) ≡ entry_length [] v + length (encode_entries no_entries)
        → length (encode_entries (entry [] (properties (bare (file_value [] (entries_of (present v))))) no_entries)) ≤ length (encode_entries (entry [] v no_entries))
    by_length a b = let s = file_shorter v [] r in omega arith

    by_one : (f : File) → Member f (file_value [] (entries_of (present v)) ∷ []) → FileFacts (suc l) f
    by_one f m = let k : (f ≡ file_value [] (entries_of (present v))) ⊎ ⊥ = unfold Member in m in elim k [ inl e ↦ rw e (file_facts v l r) | inr z ↦ absurd z ]

-- ---- a directory

no_files : (j : KeyBefore) (l : ℕ) → DirectoryFacts j l no_entries
no_files j l =
    record {
      shorter_tree = unfold files_of_entries in unfold grow_all in omega arith;
      each = λ f m. absurd (nobody f m);
      heads = λ f m. absurd (nobody f m);
      pairs = unfold files_of_entries in unfold Pairs in tt;
    }
  where
    nobody : (f : File) → Member f (files_of_entries [] no_entries) → ⊥
    nobody f m = unfold Member in (rw none_there at m)
      where
        none_there : files_of_entries [] no_entries ≡ []
        none_there = unfold files_of_entries in refl

-- the tree of files whose first elements stand behind k does not begin with k
behind_first : (k : List ℕ) (fs : List File) → ((f : File) → Member f fs → (e : List ℕ) × (p : List (List ℕ)) × (f.path ≡ e ∷ p) × (precedes k e ≡ true)) → node_first k (grow_all fs no_entries) ≡ false
unfolding grow_all
behind_first k [] h = refl
behind_first k (f ∷ fs) h = by_head (h f (unfold Member in inl refl))
  where
    by_head : ((e : List ℕ) × (p : List (List ℕ)) × (f.path ≡ e ∷ p) × (precedes k e ≡ true)) → node_first k (grown f.path (properties (bare f)) (grow_all fs no_entries)) ≡ false
    by_head w =
        let n = first_node w.0 w.1 (properties (bare f)) (grow_all fs no_entries) in
        ap (λ (p : List (List ℕ)). node_first k (grown p (properties (bare f)) (grow_all fs no_entries))) w.2 ∙ ap (node_first k) n.tree_is ∙ same_ne k w.0 (precedes_differ k w.0 w.3)

ascends_further : (j : KeyBefore) (k e : List ℕ) → ascends j k ≡ true → precedes k e ≡ true → ascends j e ≡ true
ascends_further none k e a p = refl
ascends_further (after i) k e a p = precedes_trans i k e a p

-- a node and the nodes behind it
with_node : (j : KeyBefore) (l : ℕ) (k : List ℕ) (ds es : Entries) → element_right k ≡ true → ascends j k ≡ true → NodeFacts l ds → DirectoryFacts (after k) (suc l) es → DirectoryFacts j (suc l) (entry k (dictionary ds) es)
with_node j l k ds es r a n d =
    record {
      shorter_tree = rw (files, tree) (by_length (entries_length k (dictionary (grow_all below no_entries)) (grow_all beside no_entries)) (entries_length k (dictionary ds) es) (dictionary_length (grow_all below no_entries)) (dictionary_length ds));
      each = λ f m. elim (member_append (map (under (k ∷ [])) below) beside f (rw files at m)) [ inl p ↦ inside f (member_map (under (k ∷ [])) below f p) | inr q ↦ d.each f q ];
      heads = λ f m. elim (member_append (map (under (k ∷ [])) below) beside f (rw files at m)) [ inl p ↦ first f (member_map (under (k ∷ [])) below f p) | inr q ↦ later f (d.heads f q) ];
      pairs = rw files (pairs_append (map (under (k ∷ [])) below) beside (pairs_under k below n.pairs) d.pairs (λ f g m q. across f g (member_map (under (k ∷ [])) below f m) (d.heads g q)));
    }
  where
    below : List File
    below = files_of_entries [] ds

    beside : List File
    beside = files_of_entries [] es

    files : files_of_entries [] (entry k (dictionary ds) es) ≡ map (under (k ∷ [])) below ++ beside
    files = files_first k ds es r

    tree : grow_all (map (under (k ∷ [])) below ++ beside) no_entries ≡ entry k (dictionary (grow_all below no_entries)) (grow_all beside no_entries)
    tree =
        let s = n.some in
        grow_append (map (under (k ∷ [])) below) beside no_entries
        ∙ ap (λ (l : List File). grow_all (map (under (k ∷ [])) l) (grow_all beside no_entries)) s.2
        ∙ grow_under k s.0 s.1 (grow_all beside no_entries) (behind_first k beside d.heads)
        ∙ ap (λ (l : List File). entry k (dictionary (grow_all l no_entries)) (grow_all beside no_entries)) (sym s.2)

    by_length : length (encode_entries (entry k (dictionary (grow_all below no_entries)) (grow_all beside no_entries))) ≡ entry_length k (dictionary (grow_all below no_entries)) + length (encode_entries (grow_all beside no_entries))
        → length (encode_entries (entry k (dictionary ds) es)) ≡ entry_length k (dictionary ds) + length (encode_entries es)
        → length (encode (dictionary (grow_all below no_entries))) ≡ suc (length (encode_entries (grow_all below no_entries)))
        → length (encode (dictionary ds)) ≡ suc (length (encode_entries ds))
        → length (encode_entries (entry k (dictionary (grow_all below no_entries)) (grow_all beside no_entries))) ≤ length (encode_entries (entry k (dictionary ds) es))
    by_length p q u w = let x = n.shorter_tree in let y = d.shorter_tree in omega arith

    inside : (f : File) → ((g : File) × Member g below × (f ≡ under (k ∷ []) g)) → FileFacts (suc l) f
    inside f w = rw w.2 (deeper_facts w.0 (n.each w.0 w.1))
      where
        deeper_facts : (g : File) → FileFacts l g → FileFacts (suc l) (under (k ∷ []) g)
        deeper_facts g x =
            record {
              elements = unfold AllRight in (r, x.elements);
              depth = let y = x.depth in omega arith;
              in_range = x.in_range;
              empty_root = x.empty_root;
              root_size = x.root_size;
            }

    first : (f : File) → ((g : File) × Member g below × (f ≡ under (k ∷ []) g)) → (e : List ℕ) × (p : List (List ℕ)) × (f.path ≡ e ∷ p) × (ascends j e ≡ true)
    first f w = (k, w.0.path, ap (λ (x : File). x.path) w.2, a)

    later : (f : File) → ((e : List ℕ) × (p : List (List ℕ)) × (f.path ≡ e ∷ p) × (precedes k e ≡ true)) → (e : List ℕ) × (p : List (List ℕ)) × (f.path ≡ e ∷ p) × (ascends j e ≡ true)
    later f w = (w.0, w.1, w.2, ascends_further j k w.0 a w.3)

    across : (f g : File) → ((h : File) × Member h below × (f ≡ under (k ∷ []) h)) → ((e : List ℕ) × (p : List (List ℕ)) × (g.path ≡ e ∷ p) × (precedes k e ≡ true)) → Told f g
    across f g u w = told_names k w.0 f g u.0.path w.1 w.3 (ap (λ (x : File). x.path) u.2) w.2

-- ---- the whole tree

abbrev SomeFile : Entries → Type 0
SomeFile es = (f : File) × (fs : List File) × (files_of_entries [] es ≡ f ∷ fs)

abbrev NodeIs : Value → ℕ → Type 0
NodeIs v l = (m : ℕ) × (ds : Entries) × (l ≡ suc m) × (v ≡ dictionary ds) × NodeFacts m ds

-- a directory's first node, and what stands behind it
first_and_rest : (j : KeyBefore) (l : ℕ) (k : List ℕ) (v : Value) (es : Entries) → element_right k ≡ true → ascends j k ≡ true → NodeIs v l → DirectoryFacts (after k) l es → DirectoryFacts j l (entry k v es) × SomeFile (entry k v es)
first_and_rest j l k v es r a n d = rw (n.3, n.2) (with_node j n.0 k n.1 es r a n.4 (rw n.2 at d), some_there)
  where
    some_there : SomeFile (entry k (dictionary n.1) es)
    some_there =
        let s = n.4.some in (
          under (k ∷ []) s.0,
          map (under (k ∷ [])) s.1 ++ files_of_entries [] es,
          files_first k n.1 es r ∙ ap (λ (l : List File). map (under (k ∷ [])) l ++ files_of_entries [] es) s.2,
        )

directory_node : (l : ℕ) (es : Entries) → DirectoryFacts none l es → SomeFile es → NodeFacts l es
directory_node l es d s = record { some = s; shorter_tree = d.shorter_tree; each = d.each; pairs = d.pairs }

mutual
  unfolding Valid

  node_facts : (v : Value) → RightNode v → (l : ℕ) → Valid v l → NodeIs v l
  node_facts v (file w r) zero h = absurd h
  node_facts v (file w r) (suc l) h = (l, entry [] w no_entries, refl, refl, file_node w l r h.1)
  node_facts v (directory es d) zero h = absurd h
  node_facts v (directory es d) (suc l) h = let w = directory_facts es d none l h in (l, es, refl, refl, directory_node l es w.0 w.1)

  directory_facts : (es : Entries) → RightDirectory es → (j : KeyBefore) (l : ℕ) → EntriesValid es j l → DirectoryFacts j l es × SomeFile es
  directory_facts es (one k v e n) j l h = first_and_rest j l k v no_entries e h.0 (node_facts v n l h.1) (no_files (after k) l)
  directory_facts es (more k v fs e n d) j l h = first_and_rest j l k v fs e h.0 (node_facts v n l h.1) (directory_facts fs d (after k) l h.2).0

pub tree_facts : (es : Entries) (l : ℕ) → RightDirectory es → EntriesValid es none l → DirectoryFacts none l es × ((f : File) × (fs : List File) × (files_of_entries [] es ≡ f ∷ fs))
tree_facts es l d h = directory_facts es d none l h

-- Each number of a value is given exactly if what 01 says of it holds and what the lower ones say does not; 0 exactly if none holds.
-- Assumes nothing.
use Rattle.std.specs.Prelude.{◌≡◌, ◌⊎◌, ◌↔◌, Bool, true, false, ◌&&◌, ℕ, ◌≤◌}
use Rattle.std.proofs.Math.Path.{refl}
use Rattle.std.proofs.Common.{sym, ◌∙◌, inl, inr, arith}
use Rattle.std.proofs.lemmas.Bool.{false≢true}
use Rattle.std.proofs.Math.Bool.{and-eq-true_iff}
use Rattle.numbers.specs.Numbers.{key_missing, other_version, piece_length_out_of_range, wrong_tree, two_lengths, layers_amiss, layer_differs}
use Rattle.numbers.specs.Tests.{through, in_turn, grouped, alone}
use Rattle.numbers.specs.Chain.{Chain, last, test, decided, exactly_of, each}
use Rattle.tree.specs.Geometry.{is_piece_length}
use Rattle.bencode.specs.Grammar.{Entries}
use Rattle.bencode.specs.Parts.{lookup}
use Rattle.meaning.specs.Keys.{key_meta_version}
use Rattle.meaning.specs.Torrent.{has_keys, is_number, info_of, tree_of, plen_of, layers_of, files_of, tree_right, lengths_agree, layers_fit, no_others, layers_give_roots, value_number}
use Rattle.meaning.specs.Amiss.{RightDirectory, LayersRight, Amiss22, Amiss23, Amiss24, Amiss25, Amiss26, Amiss27, Amiss28, NoneBelow23, NoneBelow24, NoneBelow25, NoneBelow26, NoneBelow27, NoneBelow28, NoneAmiss}
use Rattle.meaning.proofs.TestsLaws.{keys_amiss, keys_right, version_amiss, version_right, piece_amiss, piece_right, tree_yes, tree_no, roots_amiss, roots_right, layers_yes, layers_no, gives_amiss, gives_right}

-- 0, or from k to 28
abbrev pub Ranged : ℕ → ℕ → Type 0
Ranged k x = (x ≡ 0) ⊎ ((k ≤ x) × (x ≤ layer_differs))

-- what is not false is true
is_true : (a : Bool) {A : Type 0} → (a ≡ false → A) → (A → ⊥) → a ≡ true
is_true true f g = refl
is_true false f g = absurd (g (f refl))

is_false : (a : Bool) {A : Type 0} → (a ≡ true → A → ⊥) → A → a ≡ false
is_false true f x = absurd (f refl x)
is_false false f x = refl

-- a test fails where something is amiss, and passes where it isn't
passes_unless : (a : Bool) {A : Type 0} → (a ≡ false → A) → (a ≡ true → A → ⊥) → (a ≡ true) ↔ (A → ⊥)
passes_unless a f g = (g, is_true a f)

fails_where : (a : Bool) {A : Type 0} → (a ≡ false → A) → (a ≡ true → A → ⊥) → (a ≡ false) ↔ A
fails_where a f g = (f, is_false a g)

module _ (torrent : Entries) where
  -- ---- the seven tests

  abbrev a : Bool
  a = has_keys torrent

  abbrev b : Bool
  b = is_number 2 (lookup key_meta_version (info_of torrent))

  abbrev c : Bool
  c = is_piece_length (plen_of torrent)

  abbrev d : Bool
  d = tree_right (tree_of torrent)

  abbrev e : Bool
  e = lengths_agree (files_of torrent)

  abbrev f : Bool
  f = layers_fit (plen_of torrent) (layers_of torrent) (files_of torrent) && no_others (plen_of torrent) (files_of torrent) (layers_of torrent)

  abbrev g : Bool
  g = layers_give_roots (plen_of torrent) (layers_of torrent) (files_of torrent)

  abbrev chain : Chain
  chain =
      test a key_missing
      (test b other_version
      (test c piece_length_out_of_range (test d wrong_tree (test e two_lengths (test f layers_amiss (test g layer_differs (last 0)))))))

  number_is : value_number torrent ≡ decided chain
  unfolding value_number
  number_is = refl

  -- the number of a value is 0 or one of 22 to 28
  pub value_ranged : Ranged key_missing (value_number torrent)
  value_ranged = rw number_is (each (Ranged key_missing) chain (inr (omega arith, omega arith), (inr (omega arith, omega arith), (inr (omega arith, omega arith), (inr (omega arith, omega arith), (inr (omega arith, omega arith), (inr (omega arith, omega arith), (inr (omega arith, omega arith), inl refl))))))))

  -- ---- the tests are what they test

  keys : (a ≡ true) ↔ (Amiss22 torrent → ⊥)
  keys = passes_unless a (keys_amiss torrent) (keys_right torrent)

  version : (b ≡ true) ↔ (Amiss23 torrent → ⊥)
  version = passes_unless b (version_amiss torrent) (version_right torrent)

  piece : (c ≡ true) ↔ (Amiss24 torrent → ⊥)
  piece = passes_unless c (piece_amiss torrent) (piece_right torrent)

  tree_false : d ≡ false → Amiss25 torrent
  tree_false q r = false≢true (sym q ∙ tree_no (tree_of torrent) r)

  tree_true : d ≡ true → Amiss25 torrent → ⊥
  tree_true q w = w (tree_yes (tree_of torrent) q)

  tree : (d ≡ true) ↔ (Amiss25 torrent → ⊥)
  tree = passes_unless d tree_false tree_true

  roots : (e ≡ true) ↔ (Amiss26 torrent → ⊥)
  roots = passes_unless e (roots_amiss (files_of torrent)) (roots_right (files_of torrent))

  layers_false : f ≡ false → Amiss27 torrent
  layers_false q r = false≢true (sym q ∙ layers_no (plen_of torrent) (layers_of torrent) (files_of torrent) r)

  layers_true : f ≡ true → Amiss27 torrent → ⊥
  layers_true q w = w (layers_yes (plen_of torrent) (layers_of torrent) (files_of torrent) q)

  layers : (f ≡ true) ↔ (Amiss27 torrent → ⊥)
  layers = passes_unless f layers_false layers_true

  gives_false : f ≡ true → g ≡ false → Amiss28 torrent
  gives_false q = gives_amiss (plen_of torrent) (layers_of torrent) (files_of torrent) ((and-eq-true_iff (layers_fit (plen_of torrent) (layers_of torrent) (files_of torrent)) (no_others (plen_of torrent) (files_of torrent) (layers_of torrent))).0 q).0

  gives_true : g ≡ true → Amiss28 torrent → ⊥
  gives_true = gives_right (plen_of torrent) (layers_of torrent) (files_of torrent)

  -- ---- the tests before a number are passed: nothing lower is amiss

  below23 : {A : Type 0} → ((a ≡ true) × A) ↔ (NoneBelow23 torrent × A)
  below23 = (λ t. (keys.0 t.0, t.1), λ t. (keys.1 t.0, t.1))

  below24 : {A : Type 0} → ((a ≡ true) × ((b ≡ true) × A)) ↔ (NoneBelow24 torrent × A)
  below24 = in_turn below23 (grouped version)

  below25 : {A : Type 0} → ((a ≡ true) × ((b ≡ true) × ((c ≡ true) × A))) ↔ (NoneBelow25 torrent × A)
  below25 = in_turn below24 (grouped piece)

  below26 : {A : Type 0} → ((a ≡ true) × ((b ≡ true) × ((c ≡ true) × ((d ≡ true) × A)))) ↔ (NoneBelow26 torrent × A)
  below26 = in_turn below25 (grouped tree)

  below27 : {A : Type 0} → ((a ≡ true) × ((b ≡ true) × ((c ≡ true) × ((d ≡ true) × ((e ≡ true) × A))))) ↔ (NoneBelow27 torrent × A)
  below27 = in_turn below26 (grouped roots)

  below28 : {A : Type 0} → ((a ≡ true) × ((b ≡ true) × ((c ≡ true) × ((d ≡ true) × ((e ≡ true) × ((f ≡ true) × A)))))) ↔ (NoneBelow28 torrent × A)
  below28 = in_turn below27 (grouped layers)

  -- ---- each number

  -- 22 EXACTLY WHEN a key is missing or of another type
  pub exactly_22 : (value_number torrent ≡ key_missing) ↔ Amiss22 torrent
  exactly_22 = in_turn (exactly_of chain key_missing number_is refl) (fails_where a (keys_amiss torrent) (keys_right torrent))

  -- 23 EXACTLY WHEN no key is amiss and the version isn't 2
  pub exactly_23 : (value_number torrent ≡ other_version) ↔ (NoneBelow23 torrent × Amiss23 torrent)
  exactly_23 = through (in_turn (exactly_of chain other_version number_is refl) below23) (λ w. fails_where b (version_amiss torrent) (version_right torrent))

  -- 24 EXACTLY WHEN those are right and the piece length isn't
  pub exactly_24 : (value_number torrent ≡ piece_length_out_of_range) ↔ (NoneBelow24 torrent × Amiss24 torrent)
  exactly_24 = through (in_turn (exactly_of chain piece_length_out_of_range number_is refl) below24) (λ w. fails_where c (piece_amiss torrent) (piece_right torrent))

  -- 25 EXACTLY WHEN those are right and the file tree isn't
  pub exactly_25 : (value_number torrent ≡ wrong_tree) ↔ (NoneBelow25 torrent × Amiss25 torrent)
  exactly_25 = through (in_turn (exactly_of chain wrong_tree number_is refl) below25) (λ w. fails_where d tree_false tree_true)

  -- 26 EXACTLY WHEN those are right and two non-empty files have one root and different lengths
  pub exactly_26 : (value_number torrent ≡ two_lengths) ↔ (NoneBelow26 torrent × Amiss26 torrent)
  exactly_26 = through (in_turn (exactly_of chain two_lengths number_is refl) below26) (λ w. fails_where e (roots_amiss (files_of torrent)) (roots_right (files_of torrent)))

  -- 27 EXACTLY WHEN those are right and the piece layers aren't those of the longer files, or not of their size
  pub exactly_27 : (value_number torrent ≡ layers_amiss) ↔ (NoneBelow27 torrent × Amiss27 torrent)
  exactly_27 = through (in_turn (exactly_of chain layers_amiss number_is refl) below27) (λ w. fails_where f layers_false layers_true)

  -- 28 EXACTLY WHEN those are right and a layer doesn't give its root
  pub exactly_28 : (value_number torrent ≡ layer_differs) ↔ (NoneBelow28 torrent × Amiss28 torrent)
  exactly_28 = through (in_turn (exactly_of chain layer_differs number_is refl) below28) (λ w. fails_where g (gives_false (layers.1 w.1)) gives_true)

  -- 0 EXACTLY WHEN nothing is amiss
  pub exactly_0 : (value_number torrent ≡ 0) ↔ NoneAmiss torrent
  exactly_0 = through (in_turn (exactly_of chain 0 number_is refl) below28) (λ w. alone (passes_unless g (gives_false (layers.1 w.1)) gives_true))

  -- so where the number is 0 the piece length is in range
  pub right_piece : value_number torrent ≡ 0 → is_piece_length (plen_of torrent) ≡ true
  right_piece q = ((exactly_of chain 0 number_is refl).0 q).1.1.0

  -- the tree is right
  pub right_tree : value_number torrent ≡ 0 → RightDirectory (tree_of torrent)
  right_tree q = tree_yes (tree_of torrent) ((exactly_of chain 0 number_is refl).0 q).1.1.1.0

  -- and so are the layers
  pub all_layers : value_number torrent ≡ 0 → LayersRight (plen_of torrent) (layers_of torrent) (files_of torrent)
  all_layers q = layers_yes (plen_of torrent) (layers_of torrent) (files_of torrent) ((exactly_of chain 0 number_is refl).0 q).1.1.1.1.1.0

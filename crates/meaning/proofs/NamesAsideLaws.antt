-- The rule for path elements changes 25 and nothing else: a torrent whose path elements are all right has the number that it has with the
-- names left aside; another has that number too, or 25.
-- Assumes nothing.
use Rattle.std.specs.Prelude.{◌≡◌, refl, ◌⊎◌, Bool, ◌&&◌, [], ◌∷◌}
use Rattle.std.proofs.Common.{sym, ap, ap₂, ◌∙◌}
use Rattle.std.proofs.Math.Logic.{inl, inr}
use Rattle.std.proofs.Math.Bool.{true, false, and-false}
use Rattle.numbers.specs.Numbers.{wrong_tree}
use Rattle.tree.specs.Geometry.{is_piece_length}
use Rattle.bencode.specs.Grammar.{Value, integer, string, list, dictionary, Entries, no_entries, entry}
use Rattle.bencode.specs.Parts.{lookup}
use Rattle.meaning.specs.Keys.{key_meta_version}
use Rattle.meaning.specs.Torrent.{is_number, info_of, tree_of, plen_of, has_keys, file_right, no_more, element_right, node_right, branch_right, nodes_right, tree_right, number_by, value_number}
use Rattle.meaning.proofs.NamesAside.{node_shaped, branch_shaped, nodes_shaped, tree_shaped, node_named, branch_named, names_right}

-- ---- the tree is right where its shape is and its names are

-- three tests, each of two
both_of_three : (e n m a b c d : Bool) → n ≡ a && c → m ≡ b && d → e && (n && m) ≡ (a && b) && (e && (c && d))
both_of_three true n m true true c d p q = ap₂ ◌&&◌ p q
both_of_three true n m true false c d p q = rw (p, q) (and-false c)
both_of_three true n m false b c d p q = rw p refl
both_of_three false n m a b c d p q = sym (and-false (a && b))

true_behind : (a : Bool) → a ≡ a && true
true_behind true = refl
true_behind false = refl

mutual
  unfolding node_right branch_right nodes_right element_right node_shaped branch_shaped nodes_shaped node_named branch_named names_right

  node_both : (v : Value) → node_right v ≡ node_shaped v && node_named v
  node_both (dictionary es) = branch_both es
  node_both (integer minus n) = refl
  node_both (string b) = refl
  node_both (list vs) = refl

  branch_both : (es : Entries) → branch_right es ≡ branch_shaped es && branch_named es
  branch_both no_entries = refl
  branch_both (entry [] v es) = true_behind (no_more es && file_right v)
  branch_both (entry (c ∷ cs) v es) =
      both_of_three (element_right (c ∷ cs)) (node_right v) (nodes_right es) (node_shaped v) (nodes_shaped es) (node_named v) (names_right es) (node_both v) (nodes_both es)

  nodes_both : (es : Entries) → nodes_right es ≡ nodes_shaped es && names_right es
  nodes_both no_entries = refl
  nodes_both (entry [] v es) = refl
  nodes_both (entry (c ∷ cs) v es) =
      both_of_three (element_right (c ∷ cs)) (node_right v) (nodes_right es) (node_shaped v) (nodes_shaped es) (node_named v) (names_right es) (node_both v) (nodes_both es)

pub tree_both : (es : Entries) → tree_right es ≡ tree_shaped es && names_right es
unfolding tree_right tree_shaped
tree_both no_entries = refl
tree_both (entry k v es) = nodes_both (entry k v es)

-- ---- so is the number

-- a number is by what its rule says of the tree
by_tree : (torrent : Entries) (f g : Entries → Bool) → f (tree_of torrent) ≡ g (tree_of torrent) → number_by f torrent ≡ number_by g torrent
by_tree torrent f g e = rw e refl

-- where all path elements are right it stands
pub names_right_stands : (torrent : Entries) → names_right (tree_of torrent) ≡ true → value_number torrent ≡ number_by tree_shaped torrent
unfolding value_number
names_right_stands torrent e =
    by_tree torrent tree_right tree_shaped (tree_both (tree_of torrent) ∙ ap (λ (b : Bool). tree_shaped (tree_of torrent) && b) e ∙ sym (true_behind (tree_shaped (tree_of torrent))))

-- where one is not, it stands or is 25
pub names_only_25 : (torrent : Entries) → (value_number torrent ≡ number_by tree_shaped torrent) ⊎ (value_number torrent ≡ wrong_tree)
names_only_25 torrent = by_names (names_right (tree_of torrent)) refl
  where
    wrong : names_right (tree_of torrent) ≡ false → tree_right (tree_of torrent) ≡ false
    wrong e = tree_both (tree_of torrent) ∙ ap (λ (b : Bool). tree_shaped (tree_of torrent) && b) e ∙ and-false (tree_shaped (tree_of torrent))

    by_keys : (a b c : Bool) → has_keys torrent ≡ a → is_number 2 (lookup key_meta_version (info_of torrent)) ≡ b → is_piece_length (plen_of torrent) ≡ c → tree_right (tree_of torrent) ≡ false
        → (value_number torrent ≡ number_by tree_shaped torrent) ⊎ (value_number torrent ≡ wrong_tree)
    by_keys false b c p q r e = inl (unfold value_number in rw p refl)
    by_keys true false c p q r e = inl (unfold value_number in rw (p, q) refl)
    by_keys true true false p q r e = inl (unfold value_number in rw (p, q, r) refl)
    by_keys true true true p q r e = inr (unfold value_number in rw (p, q, r, e) refl)

    by_names : (b : Bool) → names_right (tree_of torrent) ≡ b → (value_number torrent ≡ number_by tree_shaped torrent) ⊎ (value_number torrent ≡ wrong_tree)
    by_names true e = inl (names_right_stands torrent e)
    by_names false e = by_keys (has_keys torrent) (is_number 2 (lookup key_meta_version (info_of torrent))) (is_piece_length (plen_of torrent)) refl refl refl (wrong e)

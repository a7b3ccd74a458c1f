-- 25 with the names of path elements left aside, as 01 alone has it: an element is only not empty. Request 5 is what `names_right` adds.
-- Assumes nothing.
use Rattle.std.specs.Prelude.{Bool, true, false, ◌&&◌, List, [], ◌∷◌, ℕ}
use Rattle.bencode.specs.Grammar.{Value, integer, string, list, dictionary, Entries, no_entries, entry}
use Rattle.meaning.specs.Torrent.{file_right, no_more, element_right}

abbrev pub not_empty : List ℕ → Bool
not_empty [] = false
not_empty (c ∷ cs) = true

-- ---- the tree is right, but for its names

unfoldable mutual
  pub node_shaped : Value → Bool
  node_shaped (dictionary es) = branch_shaped es
  node_shaped (integer minus n) = false
  node_shaped (string b) = false
  node_shaped (list vs) = false

  pub branch_shaped : Entries → Bool
  branch_shaped no_entries = false
  branch_shaped (entry [] v es) = no_more es && file_right v
  branch_shaped (entry (c ∷ cs) v es) = node_shaped v && nodes_shaped es

  pub nodes_shaped : Entries → Bool
  nodes_shaped no_entries = true
  nodes_shaped (entry k v es) = not_empty k && (node_shaped v && nodes_shaped es)

unfoldable pub tree_shaped : Entries → Bool
tree_shaped no_entries = false
tree_shaped (entry k v es) = nodes_shaped (entry k v es)

-- ---- each name in it is a path element; the empty key of a file is none

unfoldable mutual
  pub node_named : Value → Bool
  node_named (dictionary es) = branch_named es
  node_named (integer minus n) = true
  node_named (string b) = true
  node_named (list vs) = true

  pub branch_named : Entries → Bool
  branch_named no_entries = true
  branch_named (entry [] v es) = true
  branch_named (entry (c ∷ cs) v es) = element_right (c ∷ cs) && (node_named v && names_right es)

  pub names_right : Entries → Bool
  names_right no_entries = true
  names_right (entry k v es) = element_right k && (node_named v && names_right es)

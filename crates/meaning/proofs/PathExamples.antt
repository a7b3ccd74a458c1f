-- Path elements at the rule's edge, each as a file's and as a directory's; and paths that do lead out of a folder.
-- Assumes nothing.
use Rattle.std.specs.Prelude.{◌≡◌, refl, Bool, true, false, List, [], ◌∷◌, ℕ}
use Rattle.octets.specs.Octets.{same}
use Rattle.bencode.specs.Grammar.{Value, integer, dictionary, no_entries, entry}
use Rattle.bencode.specs.Parts.{lookup}
use Rattle.meaning.specs.Keys.{key_length}
use Rattle.meaning.specs.Torrent.{without, dot, dots, slash, element_right, file_right, node_right, branch_right, nodes_right, tree_right}
use Rattle.meaning.specs.Paths.{written, to_zero, above, step, walk, split, follow}

abbrev empty_file : Value
empty_file = dictionary (entry [] (dictionary (entry key_length (integer false 0) no_entries)) no_entries)

abbrev a : List ℕ
a = 97 ∷ []

-- a tree that is a file of that name, or a directory of that name with a file `a` in it, is right or not
abbrev Tree : List ℕ → Bool → Type 0
Tree name right = (tree_right (entry name empty_file no_entries) ≡ right) × (tree_right (entry name (dictionary (entry a empty_file no_entries)) no_entries) ≡ right)

-- ---- refused

pub one_dot : Tree dot false
unfolding tree_right nodes_right branch_right node_right file_right element_right without same lookup
one_dot = (refl, refl)

pub two_dots : Tree dots false
unfolding tree_right nodes_right branch_right node_right file_right element_right without same lookup
two_dots = (refl, refl)

pub a_slash : Tree (97 ∷ slash ∷ 98 ∷ []) false
unfolding tree_right nodes_right branch_right node_right file_right element_right without same lookup
a_slash = (refl, refl)

pub a_zero : Tree (97 ∷ 0 ∷ []) false
unfolding tree_right nodes_right branch_right node_right file_right element_right without same lookup
a_zero = (refl, refl)

-- ---- allowed: `...`, `. `, `..a`, a backslash, a byte above 127

pub three_dots : Tree (46 ∷ 46 ∷ 46 ∷ []) true
unfolding tree_right nodes_right branch_right node_right file_right element_right without same lookup
three_dots = (refl, refl)

pub dot_and_space : Tree (46 ∷ 32 ∷ []) true
unfolding tree_right nodes_right branch_right node_right file_right element_right without same lookup
dot_and_space = (refl, refl)

pub dots_and_more : Tree (46 ∷ 46 ∷ 97 ∷ []) true
unfolding tree_right nodes_right branch_right node_right file_right element_right without same lookup
dots_and_more = (refl, refl)

pub backslash : Tree (92 ∷ []) true
unfolding tree_right nodes_right branch_right node_right file_right element_right without same lookup
backslash = (refl, refl)

pub above_127 : Tree (255 ∷ []) true
unfolding tree_right nodes_right branch_right node_right file_right element_right without same lookup
above_127 = (refl, refl)

-- ---- from the folder x/y: `..` and `a` lead to x/a, and so does `../a`; `/a` leads to a; `..` and a zero byte lead to x

abbrev x : List ℕ
x = 120 ∷ []

abbrev y : List ℕ
y = 121 ∷ []

pub dots_lead_out : follow (x ∷ y ∷ []) (to_zero (written (dots ∷ a ∷ []))) ≡ x ∷ a ∷ []
unfolding follow to_zero written walk step above split same
dots_lead_out = refl

pub slash_leads_out : (follow (x ∷ y ∷ []) (to_zero (written ((46 ∷ 46 ∷ slash ∷ 97 ∷ []) ∷ []))) ≡ x ∷ a ∷ []) × (follow (x ∷ y ∷ []) (to_zero (written ((slash ∷ 97 ∷ []) ∷ []))) ≡ a ∷ [])
unfolding follow to_zero written walk step above split same
slash_leads_out = (refl, refl)

pub zero_leads_out : follow (x ∷ y ∷ []) (to_zero (written ((46 ∷ 46 ∷ 0 ∷ []) ∷ []))) ≡ x ∷ []
unfolding follow to_zero written walk step above split same
zero_leads_out = refl

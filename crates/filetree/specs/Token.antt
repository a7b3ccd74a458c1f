-- What stands next in an open directory of the file tree, by its position. s is the part of the torrent that `file tree` is.
-- Assumes nothing.
use Rattle.bencode.specs.declared.walk.Amiss.{Amiss}
use Rattle.std.specs.Prelude.{Bool, false, cond, List, [], ◌∷◌, ℕ, ◌+◌, ◌-◌, drop, eqb, Option, Some, None, Err, Ok, Result}
use Rattle.octets.specs.Octets.{cut}
use Rattle.limits.specs.Limits.{max_levels}
use Rattle.bencode.specs.Grammar.{letter_e}
use Rattle.bencode.specs.Scalar.{read_string}
use Rattle.bencode.specs.Walk.{walk_value}
use Rattle.bencode.specs.Parts.{is_dictionary}
use Rattle.bencode.specs.declared.part.Part.{Part}
use Rattle.meaning.specs.Torrent.{element_right}
use Rattle.filetree.specs.File.{file_at}
use Rattle.filetree.specs.declared.file.File.{File}
use Rattle.filetree.specs.declared.token.Token.{Token}
use Rattle.filetree.specs.declared.token.Token.TheVariants.{Opened, Closed, Leaf}

-- a directory inside with key a to b; the directory's end; a file with key a to b, n bytes and the root at r, up to k
abbrev pub opened_token : ℕ → ℕ → Option Token
opened_token a b = Some (Opened a b)

abbrev pub closed_token : Option Token
closed_token = Some Closed

abbrev pub leaf_token : ℕ → ℕ → ℕ → ℕ → ℕ → Option Token
leaf_token a b n r k = Some (Leaf a b n r k)

-- whether a dictionary ends here
unfoldable pub ends_here : List ℕ → Bool
ends_here [] = false
ends_here (c ∷ cs) = eqb c letter_e

-- a file is all that its node has: behind it stands the node's end
abbrev pub behind_file : List ℕ → ℕ → ℕ → ℕ → ℕ → Result ℕ Amiss → Option Token
behind_file s a b n r (Err e) = None
behind_file s a b n r (Ok k) = cond (ends_here (drop k s)) (leaf_token a b n r (k + 1)) None

unfoldable pub past_file : List ℕ → ℕ → ℕ → ℕ → ℕ → ℕ → Option Token
past_file s a b n r at = behind_file s a b n r (walk_value max_levels at (drop at s))

abbrev pub with_file : List ℕ → ℕ → ℕ → ℕ → Option File → Option Token
with_file s a b at None = None
with_file s a b at (Some w) = past_file s a b w.length w.root at

-- the file with key a to b, whose dictionary is at `at`
unfoldable pub file_token : List ℕ → ℕ → ℕ → ℕ → Option Token
file_token s a b at = with_file s a b at (file_at s at)

-- the node with key a to b, by its first key: an empty one is a file's
abbrev pub first_key : List ℕ → ℕ → ℕ → Option Part → Option Token
first_key s a b None = None
first_key s a b (Some w) = cond (eqb w.start w.end) (file_token s a b w.end) (opened_token a b)

-- a node is a dictionary, and not an empty one
unfoldable pub node_token : List ℕ → ℕ → ℕ → Option Token
node_token s a b =
    cond (is_dictionary (drop b s))
    (cond (ends_here (drop (b + 1) s)) None (first_key s a b (read_string (b + 1) (drop (b + 1) s))))
    None

-- each key of a directory is a path element
abbrev pub key_token : List ℕ → Option Part → Option Token
key_token s None = None
key_token s (Some w) = cond (element_right (cut s w.start (w.end - w.start))) (node_token s w.start w.end) None

-- what stands next in an open directory
unfoldable pub token_at : List ℕ → ℕ → Option Token
token_at s at = cond (ends_here (drop at s)) closed_token (key_token s (read_string at (drop at s)))

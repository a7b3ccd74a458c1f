-- Strict bytes as a torrent: the value that they encode, and that the keys and the files read from positions are those of the value.
-- Assumes nothing.
use Rattle.std.specs.Prelude.{◌≡◌, refl, Bool, true, false, cond, List, ℕ}
use Rattle.std.proofs.Common.{sym, ◌∙◌, arith}
use Rattle.meaning.specs.Keys.{key_meta_version}
use Rattle.limits.specs.Limits.{max_levels}
use Rattle.numbers.specs.Numbers.{key_missing, other_version, piece_length_out_of_range, wrong_tree}
use Rattle.tree.specs.Geometry.{is_piece_length}
use Rattle.bencode.specs.Grammar.{dictionary, Entries, encode, Valid}
use Rattle.bencode.specs.Parts.{lookup}
use Rattle.metainfo.specs.Metainfo.{bytes_in, keys_of}
use Rattle.filetree.specs.Tree.{right, listed, files_in}
use Rattle.meaning.specs.Torrent.{is_number, info_of, tree_of, has_keys, plen_of, tree_right, files_of, value_number}
use Rattle.filetree.specs.Reading.{read_files}
use Rattle.joined.specs.TreeLaws.{tree_right_lem, tree_files}
use Rattle.joined.specs.KeysLaws.{keys_number, KeysAt, keys_point}

-- ---- the order of the numbers

-- the number by three tests, and then what the others say
abbrev by_keys : Bool → Bool → Bool → ℕ → ℕ
by_keys a b c n = cond a (cond b (cond c n piece_length_out_of_range) other_version) key_missing

-- where a test fails the others say nothing
some_fails : (a b c : Bool) (n : ℕ) → (by_keys a b c 0 ≡ 0 → ⊥) → by_keys a b c n ≡ by_keys a b c 0
some_fails true true true n h = absurd (h refl)
some_fails true true false n h = refl
some_fails true false c n h = refl
some_fails false b c n h = refl

-- where none fails they say all
none_fails : (a b c : Bool) (n : ℕ) → by_keys a b c 0 ≡ 0 → by_keys a b c n ≡ n
none_fails true true true n e = refl
none_fails true true false n e = absurd (omega arith)
none_fails true false c n e = absurd (omega arith)
none_fails false b c n e = absurd (omega arith)

-- where the keys are wrong the value's number is theirs
pub keys_first : (torrent : Entries) → (keys_number torrent ≡ 0 → ⊥) → value_number torrent ≡ keys_number torrent
unfolding keys_number value_number
keys_first torrent h = some_fails (has_keys torrent) (is_number 2 (lookup key_meta_version (info_of torrent))) (is_piece_length (plen_of torrent)) _ h

-- where they are right and the tree is not, it is 25
pub tree_next : (torrent : Entries) → keys_number torrent ≡ 0 → tree_right (tree_of torrent) ≡ false → value_number torrent ≡ wrong_tree
unfolding keys_number value_number
tree_next torrent h e = none_fails (has_keys torrent) (is_number 2 (lookup key_meta_version (info_of torrent))) (is_piece_length (plen_of torrent)) _ h ∙ rw e refl

-- ---- keys and tree

module _ (s : List ℕ) (torrent : Entries) (start : s ≡ encode (dictionary torrent)) (valid : Valid (dictionary torrent) max_levels) (e : (keys_of s).number ≡ 0) where
  -- the keys point at the values
  at_values : KeysAt s torrent (keys_of s)
  at_values = keys_point s torrent start valid e

  -- the tree's part is right exactly if the value's tree is
  pub torrent_tree : right (files_in (bytes_in s (keys_of s).tree)) ≡ tree_right (tree_of torrent)
  torrent_tree = tree_right_lem (bytes_in s (keys_of s).tree) (tree_of torrent) at_values.tree_bytes_lem at_values.tree_valid

  -- and then its files are those of the value
  pub torrent_files : right (files_in (bytes_in s (keys_of s).tree)) ≡ true → read_files (bytes_in s (keys_of s).tree) (listed (files_in (bytes_in s (keys_of s).tree))) ≡ files_of torrent
  torrent_files q = tree_files (bytes_in s (keys_of s).tree) (tree_of torrent) at_values.tree_bytes_lem at_values.tree_valid (sym torrent_tree ∙ q)

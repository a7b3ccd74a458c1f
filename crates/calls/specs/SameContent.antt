-- 02, request 2: what 26 says of the bytes of a torrent; and 26 as it was before the request, kept here to say which torrents the request
-- leaves as they were.
-- Assumes nothing.
use Rattle.std.specs.Prelude.{◌≡◌, Bool, true, cond, not, ◌&&◌, ◌||◌, List, [], ◌∷◌, ℕ, ◌≤◌, length, eqb}
use Rattle.octets.specs.Octets.{same}
use Rattle.limits.specs.Limits.{largest_torrent, max_levels}
use Rattle.numbers.specs.Numbers.{key_missing, other_version, piece_length_out_of_range, wrong_tree, two_lengths, layers_amiss, layer_differs}
use Rattle.tree.specs.Geometry.{is_piece_length}
use Rattle.bencode.specs.Grammar.{dictionary, Entries, encode, Valid}
use Rattle.bencode.specs.Parts.{lookup}
use Rattle.meaning.specs.Keys.{key_meta_version}
use Rattle.meaning.specs.Torrent.{File, is_number, info_of, tree_of, files_of, plen_of, layers_of, has_keys, tree_right, layers_fit, no_others, layers_give_roots}
use Rattle.meaning.specs.Amiss.{TwoLengths, NoneBelow26}

-- the bytes encode a torrent with nothing amiss below 26 in which two non-empty files have one root and different lengths
abbrev pub TwoLengthsIn : List ℕ → Type 0
TwoLengthsIn s =
    (length s ≤ largest_torrent) × ((es : Entries) × Valid (dictionary es) max_levels × (s ≡ encode (dictionary es)) × NoneBelow26 es × TwoLengths (files_of es))

-- ---- as it was

-- no non-empty file has this root
unfoldable pub none_with : List ℕ → List File → Bool
none_with root [] = true
none_with root (f ∷ fs) = not (not (eqb f.size 0) && same root f.root) && none_with root fs

-- no two non-empty files have one root, whatever their lengths
unfoldable pub roots_apart : List File → Bool
roots_apart [] = true
roots_apart (f ∷ fs) = (eqb f.size 0 || none_with f.root fs) && roots_apart fs

-- the number of a value by that rule; all else is `value_number`
unfoldable pub number_before : Entries → ℕ
number_before torrent =
    cond (has_keys torrent)
    (cond (is_number 2 (lookup key_meta_version (info_of torrent)))
    (cond (is_piece_length (plen_of torrent))
    (cond (tree_right (tree_of torrent))
    (cond (roots_apart (files_of torrent))
    (cond (layers_fit (plen_of torrent) (layers_of torrent) (files_of torrent) && no_others (plen_of torrent) (files_of torrent) (layers_of torrent))
    (cond (layers_give_roots (plen_of torrent) (layers_of torrent) (files_of torrent))
    0
    layer_differs)
    layers_amiss)
    two_lengths)
    wrong_tree)
    piece_length_out_of_range)
    other_version)
    key_missing

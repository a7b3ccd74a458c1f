-- 02, request 4: the number of a list's content, 19 and 21 to 28; 22 and 23 are never given. `Refused` has each of them as a relation.
-- Assumes nothing.
use Rattle.std.specs.Prelude.{Bool, true, false, cond, ◌&&◌, ◌||◌, not, List, [], ◌∷◌, ℕ, ◌+◌, ◌*◌, length, eqb, ltb}
use Rattle.limits.specs.Limits.{largest_torrent, longest_file, max_levels}
use Rattle.numbers.specs.Numbers.{torrent_too_large, nested_too_deeply, piece_length_out_of_range, wrong_tree, two_lengths, layers_amiss, layer_differs}
use Rattle.octets.specs.Octets.{same, zero_hash}
use Rattle.tree.specs.Geometry.{block_count, height, is_piece_length, piece_layer, piece_count, has_layer}
use Rattle.tree.specs.Values.{layer_root}
use Rattle.bencode.specs.Grammar.{dictionary, encode}
use Rattle.meaning.specs.Torrent.{element_right}
use Rattle.writer_meaning.specs.Content.{Item, torrent_of}

-- whether one of a list passes a test
module _ {A : Type 0} where
  unfoldable pub some : (A → Bool) → List A → Bool
  some test [] = false
  some test (x ∷ xs) = test x || some test xs

-- whether a path leads to, or through, where another ends
unfoldable pub begins : List (List ℕ) → List (List ℕ) → Bool
begins [] q = true
begins (e ∷ p) [] = false
begins (e ∷ p) (f ∷ q) = same e f && begins p q

-- 19: one byte more than the largest torrent would be written
abbrev pub too_large : ℕ → List ℕ → List Item → Bool
too_large plen name xs = ltb largest_torrent (length (encode (dictionary (torrent_of plen name xs))))

-- 21: the outer dictionary, `info`, `file tree`, a level for each element, the properties
abbrev pub too_deep : Item → Bool
too_deep x = ltb max_levels (length x.path + 4)

-- 25: an empty path, a wrong element, a length out of range, an empty file with a root
abbrev pub no_elements : List (List ℕ) → Bool
no_elements [] = true
no_elements (e ∷ p) = false

abbrev pub wrong_item : Item → Bool
wrong_item x =
    no_elements x.path || some (λ (e : List ℕ). not (element_right e)) x.path
    || ltb longest_file x.size || (eqb x.size 0 && not (same x.root zero_hash))

-- two files with one path, or one in a directory that is a file too
abbrev pub one_path : Item → Item → Bool
one_path x y = begins x.path y.path || begins y.path x.path

unfoldable pub meet : List Item → Bool
meet [] = false
meet (x ∷ xs) = some (one_path x) xs || meet xs

abbrev pub nothing : List Item → Bool
nothing [] = true
nothing (x ∷ xs) = false

-- non-empty files with one root
abbrev pub one_root : Item → Item → Bool
one_root x y = ltb 0 x.size && ltb 0 y.size && same x.root y.root

-- 26: of different lengths
abbrev pub lengths_clash : List Item → Bool
lengths_clash xs = some (λ (x : Item). some (λ (y : Item). one_root x y && not (eqb x.size y.size)) xs) xs

-- 27: 32 bytes for each piece of a file longer than the piece length, none for another
abbrev pub layer_size : ℕ → Item → ℕ
layer_size plen x = cond (has_layer x.size plen) (32 * piece_count x.size plen) 0

abbrev pub misfit : ℕ → Item → Bool
misfit plen x = not (eqb (length x.layer) (layer_size plen x))

-- 28: a layer that does not give its root, or one root with two layers
abbrev pub gives_other : ℕ → Item → Bool
gives_other plen x = has_layer x.size plen && not (same (layer_root x.layer (piece_layer plen) (height (block_count x.size))) x.root)

abbrev pub two_layers : List Item → Bool
two_layers xs = some (λ (x : Item). some (λ (y : Item). one_root x y && not (same x.layer y.layer)) xs) xs

-- the lowest
unfoldable pub content_number : ℕ → List ℕ → List Item → ℕ
content_number plen name xs =
    cond (too_large plen name xs) torrent_too_large
    (cond (some too_deep xs) nested_too_deeply
    (cond (not (is_piece_length plen)) piece_length_out_of_range
    (cond (nothing xs || some wrong_item xs || meet xs) wrong_tree
    (cond (lengths_clash xs) two_lengths
    (cond (some (misfit plen) xs) layers_amiss
    (cond (some (gives_other plen) xs || two_layers xs) layer_differs
    0))))))

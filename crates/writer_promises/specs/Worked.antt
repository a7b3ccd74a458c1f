-- 02, request 4: cases worked by hand.
-- Assumes nothing.
use Rattle.std.specs.Prelude.{◌≡◌, refl, true, List, [], ◌∷◌, ◌++◌, ℕ, replicate}
use Rattle.std.proofs.Common.{ap, ◌∙◌, subst}
use Rattle.octets.specs.Octets.{same, cut, number_at, pasted, zero_hash}
use Rattle.numbers.specs.Numbers.{done}
use Rattle.numbers.specs.declared.Answer.{Answer}
use Rattle.tree.specs.Geometry.{is_piece_length, piece_layer, height, height_from, has_layer}
use Rattle.bencode.specs.Grammar.{string, dictionary, no_entries, entry, precedes, decimal_in, encode}
use Rattle.bencode.specs.Parts.{lookup}
use Rattle.meaning.specs.Torrent.{layers_of, element_right, without}
use Rattle.sorting.specs.SortedBy.{sorted_by, inserted}
use Rattle.writer_meaning.specs.Content.{Item, path_before, in_tree_order, grown, tree_of_all, layers_given, layer_put, layers_of_all, torrent_of}
use Rattle.writer_meaning.specs.Number.{some, meet, content_number}
use Rattle.writer_lists.specs.Lists.{elements_fit, elements_in, item_at, form_at, form_up_to, items_up_to, list_form, content_of}
use Rattle.writer.specs.Write.{write_number, write_answer, write_after}
use Rattle.writer_promises.specs.Published.{Gives, written_bytes}
use Rattle.writer_promises.specs.Promised.{read_back, written_torrent}

-- ---- `a/b` stands before `a.txt`, though the joined paths stand the other way round

abbrev empty_file : List (List ℕ) → Item
empty_file path = record { path = path; size = 0; root = zero_hash; layer = [] }

abbrev dotted : Item
dotted = empty_file ((97 ∷ 46 ∷ 116 ∷ 120 ∷ 116 ∷ []) ∷ [])

abbrev below : Item
below = empty_file ((97 ∷ []) ∷ (98 ∷ []) ∷ [])

pub by_element : in_tree_order (dotted ∷ below ∷ []) ≡ below ∷ dotted ∷ []
unfolding sorted_by inserted path_before same precedes
by_element = refl

-- ---- the layer of twins is written once

abbrev twin : ℕ → Item
twin letter = record { path = (letter ∷ []) ∷ []; size = 32768; root = replicate 32 7; layer = replicate 64 9 }

pub once : layers_of (torrent_of 16384 [] (twin 97 ∷ twin 98 ∷ [])) ≡ entry (replicate 32 7) (string (replicate 64 9)) no_entries
unfolding torrent_of lookup same sorted_by inserted layers_given layers_of_all layer_put precedes
once = refl

-- ---- every byte of a small torrent: an empty file `a`, the name `n`, pieces of 16 KiB

-- length 0, root 0, no layer, and the path in the first five bytes of the text
abbrev tiny_list : List ℕ
tiny_list =
    0 ∷ 0 ∷ 0 ∷ 0 ∷ 0 ∷ 0 ∷ 0 ∷ 0 ∷ 0 ∷ 0 ∷ 0 ∷ 0 ∷ 0 ∷ 0 ∷ 0 ∷ 0 ∷ 0 ∷ 0 ∷ 0 ∷ 0 ∷ 0 ∷ 0 ∷ 0 ∷ 0 ∷ 0 ∷ 0 ∷ 0 ∷ 0 ∷ 0 ∷ 0 ∷ 0 ∷ 0 ∷
    0 ∷ 0 ∷ 0 ∷ 0 ∷ 0 ∷ 0 ∷ 0 ∷ 0 ∷ 0 ∷ 0 ∷ 0 ∷ 0 ∷ 0 ∷ 0 ∷ 0 ∷ 0 ∷ 0 ∷ 0 ∷ 0 ∷ 0 ∷ 0 ∷ 0 ∷ 0 ∷ 5 ∷ []

abbrev tiny_text : List ℕ
tiny_text = 0 ∷ 0 ∷ 0 ∷ 1 ∷ 97 ∷ []

-- d4:infod9:file treed1:ad0:d6:lengthi0eeee12:meta versioni2e4:name1:n12:piece lengthi16384ee12:piece layersdee
abbrev tiny_torrent : List ℕ
tiny_torrent =
    100 ∷ 52 ∷ 58 ∷ 105 ∷ 110 ∷ 102 ∷ 111 ∷ 100 ∷ 57 ∷ 58 ∷ 102 ∷ 105 ∷ 108 ∷ 101 ∷ 32 ∷ 116 ∷ 114 ∷ 101 ∷ 101 ∷ 100 ∷ 49 ∷ 58 ∷ 97
    ∷ 100 ∷ 48 ∷ 58 ∷ 100 ∷ 54 ∷ 58 ∷ 108 ∷ 101 ∷ 110 ∷ 103 ∷ 116 ∷ 104 ∷ 105 ∷ 48 ∷ 101 ∷ 101 ∷ 101 ∷ 101 ∷ 49 ∷ 50 ∷ 58 ∷ 109 ∷
    101 ∷ 116 ∷ 97 ∷ 32 ∷ 118 ∷ 101 ∷ 114 ∷ 115 ∷ 105 ∷ 111 ∷ 110 ∷ 105 ∷ 50 ∷ 101 ∷ 52 ∷ 58 ∷ 110 ∷ 97 ∷ 109 ∷ 101 ∷ 49 ∷ 58 ∷ 110
    ∷ 49 ∷ 50 ∷ 58 ∷ 112 ∷ 105 ∷ 101 ∷ 99 ∷ 101 ∷ 32 ∷ 108 ∷ 101 ∷ 110 ∷ 103 ∷ 116 ∷ 104 ∷ 105 ∷ 49 ∷ 54 ∷ 51 ∷ 56 ∷ 52 ∷ 101 ∷ 101
    ∷ 49 ∷ 50 ∷ 58 ∷ 112 ∷ 105 ∷ 101 ∷ 99 ∷ 101 ∷ 32 ∷ 108 ∷ 97 ∷ 121 ∷ 101 ∷ 114 ∷ 115 ∷ 100 ∷ 101 ∷ 101 ∷ []

pub tiny_content : content_of tiny_list tiny_text ≡ empty_file ((97 ∷ []) ∷ []) ∷ []
unfolding content_of items_up_to item_at elements_in number_at cut zero_hash
tiny_content = refl

pub tiny_bytes : encode (dictionary (torrent_of 16384 (110 ∷ []) (empty_file ((97 ∷ []) ∷ []) ∷ []))) ≡ tiny_torrent
unfolding torrent_of tree_of_all grown sorted_by inserted layers_given layers_of_all encode decimal_in
tiny_bytes = refl

tiny_form : list_form tiny_list tiny_text ≡ true
unfolding list_form form_up_to form_at elements_fit number_at cut
tiny_form = refl

tiny_number : content_number 16384 (110 ∷ []) (empty_file ((97 ∷ []) ∷ []) ∷ []) ≡ 0
unfolding content_number some meet element_right without is_piece_length piece_layer height height_from has_layer same zero_hash
tiny_number = rw tiny_bytes refl

-- into 111 bytes: 0 and the size, 109; the two bytes behind stay
pub tiny_written : (write_answer tiny_list tiny_text 16384 (110 ∷ []) (replicate 111 255) ≡ done 109)
    × (write_after tiny_list tiny_text 16384 (110 ∷ []) (replicate 111 255) ≡ tiny_torrent ++ (255 ∷ 255 ∷ []))
unfolding write_answer write_after write_number pasted
tiny_written = rw (tiny_form, tiny_content, tiny_number, tiny_bytes) (refl, refl)

-- and these bytes are read as that file
read_as : (list text : List ℕ) (plen : ℕ) (name out : List ℕ) (n : ℕ) (bytes : List ℕ) (xs : List Item) → write_answer list text plen name out ≡ done n
    → content_of list text ≡ xs → in_tree_order xs ≡ xs → encode (dictionary (torrent_of plen name xs)) ≡ bytes → Gives bytes plen xs
read_as list text plen name out n bytes xs e f g h =
    subst (λ (s : List ℕ). Gives s plen xs) (written_torrent list text plen name out zero ∙ ap (λ (ys : List Item). encode (dictionary (torrent_of plen name ys))) f ∙ h)
    (subst (λ (ys : List Item). Gives (written_bytes list text plen name out) plen ys) (ap in_tree_order f ∙ g) (read_back list text plen name out zero))
  where
    zero : (write_answer list text plen name out).number ≡ 0
    zero = ap (λ (a : Answer). a.number) e

tiny_order : in_tree_order (empty_file ((97 ∷ []) ∷ []) ∷ []) ≡ empty_file ((97 ∷ []) ∷ []) ∷ []
unfolding sorted_by inserted
tiny_order = refl

pub tiny_read : Gives tiny_torrent 16384 (empty_file ((97 ∷ []) ∷ []) ∷ [])
tiny_read = read_as tiny_list tiny_text 16384 (110 ∷ []) (replicate 111 255) 109 tiny_torrent (empty_file ((97 ∷ []) ∷ []) ∷ []) tiny_written.0 tiny_content tiny_order tiny_bytes

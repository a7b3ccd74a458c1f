-- 02, request 4: the list of files in its two lent memories, records of 56 bytes and the text that they point into; its form and its content.
-- Assumes nothing.
use Rattle.std.specs.Prelude.{Bool, true, cond, ◌&&◌, List, [], ◌∷◌, ◌++◌, ℕ, zero, suc, ◌+◌, ◌*◌, ◌/◌, ◌%◌, ◌^◌, length, drop, eqb, ltb, leb}
use Rattle.octets.specs.Octets.{cut, number_at}
use Rattle.writer_meaning.specs.Content.{Item}

-- length (8), root (32), start and size of the layer, start and size of the path (4 each)
abbrev pub record_size : ℕ
record_size = 56

-- ---- a path: its elements in a row, each a size (4 bytes) and so many bytes. More steps than bytes are enough

abbrev pub element_end : List ℕ → ℕ
element_end s = 4 + number_at s 0 4

unfoldable pub elements_fit : ℕ → List ℕ → Bool
elements_fit zero s = eqb (length s) 0
elements_fit (suc steps) s =
    cond (eqb (length s) 0) true (leb 4 (length s) && (leb (element_end s) (length s) && elements_fit steps (drop (element_end s) s)))

unfoldable pub elements_in : ℕ → List ℕ → List (List ℕ)
elements_in zero s = []
elements_in (suc steps) s = cond (eqb (length s) 0) [] (cut s 4 (number_at s 0 4) ∷ elements_in steps (drop (element_end s) s))

-- ---- a record

-- a part of the text, by start and size at a place of the list; whether it ends within the text
abbrev pub part_at : List ℕ → List ℕ → ℕ → List ℕ
part_at list text at = cut text (number_at list at 4) (number_at list (at + 4) 4)

abbrev pub part_fits : List ℕ → List ℕ → ℕ → Bool
part_fits list text at = leb (number_at list at 4 + number_at list (at + 4) 4) (length text)

abbrev pub path_at : List ℕ → List ℕ → ℕ → List ℕ
path_at list text at = part_at list text (at + 48)

unfoldable pub item_at : List ℕ → List ℕ → ℕ → Item
item_at list text at =
    record {
      path = elements_in (length (path_at list text at)) (path_at list text at);
      size = number_at list at 8;
      root = cut list (at + 8) 32;
      layer = part_at list text (at + 40);
    }

unfoldable pub form_at : List ℕ → List ℕ → ℕ → Bool
form_at list text at =
    ltb (number_at list at 8) (2 ^ 63)
    && (part_fits list text (at + 40) && (part_fits list text (at + 48) && elements_fit (length (path_at list text at)) (path_at list text at)))

-- ---- the list

unfoldable pub form_up_to : List ℕ → List ℕ → ℕ → Bool
form_up_to list text zero = true
form_up_to list text (suc n) = form_up_to list text n && form_at list text (record_size * n)

unfoldable pub items_up_to : List ℕ → List ℕ → ℕ → List Item
items_up_to list text zero = []
items_up_to list text (suc n) = items_up_to list text n ++ item_at list text (record_size * n) ∷ []

abbrev pub record_count : List ℕ → ℕ
record_count list = length list / record_size

unfoldable pub list_form : List ℕ → List ℕ → Bool
list_form list text = eqb (length list % record_size) 0 && form_up_to list text (record_count list)

unfoldable pub content_of : List ℕ → List ℕ → List Item
content_of list text = items_up_to list text (record_count list)

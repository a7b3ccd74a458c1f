-- 02, request 5: the path of a file as a host reads it from the answers, and where it leads from a folder.
-- Assumes nothing.
use Rattle.std.specs.Prelude.{List, [], ◌∷◌, ℕ, zero, suc, ◌+◌, ◌*◌}
use Rattle.octets.specs.Octets.{cut, number_at}
use Rattle.meaning.specs.Paths.{written, to_zero, Location, follow}
use Rattle.torrent.specs.Torrent.{file_read, path_read}
use Rattle.catalogue.specs.Catalogue.{record_size}

-- the bytes that `kd_torrent_path` names for element k of file n
abbrev pub element_read : List ℕ → ℕ → ℕ → List ℕ
element_read s n k = cut s (path_read s n k).start (path_read s n k).size

-- so many of them, from element k on
unfoldable pub elements_read : List ℕ → ℕ → ℕ → ℕ → List (List ℕ)
elements_read s n k zero = []
elements_read s n k (suc count) = element_read s n k ∷ elements_read s n (suc k) count

-- as many as `kd_torrent_file` says
abbrev pub file_path : List ℕ → ℕ → List (List ℕ)
file_path s n = elements_read s n 0 (file_read s n).elements

-- where it leads, if it is handed to the system in a folder
abbrev pub file_leads : Location → List ℕ → ℕ → Location
file_leads folder s n = follow folder (to_zero (written (file_path s n)))

-- record n of a list, how many elements it says the path has, and the bytes that it names for element k
abbrev pub record_at : List ℕ → ℕ → List ℕ
record_at out n = cut out (record_size * n) record_size

abbrev pub record_elements : List ℕ → ℕ
record_elements r = number_at r 48 4

abbrev pub record_element : List ℕ → List ℕ → ℕ → List ℕ
record_element s r k = cut s (number_at r (56 + 8 * k) 4) (number_at r (60 + 8 * k) 4)

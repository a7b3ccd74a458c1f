-- 02, request 4: a torrent written of a list into lent memory. 4 if the list is not in its form; else the content's number; 11 if the
-- torrent does not fit; else 0 and its size, and it stands at the start of the output. A refusal leaves every byte.
-- Assumes nothing.
use Rattle.std.specs.Prelude.{cond, List, ℕ, length, eqb, ltb}
use Rattle.octets.specs.Octets.{pasted}
use Rattle.numbers.specs.Numbers.{wrong_size, no_room, refused, done}
use Rattle.numbers.specs.declared.Answer.{Answer}
use Rattle.bencode.specs.Grammar.{dictionary, encode}
use Rattle.writer_meaning.specs.Content.{torrent_of}
use Rattle.writer_meaning.specs.Number.{content_number}
use Rattle.writer_lists.specs.Lists.{list_form, content_of}

-- the bytes of the torrent
abbrev pub torrent_bytes : List ℕ → List ℕ → ℕ → List ℕ → List ℕ
torrent_bytes list text plen name = encode (dictionary (torrent_of plen name (content_of list text)))

unfoldable pub write_number : List ℕ → List ℕ → ℕ → List ℕ → ℕ → ℕ
write_number list text plen name room =
    cond (list_form list text)
    (cond (eqb (content_number plen name (content_of list text)) 0)
    (cond (ltb room (length (torrent_bytes list text plen name))) no_room 0)
    (content_number plen name (content_of list text)))
    wrong_size

unfoldable pub write_answer : List ℕ → List ℕ → ℕ → List ℕ → List ℕ → Answer
write_answer list text plen name out =
    cond (eqb (write_number list text plen name (length out)) 0) (done (length (torrent_bytes list text plen name)))
    (refused (write_number list text plen name (length out)))

unfoldable pub write_after : List ℕ → List ℕ → ℕ → List ℕ → List ℕ → List ℕ
write_after list text plen name out =
    cond (eqb (write_number list text plen name (length out)) 0) (pasted out 0 (torrent_bytes list text plen name)) out

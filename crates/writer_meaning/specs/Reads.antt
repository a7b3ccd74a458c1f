-- 02, request 4, "round trip": the content that is read from a torrent, and so the list that can be written of it again.
-- Assumes nothing.
use Rattle.std.specs.Prelude.{cond, List, [], map}
use Rattle.tree.specs.Geometry.{has_layer}
use Rattle.bencode.specs.Grammar.{Entries}
use Rattle.bencode.specs.Parts.{lookup}
use Rattle.meaning.specs.Torrent.{File, files_of, plen_of, layers_of, layer_bytes}
use Rattle.writer_meaning.specs.Content.{Item}

-- a file as it was read, with its layer; a file not longer than the piece length has an empty one
abbrev pub item_read : Entries → File → Item
item_read t f = record { path = f.path; size = f.size; root = f.root; layer = cond (has_layer f.size (plen_of t)) (layer_bytes (lookup f.root (layers_of t))) [] }

unfoldable pub content_read : Entries → List Item
content_read t = map (item_read t) (files_of t)

-- BEP 52: the keys of a torrent that are read, as ASCII. Every other key is skipped.
-- Assumes nothing.
use Rattle.std.specs.Prelude.{List, [], ◌∷◌, ℕ}

-- `info`
abbrev pub key_info : List ℕ
key_info = 105 ∷ 110 ∷ 102 ∷ 111 ∷ []

-- `piece layers`
abbrev pub key_piece_layers : List ℕ
key_piece_layers = 112 ∷ 105 ∷ 101 ∷ 99 ∷ 101 ∷ 32 ∷ 108 ∷ 97 ∷ 121 ∷ 101 ∷ 114 ∷ 115 ∷ []

-- in `info`: `file tree`
abbrev pub key_file_tree : List ℕ
key_file_tree = 102 ∷ 105 ∷ 108 ∷ 101 ∷ 32 ∷ 116 ∷ 114 ∷ 101 ∷ 101 ∷ []

-- `piece length`
abbrev pub key_piece_length : List ℕ
key_piece_length = 112 ∷ 105 ∷ 101 ∷ 99 ∷ 101 ∷ 32 ∷ 108 ∷ 101 ∷ 110 ∷ 103 ∷ 116 ∷ 104 ∷ []

-- `meta version`
abbrev pub key_meta_version : List ℕ
key_meta_version = 109 ∷ 101 ∷ 116 ∷ 97 ∷ 32 ∷ 118 ∷ 101 ∷ 114 ∷ 115 ∷ 105 ∷ 111 ∷ 110 ∷ []

-- in a file's dictionary: `length`
abbrev pub key_length : List ℕ
key_length = 108 ∷ 101 ∷ 110 ∷ 103 ∷ 116 ∷ 104 ∷ []

-- `pieces root`
abbrev pub key_pieces_root : List ℕ
key_pieces_root = 112 ∷ 105 ∷ 101 ∷ 99 ∷ 101 ∷ 115 ∷ 32 ∷ 114 ∷ 111 ∷ 111 ∷ 116 ∷ []

-- BEP 3 and BEP 47: the keys of the v1 half of a hybrid, as ASCII. (`length` is among BEP 52's.)
-- Assumes nothing.
use Rattle.std.specs.Prelude.{List, [], ◌∷◌, ℕ}

-- in `info`: `pieces`
abbrev pub key_pieces : List ℕ
key_pieces = 112 ∷ 105 ∷ 101 ∷ 99 ∷ 101 ∷ 115 ∷ []

-- `files`
abbrev pub key_files : List ℕ
key_files = 102 ∷ 105 ∷ 108 ∷ 101 ∷ 115 ∷ []

-- `name`
abbrev pub key_name : List ℕ
key_name = 110 ∷ 97 ∷ 109 ∷ 101 ∷ []

-- in an entry of `files`: `path`
abbrev pub key_path : List ℕ
key_path = 112 ∷ 97 ∷ 116 ∷ 104 ∷ []

-- `attr`
abbrev pub key_attr : List ℕ
key_attr = 97 ∷ 116 ∷ 116 ∷ 114 ∷ []

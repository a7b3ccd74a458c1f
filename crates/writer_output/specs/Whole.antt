-- The torrent in two parts: up to the entries of `piece layers`, of files in tree order; and from there on, of files by root and layer.
-- Assumes nothing.
use Rattle.std.specs.Prelude.{List, [], ◌∷◌, ◌++◌, ℕ}
use Rattle.bencode.specs.Grammar.{letter_e, decimal, encode_string, none}
use Rattle.writer_meaning.specs.Content.{Item, layers_given}
use Rattle.writer_meaning.specs.Written.{tree_bytes}
use Rattle.writer_output.specs.Layers.{layers_bytes}

-- `d4:infod9:file treed`
abbrev pub word_tree : List ℕ
word_tree = 100 ∷ 52 ∷ 58 ∷ 105 ∷ 110 ∷ 102 ∷ 111 ∷ 100 ∷ 57 ∷ 58 ∷ 102 ∷ 105 ∷ 108 ∷ 101 ∷ 32 ∷ 116 ∷ 114 ∷ 101 ∷ 101 ∷ 100 ∷ []

-- `12:meta versioni2e4:name`
abbrev pub word_name : List ℕ
word_name =
    49 ∷ 50 ∷ 58 ∷ 109 ∷ 101 ∷ 116 ∷ 97 ∷ 32 ∷ 118 ∷ 101 ∷ 114 ∷ 115 ∷ 105 ∷ 111 ∷ 110 ∷ 105 ∷ 50 ∷ 101 ∷ 52 ∷ 58 ∷ 110 ∷ 97 ∷ 109 ∷ 101 ∷
    []

-- `12:piece lengthi`
abbrev pub word_plen : List ℕ
word_plen = 49 ∷ 50 ∷ 58 ∷ 112 ∷ 105 ∷ 101 ∷ 99 ∷ 101 ∷ 32 ∷ 108 ∷ 101 ∷ 110 ∷ 103 ∷ 116 ∷ 104 ∷ 105 ∷ []

-- `ee12:piece layersd`
abbrev pub word_layers : List ℕ
word_layers = 101 ∷ 101 ∷ 49 ∷ 50 ∷ 58 ∷ 112 ∷ 105 ∷ 101 ∷ 99 ∷ 101 ∷ 32 ∷ 108 ∷ 97 ∷ 121 ∷ 101 ∷ 114 ∷ 115 ∷ 100 ∷ []

unfoldable pub info_bytes : ℕ → List ℕ → List Item → List ℕ
info_bytes plen name xs = word_tree ++ (tree_bytes [] xs ++ (word_name ++ (encode_string name ++ (word_plen ++ (decimal plen ++ word_layers)))))

unfoldable pub rest_bytes : List Item → List ℕ
rest_bytes xs = layers_bytes none (layers_given xs) ++ letter_e ∷ []

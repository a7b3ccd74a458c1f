-- The answers of the crates below, as the structs of include/kombudeva.h.
-- Assumes nothing.
use Rattle.numbers.specs.declared.Answer.{Answer}
use Rattle.sha256.specs.declared.Hashed.{Hashed}
use Rattle.facts.specs.Facts.{FactsRead}
use Rattle.torrent.specs.Torrent.{PartRead, FileRead, Torrent}
use Rattle.v1.specs.V1.{HybridRead, V1Piece, V1Part}
use Rattle.kombudeva.specs.declared.CountAnswer.{CountAnswer}
use Rattle.kombudeva.specs.declared.HashAnswer.{HashAnswer}
use Rattle.kombudeva.specs.declared.FactsAnswer.{FactsAnswer}
use Rattle.kombudeva.specs.declared.TorrentAnswer.{TorrentAnswer}
use Rattle.kombudeva.specs.declared.FileAnswer.{FileAnswer}
use Rattle.kombudeva.specs.declared.PartAnswer.{PartAnswer}
use Rattle.kombudeva.specs.declared.HybridAnswer.{HybridAnswer}
use Rattle.kombudeva.specs.declared.V1PieceAnswer.{V1PieceAnswer}
use Rattle.kombudeva.specs.declared.V1PartAnswer.{V1PartAnswer}

unfoldable pub count_answer : Answer → CountAnswer
count_answer r = record { number = r.number; count = r.count }

unfoldable pub hash_answer : Hashed → HashAnswer
hash_answer r = record { number = r.number; hash = record { bytes = r.hash } }

unfoldable pub facts_struct : FactsRead → FactsAnswer
facts_struct r = record { number = r.number; length = r.length; piece_length = r.plen; root = record { bytes = r.root } }

unfoldable pub torrent_answer : Torrent → TorrentAnswer
torrent_answer r = record { number = r.number; info_hash = record { bytes = r.hash }; piece_length = r.plen; files = r.files }

unfoldable pub file_answer : FileRead → FileAnswer
file_answer r =
    record { number = r.number; length = r.length; root = record { bytes = r.root }; elements = r.elements; layer_start = r.start; layer_size = r.size }

unfoldable pub part_answer : PartRead → PartAnswer
part_answer r = record { number = r.number; start = r.start; size = r.size }

unfoldable pub hybrid_answer : HybridRead → HybridAnswer
hybrid_answer r = record { number = r.number; hybrid = r.hybrid; info_hash = record { bytes = r.hash } }

unfoldable pub v1_piece_answer : V1Piece → V1PieceAnswer
v1_piece_answer r = record { number = r.number; hash = record { bytes = r.hash }; zeros = r.zeros }

unfoldable pub v1_part_answer : V1Part → V1PartAnswer
v1_part_answer r = record { number = r.number; start = r.start; size = r.size; zeros = r.zeros }

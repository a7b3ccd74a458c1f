-- 02, request 1: what begin, more and end of a history answer, and what they leave of the lent layer; for any state.
-- Assumes nothing.
use Rattle.std.specs.Prelude.{◌≡◌, List, [], Bool, true, cond, ◌&&◌, ℕ, ◌+◌, ◌-◌, ◌*◌, ◌%◌, ◌≤◌, length, replicate, eqb, ltb, leb}
use Rattle.octets.specs.Octets.{pasted, zero_hash}
use Rattle.numbers.specs.Numbers.{unusable, facts_out_of_range, no_room}
use Rattle.limits.specs.Limits.{longest_file}
use Rattle.running.specs.Bursts.{state_of}
use Rattle.tree.specs.Geometry.{block_length, is_piece_length, piece_layer, has_layer, piece_count}
use Rattle.history.specs.Growing.{node_count, grown_by, noted_by, last_node, root_of}
use Rattle.history.specs.declared.History.{History}
use Rattle.history.specs.declared.HistoryAnswer.{HistoryAnswer}
use Rattle.history.specs.declared.HistoryEnd.{HistoryEnd}

-- no bytes yet
unfoldable pub empty_history : ℕ → History
empty_history plen = record { piece_length = plen; length = 0; block = state_of []; nodes = replicate (32 * node_count) 0 }

-- what stands beside a bad piece length
unfoldable pub no_history : History
no_history =
    record {
      piece_length = 0;
      length = 0;
      block = record { words = replicate 8 0; tail = replicate 64 0; tail_size = 0; total = 0 };
      nodes = replicate (32 * node_count) 0;
    }

unfoldable pub begin_answer : ℕ → HistoryAnswer
begin_answer plen =
    cond (is_piece_length plen) (record { number = 0; history = empty_history plen }) (record { number = facts_out_of_range; history = no_history })

-- whether some bursts give these counts: the block's are those of N
unfoldable pub possible_counts : History → Bool
possible_counts s =
    is_piece_length s.piece_length && leb s.length longest_file && eqb s.block.total (s.length % block_length)
    && eqb s.block.tail_size (s.block.total % 64)

-- a state whose counts some bursts give, count by count
pub record Possible (s : History) : Type 0 where
  pub pieces : is_piece_length s.piece_length ≡ true
  pub short : s.length ≤ longest_file
  pub inside : s.block.total ≡ s.length % block_length
  pub tail : s.block.tail_size ≡ s.block.total % 64

-- how many pieces n bytes have run past
unfoldable pub passed : ℕ → ℕ → ℕ
passed n plen = piece_count n plen - 1

-- whether a hash that a burst of k bytes makes due doesn't fit the lent layer of m bytes
unfoldable pub no_room_for : History → ℕ → ℕ → Bool
no_room_for s k m =
    ltb (passed s.length s.piece_length) (passed (s.length + k) s.piece_length) && ltb m (32 * passed (s.length + k) s.piece_length)

-- the number for a burst of k bytes and a lent layer of m.
-- 9: counts that no bursts give; 10: past the longest file; 11: a hash due doesn't fit
unfoldable pub more_number : History → ℕ → ℕ → ℕ
more_number s k m =
    cond (possible_counts s) (cond (leb (s.length + k) longest_file) (cond (no_room_for s k m) no_room 0) facts_out_of_range) unusable

-- a refusal hands back the state as it was given
unfoldable pub more_answer : History → List ℕ → List ℕ → HistoryAnswer
more_answer s ys layer =
    record { number = more_number s (length ys) (length layer); history = cond (eqb (more_number s (length ys) (length layer)) 0) (grown_by s ys) s }

-- and leaves the lent layer
unfoldable pub more_layer : History → List ℕ → List ℕ → List ℕ
more_layer s ys layer = cond (eqb (more_number s (length ys) (length layer)) 0) (noted_by s layer ys) layer

-- how many bytes the piece layer of n bytes has: none if the file isn't longer than the piece length
unfoldable pub layer_bytes : ℕ → ℕ → ℕ
layer_bytes n plen = cond (has_layer n plen) (32 * piece_count n plen) 0

unfoldable pub layer_size : History → ℕ
layer_size s = layer_bytes s.length s.piece_length

-- the number at the end, for a lent layer of m bytes.
-- 9: counts that no bursts give; 11: the layer doesn't fit
unfoldable pub end_number : History → ℕ → ℕ
end_number s m = cond (possible_counts s) (cond (ltb m (layer_size s)) no_room 0) unusable

unfoldable pub end_answer : History → List ℕ → HistoryEnd
end_answer s layer =
    cond (eqb (end_number s (length layer)) 0)
    (record { number = 0; length = s.length; root = root_of s; layer_size = layer_size s })
    (record { number = end_number s (length layer); length = 0; root = zero_hash; layer_size = 0 })

-- the lent layer with the last piece's hash, if there is a layer
unfoldable pub with_last : History → List ℕ → List ℕ
with_last s layer =
    cond (has_layer s.length s.piece_length) (pasted layer (layer_size s - 32) (last_node s (piece_layer s.piece_length))) layer

unfoldable pub end_layer : History → List ℕ → List ℕ
end_layer s layer = cond (eqb (end_number s (length layer)) 0) (with_last s layer) layer

-- 02, request 4: the contents that are written, as a relation: nothing that a number is given for. What 28 says of a layer stands apart.
-- Assumes nothing.
use Rattle.std.specs.Prelude.{◌≡◌, true, false, List, [], ℕ, ◌+◌, ◌*◌, ◌≤◌, ◌<◌, length}
use Rattle.limits.specs.Limits.{longest_file, max_levels}
use Rattle.octets.specs.Octets.{zero_hash}
use Rattle.tree.specs.Geometry.{block_count, height, is_piece_length, piece_layer, piece_count}
use Rattle.tree.specs.Values.{layer_root}
use Rattle.meaning.specs.Counting.{Member}
use Rattle.writer_meaning.specs.Content.{Item}
use Rattle.writer_meaning.specs.Number.{meet}
use Rattle.writer_meaning.proofs.TreeLaws.{PathRight}

pub record Fine (plen : ℕ) (xs : List Item) : Type 0 where
  pub some_file : xs ≡ [] → ⊥
  pub shallow : (x : Item) → Member x xs → length x.path + 4 ≤ max_levels
  pub piece_length_lem : is_piece_length plen ≡ true
  pub path_right : (x : Item) → Member x xs → PathRight x.path
  pub in_range : (x : Item) → Member x xs → x.size ≤ longest_file
  pub empty_root : (x : Item) → Member x xs → x.size ≡ 0 → x.root ≡ zero_hash
  pub paths_apart : meet xs ≡ false
  pub one_length : (x y : Item) → Member x xs → Member y xs → 0 < x.size → 0 < y.size → x.root ≡ y.root → x.size ≡ y.size
  pub layer_fits : (x : Item) → Member x xs → plen < x.size → length x.layer ≡ 32 * piece_count x.size plen
  pub no_layer : (x : Item) → Member x xs → x.size ≤ plen → x.layer ≡ []
  pub one_layer : (x y : Item) → Member x xs → Member y xs → 0 < x.size → 0 < y.size → x.root ≡ y.root → x.layer ≡ y.layer

-- and each layer gives its root
pub record Good (plen : ℕ) (xs : List Item) : Type 0 where
  pub fine : Fine plen xs
  pub layer_gives : (x : Item) → Member x xs → plen < x.size → layer_root x.layer (piece_layer plen) (height (block_count x.size)) ≡ x.root

-- 02, request 4: the contents of which the number is what the reader says of the torrent that would be written; and what the reader says
-- of a value without a v1 half, by 19, then 20 and 21, then 22 to 28.
-- Assumes nothing.
use Rattle.std.specs.Prelude.{◌≡◌, cond, List, [], map, ℕ, ◌^◌, ◌<◌, length, eqb, ltb}
use Rattle.limits.specs.Limits.{largest_torrent}
use Rattle.numbers.specs.Numbers.{torrent_too_large}
use Rattle.octets.specs.Octets.{zero_hash}
use Rattle.bencode.specs.Grammar.{Entries, dictionary, encode}
use Rattle.bencode.specs.Strict.{strictness}
use Rattle.meaning.specs.Counting.{Member, Distinct}
use Rattle.meaning.specs.Torrent.{value_number}
use Rattle.writer_meaning.specs.Content.{Item}
use Rattle.writer_meaning.proofs.RightLaws.{PathFull}

pub record Plain (plen : ℕ) (xs : List Item) : Type 0 where
  -- no path repeats, and no path and no element is empty
  pub no_repeat : Distinct (map (λ (x : Item). x.path) xs)
  pub path_full : (x : Item) → Member x xs → PathFull x.path
  -- no root has two layers
  pub one_layer : (x y : Item) → Member x xs → Member y xs → 0 < x.size → 0 < y.size → x.root ≡ y.root → x.layer ≡ y.layer
  -- empty files have the zero root and no layer
  pub empty_root : (x : Item) → Member x xs → x.size ≡ 0 → x.root ≡ zero_hash
  pub empty_layer : (x : Item) → Member x xs → x.size ≡ 0 → x.layer ≡ []
  -- integers of 64 bits, roots of 32 bytes
  pub piece_fits : plen < 2 ^ 63
  pub size_fits : (x : Item) → Member x xs → x.size < 2 ^ 63
  pub wide : (x : Item) → Member x xs → length x.root ≡ 32

unfoldable pub read_number : Entries → ℕ
read_number t =
    cond (ltb largest_torrent (length (encode (dictionary t)))) torrent_too_large
    (cond (eqb (strictness (encode (dictionary t))) 0) (value_number t)
    (strictness (encode (dictionary t))))

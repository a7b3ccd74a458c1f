-- 02, request 12: the list of a pure v2 torrent is that of its v2 half alone, as it is of the calls for the torrent, a file and a path
-- element (`torrent`'s HalvesMeans).
-- Assumes nothing.
use Rattle.std.specs.Prelude.{◌≡◌, List, ℕ}
use Rattle.std.proofs.Math.Path.{ap}
use Rattle.limits.specs.Limits.{max_levels}
use Rattle.bencode.specs.Grammar.{dictionary, Entries, encode, Valid}
use Rattle.bencode.specs.Parts.{absent, lookup}
use Rattle.meaning.specs.Torrent.{info_of}
use Rattle.halves.specs.V1Keys.{key_pieces}
use Rattle.torrent.specs.Torrent.{v2_checked_of}
use Rattle.torrent.specs.HalvesMeans.{as_before}
use Rattle.catalogue.specs.Catalogue.{answer_in, after_in, list_answer, list_after}

module _ (s : List ℕ) (es : Entries) (start : s ≡ encode (dictionary es)) (valid : Valid (dictionary es) max_levels) (pure : lookup key_pieces (info_of es) ≡ absent) (out : List ℕ) where
  pub list_as_before : list_answer s out ≡ answer_in out (v2_checked_of s)
  unfolding list_answer
  list_as_before = ap (answer_in out) (as_before s es start valid pure)

  pub output_as_before : list_after s out ≡ after_in s out (v2_checked_of s)
  unfolding list_after
  output_as_before = ap (after_in s out) (as_before s es start valid pure)

-- What is worked out of a list before a byte is written, and the positions of its records that the two parts are written of.
-- Assumes nothing.
use Rattle.std.specs.Prelude.{◌≡◌, true, List, map, ℕ, ◌≤◌, length, Result, Ok, Err, ⊤}
use Rattle.numbers.specs.Refusals.{code_of}
use Rattle.numbers.specs.declared.Refused.{Refused}
use Rattle.writer_meaning.specs.Content.{item_before}
use Rattle.writer_meaning.specs.Number.{content_number}
use Rattle.writer_lists.specs.Lists.{record_count, item_at, list_form, content_of}
use Rattle.writer_order.specs.Order.{root_before, AllInForm, InOrder, most_files}
use Rattle.writer_output.specs.Whole.{rest_bytes}
use Rattle.writer.specs.Write.{torrent_bytes}

-- the refusal of what gives a size
abbrev pub sized : Result ℕ Refused → Result ⊤ Refused
sized (Ok n) = Ok tt
sized (Err why) = Err why

-- a list in its form, of no more records than files go into a torrent, and work space for as many positions, twice
pub record Prepared (list text at room : List ℕ) : Type 0 where
  pub form : list_form list text ≡ true
  pub few : record_count list ≤ most_files
  pub at_size : length at ≡ record_count list
  pub room_size : length room ≡ record_count list

-- the content's number, or the size of the torrent where it is 0; the positions are in tree order
pub record MeasuredRight (list text : List ℕ) (plen : ℕ) (name at : List ℕ) (m : Result ℕ Refused) : Type 0 where
  pub tree_order : InOrder item_before list text at
  pub number_is : code_of (sized m) ≡ content_number plen name (content_of list text)
  pub size_is : (n : ℕ) → m ≡ Ok n → n ≡ length (torrent_bytes list text plen name)

-- the second part of these positions is that of positions by root and layer: they are so, or there are no layers
pub record ForRest (list text at : List ℕ) : Type 0 where
  pub placed : AllInForm list text at
  pub roots : List ℕ
  pub by_root : InOrder root_before list text roots
  pub as_roots : rest_bytes (map (item_at list text) at) ≡ rest_bytes (map (item_at list text) roots)

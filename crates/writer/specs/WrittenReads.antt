-- What was written beside 0 reads back: its bytes stand at the start of the output, they are strict bencoding of at most 1 MiB and 32
-- levels, and the value has the name, the piece length and, in tree order, the list's files with their layers.
-- Assumes nothing.
use Rattle.std.specs.Prelude.{◌≡◌, ◌⊎◌, List, [], ◌∷◌, map, ℕ, zero, suc, ◌+◌, ◌*◌, ◌≤◌, ◌<◌}
use Rattle.std.proofs.Math.Path.{refl, ap}
use Rattle.std.proofs.Common.{◌∙◌, inl, inr, arith, div-add-mod', ltb-false}
use Rattle.std.proofs.Math.ListN.{length}
use Rattle.limits.specs.Limits.{largest_torrent, max_levels}
use Rattle.octets.specs.Octets.{cut}
use Rattle.octets.specs.OctetsLaws.{cut_length, cut_pasted_same}
use Rattle.bencode.specs.Grammar.{string, dictionary, Valid}
use Rattle.bencode.specs.Parts.{present, lookup}
use Rattle.meaning.specs.Counting.{Member}
use Rattle.meaning.specs.Torrent.{info_of, plen_of, layers_of, files_of, value_number}
use Rattle.writer_meaning.specs.Content.{Item, in_tree_order, torrent_of, key_name}
use Rattle.writer_meaning.proofs.ContentLaws.{file_of_item}
use Rattle.sorting.specs.PermutedLaws.{member_append}
use Rattle.writer_meaning.proofs.Good.{Good}
use Rattle.writer_meaning.proofs.GoodLaws.{all_passed, good}
use Rattle.writer_meaning.proofs.ReadBack.{plen_there, name_there, layers_there, strict, files_there, layer_there, number_there}
use Rattle.writer_lists.specs.Lists.{record_size, record_count, item_at, items_up_to, content_of}
use Rattle.writer.specs.Write.{torrent_bytes, write_number, write_after}
use Rattle.writer.specs.WriteLaws.{Written, written}

-- every root of a list has 32 bytes
items_wide : (list text : List ℕ) (n : ℕ) → record_size * n ≤ length list → (x : Item) → Member x (items_up_to list text n) → length x.root
    ≡ 32
unfolding items_up_to Member
items_wide list text zero h x m = absurd m
items_wide list text (suc n) h x m = elim (member_append (items_up_to list text n) (item_at list text (record_size * n) ∷ []) x m)
    [ inl p ↦ items_wide list text n (omega arith) x p | inr q ↦ last q ]
  where
    there : length (item_at list text (record_size * n)).root ≡ 32
    there = unfold item_at in cut_length list (record_size * n + 8) 32 (omega arith)

    last : Member x (item_at list text (record_size * n) ∷ []) → length x.root ≡ 32
    last q = by_place (unfold Member in q)
      where
        by_place : (x ≡ item_at list text (record_size * n)) ⊎ ⊥ → length x.root ≡ 32
        by_place (inl e) = ap (λ (y : Item). length y.root) e ∙ there
        by_place (inr z) = absurd z

pub content_wide : (list text : List ℕ) (x : Item) → Member x (content_of list text) → length x.root ≡ 32
unfolding content_of
content_wide list text x m = items_wide list text (record_count list) (let d = div-add-mod' (length list) record_size in omega arith) x m

-- ---- what was written

module _ (list text : List ℕ) (plen : ℕ) (name out : List ℕ) (e : write_number list text plen name (length out) ≡ 0) where
  w : Written list text plen name (length out)
  w = written list text plen name (length out) e

  pub content_good : Good plen (content_of list text)
  content_good = good plen name (content_of list text) (all_passed plen name (content_of list text) w.number)

  -- the torrent stands at the start of the output
  pub bytes_there : cut (write_after list text plen name out) 0 (length (torrent_bytes list text plen name)) ≡ torrent_bytes list text plen
      name
  unfolding write_after
  bytes_there =
      rw e (cut_pasted_same out 0 (torrent_bytes list text plen name) (length (torrent_bytes list text plen name)) refl
      (let f = w.fits in omega arith))

  pub not_large : length (torrent_bytes list text plen name) ≤ largest_torrent
  not_large =
      ltb-false largest_torrent (length (torrent_bytes list text plen name))
      (all_passed plen name (content_of list text) w.number).not_large

  pub is_strict : Valid (dictionary (torrent_of plen name (content_of list text))) max_levels
  is_strict = strict plen name (content_of list text) content_good.fine (content_wide list text)

  pub has_plen : plen_of (torrent_of plen name (content_of list text)) ≡ plen
  has_plen = plen_there plen name (content_of list text)

  pub has_name : lookup key_name (info_of (torrent_of plen name (content_of list text))) ≡ present (string name)
  has_name = name_there plen name (content_of list text)

  pub has_files : files_of (torrent_of plen name (content_of list text)) ≡ map file_of_item (in_tree_order (content_of list text))
  has_files = files_there plen name (content_of list text) content_good.fine (content_wide list text)

  pub has_layers : (x : Item) → Member x (content_of list text) → plen < x.size → lookup x.root
      (layers_of (torrent_of plen name (content_of list text))) ≡ present (string x.layer)
  has_layers x m l =
      ap (lookup x.root) (layers_there plen name (content_of list text)) ∙ layer_there plen name (content_of list text)
      content_good.fine (content_wide list text) x m l

  pub has_number : value_number (torrent_of plen name (content_of list text)) ≡ 0
  has_number = number_there plen name (content_of list text) content_good (content_wide list text)

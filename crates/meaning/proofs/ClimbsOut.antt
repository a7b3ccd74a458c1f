-- 02, request 5, "an element that is `.`, `..`, or contains `/` or a zero byte is answered 25": a torrent with nothing of 22 to 24 amiss, a file of
-- which has such an element in its path, or an empty one, is 25.
-- Assumes nothing.
use Rattle.std.specs.Prelude.{◌≡◌, refl, Bool, true, false, ◌&&◌, List, ℕ, ◌-◌}
use Rattle.std.proofs.lemmas.Bool.{false≢true}
use Rattle.limits.specs.Limits.{max_levels}
use Rattle.numbers.specs.Numbers.{wrong_tree}
use Rattle.bencode.specs.Grammar.{integer, string, list, dictionary, Entries, none, Valid, EntriesValid}
use Rattle.bencode.specs.Parts.{Lookup, absent, present, lookup}
use Rattle.bencode.specs.PartsLaws.{lookup_valid}
use Rattle.meaning.specs.Keys.{key_info, key_file_tree, key_piece_length, key_meta_version, key_piece_layers}
use Rattle.meaning.specs.Nth.{Nth}
use Rattle.meaning.specs.Torrent.{has_dictionary, has_integer, entries_of, info_of, tree_of, has_keys, File, files_of, value_number}
use Rattle.meaning.specs.Amiss.{RightDirectory, NoneBelow25}
use Rattle.meaning.proofs.TestsLaws.{keys_amiss, tree_no}
use Rattle.meaning.proofs.AmissLaws.{exactly_25}
use Rattle.meaning.proofs.FilesLaws.{nth_holds, nth_right, files_hold}
use Rattle.meaning.specs.Paths.{StaysInside}
use Rattle.meaning.proofs.PathsLaws.{element_exactly}

pub dictionary_there : (x : Lookup) → has_dictionary x ≡ true → x ≡ present (dictionary (entries_of x))
dictionary_there absent e = absurd (false≢true e)
dictionary_there (present (dictionary es)) e = refl
dictionary_there (present (integer minus n)) e = absurd (false≢true e)
dictionary_there (present (string b)) e = absurd (false≢true e)
dictionary_there (present (list vs)) e = absurd (false≢true e)

first_two : (a b c d e : Bool) → a && b && c && d && e ≡ true → (a ≡ true) × (b ≡ true)
first_two true true c d e q = (refl, refl)
first_two false b c d e q = absurd (false≢true q)
first_two true false c d e q = absurd (false≢true q)

module _ (torrent : Entries) (valid : Valid (dictionary torrent) max_levels) where
  two_keys : has_keys torrent ≡ true → (has_dictionary (lookup key_info torrent) ≡ true) × (has_dictionary (lookup key_file_tree (info_of torrent)) ≡ true)
  unfolding has_keys
  two_keys e =
      first_two (has_dictionary (lookup key_info torrent)) (has_dictionary (lookup key_file_tree (info_of torrent))) (has_integer (lookup key_piece_length (info_of torrent)))
      (has_integer (lookup key_meta_version (info_of torrent))) (has_dictionary (lookup key_piece_layers torrent)) e

  tree_valid : has_keys torrent ≡ true → Valid (dictionary (tree_of torrent)) (max_levels - 2)
  unfolding Valid
  tree_valid e =
      let i : EntriesValid (info_of torrent) none (max_levels - 2) =
      lookup_valid key_info torrent none (max_levels - 1) (dictionary (info_of torrent)) valid (dictionary_there (lookup key_info torrent) (two_keys e).0) in
      lookup_valid key_file_tree (info_of torrent) none (max_levels - 2) (dictionary (tree_of torrent)) i (dictionary_there (lookup key_file_tree (info_of torrent)) (two_keys e).1)

  pub climbs_out : NoneBelow25 torrent → (n k : ℕ) (f : File) (e : List ℕ) → Nth (files_of torrent) n f → Nth f.path k e → (StaysInside e → ⊥)
      → value_number torrent ≡ wrong_tree
  climbs_out below n k f e there at out = (exactly_25 torrent).1 (below, by_keys (has_keys torrent) refl)
    where
      by_keys : (b : Bool) → has_keys torrent ≡ b → RightDirectory (tree_of torrent) → ⊥
      by_keys false q d = below.0.0 (keys_amiss torrent q)
      by_keys true q d =
          let h = nth_holds (files_of torrent) n f (files_hold (tree_of torrent) (tree_valid q) (tree_no (tree_of torrent) d)) there in
          out ((element_exactly e).0 (nth_right f.path k e h.elements at))

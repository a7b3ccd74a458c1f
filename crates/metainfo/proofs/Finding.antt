-- The keys as the code finds them, one after the other.
-- Assumes nothing.
use Rattle.bencode.specs.Scalar.{whole}
use Rattle.bencode.specs.Scalar.{part}
use Rattle.std.specs.Prelude.{◌≡◌, refl, Bool, true, false, List, ℕ, zero, suc, ◌≤◌, ◌<◌, length, drop, Option, None}
use Rattle.std.proofs.Common.{ap, ◌∙◌, eq-eqb, ne_eqb, le-leb}
use Rattle.std.proofs.lemmas.Bool.{lt-leb}
use Rattle.meaning.specs.Keys.{key_info, key_file_tree, key_piece_length, key_meta_version, key_piece_layers}
use Rattle.limits.specs.Limits.{largest_torrent}
use Rattle.numbers.specs.Numbers.{torrent_too_large, other_version, piece_length_out_of_range}
use Rattle.tree.specs.Geometry.{is_piece_length}
use Rattle.bencode.specs.Strict.{strictness}
use Rattle.bencode.specs.Parts.{is_dictionary}
use Rattle.bencode.specs.declared.scalar.Integer.{Integer}
use Rattle.metainfo.specs.Metainfo.{Keys, dictionary_in, find_dictionary, find_integer, part_of, no_keys, right_keys, with_version, with_piece_length, info_keys, with_layers, with_tree, dictionary_keys, with_info, keys_of, if_strict, metainfo_of}
use Rattle.bencode.specs.declared.part.Part.{Part}

pub dictionary_so : (s : List ℕ) (w : Option Part) (a b : ℕ) → w ≡ part a b → is_dictionary (drop a s) ≡ true → dictionary_in s w ≡ part a b
dictionary_so s w a b e h = ap (dictionary_in s) e ∙ rw h refl

pub dictionary_not : (s : List ℕ) (w : Option Part) (a b : ℕ) → w ≡ part a b → is_dictionary (drop a s) ≡ false → dictionary_in s w ≡ None
dictionary_not s w a b e h = ap (dictionary_in s) e ∙ rw h refl

module _ (k : Keys) (below minus : Bool) (version : ℕ) where
  pub keys_minus : minus ≡ true → right_keys k below minus version ≡ no_keys other_version
  unfolding right_keys
  keys_minus e = rw e refl

  module _ (e : minus ≡ false) where
    pub keys_version : (version ≡ 2 → ⊥) → right_keys k below minus version ≡ no_keys other_version
    unfolding right_keys
    keys_version f = rw (e, ne_eqb version 2 f) refl

    module _ (f : version ≡ 2) where
      pub keys_below : below ≡ true → right_keys k below minus version ≡ no_keys piece_length_out_of_range
      unfolding right_keys
      keys_below g = rw (e, eq-eqb version 2 f, g) refl

      module _ (g : below ≡ false) where
        pub keys_right : is_piece_length k.plen ≡ true → right_keys k below minus version ≡ k
        unfolding right_keys
        keys_right h = rw (e, eq-eqb version 2 f, g, h) refl

        pub keys_wrong : is_piece_length k.plen ≡ false → right_keys k below minus version ≡ no_keys piece_length_out_of_range
        unfolding right_keys
        keys_wrong h = rw (e, eq-eqb version 2 f, g, h) refl

module _ (s : List ℕ) where
  module _ (info tree layers : Part) where
    pub length_found : (w : Option Integer) → find_integer s info.start key_piece_length ≡ w → info_keys s info tree layers ≡ with_piece_length s info tree layers w
    unfolding info_keys
    length_found w e = ap (with_piece_length s info tree layers) e

    pub version_found : (below : Bool) (plen next : ℕ) (w : Option Integer) → find_integer s info.start key_piece_length ≡ whole below plen next → find_integer s info.start key_meta_version ≡ w
        → info_keys s info tree layers ≡ with_version info tree layers below plen w
    version_found below plen next w e f = length_found (whole below plen next) e ∙ ap (with_version info tree layers below plen) f

  module _ (info : Part) where
    pub tree_found : (w : Option Part) → find_dictionary s info.start key_file_tree ≡ w → dictionary_keys s info ≡ with_tree s info w
    unfolding dictionary_keys
    tree_found w e = ap (with_tree s info) e

    pub layers_found : (a b : ℕ) (w : Option Part) → find_dictionary s info.start key_file_tree ≡ part a b → find_dictionary s 0 key_piece_layers ≡ w → dictionary_keys s info ≡ with_layers s info (part_of a b) w
    layers_found a b w e f = tree_found (part a b) e ∙ ap (with_layers s info (part_of a b)) f

  pub info_found : (w : Option Part) → find_dictionary s 0 key_info ≡ w → keys_of s ≡ with_info s w
  unfolding keys_of
  info_found w e = ap (with_info s) e

  pub too_large_lem : largest_torrent < length s → metainfo_of s ≡ no_keys torrent_too_large
  unfolding metainfo_of
  too_large_lem h = rw (lt-leb (length s) largest_torrent h) refl

  pub strict_keys : length s ≤ largest_torrent → strictness s ≡ 0 → metainfo_of s ≡ keys_of s
  unfolding metainfo_of
  strict_keys h e = rw (le-leb (length s) largest_torrent h) (ap (if_strict s) e)

  not_strict : (n : ℕ) → (n ≡ 0 → ⊥) → if_strict s n ≡ no_keys n
  not_strict zero h = absurd (h refl)
  not_strict (suc n) h = refl

  pub other_keys : length s ≤ largest_torrent → (strictness s ≡ 0 → ⊥) → metainfo_of s ≡ no_keys (strictness s)
  unfolding metainfo_of
  other_keys h e = rw (le-leb (length s) largest_torrent h) (not_strict (strictness s) e)

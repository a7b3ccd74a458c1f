-- What a torrent that gets 0 so far has: where its keys are.
-- Assumes nothing.
use Rattle.bencode.specs.Scalar.{part}
use Rattle.std.specs.Prelude.{◌≡◌, Bool, true, false, cond, List, ℕ, zero, suc, ◌≤◌, length, eqb, leb, Option, Some, None}
use Rattle.std.proofs.Math.Path.{refl}
use Rattle.std.proofs.Common.{ap, arith, leb-true}
use Rattle.meaning.specs.Keys.{key_info, key_file_tree, key_piece_length, key_meta_version, key_piece_layers}
use Rattle.limits.specs.Limits.{largest_torrent}
use Rattle.numbers.specs.Numbers.{torrent_too_large, key_missing, other_version, piece_length_out_of_range}
use Rattle.tree.specs.Geometry.{is_piece_length}
use Rattle.bencode.specs.Strict.{strictness}
use Rattle.bencode.specs.declared.scalar.Integer.{Integer}
use Rattle.metainfo.specs.Metainfo.{Keys, find_dictionary, find_integer, part_of, no_keys, right_keys, with_version, with_piece_length, info_keys, with_layers, with_tree, dictionary_keys, with_info, keys_of, if_strict, metainfo_of}
use Rattle.bencode.specs.declared.part.Part.{Part}

-- the keys are found where k says, and the piece length is one
pub record Located (s : List ℕ) (k : Keys) : Type 0 where
  pub info_found : find_dictionary s 0 key_info ≡ part k.info.start k.info.end
  pub tree_found : find_dictionary s k.info.start key_file_tree ≡ part k.tree.start k.tree.end
  pub layers_found : find_dictionary s 0 key_piece_layers ≡ part k.layers.start k.layers.end
  pub piece_length_lem : is_piece_length k.plen ≡ true

refusal : {A : Type 0} (n : ℕ) → (n ≡ 0 → ⊥) → (no_keys n).number ≡ 0 → A
refusal n h e = absurd (h e)

-- keys that are none of 23 and 24 are as they were found
right_keys_lem : (k : Keys) (below minus : Bool) (version : ℕ) → (right_keys k below minus version).number ≡ 0 → (right_keys k below minus version ≡ k) × (is_piece_length k.plen ≡ true)
unfolding right_keys
right_keys_lem k below true version e = refusal other_version (λ z. omega arith) e
right_keys_lem k below false version e = by_version (eqb version 2) below e
  where
    by_length : (t : Bool) → is_piece_length k.plen ≡ t → (cond t k (no_keys piece_length_out_of_range)).number ≡ 0 → (cond t k (no_keys piece_length_out_of_range) ≡ k) × (is_piece_length k.plen ≡ true)
    by_length true q e = (refl, q)
    by_length false q e = refusal piece_length_out_of_range (λ z. omega arith) e

    by_version : (t below : Bool) → (cond t (cond below (no_keys piece_length_out_of_range) (cond (is_piece_length k.plen) k (no_keys piece_length_out_of_range))) (no_keys other_version)).number ≡ 0
        → (cond t (cond below (no_keys piece_length_out_of_range) (cond (is_piece_length k.plen) k (no_keys piece_length_out_of_range))) (no_keys other_version) ≡ k) × (is_piece_length k.plen ≡ true)
    by_version false below e = refusal other_version (λ z. omega arith) e
    by_version true true e = refusal piece_length_out_of_range (λ z. omega arith) e
    by_version true false e = by_length (is_piece_length k.plen) refl e

module _ (s : List ℕ) (a b : ℕ) (fi : find_dictionary s 0 key_info ≡ part a b) where
  module _ (c d : ℕ) (ft : find_dictionary s a key_file_tree ≡ part c d) (e f : ℕ) (fl : find_dictionary s 0 key_piece_layers ≡ part e f) where
    version_keys : (below : Bool) (plen : ℕ) (w : Option Integer) → (with_version (part_of a b) (part_of c d) (part_of e f) below plen w).number ≡ 0 → Located s (with_version (part_of a b) (part_of c d) (part_of e f) below plen w)
    version_keys below plen None g = refusal key_missing (λ z. omega arith) g
    version_keys below plen (Some w) g =
        let r = right_keys_lem (record { number = 0; plen = plen; info = part_of a b; tree = part_of c d; layers = part_of e f }) below w.minus w.size g in
        rw r.0 (record { info_found = fi; tree_found = ft; layers_found = fl; piece_length_lem = r.1 })

    length_keys : (w : Option Integer) → (with_piece_length s (part_of a b) (part_of c d) (part_of e f) w).number ≡ 0 → Located s (with_piece_length s (part_of a b) (part_of c d) (part_of e f) w)
    length_keys None g = refusal key_missing (λ z. omega arith) g
    length_keys (Some w) g = version_keys w.minus w.size (find_integer s a key_meta_version) g

  module _ (c d : ℕ) (ft : find_dictionary s a key_file_tree ≡ part c d) where
    layer_keys : (w : Option Part) → find_dictionary s 0 key_piece_layers ≡ w → (with_layers s (part_of a b) (part_of c d) w).number ≡ 0 → Located s (with_layers s (part_of a b) (part_of c d) w)
    unfolding info_keys
    layer_keys None q g = refusal key_missing (λ z. omega arith) g
    layer_keys (Some w) q g = length_keys c d ft w.start w.end q (find_integer s a key_piece_length) g

  tree_keys : (w : Option Part) → find_dictionary s a key_file_tree ≡ w → (with_tree s (part_of a b) w).number ≡ 0 → Located s (with_tree s (part_of a b) w)
  tree_keys None q g = refusal key_missing (λ z. omega arith) g
  tree_keys (Some w) q g = layer_keys w.start w.end q (find_dictionary s 0 key_piece_layers) refl g

module _ (s : List ℕ) where
  info_keys_lem : (w : Option Part) → find_dictionary s 0 key_info ≡ w → (with_info s w).number ≡ 0 → Located s (with_info s w)
  unfolding dictionary_keys
  info_keys_lem None q e = refusal key_missing (λ z. omega arith) e
  info_keys_lem (Some w) q e = tree_keys s w.start w.end q (find_dictionary s w.start key_file_tree) refl e

  pub keys_located : (keys_of s).number ≡ 0 → Located s (keys_of s)
  unfolding keys_of
  keys_located e = info_keys_lem (find_dictionary s 0 key_info) refl e

-- a torrent that gets 0 so far is small, strict, and has its keys
pub record Right (s : List ℕ) : Type 0 where
  pub small : length s ≤ largest_torrent
  pub strict : strictness s ≡ 0
  pub same_keys : metainfo_of s ≡ keys_of s
  pub located : Located s (metainfo_of s)

pub metainfo_right : (s : List ℕ) → (metainfo_of s).number ≡ 0 → Right s
unfolding metainfo_of
metainfo_right s e = by_size (leb (length s) largest_torrent) refl e
  where
    by_strict : length s ≤ largest_torrent → leb (length s) largest_torrent ≡ true → (n : ℕ) → strictness s ≡ n → (if_strict s n).number ≡ 0 → Right s
    by_strict l t zero q f =
        let k : metainfo_of s ≡ keys_of s = rw t (ap (if_strict s) q) in
        record { small = l; strict = q; same_keys = k; located = rw k (keys_located s f) }
    by_strict l t (suc n) q f = refusal (suc n) (λ z. omega arith) f

    by_size : (t : Bool) → leb (length s) largest_torrent ≡ t → (cond t (if_strict s (strictness s)) (no_keys torrent_too_large)).number ≡ 0 → Right s
    by_size true q f = by_strict (leb-true (length s) largest_torrent q) q (strictness s) refl f
    by_size false q f = refusal torrent_too_large (λ z. omega arith) f

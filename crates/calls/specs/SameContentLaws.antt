-- 02, request 2: 26 exactly when two non-empty files have one root and different lengths and no lower number is due; a torrent keeps the
-- number that it had, unless that was 26; one in which no two non-empty files have one root keeps it, and is never 26.
-- Assumes nothing.
use Rattle.std.specs.Prelude.{◌≡◌, refl, ◌⊎◌, ◌↔◌, Bool, true, false, cond, not, ◌&&◌, ◌||◌, List, [], ◌∷◌, ℕ, ◌≤◌, length, eqb}
use Rattle.std.proofs.Math.Path.{ap}
use Rattle.std.proofs.Common.{◌∙◌, inl, inr, arith}
use Rattle.std.proofs.lemmas.Bool.{false≢true}
use Rattle.std.proofs.Math.Bool.{and-eq-true_iff}
use Rattle.limits.specs.Limits.{largest_torrent, max_levels}
use Rattle.octets.specs.Octets.{same}
use Rattle.numbers.specs.Numbers.{key_missing, other_version, piece_length_out_of_range, wrong_tree, two_lengths, layers_amiss, layer_differs}
use Rattle.tree.specs.Geometry.{is_piece_length}
use Rattle.bencode.specs.Grammar.{dictionary, Entries, encode, Valid}
use Rattle.bencode.specs.Parts.{lookup}
use Rattle.meaning.specs.Keys.{key_meta_version}
use Rattle.meaning.specs.Torrent.{File, is_number, info_of, tree_of, files_of, plen_of, layers_of, has_keys, tree_right, no_other_length, lengths_agree, layers_fit, no_others, layers_give_roots, value_number}
use Rattle.meaning.proofs.TestsLaws.{roots_right}
use Rattle.meaning.proofs.AmissLaws.{exactly_26}
use Rattle.halves.specs.V1Half.{with_halves, torrent_number}
use Rattle.halves.proofs.HalvesLaws.{lower_exactly}
use Rattle.torrent.specs.Torrent.{read_of}
use Rattle.torrent.specs.NumberMeans.{number_is_the_values, read_number_lem}
use Rattle.calls.specs.EachNumber.{read_22_to_28}
use Rattle.calls.specs.SameContent.{TwoLengthsIn, none_with, roots_apart, number_before}

-- ---- 26

-- kd_torrent_read answers 26 EXACTLY WHEN that is so
pub read_26 : (s : List ℕ) → ((read_of s).number ≡ two_lengths) ↔ TwoLengthsIn s
read_26 s = (
  λ e.
      let w = (read_22_to_28 s two_lengths (omega arith) (omega arith)).0 e in
      let x = (exactly_26 w.1.0).0 w.1.3 in
      (w.0, (w.1.0, w.1.1, w.1.2, x.0, x.1)),
  λ w. (read_22_to_28 s two_lengths (omega arith) (omega arith)).1 (w.0, (w.1.0, w.1.1, w.1.2, (exactly_26 w.1.0).1 (w.1.3, w.1.4))),
)

-- ---- what it was before

-- a root that no other file has, no other has with another length
none_other : (root : List ℕ) (n : ℕ) (fs : List File) → none_with root fs ≡ true → no_other_length root n fs ≡ true
unfolding none_with no_other_length
none_other root n [] e = refl
none_other root n (f ∷ fs) e = by_first (not (eqb f.size 0)) (same root f.root) p.0 (none_other root n fs p.1)
  where
    p : (not (not (eqb f.size 0) && same root f.root) ≡ true) × (none_with root fs ≡ true)
    p = (and-eq-true_iff (not (not (eqb f.size 0) && same root f.root)) (none_with root fs)).0 e

    by_first : (a b : Bool) → not (a && b) ≡ true → no_other_length root n fs ≡ true → not (a && b && not (eqb n f.size)) && no_other_length root n fs ≡ true
    by_first true true q ih = absurd (false≢true q)
    by_first true false q ih = ih
    by_first false b q ih = ih

pub apart_agree : (fs : List File) → roots_apart fs ≡ true → lengths_agree fs ≡ true
unfolding roots_apart lengths_agree
apart_agree [] e = refl
apart_agree (f ∷ fs) e = by_size (eqb f.size 0) p.0 (apart_agree fs p.1)
  where
    p : (eqb f.size 0 || none_with f.root fs ≡ true) × (roots_apart fs ≡ true)
    p = (and-eq-true_iff (eqb f.size 0 || none_with f.root fs) (roots_apart fs)).0 e

    by_size : (b : Bool) → b || none_with f.root fs ≡ true → lengths_agree fs ≡ true → (b || no_other_length f.root f.size fs) && lengths_agree fs ≡ true
    by_size true q ih = ih
    by_size false q ih = rw (none_other f.root f.size fs q, ih) refl

-- a value keeps its number by the v2 half, unless that was 26
pub kept_or_26 : (es : Entries) → (number_before es ≡ two_lengths) ⊎ (value_number es ≡ number_before es)
unfolding value_number number_before
kept_or_26 es =
    by_tests (has_keys es) (is_number 2 (lookup key_meta_version (info_of es))) (is_piece_length (plen_of es)) (tree_right (tree_of es)) (roots_apart (files_of es)) refl
  where
    others : ℕ
    others = cond (layers_fit (plen_of es) (layers_of es) (files_of es) && no_others (plen_of es) (files_of es) (layers_of es)) (cond (layers_give_roots (plen_of es) (layers_of es) (files_of es)) 0 layer_differs) layers_amiss

    number : Bool → Bool → Bool → Bool → Bool → ℕ
    number a b c d e = cond a (cond b (cond c (cond d (cond e others two_lengths) wrong_tree) piece_length_out_of_range) other_version) key_missing

    by_tests : (a b c d e : Bool) → roots_apart (files_of es) ≡ e → (number a b c d e ≡ two_lengths) ⊎ (number a b c d (lengths_agree (files_of es)) ≡ number a b c d e)
    by_tests false b c d e q = inr refl
    by_tests true false c d e q = inr refl
    by_tests true true false d e q = inr refl
    by_tests true true true false e q = inr refl
    by_tests true true true true true q = inr (rw (apart_agree (files_of es) q) refl)
    by_tests true true true true false q = inl refl

-- one in which no two non-empty files have one root keeps it
pub apart_kept : (es : Entries) → roots_apart (files_of es) ≡ true → value_number es ≡ number_before es
unfolding value_number number_before
apart_kept es e = rw (e, apart_agree (files_of es) e) refl

-- so it is of the number that is read, with 31 behind 28
pub read_kept : (s : List ℕ) (es : Entries) → s ≡ encode (dictionary es) → Valid (dictionary es) max_levels → length s ≤ largest_torrent → roots_apart (files_of es) ≡ true
    → (read_of s).number ≡ with_halves es (number_before es)
read_kept s es e v h a = read_number_lem s ∙ number_is_the_values s es e v h ∙ (unfold torrent_number in ap (with_halves es) (apart_kept es a))

-- and 26 is never its number; nothing else in what the calls answer mentions this rule
pub apart_never_26 : (es : Entries) → roots_apart (files_of es) ≡ true → torrent_number es ≡ two_lengths → ⊥
apart_never_26 es a q = roots_right (files_of es) (apart_agree (files_of es) a) ((exactly_26 es).0 ((lower_exactly es two_lengths (omega arith) (omega arith)).0 q)).1

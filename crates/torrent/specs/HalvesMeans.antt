-- 02, request 12: 31 is read of a torrent EXACTLY WHEN nothing of 19 to 28 is amiss and the halves of a hybrid don't agree; and a pure v2
-- torrent is read exactly as by its v2 half alone: every call is a function of `checked_of`.
-- Assumes nothing.
use Rattle.std.specs.Prelude.{◌≡◌, refl, ◌↔◌, Bool, true, false, cond, List, ℕ, ◌≤◌, length, eqb}
use Rattle.std.proofs.Common.{sym, ◌∙◌, inr, arith}
use Rattle.std.proofs.Math.Path.{ap}
use Rattle.limits.specs.Limits.{largest_torrent, max_levels}
use Rattle.numbers.specs.Numbers.{halves_differ}
use Rattle.bencode.specs.Grammar.{dictionary, Entries, encode, Valid}
use Rattle.bencode.specs.Parts.{absent, lookup}
use Rattle.meaning.specs.Torrent.{info_of}
use Rattle.meaning.specs.Amiss.{NoneAmiss}
use Rattle.halves.specs.V1Keys.{key_pieces}
use Rattle.halves.specs.Halves.{Amiss31}
use Rattle.halves.proofs.HalvesLaws.{exactly_31}
use Rattle.halves.specs.Decoded.{torrent_in, torrent_in_lem}
use Rattle.torrent.specs.Torrent.{v2_checked_of, checked_of, with_checked, read_of, file_in, file_read, path_in, path_read}
use Rattle.torrent.specs.NumberMeans.{number_is_the_values, value_only, read_number_lem}

-- ---- 31

-- s encodes a valid dictionary of at most 1 MiB in which nothing of 22 to 28 is amiss, and the halves don't agree
abbrev pub HalvesAmiss : List ℕ → Type 0
HalvesAmiss s = (length s ≤ largest_torrent) × ((es : Entries) × Valid (dictionary es) max_levels × (s ≡ encode (dictionary es)) × NoneAmiss es × Amiss31 es)

pub read_31 : (s : List ℕ) → ((read_of s).number ≡ halves_differ) ↔ HalvesAmiss s
read_31 s = (only, so)
  where
    only : (read_of s).number ≡ halves_differ → HalvesAmiss s
    only e =
        let n : (checked_of s).keys.number ≡ halves_differ = sym (read_number_lem s) ∙ e in
        let v = value_only s (inr (omega (arith, n))) in
        let w = (exactly_31 v.1.0).0 (sym v.1.3 ∙ n) in
        (v.0, (v.1.0, v.1.1, v.1.2, w.0, w.1))

    so : HalvesAmiss s → (read_of s).number ≡ halves_differ
    so (small, (es, valid, start, right, amiss)) = read_number_lem s ∙ number_is_the_values s es start valid small ∙ (exactly_31 es).1 (right, amiss)

-- ---- a pure v2 torrent

-- the equation for all calls
pub pure_as_before : (s : List ℕ) → lookup key_pieces (info_of (torrent_in s)) ≡ absent → checked_of s ≡ v2_checked_of s
unfolding checked_of
pure_as_before s e = rw e (by (eqb (v2_checked_of s).keys.number 0))
  where
    by : (b : Bool) → cond b (v2_checked_of s) (v2_checked_of s) ≡ v2_checked_of s
    by true = refl
    by false = refl

module _ (s : List ℕ) (es : Entries) (start : s ≡ encode (dictionary es)) (valid : Valid (dictionary es) max_levels) (pure : lookup key_pieces (info_of es) ≡ absent) where
  pub as_before : checked_of s ≡ v2_checked_of s
  as_before = pure_as_before s (ap (λ (x : Entries). lookup key_pieces (info_of x)) (torrent_in_lem s es valid start) ∙ pure)

  pub read_as_before : read_of s ≡ with_checked s (v2_checked_of s)
  unfolding read_of
  read_as_before = ap (with_checked s) as_before

  pub file_as_before : (n : ℕ) → file_read s n ≡ file_in s n (v2_checked_of s)
  unfolding file_read
  file_as_before n = ap (file_in s n) as_before

  pub path_as_before : (n k : ℕ) → path_read s n k ≡ path_in s n k (v2_checked_of s)
  unfolding path_read
  path_as_before n k = ap (path_in s n k) as_before

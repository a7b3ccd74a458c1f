-- The value that strict bytes encode, as a definition of the bytes: what is said of a torrent's value can then be said of the torrent.
-- Assumes nothing.
use Rattle.std.specs.Prelude.{◌≡◌, refl, Bool, true, false, List, ℕ, eqb}
use Rattle.std.proofs.Common.{sym, ◌∙◌, eqb-true}
use Rattle.std.proofs.lemmas.Bool.{eqb-false}
use Rattle.limits.specs.Limits.{max_levels}
use Rattle.bencode.specs.Grammar.{dictionary, Entries, no_entries, encode, Valid}
use Rattle.bencode.specs.Strict.{strictness}
use Rattle.bencode.specs.StrictLaws.{taken, taken_only}
use Rattle.bencode.specs.PartsLaws.{one_value}

-- the value of strict bytes; of others, nothing is said
pub decoded : (s : List ℕ) → (es : Entries) × (strictness s ≡ 0 → Valid (dictionary es) max_levels × (s ≡ encode (dictionary es)))
decoded s = by (eqb (strictness s) 0) refl
  where
    by : (b : Bool) → eqb (strictness s) 0 ≡ b → (es : Entries) × (strictness s ≡ 0 → Valid (dictionary es) max_levels × (s ≡ encode (dictionary es)))
    by true q = let p = taken_only s (eqb-true (strictness s) 0 q) in (p.0, λ e. (p.1, p.2))
    by false q = (no_entries, λ e. absurd (eqb-false (strictness s) 0 q e))

abbrev pub torrent_in : List ℕ → Entries
torrent_in s = (decoded s).0

same_entries : (es ds : Entries) → dictionary es ≡ dictionary ds → es ≡ ds
same_entries es ds e = cc

-- it is the one that they encode
pub torrent_in_lem : (s : List ℕ) (es : Entries) → Valid (dictionary es) max_levels → s ≡ encode (dictionary es) → torrent_in s ≡ es
torrent_in_lem s es v e =
    let d = (decoded s).1 (taken s (es, v, e)) in
    same_entries (torrent_in s) es (one_value (dictionary (torrent_in s)) (dictionary es) (sym d.1 ∙ e))

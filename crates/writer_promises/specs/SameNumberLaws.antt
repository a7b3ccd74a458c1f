-- A plain content gets the number that `kd_torrent_read` gives the bytes which would be written of it.
-- Assumes nothing.
use Rattle.std.specs.Prelude.{◌≡◌, refl, ◌⊎◌, Bool, true, false, cond, List, [], ◌∷◌, ℕ, ◌^◌, ◌≤◌, ◌<◌, length, eqb, ltb}
use Rattle.std.proofs.Common.{sym, ◌∙◌, subst, inl, inr, ltb-true, ltb-false}
use Rattle.limits.specs.Limits.{largest_torrent, max_levels}
use Rattle.octets.specs.Octets.{same}
use Rattle.numbers.specs.Numbers.{torrent_too_large, not_strict, nested_too_deeply}
use Rattle.bencode.specs.Grammar.{Value, dictionary, Entries, encode, Valid}
use Rattle.bencode.specs.Parts.{absent, lookup}
use Rattle.bencode.specs.PartsLaws.{one_value}
use Rattle.bencode.specs.Strict.{strictness}
use Rattle.bencode.specs.StrictLaws.{taken_only, deep_first, one_of_three, otherwise_only}
use Rattle.meaning.specs.Counting.{Member}
use Rattle.meaning.specs.Torrent.{info_of, value_number}
use Rattle.halves.specs.V1Keys.{key_pieces}
use Rattle.halves.proofs.HalvesLaws.{pure_stands}
use Rattle.writer_meaning.specs.Content.{Item, torrent_of}
use Rattle.writer_meaning.specs.Number.{content_number}
use Rattle.writer_meaning.proofs.ValidLaws.{AllFull}
use Rattle.writer_meaning.proofs.RightLaws.{PathFull}
use Rattle.writer_meaning.proofs.Plain.{Plain, read_number}
use Rattle.writer_meaning.proofs.SameNumber.{same_number}
use Rattle.writer_lists.specs.Lists.{content_of}
use Rattle.writer.specs.Write.{torrent_bytes}
use Rattle.writer.specs.WrittenReads.{content_wide}
use Rattle.torrent.specs.Torrent.{read_of}
use Rattle.torrent.specs.Answers.{Says, too_large, no_encoding, too_deep, encodes}
use Rattle.torrent.specs.NumberMeans.{no_other_number, read_number_lem}
use Rattle.writer_promises.specs.Published.{InForm, PlainContent}
use Rattle.writer_promises.specs.FormLaws.{content_below}

-- ---- the reader's number of a value without a v1 half is that of its encoding

value_says : (t : Entries) → lookup key_pieces (info_of t) ≡ absent → Says (encode (dictionary t)) (read_number t)
unfolding read_number
value_says t pure = by_size (ltb largest_torrent (length s)) refl
  where
    s : List ℕ
    s = encode (dictionary t)

    after : ℕ
    after = cond (eqb (strictness s) 0) (value_number t) (strictness s)

    by_strict : length s ≤ largest_torrent → (strictness s ≡ 0) ⊎ ((strictness s ≡ not_strict) ⊎ (strictness s ≡ nested_too_deeply)) → Says s after
    by_strict h (inl e) =
        let v = taken_only s e in
        let same = one_value (dictionary v.0) (dictionary t) (sym v.2) in
        let valid : Valid (dictionary t) max_levels = subst (λ (w : Value). Valid w max_levels) same v.1 in
        encodes h t valid refl (rw e (sym (pure_stands t pure)))
    by_strict h (inr (inl e)) = let o = otherwise_only s e in no_encoding h o.0 o.1 (rw e refl)
    by_strict h (inr (inr e)) = too_deep h (deep_first s e) (rw e refl)

    by_size : (b : Bool) → ltb largest_torrent (length s) ≡ b → Says s (cond b torrent_too_large after)
    by_size true e = too_large (ltb-true largest_torrent (length s) e) refl
    by_size false e = by_strict (ltb-false largest_torrent (length s) e) (one_of_three s)

value_read : (t : Entries) → lookup key_pieces (info_of t) ≡ absent → read_number t ≡ (read_of (encode (dictionary t))).number
value_read t pure = no_other_number (encode (dictionary t)) (read_number t) (value_says t pure) ∙ sym (read_number_lem (encode (dictionary t)))

-- what is written has none
pub written_pure : (plen : ℕ) (name : List ℕ) (xs : List Item) → lookup key_pieces (info_of (torrent_of plen name xs)) ≡ absent
unfolding lookup torrent_of same
written_pure plen name xs = refl

-- ---- plain contents of lists

all_full : (p : List (List ℕ)) → (Member [] p → ⊥) → AllFull p
unfolding AllFull Member
all_full [] h = tt
all_full (e ∷ p) h = ((λ z. h (inl (sym z))), all_full p (λ m. h (inr m)))

path_is_full : (p : List (List ℕ)) → (p ≡ [] → ⊥) → (Member [] p → ⊥) → PathFull p
unfolding PathFull
path_is_full [] h k = h refl
path_is_full (e ∷ p) h k = all_full (e ∷ p) k

plain : (list text : List ℕ) (plen : ℕ) → InForm list text → PlainContent (content_of list text) → plen < 2 ^ 63 → Plain plen (content_of list text)
plain list text plen f p l =
    record {
      no_repeat = p.no_repeat;
      path_full = λ x m. path_is_full x.path (p.path_full x m) (p.element_full x m);
      one_layer = p.one_layer;
      empty_root = p.empty_root;
      empty_layer = p.empty_layer;
      piece_fits = l;
      size_fits = content_below list text f;
      wide = content_wide list text;
    }

pub number_read : (list text : List ℕ) (plen : ℕ) (name : List ℕ) → InForm list text → PlainContent (content_of list text) → plen < 2 ^ 63
    → content_number plen name (content_of list text) ≡ (read_of (torrent_bytes list text plen name)).number
number_read list text plen name f p l =
    same_number plen name (content_of list text) (plain list text plen f p l) ∙ value_read (torrent_of plen name (content_of list text)) (written_pure plen name (content_of list text))

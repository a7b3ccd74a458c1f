-- What is known of a torrent that gets 0, for the code that goes on with its v1 half.
-- Assumes nothing.
use Rattle.bencode.specs.Scalar.{part}
use Rattle.std.specs.Prelude.{◌≡◌, Bool, true, false, cond, List, ℕ, ◌+◌, ◌-◌, ◌^◌, ◌≤◌, ◌<◌, length, drop, eqb, Option, None}
use Rattle.std.proofs.Math.Path.{refl}
use Rattle.std.proofs.Common.{sym, ap, ◌∙◌, inl, arith}
use Rattle.std.proofs.lemmas.Bool.{false≢true, eqb-false}
use Rattle.limits.specs.Limits.{largest_torrent, max_levels}
use Rattle.numbers.specs.Numbers.{halves_differ}
use Rattle.octets.specs.Octets.{cut}
use Rattle.octets.specs.OctetsLaws.{cut_length}
use Rattle.bencode.specs.Grammar.{dictionary, encode, Valid}
use Rattle.bencode.specs.DepthLaws.{more_levels}
use Rattle.bencode.specs.StrictLaws.{taken}
use Rattle.bencode.specs.Parts.{lookup}
use Rattle.bencode.specs.PartsLaws.{part_front}
use Rattle.bencode.specs.declared.part.Part.{Part}
use Rattle.meaning.specs.Torrent.{info_of, plen_of, files_of}
use Rattle.halves.specs.V1Keys.{key_pieces}
use Rattle.halves.specs.V1Half.{has_string, v1_entries, total, is_hybrid, halves_fit}
use Rattle.halves.specs.Decoded.{decoded, torrent_in}
use Rattle.hybrid.specs.Entry.{StandsAt}
use Rattle.hybrid.specs.Tally.{most_bytes}
use Rattle.hybrid.specs.HalfLaws.{pieces_few}
use Rattle.metainfo.specs.Metainfo.{Keys, bytes_in}
use Rattle.torrent.specs.Torrent.{Checked, unread, v2_checked_of, checked_of, read_of}
use Rattle.torrent.specs.CheckLaws.{checked_whole}
use Rattle.torrent.specs.KeyStringLaws.{string_there}
use Rattle.torrent.specs.HalvesFitLaws.{plen_range}
use Rattle.torrent.specs.NumberMeans.{value_only, read_number_lem}
use Rattle.torrent.specs.ReadMeans.{same_keys, at_values, torrent_is, info_valid}
use Rattle.v1.specs.V1.{pieces_in, pieces_from, file_of}
use Rattle.v1.specs.Asked.{Fits, Stands}
use Rattle.v1.specs.HalfLaws.{PiecesAre, pieces_are, Halves, halves_are, same_count, spot_within}
use Rattle.v1.specs.declared.read.V1File.{V1File}

-- the halves of a hybrid that gets 0 fit
halves_hold : (s : List ℕ) → (checked_of s).keys.number ≡ 0 → is_hybrid (torrent_in s) ≡ true → halves_fit (torrent_in s) ≡ true
unfolding checked_of
halves_hold s e h = by (eqb (v2_checked_of s).keys.number 0) refl (halves_fit (torrent_in s)) (rw h at e)
  where
    by : (b : Bool) → eqb (v2_checked_of s).keys.number 0 ≡ b → (t : Bool) → (cond b (cond t (v2_checked_of s) (unread halves_differ)) (v2_checked_of s)).keys.number ≡ 0 → t ≡ true
    by b q true z = refl
    by true q false z = let w : ⊥ = omega arith in absurd w
    by false q false z = absurd (eqb-false (v2_checked_of s).keys.number 0 q z)

-- it encodes its value
pub encodes_value : (s : List ℕ) → (checked_of s).keys.number ≡ 0 → Valid (dictionary (torrent_in s)) max_levels × (s ≡ encode (dictionary (torrent_in s)))
encodes_value s z = let v = (value_only s (inl z)).1 in (decoded s).1 (taken s (v.0, v.1, v.2))

pub record Known (s : List ℕ) (c : Checked) : Type 0 where
  pub info_stands : StandsAt s c.keys.info.start (dictionary (info_of (torrent_in s)))
  pub info_bytes : bytes_in s c.keys.info ≡ encode (dictionary (info_of (torrent_in s)))
  pub info_forward : c.keys.info.start ≤ c.keys.info.end
  pub info_within : c.keys.info.end ≤ length s
  pub plen_is : c.keys.plen ≡ plen_of (torrent_in s)
  pub plen_some : 0 < c.keys.plen
  pub plen_most : c.keys.plen ≤ 2 ^ 24
  pub files_are : c.files ≡ length (files_of (torrent_in s))
  pub small : length s ≤ largest_torrent
  pub halves : is_hybrid (torrent_in s) ≡ true → Halves (torrent_in s)

pub known : (s : List ℕ) → (checked_of s).keys.number ≡ 0 → Known s (checked_of s)
known s z =
    let v = encodes_value s z in
    let k = same_keys s (torrent_in s) v.1 v.0 read in
    let a = at_values s (torrent_in s) v.1 v.0 read in
    let i : bytes_in s (checked_of s).keys.info ≡ encode (dictionary (info_of (torrent_in s))) = ap (λ (x : Keys). bytes_in s x.info) k ∙ a.info_bytes in
    let o = (checked_whole s z).opened in
    record {
      info_stands = record {
        behind = drop ((checked_of s).keys.info.end - (checked_of s).keys.info.start) (drop (checked_of s).keys.info.start s);
        bytes = part_front s (checked_of s).keys.info.start (checked_of s).keys.info.end (dictionary (info_of (torrent_in s))) i;
        valid = more_levels (dictionary (info_of (torrent_in s))) (max_levels - 1) max_levels (omega arith) (info_valid (torrent_in s) v.0 a.info_value);
      };
      info_bytes = i;
      info_forward = o.info_forward;
      info_within = o.info_within;
      plen_is = ap (λ (x : Keys). x.plen) k ∙ a.plen_is;
      plen_some = (plen_range (checked_of s).keys.plen o.piece_length_lem).0;
      plen_most = (plen_range (checked_of s).keys.plen o.piece_length_lem).1;
      files_are = counted ∙ (torrent_is s (torrent_in s) v.1 v.0 read).file_count;
      small = o.small;
      halves = λ h. halves_are (torrent_in s) (halves_hold s z h);
    }
  where
    read : (read_of s).number ≡ 0
    read = read_number_lem s ∙ z

    counted : (checked_of s).files ≡ (read_of s).files
    counted = unfold read_of in rw z refl

pub known_so : (s : List ℕ) (c : Checked) → c ≡ checked_of s → c.keys.number ≡ 0 → Known s c
known_so s c e z = rw e (known s (ap (λ (x : Checked). x.keys.number) (sym e) ∙ z))

-- ---- `pieces` of a torrent that gets 0

module _ (s : List ℕ) (c : Checked) (k : Known s c) where
  -- no string: no hybrid
  pub no_pieces : (w : Option Part) → w ≡ pieces_from s c.keys.info.start → w ≡ None → is_hybrid (torrent_in s) ≡ false
  no_pieces w e q = by (is_hybrid (torrent_in s)) refl
    where
      none_there : has_string (lookup key_pieces (info_of (torrent_in s))) ≡ false
      none_there = rw (sym e ∙ q) at (pieces_are s c.keys.info.start (info_of (torrent_in s)) k.info_stands)

      by : (b : Bool) → is_hybrid (torrent_in s) ≡ b → b ≡ false
      by true h = absurd (false≢true (sym none_there ∙ (k.halves h).a_string))
      by false h = refl

  module _ (w : Option Part) (a b : ℕ) (e : w ≡ pieces_from s c.keys.info.start) (q : w ≡ part a b) where
    are : PiecesAre s (lookup key_pieces (info_of (torrent_in s))) (part a b)
    are = rw (sym e ∙ q) at (pieces_are s c.keys.info.start (info_of (torrent_in s)) k.info_stands)

    pub some_pieces : is_hybrid (torrent_in s) ≡ true
    some_pieces = string_there (lookup key_pieces (info_of (torrent_in s))) are.0

    abbrev h : Halves (torrent_in s)
    h = k.halves some_pieces

    size_is : b - a ≡ length (pieces_in (torrent_in s))
    size_is = let x = are.2 in let y = are.3 in sym (cut_length s a (b - a) (omega arith)) ∙ ap length are.1

    -- they stand there
    pub pieces_stand : cut s a (length (pieces_in (torrent_in s))) ≡ pieces_in (torrent_in s)
    pieces_stand = ap (λ (n : ℕ). cut s a n) (sym size_is) ∙ are.1

    pub pieces_within : a + length (pieces_in (torrent_in s)) ≤ length s
    pieces_within = let x = are.2 in let y = are.3 in omega (arith, size_is)

    few : total (v1_entries (info_of (torrent_in s))) ≤ most_bytes
    few =
        pieces_few c.keys.plen (total (v1_entries (info_of (torrent_in s)))) k.plen_some k.plen_most
        (rw k.plen_is (omega (arith, h.twenty_each, pieces_within, k.small)))

    pub file_fits : (n : ℕ) → n < c.files → Fits c.keys.plen (info_of (torrent_in s)) n
    file_fits n l =
        record {
          fits = h.fits;
          boundary = rw k.plen_is h.boundary;
          few = few;
          there = omega (arith, same_count _ _ h.same, k.files_are);
        }

    pub file_stands : (f : V1File) (n : ℕ) → f ≡ file_of (info_of (torrent_in s)) n → Stands (length s) a c.keys.plen f.start f.length f.total
    file_stands f n ef = rw ef stands
      where
        stands : Stands (length s) a c.keys.plen (file_of (info_of (torrent_in s)) n).start (file_of (info_of (torrent_in s)) n).length (file_of (info_of (torrent_in s)) n).total
        stands =
            record {
              some = k.plen_some;
              within = spot_within (v1_entries (info_of (torrent_in s))) n;
              few = few;
              room = rw k.plen_is (omega (arith, h.twenty_each, pieces_within));
              small = k.small;
            }

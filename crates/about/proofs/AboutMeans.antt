-- What is promised of `kd_torrent_info` and `kd_torrent_name`: each number exactly when; the part of `info` is its encoded value, whose SHA-256 is
-- the info hash; the part of `name` is the string's content.
-- Assumes nothing.
use Rattle.bencode.specs.Scalar.{part}
use Rattle.std.specs.Prelude.{◌≡◌, ◌↔◌, ℕ, ◌+◌, ◌-◌, List, ◌∷◌, ◌++◌, Option, Some, None}
use Rattle.std.proofs.Math.Path.{refl, ap}
use Rattle.std.proofs.Common.{sym, ◌∙◌, subst, inl, inr, arith}
use Rattle.std.proofs.Math.Decide.{ℕ_discrete}
use Rattle.std.proofs.Math.ListN.{length, drop, length-append}
use Rattle.limits.specs.Limits.{max_levels}
use Rattle.octets.specs.Octets.{cut}
use Rattle.octets.specs.OctetsLaws.{cut_length}
use Rattle.numbers.specs.Numbers.{no_such_part}
use Rattle.sha256.specs.Sha256.{sha256}
use Rattle.bencode.specs.Grammar.{colon, Value, integer, string, list, dictionary, Entries, decimal, encode_string, encode, Valid}
use Rattle.bencode.specs.Parts.{find_key, FoundIs, Lookup, absent, present, lookup}
use Rattle.bencode.specs.PartsLaws.{part_front, string_of, content_is, find_is}
use Rattle.bencode.specs.CompleteLaws.{content_start}
use Rattle.bencode.specs.DepthLaws.{more_levels}
use Rattle.bencode.specs.declared.part.Part.{Part}
use Rattle.meaning.specs.Torrent.{info_of}
use Rattle.writer_meaning.specs.Content.{key_name}
use Rattle.metainfo.specs.Metainfo.{Keys, bytes_in}
use Rattle.layers.specs.Layers.{string_in}
use Rattle.joined.specs.FileLaws.{string_there}
use Rattle.halves.specs.V1Keys.{key_pieces}
use Rattle.torrent.specs.Torrent.{PartRead, v2_checked_of, checked_of, read_of, no_part_read}
use Rattle.torrent.specs.Answers.{Says, PartIs}
use Rattle.torrent.specs.CheckLaws.{checked_whole}
use Rattle.torrent.specs.NumberMeans.{read_number_lem, read_encodes}
use Rattle.torrent.specs.ReadMeans.{number_zero, same_keys, at_values, torrent_is, info_valid}
use Rattle.torrent.specs.HalvesMeans.{as_before}
use Rattle.calls.specs.Calls.{PathOutcome, done as path_done, bad_torrent as path_refused, no_element}
use Rattle.calls.specs.CallsLaws.{checked_ranged, of_torrent, not_zero}
use Rattle.calls.specs.EachNumber.{read_exactly}
use Rattle.about.specs.About.{content_part, name_from, info_in, info_read, name_in, name_read}
use Rattle.about.proofs.AboutLaws.{info_done, info_refused, name_done, name_refused}

-- `info` of a torrent has a string `name`
abbrev pub Named : Entries → Type 0
Named es = (b : List ℕ) × (lookup key_name (info_of es) ≡ present (string b))

-- ---- what is found for `name`

-- the answer of what is found: a string's content, and for all else 29
abbrev NameIs : List ℕ → PartRead → Lookup → Type 0
NameIs s r absent = r ≡ no_part_read no_such_part
NameIs s r (present (string b)) = PartIs s b r
NameIs s r (present (integer minus n)) = r ≡ no_part_read no_such_part
NameIs s r (present (list vs)) = r ≡ no_part_read no_such_part
NameIs s r (present (dictionary es)) = r ≡ no_part_read no_such_part

-- a string that stands from a to k
string_part : (s : List ℕ) (a k : ℕ) (b : List ℕ) → cut s a (k - a) ≡ encode (string b) → PartIs s b (content_part (part (content_start a b) (a + length (encode_string b))))
string_part s a k b e =
    let front : encode (string b) ≡ encode_string b = unfold encode in refl in
    let there : drop a s ≡ encode_string b ++ drop (k - a) (drop a s) = part_front s a k (string b) e ∙ ap (λ (z : List ℕ). z ++ drop (k - a) (drop a s)) front in
    let la = length-append (decimal (length b)) (colon ∷ b) in
    let size : a + length (encode_string b) - content_start a b ≡ length b = omega arith in
    record { number = refl; size = size; bytes = content_is s b (drop (k - a) (drop a s)) a there }

found_name : (s : List ℕ) (w : Option Part) (x : Lookup) → FoundIs s w x → NameIs s (content_part (string_in s w)) x
found_name s None absent f = refl
found_name s None (present v) f = absurd f
found_name s (Some w) absent f = absurd f
found_name s (Some w) (present v) f = subst (λ (r : Option Part). NameIs s (content_part r) (present v)) (sym (string_there s w.start w.end v f)) (by v f)
  where
    by : (v : Value) → cut s w.start (w.end - w.start) ≡ encode v → NameIs s (content_part (string_of w.start v)) (present v)
    by (string b) e = string_part s w.start w.end b e
    by (integer minus n) e = refl
    by (list vs) e = refl
    by (dictionary es) e = refl

-- ---- of a torrent that gets 0

module _ (s : List ℕ) (es : Entries) (start : s ≡ encode (dictionary es)) (valid : Valid (dictionary es) max_levels) (taken : (read_of s).number ≡ 0) where
  zero : (checked_of s).keys.number ≡ 0
  zero = number_zero s es start valid taken

  abbrev from : ℕ
  from = (checked_of s).keys.info.start

  abbrev upto : ℕ
  upto = (checked_of s).keys.info.end

  info_bytes : cut s from (upto - from) ≡ encode (dictionary (info_of es))
  info_bytes = ap (λ (k : Keys). bytes_in s k.info) (same_keys s es start valid taken) ∙ (at_values s es start valid taken).info_bytes

  info_size : upto - from ≡ length (encode (dictionary (info_of es)))
  info_size =
      let o = (checked_whole s zero).opened in
      let a = o.info_forward in
      let b = o.info_within in
      sym (cut_length s from (upto - from) (omega arith)) ∙ ap length info_bytes

  -- THE PART OF `info` is its whole encoded value,
  pub info_part : PartIs s (encode (dictionary (info_of es))) (info_read s)
  info_part = rw (sym (info_done s (checked_of s) refl zero)) (record { number = zero; size = info_size; bytes = info_bytes })

  -- and the info hash is SHA-256 of these bytes
  pub info_hash_of_part : (read_of s).hash ≡ sha256 (cut s (info_read s).start (info_read s).size)
  info_hash_of_part = let p = (torrent_is s es start valid taken).info_stands in p.3 ∙ ap sha256 (p.2 ∙ sym info_part.bytes)

  -- what `name` is found as
  name_is : NameIs s (name_read s) (lookup key_name (info_of es))
  name_is =
      let deep = more_levels (dictionary (info_of es)) (max_levels - 1) max_levels (omega arith) (info_valid es valid (at_values s es start valid taken).info_value) in
      let there = part_front s from upto (dictionary (info_of es)) info_bytes in
      let found = find_is key_name s from (info_of es) (drop (upto - from) (drop from s)) there deep in
      rw (sym (name_done s (checked_of s) refl zero (name_from s from) (name_from s from) refl refl)) (as_found (found_name s (find_key key_name from (drop from s)) (lookup key_name (info_of es)) found))
    where
      as_found : NameIs s (content_part (string_in s (find_key key_name from (drop from s)))) (lookup key_name (info_of es)) → NameIs s (content_part (name_from s from)) (lookup key_name (info_of es))
      as_found x = unfold name_from in x

  -- THE PART OF `name` is the string's content,
  pub name_part : (b : List ℕ) → lookup key_name (info_of es) ≡ present (string b) → PartIs s b (name_read s)
  name_part b e = rw e at name_is

  -- and where `info` has no string `name` it is 29
  pub no_name : (Named es → ⊥) → name_read s ≡ no_part_read no_such_part
  no_name g = by (lookup key_name (info_of es)) refl name_is
    where
      by : (x : Lookup) → lookup key_name (info_of es) ≡ x → NameIs s (name_read s) x → name_read s ≡ no_part_read no_such_part
      by absent e w = w
      by (present (string b)) e w = absurd (g (b, e))
      by (present (integer minus n)) e w = w
      by (present (list vs)) e w = w
      by (present (dictionary ds)) e w = w

-- ---- each number exactly when

-- kd_torrent_info has the torrent's own number: 19 to 28 and 31, the lowest, or 0
pub info_number : (s : List ℕ) → (info_read s).number ≡ (read_of s).number
info_number s =
    elim (ℕ_discrete (checked_of s).keys.number 0) [
      | yes z ↦ sym (ap (λ (r : PartRead). r.number) (info_done s (checked_of s) refl z)) ∙ sym (read_number_lem s)
      | no g ↦ sym (ap (λ (r : PartRead). r.number) (info_refused s (checked_of s) refl g)) ∙ sym (read_number_lem s)
    ]

pub info_exactly : (s : List ℕ) (n : ℕ) → ((info_read s).number ≡ n) ↔ Says s n
info_exactly s n = let w = read_exactly s n in (λ e. w.0 (sym (info_number s) ∙ e), λ x. info_number s ∙ w.1 x)

-- the name of a torrent that is not refused
by_name : (s : List ℕ) → (checked_of s).keys.number ≡ 0 → (w : Option Part) → name_from s (checked_of s).keys.info.start ≡ w → name_read s ≡ content_part w
by_name s z w e = sym (name_done s (checked_of s) refl z (name_from s (checked_of s).keys.info.start) w refl e)

-- kd_torrent_name: 29 after all of 19 to 28 and 31, exactly where `info` has no string `name`,
pub name_29 : (s : List ℕ) → ((name_read s).number ≡ no_such_part)
    ↔ (((read_of s).number ≡ 0) × ((es : Entries) → s ≡ encode (dictionary es) → Valid (dictionary es) max_levels → Named es → ⊥))
name_29 s = (
  λ e. let z = after e in (z, λ es q v n. (let p = (name_part s es q v z n.0 n.1).number in let w : ⊥ = omega arith in w)),
  λ p. (let v = (read_encodes s p.0).1 in ap (λ (r : PartRead). r.number) (no_name s v.0 v.2 v.1 p.0 (p.1 v.0 v.2 v.1))),
)
  where
    after : (name_read s).number ≡ no_such_part → (read_of s).number ≡ 0
    after e =
        elim (checked_ranged s) [
          | inl z ↦ read_number_lem s ∙ z
          | inr p ↦
              let f = ap (λ (r : PartRead). r.number) (name_refused s (checked_of s) refl (not_zero (checked_of s).keys.number p)) in
              absurd ((of_torrent (checked_of s).keys.number p).1 (f ∙ e))
        ]

-- and every other number is the torrent's own
pub name_number : (s : List ℕ) → ((name_read s).number ≡ no_such_part → ⊥) → (name_read s).number ≡ (read_of s).number
name_number s h =
    elim (ℕ_discrete (checked_of s).keys.number 0) [
      | yes z ↦ by z (name_from s (checked_of s).keys.info.start) refl
      | no g ↦ sym (ap (λ (r : PartRead). r.number) (name_refused s (checked_of s) refl g)) ∙ sym (read_number_lem s)
    ]
  where
    by : (checked_of s).keys.number ≡ 0 → (w : Option Part) → name_from s (checked_of s).keys.info.start ≡ w → (name_read s).number ≡ (read_of s).number
    by z None e = absurd (h (ap (λ (r : PartRead). r.number) (by_name s z None e)))
    by z (Some w) e = ap (λ (r : PartRead). r.number) (by_name s z (Some w) e) ∙ sym (read_number_lem s ∙ z)

-- ---- which answers there are: done; or the torrent's number beside zeros; or 29 beside zeros

pub info_outcome : (s : List ℕ) → PathOutcome (info_read s)
info_outcome s =
    elim (checked_ranged s) [
      | inl z ↦ path_done (info_read s) (info_number s ∙ read_number_lem s ∙ z)
      | inr p ↦ rw (sym (info_refused s (checked_of s) refl (not_zero (checked_of s).keys.number p))) (path_refused (checked_of s).keys.number p)
    ]

pub name_outcome : (s : List ℕ) → PathOutcome (name_read s)
name_outcome s =
    elim (checked_ranged s) [
      | inl z ↦ by z (name_from s (checked_of s).keys.info.start) refl
      | inr p ↦ rw (sym (name_refused s (checked_of s) refl (not_zero (checked_of s).keys.number p))) (path_refused (checked_of s).keys.number p)
    ]
  where
    by : (checked_of s).keys.number ≡ 0 → (w : Option Part) → name_from s (checked_of s).keys.info.start ≡ w → PathOutcome (name_read s)
    by z None e = rw (by_name s z None e) no_element
    by z (Some w) e = path_done (name_read s) (ap (λ (r : PartRead). r.number) (by_name s z (Some w) e))

-- ---- 02, request 12: of a pure v2 torrent both are as by its v2 half alone

module _ (s : List ℕ) (es : Entries) (start : s ≡ encode (dictionary es)) (valid : Valid (dictionary es) max_levels) (pure : lookup key_pieces (info_of es) ≡ absent) where
  pub info_as_before : info_read s ≡ info_in (v2_checked_of s)
  unfolding info_read
  info_as_before = ap info_in (as_before s es start valid pure)

  pub name_as_before : name_read s ≡ name_in s (v2_checked_of s)
  unfolding name_read
  name_as_before = ap (name_in s) (as_before s es start valid pure)

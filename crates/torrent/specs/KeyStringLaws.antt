-- A key of `info`, looked for: whether it is there, and its string.
-- Assumes nothing.
use Rattle.bencode.specs.Scalar.{part}
use Rattle.std.specs.Prelude.{◌≡◌, refl, true, false, List, ◌++◌, ℕ, drop, Option, Some, None, is_some}
use Rattle.std.proofs.Common.{sym, ap, ◌∙◌, arith}
use Rattle.std.proofs.lemmas.Bool.{false≢true}
use Rattle.bencode.specs.Grammar.{Value, integer, string, list, dictionary, Entries, encode, encode_string}
use Rattle.bencode.specs.Scalar.{read_string}
use Rattle.bencode.specs.EndsLaws.{string_ends, same_part}
use Rattle.bencode.specs.Parts.{Lookup, absent, present, lookup, find_key}
use Rattle.bencode.specs.PartsLaws.{string_is, string_of, content_is}
use Rattle.bencode.specs.declared.part.Part.{Part}
use Rattle.halves.specs.V1Half.{is_there, has_string, string_or_none}
use Rattle.hybrid.specs.Entry.{StandsAt}
use Rattle.hybrid.specs.EntryLaws.{found_here, found_missing, found_part}
use Rattle.hybrid.specs.PathLaws.{string_bytes}
use Rattle.torrent.specs.HalvesFit.{StringIs, StringRead}
use Rattle.torrent.specs.declared.both.KeyString.TheVariants.{NoKey, Text, OtherType}

module _ (i key : List ℕ) (f : Option Part) (e : f ≡ find_key key 0 (drop 0 i)) where
  -- whether the key is there
  pub key_missing : f ≡ None → (info : Entries) → StandsAt i 0 (dictionary info) → lookup key info ≡ absent
  key_missing q info s = found_missing i _ _ (found_here i key 0 info s) (sym e ∙ q)

  pub key_part : (a b : ℕ) → f ≡ part a b → (info : Entries) → StandsAt i 0 (dictionary info) → (w : Value) × (lookup key info ≡ present w) × StandsAt i a w
  key_part a b q info s = found_part i _ _ a b (found_here i key 0 info s) (sym e ∙ q)

  pub not_there : f ≡ None → (info : Entries) → StandsAt i 0 (dictionary info) → false ≡ is_there (lookup key info)
  not_there q info s = ap is_there (sym (key_missing q info s))

  pub is_there_lem : (info : Entries) → StandsAt i 0 (dictionary info) → is_some f ≡ is_there (lookup key info)
  is_there_lem info s = by_found f refl
    where
      by_found : (w : Option Part) → f ≡ w → is_some w ≡ is_there (lookup key info)
      by_found None q = not_there q info s
      by_found (Some w) q = ap is_there (sym (key_part w.start w.end q info s).1)

  pub string_missing : f ≡ None → StringRead i key NoKey
  string_missing q = record { ends = tt; string = λ info s. key_missing q info s }

-- the string at a
pub string_at : (i : List ℕ) (a : ℕ) (x : Value) → StandsAt i a x → (u v : ℕ) → read_string a (drop a i) ≡ part u v → StringIs i (present x) (Text u v)
string_at i a x s u v e = by_value x (sym e ∙ ap (read_string a) s.bytes ∙ string_is x a s.behind) s.bytes
  where
    by_value : (x : Value) → part u v ≡ string_of a x → drop a i ≡ encode x ++ s.behind → StringIs i (present x) (Text u v)
    by_value (string c) q d =
        let ends = same_part _ _ _ _ q in
        let eu = ends.0 in
        let ev = ends.1 in
        let d2 : drop a i ≡ encode_string c ++ s.behind = d ∙ ap (λ (l : List ℕ). l ++ s.behind) (string_bytes c) in
        (refl, rw (eu, ev) (content_is i c s.behind a d2))
    by_value (integer minus n) q d = let z : ◌≡◌ {A = ℕ} 0 1 = cc in absurd (omega arith)
    by_value (list vs) q d = let z : ◌≡◌ {A = ℕ} 0 1 = cc in absurd (omega arith)
    by_value (dictionary es) q d = let z : ◌≡◌ {A = ℕ} 0 1 = cc in absurd (omega arith)

-- no string there
pub other_at : (i : List ℕ) (a : ℕ) (x : Value) → StandsAt i a x → read_string a (drop a i) ≡ None → has_string (present x) ≡ false
other_at i a x s e = by_value x (sym e ∙ ap (read_string a) s.bytes ∙ string_is x a s.behind)
  where
    by_value : (x : Value) → None ≡ string_of a x → has_string (present x) ≡ false
    by_value (string c) q = let z : ◌≡◌ {A = ℕ} 0 1 = cc in absurd (omega arith)
    by_value (integer minus n) q = refl
    by_value (list vs) q = refl
    by_value (dictionary es) q = refl

module _ (i key : List ℕ) (f : Option Part) (e : f ≡ find_key key 0 (drop 0 i)) (a b : ℕ) (q : f ≡ part a b) where
  pub string_other : read_string a (drop a i) ≡ None → StringRead i key OtherType
  string_other r =
      record {
        ends = tt;
        string = λ info s. let w = key_part i key f e a b q info s in rw w.1 (refl, other_at i a w.0 w.2 r);
      }

  pub string_text : (u v : ℕ) → read_string a (drop a i) ≡ part u v → StringRead i key (Text u v)
  string_text u v r =
      let z = string_ends a i u v r in
      record {
        ends = (z.1, z.2);
        string = λ info s. let w = key_part i key f e a b q info s in rw w.1 (string_at i a w.0 w.2 u v r);
      }

-- ---- a string, or nothing

pub or_none : (x : Lookup) → x ≡ absent → true ≡ string_or_none x
or_none x e = rw e refl

pub or_other : (x : Lookup) → is_there x ≡ true → has_string x ≡ false → false ≡ string_or_none x
or_other absent t h = absurd (false≢true t)
or_other (present v) t h = sym h

pub or_string : (x : Lookup) → has_string x ≡ true → true ≡ string_or_none x
or_string absent h = refl
or_string (present v) h = sym h

-- no string either way
pub none_string : (x : Lookup) → x ≡ absent → has_string x ≡ false
none_string x e = rw e refl

-- a string is there
pub string_there : (x : Lookup) → has_string x ≡ true → is_there x ≡ true
string_there absent h = absurd (false≢true h)
string_there (present v) h = refl

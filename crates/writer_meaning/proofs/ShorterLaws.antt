-- A dictionary that has all keys of another, each with a value at least as long, is at least as long.
-- Assumes nothing.
use Rattle.std.specs.Prelude.{◌≡◌, refl, List, ◌++◌, ℕ, ◌+◌, ◌≤◌, length}
use Rattle.std.proofs.Common.{sym, ◌∙◌, length-append, arith}
use Rattle.std.proofs.Math.Path.{ap}
use Rattle.std.proofs.Math.Bool.{Bool, true, false, cond, false≢true}
use Rattle.octets.specs.Octets.{same}
use Rattle.octets.specs.OctetsLaws.{same_true, same_ne}
use Rattle.bencode.specs.Grammar.{Value, Entries, no_entries, entry, encode_string, encode, encode_entries, precedes, KeyBefore, after, Valid, EntriesValid}
use Rattle.bencode.specs.Parts.{Lookup, absent, present, lookup}
use Rattle.sorting.specs.PrecedesLaws.{precedes_differ, precedes_trans}

-- the bytes of an entry
abbrev pub entry_length : List ℕ → Value → ℕ
entry_length k v = length (encode_string k) + length (encode v)

pub entries_length : (k : List ℕ) (v : Value) (es : Entries) → length (encode_entries (entry k v es)) ≡ entry_length k v + length (encode_entries es)
unfolding encode_entries
entries_length k v es = let a = length-append (encode_string k) (encode v ++ encode_entries es) in let b = length-append (encode v) (encode_entries es) in omega arith

-- a dictionary without one of its entries
record Without (k : List ℕ) (v : Value) (es : Entries) : Type 0 where
  rest : Entries
  bytes : length (encode_entries es) ≡ entry_length k v + length (encode_entries rest)
  others : (j : List ℕ) → same j k ≡ false → lookup j rest ≡ lookup j es

without : (k : List ℕ) (v : Value) (es : Entries) → lookup k es ≡ present v → Without k v es
without k v no_entries e = absurd (nothing (unfold lookup in e))
  where
    nothing : absent ≡ present v → ⊥
    nothing q = false≢true (ap is_present q)
      where
        is_present : Lookup → Bool
        is_present absent = false
        is_present (present w) = true
without k v (entry j w es) e = by_key (same k j) refl (unfold lookup in e) (without k v es)
  where
    value : Lookup → Value
    value absent = w
    value (present u) = u

    by_key : (t : Bool) → same k j ≡ t → cond t (present w) (lookup k es) ≡ present v → (lookup k es ≡ present v → Without k v es) → Without k v (entry j w es)
    by_key true q p more =
        record {
          rest = es;
          bytes = entries_length j w es ∙ ap (λ (n : ℕ). n + length (encode_entries es)) (rw (sym (same_true k j q), ap value p) refl);
          others = λ i d. unfold lookup in rw (sym (same_true k j q), d) refl;
        }
    by_key false q p more =
        let r = more p in
        record {
          rest = entry j w r.rest;
          bytes = let a = entries_length j w es in let b = entries_length j w r.rest in let c = r.bytes in omega arith;
          others = λ i d. unfold lookup in ap (λ (x : Lookup). cond (same i j) (present w) x) (r.others i d);
        }

-- each entry has its key in the other dictionary, with a value at least as long
unfoldable pub Covers : Entries → Entries → Type 0
Covers no_entries ls = Unit {0}
Covers (entry k v es) ls = ((w : Value) × (lookup k ls ≡ present w) × (length (encode v) ≤ length (encode w))) × Covers es ls

-- keys behind one are others
cover_others : (k : List ℕ) (es ls ms : Entries) (n : ℕ) → EntriesValid es (after k) n → ((j : List ℕ) → same j k ≡ false → lookup j ms ≡ lookup j ls) → Covers es ls → Covers es ms
unfolding Covers EntriesValid
cover_others k no_entries ls ms n v o c = tt
cover_others k (entry j w es) ls ms n v o c =
    ((c.0.0, o j (same_ne j k (λ q. precedes_differ k j v.0 (sym q))) ∙ c.0.1, c.0.2), cover_others k es ls ms n (further es v.2) o c.1)
  where
    further : (fs : Entries) → EntriesValid fs (after j) n → EntriesValid fs (after k) n
    further no_entries u = unfold EntriesValid in tt
    further (entry i x fs) u = by_parts (unfold EntriesValid in u)
      where
        by_parts : ((precedes j i ≡ true) × Valid x n × EntriesValid fs (after i) n) → EntriesValid (entry i x fs) (after k) n
        by_parts p = unfold EntriesValid in (precedes_trans k j i v.0 p.0, p.1, p.2)

pub shorter : (es ls : Entries) (j : KeyBefore) (n : ℕ) → EntriesValid es j n → Covers es ls → length (encode_entries es) ≤ length (encode_entries ls)
unfolding Covers EntriesValid
shorter no_entries ls j n v c = least ls
  where
    least : (ms : Entries) → length (encode_entries no_entries) ≤ length (encode_entries ms)
    least no_entries = unfold encode_entries in omega arith
    least (entry k w ms) = let a = entries_length k w ms in let b = least ms in omega arith
shorter (entry k v es) ls j n h c =
    let w = c.0.0 in
    let r = without k w ls c.0.1 in
    let more = shorter es r.rest (after k) n h.2 (cover_others k es ls r.rest n h.2 r.others c.1) in
    let a = entries_length k v es in
    let b = r.bytes in
    let d = c.0.2 in
    omega arith

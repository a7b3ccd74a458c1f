-- The keys of `piece layers` by their positions are the keys of the dictionary that stands there: as many, in order, ascending, and
-- within the bytes.
-- Assumes nothing.
use Rattle.std.specs.Prelude.{◌≡◌, refl, Bool, true, false, cond, ℕ, zero, suc, ◌+◌, ◌-◌, ◌≤◌, ◌<◌, take, get_or, eqb, List, [], ◌∷◌, ◌++◌, Option, Some, None}
use Rattle.std.proofs.Common.{sym, ◌∙◌, arith, add-one, get_or-take, length-take-le, eqb-true}
use Rattle.std.proofs.Math.Path.{ap}
use Rattle.std.proofs.lemmas.Bool.{false≢true}
use Rattle.std.proofs.Math.ListN.{length, drop, length-append}
use Rattle.octets.specs.Octets.{cut}
use Rattle.limits.specs.Limits.{max_levels}
use Rattle.bencode.specs.Grammar.{colon, letter_d, Value, dictionary, Entries, no_entries, entry, decimal, encode, encode_entries, precedes, KeyBefore, none, after, Valid, EntriesValid}
use Rattle.bencode.specs.Parts.{read_entry}
use Rattle.bencode.specs.CompleteLaws.{content_start, string_some, dictionary_bytes}
use Rattle.bencode.specs.PartsLaws.{value_start, entry_is, entry_none, entry_ends, entries_length, entries_some}
use Rattle.bencode.specs.DepthLaws.{more_levels, entries_more_levels}
use Rattle.bencode.specs.declared.parts.Entry.{Entry}
use Rattle.sorting.specs.Sorting.{Ascending}
use Rattle.layers.specs.Layers.{keys_on, keys_from, wide_on, wide_from, layer_keys, keys_wide}

-- the keys of a dictionary, in order
unfoldable pub entry_keys : Entries → List (List ℕ)
entry_keys no_entries = []
entry_keys (entry k v es) = k ∷ entry_keys es

-- whether each has 32 bytes
unfoldable pub all_wide : Entries → Bool
all_wide no_entries = true
all_wide (entry k v es) = cond (eqb (length k) 32) (all_wide es) false

pub both : (a b : Bool) → cond a b false ≡ true → (a ≡ true) × (b ≡ true)
both true b e = (refl, e)
both false b e = absurd (false≢true e)

wide_first : (k : List ℕ) (v : Value) (es : Entries) → all_wide (entry k v es) ≡ true → (length k ≡ 32) × (all_wide es ≡ true)
unfolding all_wide
wide_first k v es e = let p = both (eqb (length k) 32) (all_wide es) e in (eqb-true (length k) 32 p.0, p.1)

-- the keys of the entries stand at these positions
unfoldable pub KeysStand : List ℕ → List ℕ → Entries → Type 0
KeysStand s [] no_entries = Unit {0}
KeysStand s [] (entry k v es) = ⊥
KeysStand s (a ∷ ps) no_entries = ⊥
KeysStand s (a ∷ ps) (entry k v es) = (cut s a (length k) ≡ k) × KeysStand s ps es

-- ---- from a position on

from_stand : (s : List ℕ) (es : Entries) (j : KeyBefore) (steps at : ℕ) (r : List ℕ) → drop at s ≡ encode_entries es ++ r → EntriesValid es j max_levels
    → length (encode_entries es) ≤ steps → KeysStand s (keys_from steps s at) es × (wide_from steps s at ≡ all_wide es)
unfolding keys_from wide_from KeysStand all_wide Valid
from_stand s es j zero at r e h g = absurd (omega (arith, entries_some es))
from_stand s no_entries j (suc f) at r e h g = rw (entry_none s at r e) (tt, refl)
from_stand s (entry k v es) j (suc f) at r e h g =
    let w = entry_is s at k v es r e h.1 in
    let fewer : length (encode_entries es) ≤ f = omega (arith, entries_length k v es, string_some k) in
    let lc = length-append (decimal (length k)) (colon ∷ k) in
    let size : value_start at k - content_start at k ≡ length k = omega arith in
    let more = from_stand s es (after k) f (value_start at k + length (encode v)) r w.next h.2 fewer in
    rw w.read ((rw size at w.key, more.0), rw (size, more.1) refl)

stand_count : (s ps : List ℕ) (es : Entries) → KeysStand s ps es → length ps ≡ length (entry_keys es)
unfolding KeysStand entry_keys
stand_count s [] no_entries p = refl
stand_count s [] (entry k v es) p = absurd p
stand_count s (a ∷ ps) no_entries p = absurd p
stand_count s (a ∷ ps) (entry k v es) p = ap suc (stand_count s ps es p.1)

-- each precedes the next, as the entries are valid
stand_ascending : (s ps : List ℕ) (es : Entries) (j : KeyBefore) (l : ℕ) → KeysStand s ps es → all_wide es ≡ true → EntriesValid es j l
    → (i : ℕ) → suc i < length ps → precedes (cut s (get_or ps i 0) 32) (cut s (get_or ps (suc i) 0) 32) ≡ true
unfolding KeysStand Valid
stand_ascending s [] es j l p w h i g = absurd (omega arith)
stand_ascending s (a ∷ ps) no_entries j l p w h i g = absurd p
stand_ascending s (a ∷ []) (entry k v es) j l p w h i g = absurd (omega arith)
stand_ascending s (a ∷ b ∷ ps) (entry k v no_entries) j l p w h i g = absurd p.1
stand_ascending s (a ∷ b ∷ ps) (entry k v (entry m u es)) j l p w h zero g =
    let q = wide_first k v (entry m u es) w in
    let o = wide_first m u es q.1 in
    let x : cut s a 32 ≡ k = rw q.0 at p.0 in
    let y : cut s b 32 ≡ m = rw o.0 at p.1.0 in
    rw (x, y) h.2.0
stand_ascending s (a ∷ b ∷ ps) (entry k v (entry m u es)) j l p w h (suc i) g =
    stand_ascending s (b ∷ ps) (entry m u es) (after k) l p.1 (wide_first k v (entry m u es) w).1 h.2 i (omega arith)

-- a key of 32 bytes that is read lies within the bytes
from_within : (s : List ℕ) (steps at : ℕ) → wide_from steps s at ≡ true → (i : ℕ) → i < length (keys_from steps s at) → get_or (keys_from steps s at) i 0 + 32 ≤ length s
unfolding keys_from wide_from
from_within s zero at w i g = absurd (omega arith)
from_within s (suc f) at w i g = by_entry (read_entry at (drop at s)) refl (from_within s f) w i g
  where
    by_entry : (x : Option Entry) → read_entry at (drop at s) ≡ x → ((k : ℕ) → wide_from f s k ≡ true → (i : ℕ) → i < length (keys_from f s k) → get_or (keys_from f s k) i 0 + 32 ≤ length s)
        → wide_on (wide_from f s) x ≡ true → (i : ℕ) → i < length (keys_on (keys_from f s) x) → get_or (keys_on (keys_from f s) x) i 0 + 32 ≤ length s
    by_entry None q ih w i g = absurd (omega arith)
    by_entry (Some r) q ih w zero g =
        let p = entry_ends at s r.start r.value r.end q in
        let e = eqb-true (r.value - r.start) 32 (both (eqb (r.value - r.start) 32) (wide_from f s r.end) w).0 in
        omega (arith, p.1, p.2, p.3)
    by_entry (Some p) q ih w (suc i) g = ih p.end (both (eqb (p.value - p.start) 32) (wide_from f s p.end) w).1 i (omega arith)

-- ---- of the whole dictionary

-- the first `count` of an array are all of a list
taken : (keys all : List ℕ) (count : ℕ) → count ≤ length keys → take count keys ≡ all → (count ≡ length all) × ((i : ℕ) → i < count → get_or keys i 0 ≡ get_or all i 0)
taken keys all count room e =
    (sym (length-take-le count keys room) ∙ ap length e, λ i h. sym (get_or-take count keys i 0 h) ∙ ap (λ (l : List ℕ). get_or l i 0) e)

-- keys of 32 bytes lie within the bytes, in an array that begins with their positions
pub keys_within : (s : List ℕ) → keys_wide s ≡ true → (keys : List ℕ) (count : ℕ) → count ≤ length keys → take count keys ≡ layer_keys s
    → (i : ℕ) → i < count → get_or keys i 0 + 32 ≤ length s
unfolding layer_keys keys_wide
keys_within s w keys count room e i h =
    let t = taken keys (layer_keys s) count room e in
    rw (t.1 i h) (from_within s (suc (length (drop 1 s))) 1 w i (omega (arith, t.0)))

module _ (s : List ℕ) (es : Entries) (r : List ℕ) (bytes : s ≡ encode (dictionary es) ++ r) (l : ℕ) (low : l ≤ max_levels) (valid : Valid (dictionary es) l) where
  levels : EntriesValid es none max_levels
  unfolding Valid
  levels = entries_more_levels es none (max_levels - 1) max_levels (omega arith) (more_levels (dictionary es) l max_levels low valid)

  all_stand : KeysStand s (layer_keys s) es × (keys_wide s ≡ all_wide es)
  unfolding layer_keys keys_wide
  all_stand =
      let front : encode (dictionary es) ++ r ≡ letter_d ∷ (encode_entries es ++ r) = ap (λ (t : List ℕ). t ++ r) (dictionary_bytes es) in
      let behind : drop 1 s ≡ encode_entries es ++ r = ap (λ (t : List ℕ). drop 1 t) (bytes ∙ front) in
      let size : length (drop 1 s) ≡ length (encode_entries es ++ r) = ap length behind in
      from_stand s es none (suc (length (drop 1 s))) 1 r behind levels
      (omega (arith, length-append (encode_entries es) r))

  -- each key stands at its position
  pub keys_stand : KeysStand s (layer_keys s) es
  keys_stand = all_stand.0

  -- each key has 32 bytes exactly if it is so of the entries
  pub keys_wide_lem : keys_wide s ≡ all_wide es
  keys_wide_lem = all_stand.1

  -- there are as many as entries
  pub keys_count : length (layer_keys s) ≡ length (entry_keys es)
  keys_count = stand_count s (layer_keys s) es keys_stand

  -- and ascend, in an array that begins with their positions
  pub keys_ascending : keys_wide s ≡ true → (keys : List ℕ) (count : ℕ) → count ≤ length keys → take count keys ≡ layer_keys s → Ascending s keys count
  keys_ascending w keys count room e i h =
      let t = taken keys (layer_keys s) count room e in
      let step = stand_ascending s (layer_keys s) es none max_levels keys_stand (sym keys_wide_lem ∙ w) levels i (omega (arith, t.0)) in
      rw (t.1 i (omega arith), t.1 (i + 1) h) (rw (add-one i) step)

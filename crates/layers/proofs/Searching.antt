-- The keys of `piece layers` by their positions, against the search for one key.
-- Assumes nothing.
use Rattle.bencode.specs.Parts.{keyed}
use Rattle.bencode.specs.Scalar.{part}
use Rattle.std.specs.Prelude.{◌≡◌, refl, Bool, true, false, cond, List, ℕ, zero, suc, ◌+◌, ◌-◌, ◌≤◌, ◌<◌, length, drop, get_or, eqb, Option, None, Some}
use Rattle.std.proofs.Common.{sym, ap, ◌∙◌, arith, get_or-take, length-take-le, eqb-true}
use Rattle.octets.specs.Octets.{cut, same}
use Rattle.octets.specs.OctetsLaws.{same_true, same_eq}
use Rattle.bencode.specs.Scalar.{read_string}
use Rattle.bencode.specs.Walk.{between}
use Rattle.bencode.specs.Parts.{read_entry, from_entry, find_in, find_key}
use Rattle.bencode.specs.EndsLaws.{drop_further}
use Rattle.bencode.specs.PartsLaws.{entry_ends}
use Rattle.bencode.specs.declared.part.Part.{Part}
use Rattle.bencode.specs.declared.parts.Entry.{Entry}
use Rattle.sorting.specs.SortingLaws.{ascending_one}
use Rattle.layers.specs.Layers.{string_in, layer_at, keys_on, keys_from, wide_on, wide_from, layer_keys, keys_wide, Indexed}
use Rattle.layers.specs.KeysLaws.{both, keys_within}

-- an entry's key of 32 bytes
key_ends : (b a : ℕ) → a ≤ b → eqb (b - a) 32 ≡ true → b ≡ a + 32
key_ends b a h e = let o : b - a ≡ 32 = eqb-true (b - a) 32 e in omega arith

module _ (s key : List ℕ) where
  -- what the search does at an entry
  abbrev on_entry : ℕ → ℕ → Option Entry → Option Part
  on_entry n at x = from_entry x (λ a b k. cond (same key (between at (drop at s) a b)) (part b k) (find_in key n k (drop (k - at) (drop at s))))

  entry_step : (n at a b k : ℕ) → read_entry at (drop at s) ≡ keyed a b k → eqb (b - a) 32 ≡ true
      → on_entry n at (keyed a b k) ≡ cond (same key (cut s a 32)) (part (a + 32) k) (find_in key n k (drop k s))
  unfolding cut
  entry_step n at a b k q e =
      let p = entry_ends at s a b k q in
      let x = p.0 in
      let y = p.1 in
      let z = p.2 in
      let o : b ≡ a + 32 = key_ends b a y e in
      let size : b - a ≡ 32 = omega arith in
      rw (drop_further s at a (omega arith), drop_further s at k (omega arith), size, o) refl

  -- where no key is the one, nothing is found
  pub find_none : (n at : ℕ) → wide_from n s at ≡ true → ((i : ℕ) → i < length (keys_from n s at) → cut s (get_or (keys_from n s at) i 0) 32 ≡ key → ⊥) → find_in key n at (drop at s) ≡ None
  unfolding wide_from keys_from find_in
  find_none zero at w h = refl
  find_none (suc n) at w h = by_entry (read_entry at (drop at s)) refl w h (find_none n)
    where
      by_entry : (x : Option Entry) → read_entry at (drop at s) ≡ x → wide_on (wide_from n s) x ≡ true
          → ((i : ℕ) → i < length (keys_on (keys_from n s) x) → cut s (get_or (keys_on (keys_from n s) x) i 0) 32 ≡ key → ⊥)
          → ((k : ℕ) → wide_from n s k ≡ true → ((i : ℕ) → i < length (keys_from n s k) → cut s (get_or (keys_from n s k) i 0) 32 ≡ key → ⊥) → find_in key n k (drop k s) ≡ None)
          → on_entry n at x ≡ None
      by_entry None q w h later = refl
      by_entry (Some r) q w h later =
          let p = both (eqb (r.value - r.start) 32) (wide_from n s r.end) w in
          entry_step n at r.start r.value r.end q p.0 ∙ by_same (same key (cut s r.start 32)) refl p.1
        where
          by_same : (t : Bool) → same key (cut s r.start 32) ≡ t → wide_from n s r.end ≡ true → cond t (part (r.start + 32) r.end) (find_in key n r.end (drop r.end s)) ≡ None
          by_same true g u = absurd (h 0 (omega arith) (sym (same_true key (cut s r.start 32) g)))
          by_same false g u = later r.end u (λ i l e. h (suc i) (omega arith) e)

  -- the first key that is the one is found
  pub find_first : (n at i : ℕ) → wide_from n s at ≡ true → i < length (keys_from n s at) → cut s (get_or (keys_from n s at) i 0) 32 ≡ key
      → ((j : ℕ) → j < i → cut s (get_or (keys_from n s at) j 0) 32 ≡ key → ⊥) → (e : ℕ) × (find_in key n at (drop at s) ≡ part (get_or (keys_from n s at) i 0 + 32) e)
  unfolding wide_from keys_from find_in
  find_first zero at i w l h o = absurd (omega arith)
  find_first (suc n) at i w l h o = by_entry (read_entry at (drop at s)) refl w i l h o (find_first n)
    where
      by_entry : (x : Option Entry) → read_entry at (drop at s) ≡ x → wide_on (wide_from n s) x ≡ true → (i : ℕ) → i < length (keys_on (keys_from n s) x)
          → cut s (get_or (keys_on (keys_from n s) x) i 0) 32 ≡ key
          → ((j : ℕ) → j < i → cut s (get_or (keys_on (keys_from n s) x) j 0) 32 ≡ key → ⊥)
          → ((k i : ℕ) → wide_from n s k ≡ true → i < length (keys_from n s k) → cut s (get_or (keys_from n s k) i 0) 32 ≡ key
          → ((j : ℕ) → j < i → cut s (get_or (keys_from n s k) j 0) 32 ≡ key → ⊥) → (e : ℕ) × (find_in key n k (drop k s) ≡ part (get_or (keys_from n s k) i 0 + 32) e))
          → (e : ℕ) × (on_entry n at x ≡ part (get_or (keys_on (keys_from n s) x) i 0 + 32) e)
      by_entry None q w i l h o later = absurd (omega arith)
      by_entry (Some r) q w zero l h o later =
          let p = both (eqb (r.value - r.start) 32) (wide_from n s r.end) w in
          (r.end, entry_step n at r.start r.value r.end q p.0 ∙ rw (same_eq key (cut s r.start 32) (sym h)) refl)
      by_entry (Some u) q w (suc i) l h o later =
          let p = both (eqb (u.value - u.start) 32) (wide_from n s u.end) w in
          let r = later u.end i p.1 (omega arith) h (λ j z e. o (suc j) (omega arith) e) in
          (r.0, entry_step n at u.start u.value u.end q p.0 ∙ by_same (same key (cut s u.start 32)) refl ∙ r.1)
        where
          by_same : (t : Bool) → same key (cut s u.start 32) ≡ t → cond t (part (u.start + 32) u.end) (find_in key n u.end (drop u.end s)) ≡ find_in key n u.end (drop u.end s)
          by_same true g = absurd (o 0 (omega arith) (sym (same_true key (cut s u.start 32) g)))
          by_same false g = refl

-- ---- a layer by the index

module _ (s keys : List ℕ) (count : ℕ) (x : Indexed s keys count) where
  key_is : (i : ℕ) → i < count → get_or (layer_keys s) i 0 ≡ get_or keys i 0
  key_is i h = ap (λ (l : List ℕ). get_or l i 0) (sym x.all) ∙ get_or-take count keys i 0 h

  pub key_count : length (layer_keys s) ≡ count
  key_count = ap length (sym x.all) ∙ length-take-le count keys x.room

  pub index_within : (i : ℕ) → i < count → get_or keys i 0 + 32 ≤ length s
  index_within = keys_within s x.wide keys count x.room x.all

  whole : (key : List ℕ) → find_key key 0 s ≡ find_in key (suc (length (drop 1 s))) 1 (drop 1 s)
  unfolding find_key
  whole key = rw x.opens refl

  -- found by halving, it is what the search for the key finds
  pub indexed_found : (key : List ℕ) (r : ℕ) → r < count → cut s (get_or keys r 0) 32 ≡ key → layer_at s key ≡ read_string (get_or keys r 0 + 32) (drop (get_or keys r 0 + 32) s)
  unfolding layer_at layer_keys keys_wide
  indexed_found key r h e =
      let at_key : cut s (get_or (layer_keys s) r 0) 32 ≡ key = rw (key_is r h) e in
      let others : (j : ℕ) → j < r → cut s (get_or (layer_keys s) j 0) 32 ≡ key → ⊥ =
      λ j l q. let j_below : j < count = omega arith in let same_place : j ≡ r = ascending_one s keys count x.ascending j r j_below h (rw (key_is j j_below) at q ∙ sym e) in omega arith in
      let f = find_first s key (suc (length (drop 1 s))) 1 r x.wide (rw key_count h) at_key others in
      ap (string_in s) (whole key ∙ f.1) ∙ rw (key_is r h) refl

  pub indexed_none : (key : List ℕ) → ((i : ℕ) → i < count → cut s (get_or keys i 0) 32 ≡ key → ⊥) → layer_at s key ≡ None
  unfolding layer_at layer_keys keys_wide
  indexed_none key h =
      let none : (i : ℕ) → i < length (layer_keys s) → cut s (get_or (layer_keys s) i 0) 32 ≡ key → ⊥ =
      λ i l q. let i_below : i < count = rw key_count at l in h i i_below (rw (key_is i i_below) at q) in
      ap (string_in s) (whole key ∙ find_none s key (suc (length (drop 1 s))) 1 x.wide none)

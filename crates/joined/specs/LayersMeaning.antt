-- 01, "The torrent", 27 and 28: what is decided by the positions of the keys of `piece layers` is what the value says. The keys are
-- only counted: where each longer file's root is a key, and no two keys are the same, no key is left over exactly if there are as many
-- keys as different roots of longer files.
-- Assumes nothing.
use Rattle.std.specs.Prelude.{◌≡◌, ◌⊎◌, Bool, cond, ◌&&◌, ◌||◌, ℕ, ◌-◌, eqb, List, [], ◌∷◌, ◌++◌}
use Rattle.std.proofs.Math.Path.{refl, ap}
use Rattle.std.proofs.Common.{sym, ap₂, ◌∙◌, arith, eqb-true, eq-eqb, append-nil}
use Rattle.std.proofs.Math.Logic.{inl, inr}
use Rattle.std.proofs.Math.Bool.{true, false, not, false≢true, and-eq-true_iff, and-false}
use Rattle.std.proofs.Math.ListN.{length}
use Rattle.limits.specs.Limits.{max_levels}
use Rattle.octets.specs.Octets.{same}
use Rattle.octets.specs.OctetsLaws.{same_true, same_false}
use Rattle.numbers.specs.Numbers.{layers_amiss, layer_differs}
use Rattle.tree.specs.Geometry.{has_layer}
use Rattle.tree.proofs.GeometryLaws.{long_full}
use Rattle.bencode.specs.Grammar.{dictionary, Entries, no_entries, entry, encode, precedes, KeyBefore, none, after, Valid, EntriesValid}
use Rattle.bencode.specs.Parts.{present, lookup}
use Rattle.sorting.specs.PrecedesLaws.{precedes_trans, precedes_differ}
use Rattle.filetree.specs.Tree.{Listed}
use Rattle.layers.specs.Layers.{layer_keys, keys_wide, worst}
use Rattle.layers.specs.KeysLaws.{entry_keys, all_wide, keys_wide_lem, keys_count}
use Rattle.meaning.specs.Torrent.{File, layer_fits, layers_fit, some_longer, no_others, layers_give_roots}
use Rattle.meaning.proofs.FilesLaws.{AllHold}
use Rattle.meaning.specs.Counting.{Member, Distinct, Contained, contained_fewer, contained_all}
use Rattle.twins.specs.Twins.{long_roots, once_each, layer_count}
use Rattle.twins.specs.TwinsLaws.{once_in, once_all, once_distinct}
use Rattle.joined.specs.Alike.{AllAlike}
use Rattle.joined.specs.LayersRead.{worst_number}

-- a first root that is there only if t
first_only : (t : Bool) (k x : List ℕ) (xs : List (List ℕ)) → Member k (cond t (x ∷ xs) xs) → ((t ≡ true) × (k ≡ x)) ⊎ Member k xs
unfolding Member
first_only true k x xs (inl e) = inl (refl, e)
first_only true k x xs (inr m) = inr m
first_only false k x xs m = inr m

-- ---- the files' roots

module _ (plen : ℕ) where
  -- of 32 bytes
  long_wide : (vs : List File) → AllHold vs → (k : List ℕ) → Member k (long_roots plen vs) → length k ≡ 32
  unfolding AllHold long_roots
  long_wide [] w k m = absurd (unfold Member in m)
  long_wide (v ∷ vs) w k m =
      elim (first_only (has_layer v.size plen) k v.root (long_roots plen vs) m) [
        | inl p ↦ ap length p.1 ∙ w.0.wide (long_full v.size plen p.0)
        | inr n ↦ long_wide vs w.1 k n
      ]

  -- a root whose layer fits is a key
  fits_key : (v : File) (k : List ℕ) (ls : Entries) → layer_fits plen v (lookup k ls) ≡ true → Member k (entry_keys ls)
  unfolding lookup entry_keys Member
  fits_key v k no_entries e = absurd (false≢true e)
  fits_key v k (entry j u es) e = by_same (same k j) refl e (fits_key v k es)
    where
      by_same : (t : Bool) → same k j ≡ t → layer_fits plen v (cond t (present u) (lookup k es)) ≡ true → (layer_fits plen v (lookup k es) ≡ true → Member k (entry_keys es)) → (k ≡ j) ⊎ Member k (entry_keys es)
      by_same true q e ih = inl (same_true k j q)
      by_same false q e ih = inr (ih e)

  -- so each of them is one, where all layers fit
  long_keys : (ls : Entries) (vs : List File) → layers_fit plen ls vs ≡ true → Contained (long_roots plen vs) (entry_keys ls)
  unfolding layers_fit long_roots
  long_keys ls [] e k m = absurd (unfold Member in m)
  long_keys ls (v ∷ vs) e k m =
      let p = (and-eq-true_iff (not (has_layer v.size plen) || layer_fits plen v (lookup v.root ls)) (layers_fit plen ls vs)).0 e in
      elim (first_only (has_layer v.size plen) k v.root (long_roots plen vs) m) [
        | inl q ↦ (
            let fits : not true || layer_fits plen v (lookup v.root ls) ≡ true = rw q.0 at p.0 in
            rw q.1 (fits_key v v.root ls fits)
            )
        | inr n ↦ long_keys ls vs p.1 k n
      ]

  -- some file has it: a key is one of them
  some_long : (k : List ℕ) (vs : List File) → some_longer plen k vs ≡ true → Member k (long_roots plen vs)
  unfolding some_longer long_roots
  some_long k [] e = absurd (false≢true e)
  some_long k (v ∷ vs) e = by_both (has_layer v.size plen) (same k v.root) refl e (some_long k vs)
    where
      by_both : (t u : Bool) → same k v.root ≡ u → (t && u) || some_longer plen k vs ≡ true → (some_longer plen k vs ≡ true → Member k (long_roots plen vs))
          → Member k (cond t (v.root ∷ long_roots plen vs) (long_roots plen vs))
      by_both true true q e ih = unfold Member in inl (same_true k v.root q)
      by_both true false q e ih = unfold Member in inr (ih e)
      by_both false u q e ih = ih e

  -- none has it: it is not
  none_longer : (k : List ℕ) (vs : List File) → some_longer plen k vs ≡ false → Member k (long_roots plen vs) → ⊥
  unfolding some_longer long_roots
  none_longer k [] e m = absurd (unfold Member in m)
  none_longer k (v ∷ vs) e m = by_both (has_layer v.size plen) (same k v.root) refl e (none_longer k vs) m
    where
      by_both : (t u : Bool) → same k v.root ≡ u → (t && u) || some_longer plen k vs ≡ false → (some_longer plen k vs ≡ false → Member k (long_roots plen vs) → ⊥)
          → Member k (cond t (v.root ∷ long_roots plen vs) (long_roots plen vs)) → ⊥
      by_both true true q e ih m = false≢true (sym e)
      by_both true false q e ih m = unfold Member in elim m [ inl n ↦ same_false k v.root q n | inr n ↦ ih e n ]
      by_both false u q e ih m = ih e m

  -- no others: each key is one of them
  keys_long : (vs : List File) (ls : Entries) → no_others plen vs ls ≡ true → Contained (entry_keys ls) (long_roots plen vs)
  unfolding no_others entry_keys Member
  keys_long vs no_entries e k m = absurd m
  keys_long vs (entry j u es) e k m =
      let p = (and-eq-true_iff (some_longer plen j vs) (no_others plen vs es)).0 e in
      elim m [ inl q ↦ rw q (some_long j vs p.0) | inr n ↦ keys_long vs es p.1 k n ]

  -- a key that is none of them
  abbrev LeftOver : List File → Entries → Type 0
  LeftOver vs ls = (k : List ℕ) × Member k (entry_keys ls) × (Member k (long_roots plen vs) → ⊥)

  -- others: there is one
  key_left : (vs : List File) (ls : Entries) → no_others plen vs ls ≡ false → LeftOver vs ls
  unfolding no_others entry_keys Member
  key_left vs no_entries e = absurd (false≢true (sym e))
  key_left vs (entry j u es) e = by_first (some_longer plen j vs) refl e (key_left vs es)
    where
      by_first : (t : Bool) → some_longer plen j vs ≡ t → t && no_others plen vs es ≡ false → (no_others plen vs es ≡ false → LeftOver vs es)
          → (k : List ℕ) × ((k ≡ j) ⊎ Member k (entry_keys es)) × (Member k (long_roots plen vs) → ⊥)
      by_first true q e ih = let w = ih e in (w.0, inr w.1, w.2)
      by_first false q e ih = (j, inl refl, none_longer j vs q)

-- ---- the keys

-- keys behind a key
keys_behind : (es : Entries) (j : List ℕ) (l : ℕ) → EntriesValid es (after j) l → (k : List ℕ) → Member k (entry_keys es) → precedes j k ≡ true
unfolding Valid entry_keys Member
keys_behind no_entries j l h k m = absurd m
keys_behind (entry i u es) j l h k m = elim m [ inl e ↦ rw e h.0 | inr n ↦ precedes_trans j i k h.0 (keys_behind es i l h.2 k n) ]

-- no two are the same
keys_distinct : (es : Entries) (j : KeyBefore) (l : ℕ) → EntriesValid es j l → Distinct (entry_keys es)
unfolding Valid entry_keys Distinct
keys_distinct no_entries j l h = tt
keys_distinct (entry k u es) j l h = (λ m. precedes_differ k k (keys_behind es k l h.2 k m) refl, keys_distinct es (after k) l h.2)

-- if each has 32 bytes, they are wide
keys_all_wide : (es : Entries) → ((k : List ℕ) → Member k (entry_keys es) → length k ≡ 32) → all_wide es ≡ true
unfolding all_wide entry_keys Member
keys_all_wide no_entries f = refl
keys_all_wide (entry k u es) f = rw (eq-eqb (length k) 32 (f k (inl refl))) (keys_all_wide es (λ j m. f j (inr m)))

-- ---- the numbers

module _ (s l : List ℕ) (ls : Entries) (bytes : l ≡ encode (dictionary ls)) (valid : Valid (dictionary ls) max_levels) (plen : ℕ) (fs : List Listed)
    (vs : List File) (alike : AllAlike s fs vs) (hold : AllHold vs) where
  whole : l ≡ encode (dictionary ls) ++ []
  whole = bytes ∙ sym (append-nil (encode (dictionary ls)))

  distinct_keys : Distinct (entry_keys ls)
  unfolding Valid
  distinct_keys = keys_distinct ls none (max_levels - 1) valid

  key_count : length (layer_keys l) ≡ length (entry_keys ls)
  key_count = keys_count l ls [] whole max_levels (omega arith) valid

  key_width : keys_wide l ≡ all_wide ls
  key_width = keys_wide_lem l ls [] whole max_levels (omega arith) valid

  -- where each layer fits, no key is left over exactly if there are as many, of 32 bytes, as different roots of longer files
  pub keys_counted : layers_fit plen ls vs ≡ true → keys_wide l && eqb (length (layer_keys l)) (layer_count plen vs) ≡ no_others plen vs ls
  keys_counted fit = by_others (no_others plen vs ls) refl
    where
      roots : List (List ℕ)
      roots = once_each (long_roots plen vs)

      root_count : layer_count plen vs ≡ length roots
      root_count = unfold layer_count in refl

      distinct : Distinct roots
      distinct = once_distinct (long_roots plen vs)

      are_keys : Contained roots (entry_keys ls)
      are_keys k m = long_keys plen ls vs fit k (once_in k (long_roots plen vs) m)

      by_count : LeftOver plen vs ls → (t : Bool) → eqb (length (layer_keys l)) (layer_count plen vs) ≡ t → keys_wide l && t ≡ false
      by_count w true e =
          let q = eqb-true (length (layer_keys l)) (layer_count plen vs) e in
          absurd (contained_all roots (entry_keys ls) distinct are_keys (omega (arith, key_count, root_count)) w.0 w.1 (λ m. w.2 (once_in w.0 (long_roots plen vs) m)))
      by_count w false e = and-false (keys_wide l)

      by_others : (t : Bool) → no_others plen vs ls ≡ t → keys_wide l && eqb (length (layer_keys l)) (layer_count plen vs) ≡ t
      by_others true e =
          let are_roots = keys_long plen vs ls e in
          let up = contained_fewer roots (entry_keys ls) distinct are_keys in
          let down = contained_fewer (entry_keys ls) roots distinct_keys (λ k m. once_all k (long_roots plen vs) (are_roots k m)) in
          let wide : keys_wide l ≡ true = key_width ∙ keys_all_wide ls (λ k m. long_wide plen vs hold k (are_roots k m)) in
          let many : eqb (length (layer_keys l)) (layer_count plen vs) ≡ true = eq-eqb (length (layer_keys l)) (layer_count plen vs) (omega (arith, key_count, root_count)) in
          ap₂ ◌&&◌ wide many
      by_others false e = by_count (key_left plen vs ls e) (eqb (length (layer_keys l)) (layer_count plen vs)) refl

  -- 27 and 28 by positions are 27 and 28 of the value
  pub layers_number : cond (keys_wide l && eqb (length (layer_keys l)) (layer_count plen vs)) (worst s l plen 0 fs) layers_amiss
      ≡ cond (layers_fit plen ls vs && no_others plen vs ls) (cond (layers_give_roots plen ls vs) 0 layer_differs) layers_amiss
  layers_number = rw (worst_number s l ls bytes valid plen fs vs alike 0) (by_fit (layers_fit plen ls vs) refl)
    where
      given : ℕ
      given = cond (layers_give_roots plen ls vs) 0 layer_differs

      either : (t : Bool) → cond t layers_amiss layers_amiss ≡ layers_amiss
      either true = refl
      either false = refl

      by_fit : (t : Bool) → layers_fit plen ls vs ≡ t
          → cond (keys_wide l && eqb (length (layer_keys l)) (layer_count plen vs)) (cond t given layers_amiss) layers_amiss ≡ cond (t && no_others plen vs ls) given layers_amiss
      by_fit true e = ap (λ (t : Bool). cond t given layers_amiss) (keys_counted e)
      by_fit false e = either (keys_wide l && eqb (length (layer_keys l)) (layer_count plen vs))

-- A file met, and places forgotten, as the code does it.
-- Assumes nothing.
use Rattle.std.specs.Prelude.{◌≡◌, refl, Bool, true, false, cond, not, ◌&&◌, List, ◌++◌, ℕ, ◌+◌, ◌-◌, ◌≤◌, ◌<◌, length, get_or, set, take, drop, replicate, eqb, Option}
use Rattle.std.proofs.Common.{sym, ap, ◌∙◌, inl, inr, arith, length-append, length-drop, take_at, get_or-take, eq-eqb, ne_eqb}
use Rattle.std.proofs.lemmas.List.{length-replicate, get_or-replicate}
use Rattle.octets.specs.Octets.{cut}
use Rattle.tree.specs.Geometry.{has_layer}
use Rattle.sorting.specs.Sorting.{Stands, SearchedFor}
use Rattle.sorting.proofs.Telling.{part_is}
use Rattle.filetree.specs.Token.{token_at}
use Rattle.filetree.specs.declared.token.Token.{Token}
use Rattle.twins.specs.Twins.{differs, token_size, size_noted, Meets}

-- ---- a note

module _ (t : List ℕ) (p : ℕ) where
  pub size_none : p ≡ 0 → ◌≡◌ {A = ℕ} 0 (size_noted t p)
  unfolding size_noted
  size_none e = rw (eq-eqb p 0 e) refl

  pub size_token : (p ≡ 0 → ⊥) → (x : Option Token) → token_at t p ≡ x → token_size x ≡ size_noted t p
  unfolding size_noted
  size_token h x e = rw (ne_eqb p 0 h, e) refl

-- ---- a file

module _ (t roots : List ℕ) (count : ℕ) (room : List ℕ) (i n r : ℕ) where
  pub met_empty : n ≡ 0 → Meets t roots count room room i n r 0
  met_empty z = inl (z, refl, refl)

  module _ (z : n ≡ 0 → ⊥) (j : ℕ) (s : SearchedFor t roots count (take (r + 32 - r) (drop r t)) j) where
    pub met_here : j < count → (p known : ℕ) → p ≡ get_or room j 0 → known ≡ size_noted t p → Meets t roots count room (set room j i) i n r known
    met_here h p known e q = by_search s
      where
        by_search : SearchedFor t roots count (take (r + 32 - r) (drop r t)) j → Meets t roots count room (set room j i) i n r known
        by_search (inl (l, f)) = inr (z, (j, h, f ∙ part_is t r, q ∙ ap (size_noted t) e, refl))
        by_search (inr (f, g)) = absurd (omega arith)

    pub met_never : count ≤ j → Stands t roots count (cut t r 32) → ⊥
    met_never h w = by_search s
      where
        by_search : SearchedFor t roots count (take (r + 32 - r) (drop r t)) j → ⊥
        by_search (inl (l, f)) = omega arith
        by_search (inr (f, g)) = g w.0 w.1 (w.2 ∙ sym (part_is t r))

-- ---- tests

module _ (known n : ℕ) where
  pub differs_none : known ≡ 0 → false ≡ differs known n
  differs_none e = rw (eq-eqb known 0 e) refl

  pub differs_some : (known ≡ 0 → ⊥) → not (eqb known n) ≡ differs known n
  differs_some h = rw (ne_eqb known 0 h) refl

module _ (layered known n plen : ℕ) where
  pub one_long : known ≡ 0 → (b : Bool) → b ≡ has_layer n plen → b ≡ true → layered + 1 ≡ cond (eqb known 0 && has_layer n plen) (layered + 1) layered
  one_long z b e q = rw (eq-eqb known 0 z, sym e ∙ q) refl

  pub one_short : known ≡ 0 → (b : Bool) → b ≡ has_layer n plen → b ≡ false → layered ≡ cond (eqb known 0 && has_layer n plen) (layered + 1) layered
  one_short z b e q = rw (eq-eqb known 0 z, sym e ∙ q) refl

  pub one_known : (known ≡ 0 → ⊥) → layered ≡ cond (eqb known 0 && has_layer n plen) (layered + 1) layered
  one_known h = rw (ne_eqb known 0 h) refl

-- ---- places forgotten

pub forgotten_length : (room₀ room : List ℕ) (i : ℕ) → room ≡ replicate i 0 ++ drop i room₀ → i ≤ length room₀ → length room ≡ length room₀
forgotten_length room₀ room i e h = ap length e ∙ omega (arith, length-append (replicate i 0) (drop i room₀), length-replicate {A = ℕ} i 0, length-drop i room₀)

pub forgotten_room : (room₀ room : List ℕ) (i : ℕ) → room ≡ replicate i 0 ++ drop i room₀ → i ≤ length room₀ → i ≤ length room
forgotten_room room₀ room i e h = omega (arith, forgotten_length room₀ room i e h)

pub forgotten : (room₀ room : List ℕ) (count : ℕ) → room ≡ replicate count 0 ++ drop count room₀ → (i : ℕ) → i < count → get_or room i 0 ≡ 0
forgotten room₀ room count e i h =
    sym (get_or-take count room i 0 h) ∙ ap (λ (l : List ℕ). get_or l i 0) (ap (take count) e ∙ take_at (replicate count 0) (drop count room₀) count (length-replicate {A = ℕ} count 0)) ∙ get_or-replicate count i 0 0 h

-- The loop that gathers the keys of `piece layers`: how far it has come, and each way on from there.
-- Assumes nothing.
use Rattle.bencode.specs.Parts.{keyed}
use Rattle.std.specs.Prelude.{◌≡◌, refl, Bool, true, false, cond, ◌&&◌, List, [], ◌∷◌, ◌++◌, ℕ, zero, suc, ◌+◌, ◌-◌, ◌≤◌, ◌<◌, length, drop, take, set, eqb, None}
use Rattle.std.proofs.Common.{sym, ap, ◌∙◌, append_assoc, append-nil, add-one, arith, length-append, length-drop, take-suc-set, eq-eqb, ne_eqb, eqb-true}
use Rattle.std.proofs.lemmas.Bool.{false≢true}
use Rattle.std.proofs.Math.Bool.{and-false}
use Rattle.bencode.specs.Parts.{read_entry}
use Rattle.bencode.specs.PartsLaws.{entry_ends}
use Rattle.layers.specs.Layers.{keys_on, keys_from, wide_on, wide_from, layer_keys, keys_wide}

pub record IndexAt (s keys : List ℕ) (most i n : ℕ) : Type 0 where
  pub steps : ℕ
  pub before : List ℕ
  pub enough : length s < i + steps
  pub others : layer_keys s ≡ before ++ keys_from steps s i
  pub wide : keys_wide s ≡ wide_from steps s i
  pub all : n ≡ length before
  pub kept : take n keys ≡ before
  pub few : n ≤ most

pub index_start : (s keys : List ℕ) (most : ℕ) → IndexAt s keys most 1 0
unfolding layer_keys keys_wide
index_start s keys most =
    record { steps = suc (length (drop 1 s)); before = []; enough = omega (arith, length-drop 1 s); others = refl; wide = refl; all = refl; kept = refl; few = omega arith }

-- what is answered: whether there are so many keys, each wide
abbrev pub IndexAnswer : List ℕ → List ℕ → ℕ → Bool → Type 0
IndexAnswer s keys most r = (r ≡ (keys_wide s && eqb (length (layer_keys s)) most)) × (r ≡ true → take most keys ≡ layer_keys s)

module _ (s keys : List ℕ) (most i n : ℕ) (w : IndexAt s keys most i n) where
  no_more_lem : (k : ℕ) → read_entry i (drop i s) ≡ None → (keys_from k s i ≡ []) × (wide_from k s i ≡ true)
  unfolding keys_from wide_from
  no_more_lem zero e = (refl, refl)
  no_more_lem (suc k) e = (ap (keys_on (keys_from k s)) e, ap (wide_on (wide_from k s)) e)

  -- no entry follows: all keys are gathered
  pub index_last : read_entry i (drop i s) ≡ None → (r : Bool) → r ≡ eqb n most → IndexAnswer s keys most r
  index_last e r q =
      let z = no_more_lem w.steps e in
      let all_keys : layer_keys s ≡ w.before = w.others ∙ ap (λ (l : List ℕ). w.before ++ l) z.0 ∙ append-nil w.before in
      let so_many : length (layer_keys s) ≡ n = ap length all_keys ∙ sym w.all in
      (q ∙ rw (w.wide ∙ z.1, so_many) refl, λ t. let m : n ≡ most = eqb-true n most (sym q ∙ t) in rw m at w.kept ∙ sym all_keys)

  module _ (a b k : ℕ) (e : read_entry i (drop i s) ≡ keyed a b k) where
    within : i < length s
    within = let p = entry_ends i s a b k e in let x = p.0 in let y = p.1 in let z = p.2 in let u = p.3 in omega arith

    -- the entry, as the definitions see it
    step : (m : ℕ) → length s < i + m → (f : ℕ) × (length s < i + 1 + f) × (keys_from m s i ≡ a ∷ keys_from f s k) × (wide_from m s i ≡ cond (eqb (b - a) 32) (wide_from f s k) false)
    unfolding keys_from wide_from
    step zero g = absurd (omega (arith, within))
    step (suc f) g = (f, omega arith, ap (keys_on (keys_from f s)) e, ap (wide_on (wide_from f s)) e)

    -- a key of another size
    pub index_narrow : (b - a ≡ 32 → ⊥) → IndexAnswer s keys most false
    index_narrow d =
        let t = step w.steps w.enough in
        let narrow : keys_wide s ≡ false = w.wide ∙ t.3 ∙ rw (ne_eqb (b - a) 32 d) refl in
        (rw narrow refl, λ f. absurd (false≢true f))

    -- one key too many
    pub index_full : most ≤ n → IndexAnswer s keys most false
    index_full g =
        let t = step w.steps w.enough in
        let so_many : length (layer_keys s) ≡ n + suc (length (keys_from t.0 s k)) = ap length (w.others ∙ ap (λ (l : List ℕ). w.before ++ l) t.2) ∙ length-append w.before (a ∷ keys_from t.0 s k) ∙ ap (λ (z : ℕ). z + suc (length (keys_from t.0 s k))) (sym w.all) in
        let other : (length (layer_keys s) ≡ most → ⊥) = λ q. omega arith in
        (rw (ne_eqb (length (layer_keys s)) most other) (sym (and-false (keys_wide s))), λ f. absurd (false≢true f))

    pub index_behind : (i < k) × (k ≤ length s) × (a ≤ b) × (a ≤ length s)
    index_behind = let p = entry_ends i s a b k e in let x = p.0 in let y = p.1 in let z = p.2 in let u = p.3 in (omega arith, u, y, omega arith)

    pub index_more : b - a ≡ 32 → n < most → n < length keys → IndexAt s (set keys n a) most k (n + 1)
    index_more d g l =
        let t = step w.steps w.enough in
        let p = index_behind.0 in
        let g' = t.1 in
        let written : take (n + 1) (set keys n a) ≡ take n keys ++ a ∷ [] = rw add-one (take-suc-set keys n a l) in
        record {
          steps = t.0;
          before = w.before ++ a ∷ [];
          enough = omega arith;
          others = w.others ∙ ap (λ (z : List ℕ). w.before ++ z) t.2 ∙ sym (append_assoc w.before (a ∷ []) (keys_from t.0 s k));
          wide = w.wide ∙ t.3 ∙ rw (eq-eqb (b - a) 32 d) refl;
          all = ap (λ (z : ℕ). z + 1) w.all ∙ sym (length-append w.before (a ∷ []));
          kept = written ∙ ap (λ (z : List ℕ). z ++ a ∷ []) w.kept;
          few = omega arith;
        }

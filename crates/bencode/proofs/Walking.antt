-- The walk at a position of the whole input: how far the code's loops have come, and each way on from there, as the code meets it.
-- Assumes nothing.
use Rattle.bencode.specs.declared.walk.Amiss.{Amiss}
use Rattle.bencode.specs.declared.walk.Amiss.TheVariants.{Broken, TooDeep}
use Rattle.bencode.specs.Scalar.{part}
use Rattle.std.specs.Prelude.{◌≡◌, refl, Bool, true, false, cond, List, [], ◌∷◌, ℕ, zero, suc, ◌+◌, ◌-◌, ◌≤◌, ◌<◌, length, get_or, drop, eqb, Option, Some, None, Err, Ok, Result}
use Rattle.std.proofs.Common.{ap, ◌∙◌, arith, length-drop, drop-drop, eq-eqb, ne_eqb}
use Rattle.limits.specs.Limits.{max_levels}
use Rattle.octets.specs.Octets.{cut}
use Rattle.bencode.specs.Grammar.{letter_d, letter_e, letter_i, letter_l, KeyBefore, none, after, ascends}
use Rattle.bencode.specs.Scalar.{read_string, read_signed}
use Rattle.bencode.specs.Walk.{past_integer, past_string, onward, with_key, end_or, between, in_order, read_key, walk_items, walk_entries, walk_list, walk_dictionary, by_first, walk_value}
use Rattle.numbers.specs.Numbers.{not_strict}
use Rattle.bencode.specs.Strict.{whole_walk, strictness}
use Rattle.bencode.specs.EndsLaws.{drop_further, string_ends, value_ends}
use Rattle.bencode.proofs.Reading.{drop_end}
use Rattle.bencode.specs.declared.part.Part.{Part}
use Rattle.octets.specs.OctetsLaws.{drop_step}

-- ---- one byte

module _ (s : List ℕ) (i : ℕ) where
  end_none : (w : Result ℕ Amiss) → length s ≤ i → end_or i (drop i s) w ≡ (Err Broken)
  unfolding end_or
  end_none w h = rw (drop_end s i h)

  module _ (h : i < length s) where
    end_here : (w : Result ℕ Amiss) → get_or s i 0 ≡ letter_e → end_or i (drop i s) w ≡ Ok (i + 1)
    unfolding end_or
    end_here w e = rw (drop_step s i h) (simp (eq-eqb _ _ e))

    end_not : (w : Result ℕ Amiss) → (get_or s i 0 ≡ letter_e → ⊥) → end_or i (drop i s) w ≡ w
    unfolding end_or
    end_not w e = rw (drop_step s i h) (simp (ne_eqb _ _ e))

    first_step : (ls ds : Result ℕ Amiss) →
        by_first i (drop i s) ls ds ≡
        cond (eqb (get_or s i 0) letter_i) (past_integer (read_signed (i + 1) (drop (i + 1) s)))
        (cond (eqb (get_or s i 0) letter_l) ls (cond (eqb (get_or s i 0) letter_d) ds (past_string (read_string i (drop i s)))))
    unfolding by_first
    first_step ls ds = rw (drop_step s i h)

-- ---- a list

-- the loop has come from a to i: with enough steps, what is left gives what the whole gives
pub record ListAt (value : ℕ → List ℕ → Result ℕ Amiss) (s : List ℕ) (a i : ℕ) : Type 0 where
  pub steps : ℕ
  pub enough : length s < i + steps
  pub gives : walk_list value a (drop a s) ≡ walk_items value steps i (drop i s)

pub list_start : (value : ℕ → List ℕ → Result ℕ Amiss) (s : List ℕ) (a : ℕ) → ListAt value s a a
list_start value s a = record { steps = suc (length (drop a s)); enough = omega (arith, length-drop a s); gives = refl }

module _ {value : ℕ → List ℕ → Result ℕ Amiss} {s : List ℕ} {a i : ℕ} (w : ListAt value s a i) where
  items_none : (f : ℕ) → length s ≤ i → walk_items value f i (drop i s) ≡ (Err Broken)
  unfolding walk_items
  items_none zero h = refl
  items_none (suc f) h = end_none s i _ h

  pub list_none : length s ≤ i → walk_list value a (drop a s) ≡ (Err Broken)
  list_none h = w.gives ∙ items_none w.steps h

  module _ (h : i < length s) where
    items_end : (f : ℕ) → length s < i + f → get_or s i 0 ≡ letter_e → walk_items value f i (drop i s) ≡ Ok (i + 1)
    unfolding walk_items
    items_end zero g e = absurd (omega arith)
    items_end (suc f) g e = end_here s i h _ e

    pub list_closed : get_or s i 0 ≡ letter_e → walk_list value a (drop a s) ≡ Ok (i + 1)
    list_closed e = w.gives ∙ items_end w.steps w.enough e

    module _ (ne : get_or s i 0 ≡ letter_e → ⊥) where
      items_step : (f : ℕ) → walk_items value (suc f) i (drop i s) ≡ onward (value i (drop i s)) (λ k. walk_items value f k (drop (k - i) (drop i s)))
      unfolding walk_items
      items_step f = end_not s i h _ ne

      items_stuck : (x : Amiss) (f : ℕ) → length s < i + f → value i (drop i s) ≡ Err x → walk_items value f i (drop i s) ≡ Err x
      items_stuck x zero g e = absurd (omega arith)
      items_stuck x (suc f) g e = items_step f ∙ rw e refl

      pub list_amiss : (x : Amiss) → value i (drop i s) ≡ Err x → walk_list value a (drop a s) ≡ Err x
      list_amiss x e = w.gives ∙ items_stuck x w.steps w.enough e

      items_on : (k f : ℕ) → length s < i + f → walk_list value a (drop a s) ≡ walk_items value f i (drop i s) → value i (drop i s) ≡ Ok k → i < k → ListAt value s a k
      items_on k zero g q e l = absurd (omega arith)
      items_on k (suc f) g q e l =
          record { steps = f; enough = omega arith; gives = q ∙ items_step f ∙ rw e (rw (drop_further s i k (omega arith)) refl) }

      pub list_on : (k : ℕ) → value i (drop i s) ≡ Ok k → i < k → ListAt value s a k
      list_on k e l = items_on k w.steps w.enough w.gives e l

-- ---- a key

-- it lies where a string does
in_order_is : (j : KeyBefore) (at : ℕ) (xs : List ℕ) (w : Option Part) (x y : ℕ) → in_order j at xs w ≡ part x y → w ≡ part x y
in_order_is j at xs None x y e = e
in_order_is j at xs (Some w) x y e = by_order (ascends j (between at xs w.start w.end)) e
  where
    by_order : (o : Bool) → cond o (Some w) None ≡ part x y → part w.start w.end ≡ part x y
    by_order true e = e
    by_order false e = let z : ◌≡◌ {A = ℕ} 0 1 = cc in absurd (omega arith)

pub key_ends : (j : KeyBefore) (at : ℕ) (s : List ℕ) (x y : ℕ) → read_key j at (drop at s) ≡ part x y → (at < x) × (x ≤ y) × (y ≤ length s)
key_ends j at s x y e = string_ends at s x y (in_order_is j at (drop at s) (read_string at (drop at s)) x y e)

-- a key with its value ends further on
pub entry_ends : (j : KeyBefore) (levels at : ℕ) (s : List ℕ) (x y k : ℕ) → read_key j at (drop at s) ≡ part x y → walk_value levels y (drop y s) ≡ Ok k → at < k
entry_ends j levels at s x y k e f =
    let p = key_ends j at s x y e in
    let q = p.0 in
    let r = p.1 in
    let v = value_ends levels y s k f in
    let z = v.0 in
    omega arith

-- ---- a dictionary: the same, with the key before

pub record DictionaryAt (value : ℕ → List ℕ → Result ℕ Amiss) (s : List ℕ) (a i : ℕ) (j : KeyBefore) : Type 0 where
  pub steps : ℕ
  pub enough : length s < i + steps
  pub gives : walk_dictionary value a (drop a s) ≡ walk_entries value steps j i (drop i s)

pub dictionary_start : (value : ℕ → List ℕ → Result ℕ Amiss) (s : List ℕ) (a : ℕ) → DictionaryAt value s a a none
dictionary_start value s a = record { steps = suc (length (drop a s)); enough = omega (arith, length-drop a s); gives = refl }

module _ {value : ℕ → List ℕ → Result ℕ Amiss} {s : List ℕ} {a i : ℕ} {j : KeyBefore} (w : DictionaryAt value s a i j) where
  entries_none : (f : ℕ) → length s ≤ i → walk_entries value f j i (drop i s) ≡ (Err Broken)
  unfolding walk_entries
  entries_none zero h = refl
  entries_none (suc f) h = end_none s i _ h

  pub dictionary_none : length s ≤ i → walk_dictionary value a (drop a s) ≡ (Err Broken)
  dictionary_none h = w.gives ∙ entries_none w.steps h

  module _ (h : i < length s) where
    entries_end : (f : ℕ) → length s < i + f → get_or s i 0 ≡ letter_e → walk_entries value f j i (drop i s) ≡ Ok (i + 1)
    unfolding walk_entries
    entries_end zero g e = absurd (omega arith)
    entries_end (suc f) g e = end_here s i h _ e

    pub dictionary_closed : get_or s i 0 ≡ letter_e → walk_dictionary value a (drop a s) ≡ Ok (i + 1)
    dictionary_closed e = w.gives ∙ entries_end w.steps w.enough e

    module _ (ne : get_or s i 0 ≡ letter_e → ⊥) where
      entries_step : (f : ℕ) →
          walk_entries value (suc f) j i (drop i s) ≡
          with_key (read_key j i (drop i s))
          (λ x y. onward (value y (drop (y - i) (drop i s))) (λ k. walk_entries value f (after (between i (drop i s) x y)) k (drop (k - i) (drop i s))))
      unfolding walk_entries
      entries_step f = end_not s i h _ ne

      entries_no_key : (f : ℕ) → length s < i + f → read_key j i (drop i s) ≡ None → walk_entries value f j i (drop i s) ≡ (Err Broken)
      entries_no_key zero g e = absurd (omega arith)
      entries_no_key (suc f) g e = entries_step f ∙ rw e

      pub dictionary_no_key : read_key j i (drop i s) ≡ None → walk_dictionary value a (drop a s) ≡ (Err Broken)
      dictionary_no_key e = w.gives ∙ entries_no_key w.steps w.enough e

      module _ {x y : ℕ} (e : read_key j i (drop i s) ≡ part x y) where
        entries_key : (f : ℕ) →
            walk_entries value (suc f) j i (drop i s) ≡
            onward (value y (drop y s)) (λ k. walk_entries value f (after (cut s x (y - x))) k (drop (k - i) (drop i s)))
        unfolding cut
        entries_key f =
            let l = key_ends j i s x y e in
            let lx = l.0 in
            let ly = l.1 in
            entries_step f ∙ rw e (rw (drop_further s i x (omega arith), drop_further s i y (omega arith)) refl)

        entries_stuck : (v : Amiss) (f : ℕ) → length s < i + f → value y (drop y s) ≡ Err v → walk_entries value f j i (drop i s) ≡ Err v
        entries_stuck v zero g q = absurd (omega arith)
        entries_stuck v (suc f) g q = entries_key f ∙ rw q refl

        pub dictionary_amiss : (v : Amiss) → value y (drop y s) ≡ Err v → walk_dictionary value a (drop a s) ≡ Err v
        dictionary_amiss v q = w.gives ∙ entries_stuck v w.steps w.enough q

        entries_on : (k f : ℕ) → length s < i + f → walk_dictionary value a (drop a s) ≡ walk_entries value f j i (drop i s) → value y (drop y s) ≡ Ok k → i < k → DictionaryAt value s a k (after (cut s x (y - x)))
        entries_on k zero g q r l = absurd (omega arith)
        entries_on k (suc f) g q r l =
            record { steps = f; enough = omega arith; gives = q ∙ entries_key f ∙ rw r (rw (drop_further s i k (omega arith)) refl) }

        pub dictionary_on : (k : ℕ) → value y (drop y s) ≡ Ok k → i < k → DictionaryAt value s a k (after (cut s x (y - x)))
        dictionary_on k r l = entries_on k w.steps w.enough w.gives r l

-- ---- one value, by its first byte

module _ (s : List ℕ) (i : ℕ) where
  pub value_none : (l : ℕ) → length s ≤ i → walk_value l i (drop i s) ≡ (Err Broken)
  unfolding walk_value by_first
  value_none zero h = rw (drop_end s i h)
  value_none (suc l) h = rw (drop_end s i h)

  module _ (h : i < length s) where
    pub value_integer : (l : ℕ) → get_or s i 0 ≡ letter_i → walk_value l i (drop i s) ≡ past_integer (read_signed (i + 1) (drop (i + 1) s))
    unfolding walk_value
    value_integer zero e = first_step s i h _ _ ∙ simp (eq-eqb _ _ e)
    value_integer (suc l) e = first_step s i h _ _ ∙ simp (eq-eqb _ _ e)

    module _ (not_i : get_or s i 0 ≡ letter_i → ⊥) where
      list_none_left : get_or s i 0 ≡ letter_l → walk_value 0 i (drop i s) ≡ (Err TooDeep)
      unfolding walk_value
      list_none_left e = first_step s i h _ _ ∙ simp (ne_eqb _ _ not_i, eq-eqb _ _ e)

      pub value_list_deep : (l : ℕ) → get_or s i 0 ≡ letter_l → l ≡ 0 → walk_value l i (drop i s) ≡ (Err TooDeep)
      value_list_deep l e z = rw z (list_none_left e)

      pub value_list : (l : ℕ) → get_or s i 0 ≡ letter_l → (l ≡ 0 → ⊥) → walk_value l i (drop i s) ≡ walk_list (walk_value (l - 1)) (i + 1) (drop (i + 1) s)
      unfolding walk_value
      value_list zero e z = absurd (z refl)
      value_list (suc l) e z =
          let q : suc l - 1 ≡ l = omega arith in
          rw q (first_step s i h _ _ ∙ simp (ne_eqb _ _ not_i, eq-eqb _ _ e) (rw (drop-drop 1 i s) refl))

      module _ (not_l : get_or s i 0 ≡ letter_l → ⊥) where
        dictionary_none_left : get_or s i 0 ≡ letter_d → walk_value 0 i (drop i s) ≡ (Err TooDeep)
        unfolding walk_value
        dictionary_none_left e = first_step s i h _ _ ∙ simp (ne_eqb _ _ not_i, ne_eqb _ _ not_l, eq-eqb _ _ e)

        pub value_dictionary_deep : (l : ℕ) → get_or s i 0 ≡ letter_d → l ≡ 0 → walk_value l i (drop i s) ≡ (Err TooDeep)
        value_dictionary_deep l e z = rw z (dictionary_none_left e)

        pub value_dictionary : (l : ℕ) → get_or s i 0 ≡ letter_d → (l ≡ 0 → ⊥) → walk_value l i (drop i s) ≡ walk_dictionary (walk_value (l - 1)) (i + 1) (drop (i + 1) s)
        unfolding walk_value
        value_dictionary zero e z = absurd (z refl)
        value_dictionary (suc l) e z =
            let q : suc l - 1 ≡ l = omega arith in
            rw q (first_step s i h _ _ ∙ simp (ne_eqb _ _ not_i, ne_eqb _ _ not_l, eq-eqb _ _ e) (rw (drop-drop 1 i s) refl))

        pub value_string : (l : ℕ) → (get_or s i 0 ≡ letter_d → ⊥) → walk_value l i (drop i s) ≡ past_string (read_string i (drop i s))
        unfolding walk_value
        value_string zero g = first_step s i h _ _ ∙ simp (ne_eqb _ _ not_i, ne_eqb _ _ not_l, ne_eqb _ _ g)
        value_string (suc l) g = first_step s i h _ _ ∙ simp (ne_eqb _ _ not_i, ne_eqb _ _ not_l, ne_eqb _ _ g)

-- ---- the whole

pub strict_empty : (s : List ℕ) → length s ≡ 0 → strictness s ≡ not_strict
unfolding strictness
strict_empty [] h = refl
strict_empty (c ∷ s) h = absurd (omega arith)

pub strict_other : (s : List ℕ) → (get_or s 0 0 ≡ letter_d → ⊥) → strictness s ≡ not_strict
unfolding strictness
strict_other [] n = refl
strict_other (c ∷ s) n = simp (ne_eqb c letter_d n)

pub strict_dictionary : (s : List ℕ) (w : Result ℕ Amiss) → get_or s 0 0 ≡ letter_d → walk_value max_levels 0 (drop 0 s) ≡ w → strictness s ≡ whole_walk (length s) w
unfolding strictness
strict_dictionary [] w e v = absurd (omega arith)
strict_dictionary (c ∷ s) w e v = simp (eq-eqb c letter_d e) (ap (whole_walk (length (c ∷ s))) v)

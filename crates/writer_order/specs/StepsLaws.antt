-- Neighbours one after the other, as a loop over positions meets them.
-- Assumes nothing.
use Rattle.std.specs.Prelude.{◌≡◌, Bool, true, false, ◌||◌, not, List, [], ◌∷◌, map, ℕ, ◌+◌, ◌-◌, ◌≤◌, ◌<◌, length, get_or, drop, ltb, Option, Some, None}
use Rattle.std.proofs.Math.Path.{refl}
use Rattle.std.proofs.Common.{sym, ap, ap₂, ◌∙◌, arith, drop_of_length-le, length-drop}
use Rattle.octets.specs.Octets.{number_at}
use Rattle.octets.specs.OctetsLaws.{drop_step}
use Rattle.writer_meaning.specs.Content.{Item}
use Rattle.writer_lists.specs.Lists.{item_at}
use Rattle.writer_order.specs.Order.{InForm}
use Rattle.writer_order.specs.Neighbours.{followed, neighbours, run_from, runs, full_ones, wrong_next, clash_by}

-- ---- neighbours

first_two : {A : Type 0} (test : A → A → Bool) (x y : A) (l : List A) → neighbours test (x ∷ y ∷ l) ≡ test x y || neighbours test (y ∷ l)
unfolding neighbours followed
first_two test x y l = refl

module _ {A : Type 0} (test : A → A → Bool) (f : ℕ → A) (at : List ℕ) (i : ℕ) where
  -- fewer than two are left
  pub neighbours_end : length at ≤ i + 1 → neighbours test (map f (drop i at)) ≡ false
  neighbours_end h = few (drop i at) (length-drop i at ∙ refl)
    where
      few : (l : List ℕ) → length l ≡ length at - i → neighbours test (map f l) ≡ false
      few [] e = unfold neighbours in refl
      few (p ∷ []) e = unfold neighbours followed in refl
      few (p ∷ q ∷ l) e = absurd (omega arith)

  neighbours_step : i + 1 < length at
      → neighbours test (map f (drop i at)) ≡ test (f (get_or at i 0)) (f (get_or at (i + 1) 0)) || neighbours test (map f (drop (i + 1) at))
  neighbours_step h =
      ap (λ (l : List ℕ). neighbours test (map f l))
      (drop_step at i (omega arith) ∙ ap (λ (l : List ℕ). get_or at i 0 ∷ l) (drop_step at (i + 1) h))
      ∙ first_two test (f (get_or at i 0)) (f (get_or at (i + 1) 0)) (map f (drop (i + 1 + 1) at))
      ∙ ap (λ (l : List ℕ). test (f (get_or at i 0)) (f (get_or at (i + 1) 0)) || neighbours test (map f l)) (sym (drop_step at (i + 1) h))

  -- two that pass, or do not
  module _ (h : i + 1 < length at) (p q : ℕ) (ep : p ≡ get_or at i 0) (eq : q ≡ get_or at (i + 1) 0)
      (whole : neighbours test (map f at) ≡ neighbours test (map f (drop i at))) where
    pub neighbours_stop : test (f p) (f q) ≡ true → neighbours test (map f at) ≡ true
    neighbours_stop e =
        whole ∙ neighbours_step h
        ∙ ap (λ (t : Bool). t || neighbours test (map f (drop (i + 1) at))) (sym (ap₂ (λ (x y : ℕ). test (f x) (f y)) ep eq) ∙ e)

    pub neighbours_on : test (f p) (f q) ≡ false → neighbours test (map f at) ≡ neighbours test (map f (drop (i + 1) at))
    neighbours_on e =
        whole ∙ neighbours_step h
        ∙ ap (λ (t : Bool). t || neighbours test (map f (drop (i + 1) at))) (sym (ap₂ (λ (x y : ℕ). test (f x) (f y)) ep eq) ∙ e)

-- ---- runs

-- the file of the record that was seen last, if one was, and its form
abbrev pub file_of : List ℕ → List ℕ → Option ℕ → Option Item
file_of list text None = None
file_of list text (Some p) = Some (item_at list text p)

abbrev pub Seen : List ℕ → List ℕ → Option ℕ → Type 0
Seen list text last = (p : ℕ) → last ≡ Some p → InForm list text p

module _ (alone : Item → Bool) (beside : Item → Item → Bool) where
  -- what is left of the runs: behind the last file that was not empty, if there was one
  unfoldable pub runs_left : Option Item → List Item → Bool
  runs_left None ys = runs alone (λ (u v : Item). not (beside u v)) (full_ones ys)
  runs_left (Some x) ys = run_from alone (λ (u v : Item). not (beside u v)) x (full_ones ys)

  left_none : (last : Option Item) → runs_left last [] ≡ false
  unfolding runs_left full_ones run_from runs
  left_none None = refl
  left_none (Some x) = refl

  left_empty : (last : Option Item) (y : Item) (ys : List Item) → ltb 0 y.size ≡ false → runs_left last (y ∷ ys) ≡ runs_left last ys
  unfolding runs_left full_ones
  left_empty None y ys e = rw e refl
  left_empty (Some x) y ys e = rw e refl

  left_full : (last : Option Item) (y : Item) (ys : List Item) → ltb 0 y.size ≡ true
      → runs_left last (y ∷ ys) ≡ wrong_next alone beside last y || runs_left (Some y) ys
  unfolding runs_left full_ones run_from runs
  left_full None y ys e = rw e refl
  left_full (Some x) y ys e = rw e refl

module _ (list text : List ℕ) (alone : Item → Bool) (beside : Item → Item → Bool) (at : List ℕ) where
  abbrev pub Clashing : Option ℕ → ℕ → Type 0
  Clashing last i =
      clash_by alone beside (map (item_at list text) at)
      ≡ runs_left alone beside (file_of list text last) (map (item_at list text) (drop i at))

  pub clashing_start : Clashing None 0
  unfolding clash_by runs_left
  clashing_start = refl

  module _ (last : Option ℕ) (i : ℕ) (c : Clashing last i) where
    pub clashing_end : length at ≤ i → clash_by alone beside (map (item_at list text) at) ≡ false
    clashing_end h =
        c
        ∙ ap (λ (l : List ℕ). runs_left alone beside (file_of list text last) (map (item_at list text) l)) (drop_of_length-le at {i = i} h)
        ∙ left_none alone beside (file_of list text last)

    module _ (h : i < length at) (p : ℕ) (e : p ≡ get_or at i 0) where
      here : clash_by alone beside (map (item_at list text) at) ≡ runs_left alone beside (file_of list text last)
          (item_at list text p ∷ map (item_at list text) (drop (i + 1) at))
      here =
          c
          ∙ ap (λ (l : List ℕ). runs_left alone beside (file_of list text last) (map (item_at list text) l))
          (drop_step at i h ∙ ap (λ (k : ℕ). k ∷ drop (i + 1) at) (sym e))

      size_is : (t : Bool) → ltb 0 (number_at list p 8) ≡ t → ltb 0 (item_at list text p).size ≡ t
      unfolding item_at
      size_is t q = q

      pub clashing_empty : ltb 0 (number_at list p 8) ≡ false → Clashing last (i + 1)
      clashing_empty q =
          here
          ∙ left_empty alone beside (file_of list text last) (item_at list text p) (map (item_at list text) (drop (i + 1) at))
          (size_is false q)

      module _ (q : ltb 0 (number_at list p 8) ≡ true) where
        full : clash_by alone beside (map (item_at list text) at) ≡ wrong_next alone beside (file_of list text last) (item_at list text p) ||
            runs_left alone beside (Some (item_at list text p)) (map (item_at list text) (drop (i + 1) at))
        full =
            here
            ∙ left_full alone beside (file_of list text last) (item_at list text p) (map (item_at list text) (drop (i + 1) at))
            (size_is true q)

        pub clashing_stop : wrong_next alone beside (file_of list text last) (item_at list text p) ≡ true
            → clash_by alone beside (map (item_at list text) at) ≡ true
        clashing_stop w =
            full ∙ ap (λ (t : Bool). t || runs_left alone beside (Some (item_at list text p)) (map (item_at list text) (drop (i + 1) at))) w

        pub clashing_on : wrong_next alone beside (file_of list text last) (item_at list text p) ≡ false → Clashing (Some p) (i + 1)
        clashing_on w =
            full ∙ ap (λ (t : Bool). t || runs_left alone beside (Some (item_at list text p)) (map (item_at list text) (drop (i + 1) at))) w

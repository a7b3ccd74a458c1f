-- The test for a list's form, and what it says.
-- Assumes nothing.
use Rattle.std.specs.Prelude.{◌≡◌, ◌⊎◌, ◌↔◌, Bool, true, false, cond, ◌&&◌, List, [], ◌∷◌, ℕ, zero, suc, ◌+◌, ◌*◌, ◌%◌, ◌^◌, ◌≤◌, ◌<◌, length, drop, eqb, leb, ltb}
use Rattle.std.proofs.Math.Path.{refl, ap}
use Rattle.std.proofs.Common.{sym, ◌∙◌, inl, inr, arith, div-add-mod', length-drop, eq-eqb, eqb-true, ne_eqb, le-leb, leb-true, ltb-true}
use Rattle.std.proofs.lemmas.Bool.{false≢true}
use Rattle.std.proofs.Math.Bool.{and-eq-true_iff}
use Rattle.octets.specs.Octets.{cut, number_at}
use Rattle.meaning.specs.Counting.{Member}
use Rattle.writer_meaning.specs.Content.{Item}
use Rattle.sorting.specs.PermutedLaws.{member_append}
use Rattle.writer_lists.specs.Lists.{record_size, element_end, elements_fit, elements_in, part_fits, path_at, item_at, form_at, form_up_to, items_up_to, record_count, list_form, content_of}
use Rattle.writer_lists.specs.ListsLaws.{fit_end, form_elements, form_wrong, path_right}
use Rattle.writer_promises.specs.Published.{PathForm, ends, goes_on, RecordForm, InForm}

-- ---- a path

nothing_left : (s : List ℕ) → length s ≡ 0 → s ≡ []
nothing_left [] e = refl
nothing_left (b ∷ s) e = absurd (omega arith)

pub path_told : (steps : ℕ) (s : List ℕ) → elements_fit steps s ≡ true → PathForm s (elements_in steps s)
unfolding elements_fit elements_in
path_told zero s h = ends s [] (nothing_left s (eqb-true (length s) 0 h)) refl
path_told (suc steps) s h = by_rest (eqb (length s) 0) refl h (path_told steps (drop (element_end s) s))
  where
    by_rest : (b : Bool) → eqb (length s) 0 ≡ b → cond b true (leb 4 (length s) && (leb (element_end s) (length s) && elements_fit steps (drop (element_end s) s))) ≡ true
        → (elements_fit steps (drop (element_end s) s) ≡ true → PathForm (drop (element_end s) s) (elements_in steps (drop (element_end s) s)))
        → PathForm s (cond b [] (cut s 4 (number_at s 0 4) ∷ elements_in steps (drop (element_end s) s)))
    by_rest true q k more = ends s [] (nothing_left s (eqb-true (length s) 0 q)) refl
    by_rest false q k more =
        let a = (and-eq-true_iff (leb 4 (length s)) (leb (element_end s) (length s) && elements_fit steps (drop (element_end s) s))).0 k in
        let b = (and-eq-true_iff (leb (element_end s) (length s)) (elements_fit steps (drop (element_end s) s))).0 a.1 in
        goes_on s _ (elements_in steps (drop (element_end s) s)) (leb-true (element_end s) (length s) b.0) refl (more b.1)

pub path_fits : (s : List ℕ) (path : List (List ℕ)) → PathForm s path → (steps : ℕ) → length s ≤ steps → elements_fit steps s ≡ true
unfolding elements_fit
path_fits s path (ends _ _ e f) steps h = fit_end steps s (ap (λ (l : List ℕ). length l) e)
path_fits s path (goes_on _ _ rest l e f) zero h = absurd (omega arith)
path_fits s path (goes_on _ _ rest l e f) (suc steps) h =
    let d = length-drop (4 + number_at s 0 4) s in
    rw (ne_eqb (length s) 0 (λ z. omega arith), le-leb 4 (length s) (omega arith), le-leb (4 + number_at s 0 4) (length s) l)
    (path_fits (drop (4 + number_at s 0 4) s) rest f steps (omega arith))

-- ---- a record

three_true : (a b c d : Bool) → a && (b && (c && d)) ≡ true → (a ≡ true) × (b ≡ true)
three_true true true c d e = (refl, refl)
three_true false b c d e = absurd (false≢true e)
three_true true false c d e = absurd (false≢true e)

pub record_told : (list text : List ℕ) (at : ℕ) → form_at list text at ≡ true → RecordForm list text at
record_told list text at h =
    record {
      length_fits = ltb-true (number_at list at 8) (2 ^ 63) front.0;
      layer_within = leb-true (number_at list (at + 40) 4 + number_at list (at + 40 + 4) 4) (length text) front.1;
      path_within = leb-true (number_at list (at + 48) 4 + number_at list (at + 48 + 4) 4) (length text) (path_right list text at h).0;
      path_form = (elements_in (length (path_at list text at)) (path_at list text at), path_told (length (path_at list text at)) (path_at list text at) (path_right list text at h).1);
    }
  where
    front : (ltb (number_at list at 8) (2 ^ 63) ≡ true) × (part_fits list text (at + 40) ≡ true)
    front =
        three_true (ltb (number_at list at 8) (2 ^ 63)) (part_fits list text (at + 40)) (part_fits list text (at + 48)) (elements_fit (length (path_at list text at)) (path_at list text at))
        (unfold form_at in h)

pub record_fits : (list text : List ℕ) (at : ℕ) → RecordForm list text at → form_at list text at ≡ true
record_fits list text at r =
    form_elements list text at r.length_fits
    (le-leb (number_at list (at + 40) 4 + number_at list (at + 40 + 4) 4) (length text) r.layer_within)
    (le-leb (number_at list (at + 48) 4 + number_at list (at + 48 + 4) 4) (length text) r.path_within)
    ∙ path_fits (path_at list text at) r.path_form.0 r.path_form.1 (length (path_at list text at)) (omega arith)

-- ---- the list

up_to : (list text : List ℕ) (n : ℕ) → ((i : ℕ) → i < n → form_at list text (record_size * i) ≡ true) → form_up_to list text n ≡ true
unfolding form_up_to
up_to list text zero h = refl
up_to list text (suc n) h = rw (up_to list text n (λ i l. h i (omega arith)), h n (omega arith)) refl

each_of : (list text : List ℕ) (n : ℕ) → form_up_to list text n ≡ true → (i : ℕ) → i < n → form_at list text (record_size * i) ≡ true
each_of list text n h i l = by_test (form_at list text (record_size * i)) refl
  where
    by_test : (b : Bool) → form_at list text (record_size * i) ≡ b → b ≡ true
    by_test true e = refl
    by_test false e = absurd (false≢true (sym (form_wrong list text i n l e) ∙ h))

pub in_form : (list text : List ℕ) → (list_form list text ≡ true) ↔ InForm list text
unfolding list_form
in_form list text = (
  (λ e.
      let a = (and-eq-true_iff (eqb (length list % record_size) 0) (form_up_to list text (record_count list))).0 e in
      let z = eqb-true (length list % record_size) 0 a.0 in
      let d = div-add-mod' (length list) record_size in
      record { whole = omega arith; each = λ n l. record_told list text (record_size * n) (each_of list text (record_count list) a.1 n l) }),
  λ f.
      let d = div-add-mod' (length list) record_size in
      let w = f.whole in
      let z : length list % record_size ≡ 0 = omega arith in
      rw (eq-eqb (length list % record_size) 0 z, up_to list text (record_count list) (λ i l. record_fits list text (record_size * i) (f.each i l))) refl,
)

pub not_in_form : (list text : List ℕ) → list_form list text ≡ false → InForm list text → ⊥
not_in_form list text e f = false≢true (sym e ∙ (in_form list text).1 f)

-- every length of a list in the form is below 2^63
items_below : (list text : List ℕ) (n : ℕ) → ((i : ℕ) → i < n → RecordForm list text (record_size * i)) → (x : Item) → Member x (items_up_to list text n) → x.size < 2 ^ 63
unfolding items_up_to Member
items_below list text zero h x m = absurd m
items_below list text (suc n) h x m = elim (member_append (items_up_to list text n) (item_at list text (record_size * n) ∷ []) x m)
    [ inl p ↦ items_below list text n (λ i l. h i (omega arith)) x p | inr q ↦ last q ]
  where
    size_is : (item_at list text (record_size * n)).size ≡ number_at list (record_size * n) 8
    size_is = unfold item_at in refl

    last : Member x (item_at list text (record_size * n) ∷ []) → x.size < 2 ^ 63
    last q = by_place (unfold Member in q)
      where
        by_place : (x ≡ item_at list text (record_size * n)) ⊎ ⊥ → x.size < 2 ^ 63
        by_place (inl e) = let s = ap (λ (y : Item). y.size) e ∙ size_is in rw s (h n (omega arith)).length_fits
        by_place (inr z) = absurd z

pub content_below : (list text : List ℕ) → InForm list text → (x : Item) → Member x (content_of list text) → x.size < 2 ^ 63
unfolding content_of
content_below list text f x m = items_below list text (record_count list) (λ i l. f.each i l) x m

-- A path's elements, one after the other, as a walk meets them.
-- Assumes nothing.
use Rattle.std.specs.Prelude.{◌≡◌, Bool, true, false, ◌&&◌, List, ℕ, zero, suc, ◌+◌, ◌-◌, ◌*◌, ◌%◌, ◌^◌, ◌≤◌, ◌<◌, length, take, drop, get_or, ltb}
use Rattle.std.proofs.Math.Path.{refl}
use Rattle.std.proofs.Common.{sym, ap, ap₂, ◌∙◌, arith, length-drop, get_or-drop, drop-drop, eq-eqb, ne_eqb, le-leb, lt-ltb, le-ltb, ltb-true, ltb-false, leb-true}
use Rattle.std.proofs.Math.Bool.{and-false}
use Rattle.std.proofs.lemmas.Bool.{false≢true, lt-leb}
use Rattle.octets.specs.Octets.{cut, number_at}
use Rattle.octets.specs.OctetsLaws.{number_same}
use Rattle.writer_lists.specs.Lists.{record_size, element_end, elements_fit, elements_in, item_at, part_fits, path_at, form_at, form_up_to, record_count, list_form}

-- nothing is left
pub fit_end : (steps : ℕ) (s : List ℕ) → length s ≡ 0 → elements_fit steps s ≡ true
unfolding elements_fit
fit_end zero s e = eq-eqb (length s) 0 e
fit_end (suc steps) s e = rw (eq-eqb (length s) 0 e) refl

-- less than a size is left
fit_short : (steps : ℕ) (s : List ℕ) → (length s ≡ 0 → ⊥) → length s < 4 → elements_fit steps s ≡ false
unfolding elements_fit
fit_short zero s n h = ne_eqb (length s) 0 n
fit_short (suc steps) s n h = rw (ne_eqb (length s) 0 n, lt-leb 4 (length s) h) refl

-- the element goes past the end
fit_past : (steps : ℕ) (s : List ℕ) → (length s ≡ 0 → ⊥) → 4 ≤ length s → length s < element_end s → elements_fit steps s ≡ false
unfolding elements_fit
fit_past zero s n g h = ne_eqb (length s) 0 n
fit_past (suc steps) s n g h = rw (ne_eqb (length s) 0 n, le-leb 4 (length s) g, lt-leb (element_end s) (length s) h) refl

-- the element is there, and the rest is looked at
fit_more : (steps : ℕ) (s : List ℕ) → (length s ≡ 0 → ⊥) → element_end s ≤ length s → elements_fit (suc steps) s ≡ elements_fit steps
    (drop (element_end s) s)
unfolding elements_fit
fit_more steps s n h =
    let g : 4 ≤ length s = omega arith in rw (ne_eqb (length s) 0 n, le-leb 4 (length s) g, le-leb (element_end s) (length s) h) refl

-- ---- by position: what is left from `at` on says what the whole says

pub record Left (s : List ℕ) (at : ℕ) : Type 0 where
  pub within : at ≤ length s
  pub steps : ℕ
  pub enough : length s - at ≤ steps
  pub same_answer : elements_fit (length s) s ≡ elements_fit steps (drop at s)

pub left_start : (s : List ℕ) → Left s 0
left_start s = record { within = omega arith; steps = length s; enough = omega arith; same_answer = refl }

left_length : (s : List ℕ) (at : ℕ) → length (drop at s) ≡ length s - at
left_length s at = length-drop at s

pub number_there : (s : List ℕ) (at : ℕ) → number_at (drop at s) 0 4 ≡ number_at s at 4
number_there s at = number_same (drop at s) s 0 at 4 (λ i h. get_or-drop at s (0 + i) 0 ∙ ap (λ (j : ℕ). get_or s j 0) (omega arith))

pub left_end : (s : List ℕ) (at : ℕ) → Left s at → length s ≤ at → elements_fit (length s) s ≡ true
left_end s at l h = l.same_answer ∙ fit_end l.steps (drop at s) (left_length s at ∙ omega (arith, l.within))

pub left_short : (s : List ℕ) (at : ℕ) → Left s at → at < length s → length s - at < 4 → elements_fit (length s) s ≡ false
left_short s at l g h =
    l.same_answer ∙ fit_short l.steps (drop at s) (λ z. omega (arith, left_length s at)) (omega (arith, left_length s at))

pub left_past : (s : List ℕ) (at : ℕ) → Left s at → at < length s → 4 ≤ length s - at → length s - at - 4 < number_at s at 4 → elements_fit
    (length s) s ≡ false
left_past s at l g k h =
    l.same_answer
    ∙ fit_past l.steps (drop at s) (λ z. omega (arith, left_length s at)) (omega (arith, left_length s at))
    (omega (arith, left_length s at, number_there s at))

pub left_more : (s : List ℕ) (at : ℕ) → Left s at → at < length s → 4 ≤ length s - at → number_at s at 4 ≤ length s - at - 4 → Left s
    (at + 4 + number_at s at 4)
left_more s at l g k h = by_steps l.steps l.enough l.same_answer
  where
    sums : at + (4 + number_at s at 4) ≡ at + 4 + number_at s at 4
    sums = omega arith

    by_steps : (n : ℕ) → length s - at ≤ n → elements_fit (length s) s ≡ elements_fit n (drop at s) → Left s (at + 4 + number_at s at 4)
    by_steps zero e q = absurd (omega arith)
    by_steps (suc n) e q =
        record {
          within = omega arith;
          steps = n;
          enough = omega arith;
          same_answer =
              q
              ∙ fit_more n (drop at s) (λ z. omega (arith, left_length s at)) (omega (arith, left_length s at, number_there s at))
              ∙ ap (λ (k : ℕ). elements_fit n (drop (4 + k) (drop at s))) (number_there s at)
              ∙ ap (elements_fit n) (drop-drop (4 + number_at s at 4) at s ∙ ap (λ (k : ℕ). drop k s) sums);
        }

-- ---- a record

pub form_long : (list text : List ℕ) (at : ℕ) → 2 ^ 63 ≤ number_at list at 8 → form_at list text at ≡ false
unfolding form_at
form_long list text at h = rw (le-ltb (number_at list at 8) (2 ^ 63) h) refl

-- the length is in range, and one of the parts does not fit
pub form_layer : (list text : List ℕ) (at : ℕ) → number_at list at 8 < 2 ^ 63 → part_fits list text (at + 40) ≡ false → form_at list text at ≡
    false
unfolding form_at
form_layer list text at h a = rw (lt-ltb (number_at list at 8) (2 ^ 63) h, a) refl

pub form_path : (list text : List ℕ) (at : ℕ) → number_at list at 8 < 2 ^ 63 → part_fits list text (at + 40) ≡ true → part_fits list text
    (at + 48) ≡ false → form_at list text at ≡ false
unfolding form_at
form_path list text at h a b = rw (lt-ltb (number_at list at 8) (2 ^ 63) h, a, b) refl

-- both fit: the path decides
pub form_elements : (list text : List ℕ) (at : ℕ) → number_at list at 8 < 2 ^ 63 → part_fits list text (at + 40) ≡ true → part_fits list text
    (at + 48) ≡ true
    → form_at list text at ≡ elements_fit (length (path_at list text at)) (path_at list text at)
unfolding form_at
form_elements list text at h a b = rw (lt-ltb (number_at list at 8) (2 ^ 63) h, a, b) refl

-- ---- the list

pub form_none : (list text : List ℕ) → (length list % record_size ≡ 0 → ⊥) → list_form list text ≡ false
unfolding list_form
form_none list text h = rw (ne_eqb (length list % record_size) 0 h) refl

pub form_all : (list text : List ℕ) → length list % record_size ≡ 0 → list_form list text ≡ form_up_to list text (record_count list)
unfolding list_form
form_all list text h = rw (eq-eqb (length list % record_size) 0 h) refl

pub form_next : (list text : List ℕ) (i : ℕ) → form_up_to list text i ≡ true → form_at list text (record_size * i) ≡ true → form_up_to list text
    (i + 1) ≡ true
form_next list text i a b = ap (form_up_to list text) one ∙ next
  where
    one : i + 1 ≡ suc i
    one = omega arith

    next : form_up_to list text (suc i) ≡ true
    next = unfold form_up_to in rw (a, b) refl

-- one wrong record makes the list wrong
pub form_wrong : (list text : List ℕ) (i n : ℕ) → i < n → form_at list text (record_size * i) ≡ false → form_up_to list text n ≡ false
unfolding form_up_to
form_wrong list text i zero h e = absurd (omega arith)
form_wrong list text i (suc n) h e = by_last (ltb i n) refl (λ l. form_wrong list text i n l e)
  where
    by_last : (t : Bool) → ltb i n ≡ t → (i < n → form_up_to list text n ≡ false) → form_up_to list text n && form_at list text (record_size * n)
        ≡ false
    by_last true q more = rw (more (ltb-true i n q)) refl
    by_last false q more =
        let g = ltb-false i n q in let o : i ≡ n = omega arith in rw (sym (ap (λ (k : ℕ). form_at list text (record_size * k)) o) ∙ e)
        (and-false (form_up_to list text n))

-- the path as a slice of the text
pub path_slice : (list text : List ℕ) (at a b : ℕ) → a ≡ number_at list (at + 48) 4 → b ≡ number_at list (at + 48 + 4) 4 → take (a + b - a)
    (drop a text) ≡ path_at list text at
path_slice list text at a b e f = ap (λ (n : ℕ). take n (drop a text)) size ∙ ap₂ (λ (x y : ℕ). take y (drop x text)) e f ∙ sym path_is
  where
    size : a + b - a ≡ b
    size = omega arith

    path_is : path_at list text at ≡ take (number_at list (at + 48 + 4) 4) (drop (number_at list (at + 48) 4) text)
    path_is = unfold cut in refl

pub form_slice : (list text : List ℕ) (at a b : ℕ) (r : Bool) → number_at list at 8 < 2 ^ 63 → part_fits list text (at + 40) ≡ true → part_fits
    list text (at + 48) ≡ true
    → a ≡ number_at list (at + 48) 4 → b ≡ number_at list (at + 48 + 4) 4
    → r ≡ elements_fit (length (take (a + b - a) (drop a text))) (take (a + b - a) (drop a text)) → r ≡ form_at list text at
form_slice list text at a b r h p q e f g =
    g ∙ ap (λ (l : List ℕ). elements_fit (length l) l) (path_slice list text at a b e f) ∙ sym (form_elements list text at h p q)

-- the slice ends within the text
pub slice_end : (list text : List ℕ) (at a b : ℕ) → part_fits list text at ≡ true → a ≡ number_at list at 4 → b ≡ number_at list (at + 4) 4 → a
    + b ≤ length text
slice_end list text at a b h e f = let l = leb-true (number_at list at 4 + number_at list (at + 4) 4) (length text) h in omega arith

-- ---- the path of a record in the form

four_true : (a b c d : Bool) → a && (b && (c && d)) ≡ true → (c ≡ true) × (d ≡ true)
four_true true true true d e = (refl, e)
four_true false b c d e = absurd (false≢true e)
four_true true false c d e = absurd (false≢true e)
four_true true true false d e = absurd (false≢true e)

pub path_right : (list text : List ℕ) (at : ℕ) → form_at list text at ≡ true → (part_fits list text (at + 48) ≡ true) ×
    (elements_fit (length (path_at list text at)) (path_at list text at) ≡ true)
unfolding form_at
path_right list text at h =
    four_true (ltb (number_at list at 8) (2 ^ 63)) (part_fits list text (at + 40)) (part_fits list text (at + 48))
    (elements_fit (length (path_at list text at)) (path_at list text at)) h

-- a slice that is the path has the form
pub slice_fits : (list text : List ℕ) (at a b : ℕ) → form_at list text at ≡ true → a ≡ number_at list (at + 48) 4 → b ≡ number_at list
    (at + 48 + 4) 4
    → elements_fit (length (take (a + b - a) (drop a text))) (take (a + b - a) (drop a text)) ≡ true
slice_fits list text at a b h e f =
    ap (λ (l : List ℕ). elements_fit (length l) l) (path_slice list text at a b e f) ∙ (path_right list text at h).1

-- and its elements are the file's path
pub slice_path : (list text : List ℕ) (at a b : ℕ) → a ≡ number_at list (at + 48) 4 → b ≡ number_at list (at + 48 + 4) 4
    → elements_in (length (take (a + b - a) (drop a text))) (take (a + b - a) (drop a text)) ≡ (item_at list text at).path
slice_path list text at a b e f = ap (λ (l : List ℕ). elements_in (length l) l) (path_slice list text at a b e f) ∙ (unfold item_at in refl)

-- two records that name one part of the text for their paths have one path
pub one_path_lem : (list text : List ℕ) (at bt a b c d : ℕ) → a ≡ number_at list (at + 48) 4 → b ≡ number_at list (at + 48 + 4) 4 → c ≡ number_at
    list (bt + 48) 4 → d ≡ number_at list (bt + 48 + 4) 4
    → a ≡ c → b ≡ d → (item_at list text at).path ≡ (item_at list text bt).path
one_path_lem list text at bt a b c d e f g h p q = sym (slice_path list text at a b e f) ∙ slice_path list text bt a b (p ∙ g) (q ∙ h)

-- four bytes as one number
pub four_bytes : (s : List ℕ) (at : ℕ) → number_at s at 4 ≡ get_or s at 0 * 16777216 + get_or s (at + 1) 0 * 65536 + get_or s (at + 2) 0 * 256 +
    get_or s (at + 3) 0
unfolding number_at
four_bytes s at = let e : at + 0 ≡ at = omega arith in rw e (omega arith)

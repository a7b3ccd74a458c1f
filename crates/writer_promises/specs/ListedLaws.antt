-- Every content whose text stays below 4 GiB is that of a list in its form: record after record, each with its layer and its path behind the
-- text so far.
-- Assumes nothing.
use Rattle.std.specs.Prelude.{◌≡◌, Bool, true, false, length, drop, ltb, List, [], ◌∷◌, ◌++◌, ℕ, zero, suc, ◌+◌, ◌*◌, ◌^◌, ◌≤◌, ◌<◌}
use Rattle.std.proofs.Math.Path.{refl, ap₂}
use Rattle.std.proofs.Common.{sym, ap, ◌∙◌, subst, inl, inr, arith, div-add-mod', length-drop, length-append, ne_eqb, ltb-true, ltb-false, append_assoc, append-nil}
use Rattle.std.proofs.Math.ListN.{get_or-append}
use Rattle.std.proofs.Math.Seq.{drop-append-add, drop-append_seam}
use Rattle.octets.specs.Octets.{cut, be, number_at}
use Rattle.octets.specs.OctetsLaws.{cut_append_left, cut_append_right, cut_whole, number_same, number_behind, number_first, cut_behind, be_size}
use Rattle.meaning.specs.Counting.{Member}
use Rattle.writer_meaning.specs.Content.{Item}
use Rattle.writer_lists.specs.Lists.{record_size, record_count, elements_in, part_at, path_at, item_at, items_up_to, content_of}
use Rattle.writer_lists.specs.PathsLaws.{in_end}
use Rattle.writer_promises.specs.Published.{PathForm, ends, goes_on, RecordForm, InForm, path_size, text_size}
use Rattle.writer_promises.specs.GivenLaws.{same_item}

-- ---- a path

unfoldable path_bytes : List (List ℕ) → List ℕ
path_bytes [] = []
path_bytes (e ∷ p) = be 4 (length e) ++ (e ++ path_bytes p)

path_length : (p : List (List ℕ)) → length (path_bytes p) ≡ path_size p
unfolding path_bytes path_size
path_length [] = refl
path_length (e ∷ p) = simp (length-append) (omega (arith, path_length p, be_size 4 (length e)))

front : (e r : List ℕ) → cut (e ++ r) 0 (length e) ≡ e
front e r = cut_append_left e r 0 (length e) (omega arith) ∙ cut_whole e (length e) (omega arith)

path_formed : (p : List (List ℕ)) → path_size p < 2 ^ 32 → PathForm (path_bytes p) p
unfolding path_bytes path_size
path_formed [] h = ends [] [] refl refl
path_formed (e ∷ p) h = goes_on s (e ∷ p) p within (ap (λ (y : List ℕ). y ∷ p) (sym first)) (subst (λ (l : List ℕ). PathForm l p) (sym rest) (path_formed p (omega arith)))
  where
    s : List ℕ
    s = be 4 (length e) ++ (e ++ path_bytes p)

    number : number_at s 0 4 ≡ length e
    number = number_first 4 (length e) (e ++ path_bytes p) (omega arith)

    size : length s ≡ 4 + (length e + length (path_bytes p))
    size = length-append (be 4 (length e)) (e ++ path_bytes p) ∙ ap₂ (λ (m n : ℕ). m + n) (be_size 4 (length e)) (length-append e (path_bytes p))

    within : 4 + number_at s 0 4 ≤ length s
    within = omega (arith, number, size)

    first : cut s 4 (number_at s 0 4) ≡ e
    first = ap (cut s 4) number ∙ cut_behind (be 4 (length e)) (e ++ path_bytes p) 4 0 (length e) (omega (arith, be_size 4 (length e))) ∙ front e (path_bytes p)

    place : 4 + number_at s 0 4 ≡ length (be 4 (length e)) + length e
    place = omega (arith, number, be_size 4 (length e))

    rest : drop (4 + number_at s 0 4) s ≡ path_bytes p
    rest = ap (λ (n : ℕ). drop n s) place ∙ drop-append-add (be 4 (length e)) (e ++ path_bytes p) (length e) ∙ drop-append_seam e (path_bytes p)

-- the elements of a path in its form are those that are read
pub elements_are : (s : List ℕ) (path : List (List ℕ)) → PathForm s path → (steps : ℕ) → length s ≤ steps → elements_in steps s ≡ path
unfolding elements_in
elements_are s path (ends _ _ e f) steps h = in_end steps s (ap (λ (l : List ℕ). length l) e) ∙ sym f
elements_are s path (goes_on _ _ rest l e f) zero h = absurd (omega arith)
elements_are s path (goes_on _ _ rest l e f) (suc steps) h =
    let d = length-drop (4 + number_at s 0 4) s in
    rw (ne_eqb (length s) 0 (λ z. omega arith))
    (ap (λ (r : List (List ℕ)). cut s 4 (number_at s 0 4) ∷ r) (elements_are (drop (4 + number_at s 0 4) s) rest f steps (omega arith)) ∙ sym e)

-- ---- one record more

size_sum : (a b : List ℕ) (m n : ℕ) → length a ≡ m → length b ≡ n → length (a ++ b) ≡ m + n
size_sum a b m n e f = length-append a b ∙ ap₂ (λ (u v : ℕ). u + v) e f

abbrev behind_root : ℕ → Item → List ℕ
behind_root at x = be 4 at ++ (be 4 (length x.layer) ++ (be 4 (at + length x.layer) ++ be 4 (length (path_bytes x.path))))

abbrev record_bytes : ℕ → Item → List ℕ
record_bytes at x = be 8 x.size ++ (x.root ++ behind_root at x)

abbrev text_bytes : Item → List ℕ
text_bytes x = x.layer ++ path_bytes x.path

module _ (list text : List ℕ) (x : Item) (n : ℕ) (whole : length list ≡ record_size * n) (wide : length x.root ≡ 32) (small : x.size < 2 ^ 63) (room : length text + (length x.layer + path_size x.path) < 2 ^ 32) where
  abbrev rec : List ℕ
  rec = record_bytes (length text) x

  abbrev longer : List ℕ
  longer = list ++ rec

  abbrev more : List ℕ
  more = text ++ text_bytes x

  abbrev at : ℕ
  at = record_size * n

  number_tail : (p i k : ℕ) → p ≡ at + (40 + i) → number_at longer p k ≡ number_at (behind_root (length text) x) i k
  number_tail p i k e =
      number_behind list rec p (40 + i) k (omega (arith, whole))
      ∙ number_behind (be 8 x.size) (x.root ++ behind_root (length text) x) (40 + i) (32 + i) k (omega (arith, be_size 8 x.size))
      ∙ number_behind x.root (behind_root (length text) x) (32 + i) i k (omega (arith, wide))

  size_there : number_at longer at 8 ≡ x.size
  size_there = number_behind list rec at 0 8 (omega (arith, whole)) ∙ number_first 8 x.size (x.root ++ behind_root (length text) x) (omega arith)

  root_there : cut longer (at + 8) 32 ≡ x.root
  root_there =
      cut_behind list rec (at + 8) 8 32 (omega (arith, whole))
      ∙ cut_behind (be 8 x.size) (x.root ++ behind_root (length text) x) 8 0 32 (omega (arith, be_size 8 x.size))
      ∙ ap (cut (x.root ++ behind_root (length text) x) 0) (sym wide)
      ∙ front x.root (behind_root (length text) x)

  layer_start : number_at longer (at + 40) 4 ≡ length text
  layer_start = number_tail (at + 40) 0 4 (omega arith) ∙ number_first 4 (length text) (be 4 (length x.layer) ++ (be 4 (length text + length x.layer) ++ be 4 (length (path_bytes x.path)))) (omega arith)

  layer_size : number_at longer (at + 40 + 4) 4 ≡ length x.layer
  layer_size =
      number_tail (at + 40 + 4) 4 4 (omega arith)
      ∙ number_behind (be 4 (length text)) (be 4 (length x.layer) ++ (be 4 (length text + length x.layer) ++ be 4 (length (path_bytes x.path)))) 4 0 4 (omega (arith, be_size 4 (length text)))
      ∙ number_first 4 (length x.layer) (be 4 (length text + length x.layer) ++ be 4 (length (path_bytes x.path))) (omega arith)

  number_last : (i : ℕ) → number_at (behind_root (length text) x) (8 + i) 4 ≡ number_at (be 4 (length text + length x.layer) ++ be 4 (length (path_bytes x.path))) i 4
  number_last i =
      number_behind (be 4 (length text)) (be 4 (length x.layer) ++ (be 4 (length text + length x.layer) ++ be 4 (length (path_bytes x.path)))) (8 + i) (4 + i) 4 (omega (arith, be_size 4 (length text)))
      ∙ number_behind (be 4 (length x.layer)) (be 4 (length text + length x.layer) ++ be 4 (length (path_bytes x.path))) (4 + i) i 4 (omega (arith, be_size 4 (length x.layer)))

  path_start : number_at longer (at + 48) 4 ≡ length text + length x.layer
  path_start = number_tail (at + 48) 8 4 (omega arith) ∙ number_last 0 ∙ number_first 4 (length text + length x.layer) (be 4 (length (path_bytes x.path))) (omega arith)

  path_size_lem : number_at longer (at + 48 + 4) 4 ≡ length (path_bytes x.path)
  path_size_lem =
      number_tail (at + 48 + 4) 12 4 (omega arith)
      ∙ number_last 4
      ∙ number_behind (be 4 (length text + length x.layer)) (be 4 (length (path_bytes x.path))) 4 0 4 (omega (arith, be_size 4 (length text + length x.layer)))
      ∙ ap (λ (l : List ℕ). number_at l 0 4) (sym (append-nil (be 4 (length (path_bytes x.path)))))
      ∙ number_first 4 (length (path_bytes x.path)) [] (omega (arith, path_length x.path))

  layer_there : part_at longer more (at + 40) ≡ x.layer
  layer_there =
      ap₂ (λ (a b : ℕ). cut more a b) layer_start layer_size
      ∙ cut_behind text (text_bytes x) (length text) 0 (length x.layer) (omega arith)
      ∙ front x.layer (path_bytes x.path)

  path_there : path_at longer more at ≡ path_bytes x.path
  path_there =
      ap₂ (λ (a b : ℕ). cut more a b) path_start path_size_lem
      ∙ cut_behind text (text_bytes x) (length text + length x.layer) (length x.layer) (length (path_bytes x.path)) (omega arith)
      ∙ cut_append_right x.layer (path_bytes x.path) (length x.layer) (length (path_bytes x.path)) refl refl

  more_size : length more ≡ length text + (length x.layer + length (path_bytes x.path))
  more_size = length-append text (text_bytes x) ∙ ap (λ (m : ℕ). length text + m) (length-append x.layer (path_bytes x.path))

  formed : PathForm (path_bytes x.path) x.path
  formed = path_formed x.path (omega arith)

  new_form : RecordForm longer more at
  new_form =
      record {
        length_fits = rw size_there small;
        layer_within = omega (arith, layer_start, layer_size, more_size);
        path_within = omega (arith, path_start, path_size_lem, more_size);
        path_form = (x.path, rw path_there formed);
      }

  new_item : item_at longer more at ≡ x
  unfolding item_at
  new_item = same_item _ x (rw path_there (elements_are (path_bytes x.path) x.path formed (length (path_bytes x.path)) (omega arith))) size_there root_there layer_there

  -- ---- the records before it stay

  number_stays : (p k : ℕ) → p + k ≤ length list → number_at longer p k ≡ number_at list p k
  number_stays p k h = number_same longer list p p k (λ j l. get_or-append list rec 0 (p + j) (omega arith))

  part_stays : (p : ℕ) → p + 8 ≤ length list → number_at list p 4 + number_at list (p + 4) 4 ≤ length text → part_at longer more p ≡ part_at list text p
  part_stays p h l =
      ap₂ (λ (a b : ℕ). cut more a b) (number_stays p 4 (omega arith)) (number_stays (p + 4) 4 (omega arith))
      ∙ cut_append_left text (text_bytes x) (number_at list p 4) (number_at list (p + 4) 4) l

  part_within : (p : ℕ) → p + 8 ≤ length list → number_at list p 4 + number_at list (p + 4) 4 ≤ length text → number_at longer p 4 + number_at longer (p + 4) 4 ≤ length more
  part_within p h l = omega (arith, number_stays p 4 (omega arith), number_stays (p + 4) 4 (omega arith), more_size)

  module _ (i : ℕ) (before : i < n) (f : RecordForm list text (record_size * i)) where
    old_form : RecordForm longer more (record_size * i)
    old_form =
        record {
          length_fits = rw (number_stays (record_size * i) 8 (omega (arith, whole))) f.length_fits;
          layer_within = part_within (record_size * i + 40) (omega (arith, whole)) f.layer_within;
          path_within = part_within (record_size * i + 48) (omega (arith, whole)) f.path_within;
          path_form = (f.path_form.0, rw (part_stays (record_size * i + 48) (omega (arith, whole)) f.path_within) f.path_form.1);
        }

    old_item : item_at longer more (record_size * i) ≡ item_at list text (record_size * i)
    unfolding item_at
    old_item =
        same_item _ _
        (ap (λ (l : List ℕ). elements_in (length l) l) (part_stays (record_size * i + 48) (omega (arith, whole)) f.path_within))
        (number_stays (record_size * i) 8 (omega (arith, whole)))
        (cut_append_left list rec (record_size * i + 8) 32 (omega (arith, whole)))
        (part_stays (record_size * i + 40) (omega (arith, whole)) f.layer_within)

  old_items : (m : ℕ) → m ≤ n → ((i : ℕ) → i < n → RecordForm list text (record_size * i)) → items_up_to longer more m ≡ items_up_to list text m
  unfolding items_up_to
  old_items zero l f = refl
  old_items (suc m) l f = ap₂ (λ (ys : List Item) (y : Item). ys ++ y ∷ []) (old_items m (omega arith) f) (old_item m (omega arith) (f m (omega arith)))

  longer_size : length longer ≡ record_size * suc n
  longer_size = size_sum list rec (record_size * n) 56 whole rec_size ∙ sums
    where
      rec_size : length rec ≡ 56
      rec_size =
          size_sum (be 8 x.size) (x.root ++ behind_root (length text) x) 8 48 (be_size 8 x.size)
          (size_sum x.root (behind_root (length text) x) 32 16 wide
          (size_sum (be 4 (length text)) (be 4 (length x.layer) ++ (be 4 (length text + length x.layer) ++ be 4 (length (path_bytes x.path)))) 4 12 (be_size 4 (length text))
          (size_sum (be 4 (length x.layer)) (be 4 (length text + length x.layer) ++ be 4 (length (path_bytes x.path))) 4 8 (be_size 4 (length x.layer))
          (size_sum (be 4 (length text + length x.layer)) (be 4 (length (path_bytes x.path))) 4 4 (be_size 4 (length text + length x.layer)) (be_size 4 (length (path_bytes x.path)))))))

      sums : record_size * n + 56 ≡ record_size * suc n
      sums = omega arith

-- ---- the whole list

count_of : (list : List ℕ) (n : ℕ) → length list ≡ record_size * n → record_count list ≡ n
count_of list n e = let d = div-add-mod' (length list) record_size in omega arith

content_is : (list text : List ℕ) → content_of list text ≡ items_up_to list text (record_count list)
unfolding content_of
content_is list text = refl

content_next : (list text : List ℕ) (n : ℕ) → record_count list ≡ suc n → content_of list text ≡ items_up_to list text n ++ item_at list text (record_size * n) ∷ []
unfolding items_up_to
content_next list text n e = content_is list text ∙ ap (items_up_to list text) e

-- what a file needs
abbrev pub Listable : Item → Type 0
Listable x = (x.size < 2 ^ 63) × (length x.root ≡ 32)

one_more : (list text : List ℕ) (x : Item) → InForm list text → Listable x → length text + (length x.layer + path_size x.path) < 2 ^ 32
    → InForm (list ++ record_bytes (length text) x) (text ++ text_bytes x) × (content_of (list ++ record_bytes (length text) x) (text ++ text_bytes x) ≡ content_of list text ++ x ∷ [])
one_more list text x f k room = (record { whole = longer_size list text x n w k.1 k.0 room ∙ ap (λ (m : ℕ). record_size * m) (sym count); each = λ i l. by_place i (ltb i n) refl (omega (arith, count)) }, content)
  where
    n : ℕ
    n = record_count list

    w : length list ≡ record_size * n
    w = f.whole

    list' : List ℕ
    list' = list ++ record_bytes (length text) x

    text' : List ℕ
    text' = text ++ text_bytes x

    count : record_count list' ≡ suc n
    count = count_of list' (suc n) (longer_size list text x n w k.1 k.0 room)

    by_place : (i : ℕ) (b : Bool) → ltb i n ≡ b → i < suc n → RecordForm list' text' (record_size * i)
    by_place i true q l = let h = ltb-true i n q in old_form list text x n w k.1 k.0 room i h (f.each i h)
    by_place i false q l = let h = ltb-false i n q in let e : n ≡ i = omega arith in subst (λ (j : ℕ). RecordForm list' text' (record_size * j)) e (new_form list text x n w k.1 k.0 room)

    content : content_of list' text' ≡ content_of list text ++ x ∷ []
    content =
        content_next list' text' n count
        ∙ ap₂ (λ (ys : List Item) (y : Item). ys ++ y ∷ [])
        (old_items list text x n w k.1 k.0 room n (omega arith) (λ i l. f.each i l) ∙ sym (content_is list text))
        (new_item list text x n w k.1 k.0 room)

pub listed : (xs : List Item) (list text : List ℕ) → InForm list text → ((x : Item) → Member x xs → Listable x) → length text + text_size xs < 2 ^ 32
    → (list' : List ℕ) × (text' : List ℕ) × InForm list' text' × (content_of list' text' ≡ content_of list text ++ xs)
unfolding text_size Member
listed [] list text f k h = (list, text, f, sym (append-nil (content_of list text)))
listed (x ∷ xs) list text f k h =
    let o = one_more list text x f (k x (inl refl)) (omega arith) in
    let r = listed xs (list ++ record_bytes (length text) x) (text ++ text_bytes x) o.0 (λ y m. k y (inr m)) (omega (arith, length-append text (text_bytes x), length-append x.layer (path_bytes x.path), path_length x.path)) in
    (r.0, r.1, r.2, joined (content_of r.0 r.1) (content_of (list ++ record_bytes (length text) x) (text ++ text_bytes x)) (content_of list text) r.3 o.1)
  where
    joined : (us vs ws : List Item) → us ≡ vs ++ xs → vs ≡ ws ++ x ∷ [] → us ≡ ws ++ x ∷ xs
    joined us vs ws p q = p ∙ ap (λ (ys : List Item). ys ++ xs) q ∙ append_assoc ws (x ∷ []) xs

-- the empty list is in its form
pub none_listed : InForm [] []
none_listed = record { whole = refl; each = λ n l. absurd (let z : ⊥ = omega arith in z) }

pub every_content : (xs : List Item) → ((x : Item) → Member x xs → Listable x) → text_size xs < 2 ^ 32 → (list : List ℕ) × (text : List ℕ) × InForm list text × (content_of list text ≡ xs)
every_content xs k h = let r = listed xs [] [] none_listed k (omega arith) in (r.0, r.1, r.2, r.3 ∙ nothing)
  where
    nothing : content_of [] [] ++ xs ≡ xs
    nothing = unfold content_of in unfold items_up_to in refl

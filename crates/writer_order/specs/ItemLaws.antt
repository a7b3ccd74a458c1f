-- The tests of one file as the code makes them, from its record's parts; and of all files, one after the other.
-- Assumes nothing.
use Rattle.std.specs.Prelude.{◌≡◌, Bool, cond, ◌||◌, ◌&&◌, drop, eqb, List, [], ◌∷◌, ◌++◌, ℕ, zero, suc, ◌+◌, ◌-◌, ◌*◌, ◌/◌, ◌%◌, ◌≤◌, ◌<◌}
use Rattle.std.proofs.Math.Path.{refl, sym, ap, ap₂}
use Rattle.std.proofs.Common.{◌∙◌, div-add-mod', length-drop, length-append, append-nil, arith, eq-eqb, ne_eqb, eqb-true, lt-ltb, le-ltb, ltb-true, ltb-false, leb-true}
use Rattle.std.proofs.Math.Bool.{true, false, not, and-eq-true_iff}
use Rattle.std.proofs.Math.ListN.{length, take}
use Rattle.std.proofs.Math.Seq.{append_snoc}
use Rattle.std.proofs.Math.Dec.{ltb}
use Rattle.std.proofs.lemmas.Bool.{eqb-false}
use Rattle.limits.specs.Limits.{longest_file, max_levels}
use Rattle.octets.specs.Octets.{cut, same, number_at, zero_hash}
use Rattle.octets.specs.OctetsLaws.{cut_length}
use Rattle.tree.specs.Geometry.{has_layer, piece_count}
use Rattle.tree.specs.Values.{pad_value}
use Rattle.meaning.specs.Torrent.{element_right}
use Rattle.writer_meaning.specs.Content.{Item}
use Rattle.writer_meaning.specs.Number.{some, no_elements, too_deep, wrong_item, misfit}
use Rattle.writer_meaning.proofs.SomeLaws.{or_left, or_right}
use Rattle.writer_lists.specs.Lists.{record_size, elements_fit, elements_in, item_at, form_at, form_up_to, items_up_to, record_count, list_form, content_of}
use Rattle.writer_lists.specs.ListsLaws.{slice_path, slice_fits}
use Rattle.writer_lists.specs.Walk.{PathLeft}
use Rattle.writer_lists.specs.PathsLaws.{in_end, path_more, path_elements}
use Rattle.writer_order.specs.Order.{InForm}
use Rattle.writer_order.specs.CompareLaws.{form_parts}

-- ---- a path, element by element

pub record ElementsPassed (s : List ℕ) (at : ℕ) (passed : List (List ℕ)) : Type 0 where
  pub left : PathLeft s at
  pub few : length passed ≤ at
  pub whole : elements_in (length s) s ≡ passed ++ elements_in left.steps (drop at s)

pub passed_start : (s : List ℕ) → elements_fit (length s) s ≡ true → ElementsPassed s 0 []
passed_start s h = record { left = record { within = omega arith; steps = length s; fits = h }; few = omega arith; whole = refl }

module _ (s : List ℕ) (at : ℕ) (passed : List (List ℕ)) (p : ElementsPassed s at passed) where
  pub passed_end : length s ≤ at → elements_in (length s) s ≡ passed
  passed_end h =
      p.whole ∙ ap (λ (l : List (List ℕ)). passed ++ l) (in_end p.left.steps (drop at s) (length-drop at s ∙ omega arith)) ∙ append-nil
      passed

  module _ (h : at < length s) (m : ℕ) (e : m ≡ number_at s at 4) where
    here : elements_in (length s) s ≡ passed ++ take (number_at s at 4) (drop (at + 4) s) ∷ elements_in (path_more s at p.left h).steps
        (drop (at + 4 + number_at s at 4) s)
    here = p.whole ∙ ap (λ (l : List (List ℕ)). passed ++ l) (path_elements s at p.left h)

    -- the element there is one of the path's
    pub passed_here : (rest : List (List ℕ)) × (elements_in (length s) s ≡ passed ++ cut s (at + 4) m ∷ rest)
    unfolding cut
    passed_here = (elements_in (path_more s at p.left h).steps (drop (at + 4 + number_at s at 4) s), here ∙ rw e refl)

    pub passed_more : ElementsPassed s (at + 4 + m) (passed ++ cut s (at + 4) m ∷ [])
    unfolding cut
    passed_more =
        rw e
        (record {
          left = path_more s at p.left h;
          few = not_more (length-append passed (take (number_at s at 4) (drop (at + 4) s) ∷ [])) p.few;
          whole =
              here
              ∙ sym (append_snoc passed (take (number_at s at 4) (drop (at + 4) s))
              (elements_in (path_more s at p.left h).steps (drop (at + 4 + number_at s at 4) s)));
        })
      where
        not_more : length (passed ++ take (number_at s at 4) (drop (at + 4) s) ∷ []) ≡ length passed + 1 → length passed ≤ at
            → length (passed ++ take (number_at s at 4) (drop (at + 4) s) ∷ []) ≤ at + 4 + number_at s at 4
        not_more a b = omega arith

pub length_more : (passed : List (List ℕ)) (e : List ℕ) (n : ℕ) → n ≡ length passed → n + 1 ≡ length (passed ++ e ∷ [])
length_more passed e n h = sym (length-append passed (e ∷ []) ∙ omega arith)

-- ---- one of a list in two parts passes

module _ {A : Type 0} (test : A → Bool) where
  pub some_append : (xs ys : List A) → some test (xs ++ ys) ≡ some test xs || some test ys
  unfolding some
  some_append [] ys = refl
  some_append (x ∷ xs) ys = by_case (test x) (some_append xs ys)
    where
      by_case : (t : Bool) → some test (xs ++ ys) ≡ some test xs || some test ys
          → t || some test (xs ++ ys) ≡ (t || some test xs) || some test ys
      by_case true e = refl
      by_case false e = e

  pub some_last : (xs : List A) (x : A) → some test xs ≡ false → test x ≡ false → some test (xs ++ x ∷ []) ≡ false
  unfolding some
  some_last xs x e f = some_append xs (x ∷ []) ∙ rw (e, f) refl

  pub some_in : (xs : List A) (x : A) (ys : List A) → test x ≡ true → some test (xs ++ x ∷ ys) ≡ true
  unfolding some
  some_in xs x ys e = some_append xs (x ∷ ys) ∙ or_right (some test xs) (test x || some test ys) (or_left (test x) (some test ys) e)

-- ---- 21

module _ (list text : List ℕ) (p a b : ℕ) (ea : a ≡ number_at list (p + 48) 4) (eb : b ≡ number_at list (p + 48 + 4) 4) where
  pub deep_is : (d : ℕ) → d ≡ length (elements_in (length (take (a + b - a) (drop a text))) (take (a + b - a) (drop a text)))
      → ltb max_levels (d + 4) ≡ too_deep (item_at list text p)
  deep_is d e = ap (λ (n : ℕ). ltb max_levels (n + 4)) (e ∙ ap (λ (l : List (List ℕ)). length l) (slice_path list text p a b ea eb))

  -- ---- 25

  -- what is asked of a file's parts
  abbrev wrong_parts : List (List ℕ) → ℕ → List ℕ → Bool
  wrong_parts path n root =
      no_elements path || some (λ (e : List ℕ). not (element_right e)) path
      || ltb longest_file n || (eqb n 0 && not (same root zero_hash))

  wrong_is : (n : ℕ) → n ≡ number_at list p 8
      → wrong_item (item_at list text p) ≡ wrong_parts (item_at list text p).path n (cut list (p + 8) 32)
  unfolding item_at
  wrong_is n e = rw e refl

  pub path_none : b ≡ 0 → true ≡ wrong_item (item_at list text p)
  path_none z = sym (ap (λ (l : List (List ℕ)). wrong_parts l (item_at list text p).size (item_at list text p).root) empty)
    where
      few : length (take (a + b - a) (drop a text)) ≡ 0
      few = let e : a + b - a ≡ 0 = omega arith in rw e refl

      empty : (item_at list text p).path ≡ []
      empty = sym (slice_path list text p a b ea eb) ∙ in_end (length (take (a + b - a) (drop a text))) (take (a + b - a) (drop a text)) few

  module _ (f : form_at list text p ≡ true) (z : b ≡ 0 → ⊥) (t : Bool)
      (et : t ≡ some (λ (e : List ℕ). not (element_right e))
      (elements_in (length (take (a + b - a) (drop a text))) (take (a + b - a) (drop a text)))) where
    elements_are : some (λ (e : List ℕ). not (element_right e)) (item_at list text p).path ≡ t
    elements_are = sym (et ∙ ap (some (λ (e : List ℕ). not (element_right e))) (slice_path list text p a b ea eb))

    -- a path of some bytes has an element
    some_element : no_elements (item_at list text p).path ≡ false
    some_element =
        ap no_elements (sym (slice_path list text p a b ea eb))
        ∙ starts (take (a + b - a) (drop a text)) (slice_fits list text p a b f ea eb) long
      where
        size : a + b - a ≡ b
        size = omega arith

        fits : a + b ≤ length text
        fits =
            let l = leb-true (number_at list (p + 48) 4 + number_at list (p + 48 + 4) 4) (length text)
            (form_parts list text p f).path_fits in omega arith

        long : 0 < length (take (a + b - a) (drop a text))
        long = let l = slice_length (cut_length text a b fits) in rw size (omega arith)
          where
            slice_length : length (cut text a b) ≡ b → length (take b (drop a text)) ≡ b
            slice_length e = unfold cut in e

        starts : (s : List ℕ) → elements_fit (length s) s ≡ true → 0 < length s → no_elements (elements_in (length s) s) ≡ false
        starts s g h = ap no_elements (path_elements s 0 (record { within = omega arith; steps = length s; fits = g }) h)

    parts_are : (n : ℕ) → n ≡ number_at list p 8
        → wrong_item (item_at list text p) ≡ t || ltb longest_file n || (eqb n 0 && not (same (cut list (p + 8) 32) zero_hash))
    parts_are n e = wrong_is n e ∙ rw (some_element, elements_are) refl

    pub element_wrong : t ≡ true → true ≡ wrong_item (item_at list text p)
    element_wrong e = sym (parts_are (number_at list p 8) refl ∙ rw e refl)

    module _ (g : t ≡ false) (n : ℕ) (en : n ≡ number_at list p 8) where
      pub too_long : longest_file < n → true ≡ wrong_item (item_at list text p)
      too_long h = sym (parts_are n en ∙ rw (g, lt-ltb longest_file n h) refl)

      module _ (h : n ≤ longest_file) where
        short : wrong_item (item_at list text p) ≡ eqb n 0 && not (same (cut list (p + 8) 32) zero_hash)
        short = parts_are n en ∙ rw (g, le-ltb longest_file n h) refl

        pub not_empty : (n ≡ 0 → ⊥) → false ≡ wrong_item (item_at list text p)
        not_empty q = sym (short ∙ rw (ne_eqb n 0 q) refl)

        pub empty_root : n ≡ 0 → (root none : List ℕ) → root ≡ cut list (p + 8) 32 → none ≡ pad_value 0 → (r : Bool) → r ≡ same root none
            → not r ≡ wrong_item (item_at list text p)
        unfolding pad_value
        empty_root q root none er ez r e = sym (short ∙ rw (eq-eqb n 0 q) (ap not (sym (e ∙ ap₂ same er ez))))

-- ---- 27

module _ (list text : List ℕ) (plen p n m : ℕ) (f : form_at list text p ≡ true) (en : n ≡ number_at list p 8)
    (em : m ≡ number_at list (p + 40 + 4) 4) where
  layer_length : length (item_at list text p).layer ≡ m
  unfolding item_at
  layer_length =
      let l = leb-true (number_at list (p + 40) 4 + number_at list (p + 40 + 4) 4) (length text) (form_parts list text p f).layer_fits in
      cut_length text (number_at list (p + 40) 4) (number_at list (p + 40 + 4) 4) l ∙ sym em

  size_is : (item_at list text p).size ≡ n
  unfolding item_at
  size_is = sym en

  module _ (t : Bool) (et : t ≡ has_layer n plen) where
    misfit_is : misfit plen (item_at list text p) ≡ not (eqb m (cond t (32 * piece_count n plen) 0))
    misfit_is = rw (layer_length, size_is, et) refl

    pub none_wanted : t ≡ false → not (eqb m 0) ≡ misfit plen (item_at list text p)
    none_wanted e = sym (misfit_is ∙ rw e refl)

    module _ (e : t ≡ true) where
      pub odd_size : (m % 32 ≡ 0 → ⊥) → true ≡ misfit plen (item_at list text p)
      odd_size h = sym (misfit_is ∙ rw (e, ne_eqb m (32 * piece_count n plen) (λ z. h (let d = z in omega arith))) refl)

      pub pieces_counted : m % 32 ≡ 0 → (c : ℕ) → c ≡ piece_count n plen → not (eqb (m / 32) c) ≡ misfit plen (item_at list text p)
      pieces_counted h c ec =
          sym (misfit_is ∙ rw e (ap (λ (k : ℕ). not (eqb m (32 * k))) (sym ec) ∙ ap not (by_count (eqb (m / 32) c) refl)))
        where
          by_count : (b : Bool) → eqb (m / 32) c ≡ b → eqb m (32 * c) ≡ b
          by_count true q = let k = eqb-true (m / 32) c q in eq-eqb m (32 * c) (omega arith)
          by_count false q = ne_eqb m (32 * c) (λ z. eqb-false (m / 32) c q (omega arith))

-- ---- all files

form_there : (list text : List ℕ) (n i : ℕ) → form_up_to list text n ≡ true → i < n → form_at list text (record_size * i) ≡ true
unfolding form_up_to
form_there list text zero i e h = absurd (omega arith)
form_there list text (suc n) i e h = by_last (ltb i n) refl (λ f l. form_there list text n i f l)
  where
    a : (form_up_to list text n ≡ true) × (form_at list text (record_size * n) ≡ true)
    a = (and-eq-true_iff (form_up_to list text n) (form_at list text (record_size * n))).0 e

    by_last : (t : Bool) → ltb i n ≡ t → (form_up_to list text n ≡ true → i < n → form_at list text (record_size * i) ≡ true)
        → form_at list text (record_size * i) ≡ true
    by_last true q more = more a.0 (ltb-true i n q)
    by_last false q more =
        let g = ltb-false i n q in let o : i ≡ n = omega arith in ap (λ (k : ℕ). form_at list text (record_size * k)) o ∙ a.1

pub record_there : (list text : List ℕ) (i : ℕ) → list_form list text ≡ true → i < record_count list → InForm list text (record_size * i)
unfolding list_form
record_there list text i h l = (
  let d = div-add-mod' (length list) record_size in omega arith,
  form_there list text (record_count list) i
      ((and-eq-true_iff (eqb (length list % record_size) 0) (form_up_to list text (record_count list))).0 h).1 l,
)

module _ (test : Item → Bool) (list text : List ℕ) where
  pub none_yet : some test (items_up_to list text 0) ≡ false
  unfolding items_up_to some
  none_yet = refl

  items_next : (i : ℕ) → items_up_to list text (i + 1) ≡ items_up_to list text i ++ item_at list text (record_size * i) ∷ []
  items_next i = ap (items_up_to list text) one ∙ next
    where
      one : i + 1 ≡ suc i
      one = omega arith

      next : items_up_to list text (suc i) ≡ items_up_to list text i ++ item_at list text (record_size * i) ∷ []
      next = unfold items_up_to in refl

  pub none_so_far : (i : ℕ) → some test (items_up_to list text i) ≡ false → test (item_at list text (record_size * i)) ≡ false
      → some test (items_up_to list text (i + 1)) ≡ false
  none_so_far i e f = ap (some test) (items_next i) ∙ some_last test (items_up_to list text i) (item_at list text (record_size * i)) e f

  pub one_there : (n i : ℕ) → i < n → test (item_at list text (record_size * i)) ≡ true → some test (items_up_to list text n) ≡ true
  unfolding items_up_to
  one_there zero i h e = absurd (omega arith)
  one_there (suc n) i h e = by_last (ltb i n) refl (λ l. one_there n i l e)
    where
      by_last : (t : Bool) → ltb i n ≡ t → (i < n → some test (items_up_to list text n) ≡ true)
          → some test (items_up_to list text n ++ item_at list text (record_size * n) ∷ []) ≡ true
      by_last true q more =
          some_append test (items_up_to list text n) (item_at list text (record_size * n) ∷ [])
          ∙ or_left (some test (items_up_to list text n)) (some test (item_at list text (record_size * n) ∷ [])) (more (ltb-true i n q))
      by_last false q more =
          let g = ltb-false i n q in
          let o : i ≡ n = omega arith in
          some_in test (items_up_to list text n) (item_at list text (record_size * n)) []
          (sym (ap (λ (k : ℕ). test (item_at list text (record_size * k))) o) ∙ e)

  pub content_some : (n : ℕ) (b : Bool) → n ≡ record_count list → b ≡ some test (items_up_to list text n) → b ≡ some test (content_of list text)
  unfolding content_of
  content_some n b e f = f ∙ ap (λ (k : ℕ). some test (items_up_to list text k)) e

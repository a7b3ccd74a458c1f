-- A path walked element by element, and two paths side by side.
-- Assumes nothing.
use Rattle.std.specs.Prelude.{◌≡◌, Bool, true, false, cond, ◌&&◌, ℕ, zero, suc, ◌+◌, ◌-◌, ◌≤◌, ◌<◌, eqb, leb, List, [], ◌∷◌, ◌++◌}
use Rattle.std.proofs.Math.Path.{refl, sym, ap}
use Rattle.std.proofs.Common.{◌∙◌, subst, length-drop, drop-drop, eqb-true, leb-true, arith}
use Rattle.std.proofs.Math.Bool.{and-eq-true_iff}
use Rattle.std.proofs.Math.ListN.{length, take, drop}
use Rattle.std.proofs.lemmas.List.{length-replicate}
use Rattle.octets.specs.Octets.{cut, same, number_at}
use Rattle.octets.specs.OctetsLaws.{cut_length, same_true}
use Rattle.bencode.specs.Grammar.{letter_d, letter_e, encode_string}
use Rattle.writer_meaning.specs.Written.{shared, opened, closed}
use Rattle.writer_lists.specs.Lists.{element_end, elements_fit, elements_in}
use Rattle.writer_lists.specs.ListsLaws.{fit_end}
use Rattle.writer_lists.specs.Walk.{PathLeft}
use Rattle.writer_lists.specs.PathsLaws.{in_end, element_there, path_more, path_elements}
use Rattle.writer_output.specs.Put.{Put}
use Rattle.writer_output.specs.PutLaws.{Going, going_more, going_end, going_room}
use Rattle.writer_output.specs.Path.{path_in, left_in, Standing, SharedTo}

-- ---- as many steps as there are bytes are enough

enough : (steps k : ℕ) (s : List ℕ) → elements_fit steps s ≡ true → length s ≤ k
    → (elements_fit k s ≡ true) × (elements_in k s ≡ elements_in steps s)
unfolding elements_fit elements_in
enough zero k s h l = let e = eqb-true (length s) 0 h in (fit_end k s e, in_end k s e)
enough (suc n) zero s h l = let e : length s ≡ 0 = omega arith in (fit_end zero s e, sym (in_end (suc n) s e))
enough (suc n) (suc k) s h l = by_empty (eqb (length s) 0) refl h (λ f g. enough n k (drop (element_end s) s) f g)
  where
    by_empty : (t : Bool) → eqb (length s) 0 ≡ t
        → cond t true (leb 4 (length s) && (leb (element_end s) (length s) && elements_fit n (drop (element_end s) s))) ≡ true
        → (elements_fit n (drop (element_end s) s) ≡ true → length (drop (element_end s) s) ≤ k →
        (elements_fit k (drop (element_end s) s) ≡ true) × (elements_in k (drop (element_end s) s) ≡ elements_in n (drop (element_end s) s)))
        → (cond t true (leb 4 (length s) && (leb (element_end s) (length s) && elements_fit k (drop (element_end s) s))) ≡ true)
        × (cond t [] (cut s 4 (number_at s 0 4) ∷ elements_in k (drop (element_end s) s)) ≡ cond t []
        (cut s 4 (number_at s 0 4) ∷ elements_in n (drop (element_end s) s)))
    by_empty true e f more = (refl, refl)
    by_empty false e f more =
        let a = (and-eq-true_iff (leb 4 (length s)) (leb (element_end s) (length s) && elements_fit n (drop (element_end s) s))).0 f in
        let b = (and-eq-true_iff (leb (element_end s) (length s)) (elements_fit n (drop (element_end s) s))).0 a.1 in
        let z = leb-true 4 (length s) a.0 in
        let m = more b.1 (omega (arith, length-drop (element_end s) s)) in
        (rw (a.0, b.0) m.0, ap (λ (x : List (List ℕ)). cut s 4 (number_at s 0 4) ∷ x) m.1)

-- ---- one path

pub standing_start : (s : List ℕ) → elements_fit (length s) s ≡ true → Standing s 0
standing_start s h = record { within = omega arith; fits = h }

-- nothing is left at the end
pub left_none : (s : List ℕ) (at : ℕ) → length s ≤ at → left_in s at ≡ []
left_none s at h = in_end (length (drop at s)) (drop at s) (length-drop at s ∙ omega arith)

-- the element at a position, and the position behind it
module _ (s : List ℕ) (at : ℕ) (w : Standing s at) (h : at < length s) where
  left : PathLeft s at
  left = record { within = w.within; steps = length (drop at s); fits = w.fits }

  pub size_there : at + 4 ≤ length s
  size_there = (element_there s at left h).0

  pub element_end_lem : (m : ℕ) → m ≡ number_at s at 4 → at + 4 + m ≤ length s
  element_end_lem m e = let g = (element_there s at left h).1 in omega arith

  more : (elements_fit (length (drop (at + 4 + number_at s at 4) s)) (drop (at + 4 + number_at s at 4) s) ≡ true)
      × (left_in s (at + 4 + number_at s at 4) ≡ elements_in (path_more s at left h).steps (drop (at + 4 + number_at s at 4) s))
  more =
      enough (path_more s at left h).steps (length (drop (at + 4 + number_at s at 4) s)) (drop (at + 4 + number_at s at 4) s)
      (path_more s at left h).fits (omega arith)

  pub standing_more : (m : ℕ) → m ≡ number_at s at 4 → Standing s (at + 4 + m)
  standing_more m e = rw e (record { within = element_end_lem (number_at s at 4) refl; fits = more.0 })

  -- the element as a slice
  pub left_more : (m : ℕ) → m ≡ number_at s at 4 → left_in s at ≡ take (at + 4 + m - (at + 4)) (drop (at + 4) s) ∷ left_in s (at + 4 + m)
  unfolding left
  left_more m e =
      let z : at + 4 + m - (at + 4) ≡ number_at s at 4 = omega arith in
      rw (z, e) (path_elements s at left h ∙ ap (λ (l : List (List ℕ)). take (number_at s at 4) (drop (at + 4) s) ∷ l) (sym more.1))

  pub element_length : (m : ℕ) → m ≡ number_at s at 4 → length (take (at + 4 + m - (at + 4)) (drop (at + 4) s)) ≡ m
  element_length m e =
      let z : at + 4 + m - (at + 4) ≡ m = omega arith in
      rw z (slice_length (cut_length s (at + 4) m (element_end_lem m e)))
    where
      slice_length : length (cut s (at + 4) m) ≡ m → length (take m (drop (at + 4) s)) ≡ m
      slice_length x = unfold cut in x

-- ---- two paths side by side: k elements are passed, the same in both

pub record Along (p q : List ℕ) (at : ℕ) : Type 0 where
  pub first : Standing p at
  pub second : Standing q at
  pub passed : ℕ
  pub shared_is : shared (path_in p) (path_in q) ≡ passed + shared (left_in p at) (left_in q at)
  pub length_is : length (path_in p) ≡ passed + length (left_in p at)
  pub left_is : drop passed (path_in q) ≡ left_in q at

pub along_start : (p q : List ℕ) → Standing p 0 → Standing q 0 → Along p q 0
along_start p q a b = record { first = a; second = b; passed = 0; shared_is = omega arith; length_is = omega arith; left_is = refl }

-- no more is shared
along_end : (p q : List ℕ) (at : ℕ) → Along p q at → shared (left_in p at) (left_in q at) ≡ 0 → SharedTo p q at
along_end p q at a z =
    let s : shared (path_in p) (path_in q) ≡ a.passed = a.shared_is ∙ omega arith in
    record {
      first = a.first;
      second = a.second;
      closes = let l = a.length_is in omega arith;
      opens = rw s (sym a.left_is);
    }

pub along_first_end : (p q : List ℕ) (at : ℕ) → Along p q at → length p ≤ at → SharedTo p q at
along_first_end p q at a h =
    along_end p q at a (ap (λ (l : List (List ℕ)). shared l (left_in q at)) (left_none p at h) ∙ (unfold shared in refl))

none_shared : (p : List (List ℕ)) → shared p [] ≡ 0
unfolding shared
none_shared [] = refl
none_shared (e ∷ p) = refl

pub along_second_end : (p q : List ℕ) (at : ℕ) → Along p q at → length q ≤ at → SharedTo p q at
along_second_end p q at a h = along_end p q at a (ap (shared (left_in p at)) (left_none q at h) ∙ none_shared (left_in p at))

-- the elements there, as slices x and y
module _ (p q : List ℕ) (at m n : ℕ) (a : Along p q at) (g : at < length p) (h : at < length q) (i : m ≡ number_at p at 4)
    (j : n ≡ number_at q at 4) where
  x : List ℕ
  x = take (at + 4 + m - (at + 4)) (drop (at + 4) p)

  y : List ℕ
  y = take (at + 4 + n - (at + 4)) (drop (at + 4) q)

  shared_there : shared (left_in p at) (left_in q at) ≡ cond (same x y) (suc (shared (left_in p (at + 4 + m)) (left_in q (at + 4 + n)))) 0
  unfolding x y shared
  shared_there = rw (left_more p at a.first g m i, left_more q at a.second h n j) refl

  pub along_differ : (t : Bool) → t ≡ same (take (at + 4 + m - (at + 4)) (drop (at + 4) p)) (take (at + 4 + n - (at + 4)) (drop (at + 4) q))
      → t ≡ false → SharedTo p q at
  unfolding x y
  along_differ t e f = along_end p q at a (shared_there ∙ rw (sym e ∙ f) refl)

  pub along_same : (t : Bool) → t ≡ same (take (at + 4 + m - (at + 4)) (drop (at + 4) p)) (take (at + 4 + n - (at + 4)) (drop (at + 4) q))
      → t ≡ true → Along p q (at + 4 + m)
  unfolding x y
  along_same t e f =
      record {
        first = standing_more p at a.first g m i;
        second = rw one (standing_more q at a.second h n j);
        passed = a.passed + 1;
        shared_is = let z = next in a.shared_is ∙ omega arith;
        length_is = a.length_is ∙ ap (λ (l : List (List ℕ)). a.passed + length l) (left_more p at a.first g m i) ∙ omega arith;
        left_is =
            sym (drop-drop 1 a.passed (path_in q)) ∙ ap (λ (l : List (List ℕ)). drop 1 l) (a.left_is ∙ left_more q at a.second h n j)
            ∙ ap (λ (k : ℕ). left_in q (at + 4 + k)) (sym one);
      }
    where
      one : m ≡ n
      one =
          sym (element_length p at a.first g m i)
          ∙ ap (λ (l : List ℕ). length l) (same_true (take (at + 4 + m - (at + 4)) (drop (at + 4) p))
          (take (at + 4 + n - (at + 4)) (drop (at + 4) q)) (sym e ∙ f))
          ∙ element_length q at a.second h n j

      next : shared (left_in p at) (left_in q at) ≡ suc (shared (left_in p (at + 4 + m)) (left_in q (at + 4 + m)))
      next =
          shared_there ∙ ap (λ (b : Bool). cond b (suc (shared (left_in p (at + 4 + m)) (left_in q (at + 4 + n)))) 0) (sym e ∙ f)
          ∙ ap (λ (k : ℕ). suc (shared (left_in p (at + 4 + m)) (left_in q (at + 4 + k)))) (sym one)

-- ---- nodes closed and opened, one for each element

-- what is left of the path is still to come
pub record Walking (bytes : List (List ℕ) → List ℕ) (s : List ℕ) (at : ℕ) (path : List ℕ) (from : ℕ) (t : List ℕ) (now i : ℕ) : Type 0 where
  pub standing : Standing path i
  pub going : Going s at (bytes (left_in path from)) (bytes (left_in path i)) t now

pub walking_end : (bytes : List (List ℕ) → List ℕ) (s : List ℕ) (at : ℕ) (path : List ℕ) (from : ℕ) (t : List ℕ) (now i : ℕ) → bytes [] ≡ []
    → Walking bytes s at path from t now i → length path ≤ i → Put s at (bytes (left_in path from)) t now
walking_end bytes s at path from t now i e w h =
    going_end s at (bytes (left_in path from)) t now
    (subst (λ (l : List ℕ). Going s at (bytes (left_in path from)) l t now) (ap bytes (left_none path i h) ∙ e) w.going)

-- the bytes that close the nodes of a path
abbrev pub closing : List (List ℕ) → List ℕ
closing p = closed (length p)

module _ (s : List ℕ) (at : ℕ) (path : List ℕ) (from : ℕ) (t : List ℕ) (now i m : ℕ) (w : Walking closing s at path from t now i)
    (h : i < length path) (e : m ≡ number_at path i 4) where
  next_closed : Going s at (closing (left_in path from)) ((letter_e ∷ []) ++ closing (left_in path (i + 4 + m))) t now
  next_closed =
      subst (λ (l : List (List ℕ)). Going s at (closing (left_in path from)) (closing l) t now) (left_more path i w.standing h m e)
      w.going

  pub closing_room : (n : ℕ) → at + length (left_in path from) < n → now + 1 < n
  closing_room n l =
      going_room s at (closing (left_in path from)) (letter_e ∷ []) (closing (left_in path (i + 4 + m))) t now n next_closed
      (omega (arith, length-replicate {A = ℕ} (length (left_in path from)) letter_e))

  pub closing_more : (u : List ℕ) (r : ℕ) → Put t now (letter_e ∷ []) u r → length u ≡ length t
      → Walking closing s at path from u r (i + 4 + m)
  closing_more u r p k =
      record {
        standing = standing_more path i w.standing h m e;
        going = going_more s at (closing (left_in path from)) (letter_e ∷ []) (closing (left_in path (i + 4 + m))) t u now r next_closed p k;
      }

module _ (s : List ℕ) (at : ℕ) (path : List ℕ) (from : ℕ) (t : List ℕ) (now i m : ℕ) (w : Walking opened s at path from t now i)
    (h : i < length path) (e : m ≡ number_at path i 4) where
  abbrev element : List ℕ
  element = take (i + 4 + m - (i + 4)) (drop (i + 4) path)

  next_opened : Going s at (opened (left_in path from))
      (encode_string (take (i + 4 + m - (i + 4)) (drop (i + 4) path)) ++ ((letter_d ∷ []) ++ opened (left_in path (i + 4 + m)))) t now
  next_opened =
      subst (λ (l : List ℕ). Going s at (opened (left_in path from)) l t now)
      (ap opened (left_more path i w.standing h m e) ∙ (unfold opened in refl)) w.going

  pub opening_room : (n : ℕ) → at + length (opened (left_in path from)) < n
      → now + length (encode_string (take (i + 4 + m - (i + 4)) (drop (i + 4) path))) < n
  opening_room n l =
      going_room s at (opened (left_in path from)) (encode_string element) ((letter_d ∷ []) ++ opened (left_in path (i + 4 + m))) t now n
      next_opened l

  module _ (u : List ℕ) (r : ℕ) (p : Put t now (encode_string (take (i + 4 + m - (i + 4)) (drop (i + 4) path))) u r)
      (k : length u ≡ length t) where
    behind_key : Going s at (opened (left_in path from)) ((letter_d ∷ []) ++ opened (left_in path (i + 4 + m))) u r
    behind_key =
        going_more s at (opened (left_in path from)) (encode_string element) ((letter_d ∷ []) ++ opened (left_in path (i + 4 + m))) t u now r
        next_opened p k

    pub opening_room_2 : (n : ℕ) → at + length (opened (left_in path from)) < n → r + 1 < n
    opening_room_2 n l = going_room s at (opened (left_in path from)) (letter_d ∷ []) (opened (left_in path (i + 4 + m))) u r n behind_key l

    pub opening_more : (v : List ℕ) (q : ℕ) → Put u r (letter_d ∷ []) v q → length v ≡ length u
        → Walking opened s at path from v q (i + 4 + m)
    opening_more v q x y =
        record {
          standing = standing_more path i w.standing h m e;
          going = going_more s at (opened (left_in path from)) (letter_d ∷ []) (opened (left_in path (i + 4 + m))) u v r q behind_key x y;
        }

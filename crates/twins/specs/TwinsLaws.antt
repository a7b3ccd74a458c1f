-- One file more: whether the lengths still agree, what is known of a root then, and how many layers there are.
-- Assumes nothing.
use Rattle.std.specs.Prelude.{◌≡◌, ◌⊎◌, Bool, true, false, cond, not, ◌&&◌, ◌||◌, ℕ, suc, ◌+◌, ◌≤◌, eqb, List, [], ◌∷◌, ◌++◌}
use Rattle.std.proofs.Math.Path.{refl, ap}
use Rattle.std.proofs.Common.{sym, ap₂, ◌∙◌, inl, inr, arith, add-one, eqb-true, eq-eqb, ne_eqb, append-nil, append_assoc}
use Rattle.std.proofs.lemmas.Bool.{false≢true, eqb-false, not-true}
use Rattle.std.proofs.Math.Bool.{and-eq-true_iff, and_assoc, and-true}
use Rattle.std.proofs.Math.ListN.{length}
use Rattle.octets.specs.Octets.{same}
use Rattle.octets.specs.OctetsLaws.{same_true, same_false, same_refl, same_ne}
use Rattle.tree.specs.Geometry.{has_layer}
use Rattle.tree.proofs.GeometryLaws.{long_full}
use Rattle.meaning.specs.Torrent.{File, no_other_length, lengths_agree}
use Rattle.meaning.specs.Counting.{Member, Distinct}
use Rattle.twins.specs.Twins.{long_roots, none_same, once_each, layer_count, length_known, differs}

-- ---- tests

and_swap : (a b c : Bool) → a && (b && c) ≡ b && (a && c)
and_swap true true c = refl
and_swap true false c = refl
and_swap false true c = refl
and_swap false false c = refl

same_sym : (a b : List ℕ) → same a b ≡ same b a
same_sym a b = by_case (same a b) refl
  where
    by_case : (t : Bool) → same a b ≡ t → t ≡ same b a
    by_case true e = sym (ap (λ (l : List ℕ). same l a) (sym (same_true a b e)) ∙ same_refl a)
    by_case false e = sym (same_ne b a (λ f. same_false a b e (sym f)))

eqb_sym : (a b : ℕ) → eqb a b ≡ eqb b a
eqb_sym a b = by_case (eqb a b) refl
  where
    by_case : (t : Bool) → eqb a b ≡ t → t ≡ eqb b a
    by_case true e = sym (eq-eqb b a (sym (eqb-true a b e)))
    by_case false e = sym (ne_eqb b a (λ f. eqb-false a b e (sym f)))

pub empty_short : (n plen : ℕ) → n ≡ 0 → has_layer n plen ≡ false
empty_short n plen z = by_case (has_layer n plen) refl
  where
    by_case : (t : Bool) → has_layer n plen ≡ t → t ≡ false
    by_case true e = absurd (long_full n plen e z)
    by_case false e = refl

-- ---- whether lengths agree

-- a file does not have the root x with another length than n
abbrev Passes : List ℕ → ℕ → File → Bool
Passes x n v = not (not (eqb v.size 0) && same x v.root && not (eqb n v.size))

other_snoc : (x : List ℕ) (n : ℕ) (vs : List File) (v : File) → no_other_length x n (vs ++ v ∷ []) ≡ no_other_length x n vs && Passes x n v
unfolding no_other_length
other_snoc x n [] v = and-true (Passes x n v)
other_snoc x n (w ∷ vs) v = ap (λ (t : Bool). Passes x n w && t) (other_snoc x n vs v) ∙ sym (and_assoc (Passes x n w) (no_other_length x n vs) (Passes x n v))

-- the Booleans of a file w before and a file v behind: whether each is empty, has a length of its own in between, and whether they have
-- one root and one length
table : (ew ev nw nv s q l : Bool) → (ew || (nw && not (not ev && s && not q))) && (l && (ev || nv)) ≡ ((ew || nw) && l) && (ev || (not (not ew && s && not q) && nv))
table true ev nw nv s q l = refl
table false true nw nv s q l = ap₂ ◌&&◌ (and-true nw) (and-true l) ∙ sym (and-true (nw && l))
table false false true nv s q l = and_swap (not (s && not q)) l nv
table false false false nv s q l = refl

agree_snoc : (vs : List File) (v : File) → lengths_agree (vs ++ v ∷ []) ≡ lengths_agree vs && (eqb v.size 0 || no_other_length v.root v.size vs)
unfolding lengths_agree no_other_length
agree_snoc [] v = and-true (eqb v.size 0 || true)
agree_snoc (w ∷ vs) v =
    ap₂ (λ (a b : Bool). (eqb w.size 0 || a) && b) (other_snoc w.root w.size vs v) (agree_snoc vs v)
    ∙ table (eqb w.size 0) (eqb v.size 0) (no_other_length w.root w.size vs) (no_other_length v.root v.size vs) (same w.root v.root) (eqb w.size v.size) (lengths_agree vs)
    ∙ ap₂ (λ (s q : Bool). ((eqb w.size 0 || no_other_length w.root w.size vs) && lengths_agree vs) && (eqb v.size 0 || (not (not (eqb w.size 0) && s && not q) && no_other_length v.root v.size vs)))
    (same_sym w.root v.root) (eqb_sym w.size v.size)

-- what agrees agrees in front
other_front : (x : List ℕ) (n : ℕ) (vs ws : List File) → no_other_length x n (vs ++ ws) ≡ true → no_other_length x n vs ≡ true
unfolding no_other_length
other_front x n [] ws e = refl
other_front x n (v ∷ vs) ws e = let p = (and-eq-true_iff (Passes x n v) (no_other_length x n (vs ++ ws))).0 e in rw (p.0, other_front x n vs ws p.1) refl

pub agree_front : (vs ws : List File) → lengths_agree (vs ++ ws) ≡ true → lengths_agree vs ≡ true
unfolding lengths_agree
agree_front [] ws e = refl
agree_front (v ∷ vs) ws e = by_size (eqb v.size 0) p.0 (agree_front vs ws p.1)
  where
    p : (eqb v.size 0 || no_other_length v.root v.size (vs ++ ws) ≡ true) × (lengths_agree (vs ++ ws) ≡ true)
    p = (and-eq-true_iff (eqb v.size 0 || no_other_length v.root v.size (vs ++ ws)) (lengths_agree (vs ++ ws))).0 e

    by_size : (b : Bool) → b || no_other_length v.root v.size (vs ++ ws) ≡ true → lengths_agree vs ≡ true → (b || no_other_length v.root v.size vs) && lengths_agree vs ≡ true
    by_size true q l = l
    by_size false q l = rw (other_front v.root v.size vs ws q, l) refl

-- ---- what is known of a root

-- no file has the root with another length exactly if none has it or the length known is this one
known_agrees : (x : List ℕ) (n : ℕ) (vs : List File) → lengths_agree vs ≡ true → no_other_length x n vs ≡ (eqb (length_known x vs) 0 || eqb n (length_known x vs))
unfolding lengths_agree no_other_length length_known
known_agrees x n [] e = refl
known_agrees x n (w ∷ vs) e = by_first (eqb w.size 0) (same x w.root) refl refl (eqb n w.size) refl p.0 (known_agrees x n vs p.1)
  where
    p : (eqb w.size 0 || no_other_length w.root w.size vs ≡ true) × (lengths_agree vs ≡ true)
    p = (and-eq-true_iff (eqb w.size 0 || no_other_length w.root w.size vs) (lengths_agree vs)).0 e

    by_first : (a s : Bool) → eqb w.size 0 ≡ a → same x w.root ≡ s → (q : Bool) → eqb n w.size ≡ q → a || no_other_length w.root w.size vs ≡ true
        → no_other_length x n vs ≡ (eqb (length_known x vs) 0 || eqb n (length_known x vs))
        → not (not a && s && not q) && no_other_length x n vs ≡ (eqb (cond (not a && s) w.size (length_known x vs)) 0 || eqb n (cond (not a && s) w.size (length_known x vs)))
    by_first true s ea es q eq o ih = ih
    by_first false false ea es q eq o ih = ih
    by_first false true ea es true eq o ih =
        let r : no_other_length x n vs ≡ true = rw (same_true x w.root es, eqb-true n w.size eq) o in
        rw (ea, eq) r
    by_first false true ea es false eq o ih = rw (ea, eq) refl

known_snoc : (x : List ℕ) (vs : List File) (v : File) → length_known x (vs ++ v ∷ []) ≡ cond (eqb (length_known x vs) 0) (cond (not (eqb v.size 0) && same x v.root) v.size 0) (length_known x vs)
unfolding length_known
known_snoc x [] v = refl
known_snoc x (w ∷ vs) v = by_first (eqb w.size 0) (same x w.root) refl (known_snoc x vs v)
  where
    last : ℕ
    last = cond (not (eqb v.size 0) && same x v.root) v.size 0

    by_first : (a s : Bool) → eqb w.size 0 ≡ a → length_known x (vs ++ v ∷ []) ≡ cond (eqb (length_known x vs) 0) last (length_known x vs)
        → cond (not a && s) w.size (length_known x (vs ++ v ∷ [])) ≡ cond (eqb (cond (not a && s) w.size (length_known x vs)) 0) last (cond (not a && s) w.size (length_known x vs))
    by_first true s e ih = ih
    by_first false false e ih = ih
    by_first false true e ih = rw e refl

-- ---- the layers

long_snoc : (plen : ℕ) (vs : List File) (v : File) → long_roots plen (vs ++ v ∷ []) ≡ long_roots plen vs ++ cond (has_layer v.size plen) (v.root ∷ []) []
unfolding long_roots
long_snoc plen [] v = refl
long_snoc plen (w ∷ vs) v = by_length (has_layer w.size plen) (long_snoc plen vs v)
  where
    by_length : (t : Bool) → long_roots plen (vs ++ v ∷ []) ≡ long_roots plen vs ++ cond (has_layer v.size plen) (v.root ∷ []) []
        → cond t (w.root ∷ long_roots plen (vs ++ v ∷ [])) (long_roots plen (vs ++ v ∷ [])) ≡ cond t (w.root ∷ long_roots plen vs) (long_roots plen vs) ++ cond (has_layer v.size plen) (v.root ∷ []) []
    by_length true ih = ap (λ (l : List (List ℕ)). w.root ∷ l) ih
    by_length false ih = ih

none_snoc : (y : List ℕ) (xs : List (List ℕ)) (x : List ℕ) → none_same y (xs ++ x ∷ []) ≡ none_same y xs && not (same y x)
unfolding none_same
none_snoc y [] x = and-true (not (same y x))
none_snoc y (z ∷ xs) x = ap (λ (t : Bool). not (same y z) && t) (none_snoc y xs x) ∙ sym (and_assoc (not (same y z)) (none_same y xs) (not (same y x)))

once_snoc : (xs : List (List ℕ)) (x : List ℕ) → length (once_each (xs ++ x ∷ [])) ≡ cond (none_same x xs) (suc (length (once_each xs))) (length (once_each xs))
unfolding once_each none_same
once_snoc [] x = refl
once_snoc (y ∷ ys) x = rw (none_snoc y ys x) (by_same (same x y) refl (once_snoc ys x))
  where
    d : List (List ℕ)
    d = once_each ys

    e : List (List ℕ)
    e = once_each (ys ++ x ∷ [])

    by_none : (a b : Bool) → length e ≡ cond b (suc (length d)) (length d) → length (cond (a && not false) (y ∷ e) e) ≡ cond b (suc (length (cond a (y ∷ d) d))) (length (cond a (y ∷ d) d))
    by_none true true ih = ap suc ih
    by_none true false ih = ap suc ih
    by_none false true ih = ih
    by_none false false ih = ih

    by_one : (a : Bool) → length e ≡ cond a (suc (length d)) (length d) → length (cond (a && not true) (y ∷ e) e) ≡ length (cond a (y ∷ d) d)
    by_one true ih = ih
    by_one false ih = ih

    by_same : (t : Bool) → same x y ≡ t → length e ≡ cond (none_same x ys) (suc (length d)) (length d)
        → length (cond (none_same y ys && not (same y x)) (y ∷ e) e) ≡ cond (not t && none_same x ys) (suc (length (cond (none_same y ys) (y ∷ d) d))) (length (cond (none_same y ys) (y ∷ d) d))
    by_same true q ih = rw (sym (same_sym x y) ∙ q) (by_one (none_same y ys) (ih ∙ ap (λ (z : List ℕ). cond (none_same z ys) (suc (length d)) (length d)) (same_true x y q)))
    by_same false q ih = rw (sym (same_sym x y) ∙ q) (by_none (none_same y ys) (none_same x ys) ih)

-- a longer file's root is new exactly if nothing is known of it
long_new : (plen : ℕ) (x : List ℕ) (n : ℕ) (vs : List File) → has_layer n plen ≡ true → no_other_length x n vs ≡ true → none_same x (long_roots plen vs) ≡ eqb (length_known x vs) 0
unfolding no_other_length long_roots none_same length_known
long_new plen x n [] h e = refl
long_new plen x n (w ∷ vs) h e = by_first (eqb w.size 0) (same x w.root) refl refl (eqb n w.size) refl (has_layer w.size plen) refl p.0 (long_new plen x n vs h p.1)
  where
    p : (Passes x n w ≡ true) × (no_other_length x n vs ≡ true)
    p = (and-eq-true_iff (Passes x n w) (no_other_length x n vs)).0 e

    by_first : (a s : Bool) → eqb w.size 0 ≡ a → same x w.root ≡ s → (q : Bool) → eqb n w.size ≡ q → (l : Bool) → has_layer w.size plen ≡ l → not (not a && s && not q) ≡ true
        → none_same x (long_roots plen vs) ≡ eqb (length_known x vs) 0
        → none_same x (cond l (w.root ∷ long_roots plen vs) (long_roots plen vs)) ≡ eqb (cond (not a && s) w.size (length_known x vs)) 0
    by_first true s ea es q eq true el o ih = absurd (long_full w.size plen el (eqb-true w.size 0 ea))
    by_first true s ea es q eq false el o ih = ih
    by_first false false ea es q eq true el o ih = rw es ih
    by_first false false ea es q eq false el o ih = ih
    by_first false true ea es false eq l el o ih = absurd (false≢true o)
    by_first false true ea es true eq true el o ih = rw (es, ea) refl
    by_first false true ea es true eq false el o ih = absurd (false≢true (sym el ∙ ap (λ (k : ℕ). has_layer k plen) (sym (eqb-true n w.size eq)) ∙ h))

-- ---- one file more

module _ (vs : List File) (v : File) (agree : lengths_agree vs ≡ true) where
  agree_one : lengths_agree (vs ++ v ∷ []) ≡ (eqb v.size 0 || (eqb (length_known v.root vs) 0 || eqb v.size (length_known v.root vs)))
  agree_one = agree_snoc vs v ∙ rw agree (ap (λ (t : Bool). eqb v.size 0 || t) (known_agrees v.root v.size vs agree))

  -- an empty file agrees, is no root's, and has no layer
  module _ (z : v.size ≡ 0) where
    pub empty_agrees : lengths_agree (vs ++ v ∷ []) ≡ true
    empty_agrees = agree_one ∙ rw (eq-eqb v.size 0 z) refl

    pub empty_known : (x : List ℕ) → length_known x (vs ++ v ∷ []) ≡ length_known x vs
    empty_known x = known_snoc x vs v ∙ rw (eq-eqb v.size 0 z) (by_known (eqb (length_known x vs) 0) refl)
      where
        by_known : (t : Bool) → eqb (length_known x vs) 0 ≡ t → cond t 0 (length_known x vs) ≡ length_known x vs
        by_known true e = sym (eqb-true (length_known x vs) 0 e)
        by_known false e = refl

    pub empty_layers : (plen : ℕ) → layer_count plen (vs ++ v ∷ []) ≡ layer_count plen vs
    unfolding layer_count
    empty_layers plen = ap (λ (l : List (List ℕ)). length (once_each l)) (long_snoc plen vs v ∙ rw (empty_short v.size plen z) (append-nil (long_roots plen vs)))

  -- another: its root may be known with this length, or not be known
  module _ (full : v.size ≡ 0 → ⊥) (known : ℕ) (is : known ≡ length_known v.root vs) where
    pub differs_so : differs known v.size ≡ true → (ws : List File) → lengths_agree (vs ++ v ∷ ws) ≡ false
    differs_so d ws = by_case (lengths_agree (vs ++ v ∷ ws)) refl
      where
        p : (not (eqb known 0) ≡ true) × (not (eqb known v.size) ≡ true)
        p = (and-eq-true_iff (not (eqb known 0)) (not (eqb known v.size))).0 d

        front : lengths_agree (vs ++ v ∷ ws) ≡ true → lengths_agree (vs ++ v ∷ []) ≡ true
        front e = agree_front (vs ++ v ∷ []) ws (ap lengths_agree (append_assoc vs (v ∷ []) ws) ∙ e)

        none : lengths_agree (vs ++ v ∷ []) ≡ false
        none =
            let a : eqb (length_known v.root vs) 0 ≡ false = rw is at (not-true (eqb known 0) p.0) in
            let b : eqb v.size (length_known v.root vs) ≡ false = eqb_sym v.size (length_known v.root vs) ∙ rw is at (not-true (eqb known v.size) p.1) in
            agree_one ∙ rw (ne_eqb v.size 0 full, a, b) refl

        by_case : (t : Bool) → lengths_agree (vs ++ v ∷ ws) ≡ t → t ≡ false
        by_case true e = absurd (false≢true (sym none ∙ front e))
        by_case false e = refl

    module _ (d : differs known v.size ≡ false) where
      -- so it is not known, or known with this length
      either : (known ≡ 0) ⊎ (known ≡ v.size)
      either = by_tests (eqb known 0) (eqb known v.size) refl refl d
        where
          by_tests : (a b : Bool) → eqb known 0 ≡ a → eqb known v.size ≡ b → not a && not b ≡ false → (known ≡ 0) ⊎ (known ≡ v.size)
          by_tests true b e f g = inl (eqb-true known 0 e)
          by_tests false true e f g = inr (eqb-true known v.size f)
          by_tests false false e f g = absurd (false≢true (sym g))

      no_other : no_other_length v.root v.size vs ≡ true
      no_other =
          known_agrees v.root v.size vs agree
          ∙ elim either [
            | inl e ↦ rw (eq-eqb (length_known v.root vs) 0 (sym is ∙ e)) refl
            | inr e ↦ (let a : eqb (length_known v.root vs) 0 ≡ false = ne_eqb (length_known v.root vs) 0 (λ o. full (sym e ∙ is ∙ o)) in rw (a, eq-eqb v.size (length_known v.root vs) (sym e ∙ is)) refl)
          ]

      pub full_agrees : lengths_agree (vs ++ v ∷ []) ≡ true
      full_agrees = agree_snoc vs v ∙ rw (agree, ne_eqb v.size 0 full, no_other) refl

      -- its length is known of its root then
      pub full_known : length_known v.root (vs ++ v ∷ []) ≡ v.size
      full_known =
          known_snoc v.root vs v ∙ rw (ne_eqb v.size 0 full, same_refl v.root)
          (elim either [
            | inl e ↦ rw (eq-eqb (length_known v.root vs) 0 (sym is ∙ e)) refl
            | inr e ↦ (let a : eqb (length_known v.root vs) 0 ≡ false = ne_eqb (length_known v.root vs) 0 (λ o. full (sym e ∙ is ∙ o)) in rw a (sym is ∙ e))
          ])

      -- and of another root what was known
      pub others_known : (x : List ℕ) → (x ≡ v.root → ⊥) → length_known x (vs ++ v ∷ []) ≡ length_known x vs
      others_known x o = known_snoc x vs v ∙ rw (ne_eqb v.size 0 full, same_ne x v.root o) (by_known (eqb (length_known x vs) 0) refl)
        where
          by_known : (t : Bool) → eqb (length_known x vs) 0 ≡ t → cond t 0 (length_known x vs) ≡ length_known x vs
          by_known true e = sym (eqb-true (length_known x vs) 0 e)
          by_known false e = refl

      -- a layer more, if it is longer than the piece length and its root was not known
      pub full_layers : (plen : ℕ) → layer_count plen (vs ++ v ∷ []) ≡ cond (eqb known 0 && has_layer v.size plen) (layer_count plen vs + 1) (layer_count plen vs)
      unfolding layer_count
      full_layers plen = ap (λ (l : List (List ℕ)). length (once_each l)) (long_snoc plen vs v) ∙ by_length (has_layer v.size plen) refl
        where
          l : List (List ℕ)
          l = long_roots plen vs

          no_more_lem : (k : Bool) → cond (k && false) (length (once_each l) + 1) (length (once_each l)) ≡ length (once_each l)
          no_more_lem true = refl
          no_more_lem false = refl

          one_more : (k : Bool) → cond k (suc (length (once_each l))) (length (once_each l)) ≡ cond (k && true) (length (once_each l) + 1) (length (once_each l))
          one_more true = sym (add-one (length (once_each l)))
          one_more false = refl

          by_length : (t : Bool) → has_layer v.size plen ≡ t → length (once_each (l ++ cond t (v.root ∷ []) [])) ≡ cond (eqb known 0 && t) (length (once_each l) + 1) (length (once_each l))
          by_length true h = once_snoc l v.root ∙ rw (long_new plen v.root v.size vs h no_other ∙ ap (λ (k : ℕ). eqb k 0) (sym is)) (one_more (eqb known 0))
          by_length false h = ap (λ (z : List (List ℕ)). length (once_each z)) (append-nil l) ∙ sym (no_more_lem (eqb known 0))

-- ---- each string once

none_member : (x : List ℕ) (xs : List (List ℕ)) → none_same x xs ≡ true → Member x xs → ⊥
unfolding none_same Member
none_member x [] e m = m
none_member x (y ∷ ys) e m =
    let p = (and-eq-true_iff (not (same x y)) (none_same x ys)).0 e in
    elim m [ inl q ↦ same_false x y (not-true (same x y) p.0) q | inr n ↦ none_member x ys p.1 n ]

some_member : (x : List ℕ) (xs : List (List ℕ)) → none_same x xs ≡ false → Member x xs
unfolding none_same Member
some_member x [] e = absurd (false≢true (sym e))
some_member x (y ∷ ys) e = by_first (same x y) refl e (some_member x ys)
  where
    by_first : (t : Bool) → same x y ≡ t → not t && none_same x ys ≡ false → (none_same x ys ≡ false → Member x ys) → (x ≡ y) ⊎ Member x ys
    by_first true q e ih = inl (same_true x y q)
    by_first false q e ih = inr (ih e)

-- it has the same strings
pub once_in : (x : List ℕ) (xs : List (List ℕ)) → Member x (once_each xs) → Member x xs
unfolding once_each Member
once_in x [] m = m
once_in x (y ∷ ys) m = by_first (none_same y ys) m (once_in x ys)
  where
    by_first : (t : Bool) → Member x (cond t (y ∷ once_each ys) (once_each ys)) → (Member x (once_each ys) → Member x ys) → (x ≡ y) ⊎ Member x ys
    by_first true m ih = elim m [ inl q ↦ inl q | inr n ↦ inr (ih n) ]
    by_first false m ih = inr (ih m)

pub once_all : (x : List ℕ) (xs : List (List ℕ)) → Member x xs → Member x (once_each xs)
unfolding once_each Member
once_all x [] m = m
once_all x (y ∷ ys) m = by_first (none_same y ys) refl m (once_all x ys)
  where
    by_first : (t : Bool) → none_same y ys ≡ t → (x ≡ y) ⊎ Member x ys → (Member x ys → Member x (once_each ys)) → Member x (cond t (y ∷ once_each ys) (once_each ys))
    by_first true e (inl q) ih = inl q
    by_first true e (inr n) ih = inr (ih n)
    by_first false e (inl q) ih = ih (rw q (some_member y ys e))
    by_first false e (inr n) ih = ih n

-- none twice
pub once_distinct : (xs : List (List ℕ)) → Distinct (once_each xs)
unfolding once_each Distinct
once_distinct [] = tt
once_distinct (y ∷ ys) = by_first (none_same y ys) refl (once_distinct ys)
  where
    by_first : (t : Bool) → none_same y ys ≡ t → Distinct (once_each ys) → Distinct (cond t (y ∷ once_each ys) (once_each ys))
    by_first true e d = (λ m. none_member y ys e (once_in y ys m), d)
    by_first false e d = d

-- and not more
pub once_fewer : (xs : List (List ℕ)) → length (once_each xs) ≤ length xs
unfolding once_each
once_fewer [] = omega arith
once_fewer (y ∷ ys) = by_first (none_same y ys) (once_fewer ys)
  where
    by_first : (t : Bool) → length (once_each ys) ≤ length ys → length (cond t (y ∷ once_each ys) (once_each ys)) ≤ suc (length ys)
    by_first true h = omega arith
    by_first false h = omega arith

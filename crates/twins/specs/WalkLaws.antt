-- Files met one after the other: one file, or one directory, more keeps what is known; and the whole tree.
-- Assumes nothing.
use Rattle.twins.specs.Walk.{past}
use Rattle.std.specs.Prelude.{◌≡◌, Bool, cond, ◌&&◌, List, [], ◌∷◌, ◌++◌, ℕ, suc, ◌+◌, ◌-◌, ◌≤◌, ◌<◌, length, drop, get_or, set, eqb, Some, None}
use Rattle.std.proofs.Math.Path.{refl, sym}
use Rattle.std.proofs.Common.{ap, subst, ◌∙◌, inl, inr, append-nil, append_assoc, arith, length-set, get_or-set_same, get_or-set_other, eqb-true, eq-eqb, ne_eqb}
use Rattle.std.proofs.Math.Bool.{true, false}
use Rattle.std.proofs.lemmas.Bool.{false≢true}
use Rattle.std.proofs.lemmas.List.{map-append}
use Rattle.std.proofs.Math.Decide.{ℕ_discrete}
use Rattle.octets.specs.Octets.{cut}
use Rattle.tree.specs.Geometry.{has_layer}
use Rattle.tree.proofs.GeometryLaws.{long_full}
use Rattle.meaning.specs.Torrent.{File, lengths_agree}
use Rattle.sorting.specs.Sorting.{Stands}
use Rattle.sorting.specs.SortingLaws.{ascending_one}
use Rattle.filetree.specs.Token.{ends_here, token_at, opened_token, closed_token, leaf_token}
use Rattle.filetree.specs.TokenLaws.{leaf_ends, opened_ends}
use Rattle.filetree.specs.Tree.{max_elements, Element, Listed, listed_as, down, Files, wrong, files, after, files_from, files_below, files_in, right, listed, roots_of}
use Rattle.filetree.specs.TreeLaws.{empty_tree, tree_below, no_levels, FilesPassed, passed_none, passed_bad, passed_end, passed_closed, passed_file, passed_wrong, inside_ends, passed_directory}
use Rattle.filetree.specs.Reading.{read_file, read_files, root_read}
use Rattle.twins.specs.Twins.{long_roots, once_each, layer_count, compared_of, length_known, differs, size_noted, RootsStand, Rooted, Meets}
use Rattle.twins.specs.TwinsLaws.{agree_front, empty_short, empty_agrees, empty_known, empty_layers, differs_so, full_agrees, full_known, others_known, full_layers, once_fewer}
use Rattle.twins.specs.Walk.{Known, Ahead, Compares}

-- ---- one file more

module _ (t roots : List ℕ) (count plen : ℕ) where
  -- nothing is noted yet
  pub known_none : (room : List ℕ) → count ≤ length room → ((j : ℕ) → j < count → get_or room j 0 ≡ 0) → Known t roots count plen room [] 0
  unfolding lengths_agree layer_count long_roots once_each size_noted length_known
  known_none room h z = record { agree = refl; counted = refl; noted = λ j l. rw (z j l) refl; sized = h }

  module _ (rooted : Rooted t roots count) (room : List ℕ) (done : List Listed) (layered : ℕ) (c : Known t roots count plen room done layered)
      (i a b n r k : ℕ) (path : List Element) (some : 0 < i) (e : token_at t i ≡ leaf_token a b n r k) where
    abbrev f : Listed
    f = listed_as n r (down path a b)

    abbrev vs : List File
    vs = read_files t done

    abbrev v : File
    v = read_file t f

    size_is : v.size ≡ n
    size_is = unfold read_file in refl

    root_is : (n ≡ 0 → ⊥) → v.root ≡ cut t r 32
    root_is z = unfold read_file in rw (ne_eqb n 0 z) refl

    now : read_files t (done ++ f ∷ []) ≡ vs ++ v ∷ []
    now = map-append (read_file t) done (f ∷ [])

    -- with what is true of one file more
    met : (room' : List ℕ) (layered' : ℕ) → length room' ≡ length room → lengths_agree (vs ++ v ∷ []) ≡ true → layered' ≡ layer_count plen (vs ++ v ∷ [])
        → ((j : ℕ) → j < count → size_noted t (get_or room' j 0) ≡ length_known (cut t (get_or roots j 0) 32) (vs ++ v ∷ []))
        → Known t roots count plen room' (done ++ f ∷ []) layered'
    met room' layered' s g m o =
        let d = c.sized in
        record {
          agree = ap lengths_agree now ∙ g;
          counted = m ∙ ap (layer_count plen) (sym now);
          noted = λ j l. o j l ∙ ap (length_known (cut t (get_or roots j 0) 32)) (sym now);
          sized = omega arith;
        }

    noted_here : size_noted t i ≡ n
    unfolding size_noted
    noted_here = rw (ne_eqb i 0 (λ o. omega arith), e) refl

    module _ (room' : List ℕ) (known : ℕ) (m : Meets t roots count room room' i n r known) where
      -- it has another length than the one known of its root
      pub known_differs : differs known n ≡ true → (rest : List Listed) → lengths_agree (read_files t (done ++ f ∷ rest)) ≡ false
      known_differs d rest = ap lengths_agree (map-append (read_file t) done (f ∷ rest)) ∙ disagree m
        where
          disagree : Meets t roots count room room' i n r known → lengths_agree (vs ++ v ∷ read_files t rest) ≡ false
          disagree (inl (z, o, s)) = absurd (false≢true (sym (rw (eq-eqb known 0 o) refl) ∙ d))
          disagree (inr (z, (j, l, q, o, s))) =
              let is : known ≡ length_known v.root vs = o ∙ c.noted j l ∙ ap (λ (x : List ℕ). length_known x vs) (q ∙ sym (root_is z)) in
              differs_so vs v c.agree (λ x. z (sym size_is ∙ x)) known is (rw size_is d) (read_files t rest)

      -- it does not
      pub known_file : differs known n ≡ false → (layered' : ℕ) → layered' ≡ cond (eqb known 0 && has_layer n plen) (layered + 1) layered → Known t roots count plen room' (done ++ f ∷ []) layered'
      known_file d layered' g = by_met m
        where
          by_met : Meets t roots count room room' i n r known → Known t roots count plen room' (done ++ f ∷ []) layered'
          by_met (inl (z, o, s)) =
              let empty : v.size ≡ 0 = size_is ∙ z in
              let same_long : layered' ≡ layered = g ∙ rw (eq-eqb known 0 o, empty_short n plen z) refl in
              met room' layered' (ap length s) (empty_agrees vs v c.agree empty) (same_long ∙ c.counted ∙ sym (empty_layers vs v c.agree empty plen))
              (λ j l. ap (λ (x : List ℕ). size_noted t (get_or x j 0)) s ∙ c.noted j l ∙ sym (empty_known vs v c.agree empty (cut t (get_or roots j 0) 32)))
          by_met (inr (z, (j, l, q, o, s))) =
              let full : (v.size ≡ 0 → ⊥) = λ x. z (sym size_is ∙ x) in
              let is : known ≡ length_known v.root vs = o ∙ c.noted j l ∙ ap (λ (x : List ℕ). length_known x vs) (q ∙ sym (root_is z)) in
              let d' : differs known v.size ≡ false = rw size_is d in
              let here : cut t (get_or roots j 0) 32 ≡ v.root = q ∙ sym (root_is z) in
              let inside : j < length room = (let x = c.sized in omega arith) in
              met room' layered' (ap length s ∙ length-set room j i) (full_agrees vs v c.agree full known is d')
              (g ∙ ap (λ (x : ℕ). cond (eqb known 0 && has_layer x plen) (layered + 1) layered) (sym size_is) ∙ ap (λ (x : ℕ). cond (eqb known 0 && has_layer v.size plen) (x + 1) x) c.counted ∙ sym (full_layers vs v c.agree full known is d' plen))
              (λ j' l'. ap (λ (x : List ℕ). size_noted t (get_or x j' 0)) s ∙ by_place full is d' j here inside l j' l' (ℕ_discrete j' j))
            where
              by_place : (full : v.size ≡ 0 → ⊥) (is : known ≡ length_known v.root vs) (d' : differs known v.size ≡ false) (j : ℕ) → cut t (get_or roots j 0) 32 ≡ v.root → j < length room → j < count → (j' : ℕ) → j' < count → Dec (j' ≡ j)
                  → size_noted t (get_or (set room j i) j' 0) ≡ length_known (cut t (get_or roots j' 0) 32) (vs ++ v ∷ [])
              by_place full is d' j here inside l j' l' (yes x) =
                  ap (λ (y : ℕ). size_noted t (get_or (set room j i) y 0)) x ∙ ap (size_noted t) (get_or-set_same room j i 0 inside) ∙ noted_here ∙ sym size_is ∙ sym (full_known vs v c.agree full known is d')
                  ∙ ap (λ (y : List ℕ). length_known y (vs ++ v ∷ [])) (sym here ∙ ap (λ (y : ℕ). cut t (get_or roots y 0) 32) (sym x))
              by_place full is d' j here inside l j' l' (no x) =
                  ap (size_noted t) (get_or-set_other room j j' i 0 x) ∙ c.noted j' l'
                  ∙ sym (others_known vs v c.agree full known is d' (cut t (get_or roots j' 0) 32) (λ y. x (ascending_one t roots count rooted.ascending j' j l' l (y ∙ sym here))))

-- a layer more at most
pub one_at_most : (known n plen layered layered' i k : ℕ) → layered' ≡ cond (eqb known 0 && has_layer n plen) (layered + 1) layered → layered ≤ i → i < k → layered' ≤ k
one_at_most known n plen layered layered' i k e l g = by_test (eqb known 0 && has_layer n plen) e
  where
    by_test : (x : Bool) → layered' ≡ cond x (layered + 1) layered → layered' ≤ k
    by_test true q = omega arith
    by_test false q = omega arith

-- ---- files of a directory that is right

no_files : (x : Files) (gs : List Listed) (k : ℕ) → x ≡ wrong → x ≡ files gs k → ⊥
no_files x gs k e q = let z : ◌≡◌ {A = ℕ} 0 1 = cc in omega arith

one_list : (x : Files) (fs gs : List Listed) (j k : ℕ) → x ≡ files fs j → x ≡ files gs k → (fs ≡ gs) × (j ≡ k)
one_list x fs gs j k e q = let a : fs ≡ gs = cc in let b : j ≡ k = cc in (a, b)

not_wrong : (x : Files) → (x ≡ wrong → ⊥) → (gs : List Listed) × (k : ℕ) × (x ≡ files gs k)
not_wrong wrong h = absurd (h refl)
not_wrong (files gs k) h = (gs, k, refl)

-- files that are passed stand in front
in_front : (fs gs : List Listed) (k : ℕ) (x : Files) → after fs x ≡ files gs k → (hs : List Listed) × (gs ≡ fs ++ hs)
in_front fs gs k wrong e = absurd (no_files wrong gs k refl e)
in_front fs gs k (files hs j) e = (hs, sym (one_list (files (fs ++ hs) j) (fs ++ hs) gs j k refl e).0)

stand_both : (t roots : List ℕ) (count : ℕ) (xs ys : List Listed) → RootsStand t roots count (xs ++ ys) → RootsStand t roots count xs × RootsStand t roots count ys
unfolding RootsStand
stand_both t roots count [] ys h = (tt, h)
stand_both t roots count (x ∷ xs) ys h = let r = stand_both t roots count xs ys h.1 in ((h.0, r.0), r.1)

stand_one : (t roots : List ℕ) (count : ℕ) (f : Listed) (fs : List Listed) → RootsStand t roots count (f ∷ fs) → (f.size ≡ 0 → ⊥) → Stands t roots count (cut t f.root 32)
unfolding RootsStand
stand_one t roots count f fs h = h.0

-- lengths that don't agree in front don't agree
front_differs : (t : List ℕ) (xs ys : List Listed) → lengths_agree (read_files t xs) ≡ false → lengths_agree (read_files t (xs ++ ys)) ≡ false
front_differs t xs ys e = by_test (lengths_agree (read_files t (xs ++ ys))) refl
  where
    by_test : (x : Bool) → lengths_agree (read_files t (xs ++ ys)) ≡ x → x ≡ false
    by_test true q = absurd (false≢true (sym e ∙ agree_front (read_files t xs) (read_files t ys) (ap lengths_agree (sym (map-append (read_file t) xs ys)) ∙ q)))
    by_test false q = refl

-- ---- how far a directory has come

-- of the directory that was ahead the files fs are met, and i is next
pub record Going (t roots : List ℕ) (count plen at levels : ℕ) (room₀ : List ℕ) (before : ℕ) (w : Ahead t roots count plen at levels room₀ before) (room : List ℕ) (below i layered : ℕ) : Type 0 where
  pub fs : List Listed
  pub passed : FilesPassed t (files_below levels t at w.path) below w.path i fs
  pub known : Known t roots count plen room (w.done ++ fs) layered
  pub some : 0 < i
  pub few : layered ≤ i

module _ {t roots : List ℕ} {count plen at levels : ℕ} {room₀ : List ℕ} {before : ℕ} (w : Ahead t roots count plen at levels room₀ before) where
  -- it is right, so there are levels left
  pub levels_left : levels ≡ 0 → ⊥
  levels_left z = no_files (files_below levels t at w.path) w.inside w.end (no_levels levels t at w.path z) w.is

  pub going_start : Going t roots count plen at levels room₀ before w room₀ (levels - 1) at before
  going_start =
      record {
        fs = [];
        passed = passed_none t levels at w.path levels_left;
        known = subst (λ (l : List Listed). Known t roots count plen room₀ l before) (sym (append-nil w.done)) w.known;
        some = w.some;
        few = w.few;
      }

  module _ {room : List ℕ} {below i layered : ℕ} (g : Going t roots count plen at levels room₀ before w room below i layered) where
    abbrev whole : Files
    whole = files_below levels t at w.path

    never : whole ≡ wrong → ⊥
    never e = no_files whole w.inside w.end e w.is

    pub going_bad : token_at t i ≡ None → ⊥
    going_bad e = never (passed_bad t whole below w.path i g.fs g.passed e)

    pub going_end : length t ≤ i → ⊥
    going_end h = never (passed_end t whole below w.path i g.fs g.passed h)

    -- files behind those that are met
    behind : (fs : List Listed) (k : ℕ) → FilesPassed t whole below w.path k fs → (hs : List Listed) × (w.inside ≡ fs ++ hs)
    behind fs k p = in_front fs w.inside w.end (files_from (files_below below t) p.steps t k w.path) (sym p.rest ∙ w.is)

    module _ (h : i < length t) where
      pub going_closed : token_at t i ≡ closed_token → Compares t roots count plen (w.done ++ w.inside) w.end room (past (i + 1) layered)
      going_closed e =
          let q = one_list whole g.fs w.inside (i + 1) w.end (passed_closed t whole below w.path i g.fs g.passed h e) w.is in
          let y = g.few in
          (q.1, omega arith, subst (λ (l : List Listed). Known t roots count plen room (w.done ++ l) layered) q.0 g.known)

      module _ {a b n r k : ℕ} (e : token_at t i ≡ leaf_token a b n r k) where
        abbrev leaf : Listed
        leaf = listed_as n r (down w.path a b)

        next : FilesPassed t whole below w.path k (g.fs ++ leaf ∷ [])
        next = passed_file t whole below w.path i g.fs g.passed h a b n r k e

        abbrev rest : List Listed
        rest = (behind (g.fs ++ leaf ∷ []) k next).0

        all : w.inside ≡ g.fs ++ leaf ∷ rest
        all = (behind (g.fs ++ leaf ∷ []) k next).1 ∙ append_assoc g.fs (leaf ∷ []) rest

        -- its root is among those that are searched
        pub file_stands : (n ≡ 0 → ⊥) → Stands t roots count (cut t r 32)
        file_stands = stand_one t roots count leaf rest (stand_both t roots count g.fs (leaf ∷ rest) (subst (RootsStand t roots count) all w.stand)).1

        module _ (rooted : Rooted t roots count) (room' : List ℕ) (known : ℕ) (m : Meets t roots count room room' i n r known) where
          pub going_differs : differs known n ≡ true → lengths_agree (read_files t (w.done ++ w.inside)) ≡ false
          going_differs d =
              ap (λ (l : List Listed). lengths_agree (read_files t l)) (ap (λ (l : List Listed). w.done ++ l) all ∙ sym (append_assoc w.done g.fs (leaf ∷ rest)))
              ∙ known_differs t roots count plen rooted room (w.done ++ g.fs) layered g.known i a b n r k w.path g.some e room' known m d rest

          pub going_file : differs known n ≡ false → (layered' : ℕ) → layered' ≡ cond (eqb known 0 && has_layer n plen) (layered + 1) layered
              → Going t roots count plen at levels room₀ before w room' below k layered'
          going_file d layered' q =
              let x = (leaf_ends t i a b n r k e).0 in
              let y = g.some in
              record {
                fs = g.fs ++ leaf ∷ [];
                passed = next;
                known = subst (λ (l : List Listed). Known t roots count plen room' l layered') (append_assoc w.done g.fs (leaf ∷ []))
                    (known_file t roots count plen rooted room (w.done ++ g.fs) layered g.known i a b n r k w.path g.some e room' known m d layered' q);
                some = omega arith;
                few = one_at_most known n plen layered layered' i k q g.few x;
              }

      module _ {a b : ℕ} (e : token_at t i ≡ opened_token a b) where
        pub below_is : (gs : List Listed) × (k : ℕ) × (files_below below t (b + 1) (down w.path a b) ≡ files gs k)
        below_is = not_wrong (files_below below t (b + 1) (down w.path a b)) (λ q. never (passed_wrong t whole below w.path i g.fs g.passed h a b e q))

        abbrev gs : List Listed
        gs = below_is.0

        next_in : FilesPassed t whole below w.path below_is.1 (g.fs ++ gs)
        next_in = passed_directory t whole below w.path i g.fs g.passed h a b e gs below_is.1 below_is.2

        rest_in : (hs : List Listed) × (w.inside ≡ (g.fs ++ gs) ++ hs)
        rest_in = behind (g.fs ++ gs) below_is.1 next_in

        pub below_stand : RootsStand t roots count below_is.0
        below_stand = (stand_both t roots count g.fs gs (stand_both t roots count (g.fs ++ gs) rest_in.0 (subst (RootsStand t roots count) rest_in.1 w.stand)).0).1

        pub below_few : (0 < b + 1) × (layered ≤ b + 1)
        below_few = let x = (opened_ends t i a b e).0 in let y = g.few in (omega arith, omega arith)

        -- the directory inside is ahead
        abbrev pub inside_ahead : Ahead t roots count plen (b + 1) below room layered
        inside_ahead =
            record {
              path = down w.path a b;
              done = w.done ++ g.fs;
              inside = below_is.0;
              end = below_is.1;
              is = below_is.2;
              known = g.known;
              stand = below_stand;
              some = below_few.0;
              few = below_few.1;
            }

        pub inside_differs : lengths_agree (read_files t ((w.done ++ g.fs) ++ gs)) ≡ false → lengths_agree (read_files t (w.done ++ w.inside)) ≡ false
        inside_differs q =
            ap (λ (l : List Listed). lengths_agree (read_files t l))
            (ap (λ (l : List Listed). w.done ++ l) (rest_in.1 ∙ append_assoc g.fs gs rest_in.0) ∙ sym (append_assoc w.done g.fs (gs ++ rest_in.0)) ∙ sym (append_assoc (w.done ++ g.fs) gs rest_in.0))
            ∙ front_differs t ((w.done ++ g.fs) ++ gs) rest_in.0 q

        module _ (room' : List ℕ) (k layered' : ℕ) (q : Compares t roots count plen ((w.done ++ g.fs) ++ gs) below_is.1 room' (past k layered')) where
          pub inside_behind : (i < k) × (k ≤ length t)
          inside_behind = let x = inside_ends t whole below w.path i g.fs g.passed h a b e gs below_is.1 below_is.2 in rw q.0 x

          pub going_directory : Going t roots count plen at levels room₀ before w room' below k layered'
          going_directory =
              let x = inside_behind.0 in
              let y = g.some in
              record {
                fs = g.fs ++ gs;
                passed = subst (λ (j : ℕ). FilesPassed t whole below w.path j (g.fs ++ gs)) (sym q.0) next_in;
                known = subst (λ (l : List Listed). Known t roots count plen room' l layered') (append_assoc w.done g.fs gs) q.2;
                some = omega arith;
                few = q.1;
              }

-- ---- the whole tree

module _ (t roots : List ℕ) (count plen : ℕ) (rooted : Rooted t roots count) (e : right (files_in t) ≡ true) where
  some_there : (b : Bool) → ends_here (drop 1 t) ≡ b → b ≡ false
  unfolding right
  some_there true q = absurd (false≢true (sym (ap right (empty_tree t q)) ∙ e))
  some_there false q = refl

  same_files_lem : files_in t ≡ files_below max_elements t 1 []
  same_files_lem = tree_below t (some_there (ends_here (drop 1 t)) refl)

  right_list : (x : Files) → right x ≡ true → (k : ℕ) × (x ≡ files (listed x) k)
  unfolding right listed
  right_list wrong q = absurd (false≢true q)
  right_list (files gs k) q = (k, refl)

  pub tree_is : (k : ℕ) × (files_below max_elements t 1 [] ≡ files (listed (files_in t)) k)
  tree_is = let x = right_list (files_in t) e in (x.0, sym same_files_lem ∙ x.1)

  abbrev pub tree_ahead : (room : List ℕ) → count ≤ length room → ((j : ℕ) → j < count → get_or room j 0 ≡ 0) → Ahead t roots count plen 1 max_elements room 0
  tree_ahead room h z =
      record {
        path = [];
        done = [];
        inside = listed (files_in t);
        end = tree_is.0;
        is = tree_is.1;
        known = known_none t roots count plen room h z;
        stand = rooted.stand;
        some = omega arith;
        few = omega arith;
      }

  pub tree_agrees : (end k layered : ℕ) (room : List ℕ) → Compares t roots count plen (listed (files_in t)) end room (past k layered) → Some layered ≡ compared_of plen (read_files t (listed (files_in t)))
  unfolding compared_of
  tree_agrees end k layered room q = sym (rw q.2.agree (ap Some (sym q.2.counted)))

  pub tree_differs : lengths_agree (read_files t (listed (files_in t))) ≡ false → None ≡ compared_of plen (read_files t (listed (files_in t)))
  unfolding compared_of
  tree_differs q = sym (rw q refl)

-- ---- where the roots stand

-- each file's root is among those of all of them
pub roots_stand : (t roots : List ℕ) (count : ℕ) (fs : List Listed) → ((i : ℕ) → i < length (roots_of fs) → Stands t roots count (cut t (get_or (roots_of fs) i 0) 32)) → RootsStand t roots count fs
unfolding RootsStand roots_of
roots_stand t roots count [] h = tt
roots_stand t roots count (f ∷ fs) h = by_size (eqb f.size 0) refl h (roots_stand t roots count fs)
  where
    Each : List ℕ → Type 0
    Each ps = (i : ℕ) → i < length ps → Stands t roots count (cut t (get_or ps i 0) 32)

    by_size : (b : Bool) → eqb f.size 0 ≡ b → Each (cond b (roots_of fs) (f.root ∷ roots_of fs)) → (Each (roots_of fs) → RootsStand t roots count fs)
        → ((f.size ≡ 0 → ⊥) → Stands t roots count (cut t f.root 32)) × RootsStand t roots count fs
    by_size true e h ih = (λ z. absurd (z (eqb-true f.size 0 e)), ih h)
    by_size false e h ih = (λ z. h 0 (omega arith), ih (λ i l. h (suc i) (omega arith)))

long_roots_lem : (plen : ℕ) (t : List ℕ) (fs : List Listed) → length (long_roots plen (read_files t fs)) ≤ length (roots_of fs)
unfolding long_roots roots_of read_file
long_roots_lem plen t [] = omega arith
long_roots_lem plen t (f ∷ fs) = by_size (has_layer f.size plen) (eqb f.size 0) refl refl (long_roots_lem plen t fs)
  where
    by_size : (a b : Bool) → has_layer f.size plen ≡ a → eqb f.size 0 ≡ b → length (long_roots plen (read_files t fs)) ≤ length (roots_of fs)
        → length (cond a (root_read t f.size f.root ∷ long_roots plen (read_files t fs)) (long_roots plen (read_files t fs))) ≤ length (cond b (roots_of fs) (f.root ∷ roots_of fs))
    by_size true true p q later = absurd (long_full f.size plen p (eqb-true f.size 0 q))
    by_size true false p q later = omega arith
    by_size false true p q later = later
    by_size false false p q later = omega arith

-- no more layers than roots
pub layers_roots : (plen : ℕ) (t : List ℕ) (fs : List Listed) → layer_count plen (read_files t fs) ≤ length (roots_of fs)
unfolding layer_count
layers_roots plen t fs = let x = once_fewer (long_roots plen (read_files t fs)) in let y = long_roots_lem plen t fs in omega arith

-- File n found by a walk that keeps the path.
-- Assumes nothing.
use Rattle.std.specs.Prelude.{◌≡◌, true, ℕ, zero, suc, ◌+◌, ◌-◌, ◌*◌, ◌≤◌, ◌<◌, length, take, get_or, List, [], ◌∷◌, ◌++◌, None}
use Rattle.std.proofs.Math.Path.{refl, ap}
use Rattle.std.proofs.Common.{sym, ◌∙◌, arith, length-append, take-take, take_at}
use Rattle.std.proofs.lemmas.Bool.{false≢true}
use Rattle.std.proofs.Math.Decide.{dec_lt}
use Rattle.limits.specs.Limits.{largest_torrent}
use Rattle.filetree.specs.Token.{token_at, opened_token, closed_token, leaf_token}
use Rattle.filetree.specs.TokenLaws.{leaf_ends, opened_ends, fewer_behind}
use Rattle.filetree.specs.Tree.{max_elements, Element, Listed, listed_as, down, Files, wrong, files, files_from, files_below, files_in, right, listed, file_number}
use Rattle.filetree.specs.TreeLaws.{tree_below, FilesPassed, passed_none, passed_bad, passed_end, passed_closed, passed_file, passed_wrong, passed_directory, same_files_lem, not_wrong, is_right, split}
use Rattle.filetree.specs.Path.{path_size, set_element, flat, Holds}
use Rattle.filetree.specs.PathLaws.{flat_length, flat_down, element_number, holds_length, holds_down, holds_element, set_length}
use Rattle.filetree.specs.FilesLaws.{FileRight, path_element, files_right, number_right, number_behind, number_before}
use Rattle.layers.specs.JudgeLaws.{tree_some}
use Rattle.numbers.specs.Numbers.{no_such_part}
use Rattle.torrent.specs.Torrent.{PartRead, no_part_read, element_in}
use Rattle.torrent.specs.Find.{sought_file, Found, Finds, FoundFile, PathGiven, ElementRead}
use Rattle.torrent.specs.declared.one.SoughtFile.{SoughtFile}
use Rattle.torrent.specs.declared.one.Search.{Search}
use Rattle.torrent.specs.declared.one.Search.TheVariants.{Here, Past, WrongTree}

pub element_none : (base : ℕ) (p : List Element) (k : ℕ) → length p ≤ k → element_in base p k ≡ no_part_read no_such_part
unfolding element_in
element_none base [] k h = refl
element_none base (e ∷ es) zero h = absurd (omega arith)
element_none base (e ∷ es) (suc k) h = element_none base es k (omega arith)

element_is : (base : ℕ) (p : List Element) (k : ℕ) → k < length p → element_in base p k ≡ record { number = 0; start = base + (element_number p k).start; size = (element_number p k).end - (element_number p k).start }
unfolding element_in element_number
element_is base [] k h = absurd (omega arith)
element_is base (e ∷ es) zero h = refl
element_is base (e ∷ es) (suc k) h = element_is base es k (omega arith)

pub element_here : (path : List ℕ) (elements base k : ℕ) → k < elements → ElementRead path elements base k (record { number = 0; start = base + get_or path (2 * k) 0; size = get_or path (2 * k + 1) 0 - get_or path (2 * k) 0 })
element_here path elements base k h p w l = let y = holds_element path elements p w k h in rw (y.0, y.1) (sym (element_is base p k (rw l at h)))

pub element_past : (path : List ℕ) (elements base k : ℕ) → elements ≤ k → ElementRead path elements base k (no_part_read no_such_part)
element_past path elements base k h p w l = sym (element_none base p k (rw l at h))

-- the path to a directory is in the path to what is inside
pub holds_up : (path : List ℕ) (d : ℕ) (p : List Element) (a b : ℕ) → d ≡ length p → Holds path (d + 1) (down p a b) → Holds path d p
holds_up path d p a b e w =
    sym (take-take (2 * d) (2 * (d + 1)) path (omega arith)) ∙ ap (take (2 * d)) (w ∙ flat_down p a b) ∙ take_at (flat p) (a ∷ b ∷ []) (2 * d) (flat_length p ∙ ap (λ (z : ℕ). 2 * z) (sym e))

same_place : (k j m l : ℕ) → Past k m ≡ Past j l → (k ≡ j) × (m ≡ l)
same_place k j m l e = (cc, cc)

same_here : (v u : SoughtFile) → Here v ≡ Here u → v ≡ u
same_here v u e = cc

-- ---- how far the search has come

pub record FindAt (t : List ℕ) (at levels n : ℕ) (path₀ path : List ℕ) (below i left : ℕ) : Type 0 where
  pub few : levels ≤ max_elements
  pub some : levels ≡ 0 → ⊥
  pub deeper : below ≡ levels - 1
  pub in_order : at ≤ i
  pub sized : length path ≡ path_size
  pub kept : length path ≡ length path₀
  pub passed : (p : List Element) → Holds path₀ (max_elements - levels) p → right (files_below levels t at p) ≡ true
      → (fs : List Listed) × FilesPassed t (files_below levels t at p) below p i fs × (n ≡ length fs + left) × Holds path (max_elements - levels) p

pub find_start : (t : List ℕ) (at levels n : ℕ) (path : List ℕ) → levels ≤ max_elements → (levels ≡ 0 → ⊥) → length path ≡ path_size
    → FindAt t at levels n path path (levels - 1) at n
find_start t at levels n path f h l =
    record {
      few = f;
      some = h;
      deeper = refl;
      in_order = omega arith;
      sized = l;
      kept = refl;
      passed = λ p w e. ([], passed_none t levels at p h, omega arith, w);
    }

pub right_is : (x : Files) → right x ≡ true → (fs : List Listed) × (k : ℕ) × (x ≡ files fs k)
unfolding right
right_is wrong e = absurd (false≢true e)
right_is (files fs k) e = (fs, k, refl)

module _ (t : List ℕ) (at levels n : ℕ) (path₀ : List ℕ) where
  -- a directory that is wrong
  pub finds_wrong : (path : List ℕ) → ((p : List Element) → Holds path₀ (max_elements - levels) p → right (files_below levels t at p) ≡ true → files_below levels t at p ≡ wrong) → Finds t at levels n path₀ path WrongTree
  finds_wrong path h =
      record { ends = tt; finds = λ p w fs k e. let r = is_right (files_below levels t at p) fs k e in not_wrong (files_below levels t at p) r (h p w r) }

module _ {t : List ℕ} {at levels n : ℕ} {path₀ path : List ℕ} {below i left : ℕ} (w : FindAt t at levels n path₀ path below i left) where
  abbrev whole : List Element → Files
  whole p = files_below levels t at p

  abbrev depth : ℕ
  depth = max_elements - levels

  -- what is asked for an element of the path
  pub element_asked : (length path ≡ path_size) × (depth < max_elements)
  element_asked = (w.sized, omega arith)

  -- and for the search inside, with a level less
  pub inside_asked : (path' : List ℕ) → length path' ≡ length path → {u : ℕ} → levels ≡ u → (below < u) × ((below ≤ max_elements) × (length path' ≡ path_size))
  inside_asked path' l e = (omega arith, (omega arith, l ∙ w.sized))

  pub finds_bad : token_at t i ≡ None → Finds t at levels n path₀ path WrongTree
  finds_bad e = finds_wrong t at levels n path₀ path (λ p h r. let x = w.passed p h r in passed_bad t (whole p) below p i x.0 x.1 e)

  pub finds_end : length t ≤ i → Finds t at levels n path₀ path WrongTree
  finds_end l = finds_wrong t at levels n path₀ path (λ p h r. let x = w.passed p h r in passed_end t (whole p) below p i x.0 x.1 l)

  module _ (h : i < length t) where
    pub finds_closed : token_at t i ≡ closed_token → Finds t at levels n path₀ path (Past (i + 1) left)
    finds_closed e = record { ends = (let x = w.in_order in omega arith, omega arith); finds = go }
      where
        go : (p : List Element) → Holds path₀ depth p → (fs : List Listed) (k : ℕ) → whole p ≡ files fs k → Found fs k n p depth path (Past (i + 1) left)
        go p o fs k q =
            let x = w.passed p o (is_right (whole p) fs k q) in
            let y = same_files_lem x.0 fs (i + 1) k (sym (passed_closed t (whole p) below p i x.0 x.1 h e) ∙ q) in
            let z : n ≡ length fs + left = x.2 ∙ ap (λ (u : List Listed). length u + left) y.0 in
            let m : left ≡ n - length fs = omega arith in
            ((λ g. let u : ⊥ = omega arith in absurd u), λ g. (rw (y.1, sym m) refl, x.3))

    module _ {a b m r k : ℕ} (e : token_at t i ≡ leaf_token a b m r k) where
      pub file_ends : (i < k) × (k ≤ length t)
      file_ends = let x = leaf_ends t i a b m r k e in (x.0, x.1)

      -- this file is the one
      pub finds_here : left ≡ 0 → {path' : List ℕ} → path' ≡ set_element path depth a b
          → Finds t at levels n path₀ path' (Here (record { length = m; root = r; elements = depth + 1 }))
      finds_here z {path'} ep = record { ends = tt; finds = go }
        where
          go : (p : List Element) → Holds path₀ depth p → (fs : List Listed) (j : ℕ) → whole p ≡ files fs j → Found fs j n p depth path' (Here (record { length = m; root = r; elements = depth + 1 }))
          go p o fs j q =
              let x = w.passed p o (is_right (whole p) fs j q) in
              let y = passed_file t (whole p) below p i x.0 x.1 h a b m r k e in
              let f = listed_as m r (down p a b) in
              let s = split (x.0 ++ f ∷ []) (files_from (files_below below t) y.steps t k p) fs j (sym y.rest ∙ q) in
              let one : length (x.0 ++ f ∷ []) ≡ length x.0 + 1 = length-append x.0 (f ∷ []) in
              let u : n ≡ length x.0 + 0 = x.2 ∙ ap (λ (v : ℕ). length x.0 + v) z in
              let is : file_number fs n ≡ f = rw (s.1, u) (number_before (x.0 ++ f ∷ []) s.0 (length x.0 + 0) (omega arith) ∙ number_behind x.0 (f ∷ []) 0 ∙ first f) in
              let long : length fs ≡ length x.0 + 1 + length s.0 = ap length s.1 ∙ length-append (x.0 ++ f ∷ []) s.0 ∙ ap (λ (v : ℕ). v + length s.0) one in
              let d : depth ≡ length p = holds_length path depth p w.sized x.3 (omega arith) in
              let l : length (down p a b) ≡ depth + 1 = length-append p (record { start = a; end = b } ∷ []) ∙ ap (λ (v : ℕ). v + 1) (sym d) in
              let hold : Holds path' (depth + 1) (down p a b) = rw ep (holds_down path depth p w.sized x.3 a b (omega arith)) in
              ((λ g. rw is (rw l (refl, hold))), (λ g. let v : ⊥ = omega arith in absurd v))
            where
              first : (f : Listed) → file_number (f ∷ []) 0 ≡ f
              first f = unfold file_number in refl

      -- it is not
      pub find_next : (left ≡ 0 → ⊥) → FindAt t at levels n path₀ path below k (left - 1)
      find_next z =
          record {
            few = w.few;
            some = w.some;
            deeper = w.deeper;
            in_order = let x = w.in_order in let y = file_ends.0 in omega arith;
            sized = w.sized;
            kept = w.kept;
            passed = λ p o q. let x = w.passed p o q in let u = x.2 in
                (x.0 ++ listed_as m r (down p a b) ∷ [], passed_file t (whole p) below p i x.0 x.1 h a b m r k e, omega (arith, length-append x.0 (listed_as m r (down p a b) ∷ [])), x.3);
          }

    module _ {a b : ℕ} (e : token_at t i ≡ opened_token a b) {path' : List ℕ} (ep : path' ≡ set_element path depth a b) where
      -- the path to the directory inside
      held : (p : List Element) → Holds path depth p → Holds path' (max_elements - below) (down p a b)
      held p o = let d : max_elements - below ≡ depth + 1 = omega arith in rw (d, ep) (holds_down path depth p w.sized o a b (omega arith))

      -- it is right if the whole is
      inside_right : (p : List Element) → Holds path₀ depth p → right (whole p) ≡ true → (gs : List Listed) × (j : ℕ) × (files_below below t (b + 1) (down p a b) ≡ files gs j)
      inside_right p o q = by_files (files_below below t (b + 1) (down p a b)) refl
        where
          by_files : (x : Files) → files_below below t (b + 1) (down p a b) ≡ x → (gs : List Listed) × (j : ℕ) × (files_below below t (b + 1) (down p a b) ≡ files gs j)
          by_files wrong u = let x = w.passed p o q in not_wrong (whole p) q (passed_wrong t (whole p) below p i x.0 x.1 h a b e u)
          by_files (files gs j) u = (gs, j, u)

      module _ {path'' : List ℕ} where
        -- what the search inside says, where the whole is right
        inside_finds : (r : Search) → Finds t (b + 1) below left path' path'' r → (p : List Element) (o : Holds path₀ depth p) (q : right (whole p) ≡ true)
            → Found (inside_right p o q).0 (inside_right p o q).1 left (down p a b) (max_elements - below) path'' r
        inside_finds r x p o q = let u = inside_right p o q in x.finds (down p a b) (held p (w.passed p o q).3) u.0 u.1 u.2

        pub finds_inside : Finds t (b + 1) below left path' path'' WrongTree → Finds t at levels n path₀ path'' WrongTree
        finds_inside x = finds_wrong t at levels n path₀ path'' (λ p o q. never p o q (dec_lt left (length (inside_right p o q).0)))
          where
            never : (p : List Element) (o : Holds path₀ depth p) (q : right (whole p) ≡ true) → Dec (left < length (inside_right p o q).0) → whole p ≡ wrong
            never p o q (yes g) = let u = ((inside_finds WrongTree x p o q).0 g).0 in let z : ◌≡◌ {A = ℕ} 0 1 = cc in absurd (omega arith)
            never p o q (no g) = let u = ((inside_finds WrongTree x p o q).1 (omega arith)).0 in let z : ◌≡◌ {A = ℕ} 0 1 = cc in absurd (omega arith)

        pub finds_found : {v : SoughtFile} → Finds t (b + 1) below left path' path'' (Here v) → Finds t at levels n path₀ path'' (Here v)
        finds_found {v} x = record { ends = tt; finds = go }
          where
            go : (p : List Element) → Holds path₀ depth p → (fs : List Listed) (k : ℕ) → whole p ≡ files fs k → Found fs k n p depth path'' (Here v)
            go p o fs k q = by_number (dec_lt left (length gs))
              where
                rt : right (whole p) ≡ true
                rt = is_right (whole p) fs k q

                xs : List Listed
                xs = (w.passed p o rt).0

                gs : List Listed
                gs = (inside_right p o rt).0

                found : Found gs (inside_right p o rt).1 left (down p a b) (max_elements - below) path'' (Here v)
                found = inside_finds (Here v) x p o rt

                z : FilesPassed t (whole p) below p (inside_right p o rt).1 (xs ++ gs)
                z = passed_directory t (whole p) below p i xs (w.passed p o rt).1 h a b e gs (inside_right p o rt).1 (inside_right p o rt).2

                s : (ys : List Listed) × (fs ≡ (xs ++ gs) ++ ys)
                s = split (xs ++ gs) (files_from (files_below below t) z.steps t (inside_right p o rt).1 p) fs k (sym z.rest ∙ q)

                place : n ≡ length xs + left
                place = (w.passed p o rt).2

                both : length (xs ++ gs) ≡ length xs + length gs
                both = length-append xs gs

                long : length fs ≡ length (xs ++ gs) + length s.0
                long = ap length s.1 ∙ length-append (xs ++ gs) s.0

                is : left < length gs → file_number fs n ≡ file_number gs left
                is g = ap (λ (z : List Listed). file_number z n) s.1 ∙ ap (file_number ((xs ++ gs) ++ s.0)) place ∙ number_before (xs ++ gs) s.0 (length xs + left) (omega (arith, both)) ∙ number_behind xs gs left

                by_number : Dec (left < length gs) → Found fs k n p depth path'' (Here v)
                by_number (yes g) = ((λ l. rw (is g) (found.0 g)), λ l. let u : ⊥ = omega (arith, both, long, place) in absurd u)
                by_number (no g) = let u = (found.1 (omega arith)).0 in let y : ◌≡◌ {A = ℕ} 0 1 = cc in absurd (omega arith)

        -- the walk goes on behind the directory
        inside_behind : {k m : ℕ} → Finds t (b + 1) below left path' path'' (Past k m) → i < k
        inside_behind x = let y = x.ends.0 in let z = (opened_ends t i a b e).0 in omega arith

        pub inside_fewer : {k m : ℕ} → Finds t (b + 1) below left path' path'' (Past k m) → length t - k < length t - i
        inside_fewer {k} x = fewer_behind (length t) i k (inside_behind x) x.ends.1

        pub find_past : {k m : ℕ} → Finds t (b + 1) below left path' path'' (Past k m) → length path'' ≡ length path' → FindAt t at levels n path₀ path'' below k m
        find_past {k} {m} x l =
            record {
              few = w.few;
              some = w.some;
              deeper = w.deeper;
              in_order = let y = inside_behind x in let z = w.in_order in omega arith;
              sized = l ∙ ap length ep ∙ set_length path depth a b ∙ w.sized;
              kept = l ∙ ap length ep ∙ set_length path depth a b ∙ w.kept;
              passed = go;
            }
          where
            go : (p : List Element) → Holds path₀ depth p → right (whole p) ≡ true
                → (fs : List Listed) × FilesPassed t (whole p) below p k fs × (n ≡ length fs + m) × Holds path'' depth p
            go p o q = by_number (dec_lt left (length gs))
              where
                xs : List Listed
                xs = (w.passed p o q).0

                gs : List Listed
                gs = (inside_right p o q).0

                found : Found gs (inside_right p o q).1 left (down p a b) (max_elements - below) path'' (Past k m)
                found = inside_finds (Past k m) x p o q

                place : n ≡ length xs + left
                place = (w.passed p o q).2

                by_number : Dec (left < length gs) → (fs : List Listed) × FilesPassed t (whole p) below p k fs × (n ≡ length fs + m) × Holds path'' depth p
                by_number (yes g) = let u = (found.0 g).0 in let y : ◌≡◌ {A = ℕ} 0 1 = cc in absurd (omega arith)
                by_number (no g) =
                    let f = found.1 (omega arith) in
                    let u = same_place k (inside_right p o q).1 m (left - length gs) f.0 in
                    let inner : files_below below t (b + 1) (down p a b) ≡ files gs k = (inside_right p o q).2 ∙ ap (files gs) (sym u.0) in
                    let rest = u.1 in
                    let d : max_elements - below ≡ depth + 1 = omega arith in
                    (xs ++ gs, passed_directory t (whole p) below p i xs (w.passed p o q).1 h a b e gs k inner, omega (arith, length-append xs gs, place), holds_up path'' depth p a b (holds_length path depth p w.sized (w.passed p o q).3 (omega arith)) (rw d at f.1))

-- ---- the whole tree

module _ (t : List ℕ) (n : ℕ) (path₀ path : List ℕ) (e : right (files_in t) ≡ true) (h : n < length (listed (files_in t))) where
  found_top : (r : Search) → Finds t 1 max_elements n path₀ path r → (r ≡ Here (sought_file (file_number (listed (files_in t)) n))) × Holds path (length (file_number (listed (files_in t)) n).path) (file_number (listed (files_in t)) n).path
  unfolding listed flat
  found_top r x =
      let same : files_in t ≡ files_below max_elements t 1 [] = tree_below t (tree_some t e) in
      let y = right_is (files_in t) e in
      let z = x.finds [] refl y.0 y.1 (sym same ∙ y.2) in
      let l : listed (files_in t) ≡ y.0 = ap listed y.2 in
      rw l (z.0 (rw l at h))

  pub tree_found : (v : SoughtFile) → Finds t 1 max_elements n path₀ path (Here v) → FoundFile path (file_number (listed (files_in t)) n) v
  tree_found v x = let y = found_top (Here v) x in record { place = same_here v (sought_file (file_number (listed (files_in t)) n)) y.0; holds = y.1 }

  pub never_past : {A : Type 0} (k m : ℕ) → Finds t 1 max_elements n path₀ path (Past k m) → A
  never_past k m x = let y = (found_top (Past k m) x).0 in let z : ◌≡◌ {A = ℕ} 0 1 = cc in absurd (omega arith)

  pub never_wrong : {A : Type 0} → Finds t 1 max_elements n path₀ path WrongTree → A
  never_wrong x = let y = (found_top WrongTree x).0 in let z : ◌≡◌ {A = ℕ} 0 1 = cc in absurd (omega arith)

-- ---- what is answered of a file that was found

module _ (t : List ℕ) (n : ℕ) (h : n < length (listed (files_in t))) (path : List ℕ) (v : SoughtFile) (x : FoundFile path (file_number (listed (files_in t)) n) v) where
  abbrev f : Listed
  f = file_number (listed (files_in t)) n

  file_right_lem : FileRight (length t) f
  file_right_lem = number_right (length t) (listed (files_in t)) n (files_right t) h

  pub found_root : (v.length ≡ 0 → ⊥) → v.root + 32 ≤ length t
  found_root = rw x.place file_right_lem.root_within

  pub found_path : length path ≡ path_size → (base : ℕ) → base + length t ≤ largest_torrent → PathGiven path v.elements base
  found_path l base g =
      rw x.place
      (record {
        sized = l;
        few = file_right_lem.few;
        forward = λ j k. let y = holds_element path (length f.path) f.path x.holds j k in rw (y.0, y.1) (path_element (length t) f.path file_right_lem.path_within j).0;
        inside = λ j k. let y = holds_element path (length f.path) f.path x.holds j k in let z = (path_element (length t) f.path file_right_lem.path_within j).1 in rw y.1 (omega arith);
      })

  pub found_element : (base k : ℕ) (r : PartRead) → ElementRead path v.elements base k r → r ≡ element_in base f.path k
  found_element base k r q = q f.path (rw x.place x.holds) (rw x.place refl)

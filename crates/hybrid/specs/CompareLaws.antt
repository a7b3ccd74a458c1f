-- How far the walk over a directory has come beside `files`, and how each token of the tree takes it on.
-- Assumes nothing.
use Rattle.hybrid.specs.declared.EntryRead.{EntryRead}
use Rattle.hybrid.specs.declared.Malformed.{Malformed}
use Rattle.hybrid.specs.Compare.{past}
use Rattle.std.specs.Prelude.{◌≡◌, Bool, true, false, cond, ◌&&◌, List, [], ◌∷◌, ◌++◌, ℕ, zero, suc, ◌+◌, ◌-◌, ◌*◌, ◌≤◌, ◌<◌, length, take, set, eqb, Option, Some, None, Result, unwrap_or}
use Rattle.std.proofs.Math.Path.{refl, ap}
use Rattle.std.proofs.Common.{sym, ◌∙◌, arith, length-append, eq-eqb, ne_eqb}
use Rattle.std.proofs.lemmas.Bool.{false≢true}
use Rattle.std.proofs.lemmas.List.{map-append, take-set-le}
use Rattle.bencode.specs.Grammar.{list, Items}
use Rattle.filetree.specs.Token.{token_at, opened_token, closed_token, leaf_token}
use Rattle.filetree.specs.TokenLaws.{leaf_ends, opened_ends}
use Rattle.filetree.specs.Tree.{max_elements, Element, Listed, listed_as, down, Files, wrong, files, files_from, files_below, right}
use Rattle.filetree.specs.TreeLaws.{FilesPassed, passed_none, passed_bad, passed_end, passed_closed, passed_file, passed_wrong, passed_directory, split, same_files_lem, not_wrong, is_right}
use Rattle.filetree.specs.Path.{path_size, set_element, Holds}
use Rattle.filetree.specs.PathLaws.{holds_length, holds_down, set_length}
use Rattle.filetree.specs.Reading.{elements, read_file, read_files}
use Rattle.meaning.specs.Torrent.{File}
use Rattle.halves.specs.V1Half.{V1Entry, names_full, names_of, same_path}
use Rattle.hybrid.specs.EntryLaws.{same_entry}
use Rattle.hybrid.specs.Entry.{StandsAt, PathStands, entry_read}
use Rattle.hybrid.specs.Meet.{Next, no_file, file, next_file, Left, differ, left, after_next, on_left, after_files}
use Rattle.hybrid.specs.MeetLaws.{after_append}
use Rattle.hybrid.specs.Ahead.{Ahead, NextIs, NextReads, AllInside}
use Rattle.hybrid.specs.PathLaws.{Kept}
use Rattle.hybrid.specs.Compare.{MetIs, OutcomeIs, Compares}
use Rattle.hybrid.specs.declared.Compared.{Compared}

-- the same outcome has the same parts
same_past : (j k d e : ℕ) → past j d ≡ past k e → (j ≡ k) × (d ≡ e)
same_past j k d e q =
    let the : Option Compared → Compared = λ w. unwrap_or w (record { next = j; cursor = d }) in
    (ap (λ w. (the w).next) q, ap (λ w. (the w).cursor) q)

-- ---- one file

module _ (v : List ℕ) (c : ℕ) (us : Items) (a : Ahead v c us) (f : File) where
  -- no file is left
  pub met_none : (r : Result (Option EntryRead) Malformed) → ((t : Bool) (n p k : ℕ) → r ≡ entry_read t n p k → ⊥) → NextReads v c r → MetIs v (after_next (next_file us) f) None
  met_none r never s = by_next (next_file us) (s.next us a)
    where
      by_next : (x : Next) → NextIs v x r → MetIs v (after_next x f) None
      by_next no_file q = refl
      by_next (file e ws) q = absurd (never false e.size q.0 q.1 q.2)

  module _ (t : Bool) (n p k : ℕ) (s : NextReads v c (entry_read t n p k)) where
    the_file : (e : V1Entry) × (ws : Items) × (next_file us ≡ file e ws) × (n ≡ e.size) × PathStands v p e × (e.padding ≡ false) × Ahead v k ws
    the_file = by_next (next_file us) refl (s.next us a)
      where
        by_next : (x : Next) → next_file us ≡ x → NextIs v x (entry_read t n p k)
            → (e : V1Entry) × (ws : Items) × (next_file us ≡ file e ws) × (n ≡ e.size) × PathStands v p e × (e.padding ≡ false) × Ahead v k ws
        by_next no_file q i = let z : ◌≡◌ {A = ℕ} 0 1 = cc in absurd (omega arith)
        by_next (file e ws) q i =
            let o = same_entry t false n e.size p i.0 k i.1 i.2 in
            (e, ws, q, o.1, rw o.2 i.4, i.3, rw o.3 i.5)

    -- by its length, and then by its path
    by_tests : (x y : Bool) → eqb the_file.0.size f.size ≡ x → same_path the_file.0.path f.path ≡ y
        → (r : Option ℕ) → (x && y ≡ true → r ≡ Some k) → (x && y ≡ false → r ≡ None) → MetIs v (after_next (next_file us) f) r
    by_tests x y ex ey r hit miss =
        let m : after_next (next_file us) f ≡ cond (x && y) (left the_file.1) differ = ap (λ (z : Next). after_next z f) the_file.2 ∙ rw (ex, ey) refl in
        moved (after_next (next_file us) f) (cond (x && y) (left the_file.1) differ) m (by_both (x && y) hit miss)
      where
        moved : (l m : Left) → l ≡ m → MetIs v m r → MetIs v l r
        moved l m e h = rw e h

        by_both : (b : Bool) → (b ≡ true → r ≡ Some k) → (b ≡ false → r ≡ None) → MetIs v (cond b (left the_file.1) differ) r
        by_both true hit miss = (k, hit refl, the_file.6)
        by_both false hit miss = miss refl

    pub met_other_length : (n ≡ f.size → ⊥) → MetIs v (after_next (next_file us) f) None
    met_other_length h =
        by_tests false (same_path the_file.0.path f.path) (ne_eqb the_file.0.size f.size (λ e. h (the_file.3 ∙ e))) refl None (λ e. absurd (false≢true e)) (λ e. refl)

    pub met_by_path : n ≡ f.size → (b : Bool) → ((ws : Items) → StandsAt v p (list ws) → names_full ws ≡ true → b ≡ same_path (names_of ws) f.path)
        → (b ≡ true → MetIs v (after_next (next_file us) f) (Some k)) × (b ≡ false → MetIs v (after_next (next_file us) f) None)
    met_by_path e b h =
        let s = the_file.4 the_file.5 in
        let q : same_path the_file.0.path f.path ≡ b = ap (λ (x : List (List ℕ)). same_path x f.path) (sym s.3) ∙ sym (h s.0 s.1 s.2) in
        let z : eqb the_file.0.size f.size ≡ true = eq-eqb the_file.0.size f.size (sym the_file.3 ∙ e) in (
          λ t. by_tests true b z q (Some k) (λ x. refl) (λ x. absurd (false≢true (sym x ∙ t))),
          λ t. by_tests true b z q None (λ x. absurd (false≢true (sym t ∙ x))) (λ x. refl),
        )

-- ---- laws of files and their places

inside_down : (n : ℕ) (p : List Element) (a b : ℕ) → AllInside n p → a ≤ b → b ≤ n → AllInside n (down p a b)
unfolding AllInside
inside_down n [] a b i h g = (h, g, tt)
inside_down n (e ∷ es) a b i h g = (i.0, i.1, inside_down n es a b i.2 h g)

take_fewer : (m n : ℕ) (l : List ℕ) → m ≤ n → take m (take n l) ≡ take m l
take_fewer zero n l h = refl
take_fewer (suc m) zero l h = absurd (omega arith)
take_fewer (suc m) (suc n) [] h = refl
take_fewer (suc m) (suc n) (x ∷ xs) h = ap (λ (y : List ℕ). x ∷ y) (take_fewer m n xs (omega arith))

-- a directory inside ends behind its opening
pub inside_behind : {t v : List ℕ} (i : ℕ) {a b below d : ℕ} {path path' : List ℕ} {k d2 : ℕ} → token_at t i ≡ opened_token a b → Compares t v (b + 1) below d path path' (past k d2) → (i < k) × (k ≤ length t)
inside_behind {t} i {a} {b} e x = let y = x.ends.0 in let z = (opened_ends t i a b e).0 in (omega arith, x.ends.1)

-- ---- how far the walk has come

pub record CompareAt (t v : List ℕ) (at levels c : ℕ) (path₀ path : List ℕ) (below i d : ℕ) : Type 0 where
  pub in_order : at ≤ i
  pub sized : length path ≡ path_size
  pub kept : take (2 * (max_elements - levels)) path ≡ take (2 * (max_elements - levels)) path₀
  pub so_far : (p : List Element) → Holds path₀ (max_elements - levels) p → AllInside (length t) p → right (files_below levels t at p) ≡ true → (vs : Items) → Ahead v c vs
      → (fs : List Listed) × FilesPassed t (files_below levels t at p) below p i fs × (us : Items) × (after_files vs (read_files t fs) ≡ left us) × Ahead v d us

pub compare_begin : {t v : List ℕ} {at levels c : ℕ} {path : List ℕ} → (levels ≡ 0 → ⊥) → length path ≡ path_size → CompareAt t v at levels c path path (levels - 1) at c
compare_begin {t} {at} {levels} h l =
    record { in_order = omega arith; sized = l; kept = refl; so_far = λ p w a r vs b. ([], passed_none t levels at p h, vs, (unfold after_files in refl), b) }

module _ (t v : List ℕ) (at levels c : ℕ) (path₀ : List ℕ) where
  -- a directory that is wrong
  pub compares_wrong : (path : List ℕ) → take (2 * (max_elements - levels)) path ≡ take (2 * (max_elements - levels)) path₀
      → ((p : List Element) → Holds path₀ (max_elements - levels) p → AllInside (length t) p → right (files_below levels t at p) ≡ true → (vs : Items) → Ahead v c vs → files_below levels t at p ≡ wrong)
      → Compares t v at levels c path₀ path None
  compares_wrong path kp h =
      record { ends = tt; kept = kp; compares = λ p w a fs k e vs b. let r = is_right (files_below levels t at p) fs k e in not_wrong (files_below levels t at p) r (h p w a r vs b) }

  -- a file differs
  compares_differ : (path : List ℕ) → take (2 * (max_elements - levels)) path ≡ take (2 * (max_elements - levels)) path₀
      → ((p : List Element) → Holds path₀ (max_elements - levels) p → AllInside (length t) p → (fs : List Listed) (k : ℕ) → files_below levels t at p ≡ files fs k → (vs : Items) → Ahead v c vs
      → after_files vs (read_files t fs) ≡ differ)
      → Compares t v at levels c path₀ path None
  compares_differ path kp h = record { ends = tt; kept = kp; compares = λ p w a fs k e vs b. moved k (after_files vs (read_files t fs)) (h p w a fs k e vs b) }
    where
      moved : (k : ℕ) (l : Left) → l ≡ differ → OutcomeIs v k l None
      moved k l e = rw e refl

module _ {t v : List ℕ} {at levels c : ℕ} {path₀ path : List ℕ} {below i d : ℕ} (w : CompareAt t v at levels c path₀ path below i d) where
  abbrev whole : List Element → Files
  whole p = files_below levels t at p

  abbrev depth : ℕ
  depth = max_elements - levels

  pub compares_bad : token_at t i ≡ None → Compares t v at levels c path₀ path None
  compares_bad e = compares_wrong t v at levels c path₀ path w.kept (λ p h a r vs b. let x = w.so_far p h a r vs b in passed_bad t (whole p) below p i x.0 x.1 e)

  pub compares_end : length t ≤ i → Compares t v at levels c path₀ path None
  compares_end l = compares_wrong t v at levels c path₀ path w.kept (λ p h a r vs b. let x = w.so_far p h a r vs b in passed_end t (whole p) below p i x.0 x.1 l)

  -- an element behind the path leaves it
  still : (a b : ℕ) (path' : List ℕ) → path' ≡ set_element path depth a b → take (2 * depth) path' ≡ take (2 * depth) path₀
  still a b path' e =
      ap (take (2 * depth)) e ∙ take-set-le (2 * depth) (set path (2 * depth) a) (2 * depth + 1) b (omega arith) ∙ take-set-le (2 * depth) path (2 * depth) a (omega arith) ∙ w.kept

  module _ (h : i < length t) where
    pub compares_closed : token_at t i ≡ closed_token → Compares t v at levels c path₀ path (past (i + 1) d)
    compares_closed e = record { ends = (let x = w.in_order in omega arith, omega arith); kept = w.kept; compares = go }
      where
        moved : (k : ℕ) (l : Left) (us : Items) → l ≡ left us → i + 1 ≡ k → Ahead v d us → OutcomeIs v k l (past (i + 1) d)
        moved k l us q z b = rw q (d, ap (λ (j : ℕ). past j d) z, b)

        go : (p : List Element) → Holds path₀ depth p → AllInside (length t) p → (fs : List Listed) (k : ℕ) → whole p ≡ files fs k → (vs : Items) → Ahead v c vs
            → OutcomeIs v k (after_files vs (read_files t fs)) (past (i + 1) d)
        go p o a fs k q vs b =
            let x = w.so_far p o a (is_right (whole p) fs k q) vs b in
            let y = same_files_lem x.0 fs (i + 1) k (sym (passed_closed t (whole p) below p i x.0 x.1 h e) ∙ q) in
            moved k (after_files vs (read_files t fs)) x.2 (ap (λ (l : List Listed). after_files vs (read_files t l)) (sym y.0) ∙ x.3) y.1 x.4

    -- ---- a file

    module _ {a b m r k : ℕ} (e : token_at t i ≡ leaf_token a b m r k) (lv : levels ≤ max_elements) (nz : levels ≡ 0 → ⊥) {path' : List ℕ} (ep : path' ≡ set_element path depth a b) where
      -- the array has its path
      kept_file : (p : List Element) → Holds path₀ depth p → AllInside (length t) p → Kept (length t) path' (depth + 1) (down p a b)
      kept_file p o i2 =
          let o2 : Holds path depth p = w.kept ∙ o in
          let x = leaf_ends t i a b m r k e in
          let dl : depth ≡ length p = holds_length path depth p w.sized o2 (omega arith) in
          record {
            holds = rw ep (holds_down path depth p w.sized o2 a b (omega arith));
            deep = ap (λ (j : ℕ). j + 1) dl ∙ sym (length-append p (record { start = a; end = b } ∷ []));
            inside = inside_down (length t) p a b i2 x.4 x.5;
          }

      abbrev the_one : (p : List Element) → File
      the_one p = read_file t (listed_as m r (down p a b))

      -- what is left behind it
      met_next : (p : List Element) (vs us : Items) (fs : List Listed) → after_files vs (read_files t fs) ≡ left us
          → after_files vs (read_files t (fs ++ listed_as m r (down p a b) ∷ [])) ≡ after_next (next_file us) (the_one p)
      unfolding after_files
      met_next p vs us fs q =
          ap (after_files vs) (map-append (read_file t) fs (listed_as m r (down p a b) ∷ []))
          ∙ after_append vs (read_files t fs) (the_one p ∷ [])
          ∙ ap (λ (l : Left). on_left l (λ ws. after_files ws (the_one p ∷ []))) q
          ∙ by_left (after_next (next_file us) (the_one p))
        where
          by_left : (l : Left) → on_left l (λ ws. left ws) ≡ l
          by_left differ = refl
          by_left (left ws) = refl

      abbrev Meets : Option ℕ → Type 0
      Meets x = (us : Items) → Ahead v d us → (p : List Element) → Kept (length t) path' (depth + 1) p → (f : File) → f.size ≡ m → f.path ≡ elements t p → MetIs v (after_next (next_file us) f) x

      one_is : (p : List Element) → ((the_one p).size ≡ m) × ((the_one p).path ≡ elements t (down p a b))
      unfolding read_file
      one_is p = (refl, refl)

      -- it is another
      pub compares_other : Meets None → Compares t v at levels c path₀ path' None
      compares_other g = compares_differ t v at levels c path₀ path' (still a b path' ep) go
        where
          never : (l : Left) → MetIs v l None → l ≡ differ
          never differ q = refl
          never (left us) q = let z : ◌≡◌ {A = ℕ} 0 1 = (let y = q.1 in cc) in absurd (omega arith)

          go : (p : List Element) → Holds path₀ depth p → AllInside (length t) p → (fs : List Listed) (j : ℕ) → whole p ≡ files fs j → (vs : Items) → Ahead v c vs → after_files vs (read_files t fs) ≡ differ
          go p o i2 fs j q vs ah =
              let x = w.so_far p o i2 (is_right (whole p) fs j q) vs ah in
              let y = passed_file t (whole p) below p i x.0 x.1 h a b m r k e in
              let f = listed_as m r (down p a b) in
              let s = split (x.0 ++ f ∷ []) (files_from (files_below below t) y.steps t k p) fs j (sym y.rest ∙ q) in
              let n = never (after_next (next_file x.2) (the_one p)) (g x.2 x.4 (down p a b) (kept_file p o i2) (the_one p) (one_is p).0 (one_is p).1) in
              ap (λ (l : List Listed). after_files vs (read_files t l)) s.1
              ∙ ap (after_files vs) (map-append (read_file t) (x.0 ++ f ∷ []) s.0)
              ∙ after_append vs (read_files t (x.0 ++ f ∷ [])) (read_files t s.0)
              ∙ ap (λ (l : Left). on_left l (λ ws. after_files ws (read_files t s.0))) (met_next p vs x.2 x.0 x.3 ∙ n)

      -- it is this one
      pub compare_next : {d2 : ℕ} → Meets (Some d2) → CompareAt t v at levels c path₀ path' below k d2
      compare_next {d2} g =
          record {
            in_order = let x = w.in_order in let y = (leaf_ends t i a b m r k e).0 in omega arith;
            sized = ap length ep ∙ set_length path depth a b ∙ w.sized;
            kept = still a b path' ep;
            so_far = go;
          }
        where
          taken : (l : Left) → MetIs v l (Some d2) → (us : Items) × (l ≡ left us) × Ahead v d2 us
          taken differ q = let z : ◌≡◌ {A = ℕ} 0 1 = cc in absurd (omega arith)
          taken (left us) q = let y = q.1 in let z : q.0 ≡ d2 = cc in (us, refl, rw z at q.2)

          go : (p : List Element) → Holds path₀ depth p → AllInside (length t) p → right (whole p) ≡ true → (vs : Items) → Ahead v c vs
              → (fs : List Listed) × FilesPassed t (whole p) below p k fs × (us : Items) × (after_files vs (read_files t fs) ≡ left us) × Ahead v d2 us
          go p o i2 q vs ah =
              let x = w.so_far p o i2 q vs ah in
              let n = taken (after_next (next_file x.2) (the_one p)) (g x.2 x.4 (down p a b) (kept_file p o i2) (the_one p) (one_is p).0 (one_is p).1) in
              (x.0 ++ listed_as m r (down p a b) ∷ [], passed_file t (whole p) below p i x.0 x.1 h a b m r k e, n.0, met_next p vs x.2 x.0 x.3 ∙ n.1, n.2)

    -- ---- a directory inside

    module _ {a b : ℕ} (e : token_at t i ≡ opened_token a b) (lv : levels ≤ max_elements) (nz : levels ≡ 0 → ⊥) (lb : below ≡ levels - 1) {path' : List ℕ} (ep : path' ≡ set_element path depth a b) where
      one_more : max_elements - below ≡ depth + 1
      one_more = omega arith

      held : (p : List Element) → Holds path₀ depth p → Holds path' (max_elements - below) (down p a b)
      held p o = rw (one_more, ep) (holds_down path depth p w.sized (w.kept ∙ o) a b (omega arith))

      inside_all : (p : List Element) → AllInside (length t) p → AllInside (length t) (down p a b)
      inside_all p i2 = let x = opened_ends t i a b e in let y = x.1 in inside_down (length t) p a b i2 x.2 (omega arith)

      -- it is right if the whole is
      inside_right : (p : List Element) → Holds path₀ depth p → AllInside (length t) p → right (whole p) ≡ true → (vs : Items) → Ahead v c vs
          → (gs : List Listed) × (j : ℕ) × (files_below below t (b + 1) (down p a b) ≡ files gs j)
      inside_right p o i2 q vs ah = by_files (files_below below t (b + 1) (down p a b)) refl
        where
          by_files : (x : Files) → files_below below t (b + 1) (down p a b) ≡ x → (gs : List Listed) × (j : ℕ) × (files_below below t (b + 1) (down p a b) ≡ files gs j)
          by_files wrong u = let x = w.so_far p o i2 q vs ah in not_wrong (whole p) q (passed_wrong t (whole p) below p i x.0 x.1 h a b e u)
          by_files (files gs j) u = (gs, j, u)

      -- its files behind those before it
      met_inside : (vs us : Items) (fs gs : List Listed) → after_files vs (read_files t fs) ≡ left us → after_files vs (read_files t (fs ++ gs)) ≡ after_files us (read_files t gs)
      met_inside vs us fs gs q =
          ap (after_files vs) (map-append (read_file t) fs gs) ∙ after_append vs (read_files t fs) (read_files t gs) ∙ ap (λ (l : Left). on_left l (λ ws. after_files ws (read_files t gs))) q

      module _ (path'' : List ℕ) (r : Option Compared) (x : Compares t v (b + 1) below d path' path'' r) where
        still_there : take (2 * depth) path'' ≡ take (2 * depth) path₀
        still_there =
            let k : take (2 * (depth + 1)) path'' ≡ take (2 * (depth + 1)) path' = rw one_more at x.kept in
            sym (take_fewer (2 * depth) (2 * (depth + 1)) path'' (omega arith)) ∙ ap (take (2 * depth)) k ∙ take_fewer (2 * depth) (2 * (depth + 1)) path' (omega arith) ∙ still a b path' ep

        -- what it says of the files inside
        says : (p : List Element) (o : Holds path₀ depth p) (i2 : AllInside (length t) p) (q : right (whole p) ≡ true) (vs : Items) (ah : Ahead v c vs)
            → OutcomeIs v (inside_right p o i2 q vs ah).1 (after_files (w.so_far p o i2 q vs ah).2 (read_files t (inside_right p o i2 q vs ah).0)) r
        says p o i2 q vs ah =
            let u = inside_right p o i2 q vs ah in
            let s = w.so_far p o i2 q vs ah in
            x.compares (down p a b) (held p o) (inside_all p i2) u.0 u.1 u.2 s.2 s.4

      pub compares_inside : {path'' : List ℕ} → Compares t v (b + 1) below d path' path'' None → Compares t v at levels c path₀ path'' None
      compares_inside {path''} x = compares_differ t v at levels c path₀ path'' (still_there path'' None x) go
        where
          never : (k : ℕ) (l : Left) → OutcomeIs v k l None → l ≡ differ
          never k differ q = refl
          never k (left us) q = let y = q.1 in let z : ◌≡◌ {A = ℕ} 0 1 = cc in absurd (omega arith)

          go : (p : List Element) → Holds path₀ depth p → AllInside (length t) p → (fs : List Listed) (j : ℕ) → whole p ≡ files fs j → (vs : Items) → Ahead v c vs → after_files vs (read_files t fs) ≡ differ
          go p o i2 fs j q vs ah =
              let rt = is_right (whole p) fs j q in
              let m = w.so_far p o i2 rt vs ah in
              let u = inside_right p o i2 rt vs ah in
              let y = passed_directory t (whole p) below p i m.0 m.1 h a b e u.0 u.1 u.2 in
              let s = split (m.0 ++ u.0) (files_from (files_below below t) y.steps t u.1 p) fs j (sym y.rest ∙ q) in
              let n = never u.1 (after_files m.2 (read_files t u.0)) (says path'' None x p o i2 rt vs ah) in
              ap (λ (l : List Listed). after_files vs (read_files t l)) s.1
              ∙ met_inside2 vs m.2 m.0 u.0 s.0 m.3 n
            where
              met_inside2 : (vs us : Items) (fs gs hs : List Listed) → after_files vs (read_files t fs) ≡ left us → after_files us (read_files t gs) ≡ differ → after_files vs (read_files t ((fs ++ gs) ++ hs)) ≡ differ
              met_inside2 vs us fs gs hs q n =
                  ap (after_files vs) (map-append (read_file t) (fs ++ gs) hs) ∙ after_append vs (read_files t (fs ++ gs)) (read_files t hs)
                  ∙ ap (λ (l : Left). on_left l (λ ws. after_files ws (read_files t hs))) (met_inside vs us fs gs q ∙ n)

      pub compare_past : {path'' : List ℕ} {k d2 : ℕ} → length path'' ≡ path_size → Compares t v (b + 1) below d path' path'' (past k d2) → CompareAt t v at levels c path₀ path'' below k d2
      compare_past {path''} {k} {d2} l x =
          record {
            in_order = let y = w.in_order in let z = (inside_behind i e x).0 in omega arith;
            sized = l;
            kept = still_there path'' (past k d2) x;
            so_far = go;
          }
        where
          taken : (j : ℕ) (l : Left) → OutcomeIs v j l (past k d2) → (us : Items) × (l ≡ left us) × (j ≡ k) × Ahead v d2 us
          taken j differ q = let z : ◌≡◌ {A = ℕ} 0 1 = cc in absurd (omega arith)
          taken j (left us) q = let s = same_past j k q.0 d2 (sym q.1) in (us, refl, s.0, rw s.1 at q.2)

          go : (p : List Element) → Holds path₀ depth p → AllInside (length t) p → right (whole p) ≡ true → (vs : Items) → Ahead v c vs
              → (fs : List Listed) × FilesPassed t (whole p) below p k fs × (us : Items) × (after_files vs (read_files t fs) ≡ left us) × Ahead v d2 us
          go p o i2 q vs ah =
              let m = w.so_far p o i2 q vs ah in
              let u = inside_right p o i2 q vs ah in
              let y = passed_directory t (whole p) below p i m.0 m.1 h a b e u.0 u.1 u.2 in
              let n = taken u.1 (after_files m.2 (read_files t u.0)) (says path'' (past k d2) x p o i2 q vs ah) in
              (m.0 ++ u.0, rw n.2 at y, n.0, met_inside vs m.2 m.0 u.0 m.3 ∙ n.1, n.3)

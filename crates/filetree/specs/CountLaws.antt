-- Counting, file by file: what is counted when a walk has passed the files fs, and that one file, or a directory, keeps it so.
-- Assumes nothing.
use Rattle.filetree.specs.Count.{past}
use Rattle.std.specs.Prelude.{◌≡◌, refl, Bool, true, false, cond, ℕ, ◌+◌, ◌-◌, ◌*◌, ◌^◌, ◌≤◌, ◌<◌, length, drop, set, eqb, List, [], ◌∷◌, ◌++◌, Option, None, unwrap_or}
use Rattle.std.proofs.Math.Path.{sym, ap}
use Rattle.std.proofs.Common.{◌∙◌, arith, length-append, length-set, append-nil}
use Rattle.std.proofs.lemmas.Bool.{false≢true, eqb-false}
use Rattle.limits.specs.Limits.{largest_torrent}
use Rattle.octets.specs.Octets.{pasted}
use Rattle.octets.specs.OctetsLaws.{pasted_append, pasted_none, set_pasted}
use Rattle.filetree.specs.Token.{ends_here, token_at, opened_token, closed_token, leaf_token}
use Rattle.filetree.specs.TokenLaws.{leaf_ends}
use Rattle.filetree.specs.Tree.{max_elements, Element, Listed, listed_as, down, Files, wrong, files, files_below, files_in, right, listed, roots_of}
use Rattle.filetree.specs.TreeLaws.{empty_tree, tree_below, FilesPassed, passed_none, passed_bad, passed_end, passed_closed, passed_file, passed_wrong, inside_ends, passed_directory}
use Rattle.filetree.specs.Count.{most_roots, no_tally, tally_with, tally_after, counted_of, Within, Counts}
use Rattle.filetree.specs.declared.count.Tally.{Tally}
use Rattle.filetree.specs.declared.count.Counted.{Counted}

pub further : (at k : ℕ) (c : Tally) → at ≤ k → Within at c → Within k c
further at k c h w = let x = w.few_files in let y = w.few_roots in record { few_files = omega arith; few_roots = omega arith }

-- ---- the counts, file by file

pub roots_append : (xs ys : List Listed) → roots_of (xs ++ ys) ≡ roots_of xs ++ roots_of ys
unfolding roots_of
roots_append [] ys = refl
roots_append (x ∷ xs) ys = by_size (eqb x.size 0) (roots_append xs ys)
  where
    by_size : (b : Bool) → roots_of (xs ++ ys) ≡ roots_of xs ++ roots_of ys → cond b (roots_of (xs ++ ys)) (x.root ∷ roots_of (xs ++ ys)) ≡ cond b (roots_of xs) (x.root ∷ roots_of xs) ++ roots_of ys
    by_size true ih = ih
    by_size false ih = ap (λ (l : List ℕ). x.root ∷ l) ih

tally_same : (a b x y : ℕ) → a ≡ x → b ≡ y → ◌≡◌ {A = Tally} record { files = a; roots = b } record { files = x; roots = y }
tally_same a b x y p q = rw (p, q) refl

pub after_none : (c : Tally) → c ≡ tally_after c []
unfolding tally_after roots_of
after_none c = tally_same c.files c.roots (c.files + 0) (c.roots + 0) (omega arith) (omega arith)

pub after_more : (c : Tally) (fs gs : List Listed) → tally_after (tally_after c fs) gs ≡ tally_after c (fs ++ gs)
unfolding tally_after
after_more c fs gs =
    tally_same (c.files + length fs + length gs) (c.roots + length (roots_of fs) + length (roots_of gs)) (c.files + length (fs ++ gs)) (c.roots + length (roots_of (fs ++ gs)))
    (omega (arith, length-append fs gs)) (omega (arith, ap length (roots_append fs gs), length-append (roots_of fs) (roots_of gs)))

one_file : (c : Tally) (f : Listed) → tally_with f.size c ≡ tally_after c (f ∷ [])
unfolding tally_with tally_after roots_of
one_file c f =
    tally_same (c.files + 1) (cond (eqb f.size 0) c.roots (c.roots + 1)) (c.files + 1) (c.roots + length (cond (eqb f.size 0) [] (f.root ∷ []))) refl (by_size (eqb f.size 0))
  where
    by_size : (b : Bool) → cond b c.roots (c.roots + 1) ≡ c.roots + length (cond b [] (f.root ∷ []))
    by_size true = omega arith
    by_size false = refl

-- ---- the roots that are kept

-- others behind them
kept_more : (roots₀ roots xs ys : List ℕ) (b m : ℕ) → roots ≡ pasted roots₀ b xs → m ≡ b + length xs → m + length ys ≤ length roots₀ → pasted roots m ys ≡ pasted roots₀ b (xs ++ ys)
kept_more roots₀ roots xs ys b m e q h = rw (e, q) (pasted_append roots₀ b xs ys (rw q at h))

-- how many roots there are then
roots_so : (c d : Tally) (fs : List Listed) → d ≡ tally_after c fs → d.roots ≡ c.roots + length (roots_of fs)
unfolding tally_after
roots_so c d fs e = ap (λ (z : Tally). z.roots) e

-- a count tells what was counted
only_wrong : (c : Tally) (x : Files) → None ≡ counted_of c x → x ≡ wrong
unfolding counted_of
only_wrong c wrong g = refl
only_wrong c (files gs k) g = let z : ◌≡◌ {A = ℕ} 0 1 = cc in absurd (omega arith)

only_right : (c : Tally) (k : ℕ) (d : Tally) (x : Files) → past k d ≡ counted_of c x → (gs : List Listed) × (x ≡ files gs k) × (d ≡ tally_after c gs)
unfolding counted_of
only_right c k d wrong g = let z : ◌≡◌ {A = ℕ} 0 1 = cc in absurd (omega arith)
only_right c k d (files gs j) g =
    let the : Option Counted → Counted = λ w. unwrap_or w (record { next = k; tally = d }) in
    (gs, ap (λ w. files gs (the w).next) (sym g), ap (λ w. (the w).tally) g)

right_files : (x : Files) (gs : List Listed) (k : ℕ) → x ≡ files gs k → (right x ≡ true) × (listed x ≡ gs)
unfolding right listed
right_files x gs k e = rw e (refl, refl)

-- ---- how far counting has come

-- in any directory with these bytes
pub record CountedAt (t : List ℕ) (at levels : ℕ) (before : Tally) (roots₀ roots : List ℕ) (below i : ℕ) (c : Tally) : Type 0 where
  pub passed : (path : List Element) → (fs : List Listed) × FilesPassed t (files_below levels t at path) below path i fs × (c ≡ tally_after before fs) × (roots ≡ pasted roots₀ before.roots (roots_of fs))
  pub within : Within i c
  pub sized₀ : length roots₀ ≡ most_roots
  pub sized : length roots ≡ most_roots

pub counted_start : (t : List ℕ) (at levels : ℕ) (before : Tally) (roots : List ℕ) → (levels ≡ 0 → ⊥) → Within at before → length roots ≡ most_roots
    → CountedAt t at levels before roots roots (levels - 1) at before
unfolding roots_of
counted_start t at levels before roots h w l =
    record { passed = λ path. ([], passed_none t levels at path h, after_none before, sym (pasted_none roots before.roots)); within = w; sized₀ = l; sized = l }

with_one : (k n : ℕ) (c : Tally) → Within k (record { files = c.files + 1; roots = cond (eqb n 0) c.roots (c.roots + 1) }) → Within k (tally_with n c)
unfolding tally_with
with_one k n c w = w

roots_one : (n r : ℕ) (path : List Element) → roots_of (listed_as n r path ∷ []) ≡ cond (eqb n 0) [] (r ∷ [])
unfolding roots_of
roots_one n r path = refl

-- a directory that is wrong
pub counts_wrong : (t : List ℕ) (at levels : ℕ) (before : Tally) (roots after : List ℕ) → ((path : List Element) → files_below levels t at path ≡ wrong)
    → Counts t at levels before roots after None
unfolding counted_of right
counts_wrong t at levels before roots after h =
    record { counted = λ path. sym (ap (counted_of before) (h path)); kept = λ path e. absurd (false≢true (sym (ap right (h path)) ∙ e)); within = tt }

module _ {t : List ℕ} {at levels : ℕ} {before : Tally} {roots₀ roots : List ℕ} {below i : ℕ} {c : Tally} (w : CountedAt t at levels before roots₀ roots below i c) where
  abbrev whole : List Element → Files
  whole path = files_below levels t at path

  pub counts_bad : token_at t i ≡ None → Counts t at levels before roots₀ roots None
  counts_bad e = counts_wrong t at levels before roots₀ roots (λ path. passed_bad t (whole path) below path i (w.passed path).0 (w.passed path).1 e)

  pub counts_end : length t ≤ i → Counts t at levels before roots₀ roots None
  counts_end h = counts_wrong t at levels before roots₀ roots (λ path. passed_end t (whole path) below path i (w.passed path).0 (w.passed path).1 h)

  module _ (h : i < length t) where
    pub counts_closed : token_at t i ≡ closed_token → Counts t at levels before roots₀ roots (past (i + 1) c)
    unfolding counted_of listed
    counts_closed e =
        record {
          counted = λ path. sym (ap (counted_of before) (is path) ∙ ap (past (i + 1)) (sym (w.passed path).2));
          kept = λ path q. (w.passed path).3 ∙ ap (λ (z : Files). pasted roots₀ before.roots (roots_of (listed z))) (sym (is path));
          within = further i (i + 1) c (omega arith) w.within;
        }
      where
        is : (path : List Element) → whole path ≡ files (w.passed path).0 (i + 1)
        is path = passed_closed t (whole path) below path i (w.passed path).0 (w.passed path).1 h e

    pub room_left : length t ≤ largest_torrent → c.roots < length roots
    room_left l = let x = w.within.few_roots in let y = w.sized in omega arith

    module _ {a b n r k : ℕ} (e : token_at t i ≡ leaf_token a b n r k) (l : length t ≤ largest_torrent) where
      pub file_asked : Within largest_torrent c × (c.roots < length roots) × ((n ≡ 0 → ⊥) → r < 2 ^ 32)
      file_asked = (further i largest_torrent c (omega arith) w.within, room_left l, λ z. let x = ((leaf_ends t i a b n r k e).2 z).1 in omega arith)

      pub counted_file : (c' : Tally) (roots' : List ℕ) → c' ≡ tally_with n c → roots' ≡ cond (eqb n 0) roots (set roots c.roots r)
          → CountedAt t at levels before roots₀ roots' below k c'
      counted_file c' roots' ec er =
          record {
            passed = λ path. ((w.passed path).0 ++ f path ∷ [], passed_file t (whole path) below path i (w.passed path).0 (w.passed path).1 h a b n r k e, counts path, ends path);
            within = rw ec (with_one k n c (within' (eqb n 0) refl));
            sized₀ = w.sized₀;
            sized = rw er (sized' (eqb n 0));
          }
        where
          f : List Element → Listed
          f path = listed_as n r (down path a b)

          counts : (path : List Element) → c' ≡ tally_after before ((w.passed path).0 ++ f path ∷ [])
          counts path = ec ∙ one_file c (f path) ∙ ap (λ (z : Tally). tally_after z (f path ∷ [])) (w.passed path).2 ∙ after_more before (w.passed path).0 (f path ∷ [])

          sized' : (z : Bool) → length (cond z roots (set roots c.roots r)) ≡ most_roots
          sized' true = w.sized
          sized' false = length-set roots c.roots r ∙ w.sized

          within' : (z : Bool) → eqb n 0 ≡ z → Within k (record { files = c.files + 1; roots = cond z c.roots (c.roots + 1) })
          within' z q =
              let p = leaf_ends t i a b n r k e in
              let x = p.0 in
              let fw = w.within.few_files in
              record { few_files = omega arith; few_roots = few z q }
            where
              few : (z : Bool) → eqb n 0 ≡ z → 64 * cond z c.roots (c.roots + 1) ≤ k
              few true q = let x = (leaf_ends t i a b n r k e).0 in let y = w.within.few_roots in omega arith
              few false q = let x = ((leaf_ends t i a b n r k e).2 (eqb-false n 0 q)).0 in let y = w.within.few_roots in omega arith

          ends : (path : List Element) → roots' ≡ pasted roots₀ before.roots (roots_of ((w.passed path).0 ++ f path ∷ []))
          ends path = er ∙ by_size (eqb n 0) refl ∙ ap (λ (z : List ℕ). pasted roots₀ before.roots (roots_of (w.passed path).0 ++ z)) (sym (roots_one n r (down path a b))) ∙ ap (pasted roots₀ before.roots) (sym (roots_append (w.passed path).0 (f path ∷ [])))
            where
              by_size : (z : Bool) → eqb n 0 ≡ z → cond z roots (set roots c.roots r) ≡ pasted roots₀ before.roots (roots_of (w.passed path).0 ++ cond z [] (r ∷ []))
              by_size true q = (w.passed path).3 ∙ ap (pasted roots₀ before.roots) (sym (append-nil (roots_of (w.passed path).0)))
              by_size false q =
                  let x = room_left l in
                  let y = w.sized in
                  let z = w.sized₀ in
                  set_pasted roots c.roots r x
                  ∙ kept_more roots₀ roots (roots_of (w.passed path).0) (r ∷ []) before.roots c.roots (w.passed path).3 (roots_so before c (w.passed path).0 (w.passed path).2) (omega arith)

    module _ {a b : ℕ} (e : token_at t i ≡ opened_token a b) (roots' : List ℕ) where
      pub counts_inside : Counts t (b + 1) below c roots roots' None → Counts t at levels before roots₀ roots' None
      counts_inside q = counts_wrong t at levels before roots₀ roots' (λ path. passed_wrong t (whole path) below path i (w.passed path).0 (w.passed path).1 h a b e (is path))
        where
          is : (path : List Element) → files_below below t (b + 1) (down path a b) ≡ wrong
          is path = only_wrong c (files_below below t (b + 1) (down path a b)) (q.counted (down path a b))

      module _ (k : ℕ) (c' : Tally) (q : Counts t (b + 1) below c roots roots' (past k c')) (sized' : length roots' ≡ length roots) (l : length t ≤ largest_torrent) where
        inside : (path : List Element) → (gs : List Listed) × (files_below below t (b + 1) (down path a b) ≡ files gs k) × (c' ≡ tally_after c gs)
        inside path = only_right c k c' (files_below below t (b + 1) (down path a b)) (q.counted (down path a b))

        pub directory_behind : (i < k) × (k ≤ length t)
        directory_behind = let x = inside [] in inside_ends t (whole []) below [] i (w.passed []).0 (w.passed []).1 h a b e x.0 k x.1

        pub counted_directory : CountedAt t at levels before roots₀ roots' below k c'
        counted_directory =
            record {
              passed = λ path. let x = inside path in ((w.passed path).0 ++ x.0, passed_directory t (whole path) below path i (w.passed path).0 (w.passed path).1 h a b e x.0 k x.1, counts path, ends path);
              within = q.within;
              sized₀ = w.sized₀;
              sized = sized' ∙ w.sized;
            }
          where
            counts : (path : List Element) → c' ≡ tally_after before ((w.passed path).0 ++ (inside path).0)
            counts path = (inside path).2 ∙ ap (λ (z : Tally). tally_after z (inside path).0) (w.passed path).2 ∙ after_more before (w.passed path).0 (inside path).0

            ends : (path : List Element) → roots' ≡ pasted roots₀ before.roots (roots_of ((w.passed path).0 ++ (inside path).0))
            ends path =
                let x = inside path in
                let o = right_files (files_below below t (b + 1) (down path a b)) x.0 k x.1 in
                let y = roots_so c c' x.0 x.2 in
                let z = q.within.few_roots in
                let u = directory_behind.1 in
                let v = w.sized₀ in
                q.kept (down path a b) o.0
                ∙ ap (λ (g : List Listed). pasted roots c.roots (roots_of g)) o.1
                ∙ kept_more roots₀ roots (roots_of (w.passed path).0) (roots_of x.0) before.roots c.roots (w.passed path).3 (roots_so before c (w.passed path).0 (w.passed path).2) (omega arith)
                ∙ ap (pasted roots₀ before.roots) (sym (roots_append (w.passed path).0 x.0))

-- ---- the whole tree

-- what counting says of a tree
abbrev pub CountedTree : List ℕ → List ℕ → List ℕ → Option Counted → Type 0
CountedTree t roots after r =
    (r ≡ counted_of no_tally (files_in t)) × (right (files_in t) ≡ true → after ≡ pasted roots 0 (roots_of (listed (files_in t))))

module _ (t roots after : List ℕ) where
  pub tree_empty : ends_here (drop 1 t) ≡ true → CountedTree t roots after None
  unfolding counted_of right
  tree_empty e = rw (empty_tree t e) (refl, λ q. absurd (false≢true q))

  pub tree_counted : ends_here (drop 1 t) ≡ false → (r : Option Counted) → Counts t 1 max_elements no_tally roots after r → CountedTree t roots after r
  tree_counted e r q = rw (tree_below t e) (q.counted [], q.kept [])

-- How far a walk over a directory has come: the files passed, and that what is left gives the rest. Each walk of the tree goes on by these
-- steps, whatever it does at a file.
-- Assumes nothing.
use Rattle.std.specs.Prelude.{◌≡◌, true, false, List, [], ◌∷◌, ◌++◌, length, drop, ℕ, zero, suc, ◌+◌, ◌-◌, ◌≤◌, ◌<◌, Option, Some, None}
use Rattle.std.proofs.Math.Path.{refl, ap}
use Rattle.std.proofs.Common.{sym, ◌∙◌, append_assoc, append-nil, arith}
use Rattle.std.proofs.lemmas.Bool.{false≢true}
use Rattle.filetree.specs.Token.{ends_here, token_at, opened_token, closed_token, leaf_token}
use Rattle.filetree.specs.TokenLaws.{TokenIn, token_in, token_none, opened_ends, leaf_ends}
use Rattle.filetree.specs.Tree.{max_elements, Element, Listed, listed_as, down, Files, wrong, files, after, onward, on_token, files_from, files_below, files_in, right}
use Rattle.filetree.specs.declared.token.Token.{Token}
use Rattle.filetree.specs.declared.token.Token.TheVariants.{Opened, Closed, Leaf}

-- ---- files behind others

pub after_none : (w : Files) → after [] w ≡ w
after_none wrong = refl
after_none (files fs k) = refl

pub after_after : (fs gs : List Listed) (w : Files) → after fs (after gs w) ≡ after (fs ++ gs) w
after_after fs gs wrong = refl
after_after fs gs (files hs k) = ap (λ (x : List Listed). files x k) (sym (append_assoc fs gs hs))

-- files with others behind them
pub split : (xs : List Listed) (w : Files) (fs : List Listed) (k : ℕ) → after xs w ≡ files fs k → (ys : List Listed) × (fs ≡ xs ++ ys)
split xs wrong fs k e = let z : ◌≡◌ {A = ℕ} 0 1 = cc in absurd (omega arith)
split xs (files ys j) fs k e = (ys, cc)

pub same_files_lem : (fs gs : List Listed) (j k : ℕ) → files fs j ≡ files gs k → (fs ≡ gs) × (j ≡ k)
same_files_lem fs gs j k e = (cc, cc)

-- ---- whether a directory is right

pub not_wrong : {A : Type 0} (x : Files) → right x ≡ true → x ≡ wrong → A
unfolding right
not_wrong x e q = absurd (false≢true (sym (ap right q) ∙ e))

pub is_right : (x : Files) (fs : List Listed) (k : ℕ) → x ≡ files fs k → right x ≡ true
unfolding right
is_right x fs k e = ap right e

-- ---- where a directory ends

-- behind `at`, within the bytes
abbrev EndIn : ℕ → ℕ → Files → Type 0
EndIn at end wrong = Unit {0}
EndIn at end (files fs k) = (at < k) × (k ≤ end)

after_in : (at x end : ℕ) (fs : List Listed) (w : Files) → at ≤ x → EndIn x end w → EndIn at end (after fs w)
after_in at x end fs wrong h p = tt
after_in at x end fs (files gs k) h p = let g = p.0 in (omega arith, p.1)

from_in : (sub : ℕ → List Element → Files) (t : List ℕ) → ((x : ℕ) (p : List Element) → EndIn x (length t) (sub x p)) → (steps at : ℕ) (path : List Element) → EndIn at (length t) (files_from sub steps t at path)
unfolding files_from
from_in sub t hs zero at path = tt
from_in sub t hs (suc n) at path = by_token (token_at t at) (token_in t at) (λ x. from_in sub t hs n x path)
  where
    Later : Type 0
    Later = (x : ℕ) → EndIn x (length t) (files_from sub n t x path)

    by_sub : (b : ℕ) (w : Files) → at < b → EndIn (b + 1) (length t) w → Later → EndIn at (length t) (onward w (λ k. files_from sub n t k path))
    by_sub b wrong h p later = tt
    by_sub b (files fs k) h p later = let g = p.0 in after_in at k (length t) fs (files_from sub n t k path) (omega arith) (later k)

    by_token : (x : Option Token) → TokenIn at (length t) x → Later → EndIn at (length t) (on_token sub (λ k. files_from sub n t k path) at path x)
    by_token None p later = tt
    by_token (Some Closed) p later = (omega arith, omega arith)
    by_token (Some (Opened a b)) p later = by_sub b (sub (b + 1) (down path a b)) p.0 (hs (b + 1) (down path a b)) later
    by_token (Some (Leaf a b m r k)) p later = let g = p.0 in after_in at k (length t) (listed_as m r (down path a b) ∷ []) (files_from sub n t k path) (omega arith) (later k)

below_in : (l : ℕ) (t : List ℕ) (at : ℕ) (path : List Element) → EndIn at (length t) (files_below l t at path)
unfolding files_below
below_in zero t at path = tt
below_in (suc l) t at path = from_in (files_below l t) t (below_in l t) (suc (length t)) at path

pub directory_ends : (l : ℕ) (t : List ℕ) (at : ℕ) (path : List Element) (fs : List Listed) (k : ℕ) → files_below l t at path ≡ files fs k → (at < k) × (k ≤ length t)
directory_ends l t at path fs k e = rw e at (below_in l t at path)

-- ---- the levels

pub no_levels : (l : ℕ) (t : List ℕ) (at : ℕ) (path : List Element) → l ≡ 0 → files_below l t at path ≡ wrong
unfolding files_below
no_levels zero t at path e = refl
no_levels (suc l) t at path e = absurd (omega arith)

a_level : (l : ℕ) (t : List ℕ) (at : ℕ) (path : List Element) → (l ≡ 0 → ⊥) → files_below l t at path ≡ files_from (files_below (l - 1) t) (suc (length t)) t at path
unfolding files_below
a_level zero t at path e = absurd (e refl)
a_level (suc l) t at path e = let q : suc l - 1 ≡ l = omega arith in rw q refl

-- an empty tree, and another
module _ (t : List ℕ) where
  pub empty_tree : ends_here (drop 1 t) ≡ true → files_in t ≡ wrong
  unfolding files_in
  empty_tree e = rw e refl

  pub tree_below : ends_here (drop 1 t) ≡ false → files_in t ≡ files_below max_elements t 1 []
  unfolding files_in
  tree_below e = rw e refl

from_step : (sub : ℕ → List Element → Files) (n : ℕ) (t : List ℕ) (at : ℕ) (path : List Element) (x : Option Token) → token_at t at ≡ x
    → files_from sub (suc n) t at path ≡ on_token sub (λ k. files_from sub n t k path) at path x
unfolding files_from
from_step sub n t at path x e = ap (on_token sub (λ k. files_from sub n t k path) at path) e

-- ---- how far a walk has come

-- in the directory `path`, whose files are `whole`, the files fs are passed, and i is next; `below` levels are left for what is inside
pub record FilesPassed (t : List ℕ) (whole : Files) (below : ℕ) (path : List Element) (i : ℕ) (fs : List Listed) : Type 0 where
  pub steps : ℕ
  pub enough : length t < i + steps
  pub rest : whole ≡ after fs (files_from (files_below below t) steps t i path)

pub passed_none : (t : List ℕ) (levels at : ℕ) (path : List Element) → (levels ≡ 0 → ⊥) → FilesPassed t (files_below levels t at path) (levels - 1) path at []
passed_none t levels at path h =
    record { steps = suc (length t); enough = omega arith; rest = a_level levels t at path h ∙ sym (after_none (files_from (files_below (levels - 1) t) (suc (length t)) t at path)) }

module _ (t : List ℕ) (whole : Files) (below : ℕ) (path : List Element) (i : ℕ) (fs : List Listed) (w : FilesPassed t whole below path i fs) where
  from_bad : (n : ℕ) → token_at t i ≡ None → files_from (files_below below t) n t i path ≡ wrong
  unfolding files_from
  from_bad zero e = refl
  from_bad (suc n) e = ap (on_token (files_below below t) (λ k. files_from (files_below below t) n t k path) i path) e

  pub passed_bad : token_at t i ≡ None → whole ≡ wrong
  passed_bad e = w.rest ∙ ap (after fs) (from_bad w.steps e)

  pub passed_end : length t ≤ i → whole ≡ wrong
  passed_end h = passed_bad (token_none t i h)

  module _ (h : i < length t) where
    by_token : (x : Option Token) → token_at t i ≡ x
        → (steps : ℕ) × (length t < i + 1 + steps) × (whole ≡ after fs (on_token (files_below below t) (λ k. files_from (files_below below t) steps t k path) i path x))
    by_token x e = on w.steps w.enough w.rest
      where
        on : (n : ℕ) → length t < i + n → whole ≡ after fs (files_from (files_below below t) n t i path)
            → (steps : ℕ) × (length t < i + 1 + steps) × (whole ≡ after fs (on_token (files_below below t) (λ k. files_from (files_below below t) steps t k path) i path x))
        on zero g q = absurd (omega arith)
        on (suc n) g q = (n, omega arith, q ∙ ap (after fs) (from_step (files_below below t) n t i path x e))

    pub passed_closed : token_at t i ≡ closed_token → whole ≡ files fs (i + 1)
    passed_closed e = (by_token closed_token e).2 ∙ ap (λ (x : List Listed). files x (i + 1)) (append-nil fs)

    module _ (a b n r k : ℕ) (e : token_at t i ≡ leaf_token a b n r k) where
      pub passed_file : FilesPassed t whole below path k (fs ++ listed_as n r (down path a b) ∷ [])
      passed_file =
          let x = by_token (leaf_token a b n r k) e in
          let y = x.1 in
          let z = (leaf_ends t i a b n r k e).0 in
          record { steps = x.0; enough = omega arith; rest = x.2 ∙ after_after fs (listed_as n r (down path a b) ∷ []) (files_from (files_below below t) x.0 t k path) }

    module _ (a b : ℕ) (e : token_at t i ≡ opened_token a b) where
      pub passed_wrong : files_below below t (b + 1) (down path a b) ≡ wrong → whole ≡ wrong
      passed_wrong q = let x = by_token (opened_token a b) e in x.2 ∙ ap (λ (z : Files). after fs (onward z (λ k. files_from (files_below below t) x.0 t k path))) q

      module _ (gs : List Listed) (k : ℕ) (q : files_below below t (b + 1) (down path a b) ≡ files gs k) where
        pub inside_ends : (i < k) × (k ≤ length t)
        inside_ends =
            let x = (opened_ends t i a b e).0 in
            let y = directory_ends below t (b + 1) (down path a b) gs k q in
            let z = y.0 in
            (omega arith, y.1)

        pub passed_directory : FilesPassed t whole below path k (fs ++ gs)
        passed_directory =
            let x = by_token (opened_token a b) e in
            let y = x.1 in
            let z = inside_ends.0 in
            record {
              steps = x.0;
              enough = omega arith;
              rest = x.2 ∙ ap (λ (u : Files). after fs (onward u (λ k. files_from (files_below below t) x.0 t k path))) q ∙ after_after fs gs (files_from (files_below below t) x.0 t k path);
            }

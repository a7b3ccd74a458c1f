-- The number of the files of a tree by their layers, file by file.
-- Assumes nothing.
use Rattle.std.specs.Prelude.{◌≡◌, refl, Bool, true, false, List, [], ◌∷◌, ◌++◌, ℕ, ◌+◌, ◌-◌, ◌≤◌, ◌<◌, length, drop, Option, Some, None}
use Rattle.std.proofs.Math.Path.{sym, ap}
use Rattle.std.proofs.Common.{◌∙◌}
use Rattle.std.proofs.lemmas.Bool.{false≢true}
use Rattle.limits.specs.Limits.{longest_file}
use Rattle.octets.specs.Octets.{cut}
use Rattle.filetree.specs.Token.{ends_here, token_at, opened_token, closed_token, leaf_token}
use Rattle.filetree.specs.TokenLaws.{leaf_ends}
use Rattle.filetree.specs.Tree.{max_elements, Element, Listed, listed_as, down, Files, files_below, files_in, right, listed}
use Rattle.filetree.specs.TreeLaws.{empty_tree, tree_below, FilesPassed, passed_none, passed_bad, passed_end, passed_closed, passed_file, passed_wrong, inside_ends, passed_directory}
use Rattle.layers.specs.Layers.{number_by_layer, number_if, lower, worst, Judges}
use Rattle.layers.specs.declared.Numbered.{Numbered}
use Rattle.numbers.specs.declared.Refused.{Refused}

worst_append : (t l : List ℕ) (plen w : ℕ) (fs gs : List Listed) → worst t l plen w (fs ++ gs) ≡ worst t l plen (worst t l plen w fs) gs
unfolding worst
worst_append t l plen w [] gs = refl
worst_append t l plen w (f ∷ fs) gs = worst_append t l plen (lower w (number_by_layer l plen f.size (cut t f.root 32))) fs gs

worst_one : (t l : List ℕ) (plen w n r : ℕ) (path : List Element) → worst t l plen w (listed_as n r path ∷ []) ≡ lower w (number_by_layer l plen n (cut t r 32))
unfolding worst
worst_one t l plen w n r path = refl

worst_none : (t l : List ℕ) (plen w : ℕ) → worst t l plen w [] ≡ w
unfolding worst
worst_none t l plen w = refl

-- ---- how far judging has come

abbrev pub JudgedAt : List ℕ → ℕ → ℕ → List ℕ → ℕ → ℕ → ℕ → ℕ → ℕ → Type 0
JudgedAt t at levels l plen w below i m =
    (path : List Element) → (fs : List Listed) × FilesPassed t (files_below levels t at path) below path i fs × (m ≡ worst t l plen w fs)

pub judged_start : (t : List ℕ) (at levels : ℕ) (l : List ℕ) (plen w : ℕ) → (levels ≡ 0 → ⊥) → JudgedAt t at levels l plen w (levels - 1) at w
judged_start t at levels l plen w h path = ([], passed_none t levels at path h, sym (worst_none t l plen w))

module _ (t : List ℕ) (at levels : ℕ) (l : List ℕ) (plen w below i m : ℕ) (x : JudgedAt t at levels l plen w below i m) where
  abbrev whole : List Element → Files
  whole path = files_below levels t at path

  pub judges_bad : token_at t i ≡ None → Judges t at levels l plen w None
  judges_bad e path = passed_bad t (whole path) below path i (x path).0 (x path).1 e

  pub judges_end : length t ≤ i → Judges t at levels l plen w None
  judges_end h path = passed_end t (whole path) below path i (x path).0 (x path).1 h

  module _ (h : i < length t) where
    pub judges_closed : token_at t i ≡ closed_token → (z : Option Refused) → m ≡ number_if z → Judges t at levels l plen w (Some (record { next = i + 1; worst = z }))
    judges_closed e z q path = ((x path).0, passed_closed t (whole path) below path i (x path).0 (x path).1 h e, sym q ∙ (x path).2)

    module _ (a b n r k : ℕ) (e : token_at t i ≡ leaf_token a b n r k) where
      pub file_behind : (i < k) × (k ≤ length t) × (n ≤ longest_file) × ((n ≡ 0 → ⊥) → r + 32 ≤ length t)
      file_behind = let p = leaf_ends t i a b n r k e in (p.0, p.1, p.3, λ z. (p.2 z).1)

      pub judged_file : (m' v : ℕ) → v ≡ number_by_layer l plen n (cut t r 32) → m' ≡ lower m v → JudgedAt t at levels l plen w below k m'
      judged_file m' v ev em path = (
        (x path).0 ++ listed_as n r (down path a b) ∷ [],
        passed_file t (whole path) below path i (x path).0 (x path).1 h a b n r k e,
        em ∙ ap (lower m) ev ∙ sym (worst_one t l plen m n r (down path a b)) ∙ ap (λ (z : ℕ). worst t l plen z (listed_as n r (down path a b) ∷ [])) (x path).2
            ∙ sym (worst_append t l plen w (x path).0 (listed_as n r (down path a b) ∷ [])),
      )

    module _ (a b : ℕ) (e : token_at t i ≡ opened_token a b) where
      pub judges_inside : Judges t (b + 1) below l plen m None → Judges t at levels l plen w None
      judges_inside q path = passed_wrong t (whole path) below path i (x path).0 (x path).1 h a b e (q (down path a b))

      module _ (r : Numbered) (q : Judges t (b + 1) below l plen m (Some r)) where
        pub directory_behind : (i < r.next) × (r.next ≤ length t)
        directory_behind = let y = q (down [] a b) in inside_ends t (whole []) below [] i (x []).0 (x []).1 h a b e y.0 r.next y.1

        pub judged_directory : JudgedAt t at levels l plen w below r.next (number_if r.worst)
        judged_directory path =
            let y = q (down path a b) in (
              (x path).0 ++ y.0,
              passed_directory t (whole path) below path i (x path).0 (x path).1 h a b e y.0 r.next y.1,
              y.2 ∙ ap (λ (z : ℕ). worst t l plen z y.0) (x path).2 ∙ sym (worst_append t l plen w (x path).0 y.0),
            )

-- ---- the whole tree

pub tree_some : (t : List ℕ) → right (files_in t) ≡ true → ends_here (drop 1 t) ≡ false
unfolding right
tree_some t e = by_end (ends_here (drop 1 t)) refl
  where
    by_end : (b : Bool) → ends_here (drop 1 t) ≡ b → ends_here (drop 1 t) ≡ false
    by_end true q = absurd (false≢true (sym (ap right (empty_tree t q)) ∙ e))
    by_end false q = q

module _ (t l : List ℕ) (plen : ℕ) (e : right (files_in t) ≡ true) where
  same_files_lem : files_in t ≡ files_below max_elements t 1 []
  same_files_lem = tree_below t (tree_some t e)

  pub tree_judged : (r : Numbered) → Judges t 1 max_elements l plen 0 (Some r) → number_if r.worst ≡ worst t l plen 0 (listed (files_in t))
  unfolding listed
  tree_judged r q = let y = q [] in y.2 ∙ ap (λ (z : Files). worst t l plen 0 (listed z)) (sym (same_files_lem ∙ y.1))

  pub tree_never : Judges t 1 max_elements l plen 0 None → (m : ℕ) → m ≡ worst t l plen 0 (listed (files_in t))
  unfolding right
  tree_never q m = absurd (false≢true (sym (ap right (same_files_lem ∙ q [])) ∙ e))

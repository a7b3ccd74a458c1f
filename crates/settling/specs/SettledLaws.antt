-- What a subtree and the path of uncles above it settle together: positions apart, each with its family up to the anchor.
-- All of it holds whatever `pair_hash` is. Assumes nothing.
use Rattle.std.specs.Prelude.{◌≡◌, List, ◌++◌, ◌⊎◌, ℕ, ◌+◌, ◌*◌, ◌%◌, ◌≤◌, length}
use Rattle.std.proofs.Common.{◌∙◌, inl, inr, arith}
use Rattle.tree.specs.Values.{node}
use Rattle.cells.specs.Entries.{Entry}
use Rattle.cells.specs.EntriesLaws.{Sound, sound_append, In, Has, in_left, in_right, in_cases, Apart, apart_append, Consistent, apart_consistent}
use Rattle.settling.specs.Span.{Within}
use Rattle.settling.specs.Subtree.{subtree}
use Rattle.settling.specs.Path.{ancestor, risen, path}
use Rattle.settling.specs.AncestorLaws.{ancestor_le}
use Rattle.settling.specs.SubtreeLaws.{within_self, FamilyIn, family_in, subtree_sound, subtree_top, subtree_under, subtree_from, subtree_positive, subtree_apart, subtree_family}
use Rattle.settling.specs.PathLaws.{sibling_outside, path_sound, path_at, path_positive, path_apart, path_family, path_anchor}

-- every entry is a hash, at a position below b
pub settled_sound : (leaf : ℕ → List ℕ) → ((i : ℕ) → length (leaf i) ≡ 32) → (hashes : List ℕ) (b k n j i u : ℕ) (v : List ℕ)
    → Within b k n → 32 * (i + u) ≤ length hashes → b % 2 ≡ 0 → Sound b (subtree leaf k n j ++ path hashes i u n v)
settled_sound leaf h hashes b k n j i u v w f e =
    sound_append (subtree leaf k n j) (path hashes i u n v) (subtree_sound leaf h b k n j w) (path_sound hashes b i u n v f e (within_self b k n w))

module _ (leaf : ℕ → List ℕ) (hashes : List ℕ) (k n j i u : ℕ) where
  -- below a position there are positions only
  pub settled_positive : (v : List ℕ) → 1 ≤ ancestor u n → (e : Entry) → In e (subtree leaf k n j ++ path hashes i u n v) → 1 ≤ e.at
  settled_positive v h e x =
      elim (in_cases (subtree leaf k n j) (path hashes i u n v) x) [
        | inl a ↦ subtree_positive leaf k n j (omega (arith, ancestor_le u n)) e a
        | inr b ↦ path_positive hashes i u n v h e b
      ]

  -- no two entries have the same position
  pub settled_apart : (v : List ℕ) → 1 ≤ ancestor u n → Apart (subtree leaf k n j ++ path hashes i u n v)
  settled_apart v h =
      let a = ancestor_le u n in
      apart_append (subtree leaf k n j) (path hashes i u n v) (subtree_apart leaf k n j (omega arith)) (path_apart hashes i u n v h)
      (λ e f x y q.
      elim (path_at hashes i u n v f h y) [
        | inl s ↦ sibling_outside n (omega arith) (rw (q ∙ s) at (subtree_under leaf k n j e x))
        | inr l ↦ omega (arith, subtree_from leaf k n j e x)
      ])

  -- so no position is given two hashes
  pub settled_consistent : (v : List ℕ) → 1 ≤ ancestor u n → Consistent (subtree leaf k n j ++ path hashes i u n v)
  settled_consistent v h = apart_consistent (subtree leaf k n j ++ path hashes i u n v) (settled_apart v h)

  -- the top has the value worked out from the leaves
  pub settled_top : (v : List ℕ) → Has n (node leaf k j) (subtree leaf k n j ++ path hashes i u n v)
  settled_top v = in_left (subtree leaf k n j) (path hashes i u n v) (subtree_top leaf k n j)

  -- the anchor has the value worked out from there
  pub settled_anchor : Has (ancestor u n) (risen hashes i u n (node leaf k j)) (subtree leaf k n j ++ path hashes i u n (node leaf k j))
  settled_anchor =
      let v = node leaf k j in
      path_anchor hashes i u n v (subtree leaf k n j ++ path hashes i u n v) (settled_top v) (λ e x. in_right (subtree leaf k n j) (path hashes i u n v) x)

  -- each entry is the anchor, or its sibling and their parent are entries too, the parent with the hash of the two
  pub settled_family : 1 ≤ ancestor u n → (e : Entry) → In e (subtree leaf k n j ++ path hashes i u n (node leaf k j))
      → (e.at ≡ ancestor u n) ⊎ FamilyIn (subtree leaf k n j ++ path hashes i u n (node leaf k j)) e.at
  settled_family h e x =
      let v = node leaf k j in
      let A = subtree leaf k n j in
      let B = path hashes i u n v in
      let pf = path_family hashes i u n v (A ++ B) h (settled_top v) (λ f y. in_right A B y) in
      elim (in_cases A B x) [
        | inl a ↦ elim (subtree_family leaf k n j e a) [
          | inl t ↦ elim pf.0 [ inl q ↦ inl (t.0 ∙ q) | inr f ↦ inr (rw t.0 f) ]
          | inr f ↦ inr (family_in A (A ++ B) (λ g y. in_left A B y) f)
        ]
        | inr b ↦ pf.1 e b
      ]

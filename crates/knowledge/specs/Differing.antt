-- "No held hash differs" as kd_held answers: between a store and the hashes that a message, a layer or a piece settles, by layer and
-- index; and the test of it.
-- Assumes nothing.
use Rattle.std.specs.Prelude.{◌≡◌, true, false, List, [], ◌∷◌, ◌⊎◌, ℕ}
use Rattle.std.proofs.Common.{sym, ◌∙◌, inl, inr}
use Rattle.octets.specs.Octets.{same}
use Rattle.octets.specs.OctetsLaws.{same_true, same_false}
use Rattle.tree.specs.Geometry.{node_number}
use Rattle.cells.specs.Cells.{held_at, hash_at}
use Rattle.cells.specs.Entries.{Entry, agrees_at, agrees}
use Rattle.cells.specs.EntriesLaws.{In, here, there, no_entry, agrees_held, agrees_free, agrees_in, in_agrees}
use Rattle.store.specs.Store.{height_of, Facts}
use Rattle.saved.specs.Clauses.{Hashes}
use Rattle.words.specs.Held.{Holds, NoneDiffers, OneDiffers}
use Rattle.knowledge.specs.Again.{what_is_held}
use Rattle.knowledge.specs.ReadBack.{holds_at}
use Rattle.knowledge.specs.Over.{Entered, Found}
use Rattle.numbers.specs.Tests.{either, not_both}

-- ---- the test

-- each entry of a list is right, or there is one wrong
pub each_or : (L : List Entry) (A : Entry → Type 0) (B : Type 0) → ((e : Entry) → In e L → A e ⊎ B) → ((e : Entry) → In e L → A e) ⊎ B
each_or [] A B f = inl (λ e x. absurd (no_entry x))
each_or (g ∷ L) A B f =
    elim (f g here) [
      | inr b ↦ inr b
      | inl a ↦ elim (each_or L A B (λ e x. f e (there x))) [
        | inr b ↦ inr b
        | inl k ↦ inl (λ e x. cases a k e x)
      ]
    ]
  where
    cases : A g → ((e : Entry) → In e L → A e) → (e : Entry) → In e (g ∷ L) → A e
    cases a k e here = a
    cases a k e (there x) = k e x

-- a list whose entries are these hashes
module _ (s : List ℕ) (facts : Facts s) (R : Hashes) (L : List Entry) (to : (l i : ℕ) (v : List ℕ) → R l i v → Entered (height_of s) L l i v)
    (from : (e : Entry) → In e L → Found (height_of s) R e.at e.hash) where
  -- the test passed says that no held hash differs
  pub none_differs : agrees s L ≡ true → NoneDiffers s R
  none_differs a l i v w x h =
      let E = to l i v x in
      let k = what_is_held s l i w facts h in
      let o = agrees_in s L a (record { at = node_number (height_of s) l i; hash = v }) E.has in
      sym k.2 ∙ same_true (hash_at s (node_number (height_of s) l i)) v (sym (agrees_held s (node_number (height_of s) l i) v k.1) ∙ o)

  held_entry : (e : Entry) → (S : Found (height_of s) R e.at e.hash) → held_at s e.at ≡ true → Holds s S.l S.i (hash_at s e.at)
  held_entry e S h = let n = S.number in rw n (holds_at s S.l S.i facts S.low S.inside (rw n at h))

  agrees_or : (e : Entry) → In e L → (agrees_at s e.at e.hash ≡ true) ⊎ OneDiffers s R
  agrees_or e x =
      let S = from e x in
      elim (either (held_at s e.at)) [
        | inr f ↦ inl (agrees_free s e.at e.hash f)
        | inl h ↦ elim (either (same (hash_at s e.at) e.hash)) [
          | inl t ↦ inl (agrees_held s e.at e.hash h ∙ t)
          | inr f ↦ inr (record { l = S.l; i = S.i; v = e.hash; w = hash_at s e.at; settles = S.settles; held = held_entry e S h; other = same_false (hash_at s e.at) e.hash f })
        ]
      ]

  -- the test failed shows one that does
  pub one_differs : agrees s L ≡ false → OneDiffers s R
  one_differs f =
      elim (each_or L (λ e. agrees_at s e.at e.hash ≡ true) (OneDiffers s R) agrees_or) [
        | inl k ↦ absurd (not_both (in_agrees s L k) f)
        | inr w ↦ w
      ]

  -- and where one does, the test fails
  pub differs_one : OneDiffers s R → agrees s L ≡ false
  differs_one d =
      elim (either (agrees s L)) [
        | inl t ↦ absurd (d.other (none_differs t d.l d.i d.v d.w d.settles d.held))
        | inr f ↦ f
      ]

  -- and where none does, it passes
  pub differs_none : NoneDiffers s R → agrees s L ≡ true
  differs_none n =
      elim (either (agrees s L)) [
        | inl t ↦ t
        | inr f ↦ let d = one_differs f in absurd (d.other (n d.l d.i d.v d.w d.settles d.held))
      ]

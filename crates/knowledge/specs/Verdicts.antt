-- Demand 2, for a layer and a piece alike: a position is judged against the hash that leaves below it give, 6, 7, 8 or 0 each exactly
-- when 01 says, with "held" as kd_held answers.
-- Assumes nothing.
use Rattle.std.specs.Prelude.{◌≡◌, refl, true, false, List, ◌↔◌, ℕ, ◌+◌, ◌-◌, ◌^◌, ◌≤◌, ◌<◌}
use Rattle.std.proofs.Common.{sym, ◌∙◌, inl, inr}
use Rattle.octets.specs.OctetsLaws.{same_true, same_eq, same_false, same_ne}
use Rattle.numbers.specs.Numbers.{no_anchor, differs, conflict}
use Rattle.numbers.specs.Chain.{exactly}
use Rattle.tree.specs.Geometry.{node_number}
use Rattle.tree.specs.Values.{node}
use Rattle.cells.specs.Cells.{held_at, hash_at}
use Rattle.store.specs.Store.{height_of, Facts}
use Rattle.settling.specs.Subtree.{subtree}
use Rattle.pieces.specs.Pieces.{judged_at}
use Rattle.words.specs.Held.{Holds, Lacks, Fits, Misfits, Clashes}
use Rattle.words.specs.Pieces.{Over}
use Rattle.knowledge.specs.Again.{what_is_held}
use Rattle.knowledge.specs.ReadBack.{holds_at}
use Rattle.knowledge.specs.Over.{over_entered, entry_over, over_top}
use Rattle.knowledge.specs.Differing.{none_differs, one_differs, differs_one, differs_none}
use Rattle.numbers.specs.Tests.{either, not_both}
use Rattle.knowledge.specs.NumberChains.{judged_chain}

-- ---- one position

module _ (s : List ℕ) (f : Facts s) (l i : ℕ) (lh : l ≤ height_of s) (ib : i < 2 ^ (height_of s - l)) where
  -- what the cell of a position holds is what kd_held answers for it
  pub marked_holds : held_at s (node_number (height_of s) l i) ≡ true → Holds s l i (hash_at s (node_number (height_of s) l i))
  marked_holds h = holds_at s l i f lh ib h

  -- and back
  pub holds_marked : (w : List ℕ) → Holds s l i w → (held_at s (node_number (height_of s) l i) ≡ true) × (hash_at s (node_number (height_of s) l i) ≡ w)
  holds_marked w h = let k = what_is_held s l i w f h in (k.1, k.2)

  -- a cell that is not marked as held is not held, as kd_held answers
  pub marked_lacks : held_at s (node_number (height_of s) l i) ≡ false → Lacks s l i
  marked_lacks z w h = not_both (holds_marked w h).0 z

  -- and back
  pub lacks_marked : Lacks s l i → held_at s (node_number (height_of s) l i) ≡ false
  lacks_marked g =
      elim (either (held_at s (node_number (height_of s) l i))) [ inl t ↦ absurd (g (hash_at s (node_number (height_of s) l i)) (marked_holds t)) | inr x ↦ x ]

-- ---- a position against leaves below it

abbrev top : List ℕ → ℕ → ℕ → ℕ → ℕ
top s base y k = node_number (height_of s) (base + k) y

module _ (s : List ℕ) (f : Facts s) (leaf : ℕ → List ℕ) (base y k : ℕ) (wi : base + k ≤ height_of s) (ti : y < 2 ^ (height_of s - (base + k))) where
  -- 0 EXACTLY WHEN the position is held with the hash that the leaves give, and no held hash differs
  pub judged_fits : (judged_at s leaf k (node_number (height_of s) (base + k) y) ≡ 0) ↔ Fits s (Over leaf base y k) (base + k) y
  unfolding judged_at
  judged_fits = (
    λ z.
        (let t = (exactly (judged_chain s leaf k (top s base y k)) 0 refl).0 z in
        record {
          w = hash_at s (top s base y k);
          held = marked_holds s f (base + k) y wi ti t.0;
          gives = (over_top leaf (height_of s) base y k wi ti (hash_at s (top s base y k))).1 (same_true (hash_at s (top s base y k)) (node leaf k 0) t.1.0);
          agree = none_differs s f (Over leaf base y k) (subtree leaf k (top s base y k) 0) (over_entered leaf (height_of s) base y k wi ti) (entry_over leaf (height_of s) base y k wi ti) t.1.1.0;
        }),
    λ b.
        (let h = holds_marked s f (base + k) y wi ti b.w b.held in
        let e = h.1 ∙ (over_top leaf (height_of s) base y k wi ti b.w).0 b.gives in
        rw (
          h.0,
          same_eq (hash_at s (top s base y k)) (node leaf k 0) e,
          differs_none s f (Over leaf base y k) (subtree leaf k (top s base y k) 0) (over_entered leaf (height_of s) base y k wi ti) (entry_over leaf (height_of s) base y k wi ti) b.agree,
        )),
  )

  -- 6 EXACTLY WHEN it is not held
  pub judged_lacks : (judged_at s leaf k (node_number (height_of s) (base + k) y) ≡ no_anchor) ↔ Lacks s (base + k) y
  unfolding judged_at
  judged_lacks = (
    λ z.
        marked_lacks s f (base + k) y wi ti
        ((exactly (judged_chain s leaf k (top s base y k)) no_anchor refl).0 z),
    λ g. rw (lacks_marked s f (base + k) y wi ti g),
  )

  -- 7 EXACTLY WHEN it is held with another hash
  pub judged_misfits : (judged_at s leaf k (node_number (height_of s) (base + k) y) ≡ differs) ↔ Misfits s (Over leaf base y k) (base + k) y
  unfolding judged_at
  judged_misfits = (
    λ z.
        (let t = (exactly (judged_chain s leaf k (top s base y k)) differs refl).0 z in
        record {
          w = hash_at s (top s base y k);
          held = marked_holds s f (base + k) y wi ti t.0;
          other =
              λ o.
              same_false (hash_at s (top s base y k)) (node leaf k 0) t.1 ((over_top leaf (height_of s) base y k wi ti (hash_at s (top s base y k))).0 o);
        }),
    λ b.
        (let h = holds_marked s f (base + k) y wi ti b.w b.held in
        let d : hash_at s (top s base y k) ≡ node leaf k 0 → ⊥ = λ e. b.other ((over_top leaf (height_of s) base y k wi ti b.w).1 (sym h.1 ∙ e)) in
        rw (h.0, same_ne (hash_at s (top s base y k)) (node leaf k 0) d)),
  )

  -- 8 EXACTLY WHEN it is held with that hash, and another held hash differs
  pub judged_clashes : (judged_at s leaf k (node_number (height_of s) (base + k) y) ≡ conflict) ↔ Clashes s (Over leaf base y k) (base + k) y
  unfolding judged_at
  judged_clashes = (
    λ z.
        (let t = (exactly (judged_chain s leaf k (top s base y k)) conflict refl).0 z in
        record {
          w = hash_at s (top s base y k);
          held = marked_holds s f (base + k) y wi ti t.0;
          gives = (over_top leaf (height_of s) base y k wi ti (hash_at s (top s base y k))).1 (same_true (hash_at s (top s base y k)) (node leaf k 0) t.1.0);
          one = one_differs s f (Over leaf base y k) (subtree leaf k (top s base y k) 0) (over_entered leaf (height_of s) base y k wi ti) (entry_over leaf (height_of s) base y k wi ti) t.1.1;
        }),
    λ b.
        (let h = holds_marked s f (base + k) y wi ti b.w b.held in
        let e = h.1 ∙ (over_top leaf (height_of s) base y k wi ti b.w).0 b.gives in
        rw (
          h.0,
          same_eq (hash_at s (top s base y k)) (node leaf k 0) e,
          differs_one s f (Over leaf base y k) (subtree leaf k (top s base y k) 0) (over_entered leaf (height_of s) base y k wi ti) (entry_over leaf (height_of s) base y k wi ti) b.one,
        )),
  )

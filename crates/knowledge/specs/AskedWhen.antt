-- What kd_held answers for a layer and an index, each number exactly when (docs/DECISIONS.md reads the table's rows 9, 3 and 6 so).
-- Assumes nothing.
use Rattle.std.specs.Prelude.{◌≡◌, refl, true, false, List, ◌↔◌, ℕ, ◌-◌, ◌^◌}
use Rattle.std.proofs.Common.{le-leb, lt-ltb}
use Rattle.numbers.specs.Numbers.{rule_broken, no_anchor, unusable}
use Rattle.numbers.specs.Chain.{exactly_of}
use Rattle.store.specs.Store.{usable, height_of, in_tree, held_answer}
use Rattle.store.specs.StoreLaws.{usable_facts, tree_says}
use Rattle.words.specs.Held.{Lacks, Position}
use Rattle.numbers.specs.Tests.{says_not, through}
use Rattle.knowledge.specs.NumberChains.{held_chain, held_tests}
use Rattle.knowledge.specs.Verdicts.{marked_lacks, lacks_marked}

position_is : (h l i : ℕ) → (in_tree h l i ≡ true) ↔ Position h l i
unfolding in_tree
position_is h l i = (
  λ t. (let p = tree_says h l i t in record { low = p.0; inside = p.1 }),
  λ p. rw (le-leb l h p.low, lt-ltb i (2 ^ (h - l)) p.inside),
)

module _ (s : List ℕ) (l i : ℕ) where
  -- 9 EXACTLY WHEN the store is unusable
  pub asked_9 : ((held_answer s l i).number ≡ unusable) ↔ (usable s ≡ false)
  asked_9 = exactly_of (held_chain s l i) unusable (held_tests s l i) refl

  -- 3 EXACTLY WHEN the store is usable and its tree has no such position
  pub asked_3 : ((held_answer s l i).number ≡ rule_broken) ↔ ((usable s ≡ true) × (Position (height_of s) l i → ⊥))
  asked_3 = through (exactly_of (held_chain s l i) rule_broken (held_tests s l i) refl) (λ u. says_not (position_is (height_of s) l i))

  -- 6 EXACTLY WHEN the store is usable, its tree has the position, and it is not held
  pub asked_6 : ((held_answer s l i).number ≡ no_anchor) ↔ ((usable s ≡ true) × Position (height_of s) l i × Lacks s l i)
  asked_6 =
      let c = exactly_of (held_chain s l i) no_anchor (held_tests s l i) refl in (
        λ e.
            (let t = c.0 e in
            let p = (position_is (height_of s) l i).0 t.1.0 in
            (t.0, p, marked_lacks s (usable_facts s t.0) l i p.low p.inside t.1.1)),
        λ t. c.1 (t.0, ((position_is (height_of s) l i).1 t.1, lacks_marked s (usable_facts s t.0) l i t.1.low t.1.inside t.2)),
      )

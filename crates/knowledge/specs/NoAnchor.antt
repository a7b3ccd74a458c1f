-- Demand 3: a reply's number is 6 as long as its anchor is not held, and never 6 again as soon as it is, with "held" as kd_held answers.
-- Assumes nothing.
use Rattle.std.specs.Prelude.{◌≡◌, refl, Bool, true, false, List, ◌↔◌, ℕ}
use Rattle.std.proofs.Common.{ap, sym, ◌∙◌, subst, arith}
use Rattle.std.proofs.Math.Decide.{ℕ_discrete}
use Rattle.numbers.specs.Numbers.{no_anchor}
use Rattle.numbers.specs.Chain.{exactly_of}
use Rattle.sha256.specs.declared.Hashed.{Hashed}
use Rattle.tree.specs.Geometry.{node_number}
use Rattle.cells.specs.Cells.{held_at}
use Rattle.store.specs.Store.{height_of, held_answer}
use Rattle.store.specs.StoreLaws.{usable_facts, held_not}
use Rattle.header.specs.Header.{is_hashes}
use Rattle.messages.specs.Take.{anchor, place_in, take_number, take_after, take_answer}
use Rattle.messages.specs.Asks.{RulesPassed}
use Rattle.messages.specs.TakeLaws.{passed, passes}
use Rattle.words.specs.Held.{Holds}
use Rattle.words.specs.History.{Steps}
use Rattle.words.specs.Messages.{anchor_layer, anchor_index}
use Rattle.knowledge.specs.NumberChains.{take_chain, take_tests}
use Rattle.knowledge.specs.Grows.{steps_grow}
use Rattle.knowledge.specs.Again.{knowledge_only_grows, number_stays, same_header, no_anchor_stays, anchor_held_not_6}
use Rattle.knowledge.specs.Refusals.{message_refused}
use Rattle.knowledge.specs.AnchorHeld.{anchor_number, anchor_in_tree, asked_held, held_asked}

-- 6 is given by a usable store, to a message of its root that keeps the rules
pub six_passed : (t m : List ℕ) → take_number t m ≡ no_anchor → RulesPassed (is_hashes m) t m
six_passed t m e =
    let p = (exactly_of (take_chain t m) no_anchor (take_tests t m) refl).0 e in
    record { store = p.0; formed = p.1.0; root = p.1.1.0; rules = p.1.1.1.0 }

-- NEVER 6 AGAIN: once kd_held gives a reply's anchor, that reply is not answered 6, then or later
pub never_6_again : {s t : List ℕ} (m v : List ℕ) → Steps s t → Holds s (anchor_layer m) (anchor_index m) v → take_number t m ≡ no_anchor → ⊥
never_6_again {s} {t} m v h k e =
    let k' = knowledge_only_grows h (anchor_layer m) (anchor_index m) v k in
    anchor_held_not_6 t m (asked_held (is_hashes m) t m (six_passed t m e) k'.given) e

-- 6 WHILE THE ANCHOR IS NOT HELD: a reply that got 6 gets 6 at a later offer exactly if kd_held does not give its anchor then
module _ {s t : List ℕ} (m : List ℕ) (six : take_number s m ≡ no_anchor) (h : Steps s t) where
  there : RulesPassed (is_hashes m) t m
  there =
      let p = six_passed s m six in
      let f = usable_facts s p.store in
      passed (is_hashes m) t m (same_header s t m f (steps_grow f h) (is_hashes m) ∙ passes (is_hashes m) s m p)

  -- 6 again as long as kd_held does not give the anchor,
  pub not_held_then_6 : ((held_answer t (anchor_layer m) (anchor_index m)).number ≡ 0 → ⊥) → take_number t m ≡ no_anchor
  not_held_then_6 k = no_anchor_stays s m (six_passed s m six).store h six (by (held_at t (anchor (place_in t m))) refl)
    where
      by : (b : Bool) → held_at t (anchor (place_in t m)) ≡ b → held_at t (anchor (place_in t m)) ≡ false
      by true e = absurd (k (held_asked (is_hashes m) t m there e))
      by false e = e

  -- kd_held's own number is then 6
  pub six_then_not_held : take_number t m ≡ no_anchor → (held_answer t (anchor_layer m) (anchor_index m)).number ≡ no_anchor
  six_then_not_held e = by (held_at t (node_number (height_of t) (anchor_layer m) (anchor_index m))) refl
    where
      by : (b : Bool) → held_at t (node_number (height_of t) (anchor_layer m) (anchor_index m)) ≡ b → (held_answer t (anchor_layer m) (anchor_index m)).number ≡ no_anchor
      by true q = absurd (anchor_held_not_6 t m (ap (held_at t) (anchor_number (is_hashes m) t m there) ∙ q) e)
      by false q = sym (ap (λ (r : Hashed). r.number) (held_not t (anchor_layer m) (anchor_index m) there.store (anchor_in_tree (is_hashes m) t m there) q))

-- ONLY "NO ANCHOR" CAN CHANGE: the number that a reply got is another at a later offer exactly if it was 6 and kd_held gives its anchor by then
pub changes_exactly_when : {t : List ℕ} (s m : List ℕ) → Steps (take_after s m) t
    → (take_number t m ≡ take_number s m → ⊥) ↔ ((take_number s m ≡ no_anchor) × ((held_answer t (anchor_layer m) (anchor_index m)).number ≡ 0))
changes_exactly_when {t} s m h = (to, λ w e. six_or_held w.0 w.1 (e ∙ w.0))
  where
    from_there : take_number s m ≡ no_anchor → Steps s t
    from_there six = subst (λ (x : List ℕ). Steps x t) (message_refused s m (λ z. omega (arith, six_answer six, z))).0 h
      where
        six_answer : take_number s m ≡ no_anchor → (take_answer s m).number ≡ no_anchor
        six_answer e = unfold take_answer in e

    six_or_held : take_number s m ≡ no_anchor → (held_answer t (anchor_layer m) (anchor_index m)).number ≡ 0 → take_number t m ≡ no_anchor → ⊥
    six_or_held six z e = let g = six_then_not_held m six (from_there six) e in omega arith

    to : (take_number t m ≡ take_number s m → ⊥) → (take_number s m ≡ no_anchor) × ((held_answer t (anchor_layer m) (anchor_index m)).number ≡ 0)
    to ne =
        elim (ℕ_discrete (take_number s m) no_anchor) [
          | no k ↦ absurd (ne (number_stays s m h k))
          | yes six ↦
              elim (ℕ_discrete (held_answer t (anchor_layer m) (anchor_index m)).number 0) [
                | yes z ↦ (six, z)
                | no k ↦ absurd (ne (not_held_then_6 m six (from_there six) k ∙ sym six))
              ]
        ]

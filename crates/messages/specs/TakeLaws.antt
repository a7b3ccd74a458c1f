-- Laws of taking: what a message that passes 9, 1, 2, 3 and 4 is sure of.
-- Assumes nothing.
use Rattle.std.specs.Prelude.{◌≡◌, refl, Bool, List, ℕ, ◌+◌, ◌-◌, ◌*◌, ◌/◌, ◌^◌, ◌≤◌, ◌<◌, length, eqb, leb}
use Rattle.std.proofs.Common.{ap, ◌∙◌, arith, pow_mono, leb-true, eqb-true}
use Rattle.std.proofs.Math.Path.{sym}
use Rattle.std.proofs.Math.Bool.{true, false, cond, and-eq-true_iff}
use Rattle.octets.specs.Octets.{same}
use Rattle.numbers.specs.Numbers.{no_message, other_root, rule_broken, unusable}
use Rattle.numbers.specs.NumbersLaws.{let_through}
use Rattle.tree.specs.Geometry.{height}
use Rattle.store.specs.Store.{usable, facts_root, height_of, positions}
use Rattle.store.specs.StoreLaws.{usable_facts, facts_height}
use Rattle.settling.specs.SubtreeLaws.{within_tree}
use Rattle.settling.specs.AncestorLaws.{ancestor_positive}
use Rattle.header.specs.declared.Header.{Header}
use Rattle.header.specs.declared.Place.{Place}
use Rattle.limits.specs.Limits.{tallest_tree}
use Rattle.header.specs.Header.{header_size, message_id, request_id, hashes_id, reject_id, message_root, header_of, is_hashes, is_request, is_reject, rules_kept, place_of, message_size, Kept}
use Rattle.header.specs.HeaderLaws.{rules_kept_lem, log_some, top_inside}
use Rattle.messages.specs.Take.{header_number, place_in}
use Rattle.messages.specs.Asks.{first_number, RulesPassed, Placed, Carried, Ready}

-- a form has its header's bytes
pub hashes_form : (m : List ℕ) → is_hashes m ≡ true → header_size ≤ length m
unfolding is_hashes
hashes_form m e = leb-true header_size (length m) ((and-eq-true_iff (leb header_size (length m)) (eqb (message_id m) hashes_id)).0 e).0

pub request_form : (m : List ℕ) → is_request m ≡ true → length m ≡ header_size
unfolding is_request
request_form m e = eqb-true (length m) header_size ((and-eq-true_iff (eqb (length m) header_size) (eqb (message_id m) request_id)).0 e).0

pub reject_form : (m : List ℕ) → is_reject m ≡ true → length m ≡ header_size
unfolding is_reject
reject_form m e = eqb-true (length m) header_size ((and-eq-true_iff (eqb (length m) header_size) (eqb (message_id m) reject_id)).0 e).0

-- ---- a header number of 0

pub passed : (form : Bool) (s m : List ℕ) → header_number form s m ≡ 0 → RulesPassed form s m
unfolding header_number
passed form s m e =
    let a = let_through (usable s) _ unusable (λ z. omega arith) e in
    let b = let_through form _ no_message (λ z. omega arith) a.1 in
    let c = let_through (same (facts_root s) (message_root m)) _ other_root (λ z. omega arith) b.1 in
    let d = let_through (rules_kept (header_of m) (height_of s)) 0 rule_broken (λ z. omega arith) c.1 in
    record { store = a.0; formed = b.0; root = c.0; rules = d.0 }

pub passes : (form : Bool) (s m : List ℕ) → RulesPassed form s m → header_number form s m ≡ 0
unfolding header_number
passes form s m p = rw (p.store, p.formed, p.root, p.rules)

-- ---- 9, 1, 2 and then 3

module _ (form : Bool) (s m : List ℕ) (r : ℕ) (e : r ≡ first_number form s m) where
  -- a refusal by the first three is the header's
  pub first_refused : (r ≡ 0 → ⊥) → r ≡ header_number form s m
  unfolding first_number header_number
  first_refused ne = by (usable s) form (same (facts_root s) (message_root m)) _ e
    where
      by : (u f v : Bool) (q : ℕ) → r ≡ cond u (cond f (cond v 0 other_root) no_message) unusable → r ≡ cond u (cond f (cond v q other_root) no_message) unusable
      by true true true q w = absurd (ne w)
      by true true false q w = w
      by true false v q w = w
      by false f v q w = w

  module _ (z : r ≡ 0) where
    -- none of them
    pub first_passed : (usable s ≡ true) × (form ≡ true) × (same (facts_root s) (message_root m) ≡ true)
    unfolding first_number
    first_passed =
        let a = let_through (usable s) _ unusable (λ y. omega arith) (sym e ∙ z) in
        let b = let_through form _ no_message (λ y. omega arith) a.1 in
        let c = let_through (same (facts_root s) (message_root m)) 0 other_root (λ y. omega arith) b.1 in
        (a.0, b.0, c.0)

    module _ (x : Header) (k : Bool) (ex : x ≡ header_of m) (ek : k ≡ rules_kept x (height_of s)) where
      rules : k ≡ rules_kept (header_of m) (height_of s)
      rules = ek ∙ ap (λ (y : Header). rules_kept y (height_of s)) ex

      pub rules_broken : k ≡ false → rule_broken ≡ header_number form s m
      unfolding header_number
      rules_broken y = sym (rw (first_passed.0, first_passed.1, first_passed.2, ← rules, y))

      pub rules_passed : k ≡ true → RulesPassed form s m
      rules_passed y = record { store = first_passed.0; formed = first_passed.1; root = first_passed.2; rules = sym rules ∙ y }

      pub rules_done : k ≡ true → 0 ≡ header_number form s m
      rules_done y = sym (passes form s m (rules_passed y))

-- ---- the place of a header that keeps the rules, in a tree of height h

placed_at : (x : Header) (h : ℕ) → h ≤ tallest_tree → Kept x h → Placed h x (place_of x h)
unfolding positions place_of message_size
placed_at x h hs f =
    let k : ℕ = height x.len in
    let s : 1 ≤ height x.len = log_some x.len f.two in
    let i : x.index / x.len < 2 ^ (h - (x.base + height x.len)) = top_inside x h f in
    let w : 2 ^ (h - x.base) ≤ 2 ^ tallest_tree = pow_mono {i = h - x.base} {j = tallest_tree} (omega arith) in
    record {
      power = f.power;
      some = f.two;
      most = f.most;
      index = omega (arith, f.inside);
      top = within_tree h (x.base + height x.len) (x.index / x.len) (height x.len) f.within i (omega arith);
      anchor =
          ancestor_positive h (x.base + height x.len) (x.index / x.len) (x.proof - (height x.len - 1))
          (omega (arith, f.within, f.above));
      layers = omega (arith, f.within, f.above);
      size = refl;
      low = hs;
    }

pub placed : (form : Bool) (s m : List ℕ) → RulesPassed form s m → Placed (height_of s) (header_of m) (place_in s m)
placed form s m p =
    let f = usable_facts s p.store in
    placed_at (header_of m) (height_of s) (facts_height s f) (rules_kept_lem (header_of m) (height_of s) p.rules)

-- ---- from one to the next

pub placed_carried : {h : ℕ} {x : Header} {p : Place} (lm : ℕ) → Placed h x p → header_size + 32 * (x.len + p.u) ≤ lm → Carried lm x p
placed_carried lm q c =
    record { power = q.power; some = q.some; most = q.most; index = q.index; layers = q.layers; carries = c }

pub placed_ready : {h : ℕ} {x : Header} {p : Place} (ls lm : ℕ) → Placed h x p → 31 + 33 * positions h ≤ ls → header_size + 32 * (x.len + p.u) ≤ lm → Ready ls lm h x p
placed_ready ls lm q r c =
    record { carried = placed_carried lm q c; room = r; top = q.top; anchor = q.anchor; low = q.low }

-- Demand 2: when a message gets 9, 1, 2, 3 or 4, each exactly when 01 says, in its order; and that a well-formed message is one that
-- gets none of them.
-- Assumes nothing.
use Rattle.std.specs.Prelude.{◌≡◌, refl, true, false, List, ◌↔◌, ℕ, length, eqb, leb}
use Rattle.std.proofs.Math.Bool.{and-eq-true_iff}
use Rattle.std.proofs.Common.{inl, inr, arith, eq-eqb, eqb-true, le-leb, leb-true}
use Rattle.octets.specs.Octets.{same}
use Rattle.octets.specs.OctetsLaws.{same_true, same_eq, same_false, same_ne}
use Rattle.numbers.specs.Numbers.{no_message, other_root, rule_broken, wrong_size, unusable}
use Rattle.numbers.specs.Chain.{last, decided, exactly_of, none, passes_of}
use Rattle.cells.specs.CellsLaws.{lt_or_ge}
use Rattle.store.specs.Store.{usable, facts_root, height_of}
use Rattle.header.specs.Header.{hashes_id, header_size, message_id, header_of, message_root, is_hashes, rules_kept, message_size, Kept}
use Rattle.header.specs.HeaderLaws.{rules_kept_lem, kept_rules}
use Rattle.messages.specs.Take.{take_number}
use Rattle.messages.specs.TakeLaws.{passed, passes}
use Rattle.words.specs.Messages.{WellFormed, HashesForm, OtherForm, Readable, Addressed, Ruled}
use Rattle.numbers.specs.Tests.{either, not_both, says_not, through, in_turn}
use Rattle.knowledge.specs.NumberChains.{body_chain, formed_then, take_chain, take_tests}
use Rattle.knowledge.specs.TakenWhen.{Formed}

-- ---- the tests

form_true : (m : List ℕ) → is_hashes m ≡ true → HashesForm m
unfolding is_hashes
form_true m e =
    let t = (and-eq-true_iff (leb header_size (length m)) (eqb (message_id m) hashes_id)).0 e in
    record { long = leb-true header_size (length m) t.0; id = eqb-true (message_id m) hashes_id t.1 }

true_form : (m : List ℕ) → HashesForm m → is_hashes m ≡ true
unfolding is_hashes
true_form m f = rw (le-leb header_size (length m) f.long, eq-eqb (message_id m) hashes_id f.id)

form_false : (m : List ℕ) → is_hashes m ≡ false → OtherForm m
form_false m e =
    elim (lt_or_ge (length m) header_size) [
      | inl l ↦ inl l
      | inr g ↦ inr (λ q. not_both (true_form m (record { long = g; id = q })) e)
    ]

false_form : (m : List ℕ) → OtherForm m → is_hashes m ≡ false
false_form m o =
    elim (either (is_hashes m)) [
      | inr f ↦ f
      | inl t ↦ let F = form_true m t in elim o [
        | inl l ↦ let w : ⊥ = omega (arith, F.long) in absurd w
        | inr n ↦ absurd (n F.id)
      ]
    ]

rules_false : (s m : List ℕ) → rules_kept (header_of m) (height_of s) ≡ false → Kept (header_of m) (height_of s) → ⊥
rules_false s m f k = not_both (kept_rules (header_of m) (height_of s) k) f

false_rules : (s m : List ℕ) → (Kept (header_of m) (height_of s) → ⊥) → rules_kept (header_of m) (height_of s) ≡ false
false_rules s m n =
    elim (either (rules_kept (header_of m) (height_of s))) [ inl t ↦ absurd (n (rules_kept_lem (header_of m) (height_of s) t)) | inr f ↦ f ]

module _ (s m : List ℕ) where
  -- 9 EXACTLY WHEN the store is unusable
  pub nine_exactly_when : (take_number s m ≡ unusable) ↔ (usable s ≡ false)
  nine_exactly_when = exactly_of (take_chain s m) unusable (take_tests s m) refl

  -- 1 EXACTLY WHEN the store is usable, and the message has below 49 bytes or another id
  pub one_exactly_when : (take_number s m ≡ no_message) ↔ ((usable s ≡ true) × OtherForm m)
  one_exactly_when = through (exactly_of (take_chain s m) no_message (take_tests s m) refl) (λ u. (form_false m, false_form m))

  -- 2 EXACTLY WHEN it passes those, and has another pieces root
  pub two_exactly_when : (take_number s m ≡ other_root) ↔ (Readable s m × (facts_root s ≡ message_root m → ⊥))
  two_exactly_when =
      let c = exactly_of (take_chain s m) other_root (take_tests s m) refl in (
        λ e. (let t = c.0 e in (record { store = t.0; form = form_true m t.1.0 }, same_false (facts_root s) (message_root m) t.1.1)),
        λ t. c.1 (t.0.store, (true_form m t.0.form, same_ne (facts_root s) (message_root m) t.1)),
      )

  -- 3 EXACTLY WHEN it passes those, and a header rule fails
  pub three_exactly_when : (take_number s m ≡ rule_broken) ↔ (Addressed s m × (Kept (header_of m) (height_of s) → ⊥))
  three_exactly_when =
      let c = exactly_of (take_chain s m) rule_broken (take_tests s m) refl in (
        λ e.
            (let t = c.0 e in
            (record { store = t.0; form = form_true m t.1.0; root = same_true (facts_root s) (message_root m) t.1.1.0 }, rules_false s m t.1.1.1)),
        λ t. c.1 (t.0.store, (true_form m t.0.form, (same_eq (facts_root s) (message_root m) t.0.root, false_rules s m t.1))),
      )

  -- the first four tests say that a message keeps the rules of this store
  ruled : {A : Type 0}
      → ((usable s ≡ true) × ((is_hashes m ≡ true) × ((same (facts_root s) (message_root m) ≡ true) × ((rules_kept (header_of m) (height_of s) ≡ true) × A))))
      ↔ (Ruled s m × A)
  ruled = (
    λ t. (
      record { store = t.0; form = form_true m t.1.0; root = same_true (facts_root s) (message_root m) t.1.1.0; rules = rules_kept_lem (header_of m) (height_of s) t.1.1.1.0 },
      t.1.1.1.1,
    ),
    λ t. (
      t.0.store,
      (
        true_form m t.0.form,
        (same_eq (facts_root s) (message_root m) t.0.root, (kept_rules (header_of m) (height_of s) t.0.rules, t.1)),
      ),
    ),
  )

  size_is : (eqb (length m) (message_size (header_of m)) ≡ true) ↔ (length m ≡ message_size (header_of m))
  size_is = (eqb-true (length m) (message_size (header_of m)), eq-eqb (length m) (message_size (header_of m)))

  -- 4 EXACTLY WHEN it passes those, and has not the bytes that its header fixes
  pub four_exactly_when : (take_number s m ≡ wrong_size) ↔ (Ruled s m × (length m ≡ message_size (header_of m) → ⊥))
  four_exactly_when = through (in_turn (exactly_of (take_chain s m) wrong_size (take_tests s m) refl) ruled) (λ r. says_not size_is)

  -- WELL-FORMED is what passes all of these
  pub well_formed : WellFormed s m ↔ Formed s m
  well_formed = (
    λ w. record {
      header =
          passes (is_hashes m) s m
          (record { store = w.ruled.store; formed = true_form m w.ruled.form; root = same_eq (facts_root s) (message_root m) w.ruled.root; rules = kept_rules (header_of m) (height_of s) w.ruled.rules });
      size = w.size;
    },
    λ w.
        (let P = passed (is_hashes m) s m w.header in
        record {
          ruled = record { store = P.store; form = form_true m P.formed; root = same_true (facts_root s) (message_root m) P.root; rules = rules_kept_lem (header_of m) (height_of s) P.rules };
          size = w.size;
        }),
  )

  -- 5, 6, 7, 8 and 0, which none of these five tests has, are given to well-formed messages alone
  pub formed_by : (n : ℕ) → none n (formed_then s m (last (decided (body_chain s m)))) ≡ true → {A : Type 0} → (Formed s m → (take_number s m ≡ n) ↔ A) → (take_number s m ≡ n) ↔ (WellFormed s m × A)
  formed_by n o f = (
    λ e.
        (let t = ruled.0 ((passes_of (formed_then s m (last (decided (body_chain s m)))) n (take_tests s m) o).0 e) in
        let w : WellFormed s m = record { ruled = t.0; size = size_is.0 t.1.0 } in
        (w, (f (well_formed.0 w)).0 e)),
    λ t. (f (well_formed.0 t.0)).1 t.1,
  )

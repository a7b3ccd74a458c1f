-- The numbers of kd_extends: each exactly when, by its chain of tests; and what stands beside them.
-- Assumes nothing.
use Rattle.std.specs.Prelude.{◌≡◌, true, false, ◌&&◌, List, ◌↔◌, ℕ, length, eqb, leb, ltb}
use Rattle.std.proofs.Math.Path.{refl}
use Rattle.std.proofs.Common.{ap, sym, ◌∙◌, eqb-true, leb-true, ltb-true, eq-eqb, ne_eqb, lt-ltb, le-leb}
use Rattle.std.proofs.Math.Bool.{and-eq-true_iff}
use Rattle.std.proofs.Math.Decide.{ℕ_discrete}
use Rattle.octets.specs.Octets.{same}
use Rattle.octets.specs.OctetsLaws.{same_true, same_eq}
use Rattle.numbers.specs.Numbers.{rule_broken, wrong_size, no_anchor, differs, unusable, done, refused, InTable}
use Rattle.numbers.specs.declared.Answer.{Answer}
use Rattle.numbers.specs.Chain.{Chain, last, test, decided, each, exactly_of, in_table_of}
use Rattle.numbers.specs.Tests.{says_not, through, in_turn}
use Rattle.sha256.specs.Sha256.{sha256}
use Rattle.store.specs.Store.{usable, file_length, held_answer}
use Rattle.extends.specs.Extends.{whole_blocks, rest_size, earlier_root, over_size, last_hash, leaf_held, block_held, extends_number, extends_answer}
use Rattle.words.specs.Held.{Holds}
use Rattle.words.specs.Younger.{Needed, ExtendsGives, is_9, is_3, is_4, is_6, is_7, is_0, InRange, Comparable, Leads}
use Rattle.knowledge.specs.Peaks.{peaks_exactly}

-- ---- what the tests say

module _ (s : List ℕ) (n : ℕ) where
  range_says : (ltb 0 n && leb n (file_length s) ≡ true) ↔ InRange s n
  range_says =
      let p = and-eq-true_iff (ltb 0 n) (leb n (file_length s)) in
      (λ e. (ltb-true 0 n (p.0 e).0, leb-true n (file_length s) (p.0 e).1), λ r. p.1 (lt-ltb 0 n r.0, le-leb n (file_length s) r.1))

  leaf_says : (leaf_held s n ≡ true) ↔ ((rest_size n ≡ 0 → ⊥) → (v : List ℕ) × Holds s 0 (whole_blocks n) v)
  unfolding leaf_held
  leaf_says =
      elim (ℕ_discrete (rest_size n) 0) [
        | yes z ↦ (λ e x. absurd (x z), λ f. rw (eq-eqb (rest_size n) 0 z))
        | no z ↦ (
          λ e x. (
            (held_answer s 0 (whole_blocks n)).hash,
            record { given = eqb-true (held_answer s 0 (whole_blocks n)).number 0 (rw (ne_eqb (rest_size n) 0 z) at e); hash = refl },
          ),
          λ f. rw (ne_eqb (rest_size n) 0 z) (eq-eqb (held_answer s 0 (whole_blocks n)).number 0 (f z).1.given),
        )
      ]

  module _ (block : List ℕ) where
    needed_says : (leaf_held s n && eqb (earlier_root s n (last_hash n block)).number 0 ≡ true) ↔ Needed s n
    needed_says =
        let p = and-eq-true_iff (leaf_held s n) (eqb (earlier_root s n (last_hash n block)).number 0) in
        let q = peaks_exactly s n (last_hash n block) in (
          λ e. record { leaf = leaf_says.0 (p.0 e).0; peaks = q.0 (eqb-true (earlier_root s n (last_hash n block)).number 0 (p.0 e).1) },
          λ N. p.1 (leaf_says.1 N.leaf, eq-eqb (earlier_root s n (last_hash n block)).number 0 (q.1 N.peaks)),
        )

    block_says : Needed s n → (block_held s n block ≡ true) ↔ ((rest_size n ≡ 0 → ⊥) → Holds s 0 (whole_blocks n) (sha256 block))
    unfolding block_held
    block_says N =
        elim (ℕ_discrete (rest_size n) 0) [
          | yes z ↦ (λ e x. absurd (x z), λ f. rw (eq-eqb (rest_size n) 0 z))
          | no z ↦ (
            λ e x. record { given = (N.leaf z).1.given; hash = same_true (held_answer s 0 (whole_blocks n)).hash (sha256 block) (rw (ne_eqb (rest_size n) 0 z) at e) },
            λ f. rw (ne_eqb (rest_size n) 0 z) (same_eq (held_answer s 0 (whole_blocks n)).hash (sha256 block) (f z).hash),
          )
        ]

    leads_says : Needed s n → (root : List ℕ) → (block_held s n block && same (earlier_root s n (last_hash n block)).hash root ≡ true) ↔ Leads s n root block
    leads_says N root =
        let p = and-eq-true_iff (block_held s n block) (same (earlier_root s n (last_hash n block)).hash root) in (
          λ e. record { held = (block_says N).0 (p.0 e).0; value = same_true (earlier_root s n (last_hash n block)).hash root (p.0 e).1 },
          λ L. p.1 ((block_says N).1 L.held, same_eq (earlier_root s n (last_hash n block)).hash root L.value),
        )

-- ---- each number

-- 9, 3, 4, 6, 7, 0
abbrev extends_chain : List ℕ → ℕ → List ℕ → List ℕ → Chain
extends_chain s n root block =
    test (usable s) unusable
    (test (ltb 0 n && leb n (file_length s)) rule_broken
    (test (eqb (length block) (over_size (file_length s) n)) wrong_size
    (test (leaf_held s n && eqb (earlier_root s n (last_hash n block)).number 0) no_anchor
    (test (block_held s n block && same (earlier_root s n (last_hash n block)).hash root) differs (last 0)))))

module _ (s : List ℕ) (n : ℕ) (root block : List ℕ) where
  number_tests : extends_number s n root block ≡ decided (extends_chain s n root block)
  unfolding extends_number
  number_tests = refl

  -- what is answered, by the number
  pub answer_0 : extends_number s n root block ≡ 0 → extends_answer s n root block ≡ done n
  unfolding extends_answer
  answer_0 z = rw (eq-eqb (extends_number s n root block) 0 z)

  pub answer_else : (extends_number s n root block ≡ 0 → ⊥) → extends_answer s n root block ≡ refused (extends_number s n root block)
  unfolding extends_answer
  answer_else z = rw (ne_eqb (extends_number s n root block) 0 z)

  pub number_is : (extends_answer s n root block).number ≡ extends_number s n root block
  number_is =
      elim (ℕ_discrete (extends_number s n root block) 0) [
        | yes z ↦ ap (λ (a : Answer). a.number) (answer_0 z) ∙ sym z
        | no z ↦ ap (λ (a : Answer). a.number) (answer_else z)
      ]

  extends_tests : (extends_answer s n root block).number ≡ decided (extends_chain s n root block)
  extends_tests = number_is ∙ number_tests

  -- 9 EXACTLY WHEN the store is unusable
  pub extends_9 : ((extends_answer s n root block).number ≡ unusable) ↔ (usable s ≡ false)
  extends_9 = exactly_of (extends_chain s n root block) unusable extends_tests refl

  -- 3 EXACTLY WHEN the earlier length is 0 or above the store's
  pub extends_3 : ((extends_answer s n root block).number ≡ rule_broken) ↔ ((usable s ≡ true) × (InRange s n → ⊥))
  extends_3 = through (exactly_of (extends_chain s n root block) rule_broken extends_tests refl) (λ u. says_not (range_says s n))

  size_says : (eqb (length block) (over_size (file_length s) n) ≡ true) ↔ (length block ≡ over_size (file_length s) n)
  size_says = (eqb-true (length block) (over_size (file_length s) n), eq-eqb (length block) (over_size (file_length s) n))

  -- 4 EXACTLY WHEN the block has another size
  pub extends_4 : ((extends_answer s n root block).number ≡ wrong_size) ↔ ((usable s ≡ true) × InRange s n × (length block ≡ over_size (file_length s) n → ⊥))
  extends_4 =
      in_turn (exactly_of (extends_chain s n root block) wrong_size extends_tests refl) (
        λ t. (t.0, (range_says s n).0 t.1.0, (says_not size_says).0 t.1.1),
        λ y. (y.0, ((range_says s n).1 y.1, (says_not size_says).1 y.2)),
      )

  -- what is passed before the held hashes
  compared : {A : Type 0} → ((usable s ≡ true) × ((ltb 0 n && leb n (file_length s) ≡ true) × ((eqb (length block) (over_size (file_length s) n) ≡ true) × A))) ↔ (Comparable s n block × A)
  compared = (
    λ t. (record { store = t.0; range = (range_says s n).0 t.1.0; size = size_says.0 t.1.1.0 }, t.1.1.1),
    λ y. (y.0.store, ((range_says s n).1 y.0.range, (size_says.1 y.0.size, y.1))),
  )

  -- 6 EXACTLY WHEN a hash that is needed isn't held
  pub extends_6 : ((extends_answer s n root block).number ≡ no_anchor) ↔ (Comparable s n block × (Needed s n → ⊥))
  extends_6 = through (in_turn (exactly_of (extends_chain s n root block) no_anchor extends_tests refl) compared) (λ C. says_not (needed_says s n block))

  -- 7 EXACTLY WHEN they are, and the block isn't the one held or they lead to another root
  pub extends_7 : ((extends_answer s n root block).number ≡ differs) ↔ (Comparable s n block × Needed s n × (Leads s n root block → ⊥))
  extends_7 =
      in_turn (in_turn (exactly_of (extends_chain s n root block) differs extends_tests refl) compared) (
        λ t. let N = (needed_says s n block).0 t.1.0 in (t.0, N, (says_not (leads_says s n block N root)).0 t.1.1),
        λ y. (y.0, ((needed_says s n block).1 y.1, (says_not (leads_says s n block y.1 root)).1 y.2)),
      )

  -- 0 EXACTLY WHEN they lead to this one
  pub extends_0 : ((extends_answer s n root block).number ≡ 0) ↔ (Comparable s n block × Needed s n × Leads s n root block)
  extends_0 =
      in_turn (in_turn (exactly_of (extends_chain s n root block) 0 extends_tests refl) compared) (
        λ t. let N = (needed_says s n block).0 t.1.0 in (t.0, N, (leads_says s n block N root).0 t.1.1.0),
        λ y. (y.0, ((needed_says s n block).1 y.1, ((leads_says s n block y.1 root).1 y.2, refl))),
      )

  -- NO OTHER NUMBER is given
  pub extends_gives : ExtendsGives (extends_answer s n root block).number
  extends_gives = rw extends_tests (each ExtendsGives (extends_chain s n root block) (is_9, (is_3, (is_4, (is_6, (is_7, is_0))))))

  -- the number is in the table,
  pub extends_in_table : InTable (extends_answer s n root block).number
  extends_in_table = in_table_of (extends_chain s n root block) extends_tests refl

  -- beside 0 stands the earlier length,
  pub extends_done : (extends_answer s n root block).number ≡ 0 → extends_answer s n root block ≡ done n
  extends_done z = answer_0 (sym number_is ∙ z)

  -- and beside a refusal 0
  pub extends_beside : ((extends_answer s n root block).number ≡ 0 → ⊥) → (extends_answer s n root block).count ≡ 0
  extends_beside ne = ap (λ (a : Answer). a.count) (answer_else (λ z. ne (number_is ∙ z)))

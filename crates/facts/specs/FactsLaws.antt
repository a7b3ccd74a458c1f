-- The two answers, by the test that decides.
-- Assumes nothing.
use Rattle.std.specs.Prelude.{List, ◌≡◌, refl, Bool, true, false, cond, ℕ}
use Rattle.std.proofs.Common.{sym, ◌∙◌}
use Rattle.numbers.specs.Numbers.{unusable, InTable}
use Rattle.numbers.specs.Chain.{Chain, last, test, decided, in_table_of}
use Rattle.store.specs.Store.{usable, file_length, piece_length, facts_root, SameFacts}
use Rattle.facts.specs.Facts.{FactsRead, no_facts, facts_of, facts_answer}

pub facts_given : (s : List ℕ) → usable s ≡ true → facts_answer s ≡ facts_of s
unfolding facts_answer
facts_given s u = rw u

pub facts_refused : (s : List ℕ) → usable s ≡ false → facts_answer s ≡ no_facts unusable
unfolding facts_answer
facts_refused s u = rw u

pub facts_read : (s : List ℕ) (n plen : ℕ) (root : List ℕ) → usable s ≡ true → n ≡ file_length s → plen ≡ piece_length s → root ≡ facts_root s
    → record { number = 0; length = n; plen = plen; root = root } ≡ facts_answer s
facts_read s n plen root u a b c = rw (a, b, c, facts_given s u)

-- two stores with the same facts are answered the same
pub facts_same : (s t : List ℕ) → usable s ≡ true → usable t ≡ true → SameFacts s t → facts_answer t ≡ facts_answer s
facts_same s t u v e = sym (facts_read t (file_length s) (piece_length s) (facts_root s) v (sym e.file) (sym e.piece) (sym e.root)) ∙ sym (facts_given s u)

-- 9 or 0, as a chain
abbrev pub facts_chain : List ℕ → Chain
facts_chain s = test (usable s) unusable (last 0)

by_usable : (b : Bool) (f : FactsRead) → f.number ≡ 0 → (cond b f (no_facts unusable)).number ≡ cond b 0 unusable
by_usable true f z = z
by_usable false f z = refl

pub facts_tests : (s : List ℕ) → (facts_answer s).number ≡ decided (facts_chain s)
unfolding facts_answer
facts_tests s = by_usable (usable s) (facts_of s) refl

pub facts_in_table : (s : List ℕ) → InTable (facts_answer s).number
facts_in_table s = in_table_of (facts_chain s) (facts_tests s) refl

by_zeros : (b : Bool) (f : FactsRead) → f.number ≡ 0 → ((cond b f (no_facts unusable)).number ≡ 0 → ⊥) → cond b f (no_facts unusable) ≡ no_facts (cond b f (no_facts unusable)).number
by_zeros true f z ne = absurd (ne z)
by_zeros false f z ne = refl

-- beside a refusal all are zero
pub facts_zeros : (s : List ℕ) → ((facts_answer s).number ≡ 0 → ⊥) → facts_answer s ≡ no_facts (facts_answer s).number
unfolding facts_answer
facts_zeros s ne = by_zeros (usable s) (facts_of s) refl ne

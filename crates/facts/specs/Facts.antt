-- What hosts need: the facts that a store names, 9 or 0 with the file's length, the piece length and the pieces root.
-- Assumes nothing.
use Rattle.std.specs.Prelude.{List, Result, Ok, Err, cond, ℕ}
use Rattle.octets.specs.Octets.{zero_hash}
use Rattle.numbers.specs.Numbers.{unusable}
use Rattle.store.specs.Store.{usable, file_length, piece_length, facts_root}
use Rattle.numbers.specs.declared.Refused.{Refused}
use Rattle.numbers.specs.Refusals.{number_of}
use Rattle.facts.specs.declared.FileFacts.{FileFacts}

-- 0, the file's length, the piece length and the pieces root; or 9 beside zeros
pub record FactsRead : Type 0 where
  pub number : ℕ
  pub length : ℕ
  pub plen : ℕ
  pub root : List ℕ

-- beside a refusal all are zero
abbrev pub no_facts : ℕ → FactsRead
no_facts n = record { number = n; length = 0; plen = 0; root = zero_hash }

-- what a reading gives, as C gets it
abbrev pub as_read : Result FileFacts Refused → FactsRead
as_read (Ok f) = record { number = 0; length = f.length; plen = f.plen; root = f.root }
as_read (Err why) = no_facts (number_of why)

abbrev pub facts_of : List ℕ → FactsRead
facts_of s = record { number = 0; length = file_length s; plen = piece_length s; root = facts_root s }

unfoldable pub facts_answer : List ℕ → FactsRead
facts_answer s = cond (usable s) (facts_of s) (no_facts unusable)

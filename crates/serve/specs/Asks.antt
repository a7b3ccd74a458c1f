-- What the functions below the entry point ask for and answer.
-- Assumes nothing.
use Rattle.std.specs.Prelude.{◌≡◌, Result, Ok, Err, List, cond, ℕ, ◌+◌, ◌*◌, ◌^◌, ◌≤◌, length, leb}
use Rattle.limits.specs.Limits.{tallest_tree}
use Rattle.octets.specs.Octets.{pasted}
use Rattle.numbers.specs.Numbers.{refused, no_room}
use Rattle.numbers.specs.declared.Answer.{Answer}
use Rattle.numbers.specs.declared.Refused.{Refused}
use Rattle.numbers.specs.Refusals.{number_of}
use Rattle.messages.specs.Take.{place_in}
use Rattle.serve.specs.Serve.{request_number}
use Rattle.header.specs.declared.Place.{Place}

-- a store of ls bytes has the cells of the place's run and of its uncles, and both are few
pub record Reach (ls : ℕ) (p : Place) : Type 0 where
  pub run : 31 + 33 * (p.top * 2 ^ p.k + 2 ^ p.k) ≤ ls
  pub uncles : 31 + 33 * (p.top + 2) ≤ ls
  pub few : p.k + p.u ≤ tallest_tree

-- the answer with a number and its message, or 11 if that doesn't fit
unfoldable pub fit_answer : ℕ → List ℕ → List ℕ → Answer
fit_answer number sent out = cond (leb (length sent) (length out)) (record { number = number; count = length sent }) (refused no_room)

unfoldable pub fit_after : List ℕ → List ℕ → List ℕ
fit_after sent out = cond (leb (length sent) (length out)) (pasted out 0 sent) out

-- what a request gets: its place, where it is answered by hashes; else the number
abbrev pub Asked : List ℕ → List ℕ → Result Place Refused → Type 0
Asked s m (Ok p) = (request_number s m ≡ 0) × (p ≡ place_in s m)
Asked s m (Err why) = number_of why ≡ request_number s m

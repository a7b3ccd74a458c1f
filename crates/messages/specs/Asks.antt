-- What the functions below the entry points ask for and answer: what is sure of a message after each group of tests.
-- Assumes nothing.
use Rattle.std.specs.Prelude.{◌≡◌, Bool, true, cond, List, ℕ, ◌+◌, ◌*◌, ◌^◌, ◌≤◌, ◌<◌, eqb}
use Rattle.limits.specs.Limits.{tallest_tree, longest_run}
use Rattle.octets.specs.Octets.{same}
use Rattle.numbers.specs.declared.Answer.{Answer}
use Rattle.numbers.specs.Numbers.{no_message, other_root, unusable, judged, refused, done}
use Rattle.cells.specs.Cells.{hash_at}
use Rattle.cells.specs.Entries.{Entry, agrees, put_all, fresh}
use Rattle.store.specs.Store.{usable, facts_root, height_of, positions}
use Rattle.settling.specs.Span.{Within}
use Rattle.settling.specs.Path.{ancestor}
use Rattle.header.specs.declared.Header.{Header}
use Rattle.header.specs.declared.Place.{Place}
use Rattle.header.specs.Header.{header_size, message_root, header_of, rules_kept, message_size}
use Rattle.messages.specs.Take.{settled, worked}

-- 9, 1, 2: the tests before the header is read
unfoldable pub first_number : Bool → List ℕ → List ℕ → ℕ
first_number form s m = cond (usable s) (cond form (cond (same (facts_root s) (message_root m)) 0 other_root) no_message) unusable

-- a message that passes 9, 1, 2 and 3
pub record RulesPassed (form : Bool) (s m : List ℕ) : Type 0 where
  pub store : usable s ≡ true
  pub formed : form ≡ true
  pub root : same (facts_root s) (message_root m) ≡ true
  pub rules : rules_kept (header_of m) (height_of s) ≡ true

-- the place of a header that keeps the rules, in a tree of height h
pub record Placed (h : ℕ) (x : Header) (p : Place) : Type 0 where
  pub power : 2 ^ p.k ≡ x.len
  pub some : 2 ≤ x.len
  pub most : x.len ≤ longest_run
  pub index : x.index < 2 ^ 32
  pub top : Within (positions h) p.k p.top
  pub anchor : 1 ≤ ancestor p.u p.top
  pub layers : x.base + p.k + p.u ≤ tallest_tree
  pub size : message_size x ≡ header_size + 32 * (x.len + p.u)
  pub low : h ≤ tallest_tree

-- a message of lm bytes carries the run and the uncles
pub record Carried (lm : ℕ) (x : Header) (p : Place) : Type 0 where
  pub power : 2 ^ p.k ≡ x.len
  pub some : 2 ≤ x.len
  pub most : x.len ≤ longest_run
  pub index : x.index < 2 ^ 32
  pub layers : x.base + p.k + p.u ≤ tallest_tree
  pub carries : header_size + 32 * (x.len + p.u) ≤ lm

-- and a store of ls bytes has the positions of a tree of height h, the run's and the path's among them
pub record Ready (ls lm h : ℕ) (x : Header) (p : Place) : Type 0 where
  pub carried : Carried lm x p
  pub room : 31 + 33 * positions h ≤ ls
  pub top : Within (positions h) p.k p.top
  pub anchor : 1 ≤ ancestor p.u p.top
  pub low : h ≤ tallest_tree

-- ---- what is answered and left

-- 7, 8 or 0, where position a is held and its value is worked out
abbrev pub compared : List ℕ → List ℕ → Place → ℕ → ℕ
compared s m p a = judged true (same (hash_at s a) (worked m p)) (agrees s (settled m p))

-- the answer with number n, where entries are to be taken: on 0 those count that were not held
unfoldable pub answer_to : ℕ → List ℕ → List Entry → Answer
answer_to n s es = cond (eqb n 0) (done (fresh s es)) (refused n)

-- and the store: on 0 all of them are held; any other number changes nothing
unfoldable pub left_by : ℕ → List ℕ → List Entry → List ℕ
left_by n s es = cond (eqb n 0) (put_all s es) s

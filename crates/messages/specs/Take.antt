-- 01, "The hash messages" and "Numbers given back": what a message gets, in the order 9, 1, 2, 3, 4, 5, 6, 7, 8, and what it leaves.
-- Assumes nothing.
use Rattle.std.specs.Prelude.{List, ◌++◌, Bool, cond, ◌&&◌, ℕ, ◌+◌, ◌*◌, ◌/◌, ◌^◌, length, eqb}
use Rattle.octets.specs.Octets.{cut, same, zero_hash}
use Rattle.numbers.specs.Numbers.{no_message, other_root, rule_broken, wrong_size, wrong_padding, unusable, judged}
use Rattle.numbers.specs.declared.Answer.{Answer}
use Rattle.tree.specs.Values.{node}
use Rattle.cells.specs.Cells.{held_at, hash_at}
use Rattle.cells.specs.Entries.{Entry, agrees, put_all, newly}
use Rattle.store.specs.Store.{usable, facts_root, blocks_of, height_of, positions}
use Rattle.settling.specs.Subtree.{subtree, run_leaf}
use Rattle.settling.specs.Path.{ancestor, risen, path}
use Rattle.header.specs.declared.Header.{Header}
use Rattle.header.specs.declared.Place.{Place}
use Rattle.header.specs.Header.{header_size, message_root, header_of, is_hashes, is_reject, rules_kept, place_of, message_size}
use Rattle.messages.specs.Padded.{run_padded, uncles_padded}

-- 9, 1, 2, 3: the same for every message, but for its form
unfoldable pub header_number : Bool → List ℕ → List ℕ → ℕ
header_number form s m =
    cond (usable s)
    (cond form
    (cond (same (facts_root s) (message_root m)) (cond (rules_kept (header_of m) (height_of s)) 0 rule_broken) other_root)
    no_message)
    unusable

-- ---- a hashes message

-- the base run, then one uncle at each layer from its top upward
unfoldable pub run_of : List ℕ → ℕ → List ℕ
run_of m len = cut m header_size (32 * len)

unfoldable pub uncles_of : List ℕ → ℕ → ℕ → List ℕ
uncles_of m len u = cut m (header_size + 32 * len) (32 * u)

-- hash j of the base run
unfoldable pub given : List ℕ → ℕ → ℕ → List ℕ
given m k = run_leaf (run_of m (2 ^ k)) zero_hash

-- what the message settles: given hashes, their parents, the anchor
unfoldable pub settled : List ℕ → Place → List Entry
settled m p =
    subtree (given m p.k) p.k p.top 0
    ++ path (uncles_of m (2 ^ p.k) p.u) 0 p.u p.top (node (given m p.k) p.k 0)

-- the anchor's position, and its value as worked out
unfoldable pub anchor : Place → ℕ
anchor p = ancestor p.u p.top

unfoldable pub worked : List ℕ → Place → List ℕ
worked m p = risen (uncles_of m (2 ^ p.k) p.u) 0 p.u p.top (node (given m p.k) p.k 0)

-- each given hash at a padding position has its layer's padding value, for a file of b blocks
unfoldable pub padded : List ℕ → Header → Place → ℕ → Bool
padded m x p b =
    run_padded (run_of m x.len) b x.base x.index x.len
    && uncles_padded (uncles_of m x.len p.u) b 0 p.u (x.base + p.k) (x.index / x.len)

-- 6, 7, 8 or 0: the anchor held, its value as worked out, no held hash different
unfoldable pub anchored : List ℕ → List ℕ → Place → ℕ
anchored s m p = judged (held_at s (anchor p)) (same (hash_at s (anchor p)) (worked m p)) (agrees s (settled m p))

-- 4, 5, then 6, 7, 8 or 0
unfoldable pub body_number : List ℕ → List ℕ → Header → Place → ℕ
body_number s m x p =
    cond (eqb (length m) (message_size x)) (cond (padded m x p (blocks_of s)) (anchored s m p) wrong_padding) wrong_size

abbrev pub place_in : List ℕ → List ℕ → Place
place_in s m = place_of (header_of m) (height_of s)

-- a number that is 0 lets the next one decide
abbrev pub or_else : ℕ → ℕ → ℕ
or_else n next = cond (eqb n 0) next n

unfoldable pub take_number : List ℕ → List ℕ → ℕ
take_number s m = or_else (header_number (is_hashes m) s m) (body_number s m (header_of m) (place_in s m))

-- on 0 all settled positions are held; a refusal changes nothing
unfoldable pub take_after : List ℕ → List ℕ → List ℕ
take_after s m = cond (eqb (take_number s m) 0) (put_all s (settled m (place_in s m))) s

-- the count is the positions held after and not before
unfoldable pub take_answer : List ℕ → List ℕ → Answer
take_answer s m = record { number = take_number s m; count = newly (positions (height_of s)) s (take_after s m) }

-- ---- a reject that comes in: it changes nothing

unfoldable pub reject_answer : List ℕ → List ℕ → Answer
reject_answer s m = record { number = header_number (is_reject m) s m; count = 0 }

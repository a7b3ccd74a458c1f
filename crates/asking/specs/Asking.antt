-- 02, request 11: the next request for a layer: the base run that contains the lowest wanted position not held, its length the limit or
-- the whole layer if that is smaller, with the fewest proof layers whose anchor is held.
-- Assumes nothing.
use Rattle.std.specs.Prelude.{List, Option, Some, None, Result, Ok, Err, ◌∷◌, ◌++◌, Bool, cond, ◌&&◌, ◌||◌, ℕ, zero, suc, ◌+◌, ◌-◌, ◌*◌, ◌/◌, ◌^◌, min, replicate, eqb, ltb}
use Rattle.limits.specs.Limits.{longest_run}
use Rattle.octets.specs.Octets.{be}
use Rattle.numbers.specs.Numbers.{rule_broken, no_anchor, unusable}
use Rattle.numbers.specs.Refusals.{number_of}
use Rattle.numbers.specs.declared.Refused.{Refused}
use Rattle.tree.specs.Geometry.{log2, covering, node_number, piece_layer, has_layer}
use Rattle.cells.specs.Cells.{held_at}
use Rattle.store.specs.Store.{usable, file_length, piece_length, facts_root, blocks_of, height_of}
use Rattle.header.specs.Header.{request_id, header_size}
use Rattle.header.specs.declared.Header.{Header}
use Rattle.asking.specs.declared.next.Request.{Request}

-- the layers that may be asked for: 0, and the piece layer p if the file has one
unfoldable pub layer_asked : List ℕ → ℕ → Bool
layer_asked s l = eqb l 0 || (eqb l (piece_layer (piece_length s)) && has_layer (file_length s) (piece_length s))

-- 9, 3, then 6 for a store whose root isn't held
unfoldable pub next_number : List ℕ → ℕ → ℕ
next_number s l = cond (usable s) (cond (layer_asked s l) (cond (held_at s 1) 0 no_anchor) rule_broken) unusable

-- how many positions of layer l are wanted: those that aren't padding, which stand before the others
unfoldable pub wanted : List ℕ → ℕ → ℕ
wanted s l = covering (blocks_of s) l

-- of the c positions from number n on, how many stand before the first that isn't held
unfoldable pub held_front : List ℕ → ℕ → ℕ → ℕ
held_front s n zero = 0
held_front s n (suc c) = cond (held_at s n) (suc (held_front s (suc n) c)) 0

-- the index of the lowest wanted position not held; as many as are wanted, if all are held
unfoldable pub lowest : List ℕ → ℕ → ℕ
lowest s l = held_front s (node_number (height_of s) l 0) (wanted s l)

-- a base run's length: the limit, or the whole layer if that is smaller
unfoldable pub run_length : ℕ → ℕ → ℕ
run_length h l = min longest_run (2 ^ (h - l))

-- in a store's tree: how long a run of layer l is, and how many layers it has above its own
abbrev pub run_of : List ℕ → ℕ → ℕ
run_of s l = run_length (height_of s) l

abbrev pub run_layers : List ℕ → ℕ → ℕ
run_layers s l = log2 (run_of s l)

-- from position n upward, t layers at most: how many layers up the first held one stands
unfoldable pub uncles_needed : List ℕ → ℕ → ℕ → ℕ
uncles_needed s zero n = 0
uncles_needed s (suc t) n = cond (held_at s n) 0 (suc (uncles_needed s t (n / 2)))

-- the fewest proof layers that give u uncles beside a run of 2^k hashes
unfoldable pub proof_for : ℕ → ℕ → ℕ
proof_for k zero = 0
proof_for k (suc u) = k + u

-- run j of layer l, the positions from j·length on: its top, and the header that asks for it
unfoldable pub run_top : List ℕ → ℕ → ℕ → ℕ
run_top s l j = node_number (height_of s) (l + run_layers s l) j

unfoldable pub run_header : List ℕ → ℕ → ℕ → Header
run_header s l j =
    record {
      base = l;
      index = j * run_of s l;
      len = run_of s l;
      proof = proof_for (run_layers s l) (uncles_needed s (height_of s - (l + run_layers s l)) (run_top s l j));
    }

-- the run that contains the lowest wanted position not held, and its header
abbrev pub next_run : List ℕ → ℕ → ℕ
next_run s l = lowest s l / run_of s l

unfoldable pub next_header : List ℕ → ℕ → Header
next_header s l = run_header s l (next_run s l)

-- a request's 49 bytes: id, pieces root, then base layer, index, length, proof layers, each 32-bit big-endian
unfoldable pub request_bytes : List ℕ → Header → List ℕ
request_bytes root x = request_id ∷ (root ++ (be 4 x.base ++ (be 4 x.index ++ (be 4 x.len ++ be 4 x.proof))))

-- the answer with a number and nothing to ask: all else is zero
abbrev pub no_request : ℕ → Request
no_request n = record { number = n; asks = 0; base = 0; index = 0; len = 0; proof = 0; message = replicate header_size 0 }

-- the answer with the request for a header
abbrev pub request_for : List ℕ → Header → Request
request_for root x = record { number = 0; asks = 1; base = x.base; index = x.index; len = x.len; proof = x.proof; message = request_bytes root x }

-- what a number, or a request or none, gives C
abbrev pub request_of : Result (Option Request) Refused → Request
request_of (Ok (Some request)) = request
request_of (Ok None) = no_request 0
request_of (Err why) = no_request (number_of why)

unfoldable pub next_answer : List ℕ → ℕ → Request
next_answer s l =
    cond (eqb (next_number s l) 0)
    (cond (ltb (lowest s l) (wanted s l)) (request_for (facts_root s) (next_header s l)) (no_request 0))
    (no_request (next_number s l))

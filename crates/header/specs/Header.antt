-- 01, "The hash messages": the 49 bytes before the hashes, the rules that a header keeps against a file's height h, and the place
-- in the tree that it names.
--
--   layer 3                   anchor                   base layer 0, index 4, length 2, proof layers 2:
--   layer 2           uncle               o            the run is 4 and 5, its top position 2 of layer 1; the uncles are
--   layer 1                           top     uncle    the positions beside the path from the top to the anchor, lowest first;
--   layer 0                         run run            o is worked out on the way
-- Assumes nothing.
use Rattle.std.specs.Prelude.{List, Bool, ◌&&◌, ◌≡◌, ℕ, ◌+◌, ◌-◌, ◌*◌, ◌/◌, ◌%◌, ◌^◌, ◌≤◌, ◌<◌, length, get_or, leb, ltb, eqb}
use Rattle.octets.specs.Octets.{cut, number_at}
use Rattle.limits.specs.Limits.{longest_run}
use Rattle.tree.specs.Geometry.{log2, node_number}
use Rattle.header.specs.declared.Header.{Header}
use Rattle.header.specs.declared.Place.{Place}

-- the ids of the three messages
abbrev pub request_id : ℕ
request_id = 21

abbrev pub hashes_id : ℕ
hashes_id = 22

abbrev pub reject_id : ℕ
reject_id = 23

-- id byte, pieces root, then base layer, index, length, proof layers, each 32-bit big-endian
abbrev pub header_size : ℕ
header_size = 49

abbrev pub message_id : List ℕ → ℕ
message_id m = get_or m 0 0

-- the 48 bytes behind the id
abbrev pub header_bytes : List ℕ → List ℕ
header_bytes m = cut m 1 48

unfoldable pub message_root : List ℕ → List ℕ
message_root m = cut m 1 32

unfoldable pub header_of : List ℕ → Header
header_of m = record { base = number_at m 33 4; index = number_at m 37 4; len = number_at m 41 4; proof = number_at m 45 4 }

-- a hashes message has its header at least; a request and a reject have nothing more
unfoldable pub is_hashes : List ℕ → Bool
is_hashes m = leb header_size (length m) && eqb (message_id m) hashes_id

unfoldable pub is_request : List ℕ → Bool
is_request m = eqb (length m) header_size && eqb (message_id m) request_id

unfoldable pub is_reject : List ℕ → Bool
is_reject m = eqb (length m) header_size && eqb (message_id m) reject_id

-- four numbers of 32 bits
pub record Small (x : Header) : Type 0 where
  pub base : x.base < 2 ^ 32
  pub index : x.index < 2 ^ 32
  pub len : x.len < 2 ^ 32
  pub proof : x.proof < 2 ^ 32

-- length is a power of two, from 2 to the longest run
unfoldable pub length_rule : ℕ → Bool
length_rule len = eqb (2 ^ log2 len) len && leb 2 len && leb len longest_run

-- index + length is at most 2^(h - base): the run ends within its layer, whose last positions may be padding; base is at most h by
-- another rule
unfoldable pub index_rule : Header → ℕ → Bool
index_rule x h = leb (x.index + x.len) (2 ^ (h - x.base))

-- index is a multiple of length; base + log2(length) is at most h; base + proof layers is at most h - 1
unfoldable pub rules_kept : Header → ℕ → Bool
rules_kept x h =
    length_rule x.len && eqb (x.index % x.len) 0 && leb (x.base + log2 x.len) h && ltb (x.base + x.proof) h && index_rule x h

-- a header that keeps the rules, one by one
pub record Kept (x : Header) (h : ℕ) : Type 0 where
  pub power : 2 ^ log2 x.len ≡ x.len
  pub two : 2 ≤ x.len
  pub most : x.len ≤ longest_run
  pub multiple : x.index % x.len ≡ 0
  pub within : x.base + log2 x.len ≤ h
  pub above : x.base + x.proof < h
  pub inside : x.index + x.len ≤ 2 ^ (h - x.base)

-- the uncles: the proof layers less those that the run itself gives
abbrev pub uncle_count : Header → ℕ
uncle_count x = x.proof - (log2 x.len - 1)

-- log2(length), the uncles u, and the top of the run, whose layer is base + log2(length)
unfoldable pub place_of : Header → ℕ → Place
place_of x h =
    record {
      k = log2 x.len;
      u = uncle_count x;
      top = node_number h (x.base + log2 x.len) (x.index / x.len);
    }

-- a hashes message carries length + u hashes
unfoldable pub message_size : Header → ℕ
message_size x = header_size + 32 * (x.len + uncle_count x)

-- 01, "Numbers given back": what stands beside a number. (The table: crates/numbers, file Numbers.)
-- Assumes nothing.
use Rattle.std.specs.Prelude.{◌≡◌, List, ◌⊎◌, ℕ, ◌*◌, ◌^◌, ◌≤◌, length}
use Rattle.octets.specs.Octets.{pasted, zero_hash}
use Rattle.numbers.specs.Numbers.{refused}
use Rattle.numbers.specs.declared.Answer.{Answer}
use Rattle.limits.specs.Limits.{longest_file}
use Rattle.tree.specs.Geometry.{block_length}
use Rattle.header.specs.Header.{header_size}
use Rattle.serve.specs.Serve.{reply_to, reject_to, serve_answer, serve_after}
use Rattle.asking.specs.Asking.{no_request}
use Rattle.asking.specs.Picking.{no_piece}
use Rattle.facts.specs.Facts.{no_facts}
use Rattle.words.specs.Messages.{Rejected}
use Rattle.words.specs.History.{Send, serve, bitfield, Look, ask, send, Call, take, load_layer, judge_block, judge_piece, judge_hybrid_piece, clear, reopen, look, Reply, with_count, with_hash, with_request, with_piece, with_facts, reply_number, save, piece_hashes, load, repair, with_counts}

-- with this number the call gets a reject: it is a request, and the number 2, 3 or 12
abbrev pub SentReject : Send → ℕ → Type 0
SentReject (serve m b) n = Rejected n
SentReject bitfield n = ⊥
SentReject save n = ⊥
SentReject (piece_hashes i d b) n = ⊥

abbrev pub LookRejected : Look → ℕ → Type 0
LookRejected (ask k) n = ⊥
LookRejected (send k out b) n = SentReject k n

abbrev pub GetsReject : Call → ℕ → Type 0
GetsReject (take m b) n = ⊥
GetsReject (load_layer l b) n = ⊥
GetsReject (judge_block i d b) n = ⊥
GetsReject (judge_piece i d b) n = ⊥
GetsReject (judge_hybrid_piece i d v z b o) n = ⊥
GetsReject (clear i) n = ⊥
GetsReject (reopen k plen root o) n = ⊥
GetsReject (load b x) n = ⊥
GetsReject (repair b x) n = ⊥
GetsReject (look k) n = LookRejected k n

-- all that stands beside the number is zero: a count or a size, a hash's 32 bytes, a request, a piece's number, the counts of a repair, facts
abbrev pub Zeros : Reply → Type 0
Zeros (with_count a) = a.count ≡ 0
Zeros (with_hash h) = h.hash ≡ zero_hash
Zeros (with_request r) = r ≡ no_request r.number
Zeros (with_piece c) = c ≡ no_piece c.number
Zeros (with_counts r) = (r.dropped ≡ 0) × (r.held ≡ 0)
Zeros (with_facts f) = f ≡ no_facts f.number

-- what stands beside a refusal: the reject's size beside a reject, else zeros
pub data Beside : Call → Reply → Type 0 where
  reject : {c : Call} {a : Answer} → GetsReject c a.number → a.count ≡ header_size → Beside c (with_count a)
  zeros : {c : Call} {r : Reply} → (GetsReject c (reply_number r) → ⊥) → Zeros r → Beside c r

-- what a request is answered with
pub data ServeOutcome (s m out : List ℕ) : Type 0 where
  -- the hashes message, and its size
  replied : serve_answer s m out ≡ record { number = 0; count = length (reply_to s m) } → serve_after s m out ≡ pasted out 0 (reply_to s m) → ServeOutcome s m out
  -- 2, 3 or 12 with a reject, of a header's size
  rejected : (n : ℕ) → Rejected n → serve_answer s m out ≡ record { number = n; count = header_size } → serve_after s m out ≡ pasted out 0 (reject_to m) → ServeOutcome s m out
  -- 9, 1 or 11: no byte changes, the size is zero
  untouched : (n : ℕ) → (n ≡ 9) ⊎ ((n ≡ 1) ⊎ (n ≡ 11)) → serve_answer s m out ≡ refused n → serve_after s m out ≡ out → ServeOutcome s m out

-- N is 1 to the longest file's, and the piece length 16384·2^p for a p up to 10, which is a power of two, 16384 to 16777216
pub record InRange (n plen : ℕ) : Type 0 where
  pub some : 1 ≤ n
  pub most : n ≤ longest_file
  pub p : ℕ
  pub small : p ≤ 10
  pub power : plen ≡ block_length * 2 ^ p

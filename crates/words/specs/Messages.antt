-- 01, "The hash messages": what a message says, by layer and index and from its bytes alone; what decides its number; what a request
-- asks for and is answered with.
-- Assumes nothing.
use Rattle.std.specs.Prelude.{◌≡◌, true, List, ◌⊎◌, ℕ, suc, ◌+◌, ◌*◌, ◌/◌, ◌%◌, ◌^◌, ◌≤◌, ◌<◌, length}
use Rattle.octets.specs.Octets.{cut}
use Rattle.numbers.specs.Numbers.{other_root, rule_broken, not_held}
use Rattle.sha256.specs.Sha256.{pair_hash}
use Rattle.tree.specs.Geometry.{Padding, log2}
use Rattle.tree.specs.Values.{pad_value}
use Rattle.store.specs.Store.{usable, facts_root, blocks_of, height_of}
use Rattle.settling.specs.Path.{sibling}
use Rattle.header.specs.Header.{request_id, hashes_id, header_size, message_id, header_of, message_root, is_hashes, is_request, is_reject, message_size, Kept, uncle_count}
use Rattle.messages.specs.Take.{take_answer, reject_answer}
use Rattle.serve.specs.Serve.{serve_answer, serve_after}
use Rattle.words.specs.Held.{Holds, Lacks, NoneDiffers, OneDiffers}

-- ---- its positions

-- u, how many uncles it has: proof layers − (log2(length) − 1), or 0 if that is negative
abbrev pub uncles_in : List ℕ → ℕ
uncles_in m = uncle_count (header_of m)

-- hash j of a message: the base run, then the uncles
abbrev pub hash_in : List ℕ → ℕ → List ℕ
hash_in m j = cut m (header_size + 32 * j) 32

-- the run's top: its layer, base + log2(length), and its index there
abbrev pub top_layer : List ℕ → ℕ
top_layer m = (header_of m).base + log2 (header_of m).len

abbrev pub top_index : List ℕ → ℕ
top_index m = (header_of m).index / (header_of m).len

-- the anchor's layer, base + log2(length) + u, and the index of the path's position there
abbrev pub anchor_layer : List ℕ → ℕ
anchor_layer m = top_layer m + uncles_in m

abbrev pub anchor_index : List ℕ → ℕ
anchor_index m = top_index m / 2 ^ uncles_in m

-- the message settles position i of layer l with hash v: it gives it, in the base run or as an uncle, which stands beside the
-- path's position of its layer; or it settles both children, left and right, and v is the hash of the two
pub data Settles (m : List ℕ) : ℕ → ℕ → List ℕ → Type 0 where
  in_run : (j : ℕ) → j < (header_of m).len → Settles m (header_of m).base ((header_of m).index + j) (hash_in m j)
  as_uncle : (j : ℕ) → j < uncles_in m → Settles m (top_layer m + j) (sibling (top_index m / 2 ^ j)) (hash_in m ((header_of m).len + j))
  parent : (l i : ℕ) (x y : List ℕ) → Settles m l (2 * i) x → Settles m l (2 * i + 1) y → Settles m (suc l) i (pair_hash x y)

-- ---- what its hashes lead to

-- the c hashes from number a on make the hash v: one makes itself; two neighbouring runs of one size make the hash of left then right
pub data Makes (leaf : ℕ → List ℕ) : ℕ → ℕ → List ℕ → Type 0 where
  alone : (a : ℕ) → Makes leaf a 1 (leaf a)
  pair : (a c : ℕ) (x y : List ℕ) → Makes leaf a c x → Makes leaf (a + c) c y → Makes leaf a (c + c) (pair_hash x y)

-- hash v at position n leads to w by u uncles, from number i on: a left child, whose number is even, is hashed before its uncle, a
-- right child after it
pub data Climbs (uncles : ℕ → List ℕ) : ℕ → ℕ → ℕ → List ℕ → List ℕ → Type 0 where
  there : (i n : ℕ) (v : List ℕ) → Climbs uncles i 0 n v v
  left : (i u n : ℕ) (v w : List ℕ) → n % 2 ≡ 0 → Climbs uncles (i + 1) u (n / 2) (pair_hash v (uncles i)) w → Climbs uncles i (suc u) n v w
  right : (i u n : ℕ) (v w : List ℕ) → n % 2 ≡ 1 → Climbs uncles (i + 1) u (n / 2) (pair_hash (uncles i) v) w → Climbs uncles i (suc u) n v w

-- the base run makes a hash that leads to w by the message's uncles, the path going up from the run's index
pub record ChainsTo (m w : List ℕ) : Type 0 where
  pub top : List ℕ
  pub run : Makes (hash_in m) 0 (header_of m).len top
  pub climb : Climbs (λ j. hash_in m ((header_of m).len + j)) 0 (uncles_in m) (top_index m) top w

-- ---- how far a message comes: each passes what stands before it

-- a hashes message by its form: its header's 49 bytes at least, and its id
pub record HashesForm (m : List ℕ) : Type 0 where
  pub long : header_size ≤ length m
  pub id : message_id m ≡ hashes_id

-- below 49 bytes, or another id
abbrev pub OtherForm : List ℕ → Type 0
OtherForm m = (length m < header_size) ⊎ (message_id m ≡ hashes_id → ⊥)

-- it passes 9 and 1
pub record Readable (s m : List ℕ) : Type 0 where
  pub store : usable s ≡ true
  pub form : HashesForm m

-- and 2
pub record Addressed (s m : List ℕ) : Type 0 where
  pub store : usable s ≡ true
  pub form : HashesForm m
  pub root : facts_root s ≡ message_root m

-- and 3
pub record Ruled (s m : List ℕ) : Type 0 where
  pub store : usable s ≡ true
  pub form : HashesForm m
  pub root : facts_root s ≡ message_root m
  pub rules : Kept (header_of m) (height_of s)

-- a well-formed message has the size that its header fixes, and so passes 4 too
pub record WellFormed (s m : List ℕ) : Type 0 where
  pub ruled : Ruled s m
  pub size : length m ≡ message_size (header_of m)

-- ---- what decides a well-formed message

-- every padding position that the message settles has the padding value of its layer
abbrev pub PaddingRight : List ℕ → List ℕ → Type 0
PaddingRight s m = (l i : ℕ) (v : List ℕ) → Settles m l i v → Padding (blocks_of s) l i → v ≡ pad_value l

-- one has another value
pub record PaddingWrong (s m : List ℕ) : Type 0 where
  pub l : ℕ
  pub i : ℕ
  pub v : List ℕ
  pub settles : Settles m l i v
  pub padding : Padding (blocks_of s) l i
  pub other : v ≡ pad_value l → ⊥

-- its anchor is held with w; it is not held
abbrev pub AnchorIs : List ℕ → List ℕ → List ℕ → Type 0
AnchorIs s m w = Holds s (anchor_layer m) (anchor_index m) w

abbrev pub AnchorLacks : List ℕ → List ℕ → Type 0
AnchorLacks s m = Lacks s (anchor_layer m) (anchor_index m)

-- 0: its padding is right, its hashes chain to its anchor, which is held, and no held hash differs
pub record Acceptable (s m : List ℕ) : Type 0 where
  pub padding : PaddingRight s m
  pub w : List ℕ
  pub held : AnchorIs s m w
  pub chains : ChainsTo m w
  pub agree : NoneDiffers s (Settles m)

-- 6: its padding is right, its anchor is not held
pub record Unanchored (s m : List ℕ) : Type 0 where
  pub padding : PaddingRight s m
  pub lacks : AnchorLacks s m

-- 7: its padding is right, its anchor is held, and its hashes don't chain to it
pub record Elsewhere (s m : List ℕ) : Type 0 where
  pub padding : PaddingRight s m
  pub w : List ℕ
  pub held : AnchorIs s m w
  pub other : ChainsTo m w → ⊥

-- 8: its padding is right, its hashes chain to its anchor, which is held, and a held hash differs
pub record Conflicting (s m : List ℕ) : Type 0 where
  pub padding : PaddingRight s m
  pub w : List ℕ
  pub held : AnchorIs s m w
  pub chains : ChainsTo m w
  pub one : OneDiffers s (Settles m)

-- ---- requests and rejects

-- exactly 49 bytes, and this id
pub record Form (id : ℕ) (m : List ℕ) : Type 0 where
  pub size : length m ≡ header_size
  pub first : message_id m ≡ id

-- a request or a reject, by its id, that passes 9, 1, 2 and 3
pub record ValidHeader (id : ℕ) (s m : List ℕ) : Type 0 where
  pub store : usable s ≡ true
  pub form : Form id m
  pub root : facts_root s ≡ message_root m
  pub rules : Kept (header_of m) (height_of s)

-- kd_held gives every hash that the request asks for: the run's, and the uncles'
pub record AllGiven (s m : List ℕ) : Type 0 where
  pub run : (j : ℕ) → j < (header_of m).len → (v : List ℕ) × Holds s (header_of m).base ((header_of m).index + j) v
  pub uncles : (j : ℕ) → j < uncles_in m → (v : List ℕ) × Holds s (top_layer m + j) (sibling (top_index m / 2 ^ j)) v

-- a request that gets a reject
abbrev pub Rejected : ℕ → Type 0
Rejected n = (n ≡ other_root) ⊎ ((n ≡ rule_broken) ⊎ (n ≡ not_held))

-- a request is due a reject: for another root (2), for a header rule (3), or for a hash that is not held (12)
pub data RejectDue (s m : List ℕ) : Type 0 where
  for_root : usable s ≡ true → Form request_id m → (facts_root s ≡ message_root m → ⊥) → RejectDue s m
  for_rule : usable s ≡ true → Form request_id m → facts_root s ≡ message_root m → (Kept (header_of m) (height_of s) → ⊥) → RejectDue s m
  for_hash : ValidHeader request_id s m → (AllGiven s m → ⊥) → RejectDue s m

-- and the output has no room for what it is due (11)
pub data NoRoomFor (s m out : List ℕ) : Type 0 where
  for_reply : ValidHeader request_id s m → AllGiven s m → length out < message_size (header_of m) → NoRoomFor s m out
  for_reject : RejectDue s m → length out < header_size → NoRoomFor s m out

-- a message refused 3, in whichever of the three forms it comes, a request with room for the reject
pub record Refused3 (s m : List ℕ) : Type 0 where
  pub hashes : is_hashes m ≡ true → (take_answer s m).number ≡ rule_broken
  pub request : (out : List ℕ) → is_request m ≡ true → header_size ≤ length out → (serve_answer s m out).number ≡ rule_broken
  pub reject : is_reject m ≡ true → (reject_answer s m).number ≡ rule_broken

-- the bytes of the output that the answer counts
abbrev pub sent : List ℕ → List ℕ → List ℕ → List ℕ
sent s m out = cut (serve_after s m out) 0 (serve_answer s m out).count

-- 02, request 11, sentence by sentence: what to ask for next, and which piece to fetch. Its words: crates/words, file Asking. Neither call writes:
-- both are lent the store as `&`.
-- Assumes nothing.
use Rattle.std.specs.Prelude.{◌≡◌, true, false, List, ◌↔◌, ◌⊎◌, ℕ, ◌+◌, ◌-◌, ◌^◌, ◌≤◌, ◌<◌, min, length}
use Rattle.limits.specs.Limits.{longest_run}
use Rattle.numbers.specs.Numbers.{rule_broken, wrong_size, no_anchor, unusable, InTable}
use Rattle.tree.specs.Geometry.{ceil_div, piece_count}
use Rattle.store.specs.Store.{usable, file_length, piece_length, facts_root, height_of}
use Rattle.store.specs.StoreLaws.{usable_facts}
use Rattle.marks.specs.Marks.{piece_marked}
use Rattle.header.specs.Header.{header_of, message_root, is_request, message_size, Kept}
use Rattle.messages.specs.Take.{take_answer, reject_answer}
use Rattle.serve.specs.Serve.{serve_answer}
use Rattle.asking.specs.Asking.{wanted, run_of, no_request, next_answer}
use Rattle.asking.specs.Picking.{no_piece, pick_answer}
use Rattle.words.specs.Held.{Holds, Lacks}
use Rattle.words.specs.Messages.{anchor_layer, anchor_index, sent}
use Rattle.words.specs.History.{OurStore, SameStore, Steps}
use Rattle.words.specs.Shown.{held_by, Shown}
use Rattle.words.specs.Marks.{SameButMarks}
use Rattle.words.specs.Asking.{MayAsk, Wanted, LowestLacking, HeaderOf, Answered, HoldsFrom, CountEach, OnDisk, Picked, not_on_disk, Fetched, SameButHashes}

-- ---- "After 9, a layer number other than 0 and p is answered 3, and so is p above 0 if the file has no piece layer; then a store whose root isn't
-- held, 6."

module _ (s : List ℕ) (l : ℕ) where
  pub next_9 : ((next_answer s l).number ≡ unusable) ↔ (usable s ≡ false)
  next_9 = Rattle.knowledge.specs.AskingNumbers.next_9 s l

  pub next_3 : ((next_answer s l).number ≡ rule_broken) ↔ ((usable s ≡ true) × (MayAsk s l → ⊥))
  next_3 = Rattle.knowledge.specs.AskingNumbers.next_3 s l

  pub next_6 : ((next_answer s l).number ≡ no_anchor) ↔ ((usable s ≡ true) × MayAsk s l × Lacks s (height_of s) 0)
  next_6 = Rattle.knowledge.specs.AskingNumbers.next_6 s l

  pub next_0 : ((next_answer s l).number ≡ 0) ↔ ((usable s ≡ true) × MayAsk s l × ((v : List ℕ) × Holds s (height_of s) 0 v))
  next_0 = Rattle.knowledge.specs.AskingNumbers.next_0 s l

  pub next_in_table : InTable (next_answer s l).number
  next_in_table = Rattle.knowledge.specs.AskingNumbers.next_in_table s l

  -- beside a refusal all else is zero,
  pub beside_next : ((next_answer s l).number ≡ 0 → ⊥) → next_answer s l ≡ no_request (next_answer s l).number
  beside_next = Rattle.knowledge.specs.AskingNumbers.next_beside s l

  -- and so it is beside "nothing to ask"
  pub nothing_is_zero : (next_answer s l).asks ≡ 0 → next_answer s l ≡ no_request (next_answer s l).number
  nothing_is_zero = Rattle.knowledge.specs.NextRequest.nothing_is s l

  -- ---- "Otherwise "nothing to ask" is given exactly when every position of that layer that isn't padding is held."

  pub nothing_exactly_when : (next_answer s l).number ≡ 0 → ((next_answer s l).asks ≡ 0) ↔ ((i : ℕ) → Wanted s l i → (v : List ℕ) × Holds s l i v)
  nothing_exactly_when = Rattle.knowledge.specs.NextRequest.nothing_exactly_when s l

  -- ---- "name the next request: the base run that contains the lowest wanted position not held, its length the limit or the whole layer if that is
  -- smaller, with the fewest proof layers whose anchor is held."

  module _ (e : (next_answer s l).asks ≡ 1) where
    pub request_run : ((next_answer s l).number ≡ 0) × ((next_answer s l).base ≡ l) × ((next_answer s l).len ≡ min longest_run (2 ^ (height_of s - l)))
        × ((i : ℕ) × LowestLacking s l i × ((next_answer s l).index ≤ i) × (i < (next_answer s l).index + (next_answer s l).len))
    request_run = Rattle.knowledge.specs.NextRequest.request_run s l e

    -- its bytes are a request of 49 bytes with the store's root and these four numbers
    pub request_bytes_lem : (is_request (next_answer s l).message ≡ true) × (message_root (next_answer s l).message ≡ facts_root s) × HeaderOf (next_answer s l) (next_answer s l).message
    request_bytes_lem = Rattle.knowledge.specs.RequestBytes.request_bytes_lem s l e

    -- of the request, of a reply to it and of a reject, whatever hashes they carry: the rules are kept,
    module _ (m : List ℕ) (H : HeaderOf (next_answer s l) m) where
      pub keeps_rules : Kept (header_of m) (height_of s)
      keeps_rules = Rattle.knowledge.specs.NextRequest.keeps_rules s l e m H

      -- so that no store for a file of this length, whoever wrote it, says 3,
      pub never_3 : (t : List ℕ) → file_length t ≡ file_length s
          → ((take_answer t m).number ≡ rule_broken → ⊥) × ((reject_answer t m).number ≡ rule_broken → ⊥) × ((out : List ℕ) → (serve_answer t m out).number ≡ rule_broken → ⊥)
      never_3 t files = (
        Rattle.knowledge.specs.RequestServed.taken_never_3 s l e m H t files,
        Rattle.knowledge.specs.RequestServed.reject_never_3 s l e m H t files,
        Rattle.knowledge.specs.RequestServed.served_never_3 s l e m H t files,
      )

      -- the anchor is held,
      pub anchor_is_held : (v : List ℕ) × Holds s (anchor_layer m) (anchor_index m) v
      anchor_is_held = Rattle.knowledge.specs.NextRequest.anchor_is_held s l e m H

      -- so that a reply is never 6, now and after any history,
      pub never_6 : {t : List ℕ} → Steps s t → (take_answer t m).number ≡ no_anchor → ⊥
      never_6 = Rattle.knowledge.specs.NextRequest.never_6 s l e m H

      -- and with fewer proof layers for the same run it is not
      pub fewest : (r : List ℕ) → (header_of r).base ≡ (header_of m).base → (header_of r).index ≡ (header_of m).index → (header_of r).len ≡ (header_of m).len
          → (header_of r).proof < (header_of m).proof → Lacks s (anchor_layer r) (anchor_index r)
      fewest r = Rattle.knowledge.specs.NextRequest.fewest s l e m r H

-- ---- "If each request is answered by a message that is taken, the asking ends within ceil(wanted/length) replies, other messages between them
-- notwithstanding; wanted counts all positions of the layer that aren't padding."

-- (what `wanted` counts)
pub wanted_exactly : (s : List ℕ) (l i : ℕ) → l ≤ height_of s → Wanted s l i ↔ (i < wanted s l)
wanted_exactly = Rattle.knowledge.specs.NextRequest.wanted_exactly

-- at most so many replies come, and as long as there is something to ask, fewer have come;
pub asking_ends : {s t : List ℕ} {n : ℕ} (l : ℕ) → (next_answer s l).number ≡ 0 → Answered l s n t
    → (n ≤ ceil_div (wanted s l) (run_of s l)) × ((next_answer t l).asks ≡ 1 → n < ceil_div (wanted s l) (run_of s l))
asking_ends = Rattle.knowledge.specs.AskingEnds.asking_ends

-- behind the last of them there is nothing to ask,
pub then_nothing : {s t : List ℕ} {n : ℕ} (l : ℕ) → (next_answer s l).number ≡ 0 → Answered l s n t → n ≡ ceil_div (wanted s l) (run_of s l) → next_answer t l ≡ no_request 0
then_nothing = Rattle.knowledge.specs.AskingEnds.then_nothing

-- and the number stays 0 over any history
pub number_stays_0 : {s t : List ℕ} (l : ℕ) → (next_answer s l).number ≡ 0 → Steps s t → (next_answer t l).number ≡ 0
number_stays_0 = Rattle.knowledge.specs.AskingEnds.number_stays_0

-- ---- a request that the store t names is served by a store s of the same file that holds the layer and all above it,

module _ (t : List ℕ) (l : ℕ) (e : (next_answer t l).asks ≡ 1) (s : List ℕ) (us : usable s ≡ true) (files : file_length s ≡ file_length t) (roots : facts_root s ≡ facts_root t)
    (H : HoldsFrom s l) (out : List ℕ) (room : message_size (header_of (next_answer t l).message) ≤ length out) where
  pub request_served : (serve_answer s (next_answer t l).message out).number ≡ 0
  request_served = Rattle.knowledge.specs.RequestServed.request_served t l e s us files roots H out room

  -- and the reply is taken, unless the two stores show two different strings with one SHA-256
  pub reply_taken : OurStore s → OurStore t → Shown (height_of t) (held_by t) (held_by s) ⊎ ((take_answer t (sent s (next_answer t l).message out)).number ≡ 0)
  reply_taken os ot = Rattle.knowledge.specs.RequestServed.reply_taken t l e s us files roots os ot H out room

-- ---- "choose the smallest count above zero among pieces not on disk, the lowest number on a tie, "nothing to fetch" if there is none."

pub picked_exactly : (s counts : List ℕ) → CountEach s counts → Picked s counts
picked_exactly = Rattle.knowledge.specs.PickedWhen.picked

-- "A count list of another length is answered 4, after 9."
module _ (s counts : List ℕ) where
  pub pick_9 : ((pick_answer s counts).number ≡ unusable) ↔ (usable s ≡ false)
  pick_9 = Rattle.knowledge.specs.AskingNumbers.pick_9 s counts

  pub pick_4 : ((pick_answer s counts).number ≡ wrong_size) ↔ ((usable s ≡ true) × (length counts ≡ piece_count (file_length s) (piece_length s) → ⊥))
  pick_4 = Rattle.knowledge.specs.AskingNumbers.pick_4 s counts

  pub pick_0 : ((pick_answer s counts).number ≡ 0) ↔ CountEach s counts
  pick_0 = Rattle.knowledge.specs.AskingNumbers.pick_0 s counts

  pub pick_in_table : InTable (pick_answer s counts).number
  pick_in_table = Rattle.knowledge.specs.AskingNumbers.pick_in_table s counts

  -- beside a refusal all else is zero
  pub beside_pick : ((pick_answer s counts).number ≡ 0 → ⊥) → pick_answer s counts ≡ no_piece (pick_answer s counts).number
  beside_pick = Rattle.knowledge.specs.AskingNumbers.pick_beside s counts

-- what `not_on_disk` counts: a piece of the file is marked as a whole exactly if it is on disk
pub on_disk_exactly : (s : List ℕ) → usable s ≡ true → (i : ℕ) → i < piece_count (file_length s) (piece_length s) → (piece_marked s i ≡ true) ↔ OnDisk s i
on_disk_exactly s u = Rattle.knowledge.specs.PickedWhen.on_disk_exactly s (usable_facts s u)

-- where each piece picked is then judged right, whatever else happens between but no mark is cleared, as many are picked as were not on disk, at
-- most,
pub picking_ends : {s t : List ℕ} {n : ℕ} → usable s ≡ true → Fetched s n t → n + not_on_disk t ≤ not_on_disk s
picking_ends = Rattle.knowledge.specs.PickingEnds.picking_ends

-- and behind the last of them there is nothing to fetch, whatever the counts
pub then_nothing_to_fetch : {s t : List ℕ} {n : ℕ} (counts : List ℕ) → usable s ≡ true → Fetched s n t → n ≡ not_on_disk s → CountEach t counts → pick_answer t counts ≡ no_piece 0
then_nothing_to_fetch = Rattle.knowledge.specs.PickingEnds.then_nothing_to_fetch

-- ---- what decides nothing

-- marks decide nothing of the request,
pub marks_ask_nothing : {s t : List ℕ} → SameButMarks s t → (l : ℕ) → next_answer t l ≡ next_answer s l
marks_ask_nothing {s} {t} = Rattle.knowledge.specs.AskingApart.next_apart s t

-- hashes nothing of the piece to fetch,
pub hashes_pick_nothing : {s t : List ℕ} → SameButHashes s t → (counts : List ℕ) → pick_answer t counts ≡ pick_answer s counts
hashes_pick_nothing {s} {t} = Rattle.knowledge.specs.AskingApart.pick_apart s t

-- and bytes behind the store nothing of either
pub behind_asks_nothing : {s t : List ℕ} → SameStore s t → (l : ℕ) → next_answer t l ≡ next_answer s l
behind_asks_nothing {s} {t} = Rattle.knowledge.specs.AskingApart.next_behind s t

pub behind_picks_nothing : {s t : List ℕ} → SameStore s t → (counts : List ℕ) → pick_answer t counts ≡ pick_answer s counts
behind_picks_nothing {s} {t} = Rattle.knowledge.specs.AskingApart.pick_behind s t

-- 02, request 1, as theorems: however a history is cut into bursts, empty ones included, none of them refused, its end gives
-- N, the pieces root and the piece layer of all its bytes.
-- Assumes nothing.
use Rattle.std.specs.Prelude.{◌≡◌, true, false, List, [], ◌∷◌, ◌++◌, ℕ, ◌*◌, ◌≤◌, length, take}
use Rattle.std.proofs.Common.{ap, ap₂, sym, subst, ◌∙◌, append_assoc, append-nil, arith, length-append}
use Rattle.octets.specs.Octets.{zero_hash}
use Rattle.limits.specs.Limits.{longest_file}
use Rattle.tree.specs.Geometry.{is_piece_length, piece_layer, has_layer, piece_count}
use Rattle.tree.specs.Values.{pieces_root, whole_layer}
use Rattle.history.specs.Answers.{empty_history, passed, layer_bytes, more_answer, more_layer, end_answer, end_layer}
use Rattle.history.proofs.DecidingLaws.{bytes_none}
use Rattle.history.specs.HistoryOf.{history_of, Written}
use Rattle.history.proofs.HistoriesLaws.{empty_is, empty_written, taken_state, taken_short, taken_with_room, written_more, refused_state, refused_layer, end_of, end_without, layer_at_end, asked_written, written_moved, no_bytes, no_root, no_layer}
use Rattle.history.specs.declared.History.{History}

-- ---- any cutting, whatever is lent

-- a call: a burst, and the memory that the host lends
pub record Call : Type 0 where
  pub burst : List ℕ
  pub lent : List ℕ

-- the bursts one after the other, as one string
unfoldable pub bytes_of : List Call → List ℕ
bytes_of [] = []
bytes_of (c ∷ cs) = c.burst ++ bytes_of cs

-- the state after the calls, each given what the one before handed back
unfoldable pub after_all : History → List Call → History
after_all s [] = s
after_all s (c ∷ cs) = after_all (more_answer s c.burst c.lent).history cs

-- none of them is refused
unfoldable pub AllTaken : History → List Call → Type 0
AllTaken s [] = Unit
AllTaken s (c ∷ cs) = ((more_answer s c.burst c.lent).number ≡ 0) × AllTaken (more_answer s c.burst c.lent).history cs

-- from the state of x, calls none of which is refused lead to the state of all bytes
after_from : (plen : ℕ) (x : List ℕ) (cs : List Call) → length x ≤ longest_file → AllTaken (history_of plen x) cs
    → (after_all (history_of plen x) cs ≡ history_of plen (x ++ bytes_of cs)) × (length (x ++ bytes_of cs) ≤ longest_file)
unfolding after_all AllTaken bytes_of
after_from plen x [] l t = (ap (history_of plen) (sym (append-nil x)), rw append-nil l)
after_from plen x (c ∷ cs) l t =
    let s = taken_state plen x c.burst c.lent t.0 in
    let r = after_from plen (x ++ c.burst) cs (taken_short plen x c.burst c.lent t.0) (subst (λ (h : History). AllTaken h cs) s t.1) in
    (ap (λ (h : History). after_all h cs) s ∙ r.0 ∙ ap (history_of plen) (append_assoc x c.burst (bytes_of cs)), rw (← append_assoc) r.1)

-- the state is that of all bytes, and they are a file that may be
pub state_of_all : (plen : ℕ) (cs : List Call) → AllTaken (empty_history plen) cs
    → (after_all (empty_history plen) cs ≡ history_of plen (bytes_of cs)) × (length (bytes_of cs) ≤ longest_file)
state_of_all plen cs t =
    let r = after_from plen [] cs (omega arith) (subst (λ (h : History). AllTaken h cs) (empty_is plen) t) in
    (ap (λ (h : History). after_all h cs) (empty_is plen) ∙ r.0, r.1)

-- every call is lent m bytes or more
unfoldable pub AllLent : ℕ → List Call → Type 0
AllLent m [] = Unit
AllLent m (c ∷ cs) = (m ≤ length c.lent) × AllLent m cs

taken_all : (plen : ℕ) (x : List ℕ) (cs : List Call) (n : ℕ) → is_piece_length plen ≡ true → length (x ++ bytes_of cs) ≤ longest_file
    → length (x ++ bytes_of cs) ≤ n → AllLent (32 * passed n plen) cs → AllTaken (history_of plen x) cs
unfolding AllTaken AllLent bytes_of
taken_all plen x [] n good l h r = tt
taken_all plen x (c ∷ cs) n good l h r =
    let a = length-append x (c.burst ++ bytes_of cs) in
    let b = length-append c.burst (bytes_of cs) in
    let d = length-append x c.burst in
    let t = taken_with_room plen x c.burst c.lent good (omega arith) n (omega arith) r.0 in
    (t, subst (λ (s : History). AllTaken s cs) (sym (taken_state plen x c.burst c.lent t)) (taken_all plen (x ++ c.burst) cs n good (rw append_assoc l) (rw append_assoc h) r.1))

-- no burst is refused while all of them together are a file that may be, and each call is lent room for the hashes of the pieces they run past
pub all_taken : (plen : ℕ) (cs : List Call) → is_piece_length plen ≡ true → length (bytes_of cs) ≤ longest_file → AllLent (32 * passed (length (bytes_of cs)) plen) cs
    → AllTaken (empty_history plen) cs
all_taken plen cs good l r = subst (λ (s : History). AllTaken s cs) (sym (empty_is plen)) (taken_all plen [] cs (length (bytes_of cs)) good l (omega arith) r)

-- the end: N is the length of all bytes, the root their pieces root, whatever was lent and is lent now, with room
pub any_cutting : (plen : ℕ) (cs : List Call) (layer : List ℕ) → is_piece_length plen ≡ true → AllTaken (empty_history plen) cs
    → layer_bytes (length (bytes_of cs)) plen ≤ length layer
    → end_answer (after_all (empty_history plen) cs) layer
    ≡ record { number = 0; length = length (bytes_of cs); root = pieces_root (bytes_of cs); layer_size = layer_bytes (length (bytes_of cs)) plen }
any_cutting plen cs layer good t room =
    let r = state_of_all plen cs t in
    ap (λ (s : History). end_answer s layer) r.0 ∙ end_of plen (bytes_of cs) layer good r.1 room

-- an empty history: N is 0, the root zero, and nothing is written
pub empty_history_lem : (plen : ℕ) (layer : List ℕ) → is_piece_length plen ≡ true
    → (end_answer (empty_history plen) layer ≡ record { number = 0; length = 0; root = zero_hash; layer_size = 0 }) × (end_layer (empty_history plen) layer ≡ layer)
empty_history_lem plen layer good = (
  ap (λ (s : History). end_answer s layer) (empty_is plen) ∙ end_of plen [] layer good (omega arith) (omega (arith, no_bytes plen))
      ∙ ap₂ (λ (r : List ℕ) (n : ℕ). record { number = 0; length = 0; root = r; layer_size = n }) no_root (no_bytes plen),
  ap (λ (s : History). end_layer s layer) (empty_is plen) ∙ end_without plen [] layer good (omega arith) (omega (arith, no_bytes plen)) (no_layer plen),
)

-- ---- the layer, where each call is lent the memory as the call before left it

-- the bytes so far, the state and the lent memory, after any calls: bursts that are taken or refused, and ends asked in between
pub data Logged (plen : ℕ) : List ℕ → History → List ℕ → Type 0 where
  begun : (layer : List ℕ) → Logged plen [] (empty_history plen) layer
  taken : {x : List ℕ} {s : History} {layer : List ℕ} (b : List ℕ) → Logged plen x s layer → (more_answer s b layer).number ≡ 0
      → Logged plen (x ++ b) (more_answer s b layer).history (more_layer s b layer)
  refused : {x : List ℕ} {s : History} {layer : List ℕ} (b : List ℕ) → Logged plen x s layer → ((more_answer s b layer).number ≡ 0 → ⊥)
      → Logged plen x (more_answer s b layer).history (more_layer s b layer)
  asked : {x : List ℕ} {s : History} {layer : List ℕ} → Logged plen x s layer → Logged plen x s (end_layer s layer)
  -- another memory is lent, longer or shorter, with the hashes that were written so far at its front
  moved : {x : List ℕ} {s : History} {layer : List ℕ} (other : List ℕ) → Logged plen x s layer
      → take (32 * passed (length x) plen) other ≡ take (32 * passed (length x) plen) layer → Logged plen x s other

-- the state is that of the bytes, and the pieces that they have run past are written
pub logged : (plen : ℕ) → is_piece_length plen ≡ true → {x : List ℕ} {s : History} {layer : List ℕ} → Logged plen x s layer
    → (s ≡ history_of plen x) × (length x ≤ longest_file) × Written plen x layer
logged plen good (begun layer) = (empty_is plen, omega arith, empty_written plen layer)
logged plen good (taken {x} {s} {layer} b g t) =
    let r = logged plen good g in
    let t' = subst (λ (h : History). (more_answer h b layer).number ≡ 0) r.0 t in (
      ap (λ (h : History). (more_answer h b layer).history) r.0 ∙ taken_state plen x b layer t',
      taken_short plen x b layer t',
      subst (λ (h : History). Written plen (x ++ b) (more_layer h b layer)) (sym r.0) (written_more plen x b layer t' r.2),
    )
logged plen good (refused {x} {s} {layer} b g n) =
    let r = logged plen good g in
    (refused_state s b layer n ∙ r.0, r.1, subst (Written plen x) (sym (refused_layer s b layer n)) r.2)
logged plen good (asked {x} {s} {layer} g) =
    let r = logged plen good g in
    (r.0, r.1, subst (λ (h : History). Written plen x (end_layer h layer)) (sym r.0) (asked_written plen x layer good r.1 r.2))
logged plen good (moved {x} {s} {layer} other g e) =
    let r = logged plen good g in
    (r.0, r.1, written_moved plen x layer other e r.2)

-- at the end N, the root and the layer's size are those of the bytes, whatever was refused and asked before
pub logged_end : (plen : ℕ) → is_piece_length plen ≡ true → {x : List ℕ} {s : History} {layer : List ℕ} → Logged plen x s layer → layer_bytes (length x) plen ≤ length layer
    → end_answer s layer ≡ record { number = 0; length = length x; root = pieces_root x; layer_size = layer_bytes (length x) plen }
logged_end plen good {x} {s} {layer} g room =
    let r = logged plen good g in
    ap (λ (h : History). end_answer h layer) r.0 ∙ end_of plen x layer good r.1 room

-- and the layer's first bytes are the piece layer, if there is one
pub logged_layer : (plen : ℕ) → is_piece_length plen ≡ true → {x : List ℕ} {s : History} {layer : List ℕ} → Logged plen x s layer → layer_bytes (length x) plen ≤ length layer
    → has_layer (length x) plen ≡ true
    → take (32 * piece_count (length x) plen) (end_layer s layer) ≡ whole_layer x (piece_layer plen)
logged_layer plen good {x} {s} {layer} g room has =
    let r = logged plen good g in
    ap (λ (h : History). take (32 * piece_count (length x) plen) (end_layer h layer)) r.0 ∙ layer_at_end plen x layer good r.1 room has r.2

-- a file that has none writes nothing at the end
pub logged_none : (plen : ℕ) → is_piece_length plen ≡ true → {x : List ℕ} {s : History} {layer : List ℕ} → Logged plen x s layer → has_layer (length x) plen ≡ false
    → end_layer s layer ≡ layer
logged_none plen good {x} {s} {layer} g none =
    let r = logged plen good g in
    ap (λ (h : History). end_layer h layer) r.0 ∙ end_without plen x layer good r.1 (omega (arith, bytes_none (length x) plen none)) none

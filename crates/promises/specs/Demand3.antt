-- 00, demand 3, sentence by sentence. Its words: crates/words, files History (steps, a store of ours), Held, Shown, FourClauses.
-- Read within one edition (02, request 6), that is one build with its limits: where another had smaller ones, a 3 or 10 of its may be
-- another number here.
-- Assumes nothing.
use Rattle.std.specs.Prelude.{◌≡◌, List, ◌↔◌, ◌⊎◌, ℕ}
use Rattle.numbers.specs.Numbers.{no_anchor, conflict}
use Rattle.store.specs.Store.{file_length, facts_root, height_of, held_answer}
use Rattle.messages.specs.Take.{take_answer, take_after, reject_answer}
use Rattle.serve.specs.Serve.{serve_answer}
use Rattle.pieces.specs.Pieces.{layer_answer, piece_answer}
use Rattle.pieces.specs.Hybrid.{hybrid_answer}
use Rattle.words.specs.Held.{Holds}
use Rattle.words.specs.Messages.{anchor_layer, anchor_index, sent}
use Rattle.words.specs.History.{Bytes, Call, number, after, Opening, Steps, OurStore}
use Rattle.words.specs.Shown.{held_by, by_message, by_layer, by_piece, Shown}
use Rattle.words.specs.FourClauses.{FourClauses}

-- "Knowledge only grows. From one opening of a store to the next, through any messages and layer loads and with no other hand in its bytes,
-- a held hash stays held with the same bytes,"
pub knowledge_only_grows : {s t : List ℕ} → Steps s t → (l i : ℕ) (v : List ℕ) → Holds s l i v → Holds t l i v
knowledge_only_grows = Rattle.knowledge.specs.Again.knowledge_only_grows

-- 01: "Opening again … is the one way to lose a held hash." Since 02, request 13: opening, loading and repairing, each answered 0
pub lost_only_by_opening : (s : List ℕ) (c : Call) (l i : ℕ) (v : List ℕ) → Holds s l i v → (Holds (after c s) l i v → ⊥) → Opening c × (number c s ≡ 0)
lost_only_by_opening = Rattle.knowledge.specs.InTable.lost_only

-- "and the number a reply gets stays the same at every later offer." But for "no anchor":
pub number_stays : {t : List ℕ} (s m : List ℕ) → Steps (take_after s m) t → ((take_answer s m).number ≡ no_anchor → ⊥) → (take_answer t m).number ≡ (take_answer s m).number
unfolding take_answer
number_stays = Rattle.knowledge.specs.Again.number_stays

-- a reject that came in gets the same answer at every later offer too
pub reject_stays : {t : List ℕ} (s m : List ℕ) → Steps s t → reject_answer t m ≡ reject_answer s m
reject_stays = Rattle.knowledge.specs.Again.reject_stays

-- "Only "no anchor" can change, and exactly once its anchor is held."
pub changes_exactly_when : {t : List ℕ} (s m : List ℕ) → Steps (take_after s m) t
    → ((take_answer t m).number ≡ (take_answer s m).number → ⊥) ↔ (((take_answer s m).number ≡ no_anchor) × ((held_answer t (anchor_layer m) (anchor_index m)).number ≡ 0))
unfolding take_answer
changes_exactly_when = Rattle.knowledge.specs.NoAnchor.changes_exactly_when

-- and from then on it is never "no anchor" again
pub never_6_again : {s t : List ℕ} (m v : List ℕ) → Steps s t → Holds s (anchor_layer m) (anchor_index m) v → (take_answer t m).number ≡ no_anchor → ⊥
unfolding take_answer
never_6_again = Rattle.knowledge.specs.NoAnchor.never_6_again

-- "In a store that only this build has written, "conflict" shows two different 64-byte strings with one SHA-256.": of a message, a layer
-- and a piece, also of a hybrid
pub conflict_shows : {s : List ℕ} (m : List ℕ) → OurStore s → Bytes m → (take_answer s m).number ≡ conflict → Shown (height_of s) (held_by s) (by_message s m)
unfolding take_answer
conflict_shows = Rattle.knowledge.specs.ConflictShows.our_conflict_shows

pub layer_conflict_shows : {s : List ℕ} (layer : List ℕ) → OurStore s → Bytes layer → (layer_answer s layer).number ≡ conflict → Shown (height_of s) (held_by s) (by_layer s layer)
unfolding layer_answer
layer_conflict_shows = Rattle.knowledge.specs.ConflictShows.our_layer_conflict_shows

pub piece_conflict_shows : {s : List ℕ} (i : ℕ) (piece : List ℕ) → OurStore s → (piece_answer s i piece).number ≡ conflict → Shown (height_of s) (held_by s) (by_piece s i piece)
unfolding piece_answer
piece_conflict_shows = Rattle.knowledge.specs.ConflictShows.our_piece_conflict_shows

pub hybrid_conflict_shows : {s : List ℕ} (i : ℕ) (piece v1 : List ℕ) (zeros : ℕ) → OurStore s → (hybrid_answer s i piece v1 zeros).number ≡ conflict
    → Shown (height_of s) (held_by s) (by_piece s i piece)
unfolding hybrid_answer
hybrid_conflict_shows = Rattle.knowledge.specs.ConflictShows.our_hybrid_conflict_shows

-- "A reply built from another such store for the same length and root, its anchor held here, is taken unless the two stores show such a
-- pair.": the bytes that kd_serve leaves beside 0; the piece lengths may differ
pub other_store_reply_taken : {s t : List ℕ} → OurStore s → OurStore t → file_length s ≡ file_length t → facts_root s ≡ facts_root t
    → (m out : List ℕ) → (serve_answer s m out).number ≡ 0 → (held_answer t (anchor_layer m) (anchor_index m)).number ≡ 0
    → Shown (height_of t) (held_by t) (held_by s) ⊎ ((take_answer t (sent s m out)).number ≡ 0)
unfolding take_answer
other_store_reply_taken = Rattle.knowledge.specs.ConflictShows.other_store_reply_taken

-- What a store that only this build has written knows
pub our_store_meets : {s : List ℕ} → OurStore s → FourClauses s
our_store_meets = Rattle.knowledge.specs.OursMeet.ours_meet

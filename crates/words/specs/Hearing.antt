-- 02, request 14: stores that hear the same messages, in any order and again.
-- Assumes nothing.
use Prim.{Unit}
use Rattle.std.specs.Prelude.{◌≡◌, cond, List, [], ◌∷◌, ◌++◌, eqb, ℕ, ◌+◌}
use Rattle.octets.specs.Octets.{Octets}
use Rattle.store.specs.Store.{open_answer, open_after}
use Rattle.messages.specs.Take.{take_answer}
use Rattle.pieces.specs.Pieces.{layer_answer}
use Rattle.words.specs.Held.{Holds}
use Rattle.words.specs.History.{Bytes, Call, take, load_layer, judge_block, judge_piece, judge_hybrid_piece, clear, reopen, load, repair, look, number, after, Opening, Step, call, lent, Steps, begin, next, Each}

-- a set of messages, by which bytes are in it
abbrev pub MessageSet : Type 1
MessageSet = List ℕ → Type 0

-- m is one of a list of messages
pub data Among (m : List ℕ) : List (List ℕ) → Type 0 where
  first : {L : List (List ℕ)} → Among m (m ∷ L)
  later : {k : List ℕ} {L : List (List ℕ)} → Among m L → Among m (k ∷ L)

-- ---- rounds

-- the calls of a store that hears only messages of the set: "loads and openings in between are excluded"
abbrev pub Heard : MessageSet → Call → Type 0
Heard M (take m b) = M m
Heard M (load_layer l b) = ⊥
Heard M (judge_block i d b) = Unit {0}
Heard M (judge_piece i d b) = Unit {0}
Heard M (judge_hybrid_piece i d v z b o) = Unit {0}
Heard M (clear i) = Unit {0}
Heard M (reopen n plen root o) = ⊥
Heard M (load b x) = ⊥
Heard M (repair b x) = ⊥
Heard M (look k) = Unit {0}

-- message m was offered in a history: by the last step, or before it
pub data Offered (m : List ℕ) {s : List ℕ} : (t : List ℕ) → Steps s t → Type 0 where
  last : {t : List ℕ} (h : Steps s t) (b : Bytes m) (x : Opening (take m b) → number (take m b) t ≡ 0 → ⊥) → Offered m (after (take m b) t) (next h (call (take m b) x))
  before : {t u : List ℕ} {h : Steps s t} (k : Step t u) → Offered m t h → Offered m u (next h k)

-- a whole round: each message of the set is offered, in any order and as often as you like, and no other
pub record Round (M : MessageSet) (s t : List ℕ) : Type 0 where
  pub history : Steps s t
  pub only : Each (Heard M) t history
  pub each : (m : List ℕ) → M m → Offered m t history

-- from s to t nothing is newly held: what kd_held gives in t, it gives in s
abbrev pub NothingNew : List ℕ → List ℕ → Type 0
NothingNew s t = (l i : ℕ) (v : List ℕ) → Holds t l i v → Holds s l i v

-- a gateway's store: opened with length n, a piece length and a root, it heard messages of the set, and at last a whole round of them, which
-- made nothing newly held
pub record Gateway (M : MessageSet) (n plen : ℕ) (root s : List ℕ) : Type 0 where
  pub buffer : List ℕ
  pub bytes : Bytes buffer
  pub octets : Octets 32 root
  pub opens : (open_answer buffer n plen).number ≡ 0
  pub began : List ℕ
  pub history : Steps (open_after buffer n plen root) began
  pub only : Each (Heard M) began history
  pub round : Round M began s
  pub quiet : NothingNew began s

-- a gateway's history from any store on, without the opening
pub record GatewayFrom (M : MessageSet) (s t : List ℕ) : Type 0 where
  pub began : List ℕ
  pub history : Steps s began
  pub only : Each (Heard M) began history
  pub round : Round M began t
  pub quiet : NothingNew began t

-- ---- a journal

-- in a history message m was answered 0: by the last step, or before it
pub data Took (m : List ℕ) {s : List ℕ} : (t : List ℕ) → Steps s t → Type 0 where
  last : {t : List ℕ} (h : Steps s t) (b : Bytes m) (x : Opening (take m b) → number (take m b) t ≡ 0 → ⊥) → (take_answer t m).number ≡ 0
      → Took m (after (take m b) t) (next h (call (take m b) x))
  before : {t u : List ℕ} {h : Steps s t} (k : Step t u) → Took m t h → Took m u (next h k)

-- and so was a layer
pub data TookLayer (d : List ℕ) {s : List ℕ} : (t : List ℕ) → Steps s t → Type 0 where
  last : {t : List ℕ} (h : Steps s t) (b : Bytes d) (x : Opening (load_layer d b) → number (load_layer d b) t ≡ 0 → ⊥) → (layer_answer t d).number ≡ 0
      → TookLayer d (after (load_layer d b) t) (next h (call (load_layer d b) x))
  before : {t u : List ℕ} {h : Steps s t} (k : Step t u) → TookLayer d t h → TookLayer d u (next h k)

-- the calls of a host that offers again what was answered 0 in the history h: no other message and no other layer; and no load of a save
abbrev pub Again : {s t : List ℕ} → Steps s t → Call → Type 0
Again {s} {t} h (take m b) = Took m t h
Again {s} {t} h (load_layer d b) = TookLayer d t h
Again h (judge_block i d b) = Unit {0}
Again h (judge_piece i d b) = Unit {0}
Again h (judge_hybrid_piece i d v z b o) = Unit {0}
Again h (clear i) = Unit {0}
Again h (reopen n plen root o) = ⊥
Again h (load b x) = ⊥
Again h (repair b x) = ⊥
Again h (look k) = Unit {0}

-- the whole journal, in its order: each message and each layer that was answered 0
abbrev pub noted : Call → ℕ → List Call
noted (take m b) n = cond (eqb n 0) (take m b ∷ []) []
noted (load_layer d b) n = cond (eqb n 0) (load_layer d b ∷ []) []
noted (judge_block i d b) n = []
noted (judge_piece i d b) n = []
noted (judge_hybrid_piece i d v z b o) n = []
noted (clear i) n = []
noted (reopen k plen root o) n = []
noted (load b x) n = []
noted (repair b x) n = []
noted (look k) n = []

unfoldable pub journal : {s t : List ℕ} → Steps s t → List Call
journal begin = []
journal (next {t} h (call c x)) = journal h ++ noted c (number c t)
journal (next h (lent v b e)) = journal h

-- calls made one after the other leave this,
unfoldable pub after_all : List Call → List ℕ → List ℕ
after_all [] s = s
after_all (c ∷ L) s = after_all L (after c s)

-- and each is answered 0
unfoldable pub AllDone : List Call → List ℕ → Type 0
AllDone [] s = Unit {0}
AllDone (c ∷ L) s = (number c s ≡ 0) × AllDone L (after c s)

-- ---- what a gateway sees

-- how many positions a call says that it made newly held,
abbrev pub count_of : Call → List ℕ → ℕ
count_of (take m b) s = (take_answer s m).count
count_of (load_layer l b) s = (layer_answer s l).count
count_of (judge_block i d b) s = 0
count_of (judge_piece i d b) s = 0
count_of (judge_hybrid_piece i d v z b o) s = 0
count_of (clear i) s = 0
count_of (reopen n plen root o) s = 0
count_of (load b x) s = 0
count_of (repair b x) s = 0
count_of (look k) s = 0

-- and all calls of a history together
unfoldable pub counted : {s t : List ℕ} → Steps s t → ℕ
counted begin = 0
counted (next {t} h (call c x)) = counted h + count_of c t
counted (next h (lent v b e)) = counted h

-- 02, request 13: what saved bytes must be for a load and for a repair, and a store whose saves are all its own. (The form of the bytes, the
-- clauses, what is kept: crates/saved, files Form and Clauses.)
-- Assumes nothing.
use Rattle.std.specs.Prelude.{◌≡◌, true, List, ◌⊎◌, ℕ, ◌≤◌, length, get_or}
use Rattle.octets.specs.Octets.{Octets, cut}
use Rattle.store.specs.Store.{file_length, store_size, open_answer, open_after}
use Rattle.saved.specs.Form.{Saved, saved_bytes, Ordered, length_in, piece_length_in, root_in, blocks_in, height_in, place_count, formed, Placed}
use Rattle.saved.specs.Clauses.{Hashes, Clauses}
use Rattle.saved.specs.Save.{saved_of, save_answer, save_after}
use Rattle.saved.specs.Saved.{load_answer, load_after, repair_answer, repair_after}
use Rattle.words.specs.History.{Bytes, Steps}
use Rattle.words.specs.FourClauses.{FourClauses}
use Rattle.words.specs.Answers.{InRange}
use Rattle.words.specs.Marks.{JudgedRight, Uncleared}

-- ---- saved bytes

-- a whole opening record stands first
pub record WholeOpening (b : List ℕ) : Type 0 where
  pub long : 45 ≤ length b
  pub kind : get_or b 0 0 ≡ 1

-- the bytes are those of a value: an opening with facts in range, positions rising, marks rising, an end. (That `formed` tests this: `form_exactly`,
-- crates/promises, file Saved.)
pub record OfForm (b : List ℕ) : Type 0 where
  pub value : Saved
  pub ordered : Ordered value
  pub range : InRange value.n value.plen
  pub bytes : b ≡ saved_bytes value

-- the opening record names facts in range, and the buffer s has room for a store of that length
pub record Ready (s b : List ℕ) : Type 0 where
  pub opening : WholeOpening b
  pub range : InRange (length_in b) (piece_length_in b)
  pub room : store_size (length_in b) ≤ length s

-- the positions that the bytes name, with their hashes
abbrev pub NamedBy : List ℕ → Hashes
NamedBy b = Placed b (place_count b)

-- "the bytes have this form, the root is held with the opening's value, every other held position has its sibling and parent held and hashing
-- right, and every held padding position has its value"
pub record Loadable (b : List ℕ) : Type 0 where
  pub form : formed b ≡ true
  pub clauses : Clauses (height_in b) (blocks_in b) (root_in b) (NamedBy b)

-- the form and the right root
pub record Repairable (b : List ℕ) : Type 0 where
  pub form : formed b ≡ true
  pub root : NamedBy b (height_in b) 0 (root_in b)

-- ---- a store that was saved and loaded again, and again

-- what a save leaves at the front of its output
abbrev pub save_of : List ℕ → List ℕ → List ℕ
save_of s out = cut (save_after s out) 0 (save_answer s out).count

-- the bytes are the save of a store that meets the clauses, and the buffer b has room for it
pub record IsSave (b saved : List ℕ) : Type 0 where
  pub s : List ℕ
  pub bytes : Bytes s
  pub meets : FourClauses s
  pub room : store_size (file_length s) ≤ length b
  pub save : saved ≡ saved_bytes (saved_of s)

-- a store whose saves are all its own: it began with an opening or a repair, or with a load of what kd_save left of such a store
pub data OwnLine : List ℕ → Type 0 where
  from_opening : (b : List ℕ) (n plen : ℕ) (root : List ℕ) → Bytes b → Octets 32 root → (open_answer b n plen).number ≡ 0 → {t : List ℕ}
      → Steps (open_after b n plen root) t → OwnLine t
  from_repair : (b saved : List ℕ) → Bytes b → Bytes saved → (repair_answer b saved).number ≡ 0 → {t : List ℕ} → Steps (repair_after b saved) t → OwnLine t
  from_save : {s : List ℕ} → OwnLine s → (out : List ℕ) → (save_answer s out).number ≡ 0 → (b : List ℕ) → Bytes b
      → (load_answer b (save_of s out)).number ≡ 0 → {t : List ℕ} → Steps (load_after b (save_of s out)) t → OwnLine t

-- in the histories of such a store block j was judged right, and not cleared after that: since the last beginning, or in the store that was saved
-- and not cleared since
unfoldable pub JudgedIn : ℕ → {t : List ℕ} → OwnLine t → Type 0
JudgedIn j (from_opening b n plen root x o z h) = JudgedRight j h
JudgedIn j (from_repair b saved x y z h) = JudgedRight j h
JudgedIn j (from_save w out z b x k {t} h) = JudgedRight j h ⊎ (JudgedIn j w × Uncleared j t h)

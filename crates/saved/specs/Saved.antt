-- 02, request 13: what loading and repairing answer and leave.
-- Assumes nothing.
use Rattle.std.specs.Prelude.{List, Result, Ok, Err, [], ◌++◌, Bool, true, cond, ◌&&◌, ℕ, zero, suc, ◌+◌, ◌-◌, ◌*◌, ◌/◌, ◌^◌, length, eqb, leb, ltb}
use Rattle.octets.specs.Octets.{same}
use Rattle.numbers.specs.Numbers.{refused, done, unusable, facts_out_of_range, not_saved}
use Rattle.numbers.specs.Refusals.{number_of}
use Rattle.numbers.specs.declared.Answer.{Answer}
use Rattle.numbers.specs.declared.Refused.{Refused}
use Rattle.saved.specs.declared.repair.Repaired.{Repaired}
use Rattle.sha256.specs.Sha256.{pair_hash}
use Rattle.tree.specs.Geometry.{covering, node_number}
use Rattle.tree.specs.Values.{pad_value}
use Rattle.cells.specs.Cells.{held_at, hash_at, put}
use Rattle.cells.specs.Entries.{Entry, one, put_all}
use Rattle.store.specs.Store.{facts_in_range, store_size, opened}
use Rattle.marks.specs.Marks.{marked, marks_put}
use Rattle.saved.specs.Form.{length_in, piece_length_in, root_in, blocks_in, height_in, mark_count, place_count, layer_in, index_in, hash_in, block_in, rank_in, opens, formed, marks_from}

-- ---- what the bytes must say besides their form

-- record k is right where it is padding
unfoldable pub pad_right : ℕ → List ℕ → ℕ → Bool
pad_right c b k = cond (ltb (index_in b k) (covering c (layer_in b k))) true (same (hash_in b k) (pad_value (layer_in b k)))

-- records k and k + 1 are left and right child of record j
unfoldable pub children_of : ℕ → List ℕ → ℕ → ℕ → Bool
children_of h b k j = eqb (rank_in h b k + 2 * 2 ^ h) (2 * rank_in h b j) && eqb (rank_in h b (k + 1)) (rank_in h b k + 1)

-- they hash to it
unfoldable pub made_by : List ℕ → ℕ → ℕ → Bool
made_by b k j = same (pair_hash (hash_in b k) (hash_in b (k + 1))) (hash_in b j)

-- both, and they are right where they are padding
unfoldable pub family_at : ℕ → ℕ → List ℕ → ℕ → ℕ → Bool
family_at h c b k j = ltb (k + 1) j && children_of h b k j && (pad_right c b k && pad_right c b (k + 1)) && made_by b k j

-- how many of the first records are claimed by the first j, two by each that is the parent of the next two: a parent stands behind its
-- children, and parents stand in the order of their children
unfoldable pub claimed_by : (ℕ → ℕ → Bool) → ℕ → ℕ
claimed_by F zero = 0
claimed_by F (suc j) = cond (F (claimed_by F j) j) (claimed_by F j + 2) (claimed_by F j)

abbrev pub claimed : ℕ → ℕ → List ℕ → ℕ → ℕ
claimed h c b j = claimed_by (family_at h c b) j

-- the last position is the root, with the opening's value
unfoldable pub root_right : ℕ → List ℕ → Bool
root_right h b =
    ltb 0 (place_count b) && eqb (rank_in h b (place_count b - 1) + 2) (2 * 2 ^ h) && same (hash_in b (place_count b - 1)) (root_in b)

-- every position but the root has its family
unfoldable pub chained : ℕ → ℕ → List ℕ → Bool
chained h c b = eqb (claimed h c b (place_count b) + 1) (place_count b)

-- ---- loading

unfoldable pub sound : List ℕ → Bool
sound b = formed b && root_right (height_in b) b && chained (height_in b) (blocks_in b) b

-- 32 without a whole opening record, 10 for its facts, 9 for the room, in a buffer of `size` bytes
unfoldable pub opening_number : ℕ → List ℕ → ℕ
opening_number size b =
    cond (opens b)
    (cond (facts_in_range (length_in b) (piece_length_in b)) (cond (leb (store_size (length_in b)) size) 0 unusable) facts_out_of_range)
    not_saved

-- the first k positions, by number
unfoldable pub entries_in : ℕ → List ℕ → ℕ → List Entry
entries_in h b zero = []
entries_in h b (suc k) = entries_in h b k ++ one (node_number h (layer_in b k) (index_in b k)) (hash_in b k)

-- the first k marks written
unfoldable pub marks_set : List ℕ → List ℕ → ℕ → ℕ → List ℕ
marks_set s b at zero = s
marks_set s b at (suc k) = marks_put (marks_set s b at k) (block_in b at k) 1 marked

-- every byte is set as by an opening, then the positions are held and the marks written
unfoldable pub loaded : List ℕ → List ℕ → List ℕ
loaded s b =
    marks_set (put_all (opened s (length_in b) (piece_length_in b) (root_in b)) (entries_in (height_in b) b (place_count b))) b (marks_from b) (mark_count b)

abbrev pub load_number : List ℕ → List ℕ → ℕ
load_number s b = cond (eqb (opening_number (length s) b) 0) (cond (sound b) 0 not_saved) (opening_number (length s) b)

-- the count is the positions then held
unfoldable pub load_answer : List ℕ → List ℕ → Answer
load_answer s b = cond (eqb (load_number s b) 0) (done (place_count b)) (refused (load_number s b))

unfoldable pub load_after : List ℕ → List ℕ → List ℕ
load_after s b = cond (eqb (load_number s b) 0) (loaded s b) s

-- ---- repairing

-- records k and k + 1 are left and right child of one position
unfoldable pub neighbours : ℕ → List ℕ → ℕ → Bool
neighbours h b k = eqb (rank_in h b (k + 1)) (rank_in h b k + 1) && eqb (index_in b k) (2 * (index_in b k / 2)) && ltb (layer_in b k) h

-- the number of that position
abbrev pub parent_in : ℕ → List ℕ → ℕ → ℕ
parent_in h b k = node_number h (layer_in b k) (index_in b k) / 2

-- it is held by the store; they hash to it and are right where they are padding
unfoldable pub joins : ℕ → ℕ → List ℕ → List ℕ → ℕ → Bool
joins h c b s k =
    neighbours h b k
    && held_at s (parent_in h b k)
    && (pad_right c b k && pad_right c b (k + 1))
    && same (pair_hash (hash_in b k) (hash_in b (k + 1))) (hash_at s (parent_in h b k))

-- position k becomes held
abbrev pub with_place : ℕ → List ℕ → List ℕ → ℕ → List ℕ
with_place h b s k = put s (node_number h (layer_in b k) (index_in b k)) (hash_in b k)

-- of the first k positions those are kept that join what is held, from the last one down: a parent stands behind its children
unfoldable pub mended : ℕ → ℕ → List ℕ → List ℕ → ℕ → List ℕ
mended h c b s zero = s
mended h c b s (suc zero) = s
mended h c b s (suc (suc k)) =
    let both : List ℕ = mended h c b (with_place h b (with_place h b s k) (k + 1)) k in
    let rest : List ℕ = mended h c b s (suc k) in
    cond (joins h c b s k) both rest

-- how many of them
unfoldable pub mended_many : ℕ → ℕ → List ℕ → List ℕ → ℕ → ℕ
mended_many h c b s zero = 0
mended_many h c b s (suc zero) = 0
mended_many h c b s (suc (suc k)) =
    let both : ℕ = mended_many h c b (with_place h b (with_place h b s k) (k + 1)) k + 2 in
    let rest : ℕ = mended_many h c b s (suc k) in
    cond (joins h c b s k) both rest

-- the form, and the root with the opening's value, are asked for
unfoldable pub rooted : List ℕ → Bool
rooted b = formed b && root_right (height_in b) b

-- every byte is set as by an opening; then what joins the root is held, and no mark is set
abbrev pub begun : List ℕ → List ℕ → List ℕ
begun s b = opened s (length_in b) (piece_length_in b) (root_in b)

unfoldable pub repaired : List ℕ → List ℕ → List ℕ
repaired s b = mended (height_in b) (blocks_in b) b (begun s b) (place_count b - 1)

unfoldable pub repaired_many : List ℕ → List ℕ → ℕ
repaired_many s b = mended_many (height_in b) (blocks_in b) b (begun s b) (place_count b - 1) + 1

abbrev pub repair_number : List ℕ → List ℕ → ℕ
repair_number s b = cond (eqb (opening_number (length s) b) 0) (cond (rooted b) 0 not_saved) (opening_number (length s) b)

abbrev pub not_repaired : ℕ → Repaired
not_repaired n = record { number = n; dropped = 0; held = 0 }

-- what C gets of a repair or a refusal
abbrev pub repaired_of : Result Repaired Refused → Repaired
repaired_of (Ok r) = r
repaired_of (Err why) = not_repaired (number_of why)

-- how many positions were dropped, and how many are held
unfoldable pub repair_answer : List ℕ → List ℕ → Repaired
repair_answer s b =
    cond (eqb (repair_number s b) 0) (record { number = 0; dropped = place_count b - repaired_many s b; held = repaired_many s b }) (not_repaired (repair_number s b))

unfoldable pub repair_after : List ℕ → List ℕ → List ℕ
repair_after s b = cond (eqb (repair_number s b) 0) (repaired s b) s

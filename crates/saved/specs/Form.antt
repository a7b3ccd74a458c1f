-- 02, request 13: the saved form of a store. Records, each a kind byte and a fixed body, numbers big-endian: an opening (1: N in 8 bytes, the
-- piece length in 4, the root in 32), the held positions (2: layer 4, index 4, hash 32), rising by layer and then index, the marked blocks
-- (3: the block's number 4), rising, and an end (4: the count of marks 4).
-- Assumes nothing.
use Rattle.std.specs.Prelude.{List, [], ◌∷◌, ◌++◌, Bool, true, ◌&&◌, ◌≡◌, ℕ, zero, suc, ◌+◌, ◌-◌, ◌*◌, ◌/◌, ◌^◌, ◌≤◌, ◌<◌, length, get_or, eqb, leb, ltb}
use Rattle.octets.specs.Octets.{Octets, cut, be, number_at}
use Rattle.tree.specs.Geometry.{block_count, height}
use Rattle.store.specs.Store.{in_tree}

-- ---- what is saved, and its bytes

-- a held position with its hash
pub record Place : Type 0 where
  pub layer : ℕ
  pub index : ℕ
  pub hash : List ℕ

pub record Saved : Type 0 where
  pub n : ℕ
  pub plen : ℕ
  pub root : List ℕ
  pub places : List Place
  pub marks : List ℕ

unfoldable pub opening_bytes : ℕ → ℕ → List ℕ → List ℕ
opening_bytes n plen root = 1 ∷ (be 8 n ++ (be 4 plen ++ root))

unfoldable pub place_bytes : Place → List ℕ
place_bytes x = 2 ∷ (be 4 x.layer ++ (be 4 x.index ++ x.hash))

unfoldable pub mark_bytes : ℕ → List ℕ
mark_bytes i = 3 ∷ be 4 i

unfoldable pub end_bytes : ℕ → List ℕ
end_bytes c = 4 ∷ be 4 c

unfoldable pub places_bytes : List Place → List ℕ
places_bytes [] = []
places_bytes (x ∷ L) = place_bytes x ++ places_bytes L

unfoldable pub marks_bytes : List ℕ → List ℕ
marks_bytes [] = []
marks_bytes (i ∷ L) = mark_bytes i ++ marks_bytes L

unfoldable pub saved_bytes : Saved → List ℕ
saved_bytes v =
    opening_bytes v.n v.plen v.root ++ (places_bytes v.places ++ (marks_bytes v.marks ++ end_bytes (length v.marks)))

-- ---- the order of positions

-- a position's place in the order by layer and then index, from 0 on: layer 0 has 2^h positions, layer 1 half of them, and so on
unfoldable pub rank : ℕ → ℕ → ℕ → ℕ
rank h l i = 2 * 2 ^ h - 2 * 2 ^ (h - l) + i

-- places of a tree of height h from rank r on, rising
pub data Rising (h : ℕ) : ℕ → List Place → Type 0 where
  none : {r : ℕ} → Rising h r []
  more : {r : ℕ} {x : Place} {L : List Place} → x.layer ≤ h → x.index < 2 ^ (h - x.layer) → Octets 32 x.hash → r ≤ rank h x.layer x.index
      → Rising h (suc (rank h x.layer x.index)) L → Rising h r (x ∷ L)

-- block numbers below b, from number i on, rising
pub data RisingBlocks (b : ℕ) : ℕ → List ℕ → Type 0 where
  none : {i : ℕ} → RisingBlocks b i []
  more : {i j : ℕ} {L : List ℕ} → i ≤ j → j < b → RisingBlocks b (suc j) L → RisingBlocks b i (j ∷ L)

-- what a store that is usable may save
pub record Ordered (v : Saved) : Type 0 where
  pub root : Octets 32 v.root
  pub places : Rising (height (block_count v.n)) 0 v.places
  pub marks : RisingBlocks (block_count v.n) 0 v.marks

-- ---- read from bytes: the end record says how many marks there are, the rest of the length how many positions

unfoldable pub length_in : List ℕ → ℕ
length_in b = number_at b 1 8

unfoldable pub piece_length_in : List ℕ → ℕ
piece_length_in b = number_at b 9 4

unfoldable pub root_in : List ℕ → List ℕ
root_in b = cut b 13 32

abbrev pub blocks_in : List ℕ → ℕ
blocks_in b = block_count (length_in b)

abbrev pub height_in : List ℕ → ℕ
height_in b = height (blocks_in b)

unfoldable pub mark_count : List ℕ → ℕ
mark_count b = number_at b (length b - 4) 4

unfoldable pub place_count : List ℕ → ℕ
place_count b = (length b - (50 + 5 * mark_count b)) / 41

unfoldable pub layer_in : List ℕ → ℕ → ℕ
layer_in b k = number_at b (46 + 41 * k) 4

unfoldable pub index_in : List ℕ → ℕ → ℕ
index_in b k = number_at b (50 + 41 * k) 4

unfoldable pub hash_in : List ℕ → ℕ → List ℕ
hash_in b k = cut b (54 + 41 * k) 32

-- mark k, of marks that begin at `at`
unfoldable pub block_in : List ℕ → ℕ → ℕ → ℕ
block_in b at k = number_at b (at + 1 + 5 * k) 4

abbrev pub rank_in : ℕ → List ℕ → ℕ → ℕ
rank_in h b k = rank h (layer_in b k) (index_in b k)

-- ---- whether bytes have the form

-- a whole opening record
unfoldable pub opens : List ℕ → Bool
opens b = leb 45 (length b) && eqb (get_or b 0 0) 1

-- whole records up to an end record
unfoldable pub sized : List ℕ → Bool
sized b = leb 50 (length b) && eqb (get_or b (length b - 5) 0) 4 && eqb (50 + 41 * place_count b + 5 * mark_count b) (length b)

-- the least rank that position k may have
unfoldable pub next_rank : ℕ → List ℕ → ℕ → ℕ
next_rank h b zero = 0
next_rank h b (suc k) = suc (rank_in h b k)

unfoldable pub place_good : ℕ → List ℕ → ℕ → Bool
place_good h b k = eqb (get_or b (45 + 41 * k) 0) 2 && in_tree h (layer_in b k) (index_in b k) && leb (next_rank h b k) (rank_in h b k)

unfoldable pub places_good : ℕ → List ℕ → ℕ → Bool
places_good h b zero = true
places_good h b (suc k) = places_good h b k && place_good h b k

unfoldable pub next_block : List ℕ → ℕ → ℕ → ℕ
next_block b at zero = 0
next_block b at (suc k) = suc (block_in b at k)

unfoldable pub mark_good : ℕ → List ℕ → ℕ → ℕ → Bool
mark_good c b at k = eqb (get_or b (at + 5 * k) 0) 3 && ltb (block_in b at k) c && leb (next_block b at k) (block_in b at k)

unfoldable pub marks_good : ℕ → List ℕ → ℕ → ℕ → Bool
marks_good c b at zero = true
marks_good c b at (suc k) = marks_good c b at k && mark_good c b at k

abbrev pub marks_from : List ℕ → ℕ
marks_from b = 45 + 41 * place_count b

unfoldable pub formed : List ℕ → Bool
formed b = sized b && places_good (height_in b) b (place_count b) && marks_good (blocks_in b) b (marks_from b) (mark_count b)

-- ---- what bytes of the form say

abbrev pub place_in : List ℕ → ℕ → Place
place_in b k = record { layer = layer_in b k; index = index_in b k; hash = hash_in b k }

-- the first k positions, the first k marks
unfoldable pub places_to : List ℕ → ℕ → List Place
places_to b zero = []
places_to b (suc k) = places_to b k ++ (place_in b k ∷ [])

unfoldable pub marks_to : List ℕ → ℕ → ℕ → List ℕ
marks_to b at zero = []
marks_to b at (suc k) = marks_to b at k ++ (block_in b at k ∷ [])

unfoldable pub value_in : List ℕ → Saved
value_in b =
    record { n = length_in b; plen = piece_length_in b; root = root_in b; places = places_to b (place_count b); marks = marks_to b (marks_from b) (mark_count b) }

-- the bytes name position i of layer l with hash v, in one of their first p records of positions
pub record Placed (b : List ℕ) (p l i : ℕ) (v : List ℕ) : Type 0 where
  pub k : ℕ
  pub low : k < p
  pub layer : layer_in b k ≡ l
  pub index : index_in b k ≡ i
  pub hash : hash_in b k ≡ v

-- they name block j as marked
abbrev pub NamesMark : List ℕ → ℕ → Type 0
NamesMark b j = (i : ℕ) × (i < mark_count b) × (block_in b (marks_from b) i ≡ j)

-- 02, request 12: "The v1 hash of a piece covers the zeros of the padding file behind it." The bytes that the v1 half hashes, and what a piece
-- of a file is among them.
-- Assumes nothing.
use Rattle.std.specs.Prelude.{◌≡◌, true, false, cond, List, [], ◌∷◌, ◌++◌, ℕ, zero, suc, ◌+◌, ◌-◌, ◌*◌, ◌/◌, ◌<◌, min, length, replicate}
use Rattle.octets.specs.Octets.{cut}
use Rattle.sha_1.specs.Sha1.{sha1}
use Rattle.halves.specs.V1Half.{V1Entry}

-- `bytes` is what the entries es say, one after the other, with the contents cs of the files in order and zeros for padding (BEP 47)
pub data StreamOf : List V1Entry → List (List ℕ) → List ℕ → Type 0 where
  none : StreamOf [] [] []
  zeros : (e : V1Entry) (es : List V1Entry) (cs : List (List ℕ)) (bytes : List ℕ) → e.padding ≡ true → StreamOf es cs bytes → StreamOf (e ∷ es) cs (replicate e.size 0 ++ bytes)
  content : (e : V1Entry) (es : List V1Entry) (c : List ℕ) (cs : List (List ℕ)) (bytes : List ℕ) → e.padding ≡ false → length c ≡ e.size → StreamOf es cs bytes
      → StreamOf (e ∷ es) (c ∷ cs) (c ++ bytes)

-- where file n begins among them, from 0, padding not counted
unfoldable pub file_start : List V1Entry → ℕ → ℕ
file_start [] n = 0
file_start (e ∷ es) zero = cond e.padding (e.size + file_start es zero) 0
file_start (e ∷ es) (suc n) = e.size + file_start es (cond e.padding (suc n) n)

-- how many zeros the v1 hash of the piece at `at` covers, of which `left` bytes are the file's: up to the piece's boundary, or the end of all
-- entries, whichever is first
unfoldable pub zeros_behind : ℕ → ℕ → ℕ → ℕ → ℕ
zeros_behind plen all at left = min plen (all - at) - min plen left

-- the v1 hash of piece i of a file that begins at `from`: 20 bytes of `pieces`, by the place in all entries
unfoldable pub v1_hash_at : List ℕ → ℕ → ℕ → ℕ → List ℕ
v1_hash_at pieces plen from i = cut pieces (20 * (from / plen + i)) 20

-- `pieces` has the hashes of these bytes: 20 bytes for each piece, its SHA-1
abbrev pub HashesAre : ℕ → List ℕ → List ℕ → Type 0
HashesAre plen pieces bytes = (k : ℕ) → k * plen < length bytes → cut pieces (20 * k) 20 ≡ sha1 (cut bytes (k * plen) plen)

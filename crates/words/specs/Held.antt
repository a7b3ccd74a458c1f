-- What a store knows, as kd_held answers it: positions are a layer and an index.
-- Assumes nothing.
use Rattle.std.specs.Prelude.{◌≡◌, not, List, [], ◌∷◌, ◌↔◌, ℕ, ◌+◌, ◌-◌, ◌^◌, ◌≤◌, ◌<◌, length, eqb}
use Rattle.cells.specs.Entries.{one_if}
use Rattle.store.specs.Store.{held_answer}
use Rattle.saved.specs.Clauses.{Hashes}

-- position i of layer l is held with the hash v
pub record Holds (s : List ℕ) (l i : ℕ) (v : List ℕ) : Type 0 where
  pub given : (held_answer s l i).number ≡ 0
  pub hash : (held_answer s l i).hash ≡ v

-- it is not held, with whatever hash
abbrev pub Lacks : List ℕ → ℕ → ℕ → Type 0
Lacks s l i = (w : List ℕ) → Holds s l i w → ⊥

-- the tree of height h has position i of layer l
pub record Position (h l i : ℕ) : Type 0 where
  pub low : l ≤ h
  pub inside : i < 2 ^ (h - l)

-- ---- hashes offered to a store

-- no hash that the store holds differs from these
abbrev pub NoneDiffers : List ℕ → Hashes → Type 0
NoneDiffers s R = (l i : ℕ) (v w : List ℕ) → R l i v → Holds s l i w → w ≡ v

-- one does
pub record OneDiffers (s : List ℕ) (R : Hashes) : Type 0 where
  pub l : ℕ
  pub i : ℕ
  pub v : List ℕ
  pub w : List ℕ
  pub settles : R l i v
  pub held : Holds s l i w
  pub other : w ≡ v → ⊥

-- a position that hashes give is judged against them: it is held with the hash that they give, and no held hash differs (0),
pub record Fits (s : List ℕ) (R : Hashes) (l i : ℕ) : Type 0 where
  pub w : List ℕ
  pub held : Holds s l i w
  pub gives : R l i w
  pub agree : NoneDiffers s R

-- it is held with another (7),
pub record Misfits (s : List ℕ) (R : Hashes) (l i : ℕ) : Type 0 where
  pub w : List ℕ
  pub held : Holds s l i w
  pub other : R l i w → ⊥

-- or it is held with that hash, and another held hash differs (8)
pub record Clashes (s : List ℕ) (R : Hashes) (l i : ℕ) : Type 0 where
  pub w : List ℕ
  pub held : Holds s l i w
  pub gives : R l i w
  pub one : OneDiffers s R

-- ---- positions counted

-- a position, fixed by layer and index, with its hash
pub record Fixed : Type 0 where
  pub l : ℕ
  pub i : ℕ
  pub v : List ℕ

-- position i of layer l stands in a list with hash v
pub data Stands (l i : ℕ) (v : List ℕ) : List Fixed → Type 0 where
  first : {L : List Fixed} → Stands l i v (record { l = l; i = i; v = v } ∷ L)
  later : {x : Fixed} {L : List Fixed} → Stands l i v L → Stands l i v (x ∷ L)

-- no position stands in a list twice
pub data Distinct : List Fixed → Type 0 where
  none : Distinct []
  more : {x : Fixed} {L : List Fixed} → ((v : List ℕ) → Stands x.l x.i v L → ⊥) → Distinct L → Distinct (x ∷ L)

-- all positions that have these hashes, each once: n of them
pub record All (R : Hashes) (n : ℕ) : Type 0 where
  pub all : List Fixed
  pub many : length all ≡ n
  pub distinct : Distinct all
  pub exactly : (l i : ℕ) (v : List ℕ) → Stands l i v all ↔ R l i v

-- how many positions of a list kd_held does not answer 0 for
unfoldable pub unheld_among : List ℕ → List Fixed → ℕ
unheld_among s [] = 0
unheld_among s (x ∷ L) = one_if (not (eqb (held_answer s x.l x.i).number 0)) + unheld_among s L

-- A file by its positions and a file of the value that are the same file.
-- Assumes nothing.
use Rattle.std.specs.Prelude.{◌≡◌, refl, cond, List, [], ◌∷◌, ℕ, eqb}
use Rattle.octets.specs.Octets.{cut, zero_hash}
use Rattle.meaning.specs.Torrent.{File}
use Rattle.filetree.specs.Tree.{Listed}
use Rattle.filetree.specs.Reading.{read_file, read_files}

-- a file by its positions in s and a file of the value: one length and, in s, one root; an empty file has the root of zeros
pub record Alike (s : List ℕ) (f : Listed) (v : File) : Type 0 where
  pub size : v.size ≡ f.size
  pub root : v.root ≡ cond (eqb f.size 0) zero_hash (cut s f.root 32)

-- one by one
unfoldable pub AllAlike : List ℕ → List Listed → List File → Type 0
AllAlike s [] [] = Unit {0}
AllAlike s [] (v ∷ vs) = ⊥
AllAlike s (f ∷ fs) [] = ⊥
AllAlike s (f ∷ fs) (v ∷ vs) = Alike s f v × AllAlike s fs vs

-- the files as they are read have the lengths and roots that their positions say
pub all_alike : (t : List ℕ) (fs : List Listed) → AllAlike t fs (read_files t fs)
unfolding AllAlike read_file
all_alike t [] = tt
all_alike t (f ∷ fs) = (record { size = refl; root = refl }, all_alike t fs)

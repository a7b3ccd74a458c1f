-- What two files that stand side by side say of a list in order.
-- Assumes nothing.
use Rattle.std.specs.Prelude.{Bool, false, cond, ◌||◌, ◌&&◌, not, List, [], ◌∷◌, ℕ, eqb, ltb, Option, Some, None}
use Rattle.octets.specs.Octets.{same}
use Rattle.writer_meaning.specs.Content.{Item}
use Rattle.writer_meaning.specs.Number.{begins, gives_other}

module _ {A : Type 0} where
  -- whether one of a list passes a test with the next
  unfoldable pub followed : (A → A → Bool) → A → List A → Bool
  followed test x [] = false
  followed test x (y ∷ ys) = test x y || followed test y ys

  unfoldable pub neighbours : (A → A → Bool) → List A → Bool
  neighbours test [] = false
  neighbours test (x ∷ xs) = followed test x xs

-- whether a file's path leads to, or through, where another's ends
abbrev pub leads : Item → Item → Bool
leads x y = begins x.path y.path

-- ---- files that stand by their roots: runs of one root each

-- the first of a run passes `first`, or one passes `next` with the one before it in its run
unfoldable pub run_from : (Item → Bool) → (Item → Item → Bool) → Item → List Item → Bool
run_from first next x [] = false
run_from first next x (y ∷ ys) = cond (same x.root y.root) (next x y) (first y) || run_from first next y ys

unfoldable pub runs : (Item → Bool) → (Item → Item → Bool) → List Item → Bool
runs first next [] = false
runs first next (x ∷ xs) = first x || run_from first next x xs

-- the files that are not empty
unfoldable pub full_ones : List Item → List Item
full_ones [] = []
full_ones (x ∷ xs) = cond (ltb 0 x.size) (x ∷ full_ones xs) (full_ones xs)

-- two of a run agree: in their lengths (26), or in their layers (28)
abbrev pub agree : Bool → Item → Item → Bool
agree layers x y = cond layers (same x.layer y.layer) (eqb x.size y.size)

abbrev pub first_wrong : Bool → ℕ → Item → Bool
first_wrong layers plen x = layers && gives_other plen x

-- of non-empty files that stand by their roots: whether one is wrong alone that is the first of its run, or two that follow each other in a
-- run do not agree
unfoldable pub clash_by : (Item → Bool) → (Item → Item → Bool) → List Item → Bool
clash_by alone beside xs = runs alone (λ (x y : Item). not (beside x y)) (full_ones xs)

-- whether two with one root have different lengths; or whether two with one root have different layers, or a first one's layer does not give
-- its root
abbrev pub clash : Bool → ℕ → List Item → Bool
clash layers plen xs = clash_by (first_wrong layers plen) (agree layers) xs

-- what is wrong at a file that follows another, if one was seen
abbrev pub wrong_next : (Item → Bool) → (Item → Item → Bool) → Option Item → Item → Bool
wrong_next alone beside None y = alone y
wrong_next alone beside (Some x) y = cond (same x.root y.root) (not (beside x y)) (alone y)

-- Arrays of bytes are the same by `==` as they are by the comparison of specs/.
use Rattle.std.specs.Prelude.{◌≡◌, refl, Bool, ◌&&◌, List, [], ◌∷◌, ℕ, eqb}
use Rattle.std.proofs.Common.{ap}
use lib.Pointwise.{pointwise}
use Rattle.octets.specs.Octets.{same}

pub pointwise_same : (a b : List ℕ) → pointwise eqb a b ≡ same a b
unfolding same
pointwise_same [] [] = refl
pointwise_same [] (y ∷ ys) = refl
pointwise_same (x ∷ xs) [] = refl
pointwise_same (x ∷ xs) (y ∷ ys) = ap (λ (t : Bool). eqb x y && t) (pointwise_same xs ys)

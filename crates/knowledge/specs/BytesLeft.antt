-- Bytes of a store's memory past the size its facts give are never changed by a message or a layer, and decide no byte that is left
-- and no count.
-- Assumes nothing.
use Rattle.std.specs.Prelude.{◌≡◌, refl, List, [], ◌∷◌, ℕ, zero, suc, ◌+◌, ◌-◌, ◌*◌, ◌≤◌, ◌<◌, length, get_or, eqb}
use Rattle.std.proofs.Common.{ap, sym, ◌∙◌, arith}
use Rattle.std.proofs.Math.Decide.{dec_lt}
use Rattle.octets.specs.OctetsLaws.{get_or_pasted_before, get_or_pasted_in, get_or_pasted_after}
use Rattle.cells.specs.Cells.{Room, held_at, put}
use Rattle.cells.specs.CellsLaws.{put_room}
use Rattle.cells.specs.Entries.{Entry, put_all, newly}
use Rattle.cells.specs.EntriesLaws.{Sound, none, more}

-- the cells below N are the same bytes
pub record SameCells (N : ℕ) (a b : List ℕ) : Type 0 where
  pub room : Room N a
  pub room' : Room N b
  pub same : (i : ℕ) → i < 31 + 33 * N → get_or b i 0 ≡ get_or a i 0

put_same : (N n : ℕ) (h a b : List ℕ) → n < N → length h ≡ 32 → SameCells N a b → SameCells N (put a n h) (put b n h)
unfolding put
put_same N n h a b l z c =
    record {
      room = put_room a N n c.room l h z;
      room' = put_room b N n c.room' l h z;
      same = λ i w.
          elim (dec_lt i (31 + 33 * n)) [
            | yes x ↦ get_or_pasted_before b (31 + 33 * n) (1 ∷ h) (omega (arith, c.room')) i x ∙ c.same i w ∙ sym (get_or_pasted_before a (31 + 33 * n) (1 ∷ h) (omega (arith, c.room)) i x)
            | no x ↦
                elim (dec_lt i (31 + 33 * n + 33)) [
                  | yes y ↦
                      let j : ℕ = i - (31 + 33 * n) in
                      let q : 31 + 33 * n + (i - (31 + 33 * n)) ≡ i = omega arith in
                      rw (← q)
                      (get_or_pasted_in b (31 + 33 * n) (1 ∷ h) (omega (arith, c.room')) (i - (31 + 33 * n)) (omega arith)
                      ∙ sym (get_or_pasted_in a (31 + 33 * n) (1 ∷ h) (omega (arith, c.room)) (i - (31 + 33 * n)) (omega arith)))
                  | no y ↦
                      get_or_pasted_after b (31 + 33 * n) (1 ∷ h) (omega (arith, c.room')) i (omega arith) ∙ c.same i w
                      ∙ sym (get_or_pasted_after a (31 + 33 * n) (1 ∷ h) (omega (arith, c.room)) i (omega arith))
                ]
          ];
    }

-- entries written into the same cells leave the same cells
pub put_all_same : (N : ℕ) (L : List Entry) (a b : List ℕ) → Sound N L → SameCells N a b → SameCells N (put_all a L) (put_all b L)
unfolding put_all
put_all_same N [] a b none c = c
put_all_same N (e ∷ L) a b (more l z S) c = put_all_same N L (put a e.at e.hash) (put b e.at e.hash) S (put_same N e.at e.hash a b l z c)

same_held : (N : ℕ) (a b : List ℕ) → SameCells N a b → (q : ℕ) → q < N → held_at b q ≡ held_at a q
unfolding held_at
same_held N a b c q l = ap (λ (x : ℕ). eqb x 1) (c.same (31 + 33 * q) (omega arith))

-- and as many positions are newly held
pub newly_same : (N k : ℕ) (a b a' b' : List ℕ) → k ≤ N → SameCells N a b → SameCells N a' b' → newly k b b' ≡ newly k a a'
unfolding newly
newly_same N zero a b a' b' l c d = refl
newly_same N (suc zero) a b a' b' l c d = refl
newly_same N (suc (suc k)) a b a' b' l c d =
    rw (newly_same N (suc k) a b a' b' (omega arith) c d, same_held N a b c (suc k) (omega arith), same_held N a' b' d (suc k) (omega arith))

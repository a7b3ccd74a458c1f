-- Laws of lanes: what is read from a lane, and what a store to one lane changes.
-- Assumes nothing.
use Rattle.std.specs.Prelude.{◌≡◌, List, [], ◌∷◌, ◌++◌, ℕ, zero, suc, ◌+◌, ◌-◌, ◌*◌, ◌%◌, ◌^◌, ◌<◌, ◌≤◌, length, get_or, set, take, drop}
use Rattle.std.proofs.Math.Path.{refl}
use Rattle.std.proofs.Common.{ap, sym, ◌∙◌, arith, zero-add, mul-le-mul_right, length-append, length-set, get_or-set_same, get_or-set_other, ext_get_or}
use Rattle.std.proofs.Math.Decide.{ℕ_discrete}
use Rattle.std.proofs.Math.ListN.{get_or-append}
use Rattle.std.proofs.Math.Seq.{get_or-append_seam}
use Rattle.octets.specs.Octets.{cut}
use Rattle.rounds.specs.declared.State.{State}
use Rattle.bits.specs.Words.{σ₀, σ₁}
use Rattle.bits.specs.Parsing.{word_at, words}
use Rattle.bits.specs.ParsingLaws.{words_more, word_in}
use Rattle.rounds.specs.Block.{next, schedule, round, plus, compress}
use Rattle.rounds.specs.StageLaws.{stage_first, stage_step, stage_last, stage_at, rounds_by_more, rounds_by_at, rounds_by_next}
use Rattle.rounds.specs.Sums.{sums, rounds_by}
use Rattle.rounds.specs.SumsLaws.{sum_at, compress_by_sums}
use Rattle.lanes.specs.Lanes.{lane, state_of, state_in}
use Rattle.lanes.specs.Passes.{Beside, LanesPassed, Loading, Growing, Stepping, Rounding, Grown, Rounded}

pub length_lane : (n : ℕ) (w : List ℕ) (j : ℕ) → length (lane n w j) ≡ n
unfolding lane
length_lane zero w j = refl
length_lane (suc n) w j = simp (length-append, length_lane n w j) (omega arith)

pub get_or_lane : (n : ℕ) (w : List ℕ) (j i : ℕ) → i < n → get_or (lane n w j) i 0 ≡ get_or w (i * 8 + j) 0
unfolding lane
get_or_lane zero w j i h = absurd (omega arith)
get_or_lane (suc n) w j i h = by_place (λ l. get_or_lane n w j i l) (ℕ_discrete i n)
  where
    by_place : (i < n → get_or (lane n w j) i 0 ≡ get_or w (i * 8 + j) 0) → Dec (i ≡ n) → get_or (lane n w j ++ (get_or w (n * 8 + j) 0 ∷ [])) i 0 ≡ get_or w (i * 8 + j) 0
    by_place before (yes e) =
        let l = length_lane n w j in
        let g : i ≡ length (lane n w j) = omega arith in
        ap (λ (k : ℕ). get_or (lane n w j ++ (get_or w (n * 8 + j) 0 ∷ [])) k 0) g
        ∙ get_or-append_seam (lane n w j) (get_or w (n * 8 + j) 0) [] 0
        ∙ ap (λ (k : ℕ). get_or w (k * 8 + j) 0) (sym e)
    by_place before (no d) =
        get_or-append (lane n w j) (get_or w (n * 8 + j) 0 ∷ []) 0 i (omega (arith, length_lane n w j))
        ∙ before (omega arith)

-- two lanes are the same if all their words are
pub lane_same : (n : ℕ) (w v : List ℕ) (j k : ℕ) → ((i : ℕ) → i < n → get_or w (i * 8 + j) 0 ≡ get_or v (i * 8 + k) 0) → lane n w j ≡ lane n v k
lane_same n w v j k f =
    ext_get_or 0 (lane n w j) (lane n v k) (length_lane n w j ∙ sym (length_lane n v k))
    (λ i h.
    let h' : i < n = omega (arith, length_lane n w j) in
    get_or_lane n w j i h' ∙ f i h' ∙ sym (get_or_lane n v k i h'))

-- a store to a row of a lane is a store to that lane
pub lane_set : (n : ℕ) (w : List ℕ) (i j v : ℕ) → i * 8 + j < length w → i < n → lane n (set w (i * 8 + j) v) j ≡ set (lane n w j) i v
lane_set n w i j v h b =
    ext_get_or 0 (lane n (set w (i * 8 + j) v) j) (set (lane n w j) i v)
    (length_lane n (set w (i * 8 + j) v) j ∙ sym (length-set (lane n w j) i v ∙ length_lane n w j))
    (λ x l.
    let l' : x < n = omega (arith, length_lane n (set w (i * 8 + j) v) j) in
    get_or_lane n (set w (i * 8 + j) v) j x l' ∙ by_row x l' (ℕ_discrete x i))
  where
    by_row : (x : ℕ) → x < n → Dec (x ≡ i) → get_or (set w (i * 8 + j) v) (x * 8 + j) 0 ≡ get_or (set (lane n w j) i v) x 0
    by_row x l (yes e) =
        let g : x * 8 + j ≡ i * 8 + j = omega arith in
        ap (λ (k : ℕ). get_or (set w (i * 8 + j) v) k 0) g
        ∙ get_or-set_same w (i * 8 + j) v 0 h
        ∙ sym (ap (λ (k : ℕ). get_or (set (lane n w j) i v) k 0) e ∙ get_or-set_same (lane n w j) i v 0 (omega (arith, length_lane n w j)))
    by_row x l (no d) =
        get_or-set_other w (i * 8 + j) (x * 8 + j) v 0 (λ q. d (omega arith))
        ∙ sym (get_or-set_other (lane n w j) i x v 0 d ∙ get_or_lane n w j x l)

-- and leaves the others alone
pub beside_set : (n : ℕ) (w : List ℕ) (i j v : ℕ) → j < 8 → Beside n j w (set w (i * 8 + j) v)
beside_set n w i j v h =
    record {
      size = length-set w (i * 8 + j) v;
      others = λ x b d. lane_same n (set w (i * 8 + j) v) w x x (λ y l. get_or-set_other w (i * 8 + j) (y * 8 + x) v 0 (λ q. d (omega arith)));
    }

pub beside_none : (n j : ℕ) (w : List ℕ) → Beside n j w w
beside_none n j w = record { size = refl; others = λ x b d. refl }

pub beside_then : {n j : ℕ} {w v u : List ℕ} → Beside n j w v → Beside n j v u → Beside n j w u
beside_then p q = record { size = q.size ∙ p.size; others = λ x b d. q.others x b d ∙ p.others x b d }

-- ---- a state put into a lane

-- the first n words of l put into lane j, row by row
unfoldable pub put : ℕ → List ℕ → ℕ → List ℕ → List ℕ
put zero t j l = t
put (suc n) t j l = set (put n t j l) (n * 8 + j) (get_or l n 0)

pub words_of : State → List ℕ
words_of s = s.a ∷ s.b ∷ s.c ∷ s.d ∷ s.e ∷ s.f ∷ s.g ∷ s.h ∷ []

pub beside_put : (k n : ℕ) (t : List ℕ) (j : ℕ) (l : List ℕ) → j < 8 → Beside k j t (put n t j l)
unfolding put
beside_put k zero t j l h = beside_none k j t
beside_put k (suc n) t j l h = beside_then (beside_put k n t j l h) (beside_set k (put n t j l) n j (get_or l n 0) h)

put_reads : (n : ℕ) (t : List ℕ) (j : ℕ) (l : List ℕ) → j < 8 → n * 8 ≤ length t → (i : ℕ) → i < n → get_or (put n t j l) (i * 8 + j) 0 ≡ get_or l i 0
unfolding put
put_reads zero t j l h b i k = absurd (omega arith)
put_reads (suc n) t j l h b i k = by_row (λ g. put_reads n t j l h (omega arith) i g) (ℕ_discrete i n)
  where
    by_row : (i < n → get_or (put n t j l) (i * 8 + j) 0 ≡ get_or l i 0) → Dec (i ≡ n) → get_or (set (put n t j l) (n * 8 + j) (get_or l n 0)) (i * 8 + j) 0 ≡ get_or l i 0
    by_row before (yes e) =
        let g : i * 8 + j ≡ n * 8 + j = omega arith in
        ap (λ (x : ℕ). get_or (set (put n t j l) (n * 8 + j) (get_or l n 0)) x 0) g
        ∙ get_or-set_same (put n t j l) (n * 8 + j) (get_or l n 0) 0 (omega (arith, (beside_put 8 n t j l h).size))
        ∙ ap (λ (x : ℕ). get_or l x 0) (sym e)
    by_row before (no d) =
        get_or-set_other (put n t j l) (n * 8 + j) (i * 8 + j) (get_or l n 0) 0 (λ q. d (omega arith))
        ∙ before (omega arith)

lane_put : (t : List ℕ) (j : ℕ) (l : List ℕ) → j < 8 → length t ≡ 64 → length l ≡ 8 → lane 8 (put 8 t j l) j ≡ l
lane_put t j l h b e =
    let n = length_lane 8 (put 8 t j l) j in
    ext_get_or 0 (lane 8 (put 8 t j l) j) l (n ∙ sym e)
    (λ i k. get_or_lane 8 (put 8 t j l) j i (omega arith) ∙ put_reads 8 t j l h (omega arith) i (omega arith))

pub state_put : (t : List ℕ) (j : ℕ) (s : State) → j < 8 → length t ≡ 64 → state_in (put 8 t j (words_of s)) j ≡ s
unfolding state_in state_of words_of
state_put t j s h b = ap state_of (lane_put t j (words_of s) h b refl)

-- the eight stores of the code
pub put_stores : (t : List ℕ) (j : ℕ) (s : State)
    → set (set (set (set (set (set (set (set t j s.a) (8 + j) s.b) (16 + j) s.c) (24 + j) s.d) (32 + j) s.e) (40 + j) s.f) (48 + j) s.g) (56 + j) s.h
    ≡ put 8 t j (words_of s)
unfolding put words_of
put_stores t j s = rw (zero-add j)

-- the eight reads of the code
pub state_reads : (t : List ℕ) (j : ℕ) →
    ◌≡◌ {A = State} (record {
      a = get_or t j 0;
      b = get_or t (8 + j) 0;
      c = get_or t (16 + j) 0;
      d = get_or t (24 + j) 0;
      e = get_or t (32 + j) 0;
      f = get_or t (40 + j) 0;
      g = get_or t (48 + j) 0;
      h = get_or t (56 + j) 0;
    }) (state_in t j)
unfolding state_in state_of lane
state_reads t j = rw (zero-add j)

-- the sum of all words is the sum in each lane
pub state_sum : (z t r : List ℕ) → ((i : ℕ) → i < 64 → get_or r i 0 ≡ (get_or z i 0 + get_or t i 0) % 2 ^ 32) → (j : ℕ) → j < 8 → state_in r j ≡ plus (state_in z j) (state_in t j)
unfolding plus
state_sum z t r f j h =
    rw (
      ← state_reads r j,
      ← state_reads z j,
      ← state_reads t j,
      f j (omega arith),
      f (8 + j) (omega arith),
      f (16 + j) (omega arith),
      f (24 + j) (omega arith),
      f (32 + j) (omega arith),
      f (40 + j) (omega arith),
      f (48 + j) (omega arith),
      f (56 + j) (omega arith),
    )

-- one word more of that sum
pub sum_more : (z t r : List ℕ) (i v : ℕ) → i < length r → ((x : ℕ) → x < i → get_or r x 0 ≡ (get_or z x 0 + get_or t x 0) % 2 ^ 32)
    → v ≡ (get_or z i 0 + get_or t i 0) % 2 ^ 32 → (x : ℕ) → x < i + 1 → get_or (set r i v) x 0 ≡ (get_or z x 0 + get_or t x 0) % 2 ^ 32
sum_more z t r i v h f e x l = by_place (ℕ_discrete x i)
  where
    by_place : Dec (x ≡ i) → get_or (set r i v) x 0 ≡ (get_or z x 0 + get_or t x 0) % 2 ^ 32
    by_place (yes g) = rw g (get_or-set_same r i v 0 h ∙ e)
    by_place (no d) = get_or-set_other r i x v 0 d ∙ f x (omega arith)

-- one word more of a block loaded into a lane
pub load_more : (s w : List ℕ) (at i j v : ℕ) → i < 16 → j < 8 → length w ≡ 512 → take i (lane 64 w j) ≡ words i (cut s at 64)
    → v ≡ word_at s (at + i * 4) → take (i + 1) (lane 64 (set w (i * 8 + j) v) j) ≡ words (i + 1) (cut s at 64)
unfolding cut
load_more s w at i j v h b l e f =
    ap (λ (k : List ℕ). take (i + 1) k) (lane_set 64 w i j v (omega arith) (omega arith))
    ∙ words_more (take 64 (drop at s)) (lane 64 w j) i v (omega (arith, length_lane 64 w j)) e (f ∙ word_in s at i h)

-- ---- rounds in a lane

-- the word that the code makes is the schedule's next in its lane
pub next_in_lane : (w : List ℕ) (i j : ℕ) → i < 48
    → (((σ₀ (get_or w ((i + 1) * 8 + j) 0) + get_or w (i * 8 + j) 0) % 2 ^ 32 + get_or w ((i + 9) * 8 + j) 0) % 2 ^ 32 + σ₁ (get_or w ((i + 14) * 8 + j) 0)) % 2 ^ 32
    ≡ next (lane 64 w j) (i + 16)
unfolding next
next_in_lane w i j h =
    let e2 : i + 16 - 2 ≡ i + 14 = omega arith in
    let e7 : i + 16 - 7 ≡ i + 9 = omega arith in
    let e15 : i + 16 - 15 ≡ i + 1 = omega arith in
    let e16 : i + 16 - 16 ≡ i = omega arith in
    rw (e2, e7, e15, e16, get_or_lane 64 w j (i + 14) (omega arith), get_or_lane 64 w j (i + 9) (omega arith), get_or_lane 64 w j (i + 1) (omega arith), get_or_lane 64 w j i (omega arith))
    (omega arith)

-- so the store of that word makes the lane's schedule one word longer
pub grown_lane : (w : List ℕ) (i j v : ℕ) → i < 48 → length w ≡ 512 → j < 8 → v ≡ next (lane 64 w j) (i + 16)
    → Growing i (i + 1) (lane 64 w j) (lane 64 (set w ((i + 16) * 8 + j) v) j)
unfolding Growing
grown_lane w i j v h l b e =
    λ m st. stage_step (i + 1) st (lane_set 64 w (i + 16) j v (omega arith) (omega arith) ∙ ap (set (lane 64 w j) (i + 16)) e) h refl

-- four words, one after the other
pub four_growings : (w₀ w₁ w₂ w₃ w₄ : List ℕ) (i : ℕ) → Growing i (i + 1) w₀ w₁ → Growing (i + 1) (i + 1 + 1) w₁ w₂
    → Growing (i + 2) (i + 2 + 1) w₂ w₃ → Growing (i + 3) (i + 3 + 1) w₃ w₄ → Growing i (i + 4) w₀ w₄
unfolding Growing
four_growings w₀ w₁ w₂ w₃ w₄ i p q r u =
    λ m h. stage_at (i + 4) (u m (stage_at (i + 3) (r m (stage_at (i + 2) (q m (p m h)) (omega arith))) (omega arith))) (omega arith)

-- the sum of a lane's word and its round word is the lane's sum
pub step_lane : (ks w : List ℕ) (s r : State) (i j v : ℕ) → i < 64 → v ≡ (get_or ks i 0 + get_or w (i * 8 + j) 0) % 2 ^ 32 → r ≡ round s v 0
    → Stepping (sums 64 ks (lane 64 w j)) i (i + 1) s r
unfolding Stepping
step_lane ks w s r i j v h e f =
    λ z g.
    let x : v ≡ get_or (sums 64 ks (lane 64 w j)) i 0 =
    e ∙ ap (λ (y : ℕ). (get_or ks i 0 + y) % 2 ^ 32) (sym (get_or_lane 64 w j i h)) ∙ sym (sum_at ks (lane 64 w j) 64 i h) in
    f ∙ ap (λ (y : ℕ). round s y 0) x ∙ rounds_by_more (sums 64 ks (lane 64 w j)) z s i g

-- four rounds, one after the other
pub four_steppings : (xs : List ℕ) (s₀ s₁ s₂ s₃ s₄ : State) (i : ℕ) → Stepping xs i (i + 1) s₀ s₁ → Stepping xs (i + 1) (i + 1 + 1) s₁ s₂
    → Stepping xs (i + 2) (i + 2 + 1) s₂ s₃ → Stepping xs (i + 3) (i + 3 + 1) s₃ s₄ → Stepping xs i (i + 4) s₀ s₄
unfolding Stepping
four_steppings xs s₀ s₁ s₂ s₃ s₄ i p q r u =
    λ z h.
    let h₂ = rounds_by_next xs z i 1 (q z (p z h)) in
    let h₃ = rounds_by_next xs z i 2 (r z h₂) in
    rounds_by_next xs z i 3 (u z h₃)

-- ---- passes over the lanes

module _ (n : ℕ) (F : ℕ → List ℕ → List ℕ → Type 0) where
  pub passed_none : (w : List ℕ) → LanesPassed n F 0 w w
  passed_none w = record { size = refl; done = λ x h. absurd (omega arith); left = λ x g h. refl }

  pub passed_more : (j : ℕ) (w₀ w w' : List ℕ) → j < 8 → LanesPassed n F j w₀ w → Beside n j w w' → F j (lane n w j) (lane n w' j) → LanesPassed n F (j + 1) w₀ w'
  passed_more j w₀ w w' h p b f =
      record {
        size = b.size ∙ p.size;
        done = λ x l. by_lane x l (ℕ_discrete x j);
        left =
            λ x g l.
            let d : x ≡ j → ⊥ = λ e. omega arith in
            b.others x l d ∙ p.left x (omega arith) l;
      }
    where
      by_lane : (x : ℕ) → x < j + 1 → Dec (x ≡ j) → F x (lane n w₀ x) (lane n w' x)
      by_lane x l (yes e) = rw (e, ← p.left j (omega arith) h) f
      by_lane x l (no d) = rw (b.others x (omega arith) d) (p.done x (omega arith))

-- a pass over states, one lane more
pub rounding_more : (xs : ℕ → List ℕ) (i k j : ℕ) (t₀ t t' : List ℕ) → j < 8 → LanesPassed 8 (Rounding xs i k) j t₀ t → Beside 8 j t t'
    → Stepping (xs j) i k (state_in t j) (state_in t' j) → LanesPassed 8 (Rounding xs i k) (j + 1) t₀ t'
unfolding Rounding state_in
rounding_more xs i k j t₀ t t' h p b f = passed_more 8 (Rounding xs i k) j t₀ t t' h p b f

-- the last of eight places is the furthest
pub reach : (j stride : ℕ) → j < 8 → j * stride ≤ 7 * stride
reach j stride h = mul-le-mul_right stride (omega arith)

-- ---- one block in every lane

module _ (m : ℕ → List ℕ) where
  pub grown_first : (w₀ w : List ℕ) → length w₀ ≡ 512 → LanesPassed 64 (Loading m) 8 w₀ w → Grown m 0 w
  unfolding Loading
  grown_first w₀ w l p =
      record {
        room = p.size ∙ l;
        stage = λ x h. stage_first (m x) (lane 64 w x) (length_lane 64 w x) (p.done x h);
      }

  pub grown_on : (i : ℕ) (w w' : List ℕ) → Grown m i w → LanesPassed 64 (λ (x : ℕ). Growing i (i + 4)) 8 w w' → Grown m (i + 4) w'
  unfolding Growing
  grown_on i w w' a p = record { room = p.size ∙ a.room; stage = λ x h. p.done x h (m x) (a.stage x h) }

  pub grown_last : (i : ℕ) (w : List ℕ) → i ≡ 48 → Grown m i w → (x : ℕ) → x < 8 → lane 64 w x ≡ schedule 48 (m x)
  grown_last i w e a x h = stage_last (m x) (lane 64 w x) (stage_at 48 (a.stage x h) e)

module _ (xs : ℕ → List ℕ) (z : List ℕ) where
  pub rounded_none : length z ≡ 64 → Rounded xs z 0 z
  unfolding rounds_by
  rounded_none l = record { size = l; done = λ x h. refl }

  pub rounded_on : (i : ℕ) (t t' : List ℕ) → Rounded xs z i t → LanesPassed 8 (Rounding xs i (i + 4)) 8 t t' → Rounded xs z (i + 4) t'
  unfolding Rounding Stepping state_in
  rounded_on i t t' a p = record { size = p.size ∙ a.size; done = λ x h. p.done x h (state_in z x) (a.done x h) }

  pub rounded_last : (i : ℕ) (t : List ℕ) → i ≡ 64 → Rounded xs z i t → (x : ℕ) → x < 8 → state_in t x ≡ rounds_by (xs x) 64 (state_in z x)
  rounded_last i t e a x h = rounds_by_at (xs x) (state_in z x) i 64 (a.done x h) e

-- the schedule in a lane, the rounds by its sums, and the sum with the first state: the block
pub block_in_lane : (ks l m : List ℕ) (z t r : State) → l ≡ schedule 48 m → t ≡ rounds_by (sums 64 ks l) 64 z → r ≡ plus z t → r ≡ compress ks z m
block_in_lane ks l m z t r e f g =
    g ∙ ap (plus z) (f ∙ ap (λ (v : List ℕ). rounds_by (sums 64 ks v) 64 z) e) ∙ compress_by_sums ks m z

-- 02, request 14: how many positions a store holds. A history's counts add up to those by which it holds more; so nothing is newly held
-- exactly if they are all zero.
-- Assumes nothing.
use Rattle.std.specs.Prelude.{◌≡◌, Bool, false, not, ◌&&◌, List, ◌↔◌, ◌⊎◌, ℕ, zero, suc, ◌+◌, ◌-◌, ◌*◌, ◌^◌, ◌≤◌, ◌<◌}
use Rattle.std.proofs.Math.Path.{refl, ap, sym}
use Rattle.std.proofs.Common.{◌∙◌, inl, inr, arith}
use Rattle.std.proofs.Math.Bool.{true}
use Rattle.std.proofs.lemmas.Bool.{false≢true}
use Rattle.std.proofs.Math.Decide.{ℕ_discrete, dec_lt}
use Rattle.tree.specs.Geometry.{node_number}
use Rattle.tree.proofs.GeometryLaws.{node_number_covers}
use Rattle.cells.specs.Cells.{held_at}
use Rattle.cells.specs.Entries.{one_if, newly}
use Rattle.store.specs.Store.{height_of, positions, Facts}
use Rattle.store.specs.StoreLaws.{positions_some, held_count, used_held}
use Rattle.marks.specs.Marks.{marks_put}
use Rattle.marks.specs.MarksLaws.{one_small}
use Rattle.messages.specs.Take.{take_after, take_answer}
use Rattle.words.specs.History.{Call, take, load_layer, judge_block, judge_piece, judge_hybrid_piece, clear, reopen, load, repair, look, after, Opening, Steps, Each, nothing, called, between}
use Rattle.words.specs.Hearing.{MessageSet, Heard, NothingNew, count_of, counted}
use Rattle.knowledge.specs.Through.{PreservedBy, by_call}
use Rattle.knowledge.specs.Grows.{Grown, grown_same, grown_on, grown_take, grown_marks, grown_moved, steps_grow}
use Rattle.knowledge.specs.Again.{what_is_held}
use Rattle.knowledge.specs.ReadBack.{holds_at}
use Rattle.knowledge.specs.MarksApart.{marks_held}
use Rattle.knowledge.specs.AnyOrder.{back}

-- ---- how many positions are held

-- at most all are,
pub count_most : (k : ℕ) (s : List ℕ) → held_count k s ≤ k
unfolding held_count
count_most zero s = omega arith
count_most (suc k) s = omega (arith, count_most k s, one_small (held_at s (suc k)))

-- and at least one, where the root is
pub count_root : (k : ℕ) (s : List ℕ) → held_at s 1 ≡ true → 1 ≤ k → 1 ≤ held_count k s
unfolding held_count
count_root zero s h l = absurd (omega arith)
count_root (suc zero) s h l = omega (arith, ap one_if h)
count_root (suc (suc k)) s h l = omega (arith, count_root (suc k) s h (omega arith))

pub bit_less : (x y : Bool) → (x ≡ true → y ≡ true) → one_if x ≤ one_if y
bit_less false y f = omega arith
bit_less true true f = omega arith
bit_less true false f = absurd (false≢true (f refl))

bit_back : (x y : Bool) → one_if y ≤ one_if x → y ≡ true → x ≡ true
bit_back true y l e = refl
bit_back false false l e = e
bit_back false true l e = let w : ⊥ = omega arith in absurd w

bit_new : (x y : Bool) → (x ≡ true → y ≡ true) → one_if (y && not x) + one_if x ≡ one_if y
bit_new false false f = refl
bit_new false true f = refl
bit_new true true f = refl
bit_new true false f = absurd (false≢true (f refl))

module _ (s t : List ℕ) where
  -- the numbers 1 to k that s holds t holds
  Reaches : ℕ → Type 0
  Reaches k = (q : ℕ) → 1 ≤ q → q ≤ k → held_at s q ≡ true → held_at t q ≡ true

  count_grows : (k : ℕ) → Reaches k → held_count k s ≤ held_count k t
  unfolding held_count Reaches
  count_grows zero f = omega arith
  count_grows (suc k) f =
      omega (arith, count_grows k (λ q a b. f q a (omega arith)), bit_less (held_at s (suc k)) (held_at t (suc k)) (f (suc k) (omega arith) (omega arith)))

  -- where there are no more, there are no others
  count_same : (k : ℕ) → Reaches k → held_count k t ≤ held_count k s → (q : ℕ) → 1 ≤ q → q ≤ k → held_at t q ≡ true → held_at s q ≡ true
  unfolding held_count Reaches
  count_same zero f c q a b h = absurd (omega arith)
  count_same (suc k) f c q a b h =
      let g : (q : ℕ) → 1 ≤ q → q ≤ k → held_at s q ≡ true → held_at t q ≡ true = λ q a b. f q a (omega arith) in
      let m = count_grows k (unfold Reaches in g) in
      let n = bit_less (held_at s (suc k)) (held_at t (suc k)) (f (suc k) (omega arith) (omega arith)) in
      elim (ℕ_discrete q (suc k)) [
        | yes e ↦ rw e (bit_back (held_at s (suc k)) (held_at t (suc k)) (unfold held_count in omega arith) (rw e at h))
        | no ne ↦ count_same k g (omega arith) q a (omega arith) h
      ]

  -- the positions held in t and not in s are those by which t has more
  newly_count : (k : ℕ) → Reaches k → newly (suc k) s t + held_count k s ≡ held_count k t
  unfolding held_count Reaches newly
  newly_count zero f = refl
  newly_count (suc k) f =
      omega (arith, newly_count k (λ q a b. f q a (omega arith)), bit_new (held_at s (suc k)) (held_at t (suc k)) (f (suc k) (omega arith) (omega arith)))

-- the positions of the tree of s that t holds
abbrev pub holds : List ℕ → List ℕ → ℕ
holds s t = held_count (positions (height_of s) - 1) t

module _ (s t : List ℕ) (f : Facts s) (g : Grown s t) where
  reaches : Reaches s t (positions (height_of s) - 1)
  unfolding Reaches
  reaches q a b h = (g.kept q (omega (arith, positions_some (height_of s))) h).0

  -- a store that has grown holds no more, or more
  pub quiet_or_more : NothingNew s t ⊎ (holds s s < holds s t)
  quiet_or_more =
      elim (dec_lt (holds s s) (holds s t)) [
        | yes l ↦ inr l
        | no n ↦ inl (back s t f g (λ q a b h. count_same s t (positions (height_of s) - 1) reaches (omega arith) q a (omega arith) h))
      ]

  -- with nothing newly held it holds as many
  pub quiet_count : NothingNew s t → holds s t ≤ holds s s
  unfolding Reaches positions
  quiet_count n =
      count_grows t s (2 * 2 ^ height_of s - 1)
      (λ q a b h.
      let c = node_number_covers (height_of s) q a (omega arith) in
      let e = g.same.layers in
      let k : held_at t (node_number (height_of t) c.0 c.1) ≡ true = ap (held_at t) (ap (λ (y : ℕ). node_number y c.0 c.1) e ∙ sym c.4) ∙ h in
      let w = holds_at t c.0 c.1 g.facts (rw e c.2) (rw e c.3) k in
      ap (held_at s) c.4 ∙ (what_is_held s c.0 c.1 _ f (n c.0 c.1 _ w)).1)

-- ---- what a gateway sees: the counts

same_many : (h : ℕ) (s t : List ℕ) → ((q : ℕ) → q < positions h → held_at t q ≡ held_at s q) → held_count (positions h - 1) t ≡ held_count (positions h - 1) s
unfolding Reaches
same_many h s t e =
    let a = count_grows s t (positions h - 1) (λ q x y k. e q (omega (arith, positions_some h)) ∙ k) in
    let b = count_grows t s (positions h - 1) (λ q x y k. sym (e q (omega (arith, positions_some h))) ∙ k) in
    omega arith

module _ (s : List ℕ) (f : Facts s) where
  As : List ℕ → Type 0
  As t = Grown s t × (holds s t ≡ holds s s)

  -- no message offered: as many held
  stays_many : PreservedBy (Heard (λ m. ⊥)) As
  unfolding As
  stays_many =
      record {
        taken = λ a m b y p. absurd y;
        loaded = λ a l b y p. absurd y;
        remarked =
            λ a i n x fa l c p. (
              grown_on p.0 (grown_marks a i n x fa l),
              same_many (height_of s) a (marks_put a i n x) (λ q b. marks_held a fa i n x l q (rw p.0.same.layers b)) ∙ p.1,
            );
        moved =
            λ a t b e p. (
              grown_on p.0 (grown_moved a t p.0.facts e),
              same_many (height_of s) a t (λ q b. used_held a t p.0.facts e.bytes q (rw p.0.same.layers b)) ∙ p.1,
            );
      }

  as_many : (c : Call) → (Opening c → ⊥) → Heard (λ m. ⊥) c → 0 + holds s s ≡ holds s (after c s)
  unfolding As
  as_many c x y = let w = by_call (Heard (λ m. ⊥)) As stays_many c s (λ o z. x o) y (grown_same s f, refl) in omega (arith, w.1)

  pub take_counts : (m : List ℕ) → (take_answer s m).count + holds s s ≡ holds s (take_after s m)
  unfolding take_answer
  take_counts m =
      let e : suc (positions (height_of s) - 1) ≡ positions (height_of s) = omega (arith, positions_some (height_of s)) in
      let w = newly_count s (take_after s m) (positions (height_of s) - 1) (reaches s (take_after s m) f (grown_take s m f)) in
      rw e at w

  -- each call adds its count
  call_counts : (M : MessageSet) (c : Call) → Heard M c → count_of c s + holds s s ≡ holds s (after c s)
  call_counts M (take m b) y = take_counts m
  call_counts M (load_layer l b) y = absurd y
  call_counts M (judge_block i d b) y = as_many (judge_block i d b) (λ o. o) tt
  call_counts M (judge_piece i d b) y = as_many (judge_piece i d b) (λ o. o) tt
  call_counts M (judge_hybrid_piece i d v z b r) y = as_many (judge_hybrid_piece i d v z b r) (λ o. o) tt
  call_counts M (clear i) y = as_many (clear i) (λ o. o) tt
  call_counts M (reopen n plen root o) y = absurd y
  call_counts M (load b o) y = absurd y
  call_counts M (repair b o) y = absurd y
  call_counts M (look k) y = as_many (look k) (λ o. o) tt

-- the counts of a history add up to the positions by which the store has more
counts_add : {M : MessageSet} {s t : List ℕ} {h : Steps s t} → Facts s → Each (Heard M) t h → counted h + holds s s ≡ holds s t
unfolding counted
counts_add f nothing = omega arith
counts_add {M} {s} f (called {t} {h} c x w y) =
    let I = counts_add f w in
    let g = steps_grow f h in
    let k : count_of c t + holds s t ≡ holds s (after c t) = rw g.same.layers at (call_counts t g.facts M c y) in
    omega arith
counts_add {M} {s} f (between {t} {h} v b e w) =
    let I = counts_add f w in
    let g = steps_grow f h in
    I ∙ sym (same_many (height_of s) t v (λ q l. used_held t v g.facts e.bytes q (rw g.same.layers l)))

-- NOTHING NEWLY HELD, as a gateway sees it: the counts that it was answered are all zero
pub quiet_by_counts : {M : MessageSet} {s t : List ℕ} {h : Steps s t} → Facts s → Each (Heard M) t h → (counted h ≡ 0) ↔ NothingNew s t
quiet_by_counts {M} {s} {t} {h} f w =
    let a = counts_add f w in
    let g = steps_grow f h in (
      λ z. elim (quiet_or_more s t f g) [ inl q ↦ q | inr l ↦ let n : ⊥ = omega arith in absurd n ],
      λ q. let b = quiet_count s t f g q in omega arith,
    )

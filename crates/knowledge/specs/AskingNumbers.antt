-- Each number of kd_next_request and kd_pick_piece, exactly when; it is in the table; beside a refusal all else is zero.
-- Assumes nothing.
use Rattle.std.specs.Prelude.{◌≡◌, Bool, ◌||◌, ◌&&◌, List, ◌↔◌, ℕ, length, eqb}
use Rattle.std.proofs.Math.Path.{refl}
use Rattle.std.proofs.Common.{ap, sym, ◌∙◌, inl, inr, arith, pow_pos, eq-eqb, ne_eqb, eqb-true}
use Rattle.std.proofs.Math.Bool.{true, false, cond}
use Rattle.numbers.specs.Numbers.{rule_broken, wrong_size, no_anchor, unusable, InTable}
use Rattle.numbers.specs.Tests.{not_both, says_not, eqb_no, through, in_turn}
use Rattle.numbers.specs.Chain.{Chain, last, test, decided, exactly_of, in_table_of}
use Rattle.tree.specs.Geometry.{node_number, piece_layer, piece_count, has_layer}
use Rattle.tree.proofs.GeometryLaws.{node_number_root, has_longer, longer_has}
use Rattle.cells.specs.Cells.{held_at, hash_at}
use Rattle.store.specs.Store.{usable, file_length, piece_length, height_of, Facts}
use Rattle.store.specs.StoreLaws.{usable_facts}
use Rattle.asking.specs.declared.next.Request.{Request}
use Rattle.asking.specs.declared.pick.Choice.{Choice}
use Rattle.asking.specs.Asking.{layer_asked, no_request, next_number, next_answer}
use Rattle.asking.specs.Picking.{no_piece, best_of, pick_answer}
use Rattle.asking.proofs.PickingLaws.{Best, none, this, best_is}
use Rattle.words.specs.Held.{Holds, Lacks}
use Rattle.words.specs.Asking.{MayAsk, CountEach}
use Rattle.knowledge.specs.ReadBack.{holds_at}
use Rattle.knowledge.specs.Again.{what_is_held}
use Rattle.knowledge.specs.NextRequest.{number_is, Three, refuses, nothing_asked, one_asked, three}

-- ---- kd_next_request

-- the layer's test, and the root's
may_ask : (s : List ℕ) (l : ℕ) → (layer_asked s l ≡ true) ↔ MayAsk s l
unfolding layer_asked
may_ask s l = (λ e. to (eqb l 0) (eqb l (piece_layer (piece_length s))) (has_layer (file_length s) (piece_length s)) refl refl refl e, from)
  where
    to : (a b c : Bool) → eqb l 0 ≡ a → eqb l (piece_layer (piece_length s)) ≡ b → has_layer (file_length s) (piece_length s) ≡ c
        → (eqb l 0 || (eqb l (piece_layer (piece_length s)) && has_layer (file_length s) (piece_length s))) ≡ true → MayAsk s l
    to true b c p q r e = inl (eqb-true l 0 p)
    to false true true p q r e = inr (eqb-true l (piece_layer (piece_length s)) q, has_longer (file_length s) (piece_length s) r)
    to false true false p q r e = absurd (not_both e (rw (p, q, r)))
    to false false c p q r e = absurd (not_both e (rw (p, q)))

    from : MayAsk s l → (eqb l 0 || (eqb l (piece_layer (piece_length s)) && has_layer (file_length s) (piece_length s))) ≡ true
    from (inl e) = rw e
    from (inr w) = by (eqb l 0) (eq-eqb l (piece_layer (piece_length s)) w.0) (longer_has (file_length s) (piece_length s) w.1)
      where
        by : (a : Bool) → eqb l (piece_layer (piece_length s)) ≡ true → has_layer (file_length s) (piece_length s) ≡ true
            → (a || (eqb l (piece_layer (piece_length s)) && has_layer (file_length s) (piece_length s))) ≡ true
        by true q r = refl
        by false q r = rw (q, r)

root_held : (s : List ℕ) → Facts s → (held_at s 1 ≡ true) ↔ ((v : List ℕ) × Holds s (height_of s) 0 v)
root_held s f =
    let n = node_number_root (height_of s) in (
      λ e. (hash_at s (node_number (height_of s) (height_of s) 0), holds_at s (height_of s) 0 f (omega arith) (pow_pos _) (rw n e)),
      λ w. rw n at (what_is_held s (height_of s) 0 w.0 f w.1).1,
    )

-- 9, 3, 6, 0
abbrev next_chain : List ℕ → ℕ → Chain
next_chain s l = test (usable s) unusable (test (layer_asked s l) rule_broken (test (held_at s 1) no_anchor (last 0)))

module _ (s : List ℕ) (l : ℕ) where
  next_tests : (next_answer s l).number ≡ decided (next_chain s l)
  next_tests = number_is s l ∙ (unfold next_number in refl)

  -- 9 EXACTLY WHEN the store is unusable
  pub next_9 : ((next_answer s l).number ≡ unusable) ↔ (usable s ≡ false)
  next_9 = exactly_of (next_chain s l) unusable next_tests refl

  -- 3 EXACTLY WHEN it is usable, and the layer is none that may be asked for
  pub next_3 : ((next_answer s l).number ≡ rule_broken) ↔ ((usable s ≡ true) × (MayAsk s l → ⊥))
  next_3 = through (exactly_of (next_chain s l) rule_broken next_tests refl) (λ u. says_not (may_ask s l))

  -- 6 EXACTLY WHEN it may be asked for, and the root isn't held
  pub next_6 : ((next_answer s l).number ≡ no_anchor) ↔ ((usable s ≡ true) × MayAsk s l × Lacks s (height_of s) 0)
  next_6 =
      let c = exactly_of (next_chain s l) no_anchor next_tests refl in (
        λ e. (let t = c.0 e in (t.0, (may_ask s l).0 t.1.0, λ v h. not_both ((root_held s (usable_facts s t.0)).1 (v, h)) t.1.1)),
        λ t. c.1 (t.0, ((may_ask s l).1 t.1, (says_not (root_held s (usable_facts s t.0))).1 (λ w. t.2 w.0 w.1))),
      )

  -- 0 EXACTLY WHEN it may be asked for, and the root is held
  pub next_0 : ((next_answer s l).number ≡ 0) ↔ ((usable s ≡ true) × MayAsk s l × ((v : List ℕ) × Holds s (height_of s) 0 v))
  next_0 =
      let c = exactly_of (next_chain s l) 0 next_tests refl in (
        λ e. (let t = c.0 e in (t.0, (may_ask s l).0 t.1.0, (root_held s (usable_facts s t.0)).0 t.1.1.0)),
        λ t. c.1 (t.0, ((may_ask s l).1 t.1, ((root_held s (usable_facts s t.0)).1 t.2, refl))),
      )

  -- the number is in the table,
  pub next_in_table : InTable (next_answer s l).number
  next_in_table = in_table_of (next_chain s l) next_tests refl

  -- and beside a refusal all else is zero
  pub next_beside : ((next_answer s l).number ≡ 0 → ⊥) → next_answer s l ≡ no_request (next_answer s l).number
  next_beside ne = by (three s l)
    where
      by : Three s l → next_answer s l ≡ no_request (next_answer s l).number
      by (refuses z e) = e ∙ ap no_request (sym (number_is s l))
      by (nothing_asked A a e) = absurd (ne (ap (λ (r : Request). r.number) e))
      by (one_asked A a e) = absurd (ne (ap (λ (r : Request). r.number) e))

-- ---- kd_pick_piece

best_zero : (s counts : List ℕ) (n : ℕ) → (best_of s counts n).number ≡ 0
best_zero s counts n = by (best_is s counts n)
  where
    by : Best s counts n (best_of s counts n) → (best_of s counts n).number ≡ 0
    by (none e g) = ap (λ (c : Choice). c.number) e
    by (this i e l f a b) = ap (λ (c : Choice). c.number) e

-- 9, 4, 0
abbrev pick_chain : List ℕ → List ℕ → Chain
pick_chain s counts = test (usable s) unusable (test (eqb (length counts) (piece_count (file_length s) (piece_length s))) wrong_size (last 0))

module _ (s counts : List ℕ) where
  pick_tests : (pick_answer s counts).number ≡ decided (pick_chain s counts)
  unfolding pick_answer
  pick_tests = by (usable s) (eqb (length counts) (piece_count (file_length s) (piece_length s)))
    where
      by : (u e : Bool) → (cond u (cond e (best_of s counts (length counts)) (no_piece wrong_size)) (no_piece unusable)).number ≡ cond u (cond e 0 wrong_size) unusable
      by true true = best_zero s counts (length counts)
      by true false = refl
      by false e = refl

  -- 9 EXACTLY WHEN the store is unusable
  pub pick_9 : ((pick_answer s counts).number ≡ unusable) ↔ (usable s ≡ false)
  pick_9 = exactly_of (pick_chain s counts) unusable pick_tests refl

  -- 4 EXACTLY WHEN it is usable, and the list has another length than the file has pieces
  pub pick_4 : ((pick_answer s counts).number ≡ wrong_size) ↔ ((usable s ≡ true) × (length counts ≡ piece_count (file_length s) (piece_length s) → ⊥))
  pick_4 =
      through (exactly_of (pick_chain s counts) wrong_size pick_tests refl)
      (λ u. (eqb_no (length counts) (piece_count (file_length s) (piece_length s)), ne_eqb (length counts) (piece_count (file_length s) (piece_length s))))

  -- 0 EXACTLY WHEN there is a count for each piece of a usable store's file
  pub pick_0 : ((pick_answer s counts).number ≡ 0) ↔ CountEach s counts
  pick_0 =
      in_turn (exactly_of (pick_chain s counts) 0 pick_tests refl) (
        λ t. record { store = t.0; size = eqb-true (length counts) (piece_count (file_length s) (piece_length s)) t.1.0 },
        λ L. (L.store, (eq-eqb (length counts) (piece_count (file_length s) (piece_length s)) L.size, refl)),
      )

  -- the number is in the table,
  pub pick_in_table : InTable (pick_answer s counts).number
  pick_in_table = in_table_of (pick_chain s counts) pick_tests refl

  -- and beside a refusal all else is zero
  pub pick_beside : ((pick_answer s counts).number ≡ 0 → ⊥) → pick_answer s counts ≡ no_piece (pick_answer s counts).number
  unfolding pick_answer
  pick_beside = by (usable s) (eqb (length counts) (piece_count (file_length s) (piece_length s))) (best_of s counts (length counts)) (best_zero s counts (length counts))
    where
      by : (u e : Bool) (c : Choice) → c.number ≡ 0 → ((cond u (cond e c (no_piece wrong_size)) (no_piece unusable)).number ≡ 0 → ⊥)
          → cond u (cond e c (no_piece wrong_size)) (no_piece unusable) ≡ no_piece (cond u (cond e c (no_piece wrong_size)) (no_piece unusable)).number
      by true true c z ne = absurd (ne z)
      by true false c z ne = refl
      by false e c z ne = refl

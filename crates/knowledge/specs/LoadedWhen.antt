-- Each number of a load and of a repair exactly when, and what is held afterwards, as kd_held answers. 32 stands twice among the tests: for bytes
-- without a whole opening record, and for the rest.
-- Assumes nothing.
use Rattle.std.specs.Prelude.{◌≡◌, refl, Bool, true, false, cond, List, ◌↔◌, ◌⊎◌, ℕ, ◌≤◌, ◌<◌, length, get_or, drop, eqb, leb}
use Rattle.std.proofs.Common.{sym, ◌∙◌, inl, inr, arith, eq-eqb, eqb-true, le-leb, leb-true, leb-false}
use Rattle.std.proofs.Math.Bool.{and-eq-true_iff}
use Rattle.std.proofs.lemmas.Bool.{false≢true, lt-leb}
use Rattle.numbers.specs.Numbers.{unusable, facts_out_of_range, not_saved}
use Rattle.numbers.specs.Chain.{decided, exactly_of}
use Rattle.numbers.specs.Tests.{says_not}
use Rattle.tree.proofs.GeometryLaws.{block_count_some}
use Rattle.store.specs.Store.{usable, file_length, piece_length, facts_root, facts_in_range, store_size}
use Rattle.store.specs.StoreLaws.{range_says, facts_usable, opened_forgets}
use Rattle.saved.specs.Form.{length_in, piece_length_in, root_in, blocks_in, height_in, opens, formed}
use Rattle.saved.specs.Clauses.{Kept}
use Rattle.saved.specs.Saved.{root_right, sound, loaded, rooted, repaired, load_answer, load_after, repair_answer, repair_after}
use Rattle.saved.proofs.SoundExactly.{root_exactly}
use Rattle.saved.proofs.PrefixLaws.{form_says}
use Rattle.saved.proofs.Promises.{accepted_exactly_when}
use Rattle.saved.proofs.RoundTrip.{loaded_facts, loaded_file, loaded_root, loaded_piece}
use Rattle.saved.proofs.RepairedLaws.{repaired_facts, repaired_file, repaired_root, repaired_piece}
use Rattle.words.specs.Held.{Holds}
use Rattle.words.specs.Answers.{InRange}
use Rattle.words.specs.Saving.{WholeOpening, Ready, NamedBy, Loadable, Repairable}
use Rattle.knowledge.specs.NumberChains.{saved_chain, load_tests, repair_tests}
use Rattle.knowledge.specs.RootAlone.{range_exactly}
use Rattle.knowledge.specs.SavedWhen.{load_0, repair_0}
use Rattle.knowledge.specs.Restored.{holds_exactly, held_in, named_in, kept_in, in_kept}

-- ---- what the tests say

pub opens_exactly : (b : List ℕ) → (opens b ≡ true) ↔ WholeOpening b
unfolding opens
opens_exactly b = (
  λ t.
      let w = (and-eq-true_iff (leb 45 (length b)) (eqb (get_or b 0 0) 1)).0 t in
      record { long = leb-true 45 (length b) w.0; kind = eqb-true (get_or b 0 0) 1 w.1 },
  λ w. (and-eq-true_iff (leb 45 (length b)) (eqb (get_or b 0 0) 1)).1 (le-leb 45 (length b) w.long, eq-eqb (get_or b 0 0) 1 w.kind),
)

pub blocks_some : (b : List ℕ) → facts_in_range (length_in b) (piece_length_in b) ≡ true → 1 ≤ blocks_in b
blocks_some b r = block_count_some (length_in b) (range_says (length_in b) (piece_length_in b) r).0

pub loadable_exactly : (b : List ℕ) → facts_in_range (length_in b) (piece_length_in b) ≡ true → (sound b ≡ true) ↔ Loadable b
loadable_exactly b r =
    let w = accepted_exactly_when b (blocks_some b r) in
    (λ g. let x = w.0 g in record { form = x.0; clauses = x.1 }, λ x. w.1 (x.form, x.clauses))

repairable_exactly : (b : List ℕ) → facts_in_range (length_in b) (piece_length_in b) ≡ true → (rooted b ≡ true) ↔ Repairable b
unfolding rooted
repairable_exactly b r = (
  λ g.
      let t = (and-eq-true_iff (formed b) (root_right (height_in b) b)).0 g in
      record { form = t.0; root = (root_exactly (height_in b) (blocks_in b) b (blocks_some b r) (form_says b t.0).places).0 t.1 },
  λ x.
      (and-eq-true_iff (formed b) (root_right (height_in b) b)).1
      (x.form, (root_exactly (height_in b) (blocks_in b) b (blocks_some b r) (form_says b x.form).places).1 x.root),
)

-- ---- the numbers

-- 32 where the first test fails, or the others pass and the last fails
twice : (a b c d : Bool) → (cond a (cond b (cond c (cond d 0 not_saved) unusable) facts_out_of_range) not_saved ≡ not_saved)
    ↔ ((a ≡ false) ⊎ ((a ≡ true) × (b ≡ true) × (c ≡ true) × (d ≡ false)))
twice false b c d = (λ e. inl refl, λ x. refl)
twice true false c d = (λ e. absurd (omega (arith, e)), λ x. elim x [ inl p ↦ absurd (false≢true (sym p)) | inr p ↦ absurd (false≢true p.1) ])
twice true true false d = (λ e. absurd (omega (arith, e)), λ x. elim x [ inl p ↦ absurd (false≢true (sym p)) | inr p ↦ absurd (false≢true p.2) ])
twice true true true false = (λ e. inr (refl, refl, refl, refl), λ x. refl)
twice true true true true = (λ e. absurd (omega (arith, e)), λ x. elim x [ inl p ↦ absurd (false≢true (sym p)) | inr p ↦ absurd (false≢true (sym p.3)) ])

-- of a number with these tests, whatever is asked at last
module _ (s b : List ℕ) (ok : Bool) {A : Type 0} (says : facts_in_range (length_in b) (piece_length_in b) ≡ true → (ok ≡ true) ↔ A) {n : ℕ}
    (e : n ≡ decided (saved_chain ok s b)) where
  ready : opens b ≡ true → facts_in_range (length_in b) (piece_length_in b) ≡ true → leb (store_size (length_in b)) (length s) ≡ true → Ready s b
  ready x y z =
      record {
        opening = (opens_exactly b).0 x;
        range = (range_exactly (length_in b) (piece_length_in b)).0 y;
        room = leb-true (store_size (length_in b)) (length s) z;
      }

  in_range : Ready s b → facts_in_range (length_in b) (piece_length_in b) ≡ true
  in_range R = (range_exactly (length_in b) (piece_length_in b)).1 R.range

  is_32 : (n ≡ not_saved) ↔ ((WholeOpening b → ⊥) ⊎ (Ready s b × (A → ⊥)))
  is_32 =
      let w = twice (opens b) (facts_in_range (length_in b) (piece_length_in b)) (leb (store_size (length_in b)) (length s)) ok in (
        λ q. elim (w.0 (sym e ∙ q)) [
          | inl x ↦ inl ((says_not (opens_exactly b)).0 x)
          | inr x ↦ inr (ready x.0 x.1 x.2, (says_not (says x.1)).0 x.3)
        ],
        λ x. e ∙ w.1 (elim x [
          | inl y ↦ inl ((says_not (opens_exactly b)).1 y)
          | inr y ↦ inr ((opens_exactly b).1 y.0.opening, in_range y.0, le-leb (store_size (length_in b)) (length s) y.0.room, (says_not (says (in_range y.0))).1 y.1)
        ]),
      )

  is_10 : (n ≡ facts_out_of_range) ↔ (WholeOpening b × (InRange (length_in b) (piece_length_in b) → ⊥))
  is_10 =
      let c = exactly_of (saved_chain ok s b) facts_out_of_range e refl in
      let r = says_not (range_exactly (length_in b) (piece_length_in b)) in (
        λ q. let t = c.0 q in ((opens_exactly b).0 t.0, r.0 t.1),
        λ t. c.1 ((opens_exactly b).1 t.0, r.1 t.1),
      )

  is_9 : (n ≡ unusable) ↔ (WholeOpening b × InRange (length_in b) (piece_length_in b) × (length s < store_size (length_in b)))
  is_9 =
      let c = exactly_of (saved_chain ok s b) unusable e refl in
      let r = range_exactly (length_in b) (piece_length_in b) in (
        λ q. let t = c.0 q in ((opens_exactly b).0 t.0, r.0 t.1.0, leb-false (store_size (length_in b)) (length s) t.1.1),
        λ t. c.1 ((opens_exactly b).1 t.0, (r.1 t.1, lt-leb (store_size (length_in b)) (length s) t.2)),
      )

  is_0 : (n ≡ 0) ↔ (Ready s b × A)
  is_0 =
      let c = exactly_of (saved_chain ok s b) 0 e refl in (
        λ q. let t = c.0 q in (ready t.0 t.1.0 t.1.1.0, (says t.1.0).0 t.1.1.1.0),
        λ t. c.1 ((opens_exactly b).1 t.0.opening, (in_range t.0, (le-leb (store_size (length_in b)) (length s) t.0.room, ((says (in_range t.0)).1 t.1, refl)))),
      )

-- A LOAD
module _ (s b : List ℕ) where
  pub load_32 : ((load_answer s b).number ≡ not_saved) ↔ ((WholeOpening b → ⊥) ⊎ (Ready s b × (Loadable b → ⊥)))
  load_32 = is_32 s b (sound b) (loadable_exactly b) (load_tests s b)

  pub load_10 : ((load_answer s b).number ≡ facts_out_of_range) ↔ (WholeOpening b × (InRange (length_in b) (piece_length_in b) → ⊥))
  load_10 = is_10 s b (sound b) (loadable_exactly b) (load_tests s b)

  pub load_9 : ((load_answer s b).number ≡ unusable) ↔ (WholeOpening b × InRange (length_in b) (piece_length_in b) × (length s < store_size (length_in b)))
  load_9 = is_9 s b (sound b) (loadable_exactly b) (load_tests s b)

  pub load_is_0 : ((load_answer s b).number ≡ 0) ↔ (Ready s b × Loadable b)
  load_is_0 = is_0 s b (sound b) (loadable_exactly b) (load_tests s b)

-- A REPAIR
module _ (s b : List ℕ) where
  pub repair_32 : ((repair_answer s b).number ≡ not_saved) ↔ ((WholeOpening b → ⊥) ⊎ (Ready s b × (Repairable b → ⊥)))
  repair_32 = is_32 s b (rooted b) (repairable_exactly b) (repair_tests s b)

  pub repair_10 : ((repair_answer s b).number ≡ facts_out_of_range) ↔ (WholeOpening b × (InRange (length_in b) (piece_length_in b) → ⊥))
  repair_10 = is_10 s b (rooted b) (repairable_exactly b) (repair_tests s b)

  pub repair_9 : ((repair_answer s b).number ≡ unusable) ↔ (WholeOpening b × InRange (length_in b) (piece_length_in b) × (length s < store_size (length_in b)))
  repair_9 = is_9 s b (rooted b) (repairable_exactly b) (repair_tests s b)

  pub repair_is_0 : ((repair_answer s b).number ≡ 0) ↔ (Ready s b × Repairable b)
  repair_is_0 = is_0 s b (rooted b) (repairable_exactly b) (repair_tests s b)

-- ---- what is held then

-- HELD EXACTLY IF NAMED
pub load_holds : (s b : List ℕ) → (load_answer s b).number ≡ 0 → (l i : ℕ) (v : List ℕ) → Holds (load_after s b) l i v ↔ NamedBy b l i v
load_holds s b z l i v =
    let w = load_0 s b z in
    let e = holds_exactly _ (loaded_facts s b w.0 w.1) l i v in
    rw w.2 (λ k. named_in s b w.0 w.1 l i v (e.0 k), λ k. e.1 (held_in s b w.0 w.1 l i v k))

-- HELD EXACTLY IF KEPT
pub repair_holds : (s b : List ℕ) → (repair_answer s b).number ≡ 0 → (l i : ℕ) (v : List ℕ)
    → Holds (repair_after s b) l i v ↔ Kept (height_in b) (blocks_in b) (root_in b) (NamedBy b) l i v
repair_holds s b z l i v =
    let w = repair_0 s b z in
    let some = blocks_some b ((range_exactly (length_in b) (piece_length_in b)).1 ((repair_is_0 s b).0 z).0.range) in
    let e = holds_exactly _ (repaired_facts s b w.0 w.1) l i v in
    rw w.2 (λ k. in_kept s b w.0 w.1 some l i v (e.0 k), λ k. e.1 (kept_in s b w.0 w.1 some l i v k))

-- IT IS USABLE,
pub load_usable : (s b : List ℕ) → (load_answer s b).number ≡ 0 → usable (load_after s b) ≡ true
load_usable s b z = let w = load_0 s b z in rw w.2 (facts_usable (loaded s b) (loaded_facts s b w.0 w.1))

-- and names the length, piece length and root that the bytes name
pub load_names : (s b : List ℕ) → (load_answer s b).number ≡ 0
    → (file_length (load_after s b) ≡ length_in b) × (facts_root (load_after s b) ≡ root_in b) × (piece_length (load_after s b) ≡ piece_length_in b)
load_names s b z =
    let w = load_0 s b z in
    rw w.2 (loaded_file s b w.0 w.1, loaded_root s b w.0 w.1, loaded_piece s b w.0 w.1)

pub repair_names : (s b : List ℕ) → (repair_answer s b).number ≡ 0
    → (file_length (repair_after s b) ≡ length_in b) × (facts_root (repair_after s b) ≡ root_in b) × (piece_length (repair_after s b) ≡ piece_length_in b)
repair_names s b z =
    let w = repair_0 s b z in
    rw w.2 (repaired_file s b w.0 w.1, repaired_root s b w.0 w.1, repaired_piece s b w.0 w.1)

-- ---- every byte is set

loaded_forgets : (s t b : List ℕ) → drop (store_size (length_in b)) s ≡ drop (store_size (length_in b)) t → loaded s b ≡ loaded t b
unfolding loaded
loaded_forgets s t b e = rw (opened_forgets s t (length_in b) (piece_length_in b) (root_in b) e)

repaired_forgets : (s t b : List ℕ) → drop (store_size (length_in b)) s ≡ drop (store_size (length_in b)) t → repaired s b ≡ repaired t b
unfolding repaired
repaired_forgets s t b e = rw (opened_forgets s t (length_in b) (piece_length_in b) (root_in b) e)

-- WHATEVER THE STORE'S BYTES WERE: two buffers with the same bytes behind the store are left the same
pub load_forgets : (s t b : List ℕ) → drop (store_size (length_in b)) s ≡ drop (store_size (length_in b)) t → (load_answer s b).number ≡ 0 → (load_answer t b).number ≡ 0
    → load_after s b ≡ load_after t b
load_forgets s t b e y z = (load_0 s b y).2 ∙ loaded_forgets s t b e ∙ sym (load_0 t b z).2

pub repair_forgets : (s t b : List ℕ) → drop (store_size (length_in b)) s ≡ drop (store_size (length_in b)) t → (repair_answer s b).number ≡ 0 → (repair_answer t b).number ≡ 0
    → repair_after s b ≡ repair_after t b
repair_forgets s t b e y z = (repair_0 s b y).2 ∙ repaired_forgets s t b e ∙ sym (repair_0 t b z).2

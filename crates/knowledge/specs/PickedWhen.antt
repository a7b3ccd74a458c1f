-- 02, request 11: the piece picked, exactly: not on disk, some neighbour has it, none of those is rarer, none before it as rare.
-- Assumes nothing.
use Rattle.std.specs.Prelude.{◌≡◌, refl, Bool, true, false, not, List, ◌↔◌, ℕ, ◌<◌, length, get_or, ltb}
use Rattle.std.proofs.Common.{sym, ◌∙◌, inl, inr, arith, eq-eqb, lt-ltb, ltb-true}
use Rattle.std.proofs.Math.Bool.{and-eq-true_iff}
use Rattle.tree.specs.Geometry.{piece_count}
use Rattle.store.specs.Store.{file_length, piece_length, Facts}
use Rattle.store.specs.StoreLaws.{usable_facts}
use Rattle.marks.specs.Marks.{first_block, blocks_in, piece_marked}
use Rattle.marks.specs.MarksLaws.{all_marked_says, all_marked_each}
use Rattle.asking.specs.Picking.{fetchable, best_of, pick_answer}
use Rattle.asking.proofs.PickingLaws.{Best, none, this, best_is}
use Rattle.words.specs.Asking.{CountEach, OnDisk, ToFetch, Picked, nothing_left, rarest}
use Rattle.numbers.specs.Tests.{either, not_both}
use Rattle.knowledge.specs.Bitfield.{covered_in, in_covered, all_of_piece}
use Rattle.knowledge.specs.MarksSince.{marked_says}

-- piece i of the file is marked as a whole exactly if it is on disk
module _ (s : List ℕ) (f : Facts s) (i : ℕ) (l : i < piece_count (file_length s) (piece_length s)) where
  pub on_disk_exactly : (piece_marked s i ≡ true) ↔ OnDisk s i
  on_disk_exactly = (
    λ e j c.
        let w = in_covered s f i l j c in
        (marked_says s f j).1 (c.inside, all_marked_says s (first_block s i) (blocks_in s i) (sym (all_of_piece s f i l) ∙ e) j w.0 w.1),
    λ g. all_of_piece s f i l ∙ all_marked_each s (first_block s i) (blocks_in s i) (λ j a b. ((marked_says s f j).0 (g j (covered_in s f i l j a b))).1),
  )

fetch_says : (s counts : List ℕ) (i : ℕ) → fetchable s counts i ≡ true → (0 < get_or counts i 0) × (piece_marked s i ≡ false)
unfolding fetchable
fetch_says s counts i e =
    let w = (and-eq-true_iff (ltb 0 (get_or counts i 0)) (not (piece_marked s i))).0 e in
    (ltb-true 0 (get_or counts i 0) w.0, flip (piece_marked s i) w.1)
  where
    flip : (b : Bool) → not b ≡ true → b ≡ false
    flip true q = absurd (not_both q refl)
    flip false q = refl

says_fetch : (s counts : List ℕ) (i : ℕ) → 0 < get_or counts i 0 → piece_marked s i ≡ false → fetchable s counts i ≡ true
unfolding fetchable
says_fetch s counts i c m = rw (lt-ltb 0 (get_or counts i 0) c, m)

pub picked_0 : (s counts : List ℕ) → CountEach s counts → pick_answer s counts ≡ best_of s counts (length counts)
unfolding pick_answer
picked_0 s counts L = rw (L.store, eq-eqb (length counts) (piece_count (file_length s) (piece_length s)) L.size)

-- to fetch, by the tests
module _ (s counts : List ℕ) (f : Facts s) where
  to_fetch : (i : ℕ) → ToFetch s counts i → fetchable s counts i ≡ true
  to_fetch i t =
      elim (either (piece_marked s i)) [
        | inl m ↦ absurd (t.lacking ((on_disk_exactly s f i t.in_file).0 m))
        | inr m ↦ says_fetch s counts i t.some m
      ]

  fetch_to : (i : ℕ) → i < piece_count (file_length s) (piece_length s) → fetchable s counts i ≡ true → ToFetch s counts i
  fetch_to i l e =
      let w = fetch_says s counts i e in
      record { in_file = l; some = w.0; lacking = λ d. not_both ((on_disk_exactly s f i l).1 d) w.1 }

-- THE PICK: nothing to fetch, and then no piece is one to fetch; or the rarest of those to fetch
pub picked : (s counts : List ℕ) → CountEach s counts → Picked s counts
picked s counts L = by (best_is s counts (length counts))
  where
    f : Facts s
    f = usable_facts s L.store

    by : Best s counts (length counts) (best_of s counts (length counts)) → Picked s counts
    by (none e g) = nothing_left (picked_0 s counts L ∙ e) (λ i t. not_both (to_fetch s counts f i t) (g i (omega (arith, L.size, t.in_file))))
    by (this i e l g all low) =
        rarest i (picked_0 s counts L ∙ e)
        (record {
          fetch = fetch_to s counts f i (omega (arith, L.size)) g;
          least = λ j t. all j (omega (arith, L.size, t.in_file)) (to_fetch s counts f j t);
          lowest = λ j b t. low j b (to_fetch s counts f j t);
        })

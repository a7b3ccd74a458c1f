-- Demand 2: "then its positions and no others become held", and the count.
-- Assumes nothing.
use Rattle.std.specs.Prelude.{◌≡◌, Bool, true, not, List, [], ◌∷◌, ◌⊎◌, ℕ, ◌+◌, ◌*◌, ◌^◌, ◌≤◌, ◌<◌, length}
use Rattle.std.proofs.Math.Path.{refl, ap}
use Rattle.std.proofs.Common.{ap₂, ◌∙◌, eq-eqb, arith}
use Rattle.std.proofs.Math.ListN.{length-append}
use Rattle.tree.specs.Values.{node}
use Rattle.cells.specs.Cells.{Room, held_at, hash_at, put}
use Rattle.cells.specs.CellsLaws.{put_room, held_put_other}
use Rattle.cells.specs.Entries.{Entry, put_all, one_if, newly, lacks, fresh}
use Rattle.cells.specs.EntriesLaws.{lacks_held, lacks_small, Sound, In, here, there, Has, Apart, entries_held, held_or_entry, count_fresh}
use Rattle.store.specs.Store.{height_of, positions}
use Rattle.settling.specs.Subtree.{subtree}
use Rattle.settling.specs.SubtreeLaws.{subtree_length}
use Rattle.settling.specs.Path.{path}
use Rattle.settling.specs.PathLaws.{path_length}
use Rattle.settling.specs.SettledLaws.{settled_apart, settled_consistent, settled_anchor}
use Rattle.header.specs.Header.{header_of}
use Rattle.messages.specs.Take.{uncles_of, given, settled, anchor, place_in, take_number, take_after, take_answer}
use Rattle.messages.specs.TakenLaws.{ready_from_root, ready_settled, taken_ready}
use Rattle.knowledge.specs.TakenWhen.{taken_then_right, taken_well_formed}

module _ (s m : List ℕ) (z : take_number s m ≡ 0) where
  taken_is : take_after s m ≡ put_all s (settled m (place_in s m))
  unfolding take_after
  taken_is = rw (eq-eqb (take_number s m) 0 z)

  sound : Sound (positions (height_of s)) (settled m (place_in s m))
  sound = ready_settled (length s) m (height_of s) (header_of m) (place_in s m) (taken_ready s m (take_number s m) refl z)

  -- every position that the message settles is held, with the message's value
  pub settled_held : (e : Entry) → In e (settled m (place_in s m)) → (held_at (take_after s m) e.at ≡ true) × (hash_at (take_after s m) e.at ≡ e.hash)
  unfolding settled
  settled_held e i =
      let p = place_in s m in
      let r = taken_ready s m (take_number s m) refl z in
      rw taken_is
      (entries_held (positions (height_of s)) (settled m (place_in s m)) s r.room sound
      (settled_consistent (given m p.k) (uncles_of m (2 ^ p.k) p.u) p.k p.top 0 0 p.u (node (given m p.k) p.k 0) r.anchor) e i)

  -- and no others
  pub no_others : (q : ℕ) → held_at (take_after s m) q ≡ true → (held_at s q ≡ true) ⊎ ((v : List ℕ) × Has q v (settled m (place_in s m)))
  no_others q h =
      let r = taken_ready s m (take_number s m) refl z in
      held_or_entry (positions (height_of s)) (settled m (place_in s m)) s r.room sound q (rw taken_is at h)

  -- the settled positions are 2·length − 1 + 2u
  pub settled_many : length (settled m (place_in s m)) + 1 ≡ 2 * 2 ^ (place_in s m).k + 2 * (place_in s m).u
  unfolding settled
  settled_many =
      let p = place_in s m in
      let A = subtree (given m p.k) p.k p.top 0 in
      let B = path (uncles_of m (2 ^ p.k) p.u) 0 p.u p.top (node (given m p.k) p.k 0) in
      omega (
        arith,
        length-append A B,
        subtree_length (given m p.k) p.k p.top 0,
        path_length (uncles_of m (2 ^ p.k) p.u) 0 p.u p.top (node (given m p.k) p.k 0),
      )

  -- distinct
  pub settled_distinct : Apart (settled m (place_in s m))
  unfolding settled
  settled_distinct =
      let p = place_in s m in
      let r = taken_ready s m (take_number s m) refl z in
      settled_apart (given m p.k) (uncles_of m (2 ^ p.k) p.u) p.k p.top 0 0 p.u (node (given m p.k) p.k 0) r.anchor

-- ---- the count

-- how many entries of a list are not held
unfoldable pub lacking : List ℕ → List Entry → ℕ
lacking s [] = 0
lacking s (e ∷ L) = lacks s e.at + lacking s L

lacking_put : (s : List ℕ) (b n : ℕ) (h : List ℕ) → Room b s → n < b → length h ≡ 32 → (L : List Entry) → ((f : Entry) → In f L → f.at ≡ n → ⊥) → lacking (put s n h) L ≡ lacking s L
unfolding lacking lacks
lacking_put s b n h r l z [] k = refl
lacking_put s b n h r l z (e ∷ L) k =
    ap₂ (λ (x : Bool) (y : ℕ). one_if (not x) + y) (held_put_other s b n r l h z e.at (k e here)) (lacking_put s b n h r l z L (λ f i. k f (there i)))

-- a list of distinct positions makes as many held as were not
pub fresh_lacking : (b : ℕ) (L : List Entry) (s : List ℕ) → Room b s → Sound b L → Apart L → fresh s L ≡ lacking s L
unfolding fresh lacking
fresh_lacking b [] s r Rattle.cells.specs.EntriesLaws.Sound.none a = refl
fresh_lacking b (e ∷ L) s r (Rattle.cells.specs.EntriesLaws.Sound.more i l S) (Rattle.cells.specs.EntriesLaws.Apart.more k a) =
    ap (λ (y : ℕ). lacks s e.at + y)
    (fresh_lacking b L (put s e.at e.hash) (put_room s b e.at r i e.hash l) S a ∙ lacking_put s b e.at e.hash r i l L k)

lacking_most : (s : List ℕ) (L : List Entry) → lacking s L ≤ length L
unfolding lacking
lacking_most s [] = omega arith
lacking_most s (e ∷ L) = omega (arith, lacks_small s e.at, lacking_most s L)

-- one of them held: at least one fewer
lacking_less : (s : List ℕ) (L : List Entry) (q : ℕ) (v : List ℕ) → Has q v L → held_at s q ≡ true → lacking s L + 1 ≤ length L
unfolding lacking
lacking_less s (e ∷ L) q v here h = omega (arith, lacks_held s q h, lacking_most s L)
lacking_less s (e ∷ L) q v (there i) h = omega (arith, lacks_small s e.at, lacking_less s L q v i h)
lacking_less s [] q v x'' h = elim x'' [ ]

module _ (s m : List ℕ) (z : take_number s m ≡ 0) where
  -- the count of a taken message: the settled positions that were not held
  pub count_lacking : (take_answer s m).count ≡ lacking s (settled m (place_in s m))
  unfolding take_answer
  count_lacking =
      let r = taken_ready s m (take_number s m) refl z in
      ap (newly (positions (height_of s)) s) (taken_is s m z)
      ∙ count_fresh (positions (height_of s)) (settled m (place_in s m)) s r.room (sound s m z)
      (ready_from_root (length s) m (height_of s) (header_of m) (place_in s m) r)
      ∙ fresh_lacking (positions (height_of s)) (settled m (place_in s m)) s r.room (sound s m z) (settled_distinct s m z)

  -- at most 2·length − 2 + 2u, since the anchor was held
  pub count_most : (take_answer s m).count + 2 ≤ 2 * 2 ^ (place_in s m).k + 2 * (place_in s m).u
  unfolding settled anchor
  count_most =
      let p = place_in s m in
      let r = taken_ready s m (take_number s m) refl z in
      let a = settled_anchor (given m p.k) (uncles_of m (2 ^ p.k) p.u) p.k p.top 0 0 p.u in
      omega (arith, count_lacking, settled_many s m z, lacking_less s (settled m (place_in s m)) _ _ a (taken_then_right s m (taken_well_formed s m z) z).held)

-- A LOADED STORE holds exactly the positions that the bytes name, and these meet the clauses; its marks are those that the bytes name.
-- Assumes nothing.
use Rattle.std.specs.Prelude.{◌≡◌, true, ◌&&◌, ◌↔◌, ◌⊎◌, ℕ, zero, suc, ◌+◌, ◌-◌, ◌*◌, ◌^◌, ◌≤◌, ◌<◌, length, List}
use Rattle.std.proofs.Math.Path.{refl, ap, sym}
use Rattle.std.proofs.Common.{ap₂, ◌∙◌, pow_pos, arith, eqb-true}
use Rattle.std.proofs.Math.Bool.{and-eq-true_iff}
use Rattle.std.proofs.Math.Logic.{inl, inr}
use Rattle.std.proofs.Math.Decide.{ℕ_discrete, dec_lt}
use Rattle.std.proofs.Math.Dec.{eqb}
use Rattle.octets.specs.Octets.{cut}
use Rattle.octets.specs.OctetsLaws.{cut_cut}
use Rattle.tree.specs.Geometry.{node_number}
use Rattle.tree.proofs.GeometryLaws.{block_count_some, node_number_range, node_number_distinct, node_number_root}
use Rattle.cells.specs.Cells.{held_at, hash_at}
use Rattle.cells.specs.EntriesLaws.{Sound, Hold, entries_held, held_or_entry}
use Rattle.store.specs.Store.{blocks_of, height_of, positions, Facts}
use Rattle.store.specs.StoreLaws.{opened_held, range_says}
use Rattle.marks.specs.Marks.{marked, marks_start, marks_put, marked_at}
use Rattle.marks.specs.MarksLaws.{marks_before, marks_cells, marked_in, marked_out}
use Rattle.saved.specs.Clauses.{Clauses}
use Rattle.saved.specs.Form.{length_in, piece_length_in, root_in, blocks_in, height_in, mark_count, place_count, layer_in, index_in, hash_in, block_in, marks_good, marks_from, formed, Placed}
use Rattle.saved.specs.Saved.{entries_in, marks_set, loaded, opening_number, root_right, chained, sound}
use Rattle.saved.proofs.SoundLaws.{record_at}
use Rattle.saved.proofs.SoundExactly.{RootLast, root_says, sound_exactly}
use Rattle.saved.proofs.RankLaws.{rank_root}
use Rattle.saved.proofs.PrefixLaws.{FormIn, form_says, mark_at, mark_says}
use Rattle.saved.proofs.LoadLaws.{marks_set_none, marks_set_next, marks_set_same, mark_fits, Opens, opening_says, root_long, first, first_height, first_room, second, second_facts, second_same, second_marks, entries_sound, entries_are, entry_of, entries_consistent}

-- ---- marks leave the cells

module _ (s : List ℕ) (f : Facts s) (i n x : ℕ) (fits : i + n ≤ 2 ^ height_of s) (q : ℕ) (b : q < positions (height_of s)) where
  held_apart : held_at (marks_put s i n x) q ≡ held_at s q
  unfolding held_at marks_start
  held_apart = ap (λ (y : ℕ). eqb y 1) (marks_before s f i n x fits (31 + 33 * q) (omega (arith, starts)))
    where
      starts : marks_start s ≡ 31 + 33 * positions (height_of s)
      starts = unfold marks_start in refl

  hash_apart : hash_at (marks_put s i n x) q ≡ hash_at s q
  unfolding hash_at
  hash_apart =
      let e : 0 + (32 + 33 * q) ≡ 32 + 33 * q = omega arith in
      let g : (u : List ℕ) → cut (cut u 0 (marks_start s)) (32 + 33 * q) 32 ≡ cut u (32 + 33 * q) 32 = λ u. cut_cut u 0 (marks_start s) (32 + 33 * q) 32 (unfold marks_start in omega arith) ∙ ap (λ (y : ℕ). cut u y 32) e in
      sym (g (marks_put s i n x)) ∙ ap (λ (u : List ℕ). cut u (32 + 33 * q) 32) (marks_cells s f i n x fits) ∙ g s

module _ (s b : List ℕ) (at m : ℕ) (f : Facts s) (g : marks_good (blocks_of s) b at m ≡ true) where
  pub marks_set_cells : (k : ℕ) → k ≤ m → (q : ℕ) → q < positions (height_of s) → (held_at (marks_set s b at k) q ≡ held_at s q) × (hash_at (marks_set s b at k) q ≡ hash_at s q)
  marks_set_cells zero l q b2 = rw (marks_set_none s b at) (refl, refl)
  marks_set_cells (suc k) l q b2 =
      let w = marks_set_same s b at m f g k (omega arith) in
      let r = marks_set_cells k (omega arith) q b2 in
      let x = (mark_says (blocks_of s) b at k (mark_at (blocks_of s) b at m g k (omega arith))).inside in
      let fits : block_in b at k + 1 ≤ 2 ^ height_of (marks_set s b at k) = mark_fits (marks_set s b at k) w.facts (block_in b at k) (rw w.same.blocks x) in
      let b3 : q < positions (height_of (marks_set s b at k)) = rw w.same.layers b2 in
      rw (marks_set_next s b at k)
      (held_apart (marks_set s b at k) w.facts (block_in b at k) 1 marked fits q b3 ∙ r.0, hash_apart (marks_set s b at k) w.facts (block_in b at k) 1 marked fits q b3 ∙ r.1)

  -- a block is marked then if it was, or is one of the first k
  pub marks_set_exactly : (k : ℕ) → k ≤ m → (j : ℕ) → (marked_at (marks_set s b at k) j ≡ true) ↔ ((marked_at s j ≡ true) ⊎ ((i : ℕ) × (i < k) × (block_in b at i ≡ j)))
  marks_set_exactly zero l j =
      rw (marks_set_none s b at) (λ x. inl x, λ x. elim x [ inl y ↦ y | inr y ↦ absurd (omega (arith, y.1)) ])
  marks_set_exactly (suc k) l j =
      let w = marks_set_same s b at m f g k (omega arith) in
      let r = marks_set_exactly k (omega arith) j in
      let x = (mark_says (blocks_of s) b at k (mark_at (blocks_of s) b at m g k (omega arith))).inside in
      let fits : block_in b at k + 1 ≤ 2 ^ height_of (marks_set s b at k) = mark_fits (marks_set s b at k) w.facts (block_in b at k) (rw w.same.blocks x) in
      rw (marks_set_next s b at k)
      (elim (ℕ_discrete (block_in b at k) j) [
        | yes e ↦ (λ y. inr (k, omega arith, e), λ y. marked_in (marks_set s b at k) w.facts (block_in b at k) 1 marked fits j (omega arith) (omega arith))
        | no ne ↦
            let o = marked_out (marks_set s b at k) w.facts (block_in b at k) 1 marked fits j (elim (dec_lt j (block_in b at k)) [ yes a ↦ inl a | no a ↦ inr (omega arith) ]) in (
              λ y. elim (r.0 (sym o ∙ y)) [ inl z ↦ inl z | inr z ↦ inr (z.0, omega (arith, z.1), z.2) ],
              λ y. o ∙ r.1 (elim y [ inl z ↦ inl z | inr z ↦ inr (z.0, below z.0 z.1 z.2 ne, z.2) ]),
            )
      ])
    where
      below : (i : ℕ) → i < suc k → block_in b at i ≡ j → (block_in b at k ≡ j → ⊥) → i < k
      below i lt e ne = elim (ℕ_discrete i k) [ yes q ↦ absurd (ne (ap (block_in b at) (sym q) ∙ e)) | no x ↦ omega arith ]

-- ---- the loaded store

module _ (s b : List ℕ) (z : opening_number (length s) b ≡ 0) (g : sound b ≡ true) where
  opens : Opens (length s) b
  opens = opening_says (length s) b z

  tests : (formed b ≡ true) × (root_right (height_in b) b ≡ true) × (chained (height_in b) (blocks_in b) b ≡ true)
  unfolding sound
  tests =
      let x = (and-eq-true_iff (formed b && root_right (height_in b) b) (chained (height_in b) (blocks_in b) b)).0 g in
      let y = (and-eq-true_iff (formed b) (root_right (height_in b) b)).0 x.0 in
      (y.0, y.1, x.1)

  form : FormIn b
  form = form_says b tests.0

  long : 45 + 41 * place_count b ≤ length b
  long = omega (arith, form.size)

  last : RootLast (height_in b) b
  last = root_says (height_in b) b tests.1

  some : 1 ≤ blocks_in b
  some = block_count_some (length_in b) (range_says (length_in b) (piece_length_in b) opens.range).0

  -- the positions that the bytes name meet the clauses
  pub loaded_clauses : Clauses (height_in b) (blocks_in b) (root_in b) (Placed b (place_count b))
  loaded_clauses = (sound_exactly (height_in b) (blocks_in b) b some form.places).0 (tests.1, tests.2)

  entries_all : Sound (positions (height_in b)) (entries_in (height_in b) b (place_count b))
  entries_all = entries_sound (height_in b) (blocks_in b) b (place_count b) form.places long (place_count b) (omega arith)

  -- each record is held
  record_held : (k : ℕ) → k < place_count b → Hold (second s b opens form) (node_number (height_in b) (layer_in b k) (index_in b k)) (hash_in b k)
  unfolding second
  record_held k l =
      entries_held (positions (height_in b)) (entries_in (height_in b) b (place_count b)) (first s b opens form) (first_room s b opens form) entries_all
      (entries_consistent (height_in b) (blocks_in b) b (place_count b) form.places long)
      (record { at = node_number (height_in b) (layer_in b k) (index_in b k); hash = hash_in b k })
      (entry_of (height_in b) (blocks_in b) b (place_count b) form.places long (place_count b) k l)

  root_record : (layer_in b (place_count b - 1) ≡ height_in b) × (index_in b (place_count b - 1) ≡ 0)
  root_record =
      record_at (height_in b) (blocks_in b) b (place_count b) form.places (place_count b - 1) (height_in b) 0 (omega (arith, last.some)) (omega arith) (pow_pos (height_in b - height_in b))
      (omega (arith, last.rank, rank_root (height_in b)))

  first_alone : (q : ℕ) → 1 ≤ q → q < positions (height_in b) → held_at (first s b opens form) q ≡ true → q ≡ 1
  unfolding first
  first_alone q a l h =
      eqb-true q 1 (sym (opened_held s (length_in b) (piece_length_in b) (root_in b) opens.range opens.room (root_long b opens.whole) q a l) ∙ h)

  -- what is held is a record
  held_record : (l i : ℕ) → l ≤ height_in b → i < 2 ^ (height_in b - l) → held_at (second s b opens form) (node_number (height_in b) l i) ≡ true
      → (k : ℕ) × (k < place_count b) × (layer_in b k ≡ l) × (index_in b k ≡ i)
  unfolding second
  held_record l i lh ib h =
      let r = node_number_range (height_in b) l i ib in
      let lq : node_number (height_in b) l i < positions (height_in b) = unfold positions in r.1 in
      elim (held_or_entry (positions (height_in b)) (entries_in (height_in b) b (place_count b)) (first s b opens form) (first_room s b opens form) entries_all (node_number (height_in b) l i) h) [
        | inl x ↦
            let e = first_alone (node_number (height_in b) l i) r.0 lq x in
            let w = node_number_distinct (height_in b) l i (height_in b) 0 lh (omega arith) ib (pow_pos (height_in b - height_in b)) (e ∙ sym (node_number_root (height_in b))) in
            (place_count b - 1, omega (arith, last.some), root_record.0 ∙ sym w.0, root_record.1 ∙ sym w.1)
        | inr o ↦
            let w = entries_are (height_in b) (blocks_in b) b (place_count b) form.places long (place_count b) (record { at = node_number (height_in b) l i; hash = o.0 }) o.1 in
            by l i lh ib w.j w.low w.number
      ]
    where
      by : (l i : ℕ) → l ≤ height_in b → i < 2 ^ (height_in b - l) → (j : ℕ) → j < place_count b → node_number (height_in b) l i ≡ node_number (height_in b) (layer_in b j) (index_in b j)
          → (k : ℕ) × (k < place_count b) × (layer_in b k ≡ l) × (index_in b k ≡ i)
      by l i lh ib j lj e =
          let p = Rattle.saved.proofs.SoundLaws.place_says (height_in b) b j (Rattle.saved.proofs.SoundLaws.place_at (height_in b) b (place_count b) form.places j lj) in
          let w = node_number_distinct (height_in b) l i (layer_in b j) (index_in b j) lh p.low ib p.inside e in
          (j, lj, sym w.0, sym w.1)

  second_layers : positions (height_of (second s b opens form)) ≡ positions (height_in b)
  second_layers = ap positions ((second_same s b opens form).layers ∙ first_height s b opens form)

  cells_kept : (q : ℕ) → q < positions (height_in b) → (held_at (loaded s b) q ≡ held_at (second s b opens form) q) × (hash_at (loaded s b) q ≡ hash_at (second s b opens form) q)
  unfolding loaded first second
  cells_kept q l =
      marks_set_cells (second s b opens form) b (marks_from b) (mark_count b) (second_facts s b opens form) (second_marks s b opens form) (mark_count b) (omega arith) q (rw second_layers l)

  -- HELD EXACTLY IF NAMED
  pub loaded_exactly : (l i : ℕ) (v : List ℕ) → l ≤ height_in b → i < 2 ^ (height_in b - l) → Hold (loaded s b) (node_number (height_in b) l i) v ↔ Placed b (place_count b) l i v
  loaded_exactly l i v lh ib = (to, from)
    where
      lq : node_number (height_in b) l i < positions (height_in b)
      lq = unfold positions in (node_number_range (height_in b) l i ib).1

      to : Hold (loaded s b) (node_number (height_in b) l i) v → Placed b (place_count b) l i v
      to H =
          let c = cells_kept (node_number (height_in b) l i) lq in
          let r = held_record l i lh ib (sym c.0 ∙ H.0) in
          let R = record_held r.0 r.1 in
          let e : node_number (height_in b) (layer_in b r.0) (index_in b r.0) ≡ node_number (height_in b) l i = ap₂ (node_number (height_in b)) r.2 r.3 in
          record { k = r.0; low = r.1; layer = r.2; index = r.3; hash = sym R.1 ∙ ap (hash_at (second s b opens form)) e ∙ sym c.1 ∙ H.1 }

      from : Placed b (place_count b) l i v → Hold (loaded s b) (node_number (height_in b) l i) v
      from X =
          let c = cells_kept (node_number (height_in b) l i) lq in
          let R = record_held X.k X.low in
          let e : node_number (height_in b) (layer_in b X.k) (index_in b X.k) ≡ node_number (height_in b) l i = ap₂ (node_number (height_in b)) X.layer X.index in
          (c.0 ∙ ap (held_at (second s b opens form)) (sym e) ∙ R.0, c.1 ∙ ap (hash_at (second s b opens form)) (sym e) ∙ R.1 ∙ X.hash)
